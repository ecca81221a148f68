-- Where the clauses are proved. A function that isn't named here needs no lemma.
--   inner, and counts of all children           AddedChildren: one_more; ChildlessLeaves: whole_more
--   has_diagnostics                             Marks: have_more, has_same, has_synthesized, have_kind
--   drop                                        Fewer: most-swap_remove
--   try_clone                                   Copies: way_down, way_up, copied, copied_back
--   the texts of an error                       Waiting: opened, closed
--   spanless_eq                                 SpansAside: parts_from_bare, bare_from_parts, same_at, same_but
--   synthesize                                  LastChild: mapped_more, mapped_all; Forests: forest_synthesized; ChildlessLeaves: whole_synthesized
--   convert_child_to_kind                       Forests: forest_set, at_tree_past; ChildlessLeaves: whole_kind
--   numberize: its numbers                      LastChild: counted_more, counted_all; Numbering: next_at, next_fits, numbered_more, numbered_vec
--   numberize: the same tree, spans aside       Numbering: numbered_bare, text_numbered, nodes_numbered
--   numberize: distinct and in order            NumbersInOrder: numbered_is, numbers_in_order
--   counts of nodes (len, descendants, ..)      Numbering: nodes_at, some_nodes, count_bare
--   reaches, and the path of replace_at         PutAt: reaches_there, reaches_from; StepDown: replaced_on
--   replace_at along a long path                PutAt: put_moved, replaced_back, put_back, refused_there
--   replace_at: equal ones set aside            SameTree: front_more, front_none; SetAside
--   replace_at: the stretch that is numbered    Growth: growth_found, growth_ends; Stretches: growth_has_room, cut
--   replace_at: its counts and its mark         MovedCounts: swapped_moved, set_moved; Marks: swapped_marks, set_marks
--   the marks along a long path                 PathMarks: put_marked, swapped_mark, level_on
--   replace_at: clause ordered, law keeps_order KeepsOrder: keeps_order
--   law replaces_children, law replaces_text    ReplacesChildren: replaces_children, replaces_text
--   law keeps_others                            KeepsOthers: replaced_keeps; AlongPath: along
--   law refuses_full                            RefusesFull: replaced_full; AlongPath: refused_along
-- Texts and Numbering serve the crates above.
pub mod AddedChildren
pub mod AlongPath
pub mod ChildlessLeaves
pub mod Copies
pub mod Fewer
pub mod Forests
pub mod Growth
pub mod KeepsOrder
pub mod KeepsOthers
pub mod LastChild
pub mod Marks
pub mod MovedCounts
pub mod Numbering
pub mod NumbersInOrder
pub mod PathMarks
pub mod PutAt
pub mod RefusesFull
pub mod ReplacesChildren
pub mod SameTree
pub mod SetAside
pub mod SpansAside
pub mod StepDown
pub mod Stretches
pub mod Texts
pub mod Waiting
-- Where the clauses are proved. A function that isn't named here needs no lemma.
--   get, range, children                 NodesOfStretch: node_here, stands_row; WalksInPreorder: length_places
--   LinkedChildren::next                 NodesOfStretch: row, stands_same
--   LinkedChildren::from_boundary        Boundaries: stands_behind, left_behind
--   Boundary                             Boundaries: rear, onward, backward
--   the place in a long row              Forks: holds_behind, open_child, placed_first, tops, ends_by
--   parent                               Parents: parent_is; Branches: above_is, no_parent
--   next_sibling                         Siblings: find_past; Branches: behind_above; Rows: beside
--   next_leaf, leftmost_leaf             FoundFrom: found_in, from_on, from_below; PassesOver; Branches: leaf_found, leaf_not_found, over_above
--   leaf_at                              PassesOver: byte_first, byte_next, byte_below, byte_none
--   prev_leaf                            LastLeaf: back; LastFrom: last_in, last_lift, last_past; FoundBelow: itself, above, joined; Forks: holds_joined; Rows: step_back; Branches: until_here, until_top
--   find: a node finds itself            FindsOwnSpan: finds_own
--   find, find_number from `ordered`     RisingNumbers: none_past, found_only
--   is_ordered                           OrderBelow: nodes_within, order_own, order_child, order_node_but
--   Preorder                             LeftRows; next_diagnosed: diagnosed_next, diagnosed_same
-- For crates above: Boundaries: shared; Inside; LastLeaf: last_append, last_none; PassesOver: no_child_before, no_child_after; RisingNumbers: rising_from; SingleNodes; WalksInPreorder.
pub mod Boundaries
pub mod Branches
pub mod Cited
pub mod FindsOwnSpan
pub mod Forks
pub mod FoundBelow
pub mod FoundFrom
pub mod Inside
pub mod LastFrom
pub mod LastLeaf
pub mod LeftRows
pub mod NodesOfStretch
pub mod OrderBelow
pub mod Parents
pub mod PassesOver
pub mod RisingNumbers
pub mod Siblings
pub mod Rows
pub mod SingleNodes
pub mod WalksInPreorder

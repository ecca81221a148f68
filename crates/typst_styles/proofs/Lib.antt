-- From what a contract promises to the lemma behind it:
--   edit_between                                DataEditsMade: made_by_ends, front_differs
--   add_lines                                   TokenLines: lines_ended, lines_going
--   line_tokens                                 TokenLines: stretch-added
--   semantic_tokens: clause ordered             TokenOrder: stretches-ordered, touching-ordered, merged-ordered
--   Row::pass_to                                SoughtRows: whole_is, on_is; SoughtSteps: from_near, by TokensTouching: row_from
--   Row: take, pass                             SoughtRows: takes; passes, left_after; fewer
--   Row::seek                                   SoughtSteps: sought, sought_fewer; skipped, over, by TokensTouching: node_ended, row_begun
--   enter, take_next, tokens_near               SoughtSteps: entered; taken, dropped; begun, popped_left, popped_rows, popped_steps
--   tokens_near: the root                       SoughtRows: top_is; top_tokens, by TokensByNode: by_node
--   token_window                                WindowEdges: begins_before, window_is
--   nodes_before                                WindowEdges: ended
--   last_edge, edge_after                       WindowEdges: bytes_with; begins_one; ends_one
--   window_law                                  WindowTokens: window_law, by what these say:
--     the children, spans aside                 EditedKids: edited; at_front, at_end
--     the tokens, as a walk meets them          TokensByWalk: all_shown; shown_bare: spans aside
--     those on each side of an edge             TokensApart: shown_before, shown_after
--     those on each side of a line's start      TokenSeams: parted_at, split; merged_moved
--   renewed_tokens                              RenewedTokens: renewed
--   TokenList::replaced, count_before           TokenLists: list_replaced; parts_early, parts_late
--   count_before, count_moved                   RenewedTokens: parting, parted
--   token_at, settle                            TokenLists: token_settled, token_moved; settled_some
--   read_by_both                                JoinedEdits: of_both, by EditedKids: edited, parted
--   tokens_outside                              RenewedTokens: outside
-- For `typst_server`: tokens_ordered, window_shift of RenewedTokens; sides of WindowSides.
pub mod Cited
pub mod EachToken
pub mod DataEditsMade
pub mod SoughtRows
pub mod SoughtSteps
pub mod TokenLines
pub mod TokenOrder
pub mod TokensByNode
pub mod TokensTouching
pub mod TokenSeams
pub mod TokensApart
pub mod TokensByWalk
pub mod EditedKids
pub mod JoinedEdits
pub mod WindowEdges
pub mod WindowTokens
pub mod RenewedTokens
pub mod TokenLists
pub mod WindowSides

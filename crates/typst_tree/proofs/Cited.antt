-- The names that many of these proofs cite, passed on from one place. Declares nothing.
pub use Rattle.std.proofs.Common.{Bool, Bor, IsTrue, List, None, OnErr, Option, Result, Some, [], add-one, ap, append-nil, append_assoc, arith, cond, drop, drop_of_length-le, eq-eqb, false, get_or, get_or-set_other, get_or-set_same, if◌then◌else◌, inl, inr, length, length-append, length-drop, length-take-le, map, max, min, nat_lt, refl, reverse, rules, slice_get, slice_index_or, slice_set, subst, suc, sym, take, true, vec_len, zero, ℕ, ◌&&◌, ◌*◌, ◌++◌, ◌+◌, ◌-◌, ◌/◌, ◌<◌, ◌==◌, ◌^◌, ◌||◌, ◌∙◌, ◌∷◌, ◌≡◌, ◌≢◌, ◌≤◌}
pub use Rattle.std.proofs.Math.ListN.{get_or-map, length-set, set}
pub use Rattle.std.proofs.Math.Nat.{mul-le-mul_left, mul-le-mul_right}
pub use Rattle.std.proofs.Math.Seq.{drop-append-add, drop-append_seam, take-add, take-append-add, take-append_seam, take-length}
pub use Rattle.std.proofs.lemmas.Bool.{and_parts, and_right, cases_Bool, cases_eq, cases_lt, false_from_ne_true, or_parts, or_right}
pub use Rattle.std.proofs.lemmas.Bool.Decides.{nat_tests}
pub use Rattle.std.proofs.lemmas.Grind.{common_steps}
pub use Rattle.std.proofs.lemmas.List.{drop-append-le, drop_all, drop_at, drop_more, get_or-reverse, get_or_default, length-map, length-reverse, map-append, map-id, map-set, set-get_or, set_split, take-append-drop, take-append-le, take-map, take-take, take_all, take_at, take_more, take_rest, with_items_is}
pub use Rattle.std.proofs.lemmas.List.Elements.{All-cons, filter-append}
pub use Rattle.std.proofs.lemmas.List.Folds.{drop_split}
pub use Rattle.std.proofs.lemmas.List.Kept.{AllPairs-cons}
pub use Rattle.std.proofs.lemmas.Option.{get_or_from_slice_get, none-some, same_Some, slice_get_past, slice_get_read, slice_get_within}
pub use Rattle.std.specs.List.{list_any, swap_remove}
pub use Rattle.std.specs.Prelude.{All, AllPairs, IfErr, IfSome, IsSome, OnOk, find, insert, is_err, nat_le, option_and_then, option_map, option_to_list, remove, slice_range, unwrap_or}
pub use denote.Param.Weighed.{at_most, most}
pub use native.Mathlib.Numerals.{unary_clauses}
pub use Rattle.typst_kinds.specs.Head.{Head, Own, bare_head, has_any, kept, spanned}
pub use Rattle.typst_kinds.specs.Kinds.{is_error}
pub use Rattle.typst_kinds.specs.Span.{SpanValue, number_of}
pub use Rattle.typst_kinds.specs.declared.kind.SyntaxKind.{SyntaxKind}
pub use Rattle.typst_tree.specs.Boundaries.{AreCounted, IsBoundary}
pub use Rattle.typst_tree.specs.Branches.{EndsBy, IsAbove, leaf_after, leaf_until}
pub use Rattle.typst_tree.specs.Follows.{Follows, Joins, in_order_of, index_of, reach_of}
pub use Rattle.typst_tree.specs.Found.{FindsLast, IsBelow, IsBelowChild, IsUnder, last_of}
pub use Rattle.typst_tree.specs.Laws.{Along, AtPath, IsFull, Keeps, touched, touched_by}
pub use Rattle.typst_tree.specs.LeftRows.{IsAtMarked, IsReady, left, left_above}
pub use Rattle.typst_tree.specs.Linked.{linked}
pub use Rattle.typst_tree.specs.Looked.{FoundFrom, IsIn, first_of}
pub use Rattle.typst_tree.specs.Numbers.{numbered, numbered_forest, numbered_list, placed, stride}
pub use Rattle.typst_tree.specs.Order.{AreInOrder, IsNumbered, IsOrdered, IsWhole, IsWholeForest, numbers_of, upper_at}
pub use Rattle.typst_tree.specs.Ordered.{IsKey, begins_past, number_at}
pub use Rattle.typst_tree.specs.Passed.{IsPassed}
pub use Rattle.typst_tree.specs.Preorder.{Visited, below, diagnosed, is_diagnosed, is_marked, marked, row, visited, walk}
pub use Rattle.typst_tree.specs.Replace.{At, ComesTo, IsFit, Reaches, back, exchanged, fit, growth, has_room, have_others, in_file, is_all, kids_of, levels_above, marked_levels, middle, node_at, put_at, renumbered, replaced, replaced_at, stretch, swapped, with_kids}
pub use Rattle.typst_tree.specs.Rows.{Holds, IsChild, IsFork, IsOpen, IsPlaced, long}
pub use Rattle.typst_tree.specs.Same.{front, same_code}
unfoldable pub use Rattle.typst_tree.specs.Same.{same_tree}
pub use Rattle.typst_tree.specs.Steps.{at, children, first_below, is_sibling_after, node_of, parent}
pub use Rattle.typst_tree.specs.Tree.{Forest, Tree, advised, all_advised, at_child, at_tree, bare, bare_forest, count, forest, has_diagnostics, have_diagnostics, joined, more, nodes, none, places, preorder, saturated, synthesized, text_of, tree_code, trees, with_each, with_kind}
pub use Rattle.typst_tree.specs.Walks.{Stands, Within, first_at, has_child, has_span, holds_byte, if_none, is_childless, is_leaf, is_leaf_from, last_leaf, numbers, same_place, texts}
pub use Rattle.typst_tree.specs.Wanted.{wanted}
pub use Rattle.typst_tree.specs.declared.back.Found.{Found}
pub use Rattle.typst_tree.specs.declared.known.Known.{Known}
pub use Rattle.typst_tree.specs.declared.linked.LinkedNode.{LinkedNode}
pub use Rattle.typst_tree.specs.declared.replace.Counts.{Counts}
pub use Rattle.typst_tree.specs.declared.replace.Stretch.{Stretch}

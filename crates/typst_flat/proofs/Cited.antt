-- The names that many of these proofs cite, passed on from one place. Declares nothing.
pub use Rattle.std.proofs.Common.{Bool, List, None, Option, Some, [], ap, append-nil, append_assoc, arith, cond, drop, false, get_or, inl, inr, length, length-append, length-take, map, refl, set, slice_get, slice_index_or, subst, suc, sym, take, true, zero, ℕ, ◌++◌, ◌+◌, ◌-◌, ◌<◌, ◌^◌, ◌∙◌, ◌∷◌, ◌≡◌, ◌≤◌}
pub use Rattle.std.proofs.lemmas.Bool.Decides.{nat_tests}
pub use Rattle.std.proofs.lemmas.List.{length-map, map-append, reverse-append, take-set, take_all, take_more, take_more_set}
pub use Rattle.std.proofs.lemmas.List.Concat.{flat_map-append}
pub use Rattle.std.specs.List.{filter, flat_map, range_with_len}
pub use Rattle.std.specs.Prelude.{reverse, vec_len}
pub use Rattle.typst_flat.specs.Codes.{cut, fixed_code, flags_of, tag_code}
pub use Rattle.typst_flat.specs.Placed.{AreReady, Course, EndsIn, IsBehind, IsFilled, IsNarrow, IsPlaced, IsSmall, IsSought, Moves, Passes, RowFits, Stays, course}
pub use Rattle.typst_flat.specs.Records.{all_of, filled, meets, met_in, node_record, number_if, records, records_in}
pub use Rattle.typst_flat.specs.Said.{IsWritten, Saying, diagnostic_of, end_in, hint_of, joined, remark_at, remarks_from, said_by, said_of, severity_code, start_in}
pub use Rattle.typst_flat.specs.Walk.{Comes, IsAt, IsReady, RowStands, Takes, ahead, ahead_from, rows, up_number}
pub use Rattle.typst_flat.specs.declared.placed.PlacedNode.{PlacedNode}
pub use Rattle.typst_flat.specs.declared.records.Remark.{Remark}
pub use Rattle.typst_flat.specs.declared.records.Stretch.{Stretch}
pub use Rattle.typst_flat.specs.declared.walk.Row.{Row}
pub use Rattle.typst_highlight.proofs.Rows.{Stand, alone, behind, below, here, parent_here, starts}
pub use Rattle.typst_highlight.specs.Rules.{is_dot, is_name, rule_of}
pub use Rattle.typst_highlight.specs.Spans.{numbers_from}
pub use Rattle.typst_highlight.specs.Tags.{all_tags}
pub use Rattle.typst_highlight.specs.Walk.{tree_of, waiting}
pub use Rattle.typst_highlight.specs.declared.progress.Waiting.{Waiting}
pub use Rattle.typst_kinds.proofs.Places.{got, numbered}
pub use Rattle.typst_kinds.specs.Diagnostic.{Diagnostic, Hint}
pub use Rattle.typst_kinds.specs.Head.{Head}
pub use Rattle.typst_kinds.specs.Kinds.{is_error}
unfoldable pub use Rattle.typst_kinds.specs.Members.{place_of}
pub use Rattle.typst_kinds.specs.declared.kind.SyntaxKind.{SyntaxKind}
pub use Rattle.typst_tree.proofs.Boundaries.{kids_are, nodes_below}
pub use Rattle.typst_tree.proofs.WalksInPreorder.{length_places, length_preorder, texts_append, texts_places}
pub use Rattle.typst_tree.specs.Boundaries.{IsBoundary}
pub use Rattle.typst_tree.specs.Linked.{left, linked}
pub use Rattle.typst_tree.specs.Steps.{At, at, children, end_of, kind_of, node_of, offset_of, parent, prev_leaf, start_of}
pub use Rattle.typst_tree.specs.Tree.{Forest, Tree, count, forest, has_diagnostics, more, nodes, none, places, preorder, saturated}
pub use Rattle.typst_tree.specs.Walks.{is_childless, is_leaf, numbers, texts}

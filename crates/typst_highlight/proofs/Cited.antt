-- The names that many of these proofs cite, passed on from one place. Declares nothing.
pub use Rattle.std.proofs.Common.{Bool, List, None, Option, Result, Some, [], ap, append-nil, append_assoc, arith, cond, drop, false, get_or, inl, inr, length, length-append, length-drop, map, not, refl, rules, slice_index_or, subst, suc, sym, take, take-suc-set, true, zero, ℕ, ◌&&◌, ◌*◌, ◌++◌, ◌+◌, ◌-◌, ◌<◌, ◌==◌, ◌^◌, ◌||◌, ◌∙◌, ◌∷◌, ◌≡◌, ◌≤◌}
pub use Rattle.std.proofs.Math.Seq.{take-append-add, take-append_seam}
pub use Rattle.std.proofs.lemmas.Bool.Decides.{nat_tests}
pub use Rattle.std.proofs.lemmas.Grind.{common_steps}
pub use Rattle.std.proofs.lemmas.List.{drop_more, get_or-drop, length-take-le, reverse-append, take-append-drop, take-append-le, take_all, take_more}
pub use Rattle.std.proofs.lemmas.Str.{IsCharBoundary-after_ascii, IsCharBoundary-start, IsUtf8-append, IsUtf8-from_ascii, IsUtf8-nil}
pub use Rattle.std.specs.List.{list_any, slice_range}
pub use Rattle.std.specs.Option.{IfSome, is_some, option_map}
pub use Rattle.std.specs.Prelude.{codes, find, nat_le, nat_lt, option_and_then, reverse, slice_get, slice_set, unwrap_or}
pub use Rattle.std.specs.Str.{IsCharBoundary, IsUtf8}
pub use Rattle.typst_highlight.specs.Edges.{begins_plain, is_edge, is_plain}
pub use Rattle.typst_highlight.specs.Html.{escaped, escaped_byte, html_of, opening, plain, read, row_html, span_end, span_start, spanned}
pub use Rattle.typst_highlight.specs.Names.{first_tag, is_called, kind_ahead, name_alone}
pub use Rattle.typst_highlight.specs.Nodes.{access, described, earlier_name, expression_leaf, from_or, kind_before, kind_if, leaf_of, name_before, name_tag, named, outermost, surroundings, tag_by, tag_of, tag_within}
pub use Rattle.typst_highlight.specs.Rules.{equals_tag, is_dot, is_field_access, is_name, paren_tag, rule_of, slash_tag, star_tag, term_tag, underscore_tag}
pub use Rattle.typst_highlight.specs.Stretches.{AreJoined, row_stretches, stretch, stretches}
pub use Rattle.typst_highlight.specs.Walk.{Found, Marks, Outlet, ahead_of, around, behind_dot, end, expression_at, first_ahead, first_leaf, flat, forest_html, found, holds_leaf, html, if_found, is_followed, joined, lead, left, lister, name, next_kind, next_leaf, node_html, outer_around, outer_lead, outer_within, own, passed, passed_row, passed_rows, past, returned, returns, root_context, size, step, steps, tag, tag_at, tag_here, tag_under, tagger, tree_of, waiting, walked, walked_row, within}
pub use Rattle.typst_highlight.specs.declared.context.Ahead.{Ahead}
pub use Rattle.typst_highlight.specs.declared.context.Context.{Context}
pub use Rattle.typst_highlight.specs.declared.context.Outer.{Outer}
pub use Rattle.typst_highlight.specs.declared.context.Trail.{Trail}
pub use Rattle.typst_highlight.specs.declared.progress.Waiting.{Waiting}
pub use Rattle.typst_highlight.specs.declared.rules.Rule.{Rule}
pub use Rattle.typst_highlight.specs.declared.tags.Tag.{Tag}
pub use Rattle.typst_highlight.specs.declared.walk.Row.{Row}
pub use Rattle.typst_kinds.specs.Head.{Head}
pub use Rattle.typst_kinds.specs.Kinds.{is_hash_expr, is_trivia}
unfoldable pub use Rattle.typst_kinds.specs.Members.{place_of}
pub use Rattle.typst_kinds.specs.declared.kind.SyntaxKind.{SyntaxKind}
pub use Rattle.typst_tree.proofs.LastLeaf.{last_append, last_none}
pub use Rattle.typst_tree.proofs.WalksInPreorder.{first_append, length_places, none_between, texts_append, texts_places}
pub use Rattle.typst_tree.specs.Linked.{linked}
pub use Rattle.typst_tree.specs.Steps.{At, at, children, is_sibling_after, kind_of, leftmost_leaf, next_sibling, node_of, offset_of, parent, prev_leaf, start_of}
pub use Rattle.typst_tree.specs.Tree.{Forest, Tree, count, forest, more, nodes, none, places, preorder, saturated, text_of}
pub use Rattle.typst_tree.specs.Walks.{first_at, has_child, if_none, is_childless, is_leaf, is_leaf_from, last_leaf, numbers, texts}

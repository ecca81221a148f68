-- The names that many of these proofs cite, passed on from one place. Declares nothing.
pub use Rattle.std.proofs.Common.{Bool, List, None, Option, Some, [], add-one, ap, append-nil, append_assoc, arith, drop, drop-cons, drop_at, false, get_or, inl, inr, length, length-append, length-drop, length-take, length-take-le, map, max, nat_lt, refl, rules, subst, suc, sym, take, take_at, true, zero, ℕ, ◌%◌, ◌++◌, ◌+◌, ◌-◌, ◌<◌, ◌==◌, ◌^◌, ◌∙◌, ◌∷◌, ◌≡◌, ◌≢◌, ◌≤◌, ◌⊎◌}
pub use Rattle.std.proofs.Math.Seq.{drop-append-add, drop-append_seam, take-append-add, take-append_seam}
pub use Rattle.std.proofs.lemmas.Bool.{cases_lt, cond_both, leb-true, ltb-false, ltb-true}
pub use Rattle.std.proofs.lemmas.Bool.Decides.{leb_tells, nat_tests}
pub use Rattle.std.proofs.lemmas.List.{drop-append-le, drop-drop, drop-map, drop_all, get_or-drop, get_or-take, length-map, map-append, map-id, take-append-drop, take-append-le, take-map, take-take, take_all, take_more, take_rest}
pub use Rattle.std.proofs.lemmas.List.Sorted.{IsPartitionPoint-from_clause, IsPartitionedBy-ltb}
pub use Rattle.std.specs.Prelude.{MatchOption, min, nat_le, slice_get, slice_range}
pub use Rattle.std.specs.declared.ops.Range.{Range}
pub use Rattle.typst_highlight.proofs.BareRows.{bare_later, bare_leaf, bare_tag, bare_within}
pub use Rattle.typst_highlight.proofs.BeforeEdges.{IsApart, IsEdge, before_edge, edge}
pub use Rattle.typst_highlight.proofs.Outlets.{joined_root}
pub use Rattle.typst_highlight.proofs.Rows.{alone, here}
pub use Rattle.typst_highlight.specs.Edges.{begins_plain, is_edge}
pub use Rattle.typst_highlight.specs.Html.{spanned}
pub use Rattle.typst_highlight.specs.Names.{first_tag}
pub use Rattle.typst_highlight.specs.RootEdits.{bytes_of, first_bytes, last_bytes}
pub use Rattle.typst_highlight.specs.Walk.{passed, past, root_context, tag, tree_of, within}
pub use Rattle.typst_highlight.specs.declared.stretches.Tagged.{Tagged}
pub use Rattle.typst_highlight.specs.declared.tags.Tag.{Tag}
pub use Rattle.typst_kinds.specs.Head.{Head, bare_head}
pub use Rattle.typst_names.specs.Bytes.{behind, inner}
pub use Rattle.typst_names.specs.Contexts.{after, below, role_of}
pub use Rattle.typst_names.specs.Names.{is_end}
pub use Rattle.typst_names.specs.RoleRows.{steps}
pub use Rattle.typst_names.specs.Roles.{roles}
pub use Rattle.typst_names.specs.declared.contexts.Context.{Context}
pub use Rattle.typst_names.specs.declared.contexts.Role.{Role}
pub use Rattle.typst_styles.specs.Renewed.{AreOutside, AreRenewed, IsOutside, IsParted, begun_before, begun_from, carried, replaced, wrapped}
pub use Rattle.typst_styles.specs.Seeking.{AreRows, Below, IsFewer, IsRow, IsSpot, IsTop, IsWhole, Opens, Passes, Seeks, Skips, Standing, Takes, first_number, left_of, left_of_all, node, number, of_first, of_spot, own, row, steps_all, steps_left, tag_in}
pub use Rattle.typst_styles.specs.Styles.{style_of}
pub use Rattle.typst_styles.specs.Tokens.{AreOrdered, all_tokens, both, continues, end_of, ends_line, first_role, lines, merged, merged_after, stretch, stretches, token, tokens_in, touches, touching}
pub use Rattle.typst_styles.specs.Windows.{AreKept, BeginsEdge, BeginsOne, EndsEdge, EndsOne, FollowsFeed, HasEdge, InThree, IsEdit, IsLineAfter, IsOfBoth, IsWindow, StartsBefore, StartsBehind, Stays, moved, range_of}
pub use Rattle.typst_styles.specs.declared.renewed.Outside.{Outside}
pub use Rattle.typst_styles.specs.declared.seeking.Row.{Row}
pub use Rattle.typst_styles.specs.declared.seeking.Spot.{Spot}
pub use Rattle.typst_styles.specs.declared.styles.Style.{Style}
pub use Rattle.typst_styles.specs.declared.tokens.Token.{Token}
pub use Rattle.typst_tree.proofs.Boundaries.{kids_are}
pub use Rattle.typst_tree.proofs.Numbering.{joined_bare}
pub use Rattle.typst_tree.proofs.ReplacesChildren.{joined-append, start_le, text_bare}
pub use Rattle.typst_tree.specs.Boundaries.{AreCounted, IsBoundary}
pub use Rattle.typst_tree.specs.Linked.{left, linked}
pub use Rattle.typst_tree.specs.Tree.{Forest, Tree, bare, bare_forest, count, forest, joined, more, none, places, preorder, saturated, text_of, trees}
pub use Rattle.typst_tree.specs.Walks.{is_leaf, numbers}
pub use Rattle.typst_tree.specs.declared.boundary.Boundary.{Boundary}

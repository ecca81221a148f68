-- The names that many of these proofs cite, passed on from one place. Declares nothing.
pub use Rattle.std.proofs.Common.{Bool, List, None, Option, Some, [], ap, append-nil, append_assoc, arith, drop, false, filter, get_or, if◌then◌else◌, length, length-append, max, not, option_and_then, option_map, option_to_list, refl, reverse, rules, slice_get, sym, true, ℕ, ◌++◌, ◌+◌, ◌-◌, ◌<◌, ◌^◌, ◌||◌, ◌∙◌, ◌∷◌, ◌≡◌, ◌≢◌, ◌≤◌}
pub use Rattle.std.proofs.lemmas.Bool.{or_parts}
pub use Rattle.std.proofs.lemmas.Fn.{filter_same}
pub use Rattle.std.proofs.lemmas.Grind.{common_steps, flat_map-append}
pub use Rattle.std.proofs.lemmas.List.{drop_more, map-append, reverse-append, reverse-reverse}
pub use Rattle.std.proofs.lemmas.Str.Pattern.{strip_prefix_char, strip_suffix_char}
pub use Rattle.std.specs.Borrow.{Bor}
pub use Rattle.std.specs.List.{flat_map}
pub use Rattle.std.specs.Prelude.{MatchOption, map}
pub use Rattle.typst_features.specs.LabelRows.{left_all, steps_all}
pub use Rattle.typst_features.specs.Labels.{Mentioned, holding, is_label, is_markup, is_of, mentioned, mentions, name_range, of_name, row, without_first, without_last}
pub use Rattle.typst_features.specs.Problems.{about, node, own, reported}
pub use Rattle.typst_features.specs.Renames.{any_bound, bound_known, name_known, occurrence, put, put_for}
pub use Rattle.typst_features.specs.Shown.{Inside, hidden_to, own_in, row_in, shown_after, swallowed_to, swallows_to}
pub use Rattle.typst_features.specs.ShownRows.{left, steps_left, told}
pub use Rattle.typst_features.specs.declared.naming.Mention.{Mention}
pub use Rattle.typst_kinds.specs.Diagnostic.{Diagnostic}
pub use Rattle.typst_kinds.specs.Head.{Head, has_any}
pub use Rattle.typst_names.specs.Around.{HoldsIt, Standing, around_it, kid_at, standing}
pub use Rattle.typst_names.specs.Bytes.{behind, inner, range}
pub use Rattle.typst_names.specs.Selections.{around, different, holds}
pub use Rattle.typst_names.specs.declared.places.Placed.{Placed}
pub use Rattle.typst_tree.specs.Preorder.{Visited, diagnosed, walk}
pub use Rattle.typst_tree.specs.Tree.{Forest, Tree, forest, has_diagnostics, have_diagnostics, joined, more, nodes, none, saturated, text_of}

-- The names that many of these proofs cite, passed on from one place. Declares nothing.
pub use Rattle.std.proofs.Common.{Bool, List, None, Option, Some, [], ap, append-nil, append_assoc, arith, codes, drop, false, if◌then◌else◌, length, refl, rules, sym, true, ℕ, ◌++◌, ◌+◌, ◌-◌, ◌||◌, ◌∙◌, ◌∷◌, ◌≡◌, ◌≤◌}
pub use Rattle.std.specs.List.{flat_map, list_any}
pub use Rattle.std.specs.Prelude.{nat_lt, not, option_map}
pub use Rattle.std.specs.declared.ops.Range.{Range}
pub use Rattle.typst_fixes.specs.FixRows.{around, left, left_all, steps_all, steps_left}
pub use Rattle.typst_fixes.specs.Fixes.{Site, of_diagnostic, of_hint, row, stated, stated_of, takes_backslash}
pub use Rattle.typst_fixes.specs.Gaps.{end_of, is_kept, keeps, kind_of, path, within}
pub use Rattle.typst_fixes.specs.Wrapped.{begins_whole, ends_with_value, first_label, first_whole, is_atom, is_called, is_whole, label_of, last_value}
pub use Rattle.typst_kinds.specs.Kinds.{same}
pub use Rattle.typst_names.specs.Around.{Standing, kid_at, standing}
pub use Rattle.typst_names.specs.Bytes.{behind, inner, range}
pub use Rattle.typst_names.specs.declared.places.Placed.{Placed}
pub use Rattle.typst_tree.specs.Tree.{Forest, Tree, forest, has_diagnostics, have_diagnostics, more, nodes, none, trees}

-- The names that many of these proofs cite, passed on from one place. Declares nothing.
pub use Rattle.std.proofs.Common.{Bool, List, None, Option, Some, [], add-one, ap, append-nil, append_assoc, arith, drop, false, get_or, inl, inr, length, length-append, max, refl, rules, sym, take, true, ℕ, ◌++◌, ◌+◌, ◌-◌, ◌<◌, ◌^◌, ◌∙◌, ◌∷◌, ◌≡◌, ◌≤◌}
pub use Rattle.std.proofs.lemmas.Bool.Decides.{leb_tells, nat_tests}
pub use Rattle.std.proofs.lemmas.Grind.{common_steps}
pub use Rattle.std.proofs.lemmas.List.{drop_all, drop_more, take_more}
pub use Rattle.std.specs.Option.{option_or}
pub use Rattle.std.specs.Prelude.{IfSome}
pub use Rattle.typst_names.specs.Around.{kid_at}
pub use Rattle.typst_names.specs.Bytes.{behind, inner, range}
pub use Rattle.typst_names.specs.Meanings.{first_holding, hidden, hides, hides_up_to, if_ends, last_ending, last_hiding, means, name_at, stands_if, uses}
pub use Rattle.typst_names.specs.Modules.{all_go_on, last_from, last_place}
pub use Rattle.typst_names.specs.NameRows.{left, left_all, steps_all, steps_left}
pub use Rattle.typst_names.specs.Names.{held, is_end, names_in, own}
pub use Rattle.typst_names.specs.Roles.{roles, row}
pub use Rattle.typst_names.specs.Scopes.{is_nothing}
pub use Rattle.typst_names.specs.Selections.{around, holds}
pub use Rattle.typst_names.specs.declared.contexts.Role.{Role}
pub use Rattle.typst_names.specs.declared.parts.Part.{Part}
pub use Rattle.typst_names.specs.declared.scopes.Name.{Name}
pub use Rattle.typst_tree.specs.Tree.{Forest, Tree, count, forest, joined, more, nodes, none, saturated}

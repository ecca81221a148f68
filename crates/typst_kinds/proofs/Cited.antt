-- The names that many of these proofs cite, passed on from one place. Declares nothing.
pub use Rattle.std.proofs.Common.{Bool, List, Option, Some, [], ap, arith, bit_and, bit_or, eq-eqb, false, get_or, get_or-set_other, get_or-set_same, inl, inr, length, lit<, map, max, refl, rules, set, suc, sym, true, w64, zero, zero-add, ℕ, ◌%◌, ◌*◌, ◌+◌, ◌-◌, ◌/◌, ◌<◌, ◌==◌, ◌^◌, ◌||◌, ◌↔◌, ◌∙◌, ◌∷◌, ◌≡◌, ◌≢◌, ◌≤◌}
pub use Rattle.std.proofs.Math.ListN.{get_or-map}
pub use Rattle.std.proofs.lemmas.Bool.{cases_eq}
pub use Rattle.std.proofs.lemmas.Nat.{div-add-mod'}
pub use Rattle.std.proofs.lemmas.Nat.Bits.{bit_at-lt, bit_at_cat_low, bit_at_clear_other, bit_at_clear_same, bit_at_or, bit_at_set_other, bit_at_set_same, same_from_bits_below, shr_and_one}
pub use Rattle.std.proofs.lemmas.Option.{none-some, same_Some, slice_get-get_or, slice_get-map, slice_get_past, slice_get_within}
pub use Rattle.std.specs.Cmp.Lexicographic.{bytes_decides, pointwise}
pub use Rattle.std.specs.Int.{bit_at}
pub use Rattle.std.specs.Prelude.{nat_eq, option_copied, option_map, slice_get}
pub use Rattle.typst_kinds.specs.Diagnostic.{at_last, hinted}
pub use Rattle.typst_kinds.specs.Kinds.{among, same}
pub use Rattle.typst_kinds.specs.Members.{bit_of, kind_words, same_kinds}
unfoldable pub use Rattle.typst_kinds.specs.Members.{has, place_of}
pub use Rattle.typst_kinds.specs.Names.{name_of}
pub use Rattle.typst_kinds.specs.declared.kind.SyntaxKind.{SyntaxKind}

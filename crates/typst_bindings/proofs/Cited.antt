-- The names that many of these proofs cite, passed on from one place. Declares nothing.
pub use Rattle.std.proofs.Common.{Bool, List, Option, Some, ap, arith, codes, encode_utf8_all, false, length, length-take, map, not, refl, sym, true, ℕ, ◌<◌, ◌∙◌, ◌≡◌, ◌≤◌}
pub use Rattle.typst_bindings.specs.Bindings.{bound_shape}
unfoldable pub use Rattle.typst_bindings.specs.Bindings.{binding, bound_name, bound_part, let_binding}
pub use Rattle.typst_bindings.specs.Closures.{after_name, after_underscore, closure_shape, name_shape, underscore_shape}
unfoldable pub use Rattle.typst_bindings.specs.Closures.{named, placeholder}
pub use Rattle.typst_bindings.specs.Params.{begins_param}
unfoldable pub use Rattle.typst_bindings.specs.Params.{defaulted, param, param_turn, params}
pub use Rattle.typst_bindings.specs.Parts.{in_parens}
unfoldable pub use Rattle.typst_bindings.specs.Parts.{separator}
pub use Rattle.typst_bindings.specs.Patterns.{begins_leaf, begins_part, name_of, named_shape, parts_kind, sink_shape, with_part}
unfoldable pub use Rattle.typst_bindings.specs.Patterns.{destructuring, destructuring_item, destructuring_turn, key, key_or_pattern, name_and_colon, part, pattern, pattern_leaf, sink}
pub use Rattle.typst_kinds.specs.Kinds.{is_error, is_keyword, is_terminator, same}
pub use Rattle.typst_language.proofs.Asks.{asks-no, asks-yes, found}
pub use Rattle.typst_language.proofs.Begins.{Begins, begins-eat, begins-leaves, begins-next, begins-then}
pub use Rattle.typst_language.proofs.Changes.{does-seeing}
pub use Rattle.typst_language.proofs.Nots.{is-not, is-so}
pub use Rattle.typst_language.proofs.Steps.{Turning, does-gives, does-last, does-next, does-node, does-other, does-peek, does-pick, turning-next}
pub use Rattle.typst_language.proofs.Values.{does-entered, does-value}
pub use Rattle.typst_language.specs.Bytes.{bytes_left}
pub use Rattle.typst_language.specs.Meaning.{Level, hand_of, renewed, taken_node}
unfoldable pub use Rattle.typst_language.specs.Meaning.{run}
pub use Rattle.typst_language.specs.Shape.{after_node, becomes, count_empty, encloses, seen}
pub use Rattle.typst_language.specs.View.{Fills, Fits, View, at}

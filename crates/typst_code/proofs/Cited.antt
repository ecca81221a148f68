-- The names that many of these proofs cite, passed on from one place. Declares nothing.
pub use Rattle.std.proofs.Common.{Bool, List, Option, Some, [], ap, arith, false, if◌then◌else◌, map, not, refl, subst, sym, true, ◌++◌, ◌+◌, ◌-◌, ◌==◌, ◌^◌, ◌∙◌, ◌≡◌, ◌≤◌}
pub use Rattle.typst_code.specs.Arguments.{argument_shape, opens_arguments}
unfoldable pub use Rattle.typst_code.specs.Arguments.{argument, argument_list, argument_turn, arguments, begin_arguments, content_turn, listed_arguments, missing_arguments}
pub use Rattle.typst_code.specs.Expressions.{code_by, code_head, code_tail, tail_by}
unfoldable pub use Rattle.typst_code.specs.Expressions.{binary_expr, call_tail, code_expr, code_primary, code_tail_turn, direct_field, not_in, unary_expr}
pub use Rattle.typst_code.specs.Groups.{begins_item, group_shape, item_shape, misfit}
unfoldable pub use Rattle.typst_code.specs.Groups.{group, group_rest, group_turn, item, pair, spread}
pub use Rattle.typst_code.specs.Imports.{import_shape, parens_shape}
unfoldable pub use Rattle.typst_code.specs.Imports.{import_items, import_name, import_parens, import_path, import_turn, imported, module_import, path_turn, renaming}
pub use Rattle.typst_code.specs.Outside.{Blocks}
pub use Rattle.typst_code.specs.Parens.{after_group, guess_of, is_arrow, is_eq}
unfoldable pub use Rattle.typst_code.specs.Parens.{after_paren, as_group, parens, readings}
pub use Rattle.typst_code.specs.Sequences.{code_reading}
unfoldable pub use Rattle.typst_code.specs.Sequences.{code, code_block, code_exprs, code_turn, missing_break, statement, statement_end}
pub use Rattle.typst_code.specs.Statements.{begins_pattern, show_shape}
unfoldable pub use Rattle.typst_code.specs.Statements.{any_block, conditional, conditional_turn, contextual, field, for_loop, func_return, jump, loop_names, module_include, other_branch, second_pattern, set_rule, show_rule, target, target_turn, while_loop}
pub use Rattle.typst_code.specs.Stops.{stops_at}
pub use Rattle.typst_code.specs.declared.heads.CodeTail.{CodeTail}
pub use Rattle.typst_kinds.specs.Kinds.{is_terminator, same}
pub use Rattle.typst_language.proofs.Asks.{asks-no, asks-yes, found}
pub use Rattle.typst_language.proofs.Begins.{Begins, begins-gives, begins-leaves, begins-peek, begins-scoped, begins-then, begins-wraps}
pub use Rattle.typst_language.proofs.Either.{Back, back-changed, back-chosen, back-fits, does-chosen, does-dropped, does-either, goes-back, goes-nowhere, here-looks, paren-looks}
pub use Rattle.typst_language.proofs.Grows.{Grows, grows-init, grows-last, grows-next, grows-stuck}
pub use Rattle.typst_language.proofs.Nests.{Nests, nests-last, nests-next}
pub use Rattle.typst_language.proofs.Nots.{is-not, is-so}
pub use Rattle.typst_language.proofs.Steps.{Turning, does-deeper, does-gives, does-last, does-next, does-node, does-other, does-peek, does-pick, does-scoped, does-shape, does-too-deep, loose-knows, rewrapped-loose, turning-next}
pub use Rattle.typst_language.proofs.Values.{does-entered, does-value}
pub use Rattle.typst_language.specs.Bytes.{bytes_left}
pub use Rattle.typst_language.specs.Depth.{is_end}
pub use Rattle.typst_language.specs.Hand.{Hand, as_at_hand}
pub use Rattle.typst_language.specs.Meaning.{Guess, Level, Outcome, asked, before, entered, hand_asks_of, hand_of, inside, left, start_point}
unfoldable pub use Rattle.typst_language.specs.Meaning.{run}
pub use Rattle.typst_language.specs.Shape.{Shape, after_shape, becomes, encloses, seen}
unfoldable pub use Rattle.typst_language.specs.Steps.{eat, eat_making, node, within}
pub use Rattle.typst_language.specs.Syntax.{Parser, ◌>>◌}
pub use Rattle.typst_language.specs.Syntax.Parser.{gives, next, wraps}
pub use Rattle.typst_language.specs.View.{Does, Fills, Fits, Found, Rewrapped, View, guess_at, looked_too, place_after_paren}
pub use Rattle.typst_markup.specs.Markup.{at_newline}
pub use Rattle.typst_markup.specs.Starts.{begins_code}

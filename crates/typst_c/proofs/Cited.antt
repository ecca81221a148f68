-- The names that many of these proofs cite, passed on from one place. Declares nothing.
pub use Rattle.std.proofs.Common.{IfNone, List, None, Option, Some, ap, arith, if◌then◌else◌, length, refl, subst, sym, take, ℕ, ◌+◌, ◌<◌, ◌==◌, ◌^◌, ◌∙◌, ◌≡◌, ◌≤◌}
pub use Rattle.std.proofs.alloc.Calls.{Goes-blank, handle_tells, token}
pub use Rattle.std.proofs.lemmas.Option.{none-some, same_Some}
pub use Rattle.std.specs.Str.{IsCharBoundary, IsUtf8, chars}
pub use Rattle.std_alloc.proofs.BoxSteps.Form.{B, Bx, D, P, R, args, box_ty, box_typed, word, τ}
pub use Rattle.std_alloc.proofs.BoxSteps.Steps.{box_in, box_out}
pub use Rattle.std_alloc.specs.Box.Ownership.{box_owns}
pub use base.Fml.{flft, fsep, ftrue}
pub use base.Logic.{SProp, emp, ent, fst∗, id⊢, never}
pub use contract.BorrowLft.{◌⊑◌}
pub use contract.Monad.{Fun, fact}
pub use contract.Running.{tables}
unfoldable pub use contract.Running.{tables_of}
pub use denote.Exit.{no, yes}
pub use denote.RattleType.{RattleType}
pub use denote.RawPtr.{Ptr, RawPtr, block_ptr, in_a_block, null_ptr, ptr_val}
pub use denote.Signature.{Slot, plain, type_at}
pub use denote.Steps.{heard, nothing, only}
pub use denote.Triple.Call.{calls_at, calls_at_last}
pub use denote.Triple.Clauses.{Clauses, Ended}
pub use denote.Triple.Spec.{triple_of}
pub use denote.Triple.Statement.{Contract, Triple}
pub use denote.Triple.Table.{entered}
pub use denote.Triple.Walked.{Goes-dropped, Stays, ends_at, says, stay_dropped, walk_Meets, walk_of}
pub use mathlib.Core.List.{[]}
pub use mir.MapTy.{inst_fn}
pub use mir.Syntax.{Args, Body, Dict, Fn, a_type, assign, copy, dcons, dnil, impl, place, return, rv_opd, seq, tnil}
pub use mir.Val.{Val, WT, has_ty, of_list, vptr, vstruct}
pub use prog.Memory.{Memory}
pub use prog.Routine.{Routine}
pub use prog.Wp.{Tables, WpFn}
pub use seplogic.Ra.Ura.{Ura}
pub use sound.WpLaws.{WpFn-mono, fm_of}
pub use types.ByLocal.{alloc_all, env, free_all, get, get_in, lands_as, lands_last, look_at, pass_all, sets}
pub use types.Kit.{ !, Item, at_ret, await, by, done, drop, feq_i, feq_l, fjoin, fpick, fsplit, join, later, move, pick, qed, raw, rewrite, some, split, split3, suffices, use1, ‵, ◌$◌, ◌∵◌, ◌⊛◌}
pub use types.Logic.{Logic, sem}
pub use types.Part.{agg, sub, whole}
pub use types.Run.{and_then, blocks, enter, exec, first, fld, no_more, of_opd, returns, stop}
pub use Rattle.typst_c.specs.Positions.{IsAtUnits, units_before}
pub use Rattle.typst_c.specs.Refusals.{RefusesBytes, RefusesText, code_of}
pub use Rattle.typst_flat.specs.Records.{filled}
pub use Rattle.typst_lines.specs.Lines.{byte_at_utf16, line_range, utf16_before}

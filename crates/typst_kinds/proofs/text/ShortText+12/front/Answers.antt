use Rattle.std.proofs.Common.{◌∙◌, sym, ap, subst, length, take, take-take, arith}
use Rattle.std.specs.Str.{IsUtf8}
use Rattle.typst_kinds.proofs.text.ShortText+12.front.Goals as goal

pub returns : goal.returns
returns c =
    let len = length c.args.text.now in
    ap (take len) (c.copy_from_slice.ensures.after ∙ ap (take 12) c.as_bytes-from.ensures.value)
    ∙ take-take len 12 c.args.rest.now (omega (arith, c.if-len-gt12.false))
    ∙ c.requires

pub invariant_of-result : goal.invariant_of-result
invariant_of-result c = (omega (arith, c.if-len-gt12.false), subst IsUtf8 (sym (returns c)) c.utf8.text)

use Rattle.typst_lines.proofs.Cited.{common_steps, ◌≡◌, ◌∙◌, ap, drop, arith, common_ends}
use Rattle.typst_lines.proofs.CommonEnds.{common_ends-at, pointwise-same, take-all}
use Rattle.typst_lines.proofs.ReplaceLaw.{replaces}
use Rattle.typst_lines.proofs.lines.Lines+String.replacement_range.Goals as goal

pub returns : goal.returns
returns c =
    let old = c.args.self.now in
    let new = c.args.new.now in
    let t = c.text-old.result.now in
    let n = c.common_front_len-front.result in
    let m = c.common_end_len.result in
    let is : (n, m) ≡ common_ends old new = common_ends-at old new t c.range_from.result.now c.range_from-2.result.now n m c.text-old.ensures c.common_front_len-front.ensures (c.range_from.ensures.value ∙ ap (drop n) (take-all t)) (c.range_from-2.ensures.value ∙ ap (drop n) (take-all new)) c.common_end_len.ensures in
    grind (arith, common_steps, pointwise-same, replaces)

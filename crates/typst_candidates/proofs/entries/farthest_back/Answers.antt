use Rattle.typst_candidates.proofs.Cited.{◌≡◌, ◌+◌, ◌-◌, ◌<◌, List, false, max, suc, drop, get_or, length, subst, sym, take, arith, take_rest, Entry, GoBack}
use Rattle.typst_candidates.specs.declared.entry.EntryKind.TheVariants as entry_kind
use Rattle.typst_candidates.proofs.Blocks.{back-more, back-take}
use Rattle.typst_candidates.proofs.entries.farthest_back.Goals as goal

-- what would stand where there is no entry
abbrev none : Entry
none = record { kind = entry_kind.Piece false; step = 0; gap = 0; forth = 0; back = 0; count = 0 }

pub loop-entry-preserved : goal.loop-entry-preserved
loop-entry-preserved c =
    let from = c.args.from in
    let all = c.args.entries.now in
    let es : List Entry = take (length all - from) (drop from all) in
    let rest : es ≡ drop from all = take_rest all from in
    let i = c.loop-entry.entry-index in
    let here : i < length es = omega arith in
    let one : suc i ≡ i + 1 = omega arith in
    let most : c.max-most.result ≡ max c.loop-entry.most (get_or es i none).back = c.max-most.ensures in
    let least = c.loop-entry.invariant.least in
    let before = back-more (take i (drop from all)) c.loop-entry.most c.max-most.result (omega (arith, most)) c.loop-entry.invariant.all in
    let first : GoBack c.max-most.result (take i es) = subst (λ us. GoBack c.max-most.result (take i us)) (sym rest) before in
    let next : GoBack c.max-most.result (take (suc i) es) = back-take es i c.max-most.result none here first (omega (arith, most)) in
    record { least = omega (arith, most, least); all = subst (λ k. GoBack c.max-most.result (take k (drop from all))) one (subst (λ us. GoBack c.max-most.result (take (suc i) us)) rest next) }

use Rattle.typst_report.proofs.Cited.{◌≡◌, ◌+◌, ◌++◌, ◌∷◌, [], List, map, take, subst, sym, arith, Located, as_reported, ArePlaced, as_placed}
use Rattle.typst_report.proofs.PlacedLemmas.{placed_more}
use Rattle.typst_report.proofs.located.locate.Goals as goal

pub loop-finding-preserved : goal.loop-finding-preserved
loop-finding-preserved c =
    let f = c.finding-item.result in
    let pushed : c.push.new.self.items ≡ c.loop-finding.all.items ++ record { finding = f; start = c.of_byte-start.result; end = c.of_byte-end.result } ∷ [] = c.in_ok-push.ensures.items in
    let P : List Located → Type 0 = λ all. ArePlaced c.args.lines.now (map as_reported (take (c.loop-finding.finding-index + 1) c.args.found.now)) (map as_placed all) in
    record {
      placed = subst P (sym pushed) (placed_more c.args.lines.now c.args.found.now c.loop-finding.all.items c.loop-finding.finding-index f c.of_byte-start.result c.of_byte-end.result (omega arith) c.finding-item.is c.of_byte-start.ensures c.of_byte-end.ensures c.loop-finding.invariant.placed);
      last_start = c.of_byte-start.ensures.place;
      last_end = c.of_byte-end.ensures.place;
    }

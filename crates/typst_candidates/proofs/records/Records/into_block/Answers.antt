use Rattle.typst_candidates.proofs.Cited.{◌≡◌, ap, arith, Anchor}
use Rattle.typst_candidates.proofs.Anchors.{AnchorIn, anchor-in}
use Rattle.typst_candidates.proofs.records.Records.into_block.Goals as goal
use Rattle.typst_candidates.proofs.records.Records.into_block.Goals.{After-max}

begun : (c : After-max) → AnchorIn c.args.self.now.units.entries c.args.outer (record { number = c.number-number.result; start = c.start-start.result; reach = c.max.result; first = c.number-number.result; outer = c.args.outer.start })
begun c =
    let b : Anchor = record { number = c.number-number.result; start = c.start-start.result; reach = c.max.result; first = c.number-number.result; outer = c.args.outer.start } in
    let is : b ≡ record { number = c.next.new.self.number; start = c.start-start.result; reach = c.max.result; first = c.next.new.self.number; outer = c.args.outer.start } =
    ap (λ n. record { number = n; start = c.start-start.result; reach = c.max.result; first = n; outer = c.args.outer.start }) c.number-number.ensures in
    anchor-in c.args.self.now.units.entries c.args.outer b c.cursor_from-place.result c.next.new.self c.in_ok-entry.entry c.start-start.result c.in_ok-end.end c.max.result c.requires.outer c.cursor_from-place.ensures c.in_ok-entry.ensures.entry c.in_ok-entry.ensures.place c.start-start.ensures (omega arith) (omega arith) (omega arith) is

pub returns-clause-anchor : goal.returns-clause-anchor
returns-clause-anchor c = (begun c).anchor

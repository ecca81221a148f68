use Rattle.typst_candidates.proofs.Cited.{common_steps, ◌-◌, ◌≤◌, ◌<◌, length, ap, sym, arith, EntryPlace}
use Rattle.typst_candidates.proofs.Anchors.{PassedOn, anchor-on, passed-on}
use Rattle.typst_candidates.proofs.records.Records.last_anchor.Goals as goal
use Rattle.typst_candidates.proofs.records.Records.last_anchor.Goals.{After-max-reach}

pub loop-entry-init : goal.loop-entry-init
loop-entry-init c = grind (arith, common_steps)

on : (c : After-max-reach) → PassedOn c.args.self.now.units.entries c.args.from c.next.new.self c.start-start.result c.max-reach.result c.in_ok-further.further
on c =
    passed-on c.args.self.now.units.entries c.args.from c.loop-entry.place c.next.new.self c.in-Some.entry c.start-start.result c.in_ok-end.end c.loop-entry.reach c.max-reach.result c.loop-entry.inside c.in_ok-further.further c.loop-entry.invariant.passed c.requires.from c.in-Some.ensures.entry c.in-Some.ensures.place c.start-start.ensures (omega arith) (omega arith) (omega arith) (sym c.in_ok-further.ensures)

less : (c : After-max-reach) → length c.args.self.now.units.entries - c.next.new.self.number < length c.args.self.now.units.entries - c.loop-entry.place.number
less c =
    let within = (on c).within in
    omega (arith, within, ap (λ (p : EntryPlace). p.number) c.in-Some.ensures.place)

pub loop-entry-preserved-then-start-window-2 : goal.loop-entry-preserved-then-start-window-2
loop-entry-preserved-then-start-window-2 c =
    let reached = on (goal.at.loop-entry-preserved-then-start-window-2 c).After-max-reach in
    let number = c.number.ensures in
    let order : c.args.from.number ≤ c.number.result = omega (arith, number) in
    let is = ap (λ n. record { number = n; start = c.start-start.result; reach = c.max-reach.result; first = c.args.from.first; outer = c.args.from.outer }) number in
    record {
      passed = reached.passed;
      anchor = anchor-on c.args.self.now.units.entries c.args.from _ c.next.new.self c.start-start.result c.max-reach.result c.in_ok-further.further reached c.requires.from c.if-inside-eq0.true is;
      order = order;
    }

pub loop-entry-preserved : goal.loop-entry-preserved
loop-entry-preserved c = record { passed = (on (goal.at.loop-entry-preserved c).After-max-reach).passed; anchor = c.loop-entry.invariant.anchor; order = c.loop-entry.invariant.order }

pub loop-entry-smaller-then-start-window-2 : goal.loop-entry-smaller-then-start-window-2
loop-entry-smaller-then-start-window-2 c = less (goal.at.loop-entry-smaller-then-start-window-2 c).After-max-reach

pub loop-entry-smaller : goal.loop-entry-smaller
loop-entry-smaller c = less (goal.at.loop-entry-smaller c).After-max-reach

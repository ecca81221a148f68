use Rattle.typst_tree.proofs.Cited.{◌≡◌, ◌-◌, forest, count, growth}
use Rattle.typst_tree.proofs.replace.growth.Given as goal

abbrev pub invariant-loop : goal.invariant-loop
invariant-loop l =
    growth l.own.head l.kids l.from l.to (count (forest l.fresh)) l.tries 0 ≡ growth l.own.head l.kids l.from l.to (count (forest l.fresh)) (l.tries - l.counter) l.by

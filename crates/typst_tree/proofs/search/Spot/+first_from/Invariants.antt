use Rattle.typst_tree.proofs.Cited.{◌+◌, ◌*◌, ◌-◌, ◌<◌, ◌≤◌, length, nodes, saturated, IsIn, FoundFrom, IsPassed, wanted}
use Rattle.typst_tree.proofs.search.Spot.+first_from.Given as goal

abbrev pub decreases-first_from : goal.decreases-first_from
decreases-first_from l = 3 * nodes l.self.now.node.now + 2

abbrev pub decreases-first_behind : goal.decreases-first_behind
decreases-first_behind l = 3 * nodes l.self.now.node.now + 1

abbrev pub decreases-look : goal.decreases-look
decreases-look l = 3 * nodes l.self.now.node.now

abbrev pub decreases-first_from-loop-spot : goal.decreases-first_from-loop-spot
decreases-first_from-loop-spot l = nodes l.spot.node.now

abbrev pub invariant-first_from-loop-spot : goal.invariant-first_from-loop-spot
invariant-first_from-loop-spot l = record {
  inside : IsIn l.self l.spot;
  begun : l.spot.number ≤ l.from;
  found : FoundFrom (wanted l.search) l.from l.self;
  size : l.levels + nodes l.spot.node.now ≤ nodes l.self.node.now;
}

abbrev pub decreases-first_behind-loop-left : goal.decreases-first_behind-loop-left
decreases-first_behind-loop-left l = l.left

abbrev pub invariant-first_behind-loop-left : goal.invariant-first_behind-loop-left
invariant-first_behind-loop-left l = record {
  begun : l.self.number < l.from;
  found : FoundFrom (wanted l.search) l.from l.self;
}

abbrev pub decreases-look-loop-at : goal.decreases-look-loop-at
decreases-look-loop-at l = length l.row - l.at.index

abbrev pub invariant-look-loop-at : goal.invariant-look-loop-at
invariant-look-loop-at l = record {
  passed : IsPassed l.row (l.self.number + 1) (saturated (l.self.offset + length l.self.node.now.head.text)) l.at.index l.at.number l.at.offset;
  found : FoundFrom (wanted l.search) l.at.number l.self;
}

use Rattle.typst_kinds.proofs.Cited.{rules, ◌≡◌, ◌/◌, ◌<◌, length, arith, place_of}
use Rattle.typst_kinds.proofs.Membership.{added, added_other}
use Rattle.typst_kinds.proofs.set.SyntaxSet.add.Goals as goal

within : (c : goal.After-words-1) → place_of c.args.kind / 64 < length c.args.self.words
within c =
    let long : length c.args.self.words ≡ 3 = search rules in omega (arith, long, c.place-place.ensures.place, c.place-place.ensures.small)

pub returns-clause-added : goal.returns-clause-added
returns-clause-added c = rw c.place-place.ensures.place (added c.args.self.words c.args.kind (within c))

pub returns-clause-others : goal.returns-clause-others
returns-clause-others c = rw c.place-place.ensures.place (added_other c.args.self.words c.args.kind (within c))

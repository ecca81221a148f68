use Rattle.typst_parser.proofs.Cited.{arith, IsLast, at_path}
use Rattle.typst_parser.proofs.Numbers.{begins-after}
use Rattle.typst_parser.proofs.Runs.{bounds-last, bounds-more, ends-begin, ends-more, found-after, found-by, is-found, looks-found, none-by, none-found}
use Rattle.typst_parser.proofs.attempt.Attempt.bounds.Goals as goal

pub returns-in_err-from : goal.returns-in_err-from
returns-in_err-from g c = grind (arith, none-by, ends-begin)

pub is_last-requires : goal.is_last-requires
is_last-requires g c = grind (arith, found-after, found-by)

pub looks_at_end-requires-clause-within : goal.looks_at_end-requires-clause-within
looks_at_end-requires-clause-within g c = grind (arith, found-by, begins-after)

pub returns-in_err-looks : goal.returns-in_err-looks
returns-in_err-looks g c = grind (arith, found-by, looks-found)

pub returns-then-is_last : goal.returns-then-is_last
returns-then-is_last g c = λ path from to looks ends l.
    let es = c.args.self.now.records.now.units.entries in
    let first = c.args.run.first_entry in
    let d = at_path path c.args.candidate in
    let place = c.in_ok-from.from in
    let found = found-by es first d.start c.run_place.result place c.run_place.ensures.entries c.run_place.ensures.piece c.in_ok-from.ensures in
    bounds-last es first d from to ends place found c.args.run.kind looks l (c.is_last.ensures.0 c.if-is_last.true) c.copy.result c.copy.ensures.place c.number.result c.number.ensures c.in_ok-looks.looks c.in_ok-looks.ensures.text
    c.in_ok-looks.ensures.block

pub returns-in_err-to : goal.returns-in_err-to
returns-in_err-to g c = grind (arith, found-by, none-found, ends-more)

pub returns : goal.returns
returns g c = λ path from to looks ends l.
    let es = c.args.self.now.records.now.units.entries in
    let first = c.args.run.first_entry in
    let d = at_path path c.args.candidate in
    let place = c.in_ok-from.from in
    let found = found-by es first d.start c.run_place.result place c.run_place.ensures.entries c.run_place.ensures.piece c.in_ok-from.ensures in
    let other : IsLast place.entries place.number → ⊥ = λ last. (let yes = c.is_last.ensures.1 last in let never = c.if-is_last.false in absurd (cc)) in
    bounds-more es first d from to ends place found c.args.run.kind looks l other c.in_ok-to.to (is-found es place.number d.end place c.in_ok-to.to found.1 c.in_ok-to.ensures) c.number-looks.result c.number-looks.ensures

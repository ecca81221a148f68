use Rattle.typst_parser.proofs.Cited.{arith, subst, Decides, IsPart, at_path, Puts}
use Rattle.typst_parser.proofs.Answering.{entries-are, fails-refused, full-refused, part-reaches, part-taken}
use Rattle.typst_parser.proofs.edited.take_place.Goals as goal

pub read-requires : goal.read-requires
read-requires g c = let q = c.requires in record { change = q.change; ready = q.speaks; among = q.among; serves = q.serves }

pub put-requires-clause-reaches : goal.put-requires-clause-reaches
put-requires-clause-reaches g c =
    let k = g.C.Classes.classes c.args.asked.now.classes.now in
    let q = c.requires in
    let d = at_path c.args.path.now c.args.candidate in
    let is : IsPart k q.change c.args.root.now d c.in-Some.part = subst (Decides k q.change c.args.root.now d) c.in-Some.is (c.in_ok-part.ensures q.change q.speaks q.among q.serves).0 in
    part-reaches k q.change c.args.root.now c.args.records.now.units q.speaks.holds d q.among c.in-Some.part is

pub put-requires-clause-order : goal.put-requires-clause-order
put-requires-clause-order g c = grind arith

pub put-requires-clause-within : goal.put-requires-clause-within
put-requires-clause-within g c = grind (arith, entries-are)

pub returns-in_default-clause-taken : goal.returns-in_default-clause-taken
returns-in_default-clause-taken g c = λ ch speaks chosen serves.
    let k = g.C.Classes.classes c.args.asked.now.classes.now in
    let d = at_path c.args.path.now c.args.candidate in
    let root = c.args.root.now in
    let units = c.args.records.now.units in
    let all = c.in_ok-part.ensures ch speaks chosen serves in
    (fails-refused k ch root units speaks.holds d chosen (subst (Decides k ch root d) c.in_default.is all.0), all.1)

pub returns-then-branch-clause-taken : goal.returns-then-branch-clause-taken
returns-then-branch-clause-taken g c = grind (arith, part-taken)

pub returns-clause-taken : goal.returns-clause-taken
returns-clause-taken g c = λ ch speaks chosen serves.
    let k = g.C.Classes.classes c.args.asked.now.classes.now in
    let d = at_path c.args.path.now c.args.candidate in
    let root = c.args.root.now in
    let units = c.args.records.now.units in
    let all = c.in_ok-part.ensures ch speaks chosen serves in
    let p = c.in-Some.part in
    let is = subst (Decides k ch root d) c.in-Some.is all.0 in
    let puts = subst (Puts c.args.path.now p.first_child c.args.candidate.to p root c.put.new.root units c.put.new.records.units) c.if-branch.false c.in_ok-put.ensures.puts in
    (full-refused k ch root units speaks.holds d chosen p is puts.0, all.1)

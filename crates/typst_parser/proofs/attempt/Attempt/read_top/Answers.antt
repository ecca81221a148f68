use Rattle.typst_parser.proofs.Cited.{[], subst, arith, Settles}
use Rattle.typst_parser.proofs.ReadSteps.{top-reads, top_run}
use Rattle.typst_parser.proofs.RunSteps.{passing-few, passing-part, passing-start}
use Rattle.typst_parser.proofs.attempt.Attempt.read_top.Goals as goal

pub passing-requires : goal.passing-requires
passing-requires g c = grind (arith, top-reads)

pub returns-in_default : goal.returns-in_default
returns-in_default g c = λ ch ready chosen serves.
    let k = g.C.Classes.classes c.args.self.now.asked.now.classes.now in
    let h = top-reads k c.args.self.now ch c.args.candidate c.args.serving.now ready chosen c.requires.pieces serves in
    let found = c.in_ok-passing.ensures ch [] h in
    (subst (Settles k ch c.args.self.now.root.now [] c.args.candidate top_run h.found) c.in_default.is found.0, found.1)

pub part_of_pieces-requires-clause-start : goal.part_of_pieces-requires-clause-start
part_of_pieces-requires-clause-start g c =
    let k = g.C.Classes.classes c.args.self.now.asked.now.classes.now in
    let q = c.requires.tries in
    let h = top-reads k c.args.self.now q.change c.args.candidate c.args.serving.now q.ready q.among c.requires.pieces q.serves in
    let found = c.in_ok-passing.ensures q.change [] h in
    passing-start k q.change c.args.self.now.asked.now c.args.self.now.root.now c.args.self.now.records.now.units q.ready [] c.args.candidate top_run h.found c.in-Some.passing
    (subst (Settles k q.change c.args.self.now.root.now [] c.args.candidate top_run h.found) c.in-Some.is found.0)

pub part_of_pieces-requires-clause-fits : goal.part_of_pieces-requires-clause-fits
part_of_pieces-requires-clause-fits g c =
    let k = g.C.Classes.classes c.args.self.now.asked.now.classes.now in
    let q = c.requires.tries in
    let h = top-reads k c.args.self.now q.change c.args.candidate c.args.serving.now q.ready q.among c.requires.pieces q.serves in
    let found = c.in_ok-passing.ensures q.change [] h in
    passing-few k q.change c.args.self.now.asked.now c.args.self.now.root.now c.args.self.now.records.now.units q.ready [] c.args.candidate top_run h.found c.in-Some.passing
    (subst (Settles k q.change c.args.self.now.root.now [] c.args.candidate top_run h.found) c.in-Some.is found.0)

pub returns : goal.returns
returns g c = λ ch ready chosen serves.
    let k = g.C.Classes.classes c.args.self.now.asked.now.classes.now in
    let h = top-reads k c.args.self.now ch c.args.candidate c.args.serving.now ready chosen c.requires.pieces serves in
    let found = c.in_ok-passing.ensures ch [] h in (
      passing-part k ch c.args.self.now.asked.now c.args.self.now.root.now c.args.self.now.records.now.units ready [] c.args.candidate top_run h.found c.in-Some.passing
          (subst (Settles k ch c.args.self.now.root.now [] c.args.candidate top_run h.found) c.in-Some.is found.0) c.in_ok-part.part c.in_ok-part.ensures.nodes c.in_ok-part.ensures.first c.in_ok-part.ensures.end c.in_ok-part.ensures.bounds
          c.in_ok-part.ensures.entries (λ e. absurd (cc)),
      found.1,
    )

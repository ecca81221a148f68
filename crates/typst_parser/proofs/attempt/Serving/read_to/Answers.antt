use Rattle.typst_parser.proofs.Cited.{◌<◌, ◌≤◌, inl, inr, refl, subst, ◌∙◌, HasReadOn}
use Rattle.typst_parser.proofs.PieceReading.{reader-end, some-next}
use Rattle.typst_parser.proofs.attempt.Serving.read_to.Goals as goal

pub pieces-init : goal.pieces-init
pieces-init g c = record { read = λ r h. h; kept = (refl, refl, refl) }

pub pieces-preserved : goal.pieces-preserved
pieces-preserved g c = record {
  read = λ r h.
      (let k = g.C.Classes.classes c.args.classes.now in
      let was = c.pieces.invariant.read r h in
      some-next k r c.args.end c.pieces.self.any c.pieces.self.reader c.next.new.self was (subst (λ n. n < c.args.end) c.end.ensures c.pieces-test.true)
      (subst (λ b. HasReadOn k r.levels r.which r.carried r.place was.count b c.next.new.self) c.if-not-branch.false (c.in_ok-next.ensures.read r.levels r.which r.carried r.place was.count was.read)));
  kept = c.pieces.invariant.kept;
}

pub pieces-smaller : goal.pieces-smaller
pieces-smaller g c =
    let r = c.requires.0 in
    let was = c.pieces.invariant.read r c.requires.1 in
    c.in_ok-next.ensures.shorter r.levels r.which r.carried r.place was.count was.read c.if-not-branch.false

pub returns-then-not-branch-clause-read : goal.returns-then-not-branch-clause-read
returns-then-not-branch-clause-read g c = λ r h.
    let k = g.C.Classes.classes c.args.classes.now in
    let was = c.pieces.invariant.read r h in
    let read = subst (λ b. HasReadOn k r.levels r.which r.carried r.place was.count b c.next.new.self) c.if-not-branch.true (c.in_ok-next.ensures.read r.levels r.which r.carried r.place was.count was.read) in
    record { has = record { count = was.count; read = read.0; some = was.some; before = was.before }; stopped = inr read.1 }

pub returns-then-not-branch-clause-kept : goal.returns-then-not-branch-clause-kept
returns-then-not-branch-clause-kept g c = c.pieces.invariant.kept

pub returns-clause-read : goal.returns-clause-read
returns-clause-read g c = λ r h.
    let k = g.C.Classes.classes c.args.classes.now in
    let was = c.pieces.invariant.read r h in
    record { has = was; stopped = inl (subst (λ n. c.args.end ≤ n) (c.end.ensures ∙ reader-end k r was.count c.pieces.self.reader was.read) c.pieces-test.false) }

pub returns-clause-kept : goal.returns-clause-kept
returns-clause-kept g c = c.pieces.invariant.kept

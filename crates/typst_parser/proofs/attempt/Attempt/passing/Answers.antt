use Rattle.typst_parser.proofs.Cited.{◌<◌, ◌≤◌, Some, refl, sym, subst, reading_of, ServesNow, ServesOr}
use Rattle.typst_parser.proofs.RunSteps.{step-again, step-end-no, step-ends, step-fail, step-first, step-looks, step-looks-no, step-pass, step-places, step-some, step-there, step-to}
use Rattle.typst_parser.proofs.Serving.{for-or}
use Rattle.typst_parser.proofs.attempt.Attempt.passing.Goals as goal

pub bounds-requires-clause-first : goal.bounds-requires-clause-first
bounds-requires-clause-first g c = step-first (g.C.Classes.classes c.args.self.now.asked.now.classes.now) c.args.self.now c.requires.0 c.requires.1 c.args.candidate c.args.run c.args.serving.now c.requires.2

pub bounds-requires-clause-fits : goal.bounds-requires-clause-fits
bounds-requires-clause-fits g c = step-places (g.C.Classes.classes c.args.self.now.asked.now.classes.now) c.args.self.now c.requires.0 c.requires.1 c.args.candidate c.args.run c.args.serving.now c.requires.2

pub returns-in_default : goal.returns-in_default
returns-in_default g c = λ ch path h.
    absurd (c.in_default.ensures path h.found.from h.found.to h.found.looks (step-ends _ c.args.self.now ch path c.args.candidate c.args.run c.args.serving.now h) (step-looks _ c.args.self.now ch path c.args.candidate c.args.run c.args.serving.now h))

pub returns-then-not-looks_pass : goal.returns-then-not-looks_pass
returns-then-not-looks_pass g c = λ ch path h.
    let self = c.args.self.now in
    let same : (c.in-Some.bounds.from.number < self.asked.now.front) × (self.asked.now.rear ≤ c.in-Some.bounds.looks) → (c.number.result < self.asked.now.front) × (self.asked.now.rear ≤ c.in-Some.bounds.looks) =
    subst (λ n. (n < self.asked.now.front) × (self.asked.now.rear ≤ c.in-Some.bounds.looks)) (sym c.number.ensures) in (
      step-looks-no _ self ch path c.args.candidate c.args.run c.args.serving.now h c.in-Some.bounds c.in-Some.ensures (λ p. (let yes = c.looks_pass.ensures.1 (same p) in let never = c.if-not-looks_pass.true in absurd (cc))),
      for-or _ ch self.root.now path c.args.candidate c.args.serving.now h.serves,
    )

pub returns-in_default-new_end : goal.returns-in_default-new_end
returns-in_default-new_end g c = λ ch path h.
    let k = g.C.Classes.classes c.args.self.now.asked.now.classes.now in (
      step-end-no k c.args.self.now ch path c.args.candidate c.args.run c.args.serving.now h (c.in_default-new_end.ensures.none refl),
      for-or k ch c.args.self.now.root.now path c.args.candidate c.args.serving.now h.serves,
    )

pub serving-requires : goal.serving-requires
serving-requires g c =
    let k = g.C.Classes.classes c.args.self.now.asked.now.classes.now in
    let self = c.args.self.now in
    let h = c.requires.2 in
    let test = subst (λ n. (n < self.asked.now.front) × (self.asked.now.rear ≤ c.in-Some.bounds.looks)) c.number.ensures (c.looks_pass.ensures.0 c.if-not-looks_pass.false) in
    (c.requires.0, c.requires.1, h, step-there k self c.requires.0 c.requires.1 c.args.candidate c.args.run c.args.serving.now h c.in-Some.bounds c.in-Some.ensures test)

pub returns-in_default-2 : goal.returns-in_default-2
returns-in_default-2 g c = λ ch path h.
    let self = c.args.self.now in
    let root = c.args.self.now.root.now in
    let run = c.args.run in
    let test = subst (λ n. (n < self.asked.now.front) × (self.asked.now.rear ≤ c.in-Some.bounds.looks)) c.number.ensures (c.looks_pass.ensures.0 c.if-not-looks_pass.false) in
    let there = step-there _ self ch path _ run c.args.serving.now h c.in-Some.bounds c.in-Some.ensures test in
    absurd (subst (ServesNow _ ch root path _ run) c.in_default-2.is (c.in_ok-current.ensures.begun ch path h there))

pub read_to-requires : goal.read_to-requires
read_to-requires g c =
    let k = g.C.Classes.classes c.args.self.now.asked.now.classes.now in
    let self = c.args.self.now in
    let root = c.args.self.now.root.now in
    let d = c.args.candidate in
    let run = c.args.run in
    let o = c.args.serving.now in
    let test = subst (λ n. (n < self.asked.now.front) × (self.asked.now.rear ≤ c.in-Some.bounds.looks)) c.number.ensures (c.looks_pass.ensures.0 c.if-not-looks_pass.false) in
    let ch = c.requires.0 in
    let path = c.requires.1 in
    let h = c.requires.2 in
    let there = step-there k self ch path d run o h c.in-Some.bounds c.in-Some.ensures test in
    let s = c.in-Some-2.current in
    let now : ServesNow k ch root path d run (Some s) = subst (ServesNow k ch root path d run) c.in-Some-2.is (c.in_ok-current.ensures.begun ch path h there) in
    (reading_of now.0.found, step-some k self ch path d run o h c.in-Some.bounds c.in-Some.ensures test s now c.in-Some-new_end.target c.in-Some-new_end.ensures.some)

pub fits-requires : goal.fits-requires
fits-requires g c =
    let k = g.C.Classes.classes c.args.self.now.asked.now.classes.now in
    step-to k c.args.self.now c.requires.0 c.requires.1 c.args.candidate c.args.run c.args.serving.now c.requires.2 c.in-Some.bounds c.in-Some.ensures

pub returns-then-fits : goal.returns-then-fits
returns-then-fits g c = λ ch path h.
    let k = g.C.Classes.classes c.args.self.now.asked.now.classes.now in
    let self = c.args.self.now in
    let root = c.args.self.now.root.now in
    let d = c.args.candidate in
    let run = c.args.run in
    let o = c.args.serving.now in
    let test = subst (λ n. (n < self.asked.now.front) × (self.asked.now.rear ≤ c.in-Some.bounds.looks)) c.number.ensures (c.looks_pass.ensures.0 c.if-not-looks_pass.false) in
    let there = step-there k self ch path d run o h c.in-Some.bounds c.in-Some.ensures test in
    let s = c.in-Some-2.current in
    let now : ServesNow k ch root path d run (Some s) = subst (ServesNow k ch root path d run) c.in-Some-2.is (c.in_ok-current.ensures.begun ch path h there) in (
      step-pass k self ch path d run o h c.in-Some.bounds c.in-Some.ensures test s now c.in-Some-new_end.target c.in-Some-new_end.ensures.some c.read_to.new.self c.in_ok-read_to.ensures.read c.in_ok-read_to.ensures.kept
          c.fits.result c.fits.ensures c.if-fits.true c.in_ok-passing.passing c.in_ok-passing.ensures.pieces c.in_ok-passing.ensures.any c.in_ok-passing.ensures.rest,
      subst (ServesOr k ch root path d.depth) (sym c.in_ok-current.ensures.taken) tt,
    )

pub returns : goal.returns
returns g c = λ ch path h.
    let k = g.C.Classes.classes c.args.self.now.asked.now.classes.now in
    let self = c.args.self.now in
    let root = c.args.self.now.root.now in
    let d = c.args.candidate in
    let run = c.args.run in
    let o = c.args.serving.now in
    let test = subst (λ n. (n < self.asked.now.front) × (self.asked.now.rear ≤ c.in-Some.bounds.looks)) c.number.ensures (c.looks_pass.ensures.0 c.if-not-looks_pass.false) in
    let there = step-there k self ch path d run o h c.in-Some.bounds c.in-Some.ensures test in
    let s = c.in-Some-2.current in
    let now : ServesNow k ch root path d run (Some s) = subst (ServesNow k ch root path d run) c.in-Some-2.is (c.in_ok-current.ensures.begun ch path h there) in (
      step-fail k self ch path d run o h c.in-Some.bounds c.in-Some.ensures test s now c.in-Some-new_end.target c.in-Some-new_end.ensures.some c.read_to.new.self c.in_ok-read_to.ensures.read c.in_ok-read_to.ensures.kept
          c.fits.result c.fits.ensures (λ t. (let never = c.if-fits.false in absurd (cc))),
      step-again k self ch path d run o h c.in-Some.bounds c.in-Some.ensures test s now c.in-Some-new_end.target c.in-Some-new_end.ensures.some c.read_to.new.self c.in_ok-read_to.ensures.read c.in_ok-read_to.ensures.kept,
    )

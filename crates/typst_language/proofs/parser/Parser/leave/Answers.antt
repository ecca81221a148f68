use Rattle.typst_language.proofs.Cited.{Bool, None, if◌then◌else◌, ◌∙◌, refl, sym, ap, Place, judged, column_at, known_by, column_hull, hand_of_ahead}
use Rattle.typst_language.proofs.Ready.{left-again, left-kept, left-judged, was-read}
use Rattle.typst_language.proofs.Trivia.{same-hand}
use Rattle.typst_language.proofs.parser.Parser.leave.Goals as goal

pub returns-then-not-same_mode : goal.returns-then-not-same_mode
returns-then-not-same_mode g c l h =
    rw (sym c.self.view_is) (left-again l c.args.outer _ _ (sym c.same_mode.ensures ∙ c.if-not-same_mode.true) (c.in_ok-read.ensures l (h.classes ∙ g.met.L.Levels.same _)))

pub returns-then-same_rule : goal.returns-then-same_rule
returns-then-same_rule g c l h =
    rw (sym c.self.view_is) (left-kept l c.args.outer _ _ (sym c.same_mode.ensures ∙ c.if-not-same_mode.false) (sym c.same_rule.ensures ∙ c.if-same_rule.true) refl)

pub returns : goal.returns
returns g c l h =
    let i = c.self.inside in
    let z = c.self.invariant.stands.start in
    let held = record i.state.held { at_newline = c.args.outer.at_newline } in
    let here = c.judged-kind.ensures.here ∙ ap (λ (p : Place). column_hull held i.ahead.newlines p i.ahead.own) z in
    rw (sym c.self.view_is)
    (λ f. left-judged l c.args.outer _ _ (sym c.same_mode.ensures ∙ c.if-not-same_mode.false) (sym c.same_rule.ensures ∙ c.if-same_rule.false) refl refl
    (ap (λ (r : Bool). record { reading = c.args.outer; held = held; empties = i.state.empties; is_after_error = i.state.is_after_error; known = if r then known_by (record (hand_of_ahead i.ahead i.trivia.items) { kind = c.judged-kind.result.0 }) else None }) (was-read i f))
    (same-hand _ _ _ _ _ _ _ _ _ _ _ _ (c.judged-kind.ensures.kind ∙ ap (λ (p : Place). judged held i.ahead.newlines i.ahead.token.kind (column_at p)) z) refl refl refl refl refl)
    refl here c.look.ensures refl f)

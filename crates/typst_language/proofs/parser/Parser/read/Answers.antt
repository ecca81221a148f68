use Rattle.typst_language.proofs.Cited.{Bool, None, if◌then◌else◌, ◌∙◌, refl, sym, ap, moved, place, Scanner, CharClasses, Hull, hand_at, known_by, with_hull, token_hull, whole_at, view_of, distance, hand_of_ahead}
use Rattle.typst_language.proofs.Ready.{looked-is}
use Rattle.typst_language.proofs.parser.Parser.read.Goals as goal

pub returns : goal.returns
returns g c l k =
    let i = c.self.inside in
    let a = c.read.new.self in
    let b = c.in_ok-hull.ensures.read in
    let from = place i.ahead.before in
    let gap = distance a.before a.start in
    rw (sym c.self.view_is)
    (looked-is l (view_of i) _ refl (ap (λ (s : Scanner). place s) b.before)
    (ap (λ (r : Bool). record { reading = i.state.reading; held = i.state.held; empties = i.state.empties; is_after_error = i.state.is_after_error; known = if r then known_by (hand_of_ahead a c.read.new.trivia.items) else None }) b.is_read)
    (b.hand ∙ ap (λ (q : CharClasses). hand_at q i.state.held None from) (sym k))
    (b.own ∙ ap (λ (q : CharClasses). token_hull q i.state.held.mode (moved gap from)) (sym k))
    b.here
    (c.look.ensures ∙ ap (λ (u : Hull). with_hull u i.log) (c.in_ok-hull.ensures.hull ∙ ap (λ (q : CharClasses). whole_at q i.state.held from) (sym k))) refl)

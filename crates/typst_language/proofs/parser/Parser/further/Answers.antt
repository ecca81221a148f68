use Rattle.typst_language.proofs.Cited.{common_steps, ◌≡◌, ◌+◌, ◌∙◌, ap, sym, arith, Place, moved, place, CharClasses, token_hull, distance}
use Rattle.typst_language.proofs.Places.{moved-sum}
use Rattle.typst_language.proofs.Words.{further-is}
use Rattle.typst_language.proofs.parser.Parser.further.Goals as goal

pub returns : goal.returns
returns g c l h =
    let i = c.self.inside in
    let a = i.ahead in
    let s = c.self.invariant.stands in
    let m = i.state.reading.mode in
    let k = h.classes ∙ g.met.L.Levels.same _ in
    let gap = distance a.before a.start in
    let len = distance a.start a.after in
    let there : place a.after ≡ moved (gap + len) (place a.before) = s.after ∙ ap (moved len) s.start ∙ sym (moved-sum gap len (place a.before)) in
    let hull = c.in_ok-next.ensures.scans.hull ∙ ap (λ (q : CharClasses). token_hull q m (place a.after)) (sym k) ∙ ap (λ (z : Place). token_hull l.classes m z) there in
    grind (arith, common_steps, further-is)

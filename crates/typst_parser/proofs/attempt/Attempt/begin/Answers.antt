use Rattle.typst_parser.proofs.Cited.{◌≡◌, ℕ, Bool, refl, subst, same_Some, place_at, HasRead}
use Rattle.typst_parser.proofs.attempt.Attempt.begin.Goals as goal

pub returns-in_default : goal.returns-in_default
returns-in_default g c = λ x says. (let e = c.in_default.ensures x says in absurd (cc))

pub returns : goal.returns
returns g c = λ x says.
    let was : Bool × ℕ = c.in-Some.carried in
    let same : was ≡ x = same_Some was x (c.in-Some.ensures x says) in
    (subst (λ v. HasRead (g.C.Classes.classes c.args.self.now.asked.now.classes.now) c.args.run.levels c.args.run.kind v (place_at c.args.self.now.asked.now.new.now c.args.candidate.start) 0 c.in_ok-reader.reader) same c.in_ok-reader.ensures, refl, refl, c.number.ensures, refl)

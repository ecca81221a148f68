-- A part of a text that was read by itself.
use Rattle.typst_grammar.proofs.Cited.{◌≡◌, ℕ, List, [], ◌++◌, ap, ◌∙◌, arith, Tree, Place, CharClasses, Reading, Meaning, Outcome, apart, blockless, standing, start_point, run, Point, hinted, Parser, run-blind, knows-none, View, Goes, Bare, Loose, at, meaning, IsPart, IsResumed, IsGiven, guesses, guessing_at, ReadPart}
use Rattle.typst_language.proofs.HintedNodes.{hinted-none}
use Rattle.typst_grammar.proofs.AtLevels.{less-nil, still-kept}

-- what stands after an outcome where nothing stood before it
pub standing-nil : {A : Type 0} (o : Outcome A) → standing o [] ≡ o.nodes
standing-nil o = ap (λ (ns : List Tree). hinted o.hints ns ++ o.nodes) (less-nil o.back) ∙ ap (λ (ns : List Tree). ns ++ o.nodes) (hinted-none o.hints)

-- what was read where no block may be read, from where nothing is known
pub part-is : {A : Type 0} (k : CharClasses) (levels : ℕ) (p : Parser A) (a : A) (reading : Reading) (z : Place) (v w : View) (r : ReadPart) → IsResumed z reading v
    → Goes (apart (guessing_at k levels)) (Bare (apart (guessing_at k levels))) (Loose (apart (guessing_at k levels))) p a v w → IsGiven w r
    → (let o = run (blockless k levels (meaning k levels)) p z (start_point reading) in IsPart levels z o.nodes o.taken o.asks r)
part-is {A = A} k levels p a reading z v w r h d g =
    let l = blockless k levels (meaning k levels) in
    let bare : Bare (apart (guessing_at k levels)) v = record { known = ap (λ (s : Point). s.known) h.state; knows = knows-none h.memo } in
    let o = run l p z (start_point reading) in
    let blind : at (apart (guessing_at k levels)) p v ≡ at l p v = ap {A = Meaning A} {B = Outcome A} (λ m. m v.place v.state) (run-blind (guesses k) l p) in
    grind (arith, standing-nil, still-kept)

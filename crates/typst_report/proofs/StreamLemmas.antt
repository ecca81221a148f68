-- Known bytes that are written piece by piece.
use Rattle.typst_report.proofs.Cited.{◌≡◌, ◌∙◌, ℕ, ◌+◌, List, Option, take, drop, subst, sym, Appends, Keeps, Appends-trans, Appends-kept}
use lib.Seq.{take-add}

pub Appends-piece : (a b c : Option (List ℕ)) (bytes : List ℕ) (done n : ℕ) → Appends a b (take done bytes) → Appends b c (take n (drop done bytes))
    → Appends a c (take (done + n) bytes)
Appends-piece a b c bytes done n before piece =
    subst (λ bs. Appends a c bs) (sym (take-add done n bytes)) (Appends-trans a b c (take done bytes) (take n (drop done bytes)) before piece)

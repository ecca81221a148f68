-- Tokens written one after another.
use Rattle.typst_report.proofs.Cited.{◌≡◌, List, ◌++◌, Result, Ok, Err, ap, ◌∙◌, append_assoc, OnOk, Token}

pub written : (old mid new ts us : List Token) → mid ≡ old ++ ts → new ≡ mid ++ us → new ≡ old ++ (ts ++ us)
written old mid new ts us p q = q ∙ ap (λ xs. xs ++ us) p ∙ append_assoc old ts us

pub written_last : {E : Type 0} (r : Result (Unit {0}) E) (old mid new ts us : List Token) → mid ≡ old ++ ts → OnOk r (new ≡ mid ++ us) → OnOk r (new ≡ old ++ (ts ++ us))
written_last (Ok u) old mid new ts us p q = written old mid new ts us p q
written_last (Err e) old mid new ts us p q = tt

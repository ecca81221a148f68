-- Known bytes that are written piece by piece.
use Rattle.typst_protocol.proofs.Cited.{◌≡◌, ℕ, ◌+◌, ◌≤◌, min, List, ◌++◌, Option, Result, OnOk, length, take, drop, refl, subst, sym, ap, ◌∙◌, arith, take_all, Appends-trans, Appends, Begins}
use Rattle.std.proofs.lemmas.List.{drop_at, take-append-le, take_at, take_min}
use lib.Seq.{take-add}

pub Appends-piece : (a b c : Option (List ℕ)) (bytes : List ℕ) (done n : ℕ) → Appends a b (take done bytes) → Appends b c (take n (drop done bytes))
    → Appends a c (take (done + n) bytes)
Appends-piece a b c bytes done n before piece =
    subst (λ bs. Appends a c bs) (sym (take-add done n bytes)) (Appends-trans a b c (take done bytes) (take n (drop done bytes)) before piece)

pub begins-front : (a b : Option (List ℕ)) (bytes rest : List ℕ) → Begins a b bytes → Begins a b (bytes ++ rest)
begins-front a b bytes rest h =
    let within : min h.0 (length bytes) ≤ length bytes = omega arith in
    (min h.0 (length bytes), subst (Appends a b) (sym (take-append-le (min h.0 (length bytes)) bytes rest within ∙ take_min h.0 bytes)) h.1)

pub begins-after : (a b c : Option (List ℕ)) (front bytes : List ℕ) → Appends a b front → Begins b c bytes → Begins a c (front ++ bytes)
begins-after a b c front bytes before h =
    let split : take (length front + h.0) (front ++ bytes) ≡ front ++ take h.0 bytes =
    take-add (length front) h.0 (front ++ bytes) ∙ ap (λ xs. xs ++ take h.0 (drop (length front) (front ++ bytes))) (take_at front bytes (length front) refl)
    ∙ ap (λ ys. front ++ take h.0 ys) (drop_at front bytes (length front) refl) in
    (length front + h.0, subst (Appends a c) (sym split) (Appends-trans a b c front (take h.0 bytes) before h.1))

pub begins-whole : (a b : Option (List ℕ)) (bytes : List ℕ) → Appends a b bytes → Begins a b bytes
begins-whole a b bytes h = (length bytes, subst (Appends a b) (sym (take_all (length bytes) bytes (omega arith))) h)

pub on-ok : {T E : Type 0} (r : Result T E) (P : Type 0) → P → OnOk r P
on-ok r P p = grind arith

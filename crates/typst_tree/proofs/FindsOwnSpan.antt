-- A span finds its own node.
use Rattle.typst_tree.proofs.Cited.{◌≡◌, ℕ, zero, suc, ◌+◌, List, ◌∷◌, length, true, Option, Some, refl, ap, sym, ◌∙◌, arith, inl, inr, [], none-some, Tree, places, first_at, has_span, same_place, slice_get, cases_Bool}
use Rattle.std.specs.Option.{option_map}
use Rattle.typst_tree.specs.Steps.{At, at, node_of, start_of, find_span, SpansDiffer, FindsOwn}
use Rattle.typst_tree.proofs.SingleNodes.{place_same}

first_own : (span : Option (ℕ × ℕ)) (n a : ℕ) (xs : List Tree) (i : ℕ) (t : Tree) → SpansDiffer xs → slice_get xs i ≡ Some t → t.head.span ≡ span → first_at (has_span span) n a xs ≡ Some (n + i)
first_own span n a [] i t d g e = absurd (none-some t g)
first_own span n a (x ∷ xs) zero t d g e = grind arith
first_own span n a (x ∷ xs) (suc i) t d g e =
    let clash : same_place x.head.span span ≡ true → ⊥ = λ holds. (let same : zero ≡ suc i = d zero (suc i) x t refl g (place_same x.head.span span holds ∙ sym e) in omega (arith, same)) in
    let number : n + 1 + i ≡ n + suc i = omega arith in
    let later : SpansDiffer xs = λ j k u v p q r. (let next : suc j ≡ suc k = d (suc j) (suc k) u v p q r in omega (arith, next)) in
    let rest : first_at (has_span span) (n + 1) (a + length x.head.text) xs ≡ Some (n + 1 + i) = first_own span (n + 1) (a + length x.head.text) xs i t later g e in
    elim (cases_Bool (same_place x.head.span span)) [ inl holds ↦ absurd (clash holds) | inr fails ↦ (rw fails (rest ∙ ap (λ m. Some m) number)) ]

pub finds_own : (span : Option (ℕ × ℕ)) (a : At) → FindsOwn span a (find_span span a)
finds_own span a i t d g e = ap (option_map (at a.root)) (first_own span a.number (start_of a) (places (node_of a)) i t d g e)

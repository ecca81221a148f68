-- After an error that stands before a node, nothing is said of it.
use Rattle.typst_grammar.proofs.Cited.{◌≡◌, ℕ, zero, suc, ◌+◌, true, false, ◌&&◌, ◌||◌, nat_lt, List, [], ◌∷◌, ◌++◌, take, Option, Some, None, ap, ◌∙◌, ◌⊎◌, inl, inr, arith, and_parts, is_error, Place, moved, Tree, forest, all_advised, CharClasses, Point, Shape, hinted_last, hinted, holds, Backs, Outcome, Meaning, joined, answered, grown, is_more, growths, less-none, on_both, on_if, any_errors}
use Rattle.typst_grammar.proofs.Fine.{advised-kind, Fines, or-left, or-right}
use Rattle.typst_grammar.proofs.FineRuns.{AllBind, Binds, binds-joined, still-shaped}
use Rattle.typst_grammar.proofs.Grown.{Operand}

-- an error is among a given number of first nodes
abbrev pub Stuck : ℕ → List Tree → Type 0
Stuck zero ts = ⊥
Stuck (suc m) [] = ⊥
Stuck (suc m) (t ∷ ts) = (is_error t.head.kind ≡ true) ⊎ Stuck m ts

stuck-append : (m : ℕ) (ts us : List Tree) → Stuck m ts → Stuck m (ts ++ us)
stuck-append zero ts us h = absurd h
stuck-append (suc m) [] us h = absurd h
stuck-append (suc m) (t ∷ ts) us (inl e) = inl e
stuck-append (suc m) (t ∷ ts) us (inr h) = inr (stuck-append m ts us h)

stuck-take : (m : ℕ) (ts us : List Tree) → Stuck m ts → Stuck m (take m ts ++ us)
stuck-take zero ts us h = absurd h
stuck-take (suc m) [] us h = absurd h
stuck-take (suc m) (t ∷ ts) us (inl e) = inl e
stuck-take (suc m) (t ∷ ts) us (inr h) = inr (stuck-take m ts us h)

stuck-last : (hints : List (List ℕ)) (m : ℕ) (ts : List Tree) → Stuck m ts → Stuck m (hinted_last hints ts)
stuck-last hints zero ts h = absurd h
stuck-last hints (suc m) [] h = absurd h
stuck-last hints (suc m) (t ∷ []) (inl e) = inl (on_both (λ (u : Tree). is_error u.head.kind ≡ true) (is_error t.head.kind) (all_advised hints t) t (ap is_error (advised-kind hints t) ∙ e) e)
stuck-last hints (suc m) (t ∷ []) (inr h) = inr h
stuck-last hints (suc m) (t ∷ u ∷ ts) (inl e) = inl e
stuck-last hints (suc m) (t ∷ u ∷ ts) (inr h) = inr (stuck-last hints m (u ∷ ts) h)

stuck-hinted : (hints : List (List ℕ)) (m : ℕ) (ts : List Tree) → Stuck m ts → Stuck m (hinted hints ts)
stuck-hinted hints m ts h = grind (arith, stuck-last)

fines-stuck : (m : ℕ) (ts us : List Tree) → Stuck m ts → Fines ts → Fines (take m ts ++ us)
fines-stuck zero ts us h f = absurd h
fines-stuck (suc m) [] us h f = absurd h
fines-stuck (suc m) (t ∷ ts) us (inl e) f = (f.0, inl e)
fines-stuck (suc m) (t ∷ ts) us (inr h) (x, inl e) = (x, inl e)
fines-stuck (suc m) (t ∷ ts) us (inr h) (x, inr f) = (x, inr (fines-stuck m ts us h f))

stuck-wrong : (m : ℕ) (ts : List Tree) → Stuck m ts → any_errors (forest ts) ≡ false → ⊥
stuck-wrong zero ts h n = h
stuck-wrong (suc m) [] h n = h
stuck-wrong (suc m) (t ∷ ts) (inl e) n = let x = or-left (is_error t.head.kind) (any_errors t.kids || any_errors (forest ts)) n in cc
stuck-wrong (suc m) (t ∷ ts) (inr h) n = stuck-wrong m ts h (or-right (any_errors t.kids) (any_errors (forest ts)) (or-right (is_error t.head.kind) (any_errors t.kids || any_errors (forest ts)) n))

-- a shape that makes a node over all
abbrev pub Holds : Option Shape → Type 0
Holds None = Unit {0}
Holds (Some (holds change k)) = Unit {0}
Holds (Some _) = ⊥

module _ (k : CharClasses) (least : ℕ) {A : Type 0} (n : ℕ) (z : Place) (s : Point) where
  -- an error stands among what stays before each node that is made
  pub record Lost (o : Outcome A) : Type 0 where
    pub binds : Binds o
    pub stuck : Stuck (n + o.back) o.nodes
    pub few : o.state.empties ≡ 0

  operand-stuck : (m : ℕ) (o : Outcome A) → Binds o → Stuck m o.nodes → Operand k least z s o
  operand-stuck m o b h = record { binds = b; last = λ sane. absurd (stuck-wrong m o.nodes h sane) }

  module _ (m : A → Meaning (Option Shape × A)) (binds : (x : A) → AllBind (m x)) (tidy : (x : A) → Backs (m x)) (shapes : (x : A) (w : Place) (t : Point) → Holds (m x w t).value.0) where
    stuck-joined : (o : Outcome A) (p : Outcome (Option Shape × A)) → p.back ≡ 0 → Stuck (n + o.back) o.nodes → Stuck (n + (joined o p).back) (joined o p).nodes
    stuck-joined o p e h = grind (arith, stuck-append, stuck-hinted, less-none)

    next-lost : (v : Option Shape) → Holds v → (o : Outcome A) → Binds o → Stuck (n + o.back) o.nodes → Binds (grown n v o) × Stuck (n + (grown n v o).back) (grown n v o).nodes
    next-lost v e o b h = grind (arith, fines-stuck, still-shaped, stuck-take)

    few-more : (v : Option Shape) → Holds v → (o : Outcome A) → is_more v ≡ true → (grown n v o).state.empties ≡ 0
    few-more v e o f = grind arith

    pub operand-lost : (fuel : ℕ) (o : Outcome A) → Lost o → Operand k least z s (growths m n fuel o z)
    operand-lost zero o h = operand-stuck (n + o.back) o h.binds h.stuck
    operand-lost (suc fuel) o h =
        let w = moved o.taken z in
        let p = m o.value w o.state in
        let back = (tidy o.value w o.state).back in
        let few = h.few in
        let x = answered p.value.1 (joined o p) in
        let all = binds-joined o p h.binds (binds o.value w o.state h.binds.known) in
        let next = next-lost p.value.0 (shapes o.value w o.state) x (record { nodes = all.nodes; known = all.known }) (stuck-joined o p (omega (arith, back, few)) h.stuck) in
        let grew = grown n p.value.0 x in
        on_if (λ (u : Outcome A). Operand k least z s u) (is_more p.value.0 && nat_lt 0 p.taken) (growths m n fuel grew z) grew
        (λ c. operand-lost fuel grew (record { binds = next.0; stuck = next.1; few = few-more p.value.0 (shapes o.value w o.state) x (and_parts (is_more p.value.0) (nat_lt 0 p.taken) c).0 }))
        (λ c. operand-stuck (n + grew.back) grew next.0 next.1)

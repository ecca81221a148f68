-- Hints for an error that was given, and the nodes that stand after one outcome and the next.
use Rattle.typst_language.proofs.Cited.{◌≡◌, ℕ, zero, suc, ◌+◌, ◌-◌, ◌<◌, ◌≤◌, Bool, if◌then◌else◌, nat_lt, List, [], ◌∷◌, ◌++◌, length, take, append_assoc, append-nil, inl, inr, refl, ap, sym, ◌∙◌, arith, cases_lt, lt-ltb, le-ltb, is_error, hinted_error, hinted_last, hinted, Outcome, less, standing, joined, None}
use Rattle.typst_lexer.specs.Diagnostic.{hint_with}
use Rattle.typst_lexer.specs.Tree.{Tree, advised, all_advised}
use Rattle.typst_language.proofs.Places.{less-append, less-twice, less-none, length-less}
use Rattle.std.proofs.lemmas.List.{nil_from_length}

length-last : (hs : List (List ℕ)) (ts : List Tree) → length (hinted_last hs ts) ≡ length ts
length-last hs [] = refl
length-last hs (t ∷ []) = refl
length-last hs (t ∷ u ∷ ts) = ap suc (length-last hs (u ∷ ts))

pub length-hinted : (hs : List (List ℕ)) (ts : List Tree) → length (hinted hs ts) ≡ length ts
length-hinted hs ts = grind (arith, length-last)

pub hinted-none : (hs : List (List ℕ)) → hinted hs [] ≡ []
hinted-none hs = grind arith

last-append : (hs : List (List ℕ)) (ts : List Tree) (u : Tree) (us : List Tree) → hinted_last hs (ts ++ u ∷ us) ≡ ts ++ hinted_last hs (u ∷ us)
last-append hs [] u us = refl
last-append hs (t ∷ []) u us = refl
last-append hs (t ∷ v ∷ ts) u us = ap (λ l. t ∷ l) (last-append hs (v ∷ ts) u us)

-- a hint reaches the last node alone
pub hinted-append : (hs : List (List ℕ)) (ts us : List Tree) → 0 < length us → hinted hs (ts ++ us) ≡ ts ++ hinted hs us
hinted-append [] ts us h = refl
hinted-append (x ∷ hs) ts [] h = absurd (omega arith)
hinted-append (x ∷ hs) ts (u ∷ us) h = last-append (x ∷ hs) ts u us

-- what is not the last of them stays
take-last : (k : ℕ) (hs : List (List ℕ)) (ts : List Tree) → k < length ts → take k (hinted_last hs ts) ≡ take k ts
take-last k hs [] h = absurd (omega arith)
take-last zero hs (t ∷ []) h = refl
take-last (suc k) hs (t ∷ []) h = absurd (omega arith)
take-last zero hs (t ∷ u ∷ ts) h = refl
take-last (suc k) hs (t ∷ u ∷ ts) h = let l : k < length (u ∷ ts) = omega arith in ap (λ x. t ∷ x) (take-last k hs (u ∷ ts) l)

take-hinted : (k : ℕ) (hs : List (List ℕ)) (ts : List Tree) → k < length ts → take k (hinted hs ts) ≡ take k ts
take-hinted k hs ts h = grind (arith, take-last)

less-hinted : (n : ℕ) (hs : List (List ℕ)) (ts : List Tree) → 0 < n → less n (hinted hs ts) ≡ less n ts
unfolding less
less-hinted n hs ts h = grind (arith, hinted-none, length-hinted, take-hinted)

-- ---- hints on hints

pub advised-kind : (hs : List (List ℕ)) (t : Tree) → (all_advised hs t).head.kind ≡ t.head.kind
advised-kind [] t = refl
advised-kind (h ∷ hs) t = advised-kind hs (advised (hint_with None h) t)

advised-twice : (hs ks : List (List ℕ)) (t : Tree) → all_advised ks (all_advised hs t) ≡ all_advised (hs ++ ks) t
advised-twice [] ks t = refl
advised-twice (h ∷ hs) ks t = advised-twice hs ks (advised (hint_with None h) t)

if-error : (b : Bool) (hs ks : List (List ℕ)) (t : Tree) → is_error t.head.kind ≡ b → hinted_error ks (if b then all_advised hs t else t) ≡ (if b then all_advised (hs ++ ks) t else t)
if-error b hs ks t e = grind (arith, advised-kind, advised-twice)

error-twice : (hs ks : List (List ℕ)) (t : Tree) → hinted_error ks (hinted_error hs t) ≡ hinted_error (hs ++ ks) t
error-twice hs ks t = if-error (is_error t.head.kind) hs ks t refl

last-twice : (hs ks : List (List ℕ)) (ts : List Tree) → hinted_last ks (hinted_last hs ts) ≡ hinted_last (hs ++ ks) ts
last-twice hs ks [] = refl
last-twice hs ks (t ∷ []) = ap (λ x. x ∷ []) (error-twice hs ks t)
last-twice hs ks (t ∷ u ∷ ts) = last-more hs ks t u ts (last-twice hs ks (u ∷ ts))
  where
    -- what a hint leaves of several nodes is several nodes
    last-more : (hs ks : List (List ℕ)) (t u : Tree) (ts : List Tree) → hinted_last ks (hinted_last hs (u ∷ ts)) ≡ hinted_last (hs ++ ks) (u ∷ ts)
        → hinted_last ks (t ∷ hinted_last hs (u ∷ ts)) ≡ t ∷ hinted_last (hs ++ ks) (u ∷ ts)
    last-more hs ks t u ts e = grind arith

pub hinted-twice : (hs ks : List (List ℕ)) (ts : List Tree) → hinted ks (hinted hs ts) ≡ hinted (hs ++ ks) ts
hinted-twice hs ks ts = grind (arith, append-nil, last-twice)

-- ---- one outcome after the other

abbrev three : {A : Type 0} → ℕ → ℕ → A → A → A → A
three b n x y z = if nat_lt b n then x else (if nat_lt n b then y else z)

three-first : {A : Type 0} (b n : ℕ) (x y z : A) → b < n → three b n x y z ≡ x
three-first b n x y z h = rw (lt-ltb b n h) refl

three-second : {A : Type 0} (b n : ℕ) (x y z : A) → n < b → three b n x y z ≡ y
three-second b n x y z h = let l : n ≤ b = omega arith in rw (le-ltb b n l, lt-ltb n b h) refl

three-third : {A : Type 0} (b n : ℕ) (x y z : A) → b ≡ n → three b n x y z ≡ z
three-third b n x y z h = let l : n ≤ b = omega arith in let m : b ≤ n = omega arith in rw (le-ltb b n l, le-ltb n b m) refl

-- the nodes after both outcomes are those after the second, where those after the first stood
pub standing-joined : {A B : Type 0} (o : Outcome B) (p : Outcome A) (ts : List Tree) → standing (joined o p) ts ≡ standing p (standing o ts)
standing-joined o p ts =
    let n = length o.nodes in
    let base = less o.back ts in
    let first = hinted o.hints base in
    let rest = less p.back o.nodes in
    let len = length-less p.back o.nodes in
    let split = less-append p.back first o.nodes in
    elim (cases_lt p.back n) [
      | inl l ↦ (
          let z : p.back - n ≡ 0 = omega arith in
          let b : o.back + (p.back - n) ≡ o.back = omega arith in
          let some : 0 < length rest = omega (arith, len, l) in
          ap (λ hs. hinted hs (less (o.back + (p.back - n)) ts) ++ (hinted p.hints rest ++ p.nodes)) (three-first p.back n o.hints p.hints (o.hints ++ p.hints) l)
          ∙ ap (λ k. hinted o.hints (less k ts) ++ (hinted p.hints rest ++ p.nodes)) b
          ∙ sym (append_assoc first (hinted p.hints rest) p.nodes)
          ∙ ap (λ x. x ++ p.nodes) (sym (hinted-append p.hints first rest some) ∙ ap (λ x. hinted p.hints (x ++ rest)) (sym (ap (λ k. less k first) z ∙ less-none first)) ∙ ap (hinted p.hints) (sym split)))
      | inr g ↦ (
          let none : rest ≡ [] = nil_from_length rest (omega (arith, len, g)) in
          elim (cases_lt n p.back) [
            | inl l ↦ (
                let some : 0 < p.back - n = omega arith in
                ap (λ hs. hinted hs (less (o.back + (p.back - n)) ts) ++ (hinted p.hints rest ++ p.nodes)) (three-second p.back n o.hints p.hints (o.hints ++ p.hints) l)
                ∙ ap (λ x. hinted p.hints (less (o.back + (p.back - n)) ts) ++ (hinted p.hints x ++ p.nodes)) none
                ∙ ap (λ x. hinted p.hints (less (o.back + (p.back - n)) ts) ++ (x ++ p.nodes)) (hinted-none p.hints)
                ∙ ap (λ x. hinted p.hints x ++ p.nodes) (sym (less-twice o.back (p.back - n) ts) ∙ sym (less-hinted (p.back - n) o.hints base some) ∙ sym (append-nil (less (p.back - n) first)) ∙ ap (λ x. less (p.back - n) first ++ x) (sym none) ∙ sym split))
            | inr m ↦ (
                let same : p.back ≡ n = omega arith in
                let z : p.back - n ≡ 0 = omega arith in
                let b : o.back + (p.back - n) ≡ o.back = omega arith in
                ap (λ hs. hinted hs (less (o.back + (p.back - n)) ts) ++ (hinted p.hints rest ++ p.nodes)) (three-third p.back n o.hints p.hints (o.hints ++ p.hints) same)
                ∙ ap (λ k. hinted (o.hints ++ p.hints) (less k ts) ++ (hinted p.hints rest ++ p.nodes)) b
                ∙ ap (λ x. hinted (o.hints ++ p.hints) base ++ (hinted p.hints x ++ p.nodes)) none
                ∙ ap (λ x. hinted (o.hints ++ p.hints) base ++ (x ++ p.nodes)) (hinted-none p.hints)
                ∙ ap (λ x. x ++ p.nodes) (sym (hinted-twice o.hints p.hints base)
                ∙ ap (hinted p.hints) (sym (append-nil first) ∙ ap (λ x. first ++ x) (sym none) ∙ ap (λ x. x ++ rest) (sym (ap (λ k. less k first) z ∙ less-none first)) ∙ sym split)))
          ])
    ]

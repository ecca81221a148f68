-- What takes the token at hand before all else.
use Rattle.typst_grammar.proofs.Cited.{◌≡◌, ℕ, Bool, true, false, ◌&&◌, ◌||◌, List, [], ◌∷◌, refl, ap, subst, ◌∙◌, and_parts, among, same, SyntaxKind, AtHand, Begin, Parser, hand, column, takes, gives, does, next, pick, repeat, wraps, grows, nests, scoped, either, calls, block, same-is, at_token}

abbrev pub is_at_token : Begin → Bool
is_at_token at_token = true
is_at_token _ = false

-- A parser takes this token before all else, or it only looks at it, and then this holds of whether it was looked at and of the answer. A block may be read if that is allowed, and a node begins only where the token was looked at.
abbrev pub Begins : {A : Type 0} → AtHand → Bool → Bool → (Bool → A → Type 0) → Parser A → Type 0
Begins a blocks looked rest (gives x) = rest looked x
Begins a blocks looked rest (does hand) = rest true a
Begins a blocks looked rest (does column) = (n : ℕ) → rest true n
Begins a blocks looked rest (does (takes trims making)) = trims ≡ false
Begins a blocks looked rest (does _) = ⊥
Begins a blocks looked rest (next p f) = Begins a blocks looked (λ seen b. Begins a blocks seen rest (f b)) p
Begins a blocks looked rest (pick b p q) = (b ≡ true → Begins a blocks looked rest p) × (b ≡ false → Begins a blocks looked rest q)
Begins a blocks looked rest (repeat p x) = Begins a blocks looked (λ _ _. ⊥) (p x)
Begins a blocks looked rest (wraps f begin p) = ((looked && is_at_token begin) ≡ true) × Begins a blocks looked (λ _ _. ⊥) p
Begins a blocks looked rest (grows begin p f) = ((looked && is_at_token begin) ≡ true) × Begins a blocks looked (λ _ _. ⊥) p
Begins a blocks looked rest (nests f begin p x) = ((looked && is_at_token begin) ≡ true) × Begins a blocks looked (λ _ _. ⊥) (p x)
Begins a blocks looked rest (scoped f p) = Begins a blocks looked (λ _ _. ⊥) p
Begins a blocks looked rest (either p is_wrong q) = Begins a blocks looked (λ _ _. ⊥) p × Begins a blocks looked (λ _ _. ⊥) q
Begins a blocks looked rest (calls c) = ⊥
Begins a blocks looked rest (block b) = blocks ≡ true

-- it takes this token before all else
abbrev pub EatsFirst : {A : Type 0} → AtHand → Bool → Bool → Parser A → Type 0
EatsFirst a blocks looked p = Begins a blocks looked (λ _ _. ⊥) p

-- ---- tables of kinds

-- a test holds of each of some kinds
abbrev pub every : (SyntaxKind → Bool) → List SyntaxKind → Bool
every f [] = true
every f (k ∷ ks) = f k && every f ks

-- what holds of every kind of a list holds of each
pub every-among : (f : SyntaxKind → Bool) (ks : List SyntaxKind) → every f ks ≡ true → (k : SyntaxKind) → among ks k ≡ true → f k ≡ true
every-among f [] h k e = absurd (cc)
every-among f (j ∷ ks) h k e = of-first (same j k) refl (λ others. every-among f ks (and_parts (f j) (every f ks) h).1 k others)
  where
    of-first : (b : Bool) → same j k ≡ b → (among ks k ≡ true → f k ≡ true) → f k ≡ true
    of-first true i rest = ap f (same-is j k i) ∙ (and_parts (f j) (every f ks) h).0
    of-first false i rest = rest (subst (λ b. (b || among ks k) ≡ true) i e)

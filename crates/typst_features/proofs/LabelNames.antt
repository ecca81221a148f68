-- Names without their marks.
use Rattle.typst_features.proofs.Cited.{◌≡◌, ◌≢◌, ℕ, List, [], ◌∷◌, ◌++◌, reverse, Option, Some, None, option_map, ap, sym, ◌∙◌, arith, MatchOption, reverse-append, reverse-reverse, without_first, without_last, Bor}

first_is : (c : ℕ) (bs : List ℕ) (r : Option (List ℕ)) → MatchOption r ((rest : List ℕ) → bs ≢ (c ∷ rest)) (λ x. bs ≡ c ∷ x) → r ≡ without_first c bs
first_is c bs r h = grind arith

last_is : (c : ℕ) (bs : List ℕ) (r : Option (List ℕ)) → MatchOption r ((front : List ℕ) → bs ≢ (front ++ c ∷ [])) (λ x. bs ≡ x ++ c ∷ []) → r ≡ without_last c bs
last_is c bs None h =
    let lacks : (rest : List ℕ) → reverse bs ≢ (c ∷ rest) = λ rest e. h (reverse rest) (sym (reverse-reverse bs) ∙ ap reverse e ∙ reverse-append (c ∷ []) rest) in
    ap (option_map reverse) (first_is c (reverse bs) None lacks)
last_is c bs (Some x) h = grind (arith, reverse-append, reverse-reverse, first_is)

-- what is left of a text without the character at its front, and at its end
pub stripped_first : (c : ℕ) (bs : List ℕ) (r : Option (Bor (List ℕ))) → MatchOption r ((rest : List ℕ) → bs ≢ (c ∷ rest)) (λ x. bs ≡ c ∷ x.now) → option_map (λ s. s.now) r ≡ without_first c bs
stripped_first c bs r h = grind arith

pub stripped_last : (c : ℕ) (bs : List ℕ) (r : Option (Bor (List ℕ))) → MatchOption r ((front : List ℕ) → bs ≢ (front ++ c ∷ [])) (λ x. bs ≡ x.now ++ c ∷ []) → option_map (λ s. s.now) r ≡ without_last c bs
stripped_last c bs None h = last_is c bs None h
stripped_last c bs (Some x) h = last_is c bs (Some x.now) h

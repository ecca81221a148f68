-- Steps over the characters of a link.
use Rattle.typst_lines.proofs.Cited.{◌≡◌, ℕ, zero, suc, Bool, true, false, not, ◌&&◌, ◌==◌, List, [], ◌∷◌, ◌++◌, length, take, reverse, slice_get, Option, Some, None, refl, sym, ap, ◌∙◌, arith, append_assoc, append-nil, reverse-append, chars-nil, list_all, chars, CharClasses, Place, place_at, moved, moved_from, scout, is_name, is_label_id, after, front, without_last_signs, link_prefix}

abbrev at : List ℕ → List ℕ → Place
at before ahead = record { before = before; ahead = ahead }

-- a front is the beginning
pub front-taken : (awaited cs : List ℕ) → take (length (front awaited cs).0) cs ≡ (front awaited cs).0
front-taken awaited [] = refl
front-taken awaited (c ∷ cs) = cases (after awaited c) refl (λ inside. front-taken inside cs)
  where
    cases : (o : Option (List ℕ)) → after awaited c ≡ o → ((inside : List ℕ) → take (length (front inside cs).0) cs ≡ (front inside cs).0) → take (length (front awaited (c ∷ cs)).0) (c ∷ cs) ≡ (front awaited (c ∷ cs)).0
    cases o e h = grind arith

-- what is still to be read of a link
pub record Left (awaited : List ℕ) (p : Place) (start : Place) : Type 0 where
  pub ends : moved (length (front awaited p.ahead).0) p ≡ moved (length (front [] start.ahead).0) start
  pub brackets : (front awaited p.ahead).1 ≡ (front [] start.ahead).1

pub left-step : (awaited inside : List ℕ) (p q start : Place) (c : ℕ) → Left awaited p start → Some c ≡ scout 0 p → after awaited c ≡ Some inside → q ≡ moved 1 p → Left inside q start
left-step awaited inside p q start c h s e m = grind arith

pub left-stop : (awaited : List ℕ) (p start : Place) (c : ℕ) → Left awaited p start → Some c ≡ scout 0 p → after awaited c ≡ None → (p ≡ moved (length (front [] start.ahead).0) start) × (awaited ≡ (front [] start.ahead).1)
left-stop awaited p start c h s e = from p.ahead refl
  where
    from : (ys : List ℕ) → p.ahead ≡ ys → (p ≡ moved (length (front [] start.ahead).0) start) × (awaited ≡ (front [] start.ahead).1)
    from [] a = let bad : Some c ≡ None = s ∙ ap (λ x. slice_get x 0) a in absurd (cc)
    from (d ∷ ys) a = grind arith

pub left-end : (awaited : List ℕ) (p start : Place) → Left awaited p start → None ≡ scout 0 p → (p ≡ moved (length (front [] start.ahead).0) start) × (awaited ≡ (front [] start.ahead).1)
left-end awaited p start h s = from p.ahead refl
  where
    from : (ys : List ℕ) → p.ahead ≡ ys → (p ≡ moved (length (front [] start.ahead).0) start) × (awaited ≡ (front [] start.ahead).1)
    from [] a = grind arith
    from (d ∷ ys) a = let bad : None ≡ Some d = s ∙ ap (λ x. slice_get x 0) a in absurd (cc)

-- ---- the characters before

pub before-from : (n : ℕ) (xs ys : List ℕ) → reverse (moved_from n xs ys).before ≡ reverse xs ++ take n ys
before-from zero xs ys = sym (append-nil (reverse xs))
before-from (suc n) xs [] = sym (append-nil (reverse xs))
before-from (suc n) xs (c ∷ ys) = before-from n (c ∷ xs) ys ∙ ap (λ t. t ++ take n ys) (reverse-append (c ∷ []) xs) ∙ append_assoc (reverse xs) (c ∷ []) (take n ys)

start-of : (text : List ℕ) → place_at text 0 ≡ at [] (chars text)
unfolding place_at
start-of text = ap (λ x. at (reverse x) (chars text)) chars-nil

-- the front of a text
pub front-before : (text : List ℕ) (p q : Place) → p ≡ place_at text 0 → q ≡ moved (length (front [] p.ahead).0) p → reverse q.before ≡ (front [] (chars text)).0
front-before text p q e m = grind (arith, start-of, before-from, front-taken)

pub front-of : (text : List ℕ) (p : Place) → p ≡ place_at text 0 → p.ahead ≡ chars text
front-of text p e = ap (λ x. x.ahead) (e ∙ start-of text)

pub link-is : (cs link : List ℕ) (b : Bool) → link ≡ without_last_signs (front [] cs).0 → b ≡ (length (front [] cs).1 == 0) → (link, b) ≡ link_prefix cs
unfolding link_prefix
link-is cs link b e f = ap (λ x. (x, b)) e ∙ ap (λ x. (without_last_signs (front [] cs).0, x)) f

-- ---- names

pub label-some : (k : CharClasses) (cs : List ℕ) (b : Bool) → (length cs == 0) ≡ false → b ≡ list_all (is_name k) cs → b ≡ is_label_id k cs
label-some k cs b e f = f ∙ sym (ap (λ x. not x && list_all (is_name k) cs) e)

pub label-none : (k : CharClasses) (cs : List ℕ) → (length cs == 0) ≡ true → false ≡ is_label_id k cs
label-none k cs e = sym (ap (λ x. not x && list_all (is_name k) cs) e)

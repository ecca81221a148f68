-- Whether a text is a letter, or several of them, by what a scanner saw of it.
use Rattle.typst_markup.proofs.Cited.{◌≡◌, ℕ, Bool, true, false, ◌||◌, List, [], ◌∷◌, Option, Some, None, refl, sym, ap, ◌∙◌, arith, Place, place_at, moved, moved_from, scout, are_letters, is_alphabetic, list_all, is_none, chars, CharClasses}
use Rattle.std.specs.Prelude.{slice_get}

none-of : (k : CharClasses) (cs : List ℕ) → slice_get cs 0 ≡ None → true ≡ are_letters k cs
none-of k cs e = grind arith

alone : (cs before : List ℕ) (c : ℕ) → slice_get cs 0 ≡ Some c → is_none (slice_get (moved_from 1 before cs).ahead 0) ≡ true → cs ≡ c ∷ []
alone [] before c e f = absurd (cc)
alone (x ∷ []) before c e f = cc
alone (x ∷ y ∷ cs) before c e f = absurd (cc)

several : (k : CharClasses) (cs before : List ℕ) → is_none (slice_get (moved_from 1 before cs).ahead 0) ≡ false → are_letters k cs ≡ list_all k.alphabetic cs
several k [] before f = refl
several k (x ∷ []) before f = absurd (cc)
several k (x ∷ y ∷ cs) before f = refl

either-so : (a m b : Bool) → b ≡ a → b ≡ true → b ≡ (a || m)
either-so a m b e f = grind arith

either-by : (a m b r : Bool) → b ≡ a → b ≡ false → r ≡ m → r ≡ (a || m)
either-by a m b r e f g = grind arith

module _ (k : CharClasses) (text : List ℕ) (p : Place) (start : p ≡ place_at text 0) where
  from-start : p.ahead ≡ chars text
  unfolding place_at
  from-start = ap (λ (x : Place). x.ahead) start

  -- an empty text has no letters
  pub none-letters : {first : Option ℕ} → first ≡ scout 0 p → first ≡ None → true ≡ are_letters k (chars text)
  none-letters e f = none-of k (chars text) (ap (λ cs. slice_get cs 0) (sym from-start) ∙ sym e ∙ f)

  module _ (q : Place) (goes : q ≡ moved 1 p) {done : Bool} (d : done ≡ is_none (scout 0 q)) where
    one : {first : Option ℕ} (c : ℕ) → first ≡ scout 0 p → first ≡ Some c → done ≡ true → chars text ≡ c ∷ []
    one c e f t = sym from-start ∙ alone p.ahead p.before c (sym e ∙ f) (ap (λ (x : Place). is_none (scout 0 x)) (sym goes) ∙ sym d ∙ t)

    -- one letter is a text of letters
    pub one-letter : {first : Option ℕ} (c : ℕ) {b : Bool} → first ≡ scout 0 p → first ≡ Some c → done ≡ true → b ≡ k.alphabetic c → b ≡ true → b ≡ are_letters k (chars text)
    one-letter c {b = b} e f t g h = either-so (k.alphabetic c) (is_alphabetic (k.math c)) b g h ∙ ap (are_letters k) (sym (one c e f t))

    -- it is one character, and a letter by its class
    pub one-by-class : {first : Option ℕ} (c : ℕ) {b r : Bool} → first ≡ scout 0 p → first ≡ Some c → done ≡ true → b ≡ k.alphabetic c → b ≡ false → r ≡ is_alphabetic (k.math c) → r ≡ are_letters k (chars text)
    one-by-class c {b = b} {r = r} e f t g h i = either-by (k.alphabetic c) (is_alphabetic (k.math c)) b r g h i ∙ ap (are_letters k) (sym (one c e f t))

    -- it is more than one character
    pub all-letters : done ≡ false → are_letters k (chars text) ≡ list_all k.alphabetic (chars text)
    all-letters t = ap (are_letters k) (sym from-start) ∙ several k p.ahead p.before (ap (λ (x : Place). is_none (scout 0 x)) (sym goes) ∙ sym d ∙ t) ∙ ap (list_all k.alphabetic) from-start

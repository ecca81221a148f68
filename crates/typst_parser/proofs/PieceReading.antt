-- Pieces that are read one after the other up to a byte.
use Rattle.typst_parser.proofs.Cited.{◌≡◌, inl, inr, ℕ, ◌+◌, ◌<◌, Bool, true, List, refl, ap, sym, subst, ◌∙◌, arith, CharClasses, Entry, HasRead, Reading, byte_after, pieces_by, MeetsOn, Fit, Grows, HasReadSome, HasReadTo, AllGo}
use Rattle.std.proofs.lemmas.Bool.{cases_lt}
use Rattle.typst_edits.specs.PieceReader.{PieceReader}
use Rattle.typst_parser.proofs.Places.{moved-on}

module _ (k : CharClasses) (r : Reading) where
  -- a reader stands where the token after its pieces begins
  pub reader-end : (m : ℕ) (p : PieceReader) → HasRead k r.levels r.which r.carried r.place m p → p.end ≡ byte_after k r m
  reader-end m p h = grind (arith, moved-on)

  pub some-next : (end : ℕ) (any : Bool) (p q : PieceReader) → (h : HasReadSome k r end any p) → p.end < end → HasRead k r.levels r.which r.carried r.place (h.count + 1) q → HasReadSome k r end true q
  some-next end any p q h less read = record {
    count = h.count + 1;
    read = read;
    some = ((λ e. omega arith), (λ l. refl));
    before = λ j l. by-last j (here j) l;
  }
    where
      here : (j : ℕ) → j ≡ h.count → byte_after k r j < end
      here j e = subst (λ n. n < end) (reader-end h.count p h.read ∙ ap (byte_after k r) (sym e)) less

      by-last : (j : ℕ) → (j ≡ h.count → byte_after k r j < end) → j < h.count + 1 → byte_after k r j < end
      by-last j f l = elim (cases_lt j h.count) [ inl less ↦ h.before j less | inr past ↦ f (omega (arith, past, l)) ]

  module _ (grows : Grows k r) (target : ℕ) (any : Bool) (p : PieceReader) (h : HasReadTo k r target any p) where
    fewer : (m : ℕ) → byte_after k r m ≡ target → m < h.has.count → ⊥
    fewer m e l = let b = h.has.before m l in omega (arith, b, e)

    more : (m : ℕ) → AllGo (pieces_by k r m) → byte_after k r m ≡ target → h.has.count < m → ⊥
    more m go e l = grind arith

    -- only so many may end at the byte
    only : (m : ℕ) → AllGo (pieces_by k r m) → byte_after k r m ≡ target → m ≡ h.has.count
    only m go e = let a = fewer m e in let b = more m go e in omega (arith, a, b)

    module _ (es : List Entry) (old new end to : ℕ) (led : Type 0) (y : Bool × ℕ) (shift : target + old ≡ end + new) where
      fit-at : (m : ℕ) → Fit k es r old new end to led y m → byte_after k r m ≡ target
      fit-at m f = let s = f.shifted in omega (arith, s, shift)

      fit-only : (m : ℕ) → Fit k es r old new end to led y m → m ≡ h.has.count
      fit-only m f = only m f.go (fit-at m f)

      -- where they do not end there, or do not meet what is there, none fit
      pub unfit : ((p.end ≡ target) × MeetsOn es r.which to led h.has.count y p.carried → ⊥) → (m : ℕ) → Fit k es r old new end to led y m → ⊥
      unfit never m f = grind (arith, reader-end, fit-only, fit-at)

      pub fitting : p.end ≡ target → MeetsOn es r.which to led h.has.count y p.carried → Fit k es r old new end to led y h.has.count
      fitting at meets = record {
        go = h.has.read.go;
        shifted = ap (λ n. n + old) (sym (reader-end h.has.count p h.has.read) ∙ at) ∙ shift;
        meets = subst (λ x. MeetsOn es r.which to led h.has.count y x) h.has.read.carried meets;
      }

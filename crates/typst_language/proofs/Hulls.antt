-- What was looked at for tokens, in bytes.
use Rattle.typst_language.proofs.Cited.{ℕ, zero, suc, ◌≤◌, Bool, true, false, if◌then◌else◌, arith, SyntaxMode, Place, moved, CharClasses, Hull, ahead_by, len_at, joined_hull, token_hull, tokens_by}
use Rattle.typst_language.proofs.Places.{moved-sum}
pub use Rattle.typst_tokens.proofs.Columns.{same-hull}

-- one hull lies in another
pub record In (u v : Hull) : Type 0 where
  pub reach : u.reach ≤ v.reach
  pub least : v.least ≤ u.least

pub in-both : (u v w : Hull) → In u v → In v w → In u w
in-both u v w i j = record { reach = omega (arith, i.reach, j.reach); least = omega (arith, i.least, j.least) }

pub itself-in : (u : Hull) → In u u
itself-in u = record { reach = omega arith; least = omega arith }

pub second-in : (u v : Hull) → In v (joined_hull u v)
second-in u v = record { reach = omega arith; least = omega arith }

pub on_pair : {A B : Type 0} (P : A → B → Type 0) (b : Bool) (x y : A) (u v : B) → P x u → P y v → P (if b then x else y) (if b then u else v)
on_pair P true x y u v p q = p
on_pair P false x y u v p q = q

module _ (k : CharClasses) (m : SyntaxMode) where
  -- the last of them
  pub own-in : (f : ℕ) (z : Place) → In (token_hull k m (moved (ahead_by k m f z).gap z)) (tokens_by k m f z)
  own-in zero z = itself-in (token_hull k m z)
  own-in (suc f) z =
      let l = len_at k m z in
      let w = moved l z in
      let g = (ahead_by k m f w).gap in
      let rest = own-in f w in
      let t = token_hull k m z in
      grind (arith, on_pair, moved-sum, in-both, second-in, itself-in)

  -- the first of them
  pub first-in : (f : ℕ) (z : Place) → In (token_hull k m z) (tokens_by k m f z)
  first-in f z = grind arith

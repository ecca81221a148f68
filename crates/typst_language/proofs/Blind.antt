-- What is known of first readings changes nothing that is read.
use Rattle.typst_language.proofs.Cited.{◌≡◌, refl, arith, Parser, Meaning, Level, Guessing, guessing, run}

-- what is made of the same is the same
under : {X A : Type 0} (f : X → Meaning A) {x y : X} → x ≡ y → ◌≡◌ {A = Meaning A} (f x) (f y)
under f e = rw e refl

module _ (g : Guessing) (l : Level) where
  abbrev told : Level
  told = guessing g l

  -- a parser reads the same wherever the level is the same except for what is known of first readings
  pub run-blind : {A : Type 0} (p : Parser A) → ◌≡◌ {A = Meaning A} (run told p) (run l p)
  unfolding run
  run-blind p = grind arith

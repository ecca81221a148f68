-- All tokens of a text as they are kept, of which some stand where they were before edits.
use Rattle.std.specs.Prelude.{◌≡◌, ℕ, ◌+◌, ◌<◌, ◌%◌, ◌^◌, List, ◌++◌, map, take, drop}
use Rattle.typst_styles.specs.Renewed.{wrapped}
use Rattle.typst_styles.specs.declared.tokens.Token.{Token}

-- the first tokens as they are, up to a number of them, and the others moved by a distance
abbrev pub in_places : ℕ → ℕ → List Token → List Token
in_places settled distance tokens = take settled tokens ++ map (wrapped distance) (drop settled tokens)

-- those before an index were put in their places, and what is left moves those behind it there, and on from there (of a private clause)
pub record IsSettled (settled distance index : ℕ) (old new : List Token) (left : ℕ) : Type 0 where
  pub front : take index new ≡ take index (in_places settled distance old)
  pub back : (by : ℕ) → by < 2 ^ 64 → map (wrapped ((left + by) % 2 ^ 64)) (drop index new) ≡ map (wrapped by) (drop index (in_places settled distance old))

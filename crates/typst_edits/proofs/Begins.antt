-- The test of looks, decided by comparisons.
use Rattle.typst_edits.proofs.Cited.{◌≡◌, ℕ, ◌+◌, Bool, true, ◌&&◌, nat_le, List, [], ◌∷◌, length, Ask, looked, marked, AllBeginIn, leb-true}
use Rattle.typst_lines.proofs.Bools.{and-first, and-second}

abbrev pub begins : ℕ → List ℕ → List Ask → Bool
begins past rest [] = true
begins past rest (looked at look ∷ asks) = nat_le look.back (past + at) && (nat_le (past + at) (length rest) && begins past rest asks)
begins past rest (marked at gap fewer mark s ∷ asks) = begins past rest asks

pub begins-all : (past : ℕ) (rest : List ℕ) (asks : List Ask) → begins past rest asks ≡ true → AllBeginIn past rest asks
begins-all past rest [] h = tt
begins-all past rest (looked at look ∷ asks) h =
    let more = and-second (nat_le look.back (past + at)) _ h in
    (leb-true look.back (past + at) (and-first (nat_le look.back (past + at)) _ h), leb-true (past + at) (length rest) (and-first (nat_le (past + at) (length rest)) _ more), begins-all past rest asks (and-second (nat_le (past + at) (length rest)) _ more))
begins-all past rest (marked at gap fewer mark s ∷ asks) h = begins-all past rest asks h

use Rattle.typst_flat.proofs.Cited.{◌≡◌, ℕ, ◌++◌, List, length, take, saturated, filled}
use Rattle.typst_flat.proofs.bytes.put.Given as goal

abbrev pub invariant-loop-i : goal.invariant-loop-i
invariant-loop-i l =
    (before old : List ℕ) → l.at ≡ saturated (length before) → l.fn.room ≡ filled before old → l.room ≡ filled (before ++ take l.i l.bytes) old

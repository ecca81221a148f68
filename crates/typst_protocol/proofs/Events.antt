-- Objects that are written member by member.
use Rattle.typst_protocol.proofs.Cited.{ℕ, Some, Result, OnOk, arith, Log, Logs, map_begins, map_ends, InMap}

-- an object is written where its end is
pub ends-map : {T E : Type 0} (r : Result T E) (n : ℕ) (inside : Log → Log → Type 0) (old first last new : Log) → Logs old first (map_begins (Some n)) → inside first last → OnOk r (Logs last new map_ends)
    → OnOk r (InMap n inside old new)
ends-map r n inside old first last new begins within ends = grind arith

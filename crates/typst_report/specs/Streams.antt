-- What is written, and which errors of streams come to an end.
use Rattle.std.specs.Prelude.{◌≢◌, ⊤, ℕ, List, take, Option}
use Rattle.std.specs.Io.KnownBytes.{Appends}
use Rattle.std.specs.IoError.{error_kind}
use Rattle.std.specs.declared.io.Error.{Error}
use Rattle.std.specs.declared.io.ErrorKind.TheVariants as kind
use Rattle.typst_report.specs.declared.streams.Unread.{Unread}
use Rattle.typst_report.specs.declared.streams.Unread.TheVariants as unread

-- known bytes grow by a beginning of bs
abbrev pub Begins : Option (List ℕ) → Option (List ℕ) → List ℕ → Type 0
Begins old new bs = (n : ℕ) × Appends old new (take n bs)

-- an error that ends the work: an interrupted call is made again
abbrev pub IsFinal : Error → Type 0
IsFinal e = error_kind e ≢ kind.Interrupted

-- an error of a read ends the reading
abbrev pub IsFinalRead : Unread → Type 0
IsFinalRead (unread.Failed e) = IsFinal e
IsFinalRead unread.OutOfMemory = ⊤

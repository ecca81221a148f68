-- What reading leaves of a stream.
use Rattle.std.specs.Prelude.{◌≡◌, ⊤, ℕ, ◌+◌, ◌<◌, ◌≤◌, List, length, take, drop, Option, None, Some, IfSome, Result, Ok, Err}
use Rattle.std.specs.Io.KnownBytes.{Appends}
use Rattle.typst_protocol.specs.Frames.{frame, head, line_len}
use Rattle.typst_protocol.specs.declared.frames.reader.End.{End}
use Rattle.typst_protocol.specs.declared.frames.reader.End.TheVariants.{CutOff, NotRead}
use Rattle.typst_protocol.specs.declared.frames.reader.Frame.{Frame}
use Rattle.typst_protocol.specs.declared.frames.reader.Frame.TheVariants.{Body, TooLong, OutOfMemory}

-- the bytes that are left, where they are known, and the end that was met, if one was
pub record Stream : Type 0 where
  pub left : Option (List ℕ)
  pub end : Option End

-- how many bytes the longest body has that is read
abbrev pub longest : ℕ
longest = 0x400_0000

-- an end that is answered is the one that has to be, but that the input couldn't be read may be answered anywhere
abbrev pub EndsSo : {A : Type 0} → End → Result A End → Type 0
EndsSo NotRead wanted = ⊤
EndsSo end wanted = wanted ≡ Err end

-- what may be answered where this frame comes next, with what the buffer holds then and what is left: memory may be
-- refused for a body that isn't too long
abbrev pub Passes : List ℕ × List ℕ → Frame → List ℕ → Option (List ℕ) → Type 0
Passes f Body held left = (length f.0 ≤ longest) × (held ≡ f.0) × (left ≡ Some f.1)
Passes f TooLong held left = (longest < length f.0) × (left ≡ Some f.1)
Passes f OutOfMemory held left = (length f.0 ≤ longest) × (left ≡ Some f.1)

-- what may be answered to known bytes
abbrev pub Answers : List ℕ → Result Frame End → List ℕ → Option (List ℕ) → Type 0
Answers bytes (Ok answer) held left = (f : List ℕ × List ℕ) × (frame bytes ≡ Ok f) × Passes f answer held left
Answers bytes (Err end) held left = EndsSo end (frame bytes)

-- the end that an answer tells of
abbrev pub end_of : Result Frame End → Option End
end_of (Ok answer) = None
end_of (Err end) = Some end

-- what may be answered to a stream on which that end was met, or none: an end stays the same
abbrev pub AnswersAfter : Option End → Stream → Stream → Result Frame End → List ℕ → Type 0
AnswersAfter None old new answer held = (new.end ≡ end_of answer) × IfSome old.left (λ bytes. Answers bytes answer held new.left)
AnswersAfter (Some end) old new answer held = (answer ≡ Err end) × (new ≡ old)

-- what may be answered to a stream
abbrev pub Reads : Stream → Stream → Result Frame End → List ℕ → Type 0
Reads old new answer held = AnswersAfter old.end old new answer held

-- a line of known bytes was read, or none was
abbrev pub ReadsLine : List ℕ → Result ℕ End → List ℕ → Option (List ℕ) → Type 0
ReadsLine bytes (Ok n) held left = (line_len bytes ≡ Ok n) × (take n held ≡ take n bytes) × (left ≡ Some (drop (n + 2) bytes))
ReadsLine bytes (Err end) held left = EndsSo end (line_len bytes)

-- a head of known bytes was read, or none was
abbrev pub ReadsHead : List ℕ → Result ℕ End → Option (List ℕ) → Type 0
ReadsHead bytes (Ok n) left = (rest : List ℕ) × (head 64 None bytes ≡ Ok (n, rest)) × (left ≡ Some rest)
ReadsHead bytes (Err end) left = EndsSo end (head 64 None bytes)

-- known bytes are fewer than these, or the input couldn't be read
abbrev pub IsShort : End → Option (List ℕ) → ℕ → Type 0
IsShort NotRead left n = ⊤
IsShort CutOff left n = IfSome left (λ bytes. length bytes < n)
IsShort _ left n = ⊥

-- known bytes grow by a beginning of these
abbrev pub Begins : Option (List ℕ) → Option (List ℕ) → List ℕ → Type 0
Begins old new bytes = (n : ℕ) × Appends old new (take n bytes)

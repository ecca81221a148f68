-- A stream of bytes as frames: header lines, each with a CR LF after it, an empty line, and a body as long as they say.
use Rattle.std.specs.Prelude.{◌≡◌, ℕ, zero, suc, ◌+◌, ◌&&◌, ◌==◌, if◌then◌else◌, nat_lt, List, [], ◌∷◌, ◌++◌, length, take, drop, codes, Option, None, Some, option_map, Result, Ok, Err}
use Rattle.std.specs.Fmt.{decimal}
use Rattle.std.specs.Option.{ok_or}
use Rattle.typst_protocol.specs.Header.{length_after}
use Rattle.typst_protocol.specs.declared.frames.reader.End.{End}
use Rattle.typst_protocol.specs.declared.frames.reader.End.TheVariants.{Clean, Malformed, CutOff}

-- how many bytes stand before the first CR LF
abbrev pub before_crlf : List ℕ → Option ℕ
before_crlf [] = None
before_crlf (c ∷ []) = None
before_crlf (c ∷ d ∷ bytes) = if c == 13 && d == 10 then Some 0 else option_map (λ n. n + 1) (before_crlf (d ∷ bytes))

-- what comes of one step, if nothing is wrong, goes into the next
infixl 10 ◌>>=◌
abbrev pub ◌>>=◌ : {A B : Type 0} → Result A End → (A → Result B End) → Result B End
(Ok x) >>= f = f x
(Err e) >>= f = Err e

-- a line and its CR LF have at most 1024 bytes
unfoldable pub line_len : List ℕ → Result ℕ End
line_len bytes = ok_or (before_crlf (take 1024 bytes)) (if nat_lt (length bytes) 1024 then CutOff else Malformed)

-- a head, which has at most so many lines, up to the empty one: how long the body is, and what stands after the head
unfoldable pub head : ℕ → Option ℕ → List ℕ → Result (ℕ × List ℕ) End
head zero before bytes = Err Malformed
head (suc lines) before bytes = line_len bytes >>= λ n.
    if n == 0 then ok_or (option_map (λ len. (len, drop 2 bytes)) before) Malformed
    else (ok_or (length_after (take n bytes) before) Malformed >>= λ after. head lines after (drop (n + 2) bytes))

-- a body, and what stands after it
abbrev pub body : ℕ × List ℕ → Result (List ℕ × List ℕ) End
body h = if nat_lt (length h.1) h.0 then Err CutOff else Ok (take h.0 h.1, drop h.0 h.1)

-- the body of the first frame, and what stands after the frame; a stream may end before a frame, and not inside one
unfoldable pub frame : List ℕ → Result (List ℕ × List ℕ) End
frame [] = Err Clean
frame (b ∷ bytes) = head 64 None (b ∷ bytes) >>= body

-- a stream has these bodies, one after the other, and then ends so
abbrev pub Has : List ℕ → List (List ℕ) → End → Type 0
Has stream [] end = frame stream ≡ Err end
Has stream (b ∷ bodies) end = (rest : List ℕ) × (frame stream ≡ Ok (b, rest)) × Has rest bodies end

-- a frame as it is written
abbrev pub written : List ℕ → List ℕ
written b = codes "Content-Length: " ++ decimal (length b) ++ codes "\r\n\r\n" ++ b

-- A head by its lines, and a frame by its head.
use Rattle.typst_protocol.proofs.Cited.{◌≡◌, ◌≢◌, ℕ, suc, ◌+◌, ◌≤◌, ◌<◌, true, false, ◌==◌, cond, List, ◌++◌, length, take, drop, Option, None, Some, IfSome, Result, Ok, Err, refl, sym, ap, ◌∙◌, arith, le-ltb, length-append, ⊤, option_map, Consumes, Keeps, ne_eqb, length_after, ◌>>=◌, body, frame, head, line_len, Answers, EndsSo, IsShort, ReadsHead, ReadsLine, longest, End, Clean, Malformed, ok_or}
use Rattle.std.proofs.lemmas.List.{take_at, drop_at}
use Rattle.typst_protocol.specs.declared.frames.reader.Frame.TheVariants.{Body, OutOfMemory, TooLong}

ended : Option ℕ → List ℕ → Result (ℕ × List ℕ) End
ended before bytes = ok_or (option_map (λ len. (len, drop 2 bytes)) before) Malformed

told : ℕ → ℕ → List ℕ → Option (Option ℕ) → Result (ℕ × List ℕ) End
told lines n bytes r = ok_or r Malformed >>= λ after. head lines after (drop (n + 2) bytes)

unfolded : (lines : ℕ) (before : Option ℕ) (bytes : List ℕ) → head (suc lines) before bytes ≡ (line_len bytes >>= λ n. cond (n == 0) (ended before bytes) (told lines n bytes (length_after (take n bytes) before)))
unfolding head ended told
unfolded lines before bytes = refl

at_line : (lines : ℕ) (before : Option ℕ) (bytes : List ℕ) (r : Result ℕ End) → line_len bytes ≡ r → head (suc lines) before bytes ≡ (r >>= λ n. cond (n == 0) (ended before bytes) (told lines n bytes (length_after (take n bytes) before)))
at_line lines before bytes r h = unfolded lines before bytes ∙ ap (λ s. s >>= λ n. cond (n == 0) (ended before bytes) (told lines n bytes (length_after (take n bytes) before))) h

header_line : (lines : ℕ) (before : Option ℕ) (bytes : List ℕ) (n : ℕ) (r : Option (Option ℕ)) → line_len bytes ≡ Ok n → n ≢ 0 → length_after (take n bytes) before ≡ r → head (suc lines) before bytes ≡ told lines n bytes r
header_line lines before bytes n r h some e =
    at_line lines before bytes (Ok n) h
    ∙ ap (λ b. cond b (ended before bytes) (told lines n bytes (length_after (take n bytes) before))) (ne_eqb n 0 some)
    ∙ ap (told lines n bytes) e

pub head-more : (lines n : ℕ) (before after : Option ℕ) (bytes : List ℕ) → line_len bytes ≡ Ok n → n ≢ 0 → length_after (take n bytes) before ≡ Some after → head (suc lines) before bytes ≡ head lines after (drop (n + 2) bytes)
unfolding told
head-more lines n before after bytes h some e = header_line lines before bytes n (Some after) h some e

pub head-end : (lines len : ℕ) (bytes : List ℕ) → line_len bytes ≡ Ok 0 → head (suc lines) (Some len) bytes ≡ Ok (len, drop 2 bytes)
unfolding ended
head-end lines len bytes h = at_line lines (Some len) bytes (Ok 0) h

-- an end that one result is makes another result that end
ends_so : {A B : Type 0} (e : End) (a : Result A End) (b : Result B End) → (a ≡ Err e → b ≡ Err e) → EndsSo e a → EndsSo e b
ends_so e a b f h = grind arith

-- what is left of a head of known bytes says what the head does
abbrev pub GoesOn : Option (List ℕ) → Option (List ℕ) → ℕ → Option ℕ → Type 0
GoesOn None now lines before = ⊤
GoesOn (Some bytes) None lines before = ⊥
GoesOn (Some bytes) (Some rest) lines before = head lines before rest ≡ head 64 None bytes

pub goes-on : (old now new : Option (List ℕ)) (lines n : ℕ) (before after : Option ℕ) (held : List ℕ) → GoesOn old now (suc lines) before → IfSome now (λ bytes. ReadsLine bytes (Ok n) held new) → n ≢ 0
    → length_after (take n held) before ≡ Some after → GoesOn old new lines after
unfolding head told
goes-on old now new lines n before after held g r some e = grind arith

pub goes-malformed : (old now new left : Option (List ℕ)) (lines n : ℕ) (before : Option ℕ) (held : List ℕ) → GoesOn old now (suc lines) before → IfSome now (λ bytes. ReadsLine bytes (Ok n) held new) → n ≢ 0
    → length_after (take n held) before ≡ None → IfSome old (λ bytes. ReadsHead bytes (Err Malformed) left)
unfolding told
goes-malformed None now new left lines n before held g r some e = tt
goes-malformed (Some bytes) None new left lines n before held g r some e = absurd g
goes-malformed (Some bytes) (Some rest) new left lines n before held g r some e =
    sym g ∙ header_line lines before rest n None r.0 some (ap (λ line. length_after line before) (sym r.1) ∙ e)

pub goes-err : (old now new left : Option (List ℕ)) (lines : ℕ) (before : Option ℕ) (e : End) (held : List ℕ) → GoesOn old now (suc lines) before → IfSome now (λ bytes. ReadsLine bytes (Err e) held new)
    → IfSome old (λ bytes. ReadsHead bytes (Err e) left)
goes-err None now new left lines before e held g r = tt
goes-err (Some bytes) None new left lines before e held g r = absurd g
goes-err (Some bytes) (Some rest) new left lines before e held g r = ends_so e (line_len rest) (head 64 None bytes) (λ h. sym g ∙ at_line lines before rest (Err e) h) r

head_ended : (bytes rest : List ℕ) (lines : ℕ) (before : Option ℕ) (new : Option (List ℕ)) → head (suc lines) before rest ≡ head 64 None bytes → line_len rest ≡ Ok 0 → new ≡ Some (drop 2 rest) → ReadsHead bytes (ok_or before Malformed) new
unfolding ended
head_ended bytes rest lines None new g h left = sym g ∙ at_line lines None rest (Ok 0) h
head_ended bytes rest lines (Some n) new g h left = (drop 2 rest, sym g ∙ at_line lines (Some n) rest (Ok 0) h, left)

pub goes-end : (old now new : Option (List ℕ)) (lines : ℕ) (before : Option ℕ) (held : List ℕ) → GoesOn old now (suc lines) before → IfSome now (λ bytes. ReadsLine bytes (Ok 0) held new)
    → IfSome old (λ bytes. ReadsHead bytes (ok_or before Malformed) new)
goes-end old now new lines before held g r = grind (arith, head_ended)

pub goes-out : (old now left : Option (List ℕ)) (before : Option ℕ) → GoesOn old now 0 before → IfSome old (λ bytes. ReadsHead bytes (Err Malformed) left)
unfolding head
goes-out old now left before g = grind arith

pub frame_some : (bytes : List ℕ) → false ≡ (length bytes == 0) → frame bytes ≡ (head 64 None bytes >>= body)
unfolding frame
frame_some bytes e = grind arith

frame_none : (bytes : List ℕ) → true ≡ (length bytes == 0) → frame bytes ≡ Err Clean
unfolding frame
frame_none bytes e = grind arith

pub ends-clean : (old left : Option (List ℕ)) (held : List ℕ) → IfSome old (λ bytes. true ≡ (length bytes == 0)) → IfSome old (λ bytes. Answers bytes (Err Clean) held left)
ends-clean old left held e = grind (arith, frame_none)

-- behind the head of known bytes
abbrev pub Behind : Option (List ℕ) → Option (List ℕ) → ℕ → Type 0
Behind old now n = IfSome old (λ bytes. (rest : List ℕ) × (frame bytes ≡ body (n, rest)) × (now ≡ Some rest))

pub behind : (old now new : Option (List ℕ)) (n : ℕ) → IfSome old (λ bytes. false ≡ (length bytes == 0)) → Keeps old now → IfSome now (λ bytes. ReadsHead bytes (Ok n) new) → Behind old new n
behind old now new n some kept h = grind (arith, frame_some)

pub head-failed : (old now left left' : Option (List ℕ)) (e : End) (held : List ℕ) → IfSome old (λ bytes. false ≡ (length bytes == 0)) → Keeps old now → IfSome now (λ bytes. ReadsHead bytes (Err e) left)
    → IfSome old (λ bytes. Answers bytes (Err e) held left')
head-failed old now left left' e held some kept h = grind (arith, ends_so, frame_some)

pub body_whole : (bs rest : List ℕ) (n : ℕ) → length bs ≡ n → body (n, bs ++ rest) ≡ Ok (bs, rest)
body_whole bs rest n e = grind (arith, cond, le-ltb, length-append, take_at, drop_at)

-- the frame that was passed
abbrev pub Passed : Option (List ℕ) → Option (List ℕ) → List ℕ → Type 0
Passed old new bs = IfSome old (λ bytes. (rest : List ℕ) × (frame bytes ≡ Ok (bs, rest)) × (new ≡ Some rest))

pub passed : (old now new : Option (List ℕ)) (n : ℕ) (bs : List ℕ) → Behind old now n → Consumes now new bs → length bs ≡ n → Passed old new bs
passed old now new n bs b taken e = grind (arith, body_whole)

pub cut-short : (old now left : Option (List ℕ)) (n : ℕ) (e : End) (held : List ℕ) → Behind old now n → IsShort e now n → IfSome old (λ bytes. Answers bytes (Err e) held left)
cut-short old now left n e held b short = grind arith

pub answers-body : (old new : Option (List ℕ)) (bs held : List ℕ) → Passed old new bs → length bs ≤ longest → held ≡ bs → IfSome old (λ bytes. Answers bytes (Ok Body) held new)
answers-body old new bs held p size same = grind arith

pub answers-long : (old new : Option (List ℕ)) (bs held : List ℕ) → Passed old new bs → longest < length bs → IfSome old (λ bytes. Answers bytes (Ok TooLong) held new)
answers-long old new bs held p size = grind arith

pub answers-memory : (old new : Option (List ℕ)) (bs held : List ℕ) → Passed old new bs → length bs ≤ longest → IfSome old (λ bytes. Answers bytes (Ok OutOfMemory) held new)
answers-memory old new bs held p size = grind arith

pub none-of : {X : Type 0} (o : Option X) (e : End) → Err e ≡ ok_or o Malformed → (o ≡ None) × (e ≡ Malformed)
none-of o e h = grind arith

pub some-of : {X : Type 0} (o : Option X) (x : X) (e : End) → Ok x ≡ ok_or o e → o ≡ Some x
some-of o x e h = grind arith

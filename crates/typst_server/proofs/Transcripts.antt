-- Transcripts that grow reply by reply.
use Rattle.typst_server.proofs.Cited.{◌≡◌, ℕ, ◌+◌, ◌<◌, ◌≤◌, List, [], ◌∷◌, ◌++◌, length, take, drop, get_or, Option, None, Some, IfSome, Result, Ok, refl, sym, ap, subst, ◌∙◌, append_assoc, append-nil, take-append-drop, arith, flat_map-append, map-append, map_more, take_all, string_bytes, Appends, AllByRecursion, Answers, AnswersAfter, Begins, Passes, Reads, Stream, nameless, text_of, warning, AnswersFrame, AreAnswered, Ends, EndsBy, GoesOn, IsAnswered, IsFirst, IsNoExit, IsReason, IsStatus, Sends, Serves, Turns, WentOut, frames_of, sent, told, transcript, warnings, ShownErrors, News, Reply, Server, written, begins-after, begins-front, Loss, Unread, IsHandled, IsNew, String, map}
use Rattle.std.proofs.KnownBytes.{Appends-trans}
use Rattle.std.specs.declared.alloc.Global.{Global}
use Rattle.typst_protocol.specs.Escapes.{mended}
use Rattle.typst_protocol.specs.declared.frames.reader.End.{End}
use Rattle.typst_protocol.specs.declared.frames.reader.Frame.{Frame}
use Rattle.typst_protocol.specs.declared.frames.reader.Frame.TheVariants.{Body, TooLong, OutOfMemory}
use Rattle.typst_server.specs.declared.reply.Reply.TheVariants as reply
use Rattle.typst_server.specs.declared.streams.Ended.{Ended}
use Rattle.typst_server.specs.declared.streams.Ended.TheVariants as ended

-- what was answered so far and went out whole, and what is left
pub record SoFar (from to : Server) (stream : List ℕ) (old new left : Option (List ℕ)) : Type 0 where
  pub answers : List Reply
  pub rest : List ℕ
  pub answered : AreAnswered from stream answers to rest
  pub on : AllByRecursion IsNoExit answers
  pub out : Appends old new (transcript answers)
  pub behind : left ≡ Some rest

answered-append : (from mid to : Server) (stream left rest : List ℕ) (xs ys : List Reply) → AreAnswered from stream xs mid left → AreAnswered mid left ys to rest → AreAnswered from stream (xs ++ ys) to rest
answered-append from mid to stream left rest [] ys front back = subst (λ p. AreAnswered p stream ys to rest) front.0 (subst (λ s. AreAnswered mid s ys to rest) front.1 back)
answered-append from mid to stream left rest (x ∷ xs) ys front back = (front.0, front.1, front.2, answered-append front.0 mid to front.1 left rest xs ys front.3 back)

transcript-append : (xs ys : List Reply) → transcript (xs ++ ys) ≡ transcript xs ++ transcript ys
transcript-append xs ys = flat_map-append sent xs ys

transcript-one : (x : Reply) → transcript (x ∷ []) ≡ sent x
transcript-one x = append-nil (sent x)

on-append : (xs ys : List Reply) → AllByRecursion IsNoExit xs → AllByRecursion IsNoExit ys → AllByRecursion IsNoExit (xs ++ ys)
on-append [] ys p q = q
on-append (x ∷ xs) ys p q = (p.0, on-append xs ys p.1 q)

out-after : (a b c : Option (List ℕ)) (xs ys : List ℕ) (why : Ended) → Appends a b xs → WentOut why b c ys → WentOut why a c (xs ++ ys)
out-after a b c xs ys (ended.Input end) front back = Appends-trans a b c xs ys front back
out-after a b c xs ys (ended.Exit status) front back = Appends-trans a b c xs ys front back
out-after a b c xs ys ended.NotWritten front back = begins-after a b c xs ys front back
out-after a b c xs ys ended.GaveUp front back = Appends-trans a b c xs ys front back

reason-after : (rest : List ℕ) (xs ys : List Reply) (why : Ended) → AllByRecursion IsNoExit xs → IsReason why rest ys → IsReason why rest (xs ++ ys)
reason-after rest xs ys why on h = grind (arith, on-append, append_assoc)

-- what ends behind some replies ends
pub ends-behind : (from mid to : Server) (stream : List ℕ) (a b c left : Option (List ℕ)) (why : Ended) → SoFar from mid stream a b left → IfSome left (λ rest. Ends mid to rest b c why) → Ends from to stream a c why
ends-behind from mid to stream a b c left why before h =
    let e : Ends mid to before.rest b c why = subst (λ l. IfSome l (λ rest. Ends mid to rest b c why)) before.behind h in
    record {
      answers = before.answers ++ e.answers;
      rest = e.rest;
      answered = answered-append from mid to stream before.rest e.rest before.answers e.answers before.answered e.answered;
      out = subst (WentOut why a c) (sym (transcript-append before.answers e.answers)) (out-after a b c (transcript before.answers) (transcript e.answers) why before.out e.out);
      reason = reason-after e.rest before.answers e.answers why before.on e.reason;
    }

-- one more reply
pub more-so_far : (from mid to : Server) (stream : List ℕ) (a b c left next : Option (List ℕ)) → SoFar from mid stream a b left → IfSome left (λ rest. GoesOn mid to rest b c next) → SoFar from to stream a c next
more-so_far from mid to stream a b c left next before h =
    let g : GoesOn mid to before.rest b c next = subst (λ l. IfSome l (λ rest. GoesOn mid to rest b c next)) before.behind h in
    record {
      answers = before.answers ++ g.answer ∷ [];
      rest = g.rest;
      answered = answered-append from mid to stream before.rest g.rest before.answers (g.answer ∷ []) before.answered (to, g.rest, g.first, (refl, refl));
      on = on-append before.answers (g.answer ∷ []) before.on (g.on, tt);
      out =
          subst (Appends a c) (sym (transcript-append before.answers (g.answer ∷ []) ∙ ap (λ bs. transcript before.answers ++ bs) (transcript-one g.answer)))
          (Appends-trans a b c (transcript before.answers) (sent g.answer) before.out g.out);
      behind = g.behind;
    }

answered-of : (old new : Server) (f : List ℕ × List ℕ) (what : Frame) (held : List ℕ) (left : Option (List ℕ)) (answer : Reply) → Passes f what held left → AnswersFrame old new what held answer → IsAnswered old new f.0 answer
answered-of old new f Body held left answer p h = record { read = λ _. subst (λ body. IsHandled old new (mended body) answer) p.1 h; too_long = λ long. absurd (omega (arith, p.0, long)) }
answered-of old new f TooLong held left answer p h = record { read = λ short. absurd (omega (arith, p.0, short)); too_long = λ _. h }
answered-of old new f OutOfMemory held left answer p h = grind arith

left-of : (f : List ℕ × List ℕ) (what : Frame) (held : List ℕ) (left : Option (List ℕ)) → Passes f what held left → left ≡ Some f.1
left-of f what held left p = grind arith

first-of : (old new : Server) (stream held : List ℕ) (what : Frame) (left : Option (List ℕ)) (answer : Reply) → (read : Answers stream (Ok what) held left) → AnswersFrame old new what held answer → IsFirst old stream answer new read.0.1
first-of old new stream held what left answer read h = record { body = read.0.0; first = read.1; answered = answered-of old new read.0 what held left answer read.2 h }

reason-by : (rest : List ℕ) (answer : Reply) (why : Ended) → EndsBy answer why → IsReason why rest (answer ∷ [])
reason-by rest answer why h = grind arith

turn : (from to : Server) (stream held : List ℕ) (what : Frame) (old new left : Option (List ℕ)) (answer : Reply) (result : Option Ended) → Answers stream (Ok what) held left
    → AnswersFrame from to what held answer → Sends answer old new result → Turns from to stream old new left result
turn from to stream held what old new left answer None read h s =
    record { answer = answer; rest = read.0.1; first = first-of from to stream held what left answer read h; on = s.1; out = s.0; behind = left-of read.0 what held left read.2 }
turn from to stream held what old new left answer (Some why) read h s =
    record {
      answers = answer ∷ [];
      rest = read.0.1;
      answered = (to, read.0.1, first-of from to stream held what left answer read h, (refl, refl));
      out = subst (WentOut why old new) (sym (transcript-one answer)) s.0;
      reason = reason-by read.0.1 answer why s.1;
    }

-- what reading says where no end was met before
pub read-on : (old new : Stream) (result : Result Frame End) (held : List ℕ) → old.end ≡ None → Reads old new result held → AnswersAfter None old new result held
read-on old new result held unended h = subst (λ end. AnswersAfter end old new result held) unended h

-- a frame that was read, and what is done about it
pub turns : (from to : Server) (known left old new : Option (List ℕ)) (held : List ℕ) (what : Frame) (answer : Reply) (result : Option Ended) → IfSome known (λ stream. Answers stream (Ok what) held left)
    → AnswersFrame from to what held answer → Sends answer old new result → IfSome known (λ stream. Turns from to stream old new left result)
turns from to None left old new held what answer result read h s = tt
turns from to (Some stream) left old new held what answer result read h s = turn from to stream held what old new left answer result read h s

pub more-known : (from mid to : Server) (known a b c left next : Option (List ℕ)) → IfSome known (λ stream. SoFar from mid stream a b left) → IfSome left (λ rest. GoesOn mid to rest b c next)
    → IfSome known (λ stream. SoFar from to stream a c next)
more-known from mid to known a b c left next before h = grind (arith, more-so_far)

pub ends-known : (from mid to : Server) (known a b c left : Option (List ℕ)) (why : Ended) → IfSome known (λ stream. SoFar from mid stream a b left) → IfSome left (λ rest. Ends mid to rest b c why)
    → IfSome known (λ stream. Ends from to stream a c why)
ends-known from mid to known a b c left why before h = grind (arith, ends-behind)

pub gives-up-known : (from to : Server) (known a b left : Option (List ℕ)) → IfSome known (λ stream. SoFar from to stream a b left) → IfSome known (λ stream. Ends from to stream a b ended.GaveUp)
gives-up-known from to known a b left before = grind arith

-- the status by the end, where that was new
pub serves-known : (which : ShownErrors) (first last : Server) (known old new : Option (List ℕ)) (why : Ended) (status : ℕ) → IsNew which first → IfSome known (λ stream. Ends first last stream old new why) → IsStatus why last.standing.phase status
    → IfSome known (λ stream. Serves which stream old new status)
serves-known which first last None old new why status fresh ends given = tt
serves-known which first last (Some stream) old new why status fresh ends given = record { why = why; first = first; last = last; fresh = fresh; ends = ends; given = given }

-- one more body is written
pub frames-more : (bodies : List (String Global)) (i : ℕ) (d : String Global) → i < length bodies
    → frames_of (map string_bytes (take (i + 1) bodies)) ≡ frames_of (map string_bytes (take i bodies)) ++ written (string_bytes (get_or bodies i d))
frames-more bodies i d within =
    ap frames_of (map_more string_bytes bodies i d within)
    ∙ flat_map-append written (map string_bytes (take i bodies)) (string_bytes (get_or bodies i d) ∷ [])
    ∙ ap (λ bs. frames_of (map string_bytes (take i bodies)) ++ bs) (append-nil (written (string_bytes (get_or bodies i d))))

-- all bodies are those up to an index, and the others
pub frames-split : (bodies : List (String Global)) (i : ℕ) → frames_of (map string_bytes bodies) ≡ frames_of (map string_bytes (take i bodies)) ++ frames_of (map string_bytes (drop i bodies))
frames-split bodies i =
    ap (λ bs. frames_of (map string_bytes bs)) (sym (take-append-drop i bodies))
    ∙ ap frames_of (map-append string_bytes (take i bodies) (drop i bodies))
    ∙ flat_map-append written (map string_bytes (take i bodies)) (map string_bytes (drop i bodies))

-- where one isn't written a beginning of all is
pub begins-at : (a b c : Option (List ℕ)) (bodies : List (String Global)) (i : ℕ) (d : String Global) → i < length bodies → Appends a b (frames_of (map string_bytes (take i bodies)))
    → Begins b c (written (string_bytes (get_or bodies i d))) → Begins a c (frames_of (map string_bytes bodies))
begins-at a b c bodies i d within before h =
    let one : Begins a c (frames_of (map string_bytes (take (i + 1) bodies))) =
    subst (Begins a c) (sym (frames-more bodies i d within)) (begins-after a b c (frames_of (map string_bytes (take i bodies))) (written (string_bytes (get_or bodies i d))) before h) in
    subst (Begins a c) (sym (frames-split bodies (i + 1))) (begins-front a c (frames_of (map string_bytes (take (i + 1) bodies))) (frames_of (map string_bytes (drop (i + 1) bodies))) one)

pub more-written : (a b c : Option (List ℕ)) (bodies : List (String Global)) (i : ℕ) (d : String Global) → i < length bodies → Appends a b (frames_of (map string_bytes (take i bodies)))
    → Appends b c (written (string_bytes (get_or bodies i d))) → Appends a c (frames_of (map string_bytes (take (i + 1) bodies)))
more-written a b c bodies i d within before h =
    subst (Appends a c) (sym (frames-more bodies i d within)) (Appends-trans a b c (frames_of (map string_bytes (take i bodies))) (written (string_bytes (get_or bodies i d))) before h)

pub all-written : (a b : Option (List ℕ)) (bodies : List (String Global)) (i : ℕ) → length bodies ≤ i → Appends a b (frames_of (map string_bytes (take i bodies))) → Appends a b (frames_of (map string_bytes bodies))
all-written a b bodies i past h = subst (λ bs. Appends a b (frames_of (map string_bytes bs))) (take_all i bodies past) h

-- bodies behind bodies
pub frames-both : (xs ys : List (List ℕ)) → frames_of (xs ++ ys) ≡ frames_of xs ++ frames_of ys
frames-both xs ys = flat_map-append written xs ys

-- one body is sent by its frame
pub frames-one : (body : List ℕ) → frames_of (body ∷ []) ≡ written body
frames-one body = append-nil (written body)

-- what is written of a loss is its warning
pub warned-bytes : (lost : Option Loss) (loss : Loss) (bytes : List ℕ) → lost ≡ Some loss → bytes ≡ warning (text_of loss) → written bytes ≡ frames_of (warnings lost)
warned-bytes lost loss bytes is same = ap written same ∙ sym (frames-one (warning (text_of loss))) ∙ ap (λ l. frames_of (warnings l)) (sym is)

-- a beginning of a warning is one of all that is sent as news
pub news-front : (a b : Option (List ℕ)) (news : News) → Begins a b (frames_of (warnings news.lost)) → Begins a b (frames_of (told news))
news-front a b news h =
    let published : List (List ℕ) = map string_bytes news.published.items in
    subst (Begins a b) (sym (frames-both (warnings news.lost) published)) (begins-front a b (frames_of (warnings news.lost)) (frames_of published) h)

pub news-after : (a b c : Option (List ℕ)) (news : News) (bodies : List (String Global)) → bodies ≡ news.published.items → Appends a b (frames_of (warnings news.lost)) → Begins b c (frames_of (map string_bytes bodies))
    → Begins a c (frames_of (told news))
news-after a b c news bodies same before h =
    let published : List (List ℕ) = map string_bytes news.published.items in
    subst (Begins a c) (sym (frames-both (warnings news.lost) published))
    (begins-after a b c (frames_of (warnings news.lost)) (frames_of published) before (subst (λ bs. Begins b c (frames_of (map string_bytes bs))) same h))

-- a reply without a name sends its refusal, and then its news
pub nameless-front : (a b : Option (List ℕ)) (answer : Reply) (why : Unread) (news : News) (bytes : List ℕ) → answer ≡ reply.Nameless why news → bytes ≡ nameless why → Begins a b (written bytes) → Begins a b (sent answer)
nameless-front a b answer why news bytes is same h =
    subst (λ x. Begins a b (sent x)) (sym is) (begins-front a b (written (nameless why)) (frames_of (told news)) (subst (λ bs. Begins a b (written bs)) same h))

pub nameless-after : (a b c : Option (List ℕ)) (answer : Reply) (why : Unread) (news : News) (bytes : List ℕ) → answer ≡ reply.Nameless why news → bytes ≡ nameless why → Appends a b (written bytes)
    → Begins b c (frames_of (told news)) → Begins a c (sent answer)
nameless-after a b c answer why news bytes is same before h =
    subst (λ x. Begins a c (sent x)) (sym is)
    (begins-after a b c (written (nameless why)) (frames_of (told news)) (subst (λ bs. Appends a b (written bs)) same before) h)

pub nameless-whole : (a b c : Option (List ℕ)) (answer : Reply) (why : Unread) (news : News) (bytes : List ℕ) → answer ≡ reply.Nameless why news → bytes ≡ nameless why → Appends a b (written bytes)
    → Appends b c (frames_of (told news)) → Appends a c (sent answer)
nameless-whole a b c answer why news bytes is same before h =
    subst (λ x. Appends a c (sent x)) (sym is)
    (Appends-trans a b c (written (nameless why)) (frames_of (told news)) (subst (λ bs. Appends a b (written bs)) same before) h)

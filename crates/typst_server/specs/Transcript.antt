-- What goes out while a stream of frames is answered.
use Rattle.std.specs.Prelude.{◌≡◌, ⊤, ℕ, ◌<◌, ◌≤◌, List, [], ◌∷◌, ◌++◌, length, map, Option, None, Some, Ok}
use Rattle.std.specs.List.{AllByRecursion, flat_map}
use Rattle.std.specs.String.{string_bytes}
use Rattle.std.specs.Io.KnownBytes.{Appends}
use Rattle.typst_protocol.specs.Frames.{frame, written}
use Rattle.typst_protocol.specs.Stream.{Begins, EndsSo, longest}
use Rattle.typst_protocol.specs.declared.frames.reader.End.TheVariants.{Clean}
use Rattle.typst_protocol.specs.declared.frames.reader.Frame.{Frame}
use Rattle.typst_protocol.specs.declared.frames.reader.Frame.TheVariants.{Body, TooLong, OutOfMemory}
use Rattle.typst_protocol.specs.Bodies.{nameless, text_of, warning}
use Rattle.typst_protocol.specs.Escapes.{mended}
use Rattle.typst_protocol.specs.declared.refusal.Unread.TheVariants as unread
use Rattle.typst_server.specs.Phases.{status_of}
use Rattle.typst_server.specs.Sessions.{IsHandled, IsNew, LosesAll}
use Rattle.typst_protocol.specs.declared.refusal.Loss.{Loss}
use Rattle.typst_server.specs.declared.diagnostics.ShownErrors.{ShownErrors}
use Rattle.typst_server.specs.declared.reply.News.{News}
use Rattle.typst_server.specs.declared.reply.Reply.{Reply}
use Rattle.typst_server.specs.declared.reply.Reply.TheVariants as reply
use Rattle.typst_server.specs.declared.server.Phase.{Phase}
use Rattle.typst_server.specs.declared.server.Server.{Server}
use Rattle.typst_server.specs.declared.streams.Ended.{Ended}
use Rattle.typst_server.specs.declared.streams.Ended.TheVariants as ended

-- the warning of a loss
abbrev pub warnings : Option Loss → List (List ℕ)
warnings None = []
warnings (Some loss) = warning (text_of loss) ∷ []

-- the bodies that are sent of documents: a warning if there is a loss, and then notifications
abbrev pub told : News → List (List ℕ)
told news = warnings news.lost ++ map string_bytes news.published.items

-- the bodies that a reply sends, in order
abbrev pub bodies_of : Reply → List (List ℕ)
bodies_of reply.Nothing = []
bodies_of (reply.Response text) = string_bytes text ∷ []
bodies_of (reply.Nameless why news) = nameless why ∷ told news
bodies_of (reply.News news) = told news
bodies_of (reply.Exit status) = []

-- the bytes of some bodies: their frames
abbrev pub frames_of : List (List ℕ) → List ℕ
frames_of bodies = flat_map written bodies

-- the bytes that a reply sends
abbrev pub sent : Reply → List ℕ
sent answer = frames_of (bodies_of answer)

-- THE TRANSCRIPT of some replies: their frames, in order
abbrev pub transcript : List Reply → List ℕ
transcript answers = flat_map sent answers

-- a body is answered as `IsHandled` says of it with U+FFFD for its lone surrogates; one that is too long isn't read, and is no message
pub record IsAnswered (old new : Server) (body : List ℕ) (answer : Reply) : Type 0 where
  pub read : length body ≤ longest → IsHandled old new (mended body) answer
  pub too_long : longest < length body → LosesAll old new unread.NotAMessage answer

-- a stream begins with a frame, and this is what is done about its body, and what stands after it
pub record IsFirst (old : Server) (stream : List ℕ) (answer : Reply) (new : Server) (rest : List ℕ) : Type 0 where
  pub body : List ℕ
  pub first : frame stream ≡ Ok (body, rest)
  pub answered : IsAnswered old new body answer

-- from one state of the server to another the first frames of a stream have these replies, one each and in order, and this stands after them
abbrev pub AreAnswered : Server → List ℕ → List Reply → Server → List ℕ → Type 0
AreAnswered old stream [] new rest = (new ≡ old) × (rest ≡ stream)
AreAnswered old stream (answer ∷ answers) new rest = (mid : Server) × (left : List ℕ) × IsFirst old stream answer mid left × AreAnswered mid left answers new rest

-- a reply that doesn't end a session
abbrev pub IsNoExit : Reply → Type 0
IsNoExit (reply.Exit status) = ⊥
IsNoExit _ = ⊤

-- the last of some replies, and no other one, is the end, with this status
pub record EndWith (answers : List Reply) (status : ℕ) : Type 0 where
  pub before : List Reply
  pub last : answers ≡ before ++ reply.Exit status ∷ []
  pub on : AllByRecursion IsNoExit before

-- why it ended: the client said so, or no frame stands after those that were answered, or what comes first couldn't be written
abbrev pub IsReason : Ended → List ℕ → List Reply → Type 0
IsReason (ended.Input end) rest answers = EndsSo end (frame rest) × AllByRecursion IsNoExit answers
IsReason (ended.Exit status) rest answers = EndWith answers status
IsReason ended.NotWritten rest answers = AllByRecursion IsNoExit answers
IsReason ended.GaveUp rest answers = AllByRecursion IsNoExit answers

-- how much of a transcript went out: all of it, or a beginning where a reply couldn't be written
abbrev pub WentOut : Ended → Option (List ℕ) → Option (List ℕ) → List ℕ → Type 0
WentOut (ended.Input end) old new bytes = Appends old new bytes
WentOut (ended.Exit status) old new bytes = Appends old new bytes
WentOut ended.NotWritten old new bytes = Begins old new bytes
WentOut ended.GaveUp old new bytes = Appends old new bytes

-- what was answered to a stream from one state of the server to another, and went out before it ended so
pub record Ends (from to : Server) (stream : List ℕ) (old new : Option (List ℕ)) (why : Ended) : Type 0 where
  pub answers : List Reply
  pub rest : List ℕ
  pub answered : AreAnswered from stream answers to rest
  pub out : WentOut why old new (transcript answers)
  pub reason : IsReason why rest answers

-- the status that is given then: by the phase where the input ends between frames, the client's where it says so, and else 1
abbrev pub IsStatus : Ended → Phase → ℕ → Type 0
IsStatus (ended.Input Clean) phase status = status ≡ status_of phase
IsStatus (ended.Exit said) phase status = status ≡ said
IsStatus _ phase status = status ≡ 1

-- what was answered to a stream, in a session that shows these errors and begins with no document open, and went out before this status was given. After each
-- message nothing is known of a document, or it has the text that the edits of the protocol give, with its tree: `IsHandled` says so step by step
pub record Serves (which : ShownErrors) (stream : List ℕ) (old new : Option (List ℕ)) (status : ℕ) : Type 0 where
  pub why : Ended
  pub first : Server
  pub last : Server
  pub fresh : IsNew which first
  pub ends : Ends first last stream old new why
  pub given : IsStatus why last.standing.phase status

-- what is done about a frame that was read: as `IsHandled` says of its body with U+FFFD for the lone surrogates, if there is one
abbrev pub AnswersFrame : Server → Server → Frame → List ℕ → Reply → Type 0
AnswersFrame old new Body body answer = IsHandled old new (mended body) answer
AnswersFrame old new TooLong body answer = LosesAll old new unread.NotAMessage answer
AnswersFrame old new OutOfMemory body answer = LosesAll old new unread.OutOfMemory answer

-- a stream's first frame was answered, and this is left
pub record GoesOn (from to : Server) (stream : List ℕ) (old new left : Option (List ℕ)) : Type 0 where
  pub answer : Reply
  pub rest : List ℕ
  pub first : IsFirst from stream answer to rest
  pub on : IsNoExit answer
  pub out : Appends old new (sent answer)
  pub behind : left ≡ Some rest

-- one turn answers a frame, or ends
abbrev pub Turns : Server → Server → List ℕ → Option (List ℕ) → Option (List ℕ) → Option (List ℕ) → Option Ended → Type 0
Turns from to stream old new left None = GoesOn from to stream old new left
Turns from to stream old new left (Some why) = Ends from to stream old new why

-- a reply by itself ends all where it says so, or can't be written
abbrev pub EndsBy : Reply → Ended → Type 0
EndsBy answer (ended.Exit status) = answer ≡ reply.Exit status
EndsBy answer ended.NotWritten = IsNoExit answer
EndsBy answer (ended.Input end) = ⊥
EndsBy answer ended.GaveUp = ⊥

-- what went out of a reply
abbrev pub Sends : Reply → Option (List ℕ) → Option (List ℕ) → Option Ended → Type 0
Sends answer old new None = Appends old new (sent answer) × IsNoExit answer
Sends answer old new (Some why) = WentOut why old new (sent answer) × EndsBy answer why

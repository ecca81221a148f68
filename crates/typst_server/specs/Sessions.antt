-- What a message makes of a session: where it stands, and what is known of the documents.
use Rattle.std.specs.Prelude.{◌≡◌, ℕ, List, None}
use Rattle.typst_protocol.specs.declared.refusal.Unread.{Unread}
use Rattle.typst_server.specs.Answers.{IsAnswer}
use Rattle.typst_server.specs.Published.{EmptiesAll}
use Rattle.typst_server.specs.Documents.{found}
use Rattle.serde_json.specs.Data.{Data}
use Rattle.typst_protocol.specs.Messages.{said}
use Rattle.typst_server.specs.Left.{AreUnknown, IsKnownAfter, IsLeft, IsWarned, loss_of}
use Rattle.typst_server.specs.Tokens.{DropsSent, IsSentAfter}
use Rattle.typst_server.specs.declared.diagnostics.ShownErrors.{ShownErrors}
use Rattle.typst_server.specs.declared.reply.News.{News}
use Rattle.typst_server.specs.declared.reply.Reply.{Reply}
use Rattle.typst_server.specs.declared.reply.Reply.TheVariants as reply
use Rattle.typst_server.specs.declared.server.Phase.TheVariants.{Fresh}
use Rattle.typst_server.specs.declared.server.Server.{Server}

-- a session hasn't begun, shows these errors, and has no document open
pub record IsNew (which : ShownErrors) (server : Server) : Type 0 where
  pub phase : server.standing.phase ≡ Fresh
  pub errors : server.standing.errors ≡ which
  pub none : (uri : List ℕ) → found uri server.documents ≡ None

-- WHAT A BODY MAKES OF A SESSION: it has one of the replies that it may have, which say where the server stands after it, and it leaves
-- known of the documents what `IsKnownAfter` says. If one is lost the reply says so. Tokens are kept only as they are sent
pub record IsHandled (old new : Server) (body : List ℕ) (answer : Reply) : Type 0 where
  pub reply : IsAnswer old.standing new.standing old.documents new.documents body answer
  pub documents : IsKnownAfter old.standing.phase old.standing.encoding body old.documents new.documents answer
  pub warned : IsWarned (loss_of answer) old.documents new.documents
  pub tokens : IsSentAfter old new body answer

-- what isn't read is answered by why. It may have been meant as a change of any document: nothing is known of them, which the reply says
pub record LosesAll (old new : Server) (why : Unread) (answer : Reply) : Type 0 where
  pub news : News
  pub reply : answer ≡ reply.Nameless why news
  pub emptied : EmptiesAll news
  pub standing : new.standing ≡ old.standing
  pub lost : AreUnknown new.documents
  pub warned : IsWarned news.lost old.documents new.documents
  pub tokens : DropsSent old new

-- a value that isn't taken for a message is answered by why. The document is lost that it may have been meant to change, which the reply says
pub record LosesMeant (old new : Server) (value : Data) (why : Unread) (answer : Reply) : Type 0 where
  pub news : News
  pub reply : answer ≡ reply.Nameless why news
  pub emptied : EmptiesAll news
  pub standing : new.standing ≡ old.standing
  pub left : IsLeft (said value) old.standing.phase old.standing.encoding value old.documents new.documents
  pub warned : IsWarned news.lost old.documents new.documents
  pub tokens : DropsSent old new

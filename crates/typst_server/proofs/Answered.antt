-- From what a body says to what may be done about it.
use Rattle.typst_server.proofs.Cited.{◌≡◌, ℕ, List, Some, inl, inr, subst, sym, arith, Data, Encoding, IsAnswer, IsReplyTo, IsKnownAfter, IsLeft, IsLeftBy, IsWarned, Loses, loss_of, Documents, Reply, Server, Standing, IsMessage, IsUnread, IsUnreadBody, babbles, meant, said, Unread, LosesAll, LosesMeant, IsSentAfter, IsSentBy}
use Rattle.serde_json.specs.Read.{read as read_text}
use Rattle.typst_protocol.specs.Parameters as parameters
use Rattle.typst_protocol.specs.declared.message.Message.{Message}
use Rattle.typst_protocol.specs.declared.message.Message.TheVariants as message
use Rattle.typst_protocol.specs.declared.refusal.Unread.TheVariants as unread
use Rattle.typst_server.specs.declared.server.Phase.{Phase}

-- what may be done about a message may be done about a body that is its JSON
pub answered : (old new : Standing) (before behind : Documents) (body : List ℕ) (d : Data) (m : Message) (r : Reply) → read_text body ≡ Some d → IsMessage d m → IsReplyTo old new before behind m r
    → IsAnswer old new before behind body r
answered old new before behind body d m r read meant told = grind arith

-- a body that isn't read
pub unread_body : (old new : Server) (body : List ℕ) (why : Unread) (r : Reply) → IsUnreadBody body why → LosesAll old new why r → IsAnswer old.standing new.standing old.documents new.documents body r
unread_body old new body why r unread l = subst (IsAnswer old.standing new.standing old.documents new.documents body) (sym l.reply) (inr (inl unread), l.emptied, l.standing)

pub unread_left : (old new : Server) (body : List ℕ) (why : Unread) (r : Reply) → IsUnreadBody body why → LosesAll old new why r
    → IsKnownAfter old.standing.phase old.standing.encoding body old.documents new.documents r
unread_left old new body why r unread l = subst (IsKnownAfter old.standing.phase old.standing.encoding body old.documents new.documents) (sym l.reply) (inl (unread, l.lost))

pub unread_warned : (old new : Server) (why : Unread) (r : Reply) → LosesAll old new why r → IsWarned (loss_of r) old.documents new.documents
unread_warned old new why r l = subst (λ r. IsWarned (loss_of r) old.documents new.documents) (sym l.reply) l.warned

-- one whose value says nothing
pub unread_value : (old new : Server) (body : List ℕ) (d : Data) (why : Unread) (r : Reply) → read_text body ≡ Some d → IsUnread d why → LosesMeant old new d why r
    → IsAnswer old.standing new.standing old.documents new.documents body r
unread_value old new body d why r read unread l = grind arith

pub value_left : (old new : Server) (body : List ℕ) (d : Data) (why : Unread) (r : Reply) → read_text body ≡ Some d → LosesMeant old new d why r
    → IsKnownAfter old.standing.phase old.standing.encoding body old.documents new.documents r
value_left old new body d why r read l = grind arith

pub value_warned : (old new : Server) (d : Data) (why : Unread) (r : Reply) → LosesMeant old new d why r → IsWarned (loss_of r) old.documents new.documents
value_warned old new d why r l = subst (λ r. IsWarned (loss_of r) old.documents new.documents) (sym l.reply) l.warned

-- a request for which memory is refused leaves all documents
pub unnamed_left : (phase : Phase) (encoding : Encoding) (d : Data) (documents : Documents) (why : Unread) → IsUnread d why → (why ≡ unread.NotAMessage → ⊥) → IsLeft (said d) phase encoding d documents documents
unnamed_left phase encoding d documents why h other = grind arith

-- what is no message loses what it may have been meant to change
pub meant_left : (phase : Phase) (encoding : Encoding) (d : Data) (old new : Documents) → said d ≡ babbles → Loses (meant d) old new → IsLeft (said d) phase encoding d old new
meant_left phase encoding d old new is h = subst (λ s. IsLeft s phase encoding d old new) (sym is) h

pub known_after : (phase : Phase) (encoding : Encoding) (body : List ℕ) (old new : Documents) (d : Data) (m : Message) (r : Reply) → read_text body ≡ Some d → IsMessage d m → IsLeftBy m phase encoding old new
    → IsKnownAfter phase encoding body old new r
known_after phase encoding body old new d m r read meant known = grind arith

pub sent_after : (old new : Server) (body : List ℕ) (d : Data) (m : Message) (r : Reply) → read_text body ≡ Some d → IsMessage d m → IsReplyTo old.standing new.standing old.documents new.documents m r → IsSentBy old new m r
    → IsSentAfter old new body r
sent_after old new body d m r read meant told kept = grind arith

pub unread_sent : (old new : Server) (body : List ℕ) (why : Unread) (r : Reply) → LosesAll old new why r → IsSentAfter old new body r
unread_sent old new body why r l = subst (IsSentAfter old new body) (sym l.reply) l.tokens

pub value_sent : (old new : Server) (body : List ℕ) (d : Data) (why : Unread) (r : Reply) → LosesMeant old new d why r → IsSentAfter old new body r
value_sent old new body d why r l = subst (IsSentAfter old new body) (sym l.reply) l.tokens

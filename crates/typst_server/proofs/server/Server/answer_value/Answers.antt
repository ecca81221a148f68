use Rattle.typst_server.proofs.Cited.{◌≡◌, Some, None, refl, sym, subst, view, IsUnread, babbles, meant, said}
use Rattle.typst_server.proofs.Answered.{meant_left, unnamed_left}
use Rattle.typst_server.proofs.Held.{none_lost, warned_none}
use Rattle.typst_server.proofs.Keeping.{drops_none}
use Rattle.typst_server.proofs.Taking.{empties_none, loses_named, loses_nothing}
use Rattle.typst_server.proofs.server.Server.answer_value.Goals as goal

pub returns-in_default : goal.returns-in_default
returns-in_default c =
    let now = c.args.self.now in
    record {
      news = c.none.result;
      reply = refl;
      emptied = empties_none c.none.result c.none.ensures.published;
      standing = refl;
      left = unnamed_left now.standing.phase now.standing.encoding (view c.args.value.now) now.documents c.args.unread c.requires c.in_default.not-NotAMessage;
      warned = warned_none c.none.result.lost now.documents now.documents c.none.ensures.lost (none_lost now.documents);
      tokens = drops_none now;
    }

pub returns-in-Some : goal.returns-in-Some
returns-in-Some c =
    let now = c.args.self.now in
    let new = c.lose.new.self in
    let meaning = view c.args.value.now in
    let babbled : said meaning ≡ babbles = subst (IsUnread meaning) c.in-NotAMessage.is c.requires in
    let named : meant meaning ≡ Some c.in-Some.uri.now = sym c.in-Some.ensures in
    record {
      news = c.lose.result;
      reply = refl;
      emptied = c.lose.ensures.emptied;
      standing = c.lose.ensures.standing;
      left =
          meant_left now.standing.phase now.standing.encoding meaning now.documents new.documents babbled
          (loses_named (meant meaning) c.in-Some.uri.now now.documents new.documents named c.lose.ensures.unknown c.lose.ensures.others);
      warned = c.lose.ensures.warned;
      tokens = c.lose.ensures.tokens;
    }

pub returns-in-None : goal.returns-in-None
returns-in-None c =
    let now = c.args.self.now in
    let meaning = view c.args.value.now in
    let babbled : said meaning ≡ babbles = subst (IsUnread meaning) c.in-NotAMessage.is c.requires in
    let unnamed : meant meaning ≡ None = sym c.in-None.ensures in
    record {
      news = c.none-in-None.result;
      reply = refl;
      emptied = empties_none c.none-in-None.result c.none-in-None.ensures.published;
      standing = refl;
      left = meant_left now.standing.phase now.standing.encoding meaning now.documents now.documents babbled (loses_nothing (meant meaning) now.documents unnamed);
      warned = warned_none c.none-in-None.result.lost now.documents now.documents c.none-in-None.ensures.lost (none_lost now.documents);
      tokens = drops_none now;
    }

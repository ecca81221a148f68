use Rattle.std.proofs.Common.{refl}
use Rattle.typst_server.proofs.Held.{warned_all}
use Rattle.typst_server.proofs.server.Server.answer_unread.Goals as goal

pub returns : goal.returns
returns c =
    record {
      news = c.all_lost-news.result;
      reply = refl;
      emptied = c.all_lost-news.ensures.emptied;
      standing = refl;
      lost = c.lose_all.ensures.lost;
      warned = warned_all c.all_lost-news.result.lost c.args.self.now.documents c.lose_all.new.self c.all_lost-news.ensures.warned;
      tokens = (refl, c.lose_all.ensures.sent);
    }

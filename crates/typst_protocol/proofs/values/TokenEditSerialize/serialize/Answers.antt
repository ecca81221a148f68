use Rattle.typst_protocol.proofs.Cited.{codes, Sends, Then, unsigned, Member, WritesNumbers}
use Rattle.typst_protocol.proofs.Events.{ends-map}
use Rattle.typst_protocol.proofs.values.TokenEditSerialize.serialize.Goals as goal

pub returns : goal.returns
returns g c =
    let edit = c.args.self.now in
    ends-map c.end_map.result 3
    (Then (Member (codes "start") (Sends (unsigned edit.start))) (Then (Member (codes "deleteCount") (Sends (unsigned edit.delete_count))) (Member (codes "data") (WritesNumbers edit.data.now))))
    (g.S.Serializer.written c.args.out.now) (g.S.Serializer.written c.begin_map.new.self) (g.S.Serializer.written c.serialize-3.new.out) (g.S.Serializer.written c.end_map.new.self) c.in_ok-begin_map.ensures (
      g.S.Serializer.written c.serialize.new.out,
      (g.S.Serializer.written c.key.new.self, c.in_ok-key.ensures, c.in_ok-serialize.ensures),
      (
        g.S.Serializer.written c.serialize-2.new.out,
        (g.S.Serializer.written c.key-2.new.self, c.in_ok-key-2.ensures, c.in_ok-serialize-2.ensures),
        (g.S.Serializer.written c.key-3.new.self, c.in_ok-key-3.ensures, c.in_ok-serialize-3.ensures),
      ),
    )
    c.end_map.ensures

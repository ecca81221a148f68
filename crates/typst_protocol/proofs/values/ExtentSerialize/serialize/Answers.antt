use Rattle.typst_protocol.proofs.Cited.{codes, Then, Member, WritesPlace}
use Rattle.typst_protocol.proofs.Events.{ends-map}
use Rattle.typst_protocol.proofs.values.ExtentSerialize.serialize.Goals as goal

pub returns : goal.returns
returns g c =
    let extent = c.args.self.now in
    ends-map c.end_map.result 2 (Then (Member (codes "start") (WritesPlace extent.start)) (Member (codes "end") (WritesPlace extent.end))) (g.S.Serializer.written c.args.out.now)
    (g.S.Serializer.written c.begin_map.new.self) (g.S.Serializer.written c.serialize-2.new.out) (g.S.Serializer.written c.end_map.new.self) c.in_ok-begin_map.ensures (
      g.S.Serializer.written c.serialize.new.out,
      (g.S.Serializer.written c.key.new.self, c.in_ok-key.ensures, c.in_ok-serialize.ensures),
      (g.S.Serializer.written c.key-2.new.self, c.in_ok-key-2.ensures, c.in_ok-serialize-2.ensures),
    )
    c.end_map.ensures

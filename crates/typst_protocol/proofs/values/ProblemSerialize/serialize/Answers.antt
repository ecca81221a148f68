use Rattle.typst_protocol.proofs.Cited.{codes, Sends, Then, text, unsigned, Member, WritesExtent}
use Rattle.std.specs.String.{string_bytes}
use Rattle.typst_protocol.proofs.Events.{ends-map}
use Rattle.typst_protocol.proofs.values.ProblemSerialize.serialize.Goals as goal

pub returns : goal.returns
returns g c =
    let problem = c.args.self.now in
    ends-map c.end_map.result 4
    (
    Then (Member (codes "range") (WritesExtent problem.range))
    (Then (Member (codes "severity") (Sends (unsigned problem.severity))) (Then (Member (codes "source") (Sends (text problem.source.now))) (Member (codes "message") (Sends (text (string_bytes problem.message))))))
    )
    (g.S.Serializer.written c.args.out.now) (g.S.Serializer.written c.begin_map.new.self) (g.S.Serializer.written c.serialize-4.new.out) (g.S.Serializer.written c.end_map.new.self) c.in_ok-begin_map.ensures (
      g.S.Serializer.written c.serialize.new.out,
      (g.S.Serializer.written c.key.new.self, c.in_ok-key.ensures, c.in_ok-serialize.ensures),
      (
        g.S.Serializer.written c.serialize-2.new.out,
        (g.S.Serializer.written c.key-2.new.self, c.in_ok-key-2.ensures, c.in_ok-serialize-2.ensures),
        (
          g.S.Serializer.written c.serialize-3.new.out,
          (g.S.Serializer.written c.key-3.new.self, c.in_ok-key-3.ensures, c.in_ok-serialize-3.ensures),
          (g.S.Serializer.written c.key-4.new.self, c.in_ok-key-4.ensures, c.in_ok-serialize-4.ensures),
        ),
      ),
    )
    c.end_map.ensures

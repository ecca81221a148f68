use Rattle.typst_server.proofs.Cited.{◌≡◌, ◌-◌, ◌++◌, drop, take, encoded, shown_each}
use Rattle.typst_server.proofs.tokens.Encoder.with.Given as goal

abbrev pub invariant-loop-index : goal.invariant-loop-index
invariant-loop-index l =
    let first = l.fn.self in
    let shown = shown_each first.walk.encoding first.walk.source.text in
    let tokens = l.fn.tokens in
    record {
      walk : l.encoder.walk ≡ first.walk;
      added : l.encoder.numbers.items ++ encoded l.encoder.line l.encoder.column (shown (take (l.fn.end - l.index) (drop l.index tokens))) ≡ first.numbers.items ++ encoded first.line first.column (shown (take (l.fn.end - l.fn.start) (drop l.fn.start tokens)));
    }

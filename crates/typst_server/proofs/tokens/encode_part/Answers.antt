use Rattle.typst_server.proofs.Cited.{◌-◌, ◌++◌, ◌∙◌, ap, arith, drop, sym, take, encoded, shown_each}
use Rattle.typst_server.proofs.Sending.{first_numbers, later_numbers}
use Rattle.typst_server.proofs.tokens.encode_part.Goals as goal
use Rattle.std.proofs.lemmas.Result.{IfOk-weaker}

pub returns-then-start-eq0 : goal.returns-then-start-eq0
returns-then-start-eq0 c =
    let document = c.args.document.now in
    let text = document.source.text in
    let tokens = c.args.tokens.now in
    let end = c.args.end in
    let start = c.new.ensures in
    let none = c.if-start-eq0.true in
    IfOk-weaker c.with.result _ _
    (λ numbers is.
    is
    ∙ ((λ i. start.numbers i ++ encoded (start.start.0 i) (start.start.1 i) (shown_each (start.walk i).encoding (start.walk i).source.text (take (end - 0) (drop 0 tokens))))
    ∙ (ap (λ n. encoded 0 0 (shown_each document.encoding text (take (end - n) (drop n tokens)))) (sym none)
    ∙ first_numbers document.encoding text tokens c.args.start end none c.requires.ordered c.requires.within)))
    c.with.ensures

pub returns : goal.returns
returns c = grind (arith, IfOk-weaker, later_numbers)

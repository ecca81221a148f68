use Rattle.typst_lexer.proofs.Cited.{ap, ◌∙◌, chars, place, ahead-text}
use Rattle.typst_lexer.proofs.Moves.{past-end}
use Rattle.typst_lexer.proofs.Loops.{inline-is}
use Rattle.typst_lexer.proofs.raw_lines.push_inline.Goals as goal

pub push_lines-requires-clause-at_end : goal.push_lines-requires-clause-at_end
push_lines-requires-clause-at_end c = past-end (place c.new-s.result) (place c.eat_while.new.self) c.eat_while.ensures.moved

pub returns : goal.returns
returns c =
    inline-is (chars c.args.text.now) (place c.new-s.result) (place c.eat_while.new.self) (chars c.eat_while.result.now) _ _ _ (ap (λ p. p.ahead) c.new-s.ensures.place ∙ ahead-text c.args.text.now) c.eat_while.ensures.moved c.eat_while.ensures.taken c.in_ok-push_leaf.ensures c.in_ok-push_lines.ensures

use Rattle.typst_lexer.proofs.Cited.{common_steps, sym, ◌∙◌, arith, chars, place}
use Rattle.typst_lexer.proofs.Tags.{split-is, node-pair, node-open, node-closed}
use Rattle.typst_lexer.proofs.raw.raw_node.Goals as goal

pub is_pair-requires : goal.is_pair-requires
is_pair-requires c = (split-is c.args.text.now c.eat_while-delim.result.now c.after-rest.result.now (place c.new-s.result) (place c.eat_while-delim.new.self) c.eat_while-delim.utf8 c.new-s.ensures.place c.eat_while-delim.ensures.moved c.eat_while-delim.ensures.taken c.after-rest.ensures.characters).ascii

pub closed_node-requires-clause-ascii : goal.closed_node-requires-clause-ascii
closed_node-requires-clause-ascii c = (split-is c.args.text.now c.eat_while-delim.result.now c.after-rest.result.now (place c.new-s.result) (place c.eat_while-delim.new.self) c.eat_while-delim.utf8 c.new-s.ensures.place c.eat_while-delim.ensures.moved c.eat_while-delim.ensures.taken c.after-rest.ensures.characters).ascii

pub returns-then-is_pair : goal.returns-then-is_pair
returns-then-is_pair c =
    let h = split-is c.args.text.now c.eat_while-delim.result.now c.after-rest.result.now (place c.new-s.result) (place c.eat_while-delim.new.self) c.eat_while-delim.utf8 c.new-s.ensures.place c.eat_while-delim.ensures.moved c.eat_while-delim.ensures.taken c.after-rest.ensures.characters in
    c.in_ok-node.ensures ∙ sym (node-pair (chars c.args.text.now) (chars c.eat_while-delim.result.now) (chars c.after-rest.result.now) (sym c.if-is_pair.ensures)) ∙ sym h.whole

pub returns-in_default : goal.returns-in_default
returns-in_default c =
    let h = split-is c.args.text.now c.eat_while-delim.result.now c.after-rest.result.now (place c.new-s.result) (place c.eat_while-delim.new.self) c.eat_while-delim.utf8 c.new-s.ensures.place c.eat_while-delim.ensures.moved c.eat_while-delim.ensures.taken c.after-rest.ensures.characters in
    grind (arith, common_steps, node-open)

pub returns : goal.returns
returns c =
    let h = split-is c.args.text.now c.eat_while-delim.result.now c.after-rest.result.now (place c.new-s.result) (place c.eat_while-delim.new.self) c.eat_while-delim.utf8 c.new-s.ensures.place c.eat_while-delim.ensures.moved c.eat_while-delim.ensures.taken c.after-rest.ensures.characters in
    grind (arith, common_steps, node-closed)

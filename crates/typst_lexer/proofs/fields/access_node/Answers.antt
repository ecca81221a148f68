use Rattle.typst_lexer.proofs.Cited.{ap, sym, ◌∙◌, refl, encodes-chars, chars, place}
use Rattle.typst_lexer.proofs.Accesses.{access-names, stops-at, next-name, dot-taken, dot-shortens, no-names}
use Rattle.typst_lexer.proofs.fields.access_node.Goals as goal

pub fields-init : goal.fields-init
fields-init c =
    (access-names c.args.text.now _ _ _ _ c.new-s.ensures.place c.eat_until.ensures.moved c.eat_until.ensures.taken c.in_ok-node.ensures (encodes-chars c.eat_until.result.now c.eat_until.utf8), stops-at (place c.new-s.result) (place c.eat_until.new.self) c.eat_until.ensures.moved)

pub fields-smaller : goal.fields-smaller
fields-smaller c =
    let at = dot-taken _ (place c.fields.s) (place c.eat_if.new.self) c.eat_if.ensures.taken c.fields-test.true c.eat_if.ensures.moved in
    dot-shortens (place c.fields.s) (place c.eat_if.new.self) (place c.eat_until-name.new.self) at.0 at.1 c.eat_until-name.ensures.moved

pub fields-preserved : goal.fields-preserved
fields-preserved c =
    let at = dot-taken _ (place c.fields.s) (place c.eat_if.new.self) c.eat_if.ensures.taken c.fields-test.true c.eat_if.ensures.moved in
    (c.fields.invariant.0 ∙ next-name (place c.fields.s) (place c.eat_if.new.self) (place c.eat_until-name.new.self) (chars c.eat_until-name.result.now) c.fields.node c.in_ok-node-2.node at.0 at.1 c.eat_until-name.ensures.moved c.eat_until-name.ensures.taken c.in_ok-node-2.ensures, stops-at (place c.eat_if.new.self) (place c.eat_until-name.new.self) c.eat_until-name.ensures.moved)

pub returns : goal.returns
returns c = sym (c.fields.invariant.0 ∙ no-names (place c.fields.s) c.fields.node (sym c.eat_if.ensures.taken ∙ c.fields-test.false) c.fields.invariant.1)

use Rattle.typst_lexer.proofs.Cited.{sym, ap, ◌∙◌, arith, sight, went}
use Rattle.typst_lexer.proofs.FieldNames.{rest, rest-run, rest-field, rest-end, name-alone, name-field, stops, field-shortens}
use Rattle.typst_lexer.proofs.math_names.after_name.Goals as goal

pub returns-then-not-field_follows : goal.returns-then-not-field_follows
returns-then-not-field_follows g c = grind (arith, name-alone)

pub loop-s-init : goal.loop-s-init
loop-s-init g c =
    let k = g.C.Classes.classes c.args.classes.now in
    let v = c.args.s.now in
    let f = c.field_follows in
    let u = c.eat_two.new.self in
    let e = c.eat_while.ensures.sight in
    record {
      reads = ap (sight (rest k)) e ∙ sym (rest-run k u c.eat_two.ensures.covers) ∙ ap (sight (rest k)) (c.eat_two.ensures.sight ∙ ap (went 2) f.ensures.sight) ∙ sym (name-field k v (sym f.ensures.found ∙ c.if-not-field_follows.false));
      stops = stops k u c.eat_while.new.self e;
      covers = c.eat_while.ensures.covers;
    }

pub loop-s-smaller : goal.loop-s-smaller
loop-s-smaller g c = grind (arith, field-shortens)

pub loop-s-preserved : goal.loop-s-preserved
loop-s-preserved g c =
    let k = g.C.Classes.classes c.args.classes.now in
    let v = c.loop-s.s in
    let i = c.loop-s.invariant in
    let f = c.field_follows-in-loop-s in
    let u = c.eat_two-in-loop-s in
    let e = c.eat_while-in-loop-s.ensures.sight in
    record {
      reads = ap (sight (rest k)) e ∙ sym (rest-run k u.new.self u.ensures.covers) ∙ ap (sight (rest k)) (u.ensures.sight ∙ ap (went 2) f.ensures.sight) ∙ sym (rest-field k v i.covers i.stops (sym f.ensures.found ∙ c.loop-s-test.true)) ∙ i.reads;
      stops = stops k u.new.self c.eat_while-in-loop-s.new.self e;
      covers = c.eat_while-in-loop-s.ensures.covers;
    }

pub returns : goal.returns
returns g c = grind (arith, rest-end)

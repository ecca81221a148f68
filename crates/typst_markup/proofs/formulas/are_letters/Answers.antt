use Rattle.typst_markup.proofs.Cited.{sym, ap, ◌∙◌, rules, tests, is_alphabetic}
use Rattle.std.proofs.lemmas.Iterator.{YieldsList-from_chars}
use Rattle.std.proofs.lemmas.Iterator.Search.{all_from_yields_List}
use Rattle.typst_markup.proofs.Letters.{none-letters, one-letter, one-by-class, all-letters}
use Rattle.typst_markup.proofs.formulas.are_letters.Goals as goal

pub returns-in_default : goal.returns-in_default
returns-in_default g c = none-letters (g.C.Classes.classes c.args.classes.now) c.args.text.now _ c.new-s.ensures.place c.eat.ensures.next c.in_default.is

pub returns-then-is_alphabetic : goal.returns-then-is_alphabetic
returns-then-is_alphabetic g c =
    one-letter (g.C.Classes.classes c.args.classes.now) c.args.text.now _ c.new-s.ensures.place _ c.eat.ensures.moved c.done.ensures
    c.in-Some.first c.eat.ensures.next c.in-Some.is c.if-done.true c.is_alphabetic.ensures c.if-is_alphabetic.true

pub returns-else-is_alphabetic : goal.returns-else-is_alphabetic
returns-else-is_alphabetic g c =
    one-by-class (g.C.Classes.classes c.args.classes.now) c.args.text.now _ c.new-s.ensures.place _ c.eat.ensures.moved c.done.ensures
    c.in-Some.first c.eat.ensures.next c.in-Some.is c.if-done.true c.is_alphabetic.ensures c.if-is_alphabetic.false (c.is_alphabetic-else-is_alphabetic.ensures ∙ ap is_alphabetic c.math_class.ensures)

pub returns : goal.returns
returns g c =
    let k = g.C.Classes.classes c.args.classes.now in
    all_from_yields_List k.alphabetic _ _ _ c.all.ensures.ran (YieldsList-from_chars c.args.text.now c.utf8.text cc) (λ x b q w. search (rules, tests))
    ∙ sym (all-letters k c.args.text.now _ c.new-s.ensures.place _ c.eat.ensures.moved c.done.ensures c.if-done.false)

use Rattle.typst_c.proofs.Cited.{◌≡◌, ap, sym, ◌∙◌, refl, length, same_Some, none-some, filled}
use Rattle.typst_highlight.specs.Tags.{class_of}
use Rattle.typst_c.proofs.names.put_tag.Goals as goal

pub returns-in-Some-clause-named : goal.returns-in-Some-clause-named
returns-in-Some-clause-named c = λ k e.
    let same : c.in-Some.tag ≡ k = same_Some c.in-Some.tag k (sym c.in-Some.is ∙ (c.tag_of_code.ensures k).1 e) in
    let name = c.css_class.ensures ∙ ap class_of same in
    record { bytes = c.fill_text.ensures.count ∙ ap length name; room = c.fill_text.ensures.room ∙ ap (λ xs. filled xs c.args.room.now) name }

pub returns-in-Some-clause-none : goal.returns-in-Some-clause-none
returns-in-Some-clause-none c = λ h. absurd (h c.in-Some.tag ((c.tag_of_code.ensures c.in-Some.tag).0 c.in-Some.is))

pub returns-in-None-clause-named : goal.returns-in-None-clause-named
returns-in-None-clause-named c = λ k e. absurd (none-some k (sym c.in-None.is ∙ (c.tag_of_code.ensures k).1 e))

pub returns-in-None-clause-none : goal.returns-in-None-clause-none
returns-in-None-clause-none c = λ _. record { bytes = refl; room = refl }

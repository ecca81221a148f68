use Rattle.typst_document.proofs.Cited.{◌≡◌, true, ap, sym, ◌∙◌, is_ok, unicode_classes, Headline, line_starts}
use Rattle.typst_document.proofs.Records.{of-ok, records-kept}
use Rattle.typst_document.proofs.document.Document.replaced.Goals as goal

pub invariant_of-result : goal.invariant_of-result
invariant_of-result c =
    let old = c.self.inside.source in
    let new = c.replace.new.self in
    let done : true ≡ is_ok c.replace.result = c.in_ok-map_err.ensures.variant in
    let text : new.text ≡ c.args.text.now = of-ok c.replace.result (new.text ≡ c.args.text.now) done c.replace.ensures.text in
    let other : (old.text ≡ c.args.text.now → ⊥) → new.has_records ≡ true =
    of-ok c.replace.result ((old.text ≡ c.args.text.now → ⊥) → new.has_records ≡ true) done c.replace.ensures.records in
    let recorded : new.has_records ≡ true = records-kept old new c.args.text.now c.self.invariant.recorded (λ same. (c.replace.ensures.same same).1) other in
    record {
      lines = c.in_ok-positions.ensures ∙ sym (ap line_starts text);
      recorded = recorded;
      headline = of-ok c.replace.result (new.has_records ≡ true → Headline unicode_classes new) done c.replace.ensures.headline recorded;
    }

pub returns-clause-headline : goal.returns-clause-headline
returns-clause-headline c =
    let old = c.self.inside.source in
    let new = c.replace.new.self in
    let done : true ≡ is_ok c.replace.result = c.in_ok-map_err.ensures.variant in
    let other : (old.text ≡ c.args.text.now → ⊥) → new.has_records ≡ true =
    of-ok c.replace.result ((old.text ≡ c.args.text.now → ⊥) → new.has_records ≡ true) done c.replace.ensures.records in
    of-ok c.replace.result (new.has_records ≡ true → Headline unicode_classes new) done c.replace.ensures.headline
    (records-kept old new c.args.text.now c.self.invariant.recorded (λ same. (c.replace.ensures.same same).1) other)

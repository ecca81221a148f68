use Rattle.typst_parser.proofs.Cited.{◌≡◌, ◌∙◌, ◌-◌, ◌<◌, ◌^◌, List, ℕ, true, length, Option, None, Ok, ap, sym, subst, refl, arith, rules, IfSome, IsCharBoundary, IsBoundary, candidates, IsAnswer, NonePasses, change_of, edited, Held, Edits, change_by, Reread}
use Rattle.typst_parser.proofs.Changed.{edited-by}
use Rattle.typst_parser.proofs.Reparsed.{answer-again, edits-again, holds, makes-text, records-again}
use Rattle.typst_parser.proofs.source.Source.read_part.Goals as goal

pub reparse-requires-clause-edits : goal.reparse-requires-clause-edits
reparse-requires-clause-edits g c =
    let i = c.self.inside in
    let k = g.C.Classes.classes i.classes in
    let r = c.args.replace in
    let at : i.lines ≡ c.args.self.now.text = ap (λ (s : Held g.row.C.Denot). s.text) c.self.view_is in
    let old : Held g.row.C.Denot = record { id = i.id; text = i.lines; root = i.root; classes = i.classes; has_records = i.has_records } in
    let now : Held g.row.C.Denot = record { id = i.id; text = c.in-Ok.edited.after; root = i.root; classes = i.classes; has_records = i.has_records } in
    let h = edited-by i.lines i.lines c.text.result.now c.in-Ok.edited.after c.args.with.now r c.saturating_sub-after.result (length c.text-text.result.now) c.saturating_sub.result refl (c.text.ensures ∙ sym at) c.text.utf8 c.utf8.with
    (subst (λ t. IsCharBoundary t r.start) (sym at) c.requires.start) (subst (λ t. IsCharBoundary t r.end) (sym at) c.requires.end) c.requires.ordered (c.in-Ok.ensures.after) c.saturating_sub-after.ensures (ap length (c.text-text.ensures)) c.saturating_sub.ensures in
    let had = c.self.invariant.records c.if-not-self.false in
    let fits : length now.text < 2 ^ 64 - 1 = omega (arith, c.if-text.false, ap length (c.text-text.ensures)) in
    (change_by h, (makes-text k old now (record { start = r.start; old_end = r.end; new_end = c.saturating_sub.result }) h i.records.units had c.text-text.result.now c.text-text.ensures fits, holds k old now (record { start = r.start; old_end = r.end; new_end = c.saturating_sub.result }) h i.records.units had))

pub reparse-requires-clause-boundary : goal.reparse-requires-clause-boundary
reparse-requires-clause-boundary g c = c.self.invariant.between

pub invariant_of-self-in-Ok-Some : goal.invariant_of-self-in-Ok-Some
invariant_of-self-in-Ok-Some g c = record {
  records = λ has. (
      let i = c.self.inside in
      let k = g.C.Classes.classes i.classes in
      let r = c.args.replace in
      let at : i.lines ≡ c.args.self.now.text = ap (λ (s : Held g.row.C.Denot). s.text) c.self.view_is in
      let old : Held g.row.C.Denot = record { id = i.id; text = i.lines; root = i.root; classes = i.classes; has_records = i.has_records } in
      let now : Held g.row.C.Denot = record { id = i.id; text = c.keep.result; root = c.reparse.new.root; classes = i.classes; has_records = i.has_records } in
      let h = edited-by i.lines i.lines c.text.result.now c.keep.result c.args.with.now r c.saturating_sub-after.result (length c.text-text.result.now) c.saturating_sub.result refl (c.text.ensures ∙ sym at) c.text.utf8 c.utf8.with
      (subst (λ t. IsCharBoundary t r.start) (sym at) c.requires.start) (subst (λ t. IsCharBoundary t r.end) (sym at) c.requires.end) c.requires.ordered (c.keep.ensures ∙ c.in-Ok.ensures.after) c.saturating_sub-after.ensures (ap length (c.text-text.ensures ∙ sym c.keep.ensures)) c.saturating_sub.ensures in
      let had = c.self.invariant.records c.if-not-self.false in
      let fits : length now.text < 2 ^ 64 - 1 = omega (arith, c.if-text.false, ap length (c.text-text.ensures ∙ sym c.keep.ensures)) in
      records-again k old now (record { start = r.start; old_end = r.end; new_end = c.saturating_sub.result }) h i.records.units had c.text-text.result.now (c.text-text.ensures ∙ sym c.keep.ensures) fits c.reparse.new.records.units c.in-Ok-Some.read c.in-Ok-Some.field-0 c.in-Ok-Some.field-0-is c.in-Ok-Some.ensures.part c.in-Ok-Some.ensures.ordered);
  between = subst (λ (o : Option Reread). IfSome o (λ r. IsBoundary c.reparse.new.root r.boundary)) c.in-Ok-Some.field-0-is c.in-Ok-Some.ensures.boundary;
}

pub returns-in-Ok-Some-clause-tried : goal.returns-in-Ok-Some-clause-tried
returns-in-Ok-Some-clause-tried g c =
    let i = c.self.inside in
    let k = g.C.Classes.classes i.classes in
    let r = c.args.replace in
    let at : i.lines ≡ c.args.self.now.text = ap (λ (s : Held g.row.C.Denot). s.text) c.self.view_is in
    let old : Held g.row.C.Denot = record { id = i.id; text = i.lines; root = i.root; classes = i.classes; has_records = i.has_records } in
    let now : Held g.row.C.Denot = record { id = i.id; text = c.keep.result; root = c.reparse.new.root; classes = i.classes; has_records = i.has_records } in
    let h = edited-by i.lines i.lines c.text.result.now c.keep.result c.args.with.now r c.saturating_sub-after.result (length c.text-text.result.now) c.saturating_sub.result refl (c.text.ensures ∙ sym at) c.text.utf8 c.utf8.with
    (subst (λ t. IsCharBoundary t r.start) (sym at) c.requires.start) (subst (λ t. IsCharBoundary t r.end) (sym at) c.requires.end) c.requires.ordered (c.keep.ensures ∙ c.in-Ok.ensures.after) c.saturating_sub-after.ensures (ap length (c.text-text.ensures ∙ sym c.keep.ensures)) c.saturating_sub.ensures in
    let had = c.self.invariant.records c.if-not-self.false in
    let fits : length now.text < 2 ^ 64 - 1 = omega (arith, c.if-text.false, ap length (c.text-text.ensures ∙ sym c.keep.ensures)) in
    let text : now.text ≡ edited i.lines r c.args.with.now = c.keep.ensures ∙ c.in-Ok.ensures.after in
    let edits = edits-again k old now (record { start = r.start; old_end = r.end; new_end = c.saturating_sub.result }) h i.records.units had c.text-text.result.now (c.text-text.ensures ∙ sym c.keep.ensures) fits c.reparse.new.records.units c.in-Ok-Some.read c.in-Ok-Some.field-0 c.in-Ok-Some.field-0-is c.in-Ok-Some.ensures.part c.in-Ok-Some.ensures.ordered refl refl c.if-not-self.false in
    subst (λ (s : Held g.row.C.Denot). Edits (g.C.Classes.classes s.classes) s now (edited s.text r c.args.with.now) c.in-Ok-Some.read.range) c.self.view_is (subst (λ (t : List ℕ). Edits k old now t c.in-Ok-Some.read.range) text edits)

pub returns-in-Ok-Some-clause-decided : goal.returns-in-Ok-Some-clause-decided
returns-in-Ok-Some-clause-decided g c =
    let i = c.self.inside in
    let k = g.C.Classes.classes i.classes in
    let r = c.args.replace in
    let at : i.lines ≡ c.args.self.now.text = ap (λ (s : Held g.row.C.Denot). s.text) c.self.view_is in
    let old : Held g.row.C.Denot = record { id = i.id; text = i.lines; root = i.root; classes = i.classes; has_records = i.has_records } in
    let now : Held g.row.C.Denot = record { id = i.id; text = c.keep.result; root = c.reparse.new.root; classes = i.classes; has_records = i.has_records } in
    let h = edited-by i.lines i.lines c.text.result.now c.keep.result c.args.with.now r c.saturating_sub-after.result (length c.text-text.result.now) c.saturating_sub.result refl (c.text.ensures ∙ sym at) c.text.utf8 c.utf8.with
    (subst (λ t. IsCharBoundary t r.start) (sym at) c.requires.start) (subst (λ t. IsCharBoundary t r.end) (sym at) c.requires.end) c.requires.ordered (c.keep.ensures ∙ c.in-Ok.ensures.after) c.saturating_sub-after.ensures (ap length (c.text-text.ensures ∙ sym c.keep.ensures)) c.saturating_sub.ensures in
    let had = c.self.invariant.records c.if-not-self.false in
    let fits : length now.text < 2 ^ 64 - 1 = omega (arith, c.if-text.false, ap length (c.text-text.ensures ∙ sym c.keep.ensures)) in
    let answer = answer-again k old now (record { start = r.start; old_end = r.end; new_end = c.saturating_sub.result }) h i.records.units had c.text-text.result.now (c.text-text.ensures ∙ sym c.keep.ensures) fits c.reparse.new.records.units c.in-Ok-Some.read c.in-Ok-Some.field-0 c.in-Ok-Some.field-0-is c.in-Ok-Some.ensures.part c.in-Ok-Some.ensures.ordered in
    subst (λ (s : Held g.row.C.Denot). (s.has_records ≡ true) × (let ch = change_of s.text r c.args.with.now in IsAnswer (g.C.Classes.classes s.classes) ch (candidates (g.C.Classes.classes s.classes) ch s.root) s.root c.reparse.new.root c.in-Ok-Some.read.range)) c.self.view_is
    (c.if-not-self.false, answer)

pub returns-in-Ok-None-clause-decided : goal.returns-in-Ok-None-clause-decided
returns-in-Ok-None-clause-decided g c =
    let i = c.self.inside in
    let k = g.C.Classes.classes i.classes in
    let r = c.args.replace in
    let at : i.lines ≡ c.args.self.now.text = ap (λ (s : Held g.row.C.Denot). s.text) c.self.view_is in
    let old : Held g.row.C.Denot = record { id = i.id; text = i.lines; root = i.root; classes = i.classes; has_records = i.has_records } in
    let now : Held g.row.C.Denot = record { id = i.id; text = c.in-Ok.edited.after; root = i.root; classes = i.classes; has_records = i.has_records } in
    let h = edited-by i.lines i.lines c.text.result.now c.in-Ok.edited.after c.args.with.now r c.saturating_sub-after.result (length c.text-text.result.now) c.saturating_sub.result refl (c.text.ensures ∙ sym at) c.text.utf8 c.utf8.with
    (subst (λ t. IsCharBoundary t r.start) (sym at) c.requires.start) (subst (λ t. IsCharBoundary t r.end) (sym at) c.requires.end) c.requires.ordered (c.in-Ok.ensures.after) c.saturating_sub-after.ensures (ap length (c.text-text.ensures)) c.saturating_sub.ensures in
    let had = c.self.invariant.records c.if-not-self.false in
    let fits : length now.text < 2 ^ 64 - 1 = omega (arith, c.if-text.false, ap length (c.text-text.ensures)) in
    let is : c.reparse.result ≡ Ok None = c.in-Ok-None.is ∙ ap (λ o. Ok o) c.in-Ok-None.field-0-is in
    let none = c.reparse.ensures.none (change_by h) (makes-text k old now (record { start = r.start; old_end = r.end; new_end = c.saturating_sub.result }) h i.records.units had c.text-text.result.now c.text-text.ensures fits) (holds k old now (record { start = r.start; old_end = r.end; new_end = c.saturating_sub.result }) h i.records.units had) is in
    subst (λ (s : Held g.row.C.Denot). s.has_records ≡ true → length (edited s.text r c.args.with.now) < 2 ^ 64 - 1 → NonePasses (g.C.Classes.classes s.classes) (change_of s.text r c.args.with.now) s.root) c.self.view_is (λ _ _. none)

pub invariant_of-self-in-Err : goal.invariant_of-self-in-Err
invariant_of-self-in-Err g c = search rules

pub returns-in-Err-clause-err : goal.returns-in-Err-clause-err
returns-in-Err-clause-err g c = search rules

pub returns-in-Err-clause-memory : goal.returns-in-Err-clause-memory
returns-in-Err-clause-memory g c = search rules

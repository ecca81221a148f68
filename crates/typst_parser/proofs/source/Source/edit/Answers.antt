use Rattle.typst_parser.proofs.Cited.{◌∙◌, ◌-◌, length, ap, subst, refl, change_of, edited, Held, ReadsWhole, AnswersEdit, Tries}
use Rattle.typst_parser.proofs.Changed.{edited-by}
use Rattle.typst_parser.proofs.Reparsed.{answers-whole}
use Rattle.typst_parser.proofs.source.Source.edit.Goals as goal

pub returns-in-Some-clause-answer : goal.returns-in-Some-clause-answer
returns-in-Some-clause-answer g c =
    let k = g.C.Classes.classes c.args.self.now.classes in
    let old = c.args.self.now in
    let now = c.read_part.new.self in
    let text = edited old.text c.args.replace c.args.with.now in
    let read = subst (AnswersEdit k old now text (change_of old.text c.args.replace c.args.with.now)) c.in-Some.is c.in_ok-range.ensures.decided in
    record { recorded = λ _. read.1; unrecorded = λ none. absurd (cc) }

pub returns-clause-answer : goal.returns-clause-answer
returns-clause-answer g c =
    let k = g.C.Classes.classes c.args.self.now.classes in
    let old = c.args.self.now in
    let mid = c.read_part.new.self in
    let now = c.read_whole.new.self in
    let r = c.args.replace in
    let with = c.args.with.now in
    let text = edited old.text r with in
    let was = c.text-text.result.now in
    let range = c.in_ok-read_whole.field-0 in
    let n = length text - (length was - r.end) in
    let h = edited-by old.text old.text was text with r (length was - r.end) (length text) n refl c.text-text.ensures c.text-text.utf8 c.utf8.with c.requires.start c.requires.end c.requires.ordered refl refl refl refl in
    let none = subst (AnswersEdit k old mid text (change_of old.text r with)) c.in_default.is c.in_ok-range.ensures.decided in
    let same = subst (Tries k old mid text) c.in_default.is c.in_ok-range.ensures.tried in
    let read = subst (λ (s : Held g.row.C.Denot). ReadsWhole (g.C.Classes.classes s.classes) s now (edited s.text r with) range) same c.in_ok-read_whole.ensures.whole in
    answers-whole k old now with r n text h refl range (c.in_ok-read_whole.ensures.edits.text_is ∙ ap (λ (s : Held g.row.C.Denot). edited s.text r with) same) read none

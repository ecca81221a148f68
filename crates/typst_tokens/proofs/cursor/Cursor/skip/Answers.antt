use Rattle.typst_tokens.proofs.Cited.{◌∙◌, ap, sym, subst, length, take, IsUtf8-had, chars, place, sight_of, Sight, Covers, went}
use Rattle.typst_tokens.proofs.Ahead.{bytes-of, skipped}
use Rattle.typst_tokens.proofs.Sights.{covers-went, offset-is}
use Rattle.typst_tokens.proofs.Lines.{line-kept}
use Rattle.typst_tokens.proofs.cursor.Cursor.skip.Goals as goal

pub advance-requires : goal.advance-requires
advance-requires c =
    let text = c.args.text.now in
    let cs = chars text in
    (length cs, bytes-of text (place c.self.inside.s) c.utf8.text (ap (λ (v : Sight). take (length cs) v.place.ahead) c.self.view_is ∙ c.requires))

pub invariant_of-self : goal.invariant_of-self
invariant_of-self c =
    let i = c.self.inside in
    let text = c.args.text.now in
    let cs = chars text in
    let s = c.advance.new.self in
    let e = ap (λ (v : Sight). take (length cs) v.place.ahead) c.self.view_is ∙ c.requires in
    let at = c.cursor.ensures ∙ offset-is s.text.now s.cursor (IsUtf8-had _ s.utf8) s.boundary in
    let moves = c.advance.ensures.moved (length cs) (bytes-of text (place i.s) c.utf8.text e) in
    record { looks = subst Covers (sym (skipped cs (place i.s) (place s) i.reach i.least c.max-self-inside.result c.cursor.result e moves at c.max-self-inside.ensures)) (covers-went (length cs) (sight_of i) c.self.invariant.looks); line = line-kept _ _ _ _ (c.advance.ensures.same_text) c.self.invariant.line }

pub returns : goal.returns
returns c =
    let i = c.self.inside in
    let text = c.args.text.now in
    let cs = chars text in
    let s = c.advance.new.self in
    let e = ap (λ (v : Sight). take (length cs) v.place.ahead) c.self.view_is ∙ c.requires in
    let at = c.cursor.ensures ∙ offset-is s.text.now s.cursor (IsUtf8-had _ s.utf8) s.boundary in
    let moves = c.advance.ensures.moved (length cs) (bytes-of text (place i.s) c.utf8.text e) in
    skipped cs (place i.s) (place s) i.reach i.least c.max-self-inside.result c.cursor.result e moves at c.max-self-inside.ensures ∙ ap (went (length cs)) c.self.view_is

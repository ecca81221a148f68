use Rattle.typst_language.proofs.Cited.{List, ◌∙◌, refl, ap, sym, bytes_left, view_of, Guessed}
use Rattle.typst_language.proofs.Knowing.{place-after, remembers-more, remembers-same}
use Rattle.typst_language.proofs.parser.Parser.remember.Goals as goal

pub returns-then-self-lt2 : goal.returns-then-self-lt2
returns-then-self-lt2 g c = remembers-same _ _ refl

pub returns : goal.returns
returns g c =
    let i = c.self.inside in
    rw (sym c.self.view_is)
    (remembers-more {v = view_of i} _ _ _ c.first_at-at.result (ap (λ (es : List Guessed). record (view_of i) { memo = es }) c.in_ok-insert.ensures.items)
    (sym c.is_leaf.ensures ∙ c.if-not-is_leaf.false)
    (c.left.ensures ∙ ap bytes_left (place-after i.ahead c.self.invariant.stands)) c.levels.ensures refl refl refl c.hull.ensures)

use Rattle.typst_tokens.proofs.Cited.{◌∙◌, ap, sym, codes, regard, text_step}
use Rattle.typst_tokens.proofs.Texts.{two-words}
use Rattle.typst_tokens.proofs.text.goes_on.Goals as goal

pub returns-then-not-word_after : goal.returns-then-not-word_after
returns-then-not-word_after g c =
    let k = g.C.Classes.classes c.args.classes.now in
    let v = c.args.s.now in
    let first = c.word_after-in-h in
    let second = c.word_after-then-not-word_after in
    ap (λ x. regard (text_step k x) v) c.in-h.is
    ∙ two-words (codes "ttp://") (codes "ttps://") v first.new.self second.new.self second.result (sym first.ensures.found ∙ c.if-not-word_after.true) first.ensures.sight second.ensures.found second.ensures.sight

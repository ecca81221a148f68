use Rattle.typst_lexer.proofs.Cited.{refl, encodes-chars}
use Rattle.typst_lexer.proofs.raw_tag.is_whole.Goals as goal

pub returns-then-not-is_empty : goal.returns-then-not-is_empty
returns-then-not-is_empty c = rw (encodes-chars c.args.inner.now c.utf8.inner, encodes-chars c.args.tag.now c.utf8.tag, ← c.if-not-is_empty.ensures) refl

pub returns-else-not-is_empty : goal.returns-else-not-is_empty
returns-else-not-is_empty c = rw (encodes-chars c.args.inner.now c.utf8.inner, encodes-chars c.args.tag.now c.utf8.tag, c.if-not-is_empty.false, ← c.if-not-is_empty.ensures) refl

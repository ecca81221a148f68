use Rattle.typst_lexer.proofs.Cited.{sym, ap, ◌∙◌, ◌+◌, ℕ, encodes-chars, chars, Bytes}
use Rattle.typst_lexer.proofs.Tags.{only_tag-is, width-is}
use Rattle.typst_lexer.proofs.raw_tag.warn_only_tag.Goals as goal

abbrev from : ℕ → ℕ → Bytes
from n w = record { start = n; end = n + w }

pub returns : goal.returns
returns c =
    let range = (rw c.unwrap-stretch.ensures at c.new.ensures).1 ∙ ap (from c.args.ticks) (sym (width-is c.args.tag.now c.utf8.tag)) in
    let said = c.as_str.ensures.value ∙ rw (encodes-chars c.args.tag.now c.utf8.tag) c.in_ok-treated.ensures.ok in
    only_tag-is c.args.ticks (chars c.args.tag.now) c.args.node.now c.warn.new.self c.hint.new.self c.hint_at.new.self c.unwrap-stretch.result c.as_str.result.now range said c.in_ok-warn.ensures.ok c.in_ok-hint.ensures.ok c.in_ok-hint_at.ensures.ok

use Rattle.typst_lexer.proofs.Cited.{refl, encode, later_lines, last_raw_line, dedent, closing, front, block_leaves, inline_leaves, tag, warned, raw_node}
use Rattle.typst_lexer.proofs.raw_laws.inline_raws.Goals as goal

pub returns : goal.returns
unfolding encode raw_node later_lines last_raw_line dedent closing front block_leaves inline_leaves tag warned
returns c = record { empty = refl; lines = refl; unclosed = refl; unclosed_by_two = refl }

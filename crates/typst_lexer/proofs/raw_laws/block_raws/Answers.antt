use Rattle.typst_lexer.proofs.Cited.{refl, encode, later_lines, last_raw_line, dedent, closing, front, block_leaves, inline_leaves, tag, warned, raw_node}
use Rattle.typst_lexer.proofs.raw_laws.block_raws.Goals as goal

pub returns : goal.returns
unfolding encode raw_node later_lines last_raw_line dedent closing front block_leaves inline_leaves tag warned
returns c = record { dedented = refl; spare_space = refl; kept_space = refl; blank = refl }

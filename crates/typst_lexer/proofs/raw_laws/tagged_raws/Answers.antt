use Rattle.typst_lexer.proofs.Cited.{refl, encode, later_lines, last_raw_line, dedent, closing, front, block_leaves, inline_leaves, tag, warned, raw_node}
use Rattle.typst_lexer.proofs.raw_laws.tagged_raws.Goals as goal

pub returns : goal.returns
unfolding encode raw_node later_lines last_raw_line dedent closing front block_leaves inline_leaves tag warned
returns c = record { signs = refl; backtick = refl; untagged = refl; only_tag = refl }

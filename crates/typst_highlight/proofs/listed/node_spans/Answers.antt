use Rattle.std.proofs.Common.{arith}
use Rattle.typst_highlight.proofs.SpanLists.{lister_root}
use Rattle.typst_highlight.proofs.listed.node_spans.Goals as goal

pub returns : goal.returns
returns c = grind (arith, lister_root)

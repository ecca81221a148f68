use Rattle.std.proofs.Common.{length}
use Rattle.typst_lines.proofs.ClusterLemmas.{ascii_cluster, whole_line}
use Rattle.typst_fakes.proofs.wide.WideClasses.cluster.Goals as goal

pub returns-then-is_ascii : goal.returns-then-is_ascii
returns-then-is_ascii c = ascii_cluster c.args.line.now c.utf8.line c.requires.some length c.if-is_ascii.ensures.cases

pub returns-else-is_ascii : goal.returns-else-is_ascii
returns-else-is_ascii c = whole_line c.args.line.now c.utf8.line c.requires.some c.if-is_ascii.ensures.cases

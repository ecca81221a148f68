use Rattle.typst_lines.proofs.Cited.{sym, ◌∙◌, arith, chars, segments}
use Rattle.typst_lines.proofs.AsciiClusters.{front_cluster, not_all}
use Rattle.typst_lines.proofs.ClusterLemmas.{more}
use Rattle.typst_lines.proofs.UnicodeCluster.{first_cluster, no_cluster}
use Rattle.typst_lines.proofs.by_unicode.UnicodeClassesClasses.cluster.Goals as goal

pub returns-then-begins_alone : goal.returns-then-begins_alone
returns-then-begins_alone c =
    front_cluster (chars c.args.line.now) (more c.args.line.now c.utf8.line c.requires.some) c.requires.inside (sym c.begins_alone.ensures ∙ c.if-begins_alone.true)

pub returns-in-Some : goal.returns-in-Some
unfolding segments
returns-in-Some c = grind (arith, first_cluster, not_all)

pub returns-in-None : goal.returns-in-None
unfolding segments
returns-in-None c = absurd (no_cluster c.args.line.now c.utf8.line c.requires.some (sym c.graphemes.ensures.left ∙ c.in-None.ensures.steps.0))

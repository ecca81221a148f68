use Rattle.typst_lines.proofs.Cited.{refl, link_prefix}
use Rattle.typst_lines.proofs.laws.some_links.Goals as goal

pub returns : goal.returns
unfolding link_prefix
returns c = record { wrong_closer = refl; lone_closer = refl; nested = refl; unclosed = refl; last_signs = refl; kept_sign = refl; signs_alone = refl }

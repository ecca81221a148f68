use Rattle.std.proofs.Common.{codes}
use Rattle.typst_report.proofs.TokenLemmas.{written_last}
use Rattle.typst_report.specs.Ndjson.{text_member}
use Rattle.typst_check.specs.Sarif.{object_member, region_members}
use Rattle.typst_check.proofs.sarif.objects.write_place_members.Goals as goal

pub returns-clause-tokens : goal.returns-clause-tokens
returns-clause-tokens c =
    written_last c.write_region.result c.args.writer.now.tokens _ _ (object_member (codes "artifactLocation") (text_member (codes "uri") c.args.uri.now))
    (object_member (codes "region") (region_members c.args.region)) c.in_ok-write_file.ensures.tokens c.write_region.ensures.tokens

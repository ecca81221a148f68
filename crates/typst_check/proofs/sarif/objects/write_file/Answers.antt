use Rattle.std.proofs.Common.{codes}
use Rattle.typst_report.specs.Ndjson.{text_member}
use Rattle.typst_check.proofs.ObjectLemmas.{object_written}
use Rattle.typst_check.proofs.sarif.objects.write_file.Goals as goal

pub returns-clause-tokens : goal.returns-clause-tokens
returns-clause-tokens c =
    object_written c.end_object.result c.args.writer.now.tokens _ _ _ _ (codes "artifactLocation") (text_member (codes "uri") c.args.uri.now)
    c.in_ok-key.ensures.ok c.in_ok-begin_object.ensures.ok c.in_ok-write_text.ensures.tokens c.end_object.ensures.ok

use Rattle.std.proofs.Common.{◌++◌, codes}
use Rattle.typst_report.specs.Ndjson.{text_member}
use Rattle.typst_report.proofs.TokenLemmas.{written, written_last}
use Rattle.typst_check.specs.Sarif.{list_member, message_member, object_item, place_member}
use Rattle.typst_check.proofs.sarif.objects.write_finding.Goals as goal

pub returns-clause-tokens : goal.returns-clause-tokens
returns-clause-tokens c =
    let t = c.args.finding.now in
    let rule = text_member (codes "ruleId") c.args.rule.now in
    let level = text_member (codes "level") t.severity.now in
    let message = message_member t.message.now in
    let place = list_member (codes "locations") (object_item (place_member c.args.uri.now t.region)) in
    let old = c.args.writer.now.tokens in
    let two = written old _ _ rule level c.in_ok-write_text.ensures.tokens c.in_ok-write_text-2.ensures.tokens in
    let three = written old _ _ (rule ++ level) message two c.in_ok-write_message.ensures.tokens in
    written_last c.write_locations.result old _ _ (rule ++ level ++ message) place three c.write_locations.ensures.tokens

use Rattle.std.proofs.Common.{◌++◌}
use Rattle.typst_report.proofs.TokenLemmas.{written}
use Rattle.typst_check.specs.Sarif.{message_member, place_member}
use Rattle.typst_check.proofs.ObjectLemmas.{item_written}
use Rattle.typst_check.proofs.sarif.objects.write_hint.Goals as goal

pub returns-clause-tokens : goal.returns-clause-tokens
returns-clause-tokens c =
    let place = place_member c.args.uri.now c.args.region in
    let message = message_member c.args.text.now in
    let members = written c.begin_object.new.self.tokens _ _ place message c.in_ok-write_place.ensures.tokens c.in_ok-write_message.ensures.tokens in
    item_written c.end_object.result c.args.writer.now.tokens _ _ _ (place ++ message) c.in_ok-begin_object.ensures.ok members c.end_object.ensures.ok

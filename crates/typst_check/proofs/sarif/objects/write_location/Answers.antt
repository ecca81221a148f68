use Rattle.typst_check.specs.Sarif.{place_member}
use Rattle.typst_check.proofs.ObjectLemmas.{item_written}
use Rattle.typst_check.proofs.sarif.objects.write_location.Goals as goal

pub returns-clause-tokens : goal.returns-clause-tokens
returns-clause-tokens c =
    item_written c.end_object.result c.args.writer.now.tokens _ _ _ (place_member c.args.uri.now c.args.region)
    c.in_ok-begin_object.ensures.ok c.in_ok-write_place.ensures.tokens c.end_object.ensures.ok

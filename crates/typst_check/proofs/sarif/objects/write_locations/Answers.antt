use Rattle.std.proofs.Common.{codes}
use Rattle.typst_check.specs.Sarif.{object_item, place_member}
use Rattle.typst_check.proofs.ObjectLemmas.{list_written}
use Rattle.typst_check.proofs.sarif.objects.write_locations.Goals as goal

pub returns-clause-tokens : goal.returns-clause-tokens
returns-clause-tokens c =
    list_written c.end_array.result c.args.writer.now.tokens _ _ _ _ (codes "locations") (object_item (place_member c.args.uri.now c.args.region))
    c.in_ok-key.ensures.ok c.in_ok-begin_array.ensures.ok c.in_ok-write_location.ensures.tokens c.end_array.ensures.ok

use Rattle.std.proofs.Common.{Ok, codes, map}
use Rattle.json.specs.Value.{value_view}
use Rattle.typst_check.specs.Sarif.{hint_items}
use Rattle.typst_check.proofs.ObjectLemmas.{list_written}
use Rattle.typst_check.proofs.sarif.objects.write_hints.Goals as goal

pub returns-clause-tokens : goal.returns-clause-tokens
returns-clause-tokens c =
    list_written {E = Unit {0}} (Ok tt) c.args.writer.now.tokens _ _ _ _ (codes "relatedLocations") (hint_items c.args.uri.now c.args.region (map value_view c.args.hints.now))
    c.in_ok-key.ensures.ok c.in_ok-begin_array.ensures.ok c.in_ok-write_each_hint.ensures.tokens c.in_ok-end_array.ensures.ok

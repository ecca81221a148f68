use Rattle.std.proofs.Common.{◌≡◌, List, [], ◌∷◌, ◌++◌, codes, map}
use Rattle.json.specs.Token.{Token, begin_object, end_object}
use Rattle.json.specs.Value.{value_view}
use Rattle.typst_report.proofs.TokenLemmas.{written}
use Rattle.typst_check.specs.Sarif.{hint_items, list_member, finding_members}
use Rattle.typst_check.proofs.sarif.objects.write_object.Goals as goal

pub returns-clause-tokens : goal.returns-clause-tokens
returns-clause-tokens c =
    let finding = c.args.finding.now in
    let old = c.args.writer.now.tokens in
    let rule = c.rule_of.result.now in
    let head : List Token = begin_object ∷ [] in
    let own = finding_members c.args.uri.now rule finding in
    let hints = list_member (codes "relatedLocations") (hint_items c.args.uri.now finding.region (map value_view c.args.hints.now)) in
    let one = written old _ _ head own c.in_ok-begin_object.ensures.ok c.in_ok-write_finding.ensures.tokens in
    let two = written old _ _ (head ++ own) hints one c.in_ok-write_hints.ensures.tokens in
    (rule, written old _ _ (head ++ own ++ hints) (end_object ∷ []) two c.in_ok-end_object.ensures.ok)

use Rattle.typst_report.proofs.Cited.{◌≡◌, List, [], ◌∷◌, ◌++◌, arith, common_steps, numbers, Token, begin_object, end_object, key}
use Rattle.typst_report.proofs.TokenLemmas.{written, written_last}
use Rattle.typst_report.proofs.ndjson.write_place.Goals as goal

pub returns-clause-tokens : goal.returns-clause-tokens
returns-clause-tokens c =
    let head : List Token = key c.args.name.now ∷ begin_object ∷ [] in
    let begun : c.begin_object.new.self.tokens ≡ c.args.writer.now.tokens ++ head = grind (arith, common_steps) in
    let all = written _ _ _ head (numbers c.args.place) begun c.in_ok-write_numbers.ensures.tokens in
    written_last c.end_object.result _ _ _ (head ++ numbers c.args.place) (end_object ∷ []) all c.end_object.ensures.ok

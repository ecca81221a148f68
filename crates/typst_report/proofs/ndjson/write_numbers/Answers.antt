use Rattle.typst_report.proofs.Cited.{◌++◌, codes, count_member}
use Rattle.typst_report.proofs.TokenLemmas.{written, written_last}
use Rattle.typst_report.proofs.ndjson.write_numbers.Goals as goal

pub returns-clause-tokens : goal.returns-clause-tokens
returns-clause-tokens c =
    let byte = count_member (codes "byte") c.args.place.byte in
    let line = count_member (codes "line") c.args.place.line in
    let column = count_member (codes "column") c.args.place.column in
    let two = written _ _ _ byte line c.in_ok-write_count.ensures.tokens c.in_ok-write_count-2.ensures.tokens in
    let three = written _ _ _ (byte ++ line) column two c.in_ok-write_count-3.ensures.tokens in
    written_last c.write_count-4.result _ _ _ (byte ++ line ++ column) (count_member (codes "utf16_column") c.args.place.utf16_column) three c.write_count-4.ensures.tokens

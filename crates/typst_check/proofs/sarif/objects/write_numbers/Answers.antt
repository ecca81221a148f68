use Rattle.std.proofs.Common.{◌++◌, codes}
use Rattle.typst_report.specs.Ndjson.{count_member}
use Rattle.typst_report.proofs.TokenLemmas.{written, written_last}
use Rattle.typst_check.proofs.sarif.objects.write_numbers.Goals as goal

pub returns-clause-tokens : goal.returns-clause-tokens
returns-clause-tokens c =
    let r = c.args.region in
    let start_line = count_member (codes "startLine") r.start_line in
    let start_column = count_member (codes "startColumn") r.start_column in
    let end_line = count_member (codes "endLine") r.end_line in
    let old = c.args.writer.now.tokens in
    let two = written old _ _ start_line start_column c.in_ok-write_count.ensures.tokens c.in_ok-write_count-2.ensures.tokens in
    let three = written old _ _ (start_line ++ start_column) end_line two c.in_ok-write_count-3.ensures.tokens in
    written_last c.write_count-4.result old _ _ (start_line ++ start_column ++ end_line) (count_member (codes "endColumn") r.end_column) three c.write_count-4.ensures.tokens

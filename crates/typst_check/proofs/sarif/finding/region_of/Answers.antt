use Rattle.json.specs.Value.{value_view}
use Rattle.typst_check.proofs.sarif.finding.region_of.Goals as goal

pub returns : goal.returns
returns c =
    let start = value_view c.in_ok-start.start.now in
    let end = value_view c.in_ok-end.end.now in
    record {
      start_line = record { place = start; found = c.in_ok-start.ensures; number = c.in_ok-number.ensures };
      start_column = record { place = start; found = c.in_ok-start.ensures; number = c.in_ok-number-2.ensures };
      end_line = record { place = end; found = c.in_ok-end.ensures; number = c.in_ok-number-3.ensures };
      end_column = record { place = end; found = c.in_ok-end.ensures; number = c.in_ok-number-4.ensures };
    }

use Rattle.typst_tests.proofs.long_rows.+leads.Given as goal

abbrev pub decreases-leads : goal.decreases-leads
decreases-leads l = l.count

-- Findings as contracts see them.
use Rattle.typst_report.specs.declared.finding.Finding.{Finding}
use Rattle.typst_report.specs.Reported.{Reported}

-- a finding of the code, with its bytes
abbrev pub as_reported : Finding → Reported
as_reported f = record { diagnostic = f.diagnostic.now; start = f.start; end = f.end }

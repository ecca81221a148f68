use Rattle.std.proofs.Common.{codes, refl}
use Rattle.typst_server.proofs.Publishing.{reports}
use Rattle.typst_server.proofs.diagnostics.report.Goals as goal

pub returns : goal.returns
returns c =
    reports c.args.errors c.args.document.now (record { kind = record { ref_ptr = (0, 0); now = codes "full" }; items = c.in_ok-items_of.field-0 }) c.json_of.result refl c.in_ok-items_of.ensures c.json_of.ensures

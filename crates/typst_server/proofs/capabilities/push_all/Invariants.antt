use Rattle.typst_server.proofs.Cited.{string_bytes, Grows}
use Rattle.typst_server.proofs.capabilities.push_all.Given as goal

abbrev pub invariant-loop-part : goal.invariant-loop-part
invariant-loop-part l = Grows (string_bytes l.fn.text) (string_bytes l.text)

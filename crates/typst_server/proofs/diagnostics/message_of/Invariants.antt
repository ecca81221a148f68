use Rattle.typst_server.proofs.Cited.{◌≡◌, ◌++◌, drop, flat_map, string_bytes, full_message, hint_line}
use Rattle.typst_server.proofs.diagnostics.message_of.Given as goal

abbrev pub invariant-loop-hint : goal.invariant-loop-hint
invariant-loop-hint l = string_bytes l.text ++ flat_map hint_line (drop l.hint-index l.hint-items) ≡ full_message l.diagnostic

use Rattle.typst_server.proofs.Cited.{◌≡◌, ◌++◌, drop, occurred, mentioned, map}
use Rattle.typst_server.proofs.naming.mentioned.Given as goal

abbrev pub invariant-loop-mention : goal.invariant-loop-mention
invariant-loop-mention l = l.found.items ++ map (λ m. occurred (mentioned m)) (drop l.mention-index l.mentions) ≡ map (λ m. occurred (mentioned m)) l.mentions

use Rattle.typst_parser.proofs.Cited.{◌≡◌, ◌+◌, ◌≤◌, drop, length, AtPath, start_at, text_of}
use Rattle.typst_parser.proofs.attempt.byte_at.Given as goal

abbrev pub invariant-loop-step : goal.invariant-loop-step
invariant-loop-step l = record {
  leads : AtPath (λ _. Unit {0}) (drop l.step-index l.path) l.node;
  start : l.at + start_at (drop l.step-index l.path) 0 l.node ≡ start_at l.path 0 l.root;
  within : l.at + length (text_of l.node) ≤ length (text_of l.root);
}

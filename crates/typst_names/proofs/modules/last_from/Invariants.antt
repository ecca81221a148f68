use Rattle.typst_names.proofs.Cited.{◌≡◌, ◌<◌, drop, length, IfSome, option_or, last_from, last_place}
use Rattle.typst_names.proofs.modules.last_from.Given as goal

abbrev pub invariant-loop-place : goal.invariant-loop-place
invariant-loop-place l = record {
  last : option_or (last_place l.mark l.place (drop l.place l.text)) l.last ≡ last_from l.mark l.from l.text;
  within : IfSome l.last (λ place. place < length l.text);
}

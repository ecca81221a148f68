use Rattle.typst_tokens.proofs.Cited.{◌≡◌, ◌+◌, ◌≤◌, suc, length, prefix_len, place, near, position, column_at, in_line}
use Rattle.typst_tokens.proofs.column.column.Given as goal

abbrev pub invariant-back : goal.invariant-back
invariant-back l = record {
  rest : l.count + prefix_len in_line (place l.at).before ≡ column_at (place l.s);
  near : near (suc (column_at (place l.s))) (place l.s) ≡ near (suc (prefix_len in_line (place l.at).before)) (place l.at);
  before : position (place l.at) ≤ position (place l.s);
  size : l.count + length (place l.at).before ≡ length (place l.s).before;
}

abbrev pub decreases-back : goal.decreases-back
decreases-back l = length (place l.at).before

use Rattle.typst_tokens.proofs.Cited.{◌≡◌, place}
use Rattle.typst_tokens.proofs.Words.{Looking}
use Rattle.typst_tokens.proofs.cursor.see_word.Given as goal

abbrev pub invariant-loop-b : goal.invariant-loop-b
invariant-loop-b l = record { looking : Looking l.word (place l.fn.s) l.fn.reach l.b-index (place l.s) l.reach; text : l.s.text.now ≡ l.fn.s.text.now }

use Rattle.typst_markup.proofs.Cited.{note_piece, does-gives, does-pick, does-other}
use Rattle.typst_markup.proofs.sequences.note_piece.Goals as goal

pub returns-in_ok-note : goal.returns-in_ok-note
unfolding note_piece
returns-in_ok-note g c l h = does-pick c.if-is_run.true (c.in_ok-note.ensures l h)

pub returns-else-is_run : goal.returns-else-is_run
unfolding note_piece
returns-else-is_run g c l h = does-other c.if-is_run.false does-gives

use Rattle.typst_code.proofs.Cited.{is_terminator, does-next, does-gives, does-node, asks-yes, asks-no, import_turn, import_shape}
use Rattle.typst_code.proofs.imports.import_turn.Goals as goal

pub returns-then-is_terminator : goal.returns-then-is_terminator
unfolding import_turn
returns-then-is_terminator g c l h = asks-yes is_terminator c.current.ensures c.is_terminator.ensures c.if-is_terminator.true does-gives

pub returns : goal.returns
unfolding import_turn
returns g c l h =
    asks-no is_terminator c.current.ensures c.is_terminator.ensures c.if-is_terminator.false
    (does-next (does-node import_shape h.sound c.marker-from.ensures.few c.marker-from.ensures.marker (does-next (c.in_ok-import_path.ensures l h) (c.in_ok-renamed.ensures l h)) c.in_ok-wrap_import.ensures)
    (does-next (c.in_ok-separator.ensures l h) does-gives))

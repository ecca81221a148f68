use Rattle.typst_tokens.proofs.Cited.{◌≡◌, ap, arith, is_none, true, false, IsUtf8-had}
use Rattle.typst_tokens.proofs.Sights.{offset-is}
use Rattle.typst_tokens.proofs.cursor.end_of.Goals as goal

pub returns-in-Some : goal.returns-in-Some
returns-in-Some c =
    let s = c.args.s.now in
    let e : is_none c.args.c ≡ false = ap is_none c.in-Some.is in
    rw e (omega (arith, c.cursor.ensures, offset-is s.text.now s.cursor (IsUtf8-had _ s.utf8) s.boundary))

pub returns-in-None : goal.returns-in-None
returns-in-None c =
    let s = c.args.s.now in
    let e : is_none c.args.c ≡ true = ap is_none c.in-None.is in
    rw e (omega (arith, c.cursor-in-None.ensures, offset-is s.text.now s.cursor (IsUtf8-had _ s.utf8) s.boundary))

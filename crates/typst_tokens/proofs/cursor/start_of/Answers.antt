use Rattle.typst_tokens.proofs.Cited.{arith, IsUtf8-had}
use Rattle.typst_tokens.proofs.Sights.{offset-is}
use Rattle.typst_tokens.proofs.cursor.start_of.Goals as goal

pub returns-in-Some : goal.returns-in-Some
returns-in-Some c =
    let s = c.args.s.now in
    rw c.in-Some.is (omega (arith, c.cursor.ensures, offset-is s.text.now s.cursor (IsUtf8-had _ s.utf8) s.boundary))

use Rattle.typst_lexer.proofs.Cited.{◌≡◌, false, length, chars, passes, scout, place, access_node, fields_node}
use Rattle.typst_lexer.proofs.Accesses.{names_after, no_dot}
use Rattle.typst_lexer.proofs.fields.access_node.Given as goal

abbrev pub invariant-fields : goal.invariant-fields
invariant-fields l = (access_node (chars l.text) ≡ fields_node l.node (names_after (place l.s))) × (passes no_dot (scout 0 (place l.s)) ≡ false)

abbrev pub decreases-fields : goal.decreases-fields
decreases-fields l = length (place l.s).ahead

use Rattle.typst_lexer.proofs.Cited.{arith, encodes-chars}
use Rattle.typst_lexer.proofs.faults.fault_node.Goals as goal

pub returns-in-UnclosedRaw : goal.returns-in-UnclosedRaw
returns-in-UnclosedRaw c = rw (c.in-UnclosedRaw.is, encodes-chars c.args.text.now c.utf8.text) c.error.ensures

pub returns-in-UnclosedEscape : goal.returns-in-UnclosedEscape
returns-in-UnclosedEscape c = rw (c.in-UnclosedEscape.is, encodes-chars c.args.text.now c.utf8.text) c.error-in-UnclosedEscape.ensures

pub returns-in_ok-message-in-InvalidEscape : goal.returns-in_ok-message-in-InvalidEscape
returns-in_ok-message-in-InvalidEscape c = grind (arith, encodes-chars)

pub returns-in-UnbalancedLink : goal.returns-in-UnbalancedLink
returns-in-UnbalancedLink c = rw (c.in-UnbalancedLink.is, encodes-chars c.args.text.now c.utf8.text) c.error-in-UnbalancedLink.ensures

pub returns-in-UnclosedLabel : goal.returns-in-UnclosedLabel
returns-in-UnclosedLabel c = rw (c.in-UnclosedLabel.is, encodes-chars c.args.text.now c.utf8.text) c.error-in-UnclosedLabel.ensures

pub returns-in-UnclosedString : goal.returns-in-UnclosedString
returns-in-UnclosedString c = rw (c.in-UnclosedString.is, encodes-chars c.args.text.now c.utf8.text) c.error-in-UnclosedString.ensures

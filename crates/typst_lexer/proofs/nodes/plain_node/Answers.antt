use Rattle.std.proofs.lemmas.Str.{encodes-chars}
use Rattle.typst_lexer.proofs.nodes.plain_node.Goals as goal

pub returns-then-is_error : goal.returns-then-is_error
returns-then-is_error g c = rw (← c.if-is_error.ensures, encodes-chars c.args.text.now c.utf8.text) c.error.ensures

pub returns-then-is_raw : goal.returns-then-is_raw
returns-then-is_raw g c = rw (← c.if-is_error.ensures, ← c.if-is_raw.ensures) c.raw_node.ensures

pub returns-then-has_fields : goal.returns-then-has_fields
returns-then-has_fields g c = rw (← c.if-is_error.ensures, ← c.if-is_raw.ensures, ← c.if-has_fields.ensures) c.access_node.ensures

pub returns : goal.returns
returns g c = rw (← c.if-is_error.ensures, ← c.if-is_raw.ensures, ← c.if-has_fields.ensures, encodes-chars c.args.text.now c.utf8.text) c.leaf.ensures

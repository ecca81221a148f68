-- The rules of kinds, and the tags that walks keep of names.
use Rattle.typst_highlight.proofs.Cited.{◌≡◌, true, false, Option, None, ap, sym, cond, arith, SyntaxKind, Tag, is_name, rule_of}
use Rattle.typst_highlight.specs.declared.rules.Rule.TheVariants as rule

-- the rules of names
pub named_rule : (k : SyntaxKind) → rule_of k ≡ rule.Name → is_name k ≡ true
named_rule k e = grind arith

pub fixed_rule : (k : SyntaxKind) (t : Option Tag) → rule_of k ≡ rule.Fixed t → is_name k ≡ false
fixed_rule k t e = grind arith

pub other_rule : (k : SyntaxKind) → (rule_of k ≡ rule.Name → ⊥) → is_name k ≡ false
other_rule k h = grind arith

-- a tag that is known of a node that is no name
pub name_none : (k : SyntaxKind) (x : Option Tag) → is_name k ≡ false → None ≡ cond (is_name k) x None
name_none k x e = sym (ap (λ b. cond b x None) e)

pub name_some : (k : SyntaxKind) (x : Option Tag) → is_name k ≡ true → x ≡ cond (is_name k) x None
name_some k x e = sym (ap (λ b. cond b x None) e)

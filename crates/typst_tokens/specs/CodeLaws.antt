-- What the looks of the tokens of code are good for, and some looks written out.
use Rattle.std.specs.Prelude.{◌≡◌, ◌≤◌, ℕ, List, [], ◌∷◌, Some, codes}
use Rattle.typst_lines.specs.Classes.{CharClasses, by_law}
use Rattle.typst_tokens.specs.Code.{code}
use Rattle.typst_kinds.specs.declared.kind.SyntaxKind.TheVariants as kind
use Rattle.typst_lines.specs.Place.{Place, scout}
use Rattle.typst_tokens.specs.Reader.{Look, look, eaten, exec, Agree, SameReading, place}
use Rattle.typst_tokens.specs.Token.{plain, faulty}
use Rattle.typst_tokens.specs.declared.token.Base.TheVariants.{Binary}
use Rattle.typst_tokens.specs.declared.token.Fault.TheVariants as fault
use Rattle.typst_tokens.specs.declared.token.NumberFault.TheVariants as number_fault
use Rattle.typst_tokens.specs.declared.token.Token.{Token}

-- If another place shows the same characters and marks in the look of a token, the token there
-- is the same, as long, and with the same look.
abbrev pub CodeFrame : Type 0
CodeFrame = (k : CharClasses) (c : ℕ) (p q : Place) → Agree (look (code k c) p) p q → SameReading (code k c) p q

-- Each token takes at least one character.
abbrev pub CodeGoesOn : Type 0
CodeGoesOn = (k : CharClasses) (c : ℕ) (p : Place) → scout 0 p ≡ Some c → 1 ≤ eaten (code k c) p

-- How far a look goes back and ahead.
abbrev pub reach : ℕ → ℕ → Look
reach back front = record { back = back; front = front }

-- The look of the token that the character c begins, the token, and how many characters it takes.
pub record Shows (k : CharClasses) (before : List ℕ) (c : ℕ) (ahead : List ℕ) (l : Look) (t : Token) (n : ℕ) : Type 0 where
  pub look : look (code k c) (place before (c ∷ ahead)) ≡ l
  pub token : (exec (code k c) (place before (c ∷ ahead))).0 ≡ t
  pub taken : eaten (code k c) (place before (c ∷ ahead)) ≡ n

-- The looks of some tokens.
pub record CodeLooks (beyond : CharClasses) : Type 0 where
  -- `let` and the space after it, and the mark before it
  pub keyword : Shows (by_law beyond) [] 108 (codes "et x") (reach 1 4) (plain kind.Let) 3
  -- after a dot two places before count
  pub after_dot : Shows (by_law beyond) (codes ".") 108 (codes "et") (reach 2 4) (plain kind.Ident) 3
  pub after_dots : Shows (by_law beyond) (codes "..") 108 (codes "et") (reach 2 4) (plain kind.Let) 3
  pub after_at : Shows (by_law beyond) (codes "@") 108 (codes "et") (reach 1 4) (plain kind.Ident) 3
  -- a name that isn't a keyword doesn't ask what is before it
  pub name : Shows (by_law beyond) [] 97 (codes "b c") (reach 0 3) (plain kind.Ident) 2
  pub underscore : Shows (by_law beyond) [] 95 (codes " ") (reach 0 2) (plain kind.Underscore) 1
  -- `1..2`: both dots
  pub range : Shows (by_law beyond) [] 49 (codes "..2") (reach 0 3) (plain kind.Int) 1
  -- `1.a`: the second character after the digit
  pub method : Shows (by_law beyond) [] 49 (codes ".a") (reach 0 3) (plain kind.Int) 1
  pub float : Shows (by_law beyond) [] 49 (codes ".5e3 ") (reach 0 6) (plain kind.Float) 5
  pub length : Shows (by_law beyond) [] 49 (codes "em ") (reach 0 4) (plain kind.Numeric) 3
  pub dotted : Shows (by_law beyond) [] 46 (codes "5 ") (reach 0 3) (plain kind.Float) 2
  pub no_exponent : Shows (by_law beyond) [] 49 (codes "e") (reach 0 3) (faulty (fault.Number number_fault.Exponent)) 2
  pub binary : Shows (by_law beyond) [] 48 (codes "b10pt ") (reach 0 7) (faulty (fault.Number (number_fault.Suffix Binary))) 6
  -- 2 ^ 63 - 1 and 2 ^ 63
  pub largest : Shows (by_law beyond) [] 57 (codes "223372036854775807") (reach 0 21) (plain kind.Int) 19
  pub too_large : Shows (by_law beyond) [] 57 (codes "223372036854775808") (reach 0 21) (plain kind.Float) 19
  -- a string alone, and to the mark if it is unclosed
  pub string : Shows (by_law beyond) [] 34 (codes "a\\\"b\"c") (reach 0 6) (plain kind.Str) 6
  pub unclosed : Shows (by_law beyond) [] 34 (codes "a\n") (reach 0 4) (faulty fault.UnclosedString) 3
  pub less : Shows (by_law beyond) [] 60 (codes "=") (reach 0 2) (plain kind.LtEq) 2
  pub label : Shows (by_law beyond) [] 60 (codes "a>") (reach 0 3) (plain kind.Label) 3
  -- where no token begins, a hash before the character is looked for
  pub operator : Shows (by_law beyond) [] 38 (codes "&") (reach 1 2) (faulty fault.InvalidOperator) 2
  pub hashed : Shows (by_law beyond) (codes "#") 38 (codes "&") (reach 1 1) (faulty fault.HashedCharacter) 1
  pub negation : Shows (by_law beyond) [] 33 (codes "a") (reach 1 2) (faulty fault.InvalidCharacter) 1

-- What the class values that answer unlike Unicode answer.
use Rattle.std.specs.Prelude.{true, false, length, None}
use Rattle.typst_lines.specs.Classes.{CharClasses, by_law}

-- Every other character is a letter and never numeric, and a line is one cluster.
abbrev pub wide_classes : CharClasses
wide_classes = by_law (record {
  xid_start = λ _. true;
  xid_continue = λ _. true;
  alphabetic = λ _. true;
  alphanumeric = λ _. true;
  numeric = λ _. false;
  word = λ _. true;
  math = λ _. None;
  cluster = length;
})

-- No other character is in a class, and a cluster is one character.
abbrev pub narrow_classes : CharClasses
narrow_classes = by_law (record {
  xid_start = λ _. false;
  xid_continue = λ _. false;
  alphabetic = λ _. false;
  alphanumeric = λ _. false;
  numeric = λ _. false;
  word = λ _. false;
  math = λ _. None;
  cluster = λ _. 1;
})

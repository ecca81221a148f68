-- The law of the classes, for the class values that keep it by their form.
use Rattle.std.proofs.Common.{◌≡◌, ◌≤◌, ◌<◌, ℕ, true, false, if◌then◌else◌, List, length, refl, arith, None}
use Rattle.std.proofs.lemmas.Bool.Decides.{nat_tests}
use Rattle.std.specs.Char.{is_ascii, is_ascii_alphabetic, is_ascii_alphanumeric, is_ascii_digit, is_whitespace}
use Rattle.std.specs.List.{list_all}
use Rattle.typst_lines.specs.Classes.{CharClasses, IsLawful, OnAscii, InNoClass, by_law, kept, ascii_continue, ascii_math}

-- an ASCII character has the answer for ASCII
kept-ascii : {A : Type 0} (none : A) (on_ascii beyond : ℕ → A) (c : ℕ) → is_ascii c ≡ true → kept none on_ascii beyond c ≡ on_ascii c
kept-ascii none on_ascii beyond c e = rw e refl

-- white space has the answer for no class
kept-white : {A : Type 0} (none : A) (on_ascii beyond : ℕ → A) (c : ℕ) → is_whitespace c ≡ true → (is_ascii c ≡ true → on_ascii c ≡ none) → kept none on_ascii beyond c ≡ none
kept-white none on_ascii beyond c w a =
    elim (is_ascii c) as (λ b. (b ≡ true → on_ascii c ≡ none) → (if b then on_ascii c else (if is_whitespace c then none else beyond c)) ≡ none)
    [ true ↦ λ h. h refl | false ↦ λ _. rw w refl ] a

-- ASCII white space isn't a letter
no_letter : (c : ℕ) → is_whitespace c ≡ true → is_ascii c ≡ true → is_ascii_alphabetic c ≡ false
no_letter c w a = grind (arith, nat_tests)

-- ASCII white space is neither a letter nor a digit
no_alphanumeric : (c : ℕ) → is_whitespace c ≡ true → is_ascii c ≡ true → is_ascii_alphanumeric c ≡ false
no_alphanumeric c w a = grind (arith, nat_tests)

-- ASCII white space isn't a digit
no_digit : (c : ℕ) → is_whitespace c ≡ true → is_ascii c ≡ true → is_ascii_digit c ≡ false
no_digit c w a = grind (arith, nat_tests)

-- ASCII white space doesn't continue an identifier
no_continue : (c : ℕ) → is_whitespace c ≡ true → is_ascii c ≡ true → ascii_continue c ≡ false
no_continue c w a = grind (arith, nat_tests)

-- ASCII white space has no class in formulas
no_math : (c : ℕ) → is_whitespace c ≡ true → is_ascii c ≡ true → ascii_math c ≡ None
no_math c w a = grind (arith, nat_tests)

-- answers by the law are fixed at ASCII characters
by_law-ascii : (beyond : CharClasses) (c : ℕ) → is_ascii c ≡ true → OnAscii (by_law beyond) c
by_law-ascii beyond c a = record {
  xid_start = kept-ascii false is_ascii_alphabetic beyond.xid_start c a;
  xid_continue = kept-ascii false ascii_continue beyond.xid_continue c a;
  alphabetic = kept-ascii false is_ascii_alphabetic beyond.alphabetic c a;
  alphanumeric = kept-ascii false is_ascii_alphanumeric beyond.alphanumeric c a;
  numeric = kept-ascii false is_ascii_digit beyond.numeric c a;
  word = kept-ascii false is_ascii_alphanumeric beyond.word c a;
  math = kept-ascii None ascii_math beyond.math c a;
}

-- answers by the law say of white space that it is in no class
by_law-white : (beyond : CharClasses) (c : ℕ) → is_whitespace c ≡ true → InNoClass (by_law beyond) c
by_law-white beyond c w = record {
  xid_start = kept-white false is_ascii_alphabetic beyond.xid_start c w (no_letter c w);
  xid_continue = kept-white false ascii_continue beyond.xid_continue c w (no_continue c w);
  alphabetic = kept-white false is_ascii_alphabetic beyond.alphabetic c w (no_letter c w);
  alphanumeric = kept-white false is_ascii_alphanumeric beyond.alphanumeric c w (no_alphanumeric c w);
  numeric = kept-white false is_ascii_digit beyond.numeric c w (no_digit c w);
  word = kept-white false is_ascii_alphanumeric beyond.word c w (no_alphanumeric c w);
  math = kept-white None ascii_math beyond.math c w (no_math c w);
}

-- answers by the law keep it, whatever they are beyond ASCII and white space
pub IsLawful-by_law : (beyond : CharClasses)
    → ((line : List ℕ) → 0 < length line → (1 ≤ beyond.cluster line) × (beyond.cluster line ≤ length line)) → IsLawful (by_law beyond)
IsLawful-by_law beyond within = record {
  ascii = λ c _ a. by_law-ascii beyond c a;
  white = λ c _ w. by_law-white beyond c w;
  cluster = λ line l.
      elim (list_all is_ascii line) as (λ b. let n : ℕ = if b then 1 else beyond.cluster line in (1 ≤ n) × (n ≤ length line))
      [ true ↦ (omega arith, omega (arith, l.some)) | false ↦ within line l.some ];
  ascii_cluster = λ line _ a. rw a refl;
}

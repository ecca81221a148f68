-- Two bytes of ASCII that pass, by bits.
use Rattle.typst_tokens.proofs.Cited.{◌≡◌, ◌<◌, ℕ, ◌+◌, Bool, true, false, not, ◌&&◌, ◌||◌, ◌==◌, nat_eq, if◌then◌else◌, slice_index_or, bit_and, refl, sym, ap, ◌∙◌, arith, rules, is_ascii, is_ascii_alphanumeric, bytes_pass, may_stop, flows_in_ascii}
use Rattle.typst_tokens.proofs.Tables.{tabulate, tabulated-from_zero, below}

abbrev bit : ℕ → Bool → ℕ
bit n b = if b then n else 0

-- what a byte of ASCII is in a text: plain, a space, an `h`
abbrev role_bits : Bool → Bool → Bool → ℕ
role_bits plain space letter = bit 1 plain + (bit 2 space + bit 4 letter)

-- what is text before a byte of ASCII: before a letter or a number, and before a `t`
abbrev follow_bits : Bool → Bool → ℕ
follow_bits alphanumeric t = 1 + (bit 2 alphanumeric + bit 4 (not t))

abbrev role : ℕ → ℕ
role c = if is_ascii c then role_bits (not (may_stop c)) (c == 32) (c == 104) else 0

abbrev follow : ℕ → ℕ
follow c = if is_ascii c then follow_bits (is_ascii_alphanumeric c) (c == 116) else 0

abbrev meet : ℕ → ℕ → Bool
meet m n = not (nat_eq (bit_and m n) 0)

bits-tell : (p s h a t : Bool) → meet (role_bits p s h) (follow_bits a t) ≡ (p || ((s && a) || (h && not t)))
bits-tell true true true true true = refl
bits-tell true true true true false = refl
bits-tell true true true false true = refl
bits-tell true true true false false = refl
bits-tell true true false true true = refl
bits-tell true true false true false = refl
bits-tell true true false false true = refl
bits-tell true true false false false = refl
bits-tell true false true true true = refl
bits-tell true false true true false = refl
bits-tell true false true false true = refl
bits-tell true false true false false = refl
bits-tell true false false true true = refl
bits-tell true false false true false = refl
bits-tell true false false false true = refl
bits-tell true false false false false = refl
bits-tell false true true true true = refl
bits-tell false true true true false = refl
bits-tell false true true false true = refl
bits-tell false true true false false = refl
bits-tell false true false true true = refl
bits-tell false true false true false = refl
bits-tell false true false false true = refl
bits-tell false true false false false = refl
bits-tell false false true true true = refl
bits-tell false false true true false = refl
bits-tell false false true false true = refl
bits-tell false false true false false = refl
bits-tell false false false true true = refl
bits-tell false false false true false = refl
bits-tell false false false false true = refl
bits-tell false false false false false = refl

none-left : (b : Bool) (a t : Bool) → meet 0 (if b then follow_bits a t else 0) ≡ false
none-left false a t = refl
none-left true true true = refl
none-left true true false = refl
none-left true false true = refl
none-left true false false = refl

none-right : (p s h : Bool) → meet (role_bits p s h) 0 ≡ false
none-right true true true = refl
none-right true true false = refl
none-right true false true = refl
none-right true false false = refl
none-right false true true = refl
none-right false true false = refl
none-right false false true = refl
none-right false false false = refl

in-ascii : (x y p s h a t : Bool) → meet (if x then role_bits p s h else 0) (if y then follow_bits a t else 0) ≡ (x && (y && (p || ((s && a) || (h && not t)))))
in-ascii true true p s h a t = bits-tell p s h a t
in-ascii true false p s h a t = none-right p s h
in-ascii false y p s h a t = none-left y a t

-- what the tables say of two bytes
pub tables-tell : (c d : ℕ) → c < 256 → d < 256 → meet (slice_index_or (tabulate role 0 256) c 0) (slice_index_or (tabulate follow 0 256) d 0) ≡ bytes_pass flows_in_ascii c d
tables-tell c d l m = search (rules, tabulated-from_zero, in-ascii)

first-bit : (p s h : Bool) → meet (role_bits p s h) 1 ≡ p
first-bit true true true = refl
first-bit true true false = refl
first-bit true false true = refl
first-bit true false false = refl
first-bit false true true = refl
first-bit false true false = refl
first-bit false false true = refl
first-bit false false false = refl

is-byte : (c : ℕ) → c < 128 → c < 256
is-byte c l = omega arith

-- what the first table says of a character of ASCII alone
pub table-tells : (c : ℕ) → true ≡ is_ascii c → meet (slice_index_or (tabulate role 0 256) c 0) 1 ≡ not (may_stop c)
table-tells c e =
    ap (λ n. meet n 1) (tabulated-from_zero 0 role 256 c (is-byte c (below c 128 e)))
    ∙ ap (λ b. meet (if b then role_bits (not (may_stop c)) (c == 32) (c == 104) else 0) 1) (sym e)
    ∙ first-bit (not (may_stop c)) (c == 32) (c == 104)

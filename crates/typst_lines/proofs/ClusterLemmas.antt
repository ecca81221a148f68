-- The first cluster of a line in bytes and in characters.
use Rattle.typst_lines.proofs.Cited.{◌≡◌, ◌<◌, ℕ, Bool, true, false, if◌then◌else◌, List, [], ◌∷◌, take, length, refl, sym, ap, subst, ◌∙◌, arith, ltb-true, length-take-le, suc, append-nil, nat_tests, length-encode, encodes-IsAscii, encodes-chars, chars-IsAscii, is_ascii, len_utf8, list_all, chars, IsUtf8, IsAscii, IsNotAscii, kept_cluster, encode_utf8, encode_utf8_all, slice_index, and_parts, take_all}
use Rattle.std.proofs.lemmas.Str.Ascii.{IsAscii-nil, IsAscii-cons}
use Rattle.std.proofs.lemmas.Bool.{false_from_ne_true}

IsAscii-chars : (cs : List ℕ) → list_all is_ascii cs ≡ true → IsAscii cs
IsAscii-chars [] e = IsAscii-nil
IsAscii-chars (c ∷ cs) e = IsAscii-cons c cs (ltb-true _ _ (and_parts _ _ e).0) (IsAscii-chars cs (and_parts _ _ e).1)

all_ascii : (bs : List ℕ) → IsAscii bs → list_all is_ascii bs ≡ true
all_ascii [] h = refl
all_ascii (b ∷ bs) h = let small : b < 128 = h 0 in let first : is_ascii b ≡ true = grind (arith, nat_tests) in rw first (all_ascii bs (λ i. h (suc i)))

some_chars : (cs bs : List ℕ) → encode_utf8_all cs ≡ bs → 0 < length bs → 0 < length cs
some_chars [] bs e some = absurd (let none : length bs ≡ 0 = ap length (sym e) in omega arith)
some_chars (c ∷ cs) bs e some = omega arith

first_width : (c : ℕ) (cs : List ℕ) → len_utf8 c ≡ length (encode_utf8_all (take 1 (c ∷ cs)))
first_width c cs = sym (length-encode c) ∙ ap length (sym (append-nil (encode_utf8 c)))

one_or_one : (b : Bool) → let n : ℕ = if b then 1 else 1 in n ≡ 1
one_or_one b = grind arith

module _ (line : List ℕ) (u : IsUtf8 line) (some : 0 < length line) where
  pub ascii_cluster : (beyond : List ℕ → ℕ) → IsAscii line → 1 ≡ length (encode_utf8_all (take (kept_cluster beyond (chars line)) (chars line)))
  ascii_cluster beyond a = grind (arith, chars-IsAscii, all_ascii, encodes-IsAscii, length-take-le)

  pub more : 0 < length (chars line)
  more = some_chars (chars line) line (encodes-chars line u) some

  not_ascii : IsNotAscii line → list_all is_ascii (chars line) ≡ false
  not_ascii n =
      false_from_ne_true _ (λ all.
      let a = IsAscii-chars (chars line) all in
      let same : chars line ≡ line = sym (encodes-IsAscii (chars line) a) ∙ encodes-chars line u in
      let small : slice_index line n.0 < 128 = subst IsAscii same a n.0 in
      omega (arith, n.1))

  pub whole_line : IsNotAscii line → length line ≡ length (encode_utf8_all (take (kept_cluster length (chars line)) (chars line)))
  whole_line n = rw (not_ascii n, take_all (length (chars line)) (chars line) (omega arith), encodes-chars line u) refl

  pub first_character : (c : ℕ) (cs : List ℕ) → chars line ≡ c ∷ cs → len_utf8 c ≡ length (encode_utf8_all (take (kept_cluster (λ _. 1) (chars line)) (chars line)))
  first_character c cs e = rw (one_or_one (list_all is_ascii (chars line)), e) (first_width c cs)

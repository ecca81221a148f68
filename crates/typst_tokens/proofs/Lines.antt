-- The rest of a line, whose end is known from a place before.
use Rattle.typst_tokens.proofs.Cited.{◌≡◌, ◌≤◌, ℕ, zero, suc, ◌+◌, ◌-◌, Bool, true, false, List, [], ◌∷◌, ◌++◌, length, take, drop, slice_range, refl, sym, ap, subst, ◌∙◌, arith, length-append, length-take-le, length-drop, take_at, take-add, drop-drop, chars-append, chars-nil, encodes-chars, IsUtf8-between, prefix_len, encode_utf8_all, chars, IsUtf8, IsCharBoundary, place_at, bytes_ahead, moved, moved_from, past, IsRun, advance-moves, chars-between}
use Rattle.std.proofs.lemmas.List.{length-take, drop_all}
use Rattle.std.proofs.lemmas.List.Folds.{drop_split}
use Rattle.typst_tokens.specs.Line.{IsLineEnd}
use Rattle.typst_tokens.specs.Reader.{place}

-- within a run it ends where it did
past-within : (test : ℕ → Bool) (n : ℕ) (b a : List ℕ) → n ≤ prefix_len test a → past test (moved_from n b a) ≡ past test (place b a)
past-within test zero b a le = refl
past-within test (suc n) b [] le = absurd (omega arith)
past-within test (suc n) b (c ∷ a) le = by-test (test c) refl (past-within test n (c ∷ b) a)
  where
    by-test : (t : Bool) → test c ≡ t → (n ≤ prefix_len test a → past test (moved_from n (c ∷ b) a) ≡ past test (place (c ∷ b) a)) → past test (moved_from n (c ∷ b) a) ≡ past test (place b (c ∷ a))
    by-test true e on =
        let more : 1 + prefix_len test a ≡ suc (prefix_len test a) = omega arith in
        let here : prefix_len test (c ∷ a) ≡ suc (prefix_len test a) = rw e more in
        on (omega (arith, here)) ∙ rw here refl
    by-test false e on = let here : prefix_len test (c ∷ a) ≡ 0 = rw e refl in absurd (omega (arith, here))

module _ (test : ℕ → Bool) (text : List ℕ) (u : IsUtf8 text) (from end at : ℕ) (start : IsCharBoundary text from) (run : IsRun test text from end) (here : IsCharBoundary text at) (le : from ≤ at) (before : at ≤ end) where
  abbrev front : List ℕ
  front = chars (slice_range text from at)

  split : chars (drop from text) ≡ front ++ chars (drop at text)
  split = ap chars (drop_split text from at le) ∙ chars-append (slice_range text from at) (drop at text) (IsUtf8-between text from at u le start here)

  size : at - from ≡ bytes_ahead (length front) (place_at text from)
  unfolding bytes_ahead place_at
  size =
      let bytes = slice_range text from at in
      let shown : encode_utf8_all front ≡ bytes = encodes-chars bytes (IsUtf8-between text from at u le start here) in
      let long : length bytes ≡ at - from = length-take-le (at - from) (drop from text) (omega (arith, length-drop from text, here.0)) in
      sym (ap (λ cs. length (encode_utf8_all (take (length front) cs))) split ∙ ap (λ cs. length (encode_utf8_all cs)) (take_at front (chars (drop at text)) (length front) refl) ∙ ap length shown ∙ long)

  -- it is reached by these characters
  there : place_at text at ≡ moved (length front) (place_at text from)
  there = let sum : from + (at - from) ≡ at = omega (arith, le) in ap (place_at text) (sym sum) ∙ advance-moves text u from (length front) (at - from) start size

  whole : chars (slice_range text from end) ≡ front ++ chars (slice_range text at end)
  whole =
      let sum : end - from ≡ (at - from) + (end - at) = omega (arith, le, before) in
      let on : from + (at - from) ≡ at = omega (arith, le) in
      ap chars (ap (λ n. take n (drop from text)) sum ∙ take-add (at - from) (end - at) (drop from text) ∙ ap (λ t. slice_range text from at ++ take (end - at) t) (drop-drop (at - from) from text ∙ ap (λ n. drop n text) on))
      ∙ chars-append (slice_range text from at) (slice_range text at end) (IsUtf8-between text from at u le start here)

  few : length front ≤ prefix_len test (place_at text from).ahead
  few =
      let cs = (place_at text from).ahead in
      let m = prefix_len test cs in
      let all = chars-between text u from end m (omega (arith, le, before)) start run.boundary run.moves in
      omega (arith, ap length (sym whole ∙ all), length-append front (chars (slice_range text at end)), length-take m cs)

  pub same-end : past test (place_at text at) ≡ place_at text end
  same-end = ap (past test) there ∙ past-within test (length front) _ _ few ∙ sym run.moves

pub line-kept : (a b : List ℕ) (from end : ℕ) → b ≡ a → IsLineEnd a from end → IsLineEnd b from end
line-kept a b from end same is = subst (λ t. IsLineEnd t from end) (sym same) is

-- a text's end is a line's end
pub end-of-text : (text : List ℕ) → IsLineEnd text (length text) (length text)
unfolding place_at
end-of-text text = grind (arith, drop_all, chars-nil)

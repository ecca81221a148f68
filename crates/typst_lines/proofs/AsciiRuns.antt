-- Runs of ASCII characters.
use Rattle.typst_lines.proofs.Cited.{◌≡◌, ◌<◌, ℕ, suc, ◌+◌, Bool, true, false, List, [], ◌∷◌, take, length, length-append, encode_utf8_all, refl, ap, arith, encode_ascii, prefix_len, encode_utf8}

-- such a run takes a byte a character
pub run-width : (test : ℕ → Bool) → ((c : ℕ) → test c ≡ true → c < 128) → (cs : List ℕ) → length (encode_utf8_all (take (prefix_len test cs) cs)) ≡ length (take (prefix_len test cs) cs)
run-width test small [] = refl
run-width test small (c ∷ cs) = cases (test c) refl (run-width test small cs)
  where
    cases : (b : Bool) → test c ≡ b → length (encode_utf8_all (take (prefix_len test cs) cs)) ≡ length (take (prefix_len test cs) cs) → length (encode_utf8_all (take (prefix_len test (c ∷ cs)) (c ∷ cs))) ≡ length (take (prefix_len test (c ∷ cs)) (c ∷ cs))
    cases true e h =
        let more : 1 + prefix_len test cs ≡ suc (prefix_len test cs) = omega arith in
        rw (e, more) (omega (arith, h, ap length (encode_ascii c (small c e)), length-append (encode_utf8 c) (encode_utf8_all (take (prefix_len test cs) cs))))
    cases false e h = rw e refl

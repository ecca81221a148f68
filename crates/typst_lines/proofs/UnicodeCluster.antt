-- The first grapheme cluster of a line in bytes and in characters.
use Rattle.typst_lines.proofs.Cited.{◌≡◌, ◌<◌, ℕ, true, false, List, [], ◌∷◌, map, take, length, ap, arith, take_at, is_ascii, concat, list_all, chars, IsUtf8, cut, kept_cluster, is_grapheme_break, first_len, unicode_cluster, encode_utf8_all}
use Rattle.typst_lines.specs.UnicodeLaws.{AreCut, cut-front}
use Rattle.typst_lines.proofs.ClusterLemmas.{more}

first_piece : (cs : List ℕ) (pieces : List (List ℕ)) (piece : List ℕ) (rest : List (List ℕ)) → concat pieces ≡ cs → map encode_utf8_all pieces ≡ piece ∷ rest
    → length piece ≡ length (encode_utf8_all (take (first_len pieces) cs))
first_piece cs pieces piece rest e m = grind (arith, take_at)

no_piece : (cs : List ℕ) (pieces : List (List ℕ)) → concat pieces ≡ cs → 0 < length cs → map encode_utf8_all pieces ≡ [] → ⊥
no_piece cs [] e some m = let none : 0 ≡ length cs = ap length e in omega arith
no_piece cs (p ∷ ps) e some m = cc

module _ (line : List ℕ) (u : IsUtf8 line) (some : 0 < length line) where
  cut_line : AreCut (chars line) (cut (is_grapheme_break true) [] (chars line) [])
  cut_line = cut-front (is_grapheme_break true) [] (chars line) [] (more line u some)

  pub first_cluster : (piece : List ℕ) (rest : List (List ℕ)) → list_all is_ascii (chars line) ≡ false → map encode_utf8_all (cut (is_grapheme_break true) [] (chars line) []) ≡ piece ∷ rest
      → length piece ≡ length (encode_utf8_all (take (kept_cluster unicode_cluster (chars line)) (chars line)))
  unfolding unicode_cluster
  first_cluster piece rest n e = rw n (first_piece (chars line) _ piece rest cut_line.joins e)

  pub no_cluster : map encode_utf8_all (cut (is_grapheme_break true) [] (chars line) []) ≡ [] → ⊥
  no_cluster e = no_piece (chars line) _ cut_line.joins (more line u some) e

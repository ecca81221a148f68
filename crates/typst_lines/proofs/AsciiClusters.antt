-- The first cluster of a line that begins with two ASCII characters, or is one.
use Rattle.typst_lines.proofs.Cited.{◌≡◌, ◌<◌, ℕ, Bool, true, false, ◌||◌, ◌==◌, if◌then◌else◌, List, [], ◌∷◌, ◌++◌, take, length, refl, sym, ◌∙◌, arith, ltb-true, unwrap_or, append-nil, encode_ascii, is_ascii, list_all, cut, in_line, kept_cluster, break_by_pair, is_grapheme_break, first_len, unicode_cluster, encode_utf8_all, and_parts}
use Rattle.unicode.specs.GraphemeClusterBreak.{grapheme_cluster_break}
use Rattle.unicode.specs.declared.properties.GraphemeClusterBreak.{GraphemeClusterBreak}
use Rattle.unicode.specs.declared.properties.GraphemeClusterBreak.TheVariants.{Control, Lf, Other}
use Rattle.unicode.proofs.BreaksComputing.{ucd_breaks}
use Rattle.unicode.proofs.GraphemeClusterBreakLemmas.{grapheme_cluster_break_stepped}
use Rattle.unicode.proofs.Facts.{Stepped-below}
use Rattle.unicode_segmentation.proofs.GraphemeLemmas.{is_grapheme_break-inside, is_grapheme_break-others}

-- the value joins with none of its kind, nor with what stands before or after it
abbrev stands_alone : GraphemeClusterBreak → Bool
stands_alone Control = true
stands_alone Lf = true
stands_alone Other = true
stands_alone _ = false

ascii_value : (c : ℕ) → c < 128 → (stands_alone (grapheme_cluster_break c) || c == 13) ≡ true
unfolding ucd_breaks
ascii_value = Stepped-below grapheme_cluster_break grapheme_cluster_break_stepped (λ x v. stands_alone v || x == 13) 128 refl

alone : (c : ℕ) → c < 128 → in_line c ≡ true → stands_alone (grapheme_cluster_break c) ≡ true
alone c small inside = let e = ascii_value c small in grind arith

module _ (c d : ℕ) (after : List ℕ) (small : d < 128) where
  by_pair : ((rest : Bool) → unwrap_or (break_by_pair true (grapheme_cluster_break c) (grapheme_cluster_break d)) rest ≡ true) → is_grapheme_break true (c ∷ []) (d ∷ after) ≡ true
  by_pair pair = is_grapheme_break-inside true (c ∷ []) d after (omega arith) ∙ pair _

  by_values : (v w : GraphemeClusterBreak) → stands_alone v ≡ true → stands_alone w ≡ true → v ≡ grapheme_cluster_break c → w ≡ grapheme_cluster_break d
      → is_grapheme_break true (c ∷ []) (d ∷ after) ≡ true
  by_values v w a b e f = grind (arith, by_pair, is_grapheme_break-others)

-- in a line a cluster ends between two ASCII characters
breaks : (c d : ℕ) (after : List ℕ) → c < 128 → d < 128 → in_line c ≡ true → in_line d ≡ true → is_grapheme_break true (c ∷ []) (d ∷ after) ≡ true
breaks c d after s t e f = by_values c d after t _ _ (alone c s e) (alone d t f) refl refl

one_or : (b : Bool) (n : ℕ) → n ≡ 1 → (if b then 1 else n) ≡ 1
one_or b n e = grind arith

first_alone : (c d : ℕ) (cs : List ℕ) → is_grapheme_break true (c ∷ []) (d ∷ cs ++ []) ≡ true → first_len (cut (is_grapheme_break true) [] (c ∷ d ∷ cs) []) ≡ 1
unfolding cut
first_alone c d cs e = rw e refl

kept_one : (cs : List ℕ) → 0 < length cs → list_all in_line cs ≡ true → list_all is_ascii (take 2 cs) ≡ true → kept_cluster unicode_cluster cs ≡ 1
unfolding unicode_cluster
kept_one cs some inside front = grind (arith, ltb-true, and_parts, one_or, first_alone, breaks)

one_byte : (cs : List ℕ) → 0 < length cs → list_all is_ascii (take 2 cs) ≡ true → length (encode_utf8_all (take 1 cs)) ≡ 1
one_byte cs some front = grind (arith, append-nil, encode_ascii, ltb-true, and_parts)

pub front_cluster : (cs : List ℕ) → 0 < length cs → list_all in_line cs ≡ true → list_all is_ascii (take 2 cs) ≡ true
    → 1 ≡ length (encode_utf8_all (take (kept_cluster unicode_cluster cs) cs))
front_cluster cs some inside front = rw (kept_one cs some inside front) (sym (one_byte cs some front))

-- where not the first two characters are ASCII, not all are
pub not_all : (cs : List ℕ) → list_all is_ascii (take 2 cs) ≡ false → list_all is_ascii cs ≡ false
not_all cs e = grind arith

-- The classes by the properties of Unicode. Each predicate is named after the one of the crates
-- `unicode_ident`, `unicode` and `unicode_segmentation` that answers it.
use Rattle.std.specs.Prelude.{ℕ, Bool, true, false, not, ◌&&◌, ◌||◌, if◌then◌else◌, ◌==◌, List, [], ◌∷◌, length, Option, Some, None}
use Rattle.unicode.specs.Binary.{is_alphabetic}
use Rattle.unicode.specs.GeneralCategory.{general_category}
use Rattle.unicode.specs.Script.{script}
use Rattle.unicode.specs.declared.properties.GeneralCategory.{GeneralCategory}
use Rattle.unicode.specs.declared.properties.GeneralCategory.TheVariants.{DecimalNumber, LetterNumber, OtherNumber}
use Rattle.unicode.specs.declared.properties.Script.{Script}
use Rattle.unicode.specs.declared.properties.Script.TheVariants.{Han, Hiragana, Katakana, Hangul}
use Rattle.unicode_ident.specs.Ident.{is_xid_start, is_xid_continue}
use Rattle.unicode_segmentation.specs.Grapheme.{is_grapheme_break}
use Rattle.unicode_segmentation.specs.Segments.{cut}
use Rattle.typst_lines.specs.Classes.{CharClasses, by_law}
use Rattle.typst_lines.specs.declared.classes.MathClass.{MathClass}
use Rattle.typst_lines.specs.declared.classes.MathClass.TheVariants.{Opening, Closing}

-- The general categories Nd, Nl and No.
abbrev pub is_number : GeneralCategory → Bool
is_number DecimalNumber = true
is_number LetterNumber = true
is_number OtherNumber = true
is_number _ = false

-- The scripts whose texts don't put spaces between words.
abbrev pub is_unspaced : Script → Bool
is_unspaced Han = true
is_unspaced Hiragana = true
is_unspaced Katakana = true
is_unspaced Hangul = true
is_unspaced _ = false

-- A character is numeric by its general category.
abbrev pub unicode_numeric : ℕ → Bool
unicode_numeric c = is_number (general_category c)

-- A character is alphanumeric if it is alphabetic or numeric.
abbrev pub unicode_alphanumeric : ℕ → Bool
unicode_alphanumeric c = is_alphabetic c || unicode_numeric c

-- A character is one of a word if it is alphanumeric and its script puts spaces between words.
abbrev pub unicode_word : ℕ → Bool
unicode_word c = unicode_alphanumeric c && not (is_unspaced (script c))

-- Opening are ⌈ ⌊ ⟦ ⟨ ⟪ ⟬ ⟮, closing are ⌉ ⌋ ⟧ ⟩ ⟫ ⟭ ⟯.
abbrev pub unicode_math : ℕ → Option MathClass
unicode_math c =
    if c == 0x2308 || c == 0x230a || c == 0x27e6 || c == 0x27e8 || c == 0x27ea || c == 0x27ec || c == 0x27ee then Some Opening
    else (if c == 0x2309 || c == 0x230b || c == 0x27e7 || c == 0x27e9 || c == 0x27eb || c == 0x27ed || c == 0x27ef then Some Closing
    else None)

-- How long the first of some pieces is; 1 if there is none.
abbrev pub first_len : List (List ℕ) → ℕ
first_len [] = 1
first_len (piece ∷ pieces) = length piece

-- The characters of a line's first extended grapheme cluster.
unfoldable pub unicode_cluster : List ℕ → ℕ
unicode_cluster line = first_len (cut (is_grapheme_break true) [] line [])

-- The class value by Unicode.
abbrev pub unicode_classes : CharClasses
unicode_classes = by_law (record {
  xid_start = is_xid_start;
  xid_continue = is_xid_continue;
  alphabetic = is_alphabetic;
  alphanumeric = unicode_alphanumeric;
  numeric = unicode_numeric;
  word = unicode_word;
  math = unicode_math;
  cluster = unicode_cluster;
})

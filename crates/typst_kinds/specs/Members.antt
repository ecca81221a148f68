-- What a set of kinds contains.
use Rattle.std.specs.Prelude.{ℕ, ◌/◌, ◌%◌, ◌^◌, ◌==◌, Bool, List, [], ◌∷◌, nat_eq, slice_index}
use Rattle.std.specs.Cmp.Lexicographic.{pointwise}
use Rattle.std.specs.Int.{bit_at}
use Rattle.typst_kinds.specs.contracts.kind.SyntaxKind.{the_type}
use Rattle.typst_kinds.specs.declared.kind.SyntaxKind.{SyntaxKind}
use Rattle.typst_kinds.specs.declared.set.SyntaxSet.{SyntaxSet}
use denote.Enum.Declared.{tag_of}

-- the kinds are counted from 0 in the order in which they are declared
unfoldable pub place_of : SyntaxKind → ℕ
place_of kind = tag_of the_type kind

-- the bit at a place in a list of words of 64 bits
abbrev pub bit_of : List ℕ → ℕ → ℕ
bit_of words place = bit_at (slice_index words (place / 64)) (place % 64)

-- whether a kind is in a set: its bit is 1
unfoldable pub has : SyntaxSet → SyntaxKind → Bool
has set kind = bit_of set.words (place_of kind) == 1

-- a set's words, of the last one only the bits that stand for kinds
abbrev pub kind_words : SyntaxSet → List ℕ
kind_words set = slice_index set.words 0 ∷ slice_index set.words 1 ∷ slice_index set.words 2 % 2 ^ 9 ∷ []

-- whether two sets have the same kinds, by their words
abbrev pub same_kinds : SyntaxSet → SyntaxSet → Bool
same_kinds a b = pointwise nat_eq (kind_words a) (kind_words b)

-- The mentions of a name, row by row.
use Rattle.typst_features.proofs.Cited.{◌≡◌, ℕ, ◌+◌, Bool, true, false, List, [], ◌∷◌, ◌++◌, length, filter, Option, Some, option_map, option_to_list, refl, ap, sym, ◌∙◌, arith, append_assoc, append-nil, if◌then◌else◌, map, map-append, Tree, forest, Mentioned, is_of, mentioned, of_name, row, Mention}
use Rattle.std.proofs.lemmas.List.Elements.{filter-append}
use Rattle.typst_features.specs.LabelRows.{left, left_all, steps_all, steps_left}
use Rattle.typst_features.specs.declared.naming.MentionKind.{MentionKind}
use Rattle.typst_features.specs.declared.naming.Row.{Row}

-- the last row comes first
pub left_pushed : (rows : List Row) (r : Row) → left_all (rows ++ r ∷ []) ≡ left r ++ left_all rows
left_pushed [] r = sym (append-nil (left r))
left_pushed (x ∷ rows) r = ap (λ ns. ns ++ left x) (left_pushed rows r) ∙ append_assoc (left r) (left_all rows) (left x)

pub steps_pushed : (rows : List Row) (r : Row) → steps_all (rows ++ r ∷ []) ≡ steps_left r + steps_all rows
steps_pushed [] r = omega arith
steps_pushed (x ∷ rows) r = omega (arith, steps_pushed rows r)

none_of : (in_markup : Bool) (a : ℕ) (ts : List Tree) → length ts ≡ 0 → row in_markup a (forest ts) ≡ []
none_of in_markup a [] h = refl
none_of in_markup a (t ∷ ts) h = absurd (omega (arith, h))

-- nothing is left where no trees are
pub none_left : (r : Row) → length r.trees.now ≡ 0 → left r ≡ []
none_left r h = none_of r.in_markup r.start r.trees.now h

-- a mention is made of its parts
abbrev pub mention_of : MentionKind → ℕ → ℕ → List ℕ → Mentioned
mention_of k a e n = record { kind = k; range = record { start = a; end = e }; name = n }

pub made : (k wanted : MentionKind) (a e end : ℕ) (n : List ℕ) (o : Option (List ℕ)) → k ≡ wanted → e ≡ end → Some n ≡ o → Some (mention_of k a e n) ≡ option_map (mention_of wanted a end) o
made k wanted a e end n o kind ends found = (λ i. Some (mention_of (kind i) a (ends i) n)) ∙ ap (option_map (mention_of wanted a end)) found

-- what a node mentions is added if it has the name
pub added : (n : List ℕ) (old new : List Mention) (o : Option Mentioned) (m : Mention) → Some (mentioned m) ≡ o → is_of n (mentioned m) ≡ true → new ≡ old ++ m ∷ [] → map mentioned new ≡ map mentioned old ++ of_name n (option_to_list o)
added n old new o m is named pushed = grind (arith, map-append)

pub passed_over : (n : List ℕ) (old : List Mention) (o : Option Mentioned) (m : Mention) → Some (mentioned m) ≡ o → is_of n (mentioned m) ≡ false → map mentioned old ≡ map mentioned old ++ of_name n (option_to_list o)
passed_over n old o m is differs = grind (arith, append-nil)

-- a node's own mention and the rows below and after it are what its row has
pub joined : (n : List ℕ) (mine below rest all found : List Mentioned) → (found ++ of_name n mine) ++ of_name n (below ++ (rest ++ all)) ≡ found ++ of_name n ((mine ++ (below ++ rest)) ++ all)
joined n mine below rest all found = grind (arith, append_assoc, filter-append)

-- ---- some of them

kept_by : (v : Bool) (x : Mention) (xs : List Mention) (ys : List Mentioned) → map mentioned xs ≡ ys → map mentioned (if v then x ∷ xs else xs) ≡ (if v then mentioned x ∷ ys else ys)
kept_by v x xs ys e = grind arith

-- some are kept by what they mention
pub kept : (test : Mentioned → Bool) (xs : List Mention) → map mentioned (filter (λ m. test (mentioned m)) xs) ≡ filter test (map mentioned xs)
kept test [] = refl
kept test (x ∷ xs) = kept_by (test (mentioned x)) x (filter (λ m. test (mentioned m)) xs) (filter test (map mentioned xs)) (kept test xs)

-- Objects and lists, written from their names to their ends.
use Rattle.std.proofs.Common.{◌≡◌, ℕ, List, [], ◌∷◌, ◌++◌, Result, ◌∙◌}
use Rattle.std.specs.Prelude.{OnOk}
use Rattle.json.specs.Token.{Token, begin_object, end_object, begin_array, end_array, key}
use Rattle.typst_report.proofs.TokenLemmas.{written, written_last}
use Rattle.typst_check.specs.Sarif.{list_member, object_item, object_member}

module _ {E : Type 0} (r : Result (Unit {0}) E) (old one two three new : List Token) where
  -- an object under its name
  pub object_written : (name : List ℕ) (members : List Token) → one ≡ old ++ key name ∷ [] → two ≡ one ++ begin_object ∷ [] → three ≡ two ++ members → OnOk r (new ≡ three ++ end_object ∷ []) → OnOk r (new ≡ old ++ object_member name members)
  object_written name members named begun grown ended =
      let head : List Token = key name ∷ begin_object ∷ [] in
      let first : two ≡ old ++ head = written old one two (key name ∷ []) (begin_object ∷ []) named begun in
      let all : three ≡ old ++ (head ++ members) = written old two three head members first grown in
      written_last r old three new (head ++ members) (end_object ∷ []) all ended

  -- a list under its name
  pub list_written : (name : List ℕ) (items : List Token) → one ≡ old ++ key name ∷ [] → two ≡ one ++ begin_array ∷ [] → three ≡ two ++ items → OnOk r (new ≡ three ++ end_array ∷ []) → OnOk r (new ≡ old ++ list_member name items)
  list_written name items named begun grown ended =
      let head : List Token = key name ∷ begin_array ∷ [] in
      let first : two ≡ old ++ head = written old one two (key name ∷ []) (begin_array ∷ []) named begun in
      let all : three ≡ old ++ (head ++ items) = written old two three head items first grown in
      written_last r old three new (head ++ items) (end_array ∷ []) all ended

module _ {E : Type 0} (r : Result (Unit {0}) E) (old one two new : List Token) where
  -- an object in a list
  pub item_written : (members : List Token) → one ≡ old ++ begin_object ∷ [] → two ≡ one ++ members → OnOk r (new ≡ two ++ end_object ∷ []) → OnOk r (new ≡ old ++ object_item members)
  item_written members begun grown ended =
      let head : List Token = begin_object ∷ [] in
      let all : two ≡ old ++ (head ++ members) = written old one two head members begun grown in
      written_last r old two new (head ++ members) (end_object ∷ []) all ended

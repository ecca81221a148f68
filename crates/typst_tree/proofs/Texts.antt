-- The text of a tree whose kind, message or hints changed is the text that it was.
use Rattle.typst_tree.proofs.Cited.{◌≡◌, ℕ, List, [], ◌∷◌, None, refl, Tree, text_of, advised, all_advised}
use Rattle.typst_kinds.specs.Diagnostic.{hint_with}

pub text_all_advised : (messages : List (List ℕ)) (t : Tree) → text_of (all_advised messages t) ≡ text_of t
text_all_advised [] t = refl
text_all_advised (message ∷ messages) t = text_all_advised messages (advised (hint_with None message) t)

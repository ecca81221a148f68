-- What `expected` and `unexpected` make of a tree.
use Rattle.std.specs.Prelude.{ℕ, List, None, if◌then◌else◌}
use Rattle.typst_kinds.specs.Kinds.{is_error}
use Rattle.typst_kinds.specs.Names.{name_of}
use Rattle.typst_kinds.specs.Diagnostic.{hint_with}
pub use Rattle.typst_kinds.specs.Messages.{expected_message, unexpected_message, keyword_hint, is_name_word, is_lost_name}
use Rattle.typst_tree.specs.Tree.{Tree, text_of, error_of, made_error, advised}

-- an error leaf of a tree's text that says what was expected
abbrev pub expected_error : List ℕ → Tree → Tree
expected_error thing t =
    if is_lost_name t.head.kind thing then
    advised (hint_with None (keyword_hint (text_of t))) (error_of (expected_message thing (name_of t.head.kind)) (text_of t))
    else error_of (expected_message thing (name_of t.head.kind)) (text_of t)

-- the tree as an error that says what was expected. An error stays as it is
abbrev pub made_expected : List ℕ → Tree → Tree
made_expected thing t = if is_error t.head.kind then t else expected_error thing t

-- the tree as an error that was not expected. An error stays as it is
abbrev pub made_unexpected : Tree → Tree
made_unexpected t = made_error (unexpected_message (name_of t.head.kind)) t

-- The words of the program.
use Rattle.std.specs.Prelude.{ℕ, List, codes, Option, None, Some, option_map, if◌then◌else◌}
use Rattle.std.specs.Str.{bytes_eq}
use Rattle.typst_probe_server.specs.declared.word.Word.{Word}
use Rattle.typst_probe_server.specs.declared.word.Word.TheVariants as word
use Rattle.typst_probe_server.specs.declared.word.shown_word.ShownWord.{ShownWord}
use Rattle.typst_probe_server.specs.declared.word.shown_word.ShownWord.TheVariants as shown_word
use Rattle.typst_probe_server.specs.declared.word.offered_word.OfferedWord.{OfferedWord}
use Rattle.typst_probe_server.specs.declared.word.offered_word.OfferedWord.TheVariants as offered_word
use Rattle.typst_probe_server.specs.declared.word.session_word.SessionWord.{SessionWord}
use Rattle.typst_probe_server.specs.declared.word.session_word.SessionWord.TheVariants as session_word

-- the word that a name stands for, of those for what is shown
abbrev pub shown_word_named : List ℕ → Option ShownWord
shown_word_named name =
    if bytes_eq name (codes "outline") then Some shown_word.Outline
    else (if bytes_eq name (codes "foldings") then Some shown_word.Foldings
    else (if bytes_eq name (codes "problems") then Some shown_word.Problems
    else (if bytes_eq name (codes "shown-problems") then Some shown_word.ShownProblems
    else (if bytes_eq name (codes "semantic-tokens") then Some shown_word.SemanticTokens
    else (if bytes_eq name (codes "names") then Some shown_word.Names
    else (if bytes_eq name (codes "quick-fixes") then Some shown_word.QuickFixes
    else (if bytes_eq name (codes "document-links") then Some shown_word.DocumentLinks
    else None)))))))

-- the word that a name stands for, of those for what is offered at places
abbrev pub offered_word_named : List ℕ → Option OfferedWord
offered_word_named name =
    if bytes_eq name (codes "selections") then Some offered_word.Selections
    else (if bytes_eq name (codes "expansions") then Some offered_word.Expansions
    else (if bytes_eq name (codes "mentions") then Some offered_word.Mentions
    else (if bytes_eq name (codes "occurrences") then Some offered_word.Occurrences
    else (if bytes_eq name (codes "hover") then Some offered_word.Hover
    else (if bytes_eq name (codes "completions") then Some offered_word.Completions
    else (if bytes_eq name (codes "tokens-in") then Some offered_word.TokensIn
    else (if bytes_eq name (codes "next-item") then Some offered_word.NextItem
    else None)))))))

-- the word that a name stands for, of those for sessions
abbrev pub session_word_named : List ℕ → Option SessionWord
session_word_named name =
    if bytes_eq name (codes "session") then Some session_word.Session
    else (if bytes_eq name (codes "session-all-errors") then Some session_word.SessionAllErrors
    else (if bytes_eq name (codes "session-cut") then Some session_word.SessionCut
    else (if bytes_eq name (codes "session-refused") then Some session_word.SessionRefused
    else (if bytes_eq name (codes "deltas") then Some session_word.Deltas
    else None))))

-- the first word that there is
abbrev pub first_word : Option Word → Option Word → Option Word
first_word None other = other
first_word (Some found) other = Some found

-- the word that a name stands for
abbrev pub word_named : List ℕ → Option Word
word_named name =
    first_word (option_map word.Shown (shown_word_named name))
    (first_word (option_map word.Offered (offered_word_named name))
    (option_map word.Session (session_word_named name)))

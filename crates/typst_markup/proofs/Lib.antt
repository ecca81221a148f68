-- From what a contract promises to the lemma behind it:
--   a production's clause        its own answers, by the steps of the machine; MarkupHeads: what begins an expression
pub mod MarkupHeads
-- From what a contract promises to the lemma behind it:
--   the key of a string          its own answers; Backslashes: where the code goes at a backslash, and what is left after it
pub mod Backslashes
-- From what a contract promises to the lemma behind it:
--   a production's clause        its own answers, by the steps of the machine; Begins: what begins an expression or goes on with it
--   are_letters                  Letters
pub mod Begins
pub mod Cited
pub mod Letters

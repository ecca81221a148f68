-- From what a contract promises to the lemma behind it:
--   the headline's tree, leaves and numbers   Fresh: fresh-bare, fresh-text, fresh-file, fresh-numbers
--   a node is found by its own span           Own: finds-own
--   a node's bytes by its own number          Own: gives-own
--   what a call of a source answers           Answered: not-found, looked-for, part-given, replaced, same-file
--   an edit in bytes is one of characters     Changed: before, after, makes
--   why the tree after an edit is right       Reparsed: records-again, edits-again, by takes-it of Answering; Replaced: spans and numbers of a tree of which children were replaced
pub mod Replaced
pub mod Fresh
pub mod Changed
pub mod Reparsed
pub mod Own
pub mod Answered
-- From what a contract promises to the lemma behind it:
--   parse_recorded               Numbers: the notes stand at bytes of the text
--   read: blocks                 Blocks, BlockSteps
--   read: a run                  Paths: where its block begins; ReadSteps: its entry
--   read: pieces                 PieceReading: up to a byte; Serving: from candidate to candidate; Runs, RunSteps: of any run; Inner: of a content block
--   reparse                      Answering, Turns: the candidates one after the other; takes-it and part-taken of Answering: tree and units after the one that is taken; KeptBoundaries: the place from which the next edit looks
--   all of these                 Places: characters and bytes
-- For `typst_document`: RootEdits: an edit's answer as an edit of the root's children.
mod Places
mod Paths
mod Numbers
mod PieceReading
mod Runs
mod Answering
mod Blocks
mod BlockSteps
pub mod Cited
mod Inner
mod Serving
mod RunSteps
mod ReadSteps
mod Turns
mod KeptBoundaries
pub mod RootEdits
-- What the crates above name of those below.
pub use Rattle.typst_tree.proofs.Numbering
pub use Rattle.typst_highlight.proofs.Reading

-- From what a contract promises to the lemma behind it:
--   words_of_the_language        computed (laws/words_of_the_language)
--   the frame law                Frame: framed-run; Looks: what shows the same; Ends, Eaten: tokens
--   the depth law                Alike: alike-run; Knot: alike-at
--   nothing depends on what is known of first readings: Blind: run-blind
--   the leaves law               Leaves: kept-run
--   no more than there is        Within: within-run; Backs: backs-run; Rests: what the reading is after a parser
--   all of them at once          Knot: lawful-parser, sound-level
pub mod Places
pub mod HintedNodes
pub mod Looks
pub mod Within
pub mod Backs
pub mod Rests
pub mod Goes
pub mod CodeEnds
pub mod MathEnds
pub mod Ends
pub mod Eaten
pub mod Alike
pub mod Blind
pub mod Frame
pub mod Leaves
pub mod Knot
-- From what a contract promises to the lemma behind it:
--   the last node, by its place     LastNodes
--   parens that go                  Parens
pub mod LastNodes
pub mod Parens
-- From what a contract promises to the lemma behind it:
--   the token at hand            Trivia: reading ahead
--   the text of trivia           Fronts: it begins what is ahead
--   what was looked at, noted    Hulls, Logs: in bytes; Bytes: bytes and characters
pub mod Hulls
pub mod Logs
pub mod Bytes
pub mod Fronts
pub mod Trivia
-- From what a contract promises to the lemma behind it:
--   a step did what it says      Runs: how runs compose; Steps: how steps compose; Blocks: calls and blocks
--   a loop that grows or nests   Grows, Nests: how the code's loops compose
--   a production                 Asks, Nots: what it does by the token at hand; Values: its answer, and its reading
--   the token further on, hints  Words
--   the first node changed, seen Changes
--   the token at hand            Ready: what it becomes; ReadSo: read in another way
--   a reading that is given up   Checkpoints: going back; Either: the law; Begins: what leaves what stood before; Knowing, Tails: what is remembered; Aside: what was looked at before it
pub mod Knowing
pub mod Blocks
pub mod Runs
pub mod Steps
pub mod Words
pub mod Grows
pub mod Nests
pub mod Ready
pub mod ReadSo
pub mod Checkpoints
pub mod Either
pub mod Aside
pub mod Tails
pub mod Begins
pub mod Changes
pub mod Asks
pub mod Cited
pub mod Values
pub mod Nots
-- What the crates above name of those below.
pub use Rattle.typst_lexer.proofs.TokenTexts
pub use Rattle.typst_tokens.proofs.SpelledNumbers

-- From what a contract promises to the lemma behind it:
--   a production's clause        its own answers, by the steps of the machine; PatternFirsts: what may be given up
pub mod Cited
pub mod PatternFirsts

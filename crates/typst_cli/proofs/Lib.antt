-- From what a contract promises to the lemma behind it:
--   words                        WordLemmas: how many ask for something, the numbers among them
--   what a run says and gives     FaultLemmas: from an answer's faults to a run's
--   edits printed                SpansAside: spans aside, trees are printed the same
mod SpansAside
pub mod WordLemmas
pub mod FaultLemmas

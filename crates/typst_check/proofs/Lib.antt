-- From what a contract promises to the lemma behind it:
--   write_each_hint            HintLemmas: one more hint written
--   write_region and such      ObjectLemmas: objects and lists, from their names to their ends
--   Log::check, write_result   OutcomeLemmas: what follows where an outcome is known
pub mod HintLemmas
pub mod ObjectLemmas
pub mod OutcomeLemmas

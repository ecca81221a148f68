-- Where the clauses are proved. A function that isn't named here needs no lemma.
--   come_below, enter, next          Steps: opened, closed, skipped, came
--   what is passed over              Passed: outside
--   the walk                         Placing: stays_behind, stays_below, stays_back, stays_sought
--   settled_end                      Endings
--   code_next                        FixedCodes
--   flags                            Marks
--   fill_met: numbers of small trees Small
--   the array                        Filling: filled_more, filled_full; Filled
--   all nodes                        Whole
--   remarks                          Sayings
--   kinds and tags by numbers        Numbered
pub mod Cited
pub mod Endings
pub mod Filled
pub mod Filling
pub mod FixedCodes
pub mod Marks
pub mod Numbered
pub mod Passed
pub mod Placing
pub mod Sayings
pub mod Small
pub mod Steps
pub mod Whole

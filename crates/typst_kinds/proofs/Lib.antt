-- Where each clause is proved.
--   SyntaxKind::same                          Sameness: same-is, is-same
--   SyntaxSet::new, add, remove, union        Membership: empty; added, added_other; removed, removed_other; united
--   SyntaxSet's eq                            SameKinds: same_kinds-exact
--   set::named_sets                           NamedSets: has_stmt and its like, a law for each named set
--   SyntaxKind::at, count, named              Places: kind_here, kind_there, kind_with, placed
-- Membership rests on Bits: what setting and clearing one bit of a row of words does. SameKinds rests on
-- Places: which kind has a place.
-- All other clauses need no lemma.
mod Bits
pub mod Cited
pub mod Membership
pub mod NamedSets
pub mod Places
mod SameKinds
pub mod Sameness
-- Where the clauses are proved. A function that isn't named here needs no lemma.
--   Own::push_hint    LastElement: at_last-set
pub mod LastElement

-- From what a contract promises to the lemma behind it: nothing yet.

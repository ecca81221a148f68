-- From what a contract promises to the lemma behind it:
--   a production's clause        its own answers, by the steps of the machine; Begins: what a token begins; Firsts: what may be given up; Guesses: what comes after parens
pub mod Begins
pub mod Cited
pub mod Firsts
pub mod Guesses

-- What is said of each look in a list of asks and of its place: it holds of several lists together, and whatever is noted between the looks.
use Rattle.typst_edits.proofs.Cited.{ℕ, ◌+◌, ◌<◌, ◌≤◌, List, [], ◌∷◌, ◌++◌, length, Look, Mark, State, Ask, Place, moved, near, shift, only_looks, looked, marked, lowered, AllEndBy, AllBeginIn, AllFrom}

-- A property of lists of asks says something of each look, and nothing of notes.
pub record OfLooks (F : List Ask → Type 0) : Type 1 where
  pub P : ℕ → Look → Type 0
  pub none : F []
  pub put : (at : ℕ) (look : Look) (ls : List Ask) → P at look → F ls → F (looked at look ∷ ls)
  pub own : (at : ℕ) (look : Look) (ls : List Ask) → F (looked at look ∷ ls) → P at look
  pub rest : (at : ℕ) (look : Look) (ls : List Ask) → F (looked at look ∷ ls) → F ls
  pub note : (at gap fewer : ℕ) (m : Mark) (s : State) (ls : List Ask) → F ls → F (marked at gap fewer m s ∷ ls)
  pub past : (at gap fewer : ℕ) (m : Mark) (s : State) (ls : List Ask) → F (marked at gap fewer m s ∷ ls) → F ls

module _ {F : List Ask → Type 0} (o : OfLooks F) where
  pub looks-both : (ls ks : List Ask) → F ls → F ks → F (ls ++ ks)
  looks-both [] ks h i = i
  looks-both (looked at look ∷ ls) ks h i = o.put at look (ls ++ ks) (o.own at look ls h) (looks-both ls ks (o.rest at look ls h) i)
  looks-both (marked at gap fewer m s ∷ ls) ks h i = o.note at gap fewer m s (ls ++ ks) (looks-both ls ks (o.past at gap fewer m s ls h) i)

  pub looks-split : (ls ks : List Ask) → F (ls ++ ks) → F ls × F ks
  looks-split [] ks h = (o.none, h)
  looks-split (looked at look ∷ ls) ks h = let i = looks-split ls ks (o.rest at look (ls ++ ks) h) in (o.put at look ls (o.own at look (ls ++ ks) h) i.0, i.1)
  looks-split (marked at gap fewer m s ∷ ls) ks h = let i = looks-split ls ks (o.past at gap fewer m s (ls ++ ks) h) in (o.note at gap fewer m s ls i.0, i.1)

  pub looks-first : (ls ks : List Ask) → F (ls ++ ks) → F ls
  looks-first ls ks h = (looks-split ls ks h).0

  pub looks-second : (ls ks : List Ask) → F (ls ++ ks) → F ks
  looks-second ls ks h = (looks-split ls ks h).1

  -- where fewer levels are left, and back
  pub looks-lowered : (n : ℕ) (ls : List Ask) → F ls → F (lowered n ls)
  looks-lowered n [] h = h
  looks-lowered n (looked at look ∷ ls) h = o.put at look (lowered n ls) (o.own at look ls h) (looks-lowered n ls (o.rest at look ls h))
  looks-lowered n (marked at gap fewer m s ∷ ls) h = o.note at gap (n + fewer) m s (lowered n ls) (looks-lowered n ls (o.past at gap fewer m s ls h))

  pub looks-raised : (n : ℕ) (ls : List Ask) → F (lowered n ls) → F ls
  looks-raised n [] h = h
  looks-raised n (looked at look ∷ ls) h = o.put at look ls (o.own at look (lowered n ls) h) (looks-raised n ls (o.rest at look (lowered n ls) h))
  looks-raised n (marked at gap fewer m s ∷ ls) h = o.note at gap fewer m s ls (looks-raised n ls (o.past at gap (n + fewer) m s (lowered n ls) h))

  -- without the notes, and back
  pub looks-only : (ls : List Ask) → F ls → F (only_looks ls)
  looks-only [] h = h
  looks-only (looked at look ∷ ls) h = o.put at look (only_looks ls) (o.own at look ls h) (looks-only ls (o.rest at look ls h))
  looks-only (marked at gap fewer m s ∷ ls) h = looks-only ls (o.past at gap fewer m s ls h)

  pub only-looks : (ls : List Ask) → F (only_looks ls) → F ls
  only-looks [] h = h
  only-looks (looked at look ∷ ls) h = o.put at look ls (o.own at look (only_looks ls) h) (only-looks ls (o.rest at look (only_looks ls) h))
  only-looks (marked at gap fewer m s ∷ ls) h = o.note at gap fewer m s ls (only-looks ls h)

  -- counted from a given number of characters before
  abbrev pub looks-shifted : (d : ℕ) → OfLooks (λ ls. F (shift d ls))
  looks-shifted d = record {
    P = λ at look. o.P (d + at) look;
    none = o.none;
    put = λ at look ls. o.put (d + at) look (shift d ls);
    own = λ at look ls. o.own (d + at) look (shift d ls);
    rest = λ at look ls. o.rest (d + at) look (shift d ls);
    note = λ at gap fewer m s ls. o.note (d + at) gap fewer m s (shift d ls);
    past = λ at gap fewer m s ls. o.past (d + at) gap fewer m s (shift d ls);
  }

  -- another property that follows from it
  pub looks-by : {G : List Ask → Type 0} (p : OfLooks G) → ((at : ℕ) (look : Look) → o.P at look → p.P at look) → (ls : List Ask) → F ls → G ls
  looks-by p f [] h = p.none
  looks-by p f (looked at look ∷ ls) h = p.put at look ls (f at look (o.own at look ls h)) (looks-by p f ls (o.rest at look ls h))
  looks-by p f (marked at gap fewer m s ∷ ls) h = p.note at gap fewer m s ls (looks-by p f ls (o.past at gap fewer m s ls h))

abbrev pub ending : (n : ℕ) → OfLooks (AllEndBy n)
ending n = record { P = λ at look. at + look.front ≤ n; none = tt; put = λ at look ls p h. (p, h); own = λ at look ls h. h.0; rest = λ at look ls h. h.1; note = λ at gap fewer m s ls h. h; past = λ at gap fewer m s ls h. h }

abbrev pub from-byte : (b : ℕ) (z : Place) → OfLooks (AllFrom b z)
from-byte b z = record { P = λ at look. b < near look.back (moved at z); none = tt; put = λ at look ls p h. (p, h); own = λ at look ls h. h.0; rest = λ at look ls h. h.1; note = λ at gap fewer m s ls h. h; past = λ at gap fewer m s ls h. h }

abbrev pub in-rest : (past : ℕ) (rest : List ℕ) → OfLooks (AllBeginIn past rest)
in-rest past rest = record {
  P = λ at look. (look.back ≤ past + at) × (past + at ≤ length rest);
  none = tt;
  put = λ at look ls p h. (p.0, p.1, h);
  own = λ at look ls h. (h.0, h.1);
  rest = λ at look ls h. h.2;
  note = λ at gap fewer m s ls h. h;
  past = λ at gap fewer m s ls h. h;
}

-- Of two notes at which blocks begin the later one's token begins at a later byte.
use Rattle.typst_edits.proofs.Cited.{◌≡◌, ℕ, ◌+◌, ◌≤◌, List, [], ◌∷◌, ◌++◌, ap, subst, arith, true, CharClasses, Block, Note, log, is_opening, OpensApartLaw, listed}
use Rattle.typst_language.specs.declared.calls.Mark.TheVariants as mark
use Rattle.typst_edits.proofs.Rising.{taken_behind, Spread, notes-spread}

-- a note among several, and those after it
record Stands (from : ℕ) (n : Note) (ns : List Note) : Type 0 where
  low : from ≤ n.before
  start : is_opening n.mark ≡ true → n.start ≡ n.before
  behind : Spread (n.before + taken_behind n.mark) ns

stands-among : (from : ℕ) (ms : List Note) (n : Note) (ns : List Note) → Spread from (ms ++ n ∷ ns) → Stands from n ns
stands-among from [] n ns h = record { low = h.0; start = h.1; behind = h.2 }
stands-among from (m ∷ ms) n ns h = grind (arith, stands-among (m.before + taken_behind m.mark) ms n ns h.2)

pub opens-apart-law : OpensApartLaw
opens-apart-law k text earlier between later n o a b is opens opens_too =
    let one = stands-among 0 earlier n (between ++ o ∷ later) (subst (λ ns. Spread 0 ns) is (notes-spread k text)) in
    grind (arith, stands-among)

-- A block begins directly where its note stands.
pub opens-directly : (k : CharClasses) (text : List ℕ) (earlier : List Note) (n : Note) (later : List Note) (b : Block) → listed (log k text).notes ≡ earlier ++ n ∷ later → n.mark ≡ mark.Opens b → n.start ≡ n.before
opens-directly k text earlier n later b is opens = (stands-among 0 earlier n later (subst (λ ns. Spread 0 ns) is (notes-spread k text))).start (ap is_opening opens)

-- Blocks, which are noted as units.
use Rattle.typst_language.proofs.Cited.{◌≡◌, ℕ, ◌-◌, [], ◌∷◌, ◌++◌, arith, Result, Block, Opens, Closes, Call, Answer, marked, forgot, state_of, Sound, Parser, ◌>>◌, flushes, does, block, peek, read_block, Outcome, Level, apart, bounded, done, run, View, Runs, Ran, Goes, Does, Calls, Frame, Fills, Fits, Loose, Looked, Opened, Closed, ReadsBlock, noted_here, unasked}
use Rattle.std.specs.declared.alloc.AllocError.{AllocError}
use Rattle.typst_language.proofs.Logs.{logged-append}
use Rattle.typst_language.proofs.Runs.{runs-followed, ran-next, ran-gives, ran-look, ran-flushes, flushed-fits, looked-fits}

-- what holds of a level holds of the same where no block may be read
pub sound-apart : {l : Level} → Sound l → Sound (apart l)
sound-apart s = record { within = s.within; backs = s.backs; within_block = λ b z t. omega arith; backs_block = λ b z t. record { back = omega arith; left = omega arith } }

pub fits-apart : {l : Level} {v : View} → Fits l v → Fits (apart l) v
fits-apart c = record { known = c.known; hand = c.hand; own = c.own; here = c.here; there = c.there; log = c.log; knows = c.knows }

calls-apart : (l : Level) (call : Call) (old new : View) (r : Result (Answer call) AllocError) → Calls l call old r new → Calls (apart l) call old r new
calls-apart l call old new r h = grind arith

pub fills-apart : {l : Level} {f : Frame} → Fills l f → Fills (apart l) f
fills-apart {l = l} h = record { classes = h.classes; sound = sound-apart h.sound; levels = h.levels; reads = λ old new call r p. calls-apart l call old new r (h.reads old new call r p) }

-- ---- a block

looked-apart : {l : Level} {v w : View} → Looked l v w → Looked (apart l) v w
looked-apart h = record { nodes = h.nodes; place = h.place; state = h.state; hand = h.hand; own = h.own; here = h.here; log = h.log; memo = h.memo }

-- what was read between its two notes is the block
runs-bounded : (n : ℕ) (b : Block) (m : Outcome (Unit {0})) (v w : View) → Runs n m tt (noted_here n (Opens b) (unasked v)) w
    → Runs n (record m { state = forgot m.state; asks = marked 0 0 0 (Opens b) (state_of v.state) ∷ (m.asks ++ marked m.taken 0 0 Closes (state_of m.state) ∷ []) }) tt v (noted_here n Closes (unasked w))
runs-bounded n b m v w r = grind (arith, logged-append)

ran-block : {l : Level} {b : Block} {p : Parser (Unit {0})} {v mid first w : View}
    → ReadsBlock l b p → Ran l (does flushes) tt v mid → Looked l (noted_here l.levels (Opens b) (unasked mid)) first → Ran (apart l) p tt first w → Ran l (block b) tt v (noted_here l.levels Closes (unasked w))
unfolding run
ran-block {l = l} {b = b} {p = p} {v = v} {mid = mid} {first = first} {w = w} k flush look did =
    let r = (ran-next {f = λ _. p} (ran-look (looked-apart look)) did).runs in
    let m = run (apart l) (peek >> p) mid.place (forgot mid.state) in
    let same : l.blocks b mid.place (forgot mid.state) ≡ m = k.same mid.place (forgot mid.state) in
    let inner : Runs l.levels (bounded b (l.blocks b) mid.place mid.state) tt mid (noted_here l.levels Closes (unasked w)) = rw same (runs-bounded l.levels b m mid w r) in
    record { runs = rw k.has (runs-followed l.levels (done l flushes v.place v.state) (λ _. bounded b (l.blocks b)) tt tt v mid (noted_here l.levels Closes (unasked w)) flush.runs inner) }

-- the code gave the pending trivia, noted where the block begins, read it, and noted where it ends
pub does-block : {l : Level} {b : Block} {p : Parser (Unit {0})} {v first w last : View}
    → ReadsBlock l b p → Opened l b v first → Goes (apart l) (Fits (apart l)) (Loose (apart l)) p tt first w → Closed l w last → Does l (read_block b) tt v last
unfolding read_block
does-block {l = l} {b = b} {v = v} {first = first} {w = w} {last = last} k opens did closes = record {
  ran = λ c. (let f = fits-apart (begins c) in ran-next (ran-block k (ran-flushes (opens.flushed c) c) opens.looked (did.ran f)) (ran-next (ran-look closes) ran-gives));
  ready = λ c. looked-fits (omega arith) (did.ready (fits-apart (begins c))).knows closes;
}
  where
    begins : Fits l v → Fits l first
    begins c = looked-fits (omega arith) (flushed-fits (opens.flushed c) c).knows opens.looked

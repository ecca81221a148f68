-- The number of a note where pieces of a content block's run end.
use Rattle.typst_edits.proofs.Cited.{◌≡◌, ℕ, suc, ◌+◌, ◌-◌, ◌<◌, ◌≤◌, ◌==◌, eq-eqb, Bool, true, false, List, [], ◌∷◌, ◌++◌, length, take, length-append, append_assoc, ap, sym, ◌∙◌, subst, arith, drop, pos_of_ne-zero, Place, moved, CharClasses, width, Note, Hand, Point, point_of, itself, peek, takes, does, entered, hand_of, asked, run, sane-meaning, sane-plain, ahead-left, ends_block, markup_turn, markup_reading, rules, max_depth, start_of, log, inner, look_first, look_again, bracket, run_at, opened_at, Among, inner_end, blocks_of_text, of_level, Numbered, SaysOf, listed, AllGo, turn_of, first_of, first_end, Spot, unit_at, Rising, if-true, InnerNumberLaw}
use Rattle.typst_language.specs.declared.calls.Block.TheVariants as block
use Rattle.typst_edits.proofs.BlockRuns.{sane as in-sane}
use Rattle.typst_edits.proofs.Content.{again, same-here}
use Rattle.typst_edits.proofs.NumberedNotes.{level-append, numbered-at, go-fewer, more-taken, turns-within}
use Rattle.typst_edits.proofs.Rising.{rising-law}
use Rattle.typst_edits.proofs.Children.{begun-at}
use Rattle.typst_edits.proofs.Every.{first_or, neither}
use Rattle.typst_edits.proofs.Widths.{take-longer, take-more}

-- ---- notes in order

first-before : (from end : ℕ) (xs : List Note) (n : Note) (ys : List Note) → Rising from end (xs ++ n ∷ ys) → from ≤ n.before
first-before from end [] n ys r = r.0
first-before from end (m ∷ xs) n ys r = let i = first-before m.before end xs n ys r.3 in omega (arith, r.0, r.1, i)

-- A note stands no further on than those after it.
in-order : (from end : ℕ) (xs : List Note) (m : Note) (ys : List Note) (n : Note) (zs : List Note) → Rising from end (xs ++ m ∷ (ys ++ n ∷ zs)) → m.before ≤ n.before
in-order from end [] m ys n zs r = first-before m.before end ys n zs r.3
in-order from end (x ∷ xs) m ys n zs r = in-order x.before end xs m ys n zs r.3

-- ---- where a note stands

pub record Behind (firsts : List Note) (o : Note) (rest : List Note) (bs : List Note) (p : Note) (behind : List Note) : Type 0 where
  pub mid : List Note
  pub earlier : bs ≡ firsts ++ o ∷ mid
  pub is : rest ≡ mid ++ p ∷ behind

-- A note that is none of the first ones nor the next one stands after that.
pub behind-first : (firsts : List Note) (o : Note) (rest bs : List Note) (p : Note) (behind : List Note) → firsts ++ o ∷ rest ≡ bs ++ p ∷ behind → ((xs ys : List Note) → firsts ≡ xs ++ p ∷ ys → ⊥) → (o ≡ p → ⊥) → Behind firsts o rest bs p behind
behind-first [] o rest [] p behind e none other = absurd (other (ap (first_or o) e))
behind-first [] o rest (b ∷ bs) p behind e none other = let same = ap (first_or o) e in record { mid = bs; earlier = ap (λ x. x ∷ bs) (sym same); is = ap (drop 1) e }
behind-first (a ∷ firsts) o rest [] p behind e none other = let same : a ≡ p = ap (first_or o) e in absurd (none [] firsts (ap (λ x. x ∷ firsts) same))
behind-first (a ∷ firsts) o rest (b ∷ bs) p behind e none other =
    let same : a ≡ b = ap (first_or o) e in
    grind (arith, behind-first firsts o rest bs p behind (ap (drop 1) e) (λ xs ys f. none (a ∷ xs) ys (ap (λ u. a ∷ u) f)) other)

record Within (inner mid : List Note) (p : Note) : Type 0 where
  more : List Note
  is : inner ≡ mid ++ p ∷ more

-- A note that is none of the last ones nor the one before them stands before that.
before-last : (inner : List Note) (o : Note) (later mid : List Note) (p : Note) (behind : List Note) → inner ++ o ∷ later ≡ mid ++ p ∷ behind → ((xs : List Note) → later ≡ xs ++ p ∷ behind → ⊥) → (o ≡ p → ⊥) → Within inner mid p
before-last [] o later [] p behind e none other = absurd (other (ap (first_or o) e))
before-last [] o later (m ∷ mid) p behind e none other = absurd (none mid (ap (drop 1) e))
before-last (x ∷ inner) o later [] p behind e none other = record { more = inner; is = ap (λ y. y ∷ inner) (ap (first_or o) e) }
before-last (x ∷ inner) o later (m ∷ mid) p behind e none other =
    let same : x ≡ m = ap (first_or o) e in
    grind (arith, before-last inner o later mid p behind (ap (drop 1) e) none other)

-- ---- the law

-- Where it begins it stands no later than its token.
begins-by : (from end : ℕ) (xs : List Note) (n : Note) (ys : List Note) → Rising from end (xs ++ n ∷ ys) → n.before ≤ n.start
begins-by from end [] n ys r = r.1
begins-by from end (x ∷ xs) n ys r = begins-by x.before end xs n ys r.3

module _ (k : CharClasses) (levels : ℕ) (text : List ℕ) (c : Spot (Unit {0})) (chosen : Among c (blocks_of_text k text)) (name : c.name ≡ block.Content) (left : max_depth - c.fewer ≡ suc levels) where
  abbrev z0 : Place
  z0 = start_of text

  abbrev y0 : Place
  y0 = moved c.at z0

  abbrev s0 : Point
  s0 = point_of c.start

  -- The bracket takes something.
  bracket-some : 0 < (unit_at c z0).taken → 0 < (bracket k levels y0 s0).taken
  unfolding blocks_of_text run
  bracket-some some =
      let l = inner k levels in
      let sd = sane-meaning (rules k) k (suc levels) in
      let s1 = asked (hand_of l y0 s0) s0 in
      let one : hand_of l y0 s1 ≡ hand_of l y0 s0 = again l sd (λ b. sane-plain tt) y0 s0 in
      let two : hand_of l y0 (look_again k levels y0 s0).state ≡ hand_of l y0 s0 = again l sd (λ b. sane-plain tt) y0 s1 ∙ one in
      omega (arith, ap (λ (h : Hand). h.len) two, (begun-at k levels text c chosen name left z0 (same-here c.before z0) some).some)

  -- All lies within the text.
  run-room : 0 < (bracket k levels y0 s0).taken → (j : ℕ) → opened_at k levels c z0 + (first_end j (run_at k levels c z0)).taken ≤ length text
  unfolding run
  run-room some j =
      let r = run_at k levels c z0 in
      let one = (in-sane k levels peek).within y0 s0 in
      let two = (in-sane k levels peek).within y0 (look_first k levels y0 s0).state in
      let three = (in-sane k levels (does (takes false itself))).within y0 (entered markup_reading (look_again k levels y0 s0).state) in
      let four = (in-sane k levels peek).within r.place (bracket k levels y0 s0).state in
      omega (arith, some, one, two, three, four, turns-within (turn_of r) (λ x. (in-sane k levels (markup_turn true ends_block x)).within) j (true, 0) r.place r.point, ahead-left c.at z0)

pub inner-number-law : InnerNumberLaw
inner-number-law k levels text c i chosen name left g n p inside =
    let z = start_of text in
    let r = run_at k levels c z in
    let a = opened_at k levels c z in
    let m = turn_of r in
    let within = λ (x : Bool × ℕ). (in-sane k levels (markup_turn true ends_block x)).within in
    let all_behind = n.inner ++ n.closes ∷ n.later in
    let ns_is : listed (log k text).notes ≡ n.earlier ++ n.opens ∷ all_behind = ap listed n.notes in
    let same : n.earlier ++ n.opens ∷ all_behind ≡ p.earlier ++ p.note ∷ p.later = sym ns_is ∙ ap listed p.notes in
    let rise = subst (λ ns. Rising 0 (width text) ns) ns_is (rising-law k text) in
    let at_i = (first_end i r).taken in
    let before = p.before in
    -- The bracket stands before it.
    let least = take-more c.at (a + at_i) text (omega arith) in
    let some_by : (unit_at c z).taken ≡ 0 → ⊥ = λ none.
    (let there : c.at + (unit_at c z).taken ≡ c.at = omega (arith, none) in let same_byte = ap (λ d. width (take d text)) there in omega (arith, least, inside, before, n.end, same_byte)) in
    let some : 0 < (unit_at c z).taken = pos_of_ne-zero some_by in
    let bracket_some = bracket-some k levels text c chosen name left some in
    let room_i = run-room k levels text c chosen name left bracket_some i in
    let further = take-longer c.at (a + at_i) text (omega (arith, bracket_some)) room_i in
    let start = n.start in
    let opens_by = begins-by 0 (width text) n.earlier n.opens all_behind rise in
    -- It is none of the notes before the block's run, nor of those after that.
    let b = behind-first n.earlier n.opens all_behind p.earlier p.note p.later same
    (λ xs ys f. (let order = in-order 0 (width text) xs p.note ys n.opens all_behind (subst (λ ns. Rising 0 (width text) ns) (ap (λ es. es ++ n.opens ∷ all_behind) f ∙ append_assoc xs (p.note ∷ ys) (n.opens ∷ all_behind)) rise) in omega (arith, order, further, start, opens_by, before)))
    (λ e. (let there = ap (λ (x : Note). x.before) e in omega (arith, there, further, start, opens_by, before))) in
    let w = before-last n.inner n.closes n.later b.mid p.note p.later b.is
    (λ xs f. (let order = in-order 0 (width text) (n.earlier ++ n.opens ∷ n.inner) n.closes xs p.note p.later
    (subst (λ ns. Rising 0 (width text) ns) (ap (λ ls. n.earlier ++ n.opens ∷ (n.inner ++ n.closes ∷ ls)) f ∙ sym (append_assoc n.earlier (n.opens ∷ n.inner) (n.closes ∷ (xs ++ p.note ∷ p.later)))) rise) in omega (arith, order, inside)))
    (λ e. (let there = ap (λ (x : Note). x.before) e in omega (arith, there, inside))) in
    -- its number
    let lv = suc levels in
    let says = SaysOf text (λ d. inner_end k levels d c z) in
    let mids = of_level lv b.mid in
    let mores = of_level lv w.more in
    let j = length mids in
    let own : of_level lv (p.note ∷ w.more) ≡ p.note ∷ mores = if-true (p.note.levels == lv) _ _ (eq-eqb p.note.levels lv p.levels) in
    let split : of_level lv n.inner ≡ mids ++ p.note ∷ mores = ap (of_level lv) w.is ∙ level-append lv b.mid (p.note ∷ w.more) ∙ ap (λ ns. mids ++ ns) own in
    let there = numbered-at says 0 mids p.note mores (subst (λ ns. Numbered says 0 ns) split n.each) in
    let zero_more : 0 + j ≡ j = omega arith in
    let fits : j ≤ n.count = omega (arith, n.all, ap length split, length-append mids (p.note ∷ mores)) in
    let go_j : AllGo (first_of j r) = go-fewer m j n.count (true, 0) r.place r.point fits n.go in
    let at_j = (first_end j r).taken in
    let room_j = run-room k levels text c chosen name left bracket_some j in
    let here_before = (subst (λ d. says d p.note) zero_more there).says.before in
    let number = neither j i
    (λ l. (let less_taken = more-taken m j i (true, 0) r.place r.point l g in let more = take-longer (a + at_j) (a + at_i) text (omega (arith, less_taken)) room_i in omega (arith, more, before, here_before)))
    (λ l. (let less_taken = more-taken m i j (true, 0) r.place r.point l go_j in let more = take-longer (a + at_i) (a + at_j) text (omega (arith, less_taken)) room_j in omega (arith, more, before, here_before))) in
    record { mid = b.mid; more = w.more; earlier = b.earlier; inner = w.is; number = number }

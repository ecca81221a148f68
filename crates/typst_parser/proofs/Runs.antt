-- Pieces of a run: from what is found of a candidate to whether it passes.
use Rattle.typst_parser.proofs.Cited.{◌≡◌, ◌↔◌, ◌⊎◌, inl, inr, ℕ, suc, ◌+◌, ◌-◌, ◌≤◌, ◌<◌, ◌^◌, Bool, true, List, length, take, drop, take-append-drop, Option, Some, None, refl, ap, sym, subst, ◌∙◌, arith, same_Some, CharClasses, Place, moved, width, Entry, Candidate, closing_of, piece_of, end_of, RunKind, entries_in, front_in, rear_in, start_after, BeginsAt, Ends, FoundRun, IsLast, LooksFrom, SaysPiece, byte_after, reading_on, MeetsOn, width-append, Fails, TextReplacement, Makes, text_after, text_before, AreBounds, Grows, place_before, Bounds, Replacement, end_on, run_level, stops_of, over-law}
use Rattle.typst_candidates.specs.Cursors as cursors
use Rattle.typst_edits.specs.RunKind.TheVariants as of
use Rattle.typst_edits.specs.Point.{gap_of}
use Rattle.typst_parser.proofs.Numbers.{After, begins-after, rear-within}
use Rattle.typst_parser.proofs.Places.{position-within, sides-of}

-- ---- the entries

ends-from : (es : List Entry) (first : ℕ) (d : Candidate) (from to : ℕ) → Ends es first d from to → After first es from
ends-from es first d from to h = grind (arith, begins-after)

ends-to : (es : List Entry) (first : ℕ) (d : Candidate) (from to : ℕ) → Ends es first d from to → to < length es
ends-to es first d from to h = grind (arith, begins-after)

-- ---- what the records find

begins-once : (es : List Entry) (first at a b : ℕ) → BeginsAt es first at a → BeginsAt es first at b → a ≡ b
begins-once es first at a b x y = same_Some a b (sym x ∙ y)

looks-more : (es : List Entry) (which : RunKind) (from to looks : ℕ) → LooksFrom es which from to looks → (IsLast es from → ⊥) → to ≡ looks
looks-more es which from to looks h other = grind arith

looks-never : (es : List Entry) (which : RunKind) (from to looks : ℕ) → LooksFrom es which from to looks → IsLast es from → (which ≡ of.Text → ◌≡◌ {A = Option ℕ} None (Some (length es)))
    → (which ≡ of.Block → None ≡ closing_of 0 (suc from) (drop (suc from) es)) → ⊥
looks-never es which from to looks h last text block = grind arith

-- a place before a piece of a run, which begins at a byte and is the first one from an entry on
abbrev pub IsFound : List Entry → ℕ → ℕ → cursors.EntryPlace → Type 0
IsFound es first at p = BeginsAt es first at p.number × (p ≡ place_before es p.number)

-- what is found after a place
abbrev Found : ℕ → cursors.EntryPlace → Option cursors.EntryPlace
Found at p = cursors.placed p (piece_of at 0 (cursors.start_at p) p.number (drop p.number p.entries))

placed-at : (p q : cursors.EntryPlace) (o : Option ℕ) → ◌≡◌ {A = Option cursors.EntryPlace} (Some q) (cursors.placed p o) → (o ≡ Some q.number) × (q ≡ place_before p.entries q.number)
placed-at p q o h = grind arith

pub is-found : (es : List Entry) (first at : ℕ) (p q : cursors.EntryPlace) → p ≡ place_before es first → ◌≡◌ {A = Option cursors.EntryPlace} (Some q) (Found at p) → IsFound es first at q
is-found es first at p q e h = placed-at (place_before es first) q (piece_of at 0 (end_of 0 (take first es)) first (drop first es)) (h ∙ ap (Found at) e)

pub none-found : (es : List Entry) (first at n : ℕ) (p : cursors.EntryPlace) → p ≡ place_before es first → ◌≡◌ {A = Option cursors.EntryPlace} None (Found at p) → BeginsAt es first at n → ⊥
none-found es first at n p e h begins = grind arith

-- the same is found from another place of the same entries from which the same piece comes first
found-same : (es : List Entry) (first at : ℕ) (p : cursors.EntryPlace) → p.entries ≡ es → piece_of at 0 (cursors.start_at p) p.number (drop p.number es) ≡ piece_of at 0 (end_of 0 (take first es)) first (drop first es) → Found at p ≡ Found at (place_before es first)
found-same es first at p e f = grind arith

pub found-by : (es : List Entry) (first at : ℕ) (p q : cursors.EntryPlace) → p.entries ≡ es → piece_of at 0 (cursors.start_at p) p.number (drop p.number es) ≡ piece_of at 0 (end_of 0 (take first es)) first (drop first es) → ◌≡◌ {A = Option cursors.EntryPlace} (Some q) (Found at p)
    → IsFound es first at q
found-by es first at p q e f h = is-found es first at (place_before es first) q refl (h ∙ found-same es first at p e f)

pub none-by : (es : List Entry) (first at n : ℕ) (p : cursors.EntryPlace) → p.entries ≡ es → piece_of at 0 (cursors.start_at p) p.number (drop p.number es) ≡ piece_of at 0 (end_of 0 (take first es)) first (drop first es) → ◌≡◌ {A = Option cursors.EntryPlace} None (Found at p)
    → BeginsAt es first at n → ⊥
none-by es first at n p e f h begins = none-found es first at n (place_before es first) refl (h ∙ found-same es first at p e f) begins

pub found-after : (es : List Entry) (first at : ℕ) (p : cursors.EntryPlace) → IsFound es first at p → p.number < length p.entries
found-after es first at p found = subst (λ (q : cursors.EntryPlace). q.number < length q.entries) (sym found.1) (begins-after first at es p.number found.0).most

pub ends-begin : (es : List Entry) (first : ℕ) (d : Candidate) (from to : ℕ) → Ends es first d from to → BeginsAt es first d.start from
ends-begin es first d from to h = grind arith

ends-other : (es : List Entry) (first : ℕ) (d : Candidate) (from to : ℕ) → Ends es first d from to → (IsLast es from → ⊥) → BeginsAt es from d.end to
ends-other es first d from to h other = grind arith

module _ (es : List Entry) (first : ℕ) (d : Candidate) (from to : ℕ) (ends : Ends es first d from to) (p : cursors.EntryPlace) (found : IsFound es first d.start p) where
  found-from : p.number ≡ from
  found-from = begins-once es first d.start p.number from found.0 (ends-begin es first d from to ends)

  found-last : IsLast p.entries p.number → IsLast es from
  found-last last = subst (IsLast es) found-from (subst (λ (q : cursors.EntryPlace). IsLast q.entries q.number) found.1 last)

  found-other : (IsLast p.entries p.number → ⊥) → IsLast es from → ⊥
  found-other other last = other (subst (λ (q : cursors.EntryPlace). IsLast q.entries q.number) (sym found.1) (subst (IsLast es) (sym found-from) last))

  found-there : p ≡ place_before es from
  found-there = found.1 ∙ ap (place_before es) found-from

  -- the only entry of a run
  pub bounds-last : (which : RunKind) (looks : ℕ) → LooksFrom es which from to looks → IsLast p.entries p.number → (q : cursors.EntryPlace) → q ≡ p → (number : ℕ) → number ≡ p.number → (n : ℕ)
      → (which ≡ of.Text → ◌≡◌ {A = Option ℕ} (Some n) (Some (length es))) → (which ≡ of.Block → Some n ≡ closing_of 0 (suc number) (drop (suc number) es))
      → AreBounds es from to looks (Some (record { from = p; to = q; looks = n }))
  bounds-last which looks l last q same number number_is n text block = grind arith

  pub looks-found : (which : RunKind) (looks : ℕ) → LooksFrom es which from to looks → IsLast p.entries p.number → (number : ℕ) → number ≡ p.number → (which ≡ of.Text → ◌≡◌ {A = Option ℕ} None (Some (length es)))
      → (which ≡ of.Block → None ≡ closing_of 0 (suc number) (drop (suc number) es)) → ⊥
  looks-found which looks l last number number_is text block = looks-never es which from to looks l (found-last last) text (λ kind. block kind ∙ ap (λ m. closing_of 0 (suc m) (drop (suc m) es)) (number_is ∙ found-from))

  -- where another one stands after it, pieces end at one
  pub ends-more : (IsLast p.entries p.number → ⊥) → BeginsAt es p.number d.end to
  ends-more other = subst (λ n. BeginsAt es n d.end to) (sym found-from) (ends-other es first d from to ends (found-other other))

  pub bounds-more : (which : RunKind) (looks : ℕ) → LooksFrom es which from to looks → (IsLast p.entries p.number → ⊥) → (q : cursors.EntryPlace) → IsFound es p.number d.end q → (n : ℕ) → n ≡ q.number
      → AreBounds es from to looks (Some (record { from = p; to = q; looks = n }))
  bounds-more which looks l other q after n is = grind arith

-- at a run's end, or before another piece
pub meets-last : (es : List Entry) (which : RunKind) (to m : ℕ) (was y x : Bool × ℕ) (alike : Bool) → ◌≡◌ {A = Option (Bool × ℕ)} (Some was) (Some y) → IsLast es to → (alike ≡ true ↔ (which ≡ of.Block → x.1 ≡ was.1)) → (led : Type 0) → (alike ≡ true ↔ MeetsOn es which to led m y x)
meets-last es which to m was y x alike same last test led = grind arith

pub meets-more : (es : List Entry) (which : RunKind) (to m : ℕ) (any : Bool) (was y x : Bool × ℕ) (alike : Bool) → ◌≡◌ {A = Option (Bool × ℕ)} (Some was) (Some y) → (IsLast es to → ⊥) → (led : Type 0) → (any ≡ true ↔ (led ⊎ (0 < m)))
    → (alike ≡ true ↔ ((any ≡ true) × (x ≡ was))) → (alike ≡ true ↔ MeetsOn es which to led m y x)
meets-more es which to m any was y x alike same more led some_is test = grind arith

pub width-take : (n : ℕ) (cs : List ℕ) → width (take n cs) ≤ width cs
width-take n cs = let all = ap width (take-append-drop n cs) in grind (arith, width-append)

-- a place by the changed stretch, and by what stands before it with it
pub shift-out : (c : TextReplacement) (new : List ℕ) (e : Replacement) (x y : ℕ) → Makes c new e → x + width c.old ≡ y + width c.new → x + e.old_end ≡ y + e.new_end
shift-out c new e x y m h = grind (arith, width-append)

pub shift-in : (c : TextReplacement) (new : List ℕ) (e : Replacement) (x y : ℕ) → Makes c new e → x + e.old_end ≡ y + e.new_end → x + width c.old ≡ y + width c.new
shift-in c new e x y m h = grind (arith, width-append)

-- ---- the test

module _ (k : CharClasses) (c : TextReplacement) (d : Candidate) (which : RunKind) (levels first : ℕ) (f : FoundRun k c d which levels first) where
  -- where it is read on
  abbrev pub place_now : Place
  place_now = moved f.at (start_after c)

  pub found-within : f.to < length (entries_in k (text_before c))
  found-within = ends-to (entries_in k (text_before c)) first d f.from f.to f.ends

  pub found-starts : d.start ≤ width (text_before c)
  found-starts = let s = f.start in let w = width-take f.at (text_before c) in omega (arith, s, w)

  -- of the places before the entries where it begins and ends
  pub says-here : (p : cursors.EntryPlace) → p ≡ place_before (entries_in k (text_before c)) f.from → SaysPiece p.entries p.number f.carried
  says-here p same = subst (λ (q : cursors.EntryPlace). SaysPiece q.entries q.number f.carried) (sym same) f.says

  pub says-there : (p : cursors.EntryPlace) → p ≡ place_before (entries_in k (text_before c)) f.to → SaysPiece p.entries p.number f.carried_end
  says-there p same = subst (λ (q : cursors.EntryPlace). SaysPiece q.entries q.number f.carried_end) (sym same) f.says_end

  pub from-within : (p : cursors.EntryPlace) → p ≡ place_before (entries_in k (text_before c)) f.from → p.number < length p.entries
  from-within p same = subst (λ (q : cursors.EntryPlace). q.number < length q.entries) (sym same) (ends-from (entries_in k (text_before c)) first d f.from f.to f.ends).most

  pub to-within : (p : cursors.EntryPlace) → p ≡ place_before (entries_in k (text_before c)) f.to → p.number < length p.entries
  to-within p same = subst (λ (q : cursors.EntryPlace). q.number < length q.entries) (sym same) found-within

  -- the reading on grows
  pub grows-there : f.from < front_in k c → width (text_after c) < 2 ^ 64 - 1 → Grows k (reading_on which levels f.carried place_now)
  grows-there before few = record {
    rises = f.rises before;
    over = over-law k (reading_on which levels f.carried place_now);
    fits = λ m. (let e = end_on (run_level k levels which) (stops_of which) f.carried m place_now in let w = position-within (e.taken + gap_of e.state.known) place_now in let s = sides-of (text_after c) f.at in omega (arith, w, s, few));
  }

  -- where no byte of the machine is its end, the candidate fails
  pub end-fails : width (text_after c) < 2 ^ 64 - 1 → (new : List ℕ) (e : Replacement) → Makes c new e → ((end : ℕ) → end < 2 ^ 64 → end + e.old_end ≡ d.end + e.new_end → ⊥) → Fails k c d
  end-fails few new e makes never = λ ts g. (let p = (f.gives ts).0 g in never (byte_after k (reading_on which levels f.carried place_now) p.0) ((grows-there p.1.before few).fits p.0) (shift-out c new e (byte_after k (reading_on which levels f.carried place_now) p.0) d.end makes p.1.shifted))

  module _ (es : List Entry) (is : es ≡ entries_in k (text_before c)) where
    pub ends-here : Ends es first d f.from f.to
    ends-here = subst (λ xs. Ends xs first d f.from f.to) (sym is) f.ends

    pub looks-here : LooksFrom es which f.from f.to f.looks
    looks-here = subst (λ xs. LooksFrom xs which f.from f.to f.looks) (sym is) f.looks_from

    pub first-within : first ≤ length es
    first-within = let b = ends-from es first d f.from f.to ends-here in let l = b.least in let m = b.most in omega (arith, l, m)

    module _ (b : Bounds) (bounds : AreBounds es f.from f.to f.looks (Some b)) (front rear : ℕ) (front_is : front ≡ front_in k c) (rear_is : rear ≡ rear_in k c) where
      rear-most : rear ≤ length es
      rear-most = grind (arith, rear-within)

      -- the test of looks by the records is that of the candidate
      pub looks-taken : b.from.number < front → rear ≤ b.looks → (f.from < front_in k c) × (rear_in k c ≤ f.looks)
      looks-taken before after = grind arith

      pub looks-needed : f.from < front_in k c → rear_in k c ≤ f.looks → (b.from.number < front) × (rear ≤ b.looks)
      looks-needed before after = (let s = ap (λ (p : cursors.EntryPlace). p.number) bounds.0 in omega (arith, s, front_is, before), by-looks bounds.2)
        where
          by-looks : (b.looks ≡ f.looks) ⊎ ((b.looks ≡ length es) × (length es ≤ f.looks)) → rear ≤ b.looks
          by-looks (inl e) = omega (arith, e, rear_is, after)
          by-looks (inr e) = let x = e.0 in let m = rear-most in omega (arith, x, m)

      -- where it fails, the candidate does
      pub looks-fail : ((b.from.number < front) × (rear ≤ b.looks) → ⊥) → Fails k c d
      looks-fail never = λ ts g. (let p = (f.gives ts).0 g in never (looks-needed p.1.before p.1.behind))

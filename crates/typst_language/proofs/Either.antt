-- Two readings of one place, of which the first may be given up.
use Rattle.typst_language.proofs.Cited.{Option, Some, None, ◌≡◌, ℕ, ◌-◌, ◌^◌, ◌≤◌, max, min, Bool, true, false, if◌then◌else◌, List, [], ◌∷◌, ◌++◌, length, drop, append-nil, length-append, refl, ap, sym, ◌∙◌, subst, arith, Place, moved, Tree, hull_of, Hull, Note, Ask, only_looks, looked, marked, look, Trivia, hand_asks, known_by, Log, least_after, logged, reach_after, with_hull, with_more, with_note, Parser, either, Level, hand_asks_of, run, Guessed, Knows, LooksIn, end_of, View, Runs, Ran, Goes, Does, Dropped, Fits, at, looked_too, listed, Leaves, Saved, forgot_notes, saved, went_back, hull_in, least_of, reach_of, unnoted}
use Rattle.typst_language.proofs.Places.{take-both, drop-both, take-all, drop-all}
use Rattle.typst_language.proofs.Logs.{among-is, is-among, logged-append, same-log}
use Rattle.typst_language.proofs.Knowing.{end-moved, knows-at, looks-among, looks-more, looks-notes}

-- ---- notes that are dropped

least-min : (m n : ℕ) (notes : List Note) → least_of (min m n) notes ≡ min (least_of m notes) n
least-min m n [] = refl
least-min m n (note ∷ notes) = let e : min (min m n) note.least ≡ min (min m note.least) n = omega arith in ap (λ k. least_of k notes) e ∙ least-min (min m note.least) n notes

least-last : (n : ℕ) (notes : List Note) (note : Note) → least_of n (notes ++ note ∷ []) ≡ min (least_of n notes) note.least
least-last n [] note = refl
least-last n (first ∷ notes) note = least-last (min n first.least) notes note

least-most : (n : ℕ) (notes : List Note) → least_of n notes ≤ n
least-most n [] = omega arith
least-most n (note ∷ notes) = let h = least-most (min n note.least) notes in omega arith

reach-max : (m n : ℕ) (notes : List Note) → reach_of (max m n) notes ≡ max (reach_of m notes) n
reach-max m n [] = refl
reach-max m n (note ∷ notes) = let e : max (max m n) note.reach ≡ max (max m note.reach) n = omega arith in ap (λ k. reach_of k notes) e ∙ reach-max (max m note.reach) n notes

reach-last : (n : ℕ) (notes : List Note) (note : Note) → reach_of n (notes ++ note ∷ []) ≡ max (reach_of n notes) note.reach
reach-last n [] note = refl
reach-last n (first ∷ notes) note = reach-last (max n first.reach) notes note

reach-least : (n : ℕ) (notes : List Note) → n ≤ reach_of n notes
reach-least n [] = omega arith
reach-least n (note ∷ notes) = let h = reach-least (max n note.reach) notes in omega arith

same-log-of : (r s l m : ℕ) (ns us : Option (List Note)) → r ≡ s → l ≡ m → ns ≡ us → ◌≡◌ {A = Log} (record { reach = r; least = l; notes = ns }) (record { reach = s; least = m; notes = us })
same-log-of r s l m ns us d e f = rw (d, e, f) refl

-- a look stays
unnoted-hull : (c : ℕ) (u : Hull) (h : Log) → unnoted c (with_hull u h) ≡ with_hull u (unnoted c h)
unnoted-hull c u h = same-log _ _ _ _ _ (reach-max h.reach u.reach (drop c (listed h.notes))) (least-min h.least u.least (drop c (listed h.notes)))

-- a note after the first ones goes
note-gone : (c r l : ℕ) (note : Note) (ns : Option (List Note)) → c ≤ length (listed ns) → l ≤ 2 ^ 64 - 1 → note.reach ≡ r → note.least ≡ l
    → unnoted c (record { reach = reach_after ns r; least = least_after ns l; notes = with_more note ns }) ≡ unnoted c (record { reach = r; least = l; notes = ns })
note-gone c r l note None h b d e = refl
note-gone c r l note (Some xs) h b d e =
    let none : c - length xs ≡ 0 = omega arith in
    let some : min (2 ^ 64 - 1) l ≡ l = omega arith in
    let here : max 0 r ≡ r = omega arith in
    grind (arith, drop-both c xs (note ∷ []) ∙ ap (λ n. drop c xs ++ drop n (note ∷ [])) none, same-log-of, reach-last, reach-max, least-last, least-min, take-both, append-nil)

more-notes : (c : ℕ) (note : Note) (ns : Option (List Note)) → c ≤ length (listed ns) → c ≤ length (listed (with_more note ns))
more-notes c note ns h = grind (arith, length-append)

after-most : (ns : Option (List Note)) (l : ℕ) → l ≤ 2 ^ 64 - 1 → least_after ns l ≤ 2 ^ 64 - 1
after-most ns l h = grind arith

-- without its notes a log is that of the looks alone
unnoted-logged : (levels : ℕ) (z : Place) (c : ℕ) (h : Log) (asks : List Ask) → c ≤ length (listed h.notes) → h.least ≤ 2 ^ 64 - 1
    → unnoted c (logged levels z h asks) ≡ logged levels z (unnoted c h) (only_looks asks)
unnoted-logged levels z c h [] a b = refl
unnoted-logged levels z c h (looked at look ∷ asks) a b =
    let u = hull_of look (moved at z) in
    unnoted-logged levels z c (with_hull u h) asks a (omega arith) ∙ ap (λ x. logged levels z x (only_looks asks)) (unnoted-hull c u h)
unnoted-logged levels z c h (marked at gap fewer mark s ∷ asks) a b =
    let x = with_note gap (levels - fewer) mark s (moved at z) h in
    unnoted-logged levels z c x asks (more-notes c _ h.notes a) (after-most h.notes h.least b)
    ∙ ap (λ y. logged levels z y (only_looks asks)) (note-gone c h.reach h.least _ h.notes a b refl refl)

all-notes : (c r l : ℕ) (ns : Option (List Note)) → length (listed ns) ≤ c → unnoted c (record { reach = r; least = l; notes = ns }) ≡ record { reach = r; least = l; notes = ns }
all-notes c r l ns h = grind (arith, same-log-of, drop-all, take-all)

-- where there are no more notes all stays
unnoted-same : (c : ℕ) (h : Log) → length (listed h.notes) ≤ c → unnoted c h ≡ h
unnoted-same c h e = all-notes c h.reach h.least h.notes e

only-append : (xs ys : List Ask) → only_looks (xs ++ ys) ≡ only_looks xs ++ only_looks ys
only-append [] ys = refl
only-append (looked at look ∷ xs) ys = ap (λ asks. looked at look ∷ asks) (only-append xs ys)
only-append (marked at gap fewer mark s ∷ xs) ys = only-append xs ys

-- looks begin no later
looks-least : (levels : ℕ) (z : Place) (h : Log) (asks : List Ask) → (logged levels z h (only_looks asks)).least ≤ h.least
looks-least levels z h [] = omega arith
looks-least levels z h (looked at look ∷ asks) = let e = looks-least levels z (with_hull (hull_of look (moved at z)) h) asks in omega arith
looks-least levels z h (marked at gap fewer mark s ∷ asks) = looks-least levels z h asks

-- ---- what stands after going back

same-back : (v : View) (ns ts : List Tree) (e : ℕ) (k : Bool) (h : Log) (m : List Guessed) → ns ≡ v.nodes → ts ≡ v.hand.trivia → e ≡ v.state.empties → k ≡ true → known_by v.hand ≡ v.state.known
    → ◌≡◌ {A = View} (record {
      nodes = ns;
      place = v.place;
      state = record {
        reading = v.state.reading;
        held = v.state.held;
        empties = e;
        is_after_error = v.state.is_after_error;
        known = if k then known_by (record v.hand { trivia = ts }) else None;
      };
      hand = record v.hand { trivia = ts };
      own = v.own;
      here = v.here;
      log = h;
      memo = m;
    }) (record v { log = h; memo = m })
same-back v ns ts e k h m a b f g i = rw (a, b, f, g) (ap (λ (x : Option Trivia). record v { state = record v.state { known = x }; log = h; memo = m }) i)

-- all but what was looked at stands there as at the checkpoint
pub back-stands : {l : Level} (old mid : View) → Fits l old → old.state.empties ≤ length old.nodes → Leaves old mid
    → went_back (saved old) mid ≡ record old { log = unnoted (length (listed old.log.notes)) mid.log; memo = mid.memo }
back-stands old mid c few e = grind arith

-- ---- the two readings

pub ran-chosen : {A : Type 0} {l : Level} {p q : Parser A} {is_wrong : A → Bool} {a : A} {old mid : View} → is_wrong a ≡ false → Ran l p a old mid → Ran l (either p is_wrong q) a old mid
unfolding run
ran-chosen {l = l} {p = p} {q = q} {is_wrong = is_wrong} {a = a} {old = old} {mid = mid} e h = grind arith

-- what the log is after going back: the looks of the first reading stay
back-log : (levels : ℕ) (z : Place) (h : Log) (asks : List Ask) → h.least ≤ 2 ^ 64 - 1 → unnoted (length (listed h.notes)) (logged levels z h asks) ≡ logged levels z h (only_looks asks)
back-log levels z h asks b = grind (arith, unnoted-logged, unnoted-same)

-- and after the second: those of both
both-log : (levels : ℕ) (z : Place) (h : Log) (xs ys : List Ask) → h.least ≤ 2 ^ 64 - 1
    → unnoted (length (listed h.notes)) (logged levels z (logged levels z h (only_looks xs)) ys) ≡ logged levels z h (only_looks (xs ++ ys))
both-log levels z h xs ys b = grind (arith, looks-notes, looks-least, unnoted-logged, unnoted-same, only-append, logged-append)

-- the first reading is given up: the second one is all, and the looks of both stay
ran-given_up : {A : Type 0} {l : Level} {p q : Parser A} {is_wrong : A → Bool} {a b : A} {old last : View} (memo : List Guessed)
    → is_wrong a ≡ true → old.log.least ≤ 2 ^ 64 - 1 → (at l p old).value ≡ a → Ran l q b (record old { log = logged l.levels old.place old.log (only_looks (at l p old).asks); memo = memo }) last
    → Ran l (either p is_wrong q) b old (forgot_notes (saved old) last)
unfolding run
ran-given_up {l = l} {p = p} {q = q} {is_wrong = is_wrong} {b = b} {old = old} {last = last} memo e least value k = grind (arith, both-log)

unnoted-fits : {l : Level} {v : View} (c : ℕ) → Fits l v → Fits l (record v { log = unnoted c v.log })
unnoted-fits {v = v} c f = grind (arith, among-is, least-most, reach-least, is-among)

-- the first reading turned out right
pub does-chosen : {A : Type 0} {l : Level} {P Q : View → Type 0} {p q : Parser A} {is_wrong : A → Bool} {a : A} {old mid : View}
    → is_wrong a ≡ false → Goes l P Q p a old mid → Goes l P Q (either p is_wrong q) a old mid
does-chosen e d = record { ran = λ c. ran-chosen e (d.ran c); ready = d.ready }

-- the code stands where it began: a reading would answer this from there, all that it would look at was looked at, and what is remembered may be another
pub record Back {A : Type 0} (l : Level) (p : Parser A) (a : A) (old back : View) : Type 0 where
  pub value : (at l p old).value ≡ a
  pub same : back ≡ record old { log = logged l.levels old.place old.log (only_looks (at l p old).asks); memo = back.memo }
  pub knows : Knows l.guess (end_of old.place) back.memo
  pub least : old.log.least ≤ 2 ^ 64 - 1

-- the token at hand is the same there
pub back-fits : {A : Type 0} {l : Level} {p : Parser A} {a : A} {old back : View} → Fits l old → Back l p a old back → Fits l back
back-fits {l = l} {p = p} {old = old} {back = back} f b =
    let o = at l p old in
    let log = logged l.levels old.place old.log (only_looks o.asks) in
    let among = looks-among old.here l.levels old.place old.log o.asks (among-is old.here old.log f.log) in
    let fits : Fits l (record old { log = log; memo = back.memo }) = record { known = f.known; hand = f.hand; own = f.own; here = f.here; there = f.there; log = is-among old.here log among; knows = b.knows } in
    subst (λ (v : View). Fits l v) (sym b.same) fits

-- the first reading turned out wrong, and the code went back
pub goes-back : {A : Type 0} {l : Level} {p : Parser A} {a : A} {c : Saved} {old mid back : View}
    → c ≡ saved old → old.state.empties ≤ length old.nodes → old.log.least ≤ 2 ^ 64 - 1 → (Fits l old → Leaves old mid)
    → Goes l (Fits l) (Fits l) p a old mid → back ≡ went_back c mid → Fits l old → Back l p a old back
goes-back {l = l} {p = p} {a = a} {c = c} {old = old} {mid = mid} {back = back} at-c few least leaves d went f = grind (arith, back-stands, end-moved, back-log, knows-at)

-- the code never read it, since what it would answer and look at was remembered
pub goes-nowhere : {A : Type 0} {l : Level} {p : Parser A} {a : A} {old now : View} (hull : Hull)
    → (at l p old).value ≡ a → with_hull hull old.log ≡ logged l.levels old.place old.log (only_looks (at l p old).asks) → now ≡ looked_too hull old → old.log.least ≤ 2 ^ 64 - 1 → Fits l old → Back l p a old now
goes-nowhere {l = l} {p = p} {old = old} {now = now} hull value log is least f = grind arith

-- where the first reading isn't given up, it is all
pub back-chosen : {A : Type 0} {l : Level} {p q : Parser A} {is_wrong : A → Bool} {a : A} {old back : View} → is_wrong a ≡ false → Back l p a old back → Back l (either p is_wrong q) a old back
unfolding run
back-chosen {A = A} {l = l} {p = p} {q = q} {is_wrong = is_wrong} {a = a} {old = old} {back = back} e h = grind arith

-- what is remembered may change
pub back-changed : {A : Type 0} {l : Level} {p : Parser A} {a : A} {old back now : View} → now ≡ record back { memo = now.memo } → Knows l.guess (end_of back.place) now.memo → Back l p a old back → Back l p a old now
back-changed {l = l} {p = p} {old = old} {back = back} {now = now} is knows b = grind arith

-- the second reading was made from there, and what was noted is dropped
pub does-either : {A : Type 0} {l : Level} {p q : Parser A} {is_wrong : A → Bool} {a b : A} {c : Saved} {old back last new : View}
    → c ≡ saved old → is_wrong a ≡ true → (Fits l old → Back l p a old back) → Does l q b back last → new ≡ forgot_notes c last → Does l (either p is_wrong q) b old new
does-either {l = l} {p = p} {q = q} {is_wrong = is_wrong} {b = b} {c = c} {old = old} {back = back} {last = last} {new = new} at-c e goes k gone =
    let end : new ≡ forgot_notes (saved old) last = gone ∙ ap (λ (x : Saved). forgot_notes x last) at-c in
    record {
      ran = λ f. (let g = goes f in
          let second = subst (λ (v : View). Ran l q b v last) g.same (k.ran (back-fits f g)) in
          subst (λ (v : View). Ran l (either p is_wrong q) b old v) (sym end) (ran-given_up back.memo e g.least g.value second));
      ready = λ f. subst (λ (v : View). Fits l v) (sym end) (unnoted-fits (length (listed old.log.notes)) (k.ready (back-fits f (goes f))));
    }

-- after it something may be forgotten
pub does-dropped : {A : Type 0} {l : Level} {P : View → Type 0} {p : Parser A} {a : A} {old mid new : View} → Dropped mid new → Goes l P (Fits l) p a old mid → Goes l P (Fits l) p a old new
does-dropped {l = l} {p = p} {a = a} {old = old} {mid = mid} {new = new} d g = record {
  ran = λ c. (let r = (g.ran c).runs in
      let runs : Runs l.levels (at l p old) a old (record mid { memo = new.memo }) = record { value = r.value; place = r.place; state = r.state; nodes = r.nodes; log = r.log } in
      subst (λ (v : View). Ran l p a old v) (sym d.same) (record { runs = runs }));
  ready = λ c. (let f = g.ready c in
      let fits : Fits l (record mid { memo = new.memo }) = record { known = f.known; hand = f.hand; own = f.own; here = f.here; there = f.there; log = f.log; knows = d.knows l f.knows } in
      subst (λ (v : View). Fits l v) (sym d.same) fits);
}

-- what is asked for the token at hand was looked at for it
pub here-looks : {l : Level} {v : View} → Fits l v → LooksIn v.here v.place (hand_asks_of l v.place v.state)
unfolding hand_asks
here-looks {l = l} {v = v} f = grind arith

-- and so it was among all that was
pub paren-looks : {l : Level} {v : View} → Fits l v → LooksIn (hull_in v.log) v.place (hand_asks_of l v.place v.state)
paren-looks {l = l} {v = v} f = grind (arith, among-is, looks-more, here-looks)

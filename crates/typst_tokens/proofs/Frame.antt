-- What was not looked at doesn't matter.
use Rattle.typst_tokens.proofs.Cited.{◌≡◌, ◌≤◌, ℕ, zero, suc, ◌+◌, ◌-◌, max, min, Bool, true, false, List, [], ◌∷◌, take, length, slice_get, if◌then◌else◌, refl, sym, ap, subst, ◌∙◌, arith, prefix_len, Place, moved, moved_from, scout, run, past, leave, last, go, answer, peek, glance, span, eat, see_run, skip, eat_run, turn, see, see_back}
use Rattle.typst_tokens.specs.Reader.{place, both, no_look, Step, ask, glimpse, Machine, Turn, spanned, span_look, Reader, exec, eaten, Look, look, marked, Agree, SameReading, widened, from_before, from_far, skip_look}

pub take-shorter : {A : Type 0} (m n : ℕ) (xs ys : List A) → m ≤ n → take n xs ≡ take n ys → take m xs ≡ take m ys
take-shorter zero n xs ys le e = refl
take-shorter (suc m) zero xs ys le e = absurd (omega arith)
take-shorter (suc m) (suc n) [] [] le e = refl
take-shorter (suc m) (suc n) [] (y ∷ ys) le e = absurd (cc)
take-shorter (suc m) (suc n) (x ∷ xs) [] le e = absurd (cc)
take-shorter (suc m) (suc n) (x ∷ xs) (y ∷ ys) le e = let tails : take n xs ≡ take n ys = cc in cc (take-shorter m n xs ys (omega arith) tails)

-- the same n places and the one after them
scout-agree : (n : ℕ) (xs ys : List ℕ) → take (suc n) (marked xs) ≡ take (suc n) (marked ys) → slice_get xs n ≡ slice_get ys n
scout-agree n [] [] e = refl
scout-agree n [] (y ∷ ys) e = absurd (cc)
scout-agree n (x ∷ xs) [] e = absurd (cc)
scout-agree zero (x ∷ xs) (y ∷ ys) e = cc
scout-agree (suc n) (x ∷ xs) (y ∷ ys) e =
    let tails : take (suc n) (marked xs) ≡ take (suc n) (marked ys) = cc in scout-agree n xs ys tails

first-agree : (n : ℕ) (xs ys : List ℕ) → 1 ≤ n → take n (marked xs) ≡ take n (marked ys) → slice_get xs 0 ≡ slice_get ys 0
first-agree n xs ys le e = scout-agree 0 xs ys (take-shorter 1 n _ _ le e)

-- ---- a step

step-agree : (l : Look) (pb pa qb qa : List ℕ) → Agree (from_before pa l) (place pb pa) (place qb qa) → Agree l (moved_from 1 pb pa) (moved_from 1 qb qa)
step-agree l pb pa qb qa g = grind arith

from_before-same : (l : Look) (xs ys : List ℕ) → slice_get xs 0 ≡ slice_get ys 0 → from_before xs l ≡ from_before ys l
from_before-same l xs ys e = grind arith

from_before-some : (l : Look) (xs : List ℕ) → 1 ≤ (from_before xs l).front
from_before-some l xs = grind arith

agree-first : (l m : Look) (p q : Place) → Agree (both l m) p q → Agree l p q
agree-first l m p q g = grind (arith, take-shorter)

agree-second : (l m : Look) (p q : Place) → Agree (both l m) p q → Agree m p q
agree-second l m p q g = grind (arith, take-shorter)

narrowed : (back front : ℕ) (l : Look) (p q : Place) → Agree (widened back front l) p q → Agree l p q
narrowed back front l p q g = agree-second (record { back = back; front = front }) l p q g

scout-same : (n : ℕ) (l : Look) (p q : Place) → Agree (widened 0 (suc n) l) p q → scout n p ≡ scout n q
scout-same n l p q g = scout-agree n _ _ (take-shorter (suc n) (max (suc n) l.front) _ _ (omega arith) g.ahead)

before-same : (n : ℕ) (l : Look) (p q : Place) → Agree (widened (suc n) 0 l) p q → slice_get p.before n ≡ slice_get q.before n
before-same n l p q g = scout-agree n _ _ (take-shorter (suc n) (max (suc n) l.back) _ _ (omega arith) g.before)

-- ---- questions at one place

record SameStep {A : Type 0} (s : Step A) (p q : Place) : Type 0 where
  answers : ask s p ≡ ask s q
  looks : glimpse s p ≡ glimpse s q

step-frame : {A : Type 0} (s : Step A) (p q : Place) → Agree (glimpse s p) p q → SameStep s p q
step-frame (turn a) p q g = record { answers = refl; looks = refl }
step-frame (see n k) p q g = grind (arith, scout-same n (glimpse (k (scout n p)) p) p q g, step-frame (k (scout n p)) p q (narrowed 0 (suc n) _ p q g))
step-frame (see_back k) p q g =
    grind (arith, before-same 0 (glimpse (k (slice_get p.before 0)) p) p q g, step-frame (k (slice_get p.before 0)) p q (narrowed 1 0 _ p q g))

-- ---- machines

record SameSpan {M : Type 0} (m : Machine M) (state : M) (pb pa qb qa : List ℕ) : Type 0 where
  taken : spanned m state pb pa ≡ spanned m state qb qa
  looks : span_look m state pb pa ≡ span_look m state qb qa

abbrev pub turned : {M : Type 0} → Machine M → M → List ℕ → ℕ → List ℕ → Turn M → List ℕ × M
turned m state before c ahead t = elim t [ leave ↦ ([], state) | last after ↦ (c ∷ [], after) | go after ↦ (let r = spanned m after (c ∷ before) ahead in (c ∷ r.0, r.1)) ]

-- what is looked at after the turn at a character
abbrev pub turn_look : {M : Type 0} → Machine M → List ℕ → ℕ → List ℕ → Turn M → Look
turn_look m before c ahead t = elim t [ leave ↦ no_look | last after ↦ no_look | go after ↦ from_before (c ∷ ahead) (span_look m after (c ∷ before) ahead) ]

turn-agree : {M : Type 0} (m : Machine M) (state : M) (c : ℕ) (pb pa qb qa : List ℕ) (t : Turn M)
    → ((after : M) → Agree (span_look m after (c ∷ pb) pa) (place (c ∷ pb) pa) (place (c ∷ qb) qa) → SameSpan m after (c ∷ pb) pa (c ∷ qb) qa)
    → Agree (turn_look m pb c pa t) (place pb (c ∷ pa)) (place qb (c ∷ qa))
    → (turned m state pb c pa t ≡ turned m state qb c qa t) × (turn_look m pb c pa t ≡ turn_look m qb c qa t)
turn-agree m state c pb pa qb qa leave more g = (refl, refl)
turn-agree m state c pb pa qb qa (last after) more g = (refl, refl)
turn-agree m state c pb pa qb qa (go after) more g = grind (arith, more after (step-agree (span_look m after (c ∷ pb) pa) pb (c ∷ pa) qb (c ∷ qa) g))

span-agree : {M : Type 0} (m : Machine M) (state : M) (pb pa qb qa : List ℕ) → Agree (span_look m state pb pa) (place pb pa) (place qb qa) → SameSpan m state pb pa qb qa
span-agree m state pb [] qb [] g = record { taken = refl; looks = refl }
span-agree m state pb [] qb (d ∷ qa) g = let e = g.ahead in absurd (cc)
span-agree m state pb (c ∷ pa) qb [] g = cc (first-agree (span_look m state pb (c ∷ pa)).front (c ∷ pa) [] (omega arith) g.ahead)
span-agree m state pb (c ∷ pa) qb (d ∷ qa) g =
    let first = first-agree (span_look m state pb (c ∷ pa)).front (c ∷ pa) (d ∷ qa) (omega arith) g.ahead in
    let same : d ≡ c = cc in
    let l = span_look m state pb (c ∷ pa) in
    let p = place pb (c ∷ pa) in
    let q = place qb (c ∷ qa) in
    let t = ask (m state) p in
    let g' : Agree l p q = subst (λ x. Agree l p (place qb (x ∷ qa))) same g in
    let g1 = narrowed 0 1 (both (glimpse (m state) p) (turn_look m pb c pa t)) p q g' in
    let s = step-frame (m state) p q (agree-first (glimpse (m state) p) (turn_look m pb c pa t) p q g1) in
    let r = turn-agree m state c pb pa qb qa t (λ after. span-agree m after (c ∷ pb) pa (c ∷ qb) qa) (agree-second (glimpse (m state) p) (turn_look m pb c pa t) p q g1) in
    grind arith

-- ---- readers

pub agree-narrow : (l m : Look) (p q : Place) → l.back ≤ m.back → l.front ≤ m.front → Agree m p q → Agree l p q
agree-narrow l m p q b f g = record { before = take-shorter l.back m.back _ _ b g.before; ahead = take-shorter l.front m.front _ _ f g.ahead }

abbrev pub run_look : ℕ → Look → Look
run_look n l = widened 0 (suc n) (from_far n l)

pub record SameRun (test : ℕ → Bool) (l : Look) (pb pa qb qa : List ℕ) : Type 0 where
  pub long : prefix_len test pa ≡ prefix_len test qa
  pub taken : take (prefix_len test pa) pa ≡ take (prefix_len test qa) qa
  pub rest : Agree l (moved_from (prefix_len test pa) pb pa) (moved_from (prefix_len test qa) qb qa)

abbrev turns : (ℕ → Bool) → List ℕ → Bool → ℕ
turns test a t = if t then 1 + prefix_len test a else 0

run-turn : (test : ℕ → Bool) (l : Look) (c : ℕ) (pb pa qb qa : List ℕ) (t : Bool)
    → (Agree (run_look (prefix_len test pa) l) (place (c ∷ pb) pa) (place (c ∷ qb) qa) → SameRun test l (c ∷ pb) pa (c ∷ qb) qa)
    → Agree (run_look (turns test pa t) l) (place pb (c ∷ pa)) (place qb (c ∷ qa))
    → (turns test pa t ≡ turns test qa t) × (take (turns test pa t) (c ∷ pa) ≡ take (turns test qa t) (c ∷ qa))
    × Agree l (moved_from (turns test pa t) pb (c ∷ pa)) (moved_from (turns test qa t) qb (c ∷ qa))
run-turn test l c pb pa qb qa false more g = (refl, refl, agree-narrow l (run_look 0 l) _ _ (omega arith) (omega arith) g)
run-turn test l c pb pa qb qa true more g =
    let n = prefix_len test pa in
    let m = prefix_len test qa in
    let up : 1 + n ≡ suc n = omega arith in
    let up' : 1 + m ≡ suc m = omega arith in
    let near = step-agree (run_look n l) pb (c ∷ pa) qb (c ∷ qa) (agree-narrow (from_before (c ∷ pa) (run_look n l)) (run_look (1 + n) l) _ _ (omega arith) (omega arith) g) in
    let s = more near in
    (ap (λ k. 1 + k) s.long, rw (up, up') (ap (λ t. c ∷ t) s.taken), rw (up, up') s.rest)

pub run-agree : (test : ℕ → Bool) (l : Look) (pb pa qb qa : List ℕ) → Agree (run_look (prefix_len test pa) l) (place pb pa) (place qb qa) → SameRun test l pb pa qb qa
run-agree test l pb [] qb [] g = record { long = refl; taken = refl; rest = agree-narrow l (run_look 0 l) _ _ (omega arith) (omega arith) g }
run-agree test l pb [] qb (d ∷ qa) g = let first = first-agree (run_look 0 l).front [] (d ∷ qa) (omega arith) g.ahead in absurd (cc)
run-agree test l pb (c ∷ pa) qb [] g = cc (first-agree (run_look (turns test pa (test c)) l).front (c ∷ pa) [] (omega arith) g.ahead)
run-agree test l pb (c ∷ pa) qb (d ∷ qa) g =
    let first = first-agree (run_look (turns test pa (test c)) l).front (c ∷ pa) (d ∷ qa) (omega arith) g.ahead in
    let same : d ≡ c = cc in
    let m = run_look (turns test pa (test c)) l in
    let g' : Agree m (place pb (c ∷ pa)) (place qb (c ∷ qa)) = subst (λ x. Agree m (place pb (c ∷ pa)) (place qb (x ∷ qa))) same g in
    let s = run-turn test l c pb pa qb qa (test c) (run-agree test l (c ∷ pb) pa (c ∷ qb) qa) g' in
    subst (λ x. SameRun test l pb (c ∷ pa) qb (x ∷ qa)) (sym same) (record { long = s.0; taken = s.1; rest = s.2 })

record SameSkip (n : ℕ) (l : Look) (pb pa qb qa : List ℕ) : Type 0 where
  long : min n (length pa) ≡ min n (length qa)
  looks : (m : Look) → skip_look n pa m ≡ skip_look n qa m
  rest : Agree l (moved_from n pb pa) (moved_from n qb qa)

skip-agree : (n : ℕ) (l : Look) (pb pa qb qa : List ℕ) → Agree (skip_look n pa l) (place pb pa) (place qb qa) → SameSkip n l pb pa qb qa
skip-agree zero l pb pa qb qa g = record { long = omega arith; looks = λ m. refl; rest = g }
skip-agree (suc n) l pb [] qb [] g = record { long = refl; looks = λ m. refl; rest = step-agree l pb [] qb [] g }
skip-agree (suc n) l pb [] qb (d ∷ qa) g = let first = first-agree (from_before [] l).front [] (d ∷ qa) (omega arith) g.ahead in absurd (cc)
skip-agree (suc n) l pb (c ∷ pa) qb [] g = let first = first-agree (from_before (c ∷ pa) (skip_look n pa l)).front (c ∷ pa) [] (omega arith) g.ahead in absurd (cc)
skip-agree (suc n) l pb (c ∷ pa) qb (d ∷ qa) g = grind (arith, skip-agree n l (c ∷ pb) pa (d ∷ qb) qa (step-agree (skip_look n pa l) pb (c ∷ pa) qb (d ∷ qa) g))

pub frame : {M A : Type 0} (r : Reader M A) (p q : Place) → Agree (look r p) p q → SameReading r p q
frame (answer a) p q g = record { answers = refl; lengths = refl; looks = refl }
frame (peek n k) p q g =
    let same = scout-same n (look (k (scout n p)) p) p q g in
    let rest = frame (k (scout n p)) p q (narrowed 0 (suc n) _ p q g) in
    record {
      answers = rest.answers ∙ ap (λ o. (exec (k o) q).0) same;
      lengths = rest.lengths ∙ ap (λ o. eaten (k o) q) same;
      looks = ap (widened 0 (suc n)) (rest.looks ∙ ap (λ o. look (k o) q) same);
    }
frame (glance n k) p q g =
    let same = before-same n (look (k (slice_get p.before n)) p) p q g in
    let rest = frame (k (slice_get p.before n)) p q (narrowed (suc n) 0 _ p q g) in
    record {
      answers = rest.answers ∙ ap (λ o. (exec (k o) q).0) same;
      lengths = rest.lengths ∙ ap (λ o. eaten (k o) q) same;
      looks = ap (widened (suc n) 0) (rest.looks ∙ ap (λ o. look (k o) q) same);
    }
frame (span m state k) p q g =
    let r = spanned m state p.before p.ahead in
    let l = span_look m state p.before p.ahead in
    let s = span-agree m state p.before p.ahead q.before q.ahead (agree-first l (look (k r.0 r.1) p) p q g) in
    let rest = frame (k r.0 r.1) p q (agree-second l (look (k r.0 r.1) p) p q g) in
    record {
      answers = rest.answers ∙ ap (λ o. (exec (k o.0 o.1) q).0) s.taken;
      lengths = rest.lengths ∙ ap (λ o. eaten (k o.0 o.1) q) s.taken;
      looks = ap (λ m. both m (look (k r.0 r.1) p)) s.looks ∙ ap (both (span_look m state q.before q.ahead)) (rest.looks ∙ ap (λ o. look (k o.0 o.1) q) s.taken);
    }
frame (eat r) p q g =
    let l = look r (moved 1 p) in
    let rest = frame r (moved 1 p) (moved 1 q) (step-agree l p.before p.ahead q.before q.ahead g) in
    let first = first-agree (from_before p.ahead l).front p.ahead q.ahead (from_before-some l p.ahead) g.ahead in
    record {
      answers = rest.answers;
      lengths = ap suc rest.lengths;
      looks = ap (from_before p.ahead) rest.looks ∙ from_before-same (look r (moved 1 q)) p.ahead q.ahead first;
    }
frame (eat_run test k) p q g =
    let n = prefix_len test p.ahead in
    let l = look (k (run test p)) (past test p) in
    let s = run-agree test l p.before p.ahead q.before q.ahead g in
    let rest = frame (k (run test p)) (past test p) (past test q) s.rest in
    record {
      answers = rest.answers ∙ ap (λ t. (exec (k t) (past test q)).0) s.taken;
      lengths = ap (λ m. m + eaten (k (run test p)) (past test p)) s.long ∙ ap (λ m. prefix_len test q.ahead + m) (rest.lengths ∙ ap (λ t. eaten (k t) (past test q)) s.taken);
      looks = ap (λ m. run_look m l) s.long ∙ ap (run_look (prefix_len test q.ahead)) (rest.looks ∙ ap (λ t. look (k t) (past test q)) s.taken);
    }
frame (skip n r) p q g =
    let s = skip-agree n (look r (moved n p)) p.before p.ahead q.before q.ahead g in
    let rest = frame r (moved n p) (moved n q) s.rest in
    record {
      answers = rest.answers;
      lengths = ap (λ m. m + eaten r (moved n p)) s.long ∙ ap (λ m. min n (length q.ahead) + m) rest.lengths;
      looks = s.looks (look r (moved n p)) ∙ ap (skip_look n q.ahead) rest.looks;
    }
frame (see_run test k) p q g =
    let n = prefix_len test p.ahead in
    let l = look (k (run test p)) p in
    let s = run-agree test no_look p.before p.ahead q.before q.ahead (agree-narrow (run_look n no_look) (widened 0 (suc n) l) p q (omega arith) (omega arith) g) in
    let rest = frame (k (run test p)) p q (narrowed 0 (suc n) l p q g) in
    record {
      answers = rest.answers ∙ ap (λ t. (exec (k t) q).0) s.taken;
      lengths = rest.lengths ∙ ap (λ t. eaten (k t) q) s.taken;
      looks = ap (λ m. widened 0 (suc m) l) s.long ∙ ap (widened 0 (suc (prefix_len test q.ahead))) (rest.looks ∙ ap (λ t. look (k t) q) s.taken);
    }

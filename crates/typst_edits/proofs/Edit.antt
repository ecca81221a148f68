-- A stretch of a text replaced: what ends before it and what begins after it shows the same.
use Rattle.typst_edits.proofs.Cited.{◌≡◌, ℕ, zero, suc, ◌+◌, ◌≤◌, List, [], ◌∷◌, ◌++◌, length, take, Some, refl, ap, sym, ◌∙◌, arith, subst, Tree, forest, moved, Look, Ask, SameIn, looked, marked, Outcome, moved-sum, Deep, fill, Hole, plug, path_in, path_of, under, Spot, Fits, unit_at, Among, text_with, AllEndBy, AllBeginIn, Passes, alter, replaced, put, this, that, Edited, TextReplacement, start_before, start_after}
use Rattle.typst_tokens.specs.Reader.{Agree, marked as ended_by_mark}
use Rattle.typst_edits.specs.Hole.Deep.{bare}
pub use Rattle.typst_candidates.proofs.Edges.{trees_forest as trees-of}
use Rattle.typst_edits.proofs.Every.{Every}
use Rattle.typst_edits.proofs.Spots.{Edits, Lawful, same_in-at}

-- ---- before it

take-front : (n : ℕ) (xs ys zs : List ℕ) → n ≤ length xs → take n (ended_by_mark (xs ++ ys)) ≡ take n (ended_by_mark (xs ++ zs))
take-front zero xs ys zs h = refl
take-front (suc n) [] ys zs h = absurd (omega arith)
take-front (suc n) (x ∷ xs) ys zs h = let l : n ≤ length xs = omega arith in ap (λ u. Some x ∷ u) (take-front n xs ys zs l)

same-before : (at : ℕ) (look : Look) (before front ys zs : List ℕ) → at + look.front ≤ length front → Agree look (moved at (record { before = before; ahead = front ++ ys })) (moved at (record { before = before; ahead = front ++ zs }))
same-before zero look before front ys zs h = record { before = refl; ahead = take-front look.front front ys zs (omega arith) }
same-before (suc n) look before [] ys zs h = absurd (omega arith)
same-before (suc n) look before (c ∷ front) ys zs h = same-before n look (c ∷ before) front ys zs (omega arith)

pub before-same : (asks : List Ask) (edit : TextReplacement) → AllEndBy (length edit.front) asks → SameIn asks (start_before edit) (start_after edit)
before-same [] edit h = tt
before-same (looked at look ∷ asks) edit h = (same-before at look [] edit.front (edit.old ++ edit.rest) (edit.new ++ edit.rest) h.0, before-same asks edit h.1)
before-same (marked at gap fewer mark s ∷ asks) edit h = (tt, before-same asks edit h)

-- ---- after it

abbrev pub onto : List ℕ → List ℕ → List ℕ
onto [] before = before
onto (c ∷ cs) before = onto cs (c ∷ before)

moved-over : (xs ys before : List ℕ) → moved (length xs) (record { before = before; ahead = xs ++ ys }) ≡ record { before = onto xs before; ahead = ys }
moved-over [] ys before = refl
moved-over (c ∷ xs) ys before =
    let e : length (c ∷ xs) ≡ suc (length xs) = omega arith in
    ap (λ n. moved n (record { before = before; ahead = (c ∷ xs) ++ ys })) e ∙ moved-over xs ys (c ∷ before)

same-after : (n : ℕ) (look : Look) (known bs cs rest : List ℕ) → look.back ≤ n + length known → n ≤ length rest
    → Agree look (moved n (record { before = known ++ bs; ahead = rest })) (moved n (record { before = known ++ cs; ahead = rest }))
same-after zero look known bs cs rest h k = record { before = take-front look.back known bs cs (omega arith); ahead = refl }
same-after (suc n) look known bs cs [] h k = absurd (omega arith)
same-after (suc n) look known bs cs (c ∷ rest) h k = same-after n look (c ∷ known) bs cs rest (omega arith) (omega arith)

after-looks : (asks : List Ask) (d : ℕ) (bs cs rest : List ℕ) → AllBeginIn d rest asks → SameIn asks (moved d (record { before = bs; ahead = rest })) (moved d (record { before = cs; ahead = rest }))
after-looks [] d bs cs rest h = tt
after-looks (looked at look ∷ asks) d bs cs rest h = (
  rw (← moved-sum d at (record { before = bs; ahead = rest }), ← moved-sum d at (record { before = cs; ahead = rest })) (same-after (d + at) look [] bs cs rest (let l = h.0 in omega arith) h.1),
  after-looks asks d bs cs rest h.2,
)
after-looks (marked at gap fewer mark s ∷ asks) d bs cs rest h = (tt, after-looks asks d bs cs rest h)

-- a given number of characters past the edit
pub past-is : (d : ℕ) (front mid rest : List ℕ) → moved ((length front + length mid) + d) (text_with front mid rest) ≡ moved d (record { before = onto mid (onto front []); ahead = rest })
past-is d front mid rest =
    moved-sum (length front + length mid) d _ ∙ ap (moved d) (moved-sum (length front) (length mid) _ ∙ ap (moved (length mid)) (moved-over front (mid ++ rest) []) ∙ moved-over mid rest (onto front []))

pub after-same : (asks : List Ask) (d m k : ℕ) (edit : TextReplacement) → m ≡ (length edit.front + length edit.old) + d → k ≡ (length edit.front + length edit.new) + d → AllBeginIn d edit.rest asks
    → SameIn asks (moved m (start_before edit)) (moved k (start_after edit))
after-same asks d m k edit e f h =
    same_in-at asks _ _ _ _ (ap (λ n. moved n (start_before edit)) e ∙ past-is d edit.front edit.old edit.rest) (ap (λ n. moved n (start_after edit)) f ∙ past-is d edit.front edit.new edit.rest)
    (after-looks asks d (onto edit.old (onto edit.front [])) (onto edit.new (onto edit.front [])) edit.rest h)

-- ---- the path

pub alter-at : (f : Tree → Tree) (left : List Tree) (y : Tree) (right : List Tree) → alter (length left) f (left ++ y ∷ right) ≡ left ++ f y ∷ right
alter-at f [] y right = refl
alter-at f (l ∷ left) y right =
    let e : length (l ∷ left) ≡ suc (length left) = omega arith in
    ap (λ n. alter n f ((l ∷ left) ++ y ∷ right)) e ∙ ap (λ u. l ∷ u) (alter-at f left y right)

put-fill : (d : Deep) (x y : Tree) → put (path_in d) x (fill d y) ≡ fill d x
put-fill bare x y = refl
put-fill (under head left d right) x y =
    ap (λ ts. record { head = head; kids = forest ts })
    (ap (alter (length left) (put (path_in d) x)) (trees-of (left ++ fill d y ∷ right)) ∙ alter-at (put (path_in d) x) left (fill d y) right ∙ ap (λ u. left ++ u ∷ right) (put-fill d x y))

pub replaced-plug : (h : Hole) (x y : Tree) → replaced (path_of h) x (plug h y) ≡ plug h x
replaced-plug h x y = alter-at (put (path_in h.deep) x) h.left (fill h.deep y) h.right ∙ ap (λ u. h.left ++ u ∷ h.right) (put-fill h.deep x y)

-- ---- the law

pub chosen-of : {X : Type 0} (xs earlier : List X) (c : X) (later : List X) → xs ≡ earlier ++ c ∷ later → Among c xs
chosen-of xs [] c later e = subst (Among c) (sym e) (this later)
chosen-of xs (y ∷ earlier) c later e = subst (Among c) (sym e) (that y (earlier ++ c ∷ later) (chosen-of _ earlier c later refl))

pub among : {X : Type 0} (P : X → Type 0) (x : X) (xs : List X) → Among x xs → Every P xs → P x
among P x ys (this xs) h = h.0
among P x ys (that y xs i) h = among P x xs i h.1

pub edited : {A : Type 0} (edit : TextReplacement) (o n : Outcome A) (cs : List (Spot A)) → Every (Lawful (start_before edit) (start_after edit) o n) cs
    → (c : Spot A) (past : ℕ) (x : Tree) → Among c cs → Passes edit c past → Fits c (unit_at c (start_after edit)) x → Edited o n c (unit_at c (start_before edit)) (unit_at c (start_after edit)) x
edited edit o n cs laws c past x i h fits =
    let z = start_before edit in
    let w = start_after edit in
    let l = among (Lawful z w o n) c cs i laws in
    let t = h.ends in
    let u = h.shifted in
    let a = h.starts in
    let g = h.goes_on in
    let e : Edits z w c x = record {
      before = before-same c.before edit h.before;
      fits = fits;
      covers = omega arith;
      some = omega arith;
      after = after-same c.after past (c.at + (unit_at c z).taken) (c.at + (unit_at c w).taken) edit (omega arith) (omega arith) h.after;
    } in
    let m = l.swaps x e in
    record {
      value = ap (λ o. o.value) m ∙ sym (ap (λ o. o.value) l.old);
      state = ap (λ o. o.state) m ∙ sym (ap (λ o. o.state) l.old);
      back = ap (λ o. o.back) m ∙ sym (ap (λ o. o.back) l.old);
      nodes = ap (λ o. o.nodes) m ∙ sym (replaced-plug c.hole x c.node) ∙ sym (ap (λ o. replaced (path_of c.hole) x o.nodes) l.old);
      was = ap (λ o. o.asks) l.old;
      log = ap (λ o. o.asks) m;
    }

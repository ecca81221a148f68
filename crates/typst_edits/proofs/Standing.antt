-- Each node of a block's kind stands where a spot of the reading is, or where one of a second reading is.
use Rattle.typst_edits.proofs.Cited.{◌≡◌, ◌⊎◌, inl, inr, ℕ, suc, ◌+◌, ◌-◌, ◌<◌, Bool, true, false, List, [], ◌∷◌, ◌++◌, length, map, take, drop, Option, Some, None, refl, ap, sym, ◌∙◌, subst, arith, length-append, append-nil, flat_map, Tree, forest, token_node, Place, moved, Block, Reading, Outcome, Meaning, Level, less, joined, answered, before, inside, reshaped, wrapped, grown, bounded, given_up, plain, same_mode, left_to, deeper_by_one, taken_node, hand_of, hand_asks_of, done, run, blockless, start_point, closed, reader_so, gave, Point, Trivia, pending, forgot, Shape, hinted, after_shape, seen, shaped, Op, Parser, hand, so, further, column, erred, takes, takes_so, flushes, complains, advises, marks, is_deepest, length-less, less-none, on_both, is_ordinary, shape_by, plug, path_in, Spots, joined_spots, last_spot, reshaped_spot, wrapped_spot, grown_spot, scoped_spot, bounded_spots, spots, call_spots, block_spots, level_spots, Spot, valued, then_spot, after_spot, sunk_spot, closed_spot, kind_of, seconds, call_seconds, block_seconds, level_seconds, seconds_of_text, IsOf, Stems, is_error, CharClasses, blocks_of, meaning_of, level_of, stays, turns_wrong, peek, node, at_token, rules, max_depth, start_of, whole, parsed, markup_reading, content_block, code_block, blocks_of_text, op_by, PlainBy, ordinary-whole, ordinary-production, ordinary-content, ordinary-code, inside_content, inside_code, node_by, StandingLaw, if_by, after-shape-known, token_by, len_by}
use Rattle.typst_edits.proofs.Positions.{CleanTree, clean-token, clean-made, clean-hand, Nowhere, Clean, Each, each-by, each-clean, each-move, each-append, each-hinted, each-less, each-plug}
use Rattle.typst_edits.proofs.Complete.{Any, any-left, any-right, any-map, chosen}
use Rattle.typst_edits.proofs.Gathering.{Parts, Given, AllHold, CallsHold, all-run, all-level}
use Rattle.typst_edits.proofs.Law.{Ends}
use Rattle.typst_edits.proofs.Seats.{Sits, Stood, then-sits, after-sits, last-sits, reshape-sits, each-reshaped, Goes, stood-flat, Lift, each-enclosed}
use Rattle.typst_edits.specs.Standing.Stems.{from_unit, from_second}
use Rattle.typst_edits.proofs.BlockPlaces.{hole-same}
use Rattle.typst_edits.proofs.Blocks.{enclosing, ends}
use Rattle.typst_language.specs.declared.calls.Block.TheVariants as block

-- Each node of a block's kind that an outcome gives is that of one of these spots, of the one kind or of the other, and none is known to come.
pub record Stand {A : Type 0} (o : Outcome A) (cs ds : List (Spot A)) : Type 0 where
  pub nodes : Each (Stood o cs ds) 0 (forest o.nodes)
  pub known : Clean (pending o.state.known)

stood-map : {A B : Type 0} (P : Spot A → Type 0) (Q : Spot B → Type 0) (f : Spot A → Spot B) → ((c : Spot A) → P c → Q (f c)) → (cs ds : List (Spot A)) → Any P cs ⊎ Any P ds → Any Q (map f cs) ⊎ Any Q (map f ds)
stood-map P Q f g cs ds (inl h) = inl (any-map P Q f g cs h)
stood-map P Q f g cs ds (inr h) = inr (any-map P Q f g ds h)

-- ---- one after the other

abbrev behind : {A B : Type 0} → Outcome B → Outcome A → ℕ
behind o p = length (hinted p.hints (less p.back o.nodes))

pub each-joined : {A B : Type 0} (P R Q : ℕ → List ℕ → Type 0) (o : Outcome B) (p : Outcome A) → ((i : ℕ) (q : List ℕ) → i < length o.nodes - p.back → P i q → Q i q) → ((i j : ℕ) (q : List ℕ) → j ≡ i + behind o p → R i q → Q j q)
    → Each P 0 (forest o.nodes) → Each R 0 (forest p.nodes) → Each Q 0 (forest (joined o p).nodes)
each-joined P R Q o p f g h k =
    let n = behind o p in
    each-append Q 0 n (hinted p.hints (less p.back o.nodes)) p.nodes (omega arith)
    (each-hinted Q 0 p.hints (less p.back o.nodes) (each-by _ Q 0 (forest (less p.back o.nodes)) (λ i q x. f i q x.0 x.1) (each-less P p.back o.nodes h)))
    (each-move R Q n 0 0 n (forest p.nodes) (omega arith) (λ i j q e x. g i j q (omega (arith, e)) x) k)

pub stood-then : {A B : Type 0} (o : Outcome B) (p : Outcome A) (cs ds : List (Spot B)) (es fs : List (Spot A)) (i : ℕ) (q : List ℕ) → i < length o.nodes - p.back → Stood o cs ds i q → Stood (joined o p) (joined_spots o cs p es) (joined_spots o ds p fs) i q
stood-then o p cs ds es fs i q l (inl h) = inl (any-left _ (map (λ c. then_spot c p) cs) (map (after_spot o) es) (any-map (Sits o i q) (Sits (joined o p) i q) (λ c. then_spot c p) (λ c s. then-sits o p i q c l s) cs h))
stood-then o p cs ds es fs i q l (inr h) = inr (any-left _ (map (λ c. then_spot c p) ds) (map (after_spot o) fs) (any-map (Sits o i q) (Sits (joined o p) i q) (λ c. then_spot c p) (λ c s. then-sits o p i q c l s) ds h))

pub stood-after : {A B : Type 0} (o : Outcome B) (p : Outcome A) (cs ds : List (Spot B)) (es fs : List (Spot A)) (i j : ℕ) (q : List ℕ) → j ≡ i + behind o p → Stood p es fs i q → Stood (joined o p) (joined_spots o cs p es) (joined_spots o ds p fs) j q
stood-after o p cs ds es fs i j q e (inl h) = inl (any-right _ (map (λ c. then_spot c p) cs) (map (after_spot o) es) (any-map (Sits p i q) (Sits (joined o p) j q) (after_spot o) (λ c s. after-sits o p i j q c e s) es h))
stood-after o p cs ds es fs i j q e (inr h) = inr (any-right _ (map (λ c. then_spot c p) ds) (map (after_spot o) fs) (any-map (Sits p i q) (Sits (joined o p) j q) (after_spot o) (λ c s. after-sits o p i j q c e s) fs h))

stand-joined : {A B : Type 0} (o : Outcome B) (p : Outcome A) (cs ds : List (Spot B)) (es fs : List (Spot A)) → Stand o cs ds → Stand p es fs → Stand (joined o p) (joined_spots o cs p es) (joined_spots o ds p fs)
stand-joined o p cs ds es fs h k = record {
  nodes = each-joined (Stood o cs ds) (Stood p es fs) _ o p (λ i q l x. stood-then o p cs ds es fs i q l x) (λ i j q e x. stood-after o p cs ds es fs i j q e x) h.nodes k.nodes;
  known = k.known;
}

stand-last : {A B : Type 0} (o : Outcome (B × A)) (cs ds : List (Spot (B × A))) → Stand o cs ds → Stand (answered o.value.1 o) (map last_spot cs) (map last_spot ds)
stand-last o cs ds h = record {
  nodes = each-by (Stood o cs ds) _ 0 (forest o.nodes) (λ i q x. stood-map (Sits o i q) (Sits (answered o.value.1 o) i q) last_spot (λ c s. last-sits o i q c s) cs ds x) h.nodes;
  known = h.known;
}

-- ---- what several nodes become

pub clean-shaped : (shape : Shape) (ts : List Tree) (s : Point) → Clean (pending s.known) → Clean (pending (after_shape shape ts s).known)
clean-shaped shape ts s h = subst (λ (x : Option Trivia). Clean (pending x)) (sym (after-shape-known shape ts s)) h

-- By a shape that each spot may say too, since its answer is that of the whole.
stand-nest : {A : Type 0} (f : A → Shape) (n : ℕ) (o : Outcome A) (cs ds : List (Spot A)) → shape_by is_ordinary (f o.value) ≡ true → Stand o cs ds
    → Stand (reshaped (f o.value) n o) (flat_map (λ c. reshaped_spot (f c.value) n c) cs) (flat_map (λ c. reshaped_spot (f c.value) n c) ds)
stand-nest f n o cs ds a h = record {
  nodes = each-reshaped n o _ cs ds (f o.value) a
      (λ i j q r g x. stood-flat (Sits o i q) (Sits (reshaped (f o.value) n o) j r) (λ c. reshaped_spot (f c.value) n c)
      (λ c s. subst (λ v. Any (Sits (reshaped (f o.value) n o) j r) (reshaped_spot (f v) n c)) (sym s.value) (reshape-sits (f o.value) n o i j q r c s (g c s))) cs ds x) h.nodes;
  known = clean-shaped (f o.value) (inside n o) o.state h.known;
}

pub wrap-sits : {A : Type 0} (f : A → Shape) (n : ℕ) (o : Outcome A) (i j : ℕ) (q r : List ℕ) → Goes (f o.value) n o i j q r → (c : Spot A) → Sits o i q c → Any (Sits (wrapped f n o) j r) (wrapped_spot f n c)
wrap-sits f n o i j q r g c s =
    let value : (c.value, map seen (drop (n + c.back) (plug c.hole c.node))) ≡ (o.value, map seen (drop (n + o.back) o.nodes)) =
    ap (λ v. (v, map seen (drop (n + c.back) (plug c.hole c.node)))) s.value ∙ ap (λ m. (o.value, map seen (drop (n + m) (plug c.hole c.node)))) s.back ∙ ap (λ ts. (o.value, map seen (drop (n + o.back) ts))) s.nodes in
    any-map (Sits (reshaped (f o.value) n o) j r) (Sits (wrapped f n o) j r) (valued _) (λ d t. record { first = t.first; path = t.path; value = value; back = t.back; hints = t.hints; nodes = t.nodes; head = t.head; passes = t.passes }) (reshaped_spot (f c.value) n c)
    (subst (λ v. Any (Sits (reshaped (f o.value) n o) j r) (reshaped_spot (f v) n c)) (sym s.value) (reshape-sits (f o.value) n o i j q r c s (g c s)))

stand-wrapped : {A : Type 0} (f : A → Shape) (n : ℕ) (o : Outcome A) (cs ds : List (Spot A)) → shape_by is_ordinary (f o.value) ≡ true → Stand o cs ds → Stand (wrapped f n o) (flat_map (wrapped_spot f n) cs) (flat_map (wrapped_spot f n) ds)
stand-wrapped f n o cs ds a h = record {
  nodes = each-reshaped n o _ cs ds (f o.value) a (λ i j q r g x. stood-flat (Sits o i q) (Sits (wrapped f n o) j r) (wrapped_spot f n) (λ c s. wrap-sits f n o i j q r g c s) cs ds x) h.nodes;
  known = clean-shaped (f o.value) (inside n o) o.state h.known;
}

stand-grown : {A : Type 0} (n : ℕ) (shape : Option Shape) (o : Outcome (Option Shape × A)) (cs ds : List (Spot (Option Shape × A))) → if_by is_ordinary shape ≡ true → Stand o cs ds
    → Stand (grown n shape (answered o.value.1 o)) (flat_map (λ c. grown_spot n shape (last_spot c)) cs) (flat_map (λ c. grown_spot n shape (last_spot c)) ds)
stand-grown n None o cs ds a h = record {
  nodes = each-by (Stood o cs ds) _ 0 (forest o.nodes) (λ i q x. stood-flat (Sits o i q) (Sits (answered o.value.1 o) i q) (λ c. last_spot c ∷ []) (λ c s. inl (last-sits o i q c s)) cs ds x) h.nodes;
  known = h.known;
}
stand-grown {A} n (Some shape) o cs ds a h =
    let p : Outcome A = answered o.value.1 o in
    record {
      nodes = each-reshaped n o _ cs ds shape a
          (λ i j q r g x. stood-flat (Sits o i q) (Sits (reshaped shape n p) j r) (λ c. reshaped_spot shape n (last_spot c)) (λ c s. reshape-sits shape n p i j q r (last_spot c) (last-sits o i q c s) (g c s)) cs ds x) h.nodes;
      known = clean-shaped shape (inside n o) o.state h.known;
    }

clean-grown : {A : Type 0} (n : ℕ) (shape : Option Shape) (o : Outcome A) → Clean (pending o.state.known) → Clean (pending (grown n shape o).state.known)
clean-grown n None o h = h
clean-grown n (Some shape) o h = clean-shaped shape (inside n o) o.state h

-- ---- a block

-- the last of the nodes that are given
abbrev pub Own : {A : Type 0} → Outcome A → ℕ → List ℕ → Type 0
Own o i q = (suc i ≡ length o.nodes) × (q ≡ [])

-- the same where the last node is a block's own
pub record Mostly {A : Type 0} (o : Outcome A) (cs ds : List (Spot A)) : Type 0 where
  pub nodes : Each (λ i q. Stood o cs ds i q ⊎ Own o i q) 0 (forest o.nodes)
  pub known : Clean (pending o.state.known)

closed-sits : (b : Block) (s : Point) (o : Outcome (Unit {0})) (i : ℕ) (q : List ℕ) (c : Spot (Unit {0})) → Sits o i q c → Sits (closed b s o) i q (closed_spot b s c)
closed-sits b s o i q c t = record { first = t.first; path = t.path; value = t.value; back = t.back; hints = t.hints; nodes = t.nodes; head = t.head; passes = t.passes }

stand-bounded : (b : Block) (m : Meaning (Unit {0})) (sp se : Spots (Unit {0})) (z : Place) (s : Point) → Ends b (m z (forgot s)) → Mostly (m z (forgot s)) (sp z (forgot s)) (se z (forgot s))
    → Stand (bounded b m z s) (bounded_spots b m sp z s) (map (closed_spot b s) (se z (forgot s)))
stand-bounded b m sp se z s e h = record { nodes = each-by _ _ 0 (forest o.nodes) step h.nodes; known = tt }
  where
    o : Outcome (Unit {0})
    o = m z (forgot s)

    step : (i : ℕ) (q : List ℕ) → Stood o (sp z (forgot s)) (se z (forgot s)) i q ⊎ Own o i q → Stood (bounded b m z s) (bounded_spots b m sp z s) (map (closed_spot b s) (se z (forgot s))) i q
    step i q (inl (inl x)) = inl (inr (any-map (Sits o i q) (Sits (closed b s o) i q) (closed_spot b s) (λ c t. closed-sits b s o i q c t) (sp z (forgot s)) x))
    step i q (inl (inr x)) = inr (any-map (Sits o i q) (Sits (closed b s o) i q) (closed_spot b s) (λ c t. closed-sits b s o i q c t) (se z (forgot s)) x)
    step i q (inr x) =
        inl (inl (record { first = length-less 1 o.nodes ∙ first x.0; path = sym x.1; value = refl; back = refl; hints = refl; nodes = sym e.nodes; head = e.head; passes = tt }))
      where
        first : suc i ≡ length o.nodes → length o.nodes - 1 ≡ i
        first n = omega (arith, n)

-- ---- whatever the language can say

stand-clean : {A : Type 0} (o : Outcome A) → Clean o.nodes → Clean (pending o.state.known) → Stand o [] []
stand-clean o h k = record { nodes = each-clean (Stood o [] []) 0 (forest o.nodes) h; known = k }

any-by : {A : Type 0} (P Q : Spot A → Type 0) → ((c : Spot A) → P c → Q c) → (cs : List (Spot A)) → Any P cs → Any Q cs
any-by P Q f [] h = elim h [ ]
any-by P Q f (c ∷ cs) (inl h) = inl (f c h)
any-by P Q f (c ∷ cs) (inr h) = inr (any-by P Q f cs h)

given-sits : {A : Type 0} (o p : Outcome A) (i : ℕ) (q : List ℕ) (c : Spot A) → Sits p i q c → Sits (given_up o p) i q c
given-sits o p i q c t = record { first = t.first; path = t.path; value = t.value; back = t.back; hints = t.hints; nodes = t.nodes; head = t.head; passes = t.passes }

-- In a reading that replaces one which was given up all blocks are of the other kind.
stand-given : {A : Type 0} (o p : Outcome A) (cs ds : List (Spot A)) → Stand p cs ds → Stand (given_up o p) [] (cs ++ ds)
stand-given o p cs ds h = record { nodes = each-by (Stood p cs ds) (Stood (given_up o p) [] (cs ++ ds)) 0 (forest p.nodes) step h.nodes; known = h.known }
  where
    step : (i : ℕ) (q : List ℕ) → Stood p cs ds i q → Stood (given_up o p) [] (cs ++ ds) i q
    step i q (inl x) = inr (any-left (Sits (given_up o p) i q) cs ds (any-by (Sits p i q) (Sits (given_up o p) i q) (λ c t. given-sits o p i q c t) cs x))
    step i q (inr x) = inr (any-right (Sits (given_up o p) i q) cs ds (any-by (Sits p i q) (Sits (given_up o p) i q) (λ c t. given-sits o p i q c t) ds x))

stand-scoped : {A : Type 0} (outer : Reading) (o : Outcome A) (cs ds : List (Spot A)) → Stand o cs ds → Stand (left_to outer o) (map (scoped_spot outer) cs) (map (scoped_spot outer) ds)
stand-scoped outer o cs ds h = record {
  nodes = each-by (Stood o cs ds) _ 0 (forest o.nodes) (λ i q x. stood-map (Sits o i q) (Sits (left_to outer o) i q) (scoped_spot outer) (λ c t. record { first = t.first; path = t.path; value = t.value; back = t.back; hints = t.hints; nodes = t.nodes; head = t.head; passes = t.passes }) cs ds x) h.nodes;
  known = on_both (λ (t : Point). Clean (pending t.known)) (same_mode o.state.reading.mode outer.mode) _ _ h.known tt;
}

stand-sunk : {A : Type 0} (o : Outcome A) (cs ds : List (Spot A)) → Stand o cs ds → Stand (deeper_by_one o) (map sunk_spot cs) (map sunk_spot ds)
stand-sunk o cs ds h = record {
  nodes = each-by (Stood o cs ds) _ 0 (forest o.nodes) (λ i q x. stood-map (Sits o i q) (Sits (deeper_by_one o) i q) sunk_spot (λ c t. record { first = t.first; path = t.path; value = t.value; back = t.back; hints = t.hints; nodes = t.nodes; head = t.head; passes = t.passes }) cs ds x) h.nodes;
  known = h.known;
}

module _ (l : Level) where
  stand-gave : (z : Place) (s : Point) (trims : Bool) (len : ℕ) (node : Tree) (asks : List _) → Clean (pending s.known) → CleanTree node → Stand (gave (hand_of l z s) trims len node asks s) [] []
  stand-gave z s trims len node asks k f = stand-clean (gave (hand_of l z s) trims len node asks s) (each-append Nowhere 0 (length (hand_of l z s).trivia) (hand_of l z s).trivia (node ∷ []) (omega arith) (clean-hand l z s k) (each-clean Nowhere (length (hand_of l z s).trivia) (forest (node ∷ [])) f)) tt

  pub stand-done : {A : Type 0} (o : Op A) → op_by is_ordinary o ≡ true → (z : Place) (s : Point) → Clean (pending s.known) → Stand (done l o z s) [] []
  stand-done hand e z s h = record { nodes = tt; known = clean-hand l z s h }
  stand-done (so way) e z s h = record { nodes = tt; known = clean-hand l z s h }
  stand-done further e z s h = record { nodes = tt; known = clean-hand l z s h }
  stand-done column e z s h = record { nodes = tt; known = clean-hand l z s h }
  stand-done erred e z s h = record { nodes = tt; known = h }
  stand-done (takes trims making) e z s h =
      let x = hand_of l z s in
      let taken = take x.len (moved x.gap z).ahead in
      stand-gave z s trims x.len (taken_node l.classes making x z) (hand_asks_of l z s) h (clean-made making (token_node l.classes x.token taken) e (clean-token l.classes x.token taken))
  stand-done (takes_so way making) e z s h =
      let w = moved (hand_of l z s).gap z in
      let r = reader_so l way in
      let taken = take (len_by r w) w.ahead in
      stand-gave z s false (len_by r w) (node_by l.classes making (token_by r w) (len_by r w) w) _ h
      (clean-made making (token_node l.classes (token_by r w) taken) e (clean-token l.classes (token_by r w) taken))
  stand-done flushes e z s h = stand-clean (done l flushes z s) (clean-hand l z s h) tt
  stand-done (complains message) e z s h = record { nodes = (λ u. absurd (cc), (tt, tt)); known = h }
  stand-done (advises hint) e z s h = record { nodes = tt; known = h }
  stand-done (marks mark) e z s h = record { nodes = tt; known = h }
  stand-done is_deepest e z s h = record { nodes = tt; known = h }

-- ---- each node of a block's kind in the tree of a text is that of a spot, or of a second reading

-- ---- a block's node around what stands in it

mostly-after : {A B : Type 0} (o : Outcome B) (p : Outcome A) (cs ds : List (Spot B)) (es fs : List (Spot A)) → Stand o cs ds → Mostly p es fs → Mostly (joined o p) (joined_spots o cs p es) (joined_spots o ds p fs)
mostly-after o p cs ds es fs h k = record { nodes = each-joined (Stood o cs ds) _ _ o p (λ i q l x. inl (stood-then o p cs ds es fs i q l x)) second h.nodes k.nodes; known = k.known }
  where
    second : (i j : ℕ) (q : List ℕ) → j ≡ i + length (hinted p.hints (less p.back o.nodes)) → Stood p es fs i q ⊎ Own p i q → Stood (joined o p) (joined_spots o cs p es) (joined_spots o ds p fs) j q ⊎ Own (joined o p) j q
    second i j q e (inl x) = inl (stood-after o p cs ds es fs i j q e x)
    second i j q e (inr x) =
        inr (omega (arith, length-append (hinted p.hints (less p.back o.nodes)) p.nodes, x.0, e), x.1)

mostly-plain : {A B : Type 0} (a : A) (o : Outcome B) (cs ds : List (Spot B)) → Mostly o cs ds → Mostly (joined o (plain a o.state)) (joined_spots o cs (plain a o.state) []) (joined_spots o ds (plain a o.state) [])
mostly-plain a o cs ds h = record { nodes = each-joined _ Nowhere _ o (plain a o.state) first (λ i j q e x. elim x [ ]) h.nodes tt; known = h.known }
  where
    first : (i : ℕ) (q : List ℕ) → i < length o.nodes - 0 → Stood o cs ds i q ⊎ Own o i q
        → Stood (joined o (plain a o.state)) (joined_spots o cs (plain a o.state) []) (joined_spots o ds (plain a o.state) []) i q ⊎ Own (joined o (plain a o.state)) i q
    first i q l (inl x) = inl (stood-then o (plain a o.state) cs ds [] [] i q l x)
    first i q l (inr x) = inr (x.0 ∙ sym (ap length (append-nil (less 0 o.nodes) ∙ less-none o.nodes)), x.1)

sound-block : (b : Block) → is_error (kind_of b) ≡ false
sound-block block.Code = refl
sound-block block.Content = refl

mostly-enclosed : (b : Block) (n : ℕ) (o : Outcome Bool) (cs ds : List (Spot Bool)) → Stand o cs ds → Mostly (wrapped (enclosing b) n o) (flat_map (wrapped_spot (enclosing b) n) cs) (flat_map (wrapped_spot (enclosing b) n) ds)
mostly-enclosed b n o cs ds h = record { nodes = by-end o.value (inr (own o.value, refl)) lift; known = clean-shaped (enclosing b o.value) (inside n o) o.state h.known }
  where
    Q : ℕ → List ℕ → Type 0
    Q i q = Stood (wrapped (enclosing b) n o) (flat_map (wrapped_spot (enclosing b) n) cs) (flat_map (wrapped_spot (enclosing b) n) ds) i q ⊎ Own (wrapped (enclosing b) n o) i q

    by-end : (closed : Bool) → Q (length (take (n + o.back) o.nodes)) [] → Lift n o Q cs ds (enclosing b closed) → Each Q 0 (forest (reshaped (enclosing b closed) n o).nodes)
    by-end true e f = each-enclosed n o Q cs ds stays (kind_of b) refl (sound-block b) e f h.nodes
    by-end false e f = each-enclosed n o Q cs ds (turns_wrong _) (kind_of b) refl (sound-block b) e f h.nodes

    own : (closed : Bool) → suc (length (take (n + o.back) o.nodes)) ≡ length (reshaped (enclosing b closed) n o).nodes
    own true = let l = length-append (take (n + o.back) o.nodes) (shaped (enclosing b true) (inside n o)) in omega (arith, l)
    own false = let l = length-append (take (n + o.back) o.nodes) (shaped (enclosing b false) (inside n o)) in omega (arith, l)

    lift : Lift n o Q cs ds (enclosing b o.value)
    lift i j q r g x = inl (stood-flat (Sits o i q) (Sits (wrapped (enclosing b) n o) j r) (wrapped_spot (enclosing b) n) (λ c s. wrap-sits (enclosing b) n o i j q r g c s) cs ds x)

-- ---- blocks, by what is read one level deeper

abbrev CleanAt : Place → Point → Type 0
CleanAt z s = Clean (pending s.known)

abbrev LeavesClean : (A : Type 0) → Place → Point → Outcome A → Type 0
LeavesClean A z s o = Clean (pending o.state.known)

abbrev StandFor : (A : Type 0) → ℕ → Place → Point → Outcome A → List (Spot A) → List (Spot A) → Type 0
StandFor A n z s o cs ds = Stand o cs ds

stand-parts : Parts CleanAt LeavesClean StandFor (Unit {0}) is_ordinary
stand-parts = record {
  at_entered = λ z s r a. a;
  at_end = λ A z s o g. g;
  gone_grew = λ A z s i o p g h. clean-grown i p.value.0 (answered p.value.1 (joined o p)) h;
  nothing = λ A n z s a m h. record { nodes = tt; known = h };
  both = λ A B n z s o p cs ds es fs g h k. stand-joined o p cs ds es fs h k;
  last_turn = λ A B n z s o cs ds h. stand-last o cs ds h;
  in_wrap = λ A n z s f i o cs ds e h. stand-wrapped f i o cs ds (e tt) h;
  in_growth = λ A n z s i shape o cs ds e h. stand-grown i shape o cs ds (e tt) h;
  in_nest = λ A n z s f i o cs ds e h. stand-nest f i o cs ds (e tt) h;
  in_scope = λ A n z s r o cs ds h. stand-scoped s.reading o cs ds h;
  instead = λ A n z s o p cs ds h. stand-given o p cs ds h;
  deeper = λ A n z s o cs ds h. stand-sunk o cs ds h;
}

module _ (k : CharClasses) (levels : ℕ) (d : CallsHold CleanAt LeavesClean StandFor (Unit {0}) is_ordinary (rules k) k levels) where
  abbrev inner : Level
  inner = blockless k levels (meaning_of (rules k) k levels)

  abbrev inner_firsts : {A : Type 0} → Parser A → Spots A
  inner_firsts p = spots inner (call_spots (rules k) k levels) (λ c y t. []) p

  abbrev inner_others : {A : Type 0} → Parser A → Spots A
  inner_others p = seconds inner (call_spots (rules k) k levels) (λ c y t. []) (call_seconds (rules k) k levels) (λ c y t. []) p

  stand-inner : {A : Type 0} (p : Parser A) → PlainBy is_ordinary p → AllHold CleanAt LeavesClean StandFor (Unit {0}) is_ordinary levels (run inner p) (inner_firsts p) (inner_others p)
  stand-inner p w =
      all-run CleanAt LeavesClean StandFor (Unit {0}) is_ordinary stand-parts inner (call_spots (rules k) k levels) (call_seconds (rules k) k levels) (λ c y t. []) (λ c y t. [])
      (record { reads = λ A q z s a h. h.known; step = λ A o e. stand-done inner o (e tt); held = λ b t. absurd (cc) }) d p (λ u. w)

  mostly-node : (b : Block) (p : Parser Bool) → PlainBy is_ordinary p → (z : Place) (s : Point) → Clean (pending s.known) → Mostly (run inner (node (enclosing b) p) z s) (inner_firsts (node (enclosing b) p) z s) (inner_others (node (enclosing b) p) z s)
  unfolding run node spots seconds
  mostly-node b p w z s h =
      let o = run inner peek z s in
      let v = moved o.taken z in
      let first = stand-done inner hand refl z s h in
      let q = run inner p v o.state in
      let n = before at_token o.state in
      mostly-after o _ [] [] _ _ first
      (mostly-plain q.value (wrapped (enclosing b) n q) _ _ (mostly-enclosed b n q (inner_firsts p v o.state) (inner_others p v o.state) (stand-inner p w v o.state first.known)))

  mostly-block : (b : Block) (z : Place) (s : Point) → Clean (pending s.known) → Mostly (blocks_of (rules k) k levels (meaning_of (rules k) k levels) b z s) (block_spots (rules k) k levels b z s) (block_seconds (rules k) k levels b z s)
  unfolding run spots seconds content_block code_block
  mostly-block block.Content z s h =
      let o = run inner peek z s in
      let v = moved o.taken z in
      let first = stand-done inner hand refl z s h in
      mostly-after o _ [] [] _ _ first (mostly-plain tt (run inner (node (enclosing block.Content) inside_content) v o.state) _ _ (mostly-node block.Content inside_content ordinary-content v o.state first.known))
  mostly-block block.Code z s h =
      let o = run inner peek z s in
      let v = moved o.taken z in
      let first = stand-done inner hand refl z s h in
      mostly-after o _ [] [] _ _ first (mostly-plain tt (run inner (node (enclosing block.Code) inside_code) v o.state) _ _ (mostly-node block.Code inside_code ordinary-code v o.state first.known))

  stand-given_by : Given CleanAt LeavesClean StandFor (Unit {0}) is_ordinary (level_of (rules k) k levels) (call_spots (rules k) k levels) (call_seconds (rules k) k levels) (block_spots (rules k) k levels) (block_seconds (rules k) k levels)
  stand-given_by = record {
    reads = λ A p z s a h. h.known;
    step = λ A o e. stand-done (level_of (rules k) k levels) o (e tt);
    held = λ b t z s a.
        (let o = done (level_of (rules k) k levels) flushes z s in
        let v = moved o.taken z in
        let m = blocks_of (rules k) k levels (meaning_of (rules k) k levels) b in
        stand-joined o (bounded b m v o.state) [] [] (bounded_spots b m (block_spots (rules k) k levels b) v o.state) (map (closed_spot b o.state) (block_seconds (rules k) k levels b v (forgot o.state)))
        (stand-done (level_of (rules k) k levels) flushes refl z s a) (stand-bounded b m (block_spots (rules k) k levels b) (block_seconds (rules k) k levels b) v o.state (ends k levels b t v (forgot o.state)) (mostly-block b v (forgot o.state) tt)));
  }

stand-whole : (k : CharClasses) (z : Place) (s : Point) → Clean (pending s.known) → Stand (run (level_of (rules k) k max_depth) whole z s) (level_spots (rules k) k max_depth whole z s) (level_seconds (rules k) k max_depth whole z s)
stand-whole k = all-level CleanAt LeavesClean StandFor (Unit {0}) is_ordinary stand-parts (rules k) k (λ c u. ordinary-production k c) (stand-given_by k) max_depth whole (λ u. ordinary-whole)

-- ---- of a text

pub standing-law : StandingLaw
unfolding blocks_of_text seconds_of_text
standing-law k text hole x e b = said (each-plug (Stood o cs ds) hole x b (subst (λ ts. Each (Stood o cs ds) 0 (forest ts)) e (stand-whole k z s tt).nodes))
  where
    z : Place
    z = start_of text

    s : Point
    s = start_point markup_reading

    o : Outcome (Unit {0})
    o = parsed k max_depth text

    cs : List (Spot (Unit {0}))
    cs = level_spots (rules k) k max_depth whole z s

    ds : List (Spot (Unit {0}))
    ds = level_seconds (rules k) k max_depth whole z s

    is-of : (c : Spot (Unit {0})) → Sits o (length hole.left) (path_in hole.deep) c → IsOf hole x c
    is-of c t =
        let path = ap (λ n. n ∷ path_in c.hole.deep) t.first ∙ ap (λ q. length hole.left ∷ q) t.path in
        let node = (hole-same c.hole hole c.node x path (t.nodes ∙ e)).1 in
        record { path = path; node = node; nodes = t.nodes ∙ e; head = sym (ap (λ (u : Tree). u.head) node) ∙ t.head }

    said : Stood o cs ds (length hole.left) (path_in hole.deep) → Stems k text hole x
    said (inl h) = let r = chosen (Sits o (length hole.left) (path_in hole.deep)) cs h in from_unit r.one r.among (is-of r.one r.holds)
    said (inr h) = let r = chosen (Sits o (length hole.left) (path_in hole.deep)) ds h in from_second r.one r.among (is-of r.one r.holds)

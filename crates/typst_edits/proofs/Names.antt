-- Each block of a reading is the one of its name, and its marks stand in the log.
use Rattle.typst_edits.proofs.Cited.{◌≡◌, ℕ, ◌+◌, ◌-◌, true, Option, Some, None, List, [], ◌++◌, map, arith, ◌∷◌, append_assoc, refl, ap, sym, ◌∙◌, is_ordinary, Place, moved, CharClasses, Block, Reading, Point, forgot, state_of, Shape, peek, Parser, ◌>>◌, flushes, does, Rules, meaning_of, level_of, blocks_of, Outcome, Meaning, Level, blockless, entered, done, run, grew, Hole, wrap_hole, Spot, block_head, valued, then_spot, after_spot, rehole, sunk_spot, closed_spot, here_spot, ended, Spots, joined_spots, last_spot, reshaped_spot, wrapped_spot, grown_spot, scoped_spot, call_spots, block_spots, level_spots, call_seconds, block_seconds, level_seconds, map-append, shift, shift_one, marked, Named}
use Rattle.typst_edits.proofs.Gathering.{Parts, Given, AllHold, CallsHold, all-run, all-level}
use Rattle.typst_edits.proofs.Every.{Every, every-any, every-append, every-map, every-flat}
use Rattle.typst_language.specs.declared.calls.Mark.TheVariants as mark

-- ---- a property of each block of a reading, word by word: it holds in the whole if it holds in each part

-- What says nothing of the nodes around a block holds in any shape.
pub in-any-shape : {A : Type 0} (Q : Spot A → Type 0) (shape : Shape) (n : ℕ) (c : Spot A) → ((s : Point) (g : Hole) → Q (rehole s c g)) → Every Q (reshaped_spot shape n c)
in-any-shape Q shape n c h = every-map (λ g. Unit {0}) Q (rehole _ c) (λ g u. h _ g) _ (every-any (wrap_hole shape (block_head c.name) (n + c.back) c.hole))

-- It depends on what is known where a reading begins, on what is known of all that it reads, and on what holds of each block in it where a given number of levels are left.
module _ (At : Place → Point → Type 0) (Gone : (A : Type 0) → Place → Point → Outcome A → Type 0) (P : (A : Type 0) → ℕ → Place → Point → Spot A → Type 0) where
  -- WHAT A WALK NEEDS: these stay when parts become a whole.
  pub record Walks : Type 1 where
    pub at_none : (z : Place) (s : Point) → At z (forgot s)
    pub at_entered : (z : Place) (s : Point) (r : Reading) → At z s → At z (entered r s)
    pub at_end : (A : Type 0) (z : Place) (s : Point) (o : Outcome A) → Gone A z s o → At (moved o.taken z) o.state
    pub gone_grew : (A : Type 0) (z : Place) (s : Point) (i : ℕ) (o : Outcome A) (p : Outcome (Option Shape × A)) → Gone A z s o → Gone (Option Shape × A) (moved o.taken z) o.state p → Gone A z s (grew i o p)
    pub after : (A B : Type 0) (n : ℕ) (z : Place) (s : Point) (o : Outcome B) (c : Spot A) → Gone B z s o → P A n (moved o.taken z) o.state c → P A n z s (after_spot o c)
    pub before_next : (A B : Type 0) (n : ℕ) (z : Place) (s : Point) (p : Outcome A) (c : Spot B) → P B n z s c → P A n z s (then_spot c p)
    pub with_value : (A B : Type 0) (n : ℕ) (z : Place) (s : Point) (v : B) (c : Spot A) → P A n z s c → P B n z s (valued v c)
    pub in_shape : (A : Type 0) (n : ℕ) (z : Place) (s : Point) (shape : Shape) (i : ℕ) (c : Spot A) → P A n z s c → Every (P A n z s) (reshaped_spot shape i c)
    pub in_scope : (A : Type 0) (n : ℕ) (z : Place) (s : Point) (r : Reading) (c : Spot A) → P A n z (entered r s) c → P A n z s (scoped_spot s.reading c)
    pub deeper : (A : Type 0) (n : ℕ) (z : Place) (s : Point) (c : Spot A) → P A (n - 1) z s c → P A n z s (sunk_spot c)
    pub in_block : (n : ℕ) (z : Place) (s : Point) (b : Block) (c : Spot (Unit {0})) → P (Unit {0}) n z (forgot s) c → P (Unit {0}) n z s (closed_spot b s c)

  -- of each block of a reading
  abbrev pub Holds : {A : Type 0} → ℕ → Spots A → Type 0
  Holds {A} n sp = (z : Place) (s : Point) → At z s → Every (P A n z s) (sp z s)

  -- ---- parts

  module _ (w : Walks) (n : ℕ) where
    each-joined : {A B : Type 0} (z : Place) (s : Point) (o : Outcome B) (cs : List (Spot B)) (p : Outcome A) (ds : List (Spot A)) → Gone B z s o → Every (P B n z s) cs → Every (P A n (moved o.taken z) o.state) ds → Every (P A n z s) (joined_spots o cs p ds)
    each-joined z s o cs p ds g h k = every-append _ _ _ (every-map _ _ (λ c. then_spot c p) (λ c i. w.before_next _ _ n z s p c i) cs h) (every-map _ _ (after_spot o) (λ c i. w.after _ _ n z s o c g i) ds k)

    each-last : {A B : Type 0} (z : Place) (s : Point) (cs : List (Spot (B × A))) → Every (P (B × A) n z s) cs → Every (P A n z s) (map last_spot cs)
    each-last z s cs h = every-map _ _ last_spot (λ c i. w.with_value _ _ n z s c.value.1 c i) cs h

    each-wrapped : {A : Type 0} (z : Place) (s : Point) (f : A → Shape) (i : ℕ) (c : Spot A) → P A n z s c → Every (P _ n z s) (wrapped_spot f i c)
    each-wrapped z s f i c h = every-map _ _ (valued _) (λ d k. w.with_value _ _ n z s _ d k) (reshaped_spot (f c.value) i c) (w.in_shape _ n z s (f c.value) i c h)

    each-grown : {A : Type 0} (z : Place) (s : Point) (i : ℕ) (shape : Option Shape) (c : Spot (Option Shape × A)) → P _ n z s c → Every (P A n z s) (grown_spot i shape (last_spot c))
    each-grown z s i None c h = (w.with_value _ _ n z s c.value.1 c h, tt)
    each-grown z s i (Some shape) c h = w.in_shape _ n z s shape i (last_spot c) (w.with_value _ _ n z s c.value.1 c h)

  -- all of them, those that count and those of second readings
  abbrev EachOf : (A : Type 0) → ℕ → Place → Point → Outcome A → List (Spot A) → List (Spot A) → Type 0
  EachOf A n z s o cs ds = Every (P A n z s) cs × Every (P A n z s) ds

  each-parts : Walks → Parts At Gone EachOf ⊥ is_ordinary
  each-parts w = record {
    at_entered = w.at_entered;
    at_end = w.at_end;
    gone_grew = w.gone_grew;
    nothing = λ A n z s a m k. (tt, tt);
    both = λ A B n z s o p cs ds es fs g h k. (each-joined w n z s o cs p es g h.0 k.0, each-joined w n z s o ds p fs g h.1 k.1);
    last_turn = λ A B n z s o cs ds h. (each-last w n z s cs h.0, each-last w n z s ds h.1);
    in_wrap = λ A n z s f i o cs ds e h. (every-flat _ _ (wrapped_spot f i) (λ c x. each-wrapped w n z s f i c x) cs h.0, every-flat _ _ (wrapped_spot f i) (λ c x. each-wrapped w n z s f i c x) ds h.1);
    in_growth = λ A n z s i shape o cs ds e h.
        (every-flat _ _ (λ c. grown_spot i shape (last_spot c)) (λ c x. each-grown w n z s i shape c x) cs h.0, every-flat _ _ (λ c. grown_spot i shape (last_spot c)) (λ c x. each-grown w n z s i shape c x) ds h.1);
    in_nest = λ A n z s f i o cs ds e h.
        (every-flat _ _ (λ c. reshaped_spot (f c.value) i c) (λ c x. w.in_shape _ n z s (f c.value) i c x) cs h.0, every-flat _ _ (λ c. reshaped_spot (f c.value) i c) (λ c x. w.in_shape _ n z s (f c.value) i c x) ds h.1);
    in_scope = λ A n z s r o cs ds h. (every-map _ _ (scoped_spot s.reading) (λ c x. w.in_scope _ n z s r c x) cs h.0, every-map _ _ (scoped_spot s.reading) (λ c x. w.in_scope _ n z s r c x) ds h.1);
    instead = λ A n z s o p cs ds h. (tt, every-append _ cs ds h.0 h.1);
    deeper = λ A n z s o cs ds h. (every-map _ _ sunk_spot (λ c x. w.deeper _ n z s c x) cs h.0, every-map _ _ sunk_spot (λ c x. w.deeper _ n z s c x) ds h.1);
  }

  -- ---- by any rules, at every level

  -- What a level gives to a walk: what is known of all that it reads, and each block itself, after the trivia at hand.
  pub record Steps (l : Level) : Type 1 where
    pub reads : (A : Type 0) (p : Parser A) (z : Place) (s : Point) → At z s → Gone A z s (run l p z s)
    pub here : (b : Block) → l.has b ≡ true → (z : Place) (s : Point) → At z s → (let o = done l flushes z s in P (Unit {0}) l.levels z s (after_spot o (here_spot b (l.blocks b) (moved o.taken z) o.state)))

  module _ (w : Walks) (r : Rules) (k : CharClasses) (by_level : (levels : ℕ) → Steps (level_of r k levels)) (by_block : (levels : ℕ) → Steps (blockless k levels (meaning_of r k levels))) where
    flushed : (levels : ℕ) (z : Place) (s : Point) → At z s → Gone (Unit {0}) z s (done (level_of r k levels) flushes z s)
    unfolding run
    flushed levels z s a = (by_level levels).reads _ (does flushes) z s a

    -- those in a block
    each-inside : (levels : ℕ) (b : Block) (cs : List (Spot (Unit {0}))) (z : Place) (s : Point) → At z s
        → (let o = done (level_of r k levels) flushes z s in Every (P (Unit {0}) levels (moved o.taken z) (forgot o.state)) cs → Every (P (Unit {0}) levels z s) (map (after_spot o) (map (closed_spot b o.state) cs)))
    each-inside levels b cs z s a h =
        let o = done (level_of r k levels) flushes z s in
        every-map _ _ (after_spot o) (λ c x. w.after _ _ levels z s o c (flushed levels z s a) x) (map (closed_spot b o.state) cs) (every-map _ _ (closed_spot b o.state) (λ c x. w.in_block levels (moved o.taken z) o.state b c x) cs h)

    each-given : (levels : ℕ) → CallsHold At Gone EachOf ⊥ is_ordinary r k levels → Given At Gone EachOf ⊥ is_ordinary (level_of r k levels) (call_spots r k levels) (call_seconds r k levels) (block_spots r k levels) (block_seconds r k levels)
    each-given levels called = record {
      reads = λ A p z s a h. (by_level levels).reads A p z s a;
      step = λ A o e z s a. (tt, tt);
      held = λ b t z s a.
          (let o = done (level_of r k levels) flushes z s in
          let v = moved o.taken z in
          let x = all-run At Gone EachOf ⊥ is_ordinary (each-parts w) (blockless k levels (meaning_of r k levels)) (call_spots r k levels) (call_seconds r k levels) (λ c y u. []) (λ c y u. [])
          (record { reads = λ A p y u c h. (by_block levels).reads A p y u c; step = λ A p e y u c. (tt, tt); held = λ c e. absurd (cc) }) called (peek >> r.block_production b) (λ e. absurd e) v (forgot o.state) (w.at_none v o.state) in
          (((by_level levels).here b t z s a, each-inside levels b (block_spots r k levels b v (forgot o.state)) z s a x.0), each-inside levels b (block_seconds r k levels b v (forgot o.state)) z s a x.1));
    }

    each-all : {A : Type 0} (levels : ℕ) (p : Parser A) → AllHold At Gone EachOf ⊥ is_ordinary levels (run (level_of r k levels) p) (level_spots r k levels p) (level_seconds r k levels p)
    each-all levels p = all-level At Gone EachOf ⊥ is_ordinary (each-parts w) r k (λ c e. absurd e) each-given levels p (λ e. absurd e)

    -- So it holds of each block that a parser reads,
    pub each-level : {A : Type 0} (levels : ℕ) (p : Parser A) → Holds levels (level_spots r k levels p)
    each-level levels p z s a = (each-all levels p z s a).0

    -- and of each that a second reading reads.
    pub each-second-level : {A : Type 0} (levels : ℕ) (p : Parser A) → Holds levels (level_seconds r k levels p)
    each-second-level levels p z s a = (each-all levels p z s a).1

module _ (meant : ℕ → Block → Meaning (Unit {0})) (levels : ℕ) where
  abbrev Name : {A : Type 0} → Spot A → Type 0
  Name c = Named meant levels c

  name-after : {A B : Type 0} (o : Outcome B) (c : Spot A) → Name c → Name (after_spot o c)
  name-after o c n = record {
    reads = n.reads;
    earlier = o.asks ++ shift o.taken n.earlier;
    opened = ap (λ u. o.asks ++ shift o.taken u) n.opened ∙ ap (λ u. o.asks ++ u) (map-append (shift_one o.taken) n.earlier _) ∙ sym (append_assoc o.asks (shift o.taken n.earlier) _);
    later = n.later;
    closed = n.closed;
  }

  name-closed : (b : Block) (s : Point) (c : Spot (Unit {0})) → Name c → Name (closed_spot b s c)
  name-closed b s c n = record {
    reads = n.reads;
    earlier = marked 0 0 0 (mark.Opens b) (state_of s) ∷ n.earlier;
    opened = ap (λ u. marked 0 0 0 (mark.Opens b) (state_of s) ∷ u) n.opened;
    later = n.later ++ marked c.rest 0 0 mark.Closes (state_of c.state) ∷ [];
    closed = ap (λ u. u ++ marked c.rest 0 0 mark.Closes (state_of c.state) ∷ []) n.closed;
  }

  name-here : (b : Block) (m : Meaning (Unit {0})) (z : Place) (s : Point) → m ≡ meant levels b → Name (here_spot b m z s)
  name-here b m z s e =
      let n : levels ≡ levels - 0 = omega arith in
      record { reads = ap (λ (q : Meaning (Unit {0})). λ y t. ended (q y t)) (e ∙ ap (λ j. meant j b) n); earlier = []; opened = refl; later = []; closed = refl }

-- one level deeper
name-sunk : {A : Type 0} (meant : ℕ → Block → Meaning (Unit {0})) (levels : ℕ) (c : Spot A) → Named meant (levels - 1) c → Named meant levels (sunk_spot c)
name-sunk meant levels c n = grind (arith, map-append)

-- Nothing has to be known where a reading begins, nor of what it reads.
abbrev Anywhere : Place → Point → Type 0
Anywhere z s = Unit {0}

abbrev Anything : (A : Type 0) → Place → Point → Outcome A → Type 0
Anything A z s o = Unit {0}

abbrev Names : (ℕ → Block → Meaning (Unit {0})) → (A : Type 0) → ℕ → Place → Point → Spot A → Type 0
Names meant A n z s c = Named meant n c

name-walks : (meant : ℕ → Block → Meaning (Unit {0})) → Walks Anywhere Anything (Names meant)
name-walks meant = record {
  at_none = λ z s. tt;
  at_entered = λ z s r a. tt;
  at_end = λ A z s o g. tt;
  gone_grew = λ A z s i o p g h. tt;
  after = λ A B n z s o c g h. name-after meant n o c h;
  before_next = λ A B n z s p c h. record { reads = h.reads; earlier = h.earlier; opened = h.opened; later = h.later ++ shift c.rest p.asks; closed = ap (λ u. u ++ shift c.rest p.asks) h.closed };
  with_value = λ A B n z s v c h. record { reads = h.reads; earlier = h.earlier; opened = h.opened; later = h.later; closed = h.closed };
  in_shape = λ A n z s shape i c h. in-any-shape (Named meant n) shape i c (λ t g. record { reads = h.reads; earlier = h.earlier; opened = h.opened; later = h.later; closed = h.closed });
  in_scope = λ A n z s r c h. record { reads = h.reads; earlier = h.earlier; opened = h.opened; later = h.later; closed = h.closed };
  deeper = λ A n z s c h. name-sunk meant n c h;
  in_block = λ n z s b c h. name-closed meant n b s c h;
}

-- ---- by any rules, at every level

module _ (r : Rules) (k : CharClasses) where
  abbrev pub block_at : ℕ → Block → Meaning (Unit {0})
  block_at levels b = blocks_of r k levels (meaning_of r k levels) b

  -- Each block of a parser's reading is the one of its name.
  pub named-level : {A : Type 0} (levels : ℕ) (p : Parser A) (z : Place) (s : Point) → Every (Named block_at levels) (level_spots r k levels p z s)
  named-level levels p z s =
      each-level Anywhere Anything (Names block_at) (name-walks block_at) r k
      (λ n. record {
        reads = λ A q y t u. tt;
        here = λ b h y t u.
            let o = done (level_of r k n) flushes y t in
            name-after block_at n o (here_spot b (block_at n b) (moved o.taken y) o.state) (name-here block_at n b (block_at n b) (moved o.taken y) o.state refl);
      })
      (λ n. record { reads = λ A q y t u. tt; here = λ b h. absurd (cc) }) levels p z s tt

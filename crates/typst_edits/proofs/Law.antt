-- The law of an edit inside a block, for every parser of the language.
use Rattle.typst_edits.proofs.Cited.{◌≡◌, ℕ, zero, suc, ◌+◌, Bool, true, false, if◌then◌else◌, List, [], ◌∷◌, ◌++◌, append_assoc, refl, ap, sym, ◌∙◌, arith, or-false, map-append, is_error, Tree, Place, moved, CharClasses, Block, shift, marked, Call, Answer, Point, state_of, forgot, peek, Parser, ◌>>◌, flushes, gives, does, next, pick, repeat, wraps, grows, nests, scoped, either, calls, block, Rules, blocks_of, meaning_of, level_of, Outcome, Meaning, Level, blockless, plain, less, followed, before, bounded, deeper_by_one, entered, left_to, done, run, left, closed, same_in-first, same_in-sunk, Sane, sane-run, sane-plain, sane-meaning, sane-block, Spot, around, Fits, block_head, lowered, after_spot, sunk_spot, closed_spot, ended, last_node, here_spot, Spots, scoped_spot, bounded_spots, spots, call_spots, block_spots, level_spots, left-empties, if-true, if-false, chosen, framed-done}
use Rattle.typst_language.specs.declared.calls.Mark.TheVariants as mark
use Rattle.typst_edits.proofs.Every.{Every, every-map, every-if}
use Rattle.typst_edits.proofs.Outcomes.{same-outcome, shift-zero, lowered-zero, sunk-lowered, sunk-shift}
use Rattle.typst_edits.proofs.Spots.{Edits, Lawful, lawful-after, Inside, lawful-same, lawful-by, joined-inside, value-same, inside-repeated, inside-wrapped, inside-nesting, edits-as, inside-growing}

-- ---- one level deeper

edits-sunk : {A : Type 0} (z w : Place) (c : Spot A) (x : Tree) → Edits z w (sunk_spot c) x → Edits z w c x
edits-sunk z w c x e = grind (arith, same_in-sunk)

sunk-around : {A : Type 0} (c : Spot A) (b : Outcome (Unit {0})) (x : Tree) → deeper_by_one (around c b x) ≡ around (sunk_spot c) b x
sunk-around c b x = same-outcome c.value _ _ c.state c.state _ _ _ _ _ _ _ _ _ _ refl refl refl refl refl (simp (map-append, sunk-shift, sunk-lowered)) refl

-- ---- a block

-- What a block gives ends in its node.
pub record Ends (b : Block) (o : Outcome (Unit {0})) : Type 0 where
  pub nodes : o.nodes ≡ less 1 o.nodes ++ last_node o.nodes ∷ []
  pub head : (last_node o.nodes).head ≡ block_head b
  pub empties : o.state.empties ≡ 0

no-error : (b : Block) → is_error (block_head b).kind ≡ false
no-error b = grind arith

here-around : (b : Block) (m : Meaning (Unit {0})) (z : Place) (s : Point) (d : Outcome (Unit {0})) (x : Tree) → Fits (here_spot b m z s) (ended d) x → closed b s d ≡ around (here_spot b m z s) (ended d) x
here-around b m z s d x f =
    let end = λ (n : ℕ) (t : Point). marked n 0 0 mark.Closes (state_of t) ∷ [] in
    let t : d.taken ≡ (0 + d.taken) + 0 = omega arith in
    let e : d.asks ++ end d.taken d.state ≡ shift 0 (lowered 0 d.asks) ++ end ((0 + d.taken) + 0) (m z (forgot s)).state =
    ap (λ u. u ++ end d.taken d.state) (sym (shift-zero (lowered 0 d.asks) ∙ lowered-zero d.asks))
    ∙ ap (λ n. shift 0 (lowered 0 d.asks) ++ end n d.state) t ∙ ap (λ (u : Point). shift 0 (lowered 0 d.asks) ++ end ((0 + d.taken) + 0) u) f.state in
    same-outcome tt _ _ _ _ _ _ _ _ _ _ _ _ _ _ (omega arith) f.state f.back f.hints f.nodes (ap (λ u. marked 0 0 0 (mark.Opens b) (state_of s) ∷ u) e) (sym (or-false d.met))

lawful-here : (b : Block) (m : Meaning (Unit {0})) (z w : Place) (s : Point) → Ends b (m z (forgot s)) → Lawful z w (closed b s (m z (forgot s))) (closed b s (m w (forgot s))) (here_spot b m z s)
lawful-here b m z w s e =
    let o = m z (forgot s) in
    let fits : Fits (here_spot b m z s) (ended o) (last_node o.nodes) = record { state = refl; back = refl; hints = refl; nodes = e.nodes; head = e.head } in
    record {
      old = here-around b m z s o (last_node o.nodes) fits;
      fits = fits;
      few = (let h = e.empties in omega arith);
      solid = no-error b;
      swaps = λ x d. here-around b m z s (m w (forgot s)) x d.fits;
    }

edits-closed : (b : Block) (s : Point) (z w : Place) (c : Spot (Unit {0})) (x : Tree) → Edits z w (closed_spot b s c) x → Edits z w c x
edits-closed b s z w c x e = grind (arith, same_in-first)

closed-around : (b : Block) (s : Point) (c : Spot (Unit {0})) (d : Outcome (Unit {0})) (x : Tree) → closed b s (around c d x) ≡ around (closed_spot b s c) d x
closed-around b s c d x = grind (arith, same-outcome, map-append, append_assoc)

inside-bounded : (b : Block) (m : Meaning (Unit {0})) (sp : Spots (Unit {0})) → ((z : Place) (s : Point) → Ends b (m z s)) → Inside m sp → Inside (bounded b m) (bounded_spots b m sp)
inside-bounded b m sp ends i z w s = (
  lawful-here b m z w s (ends z (forgot s)),
  every-map (Lawful z w (m z (forgot s)) (m w (forgot s))) _ (closed_spot b s)
      (λ c l. lawful-by (closed b s) z w _ _ c (closed_spot b s c) l (λ d x e. closed-around b s c d x) (λ y. refl) refl (record { state = l.fits.state; back = l.fits.back; hints = l.fits.hints; nodes = l.fits.nodes; head = l.fits.head }) l.few l.solid (edits-closed b s z w c)) (sp z (forgot s)) (i z w (forgot s)),
)

-- ---- the law

module _ (l : Level) (deep : (c : Call) → Spots (Answer c)) (in_block : Block → Spots (Unit {0})) where
  module _ (d : (c : Call) → Sane (l.deeper c)) (e : (b : Block) → Sane (l.blocks b)) (ends : (b : Block) → l.has b ≡ true → (z : Place) (s : Point) → Ends b (l.blocks b z s))
      (i : (c : Call) → Inside (l.deeper c) (deep c)) (j : (b : Block) → Inside (l.blocks b) (in_block b)) where
    sane : {A : Type 0} (p : Parser A) → Sane (run l p)
    sane p = sane-run l d e p

    pub inside-run : {A : Type 0} (p : Parser A) → Inside (run l p) (spots l deep in_block p)
    unfolding run spots
    inside-run (gives a) z w s = tt
    inside-run (does o) z w s = tt
    inside-run (next p f) z w s =
        let o = run l p z s in
        joined-inside z w o (run l p w s) (λ b. run l (f b)) (spots l deep in_block p z s) (spots l deep in_block (f o.value) (moved o.taken z) o.state) (λ b. (sane (f b)).framed) (λ b. (sane (f b)).backs)
        (λ h. (sane p).framed z w s h) (inside-run p z w s) (inside-run (f o.value) (moved o.taken z) (moved o.taken w) o.state)
    inside-run (pick true p q) z w s = inside-run p z w s
    inside-run (pick false p q) z w s = inside-run q z w s
    inside-run (repeat p x) z w s =
        inside-repeated (λ y. run l (p y)) (λ y. spots l deep in_block (p y)) (λ y. (sane (p y)).within) (λ y. (sane (p y)).framed) (λ y. (sane (p y)).backs) (λ y. inside-run (p y)) x z w s
    inside-run (wraps f begin p) z w s = inside-wrapped f (before begin) (run l p) (spots l deep in_block p) (inside-run p) z w s
    inside-run (grows begin p f) z w s =
        inside-growing (λ y. run l (f y)) (λ y. spots l deep in_block (f y)) (run l p) (spots l deep in_block p) (before begin) (λ y. (sane (f y)).within) (λ y. (sane (f y)).framed) (λ y. (sane (f y)).backs)
        (λ y. inside-run (f y)) (sane p).within (sane p).framed (inside-run p) z w s
    inside-run (nests f begin p x) z w s =
        inside-nesting f begin (λ y. run l (p y)) (λ y. spots l deep in_block (p y)) (λ y. (sane (p y)).within) (λ y. (sane (p y)).framed) (λ y. (sane (p y)).backs) (λ y. inside-run (p y)) x z w s
    inside-run (scoped f p) z w s =
        let t = entered (f s.reading) s in
        every-map (Lawful z w (run l p z t) (run l p w t)) _ (scoped_spot s.reading)
        (λ c l. lawful-by (left_to s.reading) z w _ _ c (scoped_spot s.reading c) l (λ b x e. refl) (λ y. refl) refl (record { state = l.fits.state; back = l.fits.back; hints = l.fits.hints; nodes = l.fits.nodes; head = l.fits.head }) (let f = l.few in omega (arith, f, left-empties s.reading c.state)) l.solid (λ x e. edits-as z w c.value (left s.reading c.state) c.hole c x e)) (spots l deep in_block p z t) (inside-run p z w t)
    inside-run (either p is_wrong q) z w s =
        let o = run l p z s in
        let n = run l p w s in
        every-if (Lawful z w (chosen is_wrong o (run l q z s)) (chosen is_wrong n (run l q w s))) (is_wrong o.value) [] _ (λ t. tt)
        (λ t. every-right z w o n (chosen is_wrong o (run l q z s)) (chosen is_wrong n (run l q w s)) is_wrong (spots l deep in_block p z s) (if-false (is_wrong o.value) _ _ t) (λ k. if-false (is_wrong n.value) _ _ (ap is_wrong k ∙ t)) (inside-run p z w s))
      where
        every-right : {B : Type 0} (z w : Place) (o n p q : Outcome B) (is_wrong : B → Bool) (cs : List (Spot B)) → p ≡ o → (n.value ≡ o.value → q ≡ n) → Every (Lawful z w o n) cs → Every (Lawful z w p q) cs
        every-right z w o n p q is_wrong [] a b h = tt
        every-right z w o n p q is_wrong (c ∷ cs) a b h = (lawful-same z w o p n q c a h.0 (λ x e. b (value-same z w o n c x h.0 e)), every-right z w o n p q is_wrong cs a b h.1)
    inside-run (calls c) z w s = every-map (Lawful z w (l.deeper c z s) (l.deeper c w s)) _ sunk_spot
        (λ c l. lawful-by deeper_by_one z w _ _ c (sunk_spot c) l (λ b x e. sunk-around c b x) (λ y. refl) refl (record { state = l.fits.state; back = l.fits.back; hints = l.fits.hints; nodes = l.fits.nodes; head = l.fits.head }) l.few l.solid (edits-sunk z w c)) (deep c z s) (i c z w s)
    inside-run (block b) z w s =
        let o = done l flushes z s in
        let n = done l flushes w s in
        let m = bounded b (l.blocks b) in
        every-if (Lawful z w (if l.has b then followed o (λ _. m) z else plain tt s) (if l.has b then followed n (λ _. m) w else plain tt s)) (l.has b) _ []
        (λ t. every-map (Lawful (moved o.taken z) (moved o.taken w) (m (moved o.taken z) o.state) (m (moved o.taken w) o.state)) _ (after_spot o)
        (λ c k. lawful-same z w (followed o (λ _. m) z) _ (followed n (λ _. m) w) _ (after_spot o c) (if-true (l.has b) _ _ t) (lawful-after z w o n (λ _. m) c (λ h. framed-done l flushes z w s h) k) (λ x h. if-true (l.has b) _ _ t))
        (bounded_spots b (l.blocks b) (in_block b) (moved o.taken z) o.state) (inside-bounded b (l.blocks b) (in_block b) (ends b t) (j b) (moved o.taken z) (moved o.taken w) o.state))
        (λ t. tt)

-- ---- by any rules, at every level

module _ (r : Rules) (k : CharClasses) (ends : (levels : ℕ) (b : Block) → r.has b ≡ true → (z : Place) (s : Point) → Ends b (blocks_of r k levels (meaning_of r k levels) b z s)) where
  inside-block : (levels : ℕ) → ((call : Call) → Inside (meaning_of r k levels call) (call_spots r k levels call)) → (b : Block) → Inside (blocks_of r k levels (meaning_of r k levels) b) (block_spots r k levels b)
  inside-block levels i b =
      inside-run (blockless k levels (meaning_of r k levels)) (call_spots r k levels) (λ c y t. []) (sane-meaning r k levels) (λ c. sane-plain tt) (λ c h. absurd (cc)) i (λ c z w s. tt) (peek >> r.block_production b)

  pub inside-meaning : (levels : ℕ) (call : Call) → Inside (meaning_of r k levels call) (call_spots r k levels call)
  unfolding meaning_of call_spots
  inside-meaning zero call z w s = tt
  inside-meaning (suc levels) call z w s =
      inside-run (level_of r k levels) (call_spots r k levels) (block_spots r k levels) (sane-meaning r k levels) (sane-block r k levels) (ends levels) (inside-meaning levels) (inside-block levels (inside-meaning levels)) (r.production call) z w s

  -- the law, for every parser at every level
  pub inside-level : {A : Type 0} (levels : ℕ) (p : Parser A) → Inside (run (level_of r k levels) p) (level_spots r k levels p)
  inside-level levels p =
      inside-run (level_of r k levels) (call_spots r k levels) (block_spots r k levels) (sane-meaning r k levels) (sane-block r k levels) (ends levels) (inside-meaning levels) (inside-block levels (inside-meaning levels)) p

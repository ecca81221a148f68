-- What an expression begins with: some nodes, of which none is an operator or has one.
use Rattle.typst_grammar.proofs.Cited.{◌≡◌, ℕ, ◌-◌, ◌<◌, Bool, true, false, ◌&&◌, ◌||◌, List, [], ◌∷◌, length, take, length-append, length-take, length-drop, refl, ap, sym, ◌⊎◌, inl, inr, subst, arith, Place, moved, Tree, Block, Call, Hand, AtHand, as_at_hand, Point, pending, Shape, shaped, itself, stays, is_not, keeps, holds, lacks, Backs, Parser, hand, takes, gives, does, next, pick, wraps, nests, scoped, either, block, Outcome, Level, plain, less, joined, reshaped, wrapped, nesting, entered, given_up, taken_node, hand_of, hand_asks_of, asked, run, on_both}
use Rattle.typst_grammar.proofs.EatsFirst.{EatsFirst, is_at_token}
use Rattle.typst_grammar.proofs.Fine.{All, all-append, all-take, all-drop, all-hinted}
use Rattle.typst_grammar.proofs.FineRuns.{Gives, gives-run, Still, still-hand}
use Rattle.typst_grammar.proofs.Heads.{Bare, bare-advised, is_quiet, Silent, silent-plain, silent-joined, standing-silent, standing-none}
use Rattle.typst_grammar.proofs.Leads.{At, Eaten, all-bare, looked-at, eaten-of, begins-at, nested, leads-nested, begins-run}
use Rattle.typst_grammar.proofs.Proper.{free, Proper}

-- ---- what is given

-- some nodes, of which none is an operator or has one
pub record AllBare {A : Type 0} (o : Outcome A) : Type 0 where
  pub all : All Bare o.nodes
  pub some : 0 < length o.nodes

-- whether nodes are bare depends on them alone
pub bare-same : {A B : Type 0} (o : Outcome A) (p : Outcome B) → p.nodes ≡ o.nodes → AllBare o → AllBare p
bare-same o p e h = let long = ap length e in let some = h.some in record { all = subst (All Bare) (sym e) h.all; some = omega (arith, long, some) }

all-less : (P : Tree → Type 0) (n : ℕ) (ts : List Tree) → All P ts → All P (less n ts)
unfolding less
all-less P n ts h = all-take P (length ts - n) ts h

-- such nodes after others
pub bare-more : {A B : Type 0} (o : Outcome B) (q : Outcome A) → All Bare o.nodes → All Bare q.nodes → 0 < length q.nodes → AllBare (joined o q)
bare-more o q h k some = grind (arith, length-append, all-append, all-hinted, bare-advised, all-less)

-- nothing is given, or such nodes
abbrev pub Unmet : {A : Type 0} → Outcome A → Type 0
Unmet o = Silent o ⊎ (All Bare o.nodes × (0 < length o.nodes))

bare-then : {A B : Type 0} (over : A → Type 0) (o : Outcome B) (q : Outcome A) → AllBare o → over q.value ⊎ Unmet q → over q.value ⊎ AllBare (joined o q)
bare-then over o q h g = grind (arith, bare-same, standing-silent, bare-more)

-- ---- shapes

-- it makes a node of a quiet kind
abbrev pub makes : Shape → Bool
makes (holds change k) = is_quiet k
makes (lacks count message k) = is_quiet k
makes _ = false

-- it keeps the nodes, or says that the first was not expected
abbrev pub keeps_bare : Shape → Bool
keeps_bare (keeps stays) = true
keeps_bare (keeps (is_not thing)) = true
keeps_bare _ = false

bare-makes : (shape : Shape) (ts : List Tree) → makes shape ≡ true → All Bare (shaped shape ts) × (0 < length (shaped shape ts))
bare-makes shape ts e = grind arith

bare-keeps : (shape : Shape) (ts : List Tree) → keeps_bare shape ≡ true → All Bare ts → All Bare (shaped shape ts) × (length (shaped shape ts) ≡ length ts)
bare-keeps shape ts e h = grind arith

bare-reshaped : {A : Type 0} (n : ℕ) (shape : Shape) (o : Outcome A) → All Bare (take n o.nodes) → o.back ≡ 0 → (makes shape ≡ true) ⊎ ((keeps_bare shape ≡ true) × AllBare o) → AllBare (reshaped shape n o)
bare-reshaped n shape o front none h = grind (arith, length-append, bare-makes, all-append, bare-keeps, all-drop, length-take, length-drop)

-- ---- parsers

abbrev looks : {A : Type 0} → Parser A → Bool
looks (does hand) = true
looks _ = false

-- it only looks at the token at hand
abbrev pub OnlyLooks : {A : Type 0} → Parser A → Type 0
OnlyLooks (gives x) = Unit {0}
OnlyLooks (does o) = looks (does o) ≡ true
OnlyLooks (next p f) = OnlyLooks p × ((b : _) → OnlyLooks (f b))
OnlyLooks _ = ⊥

-- it gives nothing or such nodes, unless this holds of its answer
abbrev pub Adds : {A : Type 0} → (A → Type 0) → Parser A → Type 0
Adds over p = (l : Level) (z : Place) (s : Point) → All Still (pending s.known) → over (run l p z s).value ⊎ Unmet (run l p z s)

-- what comes after such nodes leaves them: it only looks, or it adds nothing else. Or this holds of its answer
abbrev pub Follows : {A B : Type 0} → Bool → (A → Type 0) → Parser B → (B → Parser A) → Type 0
Follows blocks over p f = ((b : _) → Gives over (f b) ⊎ OnlyLooks (f b)) ⊎ ((blocks ≡ true) × (Proper free p × ((b : _) → Adds over (f b))))

-- all that is given becomes a node of a quiet kind, whatever is answered; or the nodes are such ones themselves where they are kept
abbrev pub Encloses : {A : Type 0} → (A → Shape) → Parser A → Type 0 → Type 0
Encloses f p such = ((x : _) → makes (f x) ≡ true) ⊎ (Gives (λ x. makes (f x) ≡ true) p ⊎ (((x : _) → (makes (f x) || keeps_bare (f x)) ≡ true) × such))

-- From this token on it gives such nodes, or this holds of its answer; where it gives the token itself, the first type says that this is such a node.
abbrev pub Bares : {A : Type 0} → Type 0 → AtHand → Bool → Bool → (A → Type 0) → Parser A → Type 0
Bares token a blocks looked over (does (takes false itself)) = token
Bares token a blocks looked over (next p f) = elim (looks p) as (λ _. Type 0) [ true ↦ (b : _) → Bares token a blocks true over (f b) | false ↦ Bares token a blocks looked (λ b. Gives over (f b)) p × Follows blocks over p f ]
Bares token a blocks looked over (pick b p q) = Bares token a blocks looked over p × Bares token a blocks looked over q
Bares token a blocks looked over (wraps f begin p) = ((looked && is_at_token begin) ≡ true) × (EatsFirst a blocks looked p × Encloses f p (Bares token a blocks looked (λ x. makes (f x) ≡ true) p))
Bares token a blocks looked over (nests f begin p x) = ((looked && is_at_token begin) ≡ true) × (EatsFirst a blocks looked (p x) × ((y : _) → makes (f y) ≡ true))
Bares token a blocks looked over (scoped f p) = Bares token a blocks looked over p
Bares token a blocks looked over (either p is_wrong q) = Bares token a blocks looked over p × Bares token a blocks looked over q
Bares token a blocks looked over (block b) = blocks ≡ true
Bares token a blocks looked over _ = ⊥

module _ (l : Level) where
  looks-silent : {A : Type 0} (p : Parser A) → OnlyLooks p → (z : Place) (s : Point) → Silent (run l p z s)
  unfolding run
  looks-silent (gives x) u z s = silent-plain x s
  looks-silent (does hand) u z s = record { nodes = refl; back = refl; hints = refl }
  looks-silent (does _) u z s = absurd (cc)
  looks-silent (next p f) u z s =
      let o = run l p z s in
      silent-joined o (run l (f o.value) (moved o.taken z) o.state) (looks-silent p u.0 z s) (looks-silent (f o.value) (u.1 o.value) (moved o.taken z) o.state)
  looks-silent _ u z s = absurd u

  by-shape : {A : Type 0} (m c : Bool) (o : Outcome A) → (m || c) ≡ true → (m ≡ true) ⊎ AllBare o → (m ≡ true) ⊎ ((c ≡ true) × AllBare o)
  by-shape m c o e b = grind arith

  module _ (d : (c : Call) → Backs (l.deeper c)) (e : (b : Block) → Backs (l.blocks b)) (blocks : Bool) (z : Place) (h : Hand) (token : Type 0) (t : token → Bare (taken_node l.classes itself h z)) (i : blocks ≡ true → (b : Block) (s : Point) → Eaten l z s (run l (block b) z s))
      (bares : blocks ≡ true → (b : Block) (s : Point) → All Still (pending s.known) → AllBare (run l (block b) z s)) (known : blocks ≡ true → (B : Type 0) (p : Parser B) → Proper free p → (s : Point) → All Still (pending s.known) → All Still (pending (run l p z s).state.known)) where
    abbrev K : Type 0
    K = Unit {0}

    abbrev BareOver : {A : Type 0} → (A → Type 0) → Outcome A → Type 0
    BareOver over o = over o.value ⊎ AllBare o

    after-bares : {A B : Type 0} (over : A → Type 0) (p : Parser B) (f : B → Parser A) → Follows blocks over p f → (s : Point) → All Still (pending s.known) → (let o = run l p z s in let q = run l (f o.value) (moved o.taken z) o.state in over q.value ⊎ Unmet q)
    after-bares over p f h s still = grind (arith, gives-run, looks-silent)

    then-bares : {A B : Type 0} (looked : Bool) (over : A → Type 0) (p : Parser B) (f : B → Parser A)
        → (Bares token (as_at_hand h) blocks looked (λ b. Gives over (f b)) p → (s : Point) → At l z h K looked s → BareOver (λ b. Gives over (f b)) (run l p z s))
        → ((b : B) → Bares token (as_at_hand h) blocks true over (f b) → (s : Point) → At l z h K true s → BareOver over (run l (f b) z s))
        → Bares token (as_at_hand h) blocks looked over (next p f) → (s : Point) → At l z h K looked s → BareOver over (run l (next p f) z s)
    unfolding run
    then-bares looked over (does hand) f first rest w s a =
        let x = as_at_hand (hand_of l z s) in
        let u = asked (hand_of l z s) s in
        let q = run l (f x) z u in
        elim (rest x (w x) u (looked-at l z h K looked s a)) [ inl v ↦ inl v | inr v ↦ inr (bare-same q (joined (record (plain x u) { asks = hand_asks_of l z s }) q) (standing-none q) v) ]
    then-bares looked over p f first rest w s a =
        let o = run l p z s in
        let q = run l (f o.value) (moved o.taken z) o.state in
        elim (first w.0 s a) [ inl g ↦ inl (gives-run l over (f o.value) g (moved o.taken z) o.state) | inr b ↦ bare-then over o q b (after-bares over p f w.1 s (a.still tt)) ]

    -- what becomes of such nodes, or of all
    over-shape : {A Y : Type 0} (f : A → Shape) (p : Parser A) (s : Point) → (Y → BareOver (λ x. makes (f x) ≡ true) (run l p z s)) → Encloses f p Y → (let o = run l p z s in (makes (f o.value) ≡ true) ⊎ ((keeps_bare (f o.value) ≡ true) × AllBare o))
    over-shape f p s inner h = grind (arith, gives-run, by-shape)

    pub bares-run : {A : Type 0} (looked : Bool) (over : A → Type 0) (p : Parser A) → Bares token (as_at_hand h) blocks looked over p → (s : Point) → At l z h K looked s → BareOver over (run l p z s)
    unfolding run nesting
    bares-run looked over (does (takes false itself)) w s a =
        let x = hand_of l z s in
        let node = taken_node l.classes itself x z in
        let b : Bare node = subst (λ (v : Hand). Bare (taken_node l.classes itself v z)) (sym a.same) (t w) in
        let long = length-append x.trivia (node ∷ []) in
        inr (record { all = all-append Bare x.trivia (node ∷ []) (all-bare x.trivia (still-hand l z s (a.still tt))) (b, tt); some = omega (arith, long) })
    bares-run looked over (next p f) w s a = then-bares looked over p f (bares-run looked (λ b. Gives over (f b)) p) (λ b. bares-run true over (f b)) w s a
    bares-run looked over (pick b p q) w s a = on_both (λ u. BareOver over u) b (run l p z s) (run l q z s) (bares-run looked over p w.0 s a) (bares-run looked over q w.1 s a)
    bares-run looked over (wraps f begin p) w s a =
        let o = run l p z s in
        let n = length h.trivia in
        let lead = eaten-of l z h K o (begins-run l z h K d e blocks i looked (λ _ _. ⊥) p w.1.0 s a) in
        let shape = over-shape f p s (λ g. bares-run looked (λ x. makes (f x) ≡ true) p g s a) w.1.1 in
        let r = bare-reshaped n (f o.value) o (lead.first tt) lead.none shape in
        inr (subst (λ (m : ℕ). AllBare (wrapped f m o)) (sym (begins-at l looked begin n s w.0 a.known)) (record { all = r.all; some = r.some }))
    bares-run looked over (nests f begin p x) w s a =
        grind (arith, length h.trivia, nested l f begin p x z s, leads-nested l z h K d e blocks i f begin p x s (eaten-of l z h K (run l (p x) z s) (begins-run l z h K d e blocks i looked (λ _ _. ⊥) (p x) w.1.0 s a)), begins-at, bare-reshaped)
    bares-run looked over (scoped f p) w s a =
        elim (bares-run looked over p w (entered (f s.reading) s) (record { same = a.same; known = a.known; still = a.still })) [ inl x ↦ inl x | inr x ↦ inr (record { all = x.all; some = x.some }) ]
    bares-run looked over (either p is_wrong q) w s a =
        on_both (λ u. BareOver over u) (is_wrong (run l p z s).value) (given_up (run l p z s) (run l q z s)) (run l p z s)
        (elim (bares-run looked over q w.1 s a) [ inl x ↦ inl x | inr x ↦ inr (record { all = x.all; some = x.some }) ]) (bares-run looked over p w.0 s a)
    bares-run looked over (block b) w s a = inr (bares w b s (a.still tt))
    bares-run looked over _ w s a = absurd w

  -- what gives such nodes from the token at hand on
  pub all-bare-run : {A : Type 0} (d : (c : Call) → Backs (l.deeper c)) (e : (b : Block) → Backs (l.blocks b)) (blocks : Bool) (z : Place) (s : Point) (token : Type 0) → (token → Bare (taken_node l.classes itself (hand_of l z s) z)) → (blocks ≡ true → (b : Block) (s : Point) → Eaten l z s (run l (block b) z s))
      → (blocks ≡ true → (b : Block) (s : Point) → All Still (pending s.known) → AllBare (run l (block b) z s)) → (blocks ≡ true → (B : Type 0) (p : Parser B) → Proper free p → (s : Point) → All Still (pending s.known) → All Still (pending (run l p z s).state.known))
      → (p : Parser A) → Bares token (as_at_hand (hand_of l z s)) blocks false (λ _. ⊥) p → All Still (pending s.known) → AllBare (run l p z s)
  all-bare-run d e blocks z s token t i bares known p w still =
      elim (bares-run d e blocks z (hand_of l z s) token t i bares known false (λ _. ⊥) p w s (record { same = refl; known = λ x. absurd (cc); still = λ _. still })) [ inl x ↦ absurd x | inr x ↦ x ]

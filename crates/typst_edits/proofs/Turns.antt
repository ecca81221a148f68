-- Each expression of markup begins by taking the token at hand, so everything after some pieces is the same, except for the trivia before it.
use Rattle.typst_edits.proofs.Cited.{◌≡◌, ℕ, ◌+◌, ◌-◌, ◌<◌, ◌≤◌, Bool, true, false, ◌||◌, if◌then◌else◌, nat_lt, List, [], ◌∷◌, ◌++◌, length, take, drop, map, length-append, append_assoc, Some, refl, ap, sym, ◌∙◌, subst, arith, ◌==◌, Option, drop-append_seam, take-append_seam, map-append, SyntaxKind, is_error, Place, moved, Tree, text_of, Look, Call, Reading, Ask, shift, shift_one, sunk, SameIn, looked, as_at_hand, len_at, hand_at, hand_asks, asks_column, column_look, AtHand, column_at, Trivia, Point, Making, hinted, Shape, shaped, after_shape, after_node, seen, peek, eat_making, eat, flush_trivia, node, unexpected, within, Parser, ◌>>=◌, ◌>>◌, at_token, column, takes, does, next, wraps, scoped, calls, gives, pick, repeat, Outcome, Meaning, Level, plain, less, standing, joined, followed, inside, wrapped, renewed, left, taken_node, run, answered, as_last, repeated, hand_of, hand_asks_of, asked, flushed_state, Tidy, Backs, Within, moved-sum, less-none, length-less, less-append, Block, MarkupExpr, Newlines, anywhere, too_deep, deeper, is_end, itself, surprise, of_kind, hand-takes, Sane, sane-run, same_in-first, ends, note_piece, markup_turn, markup_head, markup_by, markup_expr, minds, goes, left-empties, length-hinted, hinted-append, MarkupHead, if-true, if-false, judged, take-all, convert_and_eat, delimited, heading, item, term_item, reference, embedded, between_dollars, equation}
use Rattle.typst_edits.proofs.Fronts.{Full, full-append, full-less, full-hinted, full-shaped, few-node, few-shaped, full-taken}
use Rattle.typst_edits.proofs.Outcomes.{shift-zero, shift-twice, sunk-shift, hints-first}
use Rattle.typst_edits.proofs.Runs.{repeated-chain}
use Rattle.typst_edits.proofs.Known.{flushed-held}
use Rattle.typst_kinds.specs.declared.kind.SyntaxKind.TheVariants as kind
use Rattle.typst_grammar.specs.head.MarkupHead.TheVariants as head

-- ---- what begins by taking the token at hand gives the trivia before it, whatever errors stand before these, and asks nothing else of them

-- trivia that were passed
abbrev pub after_trivia : Trivia → Trivia
after_trivia t = record t { gap = 0 }

-- If the token at hand is read like this, it is the same after the newlines of the one and of the other.
pub record SameJudged (h : Reading) (t u : Trivia) : Type 0 where
  pub judge : (k : SyntaxKind) (column : ℕ) → judged h u.newlines k column ≡ judged h t.newlines k column
  pub column : asks_column h u.newlines ≡ asks_column h t.newlines

pub same-judged : (h : Reading) (t : Trivia) → SameJudged h t t
same-judged h t = record { judge = λ k column. refl; column = refl }

-- a point before some trivia
abbrev pub before_trivia : Reading → Reading → ℕ → Bool → Trivia → Point
before_trivia r h e a t = record { reading = r; held = h; empties = e; is_after_error = a; known = Some t }

-- ---- lists

pub none-less : {A : Type 0} (n : ℕ) → ◌≡◌ {A = List A} (less n []) []
unfolding less
none-less n = take-all (0 - n) [] (omega arith)

pub less-behind : (n : ℕ) (xs ys : List Tree) → n ≤ length ys → less n (xs ++ ys) ≡ xs ++ less n ys
less-behind n xs ys h = grind (arith, less-append, less-none)

pub drop-front : {A : Type 0} (xs ys : List A) (n : ℕ) → n ≡ length xs → drop n (xs ++ ys) ≡ ys
drop-front xs ys n e = ap (λ j. drop j (xs ++ ys)) e ∙ drop-append_seam xs ys

pub take-front : {A : Type 0} (xs ys : List A) (n : ℕ) → n ≡ length xs → take n (xs ++ ys) ≡ xs
take-front xs ys n e = ap (λ j. take j (xs ++ ys)) e ∙ take-append_seam xs ys

pub none-of : (b c : Bool) (hs js : List (List ℕ)) → hs ≡ [] → js ≡ [] → (if b then hs else (if c then js else hs ++ js)) ≡ []
none-of b c hs js e f = grind arith

-- ---- one outcome after the trivia, and one that has them before it

-- One gives the trivia, and one has others there.
pub record Fronted {A : Type 0} (t : Trivia) (us : List Tree) (o c : Outcome A) : Type 0 where
  pub value : o.value ≡ c.value
  pub taken : o.taken ≡ t.gap + c.taken
  pub back : o.back ≡ c.back
  pub hints : o.hints ≡ []
  pub hints_too : c.hints ≡ []
  pub rest : List Tree
  pub nodes : o.nodes ≡ t.nodes ++ rest
  pub nodes_too : c.nodes ≡ us ++ rest
  pub asks : o.asks ≡ shift t.gap c.asks
  pub met : o.met ≡ c.met

-- One goes on after it; `back` says that no error is taken back, except where that is said of the token.
pub record Led {A : Type 0} (t : Trivia) (us : List Tree) (trims : Bool) (o c : Outcome A) : Type 0 where
  pub front : Fronted t us o c
  pub some : 0 < c.taken
  pub state : o.state ≡ c.state
  pub none : trims ≡ false → c.back ≡ 0
  pub full : Full front.rest
  pub few : c.state.empties < length front.rest

pub standing-led : {A B : Type 0} (xs rest : List Tree) (o : Outcome B) (q : Outcome A) → o.nodes ≡ xs ++ rest → q.back < length rest → standing q o.nodes ≡ xs ++ (hinted q.hints (less q.back rest) ++ q.nodes)
standing-led xs rest o q e h = grind (arith, length-less, less-behind, hinted-append, append_assoc)

-- After it everything is the same.
pub led-joined : {A B : Type 0} (t : Trivia) (us : List Tree) (trims : Bool) (o c : Outcome B) (q : Outcome A) → Led t us trims o c → Tidy c.state q → Led t us trims (joined o q) (joined c q)
led-joined t us trims o c q h tidy =
    let short : q.back < length h.front.rest = omega (arith, h.few, tidy.back) in
    let one = length-append t.nodes h.front.rest in
    let two = length-append us h.front.rest in
    let long : length o.nodes ≡ length (t.nodes ++ h.front.rest) = ap length h.front.nodes in
    let long_too : length c.nodes ≡ length (us ++ h.front.rest) = ap length h.front.nodes_too in
    record {
      front = record {
        value = refl;
        taken = omega (arith, h.front.taken);
        back = omega (arith, h.front.back, short, one, two, long, long_too);
        hints = hints-first o q (omega (arith, short, one, long)) ∙ h.front.hints;
        hints_too = hints-first c q (omega (arith, short, two, long_too)) ∙ h.front.hints_too;
        rest = hinted q.hints (less q.back h.front.rest) ++ q.nodes;
        nodes = standing-led t.nodes h.front.rest o q h.front.nodes short;
        nodes_too = standing-led us h.front.rest c q h.front.nodes_too short;
        asks = simp (h.front.asks, h.front.taken, map-append, shift-twice);
        met = ap (λ b. b || q.met) h.front.met;
      };
      some = omega (arith, h.some);
      state = refl;
      none = λ f. (let none = h.none f in omega (arith, none, short, two, long_too));
      full = full-append (hinted q.hints (less q.back h.front.rest)) q.nodes (full-hinted q.hints (less q.back h.front.rest) (full-less q.back h.front.rest short h.full));
      few = omega (arith, h.few, tidy.back, tidy.left, length-append (hinted q.hints (less q.back h.front.rest)) q.nodes, length-less q.back h.front.rest, length-hinted q.hints (less q.back h.front.rest));
    }

pub led-then : {A B : Type 0} (t : Trivia) (us : List Tree) (trims : Bool) (z : Place) (o c : Outcome B) (f : B → Meaning A) → ((b : B) → Backs (f b)) → Led t us trims o c → Led t us trims (followed o f z) (followed c f (moved t.gap z))
led-then t us trims z o c f tidy h =
    let w = moved t.gap z in
    let there : moved o.taken z ≡ moved c.taken w = ap (λ n. moved n z) h.front.taken ∙ moved-sum t.gap c.taken z in
    let same : f o.value (moved o.taken z) o.state ≡ f c.value (moved c.taken w) c.state = (λ v. f (h.front.value v) (there v) (h.state v)) in
    subst (λ q. Led t us trims (joined o q) (joined c (f c.value (moved c.taken w) c.state))) (sym same) (led-joined t us trims o c _ h (tidy c.value (moved c.taken w) c.state))

-- after a question
pub fronted-asked : {A B : Type 0} (t : Trivia) (us : List Tree) (v : B) (s r : Point) (ls ks : List Ask) (m : Bool) (o c : Outcome A) → ls ≡ shift t.gap ks → Fronted t us o c
    → Fronted t us (joined (record (plain v s) { asks = ls; met = m }) o) (joined (record (plain v r) { asks = ks; met = m }) c)
fronted-asked t us v s r ls ks m o c e h =
    record {
      value = h.value;
      taken = omega (arith, h.taken);
      back = omega (arith, h.back);
      hints = none-of (nat_lt o.back 0) (nat_lt 0 o.back) [] o.hints refl h.hints;
      hints_too = none-of (nat_lt c.back 0) (nat_lt 0 c.back) [] c.hints refl h.hints_too;
      rest = h.rest;
      nodes = ap (λ hs. hinted hs (less o.back []) ++ o.nodes) h.hints ∙ ap (λ ts. ts ++ o.nodes) (none-less o.back) ∙ h.nodes;
      nodes_too = ap (λ hs. hinted hs (less c.back []) ++ c.nodes) h.hints_too ∙ ap (λ ts. ts ++ c.nodes) (none-less c.back) ∙ h.nodes_too;
      asks = ap (λ js. js ++ shift 0 o.asks) e ∙ ap (λ js. shift t.gap ks ++ js) (shift-zero o.asks ∙ h.asks ∙ ap (shift t.gap) (sym (shift-zero c.asks))) ∙ sym (map-append (shift_one t.gap) ks (shift 0 c.asks));
      met = ap (λ b. m || b) h.met;
    }

pub led-asked : {A B : Type 0} (t : Trivia) (us : List Tree) (trims : Bool) (v : B) (s r : Point) (ls ks : List Ask) (m : Bool) (o c : Outcome A) → ls ≡ shift t.gap ks → Led t us trims o c
    → Led t us trims (joined (record (plain v s) { asks = ls; met = m }) o) (joined (record (plain v r) { asks = ks; met = m }) c)
unfolding fronted-asked
led-asked t us trims v s r ls ks m o c e h =
    record {
      front = fronted-asked t us v s r ls ks m o c e h.front;
      some = omega (arith, h.some);
      state = h.state;
      none = λ f. (let none = h.none f in omega (arith, none));
      full = h.full;
      few = h.few;
    }

-- with other answers, states and looks
pub led-like : {A B : Type 0} (t : Trivia) (us : List Tree) (trims : Bool) (o c : Outcome B) (v w : A) (p q : Point) (ls ks : List Ask) (h : Led t us trims o c) → v ≡ w → p ≡ q → q.empties < length h.front.rest → ls ≡ shift t.gap ks
    → Led t us trims (record (answered v o) { state = p; asks = ls }) (record (answered w c) { state = q; asks = ks })
led-like t us trims o c v w p q ls ks h e f few a = record {
  front = (let g = h.front in record { value = e; taken = g.taken; back = g.back; hints = g.hints; hints_too = g.hints_too; rest = g.rest; nodes = g.nodes; nodes_too = g.nodes_too; asks = a; met = g.met });
  some = h.some;
  state = f;
  none = h.none;
  full = h.full;
  few = few;
}

-- ---- nodes

pub led-wrapped : {A : Type 0} (t : Trivia) (us : List Tree) (f : A → Shape) (n m : ℕ) (o c : Outcome A) → n ≡ length t.nodes → m ≡ length us → Led t us false o c → Led t us false (wrapped f n o) (wrapped f m c)
led-wrapped t us f n m o c e d h =
    let none = h.none refl in
    let i : n + o.back ≡ length t.nodes = omega (arith, none, h.front.back, e) in
    let j : m + c.back ≡ length us = omega (arith, none, d) in
    let in_o : inside n o ≡ h.front.rest = ap (drop (n + o.back)) h.front.nodes ∙ drop-front t.nodes h.front.rest (n + o.back) i in
    let in_c : inside m c ≡ h.front.rest = ap (drop (m + c.back)) h.front.nodes_too ∙ drop-front us h.front.rest (m + c.back) j in
    record {
      front = record {
        value = ap (λ v. (v, map seen (inside n o))) h.front.value ∙ ap (λ ts. (c.value, map seen ts)) (in_o ∙ sym in_c);
        taken = h.front.taken;
        back = h.front.back;
        hints = h.front.hints;
        hints_too = h.front.hints_too;
        rest = shaped (f c.value) h.front.rest;
        nodes = ap (λ ts. take (n + o.back) o.nodes ++ shaped (f o.value) ts) in_o ∙ ap (λ v. take (n + o.back) o.nodes ++ shaped (f v) h.front.rest) h.front.value
            ∙ ap (λ ts. ts ++ shaped (f c.value) h.front.rest) (ap (take (n + o.back)) h.front.nodes ∙ take-front t.nodes h.front.rest (n + o.back) i);
        nodes_too = ap (λ ts. take (m + c.back) c.nodes ++ shaped (f c.value) ts) in_c
            ∙ ap (λ ts. ts ++ shaped (f c.value) h.front.rest) (ap (take (m + c.back)) h.front.nodes_too ∙ take-front us h.front.rest (m + c.back) j);
        asks = h.front.asks;
        met = h.front.met;
      };
      some = h.some;
      state = ap (λ v. after_shape (f v) (inside n o) o.state) h.front.value ∙ ap (λ ts. after_shape (f c.value) ts o.state) (in_o ∙ sym in_c) ∙ ap (after_shape (f c.value) (inside m c)) h.state;
      none = h.none;
      full = full-shaped (f c.value) h.front.rest h.full;
      few = subst (λ ts. (after_shape (f c.value) ts c.state).empties < length (shaped (f c.value) h.front.rest)) (sym in_c) (few-shaped (f c.value) h.front.rest c.state h.full h.few);
    }

-- ---- words

-- What is read before trivia gives them, and otherwise does as after them, whatever errors stand before them; where `trims` says so only the errors' number matters.
abbrev pub Takes : {A : Type 0} → Reading → Place → Trivia → Trivia → Bool → Meaning A → Type 0
Takes h z t u trims m = (r : Reading) (e d : ℕ) (a b : Bool) → (trims ≡ true → e ≡ d) → Led t u.nodes trims (m z (before_trivia r h e a t)) (m (moved t.gap z) (before_trivia r h d b (after_trivia u)))

pub same-renewed : (b : Bool) (text : List ℕ) (r h : Reading) (e d : ℕ) (i j : Bool) (t u : Trivia) → renewed (after_node b text (before_trivia r h e i t)) ≡ renewed (after_node b text (before_trivia r h d j u))
same-renewed b text r h e d i j t u = grind arith

same-back : (trims : Bool) (e d : ℕ) → (trims ≡ true → e ≡ d) → (if trims then e else 0) ≡ (if trims then d else 0)
same-back trims e d h = grind arith

pub no-back : (trims : Bool) (d : ℕ) → trims ≡ false → (if trims then d else 0) ≡ 0
no-back trims d h = grind arith

two-asks : (b d : Bool) (g : ℕ) (x y : Look) → d ≡ b → (looked g x ∷ []) ++ (if b then looked g y ∷ [] else []) ≡ shift g ((looked 0 x ∷ []) ++ (if d then looked 0 y ∷ [] else []))
two-asks b d g x y same = grind arith

module _ (l : Level) (h : Reading) (z : Place) (t u : Trivia) (alike : SameJudged h t u) where
  -- The looks at the token are the same.
  pub asks-behind : hand_asks l.classes h (Some t) z ≡ shift t.gap (hand_asks l.classes h (Some (after_trivia u)) (moved t.gap z))
  unfolding hand_asks
  asks-behind = two-asks (asks_column h t.newlines) (asks_column h u.newlines) t.gap _ (column_look (moved t.gap z)) alike.column

  pub kind-behind : (hand_at l.classes h (Some (after_trivia u)) (moved t.gap z)).kind ≡ (hand_at l.classes h (Some t) z).kind
  unfolding hand_at
  kind-behind = alike.judge _ (column_at (moved t.gap z))

  module _ (some : 0 < len_at l.classes h.mode (moved t.gap z)) where
    pub takes-token : (trims : Bool) (making : Making) → Takes h z t u trims (run l (does (takes trims making)))
    unfolding run hand_at
    takes-token trims making r e d a b same =
        let x = hand_at l.classes h (Some t) z in
        let tree = taken_node l.classes making x z in
        let room : len_at l.classes h.mode (moved t.gap z) ≤ length (moved t.gap z).ahead = omega arith in
        let full = full-taken l.classes making x z some room in
        record {
          front = record {
            value = refl;
            taken = omega arith;
            back = same-back trims e d same;
            hints = refl;
            hints_too = refl;
            rest = tree ∷ [];
            nodes = refl;
            nodes_too = refl;
            asks = asks-behind;
            met = refl;
          };
          some = omega (arith, some);
          state = same-renewed (is_error tree.head.kind) (text_of tree) r h e d a b t (after_trivia u);
          none = no-back trims d;
          full = full;
          few = few-node (is_error tree.head.kind) (text_of tree) (before_trivia r h d b (after_trivia u)) 1 full (omega arith);
        }

  pub takes-next : {A B : Type 0} (trims : Bool) (p : Parser B) (f : B → Parser A) → ((b : B) → Backs (run l (f b))) → Takes h z t u trims (run l p) → Takes h z t u trims (run l (next p f))
  unfolding run
  takes-next trims p f tidy k r e d a b same = led-then t u.nodes trims z _ _ (λ v. run l (f v)) tidy (k r e d a b same)

  -- Of the token at hand only its kind is passed on.
  pub takes-peek : {A : Type 0} (trims : Bool) (f : SyntaxKind → Parser A) → Takes h z t u trims (run l (f (hand_at l.classes h (Some t) z).kind)) → Takes h z t u trims (run l (next peek (λ x. f x.kind)))
  unfolding run hand_at
  takes-peek trims f k r e d a b same =
      let w = moved t.gap z in
      let v = after_trivia u in
      let x = as_at_hand (hand_at l.classes h (Some v) w) in
      subst (λ y. Led t u.nodes trims (run l (next peek (λ x. f x.kind)) z (before_trivia r h e a t)) (joined (record (plain x (before_trivia r h d b v)) { asks = hand_asks l.classes h (Some v) w }) (run l (f y) w (before_trivia r h d b v)))) (sym kind-behind)
      (led-asked t u.nodes trims x (before_trivia r h e a t) (before_trivia r h d b v) _ _ false _ _ asks-behind (k r e d a b same))

  pub takes-column : {A : Type 0} (trims : Bool) (f : ℕ → Parser A) → ((n : ℕ) → Takes h z t u trims (run l (f n))) → Takes h z t u trims (run l (next (does column) f))
  unfolding run hand_at
  takes-column trims f k r e d a b same =
      let w = moved t.gap z in
      let v = after_trivia u in
      let zero_more : t.gap ≡ t.gap + 0 = omega arith in
      led-asked t u.nodes trims (column_at w) (before_trivia r h e a t) (before_trivia r h d b v) _ _ false _ _
      (ap (λ ls. ls ++ looked t.gap (column_look w) ∷ []) asks-behind ∙ ap (λ n. shift t.gap (hand_asks l.classes h (Some v) w) ++ looked n (column_look w) ∷ []) zero_more ∙ sym (map-append (shift_one t.gap) (hand_asks l.classes h (Some v) w) (looked 0 (column_look w) ∷ [])))
      (k (column_at w) r e d a b same)

  pub takes-scoped : {A : Type 0} (trims : Bool) (f : Reading → Reading) (p : Parser A) → Takes h z t u trims (run l p) → Takes h z t u trims (run l (scoped f p))
  unfolding run
  takes-scoped trims f p k r e d a b same =
      let i = k (f r) e d a b same in
      let o = run l p z (before_trivia (f r) h e a t) in
      let c = run l p (moved t.gap z) (before_trivia (f r) h d b (after_trivia u)) in
      led-like t u.nodes trims o c o.value c.value (left r o.state) (left r c.state) o.asks c.asks i i.front.value (ap (left r) i.state) (omega (arith, left-empties r c.state, i.few)) i.front.asks

  pub takes-wraps : {A : Type 0} (f : A → Shape) (p : Parser A) → Takes h z t u false (run l p) → Takes h z t u false (run l (wraps f at_token p))
  unfolding run
  takes-wraps f p k r e d a b same = led-wrapped t u.nodes f (length t.nodes) (length u.nodes) _ _ refl refl (k r e d a b same)

  pub takes-calls : (trims : Bool) (c : Call) → Takes h z t u trims (l.deeper c) → Takes h z t u trims (run l (calls c))
  unfolding run
  takes-calls trims call k r e d a b same =
      let i = k r e d a b same in
      let o = l.deeper call z (before_trivia r h e a t) in
      let c = l.deeper call (moved t.gap z) (before_trivia r h d b (after_trivia u)) in
      led-like t u.nodes trims o c o.value c.value o.state c.state (sunk o.asks) (sunk c.asks) i i.front.value i.state i.few (ap sunk i.front.asks ∙ sunk-shift t.gap c.asks)

-- a turn after its expression, and all of it by the kind of the token at hand
abbrev pub turn_tail : ℕ → Parser (Bool × (Bool × ℕ))
turn_tail nesting = do
  after ← peek
  noted ← note_piece true after.newlines.any nesting
  gives (true, (after.newlines.any, nesting))

abbrev pub turn_at : (SyntaxKind → Bool) → Bool × ℕ → SyntaxKind → Parser (Bool × (Bool × ℕ))
turn_at stops x k = pick (ends stops x.1 k) (gives (false, x)) (deeper (MarkupExpr x.0 x.1) x.1 >>= turn_tail)

module _ (l : Level) (sd : (c : Call) → Sane (l.deeper c)) (sb : (b : Block) → Sane (l.blocks b)) (h : Reading) (z : Place) (t u : Trivia) (alike : SameJudged h t u) where
  backs : {A : Type 0} (p : Parser A) → Backs (run l p)
  backs p = (sane-run l sd sb p).backs

  -- whatever comes after it
  goes-on : {A B : Type 0} (trims : Bool) (p : Parser B) (f : B → Parser A) → Takes h z t u trims (run l p) → Takes h z t u trims (run l (next p f))
  goes-on trims p f k = takes-next l h z t u alike trims p f (λ b. backs (f b)) k

  takes-pick : {A : Type 0} (trims b : Bool) (p q : Parser A) → b ≡ false → Takes h z t u trims (run l q) → Takes h z t u trims (run l (pick b p q))
  unfolding run
  takes-pick trims true p q e k = cc
  takes-pick trims false p q e k = k

  takes-node : {A : Type 0} (shape : A → Shape) (p : Parser A) → Takes h z t u false (run l p) → Takes h z t u false (run l (node shape p))
  unfolding node
  takes-node shape p k = takes-peek l h z t u alike false (λ _. next (wraps shape at_token p) (λ a. gives a.0)) (goes-on false (wraps shape at_token p) _ (takes-wraps l h z t u alike shape p k))

  takes-within : {A : Type 0} (f : Reading → Reading) (p : Parser A) → Takes h z t u false (run l p) → Takes h z t u false (run l (within f p))
  unfolding within
  takes-within f p k = goes-on false (scoped f p) _ (takes-scoped l h z t u alike false f p k)

  module _ (some : 0 < len_at l.classes h.mode (moved t.gap z)) where
    takes-making : (trims : Bool) (making : Making) → Takes h z t u trims (run l (eat_making trims making))
    unfolding eat_making
    takes-making trims making = goes-on trims _ _ (takes-token l h z t u alike some trims making)

    takes-eat : Takes h z t u false (run l eat)
    unfolding eat
    takes-eat = takes-making false itself

    takes-convert : (k : SyntaxKind) → Takes h z t u false (run l (convert_and_eat k))
    unfolding convert_and_eat
    takes-convert k = takes-making false (of_kind k)

    takes-unexpected : (hints : List (List ℕ)) → Takes h z t u true (run l (unexpected hints))
    unfolding unexpected
    takes-unexpected hints = takes-making true (surprise hints)

    -- a production is opened here
    takes-by : (nesting : ℕ) (x : MarkupHead) → Takes h z t u (minds x) (run l (markup_by nesting x))
    unfolding delimited heading item term_item reference embedded between_dollars equation
    takes-by nesting head.Stray = goes-on true _ _ (takes-unexpected _)
    takes-by nesting head.Unexpected = goes-on true _ _ (takes-unexpected _)
    takes-by nesting _ = search (goes-on, takes-node, takes-within, takes-column l h z t u alike, takes-eat, takes-convert) depth 40 fits 4000

    -- one expression
    pub takes-expr : (at_start : Bool) (nesting : ℕ) → Takes h z t u (minds (markup_head at_start nesting (hand_at l.classes h (Some t) z).kind)) (run l (markup_expr at_start nesting))
    unfolding markup_expr
    takes-expr at_start nesting = takes-peek l h z t u alike _ (λ k. markup_by nesting (markup_head at_start nesting k)) (takes-by nesting (markup_head at_start nesting (hand_at l.classes h (Some t) z).kind))

  -- a turn, by the expression that it reads one level deeper
  module _ (deep : (l.levels == 0) ≡ false) (stops : SyntaxKind → Bool) (x : Bool × ℕ) (trims : Bool) (call : Takes h z t u trims (l.deeper (MarkupExpr x.0 x.1))) where
    takes-deeper : Takes h z t u trims (run l (deeper (MarkupExpr x.0 x.1) x.1))
    unfolding deeper run
    takes-deeper r e d a b same =
        led-asked t u.nodes trims (l.levels == 0) (before_trivia r h e a t) (before_trivia r h d b (after_trivia u)) [] [] (l.levels == 0) _ _ refl
        (takes-pick trims (l.levels == 0) (too_deep anywhere >> gives x.1) (calls (MarkupExpr x.0 x.1)) deep (takes-calls l h z t u alike trims (MarkupExpr x.0 x.1) call) r e d a b same)

    pub takes-turn : ends stops x.1 (hand_at l.classes h (Some t) z).kind ≡ false → Takes h z t u trims (run l (markup_turn true stops x))
    unfolding markup_turn
    takes-turn go = takes-peek l h z t u alike trims (turn_at stops x) (takes-pick trims _ _ _ go (goes-on trims _ _ takes-deeper))

-- HOW A RUN IS READ: what is called in it reads as it should, an expression takes the token at hand first, whatever trivia are known before it, and the run stops at a text's end.
pub record Taking (l : Level) (stops : SyntaxKind → Bool) : Type 0 where
  pub calls_sane : (c : Call) → Sane (l.deeper c)
  pub blocks_sane : (b : Block) → Sane (l.blocks b)
  pub level_left : (l.levels == 0) ≡ false
  pub end_stops : stops kind.End ≡ true
  pub takes : (h : Reading) (z : Place) (t u : Trivia) → SameJudged h t u → (x : Bool × ℕ) → 0 < len_at l.classes h.mode (moved t.gap z) → Takes h z t u (minds (markup_head x.0 x.1 (hand_at l.classes h (Some t) z).kind)) (l.deeper (MarkupExpr x.0 x.1))

-- ---- all after some pieces

pub goes-same : {A : Type 0} (t : Trivia) (us : List Tree) (trims : Bool) (o c : Outcome (Bool × A)) → Led t us trims o c → goes o ≡ goes c
goes-same t us trims o c h = grind arith

module _ {A : Type 0} (m : A → Meaning (Bool × A)) (within : (x : A) → Within (m x)) where
  -- a turn that goes on, and one that doesn't
  pub one-turn : (x : A) (z : Place) (s : Point) → goes (m x z s) ≡ true → repeated m x z s ≡ followed (m x z s) (λ v. repeated m v.1) z
  one-turn x z s g =
      let o = m x z s in
      let n : o.taken + 0 ≡ o.taken = omega arith in
      repeated-chain m within 1 x z s (g, tt) ∙ ap (λ j. joined o (repeated m o.value.1 (moved j z) o.state)) n

  pub last-turn : (x : A) (z : Place) (s : Point) → goes (m x z s) ≡ false → repeated m x z s ≡ as_last (m x z s)
  unfolding repeated
  last-turn x z s g = if-false (goes (m x z s)) _ _ g

  led-goes : (t : Trivia) (us : List Tree) (trims : Bool) (x : A) (z : Place) (s r : Point) → ((y : A) → Backs (repeated m y)) → Led t us trims (m x z s) (m x (moved t.gap z) r) → (b : Bool) → goes (m x (moved t.gap z) r) ≡ b
      → Led t us trims (repeated m x z s) (repeated m x (moved t.gap z) r)
  led-goes t us trims x z s r tidy h true g =
      let w = moved t.gap z in
      let o = m x z s in
      let c = m x w r in
      subst (λ p. Led t us trims p (repeated m x w r)) (sym (one-turn x z s (goes-same t us trims o c h ∙ g)))
      (subst (λ p. Led t us trims (followed o (λ v. repeated m v.1) z) p) (sym (one-turn x w r g)) (led-then t us trims z o c (λ v. repeated m v.1) (λ v. tidy v.1) h))
  led-goes t us trims x z s r tidy h false g =
      let w = moved t.gap z in
      let o = m x z s in
      let c = m x w r in
      let last = led-like t us trims o c o.value.1 c.value.1 o.state c.state o.asks c.asks h (ap (λ v. v.1) h.front.value) h.state h.few h.front.asks in
      subst (λ p. Led t us trims p (repeated m x w r)) (sym (last-turn x z s (goes-same t us trims o c h ∙ g))) (subst (λ p. Led t us trims (as_last o) p) (sym (last-turn x w r g)) last)

-- No trivia are known except the newlines of those that became nodes.
pub record KnownFlush (s : Point) : Type 0 where
  pub newlines : Newlines
  pub is : s.known ≡ Some (record { nodes = []; gap = 0; newlines = newlines })

-- The end is a stop.
pub end-by : (stops : SyntaxKind → Bool) → stops kind.End ≡ true → (n : ℕ) (k : SyntaxKind) → ends stops n k ≡ false → is_end k ≡ false
end-by stops e n k f = grind arith

module _ (l : Level) (stops : SyntaxKind → Bool) (taking : Taking l stops) where
  -- all after some pieces
  abbrev pub behind : Bool × ℕ → Meaning (Unit {0})
  behind x = run l (repeat (markup_turn true stops) x >>= λ _. flush_trivia)

  -- where no expression follows
  pub stopped : (x : Bool × ℕ) (q : Place) (p : Point) → ends stops x.1 (as_at_hand (hand_of l q p)).kind ≡ true → repeated (λ v. run l (markup_turn true stops v)) x q p ≡ record (plain x (asked (hand_of l q p) p)) { asks = hand_asks_of l q p ++ [] }
  unfolding run markup_turn less
  stopped x q p f =
      let m : Bool × ℕ → Meaning (Bool × (Bool × ℕ)) = λ (v : Bool × ℕ). run l (markup_turn true stops v) in
      let v = as_at_hand (hand_of l q p) in
      let first = record (plain v (asked (hand_of l q p) p)) { asks = hand_asks_of l q p } in
      let turn : m x q p ≡ joined first (plain (false, x) (asked (hand_of l q p) p)) = ap (joined first) (if-true (ends stops x.1 v.kind) _ _ f) in
      last-turn m (λ n. (sane-run l taking.calls_sane taking.blocks_sane (markup_turn true stops n)).within) x q p (ap goes turn) ∙ ap as_last turn

  -- There nothing depends on what is carried.
  pub stopped-alike : (x y : Bool × ℕ) (q : Place) (p : Point) → ends stops x.1 (hand_of l q p).kind ≡ true → ends stops y.1 (hand_of l q p).kind ≡ true → behind y q p ≡ behind x q p
  unfolding run
  stopped-alike x y q p f g =
      let with_flush = λ (v : Outcome (Bool × ℕ)). joined v (run l flush_trivia (moved v.taken q) v.state) in
      ap with_flush (stopped y q p g) ∙ sym (ap with_flush (stopped x q p f))

  -- The token at hand is looked at first.
  first-seen : (x : Bool × ℕ) (q w : Place) (p : Point) (b : Bool) → goes (run l (markup_turn true stops x) q p) ≡ b → SameIn (repeated (λ v. run l (markup_turn true stops v)) x q p).asks q w → SameIn (hand_asks_of l q p) q w
  unfolding run markup_turn
  first-seen x q w p true g same =
      let m : Bool × ℕ → Meaning (Bool × (Bool × ℕ)) = λ (v : Bool × ℕ). run l (markup_turn true stops v) in
      grind (arith, one-turn m (λ n. (sane-run l taking.calls_sane taking.blocks_sane (markup_turn true stops n)).within) x q p g, same_in-first)
  first-seen x q w p false g same =
      let m : Bool × ℕ → Meaning (Bool × (Bool × ℕ)) = λ (v : Bool × ℕ). run l (markup_turn true stops v) in
      grind (arith, last-turn m (λ n. (sane-run l taking.calls_sane taking.blocks_sane (markup_turn true stops n)).within) x q p g, same_in-first)

  pub hand-seen : (x : Bool × ℕ) (q w : Place) (p : Point) → SameIn (behind x q p).asks q w → SameIn (hand_asks_of l q p) q w
  unfolding run
  hand-seen x q w p same = first-seen x q w p (goes (run l (markup_turn true stops x) q p)) refl (same_in-first _ _ q w same)

  -- Nothing is taken back.
  pub stopped-back : (x : Bool × ℕ) (q : Place) (p : Point) → ends stops x.1 (hand_of l q p).kind ≡ true → (behind x q p).back ≡ 0
  unfolding run flush_trivia
  stopped-back x q p f = ap (λ (v : Outcome (Bool × ℕ)). (joined v (run l flush_trivia (moved v.taken q) v.state)).back) (stopped x q p f) ∙ omega arith

  -- After everything a flush is known.
  pub flush-known : (x : Bool × ℕ) (q : Place) (p : Point) → KnownFlush (behind x q p).state
  unfolding run flush_trivia hand_at
  flush-known x q p = record { newlines = _; is = refl }

  module _ (h : Reading) (z : Place) (t u : Trivia) (alike : SameJudged h t u) (x : Bool × ℕ) (r : Reading) (e d : ℕ) (a b : Bool) where
    abbrev s : Point
    s = before_trivia r h e a t

    abbrev w : Place
    w = moved t.gap z

    abbrev y : Point
    y = before_trivia r h d b (after_trivia u)

    abbrev now : AtHand
    now = as_at_hand (hand_at l.classes h (Some t) z)

    -- the trivia at the end
    flushed : Fronted t u.nodes (run l flush_trivia z s) (run l flush_trivia w y)
    unfolding run flush_trivia hand_at less
    flushed =
        let old = hand_of l z s in
        let new = hand_of l w y in
        let none : Trivia → Option Trivia = λ (v : Trivia). Some (record { nodes = []; gap = 0; newlines = v.newlines }) in
        let held : (flushed_state old s).held ≡ h = flushed-held old s in
        let held_now : (flushed_state new y).held ≡ h = flushed-held new y in
        let last = hand_asks l.classes h (none u) w in
        let last_is : hand_asks l.classes h (none t) w ≡ last = asks-behind l h w (record { nodes = []; gap = 0; newlines = t.newlines }) (record { nodes = []; gap = 0; newlines = u.newlines }) (record { judge = alike.judge; column = alike.column }) ∙ shift-zero last in
        record {
          value = refl;
          taken = omega arith;
          back = omega arith;
          hints = none-of (nat_lt 0 (length t.nodes)) (nat_lt (length t.nodes) 0) [] [] refl refl;
          hints_too = none-of (nat_lt 0 (length u.nodes)) (nat_lt (length u.nodes) 0) [] [] refl refl;
          rest = [];
          nodes = ap (λ ts. ts ++ []) (less-none t.nodes);
          nodes_too = ap (λ ts. ts ++ []) (less-none u.nodes);
          asks = (λ v. asks-behind l h z t u alike v ++ shift t.gap (hand_asks l.classes (held v) (none t) w ++ []))
              ∙ (λ v. shift t.gap (hand_asks_of l w y) ++ shift t.gap ((last_is ∙ ap (λ g. hand_asks l.classes g (none u) w) (sym held_now)) v ++ []))
              ∙ ap (λ ls. shift t.gap (hand_asks_of l w y) ++ shift t.gap ls) (sym (shift-zero (hand_asks l.classes (flushed_state new y).held (none u) w ++ [])))
              ∙ sym (map-append (shift_one t.gap) (hand_asks_of l w y) (shift 0 (hand_asks l.classes (flushed_state new y).held (none u) w ++ [])));
          met = refl;
        }

    ended-behind : ends stops x.1 now.kind ≡ true → Fronted t u.nodes (behind x z s) (behind x w y)
    unfolding run hand_at
    ended-behind f =
        let g : ends stops x.1 (as_at_hand (hand_of l w y)).kind ≡ true = ap (ends stops x.1) (kind-behind l h z t u alike) ∙ f in
        let ls = hand_asks_of l z s in
        let ks = hand_asks_of l w y in
        let old : behind x z s ≡ joined (record (plain x s) { asks = ls ++ [] }) (run l flush_trivia z s) = ap (λ o. joined o (run l flush_trivia (moved o.taken z) o.state)) (stopped x z s f) in
        let new : behind x w y ≡ joined (record (plain x y) { asks = ks ++ [] }) (run l flush_trivia w y) = ap (λ o. joined o (run l flush_trivia (moved o.taken w) o.state)) (stopped x w y g) in
        subst (λ o. Fronted t u.nodes o (behind x w y)) (sym old) (subst (λ c. Fronted t u.nodes (joined (record (plain x s) { asks = ls ++ [] }) (run l flush_trivia z s)) c) (sym new)
        (fronted-asked t u.nodes x s y (ls ++ []) (ks ++ []) false _ _ (ap (λ js. js ++ []) (asks-behind l h z t u alike) ∙ sym (map-append (shift_one t.gap) ks [])) flushed))

    -- The token at hand takes a character, unless it is the end.
    some-token : ends stops x.1 now.kind ≡ false → 0 < len_at l.classes h.mode w
    unfolding hand_at
    some-token f = hand-takes l.classes h (Some t) z (end-by stops taking.end_stops x.1 now.kind f)

    -- where one does
    pub led-behind : (minds (markup_head x.0 x.1 now.kind) ≡ true → e ≡ d) → ends stops x.1 now.kind ≡ false → Led t u.nodes (minds (markup_head x.0 x.1 now.kind)) (behind x z s) (behind x w y)
    unfolding run
    led-behind same f =
        let p = markup_turn true stops in
        let trims = minds (markup_head x.0 x.1 now.kind) in
        let turn = takes-turn l taking.calls_sane taking.blocks_sane h z t u alike taking.level_left stops x trims (taking.takes h z t u alike x (some-token f)) f r e d a b same in
        let all = led-goes (λ v. run l (p v)) (λ n. (sane-run l taking.calls_sane taking.blocks_sane (p n)).within) t u.nodes trims x z s y (λ n. (sane-run l taking.calls_sane taking.blocks_sane (repeat p n)).backs) turn (goes (run l (p x) w y)) refl in
        led-then t u.nodes trims z _ _ (λ v. run l flush_trivia) (λ v. (sane-run l taking.calls_sane taking.blocks_sane flush_trivia).backs) all

    fronted-by : (ends stops x.1 now.kind ≡ false → minds (markup_head x.0 x.1 now.kind) ≡ true → e ≡ d) → (v : Bool) → ends stops x.1 now.kind ≡ v → Fronted t u.nodes (behind x z s) (behind x w y)
    fronted-by same true f = ended-behind f
    fronted-by same false f = (led-behind (same f) f).front

    pub fronted-behind : (ends stops x.1 now.kind ≡ false → minds (markup_head x.0 x.1 now.kind) ≡ true → e ≡ d) → Fronted t u.nodes (behind x z s) (behind x w y)
    fronted-behind same = fronted-by same (ends stops x.1 now.kind) refl

  -- with the same trivia at hand
  pub fronted-same : (h : Reading) (z : Place) (t : Trivia) (x : Bool × ℕ) (r : Reading) (e : ℕ) (a : Bool) → Fronted t t.nodes (behind x z (before_trivia r h e a t)) (behind x (moved t.gap z) (before_trivia r h e a (after_trivia t)))
  fronted-same h z t x r e a = fronted-behind h z t t (same-judged h t) x r e e a a (λ go p. refl)

  -- ---- a turn

  -- One that goes on gives the trivia before it, and takes the token after them.
  pub turn-led : (x : Bool × ℕ) (z : Place) (r h : Reading) (e : ℕ) (a : Bool) (t : Trivia) → (let s = before_trivia r h e a t in ends stops x.1 (as_at_hand (hand_of l z s)).kind ≡ false
      → Led t t.nodes (minds (markup_head x.0 x.1 (hand_at l.classes h (Some t) z).kind)) (run l (markup_turn true stops x) z s) (run l (markup_turn true stops x) (moved t.gap z) (before_trivia r h e a (after_trivia t))))
  unfolding hand_at
  turn-led x z r h e a t go =
      let some = hand-takes l.classes h (Some t) z (end-by stops taking.end_stops x.1 (as_at_hand (hand_of l z (before_trivia r h e a t))).kind go) in
      takes-turn l taking.calls_sane taking.blocks_sane h z t t (same-judged h t) taking.level_left stops x _ (taking.takes h z t t (same-judged h t) x some) go r e e a a (λ p. refl)

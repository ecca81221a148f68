-- Parsers that give trees which bind where they have no errors: the words of the language.
use Rattle.typst_grammar.proofs.Cited.{◌≡◌, ℕ, zero, suc, ◌+◌, ◌-◌, Bool, true, false, if◌then◌else◌, nat_lt, List, [], ◌∷◌, ◌++◌, length, take, drop, Option, Some, None, refl, ap, sym, subst, encode_utf8_all, ◌&&◌, inl, inr, arith, and_parts, CharClasses, same, is_error, is_trivia, SyntaxKind, SyntaxMode, Place, moved, hint_with, Tree, leaf_of, error_of, advised, all_advised, leaf, RawLine, trimmed, first_line, later_lines, is_blank, dedent, front, closing, line_leaves, first_leaves, block_of, block_leaves, inline_leaves, token_node, fault_node, is_raw, has_fields, Token, Block, Call, Mark, Reading, Point, Trivia, pending, Ahead, ahead, ahead_by, after_trivia, direct, hand_at, token_at, len_at, at_trivia, token_by, len_by, Shape, after_shape, Op, Begin, Parser, erred, takes, takes_so, flushes, complains, advises, marks, is_deepest, gives, does, next, pick, repeat, wraps, grows, nests, scoped, either, calls, block, Outcome, Meaning, Level, less, joined, answered, turns, as_last, bound, repeated, before, reshaped, grown, is_more, growths, growing, nestings, nesting, bounded, given_up, plain, entered, left, taken_node, node_by, reader_so, gave, hand_of, hand_asks_of, done, run, on_both, on_if, has_errors, operator_of, warned, is_whole, only_tag, hints, message, field_node, fields_node, name_node, named_node, names_of, access_node, Fault, codes}
use Rattle.typst_kinds.specs.declared.kind.SyntaxKind.TheVariants as kind
use Rattle.typst_language.specs.Raw.{raw_node, delimited_node, closed_node, delimited, two_delimiters, tag_leaves, is_pair, before_ticks, ticks}
use Rattle.typst_language.specs.declared.calls.Mark.TheVariants as mark
use Rattle.typst_grammar.proofs.Signs.{sign_of}
use Rattle.typst_grammar.proofs.Fine.{All, advised-kind, Fine, Fines, fines-all, fines-append, fines-take, fines-hinted, fines-reshaped, all-append, fine-inner, fine-error, fine-leaf, fine-made, no-operator, shape_by, making_by, unbinary, tame_kind, shape-weaker, making-weaker}
pub use Rattle.typst_language.proofs.Leaves.{shape-known as after-shape-known}

-- ---- nodes of tokens

-- with hints or a warning the same holds
hints-wrong : (hints : List (List ℕ)) (t : Tree) → has_errors t ≡ true → has_errors (all_advised hints t) ≡ true
hints-wrong [] t h = h
hints-wrong (hint ∷ hints) t h = hints-wrong hints (advised (hint_with None hint) t) h

pub fault-wrong : (f : Fault) (taken : List ℕ) → has_errors (fault_node f taken) ≡ true
fault-wrong f taken = hints-wrong (hints f taken) (error_of (message f taken) (encode_utf8_all taken)) refl

fine-fault : (f : Fault) (taken : List ℕ) → Fine (fault_node f taken)
fine-fault f taken n = let e = fault-wrong f taken in absurd (cc)

-- names with fields
fine-fields : (left : Tree) (names : List (List ℕ)) → Fine left → Fine (fields_node left names)
fine-fields left [] h = h
fine-fields left (name ∷ names) h =
    fine-fields (field_node left name) names (fine-inner kind.MathFieldAccess (left ∷ leaf_of kind.Dot (codes ".") ∷ name_node name ∷ []) refl (h, (λ n. refl, (λ n. refl, tt))))

fine-access : (taken : List ℕ) → Fine (access_node taken)
unfolding access_node
fine-access taken = by-names (names_of taken)
  where
    by-names : (names : List (List ℕ)) → Fine (named_node names)
    by-names [] = λ n. refl
    by-names (name ∷ names) = fine-fields (name_node name) names (λ n. refl)

-- raw texts
fine-trimmed : (cs : List ℕ) → All Fine (trimmed cs)
fine-trimmed cs = grind arith

fine-lines : (d : ℕ) (held : List ℕ) (rs : List RawLine) (closing : List ℕ) → All Fine (line_leaves d held rs closing)
fine-lines d held [] closing = fine-trimmed (held ++ closing)
fine-lines d held (r ∷ rs) closing = (λ n. refl, (λ n. refl, fine-lines d [] rs closing))

fine-start : (cs : List ℕ) → All Fine (first_leaves cs)
fine-start cs = grind arith

fine-block : (cs : List ℕ) → All Fine (block_leaves cs)
unfolding block_leaves
fine-block cs = by-parts (dedent cs) (first_line (front cs)) (later_lines (front cs)) (closing cs)
  where
    by-parts : (d : ℕ) (first : List ℕ) (rs : List RawLine) (closing : List ℕ) → All Fine (block_of d first rs closing)
    by-parts d first rs closing = on_both (All Fine) (is_blank first) _ _ (fine-lines d first rs closing) (all-append Fine (first_leaves first) (line_leaves d [] rs closing) (fine-start first) (fine-lines d [] rs closing))

fine-inline : (cs : List ℕ) → All Fine (inline_leaves cs)
unfolding inline_leaves
fine-inline cs = (λ n. refl, fine-lines 0 [] (later_lines cs) [])

fine-tag : (cs : List ℕ) → All Fine (tag_leaves cs)
fine-tag cs = grind arith

fine-delimited : (delim : List ℕ) (leaves : List Tree) → All Fine leaves → Fine (delimited delim leaves)
fine-delimited delim leaves h =
    fine-inner kind.Raw (leaf kind.RawDelim delim ∷ (leaves ++ leaf kind.RawDelim delim ∷ [])) refl
    (λ n. refl, all-append Fine leaves (leaf kind.RawDelim delim ∷ []) h (λ n. refl, tt))

fine-warned : (n : ℕ) (now cs : List ℕ) (t : Tree) → Fine t → Fine (warned n now cs t)
unfolding warned
fine-warned n now cs t h = on_both Fine (is_whole now cs) (only_tag n now t) t h h

fine-closed : (delim inner : List ℕ) → Fine (closed_node delim inner)
fine-closed delim inner = grind (arith, on_both, fine-warned, fine-delimited, all-append, fine-tag, fine-block, fine-inline)

fine-raw : (cs : List ℕ) → Fine (raw_node cs)
unfolding raw_node
fine-raw cs = by-sides (ticks cs) (drop (length (ticks cs)) cs)
  where
    by-end : (delim message text : List ℕ) (o : Option (List ℕ)) → Fine (elim o as (λ _. Tree) [ None ↦ error_of message text | Some inner ↦ closed_node delim inner ])
    by-end delim message text None = λ n. absurd (cc)
    by-end delim message text (Some inner) = fine-closed delim inner

    by-sides : (delim rest : List ℕ) → Fine (delimited_node cs delim rest)
    by-sides delim rest = on_both Fine (is_pair delim rest) two_delimiters _ (λ n. refl) (by-end delim _ _ (before_ticks (length delim) rest))

-- the node of a token
pub fine-token : (k : CharClasses) (t : Token) (taken : List ℕ) → Fine (token_node k t taken)
fine-token k t taken = grind (arith, on_both, fine-error, fine-raw, fine-access, fine-leaf, fine-fault)

-- ---- trivia

-- it binds, is no operator, and has none
pub record Still (t : Tree) : Type 0 where
  pub fine : Fine t
  pub no_sign : sign_of t.head.kind ≡ None
  pub no_operator : operator_of t ≡ None

still-error : (t : Tree) → Fine t → t.head.kind ≡ kind.Error → Still t
still-error t f e = record { fine = f; no_sign = ap sign_of e; no_operator = no-operator t (ap (same kind.Binary) e) }

still-plain : (k : CharClasses) (i : SyntaxKind) (taken : List ℕ) → is_trivia i ≡ true
    → Still (if is_error i then error_of [] (encode_utf8_all taken) else (if is_raw i then raw_node taken else (if has_fields i then access_node taken else leaf_of i (encode_utf8_all taken))))
still-plain k i taken h = grind arith

still-token : (k : CharClasses) (t : Token) (taken : List ℕ) → is_trivia t.kind ≡ true → Still (token_node k t taken)
still-token k t taken h = grind (arith, still-plain, still-error, fine-fault, advised-kind)

still-ahead : (k : CharClasses) (m : SyntaxMode) (n : ℕ) (z : Place) → All Still (ahead_by k m n z).trivia
still-ahead k m zero z = tt
still-ahead k m (suc n) z =
    let t = token_at k m z in
    let l = len_at k m z in
    let node = token_node k t (take l z.ahead) in
    on_if (λ (a : Ahead). All Still a.trivia) (at_trivia k m z) (after_trivia t l node (ahead_by k m n (moved l z))) (direct t l)
    (λ e. (still-token k t (take l z.ahead) (and_parts (is_trivia t.kind) (nat_lt 0 l) e).0, still-ahead k m n (moved l z))) (λ e. tt)

still-known : (k : CharClasses) (held : Reading) (known : Option Trivia) (z : Place) → All Still (pending known) → All Still (hand_at k held known z).trivia
unfolding hand_at ahead
still-known k held known z h = grind (arith, still-ahead)

pub still-hand : (l : Level) (z : Place) (s : Point) → All Still (pending s.known) → All Still (hand_of l z s).trivia
still-hand l z s h = still-known l.classes s.held s.known z h

pub fine-still : (ts : List Tree) → All Still ts → All Fine ts
fine-still [] h = tt
fine-still (t ∷ ts) h = (h.0.fine, fine-still ts h.1)

-- ---- what is given

-- the nodes bind, and so do those that are known to come
pub record Binds {A : Type 0} (o : Outcome A) : Type 0 where
  pub nodes : Fines o.nodes
  pub known : All Still (pending o.state.known)

abbrev pub AllBind : {A : Type 0} → Meaning A → Type 0
AllBind m = (z : Place) (s : Point) → All Still (pending s.known) → Binds (m z s)

fines-less : (n : ℕ) (ts : List Tree) → Fines ts → Fines (less n ts)
unfolding less
fines-less n ts h = fines-take (length ts - n) ts h

pub binds-joined : {A B : Type 0} (o : Outcome B) (p : Outcome A) → Binds o → Binds p → Binds (joined o p)
binds-joined o p h k = grind (arith, fines-append, fines-hinted, fines-less)

binds-if : {A : Type 0} (b : Bool) (x y : Outcome A) → Binds x → Binds y → Binds (if b then x else y)
binds-if b x y p q = on_both Binds b x y p q

binds-plain : {A : Type 0} (a : A) (s : Point) → All Still (pending s.known) → Binds (plain a s)
binds-plain a s h = record { nodes = tt; known = h }

binds-turns : {A : Type 0} (m : A → Meaning (Bool × A)) → ((x : A) → AllBind (m x)) → (n : ℕ) (x : A) → AllBind (turns m n x)
binds-turns m h zero x z s k = binds-plain x s k
binds-turns m h (suc n) x z s k =
    let o = m x z s in
    let first = h x z s k in
    binds-if (o.value.0 && nat_lt 0 o.taken) (joined o (turns m n o.value.1 (moved o.taken z) o.state)) (as_last o)
    (binds-joined o (turns m n o.value.1 (moved o.taken z) o.state) first (binds-turns m h n o.value.1 (moved o.taken z) o.state first.known))
    (record { nodes = first.nodes; known = first.known })

pub still-shaped : (shape : Shape) (ts : List Tree) (s : Point) → All Still (pending s.known) → All Still (pending (after_shape shape ts s).known)
still-shaped shape ts s h = subst (λ (x : Option Trivia). All Still (pending x)) (sym (after-shape-known shape ts s)) h

pub binds-reshaped : {A : Type 0} (shape : Shape) → shape_by unbinary shape ≡ true → (n : ℕ) (o : Outcome A) → Binds o → Binds (reshaped shape n o)
binds-reshaped shape e n o h = grind (arith, fines-reshaped, still-shaped)

abbrev pub if_by : (SyntaxKind → Bool) → Option Shape → Bool
if_by allows None = true
if_by allows (Some shape) = shape_by allows shape

abbrev pub tame_if : Option Shape → Bool
tame_if shape = if_by tame_kind shape

binds-grown : {A : Type 0} (n : ℕ) (shape : Option Shape) → if_by unbinary shape ≡ true → (o : Outcome A) → Binds o → Binds (grown n shape o)
binds-grown n shape e o h = grind (arith, binds-reshaped)

binds-growths : {A : Type 0} (m : A → Meaning (Option Shape × A)) → ((x : A) → AllBind (m x)) → ((x : A) (z : Place) (s : Point) → if_by unbinary (m x z s).value.0 ≡ true) → (n k : ℕ) (o : Outcome A) (z : Place) → Binds o → Binds (growths m n k o z)
binds-growths m f e n zero o z h = h
binds-growths m f e n (suc k) o z h =
    let p = m o.value (moved o.taken z) o.state in
    let j = binds-joined o p h (f o.value (moved o.taken z) o.state h.known) in
    let more = grown n p.value.0 (answered p.value.1 (joined o p)) in
    let g = binds-grown n p.value.0 (e o.value (moved o.taken z) o.state) (answered p.value.1 (joined o p)) (record { nodes = j.nodes; known = j.known }) in
    binds-if (is_more p.value.0 && nat_lt 0 p.taken) (growths m n k more z) more (binds-growths m f e n k more z g) g

binds-nestings : {A : Type 0} (f : A → Shape) → ((a : A) → shape_by unbinary (f a) ≡ true) → (begin : Begin) (m : A → Meaning (Bool × A)) → ((x : A) → AllBind (m x)) → (n : ℕ) (x : A) → AllBind (nestings f begin m n x)
binds-nestings f e begin m g zero x z s h = binds-plain x s h
binds-nestings f e begin m g (suc n) x z s h =
    let o = m x z s in
    let w = moved o.taken z in
    let p = nestings f begin m n o.value.1 w o.state in
    let t = o.value.0 && nat_lt 0 o.taken in
    let q = if t then joined o p else as_last o in
    let first = g x z s h in
    binds-reshaped (f q.value) (e q.value) (before begin s) q
    (binds-if t (joined o p) (as_last o) (binds-joined o p first (binds-nestings f e begin m g n o.value.1 w o.state first.known)) (record { nodes = first.nodes; known = first.known }))

-- ---- what a parser may answer, and what it makes

-- this holds of all that it answers
abbrev pub Gives : {A : Type 0} → (A → Type 0) → Parser A → Type 0
Gives Q (gives a) = Q a
Gives Q (next p f) = Gives (λ b. Gives Q (f b)) p
Gives Q (pick b p q) = Gives Q p × Gives Q q
Gives Q (scoped f p) = Gives Q p
Gives Q (either p is_wrong q) = Gives Q p × Gives Q q
Gives {A} Q _ = (a : A) → Q a

pub gives-all : {A : Type 0} (Q : A → Type 0) → ((a : A) → Q a) → (p : Parser A) → Gives Q p
gives-all Q h (gives a) = h a
gives-all Q h (next p f) = gives-all (λ b. Gives Q (f b)) (λ b. gives-all Q h (f b)) p
gives-all Q h (pick b p q) = (gives-all Q h p, gives-all Q h q)
gives-all Q h (scoped f p) = gives-all Q h p
gives-all Q h (either p is_wrong q) = (gives-all Q h p, gives-all Q h q)
gives-all Q h _ = h

-- it notes no block's begin
abbrev pub begins_none : Mark → Bool
begins_none (mark.Opens b) = false
begins_none _ = true

-- tokens become of the kinds of this alone, and no block's begin is noted
abbrev pub op_by : {A : Type 0} → (SyntaxKind → Bool) → Op A → Bool
op_by allows (takes trims making) = making_by allows making
op_by allows (takes_so way making) = making_by allows making
op_by allows (marks m) = begins_none m
op_by allows _ = true

-- it makes nodes of the kinds of this alone, but where it reads a block
abbrev pub PlainBy : {A : Type 0} → (SyntaxKind → Bool) → Parser A → Type 0
PlainBy allows (does o) = op_by allows o ≡ true
PlainBy allows (next p f) = PlainBy allows p × ((b : _) → PlainBy allows (f b))
PlainBy allows (pick b p q) = PlainBy allows p × PlainBy allows q
PlainBy allows (repeat p x) = (y : _) → PlainBy allows (p y)
PlainBy allows (wraps f begin p) = Gives (λ a. shape_by allows (f a) ≡ true) p × PlainBy allows p
PlainBy allows (grows begin p f) = PlainBy allows p × ((x : _) → Gives (λ v. if_by allows v.0 ≡ true) (f x) × PlainBy allows (f x))
PlainBy allows (nests f begin p x) = ((a : _) → shape_by allows (f a) ≡ true) × ((y : _) → PlainBy allows (p y))
PlainBy allows (scoped f p) = PlainBy allows p
PlainBy allows (either p is_wrong q) = PlainBy allows p × PlainBy allows q
PlainBy allows _ = Unit {0}

-- it makes no binary node and no block's, but where it reads a block
abbrev pub Plain : {A : Type 0} → Parser A → Type 0
Plain p = PlainBy tame_kind p

gives-by : {A : Type 0} (Q R : A → Type 0) → ((a : A) → Q a → R a) → (p : Parser A) → Gives Q p → Gives R p
gives-by Q R g (gives a) h = g a h
gives-by Q R g (next p f) h = gives-by (λ b. Gives Q (f b)) (λ b. Gives R (f b)) (λ b. gives-by Q R g (f b)) p h
gives-by Q R g (pick b p q) h = (gives-by Q R g p h.0, gives-by Q R g q h.1)
gives-by Q R g (scoped f p) h = gives-by Q R g p h
gives-by Q R g (either p is_wrong q) h = (gives-by Q R g p h.0, gives-by Q R g q h.1)
gives-by Q R g _ h = λ a. g a (h a)

-- by what allows more it is the same
module _ (f g : SyntaxKind → Bool) (more : (k : SyntaxKind) → f k ≡ true → g k ≡ true) where
  op-weaker : {A : Type 0} (o : Op A) → op_by f o ≡ true → op_by g o ≡ true
  op-weaker (takes trims making) h = making-weaker f g more making h
  op-weaker (takes_so way making) h = making-weaker f g more making h
  op-weaker (marks m) h = h
  op-weaker _ h = refl

  if-weaker : (shape : Option Shape) → if_by f shape ≡ true → if_by g shape ≡ true
  if-weaker shape h = grind arith

  pub plain-weaker : {A : Type 0} (p : Parser A) → PlainBy f p → PlainBy g p
  plain-weaker (does o) h = op-weaker o h
  plain-weaker (next p r) h = (plain-weaker p h.0, λ b. plain-weaker (r b) (h.1 b))
  plain-weaker (pick b p q) h = (plain-weaker p h.0, plain-weaker q h.1)
  plain-weaker (repeat p x) h = λ y. plain-weaker (p y) (h y)
  plain-weaker (wraps r begin p) h = (gives-by _ _ (λ a. shape-weaker f g more (r a)) p h.0, plain-weaker p h.1)
  plain-weaker (grows begin p r) h = (plain-weaker p h.0, λ x. (gives-by _ _ (λ v. if-weaker v.0) (r x) (h.1 x).0, plain-weaker (r x) (h.1 x).1))
  plain-weaker (nests r begin p x) h = (λ a. shape-weaker f g more (r a) (h.0 a), λ y. plain-weaker (p y) (h.1 y))
  plain-weaker (scoped r p) h = plain-weaker p h
  plain-weaker (either p is_wrong q) h = (plain-weaker p h.0, plain-weaker q h.1)
  plain-weaker _ h = tt

module _ (l : Level) where
  -- what may be answered is answered
  pub gives-run : {A : Type 0} (Q : A → Type 0) (p : Parser A) → Gives Q p → (z : Place) (s : Point) → Q (run l p z s).value
  unfolding run
  gives-run Q (gives a) h z s = h
  gives-run Q (next p f) h z s =
      let o = run l p z s in
      gives-run Q (f o.value) (gives-run (λ b. Gives Q (f b)) p h z s) (moved o.taken z) o.state
  gives-run Q (pick true p q) h z s = gives-run Q p h.0 z s
  gives-run Q (pick false p q) h z s = gives-run Q q h.1 z s
  gives-run Q (scoped f p) h z s = gives-run Q p h z (entered (f s.reading) s)
  gives-run Q (either p is_wrong q) h z s =
      on_both (λ o. Q o.value) (is_wrong (run l p z s).value) (given_up (run l p z s) (run l q z s)) (run l p z s) (gives-run Q q h.1 z s) (gives-run Q p h.0 z s)
  gives-run Q _ h z s = h _

  binds-gave : (z : Place) (s : Point) (trims : Bool) (len : ℕ) (node : Tree) (asks : List _) → All Still (pending s.known) → Fine node → Binds (gave (hand_of l z s) trims len node asks s)
  binds-gave z s trims len node asks k f = let h = hand_of l z s in record { nodes = fines-append h.trivia (node ∷ []) (fines-all h.trivia (fine-still h.trivia (still-hand l z s k))) (f, inr tt); known = tt }

  binds-done : {A : Type 0} (o : Op A) → op_by unbinary o ≡ true → AllBind (done l o)
  binds-done erred e z s h = record { nodes = tt; known = h }
  binds-done (takes trims making) e z s h =
      let x = hand_of l z s in
      let taken = take x.len (moved x.gap z).ahead in
      binds-gave z s trims x.len (taken_node l.classes making x z) (hand_asks_of l z s) h (fine-made making (token_node l.classes x.token taken) e (fine-token l.classes x.token taken))
  binds-done (takes_so way making) e z s h =
      let x = hand_of l z s in
      let w = moved x.gap z in
      let r = reader_so l way in
      let taken = take (len_by r w) w.ahead in
      binds-gave z s false (len_by r w) (node_by l.classes making (token_by r w) (len_by r w) w) _ h
      (fine-made making (token_node l.classes (token_by r w) taken) e (fine-token l.classes (token_by r w) taken))
  binds-done flushes e z s h = record { nodes = fines-all (hand_of l z s).trivia (fine-still (hand_of l z s).trivia (still-hand l z s h)); known = tt }
  binds-done (complains message) e z s h = record { nodes = (fine-error message [], inl refl); known = h }
  binds-done (advises hint) e z s h = record { nodes = tt; known = h }
  binds-done (marks m) e z s h = record { nodes = tt; known = h }
  binds-done is_deepest e z s h = record { nodes = tt; known = h }
  binds-done _ e z s h = record { nodes = tt; known = still-hand l z s h }

  module _ (d : (c : Call) → AllBind (l.deeper c)) (e : (x : Block) → AllBind (l.blocks x)) where
    -- what makes no binary node gives trees that bind where all that it calls does
    pub binds-run : {A : Type 0} (p : Parser A) → PlainBy unbinary p → AllBind (run l p)
    unfolding run repeated growing nesting
    binds-run (gives a) w z s h = binds-plain a s h
    binds-run (does o) w z s h = binds-done o w z s h
    binds-run (next p f) w z s h =
        let o = run l p z s in
        let k = binds-run p w.0 z s h in
        binds-joined o (run l (f o.value) (moved o.taken z) o.state) k (binds-run (f o.value) (w.1 o.value) (moved o.taken z) o.state k.known)
    binds-run (pick t p q) w z s h = binds-if t (run l p z s) (run l q z s) (binds-run p w.0 z s h) (binds-run q w.1 z s h)
    binds-run (repeat p x) w z s h = binds-turns (λ y. run l (p y)) (λ y. binds-run (p y) (w y)) (suc (bound z s)) x z s h
    binds-run (wraps f begin p) w z s h =
        let o = run l p z s in
        let k = binds-reshaped (f o.value) (gives-run (λ a. shape_by unbinary (f a) ≡ true) p w.0 z s) (before begin s) o (binds-run p w.1 z s h) in
        record { nodes = k.nodes; known = k.known }
    binds-run (grows begin p f) w z s h =
        binds-growths (λ y. run l (f y)) (λ y. binds-run (f y) (w.1 y).1) (λ y. gives-run (λ v. if_by unbinary v.0 ≡ true) (f y) (w.1 y).0) (before begin s) (suc (bound z s)) (run l p z s) z (binds-run p w.0 z s h)
    binds-run (nests f begin p x) w z s h = binds-nestings f w.0 begin (λ y. run l (p y)) (λ y. binds-run (p y) (w.1 y)) (suc (bound z s)) x z s h
    binds-run (scoped f p) w z s h = grind (arith, run l p z (entered (f s.reading) s), binds-run p w z (entered (f s.reading) s) h)
    binds-run (either p is_wrong q) w z s h =
        let o = run l p z s in
        let k = binds-run q w.1 z s h in
        binds-if (is_wrong o.value) (given_up o (run l q z s)) o (record { nodes = k.nodes; known = k.known }) (binds-run p w.0 z s h)
    binds-run (calls x) w z s h = let k = d x z s h in record { nodes = k.nodes; known = k.known }
    binds-run (block x) w z s h =
        let o = done l flushes z s in
        let first = binds-done flushes refl z s h in
        let k = e x (moved o.taken z) (record o.state { known = None }) tt in
        binds-if (l.has x) (joined o (bounded x (l.blocks x) (moved o.taken z) o.state)) (plain tt s)
        (binds-joined o (bounded x (l.blocks x) (moved o.taken z) o.state) first (record { nodes = k.nodes; known = tt })) (binds-plain tt s h)

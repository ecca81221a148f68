-- The nodes that are given hold the characters that are taken.
use Rattle.typst_language.proofs.Cited.{◌≡◌, ℕ, zero, suc, ◌+◌, ◌-◌, ◌<◌, ◌≤◌, Bool, true, false, ◌&&◌, if◌then◌else◌, nat_lt, List, [], ◌∷◌, ◌++◌, length, take, drop, length-append, append_assoc, append-nil, take-add, take_at, encode_utf8_all, refl, ap, sym, ◌∙◌, subst, arith, Option, Some, rules, encodes-append, take-append-drop, SyntaxKind, SyntaxMode, is_error, Place, moved, on, Block, Trivia, Point, Making, made, hinted_error, hinted_last, hinted, NodeChange, changed, first_changed, is_delimited, in_parens, renamed_last, parens_renamed, without_parens, Shape, shaped, count_empty, after_node, after_change, after_shape, stays, turns_wrong, is_not, renamed, unparened, itself, of_kind, surprise, wanted, Reading, CharClasses, token_node, token, utf8_ahead, token_at, len_at, token_by, at_trivia, Ahead, after_trivia, direct, ahead_by, ahead, hand_at, as_at_hand, column_at, Op, Begin, Parser, hand, so, further, column, erred, takes, takes_so, flushes, complains, advises, marks, is_deepest, gives, does, next, pick, repeat, wraps, grows, nests, scoped, either, calls, block, Outcome, Meaning, Level, less, joined, answered, turns, as_last, bound, repeated, before, inside, reshaped, grown, is_more, growths, growing, nestings, nesting, bounded, given_up, plain, entered, left, reader_so, gave, hand_of, asked, done, run, Call, Ask, None}
use Rattle.typst_lexer.specs.Tree.{Tree, forest, trees, joined as text_joined, text_of, with_kind, made_error, all_advised, error_of, topped}
use Rattle.typst_lexer.proofs.Texts.{text_all_advised}
use Rattle.typst_tree.proofs.SpansAside.{forest_trees}
use Rattle.typst_kinds.specs.declared.kind.SyntaxKind.TheVariants as kind
use Rattle.typst_lexer.specs.Messages.{made_unexpected, made_expected, unexpected_message}
use Rattle.typst_kinds.specs.Names.{name_of}
use Rattle.typst_language.specs.Sound.{Tidy, Backs, Stands}
use Rattle.typst_language.proofs.Within.{grew}
use Rattle.typst_language.proofs.Backs.{backs-turns, tidy-nestings, backs-run}
use Rattle.typst_lexer.proofs.TokenTexts.{text-token}
use Rattle.typst_language.proofs.Places.{moved-sum, less-append, less-twice, less-none, moved-ahead}
pub use Rattle.typst_lexer.proofs.Leaves.{texts, texts-append}

-- ---- texts of nodes

pub texts-one : (t : Tree) → texts (t ∷ []) ≡ text_of t
texts-one t = ap (λ x. t.head.text ++ x) (append-nil (text_joined t.kids))

pub texts-first : (t : Tree) (ts : List Tree) → texts (t ∷ ts) ≡ text_of t ++ texts ts
texts-first t ts = sym (append_assoc t.head.text (text_joined t.kids) (texts ts))

-- ---- what becomes of a token

text-kind : (k : SyntaxKind) (t : Tree) → text_of (with_kind k t) ≡ text_of t
text-kind k t = on (λ (u : Tree). text_of u ≡ text_of t) (is_error t.head.kind) t (topped t (record t.head { kind = k })) refl refl

text-error : (message : List ℕ) (t : Tree) → text_of (made_error message t) ≡ text_of t
text-error message t = on (λ (u : Tree). text_of u ≡ text_of t) (is_error t.head.kind) t (error_of message (text_of t)) refl (append-nil (text_of t))

text-wanted : (thing : List ℕ) (t : Tree) → text_of (made_expected thing t) ≡ text_of t
text-wanted thing t = grind (arith, append-nil)

pub text-made : (m : Making) (t : Tree) → text_of (made m t) ≡ text_of t
text-made itself t = refl
text-made (of_kind k) t = text-kind k t
text-made (surprise hints) t = text_all_advised hints (made_unexpected t) ∙ text-error (unexpected_message (name_of t.head.kind)) t
text-made (wanted thing) t = text-wanted thing t

-- ---- what becomes of several nodes

-- several nodes have one by one the texts of others
abbrev Same : List Tree → List Tree → Type 0
Same [] [] = Unit {0}
Same [] (u ∷ us) = ⊥
Same (t ∷ ts) [] = ⊥
Same (t ∷ ts) (u ∷ us) = (text_of t ≡ text_of u) × Same ts us

same-all : (ts : List Tree) → Same ts ts
same-all [] = tt
same-all (t ∷ ts) = (refl, same-all ts)

same-append : (ts us vs ws : List Tree) → Same ts us → Same vs ws → Same (ts ++ vs) (us ++ ws)
same-append [] [] vs ws h k = k
same-append [] (u ∷ us) vs ws h k = absurd h
same-append (t ∷ ts) [] vs ws h k = absurd h
same-append (t ∷ ts) (u ∷ us) vs ws h k = (h.0, same-append ts us vs ws h.1 k)

same-long : (ts us : List Tree) → Same ts us → length ts ≡ length us
same-long [] [] h = refl
same-long [] (u ∷ us) h = absurd h
same-long (t ∷ ts) [] h = absurd h
same-long (t ∷ ts) (u ∷ us) h = ap suc (same-long ts us h.1)

pub texts-same : (ts us : List Tree) → Same ts us → texts ts ≡ texts us
texts-same [] [] h = refl
texts-same [] (u ∷ us) h = absurd h
texts-same (t ∷ ts) [] h = absurd h
texts-same (t ∷ ts) (u ∷ us) h = texts-first t ts ∙ ap (λ x. x ++ texts ts) h.0 ∙ ap (λ x. text_of u ++ x) (texts-same ts us h.1) ∙ sym (texts-first u us)

same-take : (k : ℕ) (ts us : List Tree) → Same ts us → Same (take k ts) (take k us)
same-take zero ts us h = tt
same-take (suc k) [] [] h = tt
same-take (suc k) [] (u ∷ us) h = absurd h
same-take (suc k) (t ∷ ts) [] h = absurd h
same-take (suc k) (t ∷ ts) (u ∷ us) h = (h.0, same-take k ts us h.1)

less-same : (k : ℕ) (ts us : List Tree) → Same ts us → texts (less k ts) ≡ texts (less k us)
unfolding less
less-same k ts us h = grind (arith, same-long, texts-same, same-take)

-- hints leave the text of a node
text-hinted : (hints : List (List ℕ)) (t : Tree) → text_of (hinted_error hints t) ≡ text_of t
text-hinted hints t = on (λ (u : Tree). text_of u ≡ text_of t) (is_error t.head.kind) (all_advised hints t) t (text_all_advised hints t) refl

same-last : (hints : List (List ℕ)) (ts : List Tree) → Same (hinted_last hints ts) ts
same-last hints [] = tt
same-last hints (t ∷ []) = (text-hinted hints t, tt)
same-last hints (t ∷ u ∷ ts) = (refl, same-last hints (u ∷ ts))

pub same-hinted : (hints : List (List ℕ)) (ts : List Tree) → Same (hinted hints ts) ts
same-hinted hints ts = grind (arith, same-all, same-last)

-- without the parens of math
same-renamed : (k : SyntaxKind) (ts : List Tree) → Same (renamed_last k ts) ts
same-renamed k [] = tt
same-renamed k (t ∷ []) = (text-kind k t, tt)
same-renamed k (t ∷ u ∷ ts) = (refl, same-renamed k (u ∷ ts))

same-parens : (ts : List Tree) → Same (parens_renamed ts) ts
same-parens ts = grind (arith, text-kind, same-renamed)

text-parens : (t : Tree) → text_of (without_parens t) ≡ text_of t
text-parens t =
    on (λ (u : Tree). text_of u ≡ text_of t) (is_delimited t.head.kind && in_parens (trees t.kids))
    (record { head = record t.head { kind = kind.Math }; kids = forest (parens_renamed (trees t.kids)) }) t
    (ap (λ x. t.head.text ++ x) (texts-same (parens_renamed (trees t.kids)) (trees t.kids) (same-parens (trees t.kids)) ∙ ap text_joined (forest_trees t.kids))) refl

-- the first of them changed
pub text-changed : (change : NodeChange) (t : Tree) → text_of (changed change t) ≡ text_of t
text-changed stays t = refl
text-changed (turns_wrong message) t = text-error message t
text-changed (is_not thing) t = text-wanted thing t
text-changed (renamed k) t = text-kind k t
text-changed unparened t = text-parens t

pub first-is : (change : NodeChange) (t : Tree) (ts : List Tree) → first_changed change (t ∷ ts) ≡ changed change t ∷ ts
first-is stays t ts = refl
first-is (turns_wrong message) t ts = refl
first-is (is_not thing) t ts = refl
first-is (renamed k) t ts = refl
first-is unparened t ts = refl

first-none : (change : NodeChange) → first_changed change [] ≡ []
first-none stays = refl
first-none (turns_wrong message) = refl
first-none (is_not thing) = refl
first-none (renamed k) = refl
first-none unparened = refl

same-changed : (change : NodeChange) (ts : List Tree) → Same (first_changed change ts) ts
same-changed change ts = grind (arith, first-none, first-is, text-changed, same-all)

texts-changed : (change : NodeChange) (ts : List Tree) → texts (first_changed change ts) ≡ texts ts
texts-changed change ts = texts-same (first_changed change ts) ts (same-changed change ts)

-- with an empty error between them
pub texts-lacking : (count : ℕ) (message : List ℕ) (ts : List Tree) → texts (take count ts ++ error_of message [] ∷ drop count ts) ≡ texts ts
texts-lacking count message ts = texts-append (take count ts) (error_of message [] ∷ drop count ts) ∙ sym (texts-append (take count ts) (drop count ts)) ∙ ap texts (take-append-drop count ts)

pub text-shaped : (shape : Shape) (ts : List Tree) → texts (shaped shape ts) ≡ texts ts
text-shaped shape ts = grind (arith, texts-changed, texts-one, texts-lacking, append-nil)

-- ---- the last nodes hold no text

-- whatever of the last n nodes is taken back, the text stays
abbrev pub Blank : ℕ → List Tree → Type 0
Blank n ts = (k : ℕ) → k ≤ n → texts (less k ts) ≡ texts ts

pub blank-none : (ts : List Tree) → Blank 0 ts
blank-none ts k h = let z : k ≡ 0 = omega arith in ap (λ n. texts (less n ts)) z ∙ ap texts (less-none ts)

-- one node without text at the end
pub blank-last : (n : ℕ) (ts : List Tree) (t : Tree) → n ≤ 1 → (0 < n → text_of t ≡ []) → Blank n (ts ++ t ∷ [])
unfolding less
blank-last n ts t le h zero b = ap texts (less-none (ts ++ t ∷ []))
blank-last n ts t le h (suc k) b = grind (arith, length-append, take_at, texts-append, texts-one, append-nil)

less-nil : (k : ℕ) → less {A = Tree} k [] ≡ []
unfolding less
less-nil k = let z : 0 - k ≡ 0 = omega arith in ap (λ n. take n []) z

pub blank-nil : (n : ℕ) → Blank n []
blank-nil n k h = ap texts (less-nil k)

-- if one empty error is taken back, the text stays
blank-error : (n : ℕ) (message : List ℕ) → Blank n (error_of message [] ∷ [])
unfolding less
blank-error n message g h = grind arith

-- ---- texts of places

pub encode-add : (a b : ℕ) (xs : List ℕ) → encode_utf8_all (take a xs) ++ encode_utf8_all (take b (drop a xs)) ≡ encode_utf8_all (take (a + b) xs)
encode-add a b xs = sym (encodes-append (take a xs) (take b (drop a xs))) ∙ ap encode_utf8_all (sym (take-add a b xs))

pub text-add : (a b : ℕ) (z : Place) → utf8_ahead a z ++ utf8_ahead b (moved a z) ≡ utf8_ahead (a + b) z
text-add a b z = ap (λ xs. utf8_ahead a z ++ encode_utf8_all (take b xs)) (moved-ahead a z) ∙ encode-add a b z.ahead

ahead-texts : (k : CharClasses) (m : SyntaxMode) (n : ℕ) (z : Place) → texts (ahead_by k m n z).trivia ≡ utf8_ahead (ahead_by k m n z).gap z
ahead-texts k m zero z = refl
ahead-texts k m (suc n) z =
    let t = token_at k m z in
    let l = len_at k m z in
    let node = token_node k t (take l z.ahead) in
    let rest = ahead_by k m n (moved l z) in
    on (λ (a : Ahead). texts a.trivia ≡ utf8_ahead a.gap z) (at_trivia k m z) (after_trivia t l node rest) (direct t l)
    (texts-first node rest.trivia ∙ ap (λ x. x ++ texts rest.trivia) (text-token k t (take l z.ahead))
    ∙ ap (λ x. utf8_ahead l z ++ x) (ahead-texts k m n (moved l z)) ∙ text-add l rest.gap z)
    refl

known-texts : (k : CharClasses) (held : Reading) (known : Option Trivia) (z : Place) → Stands z known → texts (hand_at k held known z).trivia ≡ utf8_ahead (hand_at k held known z).gap z
unfolding hand_at ahead
known-texts k held known z h = grind (arith, ahead-texts)

-- the trivia at hand hold the characters before the token
pub hand-texts : (l : Level) (z : Place) (s : Point) → Stands z s.known → texts (hand_of l z s).trivia ≡ utf8_ahead (hand_of l z s).gap z
hand-texts l z s h = known-texts l.classes s.held s.known z h

-- ---- the law

-- the nodes hold the characters taken, those that may be taken back hold none, and what is known stands there
pub record Holds {A : Type 0} (z : Place) (o : Outcome A) : Type 0 where
  pub text : texts o.nodes ≡ utf8_ahead o.taken z
  pub known : Stands (moved o.taken z) o.state.known
  pub blank : Blank o.state.empties o.nodes

abbrev pub Keeps : {A : Type 0} → Meaning A → Type 0
Keeps m = (z : Place) (s : Point) → Stands z s.known → Holds z (m z s)

stands-on : (a b : ℕ) (z : Place) (known : Option Trivia) → Stands (moved b (moved a z)) known → Stands (moved (a + b) z) known
stands-on a b z known h = subst (λ w. Stands w known) (sym (moved-sum a b z)) h

pub kept-joined : {A B : Type 0} (z : Place) (o : Outcome B) (p : Outcome A) → Holds z o → Holds (moved o.taken z) p → Tidy o.state p → Holds z (joined o p)
kept-joined z o p h k t =
    let b = t.back in
    let c = t.left in
    let rest = less p.back o.nodes in
    let same = same-hinted p.hints rest in
    record {
      text = texts-append (hinted p.hints rest) p.nodes ∙ ap (λ x. x ++ texts p.nodes) (texts-same (hinted p.hints rest) rest same ∙ h.blank p.back b ∙ h.text)
          ∙ ap (λ x. utf8_ahead o.taken z ++ x) k.text ∙ text-add o.taken p.taken z;
      known = stands-on o.taken p.taken z p.state.known k.known;
      blank = λ n le.
          (let m = p.back + (n - length p.nodes) in
          let few : m ≤ o.state.empties = omega arith in
          ap texts (less-append n (hinted p.hints rest) p.nodes) ∙ texts-append (less (n - length p.nodes) (hinted p.hints rest)) (less n p.nodes)
          ∙ ap (λ x. x ++ texts (less n p.nodes)) (less-same (n - length p.nodes) (hinted p.hints rest) rest same ∙ ap texts (less-twice p.back (n - length p.nodes) o.nodes)
          ∙ h.blank m few ∙ sym (h.blank p.back b) ∙ sym (texts-same (hinted p.hints rest) rest same))
          ∙ ap (λ x. texts (hinted p.hints rest) ++ x) (k.blank n le) ∙ sym (texts-append (hinted p.hints rest) p.nodes));
    }

kept-if : {A : Type 0} (z : Place) (b : Bool) (x y : Outcome A) → Holds z x → Holds z y → Holds z (if b then x else y)
kept-if z b x y p q = on (Holds z) b x y p q

kept-plain : {A : Type 0} (z : Place) (a : A) (s : Point) → Stands z s.known → Holds z (plain a s)
kept-plain z a s h = record { text = refl; known = h; blank = blank-nil s.empties }

kept-turns : {A : Type 0} (m : A → Meaning (Bool × A)) → ((x : A) → Backs (m x)) → ((x : A) → Keeps (m x)) → (n : ℕ) (x : A) → ((n : ℕ) (x : A) → Backs (turns m n x)) → Keeps (turns m n x)
kept-turns m b h zero x t z s k = kept-plain z x s k
kept-turns m b h (suc n) x t z s k =
    let o = m x z s in
    let first = h x z s k in
    kept-if z (o.value.0 && nat_lt 0 o.taken) (joined o (turns m n o.value.1 (moved o.taken z) o.state)) (as_last o)
    (kept-joined z o (turns m n o.value.1 (moved o.taken z) o.state) first (kept-turns m b h n o.value.1 t (moved o.taken z) o.state first.known) (t n o.value.1 (moved o.taken z) o.state))
    (record { text = first.text; known = first.known; blank = first.blank })

-- a node that counts as an empty error has no text
record Empties (n : ℕ) (text : List ℕ) : Type 0 where
  few : n ≤ 1
  no_text : 0 < n → text ≡ []

empties-counted : (text : List ℕ) → Empties (count_empty text) text
empties-counted text = grind arith

empties-node : (b : Bool) (text : List ℕ) (s : Point) → Empties (after_node b text s).empties text
empties-node true text s = empties-counted text
empties-node false text s = record { few = omega arith; no_text = λ h. absurd (omega arith) }

-- nodes of which the first was changed
blank-same : (n : ℕ) (ts us : List Tree) → Same ts us → Blank n us → Blank n ts
blank-same n ts us h b = λ k le. less-same k ts us h ∙ b k le ∙ sym (texts-same ts us h)

blank-one : (b c : Bool) (change : NodeChange) (front : List Tree) (t : Tree) (s : Point) → Blank s.empties (front ++ t ∷ [])
    → Blank (if b then s else after_node c (text_of t) s).empties (front ++ changed change t ∷ [])
blank-one true c change front t s h = search (rules, blank-same, same-append, same-all, text-changed)
blank-one false c change front t s h =
    let e = empties-node c (text_of t) s in
    blank-last (after_node c (text_of t) s).empties front (changed change t) e.few (λ l. text-changed change t ∙ e.no_text l)

blank-changed : (change : NodeChange) (front ts : List Tree) (s : Point) → Blank s.empties (front ++ ts) → Blank (after_change change ts s).empties (front ++ first_changed change ts)
blank-changed change front [] s h = subst (λ us. Blank s.empties (front ++ us)) (sym (first-none change)) h
blank-changed change front (t ∷ []) s h = grind (arith, first-is, blank-one)
blank-changed change front (t ∷ u ∷ ts) s h = search (rules, blank-same, same-append, same-all, same-changed)

blank-shaped : (shape : Shape) (front ts : List Tree) (s : Point) → Blank s.empties (front ++ ts) → Blank (after_shape shape ts s).empties (front ++ shaped shape ts)
blank-shaped shape front ts s h = grind (arith, blank-changed, blank-none, empties-counted, blank-last, append-nil)

after_node-known : (b : Bool) (text : List ℕ) (s : Point) → (after_node b text s).known ≡ s.known
after_node-known true text s = refl
after_node-known false text s = refl

pub shape-known : (shape : Shape) (ts : List Tree) (s : Point) → (after_shape shape ts s).known ≡ s.known
shape-known shape ts s = grind (arith, after_node-known)

kept-reshaped : {A : Type 0} (z : Place) (shape : Shape) (n : ℕ) (o : Outcome A) → Holds z o → Holds z (reshaped shape n o)
kept-reshaped z shape n o k =
    let m = n + o.back in
    let ts = inside n o in
    record {
      text = texts-append (take m o.nodes) (shaped shape ts) ∙ ap (λ x. texts (take m o.nodes) ++ x) (text-shaped shape ts)
          ∙ sym (texts-append (take m o.nodes) ts) ∙ ap texts (take-append-drop m o.nodes) ∙ k.text;
      known = subst (λ (x : Option Trivia). Stands (moved o.taken z) x) (sym (shape-known shape ts o.state)) k.known;
      blank = blank-shaped shape (take m o.nodes) ts o.state (subst (λ ns. Blank o.state.empties ns) (sym (take-append-drop m o.nodes)) k.blank);
    }

pub kept-grown : {A : Type 0} (z : Place) (n : ℕ) (shape : Option Shape) (o : Outcome A) → Holds z o → Holds z (grown n shape o)
kept-grown z n None o k = k
kept-grown z n (Some shape) o k = kept-reshaped z shape n o k

kept-growths : {A : Type 0} (m : A → Meaning (Option Shape × A)) → ((x : A) → Backs (m x)) → ((x : A) → Keeps (m x)) → (n k : ℕ) (o : Outcome A) (z : Place) → Holds z o → Holds z (growths m n k o z)
kept-growths m b f n zero o z h = h
kept-growths m b f n (suc k) o z h =
    let p = m o.value (moved o.taken z) o.state in
    let j = kept-joined z o p h (f o.value (moved o.taken z) o.state h.known) (b o.value (moved o.taken z) o.state) in
    let g = kept-grown z n p.value.0 (answered p.value.1 (joined o p)) (record { text = j.text; known = j.known; blank = j.blank }) in
    kept-if z (is_more p.value.0 && nat_lt 0 p.taken) (growths m n k (grew n o p) z) (grew n o p) (kept-growths m b f n k (grew n o p) z g) g

kept-nestings : {A : Type 0} (f : A → Shape) (begin : Begin) (m : A → Meaning (Bool × A)) → ((x : A) → Backs (m x)) → ((x : A) → Keeps (m x)) → (n : ℕ) (x : A) → Keeps (nestings f begin m n x)
kept-nestings f begin m b g zero x z s h = kept-plain z x s h
kept-nestings f begin m b g (suc n) x z s h =
    let o = m x z s in
    let w = moved o.taken z in
    let p = nestings f begin m n o.value.1 w o.state in
    let t = o.value.0 && nat_lt 0 o.taken in
    let q = if t then joined o p else as_last o in
    let first = g x z s h in
    kept-reshaped z (f q.value) (before begin s) q
    (kept-if z t (joined o p) (as_last o) (kept-joined z o p first (kept-nestings f begin m b g n o.value.1 w o.state first.known) (tidy-nestings f begin m b n o.value.1 w o.state))
    (record { text = first.text; known = first.known; blank = first.blank }))

blank-flushed : (s : Point) (ts : List Tree) → Blank (elim ts as (λ _. Point) [ [] ↦ s | u ∷ us ↦ after_node false [] s ]).empties ts
blank-flushed s ts = grind (arith, blank-nil, blank-none)

module _ (l : Level) where
  kept-gave : (z : Place) (s : Point) (trims : Bool) (len : ℕ) (node : Tree) (asks : List Ask) → Stands z s.known → text_of node ≡ utf8_ahead len (moved (hand_of l z s).gap z) → Holds z (gave (hand_of l z s) trims len node asks s)
  kept-gave z s trims len node asks k e =
      let h = hand_of l z s in
      let n = empties-node (is_error node.head.kind) (text_of node) s in
      record {
        text = texts-append h.trivia (node ∷ []) ∙ ap (λ x. x ++ texts (node ∷ [])) (hand-texts l z s k) ∙ ap (λ x. utf8_ahead h.gap z ++ x) (texts-one node ∙ e) ∙ text-add h.gap len z;
        known = tt;
        blank = blank-last (after_node (is_error node.head.kind) (text_of node) s).empties h.trivia node n.few n.no_text;
      }

  kept-asked : {A : Type 0} (a : A) (asks : List Ask) (z : Place) (s : Point) → Stands z s.known → Holds z (record (plain a (asked (hand_of l z s) s)) { asks = asks })
  kept-asked a asks z s h = record { text = refl; known = hand-texts l z s h; blank = blank-nil s.empties }

  kept-done : {A : Type 0} (o : Op A) → Keeps (done l o)
  kept-done hand z s h = kept-asked (as_at_hand (hand_of l z s)) _ z s h
  kept-done (so way) z s h = kept-asked (token_by (reader_so l way) (moved (hand_of l z s).gap z)).kind _ z s h
  kept-done further z s h = kept-asked (token_by (token l.classes s.reading.mode) (moved ((hand_of l z s).gap + (hand_of l z s).len) z)).kind _ z s h
  kept-done column z s h = kept-asked (column_at (moved (hand_of l z s).gap z)) _ z s h
  kept-done erred z s h = kept-plain z s.is_after_error s h
  kept-done (takes trims making) z s h = search (rules, kept-gave, text-made, text-token)
  kept-done (takes_so way making) z s h = search (rules, kept-gave, text-made, text-token)
  kept-done flushes z s h = record { text = hand-texts l z s h; known = refl; blank = blank-flushed s (hand_of l z s).trivia }
  kept-done (complains message) z s h = record { text = refl; known = h; blank = blank-error (s.empties + 1) message }
  kept-done (advises hint) z s h = record { text = refl; known = h; blank = blank-nil s.empties }
  kept-done (marks mark) z s h = record { text = refl; known = h; blank = blank-nil s.empties }
  kept-done is_deepest z s h = record { text = refl; known = h; blank = blank-nil s.empties }

  module _ (b : (c : Call) → Backs (l.deeper c)) (c : (x : Block) → Backs (l.blocks x)) (d : (x : Call) → Keeps (l.deeper x)) (e : (x : Block) → Keeps (l.blocks x)) where
    kept-bounded : (x : Block) → Keeps (bounded x (l.blocks x))
    kept-bounded x z s h = let k = e x z (record s { known = None }) tt in record { text = k.text; known = tt; blank = k.blank }

    -- the law of the leaves
    pub kept-run : {A : Type 0} (p : Parser A) → Keeps (run l p)
    unfolding run repeated growing nesting
    kept-run (gives a) z s h = kept-plain z a s h
    kept-run (does o) z s h = kept-done o z s h
    kept-run (next p f) z s h =
        let o = run l p z s in
        let k = kept-run p z s h in
        kept-joined z o (run l (f o.value) (moved o.taken z) o.state) k (kept-run (f o.value) (moved o.taken z) o.state k.known) (backs-run l b c (f o.value) (moved o.taken z) o.state)
    kept-run (pick t p q) z s h = kept-if z t (run l p z s) (run l q z s) (kept-run p z s h) (kept-run q z s h)
    kept-run (repeat p x) z s h =
        kept-turns (λ y. run l (p y)) (λ y. backs-run l b c (p y)) (λ y. kept-run (p y)) (suc (bound z s)) x (λ n y. backs-turns (λ w. run l (p w)) (λ w. backs-run l b c (p w)) n y) z s h
    kept-run (wraps f begin p) z s h =
        let o = run l p z s in
        let k = kept-reshaped z (f o.value) (before begin s) o (kept-run p z s h) in
        record { text = k.text; known = k.known; blank = k.blank }
    kept-run (grows begin p f) z s h =
        kept-growths (λ y. run l (f y)) (λ y. backs-run l b c (f y)) (λ y. kept-run (f y)) (before begin s) (suc (bound z s)) (run l p z s) z (kept-run p z s h)
    kept-run (nests f begin p x) z s h = kept-nestings f begin (λ y. run l (p y)) (λ y. backs-run l b c (p y)) (λ y. kept-run (p y)) (suc (bound z s)) x z s h
    kept-run (scoped f p) z s h = grind (arith, run l p z (entered (f s.reading) s), kept-run p z (entered (f s.reading) s) h)
    kept-run (either p is_wrong q) z s h =
        let o = run l p z s in
        let k = kept-run q z s h in
        kept-if z (is_wrong o.value) (given_up o (run l q z s)) o (record { text = k.text; known = k.known; blank = k.blank }) (kept-run p z s h)
    kept-run (calls x) z s h = let k = d x z s h in record { text = k.text; known = k.known; blank = k.blank }
    kept-run (block x) z s h =
        let o = done l flushes z s in
        let w = moved o.taken z in
        let q = c x w (record o.state { known = None }) in
        kept-if z (l.has x) (joined o (bounded x (l.blocks x) w o.state)) (plain tt s)
        (kept-joined z o (bounded x (l.blocks x) w o.state) (kept-done flushes z s h) (kept-bounded x w o.state (kept-done flushes z s h).known) (record { back = q.back; left = q.left }))
        (kept-plain z tt s h)

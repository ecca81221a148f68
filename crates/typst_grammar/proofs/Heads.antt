-- What stands to the left of an operator: no operator stands there, and no binary node.
use Rattle.typst_grammar.proofs.Cited.{◌≡◌, ℕ, zero, suc, ◌<◌, Bool, true, false, not, ◌&&◌, ◌||◌, if◌then◌else◌, nat_lt, List, [], ◌∷◌, ◌++◌, length, take, drop, Option, Some, None, refl, ap, sym, ◌⊎◌, subst, arith, encode_utf8_all, and_parts, CharClasses, same, is_error, SyntaxKind, Place, moved, hint_with, Tree, leaf_of, error_of, advised, token_node, plain_node, fault_node, is_raw, has_fields, Token, Point, Trivia, Reading, hand_at, Making, itself, takes, gives, does, next, peek, eat_making, eat, is_end, Outcome, Level, plain, standing, joined, taken_node, hand_of, run, no-end, on_both, operator_of, hints, message, tag, warned, is_whole, only_tag, access_node, Fault}
use Rattle.typst_kinds.specs.declared.kind.SyntaxKind.TheVariants as kind
use Rattle.typst_language.specs.Raw.{raw_node, delimited_node, closed_node, block_node, inline_node, delimited, two_delimiters, is_pair, before_ticks, ticks}
use Rattle.typst_grammar.proofs.Signs.{sign_of}
use Rattle.typst_grammar.proofs.Fine.{All, Steady, advised-kind, all-drop, no-operator, or-left, or-right, unbinary}
pub use Rattle.typst_grammar.proofs.Parts.{standing-nil as standing-none}
use Rattle.std.proofs.lemmas.Bool.{not-true}

-- ---- nodes

-- it is no operator, and has none
abbrev pub Bare : Tree → Type 0
Bare t = (sign_of t.head.kind ≡ None) × (operator_of t ≡ None)

pub bare-advised : Steady Bare
bare-advised [] t h = h
bare-advised (hint ∷ hints) t h = bare-advised hints (advised (hint_with None hint) t) h

abbrev pub Unary : Tree → Type 0
Unary t = operator_of t ≡ None

-- what holds of the last of several nodes, or where there is none
abbrev pub LastIs : Type 0 → (Tree → Type 0) → List Tree → Type 0
LastIs E P [] = E
LastIs E P (t ∷ []) = P t
LastIs E P (t ∷ u ∷ us) = LastIs E P (u ∷ us)

pub last-one : (E : Type 0) (P : Tree → Type 0) (ts : List Tree) (t : Tree) → P t → LastIs E P (ts ++ t ∷ [])
last-one E P [] t h = h
last-one E P (u ∷ []) t h = h
last-one E P (u ∷ v ∷ ts) t h = last-one E P (v ∷ ts) t h

pub last-map : (E F : Type 0) (P Q : Tree → Type 0) → (E → F) → ((t : Tree) → P t → Q t) → (ts : List Tree) → LastIs E P ts → LastIs F Q ts
last-map E F P Q f g [] h = f h
last-map E F P Q f g (t ∷ []) h = g t h
last-map E F P Q f g (t ∷ u ∷ ts) h = last-map E F P Q f g (u ∷ ts) h

-- what stands after the first of them
pub after-take : (P : Tree → Type 0) (m : ℕ) (ts us : List Tree) → All P us → All P (drop m (take m ts ++ us))
after-take P zero ts us h = h
after-take P (suc m) [] us h = all-drop P (suc m) us h
after-take P (suc m) (t ∷ ts) us h = after-take P m ts us h

-- several nodes of which each is no operator and has none
pub last-all : (E : Type 0) (ts : List Tree) → All Bare ts → 0 < length ts → LastIs E Unary ts
last-all E [] h l = absurd (omega arith)
last-all E (t ∷ []) h l = h.0.1
last-all E (t ∷ u ∷ ts) h l = last-all E (u ∷ ts) h.1 (omega arith)

-- a kind of no operator, and of no binary node
abbrev pub is_quiet : SyntaxKind → Bool
is_quiet k = elim (sign_of k) as (λ _. Bool) [ None ↦ unbinary k | Some op ↦ false ]

pub quiet-sign : (k : SyntaxKind) → is_quiet k ≡ true → (sign_of k ≡ None) × (same kind.Binary k ≡ false)
quiet-sign k e = grind arith

-- ---- what adds no node

pub record Silent {A : Type 0} (o : Outcome A) : Type 0 where
  pub nodes : o.nodes ≡ []
  pub back : o.back ≡ 0
  pub hints : o.hints ≡ []

pub standing-silent : {A : Type 0} (o : Outcome A) → Silent o → (ts : List Tree) → standing o ts ≡ ts
standing-silent o h ts = rw (h.nodes, h.back, h.hints) (sym (no-end ts))

pub silent-joined : {A B : Type 0} (o : Outcome A) (p : Outcome B) → Silent o → Silent p → Silent (joined o p)
silent-joined o p h k = grind (arith, standing-silent)

pub silent-plain : {A : Type 0} (a : A) (s : Point) → Silent (plain a s)
silent-plain a s = record { nodes = refl; back = refl; hints = refl }

-- ---- tokens

pub bare-error : (t : Tree) → t.head.kind ≡ kind.Error → Bare t
bare-error t e = (ap sign_of e, no-operator t (ap (same kind.Binary) e))

pub fault-error : (f : Fault) (taken : List ℕ) → (fault_node f taken).head.kind ≡ kind.Error
fault-error f taken = advised-kind (hints f taken) (error_of (message f taken) (encode_utf8_all taken))

-- a token that becomes a leaf of its kind, where it has no fault
abbrev pub is_plain : SyntaxKind → Bool
is_plain k = is_error k || (is_raw k || has_fields k)

-- it becomes a leaf of a quiet kind, or a raw text
abbrev pub is_calm : SyntaxKind → Bool
is_calm k = is_raw k || (is_quiet k && not (is_end k || is_plain k))

raw-is : (i : SyntaxKind) → is_raw i ≡ true → i ≡ kind.Raw
raw-is i h = grind arith

leafy-by : (i : SyntaxKind) (text : List ℕ) (x y w : Tree) → is_plain i ≡ false → (if is_error i then x else (if is_raw i then y else (if has_fields i then w else leaf_of i text))) ≡ leaf_of i text
leafy-by i text x y w e = grind arith

-- an error, or a leaf of the kind
abbrev pub Leafy : SyntaxKind → List ℕ → Tree → Type 0
Leafy i text t = (t.head.kind ≡ kind.Error) ⊎ (t ≡ leaf_of i text)

pub leafy-token : (k : CharClasses) (t : Token) (taken : List ℕ) (i : SyntaxKind) → t.kind ≡ i → is_plain i ≡ false → Leafy i (encode_utf8_all taken) (token_node k t taken)
leafy-token k t taken i e p = grind (arith, leafy-by, fault-error)

judged-kind : (b : Bool) (j i : SyntaxKind) → is_end i ≡ false → (if b then kind.End else j) ≡ i → j ≡ i
judged-kind true j i e h = let x = ap is_end h in absurd (cc)
judged-kind false j i e h = h

-- the token at hand has the kind that is given, except at an end
pub hand-kind : (k : CharClasses) (held : Reading) (known : Option Trivia) (z : Place) (i : SyntaxKind) → is_end i ≡ false → (hand_at k held known z).kind ≡ i → (hand_at k held known z).token.kind ≡ i
unfolding hand_at
hand-kind k held known z i e h = judged-kind _ _ i e h

leafy-bare : (i : SyntaxKind) (text : List ℕ) (t : Tree) → sign_of i ≡ None → same kind.Binary i ≡ false → Leafy i text t → Bare t
leafy-bare i text t a b h = grind arith

-- a raw text
bare-warned : (n : ℕ) (now cs : List ℕ) (t : Tree) → Bare t → Bare (warned n now cs t)
unfolding warned
bare-warned n now cs t h = on_both Bare (is_whole now cs) (only_tag n now t) t h h

bare-closed : (delim cs : List ℕ) → Bare (closed_node delim cs)
bare-closed delim cs = on_both Bare (nat_lt 2 (length delim)) (block_node delim cs) (inline_node delim cs) (bare-warned (length delim) (tag cs) cs (delimited delim _) (refl, refl)) (refl, refl)

bare-raw : (cs : List ℕ) → Bare (raw_node cs)
unfolding raw_node
bare-raw cs = by-sides (ticks cs) (drop (length (ticks cs)) cs)
  where
    by-end : (delim message text : List ℕ) (o : Option (List ℕ)) → Bare (elim o as (λ _. Tree) [ None ↦ error_of message text | Some inner ↦ closed_node delim inner ])
    by-end delim message text None = (refl, refl)
    by-end delim message text (Some inner) = bare-closed delim inner

    by-sides : (delim rest : List ℕ) → Bare (delimited_node cs delim rest)
    by-sides delim rest = on_both Bare (is_pair delim rest) two_delimiters _ (refl, refl) (by-end delim _ _ (before_ticks (length delim) rest))

bare-raw-token : (k : CharClasses) (t : Token) (taken : List ℕ) → t.kind ≡ kind.Raw → Bare (token_node k t taken)
bare-raw-token k t taken e = elim t.fault as (λ o. Bare (elim o as (λ _. Tree) [ None ↦ plain_node k t taken | Some f ↦ fault_node f taken ])) [
  | None ↦ subst (λ j. Bare (if is_error j then error_of [] (encode_utf8_all taken) else (if is_raw j then raw_node taken else (if has_fields j then access_node taken else leaf_of j (encode_utf8_all taken))))) (sym e) (bare-raw taken)
  | Some f ↦ bare-error (fault_node f taken) (fault-error f taken)
]

-- ---- a token that is taken

-- the trivia, the token, and nothing else
pub record Takes (l : Level) (z : Place) (s : Point) (making : Making) {A : Type 0} (o : Outcome A) : Type 0 where
  pub nodes : o.nodes ≡ (hand_of l z s).trivia ++ taken_node l.classes making (hand_of l z s) z ∷ []
  pub hints : o.hints ≡ []

module _ (l : Level) where
  pub takes-making : (trims : Bool) (making : Making) (z : Place) (s : Point) → Takes l z s making (run l (eat_making trims making) z s)
  unfolding run eat_making
  takes-making trims making z s =
      let o = run l (does (takes trims making)) z s in
      let q = run l (next peek (λ a. gives tt)) (moved o.taken z) o.state in
      let a = run l peek (moved o.taken z) o.state in
      let i = silent-joined a (plain {A = Unit {0}} tt a.state) (record { nodes = refl; back = refl; hints = refl }) (silent-plain tt a.state) in
      record {
        nodes = standing-silent q i o.nodes;
        hints = on_both (λ (hs : List (List ℕ)). hs ≡ []) (nat_lt q.back (length o.nodes)) o.hints _ refl (on_both (λ (hs : List (List ℕ)). hs ≡ []) (nat_lt (length o.nodes) q.back) q.hints (o.hints ++ q.hints) i.hints i.hints);
      }

  pub back-eat : (z : Place) (s : Point) → (run l eat z s).back ≡ 0
  unfolding run eat eat_making
  back-eat z s = omega arith

  -- what a calm token becomes
  pub bare-taken : (z : Place) (s : Point) → is_calm (hand_of l z s).kind ≡ true → Bare (taken_node l.classes itself (hand_of l z s) z)
  bare-taken z s e = by-kind (is_raw i) refl e
    where
      i : SyntaxKind
      i = (hand_of l z s).kind

      by-kind : (b : Bool) → is_raw i ≡ b → (b || (is_quiet i && not (is_end i || is_plain i))) ≡ true → Bare (taken_node l.classes itself (hand_of l z s) z)
      by-kind true r c = bare-raw-token l.classes (hand_of l z s).token _ (hand-kind l.classes s.held s.known z kind.Raw refl (raw-is i r))
      by-kind false r c =
          let both = and_parts (is_quiet i) (not (is_end i || is_plain i)) c in
          let leaf = not-true (is_end i || is_plain i) both.1 in
          let q = quiet-sign i both.0 in
          leafy-bare i _ (taken_node l.classes itself (hand_of l z s) z) q.0 q.1
          (leafy-token l.classes (hand_of l z s).token _ i (hand-kind l.classes s.held s.known z i (or-left (is_end i) (is_plain i) leaf) refl) (or-right (is_end i) (is_plain i) leaf))

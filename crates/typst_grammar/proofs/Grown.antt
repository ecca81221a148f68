-- Expressions of code bind: what grows turn by turn.
use Rattle.typst_grammar.proofs.Cited.{◌≡◌, ℕ, zero, suc, ◌+◌, ◌≤◌, ◌<◌, Bool, true, false, ◌&&◌, ◌||◌, if◌then◌else◌, nat_lt, List, [], ◌∷◌, ◌++◌, length, take, drop, nat_le, length-append, length-take, append_assoc, Option, Some, None, refl, ap, sym, ◌∙◌, ◌⊎◌, inl, inr, subst, arith, is_error, is_trivia, binary_precedence, BinOp, SyntaxKind, Place, moved, Tree, forest, leaf_of, inner_of, CharClasses, hand_at, Point, Shape, becomes, hinted, Outcome, Meaning, less, joined, answered, bound, inside, reshaped, grown, is_more, growths, length-hinted, moved-sum, less-none, length-less, any_errors, has_errors, first_sign, operator_of, binds_by, right_least, node_binds}
use Rattle.typst_kinds.specs.declared.kind.SyntaxKind.TheVariants as kind
use Rattle.typst_grammar.proofs.Signs.{sign_of, NoSign}
use Rattle.typst_grammar.proofs.Fine.{All, or-left, or-right, all-append, all-drop, all-map, fines-after, fine-binary, leaf-operator, no-operator, is-unbinary, tame-unbinary, tame_kind}
use Rattle.typst_grammar.proofs.FineRuns.{Binds, Still, binds-joined, binds-reshaped}
use Rattle.typst_grammar.proofs.Heads.{Silent, standing-silent, Leafy, LastIs, last-map, last-one, after-take}
use Rattle.typst_grammar.proofs.BindingTurns.{tight-binds, bare-binds, BindsBy, Sane, below, Tight, binary-binds, all-sane, all-with, last-with, all-left, all-right}

-- ---- what stands left and right of an operator

-- several nodes that follow one another, without the first of them: some of the first ones, and all of the last
record Split (m : ℕ) (xs bs cs : List Tree) : Type 1 where
  front : List Tree
  same : drop m (xs ++ (bs ++ cs)) ≡ front ++ cs
  all : (P : Tree → Type 0) → All P (drop m xs) → All P bs → All P front

split-second : (m : ℕ) (bs cs : List Tree) → m ≤ length bs → Split m [] bs cs
split-second zero bs cs h = record { front = bs; same = refl; all = λ P a b. b }
split-second (suc m) [] cs h = absurd (omega arith)
split-second (suc m) (b ∷ bs) cs h = let r = split-second m bs cs (omega arith) in record { front = r.front; same = r.same; all = λ P a b. r.all P (all-drop P m [] tt) b.1 }

split : (m : ℕ) (xs bs cs : List Tree) → m ≤ length xs + length bs → Split m xs bs cs
split zero xs bs cs h = record { front = xs ++ bs; same = sym (append_assoc xs bs cs); all = λ P a b. all-append P xs bs a b }
split (suc m) [] bs cs h = split-second (suc m) bs cs (omega arith)
split (suc m) (x ∷ xs) bs cs h = let r = split m xs bs cs (omega arith) in record { front = r.front; same = r.same; all = r.all }

-- an operator is no trivia
sign-trivia : (i : SyntaxKind) (op : BinOp) → sign_of i ≡ Some op → is_trivia i ≡ false
sign-trivia i op h = grind arith

right-most : (op : BinOp) → right_least op ≤ suc (binary_precedence op)
right-most op = grind arith

below-more : (a b : ℕ) (i : SyntaxKind) → a ≤ b → below a i ≡ true → below b i ≡ true
below-more a b i h e = grind arith

last-left : (E P : Type 0) (Q : Tree → Type 0) (ts : List Tree) → LastIs E (λ t. Q t × P) ts → (E → P) → P
last-left E P Q [] h f = f h
last-left E P Q (t ∷ []) h f = h.1
last-left E P Q (t ∷ u ∷ ts) h f = last-left E P Q (u ∷ ts) h f

-- no errors are among the last of them where none are among all
pub errors-second : (t : Tree) (ts : List Tree) → any_errors (forest (t ∷ ts)) ≡ false → any_errors (forest ts) ≡ false
errors-second t ts n = or-right (any_errors t.kids) (any_errors (forest ts)) (or-right (is_error t.head.kind) (any_errors t.kids || any_errors (forest ts)) n)

pub errors-after : (ts us : List Tree) → any_errors (forest (ts ++ us)) ≡ false → any_errors (forest us) ≡ false
errors-after [] us n = n
errors-after (t ∷ ts) us n = errors-after ts us (errors-second t (ts ++ us) n)

-- the node over them binds, and as tightly as what comes
abbrev Fits : SyntaxKind → BinOp → List Tree → Type 0
Fits j op ts = (operator_of (inner_of kind.Binary (forest ts)) ≡ Some op) × ((node_binds (inner_of kind.Binary (forest ts)) ≡ true) × (below (suc (binary_precedence op)) j ≡ true))

-- an operator that was taken, with its right operand
module _ (i j : SyntaxKind) (op : BinOp) (text : List ℕ) (sgn : Tree) (ds : List Tree) (e : sign_of i ≡ Some op) (reads : any_errors (forest ds) ≡ false → sgn ≡ leaf_of i text → (ls : List Tree) → All NoSign ls → first_sign false (ls ++ sgn ∷ ds) ≡ Some op) (leafy : Leafy i text sgn)
    (right : any_errors (forest ds) ≡ false → LastIs (has_errors sgn ≡ true) (λ t. Sane t → BindsBy (right_least op) t × (below (right_least op) j ≡ true)) ds) where
  fits-leaf : sgn ≡ leaf_of i text → (ls : List Tree) → All NoSign ls → All (λ t. Sane t → BindsBy (binary_precedence op) t) ls → any_errors (forest (ls ++ sgn ∷ ds)) ≡ false → Fits j op (ls ++ sgn ∷ ds)
  fits-leaf is ls no_signs left n =
      let sane = all-sane (ls ++ sgn ∷ ds) n in
      let here = all-right Sane ls (sgn ∷ ds) sane in
      let r = last-with (has_errors sgn ≡ true) (λ t. BindsBy (right_least op) t × (below (right_least op) j ≡ true)) ds (right (errors-second sgn ds (errors-after ls (sgn ∷ ds) n))) here.1 in
      let wrong : has_errors sgn ≡ true → ⊥ = (λ w. let s = here.0 in absurd (cc)) in
      let tight = last-left (has_errors sgn ≡ true) (below (right_least op) j ≡ true) (BindsBy (right_least op)) ds r (λ w. absurd (wrong w)) in
      let k : sgn.head.kind ≡ i = ap (λ (t : Tree). t.head.kind) is in
      let b = binary-binds op ls sgn ds (reads (errors-second sgn ds (errors-after ls (sgn ∷ ds) n)) is ls no_signs) (ap is_trivia k ∙ sign-trivia i op e) (ap operator_of is ∙ leaf-operator i text) no_signs (all-with (BindsBy (binary_precedence op)) ls left (all-left Sane ls (sgn ∷ ds) sane))
      (last-map (has_errors sgn ≡ true) (Unit {0}) (λ t. BindsBy (right_least op) t × (below (right_least op) j ≡ true)) (BindsBy (right_least op)) (λ w. tt) (λ t x. x.0) ds r) in
      (b.0, (b.1, below-more (right_least op) (suc (binary_precedence op)) j (right-most op) tight))

  fits : (ls : List Tree) → All NoSign ls → All (λ t. Sane t → BindsBy (binary_precedence op) t) ls → any_errors (forest (ls ++ sgn ∷ ds)) ≡ false → Fits j op (ls ++ sgn ∷ ds)
  fits ls no_signs left n = by-leaf leafy
    where
      wrong : sgn.head.kind ≡ kind.Error → ⊥
      wrong w = let s = (all-right Sane ls (sgn ∷ ds) (all-sane (ls ++ sgn ∷ ds) n)).0 in let x = or-left (is_error sgn.head.kind) (any_errors sgn.kids) s in let y = ap is_error w in absurd (cc)

      by-leaf : Leafy i text sgn → Fits j op (ls ++ sgn ∷ ds)
      by-leaf (inl w) = absurd (wrong w)
      by-leaf (inr is) = fits-leaf is ls no_signs left n

module _ (k : CharClasses) (least : ℕ) where
  abbrev pub kind_at : Place → Point → SyntaxKind
  kind_at z s = (hand_at k s.held s.known z).kind

  -- what stands left of the token at hand: no operator, and where it has one, that binds at least as tightly as what comes
  abbrev pub Leftward : SyntaxKind → Tree → Type 0
  Leftward i t = NoSign t × (Sane t → Tight i t)

  -- an operand that ends: it binds as tightly as it should, and what comes less tightly
  abbrev pub Ended : SyntaxKind → Tree → Type 0
  Ended i t = Sane t → BindsBy least t × (below least i ≡ true)

  -- what grew so far
  pub record Grown {A : Type 0} (n : ℕ) (z : Place) (s : Point) (o : Outcome A) : Type 0 where
    pub binds : Binds o
    pub inside : All (Leftward (kind_at (moved o.taken z) o.state)) (drop (n + o.back) o.nodes)
    pub last : LastIs (s.is_after_error ≡ true) (λ t. Sane t → BindsBy least t) o.nodes
    -- what stood before it is left of the token at hand
    pub enough : n + o.back ≤ length o.nodes + length (hand_at k o.state.held o.state.known (moved o.taken z)).trivia

  tight-of : (j : SyntaxKind) (op : BinOp) (t : Tree) → operator_of t ≡ Some op → below (suc (binary_precedence op)) j ≡ true → Tight j t
  tight-of j op t e b = subst (λ (o : Option BinOp). elim o as (λ _. Type 0) [ None ↦ Unit {0} | Some x ↦ below (suc (binary_precedence x)) j ≡ true ]) (sym e) b

  -- an operator with its operands becomes a node
  module _ {A : Type 0} (n : ℕ) (z : Place) (s : Point) (o : Outcome A) (p : Outcome (Option Shape × A)) (a : A) (g : Grown n z s o) where
    abbrev w : Place
    w = moved o.taken z

    abbrev i : SyntaxKind
    i = kind_at w o.state

    abbrev j : SyntaxKind
    j = kind_at (moved p.taken w) p.state

    abbrev trivia : List Tree
    trivia = (hand_at k o.state.held o.state.known w).trivia

    abbrev x : Outcome A
    x = answered a (joined o p)

    pub grown-binary : (op : BinOp) (text : List ℕ) (sgn : Tree) (ds : List Tree) → sign_of i ≡ Some op → (any_errors (forest ds) ≡ false → sgn ≡ leaf_of i text → (ls : List Tree) → All NoSign ls → first_sign false (ls ++ sgn ∷ ds) ≡ Some op) → nat_le least (binary_precedence op) ≡ true → Leafy i text sgn → All Still trivia
        → p.nodes ≡ trivia ++ sgn ∷ ds → p.back ≡ 0 → p.hints ≡ [] → Binds p → (any_errors (forest ds) ≡ false → LastIs (has_errors sgn ≡ true) (λ t. Sane t → BindsBy (right_least op) t × (below (right_least op) j ≡ true)) ds)
        → Grown n z s (reshaped (becomes kind.Binary) n x)
    grown-binary op text sgn ds e reads l leafy still nodes back hints b right =
        let m = n + x.back in
        let is : x.nodes ≡ o.nodes ++ (trivia ++ sgn ∷ ds) = rw (hints, back) (ap (λ ts. ts ++ p.nodes) (less-none o.nodes) ∙ ap (λ ts. o.nodes ++ ts) nodes) in
        let same-m : m ≡ n + o.back = omega (arith, back) in
        let en = g.enough in
        let sp = split m o.nodes trivia (sgn ∷ ds) (omega (arith, en, same-m)) in
        let cs = inside n x in
        let same-cs : cs ≡ sp.front ++ sgn ∷ ds = ap (λ ts. drop m ts) is ∙ sp.same in
        let left = subst (λ (y : ℕ). All (Leftward i) (drop y o.nodes)) (sym same-m) g.inside in
        let no_signs = sp.all NoSign (all-map (Leftward i) NoSign (λ t h. h.0) (drop m o.nodes) left) (all-map Still NoSign (λ t h. h.no_sign) trivia still) in
        let binding = sp.all (λ t. Sane t → BindsBy (binary_precedence op) t) (all-map (Leftward i) (λ t. Sane t → BindsBy (binary_precedence op) t) (λ t h y. tight-binds i op t e (h.1 y)) (drop m o.nodes) left)
        (all-map Still (λ t. Sane t → BindsBy (binary_precedence op) t) (λ t h y. bare-binds (binary_precedence op) t h.no_operator) trivia still) in
        let fit : any_errors (forest cs) ≡ false → Fits j op cs = subst (λ (ts : List Tree). any_errors (forest ts) ≡ false → Fits j op ts) (sym same-cs) (fits i j op text sgn ds e reads leafy right sp.front no_signs binding) in
        let node = inner_of kind.Binary (forest cs) in
        let all = binds-joined o p g.binds b in
        let there : kind_at (moved (o.taken + p.taken) z) p.state ≡ j = ap (λ (v : Place). kind_at v p.state) (moved-sum o.taken p.taken z) in
        let leftward : Leftward j node = (refl, λ y. tight-of j op node (fit y).0 (fit y).1.1) in
        record {
          binds = record { nodes = fines-after m x.nodes (node ∷ []) all.nodes (λ h. (fine-binary cs h (λ y. (fit y).1.0), inr tt)); known = all.known };
          inside = after-take (Leftward (kind_at (moved (o.taken + p.taken) z) p.state)) m x.nodes (node ∷ []) (subst (λ (v : SyntaxKind). Leftward v node) (sym there) leftward, tt);
          last = last-one (s.is_after_error ≡ true) (λ t. Sane t → BindsBy least t) (take m x.nodes) node (λ y. by-operator node (fit y).0);
          enough = (let a1 = length-append o.nodes (trivia ++ sgn ∷ ds) in let a2 = length-append trivia (sgn ∷ ds) in let a3 = ap (λ (ts : List Tree). length ts) is in let a4 = length-take m x.nodes in let a5 = length-append (take m x.nodes) (node ∷ []) in omega (arith, a1, a2, a3, a4, a5, en, same-m));
        }
      where
        by-operator : (t : Tree) → operator_of t ≡ Some op → BindsBy least t
        by-operator t y = rw (y, binds_by) l

  pub tight-none : (j : SyntaxKind) (t : Tree) → operator_of t ≡ None → Tight j t
  tight-none j t e = subst (λ (o : Option BinOp). elim o as (λ _. Type 0) [ None ↦ Unit {0} | Some x ↦ below (suc (binary_precedence x)) j ≡ true ]) (sym e) tt

  -- another tail becomes a node
  module _ {A : Type 0} (n : ℕ) (z : Place) (s : Point) (o : Outcome A) (p : Outcome (Option Shape × A)) (a : A) (g : Grown n z s o) where
    pub grown-other : (i : SyntaxKind) → tame_kind i ≡ true → sign_of i ≡ None → p.back ≡ 0 → length (hand_at k o.state.held o.state.known (moved o.taken z)).trivia ≤ length p.nodes → Binds p → Grown n z s (reshaped (becomes i) n (answered a (joined o p)))
    grown-other i e f back long b =
        let x = answered a (joined o p) in
        let m = n + x.back in
        let node = inner_of i (forest (inside n x)) in
        let all = binds-joined o p g.binds b in
        let none = no-operator node (is-unbinary i (tame-unbinary i e)) in
        let en = g.enough in
        let a1 = length-append (hinted p.hints (less p.back o.nodes)) p.nodes in
        let a2 = length-less p.back o.nodes in
        let a3 = length-hinted p.hints (less p.back o.nodes) in
        let a4 = length-take m x.nodes in
        let a5 = length-append (take m x.nodes) (node ∷ []) in
        let j = kind_at (moved (o.taken + p.taken) z) p.state in
        record {
          binds = binds-reshaped (becomes i) (tame-unbinary i e) n x (record { nodes = all.nodes; known = all.known });
          inside = after-take (Leftward j) m x.nodes (node ∷ []) ((f, λ y. tight-none j node none), tt);
          last = last-one (s.is_after_error ≡ true) (λ t. Sane t → BindsBy least t) (take m x.nodes) node (λ y. bare-binds least node none);
          enough = omega (arith, back, long, en, a1, a2, a3, a4, a5);
        }

  -- an operand
  pub record Operand {A : Type 0} (z : Place) (s : Point) (o : Outcome A) : Type 0 where
    pub binds : Binds o
    pub last : any_errors (forest o.nodes) ≡ false → LastIs (s.is_after_error ≡ true) (Ended (kind_at (moved o.taken z) o.state)) o.nodes

  -- a turn stops, or takes something and goes on
  pub record Stopped {A : Type 0} (z : Place) (s : Point) (p : Outcome (Option Shape × A)) (next : Outcome A) : Type 0 where
    pub says : is_more p.value.0 ≡ false
    pub operand : Operand z s next

  pub record WentOn {A : Type 0} (n : ℕ) (z : Place) (s : Point) (p : Outcome (Option Shape × A)) (next : Outcome A) : Type 0 where
    pub says : is_more p.value.0 ≡ true
    pub taken : 0 < p.taken
    pub grown : Grown n z s next

  abbrev pub turned : {A : Type 0} → ℕ → Outcome A → Outcome (Option Shape × A) → Outcome A
  turned n o p = grown n p.value.0 (answered p.value.1 (joined o p))

  -- nothing comes that is taken: the operand ends
  pub stopped-silent : {A : Type 0} (n : ℕ) (z : Place) (s : Point) (o : Outcome A) (p : Outcome (Option Shape × A)) → Grown n z s o → Silent p → p.value.0 ≡ None → Binds p
      → kind_at (moved p.taken (moved o.taken z)) p.state ≡ kind_at (moved o.taken z) o.state → below least (kind_at (moved o.taken z) o.state) ≡ true → Stopped z s p (turned n o p)
  stopped-silent n z s o p g q none b same l = grind (arith, moved-sum, binds-joined, last-map, standing-silent)

  stops-if : {A : Type 0} (z : Place) (s : Point) (a b : Bool) (x y : Outcome A) → a ≡ false → Operand z s y → Operand z s (if a && b then x else y)
  stops-if z s a b x y e h = grind arith

  goes-if : {A : Type 0} (z : Place) (s : Point) (a b : Bool) (x y : Outcome A) → a ≡ true → b ≡ true → Operand z s x → Operand z s (if a && b then x else y)
  goes-if z s a b x y e f h = grind arith

  -- all turns; each that goes on leaves less
  module _ {A : Type 0} (m : A → Meaning (Option Shape × A)) (n : ℕ) (z : Place) (s : Point) where
    abbrev pub Turns : Type 0
    Turns = (o : Outcome A) → Grown n z s o →
        let p = m o.value (moved o.taken z) o.state in
        Stopped z s p (turned n o p) ⊎ (WentOn n z s p (turned n o p) × (p.taken + bound (moved (turned n o p).taken z) (turned n o p).state ≤ bound (moved o.taken z) o.state))

    pub operand-growths : Turns → (fuel : ℕ) (o : Outcome A) → bound (moved o.taken z) o.state < fuel → Grown n z s o → Operand z s (growths m n fuel o z)
    operand-growths turn zero o h g = absurd (omega arith)
    operand-growths turn (suc fuel) o h g = by-turn (turn o g) (operand-growths turn fuel)
      where
        p : Outcome (Option Shape × A)
        p = m o.value (moved o.taken z) o.state

        by-turn : Stopped z s p (turned n o p) ⊎ (WentOn n z s p (turned n o p) × (p.taken + bound (moved (turned n o p).taken z) (turned n o p).state ≤ bound (moved o.taken z) o.state))
            → ((o : Outcome A) → bound (moved o.taken z) o.state < fuel → Grown n z s o → Operand z s (growths m n fuel o z)) → Operand z s (growths m n (suc fuel) o z)
        by-turn (inl x) rest = stops-if z s (is_more p.value.0) (nat_lt 0 p.taken) (growths m n fuel (turned n o p) z) (turned n o p) x.says x.operand
        by-turn (inr x) rest = grind arith

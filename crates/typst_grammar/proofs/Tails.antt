-- What takes an expression into its node, turn by turn.
use Rattle.typst_grammar.proofs.Cited.{codes, append_assoc, ◌≡◌, ℕ, ◌+◌, ◌≤◌, ◌<◌, Bool, true, false, ◌||◌, not, if◌then◌else◌, List, [], ◌∷◌, ◌++◌, Option, Some, None, refl, ap, sym, ◌∙◌, ◌⊎◌, inl, inr, subst, arith, encode_utf8_all, same, is_error, SyntaxKind, BinOp, Place, moved, Tree, forest, CharClasses, CodeExpr, calls_directly, opens_arguments, field, CodeTail, deeper, is_end, code_tail_turn, call_tail, not_in, binary_expr, code_tail, operand_least, tail_by, Hand, AtHand, as_at_hand, text_ahead, is_nil, Point, pending, Shape, becomes, peek, eat, expected, Parser, next, Outcome, Level, plain, less, reshaped, joined, answered, bound, grown, is_more, hand_of, hand_asks_of, asked, run, hand-again, hand-takes, sane-at, moved-sum, no-end, any_errors, has_errors, first_sign, right_least}
use Rattle.typst_kinds.specs.declared.kind.SyntaxKind.TheVariants as kind
use Rattle.typst_kinds.specs.declared.operator.BinOp.TheVariants as binary
use Rattle.typst_lines.proofs.Bools.{and-first}
use Rattle.typst_code.specs.declared.heads.CodeTail.TheVariants as tail
use Rattle.typst_grammar.specs.Grammar.{rules, level_at}
use Rattle.typst_grammar.proofs.Moves.{moves-eat}
use Rattle.typst_grammar.proofs.Signs.{sign_of, NoSign, reads-sign, reads-not}
use Rattle.typst_grammar.proofs.Fine.{All, all-map, or-left, or-right}
use Rattle.typst_grammar.proofs.FineRuns.{Binds, binds-joined, Still, still-hand, after-shape-known}
use Rattle.typst_grammar.proofs.Proper.{free, Proper, proper-eat}
use Rattle.typst_grammar.proofs.Heads.{standing-none, silent-joined, silent-plain, Leafy, LastIs, last-map, is_plain, leafy-token, hand-kind}
use Rattle.typst_grammar.proofs.BindingTurns.{Sane, all-sane, tail-comes}
use Rattle.typst_grammar.proofs.Operands.{Exact, exact-plain, exact-gives, exact-joined, taken_sign, exact-eat, eat-empties, eat-error, last_hinted, leafy-last, last-kind, operation-exact}
use Rattle.typst_grammar.proofs.Grown.{grown-other, errors-second, errors-after, kind_at, Grown, Ended, Stopped, WentOn, turned, grown-binary, stopped-silent}
use Rattle.typst_grammar.proofs.PlainCode.{proper-tail}
use Rattle.typst_grammar.proofs.Begun.{first-tail}
use Rattle.typst_grammar.proofs.Firsts.{eaten-first}
use Rattle.typst_grammar.proofs.Missing.{Missed, missed, error-kind}
use Rattle.typst_grammar.proofs.BindingLevels.{CallsBind, DeeperOperands, level-binds}
use Rattle.std.proofs.lemmas.Bool.{or_left}

-- ---- kinds of operators

-- the token of an operator is no end, and becomes a leaf
sign-leaf : (i : SyntaxKind) (op : BinOp) → sign_of i ≡ Some op → (is_end i || is_plain i) ≡ false
sign-leaf i op h = grind arith

no-error : (t : Tree) → t.head.kind ≡ kind.Error → any_errors (forest (t ∷ [])) ≡ false → ⊥
no-error t e n = let x = or-left (is_error t.head.kind) (any_errors t.kids || false) n in let y = ap is_error e in cc

-- the last of several nodes after one without errors
last-front : (E : Type 0) (P : Tree → Type 0) (ts : List Tree) (u : Tree) (us : List Tree) → Sane u → LastIs (has_errors u ≡ true) P us → LastIs E P (ts ++ u ∷ us)
last-front E P [] u [] n h = absurd (cc)
last-front E P [] u (v ∷ us) n h = last-map (has_errors u ≡ true) E P P (λ e. absurd (cc)) (λ t x. x) (v ∷ us) h
last-front E P (t ∷ []) u us n h = last-front E P [] u us n h
last-front E P (t ∷ v ∷ ts) u us n h = last-front E P (v ∷ ts) u us n h

module _ (k : CharClasses) (levels : ℕ) (d : CallsBind k levels) (ops : DeeperOperands k levels) where
  abbrev l : Level
  l = level_at k levels

  -- ---- an operator and its right operand

  module _ (op : BinOp) (v : Place) (y : Point) (still : All Still (pending y.known)) (e : (is_end (hand_of l v y).kind || is_plain (hand_of l v y).kind) ≡ false) where
    abbrev i : SyntaxKind
    i = (hand_of l v y).kind

    no_end : is_end i ≡ false
    no_end = or-left (is_end i) (is_plain i) e

    some : 0 < (hand_of l v y).len
    some = hand-takes k y.held y.known v no_end

    abbrev eaten : Outcome (Unit {0})
    eaten = run l eat v y

    abbrev after : Place
    after = moved eaten.taken v

    abbrev operand : Outcome (Unit {0})
    operand = run l (deeper (CodeExpr false (operand_least op)) tt) after eaten.state

    none : operand.back ≡ 0
    none = let t = ((sane-at (rules k) k levels (deeper (CodeExpr false (operand_least op)) tt)).backs after eaten.state).back in let f = eat-empties l v y some in omega (arith, t, f)

    abbrev pub sgn : Tree
    sgn = last_hinted operand.hints (taken_sign l v y)

    abbrev pub operands : List Tree
    operands = operand.nodes

    abbrev pub text : List ℕ
    text = encode_utf8_all (text_ahead (hand_of l v y).len (moved (hand_of l v y).gap v))

    abbrev pub whole : Outcome (Option Shape × Unit {0})
    whole = run l (binary_expr op) v y

    pub whole-exact : Exact whole ((hand_of l v y).trivia ++ sgn ∷ operands)
    unfolding run binary_expr
    whole-exact = operation-exact l v y operand (Some (becomes kind.Binary), tt) none

    pub whole-leafy : Leafy i text sgn
    whole-leafy =
        leafy-last operand.hints i text (taken_sign l v y) (or-left (is_error i) _ (or-right (is_end i) (is_plain i) e))
        (leafy-token k (hand_of l v y).token (text_ahead (hand_of l v y).len (moved (hand_of l v y).gap v)) i (hand-kind k y.held y.known v i no_end refl) (or-right (is_end i) (is_plain i) e))

    wrong-sign : eaten.state.is_after_error ≡ true → has_errors sgn ≡ true
    wrong-sign a = or_left (is_error sgn.head.kind) (any_errors sgn.kids) (last-kind operand.hints (taken_sign l v y) (sym (eat-error l v y) ∙ a))

    whole-taken : whole.taken ≡ eaten.taken + operand.taken
    unfolding run binary_expr
    whole-taken = omega arith

    whole-state : whole.state ≡ operand.state
    unfolding run binary_expr
    whole-state = refl

    whole-kind : kind_at k 0 (moved whole.taken v) whole.state ≡ kind_at k 0 (moved operand.taken after) operand.state
    whole-kind = ap (λ (t : Point). kind_at k 0 (moved whole.taken v) t) whole-state ∙ ap (λ (p : Place). kind_at k 0 p operand.state) (ap (λ (n : ℕ). moved n v) whole-taken ∙ moved-sum eaten.taken operand.taken v)

    pub whole-right : any_errors (forest operands) ≡ false → LastIs (has_errors sgn ≡ true) (Ended k (right_least op) (kind_at k 0 (moved whole.taken v) whole.state)) operands
    whole-right n = grind (arith, ops (operand_least op) after eaten.state (level-binds k levels d eat (proper-eat _) v y still).known, last-map, wrong-sign, whole-kind)

  -- ---- each turn

  module _ (least : ℕ) where
    abbrev turn_by : CodeTail → Parser (Option Shape × Unit {0})
    turn_by t = next peek (λ _. tail_by t)

    proper-turn : (t : CodeTail) → Proper free (turn_by t)
    proper-turn t = (refl, λ _. proper-tail _ t)

    module _ (n : ℕ) (z : Place) (s : Point) (o : Outcome (Unit {0})) (g : Grown k least n z s o) where
      abbrev w : Place
      w = moved o.taken z

      abbrev h : Hand
      h = hand_of l w o.state

      abbrev p_of : CodeTail → Outcome (Option Shape × Unit {0})
      p_of t = run l (turn_by t) w o.state

      -- no more is taken than there is
      abbrev Fits : Outcome (Option Shape × Unit {0}) → Type 0
      Fits p = p.taken + bound (moved p.taken w) p.state ≤ bound w o.state

      fits : (t : CodeTail) → Fits (p_of t)
      fits t = (sane-at (rules k) k levels (turn_by t)).within w o.state

      -- it stops, or goes on with less to come
      abbrev pub Turned : Outcome (Option Shape × Unit {0}) → Type 0
      Turned p =
          Stopped k least z s p (turned k least n o p)
          ⊎ (WentOn k least n z s p (turned k least n o p) × (p.taken + bound (moved (turned k least n o p).taken z) (turned k least n o p).state ≤ bound w o.state))

      bound-by : (p : Outcome (Option Shape × Unit {0})) (v : Option Shape) → bound (moved (grown n v (answered p.value.1 (joined o p))).taken z) (grown n v (answered p.value.1 (joined o p))).state ≡ bound (moved p.taken w) p.state
      bound-by p v = grind (arith, moved-sum, after-shape-known)

      went : (p : Outcome (Option Shape × Unit {0})) → Fits p → is_more p.value.0 ≡ true → 0 < p.taken → Grown k least n z s (turned k least n o p) → Turned p
      went p less says taken grew = let same = bound-by p p.value.0 in inr (record { says = says; taken = taken; grown = grew }, omega (arith, less, same))

      -- the token at hand once it was asked for
      abbrev t : Point
      t = asked h o.state

      again : hand_of l w t ≡ h
      again = hand-again k o.state.held o.state.known w

      still : All Still h.trivia
      still = still-hand l w o.state g.binds.known

      abbrev nothing : Option Shape × Unit {0}
      nothing = (None, tt {0})

      turn-nothing : (has_trivia : Bool) → code_tail false least h.kind has_trivia ≡ tail.Nothing → Turned (p_of tail.Nothing)
      unfolding run
      turn-nothing has_trivia e =
          let p = p_of tail.Nothing in
          let first = record (plain (as_at_hand h) t) { asks = hand_asks_of l w o.state } in
          inl (stopped-silent k least n z s o p g (silent-joined first (plain nothing t) (record { nodes = refl; back = refl; hints = refl }) (silent-plain nothing t)) refl
          (level-binds k levels d (turn_by tail.Nothing) (proper-turn tail.Nothing) w o.state g.binds.known) (ap (λ (x : Hand). x.kind) again) (tail-comes least h.kind has_trivia tail.Nothing e))

      -- the token at hand takes something
      comes : is_end h.kind ≡ false → 0 < h.gap + h.len
      comes e = let x = hand-takes k o.state.held o.state.known w e in omega (arith, x)

      turn-binary : (op : BinOp) (has_trivia : Bool) → code_tail false least h.kind has_trivia ≡ tail.Binary op → Turned (p_of (tail.Binary op))
      unfolding run binary_expr
      turn-binary op has_trivia e =
          let c = tail-comes least h.kind has_trivia (tail.Binary op) e in
          let p = p_of (tail.Binary op) in
          let first = record (plain (as_at_hand h) t) { asks = hand_asks_of l w o.state } in
          let there : (is_end (hand_of l w t).kind || is_plain (hand_of l w t).kind) ≡ false = ap (λ (x : Hand). is_end x.kind || is_plain x.kind) again ∙ sign-leaf h.kind op c.0 in
          let q = run l (binary_expr op) w t in
          let x = exact-joined first q [] ((hand_of l w t).trivia ++ sgn op w t still there ∷ operands op w t still there) (exact-plain (as_at_hand h) t (hand_asks_of l w o.state)) (whole-exact op w t still there) in
          let same_taken : 0 + q.taken ≡ q.taken = omega arith in
          let same_kind : kind_at k 0 (moved p.taken w) p.state ≡ kind_at k 0 (moved q.taken w) q.state = ap (λ (m : ℕ). kind_at k 0 (moved m w) q.state) same_taken in
          went p (fits (tail.Binary op)) refl ((eaten-first k levels (turn_by (tail.Binary op)) w o.state (first-tail (as_at_hand h) (tail.Binary op) (λ x. absurd (cc)) refl)).taken (comes (or-left (is_end h.kind) (is_plain h.kind) (sign-leaf h.kind op c.0))))
          (grown-binary k least n z s o p (tt {0}) g op (text op w t still there) (sgn op w t still there) (operands op w t still there) c.0
          (λ sane is ls no_signs. ap (λ (u : Tree). first_sign false (ls ++ u ∷ operands op w t still there)) is ∙ reads-sign op h.kind c.1.0 (text op w t still there) ls no_signs (operands op w t still there)) c.1.1
          (subst (λ (v : SyntaxKind). Leafy v (text op w t still there) (sgn op w t still there)) (ap (λ (v : Hand). v.kind) again) (whole-leafy op w t still there)) still
          (x.nodes ∙ ap (λ (v : Hand). v.trivia ++ sgn op w t still there ∷ operands op w t still there) again) x.back x.hints
          (level-binds k levels d (turn_by (tail.Binary op)) (proper-turn (tail.Binary op)) w o.state g.binds.known)
          (λ sane. subst (λ (v : SyntaxKind). LastIs (has_errors (sgn op w t still there) ≡ true) (Ended k (right_least op) v) (operands op w t still there)) (sym same_kind) (whole-right op w t still there sane)))

      -- ---- `not in`

      module _ (has_trivia : Bool) (e : code_tail false least h.kind has_trivia ≡ tail.NotIn) where
        sign_not : sign_of h.kind ≡ Some binary.NotIn
        sign_not = let x = (tail-comes least h.kind has_trivia tail.NotIn e).0 in rw x refl

        leaf_not : (is_end (hand_of l w t).kind || is_plain (hand_of l w t).kind) ≡ false
        leaf_not = ap (λ (x : Hand). is_end x.kind || is_plain x.kind) again ∙ sign-leaf h.kind binary.NotIn sign_not

        no_end_not : is_end (hand_of l w t).kind ≡ false
        no_end_not = or-left (is_end (hand_of l w t).kind) (is_plain (hand_of l w t).kind) leaf_not

        some_not : 0 < (hand_of l w t).len
        some_not = hand-takes k t.held t.known w no_end_not

        -- after `not`
        abbrev e1 : Outcome (Unit {0})
        e1 = run l eat w t

        abbrev w2 : Place
        w2 = moved e1.taken w

        abbrev h2 : Hand
        h2 = hand_of l w2 e1.state

        abbrev t2 : Point
        t2 = asked h2 e1.state

        abbrev pk1 : Outcome AtHand
        pk1 = record (plain (as_at_hand h) t) { asks = hand_asks_of l w o.state }

        abbrev pk2 : Outcome AtHand
        pk2 = record (plain (as_at_hand h2) t2) { asks = hand_asks_of l w2 e1.state }

        abbrev not_sign : Tree
        not_sign = taken_sign l w t

        still1 : All Still (pending e1.state.known)
        still1 = (level-binds k levels d eat (proper-eat _) w t still).known

        still2 : All Still (pending t2.known)
        still2 = still-hand l w2 e1.state still1

        again2 : hand_of l w2 t2 ≡ h2
        again2 = hand-again k e1.state.held e1.state.known w2

        -- with what comes after it
        abbrev after_not : Outcome (Option Shape × Unit {0}) → Outcome (Option Shape × Unit {0})
        after_not r = joined pk1 (joined e1 (joined pk2 r))

        exact-after : (r : Outcome (Option Shape × Unit {0})) (ts : List Tree) → Exact r ts → Exact (after_not r) (h.trivia ++ not_sign ∷ ts)
        exact-after r ts x =
            let y = exact-joined pk1 (joined e1 (joined pk2 r)) [] (((hand_of l w t).trivia ++ not_sign ∷ []) ++ ts) (exact-plain (as_at_hand h) t (hand_asks_of l w o.state))
            (exact-joined e1 (joined pk2 r) ((hand_of l w t).trivia ++ not_sign ∷ []) ts (exact-eat l w t) (exact-joined pk2 r [] ts (exact-plain (as_at_hand h2) t2 (hand_asks_of l w2 e1.state)) x)) in
            record { nodes = y.nodes ∙ append_assoc (hand_of l w t).trivia (not_sign ∷ []) ts ∙ ap (λ (v : Hand). v.trivia ++ not_sign ∷ ts) again; back = y.back; hints = y.hints }

        abbrev with_in : Outcome (Option Shape × Unit {0})
        with_in = run l (binary_expr binary.NotIn) w2 t2

        abbrev missing : Outcome (Unit {0})
        missing = run l (expected (codes "keyword `in`")) w2 t2

        abbrev without_in : Outcome (Option Shape × Unit {0})
        without_in = joined missing (plain nothing missing.state)

        leafy_not : Leafy h.kind (encode_utf8_all (text_ahead (hand_of l w t).len (moved (hand_of l w t).gap w))) not_sign
        leafy_not = grind (arith, again, leafy-token, hand-kind, no_end_not, or-right, leaf_not)

        in-leaf : (i : SyntaxKind) → same kind.In i ≡ true → (is_end i || is_plain i) ≡ false
        in-leaf i x = grind arith

        says-more : is_more (after_not with_in).value.0 ≡ true
        unfolding run binary_expr
        says-more = refl

        grown-more : Grown k least n z s (reshaped (becomes kind.Binary) n (answered (tt {0}) (joined o (after_not with_in)))) → Grown k least n z s (turned k least n o (after_not with_in))
        unfolding run binary_expr
        grown-more x = x

        -- it is `in` indeed
        is-in : (there : (is_end (hand_of l w2 t2).kind || is_plain (hand_of l w2 t2).kind) ≡ false) → same kind.In h2.kind ≡ true → Sane (sgn binary.NotIn w2 t2 still2 there) → same kind.In (sgn binary.NotIn w2 t2 still2 there).head.kind ≡ true
        is-in there f sane = by-leaf (whole-leafy binary.NotIn w2 t2 still2 there)
          where
            u : Tree
            u = sgn binary.NotIn w2 t2 still2 there

            by-leaf : Leafy (hand_of l w2 t2).kind (text binary.NotIn w2 t2 still2 there) u → same kind.In u.head.kind ≡ true
            by-leaf (inl x) = absurd (let a = or-left (is_error u.head.kind) (any_errors u.kids) sane in let b = ap is_error x in cc)
            by-leaf (inr x) = ap (λ (v : Tree). same kind.In v.head.kind) x ∙ ap (λ (v : Hand). same kind.In v.kind) again2 ∙ f

        went-in : same kind.In h2.kind ≡ true → Fits (after_not with_in) → Binds (after_not with_in) → Turned (after_not with_in)
        went-in is_in less b =
            let there : (is_end (hand_of l w2 t2).kind || is_plain (hand_of l w2 t2).kind) ≡ false = in-leaf (hand_of l w2 t2).kind (ap (λ (v : Hand). same kind.In v.kind) again2 ∙ is_in) in
            let in_sign = sgn binary.NotIn w2 t2 still2 there in
            let right = operands binary.NotIn w2 t2 still2 there in
            let before = (hand_of l w2 t2).trivia in
            let p = after_not with_in in
            let x = exact-after with_in (before ++ in_sign ∷ right) (whole-exact binary.NotIn w2 t2 still2 there) in
            let sum : p.taken ≡ e1.taken + with_in.taken = omega arith in
            let same_kind : kind_at k 0 (moved p.taken w) p.state ≡ kind_at k 0 (moved with_in.taken w2) with_in.state = ap (λ (v : Place). kind_at k 0 v with_in.state) (ap (λ (m : ℕ). moved m w) sum ∙ moved-sum e1.taken with_in.taken w) in
            let gap = ap (λ (v : Hand). v.len) again in
            let some = moves-eat l w t (omega (arith, some_not)) in
            went p less says-more (omega (arith, sum, some))
            (grown-more (grown-binary k least n z s o p (tt {0}) g binary.NotIn (encode_utf8_all (text_ahead (hand_of l w t).len (moved (hand_of l w t).gap w))) not_sign (before ++ in_sign ∷ right) sign_not (λ sane is ls no_signs. ap (λ (u : Tree). first_sign false (ls ++ u ∷ (before ++ in_sign ∷ right))) is ∙ reads-not h.kind (tail-comes least h.kind has_trivia tail.NotIn e).0 (encode_utf8_all (text_ahead (hand_of l w t).len (moved (hand_of l w t).gap w))) ls no_signs before (all-map Still NoSign (λ u x. x.no_sign) before (still-hand l w2 t2 still2)) in_sign (is-in there is_in (all-sane (in_sign ∷ right) (errors-after before (in_sign ∷ right) sane)).0) right) (tail-comes least h.kind has_trivia tail.NotIn e).1 leafy_not still
            x.nodes x.back x.hints b
            (λ sane. (let rest = errors-after before (in_sign ∷ right) sane in
            subst (λ (v : SyntaxKind). LastIs (has_errors not_sign ≡ true) (Ended k (right_least binary.NotIn) v) (before ++ in_sign ∷ right)) (sym same_kind)
            (last-front (has_errors not_sign ≡ true) (Ended k (right_least binary.NotIn) (kind_at k 0 (moved with_in.taken w2) with_in.state)) before in_sign right (all-sane (in_sign ∷ right) rest).0 (whole-right binary.NotIn w2 t2 still2 there (errors-second in_sign right rest)))))))

        left-over : (r : Outcome (Option Shape × Unit {0})) → any_errors (forest (after_not r).nodes) ≡ false → any_errors (forest r.nodes) ≡ false
        left-over r n = grind (arith, standing-none, errors-after)

        missing-left : any_errors (forest (after_not without_in).nodes) ≡ false → any_errors (forest missing.nodes) ≡ false
        missing-left n = subst (λ (ts : List Tree). any_errors (forest ts) ≡ false) (sym (no-end missing.nodes)) (left-over without_in n)

        never : Missed l w2 t2 missing → any_errors (forest (after_not without_in).nodes) ≡ false → ⊥
        never (inl x) n = no-error x.node x.is_wrong (errors-after (hand_of l w2 t2).trivia (x.node ∷ []) (subst (λ (ts : List Tree). any_errors (forest ts) ≡ false) x.nodes (missing-left n)))
        never (inr (inl x)) n = no-error x.node x.is_wrong (subst (λ (ts : List Tree). any_errors (forest ts) ≡ false) x.exact.nodes (missing-left n))
        never (inr (inr x)) n = let y = exact-after without_in [] (exact-gives missing nothing [] x.exact) in grind (arith, eat-error, no-error, error-kind, errors-after)

        stopped-in : Binds (after_not without_in) → Turned (after_not without_in)
        stopped-in b =
            let p = after_not without_in in
            let all = binds-joined o p g.binds b in
            grind (arith, never, missed, errors-after)

        by-in : (b : Bool) → same kind.In h2.kind ≡ b → Fits (after_not (if b then with_in else without_in)) → Binds (after_not (if b then with_in else without_in)) → Turned (after_not (if b then with_in else without_in))
        by-in b is less h = grind (arith, went-in, stopped-in)

        turn-not : Turned (p_of tail.NotIn)
        unfolding run not_in
        turn-not = by-in (same kind.In h2.kind) refl (fits tail.NotIn) (level-binds k levels d (turn_by tail.NotIn) (proper-turn tail.NotIn) w o.state g.binds.known)

      -- ---- calls and fields

      same-dot : (i : SyntaxKind) → same kind.Dot i ≡ true → is_end i ≡ false
      same-dot i x = grind arith

      opens-goes : (i : SyntaxKind) → opens_arguments i ≡ true → is_end i ≡ false
      opens-goes i x = grind arith

      turn-field : (has_trivia : Bool) → code_tail false least h.kind has_trivia ≡ tail.Field → Turned (p_of tail.Field)
      unfolding run field
      turn-field has_trivia e =
          let p = p_of tail.Field in
          let lead = eaten-first k levels (turn_by tail.Field) w o.state (first-tail (as_at_hand h) tail.Field (λ x. absurd (cc)) refl) in
          let room = lead.room in
          went p (fits tail.Field) refl (lead.taken (comes (same-dot h.kind (tail-comes least h.kind has_trivia tail.Field e))))
          (grown-other k least n z s o p (tt {0}) g kind.FieldAccess refl refl lead.none (omega (arith, room)) (level-binds k levels d (turn_by tail.Field) (proper-turn tail.Field) w o.state g.binds.known))

      turn-call : (has_trivia : Bool) → has_trivia ≡ not (is_nil h.trivia) → code_tail false least h.kind has_trivia ≡ tail.Call → Turned (p_of tail.Call)
      unfolding run call_tail
      turn-call has_trivia f e =
          let p = p_of tail.Call in
          let direct : calls_directly h.kind (not (is_nil h.trivia)) ≡ true = ap (calls_directly h.kind) (sym f) ∙ tail-comes least h.kind has_trivia tail.Call e in
          let lead = eaten-first k levels (turn_by tail.Call) w o.state (first-tail (as_at_hand h) tail.Call (λ _. direct) refl) in
          let room = lead.room in
          went p (fits tail.Call) refl (lead.taken (comes (opens-goes h.kind (and-first (opens_arguments h.kind) (not (not (is_nil h.trivia))) direct))))
          (grown-other k least n z s o p (tt {0}) g kind.FuncCall refl refl lead.none (omega (arith, room)) (level-binds k levels d (turn_by tail.Call) (proper-turn tail.Call) w o.state g.binds.known))

      by-tail : (t : CodeTail) → code_tail false least h.kind (not (is_nil h.trivia)) ≡ t → Turned (p_of t)
      by-tail tail.Call e = turn-call (not (is_nil h.trivia)) refl e
      by-tail tail.Field e = turn-field (not (is_nil h.trivia)) e
      by-tail tail.DirectField e = absurd (tail-comes least h.kind (not (is_nil h.trivia)) tail.DirectField e)
      by-tail tail.NotIn e = turn-not (not (is_nil h.trivia)) e
      by-tail (tail.Binary op) e = turn-binary op (not (is_nil h.trivia)) e
      by-tail tail.Nothing e = turn-nothing (not (is_nil h.trivia)) e

      pub turn-turned : Turned (run l (code_tail_turn false least tt) w o.state)
      unfolding run code_tail_turn
      turn-turned = by-tail (code_tail false least h.kind (not (is_nil h.trivia))) refl

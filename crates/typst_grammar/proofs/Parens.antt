-- What begins with a paren: a group or what it is read as, and the sign that may come after it.
use Rattle.typst_grammar.proofs.Cited.{length-append, ◌≡◌, ◌&&◌, Bool, true, false, if◌then◌else◌, List, refl, ap, ◌∙◌, ◌⊎◌, inl, inr, arith, rules, codes, ℕ, same, SyntaxKind, Place, moved, AfterName, closure_shape, expects, group, group_shape, Hand, AtHand, as_at_hand, params, expression_if, Found, destructuring, parts_kind, Point, pending, encloses, eat, eat_making, expect, expected, node, within, Parser, ◌>>=◌, gives, Outcome, Level, plain, joined, hand_of, hand_asks_of, asked, run, hand-again, on_both}
use Rattle.typst_kinds.specs.declared.kind.SyntaxKind.TheVariants as kind
use Rattle.typst_language.specs.declared.calls.AfterName.TheVariants as after
use Rattle.typst_code.specs.Parens.{after_group, as_group, after_if, readings, sign}
use Rattle.typst_grammar.proofs.Fine.{All, all-append}
use Rattle.typst_grammar.proofs.FineRuns.{Gives, Still, still-hand}
use Rattle.typst_grammar.proofs.Heads.{bare-error, is_quiet, Silent, silent-joined, silent-plain, standing-none, standing-silent}
use Rattle.typst_grammar.proofs.Leads.{all-bare}
use Rattle.typst_grammar.proofs.Missing.{Missed, missed}
use Rattle.typst_grammar.proofs.Openers.{makes, Unmet, Adds, Bares}
use Rattle.typst_grammar.proofs.PlainCode.{gives-rest, proper-readings}
use Rattle.typst_grammar.proofs.Proper.{free}

-- ---- what may stand in parens

pub quiet-closed : (k : SyntaxKind) → is_quiet k ≡ true → (closed : Bool) → makes (encloses k closed) ≡ true
quiet-closed k e closed = grind arith

quiet-parts : (x : Bool × Found) → makes (encloses (parts_kind x.1.0) x.0) ≡ true
quiet-parts x = quiet-closed (parts_kind x.1.0) (on_both (λ k. is_quiet k ≡ true) (x.1.0.any && x.1.0.is_plain) kind.Parenthesized kind.Destructuring refl refl) x.0

module _ (token : Type 0) (a : AtHand) where
  bare-group : (over : SyntaxKind → Type 0) → Bares token a true true over group
  unfolding eat eat_making node within group
  bare-group over = search (rules, gives-rest (λ x. makes (group_shape x) ≡ true) (quiet-closed kind.Parenthesized refl) (quiet-closed kind.Array refl) (quiet-closed kind.Dict refl)) depth 30

  bare-as-group : (over : AfterName → Type 0) → Bares token a true true over as_group
  unfolding eat eat_making node within as_group group
  bare-as-group over = (bare-group (λ read. (h : AtHand) → over (after_group read h.kind)), inl (λ _. inr (refl, λ _. tt)))

  bare-readings : (over : AfterName → Type 0) → Bares token a true true over readings
  unfolding eat eat_making node within readings as_group group params destructuring
  bare-readings over = search (rules, bare-as-group over, quiet-closed kind.Params refl, quiet-parts) depth 30

-- ---- a sign that doesn't come

-- with equal nodes a sign comes in neither outcome
unmet-same : {A B : Type 0} (o : Outcome A) (p : Outcome B) → p.nodes ≡ o.nodes → (Silent o → Silent p) → Unmet o → Unmet p
unmet-same o p e f h = grind arith

unmet-after : {A B : Type 0} (b : B) (t : Point) (asks : List _) (o : Outcome A) → Unmet o → Unmet (joined (record (plain b t) { asks = asks }) o)
unmet-after b t asks o x = let first = record (plain b t) { asks = asks } in unmet-same o (joined first o) (standing-none o) (λ y. silent-joined first o (record { nodes = refl; back = refl; hints = refl }) y) x

unmet-before : {A B : Type 0} (o : Outcome A) (p : Outcome B) → Silent p → Unmet o → Unmet (joined o p)
unmet-before o p q x = unmet-same o (joined o p) (standing-silent p q o.nodes) (λ y. silent-joined o p y q) x

module _ (l : Level) where
  unmet-expected : (thing : List ℕ) (z : Place) (s : Point) → All Still (pending s.known) → Missed l z s (run l (expected thing) z s) → Unmet (run l (expected thing) z s)
  unmet-expected thing z s still h = grind (arith, length-append, all-append, all-bare, still-hand, bare-error)

  unmet-by : (thing : List ℕ) (z : Place) (s : Point) → All Still (pending s.known) → (b : Bool) → b ≡ false → Unmet (if b then run l eat z s else run l (expected thing) z s)
  unmet-by thing z s still b e = grind (arith, unmet-expected, missed)

  unmet-expect : (is : SyntaxKind → Bool) (thing : List ℕ) (z : Place) (s : Point) → All Still (pending s.known) → is (hand_of l z s).kind ≡ false → Unmet (run l (expect is thing) z s)
  unfolding run expect
  unmet-expect is thing z s still e =
      let t = asked (hand_of l z s) s in
      unmet-after (as_at_hand (hand_of l z s)) t (hand_asks_of l z s) _ (unmet-by thing z t (still-hand l z s still) (is (hand_of l z s).kind) e)

  module _ (z : Place) (s : Point) (still : All Still (pending s.known)) (is : SyntaxKind → Bool) (thing : List ℕ) where
    abbrev t : Point
    t = asked (hand_of l z s) s

    abbrev met : Outcome (Unit {0})
    met = run l (expect is thing) z t

    abbrev signed : Bool → Outcome Bool
    signed came = joined (record (plain (as_at_hand (hand_of l z s)) t) { asks = hand_asks_of l z s }) (joined met (plain came met.state))

    abbrev after_met : Bool → AfterName → Outcome AfterName
    after_met came v = let x = signed came in let y = run l (expression_if came) (moved x.taken z) x.state in joined x (joined y (plain (after_if came v) y.state))

    by-sign : (v : AfterName) → makes (closure_shape v) ≡ true → (came : Bool) → is (hand_of l z s).kind ≡ came → (makes (closure_shape (after_met came v).value) ≡ true) ⊎ Unmet (after_met came v)
    unfolding run
    by-sign v made true e = inl made
    by-sign v made false e =
        let x = signed false in
        let y = plain (tt {0}) x.state in
        let end = joined y (plain after.Nothing x.state) in
        let silent = silent-joined y (plain after.Nothing x.state) (silent-plain (tt {0}) x.state) (silent-plain after.Nothing x.state) in
        let again = hand-again l.classes s.held s.known z in
        let none = unmet-expect is thing z t (still-hand l z s still) (ap (λ (u : Hand). is u.kind) again ∙ e) in
        inr (unmet-before x end silent (unmet-after (as_at_hand (hand_of l z s)) t (hand_asks_of l z s) (joined met (plain false met.state)) (unmet-before met (plain false met.state) (silent-plain false met.state) none)))

-- what comes after a reading
abbrev pub after_reading : AfterName → Parser AfterName
after_reading follows = sign follows >>= λ came. expression_if came >>= λ rest. gives (after_if came follows)

adds-sign : (v : AfterName) → Adds (λ x. makes (closure_shape x) ≡ true) (after_reading v)
unfolding run expects
adds-sign after.Arrow l z s still = by-sign l z s still (same kind.Arrow) (codes "arrow") after.Arrow refl (same kind.Arrow (hand_of l z s).kind) refl
adds-sign after.Eq l z s still = by-sign l z s still (same kind.Eq) (codes "equals sign") after.Eq refl (same kind.Eq (hand_of l z s).kind) refl
adds-sign after.Nothing l z s still =
    let a = plain false s in
    let y = plain (tt {0}) s in
    let end = joined y (plain after.Nothing s) in
    inr (inl (silent-joined a end (silent-plain false s) (silent-joined y (plain after.Nothing s) (silent-plain (tt {0}) s) (silent-plain after.Nothing s))))

-- what stands in the node of parens: what holds of it unless that is a node of its own
pub bare-parens : (token : Type 0) (a : AtHand) → Bares token a true true (λ x. makes (closure_shape x) ≡ true) (readings >>= after_reading)
unfolding readings
bare-parens token a = (bare-readings token a (λ v. Gives (λ x. makes (closure_shape x) ≡ true) (after_reading v)), inr (refl, (proper-readings free, adds-sign)))

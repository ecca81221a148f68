-- Turns that go on up to the end of a text read all of it.
use Rattle.typst_grammar.proofs.Cited.{◌≡◌, ℕ, zero, suc, ◌<◌, ◌≤◌, Bool, true, false, ◌&&◌, if◌then◌else◌, nat_lt, List, length, refl, ap, sym, ◌∙◌, arith, nat_tests, SyntaxKind, SyntaxMode, Place, moved, CharClasses, Reading, Point, Hand, AtHand, hand_at, as_at_hand, Parser, ◌>>◌, hand, is_deepest, gives, does, next, pick, repeat, flush_trivia, is_end, Outcome, Level, joined, turns, as_last, bound, repeated, hand_of, asked, start_point, run, moved-sum, ahead-left, hand-takes, hand-ends, hand-again, sane-at}
use Rattle.typst_language.specs.declared.reading.AtNewline.TheVariants as newline
use Rattle.typst_language.proofs.Rests.{Rests}
use Rattle.typst_grammar.specs.Grammar.{rules, level_at, max_depth, start_of}

on_false : {A : Type 0} (P : A → Type 0) (b : Bool) (x y : A) → b ≡ false → P y → P (if b then x else y)
on_false P b x y e p = grind arith

on_true : {A : Type 0} (P : A → Type 0) (b : Bool) (x y : A) → b ≡ true → P x → P (if b then x else y)
on_true P b x y e p = grind arith

by_cases : {P : Type 0} (b : Bool) → (b ≡ true → P) → (b ≡ false → P) → P
by_cases b f g = grind arith

is-less : (n : ℕ) → 0 < n → nat_lt 0 n ≡ true
is-less n h = grind (arith, nat_tests)

-- another turn comes, and this one took something
pub record GoesOn {A : Type 0} (o : Outcome (Bool × A)) : Type 0 where
  pub says : o.value.0 ≡ true
  pub taken : 0 < o.taken

module _ (k : CharClasses) where
  abbrev pub top : Level
  top = level_at k max_depth

  abbrev pub kind_at : Place → Point → SyntaxKind
  kind_at z s = (hand_of top z s).kind

  -- the point once the token at hand was asked for
  abbrev known : Place → Point → Point
  known z s = asked (hand_of top z s) s

  kind-again : (z : Place) (s : Point) → kind_at z (known z s) ≡ kind_at z s
  kind-again z s = ap (λ (h : Hand). h.kind) (hand-again k s.held s.known z)

  -- ---- one turn

  -- the last turn, with the same token at hand after it
  pub record Stops {A : Type 0} (z : Place) (s : Point) (o : Outcome (Bool × A)) : Type 0 where
    pub says : o.value.0 ≡ false
    pub taken : o.taken ≡ 0
    pub kind : kind_at z o.state ≡ kind_at z s

  -- the end of the text stops a turn, and nothing else
  pub record StopsAtEnd {A : Type 0} (p : Parser (Bool × A)) : Type 0 where
    pub stops : (z : Place) (s : Point) → is_end (kind_at z s) ≡ true → Stops z s (run top p z s)
    pub goes : (z : Place) (s : Point) → is_end (kind_at z s) ≡ false → GoesOn (run top p z s)

  -- what goes on wherever a token is at hand
  abbrev pub Goes : {A : Type 0} → Parser (Bool × A) → Type 0
  Goes p = (z : Place) (s : Point) → 0 < (hand_of top z s).len → GoesOn (run top p z s)

  -- it asks for the token at hand, and then does one or the other
  pub turn-stops : {A : Type 0} (test : SyntaxKind → Bool) (x : A) (rest : AtHand → Parser (Bool × A)) → ((i : SyntaxKind) → test i ≡ is_end i) → ((h : AtHand) → Goes (rest h))
      → StopsAtEnd (next (does hand) (λ h. pick (test h.kind) (gives (false, x)) (rest h)))
  unfolding run
  turn-stops test x rest same goes = record {
    stops = λ z s e.
        on_true (λ o. Stops z s (joined (run top (does hand) z s) o)) (test (kind_at z s)) (run top (gives (false, x)) (moved 0 z) (known z s)) (run top (rest (as_at_hand (hand_of top z s))) (moved 0 z) (known z s))
        (same (kind_at z s) ∙ e) (record { says = refl; taken = refl; kind = kind-again z s });
    goes = λ z s e.
        let t = known z s in
        let more = goes (as_at_hand (hand_of top z s)) z t (hand-takes k t.held t.known z (ap is_end (kind-again z s) ∙ e)) in
        let some : 0 < (run top (rest (as_at_hand (hand_of top z s))) (moved 0 z) t).taken = more.taken in
        on_false (λ o. GoesOn (joined (run top (does hand) z s) o)) (test (kind_at z s)) (run top (gives (false, x)) (moved 0 z) t) (run top (rest (as_at_hand (hand_of top z s))) (moved 0 z) t)
        (same (kind_at z s) ∙ e) (record { says = more.says; taken = omega (arith, some) });
  }

  -- ---- all turns

  -- the end of the text is at hand after it
  abbrev pub Ended : {A : Type 0} → Place → Outcome A → Type 0
  Ended z o = is_end (kind_at (moved o.taken z) o.state) ≡ true

  abbrev pub Ends : {A : Type 0} → Parser A → Type 0
  Ends p = (z : Place) (s : Point) → Ended z (run top p z s)

  loop : {A : Type 0} (p : A → Parser (Bool × A)) → ((x : A) → StopsAtEnd (p x)) → (n : ℕ) (x : A) (z : Place) (s : Point) → bound z s < n → Ended z (turns (λ y. run top (p y)) n x z s)
  loop p each zero x z s h = absurd (omega arith)
  loop p each (suc n) x z s h =
      let o = run top (p x) z s in
      let q = turns (λ y. run top (p y)) n o.value.1 (moved o.taken z) o.state in
      by_cases (is_end (kind_at z s))
      (λ e.
      let t = (each x).stops z s e in
      on_false (Ended z) (o.value.0 && nat_lt 0 o.taken) (joined o q) (as_last o) (ap (λ b. b && nat_lt 0 o.taken) t.says)
      (ap (λ m. is_end (kind_at (moved m z) o.state)) t.taken ∙ ap is_end t.kind ∙ e))
      (λ e.
      let t = (each x).goes z s e in
      let some = t.taken in
      let most = (sane-at (rules k) k max_depth (p x)).within z s in
      let fewer : bound (moved o.taken z) o.state < n = omega (arith, some, most) in
      on_true (Ended z) (o.value.0 && nat_lt 0 o.taken) (joined o q) (as_last o) (ap (λ b. b && nat_lt 0 o.taken) t.says ∙ is-less o.taken some)
      (ap (λ w. is_end (kind_at w q.state)) (moved-sum o.taken q.taken z) ∙ loop p each n o.value.1 (moved o.taken z) o.state fewer))

  pub repeat-ends : {A : Type 0} (p : A → Parser (Bool × A)) (x : A) → ((y : A) → StopsAtEnd (p y)) → Ends (repeat p x)
  unfolding run repeated
  repeat-ends p x each z s = loop p each (suc (bound z s)) x z s (omega arith)

  pub next-ends : {A B : Type 0} (p : Parser B) (f : B → Parser A) → ((b : B) → Ends (f b)) → Ends (next p f)
  unfolding run
  next-ends p f e z s = grind (arith, moved-sum)

  -- a level is left at the top
  pub deep-ends : {A : Type 0} (p q : Parser A) → Ends q → Ends (next (does is_deepest) (λ is_deep. pick is_deep p q))
  unfolding run
  deep-ends p q e z s =
      let r = run top q (moved 0 z) s in
      ap (λ w. is_end (kind_at w r.state)) (moved-sum 0 r.taken z) ∙ e (moved 0 z) s

  pub gives-ends : {A B : Type 0} (p : Parser B) (f : B → A) → Ends p → Ends (next p (λ b. gives (f b)))
  unfolding run
  gives-ends p f e z s = grind arith

  -- ---- the whole text

  -- where newlines don't matter
  abbrev pub reading_of : SyntaxMode → Reading
  reading_of m = record { mode = m; at_newline = newline.Continue }

  -- read so, and the token at hand too
  record Settled (m : SyntaxMode) (s : Point) : Type 0 where
    reading : s.reading ≡ reading_of m
    held : s.held ≡ reading_of m

  settled-then : (m : SyntaxMode) (s t : Point) → Settled m s → Rests s.reading s.held t → Settled m t
  settled-then m s t a b = grind arith

  pub all-taken : {A : Type 0} (m : SyntaxMode) (p : Parser A) → Ends p → (text : List ℕ) → length text ≤ (run top (p >> flush_trivia) (start_of text) (start_point (reading_of m))).taken
  unfolding run flush_trivia
  all-taken m p ends text =
      let z = start_of text in
      let s = start_point (reading_of m) in
      let o = run top p z s in
      let t = settled-then m s o.state (record { reading = refl; held = refl }) ((sane-at (rules k) k max_depth p).rests z s) in
      let w = moved o.taken z in
      let e = ap (λ r. is_end (hand_at k r o.state.known w).kind) (sym t.held) ∙ ends z s in
      let none = ap (λ r. (moved (hand_at k r o.state.known w).gap w).ahead) t.held ∙ hand-ends k m o.state.known w e in
      let left = ahead-left (hand_of top w o.state).gap w in
      let all = ahead-left o.taken z in
      let nothing = ap length none in
      omega arith

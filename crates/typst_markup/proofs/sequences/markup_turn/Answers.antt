use Rattle.typst_markup.proofs.Cited.{◌≡◌, ◌∙◌, ℕ, Bool, true, ap, refl, sym, subst, Level, View, Does, markup_turn, note_piece, ends, stops_at, does-next, does-gives, does-peek, does-pick, does-other, peek}
use Rattle.typst_language.specs.Syntax.Parser.{gives, next}
use Rattle.typst_markup.proofs.sequences.markup_turn.Goals as goal

-- what comes after an expression was noted with the newlines that were passed
noted-after : (l : Level) (is_run b : Bool) (n : ℕ) (v w : View) → b ≡ v.hand.newlines.any → Does l (note_piece is_run b n) tt v w
    → Does {A = Bool × (Bool × ℕ)} l (next peek (λ after. next (note_piece is_run after.newlines.any n) (λ noted. gives (true, (after.newlines.any, n))))) (true, (b, n)) v w
noted-after l is_run b n v w e d =
    does-next (does-peek v) (subst (λ (x : Bool). Does {A = Bool × (Bool × ℕ)} l (next (note_piece is_run x n) (λ noted. gives (true, (x, n)))) (true, (b, n)) v w) e (does-next d does-gives))

pub returns-then-ends : goal.returns-then-ends
unfolding markup_turn
returns-then-ends g c l h = does-next (does-peek _) (does-pick (ap (ends (stops_at c.args.stop) c.args.carried.1) (sym c.current.ensures) ∙ sym c.ends.ensures ∙ c.if-ends.true) does-gives)

pub returns : goal.returns
unfolding markup_turn
returns g c l h =
    let nesting = c.in_ok-nesting.nesting in
    let has_newline = c.had_newline-has_newline.result in
    does-next (does-peek _) (does-other (ap (ends (stops_at c.args.stop) c.args.carried.1) (sym c.current.ensures) ∙ sym c.ends.ensures ∙ c.if-ends.false)
    (does-next (c.in_ok-nesting.ensures l h) (noted-after l c.args.is_run has_newline nesting c.deeper_markup_expr.new.p c.note_piece.new.p c.had_newline-has_newline.ensures (c.in_ok-note_piece.ensures l h))))

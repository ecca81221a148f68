use Rattle.typst_server.proofs.Cited.{common_steps, ◌≡◌, ◌-◌, ◌==◌, ap, sym, ◌∙◌, if◌then◌else◌, arith, eq-eqb, ne_eqb, position_of, Position, Opened, end_of, clipped, shown}
use Rattle.typst_server.proofs.tokens.Encoder.add.Goals as goal
use Rattle.typst_server.proofs.tokens.Encoder.add.Goals.{then-line-self, else-line-self}

pub returns-clause-added : goal.returns-clause-added
returns-clause-added c =
    let old = c.args.self.now in
    let walk = old.walk in
    let s = shown walk.encoding walk.source.text c.args.token.now in
    let from = c.go_to-line.result in
    let to = c.go_to-end.result in
    let line : from.line ≡ s.line = ap (λ (p : Position). p.line) c.go_to-line.ensures.place in
    let column : from.character ≡ s.column = ap (λ (p : Position). p.column) c.go_to-line.ensures.place in
    let last = position_of walk.encoding walk.source.text (end_of c.args.token.now) in
    let there : to.character ≡ last.column =
    ap (λ (p : Position). p.column)
    (c.go_to-end.ensures.place ∙ ap (λ (d : Opened). position_of d.encoding d.source.text c.end.result) c.go_to-line.ensures.document ∙ ap (position_of walk.encoding walk.source.text) c.end.ensures) in
    let size : to.character - from.character ≡ s.size = ap (λ n. n - from.character) there ∙ ap (λ n. last.column - n) column in
    let before : c.if-line-self.before ≡ (if s.line == old.line then old.column else 0) = elim c.if-line-self.branch [
      | then-line-self w ↦ w.before-is ∙ sym (ap (λ b. if b then old.column else 0) (eq-eqb s.line old.line (sym line ∙ w.if-line-self.true)))
      | else-line-self w ↦ w.before-is ∙ sym (ap (λ b. if b then old.column else 0) (ne_eqb s.line old.line (λ e. w.if-line-self.false (line ∙ e))))
    ] in
    let first : c.number.result ≡ clipped (s.line - old.line) = c.number.ensures ∙ ap clipped (c.saturating_sub.ensures ∙ ap (λ n. n - old.line) line) in
    let second : c.number-2.result ≡ clipped (s.column - (if s.line == old.line then old.column else 0)) =
    c.number-2.ensures ∙ ap clipped (c.saturating_sub-2.ensures ∙ ap (λ n. n - c.if-line-self.before) column ∙ ap (λ n. s.column - n) before) in
    let third : c.number-3.result ≡ clipped s.size = c.number-3.ensures ∙ ap clipped (c.saturating_sub-3.ensures ∙ size) in
    let kind : c.number_of.result ≡ s.kind = c.number_of.ensures in
    let modifiers : c.modifiers_of.result ≡ s.modifiers = c.modifiers_of.ensures in
    grind (arith, common_steps)

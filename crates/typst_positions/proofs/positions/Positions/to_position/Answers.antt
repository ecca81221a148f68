use Rattle.typst_positions.proofs.Cited.{common_steps, ◌≡◌, ◌-◌, ℕ, nat_le, count_by, get_or, sym, ap, subst, ◌∙◌, arith, IsCharBoundary, column_of, byte_at, line_of, line_at, line_starts, Position}
use Rattle.typst_positions.proofs.Holding.{starts-ordered}
use Rattle.typst_positions.proofs.Places.{got, held, place-back, position-is, some-below, start-boundary}
use Rattle.typst_positions.proofs.positions.Positions.to_position.Goals as goal

pub count_to-requires : goal.count_to-requires
count_to-requires c = grind (arith, starts-ordered)

pub index-start-requires : goal.index-start-requires
index-start-requires c =
    let text = c.args.text.now in
    let byte = c.args.byte in
    let h = held text byte in
    grind (arith, common_steps, some-below)

pub line-requires : goal.line-requires
line-requires c =
    let text = c.args.text.now in
    let byte = c.args.byte in
    let h = held text byte in
    let all : c.self.inside.starts.items ≡ line_starts text = c.self.view_is ∙ c.requires in
    let table : c.as_slice.result.now ≡ line_starts text = c.as_slice.ensures.value ∙ all in
    let number : c.saturating_sub-number.result ≡ line_of text byte = c.saturating_sub-number.ensures ∙ ap (λ n. n - 1) (c.count_to.ensures.value ∙ ap (count_by (λ (s : ℕ). nat_le s byte)) table) in
    let d = c.index-start.result.now in
    let start : d ≡ h.start = c.index-start.ensures ∙ ap (λ xs. get_or xs c.saturating_sub-number.result d) all ∙ ap (λ n. get_or (line_starts text) n d) number ∙ got (line_starts text) (line_of text byte) h.start d h.at in
    subst (IsCharBoundary text) (sym start) (start-boundary text (line_of text byte) h.start c.utf8.text h.at)

pub overflow_sub-byte : goal.overflow_sub-byte
overflow_sub-byte c =
    let text = c.args.text.now in
    let byte = c.args.byte in
    let h = held text byte in
    let all : c.self.inside.starts.items ≡ line_starts text = c.self.view_is ∙ c.requires in
    let table : c.as_slice.result.now ≡ line_starts text = c.as_slice.ensures.value ∙ all in
    let number : c.saturating_sub-number.result ≡ line_of text byte = c.saturating_sub-number.ensures ∙ ap (λ n. n - 1) (c.count_to.ensures.value ∙ ap (count_by (λ (s : ℕ). nat_le s byte)) table) in
    let d = c.index-start.result.now in
    let start : d ≡ h.start = c.index-start.ensures ∙ ap (λ xs. get_or xs c.saturating_sub-number.result d) all ∙ ap (λ n. get_or (line_starts text) n d) number ∙ got (line_starts text) (line_of text byte) h.start d h.at in
    let below = h.below in
    omega (arith, start, below)

pub returns-clause-value : goal.returns-clause-value
returns-clause-value c =
    let text = c.args.text.now in
    let byte = c.args.byte in
    let h = held text byte in
    grind (arith, common_steps, got, position-is)

pub returns-clause-back : goal.returns-clause-back
returns-clause-back c =
    let text = c.args.text.now in
    let byte = c.args.byte in
    let h = held text byte in
    let all : c.self.inside.starts.items ≡ line_starts text = c.self.view_is ∙ c.requires in
    let table : c.as_slice.result.now ≡ line_starts text = c.as_slice.ensures.value ∙ all in
    let number : c.saturating_sub-number.result ≡ line_of text byte = c.saturating_sub-number.ensures ∙ ap (λ n. n - 1) (c.count_to.ensures.value ∙ ap (count_by (λ (s : ℕ). nat_le s byte)) table) in
    let d = c.index-start.result.now in
    let start : d ≡ h.start = c.index-start.ensures ∙ ap (λ xs. get_or xs c.saturating_sub-number.result d) all ∙ ap (λ n. get_or (line_starts text) n d) number ∙ got (line_starts text) (line_of text byte) h.start d h.at in
    let column : c.column_of.result ≡ column_of c.args.encoding (line_at text h.start) (byte - h.start) =
    c.column_of.ensures ∙ ap (λ l. column_of c.args.encoding l (byte - d)) c.line.ensures ∙ ap (λ s. column_of c.args.encoding (line_at text s) (byte - s)) start in
    let value = position-is c.args.encoding text byte c.saturating_sub-number.result c.column_of.result h.start number h.at column in
    λ b outside. subst (λ (p : Position). byte_at c.args.encoding text p ≡ byte) (sym value) (place-back c.args.encoding text byte c.utf8.text b outside)

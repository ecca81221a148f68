use Rattle.typst_positions.proofs.Cited.{common_steps, ◌≡◌, ◌+◌, Some, slice_get, sym, ap, subst, ◌∙◌, arith, IsCharBoundary, bytes_before, line_at, line_starts}
use Rattle.typst_positions.proofs.Places.{boundary-in, start-boundary, utf8-line}
use Rattle.typst_positions.proofs.Widths.{before-boundary}
use Rattle.typst_positions.proofs.positions.Positions.to_byte.Goals as goal

pub line-requires : goal.line-requires
line-requires c =
    let text = c.args.text.now in
    let table : c.as_slice.result.now ≡ line_starts text = c.as_slice.ensures.value ∙ c.self.view_is ∙ c.requires in
    let at : slice_get (line_starts text) c.args.position.line ≡ Some c.in-Some.start = ap (λ xs. slice_get xs c.args.position.line) (sym table) ∙ sym c.in-Some.ensures in
    start-boundary text c.args.position.line c.in-Some.start c.utf8.text at

pub overflow_add-result : goal.overflow_add-result
overflow_add-result c =
    let text = c.args.text.now in
    let start = c.in-Some.start in
    let column = c.args.position.column in
    let table : c.as_slice.result.now ≡ line_starts text = c.as_slice.ensures.value ∙ c.self.view_is ∙ c.requires in
    let at : slice_get (line_starts text) c.args.position.line ≡ Some start = ap (λ xs. slice_get xs c.args.position.line) (sym table) ∙ sym c.in-Some.ensures in
    let first = start-boundary text c.args.position.line start c.utf8.text at in
    let bound = boundary-in text start (bytes_before c.args.encoding (line_at text start) column) first.0 (before-boundary c.args.encoding (line_at text start) column (utf8-line text start c.utf8.text first)) in
    let is : c.bytes_before.result ≡ bytes_before c.args.encoding (line_at text start) column = c.bytes_before.ensures ∙ ap (λ l. bytes_before c.args.encoding l column) c.line.ensures in
    omega (arith, bound.0, is)

pub returns-in-Some-clause-value : goal.returns-in-Some-clause-value
returns-in-Some-clause-value c = grind (arith, common_steps)

pub returns-in-Some-clause-boundary : goal.returns-in-Some-clause-boundary
returns-in-Some-clause-boundary c =
    let text = c.args.text.now in
    let start = c.in-Some.start in
    let column = c.args.position.column in
    let table : c.as_slice.result.now ≡ line_starts text = c.as_slice.ensures.value ∙ c.self.view_is ∙ c.requires in
    let at : slice_get (line_starts text) c.args.position.line ≡ Some start = ap (λ xs. slice_get xs c.args.position.line) (sym table) ∙ sym c.in-Some.ensures in
    let first = start-boundary text c.args.position.line start c.utf8.text at in
    let bound = boundary-in text start (bytes_before c.args.encoding (line_at text start) column) first.0 (before-boundary c.args.encoding (line_at text start) column (utf8-line text start c.utf8.text first)) in
    let is : c.bytes_before.result ≡ bytes_before c.args.encoding (line_at text start) column = c.bytes_before.ensures ∙ ap (λ l. bytes_before c.args.encoding l column) c.line.ensures in
    subst (IsCharBoundary text) (sym (ap (λ k. start + k) is)) bound

pub returns-in-None-clause-value : goal.returns-in-None-clause-value
returns-in-None-clause-value c = grind (arith, common_steps)

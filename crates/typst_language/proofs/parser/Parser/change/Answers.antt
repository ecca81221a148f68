use Rattle.typst_language.proofs.Cited.{Bool, ℕ, if◌then◌else◌, ap, sym, ◌∙◌, arith, set, is_error, text_of, count_empty, view_of}
use Rattle.typst_language.specs.Changes.{meant}
use Rattle.typst_language.proofs.Changes.{changed-alone, changed-error, changed-first}
use Rattle.typst_language.proofs.parser.Parser.change.Goals as goal
use Rattle.typst_language.proofs.parser.Parser.change.Goals.{else-is_alone-via-then-is_alone+else-not-was_error, else-is_alone-via-else-is_alone}

pub returns-then-not-was_error : goal.returns-then-not-was_error
returns-then-not-was_error c =
    let i = c.self.inside in
    let v = view_of i in
    let node = c.change_node.new.node in
    let ns = set v.nodes c.args.from node in
    let fine = ap is_error (sym c.kind.ensures) ∙ sym c.is_error-was_error.ensures ∙ c.if-not-was_error.true in
    let count = if is_error node.head.kind then count_empty (text_of node) else 0 in
    let wrong = c.is_error-self-inside.ensures ∙ ap is_error c.kind-then-not-was_error.ensures in
    rw (sym c.self.view_is)
    (changed-alone (meant c.args.change) c.args.from c.index_mut-node.result.now node v _ (omega arith) c.index_mut-node.ensures.value fine c.in_ok-change_node.ensures
    (ap (λ (n : ℕ). record v { nodes = ns; state = record v.state { empties = n; is_after_error = c.is_error-self-inside.result } }) c.empty_errors-self-inside.ensures
    ∙ ap (λ (b : Bool). record v { nodes = ns; state = record v.state { empties = count; is_after_error = b } }) wrong))

pub returns-else-is_alone : goal.returns-else-is_alone
returns-else-is_alone c =
    let v = view_of c.self.inside in
    let node = c.change_node.new.node in
    rw (sym c.self.view_is) (elim c.else-is_alone.branch [
      | else-is_alone-via-then-is_alone+else-not-was_error w ↦ (let wrong = ap is_error (sym c.kind.ensures) ∙ sym c.is_error-was_error.ensures ∙ w.if-not-was_error.false in
          changed-error (meant c.args.change) c.args.from c.index_mut-node.result.now node v _ (omega arith) c.index_mut-node.ensures.value wrong c.in_ok-change_node.ensures w.self-is)
      | else-is_alone-via-else-is_alone w ↦ changed-first (meant c.args.change) c.args.from c.index_mut-node.result.now node v _ (omega arith) c.index_mut-node.ensures.value c.in_ok-change_node.ensures w.self-is
    ])

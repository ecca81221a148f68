use Rattle.typst_report.proofs.Cited.{◌≡◌, ℕ, ◌+◌, ◌-◌, List, [], ◌∷◌, ◌++◌, length, take, Some, string_bytes, refl, ap, sym, subst, ◌∙◌, arith, append_assoc, common_steps, length_push, All, text_of, deeper, head_lines, own_line, remarks, All-pop, All-push, Siblings}
use Rattle.typst_report.proofs.RowLemmas.{Fits, after_fits, below_fits, first_fits, indented, last_level, left_lines, left_more, left_passed, level_boundary, level_cut, level_two, next_level, steps_more, steps_passed}
use Rattle.typst_report.proofs.tree.print_node.Goals as goal
use Rattle.typst_report.proofs.tree.print_node.Goals.{In-Some}

-- the indentation of the nodes of the row that was taken
abbrev above : (c : In-Some) → List ℕ
above c = indented c.args.indent.now (length c.pop.new.self.items)

level : (c : In-Some) → string_bytes c.loop-row.deeper ≡ deeper (indented c.args.indent.now (length c.pop.new.self.items))
level c = last_level c.args.indent.now (string_bytes c.loop-row.deeper) c.loop-row.rows.items c.pop.new.self.items c.in-Some.row c.loop-row.invariant.deeper c.in-Some.ensures.items

fit : (c : In-Some) → All Fits c.pop.new.self.items × Fits c.in-Some.row
fit c = All-pop Fits c.loop-row.rows.items c.pop.new.self.items (Some c.in-Some.row) c.in-Some.ensures.items c.loop-row.invariant.fit

pub overflow_sub-width : goal.overflow_sub-width
overflow_sub-width c = omega (arith, c.len-width.ensures, c.loop-row.deeper.bytes.ok.0, level_two _ _ (level (goal.at.overflow_sub-width c).In-Some))

pub truncate-requires : goal.truncate-requires
truncate-requires c = λ within.
    let cut = level_boundary _ _ (level (goal.at.truncate-requires c).In-Some) (c.len-width.result - 2) (omega (arith, c.len-width.ensures, c.loop-row.deeper.bytes.ok.0)) in
    (cut.0, λ some less. cut.1 less)

pub loop-row-smaller-in_default-split_first : goal.loop-row-smaller-in_default-split_first
loop-row-smaller-in_default-split_first c = steps_passed c.loop-row.rows.items c.pop.new.self.items c.in-Some.row c.in-Some.ensures.items

pub loop-row-preserved-in_default-split_first : goal.loop-row-preserved-in_default-split_first
loop-row-preserved-in_default-split_first c =
    let at : In-Some = (goal.at.loop-row-preserved-in_default-split_first c).In-Some in
    record {
      written =
          ap (λ ys. string_bytes c.loop-row.printed ++ ys) (sym (left_passed c.args.indent.now c.loop-row.rows.items c.pop.new.self.items c.in-Some.row c.in-Some.ensures.items c.in_default-split_first.ensures.cases))
          ∙ c.loop-row.invariant.written;
      deeper = c.truncate.ensures.bytes ∙ level_cut _ _ (level at) (c.len-width.result - 2) (omega (arith, c.len-width.ensures, c.loop-row.deeper.bytes.ok.0));
      fit = (fit at).0;
    }

pub overflow_add-end : goal.overflow_add-end
overflow_add-end c =
    omega (arith, c.len.ensures, first_fits c.in-Some.row c.in-Some-split_first.node.now c.in-Some-split_first.after.now (fit (goal.at.overflow_add-end c).In-Some).1 c.in-Some-split_first.ensures.cases.0)

pub range-requires-clause-end_boundary : goal.range-requires-clause-end_boundary
range-requires-clause-end_boundary c =
    level_boundary _ _ (c.deref.ensures ∙ level (goal.at.range-requires-clause-end_boundary c).In-Some) (c.len-width.result - 2)
    (omega (arith, c.len-width.ensures, c.loop-row.deeper.bytes.ok.0, ap length c.deref.ensures))

pub loop-row-smaller : goal.loop-row-smaller
loop-row-smaller c =
    let after : Siblings = record { trees = c.in-Some-split_first.after; start = c.in-Some.row.start + c.len.result } in
    let below : Siblings = record { trees = c.children.result; start = c.in-Some.row.start } in
    steps_more c.loop-row.rows.items c.pop.new.self.items c.push-in-Some-2.new.self.items c.in-Some.row after below c.in-Some-split_first.node.now c.in-Some-split_first.after.now
    c.in-Some.ensures.items (c.in_ok-push-3.ensures.items ∙ ap (λ rs. rs ++ below ∷ []) c.in_ok-push-2.ensures.items)
    c.in-Some-split_first.ensures.cases.0 refl c.children.ensures

pub loop-row-preserved : goal.loop-row-preserved
loop-row-preserved c =
    let at : In-Some = (goal.at.loop-row-preserved c).In-Some in
    let node = c.in-Some-split_first.node.now in
    let trees = c.in-Some-split_first.ensures.cases.0 in
    let start : ℕ = c.in-Some.row.start in
    let end : ℕ = start + c.len.result in
    let after : Siblings = record { trees = c.in-Some-split_first.after; start = end } in
    let below : Siblings = record { trees = c.children.result; start = start } in
    let fits : Fits c.in-Some.row = (fit at).1 in
    let ends : end ≡ start + length (text_of node) = omega (arith, c.len.ensures, first_fits c.in-Some.row node after.trees.now fits trees) in
    let one : c.push-in-Some.new.self.items ≡ c.pop.new.self.items ++ after ∷ [] = c.in_ok-push-2.ensures.items in
    let grown : c.push-in-Some-2.new.self.items ≡ (c.pop.new.self.items ++ after ∷ []) ++ below ∷ [] = c.in_ok-push-3.ensures.items ∙ ap (λ rs. rs ++ below ∷ []) one in
    let own : List ℕ = above at in
    let old : List ℕ = string_bytes c.loop-row.printed in
    let cut : take (c.len-width.result - 2) c.deref.result.now ≡ own =
    level_cut _ _ (c.deref.ensures ∙ level at) (c.len-width.result - 2) (omega (arith, c.len-width.ensures, c.loop-row.deeper.bytes.ok.0, ap length c.deref.ensures)) in
    let indent : c.range.result.now ≡ own = grind (arith, common_steps, c.range.ensures.value, cut) in
    let printed : string_bytes c.print_head.new.printed ≡ old ++ head_lines own start end node.head =
    c.in_ok-print_head.ensures
    ∙ ap (λ i. old ++ (own_line i start end node.head ++ remarks c.as_str.result.now node.head.diagnostics)) indent
    ∙ ap (λ d. old ++ (own_line own start end node.head ++ remarks d node.head.diagnostics)) (c.as_str.ensures.value ∙ level at) in
    let left = left_more c.args.indent.now c.loop-row.rows.items c.pop.new.self.items c.push-in-Some-2.new.self.items c.in-Some.row after below node after.trees.now end
    c.in-Some.ensures.items grown trees refl refl c.children.ensures refl ends in
    record {
      written =
          ap (λ ys. ys ++ left_lines c.args.indent.now c.push-in-Some-2.new.self.items) printed
          ∙ append_assoc old (head_lines own start end node.head) (left_lines c.args.indent.now c.push-in-Some-2.new.self.items)
          ∙ ap (λ ys. old ++ ys) (sym left) ∙ c.loop-row.invariant.written;
      deeper =
          c.in_ok-push_str.ensures.bytes
          ∙ next_level c.args.indent.now (string_bytes c.loop-row.deeper) c.loop-row.rows.items c.push-in-Some-2.new.self.items c.loop-row.invariant.deeper
          (omega (arith, ap length c.in-Some.ensures.items, length_push c.pop.new.self.items c.in-Some.row, ap length grown, length_push (c.pop.new.self.items ++ after ∷ []) below, length_push c.pop.new.self.items after));
      fit =
          subst (All Fits) (sym grown)
          (All-push Fits (c.pop.new.self.items ++ after ∷ []) below (All-push Fits c.pop.new.self.items after (fit at).0 (after_fits c.in-Some.row node after.trees.now fits trees after refl ends))
          (below_fits c.in-Some.row node after.trees.now fits trees below c.children.ensures refl));
    }

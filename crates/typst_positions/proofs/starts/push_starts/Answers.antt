use Rattle.typst_positions.proofs.Cited.{◌+◌, ◌++◌, [], ◌∷◌, cond, sym, ap, ◌∙◌, arith, append-nil, append_assoc, starts_between}
use Rattle.typst_positions.proofs.Tables.{next-start, none-left}
use Rattle.typst_positions.proofs.starts.push_starts.Goals as goal

pub loop-end-preserved : goal.loop-end-preserved
loop-end-preserved c =
    let text = c.args.text.now in
    let to = c.args.to in
    let end = c.in-Some.end in
    let low = c.in-Some.ensures.0.low in
    let high = c.in-Some.ensures.0.high in
    let later = starts_between text (end + 1 + 1) to in
    record {
      within = omega arith;
      listed =
          ap (λ xs. xs ++ later) c.in_ok-push_if.ensures
          ∙ append_assoc _ (cond c.ends_line.result ((end + 1) ∷ []) []) later
          ∙ ap (λ t. c.loop-end.starts.items ++ (cond t ((end + 1) ∷ []) [] ++ later)) c.ends_line.ensures
          ∙ ap (λ xs. c.loop-end.starts.items ++ xs) (sym (next-start text c.loop-end.at end to low high c.in-Some.ensures.0.before))
          ∙ c.loop-end.invariant.listed;
    }

pub returns : goal.returns
returns c = grind (arith, append-nil, none-left)

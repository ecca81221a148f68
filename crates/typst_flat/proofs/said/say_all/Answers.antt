use Rattle.typst_flat.proofs.Cited.{◌≡◌, ◌+◌, ◌<◌, ◌≤◌, ◌∷◌, ◌++◌, [], List, length, take, ap, sym, subst, ◌∙◌, arith, append_assoc, append-nil, flat_map, take_more, flat_map-append, Tree, linked, At, IsWritten, Saying, said_by, take_all, Diagnostic}
use Rattle.typst_flat.proofs.said.say_all.Goals as goal

pub loop-diagnostic-preserved : goal.loop-diagnostic-preserved
loop-diagnostic-preserved c = λ says rs ms w.
    let a : At = linked c.args.place.now.node in
    let all : List Diagnostic = c.diagnostics-diagnostic-items.result.now in
    let n = c.loop-diagnostic.diagnostic-index in
    let d : Diagnostic = c.diagnostic-item.result in
    let front : List Saying = flat_map (said_by a) (take n all) in
    let more : n < length all = omega arith in
    let longer : flat_map (said_by a) (take (n + 1) all) ≡ front ++ said_by a d = ap (flat_map (said_by a)) (take_more all n d more ∙ ap (λ x. take n all ++ x ∷ []) (sym c.diagnostic-item.is)) ∙ (flat_map-append (said_by a) (take n all) (d ∷ []) ∙ ap (λ xs. front ++ xs) (append-nil (said_by a d))) in
    subst (λ xs. IsWritten xs c.say_one-all.result c.say_one-all.new.remarks rs c.say_one-all.new.messages ms)
    (append_assoc says front (said_by a d) ∙ ap (λ xs. says ++ xs) (sym longer))
    (c.say_one-all.ensures (says ++ front) rs ms (c.loop-diagnostic.invariant says rs ms w))

pub returns : goal.returns
returns c = λ says rs ms w.
    let a : At = linked c.args.place.now.node in
    let items : List Diagnostic = c.diagnostics-diagnostic-items.result.now in
    let all : length items ≤ c.loop-diagnostic.diagnostic-index = omega arith in
    subst (λ xs. IsWritten (says ++ flat_map (said_by a) xs) c.loop-diagnostic.all c.loop-diagnostic.remarks rs c.loop-diagnostic.messages ms)
    (take_all c.loop-diagnostic.diagnostic-index items all ∙ (c.diagnostics-diagnostic-items.ensures ∙ ap (λ (t : Tree). t.head.diagnostics) c.get.ensures))
    (c.loop-diagnostic.invariant says rs ms w)

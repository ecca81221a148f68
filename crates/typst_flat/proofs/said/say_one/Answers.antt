use Rattle.typst_flat.proofs.Cited.{◌+◌, ◌<◌, ◌≤◌, ◌∷◌, ◌++◌, [], List, length, map, take, ap, sym, subst, ◌∙◌, arith, map-append, take_more, linked, At, IsWritten, Saying, diagnostic_of, end_in, hint_of, severity_code, start_in, take_all, Hint}
use Rattle.typst_flat.proofs.Sayings.{longer}
use Rattle.typst_flat.proofs.said.say_one.Goals as goal

pub loop-hint-init : goal.loop-hint-init
loop-hint-init c = λ says rs ms w.
    let a : At = linked c.args.place.now.node in
    let part = c.part-whole.ensures in
    let made : Saying = diagnostic_of a c.args.diagnostic.now in
    subst (λ s. IsWritten (says ++ s ∷ []) c.say-all.result c.say-all.new.remarks rs c.say-all.new.messages ms)
    (λ i. record { node = (part.node ∙ c.requires) i; start = (part.start ∙ ap (start_in a) c.sub_range.ensures) i; end = (part.end ∙ ap (end_in a) c.sub_range.ensures) i; severity = (part.severity ∙ (c.grade-severity.ensures ∙ ap severity_code c.severity.ensures)) i; message = c.message.ensures i })
    (c.say-all.ensures says rs ms w)

pub loop-hint-preserved : goal.loop-hint-preserved
loop-hint-preserved c = λ says rs ms w.
    let a : At = linked c.args.place.now.node in
    let part = c.part-on.ensures in
    let hints : List Hint = c.hints-hint-items.result.now in
    let n = c.loop-hint.hint-index in
    let h : Hint = c.hint-item.result in
    let first : Saying = diagnostic_of a c.args.diagnostic.now in
    let rest : List Saying = first ∷ map (hint_of a) (take n hints) in
    let more : n < length hints = omega arith in
    let next = subst (λ s. IsWritten ((says ++ rest) ++ s ∷ []) c.say-all-in-loop-hint.result c.say-all-in-loop-hint.new.remarks rs c.say-all-in-loop-hint.new.messages ms)
    (λ i. record { node = (part.node ∙ c.requires) i; start = (part.start ∙ ap (start_in a) c.sub_range-in-loop-hint.ensures) i; end = (part.end ∙ ap (end_in a) c.sub_range-in-loop-hint.ensures) i; severity = part.severity i; message = c.message-in-loop-hint.ensures i })
    (c.say-all-in-loop-hint.ensures (says ++ rest) rs ms (c.loop-hint.invariant says rs ms w)) in
    longer says (first ∷ map (hint_of a) (take (n + 1) hints)) rest (hint_of a h) c.say-all-in-loop-hint.result c.say-all-in-loop-hint.new.remarks rs c.say-all-in-loop-hint.new.messages ms
    (ap (λ xs. first ∷ xs) (ap (map (hint_of a)) (take_more hints n h more ∙ ap (λ x. take n hints ++ x ∷ []) (sym c.hint-item.is)) ∙ map-append (hint_of a) (take n hints) (h ∷ [])))
    next

pub returns : goal.returns
returns c = λ says rs ms w.
    let a : At = linked c.args.place.now.node in
    let hints : List Hint = c.hints-hint-items.result.now in
    let all : length hints ≤ c.loop-hint.hint-index = omega arith in
    subst (λ xs. IsWritten (says ++ (diagnostic_of a c.args.diagnostic.now ∷ map (hint_of a) xs)) c.loop-hint.all c.loop-hint.remarks rs c.loop-hint.messages ms)
    (take_all c.loop-hint.hint-index hints all ∙ c.hints-hint-items.ensures)
    (c.loop-hint.invariant says rs ms w)

use Rattle.typst_flat.proofs.Cited.{ℕ, ◌++◌, List, take, flat_map, linked, IsWritten, Saying, said_by, Remark}
use Rattle.typst_flat.proofs.said.say_all.Given as goal

abbrev pub invariant-loop-diagnostic : goal.invariant-loop-diagnostic
invariant-loop-diagnostic l =
    (says : List Saying) (rs : List Remark) (ms : List ℕ) → IsWritten says l.fn.said l.fn.remarks rs l.fn.messages ms → IsWritten (says ++ flat_map (said_by (linked l.place.node)) (take l.diagnostic-index l.diagnostic-items)) l.all l.remarks rs l.messages ms

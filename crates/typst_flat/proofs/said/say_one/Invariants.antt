use Rattle.typst_flat.proofs.Cited.{ℕ, ◌∷◌, ◌++◌, List, map, take, linked, IsWritten, Saying, diagnostic_of, hint_of, Remark}
use Rattle.typst_flat.proofs.said.say_one.Given as goal

abbrev pub invariant-loop-hint : goal.invariant-loop-hint
invariant-loop-hint l =
    (says : List Saying) (rs : List Remark) (ms : List ℕ) → IsWritten says l.fn.said l.fn.remarks rs l.fn.messages ms → IsWritten (says ++ (diagnostic_of (linked l.place.node) l.diagnostic ∷ map (hint_of (linked l.place.node)) (take l.hint-index l.hint-items))) l.all l.remarks rs l.messages ms

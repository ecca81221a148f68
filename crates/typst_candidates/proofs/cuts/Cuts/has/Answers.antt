use Rattle.std.proofs.Common.{◌∙◌}
use Rattle.std.proofs.lemmas.List.Sorted.{searched}
use Rattle.typst_candidates.proofs.Bytes.{found-among}
use Rattle.typst_candidates.proofs.cuts.Cuts.has.Goals as goal

pub returns : goal.returns
returns c =
    let all = c.deref.ensures.value in
    c.is_ok.ensures.value
    ∙ found-among c.args.byte c.args.self.now.starts.items c.binary_search.result
    (searched c.args.self.now.starts.items c.args.byte c.binary_search.result (rw all at c.binary_search.ensures.position) (λ i j o h. c.args.self.now.rise i j 0 o h))

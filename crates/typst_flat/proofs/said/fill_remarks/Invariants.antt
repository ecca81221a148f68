use Rattle.typst_flat.proofs.Cited.{◌≡◌, ◌++◌, List, length, flat_map, At, all_of, IsWritten, said_of}
use Rattle.typst_flat.specs.Walk.{Stays, ahead}
use Rattle.typst_flat.proofs.said.fill_remarks.Given as goal

abbrev pub invariant-nodes : goal.invariant-nodes
invariant-nodes l = record {
  root : l.walk.root.now ≡ l.root;
  ready : Stays l.walk;
  written : (gone : List At) × ((all_of l.root ≡ gone ++ ahead l.walk) × IsWritten (flat_map said_of gone) l.said l.remarks l.fn.remarks l.messages l.fn.messages);
}

abbrev pub decreases-nodes : goal.decreases-nodes
decreases-nodes l = length (ahead l.walk)

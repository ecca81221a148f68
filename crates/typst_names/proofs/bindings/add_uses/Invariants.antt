use Rattle.typst_names.proofs.Cited.{◌≡◌, ◌++◌, [], drop, take, hidden, uses}
use Rattle.typst_names.proofs.bindings.add_uses.Given as goal

abbrev pub invariant-loop-name : goal.invariant-loop-name
invariant-loop-name l =
    record {
      found : l.found.items ++ uses l.text l.word l.until (take l.name-index l.names) (drop l.name-index l.names) ≡ l.fn.found.items ++ uses l.text l.word l.until [] l.names;
      hidden : l.hidden ≡ hidden l.text l.word (take l.name-index l.names);
    }

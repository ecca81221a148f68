use Rattle.typst_flat.proofs.Cited.{◌≡◌, ◌++◌, ◌∷◌, [], Some, List, ap, sym, subst, ◌∙◌, append_assoc, append-nil, arith, flat_map, flat_map-append, linked, At, IsWritten, said_of, Comes, ahead}
use Rattle.typst_flat.proofs.Sayings.{none_written}
use Rattle.typst_flat.proofs.Whole.{all_first}
use Rattle.typst_flat.proofs.said.fill_remarks.Goals as goal

pub nodes-init : goal.nodes-init
nodes-init c = grind (arith, all_first, none_written)

pub nodes-preserved : goal.nodes-preserved
nodes-preserved c =
    let a : At = linked c.in-Some.place.node in
    let gone : List At = c.nodes.invariant.written.0 in
    let comes : Comes c.nodes.walk (Some c.in-Some.place) c.next.new.self = subst (λ o. Comes c.nodes.walk o c.next.new.self) c.in-Some.is c.in_ok-place.ensures.comes in
    let listed = c.nodes.invariant.written.1.0 ∙ (ap (λ xs. gone ++ xs) comes.0 ∙ sym (append_assoc gone (a ∷ []) (ahead c.next.new.self))) in
    let says : flat_map said_of gone ++ said_of a ≡ flat_map said_of (gone ++ a ∷ []) = sym (flat_map-append said_of gone (a ∷ []) ∙ ap (λ xs. flat_map said_of gone ++ xs) (append-nil (said_of a))) in
    record {
      root = c.in_ok-place.ensures.root ∙ c.nodes.invariant.root;
      ready = comes.1.1.1;
      written = (gone ++ a ∷ [], (listed, subst (λ xs. IsWritten xs c.say_all-said.result c.say_all-said.new.remarks c.args.remarks.now c.say_all-said.new.messages c.args.messages.now) says (c.say_all-said.ensures (flat_map said_of gone) c.args.remarks.now c.args.messages.now c.nodes.invariant.written.1.1)));
    }

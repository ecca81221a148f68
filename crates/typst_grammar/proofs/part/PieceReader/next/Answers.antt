use Rattle.typst_grammar.proofs.Cited.{false, true, refl, subst, markup_turn, stops_of, RunKind, Does}
use Rattle.typst_grammar.proofs.AtLevels.{knot-fills}
use Rattle.typst_grammar.proofs.Pieces.{reads-on, reads-none, shorter, fills-at, guessing_in}
use Rattle.typst_grammar.proofs.part.PieceReader.next.Goals as goal

pub returns-then-not-more-clause-read : goal.returns-then-not-more-clause-read
returns-then-not-more-clause-read g c = λ levels which x z m h. (
    let k = g.C.Classes.classes c.args.classes.now in
    let l = guessing_in k levels which in
    let did = rw c.if-not-more.true at c.in_ok-more.ensures l (fills-at k c.args.self.now.levels levels which h.levels_are (knot-fills k c.args.self.now.levels)) in
    reads-none k levels which x z m c.args.self.now _ c.in_ok-more.carried h
    (subst (λ (s : RunKind). Does l (markup_turn true (stops_of s) c.args.self.now.carried) (false, c.in_ok-more.carried) c.args.self.now.parser c.read_piece.new.p) h.kind_is did) refl refl refl refl)

pub returns-clause-read : goal.returns-clause-read
returns-clause-read g c = λ levels which x z m h. (
    let k = g.C.Classes.classes c.args.classes.now in
    let l = guessing_in k levels which in
    let did = rw c.if-not-more.false at c.in_ok-more.ensures l (fills-at k c.args.self.now.levels levels which h.levels_are (knot-fills k c.args.self.now.levels)) in
    reads-on k levels which x z m c.args.self.now _ c.in_ok-more.carried h
    (subst (λ (s : RunKind). Does l (markup_turn true (stops_of s) c.args.self.now.carried) (true, c.in_ok-more.carried) c.args.self.now.parser c.read_piece.new.p) h.kind_is did)
    c.token_start-self.ensures h.levels_are h.kind_is refl)

pub returns-clause-shorter : goal.returns-clause-shorter
returns-clause-shorter g c = λ levels which x z m h says. (
    let k = g.C.Classes.classes c.args.classes.now in
    let l = guessing_in k levels which in
    let did = rw c.if-not-more.false at c.in_ok-more.ensures l (fills-at k c.args.self.now.levels levels which h.levels_are (knot-fills k c.args.self.now.levels)) in
    shorter k levels which x z m c.args.self.now c.in_ok-more.carried c.read_piece.new.p h
    (subst (λ (s : RunKind). Does l (markup_turn true (stops_of s) c.args.self.now.carried) (true, c.in_ok-more.carried) c.args.self.now.parser c.read_piece.new.p) h.kind_is did))

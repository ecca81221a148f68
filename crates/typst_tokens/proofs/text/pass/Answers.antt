use Rattle.typst_tokens.proofs.Cited.{◌≡◌, sym, ap, subst, ◌∙◌, length, Some, arith, scout, blank, go, Covers, Sight, saw, sight, went, went_past_pairs}
use Rattle.typst_tokens.proofs.PairRuns.{covers-pairs, pairs-seen}
use Rattle.typst_tokens.proofs.Sights.{covers-went}
use Rattle.typst_tokens.proofs.Texts.{flowing, rest, rest-past, rest-on, rest-off, rest-end, rest-text, rest-place, rest-covers, rest-shortens}
use Rattle.typst_tokens.proofs.text.pass.Goals as goal

pub loop-next-init : goal.loop-next-init
loop-next-init g c =
    let k = g.C.Classes.classes c.args.classes.now in
    let v = c.args.s.now in
    let test = flowing k in
    let e = c.go_past-next.ensures.sight in
    let h = c.go_past-next.ensures.covers in
    record {
      reads = ap (sight (rest k)) e ∙ sym (rest-past k v h) ∙ rest-text k v;
      next = c.go_past-next.ensures.next;
      seen = subst (λ (x : Sight). saw 1 x ≡ x) (sym e) (pairs-seen test v);
      covers = subst Covers (sym e) (covers-pairs test v h);
    }

pub loop-next-smaller : goal.loop-next-smaller
loop-next-smaller g c =
    let k = g.C.Classes.classes c.args.classes.now in
    let v = c.loop-next.s in
    let i = c.loop-next.invariant in
    let w = c.goes_on.new.s in
    let next : Some c.in-Some.c ≡ scout 0 v.place = sym c.in-Some.is ∙ i.next in
    let still = rest-place k c.in-Some.c v w (go blank) i.covers c.if-not-goes_on.ensures in
    omega (arith, rest-shortens (flowing k) c.in-Some.c v.place w.place still next, ap (λ (x : Sight). length x.place.ahead) (c.go_past-next-in-Some.ensures.sight ∙ ap (went_past_pairs (flowing k)) c.eat.ensures.sight))

pub returns-then-not-goes_on : goal.returns-then-not-goes_on
returns-then-not-goes_on g c =
    let k = g.C.Classes.classes c.args.classes.now in
    let v = c.loop-next.s in
    let i = c.loop-next.invariant in
    let next : Some c.in-Some.c ≡ scout 0 v.place = sym c.in-Some.is ∙ i.next in
    sym i.reads ∙ rest-off k c.in-Some.c v c.goes_on.new.s i.covers i.seen next c.if-not-goes_on.ensures

pub loop-next-preserved : goal.loop-next-preserved
loop-next-preserved g c =
    let k = g.C.Classes.classes c.args.classes.now in
    let test = flowing k in
    let v = c.loop-next.s in
    let i = c.loop-next.invariant in
    let w = c.goes_on.new.s in
    let next : Some c.in-Some.c ≡ scout 0 v.place = sym c.in-Some.is ∙ i.next in
    let covers = covers-went 1 w (rest-covers k c.in-Some.c v w (go blank) i.covers c.if-not-goes_on.ensures) in
    let e = c.go_past-next-in-Some.ensures.sight ∙ ap (went_past_pairs test) c.eat.ensures.sight in
    record {
      reads = ap (sight (rest k)) e ∙ sym (rest-past k (went 1 w) covers) ∙ sym (rest-on k c.in-Some.c v w i.covers i.seen next c.if-not-goes_on.ensures) ∙ i.reads;
      next = c.go_past-next-in-Some.ensures.next;
      seen = subst (λ (x : Sight). saw 1 x ≡ x) (sym e) (pairs-seen test (went 1 w));
      covers = subst Covers (sym e) (covers-pairs test (went 1 w) covers);
    }

pub returns : goal.returns
returns g c = grind (arith, rest-end)

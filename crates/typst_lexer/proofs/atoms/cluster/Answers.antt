use Rattle.typst_lexer.proofs.Cited.{common_steps, ap, take, ◌∙◌, arith, chars, in_line, Place, run, place, Sight}
use Rattle.typst_lexer.proofs.Clusters.{inside-run, bytes-is, cluster-none, cluster-some, skipped-is}
use Rattle.typst_lexer.proofs.atoms.cluster.Goals as goal

pub returns-then-is_empty : goal.returns-then-is_empty
returns-then-is_empty g c = grind (arith, cluster-none)

pub cluster-requires-clause-some : goal.cluster-requires-clause-some
cluster-requires-clause-some g c = grind (arith, common_steps)

pub cluster-requires-clause-inside : goal.cluster-requires-clause-inside
cluster-requires-clause-inside g c = inside-run c.args.s.now.place c.see_line-line.result.now c.see_line-line.ensures.taken

pub advance-requires : goal.advance-requires
advance-requires g c =
    let k = g.C.Classes.classes c.args.classes.now in
    let r = c.see_line-line in
    let p = c.args.s.now.place in
    (k.cluster (run in_line p), bytes-is k (g.met.C.Classes.lawful c.args.classes.now) p (place c.ahead-start.result) r.result.now c.cluster.result c.is_empty.result r.utf8 r.ensures.taken c.is_empty.ensures c.if-is_empty.false c.ahead-start.ensures.place c.cluster.ensures)

pub since-requires-clause-after : goal.since-requires-clause-after
since-requires-clause-after g c =
    let k = g.C.Classes.classes c.args.classes.now in
    let r = c.see_line-line in
    let p = c.args.s.now.place in
    let n = k.cluster (run in_line p) in
    (n, c.advance.ensures.moved n (bytes-is k (g.met.C.Classes.lawful c.args.classes.now) p (place c.ahead-start.result) r.result.now c.cluster.result c.is_empty.result r.utf8 r.ensures.taken c.is_empty.ensures c.if-is_empty.false c.ahead-start.ensures.place c.cluster.ensures))

pub skip-requires : goal.skip-requires
skip-requires g c =
    let k = g.C.Classes.classes c.args.classes.now in
    let r = c.see_line-line in
    let p = c.args.s.now.place in
    let n = k.cluster (run in_line p) in
    let m = c.advance.ensures.moved n (bytes-is k (g.met.C.Classes.lawful c.args.classes.now) p (place c.ahead-start.result) r.result.now c.cluster.result c.is_empty.result r.utf8 r.ensures.taken c.is_empty.ensures c.if-is_empty.false c.ahead-start.ensures.place c.cluster.ensures) in
    skipped-is n p (place c.ahead-start.result) r.new.self.place (chars c.since.result.now) c.ahead-start.ensures.place (ap (λ (x : Sight). x.place) r.ensures.sight) (c.since.ensures n m)

pub returns : goal.returns
returns g c =
    let k = g.C.Classes.classes c.args.classes.now in
    let r = c.see_line-line in
    let p = c.args.s.now.place in
    let n = k.cluster (run in_line p) in
    let m = c.advance.ensures.moved n (bytes-is k (g.met.C.Classes.lawful c.args.classes.now) p (place c.ahead-start.result) r.result.now c.cluster.result c.is_empty.result r.utf8 r.ensures.taken c.is_empty.ensures c.if-is_empty.false c.ahead-start.ensures.place c.cluster.ensures) in
    cluster-some k (g.met.C.Classes.lawful c.args.classes.now) c.args.s.now r.new.self c.skip.new.self r.result.now c.since.result.now c.is_empty.result c.plain-2.result
    r.utf8 r.ensures.taken r.ensures.sight c.is_empty.ensures c.if-is_empty.false (c.since.ensures n m ∙ ap (λ (z : Place). take n z.ahead) c.ahead-start.ensures.place) c.skip.ensures c.plain-2.ensures

use Rattle.typst_candidates.proofs.Cited.{◌≡◌, ◌++◌, List, length, take, ap, sym, refl, ◌∙◌, arith, take_all, Candidate, of_block, run_in, found_in_all, inside, kids}
use Rattle.typst_candidates.proofs.Nested.{piece-run}
use Rattle.typst_candidates.proofs.Stops.{covered, covered-fewer, covered-fits, down, front-longer, none-below, shorter, steps-lead, steps-on}
use Rattle.typst_candidates.proofs.candidate.CandidateSearch.below.Goals as goal

pub stop-stop-requires-clause-fits : goal.stop-stop-requires-clause-fits
stop-stop-requires-clause-fits c =
    covered-fits c.args.self.now.start c.args.self.now.end c.loop-child.stop c.in-Some.child.now (covered c.args.self.now.start c.args.self.now.end c.loop-child.stop c.in-Some.child.now c.in-Some.ensures.some)

pub loop-child-smaller : goal.loop-child-smaller
loop-child-smaller c =
    covered-fewer c.args.self.now.start c.args.self.now.end c.loop-child.stop c.in-Some.child.now c.stop-stop.result.node.now (covered c.args.self.now.start c.args.self.now.end c.loop-child.stop c.in-Some.child.now c.in-Some.ensures.some) c.stop-stop.ensures.node

pub returns-clause-found : goal.returns-clause-found
returns-clause-found c = λ ns w.
    let es = c.args.self.now.records.now.units.entries in
    let path = c.loop-child.path.items in
    let none = none-below ns c.args.self.now.start c.args.self.now.end path c.loop-child.stop c.loop-child.invariant.near (c.in_default.ensures.none refl) in
    ap (λ (cs : List Candidate). cs ++ found_in_all es path c.loop-child.around.items) (sym none) ∙ c.loop-child.invariant.found ns w path (take_all (length path) path (omega arith))

pub loop-child-preserved : goal.loop-child-preserved
loop-child-preserved c =
    let es = c.args.self.now.records.now.units.entries in
    let re = c.args.self.now.end in
    let s = c.loop-child.stop in
    let u = c.stop-stop.result in
    let t = c.in-Some.child.now in
    let is = covered _ re s t c.in-Some.ensures.some in
    let way = c.in_ok-push.ensures.items in
    let long : u.depth ≡ length c.push.new.self.items = omega (arith, c.stop-stop.ensures.depth, c.len.ensures, c.push.new.self.ok.0) in
    record {
      near = c.stop-stop.ensures.near;
      depth = long;
      path = front-longer c.args.path.now.items c.loop-child.path.items c.push.new.self.items s.near.first.index c.loop-child.invariant.path way;
      way = steps-on c.args.path.now.items c.loop-child.path.items c.push.new.self.items c.args.top.near.first.index s.near.first.index u.near.first.index c.loop-child.invariant.path way c.loop-child.invariant.way;
      found = λ ns w final front.
          (let kind = c.run_of_child-run.ensures es ∙ (piece-run es ns s.at c.kind-in-Some.result c.kind-in-Some-2.result w ∙ (λ k. run_in ns s.at (c.kind-in-Some.ensures k) (c.kind-in-Some-2.ensures k))) in
          let nearer = shorter es ns _ re s u t c.loop-child.path.items c.push.new.self.items final c.run_of_child-run.result c.loop-child.invariant.near c.stop-stop.ensures.near is c.stop-stop.ensures.node c.stop-stop.ensures.at c.loop-child.invariant.depth long way front kind in
          down es ns _ re s u t c.loop-child.path.items c.push.new.self.items final c.run_of_child-run.result c.loop-child.invariant.near c.stop-stop.ensures.near is c.stop-stop.ensures.node c.stop-stop.ensures.at c.loop-child.invariant.depth long way front kind
          (found_in_all es final c.loop-child.around.items) (found_in_all es final c.push_block.new.around.items) (found_in_all es final c.push_run.new.around.items) _ _
          (ap (of_block (take s.depth final) (inside s) (kids s) s.near.first.index) c.kind.ensures) (c.in_ok-push_block.ensures es final) (c.in_ok-push_run.ensures es final) (c.loop-child.invariant.found ns w final nearer));
    }

pub returns-clause-way : goal.returns-clause-way
returns-clause-way c = steps-lead c.args.top.near.first.index c.loop-child.stop.near.first.index c.args.path.now.items c.loop-child.path.items c.loop-child.invariant.way

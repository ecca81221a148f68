use Rattle.typst_candidates.proofs.Cited.{◌≡◌, ◌+◌, ◌*◌, ◌-◌, ◌≤◌, ◌++◌, ◌∷◌, [], min, suc, length, take, arith, sym, ap, ◌∙◌, ℕ, List, length-append, length-map, take-take, Tree, Candidate, laid, of_child_ranges, child_ranges, bytes_of, spelled, map}
use Rattle.typst_candidates.specs.declared.candidate.Candidate as found
use Rattle.typst_candidates.proofs.Found.{first_of_run, no_more, last_piece, next_piece, one_piece, not_all, all_by_test}
use Rattle.typst_candidates.proofs.Windows.{added_front, in_window}
use Rattle.typst_candidates.proofs.candidate.add_pieces.Goals as goal

all_first : (at : ℕ) (ts : List Tree) (cuts : List ℕ) (i j : ℕ) (path : List ℕ) (room : ℕ) (cs : List Candidate)
    → cs ++ of_child_ranges path at ts (child_ranges cuts (laid at ts) i j (min room (suc (length ts))) 1) ≡ cs ++ take room (of_child_ranges path at ts (child_ranges cuts (laid at ts) i j (suc (length ts)) 1))
all_first at ts cuts i j path room cs = ap (λ (ds : List Candidate). cs ++ ds) (first_of_run path cuts at ts i j room (suc (length ts)) 1)

pub returns-clause-added : goal.returns-clause-added
returns-clause-added c = λ bs e path.
    let over : min c.args.room (suc (length c.args.children.now.kids.now)) - c.loop-added.added ≡ 0 = omega (arith, c.loop-added-test.false, c.len.ensures.value) in
    no_more (take c.args.depth path) bs c.args.children.now.at c.args.children.now.kids.now c.args.near.first.index c.args.near.end.index _ c.loop-added.more (map (spelled path) c.loop-added.found.items) over
    ∙ (c.loop-added.invariant.left bs e path ∙ all_first c.args.children.now.at c.args.children.now.kids.now bs c.args.near.first.index c.args.near.end.index (take c.args.depth path) c.args.room (map (spelled path) c.args.found.now.items))

pub returns-then-not-lies_in-clause-added : goal.returns-then-not-lies_in-clause-added
returns-then-not-lies_in-clause-added c = λ bs e path.
    let ends : min c.args.room (suc (length c.args.children.now.kids.now)) ≤ c.args.room = omega arith in
    let less : c.loop-added.added ≤ c.args.room = omega (arith, c.loop-added-test.true) in
    let long : length (map (spelled path) c.loop-added.found.items) ≡ length (map (spelled path) c.args.found.now.items) + c.loop-added.added = omega (arith, c.loop-added.invariant.many, length-map c.loop-added.found.items (spelled path), length-map c.args.found.now.items (spelled path)) in
    added_front (map (spelled path) c.loop-added.found.items) _ (map (spelled path) c.args.found.now.items) _ c.loop-added.added
    (c.loop-added.invariant.left bs e path ∙ all_first c.args.children.now.at _ bs c.args.near.first.index c.args.near.end.index (take c.args.depth path) c.args.room (map (spelled path) c.args.found.now.items)) long
    ∙ ap (λ (ds : List Candidate). map (spelled path) c.args.found.now.items ++ ds) (take-take c.loop-added.added c.args.room _ less)

pub returns-then-is_all-clause-added : goal.returns-then-is_all-clause-added
returns-then-is_all-clause-added c = λ bs e path.
    let w = c.around-range.ensures in
    let there = in_window c.args.cuts.now.window bs (bytes_of c.args.cuts.now) c.args.children.now.at c.args.children.now.kids.now c.args.near.first.index c.args.near.end.index c.loop-added.more c.around-range.result c.requires.order c.requires.end.within e w.from w.to w.value (sym c.lies_in.ensures ∙ c.if-not-lies_in.false) in
    let is = one_piece path c.args.depth c.args.children.now.at c.args.children.now.kids.now c.around-range.result _ c.of_child_range.result w.from w.to there c.of_child_range.ensures in
    sym (last_piece bs c.args.children.now.at c.args.children.now.kids.now c.args.near.first.index c.args.near.end.index path c.args.depth (min c.args.room (suc (length c.args.children.now.kids.now))) c.loop-added.added c.loop-added.more c.loop-added.found.items c.push.new.self.items c.of_child_range.result
    (omega (arith, c.loop-added-test.true, c.len.ensures.value)) c.in_ok-push.ensures.items is (all_by_test (laid c.args.children.now.at c.args.children.now.kids.now) _ _ _ there (sym c.is_all.ensures ∙ c.if-is_all.true)))
    ∙ (c.loop-added.invariant.left bs e path ∙ all_first c.args.children.now.at c.args.children.now.kids.now bs c.args.near.first.index c.args.near.end.index (take c.args.depth path) c.args.room (map (spelled path) c.args.found.now.items))

pub overflow_mul-more : goal.overflow_mul-more
overflow_mul-more c =
    let less = not_all (bytes_of c.args.cuts.now) c.args.children.now.at c.args.children.now.kids.now c.args.near.first.index c.args.near.end.index c.loop-added.more c.requires.first.within (all_by_test (laid c.args.children.now.at c.args.children.now.kids.now) _ _ _ c.around-range.ensures.value (sym c.is_all.ensures ∙ c.if-is_all.false)) in
    omega (arith, less, c.len.ensures.value, c.len.ensures.small)

pub loop-added-preserved : goal.loop-added-preserved
loop-added-preserved c = record {
  many = omega (arith, c.loop-added.invariant.many, ap (λ (ds : List found.Candidate). length ds) c.in_ok-push.ensures.items, length-append c.loop-added.found.items (c.of_child_range.result ∷ []));
  left = λ bs e path.
      (let w = c.around-range.ensures in
      let there = in_window c.args.cuts.now.window bs (bytes_of c.args.cuts.now) c.args.children.now.at c.args.children.now.kids.now c.args.near.first.index c.args.near.end.index c.loop-added.more c.around-range.result c.requires.order c.requires.end.within e w.from w.to w.value (sym c.lies_in.ensures ∙ c.if-not-lies_in.false) in
      let is = one_piece path c.args.depth c.args.children.now.at c.args.children.now.kids.now c.around-range.result _ c.of_child_range.result w.from w.to there c.of_child_range.ensures in
      let twice : 2 * c.loop-added.more ≡ c.loop-added.more * 2 = omega arith in
      sym (next_piece bs c.args.children.now.at c.args.children.now.kids.now c.args.near.first.index c.args.near.end.index path c.args.depth (min c.args.room (suc (length c.args.children.now.kids.now))) c.loop-added.added c.loop-added.more c.loop-added.found.items c.push.new.self.items c.of_child_range.result
      (omega (arith, c.loop-added-test.true, c.len.ensures.value)) c.in_ok-push.ensures.items is (all_by_test (laid c.args.children.now.at c.args.children.now.kids.now) _ _ _ there (sym c.is_all.ensures ∙ c.if-is_all.false))
      ∙ ap (λ (x : ℕ). map (spelled path) c.push.new.self.items ++ of_child_ranges (take c.args.depth path) c.args.children.now.at c.args.children.now.kids.now (child_ranges bs (laid c.args.children.now.at c.args.children.now.kids.now) c.args.near.first.index c.args.near.end.index (min c.args.room (suc (length c.args.children.now.kids.now)) - (c.loop-added.added + 1)) x)) twice)
      ∙ c.loop-added.invariant.left bs e path);
}

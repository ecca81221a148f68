use Rattle.typst_parser.proofs.Cited.{◌≡◌, ℕ, ◌<◌, ◌≤◌, length, Ok, refl, ap, subst, arith, CharClasses, Tree, Units, Refused, Every, Speaks, TextReplacement, candidates, NonePasses, NonePassesOf, TakesFirst, Asked}
use Rattle.typst_parser.proofs.Answering.{each-fewer, edit-order, holds-still, none-of, none-still, places-fit, root-fits, speaks-still, taken-before}
use Rattle.typst_parser.proofs.Turns.{are-all, as-many, asked-speaks, counted, found-first}
use Rattle.typst_parser.proofs.edited.reparse_near.Goals as goal

pub find_candidates_from-requires-clause-order : goal.find_candidates_from-requires-clause-order
find_candidates_from-requires-clause-order g c = edit-order (g.C.Classes.classes c.args.classes.now) c.requires.edits.0 c.args.root.now c.args.records.now.units c.requires.edits.1.1 c.args.new.now c.args.edit c.requires.edits.1.0

pub find_candidates_from-requires-clause-fits : goal.find_candidates_from-requires-clause-fits
find_candidates_from-requires-clause-fits g c = root-fits (g.C.Classes.classes c.args.classes.now) c.requires.edits.0 c.args.root.now c.args.records.now.units c.requires.edits.1.1 c.args.new.now c.args.edit c.requires.edits.1.0

pub find_candidates_from-requires-clause-edge : goal.find_candidates_from-requires-clause-edge
find_candidates_from-requires-clause-edge g c = c.edge_of-edge.ensures c.args.root.now c.requires.boundary

pub last_token-last-requires : goal.last_token-last-requires
last_token-last-requires g c = places-fit (g.C.Classes.classes c.args.classes.now) c.requires.edits.0 c.args.root.now c.args.records.now.units c.requires.edits.1.1 c.args.new.now c.args.edit c.requires.edits.1.0

pub take_first-requires-clause-some : goal.take_first-requires-clause-some
take_first-requires-clause-some g c =
    let q : Asked g.row.C.Denot = record { new = c.args.new; edit = c.args.edit; front = c.front.result; rear = c.rear.result; classes = c.args.classes } in
    let makes = c.requires.edits.1.0 in
    let holds = c.requires.edits.1.1 in
    let few = found-first _ _ _ _ holds q makes _ _ c.in_ok-few.ensures.found in
    record { change = c.requires.edits.0; speaks = asked-speaks _ _ _ _ holds q makes c.utf8.new c.front.ensures c.rear.ensures; first = as-many _ _ _ _ few; edge = c.in_ok-few.ensures.first; way = c.in_ok-few.ensures.way }

pub returns-in-Some-clause-part : goal.returns-in-Some-clause-part
returns-in-Some-clause-part g c = λ ch makes holds.
    let q : Asked g.row.C.Denot = record { new = c.args.new; edit = c.args.edit; front = c.front.result; rear = c.rear.result; classes = c.args.classes } in
    let speaks = asked-speaks _ _ _ _ holds q makes c.utf8.new c.front.ensures c.rear.ensures in
    let few = found-first _ _ _ _ holds q makes _ _ c.in_ok-few.ensures.found in
    let begun = c.in_ok-read.ensures.first ch speaks (as-many _ _ _ _ few) tt in
    subst (TakesFirst _ ch c.args.root.now c.take_first.new.root c.take_first.new.records.units (length c.in_ok-few.few.items.items)) c.in-Some.is begun

pub returns-then-tried-few-clause-none : goal.returns-then-tried-few-clause-none
returns-then-tried-few-clause-none g c = λ ch makes holds e.
    let k = g.C.Classes.classes c.args.classes.now in
    let n = length c.in_ok-few.few.items.items in
    let q : Asked g.row.C.Denot = record { new = c.args.new; edit = c.args.edit; front = c.front.result; rear = c.rear.result; classes = c.args.classes } in
    let speaks = asked-speaks _ _ _ _ holds q makes c.utf8.new c.front.ensures c.rear.ensures in
    let few = found-first _ _ _ _ holds q makes _ _ c.in_ok-few.ensures.found in
    let begun = c.in_ok-read.ensures.first ch speaks (as-many _ _ _ _ few) tt in
    let none : NonePassesOf k ch c.args.root.now n = subst (TakesFirst k ch c.args.root.now c.take_first.new.root c.take_first.new.records.units n) c.in_default.is begun in
    let fewer : n < c.in_ok-few.few.most = omega (arith, c.if-tried-few.true, c.len-tried.ensures, c.in_ok-few.few.items.ok.0) in
    subst (Every (Refused k ch c.args.root.now)) (are-all _ _ _ _ few fewer) none

-- ---- all

pub find_candidates_from-requires-2-clause-order : goal.find_candidates_from-requires-2-clause-order
find_candidates_from-requires-2-clause-order g c = edit-order _ _ _ _ c.requires.edits.1.1 _ _ c.requires.edits.1.0

pub find_candidates_from-requires-2-clause-fits : goal.find_candidates_from-requires-2-clause-fits
find_candidates_from-requires-2-clause-fits g c =
    let same = c.in_ok-read.ensures.undone (ap (λ o. Ok o) c.in_default.is) in
    root-fits _ _ _ _ (holds-still _ _ _ _ _ same.0 _ same.1 c.requires.edits.1.1) _ _ c.requires.edits.1.0

pub find_candidates_from-requires-2-clause-edge : goal.find_candidates_from-requires-2-clause-edge
find_candidates_from-requires-2-clause-edge g c = grind arith

pub take_first-requires-2-clause-some : goal.take_first-requires-2-clause-some
take_first-requires-2-clause-some g c =
    let q : Asked g.row.C.Denot = record { new = c.args.new; edit = c.args.edit; front = c.front.result; rear = c.rear.result; classes = c.args.classes } in
    let makes = c.requires.edits.1.0 in
    let holds = c.requires.edits.1.1 in
    let same = c.in_ok-read.ensures.undone (ap (λ o. Ok o) c.in_default.is) in
    let speaks = asked-speaks _ _ _ _ holds q makes c.utf8.new c.front.ensures c.rear.ensures in
    let all = found-first _ _ _ _ (holds-still _ _ _ _ _ same.0 _ same.1 holds) q makes _ _ c.in_ok-all.ensures.found in
    record { change = c.requires.edits.0; speaks = speaks-still _ _ _ _ _ same.0 _ same.1 q speaks; first = as-many _ _ _ _ all; edge = c.in_ok-all.ensures.first; way = c.in_ok-all.ensures.way }

pub take_first-requires-2-clause-known : goal.take_first-requires-2-clause-known
take_first-requires-2-clause-known g c = grind arith

pub take_first-requires-2-clause-within : goal.take_first-requires-2-clause-within
take_first-requires-2-clause-within g c =
    let k = g.C.Classes.classes c.args.classes.now in
    let ch = c.requires.edits.0 in
    let q : Asked g.row.C.Denot = record { new = c.args.new; edit = c.args.edit; front = c.front.result; rear = c.rear.result; classes = c.args.classes } in
    let makes = c.requires.edits.1.0 in
    let holds = c.requires.edits.1.1 in
    let same = c.in_ok-read.ensures.undone (ap (λ o. Ok o) c.in_default.is) in
    let few = found-first _ _ _ _ holds q makes _ _ c.in_ok-few.ensures.found in
    let all = found-first _ _ _ _ (holds-still _ _ _ _ _ same.0 _ same.1 holds) q makes _ _ c.in_ok-all.ensures.found in
    let fews = counted _ _ _ _ few in
    let alls = counted _ _ _ _ all in
    let most : c.in_ok-all.all.most ≡ 18446744073709551615 = c.in_ok-all.ensures.whole refl in
    let long = ap (λ (t : Tree). length (candidates k ch t)) same.0 in
    omega (arith, fews, alls, most, long, c.len-tried.ensures, c.in_ok-few.few.items.ok.0, c.in_ok-few.few.items.ok.1, c.in_ok-few.few.items.small)

-- ---- what was taken of all

-- where none passes of the few, what is asked of all of them
second-asked : {C : Type 0} (k : CharClasses) (c : TextReplacement) (root : Tree) (units : Units) (q : Asked C) → Speaks k c q root units → (r : Tree) → r ≡ root → (u : Units) → u ≡ units
    → (n tried : ℕ) → NonePassesOf k c root n → tried ≤ n → Speaks k c q r u × NonePassesOf k c r tried
second-asked k c root units q speaks r r_is u u_is n tried none few =
    (speaks-still k c root units r r_is u u_is q speaks, none-still k c root units r r_is u u_is tried (each-fewer (Refused k c root) (candidates k c root) n tried few none))

pub returns-clause-part : goal.returns-clause-part
returns-clause-part g c = λ ch makes holds.
    let k = g.C.Classes.classes c.args.classes.now in
    let n = length c.in_ok-few.few.items.items in
    let q : Asked g.row.C.Denot = record { new = c.args.new; edit = c.args.edit; front = c.front.result; rear = c.rear.result; classes = c.args.classes } in
    let speaks = asked-speaks _ _ _ _ holds q makes c.utf8.new c.front.ensures c.rear.ensures in
    let few = found-first _ _ _ _ holds q makes _ _ c.in_ok-few.ensures.found in
    let begun = c.in_ok-read.ensures.first ch speaks (as-many _ _ _ _ few) tt in
    let none : NonePassesOf k ch c.args.root.now n = subst (TakesFirst k ch c.args.root.now c.take_first.new.root c.take_first.new.records.units n) c.in_default.is begun in
    let same = c.in_ok-read.ensures.undone (ap (λ o. Ok o) c.in_default.is) in
    let all = found-first _ _ _ _ (holds-still _ _ _ _ _ same.0 _ same.1 holds) q makes _ _ c.in_ok-all.ensures.found in
    let asked = second-asked k ch _ _ q speaks _ same.0 _ same.1 n c.len-tried.result none (omega (arith, c.len-tried.ensures, c.in_ok-few.few.items.ok.0)) in
    taken-before k ch _ _ _ same.0 _ same.1 _ _ _ _ (c.take_first-2.ensures.first ch asked.0 (as-many _ _ _ _ all) asked.1)

pub returns-clause-none : goal.returns-clause-none
returns-clause-none g c = λ ch makes holds e.
    let k = g.C.Classes.classes c.args.classes.now in
    let n = length c.in_ok-few.few.items.items in
    let q : Asked g.row.C.Denot = record { new = c.args.new; edit = c.args.edit; front = c.front.result; rear = c.rear.result; classes = c.args.classes } in
    let speaks = asked-speaks _ _ _ _ holds q makes c.utf8.new c.front.ensures c.rear.ensures in
    let few = found-first _ _ _ _ holds q makes _ _ c.in_ok-few.ensures.found in
    let begun = c.in_ok-read.ensures.first ch speaks (as-many _ _ _ _ few) tt in
    let none : NonePassesOf k ch c.args.root.now n = subst (TakesFirst k ch c.args.root.now c.take_first.new.root c.take_first.new.records.units n) c.in_default.is begun in
    let same = c.in_ok-read.ensures.undone (ap (λ o. Ok o) c.in_default.is) in
    let all = found-first _ _ _ _ (holds-still _ _ _ _ _ same.0 _ same.1 holds) q makes _ _ c.in_ok-all.ensures.found in
    let asked = second-asked k ch _ _ q speaks _ same.0 _ same.1 n c.len-tried.result none (omega (arith, c.len-tried.ensures, c.in_ok-few.few.items.ok.0)) in
    let over = none-of k ch _ _ _ same.0 _ same.1 _ _ _ _ e (c.take_first-2.ensures.first ch asked.0 (as-many _ _ _ _ all) asked.1) in
    let most : c.in_ok-all.all.most ≡ 18446744073709551615 = c.in_ok-all.ensures.whole refl in
    let fits : length c.in_ok-all.all.items.items < c.in_ok-all.all.most = omega (arith, most, c.in_ok-all.all.items.ok.0, c.in_ok-all.all.items.ok.1, c.in_ok-all.all.items.small) in
    subst (NonePasses k ch) same.0 (subst (Every (Refused k ch c.take_first.new.root)) (are-all _ _ _ _ all fits) over)

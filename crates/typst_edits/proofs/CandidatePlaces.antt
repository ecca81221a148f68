-- Candidates stand in the tree: along a path of inner nodes, as children that are there.
use Rattle.typst_edits.proofs.Cited.{◌≡◌, ℕ, zero, suc, ◌+◌, ◌-◌, ◌*◌, min, Bool, true, false, ◌&&◌, List, [], ◌∷◌, ◌++◌, length, map, Option, Some, None, refl, ap, sym, ◌∙◌, ◌≤◌, ◌<◌, IsTrue, take, subst, arith, append_assoc, length-append, nat_le, option_map, slice_get, ◌==◌, nat_lt, if◌then◌else◌, is_block, Note, Forest, none, more, Tree, forest, trees, text_of, bare, bare_forest, Head, Child, laid, first_near, end_near, child_at, ChildRange, Candidate, begins, of_run, run_in, candidates_at, of_children, is_hash, holds_at, back_past, on_past, is_all, child_ranges, of_child_ranges, covers, with_hash, top_cuts, nat_tests, At, Reaches, start_at, or_none, Every, on_both, length-map, joined_bare, begun_none, text_bare, slice_get_within}
use Rattle.typst_tree.specs.Tree.{joined}
use Rattle.typst_candidates.specs.Candidates.{begun, ended, from_of, to_of, around, of_block, candidates}
use Rattle.std.proofs.lemmas.List.{append-nil}
use Rattle.typst_edits.proofs.Replaced.{trees-bare, replaced-law}
use Rattle.typst_edits.specs.BareCandidates.{BareCandidatesLaw}
pub use Rattle.typst_candidates.proofs.Edges.{laid_length as length-laid}
use Rattle.typst_edits.proofs.Edit.{among}
use Rattle.typst_edits.proofs.Every.{every-by, every-if}
use Rattle.typst_edits.specs.CandidatePlaces.{StandsIn, CandidatePlacesLaw, CandidateTreeLaw}
use Rattle.typst_edits.proofs.MarkupCandidates.{node-every, covers-is}

-- ---- what candidates are taken from of a tree: kinds, lengths, texts of leaves and children, and no spans

abbrev bare_child : Child → Child
bare_child c = record { start = c.start; end = c.end; node = bare c.node }

laid-bare : (at : ℕ) (ts : List Tree) → laid at (map bare ts) ≡ map bare_child (laid at ts)
laid-bare at [] = refl
laid-bare at (t ∷ ts) =
    let same : length (text_of (bare t)) ≡ length (text_of t) = ap length (text_bare t) in
    λ i. record { start = at; end = at + same i; node = bare t } ∷ (ap (λ n. laid (at + n) (map bare ts)) same ∙ laid-bare (at + length (text_of t)) ts) i

begins-bare : (at : ℕ) (ts : List Tree) (n : ℕ) → begins at (map bare ts) n ≡ begins at ts n
begins-bare at [] n = refl
begins-bare at (t ∷ ts) zero = refl
begins-bare at (t ∷ ts) (suc n) =
    let same : length (text_of (bare t)) ≡ length (text_of t) = ap length (text_bare t) in
    ap (λ m. begins (at + m) (map bare ts) n) same ∙ begins-bare (at + length (text_of t)) ts n

begun-bare : (b : ℕ) (cs : List Child) → begun b (map bare_child cs) ≡ begun b cs
begun-bare b [] = refl
begun-bare b (c ∷ cs) = ap (λ n. if nat_lt c.start b then suc n else 0) (begun-bare b cs)

ended-bare : (b : ℕ) (cs : List Child) → ended b (map bare_child cs) ≡ ended b cs
ended-bare b [] = refl
ended-bare b (c ∷ cs) = ap (λ n. if nat_le c.end b then suc n else 0) (ended-bare b cs)

end-bare : (b : ℕ) (cs : List Child) → end_near b (map bare_child cs) ≡ end_near b cs
end-bare b cs = λ i. min (suc (ended-bare b cs i)) (length-map cs bare_child i)

holds-bare : (f : Child → Bool) → ((c : Child) → f (bare_child c) ≡ f c) → (cs : List Child) (n : ℕ) → holds_at f (map bare_child cs) n ≡ holds_at f cs n
holds-bare f e [] n = refl
holds-bare f e (c ∷ cs) zero = e c
holds-bare f e (c ∷ cs) (suc n) = holds-bare f e cs n

from-bare : (cuts : List ℕ) (cs : List Child) (i x : ℕ) → from_of cuts (map bare_child cs) i x ≡ from_of cuts cs i x
from-bare cuts cs i x = grind (arith, holds-bare)

to-bare : (cuts : List ℕ) (cs : List Child) (i x : ℕ) → to_of cuts (map bare_child cs) i x ≡ to_of cuts cs i x
to-bare cuts cs i x = grind (arith, holds-bare, length-map)

child_ranges-bare : (cuts : List ℕ) (cs : List Child) (i j tries x : ℕ) → child_ranges cuts (map bare_child cs) i j tries x ≡ child_ranges cuts cs i j tries x
child_ranges-bare cuts cs i j zero x = refl
child_ranges-bare cuts cs i j (suc tries) x =
    let s : around cuts (map bare_child cs) i j x ≡ around cuts cs i j x = λ n. record { from = from-bare cuts cs i x n; to = to-bare cuts cs j x n } in
    let all : is_all (map bare_child cs) (around cuts (map bare_child cs) i j x) ≡ is_all cs (around cuts cs i j x) = λ n. (s n).from == 0 && (s n).to == length-map cs bare_child n in
    λ n. s n ∷ (if all n then [] else child_ranges-bare cuts cs i j tries (2 * x) n)

children-bare : (is_block : Bool) (path : List ℕ) (at : ℕ) (ts : List Tree) (from to : ℕ) → of_children is_block path at (map bare ts) from to ≡ of_children is_block path at ts from to
children-bare is_block path at ts from to = grind (arith, begins-bare)

of-child_ranges-bare : (path : List ℕ) (at : ℕ) (ts : List Tree) (ss : List ChildRange) → of_child_ranges path at (map bare ts) ss ≡ of_child_ranges path at ts ss
of-child_ranges-bare path at ts [] = refl
of-child_ranges-bare path at ts (s ∷ ss) = λ i. children-bare false path at ts s.from s.to i ∷ of-child_ranges-bare path at ts ss i

-- the children with their bytes, and those near the replaced bytes
record Near (rs re at : ℕ) (ts : List Tree) : Type 0 where
  pub first : first_near rs (laid at (map bare ts)) ≡ first_near rs (laid at ts)
  pub end : end_near re (laid at (map bare ts)) ≡ end_near re (laid at ts)

near-bare : (rs re at : ℕ) (ts : List Tree) → Near rs re at ts
near-bare rs re at ts = record { first = ap (first_near rs) (laid-bare at ts) ∙ ap (λ n. n - 1) (begun-bare rs (laid at ts)); end = ap (end_near re) (laid-bare at ts) ∙ end-bare re (laid at ts) }

run-bare : (rs re : ℕ) (path : List ℕ) (at : ℕ) (ts : List Tree) (run : Option (List ℕ)) → of_run rs re path at (map bare ts) run ≡ of_run rs re path at ts run
run-bare rs re path at ts None = refl
run-bare rs re path at ts (Some cuts) =
    let near = near-bare rs re at ts in
    let i = first_near rs (laid at ts) in
    let j = end_near re (laid at ts) in
    let placed : child_ranges cuts (laid at (map bare ts)) (first_near rs (laid at (map bare ts))) (end_near re (laid at (map bare ts))) (suc (length (map bare ts))) 1 ≡ child_ranges cuts (map bare_child (laid at ts)) i j (suc (length ts)) 1 =
    λ n. child_ranges cuts (laid-bare at ts n) (near.first n) (near.end n) (suc (length-map ts bare n)) 1 in
    ap (of_child_ranges path at (map bare ts)) (placed ∙ child_ranges-bare cuts (laid at ts) i j (suc (length ts)) 1) ∙ of-child_ranges-bare path at ts (child_ranges cuts (laid at ts) i j (suc (length ts)) 1)

child-bare : (cs : List Child) (n : ℕ) → child_at (map bare_child cs) n ≡ option_map bare_child (child_at cs n)
child-bare [] n = refl
child-bare (c ∷ cs) zero = refl
child-bare (c ∷ cs) (suc n) = child-bare cs n

got-bare : (at n m : ℕ) (ts : List Tree) → n ≡ m → child_at (laid at (map bare ts)) n ≡ option_map bare_child (child_at (laid at ts) m)
got-bare at n m ts e = (λ i. child_at (laid-bare at ts i) (e i)) ∙ child-bare (laid at ts) m

-- What is made of a child, if there is one, is the same if it is the same for each child.
chosen-bare : (f g : Child → List Candidate) (n o : Option Child) → n ≡ option_map bare_child o → ((c : Child) → f (bare_child c) ≡ g c)
    → (elim n as (λ _. List Candidate) [ None ↦ [] | Some c ↦ f c ]) ≡ (elim o as (λ _. List Candidate) [ None ↦ [] | Some c ↦ g c ])
chosen-bare f g n o e h = grind arith

-- The candidates that a node's child gives, by those within it.
abbrev from_child : List Note → ℕ → ℕ → List ℕ → ℕ → ℕ → Head → List Tree → (List ℕ → Option (List ℕ) → ℕ → List Candidate) → Child → List Candidate
from_child ns rs re path at inside h ts below c =
    let cs = laid inside ts in
    let i = first_near rs cs in
    if covers rs re cs i c then below (path ++ i ∷ []) (run_in ns at h.kind c.node.head.kind) i ++ of_block path inside ts i c.node.head.kind else []

from-child-bare : (ns : List Note) (rs re : ℕ) (path : List ℕ) (at inside : ℕ) (h : Head) (ts : List Tree) (now below : List ℕ → Option (List ℕ) → ℕ → List Candidate)
    → ((path : List ℕ) (run : Option (List ℕ)) (i : ℕ) → now path run i ≡ below path run i) → (c : Child)
    → from_child ns rs re path at inside h (map bare ts) now (bare_child c) ≡ from_child ns rs re path at inside h ts below c
from-child-bare ns rs re path at inside h ts now below same c =
    let near = near-bare rs re inside ts in
    let k = c.node.head.kind in
    λ j. if (near.end j == suc (near.first j)) && (nat_lt c.start rs && (nat_lt re c.end && c.node.head.is_inner))
    then same (path ++ near.first j ∷ []) (run_in ns at h.kind k) (near.first j) j ++ (if is_block k then children-bare true path inside ts (near.first j) (suc (near.first j)) j ∷ [] else [])
    else []

-- The candidates at a node with other children that are the same, spans aside.
candidates-in : (ns : List Note) (rs re : ℕ) (path : List ℕ) (run : Option (List ℕ)) (at inside : ℕ) (h : Head) (us ts : List Tree) (now below : List ℕ → Option (List ℕ) → ℕ → List Candidate)
    → us ≡ map bare ts → ((path : List ℕ) (run : Option (List ℕ)) (i : ℕ) → now path run i ≡ below path run i)
    → (elim (child_at (laid inside us) (first_near rs (laid inside us))) as (λ _. List Candidate) [ None ↦ [] | Some c ↦ from_child ns rs re path at inside h us now c ]) ++ of_run rs re path inside us run
    ≡ (elim (child_at (laid inside ts) (first_near rs (laid inside ts))) as (λ _. List Candidate) [ None ↦ [] | Some c ↦ from_child ns rs re path at inside h ts below c ]) ++ of_run rs re path inside ts run
candidates-in ns rs re path run at inside h us ts now below e same =
    let got : child_at (laid inside us) (first_near rs (laid inside us)) ≡ option_map bare_child (child_at (laid inside ts) (first_near rs (laid inside ts))) =
    ap (λ vs. child_at (laid inside vs) (first_near rs (laid inside vs))) e ∙ got-bare inside (first_near rs (laid inside (map bare ts))) (first_near rs (laid inside ts)) ts (near-bare rs re inside ts).first in
    let made : (c : Child) → from_child ns rs re path at inside h us now (bare_child c) ≡ from_child ns rs re path at inside h ts below c =
    λ c. ap (λ vs. from_child ns rs re path at inside h vs now (bare_child c)) e ∙ from-child-bare ns rs re path at inside h ts now below same c in
    let chosen = chosen-bare (from_child ns rs re path at inside h us now) (from_child ns rs re path at inside h ts below) (child_at (laid inside us) (first_near rs (laid inside us))) (child_at (laid inside ts) (first_near rs (laid inside ts))) got made in
    let run-same : of_run rs re path inside us run ≡ of_run rs re path inside ts run = ap (λ vs. of_run rs re path inside vs run) e ∙ run-bare rs re path inside ts run in
    λ j. chosen j ++ run-same j

candidates-bare : (ns : List Note) (rs re : ℕ) (path : List ℕ) (run : Option (List ℕ)) (index at : ℕ) (f : Forest) → candidates_at ns rs re path run index at (bare_forest f) ≡ candidates_at ns rs re path run index at f
unfolding candidates_at
candidates-bare ns rs re path run index at none = refl
candidates-bare ns rs re path run (suc index) at (more h ks r) =
    ap (λ text. candidates_at ns rs re path run index (at + length (h.text ++ text)) (bare_forest r)) (joined_bare ks) ∙ candidates-bare ns rs re path run index (at + length (h.text ++ joined ks)) r
candidates-bare ns rs re path run zero at (more h ks r) =
    let inside = at + length h.text in
    let now = λ (path : List ℕ) (run : Option (List ℕ)) (i : ℕ). candidates_at ns rs re path run i inside (bare_forest ks) in
    let below = λ (path : List ℕ) (run : Option (List ℕ)) (i : ℕ). candidates_at ns rs re path run i inside ks in
    candidates-in ns rs re path run at inside h (trees (bare_forest ks)) (trees ks) now below (trees-bare ks) (λ path run i. candidates-bare ns rs re path run i inside ks)

pub bare-candidates-law : BareCandidatesLaw
bare-candidates-law ns rs re t u e =
    let alone : (v : Tree) → candidates ns rs re (bare v) ≡ candidates ns rs re v = λ v. candidates-bare ns rs re [] (top_cuts ns) 0 0 (forest (v ∷ [])) in
    sym (alone t) ∙ (ap (candidates ns rs re) e ∙ alone u)

-- ---- bytes of children

pub begins-at : (at : ℕ) (ts : List Tree) (n : ℕ) → begins at ts n ≡ at + length (joined (forest (take n ts)))
begins-at at [] zero = omega arith
begins-at at [] (suc n) = omega arith
begins-at at (t ∷ ts) zero = omega arith
begins-at at (t ∷ ts) (suc n) =
    omega (arith, begins-at (at + length (text_of t)) ts n, length-append t.head.text (joined t.kids ++ joined (forest (take n ts))), length-append (joined t.kids) (joined (forest (take n ts))), length-append t.head.text (joined t.kids))

got-laid : (at : ℕ) (ts : List Tree) (n : ℕ) → slice_get ts n ≡ option_map (λ (c : Child). c.node) (child_at (laid at ts) n)
got-laid at [] n = refl
got-laid at (t ∷ ts) zero = refl
got-laid at (t ∷ ts) (suc n) = got-laid (at + length (text_of t)) ts n

-- ---- stretches

pub back-le : (f : ℕ → Bool) (n : ℕ) → back_past f n ≤ n
back-le f zero = omega arith
back-le f (suc n) = on_both (λ (m : ℕ). m ≤ suc n) (f (suc n)) (back_past f n) (suc n) (omega (arith, back-le f n)) (omega arith)

pub on-ge : (f : ℕ → Bool) (limit n : ℕ) → n ≤ on_past f limit n
on-ge f zero n = omega arith
on-ge f (suc limit) n = on_both (λ (m : ℕ). n ≤ m) (f n) (on_past f limit (suc n)) n (omega (arith, on-ge f limit (suc n))) (omega arith)

pub on-le : (f : ℕ → Bool) (limit n : ℕ) → on_past f limit n ≤ n + limit
on-le f zero n = omega arith
on-le f (suc limit) n = on_both (λ (m : ℕ). m ≤ n + suc limit) (f n) (on_past f limit (suc n)) n (omega (arith, on-le f limit (suc n))) (omega arith)

pub hash-le : (cs : List Child) (n : ℕ) → with_hash cs n ≤ n
hash-le cs n = on_both (λ (m : ℕ). m ≤ n) (nat_lt 0 n && holds_at (λ c. is_hash c.node) cs (n - 1)) (n - 1) n (omega arith) (omega arith)

pub begun-le : (b : ℕ) (cs : List Child) → begun b cs ≤ length cs
begun-le b [] = omega arith
begun-le b (c ∷ cs) = on_both (λ (m : ℕ). m ≤ suc (length cs)) (nat_lt c.start b) (suc (begun b cs)) 0 (omega (arith, begun-le b cs)) (omega arith)

pub begun-ended : (at rs re : ℕ) (ts : List Tree) → rs ≤ re → begun rs (laid at ts) ≤ suc (ended re (laid at ts))
begun-ended at rs re [] h = omega arith
begun-ended at rs re (t ∷ ts) h = by-test (nat_lt at rs) (nat_le (at + length (text_of t)) re) refl (begun-ended (at + length (text_of t)) rs re ts h)
  where
    by-test : (b c : Bool) → nat_le (at + length (text_of t)) re ≡ c → begun rs (laid (at + length (text_of t)) ts) ≤ suc (ended re (laid (at + length (text_of t)) ts))
        → (if b then suc (begun rs (laid (at + length (text_of t)) ts)) else 0) ≤ suc (if c then suc (ended re (laid (at + length (text_of t)) ts)) else 0)
    by-test false c e ih = omega arith
    by-test true true e ih = omega (arith, ih)
    by-test true false e ih =
        let past : re < at + length (text_of t) = grind (arith, nat_tests) in
        omega (arith, begun_none rs (at + length (text_of t)) ts (omega (arith, past, h)))

-- a stretch is of children that are there
record Within (len : ℕ) (s : ChildRange) : Type 0 where
  pub order : s.from ≤ s.to
  pub there : s.to ≤ len

around-within : (cuts : List ℕ) (cs : List Child) (i j x : ℕ) → i ≤ j → j ≤ length cs → Within (length cs) (around cuts cs i j x)
around-within cuts cs i j x order there = grind (arith, back-le, hash-le, on-ge, on-le)

child_ranges-within : (cuts : List ℕ) (cs : List Child) (i j tries x : ℕ) → i ≤ j → j ≤ length cs → Every (Within (length cs)) (child_ranges cuts cs i j tries x)
child_ranges-within cuts cs i j zero x order there = tt
child_ranges-within cuts cs i j (suc tries) x order there =
    (around-within cuts cs i j x order there, every-if (Within (length cs)) (is_all cs (around cuts cs i j x)) [] (child_ranges cuts cs i j tries (2 * x)) (λ e. tt) (λ e. child_ranges-within cuts cs i j tries (2 * x) order there))

-- ---- candidates at a node

-- It stands in the tree, if there is one, that begins at a byte and to which a path leads.
record StandsAt (path : List ℕ) (at : ℕ) (t : Option Tree) (c : Candidate) : Type 0 where
  pub behind : List ℕ
  pub is : c.path ≡ path ++ behind
  pub reaches : At (Reaches behind c.from c.to) t
  pub start : c.start ≡ at + or_none (start_at behind c.from) t
  pub end : c.end ≡ at + or_none (start_at behind c.to) t

-- the tree with this head and these children
abbrev node : Head → Forest → Tree
node h ks = record { head = h; kids = ks }

children-stand : (path : List ℕ) (at : ℕ) (h : Head) (ks : Forest) (alone : Bool) (from to : ℕ) → IsTrue h.is_inner → from ≤ to → to ≤ length (trees ks)
    → StandsAt path at (Some (node h ks)) (of_children alone path (at + length h.text) (trees ks) from to)
children-stand path at h ks alone from to inner order there = grind (arith, append-nil, begins-at)

of-child_ranges-stand : (path : List ℕ) (at : ℕ) (h : Head) (ks : Forest) → IsTrue h.is_inner → (ss : List ChildRange) → Every (Within (length (trees ks))) ss
    → Every (StandsAt path at (Some (node h ks))) (of_child_ranges path (at + length h.text) (trees ks) ss)
of-child_ranges-stand path at h ks inner [] w = tt
of-child_ranges-stand path at h ks inner (s ∷ ss) w = (children-stand path at h ks false s.from s.to inner w.0.order w.0.there, of-child_ranges-stand path at h ks inner ss w.1)

run-stands : (rs re : ℕ) (path : List ℕ) (at : ℕ) (h : Head) (ks : Forest) (run : Option (List ℕ)) → IsTrue h.is_inner → rs ≤ re → Every (StandsAt path at (Some (node h ks))) (of_run rs re path (at + length h.text) (trees ks) run)
run-stands rs re path at h ks None inner le = tt
run-stands rs re path at h ks (Some cuts) inner le =
    let inside = at + length h.text in
    let cs = laid inside (trees ks) in
    let i = first_near rs cs in
    let j = end_near re cs in
    let order : i ≤ j = omega (arith, begun-le rs cs, begun-ended inside rs re (trees ks) le) in
    let there : j ≤ length cs = omega arith in
    let w : Every (Within (length (trees ks))) (child_ranges cuts cs i j (suc (length (trees ks))) 1) =
    subst (λ n. Every (Within n) (child_ranges cuts cs i j (suc (length (trees ks))) 1)) (length-laid inside (trees ks)) (child_ranges-within cuts cs i j (suc (length (trees ks))) 1 order there) in
    of-child_ranges-stand path at h ks inner (child_ranges cuts cs i j (suc (length (trees ks))) 1) w

-- what stands in a child stands in the node
in-child : (path : List ℕ) (at : ℕ) (h : Head) (ks : Forest) (i : ℕ) (c : Candidate) → StandsAt (path ++ i ∷ []) (begins (at + length h.text) (trees ks) i) (slice_get (trees ks) i) c
    → StandsAt path at (Some (node h ks)) c
in-child path at h ks i c s = grind (arith, append_assoc, begins-at)

-- the tree of an index is an inner node, if there is one
abbrev IsInner : Option Tree → Type 0
IsInner None = Unit {0}
IsInner (Some t) = IsTrue t.head.is_inner

candidates-stand : (ns : List Note) (rs re : ℕ) (path : List ℕ) (run : Option (List ℕ)) (index at : ℕ) (f : Forest) → rs ≤ re → IsInner (slice_get (trees f) index)
    → Every (StandsAt path (begins at (trees f) index) (slice_get (trees f) index)) (candidates_at ns rs re path run index at f)
unfolding candidates_at
candidates-stand ns rs re path run index at none le inner = tt
candidates-stand ns rs re path run (suc index) at (more h ks r) le inner = candidates-stand ns rs re path run index (at + length (h.text ++ joined ks)) r le inner
candidates-stand ns rs re path run zero at (more h ks r) le inner =
    let inside = at + length h.text in
    let cs = laid inside (trees ks) in
    let i = first_near rs cs in
    let got = λ (c : Child) (e : child_at cs i ≡ Some c). got-laid inside (trees ks) i ∙ ap (option_map (λ (d : Child). d.node)) e in
    node-every ns rs re (StandsAt path at (Some (node h ks))) path run at h ks r
    (λ c e on. every-by (in-child path at h ks i) _ (candidates-stand ns rs re (path ++ i ∷ []) (run_in ns at h.kind c.node.head.kind) i inside ks le (subst IsInner (sym (got c e)) (covers-is rs re cs i c on).inner)))
    (λ c e on one. children-stand path at h ks true i (suc i) inner (omega arith) (omega (arith, slice_get_within (trees ks) i c.node (got c e))))
    (run-stands rs re path at h ks run inner le)

pub candidate-places-law : CandidatePlacesLaw
candidate-places-law ns rs re root inner le = grind (arith, every-by, candidates-stand)

pub candidate-tree-law : CandidateTreeLaw
candidate-tree-law ns rs re c new root was now inner le i same is =
    grind (arith, among (StandsIn root) c (candidates ns rs re root) i (candidate-places-law ns rs re root inner le), replaced-law)

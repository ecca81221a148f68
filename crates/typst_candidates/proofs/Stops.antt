-- On the way down to the replaced bytes and back.
use Rattle.typst_candidates.proofs.Cited.{◌≡◌, ℕ, zero, suc, ◌+◌, ◌^◌, ◌<◌, ◌≤◌, Bool, true, false, List, [], ◌∷◌, ◌++◌, length, take, drop, get_or, refl, ap, sym, subst, ◌∙◌, arith, append_assoc, length-append, if◌then◌else◌, Option, Some, None, nat_tests, append-nil, length-take, take-append-le, take-take, get_or_from_slice_get, slice_get_past, slice_get_read, slice_get_within, take-append-add, SyntaxKind, Note, Tree, forest, trees, text_of, nodes, Entry, Candidate, laid, of_block, of_run, of_child_ranges, run_in, child_ranges, candidates_at, IsNear, LeadsBy, below, is_covered, pieces_at, covering, found_in, found_in_all, inside, kids, run_of, is_block, Near}
use Rattle.std.specs.Prelude.{option_and_then, slice_get}
use Rattle.typst_candidates.specs.declared.enclosing.Enclosing.{Enclosing}
use Rattle.typst_candidates.specs.declared.enclosing.Enclosing.TheVariants as enclosing
use Rattle.typst_candidates.specs.declared.enclosing.RunAt.{RunAt}
use Rattle.typst_candidates.specs.declared.enclosing.Stop.{Stop}
use Rattle.typst_candidates.proofs.Edges.{trees_forest}
use Rattle.typst_candidates.proofs.Found.{below_else, below_none, child_fits, deeper, fewer, fits_of, forest_trees, node_is, path_front}

-- ---- the first of some, and others after them

pub take_less : {X : Type 0} (m n : ℕ) (xs ys : List X) → m ≤ n → take m (take n xs ++ ys) ≡ take m (xs ++ ys)
take_less zero n xs ys h = refl
take_less (suc m) zero xs ys h = absurd (omega arith)
take_less (suc m) (suc n) [] ys h = refl
take_less (suc m) (suc n) (x ∷ xs) ys h = ap (λ (zs : List _). x ∷ zs) (take_less m n xs ys (omega arith))

-- what was added and what comes after it are the first of all, where they were so together
pub added_first : {X : Type 0} (n m : ℕ) (xs ys zs later all : List X) → take n (xs ++ (ys ++ zs)) ≡ take n all → later ≡ take m (xs ++ ys) → m ≤ n → take m (later ++ zs) ≡ take m all
added_first n m xs ys zs later all e is less =
    ap (λ (us : List _). take m (us ++ zs)) is
    ∙ (take_less m m (xs ++ ys) zs (omega arith) ∙ (ap (take m) (append_assoc xs ys zs) ∙ (sym (take-take m n (xs ++ (ys ++ zs)) less) ∙ (ap (take m) e ∙ take-take m n all less))))

-- with so many of a run after them
pub run-added : (path : List ℕ) (s : Stop) (a : ℕ) (ts : List Tree) (cuts : List ℕ) (run : Option (List ℕ)) (before later : List Candidate) (n added : ℕ) → a ≡ inside s → ts ≡ kids s → run ≡ Some cuts → n ≡ length before
    → later ≡ before ++ take added (of_child_ranges (take s.depth path) a ts (child_ranges cuts (laid a ts) s.near.first.index s.near.end.index (suc (length ts)) 1)) → later ≡ take (n + added) (before ++ run_of path s run)
run-added path s a ts cuts run before later n added at same is long grown =
    grown ∙ ((λ k. before ++ take added (of_child_ranges (take s.depth path) (at k) (same k) (child_ranges cuts (laid (at k) (same k)) s.near.first.index s.near.end.index (suc (length (same k))) 1)))
    ∙ (sym (take-append-add before (run_of path s (Some cuts)) added) ∙ (λ k. take (sym long k + added) (before ++ run_of path s (sym is k)))))

-- those that come last, after the first of the others
pub added_last : {X : Type 0} (m n : ℕ) (first inner outer later all : List X) → later ≡ take m (first ++ outer) → first ≡ take n inner → m ≤ n → inner ++ outer ≡ all → later ≡ take m all
added_last m n first inner outer later all is e less whole = is ∙ (ap (λ (us : List _). take m (us ++ outer)) e ∙ (take_less m n inner outer less ∙ ap (take m) whole))

-- ---- what stands around comes last

pub found-push : (es : List Entry) (path : List ℕ) (around : List Enclosing) (e : Enclosing) → found_in_all es path (around ++ e ∷ []) ≡ found_in es path e ++ found_in_all es path around
found-push es path [] e = sym (append-nil (found_in es path e))
found-push es path (a ∷ around) e = ap (λ (cs : List Candidate). cs ++ found_in es path a) (found-push es path around e) ∙ append_assoc (found_in es path e) (found_in_all es path around) (found_in es path a)

-- a child at hand, if it is a block
pub block-pushed : (es : List Entry) (path : List ℕ) (around later : List Enclosing) (s : Stop) (k : SyntaxKind) → s.near.end.index ≡ suc s.near.first.index → later ≡ around ++ enclosing.Block s ∷ [] → is_block k ≡ true
    → found_in_all es path later ≡ of_block (take s.depth path) (inside s) (kids s) s.near.first.index k ++ found_in_all es path around
block-pushed es path around later s k next pushed block = grind (arith, found-push)

-- ---- the children near the replaced bytes

pub near-moved : (a b : ℕ) (ts us : List Tree) (rs re : ℕ) (near : Near) → a ≡ b → ts ≡ us → IsNear a ts rs re near → IsNear b us rs re near
near-moved a b ts us rs re near e f is = subst (λ (vs : List Tree). IsNear b vs rs re near) f (subst (λ (n : ℕ). IsNear n ts rs re near) e is)

-- ---- the child that covers the replaced bytes

pub kids-are : (s : Stop) (ts : List Tree) → forest ts ≡ s.node.now.kids → ts ≡ kids s
kids-are s ts e = sym (trees_forest ts) ∙ ap trees e

-- the child at hand, among them
pub kid-is : (s : Stop) (ts : List Tree) (t : Tree) → forest ts ≡ s.node.now.kids → s.near.first.index < length ts → t ≡ get_or ts s.near.first.index t → slice_get (kids s) s.near.first.index ≡ Some t
kid-is s ts t e h is = ap (λ (us : List Tree). slice_get us s.near.first.index) (sym (kids-are s ts e)) ∙ slice_get_read ts (length ts) s.near.first.index t refl h is

abbrev Test : ℕ → ℕ → Stop → Option Tree → Option Tree
Test rs re s o = elim o as (λ _. Option Tree) [ None ↦ None | Some t ↦ if is_covered rs re s.near t.head.is_inner then Some t else None ]

pub past-covering : (rs re : ℕ) (s : Stop) → length (kids s) ≤ s.near.first.index → covering rs re s ≡ None
past-covering rs re s past = ap (Test rs re s) (slice_get_past (kids s) s.near.first.index past)

pub not-covering : (rs re : ℕ) (s : Stop) (t : Tree) → slice_get (kids s) s.near.first.index ≡ Some t → is_covered rs re s.near t.head.is_inner ≡ false → covering rs re s ≡ None
not-covering rs re s t there f = ap (Test rs re s) there ∙ (λ k. if f k then Some t else None)

pub is-covering : (rs re : ℕ) (s : Stop) (t : Tree) → slice_get (kids s) s.near.first.index ≡ Some t → is_covered rs re s.near t.head.is_inner ≡ true → covering rs re s ≡ Some t
is-covering rs re s t there f = ap (Test rs re s) there ∙ (λ k. if f k then Some t else None)

-- there is a child that covers the bytes
pub record Covered (rs re : ℕ) (s : Stop) (t : Tree) : Type 0 where
  pub within : s.near.first.index < length (kids s)
  pub is : t ≡ get_or (kids s) s.near.first.index t
  pub covers : is_covered rs re s.near t.head.is_inner ≡ true

covered-at : (rs re : ℕ) (s : Stop) (t : Tree) → covering rs re s ≡ Some t → slice_get (kids s) s.near.first.index ≡ Some t
covered-at rs re s t e = grind arith

covered-by : (rs re : ℕ) (s : Stop) (t : Tree) → covering rs re s ≡ Some t → is_covered rs re s.near t.head.is_inner ≡ true
covered-by rs re s t e = grind arith

pub covered : (rs re : ℕ) (s : Stop) (t : Tree) → covering rs re s ≡ Some t → Covered rs re s t
covered rs re s t e = grind (arith, covered-at, slice_get_within, get_or_from_slice_get, covered-by)

-- nothing below a stop without one
pub none-below : (ns : List Note) (rs re : ℕ) (path : List ℕ) (s : Stop) → IsNear (inside s) (kids s) rs re s.near → covering rs re s ≡ None → below ns rs re path s.at s.node.now ≡ []
none-below ns rs re path s near e = pick (slice_get (kids s) s.near.first.index) refl e
  where
    test : (u : Tree) → slice_get (kids s) s.near.first.index ≡ Some u → (b : Bool) → is_covered rs re s.near u.head.is_inner ≡ b → (if b then Some u else None) ≡ None → below ns rs re path s.at s.node.now ≡ []
    test u there true f same = absurd (cc)
    test u there false f same =
        below_else ns rs re path s.at (inside s) s.node.now (kids s) s.near refl refl near u (slice_get_within (kids s) s.near.first.index u there) (sym (get_or_from_slice_get (kids s) s.near.first.index u u there)) f

    past : {X : Type 0} (xs : List X) (n : ℕ) → slice_get xs n ≡ None → length xs ≤ n
    past [] n h = omega arith
    past (x ∷ xs) zero h = absurd (cc)
    past (x ∷ xs) (suc n) h = let less = past xs n h in omega (arith, less)

    pick : (o : Option Tree) → slice_get (kids s) s.near.first.index ≡ o → Test rs re s o ≡ None → below ns rs re path s.at s.node.now ≡ []
    pick None there same = below_none ns rs re path s.at (inside s) s.node.now (kids s) s.near refl refl near (past (kids s) s.near.first.index there)
    pick (Some u) there same = test u there (is_covered rs re s.near u.head.is_inner) refl same

-- the covered child alone is near the bytes
pub alone : (rs re : ℕ) (near : Near) (inner : Bool) → is_covered rs re near inner ≡ true → near.end.index ≡ suc near.first.index
alone rs re near inner covers = grind (arith, nat_tests)

-- the covered child's end can be counted
pub covered-fits : (rs re : ℕ) (s : Stop) (t : Tree) → Covered rs re s t → s.near.first.byte + length (text_of t) < 2 ^ 64
covered-fits rs re s t is =
    let same : length (text_of t) ≡ length (text_of (get_or (kids s) s.near.first.index t)) = ap (λ (v : Tree). length (text_of v)) is.is in
    omega (arith, child_fits (inside s) (kids s) s.near.first.index t is.within (fits_of s.at (inside s) s.node.now (kids s) refl refl s.fits), same, s.first.byte)

-- the covered child has fewer nodes
pub covered-fewer : (rs re : ℕ) (s : Stop) (t u : Tree) → Covered rs re s t → u ≡ t → nodes u < nodes s.node.now
covered-fewer rs re s t u is e = grind (arith, forest_trees, fewer)

-- stretches of a run by the children near the replaced bytes
run-is : (rs re : ℕ) (path final : List ℕ) (s : Stop) (run : Option (List ℕ)) → IsNear (inside s) (kids s) rs re s.near → take s.depth final ≡ path → run_of final s run ≡ of_run rs re path (inside s) (kids s) run
run-is rs re path final s run near way = grind arith

-- at a stop, those below it come before those of its own run
pub stop-is : (ns : List Note) (rs re : ℕ) (path final : List ℕ) (s : Stop) (run : Option (List ℕ)) → IsNear (inside s) (kids s) rs re s.near → take s.depth final ≡ path
    → below ns rs re path s.at s.node.now ++ run_of final s run ≡ candidates_at ns rs re path run 0 s.at (forest (s.node.now ∷ []))
stop-is ns rs re path final s run near way = ap (λ (cs : List Candidate). below ns rs re path s.at s.node.now ++ cs) (run-is rs re path final s run near way) ∙ sym (node_is ns rs re path run s.at s.node.now)

-- ---- one step down

-- a longer path still begins with what the shorter one begins with
pub front-longer : (p q r : List ℕ) (i : ℕ) → take (length p) q ≡ p → r ≡ q ++ i ∷ [] → take (length p) r ≡ p
front-longer p q r i front e = grind (arith, length-take, take-append-le)

-- a path that was made longer goes on as it did, whichever step comes next
pub steps-on : (p q r : List ℕ) (first i j : ℕ) → take (length p) q ≡ p → r ≡ q ++ i ∷ [] → take (suc (length p)) (q ++ i ∷ []) ≡ p ++ first ∷ [] → take (suc (length p)) (r ++ j ∷ []) ≡ p ++ first ∷ []
steps-on p q r first i j front e way = grind (arith, length-take, length-append, take-append-le)

-- so it leads to the first child from there
pub steps-lead : (first i : ℕ) (p q : List ℕ) → take (suc (length p)) (q ++ i ∷ []) ≡ p ++ first ∷ [] → LeadsBy first (drop (length p) q)
steps-lead first i [] [] way = tt
steps-lead first i [] (j ∷ q) way = cc
steps-lead first i (x ∷ p) [] way = tt
steps-lead first i (x ∷ p) (y ∷ q) way =
    let further : take (suc (length p)) (q ++ i ∷ []) ≡ p ++ first ∷ [] = cc in steps-lead first i p q further

-- those of what is around are added after those further in
regroup : (inner run block outer deeper outermost all below : List Candidate) → below ≡ (inner ++ run) ++ block → deeper ≡ run ++ outermost → outermost ≡ block ++ outer → below ++ outer ≡ all → inner ++ deeper ≡ all
regroup inner run block outer deeper outermost all below is last first e = grind (arith, append_assoc)

module _ (es : List Entry) (ns : List Note) (rs re : ℕ) (s u : Stop) (t : Tree) (path longer final : List ℕ) (run : Option RunAt)
    (near : IsNear (inside s) (kids s) rs re s.near) (next : IsNear (inside u) (kids u) rs re u.near) (is : Covered rs re s t) (node : u.node.now ≡ t) (at : u.at ≡ s.near.first.byte)
    (depth : s.depth ≡ length path) (one : u.depth ≡ length longer) (way : longer ≡ path ++ s.near.first.index ∷ []) (front : take (length longer) final ≡ longer)
    (kind : option_and_then (pieces_at es) run ≡ run_in ns s.at s.node.now.head.kind t.head.kind) where
  pub shorter : take (length path) final ≡ path
  shorter = path_front path longer final s.near.first.index way front

  at-child : candidates_at ns rs re longer (option_and_then (pieces_at es) run) 0 s.near.first.byte (forest (t ∷ [])) ≡ below ns rs re longer u.at u.node.now ++ run_of final u (option_and_then (pieces_at es) run)
  at-child = grind (arith, stop-is)

  pub down : (outer further deepest : List Candidate) (all : List Candidate) (block : List Candidate)
      → block ≡ of_block (take s.depth final) (inside s) (kids s) s.near.first.index t.head.kind → further ≡ block ++ outer → deepest ≡ run_of final u (option_and_then (pieces_at es) run) ++ further
      → below ns rs re path s.at s.node.now ++ outer ≡ all → below ns rs re longer u.at u.node.now ++ deepest ≡ all
  down outer further deepest all block same first last e =
      let here : below ns rs re path s.at s.node.now ≡ (below ns rs re longer u.at u.node.now ++ run_of final u (option_and_then (pieces_at es) run)) ++ block =
      deeper ns rs re path s.at (inside s) s.node.now (kids s) s.near refl refl near t is.within is.is longer (option_and_then (pieces_at es) run) is.covers way kind
      ∙ (λ k. at-child k ++ of_block ((sym shorter ∙ ap (λ (n : ℕ). take n final) (sym depth)) k) (inside s) (kids s) s.near.first.index t.head.kind)
      ∙ ap (λ (cs : List Candidate). (below ns rs re longer u.at u.node.now ++ run_of final u (option_and_then (pieces_at es) run)) ++ cs) (sym same) in
      regroup (below ns rs re longer u.at u.node.now) (run_of final u (option_and_then (pieces_at es) run)) block outer deepest further all (below ns rs re path s.at s.node.now) here last first e

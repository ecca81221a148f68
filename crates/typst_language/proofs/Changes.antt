-- What the first of the nodes from a number on becomes, in its place.
use Rattle.typst_language.proofs.Cited.{Option, ◌≡◌, ℕ, zero, suc, ◌+◌, ◌<◌, ◌≤◌, true, false, if◌then◌else◌, List, [], ◌∷◌, ◌++◌, length, map, take, drop, get_or, refl, ap, sym, ◌∙◌, subst, arith, take-append-drop, set, is_error, Tree, text_of, Point, Trivia, pending, NodeChange, changed, first_changed, count_empty, after_node, after_change, seen, stays, keeps, Level, Sound, Parser, at_token, wraps, seeing, View, Does, Rewrapped}
use Rattle.typst_language.proofs.Leaves.{text-changed}
pub use Rattle.typst_language.proofs.Leaves.{first-is}
use Rattle.typst_language.proofs.Runs.{rewrapped-fits}
use Rattle.typst_language.proofs.Steps.{does-next, does-peek, does-wraps}
use Rattle.typst_language.proofs.Ready.{told-node}

changed-at : (change : NodeChange) (ts : List Tree) (from : ℕ) (t u : Tree) → from < length ts → t ≡ get_or ts from t → u ≡ changed change t → set ts from u ≡ take from ts ++ first_changed change (drop from ts)
changed-at change [] from t u h at is = absurd (omega arith)
changed-at change (x ∷ ts) zero t u h at is = ap (λ y. y ∷ ts) (is ∙ ap (changed change) at) ∙ sym (first-is change x ts)
changed-at change (x ∷ ts) (suc from) t u h at is = ap (λ l. x ∷ l) (changed-at change ts from t u (omega arith) at is)

alone-is : (ts : List Tree) (from : ℕ) (t : Tree) → length ts ≡ suc from → t ≡ get_or ts from t → drop from ts ≡ t ∷ []
alone-is [] from t h at = absurd (omega arith)
alone-is (x ∷ []) zero t h at = ap (λ y. y ∷ []) (sym at)
alone-is (x ∷ y ∷ ts) zero t h at = absurd (omega arith)
alone-is (x ∷ ts) (suc from) t h at = alone-is ts from t (omega arith) at

-- among more nodes than one a change leaves the state
after-more : (change : NodeChange) (ts : List Tree) (from : ℕ) (s : Point) → suc from < length ts → after_change change (drop from ts) s ≡ s
after-more change [] from s h = absurd (omega arith)
after-more change (x ∷ []) from s h = absurd (omega arith)
after-more change (x ∷ y ∷ ts) zero s h = refl
after-more change (x ∷ y ∷ ts) (suc from) s h = after-more change (y ∷ ts) from s (omega arith)

after-error : (change : NodeChange) (t : Tree) (s : Point) → is_error t.head.kind ≡ true → after_change change (t ∷ []) s ≡ s
after-error change t s e = rw e refl

after-fine : (change : NodeChange) (t : Tree) (s : Point) → is_error t.head.kind ≡ false → after_change change (t ∷ []) s ≡ after_node (is_error (changed change t).head.kind) (text_of t) s
after-fine change t s e = rw e refl

-- a node that stands alone and was no error
pub changed-alone : (change : NodeChange) (from : ℕ) (t u : Tree) (v w : View) → length v.nodes ≡ suc from → t ≡ get_or v.nodes from t → is_error t.head.kind ≡ false → u ≡ changed change t
    → w ≡ record v { nodes = set v.nodes from u; state = record v.state { empties = if is_error u.head.kind then count_empty (text_of u) else 0; is_after_error = is_error u.head.kind } } → Rewrapped from (keeps change) v w
changed-alone change from t u v w long at fine is e = grind (arith, told-node, text-changed, alone-is, after-fine, changed-at)

-- a node that stands alone and was an error
pub changed-error : (change : NodeChange) (from : ℕ) (t u : Tree) (v w : View) → length v.nodes ≡ suc from → t ≡ get_or v.nodes from t → is_error t.head.kind ≡ true → u ≡ changed change t
    → w ≡ record v { nodes = set v.nodes from u } → Rewrapped from (keeps change) v w
changed-error change from t u v w long at wrong is e = grind (arith, alone-is, after-error, changed-at)

-- a node that stands before others
pub changed-first : (change : NodeChange) (from : ℕ) (t u : Tree) (v w : View) → suc from < length v.nodes → t ≡ get_or v.nodes from t → u ≡ changed change t → w ≡ record v { nodes = set v.nodes from u } → Rewrapped from (keeps change) v w
changed-first change from t u v w more at is e = grind (arith, after-more, changed-at)

-- ---- what is seen of nodes

kept-nodes : {from : ℕ} {v w : View} → Rewrapped from (keeps stays) v w → w.nodes ≡ v.nodes
kept-nodes {from = from} {v = v} r = r.nodes ∙ take-append-drop from v.nodes

-- what was given since the token at hand was looked at, and stays
pub does-seeing : {A : Type 0} {l : Level} {from : ℕ} {p : Parser A} {a : A} {old mid new : View}
    → Sound l → old.state.empties ≤ length old.nodes → from ≡ length old.nodes + length old.hand.trivia → Does l p a old mid → Rewrapped from (keeps stays) mid new → Does l (seeing p) (a, map seen (drop from new.nodes)) old new
unfolding seeing
does-seeing {A = A} {l = l} {from = from} {p = p} {a = a} {old = old} {mid = mid} {new = new} sound few e did r =
    let whole : Does l (wraps (λ _. keeps stays) at_token p) (a, map seen (drop from mid.nodes)) old new =
    does-wraps sound few (λ c. e ∙ ap (λ (x : Option Trivia). length old.nodes + length (pending x)) (sym c.known)) (rewrapped-fits l r) did r in
    does-next (does-peek old) (subst (λ (ts : List Tree). Does l (wraps (λ _. keeps stays) at_token p) (a, map seen (drop from ts)) old new) (sym (kept-nodes r)) whole)

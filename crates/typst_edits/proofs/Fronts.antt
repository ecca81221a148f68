-- Nodes of which the first isn't empty, and what they become.
use Rattle.typst_edits.proofs.Cited.{◌≡◌, ℕ, zero, suc, ◌-◌, ◌<◌, Bool, true, false, List, [], ◌∷◌, ◌++◌, length, take, drop, length-append, None, refl, ap, sym, ◌∙◌, subst, arith, ◌≤◌, length-take, is_error, hint_with, Tree, text_of, forest, inner_of, error_of, with_kind, made_error, advised, Point, hinted, NodeChange, Shape, shaped, first_changed, after_shape, after_node, without_parens, Making, after_change, stays, turns_wrong, is_not, renamed, unparened, keeps, holds, lacks, warns, fails, less, taken_node, texts, texts-one, texts-first, text-shaped, same-hinted, Place, moved, CharClasses, Hand, text_ahead, token_node, on_both, made_expected, count_empty, text-made, changed-long, length-le-encodes}
use Rattle.typst_tree.specs.Diagnostic.{warning_with}
use Rattle.typst_tree.specs.Tree.{joined as text_joined, remarked}
use Rattle.typst_language.proofs.TokenTexts.{text-token}

-- ---- nodes

-- The first of several nodes isn't empty.
abbrev pub Full : List Tree → Type 0
Full [] = ⊥
Full (t ∷ ts) = 0 < length (text_of t)

pub full-append : (ts us : List Tree) → Full ts → Full (ts ++ us)
full-append [] us h = absurd h
full-append (t ∷ ts) us h = h

full-take : (n : ℕ) (ts : List Tree) → 0 < n → Full ts → Full (take n ts)
full-take zero ts l h = absurd (omega (arith, l))
full-take (suc n) [] l h = h
full-take (suc n) (t ∷ ts) l h = h

pub full-less : (n : ℕ) (ts : List Tree) → n < length ts → Full ts → Full (less n ts)
unfolding less
full-less n ts l h = full-take (length ts - n) ts (omega (arith, l)) h

pub full-hinted : (hints : List (List ℕ)) (ts : List Tree) → Full ts → Full (hinted hints ts)
full-hinted [] ts h = h
full-hinted (hint ∷ hints) [] h = h
full-hinted (hint ∷ hints) (t ∷ []) h = let same = same-hinted (hint ∷ hints) (t ∷ []) in subst (λ x. 0 < length x) (sym same.0) h
full-hinted (hint ∷ hints) (t ∷ u ∷ ts) h = h

-- what holds a full node's text
long-texts : (ts : List Tree) → Full ts → 0 < length (texts ts)
long-texts [] h = absurd h
long-texts (t ∷ ts) h = let all = ap length (texts-first t ts) in let sum = length-append (text_of t) (texts ts) in omega (arith, h, all, sum)

full-one : (x : Tree) (ts : List Tree) → texts (x ∷ []) ≡ texts ts → Full ts → Full (x ∷ [])
full-one x ts e h = let long = long-texts ts h in let same = ap length (sym (texts-one x) ∙ e) in omega (arith, long, same)

full-changed : (change : NodeChange) (t : Tree) (ts : List Tree) → Full (t ∷ ts) → Full (first_changed change (t ∷ ts))
full-changed stays t ts h = h
full-changed (turns_wrong message) t ts h = full-one (made_error message t) (t ∷ []) (text-shaped (keeps (turns_wrong message)) (t ∷ [])) h
full-changed (is_not thing) t ts h = full-one (made_expected thing t) (t ∷ []) (text-shaped (keeps (is_not thing)) (t ∷ [])) h
full-changed (renamed kind) t ts h = full-one (with_kind kind t) (t ∷ []) (text-shaped (keeps (renamed kind)) (t ∷ [])) h
full-changed unparened t ts h = full-one (without_parens t) (t ∷ []) (text-shaped (keeps unparened) (t ∷ [])) h

pub full-shaped : (shape : Shape) (ts : List Tree) → Full ts → Full (shaped shape ts)
full-shaped shape [] h = absurd h
full-shaped (keeps change) (t ∷ ts) h = full-changed change t ts h
full-shaped (holds change kind) (t ∷ ts) h = full-one (inner_of kind (forest (first_changed change (t ∷ ts)))) (t ∷ ts) (text-shaped (holds change kind) (t ∷ ts)) h
full-shaped (lacks count message kind) (t ∷ ts) h = full-one (inner_of kind (forest (take count (t ∷ ts) ++ error_of message [] ∷ drop count (t ∷ ts)))) (t ∷ ts) (text-shaped (lacks count message kind) (t ∷ ts)) h
full-shaped (warns kind message hint) (t ∷ ts) h = full-one (advised (hint_with None hint) (remarked (warning_with None message) (inner_of kind (forest (t ∷ ts))))) (t ∷ ts) (text-shaped (warns kind message hint) (t ∷ ts)) h
full-shaped (fails message) (t ∷ ts) h = full-one (error_of message (text_joined (forest (t ∷ ts)))) (t ∷ ts) (text-shaped (fails message) (t ∷ ts)) h

some-text : (xs : List ℕ) → 0 < length xs → count_empty xs ≡ 0
some-text [] h = absurd (omega arith)
some-text (x ∷ xs) h = refl

pub few-node : (b : Bool) (text : List ℕ) (s : Point) (n : ℕ) → 0 < length text → 0 < n → (after_node b text s).empties < n
few-node true text s n h l = let e = some-text text h in omega (arith, e, l)
few-node false text s n h l = omega (arith, l)

few-changed : (change : NodeChange) (t : Tree) (ts : List Tree) (s : Point) → Full (t ∷ ts) → s.empties < suc (length ts) → (after_change change (t ∷ ts) s).empties < suc (length ts)
few-changed change t [] s h l = on_both (λ (p : Point). p.empties < 1) (is_error t.head.kind) s _ l (few-node _ (text_of t) s 1 h (omega arith))
few-changed change t (u ∷ ts) s h l = l

pub few-shaped : (shape : Shape) (ts : List Tree) (s : Point) → Full ts → s.empties < length ts → (after_shape shape ts s).empties < length (shaped shape ts)
few-shaped shape [] s h l = absurd h
few-shaped (keeps change) (t ∷ ts) s h l = let long = changed-long change (t ∷ ts) in let few = few-changed change t ts s h l in omega (arith, few, long)
few-shaped (holds change kind) (t ∷ ts) s h l = omega arith
few-shaped (lacks count message kind) (t ∷ ts) s h l = omega arith
few-shaped (warns kind message hint) (t ∷ ts) s h l = omega arith
few-shaped (fails message) (t ∷ ts) s h l = few-node true (texts (t ∷ ts)) s 1 (long-texts (t ∷ ts) h) (omega arith)

-- A token of some characters becomes a node that isn't empty.
pub full-taken : (k : CharClasses) (making : Making) (h : Hand) (z : Place) → 0 < h.len → h.len ≤ length (moved h.gap z).ahead → 0 < length (text_of (taken_node k making h z))
full-taken k making h z some room =
    let text = text_ahead h.len (moved h.gap z) in
    let long : length text ≡ h.len = omega (arith, room, length-take h.len (moved h.gap z).ahead) in
    omega (arith, long, some, length-le-encodes text, ap length (text-made making (token_node k h.token text) ∙ text-token k h.token text))

-- Where the edges of a row of nodes are, node by node.
use Rattle.typst_styles.proofs.Cited.{◌≡◌, ℕ, zero, suc, ◌+◌, ◌-◌, ◌<◌, ◌≤◌, ◌⊎◌, true, List, [], ◌∷◌, ◌++◌, length, take, drop, get_or, ap, sym, subst, ◌∙◌, inl, inr, arith, add-one, drop-cons, cases_lt, take-append-drop, take_more, Range, Forest, Tree, forest, text_of, bytes_of, BeginsEdge, BeginsOne, EndsEdge, EndsOne, FollowsFeed, HasEdge, IsLineAfter, IsWindow, StartsBefore, StartsBehind, range_of, is_edge}
use Rattle.typst_styles.proofs.TokensApart.{list_length}
use Rattle.typst_styles.proofs.EditedKids.{bytes_append}

-- the nodes are those before one, that one, and those after it
in_parts : (ts : List Tree) (i : ℕ) (d : Tree) → i < length ts → ts ≡ take i ts ++ get_or ts i d ∷ drop (i + 1) ts
in_parts ts i d l = grind (arith, take-append-drop, drop-cons, add-one)

-- one node more
pub bytes_more : (ts : List Tree) (i : ℕ) (d : Tree) → i < length ts → bytes_of (take (i + 1) ts) ≡ bytes_of (take i ts) + length (text_of (get_or ts i d))
bytes_more ts i d l =
    omega (arith, ap bytes_of (take_more ts i d l), bytes_append (take i ts) (get_or ts i d ∷ []), list_length (get_or ts i d) [])

abbrev has_edge : (ts : List Tree) (i : ℕ) (d : Tree) → i < length ts → is_edge (get_or ts i d) ≡ true → 0 < length (text_of (get_or ts i d)) → HasEdge (forest ts)
has_edge ts i d l e s = record { front = take i ts; edge = get_or ts i d; back = drop (i + 1) ts; whole = ap forest (in_parts ts i d l); parts = e; some = s }

-- an edge ends before a byte
pub begins_one : (ts : List Tree) (i : ℕ) (x : Tree) (limit at : ℕ) → i < length ts → x ≡ get_or ts i x → is_edge x ≡ true → 0 < length (text_of x) → bytes_of (take (i + 1) ts) < limit → at ≡ bytes_of (take i ts) → BeginsOne (forest ts) limit at
begins_one ts i x limit at l is e s below here = record {
  edge = has_edge ts i x l (sym (ap is_edge is) ∙ e) (subst (λ t. 0 < length (text_of t)) is s);
  ends = omega (arith, bytes_more ts i x l, below);
  here = here;
}

-- so does one that ends in some bytes before it; there is none in no bytes
pub begins_before : (kids : Forest) (bytes limit at : ℕ) → (bytes < limit) ⊎ (bytes ≡ 0) → BeginsEdge kids (bytes + 1) at → BeginsEdge kids limit at
begins_before kids bytes limit at below (inl none) = inl none
begins_before kids bytes limit at (inl less) (inr one) = inr (record { edge = one.edge; ends = omega (arith, one.ends, less); here = one.here })
begins_before kids bytes limit at (inr none) (inr one) = absurd (omega (arith, one.ends, one.edge.some, none))

-- the first nodes end before a byte, or have none
pub ended : (ts : List Tree) (i bytes limit : ℕ) → bytes ≡ bytes_of (take i ts) → (0 < i → bytes ≤ limit - 1) → (bytes < limit) ⊎ (bytes ≡ 0)
ended ts zero bytes limit is low = inr is
ended ts (suc i) bytes limit is low =
    let near : bytes ≤ limit - 1 = low (omega arith) in elim (cases_lt bytes limit) [
      | inl before ↦ inl before
      | inr after ↦ inr (omega (arith, near, after))
    ]

-- a node is an edge behind a byte
pub ends_one : (ts : List Tree) (i : ℕ) (x : Tree) (limit end : ℕ) → i < length ts → x ≡ get_or ts i x → is_edge x ≡ true → 0 < length (text_of x) → limit < bytes_of (take i ts) → end ≡ bytes_of (take i ts) + length (text_of x) → EndsOne (forest ts) limit end
ends_one ts i x limit end l is e s begins here = record {
  edge = has_edge ts i x l (sym (ap is_edge is) ∙ e) (subst (λ t. 0 < length (text_of t)) is s);
  begins = begins;
  here = here ∙ ap (λ t. bytes_of (take i ts) + length (text_of t)) is;
}

-- one node more, by the node
pub bytes_with : (ts : List Tree) (i : ℕ) (x : Tree) → i < length ts → x ≡ get_or ts i x → bytes_of (take (i + 1) ts) ≡ bytes_of (take i ts) + length (text_of x)
bytes_with ts i x l is = bytes_more ts i x l ∙ ap (λ t. bytes_of (take i ts) + length (text_of t)) (sym is)

-- ---- the window

starts : (root : Tree) (text : List ℕ) (read : Range ℕ) (first start : ℕ) → BeginsEdge root.kids read.start first → start ≤ first → ((start ≡ 0) ⊎ FollowsFeed text start) → ((start ≡ 0) ⊎ StartsBefore root text read start)
starts root text read first start begins low (inl none) = inl none
starts root text read first start (inl none) low (inr line) = inl (omega (arith, low, none))
starts root text read first start (inr one) low (inr line) = inr (record { edge = one.edge; ends = one.ends; within = omega (arith, low, one.here); line = line })

ends : (root : Tree) (text : List ℕ) (read : Range ℕ) (last end : ℕ) → EndsEdge root.kids read.end (length text) last → IsLineAfter text last end → ((end ≡ length text) ⊎ StartsBehind root text read end)
ends root text read last end edge (inl whole) = inl whole
ends root text read last end (inl whole) (inr line) = inl (omega (arith, whole, line.0, line.1.0))
ends root text read last end (inr one) (inr line) = inr (record { edge = one.edge; begins = one.begins; behind = omega (arith, one.here, line.0); within = line.1.0; line = line.1.1 })

-- from the start of an edge to the end of another one, and from there to lines
pub window_is : (root : Tree) (text : List ℕ) (read : Range ℕ) (first last start end : ℕ) → BeginsEdge root.kids read.start first → EndsEdge root.kids read.end (length text) last → start ≤ first → ((start ≡ 0) ⊎ FollowsFeed text start) → IsLineAfter text last end
    → IsWindow root text read (range_of start end)
window_is root text read first last start end begins edge low line after = record {
  start = starts root text read first start begins low line;
  end = ends root text read last end edge after;
}

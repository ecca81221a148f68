-- What holds of each of several trees.
use Rattle.typst_grammar.proofs.Cited.{ℕ, zero, suc, List, [], ◌∷◌, ◌++◌, take, drop, Tree}

abbrev pub All : (Tree → Type 0) → List Tree → Type 0
All P [] = Unit {0}
All P (t ∷ ts) = P t × All P ts

pub all-append : (P : Tree → Type 0) (ts us : List Tree) → All P ts → All P us → All P (ts ++ us)
all-append P [] us h k = k
all-append P (t ∷ ts) us h k = (h.0, all-append P ts us h.1 k)

pub all-take : (P : Tree → Type 0) (n : ℕ) (ts : List Tree) → All P ts → All P (take n ts)
all-take P zero ts h = tt
all-take P (suc n) [] h = tt
all-take P (suc n) (t ∷ ts) h = (h.0, all-take P n ts h.1)

pub all-drop : (P : Tree → Type 0) (n : ℕ) (ts : List Tree) → All P ts → All P (drop n ts)
all-drop P zero ts h = h
all-drop P (suc n) [] h = tt
all-drop P (suc n) (t ∷ ts) h = all-drop P n ts h.1

pub all-map : (P Q : Tree → Type 0) → ((t : Tree) → P t → Q t) → (ts : List Tree) → All P ts → All Q ts
all-map P Q f [] h = tt
all-map P Q f (t ∷ ts) h = (f t h.0, all-map P Q f ts h.1)

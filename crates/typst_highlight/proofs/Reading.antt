-- A reader of the HTML of a tree sees its text.
use Rattle.typst_highlight.proofs.Cited.{◌≡◌, ℕ, ◌+◌, List, [], ◌∷◌, ◌++◌, Option, refl, ap, sym, subst, ◌∙◌, arith, append_assoc, append-nil, codes, at, Tag, tag_of, escaped_byte, escaped, spanned, span_start, span_end, row_html, html_of, plain, read}
use Rattle.typst_tree.specs.Tree.{Forest, none, more, Tree, count, joined, text_of}

-- in HTML that begins with xs, a reader sees s first, and stands in text behind it
record Reads (xs s : List ℕ) : Type 0 where
  seen : (rest : List ℕ) → read plain (xs ++ rest) ≡ s ++ read plain rest

nothing : Reads [] []
nothing = record { seen = λ rest. refl }

then : (xs s ys u : List ℕ) → Reads xs s → Reads ys u → Reads (xs ++ ys) (s ++ u)
then xs s ys u a b = grind (arith, append_assoc)

same : (xs s u : List ℕ) → s ≡ u → Reads xs s → Reads xs u
same xs s u e a = subst (Reads xs) e a

reads_byte : (b : ℕ) → Reads (escaped_byte b) (b ∷ [])
reads_byte b = grind arith

reads_text : (s : List ℕ) → Reads (escaped s) s
reads_text [] = nothing
reads_text (b ∷ s) = then (escaped_byte b) (b ∷ []) (escaped s) s (reads_byte b) (reads_text s)

reads_start : (t : Option Tag) → Reads (span_start t) []
reads_start t = grind arith

reads_end : (t : Option Tag) → Reads (span_end t) []
reads_end t = grind arith

reads_row : (root : Tree) (n : ℕ) (f : Forest) → Reads (row_html root n f) (joined f)
reads_row root n none = nothing
reads_row root n (more h ks r) =
    let t : Option Tag = spanned (tag_of (at root n)) in
    let inner = then (row_html root (n + 1) ks) (joined ks) (span_end t) [] (reads_row root (n + 1) ks) (reads_end t) in
    let own = then (escaped h.text) h.text _ _ (reads_text h.text) inner in
    let node = then (span_start t) [] _ _ (reads_start t) own in
    same _ _ _ (rw append-nil (append_assoc h.text (joined ks) (joined r)))
    (then _ _ (row_html root (n + (1 + count ks)) r) (joined r) node (reads_row root (n + (1 + count ks)) r))

-- tags removed and entities read back, the HTML of a tree is its text, whatever stands behind it
pub text_first : (root : Tree) (rest : List ℕ) → read plain (html_of root ++ rest) ≡ text_of root ++ read plain rest
text_first root rest =
    let open_code : Reads (codes "<code>") [] = record { seen = λ rest. refl } in
    let close_code : Reads (codes "</code>") [] = record { seen = λ rest. refl } in
    let rows = reads_row root 0 (more root.head root.kids none) in
    let whole = then (codes "<code>") [] _ _ open_code (then (row_html root 0 (more root.head root.kids none)) (joined (more root.head root.kids none)) (codes "</code>") [] rows close_code) in
    whole.seen rest ∙ simp append-nil refl

pub text_read : (root : Tree) → read plain (html_of root) ≡ text_of root
text_read root =
    ap (read plain) (sym (append-nil (html_of root))) ∙ (text_first root [] ∙ append-nil (text_of root))

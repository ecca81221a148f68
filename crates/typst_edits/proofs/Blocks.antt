-- Each block of the grammar ends in its node.
use Rattle.typst_edits.proofs.Cited.{◌≡◌, ℕ, ◌+◌, Bool, true, false, List, [], ◌∷◌, ◌++◌, take, append-nil, append_assoc, refl, ap, sym, ◌∙◌, Tree, Place, moved, CharClasses, Block, Point, Shape, hinted, encloses, peek, node, Parser, ◌>>◌, at_token, blocks_of, meaning_of, Outcome, Level, plain, less, joined, before, wrapped, blockless, run, less-none, less-append, content_block, code_block, rules, kind_of, block_head, last_node}
use Rattle.typst_language.specs.declared.calls.Block.TheVariants as block
use Rattle.typst_edits.proofs.Law.{Ends}

-- what is given ends in an inner node of the block's kind
record EndsIn {A : Type 0} (b : Block) (o : Outcome A) : Type 0 where
  front : List Tree
  node : Tree
  nodes : o.nodes ≡ front ++ node ∷ []
  head : node.head ≡ block_head b
  empties : o.state.empties ≡ 0

pub last-is : (front : List Tree) (x : Tree) → last_node (front ++ x ∷ []) ≡ x
last-is [] x = refl
last-is (t ∷ []) x = refl
last-is (t ∷ u ∷ ts) x = last-is (u ∷ ts) x

ends-of : (b : Block) (o : Outcome (Unit {0})) → EndsIn b o → Ends b o
unfolding less
ends-of b o e = record {
  nodes = e.nodes ∙ sym (ap (λ u. less 1 u ++ last_node u ∷ []) e.nodes ∙ ap (λ u. u ++ last_node (e.front ++ e.node ∷ []) ∷ []) (less-append 1 e.front (e.node ∷ []) ∙ append-nil (less 0 e.front) ∙ less-none e.front) ∙ ap (λ u. e.front ++ u ∷ []) (last-is e.front e.node));
  head = ap (λ u. (last_node u).head) e.nodes ∙ ap (λ (t : Tree). t.head) (last-is e.front e.node) ∙ e.head;
  empties = e.empties;
}

ends-joined : {A B : Type 0} (b : Block) (o : Outcome B) (p : Outcome A) → EndsIn b p → EndsIn b (joined o p)
ends-joined b o p e = record {
  front = hinted p.hints (less p.back o.nodes) ++ e.front;
  node = e.node;
  nodes = ap (λ u. hinted p.hints (less p.back o.nodes) ++ u) e.nodes ∙ sym (append_assoc (hinted p.hints (less p.back o.nodes)) e.front (e.node ∷ []));
  head = e.head;
  empties = e.empties;
}

ends-plain : {A B : Type 0} (b : Block) (a : A) (o : Outcome B) → EndsIn b o → EndsIn b (joined o (plain a o.state))
ends-plain b a o e = record { front = e.front; node = e.node; nodes = append-nil (less 0 o.nodes) ∙ less-none o.nodes ∙ e.nodes; head = e.head; empties = e.empties }

-- What stands between the delimiters of a block: where the second is missing, the first is an error.
abbrev pub enclosing : Block → Bool → Shape
enclosing b closed = encloses (kind_of b) closed

-- It becomes one node.
ends-enclosing : (b : Block) (n : ℕ) (closed : Bool) (o : Outcome Bool) → EndsIn b (wrapped (λ _. enclosing b closed) n o)
ends-enclosing b n true o = record { front = take (n + o.back) o.nodes; node = _; nodes = refl; head = refl; empties = refl }
ends-enclosing b n false o = record { front = take (n + o.back) o.nodes; node = _; nodes = refl; head = refl; empties = refl }

ends-node : (b : Block) (l : Level) (p : Parser Bool) (z : Place) (s : Point) → EndsIn b (run l (node (enclosing b) p) z s)
unfolding run node
ends-node b l p z s =
    let o = run l peek z s in
    let q = run l p (moved o.taken z) o.state in
    let n = before at_token o.state in
    ends-joined b o _ (ends-plain b q.value (wrapped (enclosing b) n q) (ends-enclosing b n q.value q))

ends-content : (l : Level) (z : Place) (s : Point) → EndsIn block.Content (run l (peek >> content_block) z s)
unfolding run content_block
ends-content l z s =
    let o = run l peek z s in
    let w = moved o.taken z in
    ends-joined block.Content o _ (ends-plain block.Content tt (run l (node (enclosing block.Content) _) w o.state) (ends-node block.Content l _ w o.state))

ends-code : (l : Level) (z : Place) (s : Point) → EndsIn block.Code (run l (peek >> code_block) z s)
unfolding run code_block
ends-code l z s =
    let o = run l peek z s in
    let w = moved o.taken z in
    ends-joined block.Code o _ (ends-plain block.Code tt (run l (node (enclosing block.Code) _) w o.state) (ends-node block.Code l _ w o.state))

pub ends : (k : CharClasses) (levels : ℕ) (b : Block) → (rules k).has b ≡ true → (z : Place) (s : Point) → Ends b (blocks_of (rules k) k levels (meaning_of (rules k) k levels) b z s)
ends k levels block.Content h z s = ends-of block.Content _ (ends-content (blockless k levels (meaning_of (rules k) k levels)) z s)
ends k levels block.Code h z s = ends-of block.Code _ (ends-code (blockless k levels (meaning_of (rules k) k levels)) z s)

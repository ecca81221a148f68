-- Code that is read whole, and code that isn't.
use Rattle.typst_fixes.proofs.Cited.{◌≡◌, Bool, true, false, List, ◌∷◌, length, ap, sym, ◌∙◌, if◌then◌else◌, arith, Tree, forest, trees, Standing, kind_of, begins_whole, ends_with_value, first_whole, is_atom, is_called, is_whole}
use Rattle.typst_kinds.specs.declared.kind.SyntaxKind.{SyntaxKind}
use Rattle.typst_fixes.proofs.WayToByte.{children}

called_as : (n : Standing) (ts : List Tree) (k : SyntaxKind) (v : Bool) → forest ts ≡ n.node.kids → k ≡ kind_of n → is_called k (length ts) ≡ v → is_called (kind_of n) (length (trees n.node.kids)) ≡ v
called_as n ts k v kids kind is =
    ap (λ us. is_called (kind_of n) (length us)) (sym (children ts n.node.kids kids)) ∙ ap (λ x. is_called x (length ts)) (sym kind) ∙ is

-- what is no call and no field decides by its kind
pub here : (n : Standing) (ns : List Standing) (ts : List Tree) (k : SyntaxKind) → forest ts ≡ n.node.kids → k ≡ kind_of n → is_called k (length ts) ≡ false → begins_whole (n ∷ ns) ≡ is_atom (kind_of n)
here n ns ts k kids kind is = ap (λ (v : Bool). if v then begins_whole ns else is_atom (kind_of n)) (called_as n ts k false kids kind is)

-- a call or a field by what it is of
pub further : (n : Standing) (ns : List Standing) (ts : List Tree) (k : SyntaxKind) → forest ts ≡ n.node.kids → k ≡ kind_of n → is_called k (length ts) ≡ true → begins_whole (n ∷ ns) ≡ begins_whole ns
further n ns ts k kids kind is = ap (λ (v : Bool). if v then begins_whole ns else is_atom (kind_of n)) (called_as n ts k true kids kind is)

-- the value at the end of what isn't whole is sought within it
pub within_it : (n : Standing) (ns : List Standing) → is_whole n ≡ false → ends_with_value (kind_of n) (trees n.node.kids) ≡ true → first_whole (n ∷ ns) ≡ first_whole ns
within_it n ns whole value = grind arith

use Rattle.typst_tree.proofs.Cited.{◌≡◌, [], Option, Some, Result, length, arith, refl, IsSome, option_map, IfErr, Tree, nodes, text_of, Reaches}
use Rattle.std.proofs.lemmas.Result.{on_ok_weaker, on_err_weaker}
use Rattle.typst_tree.proofs.PutAt.{at_some, changed_by, put_back, put_there, reaches_there, refused_there, replaced_back}
use Rattle.typst_tree.proofs.node.SyntaxNode.replace_far.Goals as goal
use Rattle.typst_tree.proofs.node.SyntaxNode.replace_far.Goals.{After-swap_at}

some_of : {X : Type 0} (f : X → Tree) (o : Option X) (t : Tree) → option_map f o ≡ Some t → IsSome o
some_of f o t e = grind arith

pub unwrap-requires : goal.unwrap-requires
unwrap-requires c = grind (arith, at_some, reaches_there, some_of)

-- the node that was taken out has the children
reached : (c : After-swap_at) → Reaches [] c.args.from c.args.to c.swap_at.new.node
reached c = grind (arith, reaches_there)

pub replace-replaced-requires-clause-inner : goal.replace-replaced-requires-clause-inner
replace-replaced-requires-clause-inner c = (reached (goal.at.replace-replaced-requires-clause-inner c).After-swap_at).0

pub replace-replaced-requires-clause-order : goal.replace-replaced-requires-clause-order
replace-replaced-requires-clause-order c = (reached (goal.at.replace-replaced-requires-clause-order c).After-swap_at).1

pub replace-replaced-requires-clause-within : goal.replace-replaced-requires-clause-within
replace-replaced-requires-clause-within c = (reached (goal.at.replace-replaced-requires-clause-within c).After-swap_at).2

pub swap_at-requires-2-clause-short : goal.swap_at-requires-2-clause-short
swap_at-requires-2-clause-short c =
    let empty : length (text_of c.inner-node.result) ≡ 0 = rw (c.inner-node.ensures, c.new.ensures.items) refl in
    omega (arith, (changed_by c.args.path.now c.swap_at.new.node c.inner-node.result c.args.self.now c.swap_at.new.self c.swap_at.ensures.node c.swap_at.ensures.tree).0, empty, c.requires.short)

pub swap_at-requires-2-clause-few : goal.swap_at-requires-2-clause-few
swap_at-requires-2-clause-few c =
    let one : nodes c.inner-node.result ≡ 1 = rw (c.inner-node.ensures, c.new.ensures.items) refl in
    omega (arith, (changed_by c.args.path.now c.swap_at.new.node c.inner-node.result c.args.self.now c.swap_at.new.self c.swap_at.ensures.node c.swap_at.ensures.tree).1, one, c.requires.few)

pub swap_at-requires-2-clause-gone : goal.swap_at-requires-2-clause-gone
swap_at-requires-2-clause-gone c = grind (arith, put_there)

pub returns-clause-ok : goal.returns-clause-ok
returns-clause-ok c = grind (arith, on_ok_weaker, replaced_back)

pub returns-clause-err : goal.returns-clause-err
returns-clause-err c =
    on_err_weaker c.replace-replaced.result (λ f. put_back c.args.path.now c.args.self.now c.swap_at.new.node c.replace-replaced.new.self c.inner-node.result c.swap_at.new.self c.swap_at-2.new.self c.swap_at.ensures.node c.swap_at.ensures.tree c.swap_at-2.ensures.tree f) c.replace-replaced.ensures.err

refused_by : {T E : Type 0} (r : Result T E) (P : E → Type 0) (A B : Type 0) → (A → B) → IfErr r (λ e. P e → A) → IfErr r (λ e. P e → B)
refused_by r P A B f h = grind arith

pub returns-clause-refused : goal.returns-clause-refused
returns-clause-refused c = grind (arith, refused_by, refused_there)

use Rattle.typst_names.proofs.Cited.{rules, ◌≡◌, ◌∙◌, List, ◌∷◌, ◌++◌, length, true, false, Option, ap, sym, arith, nat_tests, forest, is_end, Role}
use Rattle.typst_names.specs.Contexts.{after, below, role_of}
use Rattle.typst_names.specs.RoleRows.{left, left_all}
use Rattle.typst_names.specs.Roles.{own, row}
use Rattle.typst_names.proofs.LeftNames.{end_is}
use Rattle.typst_names.proofs.LeftRoles.{joined}
use Rattle.typst_names.proofs.roles.take_next.Goals as goal

pub returns-clause-taken : goal.returns-clause-taken
returns-clause-taken c =
    let r = c.args.row in
    let t = c.in-Some.node.now in
    let ts = c.in-Some.rest.now in
    let k = t.head.kind in
    let found = c.args.found.now.items in
    let all = left_all c.args.rows.now.items in
    let inner : List (Option Role) = row (below r.context k) t.kids in
    let rest : List (Option Role) = row (after r.context k) (forest ts) in
    let mine : List (Option Role) = own t.head (role_of r.context k (is_end (forest ts))) in
    let trees : r.trees.now ≡ t ∷ ts = search rules in
    let whole : left r ≡ mine ++ (inner ++ rest) = ap (λ xs. row r.context (forest xs)) trees in
    let some : c.is_empty.result ≡ true → length ts ≡ 0 = λ h. grind (arith, nat_tests, c.is_empty.ensures, h) in
    let none : c.is_empty.result ≡ false → length ts ≡ 0 → ⊥ = λ h i. grind (arith, nat_tests, c.is_empty.ensures, h, i) in
    let last : c.is_empty.result ≡ is_end (forest ts) = end_is ts c.is_empty.result some none in
    let kind : c.kind-kind.result ≡ k = c.kind-kind.ensures in
    let role : c.role.result ≡ role_of r.context k (is_end (forest ts)) =
    c.role.ensures ∙ ap (λ q. role_of r.context q c.is_empty.result) kind ∙ ap (role_of r.context k) last in
    let name : c.add_role.new.found.items ≡ found ++ mine = c.in_ok-add_role.ensures ∙ ap (λ s. found ++ own t.head s) role in
    let one : left_all c.push_row.new.rows.items ≡ rest ++ all =
    c.in_ok-push_row.ensures.left ∙ ap (λ xs. xs ++ all) (c.after.ensures.left ∙ ap (λ q. row (after r.context q) (forest ts)) kind) in
    let two : left_all c.push_row-2.new.rows.items ≡ inner ++ (rest ++ all) =
    c.in_ok-push_row-2.ensures.left ∙ ap (λ xs. xs ++ left_all c.push_row.new.rows.items) c.below.ensures.left ∙ ap (λ xs. inner ++ xs) one in
    ap (λ xs. xs ++ left_all c.push_row-2.new.rows.items) name
    ∙ ap (λ xs. (found ++ mine) ++ xs) two
    ∙ joined mine inner rest found all
    ∙ ap (λ xs. found ++ (xs ++ all)) (sym whole)

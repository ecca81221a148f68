use Rattle.typst_names.proofs.Cited.{rules, ◌≡◌, ◌∙◌, List, ◌∷◌, ◌++◌, length, true, false, ap, sym, arith, nat_tests, forest, left, left_all, held, is_end, names_in, own, Part, Name}
use Rattle.typst_names.specs.Bytes as bytes
use Rattle.typst_names.specs.Scopes.{base, behind, first, second, third}
use Rattle.typst_names.proofs.LeftNames.{end_is, joined}
use Rattle.typst_names.proofs.scopes.take_next.Goals as goal

pub returns-clause-taken : goal.returns-clause-taken
returns-clause-taken c =
    let row = c.args.row in
    let t = c.in-Some.node.now in
    let ts = c.in-Some.rest.now in
    let k = t.head.kind in
    let b = base row.part (is_end (forest ts)) in
    let found = c.args.found.now.items in
    let all = left_all c.args.rows.now.items in
    let e = bytes.behind row.start t.head t.kids in
    let below : Part → List Name = λ q. names_in q (held q row.until e) (bytes.inner row.start t.head) t.kids in
    let it : List Name = own b (is_end (forest ts)) row.until row.start t.head t.kids in
    let rest : List Name = names_in (behind row.part k) row.until e (forest ts) in
    let trees : row.trees.now ≡ t ∷ ts = search rules in
    let whole : left row ≡ it ++ (below (first b k) ++ (below (second b k) ++ (below (third b k) ++ rest))) =
    ap (λ xs. names_in row.part row.until row.start (forest xs)) trees in
    let some : c.is_empty-is_last.result ≡ true → length ts ≡ 0 = λ h. grind (arith, nat_tests, c.is_empty-is_last.ensures, h) in
    let none : c.is_empty-is_last.result ≡ false → length ts ≡ 0 → ⊥ = λ h i. grind (arith, nat_tests, c.is_empty-is_last.ensures, h, i) in
    let last : c.is_empty-is_last.result ≡ is_end (forest ts) = end_is ts c.is_empty-is_last.result some none in
    let part : c.base-part.result ≡ b = c.base-part.ensures ∙ ap (base row.part) last in
    let kind : c.kind-kind.result ≡ k = c.kind-kind.ensures in
    let name : c.add_own.new.found.items ≡ found ++ it =
    c.in_ok-add_own.ensures
    ∙ ap (λ p. found ++ own p c.is_empty-is_last.result row.until row.start t.head t.kids) part
    ∙ ap (λ e. found ++ own b e row.until row.start t.head t.kids) last in
    let one : left_all c.push_row.new.rows.items ≡ rest ++ all =
    c.in_ok-push_row.ensures.left ∙ ap (λ xs. xs ++ all) c.behind.ensures.left in
    let two : left_all c.push_row-2.new.rows.items ≡ below (third b k) ++ (rest ++ all) =
    c.in_ok-push_row-2.ensures.left
    ∙ ap (λ xs. xs ++ left_all c.push_row.new.rows.items)
    (c.below.ensures.left ∙ ap below (c.third.ensures ∙ ap (λ p. third p c.kind-kind.result) part ∙ ap (third b) kind))
    ∙ ap (λ xs. below (third b k) ++ xs) one in
    let three : left_all c.push_row-3.new.rows.items ≡ below (second b k) ++ (below (third b k) ++ (rest ++ all)) =
    c.in_ok-push_row-3.ensures.left
    ∙ ap (λ xs. xs ++ left_all c.push_row-2.new.rows.items)
    (c.below-2.ensures.left ∙ ap below (c.second.ensures ∙ ap (λ p. second p c.kind-kind.result) part ∙ ap (second b) kind))
    ∙ ap (λ xs. below (second b k) ++ xs) two in
    let four : left_all c.push_row-4.new.rows.items ≡ below (first b k) ++ (below (second b k) ++ (below (third b k) ++ (rest ++ all))) =
    c.in_ok-push_row-4.ensures.left
    ∙ ap (λ xs. xs ++ left_all c.push_row-3.new.rows.items)
    (c.below-3.ensures.left ∙ ap below (c.first.ensures ∙ ap (λ p. first p c.kind-kind.result) part ∙ ap (first b) kind))
    ∙ ap (λ xs. below (first b k) ++ xs) three in
    ap (λ xs. xs ++ left_all c.push_row-4.new.rows.items) name
    ∙ ap (λ xs. (found ++ it) ++ xs) four
    ∙ joined it (below (first b k)) (below (second b k)) (below (third b k)) rest found all
    ∙ ap (λ xs. found ++ (xs ++ all)) (sym whole)

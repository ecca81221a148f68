-- The tokens of a tree's stretches are those of its nodes.
use Rattle.typst_styles.proofs.Cited.{◌≡◌, ℕ, ◌+◌, List, [], ◌++◌, Option, None, refl, sym, ◌∙◌, arith, append_assoc, append-nil, nat_tests, Head, Forest, none, more, Tree, count, Tagged, Tag, inner, behind, after, below, Context, Role, own, row, tag_in, style_of, all_tokens, stretches}
use Rattle.typst_highlight.specs.Stretches as tagged
use Rattle.typst_names.specs.Roles as roles
use Rattle.typst_names.specs.declared.contexts.Context.TheVariants as context
use Rattle.typst_styles.proofs.EachToken.{stretch_none}

-- of a node's own text
own_first : (text : List ℕ) (t : Option Tag) (role : Option Role) (a : ℕ) (h : Head) (ss : List Tagged) (rs : List (Option Role)) → stretches text (tagged.stretch a h.text t ++ ss) (roles.own h role ++ rs) ≡ own text t role a h ++ stretches text ss rs
own_first text t role a h ss rs = grind (arith, nat_tests, stretch_none text a (inner a h) (style_of t role))

-- of trees side by side, before those of other stretches
row_first : (text : List ℕ) (root : Tree) (n a : ℕ) (u : Option Tag) (c : Context) (f : Forest) (ss : List Tagged) (rs : List (Option Role)) → stretches text (tagged.row_stretches root n a u f ++ ss) (roles.row c f ++ rs) ≡ row text root n a u c f ++ stretches text ss rs
row_first text root n a u c none ss rs = refl
row_first text root n a u c (more h ks r) ss rs =
    simp
    (append_assoc, own_first text, row_first text root (n + 1) (inner a h) (tag_in root n u) (below c h.kind) ks, row_first text root (n + (1 + count ks)) (behind a h ks) u (after c h.kind) r)

-- of a tree
pub by_node : (text : List ℕ) (root : Tree) → all_tokens text root ≡ row text root 0 0 None context.Value (more root.head root.kids none)
by_node text root =
    (λ i. stretches text (sym (append-nil (tagged.stretches root)) i) (sym (append-nil (roles.roles root)) i))
    ∙ (row_first text root 0 0 None context.Value (more root.head root.kids none) [] [] ∙ append-nil (row text root 0 0 None context.Value (more root.head root.kids none)))

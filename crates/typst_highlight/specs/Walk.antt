-- What a walk through a tree carries along. Public clauses name none of it.
use Rattle.std.specs.Prelude.{ℕ, ◌+◌, ◌*◌, List, [], ◌∷◌, ◌++◌, reverse, Option, None, Some, length, if◌then◌else◌, Bool, false, ◌||◌}
use Rattle.typst_kinds.specs.declared.kind.SyntaxKind.{SyntaxKind}
use Rattle.typst_kinds.specs.Kinds.{is_trivia, is_hash_expr}
use Rattle.typst_kinds.specs.Head.{Head}
use Rattle.typst_tree.specs.Tree.{Forest, none, more, Tree, forest, count, nodes, text_of, saturated}
use Rattle.typst_tree.specs.Walks.{is_leaf}
use Rattle.typst_highlight.specs.declared.tags.Tag.{Tag}
use Rattle.typst_highlight.specs.declared.rules.Rule.{Rule}
use Rattle.typst_highlight.specs.declared.rules.Rule.TheVariants as rule
use Rattle.typst_highlight.specs.declared.context.Ahead.{Ahead}
use Rattle.typst_highlight.specs.declared.context.Surroundings.{Surroundings}
use Rattle.typst_highlight.specs.declared.context.Trail.{Trail}
use Rattle.typst_highlight.specs.declared.context.Outer.{Outer}
use Rattle.typst_highlight.specs.declared.context.Context.{Context}
use Rattle.typst_highlight.specs.declared.progress.Waiting.{Waiting}
use Rattle.typst_highlight.specs.declared.progress.Progress.{Progress}
use Rattle.typst_highlight.specs.declared.walk.Place.{Place}
use Rattle.typst_highlight.specs.declared.walk.Row.{Row}
use Rattle.typst_highlight.specs.declared.stretches.Tagged.{Tagged}
use Rattle.typst_highlight.specs.Rules.{rule_of, paren_tag, star_tag, underscore_tag, slash_tag, equals_tag, term_tag, is_name, is_field_access, is_dot}
use Rattle.typst_highlight.specs.Names.{first_tag, name_alone}
use Rattle.typst_highlight.specs.Html.{escaped, spanned, span_start, span_end}
use Rattle.typst_highlight.specs.Stretches.{stretch}

abbrev pub tree_of : Head → Forest → Tree
tree_of h ks = record { head = h; kids = ks }

abbrev pub first_ahead : Option Ahead → Option Ahead → Option Ahead
first_ahead None y = y
first_ahead (Some x) y = Some x

-- the first leaf of trees that stand side by side from a byte on, under a parent of this kind
abbrev pub first_leaf : Option SyntaxKind → ℕ → Forest → Option Ahead
first_leaf p a none = None
first_leaf p a (more h ks r) =
    if is_leaf (tree_of h ks) then Some (record { kind = h.kind; parent = p; offset = a }) else
    first_ahead (first_leaf (Some h.kind) (saturated (a + length h.text)) ks) (first_leaf p (saturated (a + length (text_of (tree_of h ks)))) r)

abbrev pub outer_around : Option Outer → Option SyntaxKind → Option SyntaxKind
outer_around None k = k
outer_around (Some o) k = o.around

abbrev pub outer_lead : Option Outer → Option SyntaxKind → Option SyntaxKind
outer_lead None k = k
outer_lead (Some o) k = o.lead

abbrev pub around : Context → Option SyntaxKind
around c = outer_around c.outer c.parent

abbrev pub lead : Context → Option SyntaxKind
lead c = outer_lead c.outer c.trail.before

-- where a node ends
abbrev pub end : Context → Tree → ℕ
end c t = saturated (c.offset + length (text_of t))

-- the first leaf after a node that ends there and that the trees r follow
abbrev pub leaf_from : Context → ℕ → Forest → Option Ahead
leaf_from c e r = first_ahead (first_leaf c.parent e r) c.ahead

-- the first leaf after a node that the trees r follow
abbrev pub next_leaf : Context → Tree → Forest → Option Ahead
next_leaf c t r = leaf_from c (end c t) r

-- what is around the outermost of the field accesses above the children of a node of this kind
abbrev pub outer_within : Context → SyntaxKind → Option Outer
outer_within c k = if is_field_access k then Some (record { around = around c; lead = lead c }) else None

-- what is around a node's first child
abbrev pub within : Context → Tree → Forest → Context
within c t r = record {
  parent = Some t.head.kind;
  outer = outer_within c t.head.kind;
  offset = saturated (c.offset + length t.head.text);
  trail = c.trail;
  ahead = next_leaf c t r;
}

-- what is around the tree that follows a tree
abbrev pub past : Context → Tree → Trail → Context
past c t trail = record c { offset = end c t; trail = trail }

abbrev pub dotted : Option SyntaxKind → Option Tag → Option Tag
dotted None t = None
dotted (Some k) t = if is_dot k then t else None

abbrev pub behind_dot : Trail → Option Tag
behind_dot t = dotted t.before t.earlier

-- what is around a node, as a name sees it
abbrev pub seen : Context → Tree → Forest → Surroundings
seen c t r = record {
  kind = t.head.kind;
  end = end c t;
  next = next_leaf c t r;
  around = around c;
  lead = lead c;
  before = c.trail.before;
}

abbrev pub name : Context → Tree → Forest → Option Tag
name c t r = first_tag (name_alone (seen c t r)) (behind_dot c.trail)

-- the last leaves before what follows a leaf
abbrev pub step : Context → Tree → Forest → Trail
step c t r = record {
  before = Some t.head.kind;
  name = if is_name t.head.kind then name c t r else None;
  earlier = c.trail.name;
}

-- the last leaves before what follows trees that stand side by side
abbrev pub passed_row : Context → Forest → Trail
passed_row c none = c.trail
passed_row c (more h ks r) =
    passed_row (past c (tree_of h ks) (if is_leaf (tree_of h ks) then step c (tree_of h ks) r else passed_row (within c (tree_of h ks) r) ks)) r

-- the last leaves before what follows a node
abbrev pub passed : Context → Tree → Forest → Trail
passed c t r = if is_leaf t then step c t r else passed_row (within c t r) t.kids

-- the first sibling that is no trivia
abbrev pub next_kind : Forest → Option SyntaxKind
next_kind none = None
next_kind (more h ks r) = if is_trivia h.kind then next_kind r else Some h.kind

-- the tag of a node by its rule and by the tag of the expression after it
abbrev pub tag_here : Rule → Context → Tree → Forest → Option Tag → Option Tag
tag_here (rule.Fixed tag) c t r e = tag
tag_here rule.Paren c t r e = paren_tag c.parent
tag_here rule.Star c t r e = star_tag c.parent
tag_here rule.Underscore c t r e = underscore_tag c.parent
tag_here rule.Slash c t r e = slash_tag c.parent
tag_here rule.Equals c t r e = equals_tag c.parent
tag_here rule.Term c t r e = term_tag c.parent (next_kind r)
tag_here rule.Name c t r e = name c t r
tag_here rule.Expression c t r e = e

-- the tag of a node where its rule tells it with the kinds of its parent and of the next node that is
-- no trivia
abbrev pub tag_under : Rule → Option SyntaxKind → Option SyntaxKind → Option (Option Tag)
tag_under (rule.Fixed tag) p n = Some tag
tag_under rule.Paren p n = Some (paren_tag p)
tag_under rule.Star p n = Some (star_tag p)
tag_under rule.Underscore p n = Some (underscore_tag p)
tag_under rule.Slash p n = Some (slash_tag p)
tag_under rule.Equals p n = Some (equals_tag p)
tag_under rule.Term p n = Some (term_tag p n)
tag_under rule.Name p n = None
tag_under rule.Expression p n = None

abbrev pub if_found : Option (Option Tag) → Option (Option Tag) → Option (Option Tag)
if_found None y = y
if_found (Some x) y = Some x

abbrev pub flat : Option (Option Tag) → Option Tag
flat None = None
flat (Some t) = t

-- what is found in trees that stand side by side
pub record Found : Type 0 where
  -- the tag of the first tree's first leaf
  pub own : Option (Option Tag)
  -- the tag of the first leaf
  pub leaf : Option (Option Tag)
  -- the tag that a hash before the trees has
  pub expression : Option Tag

-- of a first tree and those after it, where those in it and those after it are known
abbrev pub found_more : Context → Tree → Forest → Found → Found → Found
found_more c t r inner later =
    let own : Option (Option Tag) = if is_leaf t then Some (tag_here (rule_of t.head.kind) c t r later.expression) else inner.leaf in
    record {
      own = own;
      leaf = if_found own later.leaf;
      expression = if is_trivia t.head.kind then later.expression else if is_hash_expr t.head.kind then flat own else None;
    }

abbrev pub found : Context → Forest → Found
found c none = record { own = None; leaf = None; expression = None }
found c (more h ks r) =
    found_more c (tree_of h ks) r (found (within c (tree_of h ks) r) ks) (found (past c (tree_of h ks) (passed c (tree_of h ks) r)) r)

-- the tag of a node that the trees r follow
abbrev pub tag : Context → Tree → Forest → Option Tag
tag c t r = tag_here (rule_of t.head.kind) c t r (found (past c t (passed c t r)) r).expression

-- the tag of a node's first leaf, where the trees r follow the node
abbrev pub own : Context → Tree → Forest → Option (Option Tag)
own c t r = if is_leaf t then Some (tag c t r) else (found (within c t r) t.kids).leaf

-- trees that stand side by side, as HTML
abbrev pub forest_html : Context → Forest → List ℕ
forest_html c none = []
forest_html c (more h ks r) =
    let t : Tree = tree_of h ks in
    (span_start (spanned (tag c t r)) ++ (escaped h.text ++ (forest_html (within c t r) ks ++ span_end (spanned (tag c t r))))) ++ forest_html (past c t (passed c t r)) r

-- a node as HTML
abbrev pub node_html : Context → Tree → Forest → List ℕ
node_html c t r = span_start (spanned (tag c t r)) ++ (escaped t.head.text ++ (forest_html (within c t r) t.kids ++ span_end (spanned (tag c t r))))

-- among the trees is a leaf
abbrev pub holds_leaf : Forest → Bool
holds_leaf none = false
holds_leaf (more h ks r) = is_leaf (tree_of h ks) || (holds_leaf ks || holds_leaf r)

-- a leaf follows the first of the trees that is no trivia
abbrev pub is_followed : Forest → Bool
is_followed none = false
is_followed (more h ks r) = if is_trivia h.kind then is_followed r else holds_leaf r

-- the nodes that a walk comes back to, the innermost first
abbrev pub waiting : Progress → List Waiting
waiting p = reverse p.waiting.items

-- the first leaf of nodes that a walk comes back to
abbrev pub ahead_of : List Waiting → Option Ahead
ahead_of [] = None
ahead_of (w ∷ ws) = first_ahead (first_leaf w.level.parent w.start (forest w.nodes.now)) (ahead_of ws)

-- what is around the node that a walk comes to next
abbrev pub joined : Progress → Context
joined p = record { parent = p.level.parent; outer = p.level.outer; offset = p.offset; trail = p.trail; ahead = ahead_of (waiting p) }

-- what is around the first of the nodes that a walk comes back to, before others and after these leaves
abbrev pub resumed : Waiting → List Waiting → Trail → Context
resumed w ws trail = record { parent = w.level.parent; outer = w.level.outer; offset = w.start; trail = trail; ahead = ahead_of ws }

-- what is around the root of a tree
abbrev pub root_context : Context
root_context = record { parent = None; outer = None; offset = 0; trail = record { before = None; name = None; earlier = None }; ahead = None }

-- what the steps of a walk make of what the nodes are given to
pub record Outlet (S : Type 0) : Type 0 where
  -- at the beginning of a span
  pub begun : S → Option Tag → S
  -- what is kept for the end of the span
  pub kept : S → Option Tag → Option Tag
  -- by a node's own text
  pub given : S → List ℕ → S
  -- at the end of a span
  pub ended : S → Option Tag → S

-- what trees that stand side by side make of it
abbrev pub walked_row : {S : Type 0} → Outlet S → Context → Forest → S → S
walked_row o c none s = s
walked_row o c (more h ks r) s =
    let t : Tree = tree_of h ks in
    walked_row o (past c t (passed c t r)) r (o.ended (walked_row o (within c t r) ks (o.given (o.begun s (spanned (tag c t r))) h.text)) (o.kept s (spanned (tag c t r))))

-- what a node makes of it
abbrev pub walked : {S : Type 0} → Outlet S → Context → Tree → Forest → S → S
walked o c t r s =
    o.ended (walked_row o (within c t r) t.kids (o.given (o.begun s (spanned (tag c t r))) t.head.text)) (o.kept s (spanned (tag c t r)))

-- what the rest of a walk makes of it, from the end of the row on that it is in
abbrev pub returned : {S : Type 0} → Outlet S → List Waiting → Trail → S → S
returned o [] trail s = s
returned o (w ∷ ws) trail s =
    let c : Context = resumed w ws trail in
    returned o ws (passed_row c (forest w.nodes.now)) (walked_row o c (forest w.nodes.now) (o.ended s w.kept))

-- what the rest of a walk makes of it, where these trees are left of the row that it is in
abbrev pub left : {S : Type 0} → Outlet S → Progress → Forest → S → S
left o p f s = returned o (waiting p) (passed_row (joined p) f) (walked_row o (joined p) f s)

-- how many nodes a walk comes back to, and how many times
abbrev pub returns : List Waiting → ℕ
returns [] = 0
returns (w ∷ ws) = 1 + (2 * count (forest w.nodes.now) + returns ws)

-- how many steps are left of a walk, where these trees are left of the row that it is in
abbrev pub steps : Progress → Forest → ℕ
steps p f = 2 * count f + returns (waiting p)

-- the tag of a node at its place
abbrev pub tag_at : Place → Option Tag
tag_at p = tag p.context p.node.now (forest p.later.now)

-- the tag of the expression after a node
abbrev pub expression_at : Place → Option Tag
expression_at p =
    let r : Forest = forest p.later.now in
    (found (past p.context p.node.now (passed p.context p.node.now r)) r).expression

-- how many nodes there are from a place on, under the same parent
abbrev pub size : Place → ℕ
size p = nodes p.node.now + count (forest p.later.now)

-- the last leaves before what follows rows of nodes, each of which follows what is below the one before it
abbrev pub passed_rows : List Row → Trail → Trail
passed_rows [] trail = trail
passed_rows (w ∷ ws) trail = passed_rows ws (passed_row (record w.context { trail = trail }) (forest w.nodes.now))

-- HTML that is written
abbrev pub html : Outlet (List ℕ)
html = record {
  begun = λ s t. s ++ span_start t;
  kept = λ s t. t;
  given = λ s text. s ++ escaped text;
  ended = λ s t. s ++ span_end t;
}

-- stretches with tags as they are made
pub record Marks : Type 0 where
  pub stretches : List Tagged
  -- where the next one begins
  pub end : ℕ
  -- the tag of the innermost span
  pub around : Option Tag

-- stretches that are added
abbrev pub tagger : Outlet Marks
tagger = record {
  begun = λ s t. record s { around = first_tag t s.around };
  kept = λ s t. s.around;
  given = λ s text. record s { stretches = s.stretches ++ stretch s.end text s.around; end = saturated (s.end + length text) };
  ended = λ s t. record s { around = t };
}

-- tags of spans that are listed
abbrev pub lister : Outlet (List (Option Tag))
lister = record {
  begun = λ s t. s ++ t ∷ [];
  kept = λ s t. None;
  given = λ s text. s;
  ended = λ s t. s;
}

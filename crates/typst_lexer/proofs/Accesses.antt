-- Names with fields: what a loop over the names between dots makes, and its text.
use Rattle.typst_lexer.proofs.Cited.{◌≡◌, ◌<◌, ℕ, ◌+◌, Bool, true, false, not, if◌then◌else◌, ◌==◌, List, [], ◌∷◌, ◌++◌, length, take, codes, encode_utf8_all, refl, ap, sym, ◌∙◌, append-nil, append_assoc, arith, encodes-append, prefix_len, chars, Place, place_at, moved, moved_from, passes, past, run, scout, moved-less, past-stops, longer, names_of, name_node, field_node, fields_node, named_node, access_node, one-add}
use Rattle.typst_kinds.specs.declared.kind.SyntaxKind.TheVariants as kind
use Rattle.typst_tree.specs.Tree.{Tree, forest, leaf_of, inner_of, text_of}

abbrev pub no_dot : ℕ → Bool
no_dot c = not (c == 46)

abbrev pub rest_of : List (List ℕ) → List (List ℕ)
rest_of [] = []
rest_of (name ∷ names) = names

-- the names after a place at a dot or at the end
abbrev pub names_after : Place → List (List ℕ)
names_after p = rest_of (names_of p.ahead)

-- the first name goes up to a dot
pub names-run : (before cs : List ℕ) → names_of cs ≡ take (prefix_len no_dot cs) cs ∷ rest_of (names_of (moved_from (prefix_len no_dot cs) before cs).ahead)
names-run before [] = refl
names-run before (c ∷ cs) = by (names-run (c ∷ before) cs) (c == 46) refl
  where
    by : names_of cs ≡ take (prefix_len no_dot cs) cs ∷ rest_of (names_of (moved_from (prefix_len no_dot cs) (c ∷ before) cs).ahead) → (t : Bool) → (c == 46) ≡ t → names_of (c ∷ cs) ≡ take (prefix_len no_dot (c ∷ cs)) (c ∷ cs) ∷ rest_of (names_of (moved_from (prefix_len no_dot (c ∷ cs)) before (c ∷ cs)).ahead)
    by more true e = rw (e, e) refl
    by more false e = rw (e, one-add (prefix_len no_dot cs)) (ap (longer c) more)

-- the names from a place on
pub names-past : (p : Place) → names_of p.ahead ≡ run no_dot p ∷ names_after (past no_dot p)
names-past p = names-run p.before p.ahead

-- what a name becomes with those after it
pub first-names : (p q : Place) (name : List ℕ) (node : Tree) → q ≡ past no_dot p → name ≡ run no_dot p → node ≡ name_node name → named_node (names_of p.ahead) ≡ fields_node node (names_after q)
first-names p q name node e n h = ap named_node (names-past p) ∙ rw (h, n, e) refl

-- after a dot the next name takes what stands before it
pub next-name : (p q w : Place) (name : List ℕ) (old new : Tree) → passes (λ c. c == 46) (scout 0 p) ≡ true → q ≡ moved 1 p → w ≡ past no_dot q → name ≡ run no_dot q → new ≡ field_node old name
    → fields_node old (names_after p) ≡ fields_node new (names_after w)
next-name p q w name old new t e f n h = by p.before p.ahead t e
  where
    by : (b a : List ℕ) → passes (λ c. c == 46) (scout 0 (record { before = b; ahead = a })) ≡ true → q ≡ moved_from 1 b a → fields_node old (rest_of (names_of a)) ≡ fields_node new (names_after w)
    by b [] t e = absurd (cc)
    by b (c ∷ cs) t e =
        let there : names_of q.ahead ≡ names_of cs = ap (λ (x : Place). names_of x.ahead) e in
        rw t (ap (fields_node old) (sym there ∙ names-past q) ∙ rw (h, n, f) refl)

-- at the end no name is left
pub no-names : (p : Place) (node : Tree) → passes (λ c. c == 46) (scout 0 p) ≡ false → passes no_dot (scout 0 p) ≡ false → fields_node node (names_after p) ≡ node
no-names p node t s = by p.ahead t s
  where
    by : (a : List ℕ) → passes (λ c. c == 46) (scout 0 (record { before = []; ahead = a })) ≡ false → passes no_dot (scout 0 (record { before = []; ahead = a })) ≡ false → fields_node node (rest_of (names_of a)) ≡ node
    by [] t s = refl
    by (c ∷ cs) t s = absurd (cc)

-- what a list of three nodes becomes
pub field-is : (left dot name : Tree) (kids : List Tree) (text : List ℕ) (node : Tree) → dot ≡ leaf_of kind.Dot (codes ".") → name ≡ leaf_of kind.MathIdent text → kids ≡ left ∷ dot ∷ name ∷ [] → node ≡ inner_of kind.MathFieldAccess (forest kids)
    → encode_utf8_all (chars text) ≡ text → node ≡ field_node left (chars text)
field-is left dot name kids text node d n k h u = h ∙ rw (k, d, n, u) refl

-- what the first name of a text becomes
pub access-names : (text first : List ℕ) (p q : Place) (node : Tree) → p ≡ place_at text 0 → q ≡ past no_dot p → chars first ≡ run no_dot p → node ≡ leaf_of kind.MathIdent first → encode_utf8_all (chars first) ≡ first
    → access_node (chars text) ≡ fields_node node (names_after q)
unfolding access_node place_at
access-names text first p q node e f n h u =
    let there : p.ahead ≡ chars text = ap (λ (x : Place). x.ahead) e in
    ap (λ cs. named_node (names_of cs)) (sym there) ∙ first-names p q (chars first) node f n (h ∙ ap (leaf_of kind.MathIdent) (sym u))

pub stops-at : (p q : Place) → q ≡ past no_dot p → passes no_dot (scout 0 q) ≡ false
stops-at p q e = ap (λ (x : Place). passes no_dot (scout 0 x)) e ∙ past-stops no_dot p

-- the dot was taken
pub dot-taken : (r : Bool) (p q : Place) → r ≡ passes (λ c. c == 46) (scout 0 p) → r ≡ true → q ≡ (if r then moved 1 p else p) → (passes (λ c. c == 46) (scout 0 p) ≡ true) × (q ≡ moved 1 p)
dot-taken r p q t h e = (sym t ∙ h, e ∙ ap (λ (b : Bool). if b then moved 1 p else p) h)

-- fewer characters are ahead after a dot and a name
pub dot-shortens : (p q w : Place) → passes (λ c. c == 46) (scout 0 p) ≡ true → q ≡ moved 1 p → w ≡ past no_dot q → length w.ahead < length p.ahead
dot-shortens p q w t e f = by p.before p.ahead t e
  where
    by : (b a : List ℕ) → passes (λ c. c == 46) (scout 0 (record { before = b; ahead = a })) ≡ true → q ≡ moved_from 1 b a → length w.ahead < length a
    by b [] t e = absurd (cc)
    by b (c ∷ cs) t e =
        let last : length w.ahead ≡ length (past no_dot q).ahead = ap (λ (x : Place). length x.ahead) f in
        let first : length q.ahead ≡ length cs = ap (λ (x : Place). length x.ahead) e in
        omega (arith, last, first, moved-less (prefix_len no_dot q.ahead) q.before q.ahead)

-- ---- the text

joined-nodes : (left : Tree) (name : List ℕ) → text_of (field_node left name) ≡ text_of left ++ (46 ∷ encode_utf8_all name)
joined-nodes left name = grind (arith, append-nil, append_assoc)

-- names with a dot before each, and with dots between them
abbrev dotted : List (List ℕ) → List ℕ
dotted [] = []
dotted (name ∷ names) = 46 ∷ (name ++ dotted names)

abbrev between : List (List ℕ) → List ℕ
between [] = []
between (name ∷ names) = name ++ dotted names

fields-text : (left : Tree) (names : List (List ℕ)) → text_of (fields_node left names) ≡ text_of left ++ encode_utf8_all (dotted names)
unfolding lib.Utf8.encode
fields-text left [] = sym (append-nil (text_of left))
fields-text left (name ∷ names) =
    fields-text (field_node left name) names
    ∙ ap (λ t. t ++ encode_utf8_all (dotted names)) (joined-nodes left name)
    ∙ append_assoc (text_of left) (46 ∷ encode_utf8_all name) (encode_utf8_all (dotted names))
    ∙ ap (λ t. text_of left ++ (46 ∷ t)) (sym (encodes-append name (dotted names)))

named-text : (names : List (List ℕ)) → text_of (named_node names) ≡ encode_utf8_all (between names)
named-text names = grind (arith, fields-text, append-nil, encodes-append)

between-longer : (c : ℕ) (names : List (List ℕ)) → between (longer c names) ≡ c ∷ between names
between-longer c names = grind arith

names-text : (cs : List ℕ) → between (names_of cs) ≡ cs
names-text [] = refl
names-text (c ∷ cs) = by (names-text cs) (c == 46) refl
  where
    by : between (names_of cs) ≡ cs → (t : Bool) → (c == 46) ≡ t → between (names_of (c ∷ cs)) ≡ c ∷ cs
    by more true e = grind arith
    by more false e = rw e (between-longer c (names_of cs) ∙ ap (λ ds. c ∷ ds) more)

pub text-access : (taken : List ℕ) → text_of (access_node taken) ≡ encode_utf8_all taken
unfolding access_node
text-access taken = named-text (names_of taken) ∙ ap encode_utf8_all (names-text taken)

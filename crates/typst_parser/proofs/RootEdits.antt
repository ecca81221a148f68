-- What an edit answers is an edit of the root's children.
use Rattle.typst_parser.proofs.Cited.{◌≡◌, ℕ, suc, ◌+◌, ◌<◌, ◌≤◌, IsTrue, true, List, [], ◌∷◌, ◌++◌, length, take, drop, get_or, Some, refl, ap, sym, subst, ◌∙◌, arith, append_assoc, append-nil, length-append, slice_range, chars, IsCharBoundary, IsUtf8, Range, set, slice_get_within, get_or_from_slice_get, CharClasses, Tree, bare, bare_forest, forest, joined, text_of, trees, kids_of, with_kids, replaced_at, Reaches, or_none, start_at, start_in, below, joined-append, replaced_bare, start_le, text_bare, text_over, text_split, forest_trees, width, log, tree, IsAnswer, part, whole, StandsIn, listed, candidate-places-law, in-order, tree-inner, among, width-append, Answers, TextReplacement, candidates, text_after, text_before, Headline, edited, Held, IsEdited, change_by, Replacement, chosen-of, tree-is}
use Rattle.std.proofs.lemmas.List.{set_split, set-get_or, take-append-drop}
use Rattle.std.proofs.lemmas.List.Folds.{drop_split}
use Rattle.typst_kinds.specs.declared.kind.SyntaxKind.TheVariants as kind
use Rattle.typst_highlight.specs.RootEdits.{IsRootEdit, bytes_of}
use Rattle.typst_parser.proofs.Changed.{after, before, long-now, width-chars}

-- both roots are markup, without a text of their own
pub record AreMarkup (was now : Tree) : Type 0 where
  pub kind_was : was.head.kind ≡ kind.Markup
  pub kind_now : now.head.kind ≡ kind.Markup
  pub text_was : was.head.text ≡ []
  pub text_now : now.head.text ≡ []

-- the texts of both trees, and what was read again in the new one, by how long the old stretch and the new one are
pub record Lengths (was now : Tree) (range : Range ℕ) (start end old new : ℕ) : Type 0 where
  pub texts : length (text_of now) + old ≡ length (text_of was) + new
  pub starts : range.start ≡ start
  pub ends : range.end + old ≡ end + new
  pub ordered : range.start ≤ range.end

-- the children of the root itself gave way to others
at_root : (was now : Tree) (from to : ℕ) (ts : List Tree) (range : Range ℕ) (old new : ℕ) → AreMarkup was now → Reaches [] from to was → replaced_at [] from to ts was ≡ Some now
    → Lengths was now range (start_in from was) (start_in to was) old new → IsRootEdit was now range
at_root was now from to ts range old new m r e l =
    let xs : List Tree = kids_of was in
    let front : List Tree = take from xs in
    let gone : List Tree = slice_range xs from to in
    let back : List Tree = drop to xs in
    let parts : was.kids ≡ forest (front ++ (gone ++ back)) =
    sym (forest_trees was.kids) ∙ ap forest (sym (take-append-drop from xs) ∙ ap (λ ys. front ++ ys) (drop_split xs from to r.1)) in
    let same : bare now ≡ bare (with_kids was (front ++ (ts ++ back))) = replaced_bare from to ts was now r e in
    let text_is = m.text_was in
    let long : length (text_of now) ≡ length was.head.text + (bytes_of front + (bytes_of ts + bytes_of back)) =
    ap length (sym (text_bare now) ∙ (ap text_of same ∙ text_bare (with_kids was (front ++ (ts ++ back)))))
    ∙ omega (arith, length-append was.head.text (joined (forest (front ++ (ts ++ back)))), ap length (joined-append front (ts ++ back)), ap length (joined-append ts back), length-append (joined (forest front)) (joined (forest (ts ++ back))), length-append (joined (forest ts)) (joined (forest back))) in
    let whole : length (text_of was) ≡ length was.head.text + (bytes_of (take to xs) + bytes_of back) =
    omega (arith, ap length (text_split to was), length-append (was.head.text ++ joined (forest (take to xs))) (joined (forest back)), length-append was.head.text (joined (forest (take to xs)))) in
    let none : length was.head.text ≡ 0 = ap length text_is in
    let read : bytes_of front + bytes_of ts ≡ range.end = omega (arith, long, whole, none, l.texts, l.ends) in
    let first : bytes_of front ≡ range.start = omega (arith, none, l.starts) in
    record {
      front = front;
      old = gone;
      new = ts;
      back = back;
      kind_was = m.kind_was;
      kind_now = m.kind_now;
      text_was = m.text_was;
      text_now = m.text_now;
      before = ap bare_forest parts;
      after = ap (λ t. t.kids) same;
      starts = omega (arith, first);
      begins = omega (arith, first);
      ordered = l.ordered;
      ends = omega (arith, read);
    }

one_more : (t : Tree) (back : List Tree) → bytes_of (t ∷ back) ≡ length (text_of t) + bytes_of back
one_more t back = omega (arith, length-append t.head.text (joined t.kids ++ joined (forest back)), length-append (joined t.kids) (joined (forest back)), length-append t.head.text (joined t.kids))

row_length : (own : List ℕ) (front : List Tree) (t : Tree) (back : List Tree) → length (own ++ joined (forest (front ++ (t ∷ back)))) ≡ length own + (bytes_of front + (length (text_of t) + bytes_of back))
row_length own front t back = grind (arith, length-append, joined-append)

-- one child of the root was changed
in_child : (was now : Tree) (i : ℕ) (path : List ℕ) (from to : ℕ) (ts : List Tree) (range : Range ℕ) (old new : ℕ) → AreMarkup was now → Reaches (i ∷ path) from to was → replaced_at (i ∷ path) from to ts was ≡ Some now
    → Lengths was now range (start_at (i ∷ path) from was) (start_at (i ∷ path) to was) old new → IsRootEdit was now range
in_child was now i path from to ts range old new m r e l =
    let xs : List Tree = kids_of was in
    let b = below path i from to ts was now r e in
    let found = b.found in
    let within : i < length xs = slice_get_within xs i b.kid found in
    let here : get_or xs i b.kid ≡ b.kid = get_or_from_slice_get xs i b.kid b.kid found in
    let front : List Tree = take i xs in
    let back : List Tree = drop (suc i) xs in
    let parts : xs ≡ front ++ (b.kid ∷ back) = sym (ap (set xs i) (sym here) ∙ set-get_or xs i b.kid) ∙ set_split xs i b.kid within in
    let put : now.kids ≡ forest (front ++ (b.kid' ∷ back)) = ap (λ t. t.kids) b.is ∙ ap forest (set_split xs i b.kid' within) in
    let whole : length (text_of was) ≡ length was.head.text + (bytes_of front + (length (text_of b.kid) + bytes_of back)) =
    ap length (text_over was) ∙ (ap (λ ys. length (was.head.text ++ joined (forest ys))) parts ∙ row_length was.head.text front b.kid back) in
    let long : length (text_of now) ≡ length was.head.text + (bytes_of front + (length (text_of b.kid') + bytes_of back)) =
    ap (λ t. length (text_of t)) b.is ∙ (ap (λ ys. length (was.head.text ++ joined (forest ys))) (set_split xs i b.kid' within) ∙ row_length was.head.text front b.kid' back) in
    let none : length was.head.text ≡ 0 = ap length m.text_was in
    let first : start_at (i ∷ path) from was ≡ start_in i was + start_at path from b.kid = ap (λ o. start_in i was + or_none (start_at path from) o) found in
    let last : start_at (i ∷ path) to was ≡ start_in i was + start_at path to b.kid = ap (λ o. start_in i was + or_none (start_at path to) o) found in
    let low = start_le path to b.kid in
    let starts : bytes_of front ≤ range.start = omega (arith, none, first, l.starts) in
    let ends : range.end ≤ bytes_of front + length (text_of b.kid') = omega (arith, none, last, low, l.ends, l.texts, whole, long) in
    let order = l.ordered in
    let one : bytes_of (b.kid' ∷ []) ≡ length (text_of b.kid') = omega (arith, one_more b.kid' []) in
    record {
      front = front;
      old = b.kid ∷ [];
      new = b.kid' ∷ [];
      back = back;
      kind_was = m.kind_was;
      kind_now = m.kind_now;
      text_was = m.text_was;
      text_now = m.text_now;
      before = ap bare_forest (sym (forest_trees was.kids) ∙ ap forest parts);
      after = ap bare_forest put;
      starts = starts;
      begins = omega (arith, ends, order);
      ordered = order;
      ends = omega (arith, one, starts, order);
    }

by_path : (was now : Tree) (path : List ℕ) (from to : ℕ) (ts : List Tree) (range : Range ℕ) (old new : ℕ) → AreMarkup was now → Reaches path from to was → replaced_at path from to ts was ≡ Some now
    → Lengths was now range (start_at path from was) (start_at path to was) old new → IsRootEdit was now range
by_path was now [] from to ts range old new m r e l = at_root was now from to ts range old new m r e l
by_path was now (i ∷ path) from to ts range old new m r e l = in_child was now i path from to ts range old new m r e l

root_kind : (k : CharClasses) (text : List ℕ) (t : Tree) → bare t ≡ bare (tree k text) → t.head.kind ≡ kind.Markup
root_kind k text t e = ap (λ u. u.head.kind) e ∙ ap (λ (u : Tree). u.head.kind) (tree-is k text 0 0 tt tt)

root_own : (k : CharClasses) (text : List ℕ) (t : Tree) → bare t ≡ bare (tree k text) → t.head.text ≡ []
root_own k text t e = ap (λ u. u.head.text) e ∙ ap (λ (u : Tree). u.head.text) (tree-is k text 0 0 tt tt)

-- the law: what an edit answers, and the trees before it and after it
pub root_edit : (k : CharClasses) (c : TextReplacement) (was now : Tree) (range : Range ℕ) → bare was ≡ bare (tree k (text_before c)) → bare now ≡ bare (tree k (text_after c)) → length (text_of was) ≡ width (text_before c) → length (text_of now) ≡ width (text_after c)
    → IsAnswer k c (candidates k c was) was now range → range.start ≤ range.end → IsRootEdit was now range
root_edit k c was now range tree_was tree_now long_was long_now (part earlier d later ts split refused gives put start end) order =
    let inner : IsTrue was.head.is_inner = subst (λ b. IsTrue b) (sym (ap (λ (t : Tree). t.head.is_inner) tree_was)) (tree-inner k (text_before c)) in
    let stands : StandsIn was d =
    among (StandsIn was) d (candidates k c was) (chosen-of (candidates k c was) earlier d later split)
    (candidate-places-law (listed (log k (text_before c)).notes) (width c.front) (width (c.front ++ c.old)) was inner (in-order c.front c.old)) in
    by_path was now d.path d.from d.to ts range (width c.old) (width c.new)
    (record { kind_was = root_kind k (text_before c) was tree_was; kind_now = root_kind k (text_after c) now tree_now; text_was = root_own k (text_before c) was tree_was; text_now = root_own k (text_after c) now tree_now })
    stands.reaches
    put
    (record {
      texts = omega (arith, long_was, long_now, width-append c.front (c.old ++ c.rest), width-append c.old c.rest, width-append c.front (c.new ++ c.rest), width-append c.new c.rest);
      starts = start ∙ stands.start;
      ends = omega (arith, end, stands.end);
      ordered = order;
    })
root_edit k c was now range tree_was tree_now long_was long_now (whole refused is bytes) order =
    let none_was = ap length (root_own k (text_before c) was tree_was) in
    let none_now = ap length (root_own k (text_after c) now tree_now) in
    let first : range.start ≡ 0 = ap (λ (r : Range ℕ). r.start) bytes in
    let last : range.end ≡ width (text_after c) = ap (λ (r : Range ℕ). r.end) bytes in
    let long : length (text_of now) ≡ bytes_of (trees now.kids) = omega (arith, none_now, length-append now.head.text (joined now.kids), ap (λ f. length (joined f)) (forest_trees now.kids)) in
    record {
      front = [];
      old = trees was.kids;
      new = trees now.kids;
      back = [];
      kind_was = root_kind k (text_before c) was tree_was;
      kind_now = root_kind k (text_after c) now tree_now;
      text_was = root_own k (text_before c) was tree_was;
      text_now = root_own k (text_after c) now tree_now;
      before = ap bare_forest (sym (forest_trees was.kids) ∙ ap forest (sym (append-nil (trees was.kids))));
      after = ap bare_forest (sym (forest_trees now.kids) ∙ ap forest (sym (append-nil (trees now.kids))));
      starts = omega arith;
      begins = omega (arith, first);
      ordered = order;
      ends = omega (arith, last, long, long_now);
    }

-- the same of a source: what `edit` answers, where there were records
pub held_edit : {C : Type 0} (k : CharClasses) (old new : Held C) (replace : Range ℕ) (with : List ℕ) (range : Range ℕ) → Headline k old → Headline k new → IsUtf8 old.text → IsUtf8 with → IsCharBoundary old.text replace.start → IsCharBoundary old.text replace.end
    → replace.start ≤ replace.end → new.text ≡ edited old.text replace with → Answers k old new replace with range → old.has_records ≡ true → range.start ≤ range.end → IsRootEdit old.root new.root range
held_edit k old new replace with range was now utf8_old utf8 start end ordered made answer records order =
    let e : Replacement = record { start = replace.start; old_end = replace.end; new_end = replace.start + length with } in
    let h : IsEdited old.text new.text e = record {
      with = with;
      utf8_old = utf8_old;
      utf8 = utf8;
      start = start;
      end = end;
      ordered = ordered;
      is = made ∙ append_assoc (take replace.start old.text) with (drop replace.end old.text);
      new_end = refl;
    } in
    let c : TextReplacement = change_by h in
    let before_is : text_before c ≡ chars old.text = before old.text new.text e h in
    let after_is : chars new.text ≡ text_after c = after old.text new.text e h in
    root_edit k c old.root new.root range
    (was.tree ∙ ap (λ s. bare (tree k s)) (sym before_is))
    (now.tree ∙ ap (λ s. bare (tree k s)) after_is)
    (ap length was.leaves ∙ (sym (width-chars old.text utf8_old) ∙ ap width (sym before_is)))
    (ap length now.leaves ∙ sym (long-now old.text new.text e h))
    (answer.recorded records)
    order

-- Nodes that take the same place in the same tree and give the same tree are the same, so an edit has one answer.
use Rattle.typst_edits.proofs.Cited.{◌≡◌, ℕ, zero, suc, List, [], ◌∷◌, ◌++◌, drop, take, Some, ap, sym, ◌∙◌, subst, arith, slice_get, CharClasses, Tree, forest, trees, At, Reaches, replaced_at, trees_forest, width, Candidate, tree, with_children, alter, Every, Gives, append_cancel_left, append_cancel_right, part, Refused, TextReplacement, text_before}
use Rattle.typst_edits.specs.Answer.IsAnswer.{whole}
use Rattle.typst_edits.specs.Unique.{UniqueLaw, OneAnswerLaw}
use Rattle.typst_edits.proofs.AnswerTree.{chosen-of, gives-tree-law, some-is}
use Rattle.typst_edits.proofs.CandidateWorth.{in-order, reached}
use Rattle.typst_edits.proofs.Edit.{among}
use Rattle.typst_edits.proofs.Replaced.{put-law}
use Rattle.typst_edits.proofs.Every.{first_or}

-- ---- the same tree by nodes in the same place

-- one of several nodes changed to the same by two functions
same-there : (P : Tree → Type 0) (f g : Tree → Tree) (Q : Type 0) → ((t : Tree) → P t → f t ≡ g t → Q) → (n : ℕ) (ts : List Tree) → At P (slice_get ts n) → alter n f ts ≡ alter n g ts → Q
same-there P f g Q h n [] a e = absurd a
same-there P f g Q h zero (t ∷ ts) a e = h t a (ap (first_or t) e)
same-there P f g Q h (suc n) (t ∷ ts) a e = same-there P f g Q h n ts a (ap (drop 1) e)

kids-same : (xs ys : List Tree) → forest xs ≡ forest ys → xs ≡ ys
kids-same xs ys e = sym (trees_forest xs) ∙ ap trees e ∙ trees_forest ys

pub same-nodes : (path : List ℕ) (from to : ℕ) (ts us : List Tree) (t : Tree) → Reaches path from to t → with_children path from to ts t ≡ with_children path from to us t → ts ≡ us
same-nodes [] from to ts us t r e = append_cancel_right ts us (drop to (trees t.kids)) (append_cancel_left (take from (trees t.kids)) (ts ++ drop to (trees t.kids)) (us ++ drop to (trees t.kids)) (kids-same _ _ (ap (λ (u : Tree). u.kids) e)))
same-nodes (n ∷ path) from to ts us t r e =
    same-there (Reaches path from to) (with_children path from to ts) (with_children path from to us) (ts ≡ us) (same-nodes path from to ts us) n (trees t.kids) r (kids-same _ _ (ap (λ (u : Tree). u.kids) e))

pub unique-law : UniqueLaw
unique-law k edit root c ts us same chosen one other =
    let text = text_before edit in
    let was = tree k text in
    let reaches = reached k text (width edit.front) (width (edit.front ++ edit.old)) root c (in-order edit.front edit.old) same chosen in
    let first = gives-tree-law k edit root c ts same chosen one ∙ put-law c.path c.from c.to ts was in
    let second = gives-tree-law k edit root c us same chosen other ∙ put-law c.path c.from c.to us was in
    same-nodes c.path c.from c.to ts us was reaches (sym first ∙ second)

-- ---- the first that isn't refused

first-one : {X : Type 0} (P : X → Type 0) (es : List X) (c : X) (ls : List X) (fs : List X) (d : X) (ms : List X) → es ++ c ∷ ls ≡ fs ++ d ∷ ms → Every P es → Every P fs → (P c → ⊥) → (P d → ⊥) → c ≡ d
first-one P [] c ls [] d ms e p q kept kept_other = ap (first_or c) e
first-one P [] c ls (f ∷ fs) d ms e p q kept kept_other = absurd (kept (subst P (sym (ap (first_or c) e)) q.0))
first-one P (x ∷ es) c ls [] d ms e p q kept kept_other = absurd (kept_other (subst P (ap (first_or x) e) p.0))
first-one P (x ∷ es) c ls (f ∷ fs) d ms e p q kept kept_other = first-one P es c ls fs d ms (ap (drop 1) e) p.1 q.1 kept kept_other

module _ (k : CharClasses) (edit : TextReplacement) (root : Tree) where
  not-refused : (c : Candidate) (ts : List Tree) (now : Tree) → Gives k edit c ts → replaced_at c.path c.from c.to ts root ≡ Some now → Refused k edit root c → ⊥
  not-refused c ts now gives is refused = absurd (let no = sym is ∙ refused ts gives in cc)

pub one-answer-law : OneAnswerLaw
one-answer-law k edit root now other range another same (part es c ls ts split refused gives is start end) (part fs d ms us split_other refused_other gives_other is_other start_other end_other) =
    let one : c ≡ d = first-one (Refused k edit root) es c ls fs d ms (sym split ∙ split_other) refused refused_other (not-refused k edit root c ts now gives is) (not-refused k edit root d us other gives_other is_other) in
    let nodes : ts ≡ us = unique-law k edit root c ts us same (chosen-of _ es c ls split) gives (subst (λ b. Gives k edit b us) (sym one) gives_other) in
    grind arith
one-answer-law k edit root now other range another same (part es c ls ts split refused gives is start end) (whole refused_other is_other bytes_other) =
    absurd (not-refused k edit root c ts now gives is (among (Refused k edit root) c _ (chosen-of _ es c ls split) refused_other))
one-answer-law k edit root now other range another same (whole refused is bytes) (part fs d ms us split_other refused_other gives_other is_other start_other end_other) =
    absurd (not-refused k edit root d us other gives_other is_other (among (Refused k edit root) d _ (chosen-of _ fs d ms split_other) refused))
one-answer-law k edit root now other range another same (whole refused is bytes) (whole refused_other is_other bytes_other) = (some-is now other (sym is ∙ is_other), bytes ∙ sym bytes_other)

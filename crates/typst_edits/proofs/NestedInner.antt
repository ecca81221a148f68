-- The notes between the two of a content block are nested, so no other note ends it.
use Rattle.typst_edits.proofs.Cited.{◌≡◌, ℕ, suc, ◌<◌, true, List, [], ◌∷◌, ◌++◌, length, drop, refl, ap, sym, ◌∙◌, subst, arith, Note, Nested, start_of, run_at, of_level, NumberedInner, listed, turn_of, NestedInnerLaw}
use Rattle.typst_edits.proofs.Cuts.{few-go}
use Rattle.typst_edits.proofs.NumberedNotes.{level-long, NestedNumbers, nested-numbers}
use Rattle.typst_edits.proofs.OpensApart.{opens-apart-law}
use Rattle.typst_edits.proofs.Every.{first_or}

-- A list cut at two of its notes: the same, or one of those before or after the other.
data Cuts (es : List Note) (o : Note) (ahead fs : List Note) (p : Note) (beyond : List Note) : Type 0 where
  same : es ≡ fs → ahead ≡ beyond → Cuts es o ahead fs p beyond
  sooner : (between : List Note) → fs ≡ es ++ o ∷ between → ahead ≡ between ++ p ∷ beyond → Cuts es o ahead fs p beyond
  later : (between : List Note) → es ≡ fs ++ p ∷ between → beyond ≡ between ++ o ∷ ahead → Cuts es o ahead fs p beyond

with-one : (x y : Note) (es fs : List Note) (o p : Note) (ahead beyond : List Note) → x ≡ y → Cuts es o ahead fs p beyond → Cuts (x ∷ es) o ahead (y ∷ fs) p beyond
with-one x y es fs o p ahead beyond e (same f g) = same (ap (λ u. u ∷ es) e ∙ ap (λ us. y ∷ us) f) g
with-one x y es fs o p ahead beyond e (sooner between f g) = sooner between (ap (λ us. y ∷ us) f ∙ ap (λ u. u ∷ (es ++ o ∷ between)) (sym e)) g
with-one x y es fs o p ahead beyond e (later between f g) = later between (ap (λ us. x ∷ us) f ∙ ap (λ u. u ∷ (fs ++ p ∷ between)) e) g

cuts : (es : List Note) (o : Note) (ahead fs : List Note) (p : Note) (beyond : List Note) → es ++ o ∷ ahead ≡ fs ++ p ∷ beyond → Cuts es o ahead fs p beyond
cuts [] o ahead [] p beyond e = same refl (ap (λ us. drop 1 us) e)
cuts [] o ahead (f ∷ fs) p beyond e = sooner fs (ap (λ u. u ∷ fs) (sym (ap (first_or o) e))) (ap (λ us. drop 1 us) e)
cuts (x ∷ es) o ahead [] p beyond e = later es (ap (λ u. u ∷ es) (ap (first_or o) e)) (sym (ap (λ us. drop 1 us) e))
cuts (x ∷ es) o ahead (f ∷ fs) p beyond e = with-one x f es fs o p ahead beyond (ap (first_or o) e) (cuts es o ahead fs p beyond (ap (λ us. drop 1 us) e))

-- a note of the level more
pub longer : (lv : ℕ) (xs ys zs : List Note) (n : Note) → n.levels ≡ lv → zs ≡ xs ++ n ∷ ys → length (of_level lv xs) < length (of_level lv zs)
longer lv xs ys zs n l e = omega (arith, ap (λ us. length (of_level lv us)) e, level-long lv xs n ys l)

pub nested-inner-law : NestedInnerLaw
nested-inner-law k levels text c chosen name left n =
    by_start (cuts n.earlier n.opens more m.earlier m.opens more_too (sym (ap listed n.notes) ∙ ap listed m.notes))
  where
    known : NestedNumbers k levels text c
    known = nested-numbers k levels text c chosen name left

    m : NumberedInner k levels text c
    m = known.numbers

    more : List Note
    more = n.inner ++ n.closes ∷ n.later

    more_too : List Note
    more_too = m.inner ++ m.closes ∷ m.later

    same-count : n.count ≡ m.count
    same-count =
        let r = run_at k levels c (start_of text) in
        let one = few-go (turn_of r) n.count m.count (true, 0) r.place r.point m.go n.over in
        omega (arith, one, few-go (turn_of r) m.count n.count (true, 0) r.place r.point n.go m.over)

    same-long : length (of_level (suc levels) n.inner) ≡ length (of_level (suc levels) m.inner)
    same-long = n.all ∙ ap suc same-count ∙ sym m.all

    by_end : Cuts n.inner n.closes n.later m.inner m.closes m.later → Nested n.opens.levels n.inner
    by_end (same e f) = subst (λ v. Nested v n.inner) (sym n.levels_there) (subst (λ ns. Nested (suc levels) ns) (sym e) known.nested)
    by_end (sooner between e f) = let less = longer (suc levels) n.inner between m.inner n.closes n.levels_end e in absurd (omega (arith, less, same-long))
    by_end (later between e f) = let less = longer (suc levels) m.inner between n.inner m.closes m.levels_end e in absurd (omega (arith, less, same-long))

    by_start : Cuts n.earlier n.opens more m.earlier m.opens more_too → Nested n.opens.levels n.inner
    by_start (same e f) = by_end (cuts n.inner n.closes n.later m.inner m.closes m.later f)
    by_start (sooner between e f) =
        let apart = opens-apart-law k text n.earlier between more_too n.opens m.opens c.name c.name (ap listed n.notes ∙ ap (λ us. n.earlier ++ n.opens ∷ us) f) n.name m.name in
        absurd (omega (arith, apart, n.start, m.start))
    by_start (later between e f) =
        let apart = opens-apart-law k text m.earlier between more m.opens n.opens c.name c.name (ap listed m.notes ∙ ap (λ us. m.earlier ++ m.opens ∷ us) f) m.name n.name in
        absurd (omega (arith, apart, n.start, m.start))

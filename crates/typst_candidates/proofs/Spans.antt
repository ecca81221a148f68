-- Where the token of the last of some entries begins, by sums over words and over those beside them.
use Rattle.typst_candidates.proofs.Cited.{◌≡◌, ℕ, suc, ◌+◌, ◌-◌, ◌*◌, ◌/◌, ◌%◌, ◌≤◌, ◌<◌, ◌^◌, List, [], ◌∷◌, ◌++◌, length, get_or, map, take, drop, Option, None, Some, ap, ◌∙◌, arith, take-add, take-suc, map-append, take-append-drop, mod_below, pow_pos, slice_get, Entry, EntryKind, Packed, end_of, all_beside, all_spans, entry_by, entry_in, filled, lengths, span, spans, entry_kinds, unpacked, wides, widths}
use Rattle.typst_candidates.proofs.Words.{halves, wides-append}

-- entries that stand one after another, by the words' sum and that of those beside
pub filled-end : (os : List (Option Entry)) (ws : List Entry) (start : ℕ) → all_beside os ≡ length ws → end_of start (filled os ws) ≡ start + (all_spans os + lengths ws)
filled-end [] [] start h = omega arith
filled-end [] (w ∷ ws) start h = absurd (omega arith)
filled-end (o ∷ os) ws start h = grind (arith, filled-end os)

-- so after the first n of them
pub start-sum : (ps : List Packed) (ws : List Entry) (n : ℕ) → n ≤ length ps → wides ps ≡ length ws
    → end_of 0 (take n (unpacked ps ws)) ≡ spans (take n ps) + lengths (take (wides (take n ps)) ws)
start-sum ps ws n le h = grind (arith, halves, filled-end)

-- ---- sums of the first

all_spans-append : (os qs : List (Option Entry)) → all_spans (os ++ qs) ≡ all_spans os + all_spans qs
all_spans-append [] qs = omega arith
all_spans-append (o ∷ os) qs = omega (arith, all_spans-append os qs)

spans-append : (ps qs : List Packed) → spans (ps ++ qs) ≡ spans ps + spans qs
spans-append ps qs = rw map-append (all_spans-append (map entry_in ps) (map entry_in qs))

lengths-append : (es ds : List Entry) → lengths (es ++ ds) ≡ lengths es + lengths ds
lengths-append [] ds = omega arith
lengths-append (e ∷ es) ds = omega (arith, lengths-append es ds)

pub spans-next : (ps : List Packed) (i : ℕ) (p : Packed) → i < length ps → spans (take (suc i) ps) ≡ spans (take i ps) + span (entry_in (get_or ps i p))
spans-next ps i p h = rw (take-suc ps i p h, spans-append) (omega arith)

pub spans-few : (ps : List Packed) (i : ℕ) → spans (take i ps) ≤ spans ps
spans-few ps i = omega (arith, ap spans (take-append-drop i ps), spans-append (take i ps) (drop i ps))

pub lengths-next : (es : List Entry) (i : ℕ) (e : Entry) → i < length es → lengths (take (suc i) es) ≡ lengths (take i es) + ((get_or es i e).step + (get_or es i e).gap)
lengths-next es i e h = rw (take-suc es i e h, lengths-append) (omega arith)

pub wides-more : (ps : List Packed) (n m : ℕ) → wides (take (n + m) ps) ≡ wides (take n ps) + wides (take m (drop n ps))
wides-more ps n m = ap wides (take-add n m ps) ∙ wides-append (take n ps) (take m (drop n ps))

pub spans-more : (ps : List Packed) (n m : ℕ) → spans (take (n + m) ps) ≡ spans (take n ps) + spans (take m (drop n ps))
spans-more ps n m = ap spans (take-add n m ps) ∙ spans-append (take n ps) (take m (drop n ps))

lengths-more : (es : List Entry) (n m : ℕ) → lengths (take (n + m) es) ≡ lengths (take n es) + lengths (take m (drop n es))
lengths-more es n m = ap lengths (take-add n m es) ∙ lengths-append (take n es) (take m (drop n es))

-- ---- words are short

short : (t : EntryKind) (m : ℕ) → m % 2 ^ 8 + m / 2 ^ 8 % 2 ^ 4 < 2 ^ 9
short t m = omega (arith, mod_below m (2 ^ 8) (pow_pos 8), mod_below (m / 2 ^ 8) (2 ^ 4) (pow_pos 4))

span-by : Option EntryKind → ℕ → ℕ
span-by o rest = span (elim o as (λ _. Option Entry) [ None ↦ None | Some t ↦ Some (entry_by t (widths t) rest) ])

span-kind : (o : Option EntryKind) (rest : ℕ) → span-by o rest < 2 ^ 9
unfolding span-by
span-kind o rest = grind arith

pub spans-small : (ps : List Packed) → spans ps ≤ 2 ^ 9 * length ps
unfolding span-by
spans-small [] = omega arith
spans-small (p ∷ ps) = omega (arith, span-kind (slice_get entry_kinds (p.word % 2 ^ 4)) (p.word / 2 ^ 4), spans-small ps)

-- ---- how many bytes lie between the tokens of two of them

pub record Between (ps : List Packed) (ws : List Entry) (from to : ℕ) : Type 0 where
  pub wide : wides (take to ps) ≡ wides (take from ps) + wides (take (to - from) (drop from ps))
  pub bytes : end_of 0 (take to (unpacked ps ws))
      ≡ end_of 0 (take from (unpacked ps ws)) + (spans (take (to - from) (drop from ps)) + lengths (take (wides (take (to - from) (drop from ps))) (drop (wides (take from ps)) ws)))

pub between : (ps : List Packed) (ws : List Entry) (from to : ℕ) → from ≤ to → to ≤ length ps → wides ps ≡ length ws → Between ps ws from to
between ps ws from to order within h =
    let k = to - from in
    let sum : to ≡ from + k = omega arith in
    grind (arith, wides-more, spans-more, lengths-more, start-sum)

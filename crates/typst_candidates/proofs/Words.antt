-- Entries in words: one word, and the words of a list with those beside it.
use Rattle.typst_candidates.proofs.Cited.{◌≡◌, ℕ, zero, suc, ◌+◌, ◌*◌, ◌^◌, ◌≤◌, ◌<◌, true, List, [], ◌∷◌, ◌++◌, length, get_or, map, take, drop, Option, None, Some, length-append, length-drop, length-take-le, refl, ap, sym, ◌∙◌, arith, take-suc, append-nil, drop_at, get_or-map, length-map, length-take, map-append, take-append-drop, take-map, take_at, mod_low, shr_high, slice_get, Entry, EntryKind, Packed, entry_kinds, widths, entry_by, entry_in, beside, all_beside, filled, holds_piece, wides, unpacked, is_piece}
use Rattle.typst_candidates.specs.declared.packed.Widths.{Widths}

-- ---- filled by those beside

filled-length : (os : List (Option Entry)) (ws : List Entry) → all_beside os ≤ length ws → length (filled os ws) ≡ length os
filled-length [] ws h = refl
filled-length (o ∷ os) ws h = grind (arith, filled-length os)

filled-append : (os qs : List (Option Entry)) (ws vs : List Entry) → all_beside os ≡ length ws → filled (os ++ qs) (ws ++ vs) ≡ filled os ws ++ filled qs vs
filled-append [] qs [] vs h = refl
filled-append [] qs (w ∷ ws) vs h = absurd (omega arith)
filled-append (o ∷ os) qs ws vs h = grind (arith, filled-append os qs)

beside-append : (os qs : List (Option Entry)) → all_beside (os ++ qs) ≡ all_beside os + all_beside qs
beside-append [] qs = omega arith
beside-append (o ∷ os) qs = omega (arith, beside-append os qs)

beside-most : (os : List (Option Entry)) → all_beside os ≤ length os
beside-most [] = omega arith
beside-most (o ∷ os) = grind (arith, beside-most os)

-- ---- words and those beside

pub unpacked-length : (ps : List Packed) (ws : List Entry) → wides ps ≡ length ws → length (unpacked ps ws) ≡ length ps
unpacked-length ps ws h = filled-length (map entry_in ps) ws (omega arith) ∙ length-map ps entry_in

unpacked-append : (ps qs : List Packed) (ws vs : List Entry) → wides ps ≡ length ws → unpacked (ps ++ qs) (ws ++ vs) ≡ unpacked ps ws ++ unpacked qs vs
unpacked-append ps qs ws vs h = rw map-append (filled-append (map entry_in ps) (map entry_in qs) ws vs h)

pub wides-append : (ps qs : List Packed) → wides (ps ++ qs) ≡ wides ps + wides qs
wides-append ps qs = rw map-append (beside-append (map entry_in ps) (map entry_in qs))

-- the first words stand for no more entries beside them than all
pub wides-take : (ps : List Packed) (n : ℕ) → wides (take n ps) ≤ wides ps
wides-take ps n = omega (arith, ap wides (take-append-drop n ps), wides-append (take n ps) (drop n ps))

pub few : (ps : List Packed) (n : ℕ) → wides (take n ps) ≤ n
few ps n = omega (arith, beside-most (map entry_in (take n ps)), length-map (take n ps) entry_in, length-take n ps)

pub one-more : (ps : List Packed) (n : ℕ) (d : Packed) → n < length ps → wides (take (suc n) ps) ≡ wides (take n ps) + beside (entry_in (get_or ps n d))
one-more ps n d h = rw (take-suc ps n d h, wides-append) (omega arith)

-- the first n words and the others, each with those beside them
pub record Halves (ps : List Packed) (ws : List Entry) (n : ℕ) : Type 0 where
  pub front : take n (unpacked ps ws) ≡ unpacked (take n ps) (take (wides (take n ps)) ws)
  pub back : drop n (unpacked ps ws) ≡ unpacked (drop n ps) (drop (wides (take n ps)) ws)
  pub first : wides (take n ps) ≡ length (take (wides (take n ps)) ws)

pub halves : (ps : List Packed) (ws : List Entry) (n : ℕ) → n ≤ length ps → wides ps ≡ length ws → Halves ps ws n
halves ps ws n le h =
    let k = wides (take n ps) in
    let first : k ≡ length (take k ws) = sym (length-take-le k ws (omega (arith, wides-take ps n))) in
    let apart : unpacked ps ws ≡ unpacked (take n ps) (take k ws) ++ unpacked (drop n ps) (drop k ws) =
    simp take-append-drop at (unpacked-append (take n ps) (drop n ps) (take k ws) (drop k ws) first) in
    let many : length (unpacked (take n ps) (take k ws)) ≡ n = unpacked-length (take n ps) (take k ws) first ∙ length-take-le n ps le in
    record { front = ap (take n) apart ∙ take_at _ _ n many; back = ap (drop n) apart ∙ drop_at _ _ n many; first = first }

-- ---- one word

-- an entry whose parts were joined from the highest on
pub joined-by : (t : EntryKind) (s : Widths) (step gap forth back count w1 w2 w3 w4 : ℕ)
    → back < 2 ^ s.back → w1 ≡ count * 2 ^ s.back + back → forth < 2 ^ s.forth → w2 ≡ w1 * 2 ^ s.forth + forth
    → gap < 2 ^ s.gap → w3 ≡ w2 * 2 ^ s.gap + gap → step < 2 ^ s.step → w4 ≡ w3 * 2 ^ s.step + step
    → entry_by t s w4 ≡ record { kind = t; step = step; gap = gap; forth = forth; back = back; count = count }
joined-by t s step gap forth back count w1 w2 w3 w4 b b1 f f1 g g1 p p1 = simp (p1, mod_low, shr_high, g1, f1, b1, p, g, f, b)

abbrev pub by_kind : Option EntryKind → ℕ → Option Entry
by_kind o rest = elim o as (λ _. Option Entry) [ None ↦ None | Some t ↦ Some (entry_by t (widths t) rest) ]

pub tagged : (e : Entry) (number rest word : ℕ) → slice_get entry_kinds number ≡ Some e.kind → number < 2 ^ 4 → word ≡ rest * 2 ^ 4 + number → entry_by e.kind (widths e.kind) rest ≡ e
    → entry_in (record { word = word }) ≡ Some e
tagged e number rest word t n w h = grind arith

-- ---- one word more

-- one more word that holds an entry
pub push-word : (ps : List Packed) (w : Packed) (ws : List Entry) (e : Entry) → wides ps ≡ length ws → entry_in w ≡ Some e → unpacked (ps ++ w ∷ []) ws ≡ unpacked ps ws ++ e ∷ []
push-word ps w ws e h held = simp (append-nil, held) at (unpacked-append ps (w ∷ []) ws [] h)

pub push-word-kept : (ps : List Packed) (w : Packed) (ws : List Entry) (e : Entry) → wides ps ≡ length ws → entry_in w ≡ Some e → wides (ps ++ w ∷ []) ≡ length ws
push-word-kept ps w ws e h held = omega (arith, wides-append ps (w ∷ []), ap beside held)

-- or which stands for one beside
pub push-wide : (ps : List Packed) (w : Packed) (ws : List Entry) (e : Entry) → wides ps ≡ length ws → entry_in w ≡ None → unpacked (ps ++ w ∷ []) (ws ++ e ∷ []) ≡ unpacked ps ws ++ e ∷ []
push-wide ps w ws e h none = simp none at (unpacked-append ps (w ∷ []) ws (e ∷ []) h)

pub push-wide-kept : (ps : List Packed) (w : Packed) (ws : List Entry) (e : Entry) → wides ps ≡ length ws → entry_in w ≡ None → wides (ps ++ w ∷ []) ≡ length (ws ++ e ∷ [])
push-wide-kept ps w ws e h none = omega (arith, wides-append ps (w ∷ []), ap beside none, length-append ws (e ∷ []))

-- ---- a part in place of others

-- the words of a part in place of others, and those beside in place of the others' own
pub put-entries : (ps qs : List Packed) (ws vs : List Entry) (from to : ℕ) → from ≤ to → to ≤ length ps → wides ps ≡ length ws → wides qs ≡ length vs
    → unpacked (take from ps ++ (qs ++ drop to ps)) (take (wides (take from ps)) ws ++ (vs ++ drop (wides (take to ps)) ws)) ≡ take from (unpacked ps ws) ++ (unpacked qs vs ++ drop to (unpacked ps ws))
put-entries ps qs ws vs from to order within h g = grind (arith, halves ps ws from (omega arith) h, halves ps ws to within h, unpacked-append)

pub put-kept : (ps qs : List Packed) (ws vs : List Entry) (from to : ℕ) → from ≤ to → to ≤ length ps → wides ps ≡ length ws → wides qs ≡ length vs
    → wides (take from ps ++ (qs ++ drop to ps)) ≡ length (take (wides (take from ps)) ws ++ (vs ++ drop (wides (take to ps)) ws))
put-kept ps qs ws vs from to order within h g =
    let long = length-take-le (wides (take from ps)) ws (omega (arith, wides-take ps from)) in
    let rest = length-append (take (wides (take from ps)) ws) (vs ++ drop (wides (take to ps)) ws) in
    omega (arith, long, rest, length-append vs (drop (wides (take to ps)) ws), length-drop (wides (take to ps)) ws, wides-append (take from ps) (qs ++ drop to ps), wides-append qs (drop to ps), wides-append (take to ps) (drop to ps), ap wides (take-append-drop to ps))

-- ---- the entry of a number

abbrev pub at-word : Option Entry → Option Entry → Option Entry
at-word None o = o
at-word (Some e) o = Some e

filled-at : (os : List (Option Entry)) (ws : List Entry) (n : ℕ) (d : Option Entry) → n < length os → all_beside os ≤ length ws → slice_get (filled os ws) n ≡ at-word (get_or os n d) (slice_get ws (all_beside (take n os)))
filled-at [] ws n d h b = absurd (omega arith)
filled-at (o ∷ os) ws zero d h b = grind arith
filled-at (Some e ∷ os) ws (suc n) d h b =
    let same : all_beside (take n os) ≡ 0 + all_beside (take n os) = omega arith in
    filled-at os ws n d (omega arith) (omega arith) ∙ ap (λ k. at-word (get_or os n d) (slice_get ws k)) same
filled-at (None ∷ os) [] (suc n) d h b = absurd (omega arith)
filled-at (None ∷ os) (w ∷ ws) (suc n) d h b =
    let one : suc (all_beside (take n os)) ≡ 1 + all_beside (take n os) = omega arith in
    filled-at os ws n d (omega arith) (omega arith) ∙ ap (λ k. at-word (get_or os n d) (slice_get (w ∷ ws) k)) one

-- it is the one that its word holds, or the next of those beside
pub found-at : (ps : List Packed) (ws : List Entry) (n : ℕ) (d : Packed) → n < length ps → wides ps ≤ length ws → slice_get (unpacked ps ws) n ≡ at-word (entry_in (get_or ps n d)) (slice_get ws (wides (take n ps)))
found-at ps ws n d h b = grind (arith, filled-at (map entry_in ps) ws n (entry_in d) (omega (arith, length-map ps entry_in)) b, take-map, get_or-map)

-- a word by which a piece begins holds an entry
pub piece-held : (o : Option Entry) → holds_piece o ≡ true → (e : Entry) × (o ≡ Some e) × (is_piece e.kind ≡ true)
piece-held o t = grind arith

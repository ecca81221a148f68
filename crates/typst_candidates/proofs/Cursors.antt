-- Places among entries: where they are, and where the next piece of a run begins.
use Rattle.typst_candidates.proofs.Cited.{◌≡◌, ℕ, zero, suc, ◌+◌, ◌≤◌, ◌<◌, Bool, ◌==◌, ◌&&◌, ◌++◌, false, if◌then◌else◌, List, [], ◌∷◌, length, take, drop, drop-cons, Option, None, Some, refl, ap, sym, ◌∙◌, arith, take-suc, slice_get_within, get_or_from_slice_get, slice_get-get_or, slice_get, Entry, EntryKind, end_of, after_first}
use Rattle.typst_candidates.specs.declared.entry.EntryKind.TheVariants as entry_kind
use Rattle.typst_candidates.specs.Cursors.{EntryPlace, after, entry_after, inside_after, leads, start_at, token_at, pieces_of, pieces_in, piece_of, opens_content}
use Rattle.typst_candidates.proofs.Walks.{end-append}

-- ---- the entry of a number

pub cut : (es : List Entry) (n : ℕ) (e : Entry) → slice_get es n ≡ Some e → drop n es ≡ e ∷ drop (suc n) es
cut es n e h = drop-cons es n e (slice_get_within es n e h) ∙ ap (λ d. d ∷ drop (suc n) es) (get_or_from_slice_get es n e e h)

pub one-further : (es : List Entry) (n : ℕ) (e : Entry) → slice_get es n ≡ Some e → take (suc n) es ≡ take n es ++ e ∷ []
one-further es n e h = take-suc es n e (slice_get_within es n e h) ∙ ap (λ d. take n es ++ d ∷ []) (get_or_from_slice_get es n e e h)

-- where there is none, none is left
pub nothing-left : (es : List Entry) (n : ℕ) → slice_get es n ≡ None → drop n es ≡ []
nothing-left [] zero h = refl
nothing-left [] (suc n) h = refl
nothing-left (e ∷ es) zero h = absurd (cc)
nothing-left (e ∷ es) (suc n) h = nothing-left es n h

-- an entry is found by the place before it
pub after-found-in : (es : List Entry) (place : EntryPlace) (e : Entry) → place.entries ≡ es → ◌≡◌ {A = Option Entry} (Some e) (entry_after place) → slice_get es place.number ≡ Some e
after-found-in es place e a h = ap (λ us. slice_get us place.number) (sym a) ∙ sym h

-- ---- where a place is

-- a token begins no earlier than those before it
pub end-after : (start : ℕ) (es : List Entry) → start ≤ end_of start es
end-after start [] = omega arith
end-after start (e ∷ es) = omega (arith, end-after ((start + e.step) + e.gap) es)

pub end-within : (start n : ℕ) (es : List Entry) → end_of start (take n es) ≤ end_of start es
end-within start zero es = end-after start es
end-within start (suc n) [] = omega arith
end-within start (suc n) (e ∷ es) = end-within ((start + e.step) + e.gap) n es

-- where entries end after one more
pub end-step : (es : List Entry) (n : ℕ) (e : Entry) → slice_get es n ≡ Some e → end_of 0 (take (suc n) es) ≡ (end_of 0 (take n es) + e.step) + e.gap
end-step es n e h = rw (one-further es n e h, end-append)

-- or where there is no other
pub end-stays : (es : List Entry) (start n : ℕ) → slice_get es n ≡ None → end_of start (take (suc n) es) ≡ end_of start (take n es)
end-stays [] start zero h = refl
end-stays [] start (suc n) h = refl
end-stays (e ∷ es) start zero h = absurd (cc)
end-stays (e ∷ es) start (suc n) h = end-stays es ((start + e.step) + e.gap) n h

-- where the place after an entry is
pub start-on : (self : List Entry) (place now : EntryPlace) (e : Entry) → place.entries ≡ self → ◌≡◌ {A = Option Entry} (Some e) (entry_after place) → now ≡ after (Some e) place
    → start_at now ≡ token_at (start_at place) e
start-on self place now e a h n = ap start_at n ∙ end-step place.entries place.number e (sym h)

-- a place after a given number of entries
pub steps-on : (es : List Entry) (n : ℕ) (place now : EntryPlace) (o : Option Entry) → n < length es → place ≡ record { entries = es; number = n } → o ≡ entry_after place → now ≡ after o place
    → now ≡ record { entries = es; number = n + 1 }
steps-on es n place now o lt p e h =
    let d : Entry = record { kind = entry_kind.Piece false; step = 0; gap = 0; forth = 0; back = 0; count = 0 } in
    grind (arith, slice_get-get_or es n d lt)

-- what moves a place, or says what comes after it
pub ruleset entry_steps = (cut, nothing-left, end-step, end-within, end-stays, slice_get_within)

-- ---- one entry more

-- no more than one block more is open
pub inside-grows : (t : EntryKind) (inside further : ℕ) → inside_after t inside ≡ Some further → further ≤ suc inside
inside-grows t inside further h = grind arith

-- the first content block that begins at a byte
pub in-on : (es : List Entry) (at start n : ℕ) (e : Entry) (b : Bool) → slice_get es n ≡ Some e → (opens_content e.kind && token_at start e == at) ≡ b
    → pieces_in at start (drop n es) ≡ (if b then after_first (pieces_of 0 (token_at start e) (drop (suc n) es)) else pieces_in at (token_at start e) (drop (suc n) es))
in-on es at start n e b h t = rw (cut es n e h, t)

-- the first piece of a run whose token begins at a byte
pub piece-on : (es : List Entry) (at inside start n : ℕ) (e : Entry) (b : Bool) (o : Option ℕ) → slice_get es n ≡ Some e → (leads e.kind inside && token_at start e == at) ≡ b → inside_after e.kind inside ≡ o
    → piece_of at inside start n (drop n es) ≡ (if b then Some n else elim o as (λ _. Option ℕ) [ None ↦ None | Some further ↦ piece_of at further (token_at start e) (suc n) (drop (suc n) es) ])
piece-on es at inside start n e b o h t i = rw (cut es n e h, t, i)

-- A content block, by the first block that begins at its byte.
use Rattle.typst_candidates.proofs.Cited.{◌≡◌, ℕ, suc, ◌+◌, ◌<◌, ◌==◌, ◌&&◌, Bool, true, false, List, [], ◌∷◌, length, take, drop, None, Some, refl, sym, ◌∙◌, arith, Entry, EntryKind, opens_content, pieces_in, end_of, is_opening, opening_of}

content-false : (t : EntryKind) (b : Bool) → (is_opening t && b) ≡ false → (opens_content t && b) ≡ false
content-false t b h = grind arith

pub record Opened (at start number m : ℕ) (es : List Entry) : Type 0 where
  pub before : ℕ
  pub number_is : m ≡ number + before
  pub within : before < length es
  pub same : pieces_in at (end_of start (take before es)) (drop before es) ≡ pieces_in at start es

pub opened : (at start number m : ℕ) (es : List Entry) → opening_of at start number es ≡ Some m → Opened at start number m es
opened at start number m [] h = absurd (cc)
opened at start number m (e ∷ es) h = step (is_opening e.kind && ((start + e.step) + e.gap) == at) refl (opened at ((start + e.step) + e.gap) (suc number) m es)
  where
    step : (b : Bool) → (is_opening e.kind && ((start + e.step) + e.gap) == at) ≡ b
        → (opening_of at ((start + e.step) + e.gap) (suc number) es ≡ Some m → Opened at ((start + e.step) + e.gap) (suc number) m es) → Opened at start number m (e ∷ es)
    step true t rest = record { before = 0; number_is = grind (arith, rw t at h); within = omega arith; same = refl }
    step false t rest =
        let r = rest (rw t at h) in
        record { before = suc r.before; number_is = omega arith; within = omega arith; same = r.same ∙ sym (rw (content-false e.kind (((start + e.step) + e.gap) == at) t)) }

pub not-opened : (at start number : ℕ) (es : List Entry) → opening_of at start number es ≡ None → pieces_in at start es ≡ None
not-opened at start number [] h = refl
not-opened at start number (e ∷ es) h = grind (arith, content-false, not-opened at ((start + e.step) + e.gap) (suc number) es)

-- What is logged of a block that is read by itself is what is logged of it where it stands.
use Rattle.typst_edits.proofs.Cited.{◌≡◌, ℕ, zero, suc, ◌+◌, ◌-◌, ◌<◌, ◌^◌, max, min, List, [], ◌∷◌, ◌++◌, Option, None, Some, refl, ap, sym, ◌∙◌, subst, arith, back_of, entries_by, entry_of, last_start, Place, moved, moved_from, position, width, far, near, Note, Ask, shift, looked, marked, Log, no_log, logged, with_note, moved-sum, max_depth, start_of, block_log, closing, entries_from, noting, lowered, logged-append, AllFit, same_Some}
use Rattle.typst_candidates.specs.declared.entry.EntryKind.TheVariants as entry_kind
use Rattle.typst_language.specs.declared.calls.Mark.TheVariants as mark
use Rattle.typst_edits.specs.BlockPart.{BlockPartLaw, PartFitsLaw, own_log}
use Rattle.typst_edits.proofs.Bytes.{none_yet, notes_from, fresh_notes, logged-notes, logged-lowered}
use Rattle.typst_edits.proofs.Widths.{width-append}

entries-more : (start : ℕ) (ns : List Note) (n : Note) → entries_by start (ns ++ n ∷ []) ≡ entries_by start ns ++ entry_of (last_start start ns) n ∷ []
entries-more start [] n = refl
entries-more start (m ∷ ns) n = ap (λ es. entry_of start m ∷ es) (entries-more m.start ns n)

pub block-part-law : BlockPartLaw
block-part-law text c u ns e =
    let z = start_of text in
    let h = own_log c u z in
    let start = position (moved c.at z) in
    let end = closing c u.taken in
    let own : logged max_depth z no_log (shift c.at (lowered c.fewer u.asks)) ≡ h = logged-lowered max_depth c.fewer c.at z no_log u.asks in
    let all : block_log text c u ≡ with_note 0 (max_depth - c.fewer) mark.Closes end.state (moved (c.at + u.taken) z) h =
    logged-append max_depth z no_log (shift c.at (lowered c.fewer u.asks)) (noting end ∷ []) ∙ ap (with_note 0 (max_depth - c.fewer) mark.Closes end.state (moved (c.at + u.taken) z)) own in
    let note : Place → Note = λ p. record { mark = mark.Closes; before = position p; start = position p; levels = max_depth - c.fewer; state = end.state; reach = h.reach; least = h.least } in
    let noted : (block_log text c u).notes ≡ Some (ns ++ note (moved (c.at + u.taken) z) ∷ []) = ap (λ (l : Log). l.notes) all ∙ ap (λ (o : Option (List Note)). elim o as (λ _. Option (List Note)) [ None ↦ None | Some ms ↦ Some (ms ++ note (moved (c.at + u.taken) z) ∷ []) ]) e in
    ap (entries_from start) noted ∙ entries-more start ns (note (moved (c.at + u.taken) z))
    ∙ ap (λ (p : Place). entries_by start ns ++ entry_of (last_start start ns) (note p) ∷ []) (moved-sum c.at u.taken z)
    ∙ ap (λ (g : ℕ). entries_by start ns ++ record { kind = entry_kind.Closes; step = position (moved u.taken (moved c.at z)) - last_start start ns; gap = g; forth = h.reach - position (moved u.taken (moved c.at z)); back = back_of (last_start start ns) h.least; count = 0 } ∷ []) (omega arith)

-- ---- places

-- Further on the text is as long as before.
width-kept : (n : ℕ) (b a : List ℕ) → width (moved_from n b a).before + width (moved_from n b a).ahead ≡ width b + width a
width-kept zero b a = refl
width-kept (suc n) b [] = refl
width-kept (suc n) b (c ∷ cs) =
    omega (arith, width-kept n (c ∷ b) cs, width-append (c ∷ []) b, width-append (c ∷ []) cs)

notes-fit : (lv : ℕ) (z : Place) (asks : List Ask) (reach least : ℕ) → width z.before + width z.ahead < 2 ^ 64 - 1 → AllFit (notes_from lv z reach least asks)
unfolding position
notes-fit lv z [] reach least small = tt
notes-fit lv z (looked at look ∷ asks) reach least small = notes-fit lv z asks (max reach (far look.front (moved at z))) (min least (near look.back (moved at z))) small
notes-fit lv z (marked at gap fewer m s ∷ asks) reach least small =
    let y = moved at z in
    let one = width-kept at z.before z.ahead in
    let two = width-kept gap y.before y.ahead in
    (omega (arith, one, two, small), notes-fit lv z asks 0 none_yet small)

pub part-fits-law : PartFitsLaw
part-fits-law levels z asks ns small is = subst AllFit (same_Some (fresh_notes levels z asks) ns (sym (logged-notes levels z asks) ∙ is)) (notes-fit levels z asks 0 none_yet small)

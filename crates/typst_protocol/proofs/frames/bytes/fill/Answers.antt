use Rattle.typst_protocol.proofs.Cited.{common_steps, ◌≡◌, ℕ, ◌+◌, ◌-◌, ◌≤◌, List, ◌++◌, arith, length, take, slice_range, sym, ap, ◌∙◌, le_refl}
use Rattle.std.proofs.lemmas.Slice.{take-put_mid_below}
use borrow.Rule.Slice.PartMut.{put_mid}
use lib.Seq.{take-add}
use Rattle.typst_protocol.proofs.frames.bytes.fill.Goals as goal

take_split : (a b : ℕ) (old new : List ℕ) → a ≤ b → take a new ≡ take a old → take a old ++ slice_range new a b ≡ take b new
take_split a b old new h front =
    let same : a + (b - a) ≡ b = omega arith in
    ap (λ l. l ++ slice_range new a b) (sym front) ∙ sym (take-add a (b - a) new) ∙ ap (λ n. take n new) same

slice_range-put_mid : (a k n : ℕ) (xs ys : List ℕ) → a ≤ length xs → n ≤ length ys → slice_range (put_mid a k xs ys) a (a + n) ≡ take n ys
slice_range-put_mid a k n xs ys within fits = grind (arith, common_steps)

pub loop-at-preserved : goal.loop-at-preserved
loop-at-preserved g c =
    let from = c.loop-at.at in
    let count = c.in_ok-count.count in
    let room = length c.loop-at.bytes - from in
    let within = c.loop-at.invariant.within in
    let part = slice_range-put_mid from room count c.loop-at.bytes c.read.new.bytes within c.in_ok-count.ensures.bound in
    let joined = take_split from (from + count) c.loop-at.bytes (put_mid from room c.loop-at.bytes c.read.new.bytes) (omega arith) (take-put_mid_below _ _ _ _ _ (le_refl _) within) in
    grind (arith, common_steps)

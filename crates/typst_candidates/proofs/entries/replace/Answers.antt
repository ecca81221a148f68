use Rattle.typst_candidates.proofs.Cited.{common_steps, ◌≡◌, ℕ, ◌+◌, ◌-◌, ◌≤◌, true, if◌then◌else◌, List, ◌++◌, length, take, drop, length-drop, length-take-le, drop-drop, ap, sym, ◌∙◌, arith, take-append_seam, take-append-drop, is_ok}
use Rattle.typst_candidates.proofs.Walks.{put-is}
use Rattle.typst_candidates.proofs.entries.replace.Goals as goal

-- what is written back of all
written : {T : Type 0} (now was : List T) (n : ℕ) → length now ≡ length was → n ≡ length was → take n (now ++ drop (length now) was) ≡ now
written now was n e f = ap (λ m. take m (now ++ drop (length now) was)) (f ∙ sym e) ∙ take-append_seam now (drop (length now) was)

pub returns : goal.returns
returns g c =
    let es = c.args.items.now.items in
    let ps = c.args.part.now in
    let at = c.args.from in
    let gone = c.args.to - c.args.from in
    let ok : is_ok c.extend_from_slice.result ≡ true = c.if-is_err.ensures.negation in
    let items : c.extend_from_slice.new.self.items ≡ es ++ ps = c.extend_from_slice.ensures.items ∙ ap (λ b. if b then es ++ ps else es) ok in
    let whole = ap length items in
    let long : c.extend_from_slice.new.self.len ≡ length c.extend_from_slice.new.self.items = omega arith in
    let count : c.len-count.result ≡ length es = omega arith in
    let within : c.args.to ≤ length es = c.requires.within in
    let first : length c.bring_forward.new.items ≡ length c.deref_mut-2.result.now = c.bring_forward.auto.items in
    let second : length c.bring_back.new.items ≡ length c.deref_mut-3.result.now = c.bring_back.auto.items in
    let A = take at es in
    let D = drop at es in
    let parts : A ++ D ≡ es = take-append-drop at es in
    let both : c.deref_mut-2.result.now ≡ (A ++ D) ++ ps = c.deref_mut-2.ensures.value ∙ items ∙ ap (λ us. us ++ ps) (sym parts) in
    let all : length c.deref_mut-2.result.now ≡ length c.extend_from_slice.new.self.items = ap length c.deref_mut-2.ensures.value in
    let one : c.deref_mut-3.result.now ≡ c.bring_forward.new.items =
    c.deref_mut-3.ensures.value ∙ written c.bring_forward.new.items c.extend_from_slice.new.self.items c.extend_from_slice.new.self.len (first ∙ all) long in
    let length_one : length c.deref_mut-3.result.now ≡ length c.extend_from_slice.new.self.items = ap length one ∙ first ∙ all in
    let front : at ≡ length A = sym (length-take-le at es (omega (arith, within))) in
    let back : length D ≡ length es - at = length-drop at es in
    let n : c.len-count.result ≡ length A + length D = omega (arith, count, front, back, within) in
    let few : gone ≤ length D = omega (arith, back, within) in
    let b = c.bring_back.ensures ∙ ap (λ us. take (at + length ps) us ++ (drop gone (drop (at + length ps) us) ++ take gone (drop (at + length ps) us))) one in
    let last = put-is A ps D c.deref_mut-2.result.now c.bring_forward.new.items c.bring_back.new.items at c.len-count.result gone both front n few c.bring_forward.ensures b in
    let there : ℕ = c.extend_from_slice.new.self.len in
    let kept : ℕ = (c.len-count.result + length ps) - gone in
    let cut : at + gone ≡ c.args.to = omega arith in
    grind (arith, common_steps, drop-drop)

use Rattle.typst_candidates.proofs.Cited.{◌≡◌, ℕ, ◌*◌, ◌/◌, ◌^◌, ◌<◌, bit_or, ap, ◌∙◌, arith, mod_below, or_shifted, pow_pos, shl_whole, shr_split, IfSome_then}
use Rattle.typst_candidates.proofs.packed.joined.Goals as goal

-- a number with no bits above so many lowest ones
small : (n k : ℕ) → n / 2 ^ k ≡ 0 → n < 2 ^ k
small n k h = let whole = shr_split n k in let low = mod_below n (2 ^ k) (pow_pos k) in let none = ap (λ q. q * 2 ^ k) h in omega (arith, whole, low, none)

pub returns : goal.returns
returns c =
    let low = small c.args.low c.args.width c.if-low-width-ne0.false in
    IfSome_then c.word_of.result c.word_of.ensures (λ both e. (low, e ∙ ap (λ m. bit_or m c.args.low) (shl_whole c.args.high 32 c.args.width 64 c.ranges.high.fits (omega arith)) ∙ or_shifted c.args.high c.args.width c.args.low low))

-- One character more of a message.
use Rattle.typst_report.proofs.Cited.{◌≡◌, ℕ, ◌+◌, ◌<◌, List, ◌++◌, length, get_or, drop, cond, ap, sym, ◌∙◌, append_assoc, arith, encode_utf8, at_drop_more, spaced}
use Rattle.typst_lines.specs.Newline.{is_newline}

spaced_at : (cs : List ℕ) (n c : ℕ) → n < length cs → c ≡ get_or cs n c → spaced (drop n cs) ≡ encode_utf8 (cond (is_newline c) 32 c) ++ spaced (drop (n + 1) cs)
spaced_at cs n c h e = at_drop_more spaced cs n c h ∙ ap (λ x. encode_utf8 (cond (is_newline x) 32 x) ++ spaced (drop (n + 1) cs)) (sym e)

pub spaced_more : (cs before all after : List ℕ) (n m c d : ℕ) → (n < length cs) × (c ≡ get_or cs n c) → m ≡ n + 1 → d ≡ cond (is_newline c) 32 c → after ≡ before ++ encode_utf8 d → before ++ spaced (drop n cs) ≡ all → after ++ spaced (drop m cs) ≡ all
spaced_more cs before all after n m c d h k q p i = grind (arith, append_assoc, cond, spaced_at)

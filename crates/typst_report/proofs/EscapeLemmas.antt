-- One character more of a text.
use Rattle.typst_report.proofs.Cited.{◌≡◌, ℕ, ◌+◌, ◌<◌, List, ◌++◌, length, get_or, drop, ap, sym, ◌∙◌, append_assoc, arith, at_drop_more, escaped, escaped_char}
use Rattle.typst_report.specs.declared.escape.Target.{Target}

escaped_at : (t : Target) (cs : List ℕ) (n c : ℕ) → n < length cs → c ≡ get_or cs n c → escaped t (drop n cs) ≡ escaped_char t c ++ escaped t (drop (n + 1) cs)
escaped_at t cs n c h e = at_drop_more (escaped t) cs n c h ∙ ap (λ x. escaped_char t x ++ escaped t (drop (n + 1) cs)) (sym e)

pub escaped_more : (t : Target) (cs before all after : List ℕ) (n m c : ℕ) → (n < length cs) × (c ≡ get_or cs n c) → m ≡ n + 1 → after ≡ before ++ escaped_char t c → before ++ escaped t (drop n cs) ≡ all → after ++ escaped t (drop m cs) ≡ all
escaped_more t cs before all after n m c h k p i = grind (arith, append_assoc, escaped_at)

use Rattle.typst_lines.proofs.Cited.{◌≡◌, ℕ, true, List, ◌∷◌, refl, sym, ◌∙◌, rules, tests, YieldsList-from_chars, all_from_yields_List, list_all, chars, CharClasses}
use Rattle.typst_lines.specs.Identifiers.{is_ident, is_id_start, is_id_continue}
use Rattle.typst_lines.proofs.CharsLemmas.{after_first}
use Rattle.typst_lines.proofs.classes.is_ident.Goals as goal

starts : (k : CharClasses) (cs : List ℕ) (c : ℕ) (rest : List ℕ) → cs ≡ c ∷ rest → is_id_start k c ≡ true → list_all (is_id_continue k) rest ≡ is_ident k cs
starts k cs c rest e start = rw (e, start) refl

pub returns-then-is_id_start : goal.returns-then-is_id_start
returns-then-is_id_start g c =
    let k = g.C.Classes.classes c.args.classes.now in
    let r = after_first {s = c.chars-rest.result} (chars c.args.text.now) _ _ (YieldsList-from_chars c.args.text.now c.utf8.text cc) c.in-Some.ensures.steps in
    let e = all_from_yields_List (is_id_continue k) _ _ _ c.all.ensures.ran r.2 (λ x b q w. search (rules, tests)) in
    e ∙ starts k _ _ _ r.1 (sym c.is_id_start.ensures ∙ c.if-is_id_start.true)

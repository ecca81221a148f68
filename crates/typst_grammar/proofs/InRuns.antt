-- The laws of what is read in a text's own run, and of what is read in a block, where no other block may be read but one level deeper.
use Rattle.typst_grammar.proofs.Cited.{ℕ, false, refl, CharClasses, blockless, plain, run, Alike, Lawful, peek, Parser, ◌>>◌, Sane, sane-run, sane-plain, sane-meaning, alike-meaning, lawful-parser, RunKind, run_level}
use Rattle.typst_language.proofs.Alike.{alike-run}
use Rattle.typst_grammar.specs.declared.part.RunKind.TheVariants as of
use Rattle.typst_grammar.specs.Grammar.{block_production, rules, meaning}
use Rattle.typst_grammar.specs.Laws.{BlockLaws}

module _ (k : CharClasses) where
  sane-apart : {A : Type 0} (levels : ℕ) (p : Parser A) → Sane (run (blockless k levels (meaning k levels)) p)
  sane-apart levels p = sane-run (blockless k levels (meaning k levels)) (sane-meaning (rules k) k levels) (λ b. sane-plain tt) p

  alike-apart : {A : Type 0} (i j : ℕ) (p : Parser A) → Alike (run (blockless k i (meaning k i)) p) (run (blockless k j (meaning k j)) p)
  alike-apart i j p = alike-run k i j (meaning k i) (meaning k j) (λ b. false) (λ b z s. plain tt s) (λ b z s. plain tt s) (alike-meaning (rules k) k i j) (λ b z s h g. refl) p

  lawful-apart : {A : Type 0} (p : Parser A) → Lawful (λ levels. run (blockless k levels (meaning k levels)) p)
  lawful-apart p = record {
    frame = λ levels. (sane-apart levels p).framed;
    depth = λ i j. alike-apart i j p;
    leaves = λ levels z s h. (let o = (sane-apart levels p).kept z s h in record { text = o.text; known = o.known });
    within = λ levels. (sane-apart levels p).within;
    tidy = λ levels. (sane-apart levels p).backs;
  }

  pub lawful-in : (which : RunKind) {A : Type 0} (p : Parser A) → Lawful (λ levels. run (run_level k levels which) p)
  lawful-in of.Text p = lawful-parser (rules k) k p
  lawful-in of.Block p = lawful-apart p

pub lawful-block : BlockLaws
lawful-block k b = lawful-apart k (peek >> block_production b)

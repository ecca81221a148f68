-- The laws of all that the language can say, by any rules, at every level.
use Rattle.typst_language.proofs.Cited.{◌≡◌, ℕ, zero, suc, true, false, refl, arith, CharClasses, Block, Call, Answer, no_answer, peek, Parser, ◌>>◌, Meaning, Level, plain, blockless, run, Within, Backs, Framed, Alike, Lawful, Sound}
use Rattle.typst_language.specs.Knot.{Rules, blocks_of, level_by, meaning_of, level_of}
use Rattle.typst_language.proofs.Alike.{alike-run}
use Rattle.typst_language.proofs.Backs.{backs-run}
use Rattle.typst_language.proofs.Frame.{framed-run}
use Rattle.typst_language.proofs.Leaves.{Keeps, blank-nil, kept-run}
use Rattle.typst_language.proofs.Rests.{Restful, rests-run}
use Rattle.typst_language.proofs.Within.{within-run}

-- what holds where a given number of levels are left
pub record Sane {A : Type 0} (m : Meaning A) : Type 0 where
  pub framed : Framed m
  pub kept : Keeps m
  pub within : Within m
  pub backs : Backs m
  pub rests : Restful m

-- whatever is said of what holds of calls and blocks holds of them
pub sane-run : (l : Level) → ((call : Call) → Sane (l.deeper call)) → ((b : Block) → Sane (l.blocks b)) → {A : Type 0} (p : Parser A) → Sane (run l p)
sane-run l d e p = record {
  framed = framed-run l (λ c. (d c).within) (λ b. (e b).within) (λ c. (d c).framed) (λ b. (e b).framed) p;
  kept = kept-run l (λ c. (d c).backs) (λ b. (e b).backs) (λ c. (d c).kept) (λ b. (e b).kept) p;
  within = within-run l (λ c. (d c).within) (λ b. (e b).within) p;
  backs = backs-run l (λ c. (d c).backs) (λ b. (e b).backs) p;
  rests = rests-run l (λ c. (d c).rests) (λ b. (e b).rests) p;
}

pub sane-plain : {A : Type 0} (a : A) → Sane (λ z s. plain a s)
sane-plain a = grind (arith, blank-nil)

sane-limit : {A : Type 0} (a : A) → Sane (λ z s. record (plain a s) { met = true })
sane-limit a = grind (arith, blank-nil)

module _ (r : Rules) (k : CharClasses) where
  sane-blocks : (levels : ℕ) (d : (call : Call) → Meaning (Answer call)) → ((call : Call) → Sane (d call)) → (b : Block) → Sane (blocks_of r k levels d b)
  sane-blocks levels d h b = sane-run (blockless k levels d) h (λ b. sane-plain tt) (peek >> r.block_production b)

  pub sane-meaning : (levels : ℕ) (call : Call) → Sane (meaning_of r k levels call)
  unfolding meaning_of
  sane-meaning zero call = sane-limit (no_answer call)
  sane-meaning (suc levels) call = sane-run (level_of r k levels) (sane-meaning levels) (sane-blocks levels (meaning_of r k levels) (sane-meaning levels)) (r.production call)

  pub sane-block : (levels : ℕ) (b : Block) → Sane (blocks_of r k levels (meaning_of r k levels) b)
  sane-block levels b = sane-blocks levels (meaning_of r k levels) (sane-meaning levels) b

  pub sane-at : {A : Type 0} (levels : ℕ) (p : Parser A) → Sane (run (level_of r k levels) p)
  sane-at levels p = sane-run (level_of r k levels) (sane-meaning levels) (sane-block levels) p

  pub sound-level : (levels : ℕ) → Sound (level_of r k levels)
  sound-level levels = record {
    within = λ c. (sane-meaning levels c).within;
    backs = λ c. (sane-meaning levels c).backs;
    within_block = λ b. (sane-block levels b).within;
    backs_block = λ b. (sane-block levels b).backs;
  }

  -- ---- the law of depth

  alike-plain : (b : Block) → Alike {A = Unit {0}} (λ z s. plain tt s) (λ z s. plain tt s)
  alike-plain b z s h i = refl

  alike-blocks : (i j : ℕ) (d e : (call : Call) → Meaning (Answer call)) → ((call : Call) → Alike (d call) (e call)) → (b : Block) → Alike (blocks_of r k i d b) (blocks_of r k j e b)
  alike-blocks i j d e a b = alike-run k i j d e (λ x. false) (λ x z s. plain tt s) (λ x z s. plain tt s) a alike-plain (peek >> r.block_production b)

  met-limit : true ≡ false → ⊥
  met-limit h = cc

  alike-level : (i j : ℕ) (d e : (call : Call) → Meaning (Answer call)) → ((call : Call) → Alike (d call) (e call)) → {A : Type 0} (p : Parser A) → Alike (run (level_by r k i d) p) (run (level_by r k j e) p)
  alike-level i j d e a p = alike-run k i j d e r.has (blocks_of r k i d) (blocks_of r k j e) a (alike-blocks i j d e a) p

  pub alike-meaning : (i j : ℕ) (call : Call) → Alike (meaning_of r k i call) (meaning_of r k j call)
  unfolding meaning_of
  alike-meaning zero j call z s h g = absurd (met-limit h)
  alike-meaning (suc i) zero call z s h g = absurd (met-limit g)
  alike-meaning (suc i) (suc j) call z s h g = alike-level i j (meaning_of r k i) (meaning_of r k j) (alike-meaning i j) (r.production call) z s h g

  pub alike-at : {A : Type 0} (i j : ℕ) (p : Parser A) → Alike (run (level_of r k i) p) (run (level_of r k j) p)
  alike-at i j p = alike-level i j (meaning_of r k i) (meaning_of r k j) (alike-meaning i j) p

  -- ---- all laws

  lawful : {A : Type 0} (m : ℕ → Meaning A) → ((levels : ℕ) → Sane (m levels)) → ((i j : ℕ) → Alike (m i) (m j)) → Lawful m
  lawful m h a = record {
    frame = λ levels. (h levels).framed;
    depth = a;
    leaves = λ levels z s k. (let o = (h levels).kept z s k in record { text = o.text; known = o.known });
    within = λ levels. (h levels).within;
    tidy = λ levels. (h levels).backs;
  }

  pub lawful-parser : {A : Type 0} (p : Parser A) → Lawful (λ levels. run (level_of r k levels) p)
  lawful-parser p = lawful (λ levels. run (level_of r k levels) p) (λ levels. sane-at levels p) (λ i j. alike-at i j p)

  pub lawful-call : (call : Call) → Lawful (λ levels. meaning_of r k levels call)
  lawful-call call = lawful (λ levels. meaning_of r k levels call) (λ levels. sane-meaning levels call) (λ i j. alike-meaning i j call)

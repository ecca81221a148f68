-- Strings, character by character.
use Rattle.typst_tokens.proofs.Cited.{◌≡◌, ℕ, Bool, true, false, ◌==◌, refl, sym, ap, ◌∙◌, Some, None, ne_eqb, string_turn, string_step, in_string, string_end, string, scout, Reader, eat_span, answer, last, go, Sight, Covers, went, sight, Memory, blank, quoted, plain, faulty, Token}
use Rattle.typst_kinds.specs.declared.kind.SyntaxKind.TheVariants as kind
use Rattle.typst_tokens.proofs.Steps.{step-go, step-last, step-end, end-seen}
use Rattle.typst_tokens.specs.declared.token.Fault.TheVariants as fault

abbrev pub closing : Memory → Reader Memory Token
closing memory = answer (string_end memory)

-- what is left of a string
abbrev pub rest : Bool → Reader Memory Token
rest escaped = eat_span in_string (quoted escaped) closing

-- ---- turns

pub turn-escaped : (e : Bool) (c : ℕ) → e ≡ true → string_turn e c ≡ go (quoted false)
turn-escaped e c h = rw h refl

pub turn-last : (e : Bool) (c : ℕ) → e ≡ false → c ≡ 34 → string_turn e c ≡ last blank
turn-last e c h g = rw (h, g) refl

pub turn-on : (e b : Bool) (c : ℕ) → e ≡ false → ¬ (c ≡ 34) → b ≡ (c == 92) → string_turn e c ≡ go (quoted b)
turn-on e b c h g f = rw (h, ne_eqb c 34 g) (ap (λ x. go (quoted x)) (sym f))

-- it goes on
pub string-on : (e b : Bool) (c : ℕ) (v w : Sight) → Covers v → Some c ≡ scout 0 v.place → w ≡ went 1 v → string_turn e c ≡ go (quoted b) → sight (rest e) v ≡ sight (rest b) w
string-on e b c v w h f m t = step-go string_step (quoted e) closing (quoted b) c v w h f m t

-- it ends at a quotation mark
pub string-stop : (e : Bool) (c : ℕ) (v w : Sight) → Covers v → Some c ≡ scout 0 v.place → w ≡ went 1 v → string_turn e c ≡ last blank → sight (rest e) v ≡ (plain kind.Str, w)
string-stop e c v w h f m t = step-last string_step (quoted e) closing blank c v w h f m t

-- the text ends
pub string-open : (e : Bool) (v w : Sight) → Covers v → None ≡ scout 0 v.place → w ≡ went 1 v → sight (rest e) v ≡ (faulty fault.UnclosedString, w)
string-open e v w h f m = step-end string_step (quoted e) closing v h f ∙ ap (λ x. (faulty fault.UnclosedString, x)) (end-seen v f ∙ sym m)

pub string-begins : (v : Sight) → sight (rest false) (went 1 v) ≡ sight string v
unfolding string
string-begins v = refl

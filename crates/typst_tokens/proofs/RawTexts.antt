-- Raw texts, character by character.
use Rattle.typst_tokens.proofs.Cited.{◌≡◌, ◌<◌, ℕ, ◌+◌, Bool, true, arith, ◌==◌, if◌then◌else◌, List, length, refl, sym, ap, ◌∙◌, eq-eqb, Some, None, ne_eqb, nat_tests, encodes-chars, encode_utf8_all, chars, IsUtf8, plain, faulty, Token, Place, scout, run, Reader, eat_span, blank, fence, last, go, answer, Sight, Covers, went, went_past, sight, Memory, fence_turn, fence_step, in_raw, raw_end, raw}
use Rattle.typst_lines.proofs.AsciiRuns.{run-width}
use Rattle.typst_kinds.specs.declared.kind.SyntaxKind.TheVariants as kind
use Rattle.typst_tokens.specs.declared.token.Fault.TheVariants as fault
use Rattle.typst_tokens.proofs.Steps.{step-go, step-last, step-end, end-seen}

abbrev pub closing : Memory → Reader Memory Token
closing memory = answer (raw_end memory)

-- what is left of a raw text
abbrev pub rest : ℕ → ℕ → Reader Memory Token
rest wanted found = eat_span in_raw (fence wanted found) closing

-- ---- turns

pub turn-none : (wanted found c : ℕ) → ¬ (c ≡ 96) → fence_turn wanted found c ≡ go (fence wanted 0)
turn-none wanted found c e = rw (ne_eqb c 96 e) refl

pub turn-last : (wanted found c : ℕ) → c ≡ 96 → found + 1 ≡ wanted → fence_turn wanted found c ≡ last blank
turn-last wanted found c e f = rw (e, eq-eqb (found + 1) wanted f) refl

pub turn-more : (wanted found c : ℕ) → c ≡ 96 → ¬ (found + 1 ≡ wanted) → fence_turn wanted found c ≡ go (fence wanted (found + 1))
turn-more wanted found c e f = rw (e, ne_eqb (found + 1) wanted f) refl

-- it goes on
pub raw-on : (wanted found c next : ℕ) (v w : Sight) → Covers v → Some c ≡ scout 0 v.place → w ≡ went 1 v → fence_turn wanted found c ≡ go (fence wanted next) → sight (rest wanted found) v ≡ sight (rest wanted next) w
raw-on wanted found c next v w h e f t = step-go fence_step (fence wanted found) closing (fence wanted next) c v w h e f t

-- it ends at a backtick
pub raw-stop : (wanted found c : ℕ) (v w : Sight) → Covers v → Some c ≡ scout 0 v.place → w ≡ went 1 v → fence_turn wanted found c ≡ last blank → sight (rest wanted found) v ≡ (plain kind.Raw, w)
raw-stop wanted found c v w h e f t = step-last fence_step (fence wanted found) closing blank c v w h e f t

-- the text ends
pub raw-open : (wanted found : ℕ) (v w : Sight) → Covers v → None ≡ scout 0 v.place → w ≡ went 1 v → sight (rest wanted found) v ≡ (faulty fault.UnclosedRaw, w)
raw-open wanted found v w h e f = step-end fence_step (fence wanted found) closing v h e ∙ ap (λ x. (faulty fault.UnclosedRaw, x)) (end-seen v e ∙ sym f)

-- ---- backticks

tick-small : (c : ℕ) → (c == 96) ≡ true → c < 128
tick-small c e = let is : c ≡ 96 = grind (arith, nat_tests) in omega (arith, is)

-- each is a byte
pub ticks-long : (text : List ℕ) (z : Place) → IsUtf8 text → chars text ≡ run (λ c. c == 96) z → length text ≡ length (run (λ c. c == 96) z)
ticks-long text z u e = sym (ap length (encodes-chars text u)) ∙ ap (λ x. length (encode_utf8_all x)) e ∙ run-width (λ c. c == 96) tick-small z.ahead

-- ---- a raw text by its backticks

-- how it is read where there are so many
abbrev by_count : ℕ → Bool → Sight → Token × Sight
by_count n two v = sight (if two then answer (plain kind.Raw) else rest n 0) v

pub raw-two : (n : ℕ) (v w : Sight) → n ≡ length (run (λ c. c == 96) v.place) → n ≡ 2 → w ≡ went_past (λ c. c == 96) v → sight raw v ≡ (plain kind.Raw, w)
unfolding raw
raw-two n v w e f m = ap (λ (x : ℕ). by_count x (x == 2) (went_past (λ c. c == 96) v)) (sym e ∙ f) ∙ ap (λ u. (plain kind.Raw, u)) (sym m)

pub raw-more : (n : ℕ) (v w : Sight) → n ≡ length (run (λ c. c == 96) v.place) → ¬ (n ≡ 2) → w ≡ went_past (λ c. c == 96) v → sight (rest n 0) w ≡ sight raw v
unfolding raw
raw-more n v w e f m = grind arith

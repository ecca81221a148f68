-- Block comments, character by character.
use Rattle.typst_tokens.proofs.Cited.{◌≡◌, ℕ, ◌+◌, ◌-◌, Bool, false, ◌&&◌, ◌==◌, refl, sym, ap, ◌∙◌, Some, None, ne_eqb, scout, comment_turn, comment_step, in_comment, Reader, eat_span, blank, comment, last, go, answer, Sight, Covers, went, sight, plain, Token, Memory}
use Rattle.typst_kinds.specs.declared.kind.SyntaxKind.TheVariants as kind
use Rattle.typst_tokens.proofs.Steps.{step-go, step-last, step-end, end-seen}
use Rattle.std.proofs.lemmas.Bool.{and_right}

abbrev pub done : Memory → Reader Memory Token
done _ = answer (plain kind.BlockComment)

-- what is left of a comment
abbrev pub rest : ℕ → ℕ → Reader Memory Token
rest before depth = eat_span in_comment (comment before depth) done

-- ---- turns

pub no-first : (x n : ℕ) (b : Bool) → ¬ (x ≡ n) → (x == n && b) ≡ false
no-first x n b h = rw (ne_eqb x n h) refl

pub no-second : (b : Bool) (x n : ℕ) → ¬ (x ≡ n) → (b && x == n) ≡ false
no-second b x n h = and_right b (x == n) (ne_eqb x n h)

pub turn-last : (before depth c : ℕ) → before ≡ 42 → c ≡ 47 → depth ≡ 0 → comment_turn before depth c ≡ last blank
turn-last before depth c e f g = rw (e, f, g) refl

pub turn-closes : (before depth c : ℕ) → before ≡ 42 → c ≡ 47 → ¬ (depth ≡ 0) → comment_turn before depth c ≡ go (comment 0 (depth - 1))
turn-closes before depth c e f g = rw (e, f, ne_eqb depth 0 g) refl

pub turn-opens : (before depth c : ℕ) → before ≡ 47 → c ≡ 42 → comment_turn before depth c ≡ go (comment 0 (depth + 1))
turn-opens before depth c e f = rw (e, f) refl

pub turn-on : (before depth c : ℕ) → (before == 42 && c == 47) ≡ false → (before == 47 && c == 42) ≡ false → comment_turn before depth c ≡ go (comment c depth)
turn-on before depth c e f = rw (e, f) refl

-- it goes on
pub comment-on : (before depth c b d : ℕ) (v w : Sight) → Covers v → Some c ≡ scout 0 v.place → w ≡ went 1 v → comment_turn before depth c ≡ go (comment b d) → sight (rest before depth) v ≡ sight (rest b d) w
comment-on before depth c b d v w h e f t = step-go comment_step (comment before depth) done (comment b d) c v w h e f t

-- it ends at a delimiter
pub comment-stop : (before depth c : ℕ) (v w : Sight) → Covers v → Some c ≡ scout 0 v.place → w ≡ went 1 v → comment_turn before depth c ≡ last blank → sight (rest before depth) v ≡ (plain kind.BlockComment, w)
comment-stop before depth c v w h e f t = step-last comment_step (comment before depth) done blank c v w h e f t

-- the text ends
pub comment-end : (before depth : ℕ) (v w : Sight) → Covers v → None ≡ scout 0 v.place → w ≡ went 1 v → sight (rest before depth) v ≡ (plain kind.BlockComment, w)
comment-end before depth v w h e f = step-end comment_step (comment before depth) done v h e ∙ ap (λ x. (plain kind.BlockComment, x)) (end-seen v e ∙ sym f)

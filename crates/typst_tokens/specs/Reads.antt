-- What functions that read ensure.
use Rattle.std.specs.Prelude.{◌≡◌}
use Rattle.typst_lines.specs.Scanner.{place}
use Rattle.typst_lines.specs.declared.scanner.Scanner.{Scanner}
use Rattle.typst_tokens.specs.Reader.{Reader, exec, look}
use Rattle.typst_tokens.specs.Sight.{Sight, sight, hull_of}
use Rattle.typst_tokens.specs.declared.hull.Hull.{Hull}

-- the reader answers `result`, and the cursor shows where it answers and what it looked at
abbrev pub Reads : {M A : Type 0} → Reader M A → Sight → A → Sight → Type 0
Reads r old result new = sight r old ≡ (result, new)

-- the reader answers `result`, the scanner goes to where it answers, in the same text, and `seen`
-- is what it looked at
pub record Scans {M A : Type 0} (r : Reader M A) (old : Scanner) (result : A) (seen : Hull) (new : Scanner) : Type 0 where
  pub reads : exec r (place old) ≡ (result, place new)
  pub hull : seen ≡ hull_of (look r (place old)) (place old)
  pub same_text : new.text.now ≡ old.text.now

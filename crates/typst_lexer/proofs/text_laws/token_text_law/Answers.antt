use Rattle.typst_lexer.proofs.TokenTexts.{text-token}
use Rattle.typst_lexer.proofs.text_laws.token_text_law.Goals as goal

pub returns : goal.returns
returns c = text-token

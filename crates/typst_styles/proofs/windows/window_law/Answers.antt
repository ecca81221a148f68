use Rattle.typst_styles.proofs.WindowTokens as windows
use Rattle.typst_styles.proofs.windows.window_law.Goals as goal

pub returns : goal.returns
returns c = windows.window_law

use Rattle.cg_blif_text.proofs.CanonicalText.{says_itself}
use Rattle.cg_blif_text.proofs.laws.canonical_text_says.Goals as goal

pub returns : goal.returns
returns c = says_itself

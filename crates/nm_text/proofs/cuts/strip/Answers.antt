use Rattle.std.proofs.lemmas.Bool.Decides.{Decides-eqb}
use Rattle.std.proofs.lemmas.Slice.Eq.{strip_prefix_is}
use Rattle.nm_text.proofs.CutLemmas.{strip_of-told}
use Rattle.nm_text.proofs.cuts.strip.Goals as goal

pub returns : goal.returns
returns c = let told = strip_of-told c.args.front.now c.args.text.now c.strip_prefix.result (strip_prefix_is Decides-eqb c.args.text.now c.args.front.now c.strip_prefix.result c.strip_prefix.ensures.cases) in record { some = told.0; none = told.1 }

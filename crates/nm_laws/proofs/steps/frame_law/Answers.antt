-- It is one of the groups.
use Rattle.nm_laws.proofs.steps.frame_law.Goals as goal

pub returns-clause-law : goal.returns-clause-law
returns-clause-law c = λ all. (c.all_laws.ensures.law all).frames

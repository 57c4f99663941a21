-- The step leaves all the groups.
use Rattle.nm_runs.proofs.EachRun.{all_left}
use Rattle.nm_laws.proofs.steps.all_laws.Goals as goal

pub returns-clause-law : goal.returns-clause-law
returns-clause-law c = all_left c.args.state.now c.apply.new.self c.args.actor c.args.action c.apply.ensures.before c.requires.actor c.requires.allowed c.apply.ensures.step

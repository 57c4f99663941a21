use Rattle.nm_work_rows.proofs.Reaching.{acted}
use Rattle.nm_work_rows.proofs.driver.step.Goals as goal

pub returns : goal.returns
returns c = acted c.args.g.now c.args.state.now c.apply.new.self c.args.actor c.args.action c.apply.result c.requires.reached c.apply.ensures.before.actors c.requires.exists c.requires.allowed c.apply.ensures.step c.apply.ensures.reply

-- When a step is refused.
use Rattle.std.proofs.Common.{◌≡◌, ap, ◌∙◌}
use Rattle.nm_core.specs.State.{state_of}
use Rattle.nm_core.proofs.Causes.{busy_at, lost_at}
use Rattle.nm_core.proofs.state.State.apply.Goals as goal

pub returns-clause-busy : goal.returns-clause-busy
returns-clause-busy c =
    let s = state_of c.self.inside.geometry c.self.inside.words c.deref_mut.result.now in
    let same : s ≡ c.args.self.now = ap (λ views. state_of c.self.inside.geometry c.self.inside.words views) c.deref_mut.ensures.value ∙ c.self.view_is in
    λ w. busy_at s c.args.self.now c.args.actor c.args.action c.make_step.result w same c.make_step.ensures.reply

pub returns-clause-lost : goal.returns-clause-lost
returns-clause-lost c =
    let s = state_of c.self.inside.geometry c.self.inside.words c.deref_mut.result.now in
    let same : s ≡ c.args.self.now = ap (λ views. state_of c.self.inside.geometry c.self.inside.words views) c.deref_mut.ensures.value ∙ c.self.view_is in
    λ w. lost_at s c.args.self.now c.args.actor c.args.action c.make_step.result w same c.make_step.ensures.reply

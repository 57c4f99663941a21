-- The fault goes on, or is over.
use Rattle.std.proofs.Common.{refl, ap, ◌∙◌}
use Rattle.nm_action.specs.declared.tally.Tally.{Tally}
use Rattle.nm_action.specs.Tally.{sum_of}
use Rattle.nm_access.proofs.Faulting.{faulted-heard, fault-gives, fault-over}
use Rattle.nm_access.proofs.access.Access.faulted.Goals as goal

pub after-requires : goal.after-requires
after-requires g c = faulted-heard _ g.F.Part.made g.F.Part.awaits c.args.self.now c.args.reply c.requires.stage c.requires.heard

pub returns-in-Do-clause-step : goal.returns-in-Do-clause-step
returns-in-Do-clause-step g c = λ g' was view turns turn h answer.
    c.give.ensures.step g' was view _ (fault-gives _ g.F.Part.made g.F.Part.awaits (g.F.Part.ended c.after.new.self) c.args.self.now c.after.new.self _ c.args.reply c.after.result c.in-Do.action g' was view turns turn c.requires.stage refl c.in-Do.is c.after.ensures.made c.after.ensures.step h answer)

pub returns-in-Over-clause-step : goal.returns-in-Over-clause-step
returns-in-Over-clause-step g c = λ g' was view turns turn h answer.
    c.catch_up.ensures.step g' was view _ (fault-over _ g.F.Part.made g.F.Part.awaits (g.F.Part.ended c.after.new.self) c.args.self.now c.after.new.self c.plus-self.result _ c.args.reply c.after.result c.in-Over.end g' was view turns turn c.requires.stage refl c.in-Over.is
    (c.plus-self.ensures ∙ ap (λ (t : Tally). sum_of c.args.self.now.tally t) c.counts.ensures) c.after.ensures.step h answer)

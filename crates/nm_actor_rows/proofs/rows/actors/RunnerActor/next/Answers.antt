use Rattle.std.proofs.Common.{◌∙◌, refl, sym, ap}
use Rattle.nm_actor_rows.specs.Running.{turn_of, IsWaiting}
use Rattle.nm_actor_rows.proofs.Running.{running-heard, running-first, running-more}
use Rattle.nm_actor_rows.proofs.rows.actors.RunnerActor.next.Goals.{in-Start, in-Answer}
use Rattle.nm_actor_rows.proofs.rows.actors.RunnerActor.next.Goals as goal

pub after-step-requires : goal.after-step-requires
after-step-requires g c =
    let self = c.args.self.now in
    let made = g.P.Part.made self.part in
    running-heard (g.P.Part.awaits self.part) (g.P.Part.shape made) (g.P.Part.leaves made) (g.P.Part.ended self.part) self.geometry.now self.number c.requires.turns c.requires.last c.in-Answer.reply
    c.requires.agreed (rw c.in-Answer.is at c.requires.answer)

pub returns-clause-turn : goal.returns-clause-turn
returns-clause-turn g c = λ done last h a.
    let self = c.args.self.now in
    let made = g.P.Part.made self.part in
    elim c.match-heard.branch [
      | in-Start w ↦
          let part = w.first-step.new.self in
          rw (w.self-is, w.in-Start.is) (
          running-first (IsWaiting (g.P.Part.is_new part) (g.P.Part.may_begin (g.P.Part.made part)) self.geometry.now self.number) (g.P.Part.may_begin made) (g.P.Part.awaits part) g.P.Part.shape g.P.Part.leaves (g.P.Part.ended part) made (g.P.Part.made part) self.geometry.now self.number done last c.turn_of-turn.result w.first-step.result
          h (rw w.in-Start.is at a) (sym w.first-step.ensures.made) w.first-step.ensures.step (c.turn_of-turn.ensures ∙ ap turn_of w.step-is) refl)
      | in-Answer w ↦
          let part = w.after-step.new.self in
          rw (w.self-is, w.in-Answer.is) (
          running-more (IsWaiting (g.P.Part.is_new part) (g.P.Part.may_begin (g.P.Part.made part)) self.geometry.now self.number) (g.P.Part.awaits self.part) (g.P.Part.awaits part) g.P.Part.shape g.P.Part.leaves (g.P.Part.ended self.part) (g.P.Part.ended part) made (g.P.Part.made part) self.geometry.now self.number done last c.turn_of-turn.result w.in-Answer.reply w.after-step.result
          h (rw w.in-Answer.is at a) (sym w.after-step.ensures.made) w.after-step.ensures.step (c.turn_of-turn.ensures ∙ ap turn_of w.step-is) refl)
    ]

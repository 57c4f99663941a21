use Rattle.std.proofs.Common.{ℕ, Option, Some, None, ap, subst, ◌∙◌}
use Rattle.nm_base.specs.Geometry.{Geometry}
use Rattle.nm_action.specs.declared.turn.Turn.{Turn}
use Rattle.nm_actor.specs.Actors.{answered, IsTurn}
use Rattle.nm_migrator.specs.Parts.{migrator_number, AgreesMigrator}
use Rattle.nm_programs_rows.proofs.resumed.ResumedActor.next.Goals as goal

pub returns-clause-turn : goal.returns-clause-turn
returns-clause-turn c = λ turns last agreed answer.
    let done = answered last c.args.heard turns in
    let t = c.next-turn.ensures.turn turns last agreed answer in
    let ended = subst (λ (x : Turn). AgreesMigrator c.next-turn.new.self done (Some x)) c.in-End.is t.agreed in
    let given = c.next.ensures.turn done None (c.resume.ensures.agrees done ended) tt in
    subst (λ (g : Geometry). IsTurn g (migrator_number g) (AgreesMigrator c.next.new.self) done c.next.result)
    (ap (λ (m : Geometry × Option ℕ × ℕ). m.0) c.resume.ensures.made ∙ ap (λ (m : Geometry × Option ℕ × ℕ). m.0) c.next-turn.ensures.made) given

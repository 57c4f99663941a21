use Rattle.std.proofs.Common.{◌∙◌, refl, sym, subst, rules}
use Rattle.nm_base.specs.Geometry.{Geometry}
use Rattle.nm_permit.specs.Permitted.{Allowed}
use Rattle.nm_core.specs.State.{view_of}
use Rattle.nm_actor_rows.specs.Following.{IsMade}
use Rattle.nm_actor_rows.proofs.Acting.{start-heard, acting-first, acting-allowed, acting-heard, acting-more, acting-still}
use Rattle.nm_actor_rows.proofs.rows.machine.act.Goals.{in-Other+else-assert, in-Gives+in-Do+else-assert-2+else-not-made}
use Rattle.nm_actor_rows.proofs.rows.machine.act.Goals as goal

pub next-turn-requires : goal.next-turn-requires
next-turn-requires g c = start-heard _ _ _ (g.met.A.Actor.opens c.args.actor.now c.requires.new)

pub loop-line-init : goal.loop-line-init
loop-line-init g c = (
  refl,
  c.next-turn.ensures.made,
  acting-first (g.A.Actor.agrees c.args.actor.now) _ _ _ _ _ (g.met.A.Actor.opens c.args.actor.now c.requires.new) (rw (c.requires.geometry, c.requires.number) c.requires.view) c.next-turn.ensures.turn,
)

pub make-made-requires-clause-allowed : goal.make-made-requires-clause-allowed
make-made-requires-clause-allowed g c =
    let P : Geometry → Type 0 = λ geometry. Allowed geometry (view_of c.loop-line.state c.args.number) c.in-Do.given in
    subst P (c.requires.geometry ∙ sym c.loop-line.invariant.0) (acting-allowed _ _ _ _ _ c.in-Do.given c.loop-line.invariant.2 c.in-Do.is)

pub next-turn-requires-in-Gives : goal.next-turn-requires-in-Gives
next-turn-requires-in-Gives g c =
    let M : Geometry → Type 0 = λ geometry. IsMade geometry (view_of c.loop-line.state c.args.number) (view_of c.make-made.new.state c.args.number) c.in-Do.given c.in-Gives.reply in
    let made = subst M (c.loop-line.invariant.0 ∙ sym c.requires.geometry) (c.make-made.ensures.made (search rules)) in
    rw c.loop-line.invariant.1 (acting-heard _ _ _ _ _ _ c.in-Do.given c.in-Gives.reply c.loop-line.invariant.2 c.in-Do.is made)

pub loop-line-preserved : goal.loop-line-preserved
loop-line-preserved g c = elim c.match-line.branch [
  | in-Other+else-assert w ↦
      rw (w.state-is, w.actor-is, w.turn-is) (
        w.intrude-made.ensures.geometry ∙ c.loop-line.invariant.0,
        c.loop-line.invariant.1,
        acting-still _ _ _ _ _ _ w.intrude-made.ensures.view c.loop-line.invariant.2,
      )
  | in-Gives+in-Do+else-assert-2+else-not-made w ↦
      let M : Geometry → Type 0 = λ geometry. IsMade geometry (view_of c.loop-line.state c.args.number) (view_of w.make-made.new.state c.args.number) w.in-Do.given w.in-Gives.reply in
      let made = subst M (c.loop-line.invariant.0 ∙ sym c.requires.geometry) (w.make-made.ensures.made (search rules)) in
      rw (w.state-is, w.actor-is, w.turn-is) (
        w.make-made.ensures.geometry ∙ c.loop-line.invariant.0,
        w.next-turn-in-Gives.ensures.made ∙ c.loop-line.invariant.1,
        acting-more g.A.Actor.geometry g.A.Actor.number (g.A.Actor.agrees c.loop-line.actor) (g.A.Actor.agrees w.next-turn-in-Gives.new.self) _ (g.A.Actor.made c.args.actor.now) (view_of c.loop-line.state c.args.number) (view_of w.make-made.new.state c.args.number) c.loop-line.turn w.next-turn-in-Gives.result w.in-Do.given w.in-Gives.reply
            c.loop-line.invariant.1 c.loop-line.invariant.2 w.in-Do.is made w.next-turn-in-Gives.ensures.turn,
      )
]

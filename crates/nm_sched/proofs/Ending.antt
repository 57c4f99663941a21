-- What the reclaimer agrees with at the end is its part of the turns.
use Rattle.std.proofs.Common.{◌≡◌, ◌<◌, ℕ, [], Bool, Option, Some, arith, refl, sym, subst, ◌∙◌}
use Rattle.nm_base.specs.Geometry.{Geometry}
use Rattle.nm_action.specs.declared.tally.Tally.{Tally}
use Rattle.nm_action.specs.declared.turn.Turn.{Turn}
use Rattle.nm_action.specs.declared.turn.Turn.TheVariants.{Do, Put, Take, End}
use Rattle.nm_actor.specs.Actors.{gave_end}
use Rattle.nm_actor.specs.Turns.{Turns}
use Rattle.nm_play.specs.Played as play
use Rattle.nm_script.specs.Plain.{Script}
use Rattle.nm_kswap.specs.declared.actor.ReclaimerActor.{ReclaimerActor}
use Rattle.nm_kswap.specs.Reclaiming.{IsReclaiming}
use Rattle.nm_kswap.specs.Parts.{ReclaimerWorker, reclaimer_geometry, AgreesReclaimer}
use Rattle.nm_crew.specs.Crewed.{IsAgreed}
use Rattle.nm_programs.specs.Runs.{HasPart}
use Rattle.nm_kswap.proofs.Starting.{reclaiming-acts}
use Rattle.nm_sched.specs.Parts.{IsReclaimerRun}
use Rattle.nm_sched.proofs.Acting.{routine-acts}

-- ---- End

routine-end : (turn : Turn) → gave_end (Some turn) ≡ play.is_end turn
routine-end (Do action) = refl
routine-end (Put lane page) = refl
routine-end (Take lane) = refl
routine-end End = refl

-- what an actor says of its turns and whether it has ended, it says of its part
pub routine-agreed : (agrees : Turns → Option Turn → Type 0) (part : Turns → Bool → Type 0) (turns : Turns) (ended : Bool) → ((turns : Turns) (last : Option Turn) → agrees turns last → part turns (gave_end last)) → IsAgreed agrees turns ended → part turns ended
routine-agreed agrees part turns ended tells h =
    let P : Bool → Type 0 = λ b. part turns b in
    subst P (routine-end h.last ∙ sym h.given) (tells turns (Some h.last) h.agreed)

-- ---- the reclaimer

-- it does not end at once
pub reclaimer-acts : (agrees : ReclaimerWorker → Turns → Option Turn → Type 0) (counted : ReclaimerWorker → Tally) (a : ReclaimerActor) → ¬ AgreesReclaimer agrees counted a [] (Some End)
reclaimer-acts agrees counted a h =
    let g = reclaimer_geometry a in
    let some : 0 < g.cpus = omega (arith, h.geometry.ranges.2.0) in
    routine-acts (IsReclaiming g) (counted a.worker) (reclaiming-acts g some) h.part

pub reclaimer-part : (agrees : ReclaimerWorker → Turns → Option Turn → Type 0) (counted : ReclaimerWorker → Tally) (script : Script) (made_with : Geometry) (turns : Turns) (ended : Bool) (counts : Tally)
    → made_with ≡ script.geometry → HasPart reclaimer_geometry (AgreesReclaimer agrees counted) (λ a. counted a.worker) made_with turns ended counts
    → IsReclaimerRun script.geometry turns ended counts
reclaimer-part agrees counted script made_with turns ended counts made h =
    let a = h.actor in
    let Made : Geometry → Type 0 = λ g. IsReclaimerRun g turns ended (counted a.worker) in
    let Counted : Tally → Type 0 = λ t. IsReclaimerRun script.geometry turns ended t in
    subst Counted (sym h.counts_so) (subst Made (h.same ∙ made) (routine-agreed (AgreesReclaimer agrees counted a) (λ turns ended. IsReclaimerRun (reclaimer_geometry a) turns ended (counted a.worker)) turns ended (λ turns last k. record { part = k.part; left = k.empty }) h.agreed))

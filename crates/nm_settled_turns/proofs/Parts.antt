-- What the parts of actors show that have ended: each takes its marks back and leaves nothing open, and the migrator alone uses the
-- lane Pending.
use Rattle.std.proofs.Common.{◌≡◌, ◌≢◌, ℕ, ◌+◌, ◌<◌, List, [], Option, refl, sym, subst, inl, inr, arith}
use Rattle.std.proofs.lemmas.Bool.{cases_eq, cases_lt}
use Rattle.nm_base.specs.Geometry.{Geometry}
use Rattle.nm_action.specs.declared.turn.Lane.{Lane}
use Rattle.nm_action.specs.declared.turn.Lane.TheVariants.{Pending}
use Rattle.nm_view.specs.Views.{View}
use Rattle.nm_view.specs.Opening.{IsActor}
use Rattle.nm_actor.specs.Turns.{Turns, own_list, turns_view, IsDrained}
use Rattle.nm_actor.specs.Alone.{FitsLane}
use Rattle.nm_worker.specs.Routines.{IsLeftEmpty}
use Rattle.nm_script.specs.declared.script.Line.{Line}
use Rattle.nm_marks.specs.Marks.{HasOnlyMarks, IsNoMark}
use Rattle.nm_settled.specs.Ended.{IsEndedView}
use Rattle.nm_unmarked.specs.Unmarking.{IsProcessorUnmarking, IsMigratorUnmarking}
use Rattle.nm_pending.specs.PendingTurns.{AreOffPending}
use Rattle.nm_cpu_marks.proofs.Ending.{processor-unmarking, processor-off}
use Rattle.nm_reclaimer_marks.proofs.Reclaiming.{reclaiming-unmarked, reclaiming-off}
use Rattle.nm_migrator_marks.proofs.Migrating.{migrating-unmarked}
use Rattle.nm_migrator_marks.proofs.Draining.{each-drained}
use Rattle.nm_settled_turns.specs.EndedParts.{IsEndedProcessor, IsEndedMigrator, IsEndedReclaimer, AreEndedParts}

-- ---- a processor

pub cpu-marks : (g : Geometry) (program : List Line) (cpu : ℕ) (turns : Turns) → IsEndedProcessor g program cpu turns → IsProcessorUnmarking (own_list turns)
cpu-marks g program cpu turns h = processor-unmarking g program turns h.end h.made

cpu-off : (g : Geometry) (program : List Line) (cpu : ℕ) (turns : Turns) → IsEndedProcessor g program cpu turns → AreOffPending turns
cpu-off g program cpu turns h = processor-off g program turns h.end h.made

cpu-view : (g : Geometry) (program : List Line) (cpu : ℕ) (turns : Turns) → IsEndedProcessor g program cpu turns → IsEndedView g cpu (turns_view g cpu turns)
cpu-view g program cpu turns h =
    let left = h.left in
    record { empty = record { ops = left.free.ops; owned = left.free.owned; turn = left.free.turn }; acked = λ there. left.acked }

-- ---- the routines

pub reclaimer-marks : (g : Geometry) (turns : Turns) → IsEndedReclaimer g turns → HasOnlyMarks IsNoMark (own_list turns)
reclaimer-marks g turns h =
    let M : Turns → Type 0 = λ l. HasOnlyMarks IsNoMark (own_list l) in
    subst M (sym h.is) (reclaiming-unmarked g h.notes tt h.made)

reclaimer-off : (g : Geometry) (turns : Turns) → IsEndedReclaimer g turns → AreOffPending turns
reclaimer-off g turns h = subst AreOffPending (sym h.is) (reclaiming-off g h.notes tt h.made)

pub migrator-marks : (g : Geometry) (retry : Option ℕ) (turns : Turns) → IsEndedMigrator g retry turns → FitsLane Pending [] turns [] → IsMigratorUnmarking g (own_list turns)
migrator-marks g retry turns h fits =
    let F : Turns → Type 0 = λ l. FitsLane Pending [] l [] in
    let M : Turns → Type 0 = λ l. IsMigratorUnmarking g (own_list l) in
    subst M (sym h.is) (migrating-unmarked h.resumed g retry h.notes h.kept h.made (subst F h.is fits))

migrator-drained : (g : Geometry) (retry : Option ℕ) (turns : Turns) → IsEndedMigrator g retry turns → (lane : Lane) → IsDrained lane turns
migrator-drained g retry turns h lane =
    let D : Turns → Type 0 = λ l. IsDrained lane l in
    subst D (sym h.is) (each-drained h.resumed g retry h.notes h.kept h.made lane)

-- the view of a routine's actor, which is no processor
routine-view : (g : Geometry) (actor : ℕ) (view : View) → ¬ (actor < g.cpus) → IsLeftEmpty view → IsEndedView g actor view
routine-view g actor view not h = record { empty = h; acked = λ there. absurd (not there) }

-- ---- all actors

pub drained : (g : Geometry) (programs : ℕ → List Line) (retry : Option ℕ) (turns : ℕ → Turns) → AreEndedParts g programs retry turns → (lane : Lane) → IsDrained lane (turns g.cpus)
drained g programs retry turns h = migrator-drained g retry (turns g.cpus) h.migrator

-- which actor an actor is
by-actor : (g : Geometry) (P : ℕ → Type 0) → ((cpu : ℕ) → cpu < g.cpus → P cpu) → P g.cpus → P (g.cpus + 1) → (actor : ℕ) → IsActor g actor → P actor
by-actor g P cpus migrator reclaimer actor there = elim (cases_lt actor g.cpus) [
  | inl cpu ↦ cpus actor cpu
  | inr past ↦ elim (cases_eq actor g.cpus) [
    | inl same ↦ subst P (sym same) migrator
    | inr other ↦
        let is : actor ≡ g.cpus + 1 = omega (arith, there, other, past) in
        subst P (sym is) reclaimer
  ]
]

-- the migrator alone puts pages into the lane Pending and takes them from it
pub others-off : (g : Geometry) (programs : ℕ → List Line) (retry : Option ℕ) (turns : ℕ → Turns) → AreEndedParts g programs retry turns → (actor : ℕ) → IsActor g actor → actor ≢ g.cpus → AreOffPending (turns actor)
others-off g programs retry turns h =
    by-actor g (λ a. a ≢ g.cpus → AreOffPending (turns a))
    (λ cpu there other. cpu-off g (programs cpu) cpu (turns cpu) (h.cpus cpu there))
    (λ other. absurd (other refl))
    (λ other. reclaimer-off g (turns (g.cpus + 1)) h.reclaimer)

-- each actor leaves the view of an actor that has ended
pub views : (g : Geometry) (programs : ℕ → List Line) (retry : Option ℕ) (turns : ℕ → Turns) → AreEndedParts g programs retry turns → (actor : ℕ) → IsActor g actor → IsEndedView g actor (turns_view g actor (turns actor))
views g programs retry turns h =
    by-actor g (λ a. IsEndedView g a (turns_view g a (turns a)))
    (λ cpu there. cpu-view g (programs cpu) cpu (turns cpu) (h.cpus cpu there))
    (routine-view g g.cpus (turns_view g g.cpus (turns g.cpus)) (λ below. omega (arith, below)) h.migrator.left)
    (routine-view g (g.cpus + 1) (turns_view g (g.cpus + 1) (turns (g.cpus + 1))) (λ below. omega (arith, below)) h.reclaimer.left)

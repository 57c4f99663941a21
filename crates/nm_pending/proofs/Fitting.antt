-- The turns of the actor that alone puts pages into the lane Pending and takes them from it.
use Rattle.std.proofs.Common.{◌≡◌, ◌≢◌, ℕ, ◌==◌, Bool, true, false, cond, List, [], ◌∷◌, ◌++◌, map, refl, sym, ap, subst, inl, inr, arith}
use Rattle.std.specs.List.{filter}
use Rattle.std.proofs.lemmas.Bool.{cases_eq, eq-eqb, ne_eqb}
use Rattle.nm_base.specs.Geometry.{Geometry}
use Rattle.nm_action.specs.declared.turn.Lane.TheVariants.{Pending}
use Rattle.nm_actor.specs.Turns.{Turns}
use Rattle.nm_script.specs.declared.schedule.Schedule.{Schedule}
use Rattle.nm_schedule.specs.declared.turn.Played.{Played}
use Rattle.nm_schedule.specs.Played.{is_of, answered_turn, turns_by}
use Rattle.nm_schedule.specs.Lanes.{pages_in}
use Rattle.nm_schedule.specs.Scheduled.{AreTurns, IsScheduled}
use Rattle.nm_pending.specs.PendingTurns.{FitsPending, IsOffPending, AreOffPending, HasPendingAlone}
use Rattle.nm_pending.proofs.Stepping.{AreFewTaken, lane-step, off-same}

turns_if : (actor : ℕ) (p : Played) (rest : List Played) (b : Bool) → (p.actor == actor) ≡ b → turns_by actor (p ∷ rest) ≡ map answered_turn (cond b (p ∷ filter (is_of actor) rest) (filter (is_of actor) rest))
turns_if actor p rest b e = ap (λ (c : Bool). map answered_turn (cond c (p ∷ filter (is_of actor) rest) (filter (is_of actor) rest))) e

mine : (actor : ℕ) (p : Played) (rest : List Played) → p.actor ≡ actor → turns_by actor (p ∷ rest) ≡ (p.turn, p.heard) ∷ turns_by actor rest
mine actor p rest same = turns_if actor p rest true (eq-eqb p.actor actor same)

others : (actor : ℕ) (p : Played) (rest : List Played) → p.actor ≢ actor → turns_by actor (p ∷ rest) ≡ turns_by actor rest
others actor p rest other = turns_if actor p rest false (ne_eqb p.actor actor other)

off-rest : (actor : ℕ) (p : Played) (rest : List Played) → AreOffPending (turns_by actor (p ∷ rest)) → AreOffPending (turns_by actor rest)
off-rest actor p rest h =
    let O : Turns → Type 0 = λ l. AreOffPending l in
    elim (cases_eq p.actor actor) [
      | inl same ↦ (subst O (mine actor p rest same) h).1
      | inr other ↦ subst O (others actor p rest other) h
    ]

fits-from : (g : Geometry) (schedule : Schedule) (actor : ℕ) (before played : List Played) → AreTurns g schedule before played → AreFewTaken before → HasPendingAlone g actor played → FitsPending (pages_in Pending before) (turns_by actor played)
fits-from g schedule actor before [] turns few alone = tt
fits-from g schedule actor before (p ∷ played) turns few alone =
    let s = lane-step g before p.actor p.turn p.heard p.ended turns.0.lanes few in
    let left : HasPendingAlone g actor played = λ other there not. off-rest other p played (alone other there not) in
    let rest : FitsPending (pages_in Pending (before ++ p ∷ [])) (turns_by actor played) = fits-from g schedule actor (before ++ p ∷ []) played turns.1 s.few left in
    let F : Turns → Type 0 = λ l. FitsPending (pages_in Pending before) l in
    elim (cases_eq p.actor actor) [
      | inl same ↦ subst F (sym (mine actor p played same)) (pages_in Pending (before ++ p ∷ []), (s.step, rest))
      | inr other ↦
          let O : Turns → Type 0 = λ l. AreOffPending l in
          let P : List ℕ → Type 0 = λ l. FitsPending l (turns_by actor played) in
          let off : IsOffPending p.turn = (subst O (mine p.actor p played refl) (alone p.actor turns.0.exists other)).0 in
          subst F (sym (others actor p played other)) (subst P (off-same (pages_in Pending before) (pages_in Pending (before ++ p ∷ [])) p.turn p.heard off s.step) rest)
    ]

pub fits-lane : (g : Geometry) (schedule : Schedule) (played : List Played) (actor : ℕ) → IsScheduled g schedule played → HasPendingAlone g actor played → FitsPending [] (turns_by actor played)
fits-lane g schedule played actor h alone = fits-from g schedule actor [] played h.turns (omega (arith)) alone

-- What holds of every seat at every moment.
use Rattle.std.specs.Prelude.{◌≡◌, ℕ, List, Some}
use mathlib.Core.Option.{some}
use mathlib.Core.List.{IsPrefix}
use lib.ListN.{get_elem?}
use Rattle.atomic_table.specs.Table.{State}
use Rattle.nm_base.specs.Geometry.{Geometry}
use Rattle.nm_action.specs.Own.{own_of}
use Rattle.nm_action.specs.declared.action.Event.{Event}
use Rattle.nm_words.specs.Flat.{flat}
use Rattle.nm_core.specs.Runs.{IsRun, state_after}
use Rattle.nm_rule.specs.declared.known.Progress.{Progress}
use Rattle.nm_rule.specs.declared.known.Knowledge.{Knowledge}
use Rattle.nm_rule.specs.Knows.{seat_of, progress_by}
use Rattle.nm_rule.specs.Shows.{IsProgress}

-- what a seat has seen is a beginning of a run, and so, actor by actor, of each actor's part of it; and what it knows of
-- actors is how far they have come in this run
pub record HasSeenFront (g : Geometry) (run : List Event) (k : Knowledge) : Type 0 where
  pub seen : IsPrefix k.seen run
  pub parts : (actor : ℕ) → IsPrefix (own_of actor k.seen) (own_of actor run)
  pub mine : (p : Progress) → k.mine ≡ Some p → IsProgress g run p.view.number p
  pub seats : (actor : ℕ) (p : Progress) → progress_by (seat_of k.seats actor) ≡ Some p → IsProgress g run actor p

-- there is a run whose state has these words, and of which every seat has seen a beginning
pub record SeatsStand (g : Geometry) (t : State (Unit {0}) Knowledge) : Type 0 where
  pub run : List Event
  pub is_run : IsRun g run
  pub words : t.words ≡ flat (state_after g run).words
  pub seats : (seat : ℕ) (k : Knowledge) → get_elem? t.views seat ≡ some k → HasSeenFront g run k

-- the words at the end are those of the state after a run, of which the seat has seen a beginning, and in which actors have
-- come as far as the seat knows
pub record IsEnd (g : Geometry) (k : Knowledge) (last : List ℕ) : Type 0 where
  pub run : List Event
  pub is_run : IsRun g run
  pub words : last ≡ flat (state_after g run).words
  pub seen : IsPrefix k.seen run
  pub seats : (actor : ℕ) (p : Progress) → progress_by (seat_of k.seats actor) ≡ Some p → IsProgress g run actor p

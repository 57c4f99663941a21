-- The rule: words and views show a state of the machine that is reached by a run.
use Rattle.std.specs.Prelude.{◌≡◌, ℕ, List, Some}
use mathlib.Core.Option.{some}
use mathlib.Core.List.{IsPrefix}
use lib.ListN.{get_elem?}
use Rattle.atomic_table.specs.Table.{State}
use Rattle.nm_base.specs.Geometry.{Geometry, IsGeometry}
use Rattle.nm_action.specs.Own.{own_of}
use Rattle.nm_action.specs.declared.action.Event.{Event}
use Rattle.nm_view.specs.Opening.{IsActor}
use Rattle.nm_words.specs.Flat.{flat}
use Rattle.nm_core.specs.State.{view_of}
use Rattle.nm_core.specs.Runs.{IsRun, state_after}
use Rattle.nm_rule.specs.declared.known.Progress.{Progress}
use Rattle.nm_rule.specs.declared.known.Knowledge.{Knowledge}
use Rattle.nm_rule.specs.Knows.{seat_of, progress_by}

-- after a run, an actor has come so far: its view is that of the state, and its own list its part of the run
pub record IsProgress (g : Geometry) (run : List Event) (actor : ℕ) (p : Progress) : Type 0 where
  pub exists : IsActor g actor
  pub number : p.view.number ≡ actor
  pub view : view_of (state_after g run) actor ≡ p.view
  pub own : own_of actor run ≡ p.own

-- and one seat alone, this one, knows it
pub record IsKnown (g : Geometry) (run : List Event) (knower : ℕ → ℕ) (seat actor : ℕ) (p : Progress) : Type 0 where
  pub progress : IsProgress g run actor p
  pub known_by : knower actor ≡ seat

-- what a seat knows is so, and it has seen a beginning of the run
pub record IsKnowing (g : Geometry) (run : List Event) (knower : ℕ → ℕ) (seat : ℕ) (k : Knowledge) : Type 0 where
  pub mine : (p : Progress) → k.mine ≡ Some p → IsKnown g run knower seat p.view.number p
  pub seats : (actor : ℕ) (p : Progress) → progress_by (seat_of k.seats actor) ≡ Some p → IsKnown g run knower seat actor p
  pub seen : IsPrefix k.seen run

-- the words are those of the state after a run, all seats know what is so after it, and no two of them know how far one
-- actor has come
pub record Shows (g : Geometry) (t : State (Unit {0}) Knowledge) : Type 0 where
  pub geometry : IsGeometry g
  pub run : List Event
  pub knower : ℕ → ℕ
  pub is_run : IsRun g run
  pub words : t.words ≡ flat (state_after g run).words
  pub known : (seat : ℕ) (k : Knowledge) → get_elem? t.views seat ≡ some k → IsKnowing g run knower seat k

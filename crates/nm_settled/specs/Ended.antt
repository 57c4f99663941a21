-- What actors that have ended leave in a state.
use Rattle.std.specs.Prelude.{◌≡◌, ℕ, ◌<◌, slice_index}
use Rattle.nm_base.specs.Geometry.{Geometry}
use Rattle.nm_base.specs.Ranges.{IsPage}
use Rattle.nm_view.specs.Views.{View, end_word}
use Rattle.nm_view.specs.Opening.{IsActor}
use Rattle.nm_core.specs.State.{State, view_of}
use Rattle.nm_worker.specs.Routines.{IsLeftEmpty}

-- the view of an actor that has ended: it is left empty, and that of a processor has acknowledged its end
pub record IsEndedView (g : Geometry) (actor : ℕ) (view : View) : Type 0 where
  pub empty : IsLeftEmpty view
  pub acked : actor < g.cpus → view.acked ≡ end_word

-- the view of each actor is that of one that has ended
abbrev pub HaveEndedViews : State → Type 0
HaveEndedViews s = (actor : ℕ) → IsActor s.geometry actor → IsEndedView s.geometry actor (view_of s actor)

-- no page has a mark
abbrev pub HasNoMark : State → Type 0
HasNoMark s = (page : ℕ) → IsPage s.geometry page → slice_index s.words.mark page ≡ 0

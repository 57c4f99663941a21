-- What a step of a chair's seat changes of the chair.
use Rattle.std.proofs.Common.{◌≡◌, [], ◌∷◌, ◌++◌, ap, ◌∙◌, subst}
use Rattle.nm_action.specs.declared.action.Action.{Action}
use Rattle.nm_action.specs.declared.action.Reply.{Reply}
use Rattle.nm_view.specs.Views.{View}
use Rattle.nm_event.specs.After.{after_of}
use Rattle.nm_event.specs.Fitting.{Fits}
use Rattle.nm_core.proofs.Naming.{HasCounted-after}
use Rattle.nm_actor.specs.Chairs.{stepped}
use Rattle.nm_arena.specs.Faces.{SeatFace}
use Rattle.nm_arena_chair.specs.ChairFaces.{ChairFace, chair_state}

pub step-state : (now inner : ChairFace) (new : SeatFace) (a : Action) (r : Reply) → inner ≡ now
    → new.own ≡ inner.seat.own ++ (a, r) ∷ [] → new.view ≡ after_of inner.arena.geometry inner.seat.view a r → Fits inner.arena.geometry inner.seat.view a r
    → chair_state (record inner { seat = new }) ≡ stepped a r (chair_state now)
step-state now inner new a r same own view fits =
    let number = ap (λ (v : View). v.number) view ∙ (HasCounted-after inner.arena.geometry inner.seat.view a r fits.kind).number in
    (λ i. record (chair_state inner) { actor = number i; own = own i; view = view i }) ∙ ap (λ c. stepped a r (chair_state c)) same

pub step-fits : (now inner : ChairFace) (a : Action) (r : Reply) → inner ≡ now → Fits inner.arena.geometry inner.seat.view a r
    → Fits (chair_state now).geometry (chair_state now).view a r
step-fits now inner a r same fits = subst (λ (c : ChairFace). Fits c.arena.geometry c.seat.view a r) same fits

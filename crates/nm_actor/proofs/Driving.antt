-- One step more of a part that is driven.
use Rattle.std.proofs.Common.{◌≡◌, [], ◌∷◌, ◌++◌, sym, subst, ◌∙◌, append_assoc}
use Rattle.nm_base.specs.Geometry.{Geometry}
use Rattle.nm_action.specs.declared.action.Action.{Action}
use Rattle.nm_action.specs.declared.action.Reply.{Reply}
use Rattle.nm_action.specs.declared.turn.Step.{Step}
use Rattle.nm_action.specs.declared.turn.Step.TheVariants.{Do}
use Rattle.nm_view.specs.Views.{View}
use Rattle.nm_event.specs.Fitting.{Fits}
use Rattle.nm_action.specs.Own.{Own}
use Rattle.nm_event.specs.After.{view_after}
use Rattle.nm_part.specs.Parts.{IsAsked, IsPartStep}
use Rattle.nm_part.proofs.OwnLemmas.{view-push}
use Rattle.nm_actor.specs.Chairs.{ChairState, stepped}
use Rattle.nm_actor.specs.Drives.{driven, IsDriving}

stepped-driven : {N : Type 0} (c : ChairState N) (own : Own) (action : Action) (reply : Reply) → stepped action reply (driven own c) ≡ driven (own ++ (action, reply) ∷ []) c
stepped-driven c own action reply = λ i. record c {
  own = append_assoc c.own own ((action, reply) ∷ []) i;
  view = sym (view-push c.geometry c.view own action reply) i;
}

pub driving-more : {N O M : Type 0} (awaits next : Geometry → View → Own → Action → Type 0) (shape : M → Geometry → Own → O → Type 0) (leaves : M → Geometry → View → O → View → Type 0) (ended ended' : Geometry → Own → O → Type 0) (m made : M) (old now new : ChairState N) (step result : Step O) (action : Action) (reply : Reply)
    → m ≡ made → IsDriving awaits (shape made) (leaves made) ended old now step → step ≡ Do action → new ≡ stepped action reply now → Fits now.geometry now.view action reply
    → ((g : Geometry) (v : View) (own : Own) (a : Action) → awaits g v own a → Fits g (view_after g v own) a reply → IsPartStep next (shape m) (leaves m) ended' g v (own ++ (a, reply) ∷ []) result)
    → IsDriving next (shape made) (leaves made) ended' old new result
driving-more {N} {O} {M} awaits next shape leaves ended ended' m made old now new step result action reply same d is n fits after =
    let asked : IsAsked awaits (shape made) old.geometry old.view d.own action = rw is at d.given in
    let F : ChairState N → Type 0 = λ c. Fits c.geometry c.view action reply in
    let R : M → Type 0 = λ k. IsPartStep next (shape k) (leaves k) ended' old.geometry old.view (d.own ++ (action, reply) ∷ []) result in
    record {
      own = d.own ++ (action, reply) ∷ [];
      is = n ∙ (rw d.is (stepped-driven old d.own action reply));
      given = subst R same (after old.geometry old.view d.own action asked.awaited (subst F d.is fits));
    }

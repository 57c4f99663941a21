-- The turns of an actor, with a turn more.
use Rattle.std.proofs.Common.{◌≡◌, ◌≢◌, ℕ, Bool, cond, List, [], ◌∷◌, ◌++◌, map, refl, sym, ap, ◌∙◌}
use Rattle.std.specs.List.{filter}
use Rattle.std.proofs.lemmas.List.{append-nil, map-append}
use Rattle.std.proofs.lemmas.List.Elements.{filter-append}
use Rattle.std.proofs.lemmas.Bool.{eq-eqb, ne_eqb}
use Rattle.nm_schedule.specs.declared.turn.Played.{Played}
use Rattle.nm_schedule.specs.Played.{is_of, answered_turn, turns_by}

turns-push : (before : List Played) (p : Played) (actor : ℕ) → turns_by actor (before ++ p ∷ []) ≡ turns_by actor before ++ turns_by actor (p ∷ [])
turns-push before p actor = ap (map answered_turn) (filter-append (is_of actor) before (p ∷ [])) ∙ map-append answered_turn (filter (is_of actor) before) (filter (is_of actor) (p ∷ []))

-- a turn of the actor itself
pub turns-own : (before : List Played) (p : Played) → turns_by p.actor (before ++ p ∷ []) ≡ turns_by p.actor before ++ (p.turn, p.heard) ∷ []
turns-own before p = turns-push before p p.actor ∙ ap (λ (b : Bool). turns_by p.actor before ++ map answered_turn (cond b (p ∷ []) [])) (eq-eqb p.actor p.actor refl)

-- a turn of another
pub turns-other : (before : List Played) (p : Played) (actor : ℕ) → actor ≢ p.actor → turns_by actor (before ++ p ∷ []) ≡ turns_by actor before
turns-other before p actor n =
    turns-push before p actor ∙ ap (λ (b : Bool). turns_by actor before ++ map answered_turn (cond b (p ∷ []) [])) (ne_eqb p.actor actor (λ e. n (sym e))) ∙ append-nil (turns_by actor before)

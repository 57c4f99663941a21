-- An actor that reads one acknowledgement.
use Rattle.std.proofs.Common.{◌≡◌, ◌<◌, ℕ, zero, suc, All, List, [], ◌∷◌, get_or, Option, Some, refl, arith}
use Rattle.std.proofs.lemmas.List.Elements.{All-from_get_or}
use Rattle.nm_base.specs.Geometry.{Geometry}
use Rattle.nm_action.specs.declared.action.Action.TheVariants.{SeeAck}
use Rattle.nm_action.specs.declared.turn.Turn.{Turn}
use Rattle.nm_action.specs.declared.turn.Turn.TheVariants.{Do, End}
use Rattle.nm_schedule_rows.specs.Listed.{IsAlwaysPermitted, IsListed}

permitted-at : (i : ℕ) → i < 1 → IsAlwaysPermitted (get_or (Do (SeeAck 0) ∷ []) i (Do (SeeAck 0)))
permitted-at zero lt = refl
permitted-at (suc i) lt = absurd (omega (arith, lt))

-- the reading is permitted in every view
pub one-permitted : All IsAlwaysPermitted (Do (SeeAck 0) ∷ [])
one-permitted = All-from_get_or IsAlwaysPermitted (Do (SeeAck 0) ∷ []) (Do (SeeAck 0)) permitted-at

-- an actor from a list doesn't end at once
pub listed-acts : (g : Geometry) (turns : List Turn) (given : ℕ) (kept : Option Turn) → ¬ IsListed g turns given kept [] (Some End)
listed-acts g turns given kept h = let b = h.begun in omega (arith, b)

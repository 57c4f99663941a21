-- Turns that leave the lane Pending alone.
use Rattle.std.proofs.Common.{◌≡◌, List, [], ◌∷◌, ◌++◌, refl, ap, ◌∙◌}
use Rattle.nm_action.specs.declared.turn.Lane.TheVariants.{Candidates, Pending}
use Rattle.nm_action.specs.declared.turn.Turn.{Turn}
use Rattle.nm_action.specs.declared.turn.Turn.TheVariants.{Do, Put, Take, End}
use Rattle.nm_action.specs.declared.turn.Heard.{Heard}
use Rattle.nm_action.specs.declared.turn.Heard.TheVariants.{Start, Answer, PutDone, PutFull, Took, TookNone}
use Rattle.nm_actor.specs.Lanes.{LaneMove}
use Rattle.nm_actor.specs.Turns.{Turns, lane_turn, lane_list}
use Rattle.nm_pending.specs.PendingTurns.{IsOffPending, AreOffPending}

pub off-both : (a b : Turns) → AreOffPending a → AreOffPending b → AreOffPending (a ++ b)
off-both [] b first then = then
off-both (t ∷ a) b first then = (first.0, off-both a b first.1 then)

-- a turn that leaves the lane alone adds nothing to its list
off-turn : (turn : Turn) (heard : Heard) → IsOffPending turn → lane_turn Pending turn heard ≡ []
off-turn (Do action) heard off = refl
off-turn (Put Pending page) heard off = absurd off
off-turn (Put Candidates page) Start off = refl
off-turn (Put Candidates page) (Answer reply) off = refl
off-turn (Put Candidates page) PutDone off = refl
off-turn (Put Candidates page) PutFull off = refl
off-turn (Put Candidates page) (Took b) off = refl
off-turn (Put Candidates page) TookNone off = refl
off-turn (Take Pending) heard off = absurd off
off-turn (Take Candidates) Start off = refl
off-turn (Take Candidates) (Answer reply) off = refl
off-turn (Take Candidates) PutDone off = refl
off-turn (Take Candidates) PutFull off = refl
off-turn (Take Candidates) (Took b) off = refl
off-turn (Take Candidates) TookNone off = refl
off-turn End heard off = refl

pub off-list : (turns : Turns) → AreOffPending turns → lane_list Pending turns ≡ []
off-list [] off = refl
off-list (t ∷ turns) off = ap (λ (l : List LaneMove). l ++ lane_list Pending turns) (off-turn t.0 t.1 off.0) ∙ off-list turns off.1

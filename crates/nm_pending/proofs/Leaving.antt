-- What the lane Pending holds after an actor's turns, and that it holds nothing where the last was to find it empty.
use Rattle.std.proofs.Common.{◌≡◌, ℕ, List, [], ◌∷◌, ◌++◌, sym, subst, ◌∙◌}
use Rattle.nm_action.specs.declared.turn.Lane.TheVariants.{Candidates, Pending}
use Rattle.nm_action.specs.declared.turn.Turn.{Turn}
use Rattle.nm_action.specs.declared.turn.Turn.TheVariants.{Do, Put, Take, End}
use Rattle.nm_action.specs.declared.turn.Heard.{Heard}
use Rattle.nm_action.specs.declared.turn.Heard.TheVariants.{Start, Answer, PutDone, PutFull, Took, TookNone}
use Rattle.nm_actor.specs.Lanes.{LaneMove}
use Rattle.nm_actor.specs.Turns.{Turns, lane_turn, lane_list, IsDrained}
use Rattle.nm_actor.specs.Alone.{MovesLeave, FitsLane}
use Rattle.nm_pending.specs.PendingTurns.{IsPendingStep, FitsPending}

-- a turn after which the lane holds the same pages
same-pages : (pages later : List ℕ) (moves : List LaneMove) (left : List ℕ) → later ≡ pages → MovesLeave later moves left → MovesLeave pages moves left
same-pages pages later moves left same h =
    let M : List ℕ → Type 0 = λ l. MovesLeave l moves left in
    subst M same h

-- one turn more
step-leaves : (pages later : List ℕ) (turn : Turn) (heard : Heard) (moves : List LaneMove) (left : List ℕ) → IsPendingStep pages turn heard later → MovesLeave later moves left → MovesLeave pages (lane_turn Pending turn heard ++ moves) left
step-leaves pages later (Do action) heard moves left same h = same-pages pages later moves left same h
step-leaves pages later (Put Candidates page) Start moves left same h = same-pages pages later moves left same h
step-leaves pages later (Put Candidates page) (Answer reply) moves left same h = same-pages pages later moves left same h
step-leaves pages later (Put Candidates page) PutDone moves left same h = same-pages pages later moves left same h
step-leaves pages later (Put Candidates page) PutFull moves left same h = same-pages pages later moves left same h
step-leaves pages later (Put Candidates page) (Took b) moves left same h = same-pages pages later moves left same h
step-leaves pages later (Put Candidates page) TookNone moves left same h = same-pages pages later moves left same h
step-leaves pages later (Put Pending page) Start moves left same h = same-pages pages later moves left same h
step-leaves pages later (Put Pending page) (Answer reply) moves left same h = same-pages pages later moves left same h
step-leaves pages later (Put Pending page) PutDone moves left is h = same-pages (pages ++ page ∷ []) later moves left is h
step-leaves pages later (Put Pending page) PutFull moves left same h = same-pages pages later moves left same h
step-leaves pages later (Put Pending page) (Took b) moves left same h = same-pages pages later moves left same h
step-leaves pages later (Put Pending page) TookNone moves left same h = same-pages pages later moves left same h
step-leaves pages later (Take Candidates) Start moves left same h = same-pages pages later moves left same h
step-leaves pages later (Take Candidates) (Answer reply) moves left same h = same-pages pages later moves left same h
step-leaves pages later (Take Candidates) PutDone moves left same h = same-pages pages later moves left same h
step-leaves pages later (Take Candidates) PutFull moves left same h = same-pages pages later moves left same h
step-leaves pages later (Take Candidates) (Took b) moves left same h = same-pages pages later moves left same h
step-leaves pages later (Take Candidates) TookNone moves left same h = same-pages pages later moves left same h
step-leaves pages later (Take Pending) Start moves left same h = same-pages pages later moves left same h
step-leaves pages later (Take Pending) (Answer reply) moves left same h = same-pages pages later moves left same h
step-leaves pages later (Take Pending) PutDone moves left same h = same-pages pages later moves left same h
step-leaves pages later (Take Pending) PutFull moves left same h = same-pages pages later moves left same h
step-leaves pages later (Take Pending) (Took b) moves left is h = (later, is, h)
step-leaves pages later (Take Pending) TookNone moves left none h = same-pages pages later moves left (none.1 ∙ sym none.0) h
step-leaves pages later End heard moves left same h = same-pages pages later moves left same h

-- the lane was found empty, and nothing was put since
drained-from : (pages : List ℕ) (front rest : Turns) → FitsPending pages (front ++ (Take Pending, TookNone) ∷ rest) → lane_list Pending rest ≡ [] → FitsLane Pending pages (front ++ (Take Pending, TookNone) ∷ rest) []
drained-from pages [] rest h still =
    let M : List LaneMove → Type 0 = λ l. MovesLeave pages l [] in
    subst M (sym still) (sym h.1.0.0)
drained-from pages (t ∷ front) rest h still =
    step-leaves pages h.0 t.0 t.1 (lane_list Pending (front ++ (Take Pending, TookNone) ∷ rest)) [] h.1.0 (drained-from h.0 front rest h.1.1 still)

pub drained-fits : (turns : Turns) → FitsPending [] turns → IsDrained Pending turns → FitsLane Pending [] turns []
drained-fits turns h d =
    let F : Turns → Type 0 = λ l. FitsPending [] l in
    let L : Turns → Type 0 = λ l. FitsLane Pending [] l [] in
    subst L (sym d.is) (drained-from [] d.front d.rest (subst F d.is h) d.still)

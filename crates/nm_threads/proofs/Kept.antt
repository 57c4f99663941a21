-- What turns at a chair keep, and what they add to its lists.
use Rattle.std.proofs.Common.{◌≡◌, ℕ, List, [], ◌∷◌, ◌++◌, refl, sym, ap, ◌∙◌, subst, append_assoc}
use Rattle.std.proofs.lemmas.List.{append-nil}
use Rattle.nm_action.specs.Own.{Own}
use Rattle.nm_action.specs.declared.action.Action.{Action}
use Rattle.nm_action.specs.declared.action.Reply.{Reply}
use Rattle.nm_action.specs.declared.turn.Lane.{Lane}
use Rattle.nm_action.specs.declared.turn.Lane.TheVariants.{Candidates, Pending}
use Rattle.nm_action.specs.declared.turn.Turn.{Turn}
use Rattle.nm_action.specs.declared.turn.Turn.TheVariants.{Put, Take}
use Rattle.nm_action.specs.declared.turn.Heard.{Heard}
use Rattle.nm_action.specs.declared.turn.Heard.TheVariants.{PutDone, PutFull, Took, TookNone}
use Rattle.nm_actor.specs.Lanes.{LaneMove, LaneState, IsPagePut, IsFull, IsPageTaken, IsEmpty}
use Rattle.nm_actor.specs.Turns.{Turns, own_turn, own_list, lane_turn, lane_list}
use Rattle.nm_actor.specs.Chairs.{ChairState, lane_of, with_lane}
use Rattle.nm_threads.specs.Driven.{IsActionMade, IsLaneTurn, IsTurnMade, AreMade}
use Rattle.nm_threads.proofs.Turning.{by-turn}

-- what no turn changes
pub record IsKept {N : Type 0} (old new : ChairState N) : Type 0 where
  pub geometry : new.geometry ≡ old.geometry
  pub actor : new.actor ≡ old.actor
  pub others : new.others ≡ old.others
  pub board : new.board ≡ old.board

lane-keeps : {N : Type 0} (c : ChairState N) (lane : Lane) (l : LaneState) → IsKept c (with_lane lane l c)
lane-keeps c Candidates l = record { geometry = refl; actor = refl; others = refl; board = refl }
lane-keeps c Pending l = record { geometry = refl; actor = refl; others = refl; board = refl }

turn-keeps : {N : Type 0} (old new : ChairState N) (turn : Turn) (heard : Heard) → IsTurnMade old turn heard new → IsKept old new
turn-keeps {N} old new =
    by-turn (λ turn heard. IsKept old new) old new
    (λ action reply made. subst (IsKept old) (sym made.is) (record { geometry = refl; actor = refl; others = refl; board = refl }))
    (λ lane page made. subst (IsKept old) (sym made.rest) (lane-keeps old lane (lane_of lane new)))
    (λ lane page made. subst (IsKept old) (sym made.rest) (lane-keeps old lane (lane_of lane new)))
    (λ lane page made. subst (IsKept old) (sym made.rest) (lane-keeps old lane (lane_of lane new)))
    (λ lane made. subst (IsKept old) (sym made.rest) (lane-keeps old lane (lane_of lane new)))

pub made-keeps : {N : Type 0} (old new : ChairState N) (turns : Turns) → AreMade old turns new → IsKept old new
made-keeps old new [] made = subst (IsKept old) (sym made) (record { geometry = refl; actor = refl; others = refl; board = refl })
made-keeps old new (t ∷ turns) made =
    let first = turn-keeps old made.0 t.0 t.1 made.1 in
    let rest = made-keeps made.0 new turns made.2 in
    record { geometry = rest.geometry ∙ first.geometry; actor = rest.actor ∙ first.actor; others = rest.others ∙ first.others; board = rest.board ∙ first.board }

-- the own list

own-lane : {N : Type 0} (c : ChairState N) (lane : Lane) (l : LaneState) → (with_lane lane l c).own ≡ c.own ++ []
own-lane c Candidates l = sym (append-nil c.own)
own-lane c Pending l = sym (append-nil c.own)

turn-own : {N : Type 0} (old new : ChairState N) (turn : Turn) (heard : Heard) → IsTurnMade old turn heard new → new.own ≡ old.own ++ own_turn turn heard
turn-own {N} old new =
    let f : ChairState N → Own = λ c. c.own in
    by-turn (λ turn heard. new.own ≡ old.own ++ own_turn turn heard) old new
    (λ action reply made. ap f made.is)
    (λ lane page made. ap f made.rest ∙ own-lane old lane (lane_of lane new))
    (λ lane page made. ap f made.rest ∙ own-lane old lane (lane_of lane new))
    (λ lane page made. ap f made.rest ∙ own-lane old lane (lane_of lane new))
    (λ lane made. ap f made.rest ∙ own-lane old lane (lane_of lane new))

pub made-own : {N : Type 0} (old new : ChairState N) (turns : Turns) → AreMade old turns new → new.own ≡ old.own ++ own_list turns
made-own {N} old new [] made = let f : ChairState N → Own = λ c. c.own in ap f made ∙ sym (append-nil old.own)
made-own old new (t ∷ turns) made =
    made-own made.0 new turns made.2
    ∙ ap (λ (l : Own). l ++ own_list turns) (turn-own old made.0 t.0 t.1 made.1)
    ∙ append_assoc old.own (own_turn t.0 t.1) (own_list turns)

-- the list of a lane

put-moves : {N : Type 0} (lane into : Lane) (page : ℕ) (old new : ChairState N) → IsLaneTurn into (IsPagePut page) old new → (lane_of lane new).moves ≡ (lane_of lane old).moves ++ lane_turn lane (Put into page) PutDone
put-moves {N} Candidates Candidates page old new made = ap (λ (l : LaneState). l.moves) made.lane_is.is
put-moves {N} Candidates Pending page old new made = let gcandidates : ChairState N → List LaneMove = λ c. c.candidates.moves in ap gcandidates made.rest ∙ sym (append-nil old.candidates.moves)
put-moves {N} Pending Candidates page old new made = let gpending : ChairState N → List LaneMove = λ c. c.pending.moves in ap gpending made.rest ∙ sym (append-nil old.pending.moves)
put-moves {N} Pending Pending page old new made = ap (λ (l : LaneState). l.moves) made.lane_is.is

full-moves : {N : Type 0} (lane into : Lane) (page : ℕ) (old new : ChairState N) → IsLaneTurn into IsFull old new → (lane_of lane new).moves ≡ (lane_of lane old).moves ++ lane_turn lane (Put into page) PutFull
full-moves {N} Candidates Candidates page old new made = ap (λ (l : LaneState). l.moves) made.lane_is.is ∙ sym (append-nil old.candidates.moves)
full-moves {N} Candidates Pending page old new made = let gcandidates : ChairState N → List LaneMove = λ c. c.candidates.moves in ap gcandidates made.rest ∙ sym (append-nil old.candidates.moves)
full-moves {N} Pending Candidates page old new made = let gpending : ChairState N → List LaneMove = λ c. c.pending.moves in ap gpending made.rest ∙ sym (append-nil old.pending.moves)
full-moves {N} Pending Pending page old new made = ap (λ (l : LaneState). l.moves) made.lane_is.is ∙ sym (append-nil old.pending.moves)

took-moves : {N : Type 0} (lane into : Lane) (page : ℕ) (old new : ChairState N) → IsLaneTurn into (IsPageTaken page) old new → (lane_of lane new).moves ≡ (lane_of lane old).moves ++ lane_turn lane (Take into) (Took page)
took-moves {N} Candidates Candidates page old new made = ap (λ (l : LaneState). l.moves) made.lane_is.is
took-moves {N} Candidates Pending page old new made = let gcandidates : ChairState N → List LaneMove = λ c. c.candidates.moves in ap gcandidates made.rest ∙ sym (append-nil old.candidates.moves)
took-moves {N} Pending Candidates page old new made = let gpending : ChairState N → List LaneMove = λ c. c.pending.moves in ap gpending made.rest ∙ sym (append-nil old.pending.moves)
took-moves {N} Pending Pending page old new made = ap (λ (l : LaneState). l.moves) made.lane_is.is

none-moves : {N : Type 0} (lane into : Lane) (old new : ChairState N) → IsLaneTurn into IsEmpty old new → (lane_of lane new).moves ≡ (lane_of lane old).moves ++ lane_turn lane (Take into) TookNone
none-moves {N} Candidates Candidates old new made = ap (λ (l : LaneState). l.moves) made.lane_is.is ∙ sym (append-nil old.candidates.moves)
none-moves {N} Candidates Pending old new made = let gcandidates : ChairState N → List LaneMove = λ c. c.candidates.moves in ap gcandidates made.rest ∙ sym (append-nil old.candidates.moves)
none-moves {N} Pending Candidates old new made = let gpending : ChairState N → List LaneMove = λ c. c.pending.moves in ap gpending made.rest ∙ sym (append-nil old.pending.moves)
none-moves {N} Pending Pending old new made = ap (λ (l : LaneState). l.moves) made.lane_is.is ∙ sym (append-nil old.pending.moves)

act-moves : {N : Type 0} (lane : Lane) (action : Action) (reply : Reply) (old new : ChairState N) → IsActionMade action reply old new → (lane_of lane new).moves ≡ (lane_of lane old).moves ++ []
act-moves {N} Candidates action reply old new made = let f : ChairState N → List LaneMove = λ c. c.candidates.moves in ap f made.is ∙ sym (append-nil old.candidates.moves)
act-moves {N} Pending action reply old new made = let f : ChairState N → List LaneMove = λ c. c.pending.moves in ap f made.is ∙ sym (append-nil old.pending.moves)

turn-moves : {N : Type 0} (lane : Lane) (old new : ChairState N) (turn : Turn) (heard : Heard) → IsTurnMade old turn heard new → (lane_of lane new).moves ≡ (lane_of lane old).moves ++ lane_turn lane turn heard
turn-moves lane old new =
    by-turn (λ turn heard. (lane_of lane new).moves ≡ (lane_of lane old).moves ++ lane_turn lane turn heard) old new
    (λ action reply made. act-moves lane action reply old new made)
    (λ into page made. put-moves lane into page old new made)
    (λ into page made. full-moves lane into page old new made)
    (λ into page made. took-moves lane into page old new made)
    (λ into made. none-moves lane into old new made)

pub made-moves : {N : Type 0} (lane : Lane) (old new : ChairState N) (turns : Turns) → AreMade old turns new → (lane_of lane new).moves ≡ (lane_of lane old).moves ++ lane_list lane turns
made-moves {N} lane old new [] made = let f : ChairState N → List LaneMove = λ c. (lane_of lane c).moves in ap f made ∙ sym (append-nil (lane_of lane old).moves)
made-moves lane old new (t ∷ turns) made =
    made-moves lane made.0 new turns made.2
    ∙ ap (λ (l : List LaneMove). l ++ lane_list lane turns) (turn-moves lane old made.0 t.0 t.1 made.1)
    ∙ append_assoc (lane_of lane old).moves (lane_turn lane t.0 t.1) (lane_list lane turns)

-- Lists that are read off turns.
use Rattle.std.proofs.Common.{◌≡◌, [], ◌∷◌, ◌++◌, refl, sym, ap, ◌∙◌, append_assoc}
use Rattle.std.proofs.lemmas.List.{append-nil}
use Rattle.nm_action.specs.declared.turn.Lane.{Lane}
use Rattle.nm_action.specs.declared.turn.Turn.{Turn}
use Rattle.nm_action.specs.declared.turn.Heard.{Heard}
use Rattle.nm_action.specs.Own.{Own}
use Rattle.nm_actor.specs.Turns.{Turns, own_turn, own_list, lane_turn, lane_list}

-- the own list of two lists of turns
pub own-append : (a b : Turns) → own_list (a ++ b) ≡ own_list a ++ own_list b
own-append [] b = refl
own-append (t ∷ a) b = ap (λ (l : Own). own_turn t.0 t.1 ++ l) (own-append a b) ∙ sym (append_assoc (own_turn t.0 t.1) (own_list a) (own_list b))

-- the own list with one turn more
pub own-push : (turns : Turns) (turn : Turn) (heard : Heard) → own_list (turns ++ (turn, heard) ∷ []) ≡ own_list turns ++ own_turn turn heard
own-push turns turn heard = own-append turns ((turn, heard) ∷ []) ∙ ap (λ (l : Own). own_list turns ++ l) (append-nil (own_turn turn heard))

-- a lane list with one turn more
pub lane-append : (lane : Lane) (a b : Turns) → lane_list lane (a ++ b) ≡ lane_list lane a ++ lane_list lane b
lane-append lane [] b = refl
lane-append lane (t ∷ a) b = ap (λ l. lane_turn lane t.0 t.1 ++ l) (lane-append lane a b) ∙ sym (append_assoc (lane_turn lane t.0 t.1) (lane_list lane a) (lane_list lane b))

pub lane-push : (lane : Lane) (turns : Turns) (turn : Turn) (heard : Heard) → lane_list lane (turns ++ (turn, heard) ∷ []) ≡ lane_list lane turns ++ lane_turn lane turn heard
lane-push lane turns turn heard = lane-append lane turns ((turn, heard) ∷ []) ∙ ap (λ l. lane_list lane turns ++ l) (append-nil (lane_turn lane turn heard))

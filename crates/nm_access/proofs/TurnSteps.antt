-- Turns along patterns, and the view after them.
use Rattle.std.proofs.Common.{◌≡◌, ℕ, ◌++◌, ◌∷◌, [], List, refl, sym, ap, ◌∙◌, subst, append_assoc}
use Rattle.nm_base.specs.Geometry.{Geometry}
use Rattle.nm_action.specs.declared.action.Action.{Action}
use Rattle.nm_action.specs.declared.action.Reply.{Reply}
use Rattle.nm_action.specs.declared.turn.Turn.{Turn}
use Rattle.nm_action.specs.declared.turn.Turn.TheVariants.{Do, Put, Take, End}
use Rattle.nm_action.specs.declared.turn.Heard.{Heard}
use Rattle.nm_action.specs.declared.turn.Heard.TheVariants.{Start, Answer, PutDone, PutFull, Took, TookNone}
use Rattle.nm_action.specs.Own.{Own}
use Rattle.nm_view.specs.Views.{View}
use Rattle.nm_event.specs.After.{view_after}
use Rattle.nm_part.specs.Patterns.{Follows, Sometimes, IsLeft, CanEnd}
use Rattle.nm_part.proofs.OwnLemmas.{view-append}
use Rattle.nm_compose.proofs.Acting.{reply-kind}
use Rattle.nm_actor.specs.Turns.{Turns, own_turn, own_list}
use Rattle.nm_actor.specs.Actors.{IsAnswer}
use Rattle.nm_actor.proofs.TurnLists.{own-append, own-push}
use Rattle.nm_access.specs.Turning.{IsHeardOf, Hears, action_turns, IsTurnBegun}
use Rattle.nm_access.specs.Accessing.{view_then}

-- what answers a turn is of its kind
pub answer-kind : (g : Geometry) (view : View) (turn : Turn) (heard : Heard) → IsAnswer g view turn heard → IsHeardOf g turn heard
answer-kind g view (Do action) (Answer reply) h = reply-kind g view action reply h.kind
answer-kind g view (Do action) Start h = absurd h
answer-kind g view (Do action) PutDone h = absurd h
answer-kind g view (Do action) PutFull h = absurd h
answer-kind g view (Do action) (Took page) h = absurd h
answer-kind g view (Do action) TookNone h = absurd h
answer-kind g view (Put lane page) PutDone h = tt
answer-kind g view (Put lane page) PutFull h = tt
answer-kind g view (Put lane page) Start h = absurd h
answer-kind g view (Put lane page) (Answer reply) h = absurd h
answer-kind g view (Put lane page) (Took b) h = absurd h
answer-kind g view (Put lane page) TookNone h = absurd h
answer-kind g view (Take lane) (Took page) h = tt
answer-kind g view (Take lane) TookNone h = tt
answer-kind g view (Take lane) Start h = absurd h
answer-kind g view (Take lane) (Answer reply) h = absurd h
answer-kind g view (Take lane) PutDone h = absurd h
answer-kind g view (Take lane) PutFull h = absurd h
answer-kind g view End heard h = absurd h

-- What is left, with whatever number of tries.

-- another pattern is left whose lists are of the one that is left, with some number of tries
pub tries-as : {E O : Type 0} (whole : List E → O → Type 0) (turns : List E) (was now : ℕ → List E → O → Type 0) (more : ℕ → ℕ)
    → IsLeft whole turns (Sometimes was) → ((tries : ℕ) (rest : List E) (o : O) → now tries rest o → was (more tries) rest o) → IsLeft whole turns (Sometimes now)
tries-as whole turns was now more due fits = record { carry = λ rest o h. due.carry rest o (record { tries = more h.tries; is = fits h.tries rest o h.is }) }

-- after a first list, what comes after it is left
pub tries-after : {E X O : Type 0} (whole : List E → O → Type 0) (turns inner : List E) (first : List E → X → Type 0) (after : ℕ → X → List E → O → Type 0) (end : X)
    → IsLeft whole turns (Sometimes (λ tries. Follows first (after tries))) → first inner end → IsLeft whole (turns ++ inner) (Sometimes (λ tries. after tries end))
tries-after {E} {X} {O} whole turns inner first after end due shown = record {
  carry = λ rest o h. subst (λ (l : List E). whole l o) (sym (append_assoc turns inner rest))
      (due.carry (inner ++ rest) o (record { tries = h.tries; is = record { end = end; front = inner; back = rest; shown = shown; rest = h.is; is = refl } }));
}

-- after a turn and what was heard
pub tries-heard : {O : Type 0} (g : Geometry) (whole : Turns → O → Type 0) (turns : Turns) (turn : Turn) (heard : Heard) (after : ℕ → Heard → Turns → O → Type 0)
    → IsLeft whole turns (Sometimes (λ tries. Follows (Hears g turn) (after tries))) → IsHeardOf g turn heard → IsLeft whole (turns ++ (turn, heard) ∷ []) (Sometimes (λ tries. after tries heard))
tries-heard g whole turns turn heard after due kind = tries-after whole turns ((turn, heard) ∷ []) (Hears g turn) after heard due (record { is = refl; kind = kind })

-- a turn that is left begins a finished list, where with something that is heard what comes after it can end
pub begun-heard : {O : Type 0} (g : Geometry) (whole : Turns → O → Type 0) (turns : Turns) (turn : Turn) (heard : Heard) (after : ℕ → Heard → Turns → O → Type 0) (tries : ℕ)
    → IsLeft whole turns (Sometimes (λ tries. Follows (Hears g turn) (after tries))) → IsHeardOf g turn heard → CanEnd (after tries heard) → IsTurnBegun whole turns turn
begun-heard g whole turns turn heard after tries due kind can = record {
  heard = heard;
  can = record { rest = can.rest; outcome = can.outcome; shown = (tries-heard g whole turns turn heard after due kind).carry can.rest can.outcome (record { tries = tries; is = can.shown }) };
}

-- Lists of actions, as turns.

pub turns-append : (a b : Own) → action_turns (a ++ b) ≡ action_turns a ++ action_turns b
turns-append [] b = refl
turns-append (event ∷ a) b = ap (λ (l : Turns). (Do event.0, Answer event.1) ∷ l) (turns-append a b)

pub own-turns : (own : Own) → own_list (action_turns own) ≡ own
own-turns [] = refl
own-turns (event ∷ own) = ap (λ (l : Own). event ∷ l) (own-turns own)

-- one action more after a front
pub turns-push : (front : Turns) (own : Own) (action : Action) (reply : Reply) → (front ++ action_turns own) ++ (Do action, Answer reply) ∷ [] ≡ front ++ action_turns (own ++ (action, reply) ∷ [])
turns-push front own action reply = append_assoc front (action_turns own) ((Do action, Answer reply) ∷ []) ∙ ap (λ (l : Turns). front ++ l) (sym (turns-append own ((action, reply) ∷ [])))

-- The view.

pub then-append : (g : Geometry) (view : View) (a b : Turns) → view_then g view (a ++ b) ≡ view_then g (view_then g view a) b
then-append g view a b = ap (λ (l : Own). view_after g view l) (own-append a b) ∙ view-append g view (own_list a) (own_list b)

-- after actions
pub then-own : (g : Geometry) (view : View) (front : Turns) (own : Own) → view_then g view (front ++ action_turns own) ≡ view_after g (view_then g view front) own
then-own g view front own = then-append g view front (action_turns own) ∙ ap (λ (l : Own). view_after g (view_then g view front) l) (own-turns own)

-- after one turn more
pub then-push : (g : Geometry) (view : View) (turns : Turns) (turn : Turn) (heard : Heard) → view_then g view (turns ++ (turn, heard) ∷ []) ≡ view_after g (view_then g view turns) (own_turn turn heard)
then-push g view turns turn heard = ap (λ (l : Own). view_after g view l) (own-push turns turn heard) ∙ view-append g view (own_list turns) (own_turn turn heard)

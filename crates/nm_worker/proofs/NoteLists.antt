-- Lists of notes: the turns and the own list that are read off them.
use Rattle.std.proofs.Common.{◌≡◌, ℕ, [], ◌∷◌, ◌++◌, Some, None, refl, sym, ap, ◌∙◌, append_assoc}
use Rattle.nm_base.specs.Geometry.{Geometry}
use Rattle.nm_action.specs.declared.action.Action.{Action}
use Rattle.nm_action.specs.declared.action.Reply.{Reply}
use Rattle.nm_action.specs.declared.tally.Tally.{Tally}
use Rattle.nm_action.specs.declared.turn.Turn.TheVariants as turn
use Rattle.nm_action.specs.declared.turn.Heard.TheVariants.{Answer}
use Rattle.nm_action.specs.Own.{Own}
use Rattle.nm_view.specs.Opening.{opening}
use Rattle.nm_event.specs.After.{view_after}
use Rattle.nm_part.proofs.OwnLemmas.{view-append}
use Rattle.nm_actor.specs.Turns.{Turns, own_list, turns_view}
use Rattle.nm_actor.proofs.TurnLists.{own-append}
use Rattle.nm_worker.specs.Notes.{Noted, Notes, noted_turns, tally_with, notes_tally_from, uncounted, counts_last, worked}

pub turns-append : (a b : Notes) → noted_turns (a ++ b) ≡ noted_turns a ++ noted_turns b
turns-append [] b = refl
turns-append (n ∷ a) b = ap (λ (l : Turns). (n.turn, n.heard) ∷ l) (turns-append a b)

pub own-uncounted : (own : Own) → own_list (noted_turns (uncounted own)) ≡ own
own-uncounted [] = refl
own-uncounted (e ∷ own) = ap (λ (l : Own). e ∷ l) (own-uncounted own)

pub own-worked : (counts : Tally) (own : Own) → own_list (noted_turns (worked counts own)) ≡ own
own-worked counts [] = refl
own-worked counts (e ∷ own) = ap (λ (l : Own). e ∷ l) (own-worked counts own)

-- the view after some notes, and more of them, of which the own list is this
pub view-more : (g : Geometry) (number : ℕ) (front more : Notes) (inner : Own) → own_list (noted_turns more) ≡ inner
    → turns_view g number (noted_turns (front ++ more)) ≡ view_after g (turns_view g number (noted_turns front)) inner
view-more g number front more inner is =
    ap (λ (l : Own). view_after g (opening g number) l) (ap own_list (turns-append front more) ∙ own-append (noted_turns front) (noted_turns more) ∙ ap (λ (l : Own). own_list (noted_turns front) ++ l) is)
    ∙ view-append g (opening g number) (own_list (noted_turns front)) inner

last-none : (counts : Tally) (own : Own) (e : Action × Reply) (rest : Own) → counts_last counts (own ++ e ∷ rest) ≡ None
last-none counts [] e rest = refl
last-none counts (x ∷ own) e rest = refl

-- in front of further events nothing is counted
pub worked-with : (counts : Tally) (inner : Own) (e : Action × Reply) (rest : Own) → worked counts (inner ++ e ∷ rest) ≡ uncounted inner ++ worked counts (e ∷ rest)
worked-with counts [] e rest = refl
worked-with counts (x ∷ inner) e rest = λ i. record { turn = turn.Do x.0; heard = Answer x.1; counts = last-none counts inner e rest i } ∷ worked-with counts inner e rest i

uncounted-one : (inner : Own) (action : Action) (reply : Reply) → uncounted inner ++ record { turn = turn.Do action; heard = Answer reply; counts = None } ∷ [] ≡ uncounted (inner ++ (action, reply) ∷ [])
uncounted-one [] action reply = refl
uncounted-one (x ∷ inner) action reply = ap (λ (l : Notes). record { turn = turn.Do x.0; heard = Answer x.1; counts = None } ∷ l) (uncounted-one inner action reply)

-- one more action at which nothing ends
pub uncounted-push : (front : Notes) (inner : Own) (action : Action) (reply : Reply) → (front ++ uncounted inner) ++ record { turn = turn.Do action; heard = Answer reply; counts = None } ∷ [] ≡ front ++ uncounted (inner ++ (action, reply) ∷ [])
uncounted-push front inner action reply = append_assoc front (uncounted inner) (record { turn = turn.Do action; heard = Answer reply; counts = None } ∷ []) ∙ ap (λ (l : Notes). front ++ l) (uncounted-one inner action reply)

-- one more action, at which a piece of work ends
pub worked-push : (counts : Tally) (front : Notes) (inner : Own) (action : Action) (reply : Reply) → (front ++ uncounted inner) ++ record { turn = turn.Do action; heard = Answer reply; counts = Some counts } ∷ [] ≡ front ++ worked counts (inner ++ (action, reply) ∷ [])
worked-push counts front inner action reply = append_assoc front (uncounted inner) (record { turn = turn.Do action; heard = Answer reply; counts = Some counts } ∷ []) ∙ ap (λ (l : Notes). front ++ l) (sym (worked-with counts inner (action, reply) []))

pub tally-append : (tally : Tally) (a : Notes) (n : Noted) → notes_tally_from tally (a ++ n ∷ []) ≡ tally_with (notes_tally_from tally a) n.counts
tally-append tally [] n = refl
tally-append tally (m ∷ a) n = tally-append (tally_with tally m.counts) a n

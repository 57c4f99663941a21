-- Turns that actors play on a machine, turn by turn.
use Rattle.std.proofs.Common.{◌≡◌, ◌≢◌, ◌==◌, ◌||◌, ◌&&◌, ℕ, Bool, true, false, List, [], ◌∷◌, ◌++◌, length, get_or, set, Option, Some, inl, inr, refl, sym, ap, subst, ◌∙◌, arith}
use Rattle.std.proofs.lemmas.List.{get_or-set_same, get_or-set_other, get_or_default, length-set}
use Rattle.std.proofs.lemmas.Bool.{cases_eq, eq-eqb, ne_eqb}
use Rattle.nm_base.specs.Geometry.{Geometry, IsGeometry}
use Rattle.nm_action.specs.declared.action.Event.{Event}
use Rattle.nm_action.specs.declared.turn.Turn.{Turn}
use Rattle.nm_action.specs.declared.turn.Turn.TheVariants.{End}
use Rattle.nm_action.specs.declared.turn.Heard.{Heard}
use Rattle.nm_action.specs.Own.{own_of}
use Rattle.nm_view.specs.Views.{View}
use Rattle.nm_view.specs.Opening.{opening, IsActor}
use Rattle.nm_event.specs.After.{view_after}
use Rattle.nm_core.specs.State.{State, start, view_of, actor_count}
use Rattle.nm_core.specs.Runs.{IsRun, state_after}
use Rattle.nm_actor.specs.Turns.{Turns, turns_view}
use Rattle.nm_actor.specs.Actors.{answered, IsAnswer, IsAnswerTo, IsPermittedTurn, HasHeard, IsTurn}
use Rattle.nm_queue.specs.Ports.{PortLanes}
use Rattle.nm_schedule.specs.declared.turn.Played.{Played}
use Rattle.nm_schedule.specs.Played.{turns_by, has_ended, events_of}
use Rattle.nm_schedule.proofs.Turns.{turns-own, turns-other}
use Rattle.nm_schedule.proofs.Actives.{ended-push}
use Rattle.nm_play.specs.Answered.{IsTurnAnswered}
use Rattle.nm_play.specs.Played.{RepliesFit, is_end, HasGiven, IsBefore, IsPlaying, HasPlaying, IsTurnPlayed}
use Rattle.nm_play.proofs.Own.{view-of-turns}
use Rattle.nm_play.proofs.Lanes.{lanes-more, lanes-answer}
use Rattle.nm_play.proofs.Making.{IsRunTo, run-turn, turn-answers, events-push, geometry-from}

-- what the own list of an actor tells of its view after a run
abbrev pub ViewsFollow : Type 0
ViewsFollow = (g : Geometry) (events : List Event) (actor : ℕ) → IsActor g actor → IsRun g events → view_of (state_after g events) actor ≡ view_after g (opening g actor) (own_of actor events)

abbrev Agrees : Type 1
Agrees = ℕ → Turns → Option Turn → Type 0

-- ---- before the turn

playing-geometry : (g : Geometry) (agrees : Agrees) (state : State) (lanes : PortLanes) (given : List Turn) (kept : List Played → Type 0) (played : List Played)
    → IsPlaying g agrees state lanes given kept played → state.geometry ≡ g
playing-geometry g agrees state lanes given kept played h = ap (λ (s : State). s.geometry) h.reached ∙ geometry-from (start g) (events_of played)

playing-view : (g : Geometry) (agrees : Agrees) (state : State) (lanes : PortLanes) (given : List Turn) (kept : List Played → Type 0) (played : List Played) (actor : ℕ)
    → ViewsFollow → IsPlaying g agrees state lanes given kept played → IsActor g actor → view_of state actor ≡ turns_view g actor (turns_by actor played)
playing-view g agrees state lanes given kept played actor law h there = view-of-turns g state played actor law there h.run h.reached

-- the turn that an actor gave last is permitted
pub playing-permitted : (g : Geometry) (agrees : Agrees) (state : State) (lanes : PortLanes) (given : List Turn) (kept : List Played → Type 0) (played : List Played) (actor : ℕ)
    → ViewsFollow → IsPlaying g agrees state lanes given kept played → IsActor g actor → IsPermittedTurn state.geometry (view_of state actor) (get_or given actor End)
playing-permitted g agrees state lanes given kept played actor law h there =
    let P : Geometry → Type 0 = λ k. IsPermittedTurn k (view_of state actor) (get_or given actor End) in
    let V : View → Type 0 = λ v. IsPermittedTurn g v (get_or given actor End) in
    subst P (sym (playing-geometry g agrees state lanes given kept played h))
    (subst V (sym (playing-view g agrees state lanes given kept played actor law h there)) (h.gave actor there).next.permitted)

pub playing-acts : (g : Geometry) (agrees : Agrees) (state : State) (lanes : PortLanes) (given : List Turn) (kept : List Played → Type 0) (played : List Played) (actor : ℕ)
    → IsPlaying g agrees state lanes given kept played → IsActor g actor → has_ended played actor ≡ false → is_end (get_or given actor End) ≡ false
playing-acts g agrees state lanes given kept played actor h there active = sym (h.gave actor there).ended ∙ active

-- ---- the answer

-- the actor hears what answers its last turn
pub playing-answer : (g : Geometry) (agrees : Agrees) (state after : State) (lanes lanes' : PortLanes) (given : List Turn) (kept : List Played → Type 0) (played : List Played) (actor : ℕ) (turn : Turn) (heard : Heard)
    → ViewsFollow → RepliesFit → IsGeometry g → IsPlaying g agrees state lanes given kept played → IsActor g actor → turn ≡ get_or given actor End
    → IsTurnAnswered state after lanes lanes' actor turn heard
    → IsAnswer g (turns_view g actor (turns_by actor played)) turn heard
playing-answer g agrees state after lanes lanes' given kept played actor turn heard law fits limits h there is a =
    let P : Turn → Type 0 = λ t. IsPermittedTurn state.geometry (view_of state actor) t in
    turn-answers g (events_of played) state after lanes lanes' actor turn heard (turns_view g actor (turns_by actor played)) fits limits (record { run = h.run; reached = h.reached }) there
    (subst P (sym is) (playing-permitted g agrees state lanes given kept played actor law h there)) a (playing-view g agrees state lanes given kept played actor law h there)

agreed-last : (g : Geometry) (agrees : Agrees) (state : State) (lanes : PortLanes) (given : List Turn) (kept : List Played → Type 0) (played : List Played) (actor : ℕ) (turn : Turn)
    → IsPlaying g agrees state lanes given kept played → IsActor g actor → turn ≡ get_or given actor End → agrees actor (turns_by actor played) (Some turn)
agreed-last g agrees state lanes given kept played actor turn h there is =
    let P : Turn → Type 0 = λ t. agrees actor (turns_by actor played) (Some t) in
    subst P (sym is) (h.gave actor there).next.agreed

pub playing-heard : (g : Geometry) (agrees : Agrees) (state after : State) (lanes lanes' : PortLanes) (given : List Turn) (kept : List Played → Type 0) (played : List Played) (actor : ℕ) (turn : Turn) (heard : Heard)
    → ViewsFollow → RepliesFit → IsGeometry g → IsPlaying g agrees state lanes given kept played → IsActor g actor → turn ≡ get_or given actor End
    → IsTurnAnswered state after lanes lanes' actor turn heard → HasHeard g actor (agrees actor) heard
playing-heard g agrees state after lanes lanes' given kept played actor turn heard law fits limits h there is a = record {
  turns = turns_by actor played;
  last = Some turn;
  agreed = agreed-last g agrees state lanes given kept played actor turn h there is;
  answer = playing-answer g agrees state after lanes lanes' given kept played actor turn heard law fits limits h there is a;
}

-- ---- after the turn

or-false : (b : Bool) → (b || false) ≡ b
or-false true = refl
or-false false = refl

-- the actor of the turn
given-own : (g : Geometry) (agrees agrees' : Turns → Option Turn → Type 0) (played : List Played) (p : Played) (next : Turn) → has_ended played p.actor ≡ false → p.ended ≡ is_end next
    → IsTurn g p.actor agrees' (turns_by p.actor played ++ (p.turn, p.heard) ∷ []) next → HasGiven g agrees' (played ++ p ∷ []) p.actor next
given-own g agrees agrees' played p next active ended turn =
    let P : Turns → Type 0 = λ t. IsTurn g p.actor agrees' t next in
    record {
      next = subst P (sym (turns-own played p)) turn;
      ended = ended-push played p p.actor ∙ ap (λ b. b || ((p.actor == p.actor) && p.ended)) active ∙ ap (λ b. b && p.ended) (eq-eqb p.actor p.actor refl) ∙ ended;
    }

-- another actor
given-other : (g : Geometry) (agrees agrees' : Turns → Option Turn → Type 0) (played : List Played) (p : Played) (actor : ℕ) (turn : Turn) → actor ≢ p.actor
    → ((turns : Turns) (last : Option Turn) → agrees turns last → agrees' turns last) → HasGiven g agrees played actor turn → HasGiven g agrees' (played ++ p ∷ []) actor turn
given-other g agrees agrees' played p actor turn n keeps h =
    let P : Turns → Type 0 = λ t. IsTurn g actor agrees' t turn in
    record {
      next = subst P (sym (turns-other played p actor n)) (record { agreed = keeps (turns_by actor played) (Some turn) h.next.agreed; permitted = h.next.permitted });
      ended = ended-push played p actor ∙ ap (λ b. has_ended played actor || (b && p.ended)) (ne_eqb p.actor actor (λ e. n (sym e))) ∙ or-false (has_ended played actor) ∙ h.ended;
    }

-- what each actor has given
given-more : (g : Geometry) (agrees agrees' : Agrees) (given : List Turn) (played : List Played) (p : Played) (next : Turn)
    → length given ≡ actor_count g → IsActor g p.actor → has_ended played p.actor ≡ false → p.ended ≡ is_end next
    → IsTurn g p.actor (agrees' p.actor) (turns_by p.actor played ++ (p.turn, p.heard) ∷ []) next
    → ((other : ℕ) (turns : Turns) (last : Option Turn) → other ≢ p.actor → agrees other turns last → agrees' other turns last)
    → ((actor : ℕ) → IsActor g actor → HasGiven g (agrees actor) played actor (get_or given actor End))
    → (actor : ℕ) → IsActor g actor → HasGiven g (agrees' actor) (played ++ p ∷ []) actor (get_or (set given p.actor next) actor End)
given-more g agrees agrees' given played p next size there active ended turn others h actor at = elim (cases_eq actor p.actor) [
  | inl e ↦ (
      let P : ℕ → Type 0 = λ a. HasGiven g (agrees' a) (played ++ p ∷ []) a (get_or (set given p.actor next) a End) in
      let T : Turn → Type 0 = λ t. HasGiven g (agrees' p.actor) (played ++ p ∷ []) p.actor t in
      subst P (sym e) (subst T (sym (get_or-set_same given p.actor next End (omega (arith, size, there)))) (given-own g (agrees p.actor) (agrees' p.actor) played p next active ended turn)))
  | inr n ↦ (
      let T : Turn → Type 0 = λ t. HasGiven g (agrees' actor) (played ++ p ∷ []) actor t in
      subst T (sym (get_or-set_other given p.actor actor next End n))
      (given-other g (agrees actor) (agrees' actor) played p actor (get_or given actor End) n (λ turns last k. others actor turns last n k) (h actor at)))
]

-- a turn more
pub playing-more : (g : Geometry) (agrees agrees' : Agrees) (state after : State) (lanes lanes' : PortLanes) (given given' : List Turn) (kept kept' : List Played → Type 0) (played : List Played) (actor : ℕ) (turn next : Turn) (heard : Heard) (ended : Bool)
    → ViewsFollow → RepliesFit → IsGeometry g → IsPlaying g agrees state lanes given kept played → IsActor g actor → has_ended played actor ≡ false → turn ≡ get_or given actor End
    → IsTurnAnswered state after lanes lanes' actor turn heard
    → ((turns : Turns) (last : Option Turn) → agrees actor turns last → IsAnswerTo g (turns_view g actor turns) last heard → IsTurn g actor (agrees' actor) (answered last heard turns) next)
    → ((other : ℕ) (turns : Turns) (last : Option Turn) → other ≢ actor → agrees other turns last → agrees' other turns last)
    → given' ≡ set given actor next → ended ≡ is_end next
    → kept' (played ++ record { actor = actor; turn = turn; heard = heard; ended = ended } ∷ [])
    → IsTurnPlayed g actor played (record { actor = actor; turn = turn; heard = heard; ended = ended })
    × IsPlaying g agrees' after lanes' given' kept' (played ++ record { actor = actor; turn = turn; heard = heard; ended = ended } ∷ [])
playing-more g agrees agrees' state after lanes lanes' given given' kept kept' played actor turn next heard ended law fits limits h there active is a turns others set-is end-is kept-so =
    let p : Played = record { actor = actor; turn = turn; heard = heard; ended = ended } in
    let P : Turn → Type 0 = λ t. IsPermittedTurn state.geometry (view_of state actor) t in
    let G : List Turn → Type 0 = λ l. (a : ℕ) → IsActor g a → HasGiven g (agrees' a) (played ++ p ∷ []) a (get_or l a End) in
    let N : List Turn → Type 0 = λ l. length l ≡ actor_count g in
    let E : List Event → Type 0 = λ l. IsRunTo g l after in
    let run : IsRunTo g (events_of (played ++ p ∷ [])) after =
    subst E (sym (events-push played p)) (run-turn g (events_of played) state after lanes lanes' actor turn heard ended (record { run = h.run; reached = h.reached }) there
    (subst P (sym is) (playing-permitted g agrees state lanes given kept played actor law h there)) a) in
    let heard-so : IsTurn g actor (agrees' actor) (turns_by actor played ++ (turn, heard) ∷ []) next =
    turns (turns_by actor played) (Some turn) (agreed-last g agrees state lanes given kept played actor turn h there is)
    (playing-answer g agrees state after lanes lanes' given kept played actor turn heard law fits limits h there is a) in (
      record { same = refl; lanes = lanes-answer g state after lanes lanes' played actor turn heard h.held a },
      record {
        run = run.run;
        reached = run.reached;
        held = λ lane. lanes-more g state after lanes lanes' played actor turn heard ended a lane (h.held lane);
        actors = subst N (sym set-is) (length-set given actor next ∙ h.actors);
        gave = subst G (sym set-is) (given-more g agrees agrees' given played p next h.actors there active end-is heard-so others h.gave);
        told = kept-so;
      },
    )

-- ---- the turn that was given

-- the turn at the place of an actor
pub given-turn : (g : Geometry) (agrees : Agrees) (state : State) (lanes : PortLanes) (given : List Turn) (kept : List Played → Type 0) (played : List Played) (actor : ℕ) (turn : Turn)
    → IsPlaying g agrees state lanes given kept played → IsActor g actor → turn ≡ get_or given actor turn → turn ≡ get_or given actor End
given-turn g agrees state lanes given kept played actor turn h there is =
    let n = h.actors in
    is ∙ get_or_default given actor turn End (omega (arith, n, there))

pub turn-permitted : (g : Geometry) (agrees : Agrees) (state : State) (lanes : PortLanes) (given : List Turn) (kept : List Played → Type 0) (actor : ℕ) (turn : Turn)
    → ViewsFollow → (h : HasPlaying g agrees state lanes given kept actor) → turn ≡ get_or given actor turn → IsPermittedTurn state.geometry (view_of state actor) turn
turn-permitted g agrees state lanes given kept actor turn law h is =
    let P : Turn → Type 0 = λ t. IsPermittedTurn state.geometry (view_of state actor) t in
    subst P (sym (given-turn g agrees state lanes given kept h.played actor turn h.playing h.exists is)) (playing-permitted g agrees state lanes given kept h.played actor law h.playing h.exists)

pub turn-exists : (g : Geometry) (agrees : Agrees) (state : State) (lanes : PortLanes) (given : List Turn) (kept : List Played → Type 0) (actor : ℕ)
    → (h : HasPlaying g agrees state lanes given kept actor) → IsActor state.geometry actor
turn-exists g agrees state lanes given kept actor h =
    let P : Geometry → Type 0 = λ k. IsActor k actor in
    subst P (sym (playing-geometry g agrees state lanes given kept h.played h.playing)) h.exists

pub turn-heard : (g : Geometry) (agrees : Agrees) (state after : State) (lanes lanes' : PortLanes) (given : List Turn) (kept : List Played → Type 0) (actor : ℕ) (turn : Turn) (heard : Heard)
    → ViewsFollow → RepliesFit → IsGeometry g → (h : HasPlaying g agrees state lanes given kept actor) → turn ≡ get_or given actor turn
    → IsTurnAnswered state after lanes lanes' actor turn heard → HasHeard g actor (agrees actor) heard
turn-heard g agrees state after lanes lanes' given kept actor turn heard law fits limits h is a =
    playing-heard g agrees state after lanes lanes' given kept h.played actor turn heard law fits limits h.playing h.exists (given-turn g agrees state lanes given kept h.played actor turn h.playing h.exists is) a

-- ---- what a watcher sees

-- the machine before a turn
pub playing-before : (g : Geometry) (agrees : Agrees) (state : State) (lanes : PortLanes) (given : List Turn) (kept : List Played → Type 0) (played : List Played)
    → IsPlaying g agrees state lanes given kept played → IsBefore g state played
playing-before g agrees state lanes given kept played h = record { run = h.run; reached = h.reached }

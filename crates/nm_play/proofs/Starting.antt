-- The first turns, and the turns of a schedule one after the other.
use Rattle.std.proofs.Common.{◌≡◌, ◌≢◌, ◌<◌, ◌+◌, ◌⊎◌, ℕ, zero, suc, false, List, [], ◌∷◌, ◌++◌, length, get_or, Option, Some, None, inl, inr, refl, sym, ap, subst, ◌∙◌, append_assoc, arith}
use Rattle.std.proofs.lemmas.List.{append-nil, get_or_append_left}
use Rattle.nm_schedule.proofs.Snoc.{length-snoc}
use Rattle.std.proofs.lemmas.Bool.{cases_eq}
use Rattle.nm_base.specs.Geometry.{Geometry, page_count}
use Rattle.nm_action.specs.declared.turn.Lane.{Lane}
use Rattle.nm_action.specs.declared.turn.Lane.TheVariants.{Candidates, Pending}
use Rattle.nm_action.specs.declared.turn.Turn.{Turn}
use Rattle.nm_action.specs.declared.turn.Turn.TheVariants.{Do, Put, Take, End}
use Rattle.nm_action.specs.declared.turn.Heard.TheVariants.{Start}
use Rattle.nm_view.specs.Opening.{IsActor}
use Rattle.nm_core.specs.State.{State, start, actor_count}
use Rattle.nm_actor.specs.Turns.{Turns, turns_view}
use Rattle.nm_actor.specs.Actors.{answered, IsAnswerTo, HasHeard, IsTurn}
use Rattle.nm_queue.specs.Ports.{PortLanes}
use Rattle.nm_script.specs.declared.schedule.Schedule.{Schedule}
use Rattle.nm_schedule.specs.declared.limits.TheConstants.{MOST_CANDIDATES}
use Rattle.nm_schedule.specs.declared.turn.Played.{Played}
use Rattle.nm_schedule.specs.Played.{has_ended, events_of, order_of}
use Rattle.nm_schedule.specs.Picks.{most_turns}
use Rattle.nm_schedule.specs.Scheduled.{IsTurnAfter, AreTurns}
use Rattle.nm_schedule.specs.Standing.{Standing, StandsAfter, IsPick}
use Rattle.nm_play.specs.Crews.{MayStart}
use Rattle.nm_play.specs.Played.{is_end, IsLane, IsPlaying, IsTurnPlayed, AreGivenBelow, IsAtTurn, IsPlayedOut, IsWatchedRun}

abbrev Agrees : Type 1
Agrees = ℕ → Turns → Option Turn → Type 0

-- ---- the first turns

pub start-heard : (g : Geometry) (actor : ℕ) (agrees : Turns → Option Turn → Type 0) → agrees [] None → HasHeard g actor agrees Start
start-heard g actor agrees h = record { turns = []; last = None; agreed = h; answer = tt }

get-front : (given : List Turn) (turn : Turn) (i : ℕ) → i < length given → get_or (given ++ turn ∷ []) i End ≡ get_or given i End
get-front given turn i lt = get_or_append_left given (turn ∷ []) End i lt

get-last : (given : List Turn) (turn : Turn) (i : ℕ) → i ≡ length given → get_or (given ++ turn ∷ []) i End ≡ turn
get-last [] turn i e = ap (λ k. get_or (turn ∷ []) k End) e
get-last (x ∷ given) turn zero e = absurd (omega (arith, e))
get-last (x ∷ given) turn (suc i) e = get-last given turn i (omega (arith, e))

-- one first turn more
pub given-next : (g : Geometry) (agrees agrees' : Agrees) (given given' : List Turn) (n : ℕ) (turn : Turn) → IsActor g n → AreGivenBelow g agrees given n
    → ((turns : Turns) (last : Option Turn) → agrees n turns last → IsAnswerTo g (turns_view g n turns) last Start → IsTurn g n (agrees' n) (answered last Start turns) turn)
    → ((other : ℕ) (turns : Turns) (last : Option Turn) → other ≢ n → agrees other turns last → agrees' other turns last)
    → given' ≡ given ++ turn ∷ [] → AreGivenBelow g agrees' given' (n + 1)
given-next g agrees agrees' given given' n turn there h first others is =
    let first-turn : IsTurn g n (agrees' n) [] turn = first [] None (h.others n (omega arith) there) tt in
    let P : List Turn → Type 0 = λ l. AreGivenBelow g agrees' l (n + 1) in
    subst P (sym is) (record {
      size = length-snoc given turn ∙ ap (λ k. k + 1) h.size;
      turns = λ actor lt. elim (cases_eq actor n) [
        | inl e ↦ (
            let Q : ℕ → Type 0 = λ a. IsTurn g a (agrees' a) [] (get_or (given ++ turn ∷ []) a End) in
            let T : Turn → Type 0 = λ t. IsTurn g n (agrees' n) [] t in
            subst Q (sym e) (subst T (sym (get-last given turn n (sym h.size))) first-turn))
        | inr ne ↦ (
            let below : actor < n = omega (arith, lt, ne) in
            let T : Turn → Type 0 = λ t. IsTurn g actor (agrees' actor) [] t in
            let k = h.turns actor below in
            subst T (sym (get-front given turn actor (omega (arith, below, h.size)))) (record { agreed = others actor [] (Some (get_or given actor End)) ne k.agreed; permitted = k.permitted }))
      ];
      others = λ actor le at. others actor [] None (λ e. omega (arith, e, le)) (h.others actor (omega (arith, le)) at);
    })

pub given-none : (g : Geometry) (agrees : Agrees) (given : List Turn) → given ≡ [] → ((actor : ℕ) → IsActor g actor → agrees actor [] None) → AreGivenBelow g agrees given 0
given-none g agrees given e h = record {
  size = ap length e;
  turns = λ actor lt. absurd (omega (arith, lt));
  others = λ actor le there. h actor there;
}

-- ---- before the first turn

not-end : (agrees : Turns → Option Turn → Type 0) (turn : Turn) → (agrees [] (Some End) → ⊥) → agrees [] (Some turn) → false ≡ is_end turn
not-end agrees (Do action) ends h = refl
not-end agrees (Put lane page) ends h = refl
not-end agrees (Take lane) ends h = refl
not-end agrees End ends h = absurd (ends h)

first-lane : (g : Geometry) (lanes : PortLanes) → lanes ≡ record { candidates = record { capacity = MOST_CANDIDATES; pages = [] }; pending = record { capacity = page_count g; pages = [] } } → (lane : Lane) → IsLane g lanes [] lane
first-lane g lanes e lane =
    let P : PortLanes → Type 0 = λ l. IsLane g l [] lane in
    subst P (sym e) (elim lane as (λ k. IsLane g (record { candidates = record { capacity = MOST_CANDIDATES; pages = [] }; pending = record { capacity = page_count g; pages = [] } }) [] k) [
      | Candidates ↦ record { capacity = refl; pages = refl; taken = omega arith }
      | Pending ↦ record { capacity = refl; pages = refl; taken = omega arith }
    ])

pub playing-first : {K : Type 0} (g : Geometry) (agrees : K → Agrees) (crew after : K) (state : State) (lanes : PortLanes) (given : List Turn) (kept : List Played → Type 0)
    → MayStart g agrees crew → state ≡ start g → lanes ≡ record { candidates = record { capacity = MOST_CANDIDATES; pages = [] }; pending = record { capacity = page_count g; pages = [] } }
    → AreGivenBelow g (agrees after) given (actor_count g) → kept []
    → IsPlaying g (agrees after) state lanes given kept []
playing-first g agrees crew after state lanes given kept may is lanes-are h nothing = record {
  run = tt;
  reached = is;
  held = first-lane g lanes lanes-are;
  actors = h.size;
  gave = λ actor there. (let t = h.turns actor there in record { next = t; ended = not-end (agrees after actor) (get_or given actor End) (may.acts after actor) t.agreed });
  told = nothing;
}

-- ---- a turn of a schedule

turns-push : (g : Geometry) (schedule : Schedule) (before played : List Played) (p : Played) → AreTurns g schedule before played → IsTurnAfter g schedule (before ++ played) p → AreTurns g schedule before (played ++ p ∷ [])
turns-push g schedule before [] p h t = (let P : List Played → Type 0 = λ l. IsTurnAfter g schedule l p in subst P (append-nil before) t, tt)
turns-push g schedule before (x ∷ played) p h t =
    let P : List Played → Type 0 = λ l. IsTurnAfter g schedule l p in
    (h.0, turns-push g schedule (before ++ x ∷ []) played p h.1 (subst P (sym (append_assoc before (x ∷ []) played)) t))

pub so-far-more : (g : Geometry) (schedule : Schedule) (agrees agrees' : Agrees) (state after : State) (lanes lanes' : PortLanes) (given given' : List Turn) (kept kept' : List Played → Type 0) (picker picker' : Standing) (n actor : ℕ) (p : Played)
    → (h : IsAtTurn g schedule agrees state lanes given kept picker n) → n < most_turns schedule → IsPick schedule (actor_count g) h.played actor
    → IsTurnPlayed g actor h.played p × IsPlaying g agrees' after lanes' given' kept' (h.played ++ p ∷ [])
    → StandsAfter schedule (actor_count g) picker' (h.played ++ p ∷ [])
    → IsAtTurn g schedule agrees' after lanes' given' kept' picker' (n + 1)
so-far-more g schedule agrees agrees' state after lanes lanes' given given' kept kept' picker picker' n actor p h early pick played stands =
    let P : ℕ → Type 0 = λ a. IsPick schedule (actor_count g) h.played a in
    let k = subst P (sym played.0.same) pick in
    record {
      played = h.played ++ p ∷ [];
      so_far = record {
        playing = played.1;
        turns = turns-push g schedule [] h.played p h.so_far.turns (record { early = omega (arith, early, h.many); exists = k.exists; active = k.active; picked = k.picked; lanes = played.0.lanes });
        stands = stands;
      };
      many = length-snoc h.played p ∙ ap (λ i. i + 1) h.many;
    }

pub played-out : (g : Geometry) (schedule : Schedule) (agrees : Agrees) (state : State) (lanes : PortLanes) (given : List Turn) (kept : List Played → Type 0) (picker : Standing) (n : ℕ)
    → (h : IsAtTurn g schedule agrees state lanes given kept picker n) → ((picker.active ≡ []) ⊎ (n ≡ most_turns schedule)) → IsPlayedOut g schedule agrees state lanes given kept n
played-out g schedule agrees state lanes given kept picker n h stops = record {
  played = h.played;
  playing = h.so_far.playing;
  many = sym h.many;
  scheduled = record {
    turns = h.so_far.turns;
    stops = elim stops [ inl none ↦ inl (sym h.so_far.stands.active ∙ none) | inr all ↦ inr (h.many ∙ all) ];
  };
}

-- ---- the run

pub run-of : (g : Geometry) (schedule : Schedule) (agrees : Agrees) (state : State) (lanes : PortLanes) (given : List Turn) (kept : List Played → Type 0) (turns : ℕ)
    → IsPlayedOut g schedule agrees state lanes given kept turns → IsWatchedRun g schedule agrees state kept turns
run-of g schedule agrees state lanes given kept turns h = record {
  events = events_of h.played;
  order = order_of h.played;
  run = record {
    played = h.played;
    scheduled = h.scheduled;
    listed = refl;
    ordered = refl;
    run = h.playing.run;
    reached = h.playing.reached;
    actors = λ actor there. record { last = get_or given actor End; given = h.playing.gave actor there };
  };
  told = h.playing.told;
  many = h.many;
}

-- ---- the same, over what a crew was made with

pub there-is : {M : Type 0} (geometry : M → Geometry) (made now : M) (actors actor : ℕ) → now ≡ made → actors ≡ actor_count (geometry made) → actor < actors → IsActor (geometry now) actor
there-is {M} geometry made now actors actor same many lt =
    let P : M → Type 0 = λ k. IsActor (geometry k) actor in
    let there : IsActor (geometry made) actor = omega (arith, many, lt) in
    subst P (sym same) there

pub given-more-of : {M : Type 0} (geometry : M → Geometry) (made now : M) (agrees agrees' : Agrees) (given given' : List Turn) (n : ℕ) (turn : Turn) → now ≡ made → IsActor (geometry now) n → AreGivenBelow (geometry made) agrees given n
    → ((turns : Turns) (last : Option Turn) → agrees n turns last → IsAnswerTo (geometry now) (turns_view (geometry now) n turns) last Start → IsTurn (geometry now) n (agrees' n) (answered last Start turns) turn)
    → ((other : ℕ) (turns : Turns) (last : Option Turn) → other ≢ n → agrees other turns last → agrees' other turns last)
    → given' ≡ given ++ turn ∷ [] → AreGivenBelow (geometry made) agrees' given' (n + 1)
given-more-of {M} geometry made now agrees agrees' given given' n turn same there h first others is =
    let P : M → Type 0 = λ k. (turns : Turns) (last : Option Turn) → agrees n turns last → IsAnswerTo (geometry k) (turns_view (geometry k) n turns) last Start → IsTurn (geometry k) n (agrees' n) (answered last Start turns) turn in
    let Q : M → Type 0 = λ k. IsActor (geometry k) n in
    given-next (geometry made) agrees agrees' given given' n turn (subst Q same there) h (subst P same first) others is

pub heard-first : {M : Type 0} (geometry : M → Geometry) (made now : M) (agrees : Agrees) (given : List Turn) (actors n : ℕ) → now ≡ made → actors ≡ actor_count (geometry made) → n < actors → AreGivenBelow (geometry made) agrees given n → HasHeard (geometry now) n (agrees n) Start
heard-first geometry made now agrees given actors n same many lt h =
    start-heard (geometry now) n (agrees n) (h.others n (omega arith) (omega (arith, many, lt)))

pub opens-of : {K M : Type 0} (geometry : M → Geometry) (made : K → M) (g : Geometry) (agrees : K → Agrees) (crew : K) → geometry (made crew) ≡ g → MayStart g agrees crew → (actor : ℕ) → IsActor (geometry (made crew)) actor → agrees crew actor [] None
opens-of geometry made g agrees crew same may actor there =
    let P : Geometry → Type 0 = λ k. IsActor k actor in
    may.opens actor (subst P same there)

pub started-of : {K M : Type 0} (geometry : M → Geometry) (made : K → M) (g : Geometry) (actors : ℕ) (agrees : K → Agrees) (crew after : K) (state : State) (lanes : PortLanes) (given : List Turn) (kept : List Played → Type 0)
    → geometry (made crew) ≡ g → MayStart g agrees crew → state ≡ start g → lanes ≡ record { candidates = record { capacity = MOST_CANDIDATES; pages = [] }; pending = record { capacity = page_count g; pages = [] } }
    → actors ≡ actor_count g → AreGivenBelow (geometry (made crew)) (agrees after) given actors → kept []
    → IsPlaying g (agrees after) state lanes given kept []
started-of geometry made g actors agrees crew after state lanes given kept same may is lanes-are many h nothing =
    let P : Geometry → Type 0 = λ k. AreGivenBelow k (agrees after) given actors in
    let Q : ℕ → Type 0 = λ n. AreGivenBelow g (agrees after) given n in
    playing-first g agrees crew after state lanes given kept may is lanes-are (subst Q many (subst P same h)) nothing

pub run-at : (g machine : Geometry) (schedule : Schedule) (agrees : Agrees) (state : State) (lanes : PortLanes) (given : List Turn) (kept : Geometry → List Played → Type 0) (turns : ℕ)
    → machine ≡ g → IsPlayedOut machine schedule agrees state lanes given (kept machine) turns → IsWatchedRun g schedule agrees state (kept g) turns
run-at g machine schedule agrees state lanes given kept turns e h =
    let P : Geometry → Type 0 = λ k. IsWatchedRun k schedule agrees state (kept k) turns in
    subst P e (run-of machine schedule agrees state lanes given (kept machine) turns h)

-- a turn of a schedule, by what the picker, the turn and the note promise
pub turn-made : {M : Type 0} (geometry : M → Geometry) (made now : M) (schedule : Schedule) (agrees agrees' : Agrees) (state after : State) (lanes lanes' : PortLanes) (given given' : List Turn) (kept kept' : Geometry → List Played → Type 0) (picker picker' : Standing) (n actor : ℕ) (p : Played)
    → now ≡ made → IsAtTurn (geometry made) schedule agrees state lanes given (kept (geometry made)) picker n → n < most_turns schedule
    → ((schedule : Schedule) (actors : ℕ) (before : List Played) → StandsAfter schedule actors picker before → IsPick schedule actors before actor)
    → ((before : List Played) → IsPlaying (geometry now) agrees state lanes given (kept (geometry now)) before → has_ended before actor ≡ false
    → IsTurnPlayed (geometry now) actor before p × IsPlaying (geometry now) agrees' after lanes' given' (kept' (geometry now)) (before ++ p ∷ []))
    → ((schedule : Schedule) (actors : ℕ) (before : List Played) → StandsAfter schedule actors picker before → StandsAfter schedule actors picker' (before ++ p ∷ []))
    → IsAtTurn (geometry made) schedule agrees' after lanes' given' (kept' (geometry made)) picker' (n + 1)
turn-made {M} geometry made now schedule agrees agrees' state after lanes lanes' given given' kept kept' picker picker' n actor p same h early pick turn note =
    let g = geometry made in
    let picked = pick schedule (actor_count g) h.played h.so_far.stands in
    let B : M → Type 0 = λ k. IsPlaying (geometry k) agrees state lanes given (kept (geometry k)) h.played in
    let A : M → Type 0 = λ k. IsTurnPlayed (geometry k) actor h.played p × IsPlaying (geometry k) agrees' after lanes' given' (kept' (geometry k)) (h.played ++ p ∷ []) in
    so-far-more g schedule agrees agrees' state after lanes lanes' given given' (kept g) (kept' g) picker picker' n actor p h early picked
    (subst A same (turn h.played (subst B (sym same) h.so_far.playing) picked.active)) (note schedule (actor_count g) h.played h.so_far.stands)

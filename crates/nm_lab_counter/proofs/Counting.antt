-- What is added to the count at a turn is what the turn's event adds to the slow accesses.
use Rattle.std.proofs.Common.{◌≡◌, ◌+◌, ◌<◌, ◌≤◌, ◌==◌, ◌^◌, if◌then◌else◌, ℕ, Bool, true, false, List, [], ◌∷◌, ◌++◌, Option, Some, None, length, refl, sym, ap, ap₂, ◌∙◌, arith}
use Rattle.std.proofs.lemmas.List.{length-append}
use Rattle.std.proofs.lemmas.List.Elements.{filter_map-append}
use Rattle.std.specs.List.{cons_option}
use Rattle.nm_base.specs.Geometry.{Geometry, backing_page, tier_of}
use Rattle.nm_flat.specs.declared.access.Access.{Access}
use Rattle.nm_action.specs.declared.action.Action.{Action}
use Rattle.nm_action.specs.declared.action.Action.TheVariants.{Load, Store, Add, Look, Walk, Peek, Poll, Ack, Lock, Unlock, Bump, SeeAck, Raise, Soften, Arm, ClearDirty, Unmap, Map, Grant, CopyLoad, CopyStore, SetHome, SetShadow, TakeTurn, Scan, GiveFrame, PutFrame, ReleaseTurn, Mark, Read}
use Rattle.nm_action.specs.declared.action.Event.{Event}
use Rattle.nm_action.specs.declared.action.Reply.{Reply}
use Rattle.nm_action.specs.declared.action.Reply.TheVariants.{Done, Word, Busy, Lost}
use Rattle.nm_action.specs.declared.turn.Heard.{Heard}
use Rattle.nm_action.specs.declared.turn.Heard.TheVariants.{Start, Answer, PutDone, PutFull, Took, TookNone}
use Rattle.nm_action.specs.declared.turn.Turn.{Turn}
use Rattle.nm_action.specs.declared.turn.Turn.TheVariants.{Do, Put, Take, End}
use Rattle.nm_core.specs.State.{State, start}
use Rattle.nm_core.specs.Runs.{access_by, access_of, after_event, state_after, state_from}
use Rattle.nm_schedule.specs.declared.turn.Played.{Played}
use Rattle.nm_schedule.specs.Played.{event_by, event_of, events_of}
use Rattle.nm_lab.specs.Slow.{home_in, slow_access, slow_accesses, slow_frame, slow_from, slow_page}
use Rattle.nm_lab_counter.specs.Counts.{IsCount, IsSeen, slow_turn, when_told, when_word}

-- ---- lists of events

slow_append : (s : State) (xs ys : List Event) → slow_from s (xs ++ ys) ≡ slow_from s xs + slow_from (state_from s xs) ys
slow_append s [] ys = omega arith
slow_append s (e ∷ xs) ys =
    let more = slow_append (after_event s e) xs ys in
    omega (arith, more)

frame_few : (g : Geometry) (f : Option ℕ) → slow_frame g f ≤ 1
frame_few g None = omega arith
frame_few g (Some f) = go (tier_of g f == 0)
  where
    go : (b : Bool) → (if b then 0 else 1) ≤ 1
    go true = omega arith
    go false = omega arith

page_few : (s : State) (page : Option ℕ) → slow_page s page ≤ 1
page_few s None = omega arith
page_few s (Some page) = frame_few s.geometry (home_in s page)

access_few : (s : State) (a : Option Access) → slow_access s a ≤ 1
access_few s None = omega arith
access_few s (Some a) = page_few s (backing_page s.geometry a.vpage)

slow_few : (s : State) (events : List Event) → slow_from s events ≤ length events
slow_few s [] = omega arith
slow_few s (e ∷ events) =
    let first = access_few s (access_of e) in
    let more = slow_few (after_event s e) events in
    omega (arith, first, more)

cons_few : (o : Option Event) (events : List Event) → length (cons_option o events) ≤ length events + 1
cons_few None events = omega arith
cons_few (Some e) events = omega arith

events_few : (played : List Played) → length (events_of played) ≤ length played
events_few [] = omega arith
events_few (p ∷ played) =
    let first = cons_few (event_of p) (events_of played) in
    let more = events_few played in
    omega (arith, first, more)

-- ---- what a turn adds

none_added : (r : Reply) → 0 ≡ when_word r 0
none_added Done = refl
none_added (Word x) = refl
none_added (Busy x) = refl
none_added (Lost x) = refl

load_added : (s : State) (cpu a0 a1 : ℕ) (r : Reply) → slow_access s (access_by cpu (Load a0 a1) r) ≡ when_word r (slow_access s (access_by cpu (Load a0 a1) (Word 0)))
load_added s cpu a0 a1 Done = refl
load_added s cpu a0 a1 (Word x0) = refl
load_added s cpu a0 a1 (Busy x0) = refl
load_added s cpu a0 a1 (Lost x0) = refl

store_added : (s : State) (cpu a0 a1 a2 : ℕ) (r : Reply) → slow_access s (access_by cpu (Store a0 a1 a2) r) ≡ when_word r (slow_access s (access_by cpu (Store a0 a1 a2) (Word 0)))
store_added s cpu a0 a1 a2 Done = refl
store_added s cpu a0 a1 a2 (Word x0) = refl
store_added s cpu a0 a1 a2 (Busy x0) = refl
store_added s cpu a0 a1 a2 (Lost x0) = refl

add_added : (s : State) (cpu a0 a1 a2 : ℕ) (r : Reply) → slow_access s (access_by cpu (Add a0 a1 a2) r) ≡ when_word r (slow_access s (access_by cpu (Add a0 a1 a2) (Word 0)))
add_added s cpu a0 a1 a2 Done = refl
add_added s cpu a0 a1 a2 (Word x0) = refl
add_added s cpu a0 a1 a2 (Busy x0) = refl
add_added s cpu a0 a1 a2 (Lost x0) = refl

action_added : (s : State) (cpu : ℕ) (a : Action) (r : Reply) → slow_access s (access_by cpu a r) ≡ when_word r (slow_access s (access_by cpu a (Word 0)))
action_added s cpu (Load a0 a1) r = load_added s cpu a0 a1 r
action_added s cpu (Store a0 a1 a2) r = store_added s cpu a0 a1 a2 r
action_added s cpu (Add a0 a1 a2) r = add_added s cpu a0 a1 a2 r
action_added s cpu (Look a0) r = none_added r
action_added s cpu (Walk a0 a1 a2) r = none_added r
action_added s cpu (Peek a0) r = none_added r
action_added s cpu Poll r = none_added r
action_added s cpu (Ack a0) r = none_added r
action_added s cpu (Lock a0) r = none_added r
action_added s cpu (Unlock a0) r = none_added r
action_added s cpu Bump r = none_added r
action_added s cpu (SeeAck a0) r = none_added r
action_added s cpu (Raise a0) r = none_added r
action_added s cpu (Soften a0 a1) r = none_added r
action_added s cpu (Arm a0) r = none_added r
action_added s cpu (ClearDirty a0) r = none_added r
action_added s cpu (Unmap a0) r = none_added r
action_added s cpu (Map a0 a1) r = none_added r
action_added s cpu (Grant a0) r = none_added r
action_added s cpu (CopyLoad a0 a1) r = none_added r
action_added s cpu (CopyStore a0 a1 a2 a3) r = none_added r
action_added s cpu (SetHome a0 a1) r = none_added r
action_added s cpu (SetShadow a0 a1 a2) r = none_added r
action_added s cpu (TakeTurn a0) r = none_added r
action_added s cpu (Scan a0 a1) r = none_added r
action_added s cpu (GiveFrame a0) r = none_added r
action_added s cpu (PutFrame a0) r = none_added r
action_added s cpu (ReleaseTurn a0) r = none_added r
action_added s cpu (Mark a0 a1 a2) r = none_added r
action_added s cpu (Read a0 a1) r = none_added r

nothing_told : (h : Heard) → 0 ≡ when_told h 0
nothing_told Start = refl
nothing_told (Answer r) = none_added r
nothing_told PutDone = refl
nothing_told PutFull = refl
nothing_told (Took x) = refl
nothing_told TookNone = refl

turn_added : (s : State) (actor : ℕ) (turn : Turn) (heard : Heard) → slow_from s (cons_option (event_by actor turn heard) []) ≡ when_told heard (slow_turn s actor turn)
turn_added s actor (Do a) Start = refl
turn_added s actor (Do a) (Answer r) = let added = action_added s actor a r in omega (arith, added)
turn_added s actor (Do a) PutDone = refl
turn_added s actor (Do a) PutFull = refl
turn_added s actor (Do a) (Took x) = refl
turn_added s actor (Do a) TookNone = refl
turn_added s actor (Put lane page) heard = nothing_told heard
turn_added s actor (Take lane) heard = nothing_told heard
turn_added s actor End heard = nothing_told heard

-- the count after a turn
pub counted : (g : Geometry) (before : List Played) (p : Played) (count next sum : ℕ) → IsSeen count next g before p.actor p.turn
    → (count + when_told p.heard next < 2 ^ 64 → sum ≡ count + when_told p.heard next) → IsCount sum g (before ++ p ∷ [])
counted g before p count next sum seen is few =
    let size : length (before ++ p ∷ []) ≡ length before + 1 = length-append before (p ∷ []) in
    let was : count ≡ slow_accesses g (events_of before) = seen.counted (omega (arith, size, few)) in
    let split : events_of (before ++ p ∷ []) ≡ events_of before ++ events_of (p ∷ []) = filter_map-append event_of before (p ∷ []) in
    let more : slow_from (start g) (events_of before ++ events_of (p ∷ [])) ≡ slow_accesses g (events_of before) + slow_from (state_after g (events_of before)) (events_of (p ∷ [])) = slow_append (start g) (events_of before) (events_of (p ∷ [])) in
    let added : slow_from (state_after g (events_of before)) (events_of (p ∷ [])) ≡ when_told p.heard (slow_turn (state_after g (events_of before)) p.actor p.turn) = turn_added (state_after g (events_of before)) p.actor p.turn p.heard in
    let told : when_told p.heard next ≡ when_told p.heard (slow_turn (state_after g (events_of before)) p.actor p.turn) = ap (when_told p.heard) seen.seen in
    let total : slow_accesses g (events_of (before ++ p ∷ [])) ≡ count + when_told p.heard next = ap (slow_from (start g)) split ∙ more ∙ ap₂ ◌+◌ (sym was) (added ∙ sym told) in
    let bound : slow_accesses g (events_of (before ++ p ∷ [])) ≤ length (events_of (before ++ p ∷ [])) = slow_few (start g) (events_of (before ++ p ∷ [])) in
    let turns = events_few (before ++ p ∷ []) in
    is (omega (arith, total, bound, turns, few)) ∙ sym total

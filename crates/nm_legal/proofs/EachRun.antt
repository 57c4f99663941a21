-- The accesses of each run are legal, and the state after it is linked to the memory that they leave.
use Rattle.std.proofs.Common.{◌≡◌, List, [], ◌∷◌, Option, Some, None, refl, sym, subst, ◌∙◌}
use Rattle.std.specs.List.{cons_option}
use Rattle.std.proofs.lemmas.List.{get_or-replicate}
use Rattle.std.proofs.lemmas.List.Elements.{All-nil, All-cons}
use Rattle.nm_base.specs.Geometry.{Geometry, IsGeometry, page_count}
use Rattle.nm_flat.specs.declared.access.Access.{Access}
use Rattle.nm_flat.specs.Memory.{Memory, IsPlaced, AllPlaced, empty_memory, memory_from, memory_after, with_access, IsLegal, IsLegalFrom}
use Rattle.nm_action.specs.declared.action.Event.{Event}
use Rattle.nm_action.specs.declared.action.Reply.{Reply}
use Rattle.nm_words.specs.declared.names.Where.TheVariants as words
use Rattle.nm_words.specs.Words.{opening_words}
use Rattle.nm_core.specs.Kept.{IsKept}
use Rattle.nm_core.specs.Runs.{IsStep, IsRun, IsRunFrom, access_by, access_of, accesses_of, after_event, state_from, state_after}
use Rattle.nm_core.specs.State.{State, start}
use Rattle.nm_core.proofs.Starts.{IsKept-start}
use Rattle.nm_world.specs.Worlds.{World, home_at, mem_at, moved, reply_in}
use Rattle.nm_world.specs.Notions.{page_value}
use Rattle.nm_world.specs.Laws.{AreAll, IsReady}
use Rattle.nm_world.specs.Seen.{world_of}
use Rattle.nm_world.proofs.Bridge.{seen_of, world_of-step}
use Rattle.nm_world.proofs.Opening.{AreAll-start}
use Rattle.nm_copies.proofs.Closing.{facts_hold}
use Rattle.nm_runs.proofs.EachRun.{kept_after, all_after, reply_same}
use Rattle.nm_runs.proofs.Joined.{ready_of}
use Rattle.nm_legal.specs.Linked.{IsLinked, FollowsMemory}
use Rattle.nm_legal.proofs.EachKind.{each_follows}

-- a step of a lawful state that is linked to a memory follows it
pub event_follows : (s : State) (e : Event) (memory : Memory) → IsKept s → AreAll s.geometry (world_of s) → IsLinked s.geometry (world_of s) memory → IsStep s e → FollowsMemory s.geometry (world_of (after_event s e)) memory (access_of e)
event_follows s e memory k all linked made =
    let g : Geometry = s.geometry in
    let m : World = world_of s in
    let ready : IsReady g m e.actor e.action = ready_of g m e.actor e.action k.geometry all made.actor made.allowed in
    let step : FollowsMemory g (moved g m e.actor e.action) memory (access_by e.actor e.action (reply_in g m e.actor e.action)) = each_follows g m e.actor e.action memory (facts_hold g m k.geometry all) all.copies ready linked in
    let In : World → Type 0 = λ w. FollowsMemory g w memory (access_by e.actor e.action (reply_in g m e.actor e.action)) in
    let By : Reply → Type 0 = λ r. FollowsMemory g (world_of (after_event s e)) memory (access_by e.actor e.action r) in
    subst By (reply_same s e.actor e.action k made.actor made.allowed ∙ sym made.reply) (subst In (sym (world_of-step s e.actor e.action k made.actor made.allowed)) step)

-- a list of accesses lies in mapped pages and is legal from a memory on, and a world is linked to the memory that it leaves
record Ends (g : Geometry) (after : World) (memory : Memory) (list : List Access) : Type 0 where
  placed : AllPlaced g list
  legal : IsLegalFrom g memory list
  linked : IsLinked g after (memory_from g memory list)

joined : (g : Geometry) (next after : World) (memory : Memory) (x : Option Access) (list : List Access) → FollowsMemory g next memory x → ((kept : Memory) → IsLinked g next kept → Ends g after kept list) → Ends g after memory (cons_option x list)
joined g next after memory None list first rest = rest memory first
joined g next after memory (Some x) list first rest =
    let more = rest (with_access g memory x) first.linked in
    record { placed = All-cons (IsPlaced g) x list first.placed more.placed; legal = (first.tells, more.legal); linked = more.linked }

run_from : (s : State) (events : List Event) (memory : Memory) → IsKept s → AreAll s.geometry (world_of s) → IsLinked s.geometry (world_of s) memory → IsRunFrom s events → Ends s.geometry (world_of (state_from s events)) memory (accesses_of events)
run_from s [] memory k all linked run = record { placed = All-nil (IsPlaced s.geometry); legal = tt; linked = linked }
run_from s (e ∷ events) memory k all linked run =
    joined s.geometry (world_of (after_event s e)) (world_of (state_from (after_event s e) events)) memory (access_of e) (accesses_of events)
    (event_follows s e memory k all linked run.0)
    (λ kept next. run_from (after_event s e) events kept
    (kept_after s e.actor e.action k run.0.actor run.0.allowed) (all_after s e.actor e.action k run.0.actor run.0.allowed all) next run.1)

-- at first no page has a home
linked_start : (g : Geometry) → IsLinked g (world_of (start g)) empty_memory
linked_start g b i index =
    let none : home_at (world_of (start g)) b ≡ 0 = seen_of (λ n. n ≡ 0) g (opening_words g) (words.Home b) refl (λ place. get_or-replicate (page_count g) b 0 0 place) in
    let value : page_value (home_at (world_of (start g))) (mem_at (world_of (start g))) b i ≡ 0 = rw none refl in
    value

each_run : (g : Geometry) (events : List Event) → IsGeometry g → IsRun g events → Ends g (world_of (state_after g events)) empty_memory (accesses_of events)
each_run g events is run = run_from (start g) events empty_memory (IsKept-start g is) (AreAll-start g is) (linked_start g) run

pub legal_run : (g : Geometry) (events : List Event) → IsGeometry g → IsRun g events → IsLegal g (accesses_of events)
legal_run g events is run = (each_run g events is run).legal

pub linked_run : (g : Geometry) (events : List Event) → IsGeometry g → IsRun g events → IsLinked g (world_of (state_after g events)) (memory_after g (accesses_of events))
linked_run g events is run = (each_run g events is run).linked

pub placed_run : (g : Geometry) (events : List Event) → IsGeometry g → IsRun g events → AllPlaced g (accesses_of events)
placed_run g events is run = (each_run g events is run).placed

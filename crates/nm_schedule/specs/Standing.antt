-- What a picker keeps, and what that says of the turns that were made.
use Rattle.std.specs.Prelude.{◌≡◌, ℕ, ◌+◌, ◌<◌, ◌≤◌, ◌⊎◌, ◌==◌, nat_le, not, IsTrue, Bool, true, false, List, [], ◌∷◌, ◌++◌, length, drop, slice_index_or, Option, Some, None, ◌^◌, All}
use Rattle.nm_action.specs.declared.action.Action.{Action}
use Rattle.nm_action.specs.declared.action.Action.TheVariants.{Bump, SeeAck}
use Rattle.nm_action.specs.declared.action.Reply.{Reply}
use Rattle.nm_action.specs.declared.action.Reply.TheVariants.{Word, Busy}
use Rattle.nm_action.specs.declared.turn.Turn.{Turn}
use Rattle.nm_action.specs.declared.turn.Turn.TheVariants.{Do}
use Rattle.nm_action.specs.declared.turn.Heard.{Heard}
use Rattle.nm_action.specs.declared.turn.Heard.TheVariants.{Answer}
use Rattle.nm_view.specs.Views.{end_word}
use Rattle.nm_actor.specs.Turns.{Turns}
use Rattle.nm_script.specs.declared.schedule.PlanItem.{PlanItem}
use Rattle.nm_script.specs.declared.schedule.Schedule.{Schedule}
use Rattle.nm_script.specs.declared.schedule.Schedule.TheVariants.{Serial, Shuffle, Plan}
use Rattle.nm_gen.specs.Generated.{drawn}
use Rattle.nm_schedule.specs.declared.limits.TheConstants.{MOST_ITEM_TURNS}
use Rattle.nm_schedule.specs.declared.picker.Way.{Way}
use Rattle.nm_schedule.specs.declared.picker.Way.TheVariants.{Stay, Next, Draw, Item}
use Rattle.nm_schedule.specs.declared.turn.Played.{Played}
use Rattle.nm_schedule.specs.Played.{turns_by, active_actors, has_ended}
use Rattle.nm_schedule.specs.Stalls.{IsInFlush, Yields}
use Rattle.nm_schedule.specs.Picks.{CountIs, IsOpenBelow, IsPlanned, Picks, first_from, drawn_from}

-- the word that the Bump found of the flush in which an actor with these turns is; none where it is in no flush
abbrev pub IsBumped : Option ℕ → Turns → Type 0
IsBumped (Some word) turns = IsInFlush turns (word + 1)
IsBumped None turns = (number : ℕ) → ¬ IsInFlush turns number

-- the word that the Bump of an actor's flush found, after a turn more
abbrev pub bumped_by : Option ℕ → Turn → Heard → Option ℕ
bumped_by bumped (Do Bump) (Answer (Word word)) = Some word
bumped_by bumped (Do (SeeAck _)) heard = bumped
bumped_by bumped _ _ = None

-- a SeeAck that read this word stalls, by the word of its actor's flush
abbrev pub stalls_ack : Option ℕ → ℕ → Bool
stalls_ack (Some found) word = nat_le word found
stalls_ack None word = not (word == end_word)

-- an action stalls at a reply, by the word of its actor's flush
abbrev pub stalls_at : Option ℕ → Action → Reply → Bool
stalls_at bumped action (Busy _) = true
stalls_at bumped (SeeAck _) (Word word) = stalls_ack bumped word
stalls_at bumped _ _ = false

abbrev pub stalls_by : Option ℕ → Turn → Heard → Bool
stalls_by bumped (Do action) (Answer reply) = stalls_at bumped action reply
stalls_by bumped _ _ = false

-- the actors that have not ended, by number; for each actor the word of its flush; the items of the plan; and the way on
-- which the next actor is found
pub record Standing : Type 0 where
  pub active : List ℕ
  pub bumped : List (Option ℕ)
  pub items : List PlanItem
  pub way : Way

-- with these parts
abbrev pub standing : List ℕ → List (Option ℕ) → List PlanItem → Way → Standing
standing active bumped items way = record { active = active; bumped = bumped; items = items; way = way }

-- the items of a schedule, if it is a plan
abbrev pub plan_of : Schedule → List PlanItem
plan_of (Serial _) = []
plan_of (Shuffle _ _) = []
plan_of (Plan _ items) = items

-- what further items pick, the first of which began after so many turns, the schedule picks, whatever turns come
abbrev pub Carries : Schedule → ℕ → List PlanItem → ℕ → List Played → Type 0
Carries schedule actors items began played =
    (more : List Played) (actor : ℕ) → IsPlanned actors items began (played ++ more) actor → Picks schedule actors (played ++ more) actor

-- the last turn was this actor's and did not yield, under the cooperative rule
pub record IsStaying (schedule : Schedule) (actors actor : ℕ) (played : List Played) : Type 0 where
  pub began : ℕ
  pub carry : Carries schedule actors [] began played
  pub front : List Played
  pub last : Played
  pub list : played ≡ front ++ last ∷ []
  pub since : began ≤ length front
  pub keeps : ¬ Yields front last
  pub same : last.actor ≡ actor
  pub exists : actor < actors
  pub active : has_ended played actor ≡ false

-- the last turn yielded
pub record IsAfterYield (began from : ℕ) (played : List Played) : Type 0 where
  pub front : List Played
  pub last : Played
  pub list : played ≡ front ++ last ∷ []
  pub since : began ≤ length front
  pub yields : Yields front last
  pub next : from ≡ last.actor + 1

-- the cooperative rule begins here, at actor 0
abbrev pub IsAtBeginning : ℕ → ℕ → List Played → Type 0
IsAtBeginning began from played = (length played ≡ began) × (from ≡ 0)

-- the next actor is the first from a number on, under the cooperative rule
pub record IsSeeking (schedule : Schedule) (actors from : ℕ) (played : List Played) : Type 0 where
  pub began : ℕ
  pub carry : Carries schedule actors [] began played
  pub place : IsAtBeginning began from played ⊎ IsAfterYield began from played

-- an item of the plan is not over, and made so many turns, of which so many count
pub record IsAtItem (schedule : Schedule) (actors : ℕ) (items : List PlanItem) (place made counted : ℕ) (played : List Played) : Type 0 where
  pub began : ℕ
  pub item : PlanItem
  pub rest : List PlanItem
  pub left : drop place items ≡ item ∷ rest
  pub carry : Carries schedule actors (item ∷ rest) began played
  pub many : length played ≡ began + made
  pub count : CountIs item.kind (drop began played) counted
  pub unfinished : IsOpenBelow item began (length played + 1) played
  pub exists : item.actor < actors

-- the number is the one by which the next turn is drawn
abbrev pub IsDrawing : Schedule → ℕ → List Played → Type 0
IsDrawing (Serial _) x played = ⊥
IsDrawing (Shuffle number _) x played = x ≡ drawn number (length played + 1)
IsDrawing (Plan _ _) x played = ⊥

abbrev pub IsOnWay : Schedule → ℕ → List PlanItem → Way → List Played → Type 0
IsOnWay schedule actors items (Stay actor) played = IsStaying schedule actors actor played
IsOnWay schedule actors items (Next from) played = IsSeeking schedule actors from played
IsOnWay schedule actors items (Draw x) played = IsDrawing schedule x played
IsOnWay schedule actors items (Item place made counted) played = IsAtItem schedule actors items place made counted played

-- the items of a plan are of actors that there are
abbrev pub ArePlanned : ℕ → List PlanItem → Type 0
ArePlanned actors items = All (λ i. i.actor < actors) items

-- a picker stands so after these turns of so many actors
pub record StandsAfter (schedule : Schedule) (actors : ℕ) (s : Standing) (played : List Played) : Type 0 where
  pub few : actors < 2 ^ 32
  pub active : s.active ≡ active_actors actors played
  pub plan : ArePlanned actors s.items
  pub size : length s.bumped ≡ actors
  pub bumped : (actor : ℕ) → actor < actors → IsBumped (slice_index_or s.bumped actor None) (turns_by actor played)
  pub way : IsOnWay schedule actors s.items s.way played

-- the actor of the first of some items (where there is none, of which nothing is claimed, 0)
abbrev pub item_actor : List PlanItem → ℕ
item_actor [] = 0
item_actor (item ∷ _) = item.actor

-- the actor that a picker picks by its way
abbrev pub way_picks : List ℕ → List PlanItem → Way → ℕ
way_picks active items (Stay actor) = actor
way_picks active items (Next from) = first_from from active
way_picks active items (Draw x) = drawn_from x active
way_picks active items (Item place _ _) = item_actor (drop place items)

abbrev pub picked_by : Standing → ℕ
picked_by s = way_picks s.active s.items s.way

-- on the way of an item, the actor is the item's
abbrev pub PicksItem : List PlanItem → Way → ℕ → Type 0
PicksItem items (Item place _ _) actor = actor ≡ item_actor (drop place items)
PicksItem items _ actor = Unit {0}

-- there is such an item, where the way is an item's
abbrev pub HasItem : List PlanItem → Way → Type 0
HasItem items (Item place _ _) = place < length items
HasItem items _ = Unit {0}

-- a turn of this actor may follow: its number can be counted up, and there is such an item, which may make a turn more
abbrev pub MayGoOn : List PlanItem → Way → ℕ → Type 0
MayGoOn items (Item place made counted) actor = (actor + 1 < 2 ^ 32) × (place < length items) × (made < MOST_ITEM_TURNS) × (counted ≤ made)
MayGoOn items _ actor = actor + 1 < 2 ^ 32

-- an actor is the one that a schedule picks after these turns: it exists, and it has not ended
pub record IsPick (schedule : Schedule) (actors : ℕ) (before : List Played) (actor : ℕ) : Type 0 where
  pub exists : actor < actors
  pub active : has_ended before actor ≡ false
  pub picked : Picks schedule actors before actor

-- an item is over that made so many turns, of which so many count: these are enough, its actor has ended, or it made all
abbrev pub IsSpent : PlanItem → ℕ → ℕ → Bool → Type 0
IsSpent item made counted ended = (item.count ≤ counted) ⊎ (IsTrue ended ⊎ (MOST_ITEM_TURNS ≤ made))

-- some turns were made
pub record HasStood (s : Standing) : Type 0 where
  pub schedule : Schedule
  pub actors : ℕ
  pub before : List Played
  pub stands : StandsAfter schedule actors s before

-- some turns were made, and this actor was picked then
pub record HasPicked (s : Standing) (actor : ℕ) : Type 0 where
  pub stood : HasStood s
  pub same : actor ≡ picked_by s
  pub some : 0 < length s.active

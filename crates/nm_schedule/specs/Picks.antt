-- Which actor makes the next turn, by the turns that were made.
use Rattle.std.specs.Prelude.{◌≡◌, ℕ, ◌+◌, ◌/◌, ◌%◌, ◌^◌, ◌<◌, ◌≤◌, ◌⊎◌, nat_le, IsTrue, List, [], ◌∷◌, ◌++◌, length, filter, take, drop, slice_index_or}
use Rattle.nm_action.specs.declared.kind.ActionKind.{ActionKind}
use Rattle.nm_action.specs.declared.turn.Turn.{Turn}
use Rattle.nm_action.specs.declared.turn.Turn.TheVariants.{Do}
use Rattle.nm_action.specs.declared.turn.Heard.{Heard}
use Rattle.nm_action.specs.declared.turn.Heard.TheVariants.{Answer}
use Rattle.nm_action.specs.Kinds.{kind_of}
use Rattle.nm_core.specs.Causes.{Refuses}
use Rattle.nm_script.specs.declared.schedule.PlanItem.{PlanItem}
use Rattle.nm_script.specs.declared.schedule.Schedule.{Schedule}
use Rattle.nm_script.specs.declared.schedule.Schedule.TheVariants.{Serial, Shuffle, Plan}
use Rattle.nm_gen.specs.Generated.{drawn}
use Rattle.nm_schedule.specs.declared.limits.TheConstants.{MOST_ITEM_TURNS}
use Rattle.nm_schedule.specs.declared.turn.Played.{Played}
use Rattle.nm_schedule.specs.Played.{active_actors, has_ended}
use Rattle.nm_schedule.specs.Stalls.{Yields}

-- ---- the cooperative rule

-- the first of some actors from a number on, in cyclic order: first those at the number and after it, then all
abbrev pub first_from : ℕ → List ℕ → ℕ
first_from from active = slice_index_or (filter (nat_le from) active ++ active) 0 0

-- the cooperative rule, which began after so many turns, picks this actor after these turns: at its beginning the first
-- from 0 on; the actor of the last turn, where that did not yield; and otherwise the first after it
pub record IsCooperative (actors began : ℕ) (before : List Played) (actor : ℕ) : Type 0 where
  pub begins : length before ≡ began → actor ≡ first_from 0 (active_actors actors before)
  pub goes_on : (front : List Played) (last : Played) → before ≡ front ++ last ∷ [] → began ≤ length front → ¬ Yields front last
      → actor ≡ last.actor
  pub goes_round : (front : List Played) (last : Played) → before ≡ front ++ last ∷ [] → began ≤ length front → Yields front last
      → actor ≡ first_from (last.actor + 1) (active_actors actors before)

-- ---- random numbers

-- of some actors the one at the place that a random number gives
abbrev pub drawn_from : ℕ → List ℕ → ℕ
drawn_from x active = slice_index_or active (x / 2 ^ 33 % length active) 0

-- ---- plans

-- a turn counts for an item of this kind: an action of the kind that was answered neither Busy nor Lost
abbrev pub IsCounted : ActionKind → Turn → Heard → Type 0
IsCounted kind (Do action) (Answer reply) = (kind_of action ≡ kind) × ¬ Refuses reply
IsCounted kind _ _ = ⊥

-- so many turns of a list count
abbrev pub CountIs : ActionKind → List Played → ℕ → Type 0
CountIs kind [] n = n ≡ 0
CountIs kind (p ∷ played) n =
    (IsCounted kind p.turn p.heard × ((rest : ℕ) × (CountIs kind played rest × (n ≡ rest + 1))))
    ⊎ ((¬ IsCounted kind p.turn p.heard) × CountIs kind played n)

-- an item that began after so many turns is over after these: enough of its turns count, or its actor has ended, or it
-- made all the turns that an item may make
abbrev pub IsItemOver : PlanItem → ℕ → List Played → Type 0
IsItemOver item began before =
    ((n : ℕ) × (CountIs item.kind (drop began before) n × (item.count ≤ n)))
    ⊎ IsTrue (has_ended before item.actor)
    ⊎ (began + MOST_ITEM_TURNS ≤ length before)

-- an item that began after so many turns was not over after any number of turns below this one
abbrev pub IsOpenBelow : PlanItem → ℕ → ℕ → List Played → Type 0
IsOpenBelow item began end before = (n : ℕ) → began ≤ n → n < end → ¬ IsItemOver item began (take n before)

-- an item that began after so many turns was over after so many more, and not before
pub record EndsAfter (item : PlanItem) (began end : ℕ) (before : List Played) : Type 0 where
  pub ordered : began ≤ end
  pub made : end ≤ length before
  pub unfinished : IsOpenBelow item began end before
  pub over : IsItemOver item began (take end before)

-- a plan whose items, of which the first began after so many turns, picks this actor after these turns: that of the first
-- item that is not over, and after the items the cooperative rule does
abbrev pub IsPlanned : ℕ → List PlanItem → ℕ → List Played → ℕ → Type 0
IsPlanned actors [] began before actor = IsCooperative actors began before actor
IsPlanned actors (item ∷ items) began before actor =
    (IsOpenBelow item began (length before + 1) before × (actor ≡ item.actor))
    ⊎ ((end : ℕ) × (EndsAfter item began end before × IsPlanned actors items end before actor))

-- ---- schedules

-- a schedule picks this actor after these turns
abbrev pub Picks : Schedule → ℕ → List Played → ℕ → Type 0
Picks (Serial _) actors before actor = IsCooperative actors 0 before actor
Picks (Shuffle number _) actors before actor = actor ≡ drawn_from (drawn number (length before + 1)) (active_actors actors before)
Picks (Plan _ items) actors before actor = IsPlanned actors items 0 before actor

-- the most turns
abbrev pub most_turns : Schedule → ℕ
most_turns (Serial turns) = turns
most_turns (Shuffle _ turns) = turns
most_turns (Plan turns _) = turns

-- Views of actors, as contracts see them: the structs with plain lists.
use Rattle.std.specs.Prelude.{ℕ, ◌*◌, ◌^◌, ◌-◌, Bool, List, Option}
use Rattle.nm_view.specs.declared.view.CacheEntry.{CacheEntry}
use Rattle.nm_view.specs.declared.view.Peeked.{Peeked}
use Rattle.nm_view.specs.declared.view.Phase.{Phase}
use Rattle.nm_view.specs.declared.view.Owned.{Owned}
use Rattle.nm_view.specs.declared.view.Scanned.{Scanned}
use Rattle.nm_view.specs.declared.view.Room.{Room}

-- an open operation on a backing page
pub record Op : Type 0 where
  pub page : ℕ
  pub home : Option ℕ
  pub shadow : Option ℕ
  pub looked : List (ℕ × ℕ)
  pub taken : List (ℕ × ℕ)
  pub phase : Phase
  pub cleared : Bool
  pub moved : Bool
  pub due : Bool
  pub flush : Option ℕ
  pub seen : ℕ
  pub copied : ℕ
  pub last : Option ℕ
  pub wet : List ℕ
  pub raised : List (ℕ × ℕ)
  pub room : ℕ

-- what an actor knows and holds
pub record View : Type 0 where
  pub number : ℕ
  pub cache : List CacheEntry
  pub req_seen : ℕ
  pub ops : List Op
  pub owned : List Owned
  pub turn : Option ℕ
  pub scan : Scanned
  pub bumps : ℕ
  pub acked : ℕ
  pub peeked : List Peeked
  pub raises : ℕ
  pub room : Room

-- a view has at most so many open operations
abbrev pub most_ops : ℕ
most_ops = 10

-- the acknowledgement of a processor that caches nothing for now, and what it has polled before its first Poll
abbrev pub off_word : ℕ
off_word = 2 ^ 64 - 2

-- the acknowledgement of a processor that has ended
abbrev pub end_word : ℕ
end_word = 2 ^ 64 - 1

-- an actor makes at most so many bumps, and at most so many raises
abbrev pub own_bumps : ℕ
own_bumps = 2 ^ 56

abbrev pub own_raises : ℕ
own_raises = 2 ^ 59

-- there are at most so many actors: sixteen processors, the migrator and the reclaimer
abbrev pub most_actors : ℕ
most_actors = 18

-- the bumps and the raises that all actors together can reach
abbrev pub most_bumps : ℕ
most_bumps = most_actors * own_bumps

abbrev pub most_raises : ℕ
most_raises = most_actors * own_raises

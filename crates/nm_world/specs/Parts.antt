-- The parts of views and operations that the laws read: a step that leaves a part leaves what is said of it.
use Rattle.std.specs.Prelude.{ℕ, Bool, List, Option, option_map}
use Rattle.nm_base.specs.Geometry.{Geometry}
use Rattle.nm_view.specs.declared.view.CacheEntry.{CacheEntry}
use Rattle.nm_view.specs.declared.view.Peeked.{Peeked}
use Rattle.nm_view.specs.declared.view.Phase.{Phase}
use Rattle.nm_view.specs.Views.{Op, View}
use Rattle.nm_view.specs.Operations.{is_flush_ended, names_one, is_early}
use Rattle.nm_world.specs.Worlds.{World, op_at}

-- of an operation, what its flushes rest on
pub record Flight : Type 0 where
  pub due : Bool
  pub flush : Option ℕ
  pub seen : ℕ
  pub wet : List ℕ
  pub raised : List (ℕ × ℕ)

abbrev pub flight_of : Op → Flight
flight_of o = record { due = o.due; flush = o.flush; seen = o.seen; wet = o.wet; raised = o.raised }

-- of an operation, what it knows of the words of its page, and how far it has come
pub record Lore : Type 0 where
  pub page : ℕ
  pub home : Option ℕ
  pub shadow : Option ℕ
  pub looked : List (ℕ × ℕ)
  pub taken : List (ℕ × ℕ)
  pub phase : Phase
  pub cleared : Bool
  pub moved : Bool

abbrev pub lore_of : Op → Lore
lore_of o = record { page = o.page; home = o.home; shadow = o.shadow; looked = o.looked; taken = o.taken; phase = o.phase; cleared = o.cleared; moved = o.moved }

-- of an operation, what its copies rest on: whether it names one virtual page, whether its first flush has not ended, the
-- words that it took, and what it loaded and copied
pub record Copier : Type 0 where
  pub naming : Bool
  pub early : Bool
  pub taken : List (ℕ × ℕ)
  pub copied : ℕ
  pub last : Option ℕ

abbrev pub copier_of : Geometry → Op → Copier
copier_of g o = record { naming = names_one o.phase o.cleared o.moved; early = is_early o.phase (is_flush_ended g o); taken = o.taken; copied = o.copied; last = o.last }

-- of a view, what a processor caches and has seen
pub record Desk : Type 0 where
  pub cache : List CacheEntry
  pub peeked : List Peeked
  pub req_seen : ℕ
  pub acked : ℕ

abbrev pub desk_of : View → Desk
desk_of view = record { cache = view.cache; peeked = view.peeked; req_seen = view.req_seen; acked = view.acked }

-- the parts by the number of an actor, and of a page

abbrev pub flight_at : World → ℕ → ℕ → Option Flight
flight_at m a b = option_map flight_of (op_at m a b)

abbrev pub lore_at : World → ℕ → ℕ → Option Lore
lore_at m a b = option_map lore_of (op_at m a b)

abbrev pub desk_at : World → ℕ → Desk
desk_at m a = desk_of (m.view a)

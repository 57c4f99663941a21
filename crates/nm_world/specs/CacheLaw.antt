-- What processors cache is so, or a flush is owed that will end it.
use Rattle.std.specs.Prelude.{◌≡◌, ℕ, ◌<◌, ◌≤◌, ◌⊎◌, [], Some, IsSomeAnd, IsTrue, All}
use Rattle.nm_base.specs.Geometry.{Geometry, backing_page}
use Rattle.nm_base.specs.HomeWord.{home_word}
use Rattle.nm_view.specs.declared.view.CacheEntry.{CacheEntry}
use Rattle.nm_view.specs.declared.view.Peeked.{Peeked}
use Rattle.nm_view.specs.Lists.{find, first}
use Rattle.nm_words.specs.declared.names.Where.TheVariants as words
use Rattle.nm_world.specs.Worlds.{World, pte_at, stamp_at, home_at, ack_at}
use Rattle.nm_world.specs.Parts.{Flight, Desk, flight_at, desk_at}
use Rattle.nm_world.specs.Notions.{IsBumpCount, IsStanding, IsOwed}

-- an entry of processor p: its stamp is no more than the raises; it names the frame of the home of its page; it stands on
-- the table word, or is owed a flush
pub record IsEntrySound (g : Geometry) (m : World) (p : ℕ) (e : CacheEntry) : Type 0 where
  pub stamp : e.stamp ≤ stamp_at m e.vpage
  pub home : IsSomeAnd (backing_page g e.vpage) (λ b. home_at m b ≡ home_word e.frame)
  pub stands : IsStanding (pte_at m e.vpage) e ⊎ IsOwed g m p e

-- a peek is no older than a flush: where the operation has a flush number that was polled, and raised the peek's page, a
-- fresh peek is at least the number raised to
abbrev pub IsPeekSound : ℕ → Flight → Peeked → Type 0
IsPeekSound req_seen o k = (flush v n : ℕ) → o.flush ≡ Some flush → find first k.vpage o.raised ≡ Some (v, n) → IsBumpCount req_seen → flush ≤ req_seen → IsTrue k.fresh → n ≤ k.stamp

-- what processor p caches and has seen: what it acknowledged is its word; without a number it caches nothing; what it polled
-- is no more than the bumps; each entry is sound, and each peek
pub record IsDeskSound (g : Geometry) (m : World) (p : ℕ) (desk : Desk) : Type 0 where
  pub acked : p < g.cpus → desk.acked ≡ ack_at m p
  pub off : p < g.cpus → ¬ IsBumpCount (ack_at m p) → desk.cache ≡ []
  pub polled : IsBumpCount desk.req_seen → desk.req_seen ≤ m.word words.Req
  pub entries : All (IsEntrySound g m p) desk.cache
  pub peeks : All (λ k. k.stamp ≤ stamp_at m k.vpage) desk.peeked
  pub fresh : (a b : ℕ) (o : Flight) → flight_at m a b ≡ Some o → All (IsPeekSound desk.req_seen o) desk.peeked

-- the flushes of an operation: no page was raised to more than its raises; with a wet page the operation is due
pub record IsFlightSound (m : World) (o : Flight) : Type 0 where
  pub raised : All (λ p. p.1 ≤ stamp_at m p.0) o.raised
  pub wet : IsTrue o.due ⊎ (o.wet ≡ [])

-- an acknowledgement that is a number is no more than the bumps; what each processor caches and has seen is sound, and so
-- are the flushes of each operation
pub record CacheLaw (g : Geometry) (m : World) : Type 0 where
  pub acks : (p : ℕ) → p < g.cpus → IsBumpCount (ack_at m p) → ack_at m p ≤ m.word words.Req
  pub desks : (p : ℕ) → IsDeskSound g m p (desk_at m p)
  pub flights : (a b : ℕ) (o : Flight) → flight_at m a b ≡ Some o → IsFlightSound m o

-- What the laws share.
use Rattle.std.specs.Prelude.{◌≡◌, ◌≢◌, ℕ, ◌<◌, ◌⊎◌, ◌==◌, ◌-◌, if◌then◌else◌, List, Option, Some, None, IsSome, IsSomeAnd, IsTrue, false, All}
use Rattle.std.specs.Int.{bit_at}
use Rattle.nm_base.specs.Geometry.{Geometry, backing_page}
use Rattle.nm_base.specs.PageWord.{is_present, is_writable, is_dirty, frame_of}
use Rattle.nm_view.specs.declared.view.CacheEntry.{CacheEntry}
use Rattle.nm_view.specs.declared.view.Fill.{Fill}
use Rattle.nm_view.specs.declared.view.Fill.TheVariants.{Raw, Zeroed, Copied, Equal}
use Rattle.nm_view.specs.Lists.{find, first, itself}
use Rattle.nm_view.specs.Views.{off_word, end_word}
use Rattle.nm_world.specs.Worlds.{World, ack_at}
use Rattle.nm_world.specs.Parts.{Flight, flight_at}

-- Numbers of bumps.

-- an acknowledgement, or what was polled, is a number of bumps: neither Off nor End
pub record IsBumpCount (n : ℕ) : Type 0 where
  pub on : n ≢ off_word
  pub running : n ≢ end_word

-- Flushes.

-- a processor that was not seen has acknowledged fewer bumps than a flush asks for
pub record IsUnseenBelow (ack p flush seen : ℕ) : Type 0 where
  pub unseen : bit_at seen p ≡ 0
  pub number : IsBumpCount ack
  pub below : ack < flush

abbrev pub IsBehind : ℕ → ℕ → Option ℕ → ℕ → Type 0
IsBehind ack p None seen = ⊥
IsBehind ack p (Some flush) seen = IsUnseenBelow ack p flush seen

-- an operation owes processor p a flush, where p has this acknowledgement
abbrev pub Owes : ℕ → ℕ → Flight → Type 0
Owes ack p o = IsTrue o.due ⊎ IsBehind ack p o.flush o.seen

-- the flush of an operation is meant for entries of v with this stamp: v is wet, or was raised to more
abbrev pub IsMeant : ℕ → ℕ → Flight → Type 0
IsMeant v stamp o = IsSome (find itself v o.wet) ⊎ IsSomeAnd (find first v o.raised) (λ p. stamp < p.1)

-- some operation on the page of an entry owes processor p a flush that is meant for the entry
pub record IsOwed (g : Geometry) (m : World) (p : ℕ) (e : CacheEntry) : Type 0 where
  pub actor : ℕ
  pub page : ℕ
  pub op : Flight
  pub of : backing_page g e.vpage ≡ Some page
  pub here : flight_at m actor page ≡ Some op
  pub owes : Owes (ack_at m p) p op
  pub meant : IsMeant e.vpage e.stamp op

-- an entry stands on a table word: the word is present, with the entry's frame, and is writable and dirty for a dirty entry
pub record IsStanding (word : ℕ) (e : CacheEntry) : Type 0 where
  pub present : IsTrue (is_present word)
  pub frame : frame_of word ≡ e.frame
  pub writable : IsTrue e.dirty → IsTrue (is_writable word)
  pub dirty : IsTrue e.dirty → IsTrue (is_dirty word)

-- Virtual pages.

-- exactly one virtual page was looked at as not 0, or taken: v
pub record IsAloneAt (looked taken : List (ℕ × ℕ)) (v : ℕ) : Type 0 where
  pub there : IsSomeAnd (find first v looked) (λ p. p.1 ≢ 0) ⊎ IsSome (find first v taken)
  pub looks : All (λ p. p.1 ≢ 0 → p.0 ≡ v) looked
  pub takes : All (λ p. p.0 ≡ v) taken

abbrev pub HasOne : List (ℕ × ℕ) → List (ℕ × ℕ) → Type 0
HasOne looked taken = (v : ℕ) × IsAloneAt looked taken v

-- every table word of a page is 0
abbrev pub IsOut : Geometry → (ℕ → ℕ) → ℕ → Type 0
IsOut g pte b = (v : ℕ) → backing_page g v ≡ Some b → pte v ≡ 0

-- no table word of a page is writable
abbrev pub IsReadOnly : Geometry → (ℕ → ℕ) → ℕ → Type 0
IsReadOnly g pte b = (v : ℕ) → backing_page g v ≡ Some b → is_writable (pte v) ≡ false

-- no table word of a page is dirty
abbrev pub IsUndirtied : Geometry → (ℕ → ℕ) → ℕ → Type 0
IsUndirtied g pte b = (v : ℕ) → backing_page g v ≡ Some b → is_dirty (pte v) ≡ false

-- no cache has a dirty entry of a page
abbrev pub IsClean : Geometry → (ℕ → ℕ → Option CacheEntry) → ℕ → Type 0
IsClean g entry b = (a v : ℕ) (e : CacheEntry) → backing_page g v ≡ Some b → entry a v ≡ Some e → e.dirty ≡ false

-- Values.

-- word i of a page: that of its home, and 0 where it has none
abbrev pub page_value : (ℕ → ℕ) → (ℕ → ℕ → ℕ) → ℕ → ℕ → ℕ
page_value home mem b i = if home b == 0 then 0 else mem (home b - 1) i

-- the page of which a fill tells, if it tells of one
abbrev pub fill_page : Fill → Option ℕ
fill_page Raw = None
fill_page (Zeroed n) = None
fill_page (Copied b n) = Some b
fill_page (Equal b) = Some b

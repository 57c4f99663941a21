-- What an actor knows: its operations, its cache, its frames.
use Rattle.std.specs.Prelude.{◌≡◌, ◌≢◌, ℕ, zero, suc, ◌-◌, ◌<◌, ◌≤◌, ◌==◌, ◌&&◌, not, Bool, List, Option, Some, None, IsSome, IsSomeAnd, IfSome, true, false, All, option_map, length}
use Rattle.std.specs.Int.{bit_at}
use Rattle.nm_base.specs.Geometry.{Geometry, backing_page, first_frame, frame_count}
use Rattle.nm_view.specs.declared.view.CacheEntry.{CacheEntry}
use Rattle.nm_view.specs.declared.view.Peeked.{Peeked}
use Rattle.nm_view.specs.declared.view.Phase.{Phase}
use Rattle.nm_view.specs.declared.view.Phase.TheVariants.{Held, Cleared, Taken}
use Rattle.nm_view.specs.declared.view.Fill.{Fill}
use Rattle.nm_view.specs.declared.view.Owned.{Owned}
use Rattle.nm_view.specs.Lists.{find, first}
use Rattle.nm_view.specs.Views.{Op, View}

-- an actor below the number of processors is a processor
abbrev pub IsProcessor : Geometry → View → Type 0
IsProcessor g view = view.number < g.cpus

-- the numbers of the items of a view's lists
abbrev pub page_of : Op → ℕ
page_of o = o.page

abbrev pub cached_page : CacheEntry → ℕ
cached_page e = e.vpage

abbrev pub peeked_page : Peeked → ℕ
peeked_page p = p.vpage

abbrev pub owned_frame : Owned → ℕ
owned_frame w = w.frame

-- the view's operation on a backing page
abbrev pub op_on : View → ℕ → Option Op
op_on view page = find page_of page view.ops

-- the view's operation on a backing page, if there is such a page
abbrev pub op_under : View → Option ℕ → Option Op
op_under view None = None
op_under view (Some page) = op_on view page

-- the view's operation on the backing page of a virtual page; none where it is not mapped
abbrev pub op_of : Geometry → View → ℕ → Option Op
op_of g view v = op_under view (backing_page g v)

-- what is known of the words of a frame that the view owns
abbrev pub fill_of : View → ℕ → Option Fill
fill_of view frame = option_map (λ w. w.fill) (find owned_frame frame view.owned)

-- the processors below n are seen to have acknowledged
abbrev pub AreSeen : ℕ → ℕ → Type 0
AreSeen n seen = (p : ℕ) → p < n → bit_at seen p ≡ 1

-- the same, decided
abbrev pub are_seen : ℕ → ℕ → Bool
are_seen zero seen = true
are_seen (suc p) seen = (bit_at seen p == 1) && are_seen p seen

-- the flush ended: the operation is not due, and it has no flush number or every processor is seen
pub record IsFlushEnded (g : Geometry) (o : Op) : Type 0 where
  pub made : o.due ≡ false
  pub seen : IfSome o.flush (λ _. AreSeen g.cpus o.seen)

-- there is no flush number, or every processor is seen
abbrev pub is_answered : Geometry → Option ℕ → ℕ → Bool
is_answered g None seen = true
is_answered g (Some _) seen = are_seen g.cpus seen

-- whether the flush ended
abbrev pub is_flush_ended : Geometry → Op → Bool
is_flush_ended g o = not o.due && is_answered g o.flush o.seen

-- an operation names one virtual page: it is in phase Cleared, or a dirty bit was cleared and no SetHome was made since
abbrev pub names_one : Phase → Bool → Bool → Bool
names_one Held cleared moved = cleared && not moved
names_one Cleared cleared moved = true
names_one Taken cleared moved = cleared && not moved

-- the first flush of an operation has not ended, by its phase and by whether its flush ended: no word is copied yet
abbrev pub is_early : Phase → Bool → Bool
is_early Held ended = true
is_early Cleared ended = not ended
is_early Taken ended = false

-- the word of v was taken out, and is not back
abbrev pub IsTaken : List (ℕ × ℕ) → ℕ → Type 0
IsTaken taken v = IsSome (find first v taken)

-- v was looked at as not 0, and was not taken
pub record IsLookedMapped (looks takes : List (ℕ × ℕ)) (v : ℕ) : Type 0 where
  pub looked : IsSomeAnd (find first v looks) (λ p. p.1 ≢ 0)
  pub there : find first v takes ≡ None

-- v was looked at as 0, and was not taken
pub record IsLookedAbsent (looks takes : List (ℕ × ℕ)) (v : ℕ) : Type 0 where
  pub looked : IsSomeAnd (find first v looks) (λ p. p.1 ≡ 0)
  pub there : find first v takes ≡ None

-- every virtual page of a backing page was looked at
abbrev pub IsLookedOver : Geometry → ℕ → List (ℕ × ℕ) → Type 0
IsLookedOver g page looked = (v : ℕ) → backing_page g v ≡ Some page → IsSome (find first v looked)

-- every word that was looked at as not 0 was taken
abbrev pub IsAllTaken : List (ℕ × ℕ) → List (ℕ × ℕ) → Type 0
IsAllTaken looked taken = All (λ p. p.1 ≢ 0 → IsTaken taken p.0) looked

-- phase Taken without Cleared: words were taken, and no dirty bit was cleared before
pub record IsTakenOnly (phase : Phase) (cleared : Bool) : Type 0 where
  pub taken : phase ≡ Taken
  pub uncleared : cleared ≡ false

-- the page is out of the table: phase Taken without Cleared, every virtual page was looked at, every word that is
-- not 0 was taken, and the flush ended
pub record IsUnmapped (g : Geometry) (o : Op) : Type 0 where
  pub phase : IsTakenOnly o.phase o.cleared
  pub taken : IsAllTaken o.looked o.taken
  pub over : IsLookedOver g o.page o.looked
  pub flushed : IsFlushEnded g o

-- a home word names a frame of the slowest tier
pub record IsInLastTier (g : Geometry) (home : ℕ) : Type 0 where
  pub above : first_frame g (length g.tiers - 1) < home
  pub exists : home ≤ frame_count g

-- the home word that an operation knows, if there is an operation
abbrev pub known_home : Option Op → Option ℕ
known_home None = None
known_home (Some o) = o.home

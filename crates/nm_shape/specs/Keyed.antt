-- Views whose numbers are in range, and in whose lists no number stands twice.
use Rattle.std.specs.Prelude.{◌≡◌, ℕ, ◌*◌, ◌^◌, ◌<◌, ◌≤◌, List, length, Option, Some, None, IfSome, All}
use Rattle.nm_base.specs.Geometry.{Geometry, IsInTier, backing_page}
use Rattle.nm_view.specs.declared.view.CacheEntry.{CacheEntry}
use Rattle.nm_view.specs.declared.view.Fill.{Fill}
use Rattle.nm_view.specs.declared.view.Fill.TheVariants.{Raw, Zeroed, Copied, Equal}
use Rattle.nm_view.specs.declared.view.Owned.{Owned}
use Rattle.nm_view.specs.declared.view.Scanned.{Scanned}
use Rattle.nm_view.specs.Lists.{Once, first, itself}
use Rattle.nm_view.specs.Views.{Op, View, most_ops, own_bumps, own_raises}
use Rattle.nm_base.specs.FreeWords.{free_words}
use Rattle.nm_view.specs.Operations.{page_of, cached_page, peeked_page, owned_frame}
use Rattle.nm_base.specs.HomeWord.{IsHomeWord}
use Rattle.nm_base.specs.ShadowWord.{IsShadowWord}
use Rattle.nm_base.specs.Ranges.{IsPage, IsVPage, IsFrame, IsTier}
use Rattle.nm_view.specs.Opening.{unscanned, most_aliases, room_of, IsActor}

-- items by virtual pages of a backing page, none of them twice
pub record AreOwnPages (g : Geometry) (page : ℕ) (pairs : List (ℕ × ℕ)) : Type 0 where
  pub once : Once first pairs
  pub own : All (λ p. backing_page g p.0 ≡ Some page) pairs

-- virtual pages of a backing page, none of them twice
pub record AreOwnNumbers (g : Geometry) (page : ℕ) (vpages : List ℕ) : Type 0 where
  pub once : Once itself vpages
  pub own : All (λ v. backing_page g v ≡ Some page) vpages

-- an operation: its numbers are in range, and its lists name virtual pages of its page alone, none of them twice
pub record IsOpKeyed (g : Geometry) (o : Op) : Type 0 where
  pub page : IsPage g o.page
  pub home : IfSome o.home (IsHomeWord g)
  pub shadow : IfSome o.shadow (IsShadowWord g)
  pub looked : AreOwnPages g o.page o.looked
  pub taken : AreOwnPages g o.page o.taken
  pub wet : AreOwnNumbers g o.page o.wet
  pub raised : AreOwnPages g o.page o.raised
  pub seen : o.seen < 2 ^ g.cpus
  pub copied : o.copied ≤ g.words
  pub room : o.room ≡ most_aliases g

-- so many words of a backing page
pub record IsCopyInRange (g : Geometry) (b n : ℕ) : Type 0 where
  pub page : IsPage g b
  pub count : n ≤ g.words

-- the numbers of a fill are in range
abbrev pub IsFillInRange : Geometry → Fill → Type 0
IsFillInRange g Raw = Unit {0}
IsFillInRange g (Zeroed n) = n ≤ g.words
IsFillInRange g (Copied page n) = IsCopyInRange g page n
IsFillInRange g (Equal page) = IsPage g page

pub record IsOwnedInRange (g : Geometry) (w : Owned) : Type 0 where
  pub frame : IsFrame g w.frame
  pub fill : IsFillInRange g w.fill

-- a cached translation: there is such a virtual page, and such a frame
pub record IsEntryInRange (g : Geometry) (e : CacheEntry) : Type 0 where
  pub vpage : IsVPage g e.vpage
  pub frame : IsFrame g e.frame

-- a scan of a tier: no more words than it has, no more frames than they can have, and the least is a frame of the tier
pub record IsScanOfTier (g : Geometry) (scan : Scanned) (t : ℕ) : Type 0 where
  pub words : scan.words ≤ free_words g t
  pub sum : scan.sum ≤ 64 * scan.words
  pub least : IfSome scan.least (λ f. IsInTier g f t)

-- a scan is of the tier of the turn; nothing is scanned without a turn
abbrev pub IsScanInRange : Geometry → Option ℕ → Scanned → Type 0
IsScanInRange g None scan = scan ≡ unscanned
IsScanInRange g (Some t) scan = IsScanOfTier g scan t

-- a view: its numbers are in range, at most ten operations are open, and no number stands twice in a list of it
pub record IsKeyed (g : Geometry) (view : View) : Type 0 where
  pub actor : IsActor g view.number
  pub few : length view.ops ≤ most_ops
  pub ops_once : Once page_of view.ops
  pub ops : All (IsOpKeyed g) view.ops
  pub cache_once : Once cached_page view.cache
  pub cache : All (IsEntryInRange g) view.cache
  pub peeked_once : Once peeked_page view.peeked
  pub peeked : All (λ p. IsVPage g p.vpage) view.peeked
  pub owned_once : Once owned_frame view.owned
  pub owned : All (IsOwnedInRange g) view.owned
  pub turn : IfSome view.turn (IsTier g)
  pub scan : IsScanInRange g view.turn view.scan
  pub bumps : view.bumps ≤ own_bumps
  pub raises : view.raises ≤ own_raises
  pub room : view.room ≡ room_of g

-- Which replies fit.
use Rattle.std.specs.Prelude.{◌≡◌, ◌≢◌, ◌↔◌, ℕ, ◌+◌, ◌-◌, ◌*◌, ◌<◌, ◌≤◌, ◌⊎◌, slice_index, Some, None, IfSome, IsTrue, false, All}
use Rattle.std.specs.Int.{bit_at}
use Rattle.nm_base.specs.Geometry.{Geometry, IsWritable, tier_of}
use Rattle.nm_base.specs.PageWord.{IsPageWord, is_writable, is_saved, frame_of}
use Rattle.nm_action.specs.declared.action.Cell.{Cell}
use Rattle.nm_action.specs.declared.action.Cell.TheVariants.{Home, Shadow}
use Rattle.nm_action.specs.declared.action.Reply.{Reply}
use Rattle.nm_action.specs.declared.action.Reply.TheVariants.{Done, Word, Busy, Lost}
use Rattle.nm_action.specs.declared.action.Action.{Action}
use Rattle.nm_action.specs.declared.action.Action.TheVariants.{Look, Walk, Peek, Poll, Bump, Raise, Soften, Arm, ClearDirty, Unmap, Grant, Scan, Mark, Read}
use Rattle.nm_view.specs.Lists.{find, first}
use Rattle.nm_view.specs.Views.{Op, View, most_bumps, most_raises}
use Rattle.nm_base.specs.FreeWords.{free_base}
use Rattle.nm_base.specs.HomeWord.{home_word, IsHomeWord}
use Rattle.nm_base.specs.ShadowWord.{shadow_frame, NamesShadow}
use Rattle.nm_view.specs.Operations.{op_on, op_of, owned_frame, IsTaken}
use Rattle.nm_base.specs.Ranges.{IsFrame, IsWord}
use Rattle.nm_step.specs.Table.{change_of, IsReplyTo}

-- Table words.

-- a table word of v: a page word, and where it is not 0 its frame is in range, and it is writable or saved only where
-- v is writable
pub record IsTableWord (g : Geometry) (v word : ℕ) : Type 0 where
  pub layout : IsPageWord word
  pub frame : word ≢ 0 → IsFrame g (frame_of word)
  pub writable : IsTrue (is_writable word) → IsWritable g v
  pub saved : IsTrue (is_saved word) → IsWritable g v

-- two table words agree in being 0, in frame, writable and saved
pub record Agrees (old new : ℕ) : Type 0 where
  pub absent : (old ≡ 0) ↔ (new ≡ 0)
  pub frame : frame_of new ≡ frame_of old
  pub writable : is_writable new ≡ is_writable old
  pub saved : is_saved new ≡ is_saved old

-- a table word of v is what an operation knows of it: it agrees with the word looked at, it is 0 where v is taken, it is 0
-- or names the known home, and beside a known shadow it is not writable
pub record IsAsKnown (v word : ℕ) (o : Op) : Type 0 where
  pub looked : find first v o.taken ≡ None → IfSome (find first v o.looked) (λ p. Agrees p.1 word)
  pub taken : IsTaken o.taken v → word ≡ 0
  pub home : IfSome o.home (λ h. (word ≡ 0) ⊎ (home_word (frame_of word) ≡ h))
  pub shadow : IfSome o.shadow (λ s. s ≢ 0 → is_writable word ≡ false)

-- a table word of v that a reply carries
pub record IsTableReply (g : Geometry) (view : View) (v word : ℕ) : Type 0 where
  pub table : IsTableWord g v word
  pub known : IfSome (op_of g view v) (IsAsKnown v word)

-- a table word of v that maps it
pub record IsMappedReply (g : Geometry) (view : View) (v word : ℕ) : Type 0 where
  pub carried : IsTableReply g view v word
  pub mapped : word ≢ 0

-- Words of pages and frames.

-- the view owns no such frame
abbrev pub IsNotOwned : View → ℕ → Type 0
IsNotOwned view frame = find owned_frame frame view.owned ≡ None

-- a home word that was not known: it is in range, and names the frame of each word of the page that was looked at as not
-- 0 and not taken
pub record IsNewsOfHome (g : Geometry) (o : Op) (word : ℕ) : Type 0 where
  pub range : IsHomeWord g word
  pub mapped : All (λ p. p.1 ≢ 0 → find first p.0 o.taken ≡ None → home_word (frame_of p.1) ≡ word) o.looked

-- a word names a page and its shadow, a frame of a slower tier than the master's
pub record NamesSlower (g : Geometry) (page master word frame : ℕ) : Type 0 where
  pub names : NamesShadow g word page frame
  pub slower : tier_of g master < tier_of g frame

-- a shadow word that was not known: 0, or it names this page and a shadow
abbrev pub IsNewsOfShadow : Geometry → ℕ → ℕ → ℕ → Type 0
IsNewsOfShadow g page master word = (word ≡ 0) ⊎ ((frame : ℕ) × NamesSlower g page master word frame)

-- a home word that Read gives: what is known or news, and the view does not own the frame that it names
pub record IsHomeRead (g : Geometry) (view : View) (word : ℕ) (o : Op) : Type 0 where
  pub known : IfSome o.home (λ h. word ≡ h)
  pub news : o.home ≡ None → IsNewsOfHome g o word
  pub free : word ≢ 0 → IsNotOwned view (word - 1)

-- a shadow word of a master that Read gives: what is known or news, and the view does not own the frame that it names
pub record IsShadowRead (g : Geometry) (view : View) (master word : ℕ) (o : Op) : Type 0 where
  pub known : IfSome o.shadow (λ s. word ≡ s)
  pub news : o.shadow ≡ None → IsNewsOfShadow g o.page master word
  pub free : word ≢ 0 → IsNotOwned view (shadow_frame word)

abbrev pub IsReadOf : Geometry → View → Cell → ℕ → Op → Type 0
IsReadOf g view (Home _) word o = IsHomeRead g view word o
IsReadOf g view (Shadow m) word o = IsShadowRead g view m word o

-- a frame may be free: it is a frame of the tier, the view does not own it, and no operation of the view knows it as
-- home. The bit `bit` of word `index` of the tier stands for it.
pub record MayBeFree (g : Geometry) (view : View) (tier index bit : ℕ) : Type 0 where
  pub within : 64 * index + bit < slice_index g.tiers tier
  pub owned : IsNotOwned view (free_base g tier index + bit)
  pub home : All (λ o. o.home ≢ Some (home_word (free_base g tier index + bit))) view.ops

-- a word that Scan gives
abbrev pub IsScanOf : Geometry → View → ℕ → ℕ → ℕ → Type 0
IsScanOf g view tier index word = (bit : ℕ) → bit_at word bit ≡ 1 → MayBeFree g view tier index bit

-- Replies.

-- a word fits an action
abbrev pub FitsWord : Geometry → View → Action → ℕ → Type 0
FitsWord g view (Look v) word = IsTableReply g view v word
FitsWord g view (Soften v _) word = IsTableReply g view v word
FitsWord g view (Arm v) word = IsMappedReply g view v word
FitsWord g view (ClearDirty v) word = IsMappedReply g view v word
FitsWord g view (Unmap v) word = IsMappedReply g view v word
FitsWord g view (Grant v) word = IsMappedReply g view v word
FitsWord g view (Read b cell) word = IfSome (op_on view b) (IsReadOf g view cell word)
FitsWord g view (Scan t k) word = IsScanOf g view t k word
FitsWord g view Poll word = word ≤ most_bumps
FitsWord g view Bump word = word ≤ most_bumps
FitsWord g view (Peek _) word = word ≤ most_raises
FitsWord g view (Raise _) word = word ≤ most_raises
FitsWord g view _ word = Unit {0}

-- a Walk is done of a word that the table can hold
abbrev pub FitsDone : Geometry → View → Action → Type 0
FitsDone g view (Walk v e _) = IsTableReply g view v e
FitsDone g view _ = Unit {0}

-- a word that was found where another was expected
pub record IsOtherReply (g : Geometry) (view : View) (v expected word : ℕ) : Type 0 where
  pub carried : IsTableReply g view v word
  pub other : word ≢ expected

-- the word found is not the one that was expected
abbrev pub FitsLost : Geometry → View → Action → ℕ → Type 0
FitsLost g view (Walk v e _) word = IsOtherReply g view v e word
FitsLost g view (Mark _ old _) word = word ≢ old
FitsLost g view _ word = Unit {0}

-- a word of 64 bits that a reply carries, and what is said of it
pub record IsCarried (word : ℕ) (Said : Type 0) : Type 0 where
  pub bits : IsWord word
  pub said : Said

-- the word of a reply fits
abbrev pub FitsTold : Geometry → View → Action → Reply → Type 0
FitsTold g view action Done = FitsDone g view action
FitsTold g view action (Word word) = IsCarried word (FitsWord g view action word)
FitsTold g view action (Busy word) = IsCarried word (word ≢ 0)
FitsTold g view action (Lost word) = IsCarried word (FitsLost g view action word)

-- a reply fits an action and the view of its actor: it is of the kind that the action's exchange has, and its word fits
pub record Fits (g : Geometry) (view : View) (action : Action) (reply : Reply) : Type 0 where
  pub kind : IsReplyTo (change_of g view action) reply
  pub told : FitsTold g view action reply

-- Replies whose words are in range: what each exchange gives on words of the machine that are in range, whatever the actors
-- know.
use Rattle.std.specs.Prelude.{ℕ, ◌≤◌}
use Rattle.nm_base.specs.Geometry.{Geometry}
use Rattle.nm_base.specs.Ranges.{IsWord}
use Rattle.nm_base.specs.HomeWord.{IsHomeWord}
use Rattle.nm_base.specs.ShadowWord.{IsShadowWord}
use Rattle.nm_base.specs.FreeWords.{HasOwnBits}
use Rattle.nm_base.specs.TableWord.{IsTableInRange}
use Rattle.nm_view.specs.Views.{most_bumps, most_raises}
use Rattle.nm_action.specs.declared.action.Cell.{Cell}
use Rattle.nm_action.specs.declared.action.Cell.TheVariants.{Home, Shadow}
use Rattle.nm_action.specs.declared.action.Reply.{Reply}
use Rattle.nm_action.specs.declared.action.Reply.TheVariants.{Done, Word, Busy, Lost}
use Rattle.nm_action.specs.declared.action.Action.{Action}
use Rattle.nm_action.specs.declared.action.Action.TheVariants.{Look, Walk, Peek, Poll, Bump, Raise, Soften, Arm, ClearDirty, Unmap, Grant, Scan, Read}
use Rattle.nm_event.specs.Fitting.{IsCarried}

-- a home word names no frame that is not there; a shadow word is 0 or names a page and a frame
abbrev pub IsCellWord : Geometry → Cell → ℕ → Type 0
IsCellWord g (Home _) word = IsHomeWord g word
IsCellWord g (Shadow _) word = IsShadowWord g word

-- the word that an action gives is in range
abbrev pub IsInRangeWord : Geometry → Action → ℕ → Type 0
IsInRangeWord g (Look _) word = IsTableInRange g word
IsInRangeWord g (Soften _ _) word = IsTableInRange g word
IsInRangeWord g (Arm _) word = IsTableInRange g word
IsInRangeWord g (ClearDirty _) word = IsTableInRange g word
IsInRangeWord g (Unmap _) word = IsTableInRange g word
IsInRangeWord g (Grant _) word = IsTableInRange g word
IsInRangeWord g Poll word = word ≤ most_bumps
IsInRangeWord g Bump word = word ≤ most_bumps
IsInRangeWord g (Peek _) word = word ≤ most_raises
IsInRangeWord g (Raise _) word = word ≤ most_raises
IsInRangeWord g (Scan tier index) word = HasOwnBits g tier index word
IsInRangeWord g (Read _ cell) word = IsCellWord g cell word
IsInRangeWord g _ word = Unit {0}

-- a Walk is done of a table word
abbrev pub IsInRangeDone : Geometry → Action → Type 0
IsInRangeDone g (Walk _ expect _) = IsTableInRange g expect
IsInRangeDone g _ = Unit {0}

-- a Walk finds another table word
abbrev pub IsInRangeLost : Geometry → Action → ℕ → Type 0
IsInRangeLost g (Walk _ _ _) word = IsTableInRange g word
IsInRangeLost g _ word = Unit {0}

-- a reply's word is in range
abbrev pub IsInRangeReply : Geometry → Action → Reply → Type 0
IsInRangeReply g action Done = IsInRangeDone g action
IsInRangeReply g action (Word word) = IsCarried word (IsInRangeWord g action word)
IsInRangeReply g action (Busy word) = IsWord word
IsInRangeReply g action (Lost word) = IsCarried word (IsInRangeLost g action word)

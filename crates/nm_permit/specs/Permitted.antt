-- Which actions a view permits.
use Rattle.std.specs.Prelude.{◌≡◌, ◌≢◌, ℕ, ◌<◌, ◌⊎◌, Bool, List, [], length, Option, Some, None, IsSome, IsSomeAnd, IfSome, IsTrue, false, All}
use Rattle.nm_base.specs.Geometry.{Geometry, IsWritable, tier_of}
use Rattle.nm_base.specs.PageWord.{IsPresentWord, is_present, has_hint, is_writable, is_dirty, is_saved, frame_of}
use Rattle.nm_view.specs.declared.view.Phase.{Phase}
use Rattle.nm_view.specs.declared.view.Phase.TheVariants.{Held, Cleared, Taken}
use Rattle.nm_view.specs.declared.view.Fill.{Fill}
use Rattle.nm_view.specs.declared.view.Fill.TheVariants.{Raw, Zeroed, Copied, Equal}
use Rattle.nm_action.specs.declared.action.AckTo.{AckTo}
use Rattle.nm_action.specs.declared.action.AckTo.TheVariants.{Seen, Off, End}
use Rattle.nm_action.specs.declared.action.Cell.{Cell}
use Rattle.nm_action.specs.declared.action.Cell.TheVariants.{Home, Shadow}
use Rattle.nm_action.specs.declared.action.Action.{Action}
use Rattle.nm_action.specs.declared.action.Action.TheVariants.{Load, Store, Add, Look, Walk, Peek, Poll, Ack, Lock, Unlock, Bump, SeeAck, Raise, Soften, Arm, ClearDirty, Unmap, Map, Grant, CopyLoad, CopyStore, SetHome, SetShadow, TakeTurn, Scan, GiveFrame, PutFrame, ReleaseTurn, Mark, Read}
use Rattle.nm_view.specs.Lists.{find, first, itself}
use Rattle.nm_view.specs.Views.{Op, View, most_ops, off_word, end_word, own_bumps, own_raises}
use Rattle.nm_base.specs.Ranges.{IsVPage, IsPage, IsFrame, IsTier, IsIndex, IsWord}
use Rattle.nm_base.specs.FreeWords.{free_words}
use Rattle.nm_base.specs.HomeWord.{home_word}
use Rattle.nm_view.specs.Operations.{IsProcessor, cached_page, peeked_page, owned_frame, op_on, op_of, fill_of, IsFlushEnded, IsTaken, IsLookedMapped, IsLookedAbsent, IsLookedOver, IsUnmapped, IsInLastTier}

-- Numbers in range.

-- a word of a page that an operation reads: the home of that very page, or the shadow word of a frame
abbrev pub IsCell : Geometry → ℕ → Cell → Type 0
IsCell g page (Home n) = n ≡ page
IsCell g page (Shadow m) = IsFrame g m

-- a word of a virtual page
pub record IsWordAt (g : Geometry) (v i : ℕ) : Type 0 where
  pub vpage : IsVPage g v
  pub index : IsIndex g i

-- a word of a virtual page, and a value for it
pub record IsValueAt (g : Geometry) (v i x : ℕ) : Type 0 where
  pub vpage : IsVPage g v
  pub index : IsIndex g i
  pub value : IsWord x

-- a word of a backing page
pub record IsPageWordAt (g : Geometry) (b i : ℕ) : Type 0 where
  pub page : IsPage g b
  pub index : IsIndex g i

-- a word of a frame and a value for it, of a backing page where one is named
pub record IsCopyAt (g : Geometry) (b : Option ℕ) (f i x : ℕ) : Type 0 where
  pub page : IfSome b (IsPage g)
  pub frame : IsFrame g f
  pub index : IsIndex g i
  pub value : IsWord x

-- a backing page and a frame
pub record IsHomeAt (g : Geometry) (b f : ℕ) : Type 0 where
  pub page : IsPage g b
  pub frame : IsFrame g f

-- a backing page, its master, and a shadow where one is named
pub record IsShadowAt (g : Geometry) (b m : ℕ) (s : Option ℕ) : Type 0 where
  pub page : IsPage g b
  pub master : IsFrame g m
  pub shadow : IfSome s (IsFrame g)

-- a word of a tier's free frames
pub record IsFreeWordAt (g : Geometry) (t k : ℕ) : Type 0 where
  pub tier : IsTier g t
  pub index : k < free_words g t

-- a backing page, and a word that an operation on it reads
pub record IsCellAt (g : Geometry) (b : ℕ) (what : Cell) : Type 0 where
  pub page : IsPage g b
  pub cell : IsCell g b what

-- the numbers of an action are in range
abbrev pub InRange : Geometry → Action → Type 0
InRange g (Load v w) = IsWordAt g v w
InRange g (Store v w x) = IsValueAt g v w x
InRange g (Add v w x) = IsValueAt g v w x
InRange g (Look v) = IsVPage g v
InRange g (Walk v _ _) = IsVPage g v
InRange g (Peek v) = IsVPage g v
InRange g Poll = Unit {0}
InRange g (Ack _) = Unit {0}
InRange g (Lock b) = IsPage g b
InRange g (Unlock b) = IsPage g b
InRange g Bump = Unit {0}
InRange g (SeeAck p) = p < g.cpus
InRange g (Raise v) = IsVPage g v
InRange g (Soften v _) = IsVPage g v
InRange g (Arm v) = IsVPage g v
InRange g (ClearDirty v) = IsVPage g v
InRange g (Unmap v) = IsVPage g v
InRange g (Map v _) = IsVPage g v
InRange g (Grant v) = IsVPage g v
InRange g (CopyLoad b i) = IsPageWordAt g b i
InRange g (CopyStore b f i x) = IsCopyAt g b f i x
InRange g (SetHome b f) = IsHomeAt g b f
InRange g (SetShadow b m s) = IsShadowAt g b m s
InRange g (TakeTurn t) = IsTier g t
InRange g (Scan t k) = IsFreeWordAt g t k
InRange g (GiveFrame f) = IsFrame g f
InRange g (PutFrame f) = IsFrame g f
InRange g (ReleaseTurn t) = IsTier g t
InRange g (Mark b _ _) = IsPage g b
InRange g (Read b cell) = IsCellAt g b cell

-- What each kind needs of the view.

-- a Load: by a processor, through a cached translation of v
pub record MayLoad (g : Geometry) (view : View) (v : ℕ) : Type 0 where
  pub processor : IsProcessor g view
  pub cached : IsSome (find cached_page v view.cache)

-- stores go through a dirty cached translation of v
abbrev pub IsCachedDirty : View → ℕ → Type 0
IsCachedDirty view v = IsSomeAnd (find cached_page v view.cache) (λ e. IsTrue e.dirty)

-- a Store or an Add: by a processor, through a dirty cached translation of v
pub record MayStore (g : Geometry) (view : View) (v : ℕ) : Type 0 where
  pub processor : IsProcessor g view
  pub cached : IsCachedDirty view v

-- a Walk: by a processor whose acknowledgement is a number, with a peek, through a word that is present, has no
-- hint, and is writable for a write
pub record MayWalk (g : Geometry) (view : View) (v expect : ℕ) (write : Bool) : Type 0 where
  pub processor : IsProcessor g view
  pub on : view.acked ≢ off_word
  pub running : view.acked ≢ end_word
  pub peek : IsSome (find peeked_page v view.peeked)
  pub present : IsTrue (is_present expect)
  pub hint : has_hint expect ≡ false
  pub writable : IsTrue write → IsTrue (is_writable expect)

-- what was seen is acknowledged only after a Poll
abbrev pub IsPolledFor : View → AckTo → Type 0
IsPolledFor view Seen = view.req_seen ≢ off_word
IsPolledFor view Off = Unit {0}
IsPolledFor view End = Unit {0}

-- an acknowledgement: by a processor
pub record MayAck (g : Geometry) (view : View) (to : AckTo) : Type 0 where
  pub processor : IsProcessor g view
  pub polled : IsPolledFor view to

pub record MayLock (view : View) (page : ℕ) : Type 0 where
  pub fresh : op_on view page ≡ None
  pub few : length view.ops < most_ops

pub record MayUnlock (g : Geometry) (o : Op) : Type 0 where
  pub back : o.taken ≡ []
  pub flushed : IsFlushEnded g o
  pub phase : o.phase ≢ Cleared

-- no due operation has a wet page
abbrev pub AreDueDry : List Op → Type 0
AreDueDry ops = All (λ o. IsTrue o.due → o.wet ≡ []) ops

pub record MayBump (view : View) : Type 0 where
  pub few : view.bumps < own_bumps
  pub dry : AreDueDry view.ops

-- the table word of v was changed, and v was not raised since
abbrev pub IsWet : ℕ → Op → Type 0
IsWet v o = IsSome (find itself v o.wet)

-- a Raise: the operation has v wet
pub record MayRaise (g : Geometry) (view : View) (v : ℕ) : Type 0 where
  pub wet : IsSomeAnd (op_of g view v) (IsWet v)
  pub few : view.raises < own_raises

pub record MayClear (g : Geometry) (v : ℕ) (o : Op) : Type 0 where
  pub phase : o.phase ≡ Held
  pub over : IsLookedOver g o.page o.looked
  pub mapped : IsSomeAnd (find first v o.looked) (λ p. p.1 ≢ 0)
  pub alone : All (λ p. (p.1 ≡ 0) ⊎ (p.0 ≡ v)) o.looked

-- a word may be taken in this phase
abbrev pub IsTakingPhase : Geometry → Op → Phase → Type 0
IsTakingPhase g o Held = Unit {0}
IsTakingPhase g o Cleared = IsFlushEnded g o
IsTakingPhase g o Taken = o.cleared ≡ false

pub record MayUnmap (g : Geometry) (v : ℕ) (o : Op) : Type 0 where
  pub mapped : IsLookedMapped o.looked o.taken v
  pub unmoved : o.moved ≡ false
  pub phase : IsTakingPhase g o o.phase

-- a word is the taken word of v, in an operation that made no SetHome, in phase Taken
pub record IsWordBack (v word : ℕ) (o : Op) : Type 0 where
  pub taken : IsSomeAnd (find first v o.taken) (λ p. p.1 ≡ word)
  pub unmoved : o.moved ≡ false
  pub phase : o.phase ≡ Taken

-- the word of v was taken, and SetHome was made
pub record IsTakenMoved (v : ℕ) (o : Op) : Type 0 where
  pub taken : IsTaken o.taken v
  pub moved : IsTrue o.moved

-- v has no word now: it was taken and SetHome was made, or it was not taken and was looked at as 0
abbrev pub IsVacant : ℕ → Op → Type 0
IsVacant v o = IsTakenMoved v o ⊎ IsLookedAbsent o.looked o.taken v

-- a word is new for v: it maps v to the known home, with no more rights than v, the shadow and the taken word allow
pub record IsWordNew (g : Geometry) (v word : ℕ) (o : Op) : Type 0 where
  pub present : IsPresentWord word
  pub home : o.home ≡ Some (home_word (frame_of word))
  pub vacant : IsVacant v o
  pub writable : IsTrue (is_writable word) → IsWritable g v
  pub unshadowed : IsTrue (is_writable word) → o.shadow ≡ Some 0
  pub saved : IsTrue (is_saved word) → IsWritable g v
  pub dirty : IsTrue (is_dirty word) → IsTaken o.taken v

-- a mapped word fits: it is the word that was taken, or a new one
abbrev pub HasMappedWord : Geometry → ℕ → ℕ → Op → Type 0
HasMappedWord g v word o = IsWordBack v word o ⊎ IsWordNew g v word o

-- a Map: not in phase Cleared, with the flush ended, of a word that fits; and after Cleared without SetHome only the
-- taken word goes back, and only where it is dirty
pub record MayMap (g : Geometry) (v word : ℕ) (o : Op) : Type 0 where
  pub phase : o.phase ≢ Cleared
  pub flushed : IsFlushEnded g o
  pub fits : HasMappedWord g v word o
  pub back : IsTrue o.cleared → o.moved ≡ false → IsWordBack v word o
  pub dirty : IsTrue o.cleared → o.moved ≡ false → IsTrue (is_dirty word)

-- a word has the saved right to write, and not the right to write
pub record IsSavedWord (word : ℕ) : Type 0 where
  pub saved : IsTrue (is_saved word)
  pub unwritable : is_writable word ≡ false

pub record MayGrant (v : ℕ) (o : Op) : Type 0 where
  pub there : find first v o.taken ≡ None
  pub saved : IsSomeAnd (find first v o.looked) (λ p. IsSavedWord p.1)
  pub shadow : o.shadow ≡ Some 0

-- the page is out of the table, and no SetHome was made
pub record IsUnmappedUnmoved (g : Geometry) (o : Op) : Type 0 where
  pub unmapped : IsUnmapped g o
  pub unmoved : o.moved ≡ false

-- words may be copied in this phase: in phase Cleared, or once the page is out of the table and before SetHome
abbrev pub IsCopyingPhase : Geometry → Op → Phase → Type 0
IsCopyingPhase g o Held = ⊥
IsCopyingPhase g o Cleared = Unit {0}
IsCopyingPhase g o Taken = IsUnmappedUnmoved g o

pub record MayCopyLoad (g : Geometry) (index : ℕ) (o : Op) : Type 0 where
  pub home : IsSomeAnd o.home (λ h. h ≢ 0)
  pub next : index ≡ o.copied
  pub flushed : IsFlushEnded g o
  pub phase : IsCopyingPhase g o o.phase

-- so many first words of a frame are 0, and no more is known of it
abbrev pub IsZeroedTo : ℕ → Fill → Type 0
IsZeroedTo n Raw = n ≡ 0
IsZeroedTo n (Zeroed k) = n ≡ k
IsZeroedTo n (Copied _ _) = ⊥
IsZeroedTo n (Equal _) = ⊥

-- a copy is of this page, and so many words long
pub record IsCopyOf (page n of count : ℕ) : Type 0 where
  pub page_is : of ≡ page
  pub count_is : n ≡ count

-- so many first words of a frame are copied of this page, and no more is known of it
abbrev pub IsCopiedTo : ℕ → ℕ → Fill → Type 0
IsCopiedTo page n Raw = n ≡ 0
IsCopiedTo page n (Zeroed _) = ⊥
IsCopiedTo page n (Copied b k) = IsCopyOf page n b k
IsCopiedTo page n (Equal _) = ⊥

-- the operation has just loaded this word at this index
pub record IsLoaded (index value : ℕ) (o : Op) : Type 0 where
  pub next : index ≡ o.copied
  pub last : o.last ≡ Some value

-- a 0 is the frame's next word
pub record MayZero (view : View) (f i x : ℕ) : Type 0 where
  pub fill : IsSomeAnd (fill_of view f) (IsZeroedTo i)
  pub zero_is : x ≡ 0

-- the word that the operation on a page has loaded is the frame's next word
pub record MayCopy (view : View) (page f i x : ℕ) : Type 0 where
  pub fill : IsSomeAnd (fill_of view f) (IsCopiedTo page i)
  pub loaded : IsSomeAnd (op_on view page) (IsLoaded i x)

-- a CopyStore of the frame's next word: a 0, or the word that the operation has loaded
abbrev pub MayCopyStore : View → Option ℕ → ℕ → ℕ → ℕ → Type 0
MayCopyStore view None f i x = MayZero view f i x
MayCopyStore view (Some page) f i x = MayCopy view page f i x

-- a new home for a page that has none: the whole frame is 0
pub record IsHomeDemanded (g : Geometry) (o : Op) (fill : Fill) : Type 0 where
  pub home : o.home ≡ Some 0
  pub filled : fill ≡ Zeroed g.words

-- there is a taken word, and it is clean
pub record IsTakenClean (taken : List (ℕ × ℕ)) : Type 0 where
  pub some : taken ≢ []
  pub clean : All (λ p. is_dirty p.1 ≡ false) taken

-- no shadow has to be given up: the home's shadow was read as none, or the home is in the last tier
abbrev pub IsFreeOfShadow : Geometry → Op → Type 0
IsFreeOfShadow g o = (o.shadow ≡ Some 0) ⊎ IsSomeAnd o.home (IsInLastTier g)

-- a new home by a transaction that commits: no dirty walk was found in the taken word, and the whole page is copied
pub record IsHomeCommitted (g : Geometry) (o : Op) (fill : Fill) : Type 0 where
  pub phase : o.phase ≡ Taken
  pub cleared : IsTrue o.cleared
  pub clean : IsTakenClean o.taken
  pub flushed : IsFlushEnded g o
  pub filled : fill ≡ Copied o.page g.words
  pub shadow : IsFreeOfShadow g o

-- the whole page stands in a frame: it was copied, or is known to be equal
abbrev pub IsWhole : Geometry → ℕ → Fill → Type 0
IsWhole g page fill = (fill ≡ Copied page g.words) ⊎ (fill ≡ Equal page)

-- a new home for a page that is out of the table and has no shadow
pub record IsHomeMoved (g : Geometry) (o : Op) (fill : Fill) : Type 0 where
  pub unmapped : IsUnmapped g o
  pub shadow : o.shadow ≡ Some 0
  pub filled : IsWhole g o.page fill

-- a new home fits, for a frame with this fill
abbrev pub HasNewHome : Geometry → Fill → Op → Type 0
HasNewHome g fill o = IsHomeDemanded g o fill ⊎ (IsHomeCommitted g o fill ⊎ IsHomeMoved g o fill)

-- a SetHome to a frame with this fill, or to a frame that the view doesn't own
abbrev pub MaySetHome : Geometry → Option Fill → Op → Type 0
MaySetHome g fill o = IsSomeAnd fill (λ known. HasNewHome g known o)

-- a shadow is given to the known home, after the SetHome of a transaction
pub record MayShade (g : Geometry) (view : View) (master shadow : ℕ) (o : Op) : Type 0 where
  pub home : o.home ≡ Some (home_word master)
  pub moved : IsTrue o.moved
  pub cleared : IsTrue o.cleared
  pub none : o.shadow ≡ Some 0
  pub slower : tier_of g master < tier_of g shadow
  pub fill : fill_of view shadow ≡ Some (Equal o.page)

-- the shadow of the known home is taken away
pub record MayUnshade (master : ℕ) (o : Op) : Type 0 where
  pub home : o.home ≡ Some (home_word master)
  pub some : IsSomeAnd o.shadow (λ word. word ≢ 0)

abbrev pub MaySetShadow : Geometry → View → ℕ → Option ℕ → Op → Type 0
MaySetShadow g view m None o = MayUnshade m o
MaySetShadow g view m (Some s) o = MayShade g view m s o

-- a Scan: with the turn of that tier, word by word
pub record MayScan (view : View) (tier index : ℕ) : Type 0 where
  pub turn : view.turn ≡ Some tier
  pub next : index ≡ view.scan.words

-- a GiveFrame: with a turn whose whole tier was scanned, of the least frame found
pub record MayGive (g : Geometry) (view : View) (frame : ℕ) : Type 0 where
  pub whole : IsSomeAnd view.turn (λ tier. view.scan.words ≡ free_words g tier)
  pub least : view.scan.least ≡ Some frame

-- a PutFrame: with the turn of the frame's tier, of an owned frame
pub record MayPut (g : Geometry) (view : View) (frame : ℕ) : Type 0 where
  pub turn : view.turn ≡ Some (tier_of g frame)
  pub owned : IsSome (find owned_frame frame view.owned)

-- a mark is set from one value to another
pub record IsMarkSet (before after old new : ℕ) : Type 0 where
  pub old_is : old ≡ before
  pub new_is : new ≡ after

-- a step of a mark: none to candidate and back, and candidate to pending
abbrev pub IsMarkStep : ℕ → ℕ → Type 0
IsMarkStep old new = IsMarkSet 0 1 old new ⊎ (IsMarkSet 1 0 old new ⊎ IsMarkSet 1 2 old new)

-- pending to none, with the operation
pub record IsMarkDone (view : View) (page old new : ℕ) : Type 0 where
  pub pending : old ≡ 2
  pub none : new ≡ 0
  pub op : IsSome (op_on view page)

-- a Read of the home needs the operation; of a shadow word also that its frame is the home read
abbrev pub MayRead : Cell → Op → Type 0
MayRead (Home _) o = Unit {0}
MayRead (Shadow m) o = o.home ≡ Some (home_word m)

-- the view permits an action whose numbers are in range
abbrev pub Permitted : Geometry → View → Action → Type 0
Permitted g view (Load v _) = MayLoad g view v
Permitted g view (Store v _ _) = MayStore g view v
Permitted g view (Add v _ _) = MayStore g view v
Permitted g view (Look _) = Unit {0}
Permitted g view (Walk v e write) = MayWalk g view v e write
Permitted g view (Peek _) = IsProcessor g view
Permitted g view Poll = IsProcessor g view
Permitted g view (Ack to) = MayAck g view to
Permitted g view (Lock b) = MayLock view b
Permitted g view (Unlock b) = IsSomeAnd (op_on view b) (MayUnlock g)
Permitted g view Bump = MayBump view
Permitted g view (SeeAck _) = Unit {0}
Permitted g view (Raise v) = MayRaise g view v
Permitted g view (Soften _ _) = Unit {0}
Permitted g view (Arm v) = IsSomeAnd (op_of g view v) (λ o. IsLookedMapped o.looked o.taken v)
Permitted g view (ClearDirty v) = IsSomeAnd (op_of g view v) (MayClear g v)
Permitted g view (Unmap v) = IsSomeAnd (op_of g view v) (MayUnmap g v)
Permitted g view (Map v word) = IsSomeAnd (op_of g view v) (MayMap g v word)
Permitted g view (Grant v) = IsSomeAnd (op_of g view v) (MayGrant v)
Permitted g view (CopyLoad b i) = IsSomeAnd (op_on view b) (MayCopyLoad g i)
Permitted g view (CopyStore b f i x) = MayCopyStore view b f i x
Permitted g view (SetHome b f) = IsSomeAnd (op_on view b) (MaySetHome g (fill_of view f))
Permitted g view (SetShadow b m s) = IsSomeAnd (op_on view b) (MaySetShadow g view m s)
Permitted g view (TakeTurn _) = view.turn ≡ None
Permitted g view (Scan t k) = MayScan view t k
Permitted g view (GiveFrame f) = MayGive g view f
Permitted g view (PutFrame f) = MayPut g view f
Permitted g view (ReleaseTurn t) = view.turn ≡ Some t
Permitted g view (Mark b old new) = IsMarkStep old new ⊎ IsMarkDone view b old new
Permitted g view (Read b cell) = IsSomeAnd (op_on view b) (MayRead cell)

-- an action is permitted: its numbers are in range, and the view permits it
pub record Allowed (g : Geometry) (view : View) (action : Action) : Type 0 where
  pub range : InRange g action
  pub permitted : Permitted g view action

-- The steps of a demotion before the page is taken out of the table, as a pattern over finished lists, the last step first.
use Rattle.std.specs.Prelude.{ℕ, ◌+◌, ◌-◌, ◌==◌, ◌&&◌, not, nat_lt, Bool, List, [], ◌∷◌, length}
use Rattle.nm_base.specs.Geometry.{Geometry, tier_of}
use Rattle.nm_base.specs.ShadowWord.{shadow_frame}
use Rattle.nm_action.specs.declared.action.Action.TheVariants.{Lock, Unlock, Read}
use Rattle.nm_action.specs.declared.action.Cell.TheVariants as cells
use Rattle.nm_action.specs.declared.action.Reply.{Reply}
use Rattle.nm_action.specs.declared.action.Reply.TheVariants.{Done}
use Rattle.nm_action.specs.Own.{Own}
use Rattle.nm_part.specs.Patterns.{Ends, Follows, Either}
use Rattle.nm_compose.specs.Acts.{IsAct}
use Rattle.nm_vpages.specs.VPages.{vpages_of}
use Rattle.nm_mappings.specs.Visits.{IsVisits, looks_made}
use Rattle.nm_copying.specs.Copying.{told}
use Rattle.nm_obtain.specs.Obtains.{IsObtain}
use Rattle.nm_obtain.specs.declared.obtain.ObtainMade.{ObtainMade}
use Rattle.nm_obtain.specs.declared.obtain.Obtained.{Obtained}
use Rattle.nm_obtain.specs.declared.obtain.Obtained.TheVariants.{Got, AtFloor}
use Rattle.nm_prepare.specs.Worn.{is_worn}
use Rattle.nm_transfer.specs.declared.transfer.Source.TheVariants as sources
use Rattle.nm_demote.specs.declared.select.DemoteMade.{DemoteMade}
use Rattle.nm_demote.specs.declared.select.Early.{Early}
use Rattle.nm_demote.specs.declared.select.Early.TheVariants.{NoFrame, Gone, Worn}
use Rattle.nm_demote.specs.declared.select.Selected.{Selected}
use Rattle.nm_demote.specs.declared.select.Selected.TheVariants.{Busy, Closed, Ready}

-- The early end: the page is unlocked.
abbrev pub UnlocksEarly : Geometry → DemoteMade → Early → Own → Selected → Type 0
UnlocksEarly g made early = Follows (IsAct (Unlock made.page) g) (λ unlocked. Ends (Closed early))

-- 6. Where there is no shadow, a frame of the next slower tier is sought; where there is none, the work ends. Where there is a
-- shadow, it is the new home.
abbrev pub AfterObtain : Geometry → DemoteMade → ℕ → List ℕ → Obtained → Own → Selected → Type 0
AfterObtain g made home pages (Got frame) = Ends (Ready home frame sources.Copy pages)
AfterObtain g made home pages (AtFloor n) = UnlocksEarly g made (NoFrame n)

abbrev pub obtain_for : Geometry → DemoteMade → ℕ → ObtainMade
obtain_for g made home = record { page = made.page; tier = tier_of g home + 1 }

abbrev pub SeeksFrame : Geometry → DemoteMade → ℕ → List ℕ → Own → Selected → Type 0
SeeksFrame g made home pages = Follows (IsObtain (obtain_for g made home) g) (AfterObtain g made home pages)

abbrev pub SelectsHome : Geometry → DemoteMade → ℕ → ℕ → List ℕ → Own → Selected → Type 0
SelectsHome g made home shadow pages = Either (shadow == 0) (SeeksFrame g made home pages) (Ends (Ready home (shadow_frame shadow) sources.Shadow pages))

-- 5. Each virtual page of the page is looked at; where none has a word, the work ends.
abbrev pub AfterLooksToDemote : Geometry → DemoteMade → ℕ → ℕ → List ℕ → Own → Selected → Type 0
AfterLooksToDemote g made home shadow [] = UnlocksEarly g made Gone
AfterLooksToDemote g made home shadow (v ∷ vs) = SelectsHome g made home shadow (v ∷ vs)

abbrev pub LooksToDemote : Geometry → DemoteMade → ℕ → ℕ → Own → Selected → Type 0
LooksToDemote g made home shadow = Follows (IsVisits (looks_made made.page (vpages_of g made.page)) g) (AfterLooksToDemote g made home shadow)

-- 4. The shadow word of the home is read.
abbrev pub ReadsShadowToDemote : Geometry → DemoteMade → ℕ → Own → Selected → Type 0
ReadsShadowToDemote g made home = Follows (IsAct (Read made.page (cells.Shadow home)) g) (λ reply. LooksToDemote g made home (told reply))

-- a home word names a frame that is not in the last tier
abbrev pub has_slower : Geometry → ℕ → Bool
has_slower g word = not (word == 0) && nat_lt (tier_of g (word - 1) + 1) (length g.tiers)

-- 3. The home is read; where there is none, or it is in the last tier, the work ends.
abbrev pub AfterHomeToDemote : Geometry → DemoteMade → ℕ → Own → Selected → Type 0
AfterHomeToDemote g made word = Either (has_slower g word) (ReadsShadowToDemote g made (word - 1)) (UnlocksEarly g made Gone)

abbrev pub ReadsHomeToDemote : Geometry → DemoteMade → Own → Selected → Type 0
ReadsHomeToDemote g made = Follows (IsAct (Read made.page (cells.Home made.page)) g) (λ reply. AfterHomeToDemote g made (told reply))

-- 2. Where almost all numbers are drawn, the work ends.
-- 1. The page is locked; where that is Busy, the work ends.
abbrev pub AfterLockToDemote : Geometry → DemoteMade → Reply → Own → Selected → Type 0
AfterLockToDemote g made Done = Either (is_worn made.spent) (UnlocksEarly g made Worn) (ReadsHomeToDemote g made)
AfterLockToDemote g made _ = Ends Busy

abbrev pub IsSelecting : DemoteMade → Geometry → Own → Selected → Type 0
IsSelecting made g = Follows (IsAct (Lock made.page) g) (AfterLockToDemote g made)

-- Each pattern of the steps before the page is taken out of the table has a list.
use Rattle.std.proofs.Common.{◌≡◌, ℕ, ◌+◌, ◌-◌, ◌==◌, ◌&&◌, not, nat_lt, Bool, true, false, List, [], ◌∷◌, length, refl}
use Rattle.std.proofs.lemmas.Bool.{ltb-true}
use Rattle.nm_base.specs.Geometry.{Geometry, tier_of}
use Rattle.nm_base.specs.Ranges.{IsTier}
use Rattle.nm_base.specs.ShadowWord.{shadow_frame}
use Rattle.nm_action.specs.declared.action.Action.TheVariants.{Lock, Unlock, Read}
use Rattle.nm_action.specs.declared.action.Cell.TheVariants as cells
use Rattle.nm_action.specs.declared.action.Reply.{Reply}
use Rattle.nm_action.specs.declared.action.Reply.TheVariants as replies
use Rattle.nm_part.specs.Patterns.{Ends, Either, CanEnd}
use Rattle.nm_part.proofs.Patterns.{can-ends, can-follow, can-either}
use Rattle.nm_compose.specs.Acts.{IsAct}
use Rattle.nm_compose.proofs.Acting.{some-act}
use Rattle.nm_vpages.specs.VPages.{vpages_of}
use Rattle.nm_mappings.specs.Visits.{IsVisits, looks_made}
use Rattle.nm_mappings.proofs.Visiting.{some-visits}
use Rattle.nm_copying.specs.Copying.{told}
use Rattle.nm_obtain.specs.Obtains.{IsObtain}
use Rattle.nm_obtain.specs.declared.obtain.Obtained.{Obtained}
use Rattle.nm_obtain.specs.declared.obtain.Obtained.TheVariants.{Got, AtFloor}
use Rattle.nm_obtain.proofs.Searching.{some-obtain}
use Rattle.nm_prepare.specs.Worn.{is_worn}
use Rattle.nm_transfer.specs.declared.transfer.Source.TheVariants as sources
use Rattle.nm_demote.specs.declared.select.DemoteMade.{DemoteMade}
use Rattle.nm_demote.specs.declared.select.Early.{Early}
use Rattle.nm_demote.specs.declared.select.Early.TheVariants.{NoFrame, Gone, Worn}
use Rattle.nm_demote.specs.declared.select.Selected.TheVariants.{Busy, Closed, Ready}
use Rattle.nm_demote.specs.Selecting.{UnlocksEarly, AfterObtain, obtain_for, SeeksFrame, SelectsHome, AfterLooksToDemote, LooksToDemote, ReadsShadowToDemote, has_slower, AfterHomeToDemote, ReadsHomeToDemote, AfterLockToDemote, IsSelecting}

pub can-unlocks : (g : Geometry) (made : DemoteMade) (early : Early) → CanEnd (UnlocksEarly g made early)
can-unlocks g made early = can-follow (IsAct (Unlock made.page) g) (λ unlocked. Ends (Closed early)) (some-act (Unlock made.page) g) (can-ends (Closed early))

pub can-after-obtain : (g : Geometry) (made : DemoteMade) (home : ℕ) (pages : List ℕ) (end : Obtained) → CanEnd (AfterObtain g made home pages end)
can-after-obtain g made home pages (Got frame) = can-ends (Ready home frame sources.Copy pages)
can-after-obtain g made home pages (AtFloor n) = can-unlocks g made (NoFrame n)

can-seeks : (g : Geometry) (made : DemoteMade) (home : ℕ) (pages : List ℕ) → IsTier g (tier_of g home + 1) → CanEnd (SeeksFrame g made home pages)
can-seeks g made home pages exists =
    let some = some-obtain (obtain_for g made home) g exists in
    can-follow (IsObtain (obtain_for g made home) g) (AfterObtain g made home pages) some (can-after-obtain g made home pages some.outcome)

can-selects : (g : Geometry) (made : DemoteMade) (home shadow : ℕ) (pages : List ℕ) → IsTier g (tier_of g home + 1) → CanEnd (SelectsHome g made home shadow pages)
can-selects g made home shadow pages exists =
    can-either (shadow == 0) (SeeksFrame g made home pages) (Ends (Ready home (shadow_frame shadow) sources.Shadow pages)) (can-seeks g made home pages exists) (can-ends (Ready home (shadow_frame shadow) sources.Shadow pages))

pub can-after-looks : (g : Geometry) (made : DemoteMade) (home shadow : ℕ) (pages : List ℕ) → IsTier g (tier_of g home + 1) → CanEnd (AfterLooksToDemote g made home shadow pages)
can-after-looks g made home shadow [] exists = can-unlocks g made Gone
can-after-looks g made home shadow (v ∷ vs) exists = can-selects g made home shadow (v ∷ vs) exists

pub can-looks : (g : Geometry) (made : DemoteMade) (home shadow : ℕ) → IsTier g (tier_of g home + 1) → CanEnd (LooksToDemote g made home shadow)
can-looks g made home shadow exists =
    let some = some-visits (looks_made made.page (vpages_of g made.page)) g in
    can-follow (IsVisits (looks_made made.page (vpages_of g made.page)) g) (AfterLooksToDemote g made home shadow) some (can-after-looks g made home shadow some.outcome exists)

can-reads-shadow : (g : Geometry) (made : DemoteMade) (home : ℕ) → IsTier g (tier_of g home + 1) → CanEnd (ReadsShadowToDemote g made home)
can-reads-shadow g made home exists =
    let some = some-act (Read made.page (cells.Shadow home)) g in
    can-follow (IsAct (Read made.page (cells.Shadow home)) g) (λ reply. LooksToDemote g made home (told reply)) some (can-looks g made home (told some.outcome) exists)

not-and : (a b : Bool) → (not a && b) ≡ true → (a ≡ false) × (b ≡ true)
not-and true b e = cc
not-and false b e = (refl, e)

-- a home that is not in the last tier has a slower tier
pub slower-tier : (g : Geometry) (word : ℕ) → has_slower g word ≡ true → ((word == 0) ≡ false) × IsTier g (tier_of g (word - 1) + 1)
slower-tier g word is =
    let both = not-and (word == 0) (nat_lt (tier_of g (word - 1) + 1) (length g.tiers)) is in
    (both.0, ltb-true (tier_of g (word - 1) + 1) (length g.tiers) both.1)

home-test : (g : Geometry) (made : DemoteMade) (word : ℕ) (test : Bool) → has_slower g word ≡ test → CanEnd (Either test (ReadsShadowToDemote g made (word - 1)) (UnlocksEarly g made Gone))
home-test g made word true is = can-reads-shadow g made (word - 1) (slower-tier g word is).1
home-test g made word false is = can-unlocks g made Gone

pub can-after-home : (g : Geometry) (made : DemoteMade) (word : ℕ) → CanEnd (AfterHomeToDemote g made word)
can-after-home g made word = home-test g made word (has_slower g word) refl

can-reads-home : (g : Geometry) (made : DemoteMade) → CanEnd (ReadsHomeToDemote g made)
can-reads-home g made =
    let some = some-act (Read made.page (cells.Home made.page)) g in
    can-follow (IsAct (Read made.page (cells.Home made.page)) g) (λ reply. AfterHomeToDemote g made (told reply)) some (can-after-home g made (told some.outcome))

pub can-after-lock : (g : Geometry) (made : DemoteMade) (reply : Reply) → CanEnd (AfterLockToDemote g made reply)
can-after-lock g made replies.Done = can-either (is_worn made.spent) (UnlocksEarly g made Worn) (ReadsHomeToDemote g made) (can-unlocks g made Worn) (can-reads-home g made)
can-after-lock g made _ = can-ends Busy

-- the pattern has a list
pub some-selecting : (made : DemoteMade) (g : Geometry) → CanEnd (IsSelecting made g)
some-selecting made g = let some = some-act (Lock made.page) g in can-follow (IsAct (Lock made.page) g) (AfterLockToDemote g made) some (can-after-lock g made some.outcome)

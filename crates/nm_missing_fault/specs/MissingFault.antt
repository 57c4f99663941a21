-- The fault on a virtual page that is not mapped, as a finished list of actions and replies.
use Rattle.std.specs.Prelude.{ℕ, ◌-◌, ◌==◌, ◌&&◌, not, Bool, false, Option, Some, None}
use Rattle.nm_base.specs.Geometry.{Geometry, vpage_at, tier_of}
use Rattle.nm_base.specs.PageWord.{word_of}
use Rattle.nm_base.specs.declared.geometry.VPage.{VPage}
use Rattle.nm_base.specs.declared.page_word.PageWord.TheVariants.{Present}
use Rattle.nm_action.specs.declared.action.Action.TheVariants.{Unlock, Look, Read, Map, SetHome}
use Rattle.nm_action.specs.declared.action.Cell.TheVariants.{Home, Shadow}
use Rattle.nm_action.specs.Own.{Own}
use Rattle.nm_part.specs.Patterns.{Ends, Follows, Either}
use Rattle.nm_compose.specs.Acts.{IsAct}
use Rattle.nm_copying.specs.Zeroing.{IsZeroing}
use Rattle.nm_reclaim.specs.Reclaims.{word_in}
use Rattle.nm_missing_fault.specs.Searching.{IsSearch}
use Rattle.nm_shadow_fault.specs.declared.fault.FaultEnd.{FaultEnd}
use Rattle.nm_shadow_fault.specs.declared.fault.FaultEnd.TheVariants.{Demand, Alias, Ready}
use Rattle.nm_shadow_fault.specs.declared.fault.FaultMade.{FaultMade}
use Rattle.nm_shadow_fault.specs.Locking.{LocksPage}

-- The word that maps v.

-- whether a virtual page may be written, if it is mapped
abbrev pub has_right : Option VPage → Bool
has_right None = false
has_right (Some p) = p.writable

-- whether v may be written
abbrev pub vpage_writable : Geometry → ℕ → Bool
vpage_writable g v = has_right (vpage_at g v)

-- v is mapped to a frame, which may have a shadow: with a hint where the frame is not in tier 0; writable where v may be
-- written and there is no shadow; with the right to write kept for later where v may be written and there is one
abbrev pub missing_word : Geometry → ℕ → ℕ → Bool → ℕ
missing_word g v frame shadowed = word_of (Present frame (not (tier_of g frame == 0)) (vpage_writable g v && not shadowed) false false (vpage_writable g v && shadowed))

-- The steps, the last first.

-- v is mapped, and the page unlocked
abbrev pub MapsVPage : Geometry → FaultMade → ℕ → Bool → FaultEnd → Own → FaultEnd → Type 0
MapsVPage g made frame shadowed end = Follows (IsAct (Map made.vpage (missing_word g made.vpage frame shadowed)) g) (λ mapped. Follows (IsAct (Unlock made.page) g) (λ unlocked. Ends end))

-- 5. There is no home. A frame is sought, its words are set to 0, and it is the home, to which v is mapped.
abbrev pub SetsFirstHome : Geometry → FaultMade → ℕ → Own → FaultEnd → Type 0
SetsFirstHome g made frame = Follows (IsAct (SetHome made.page frame) g) (λ set. MapsVPage g made frame false Demand)

abbrev pub ZeroesFrame : Geometry → FaultMade → ℕ → Own → FaultEnd → Type 0
ZeroesFrame g made frame = Follows (IsZeroing (record { frame = frame; words = g.words }) g) (λ zeroed. SetsFirstHome g made frame)

abbrev pub Demands : Geometry → FaultMade → Own → FaultEnd → Type 0
Demands g made = Follows (IsSearch (record { page = made.page }) g) (λ frame. ZeroesFrame g made frame)

-- 4. There is a home, whose shadow word is read, and to which v is mapped.
abbrev pub Aliases : Geometry → FaultMade → ℕ → Own → FaultEnd → Type 0
Aliases g made home = Follows (IsAct (Read made.page (Shadow home)) g) (λ reply. MapsVPage g made home (not (word_in reply == 0)) Alias)

-- 3. The home is read.
abbrev pub MissingAfterHome : Geometry → FaultMade → ℕ → Own → FaultEnd → Type 0
MissingAfterHome g made word = Either (word == 0) (Demands g made) (Aliases g made (word - 1))

-- 2. v is looked at; where its word is not 0, the page is unlocked, and v is ready.
abbrev pub MissingAfterLook : Geometry → FaultMade → ℕ → Own → FaultEnd → Type 0
MissingAfterLook g made word = Either (word == 0) (Follows (IsAct (Read made.page (Home made.page)) g) (λ reply. MissingAfterHome g made (word_in reply)))
    (Follows (IsAct (Unlock made.page) g) (λ unlocked. Ends Ready))

-- 1. The page is locked, again while it is busy.
abbrev pub IsMissingFault : FaultMade → Geometry → Own → FaultEnd → Type 0
IsMissingFault made g = Follows (LocksPage made.page) (λ locked. Follows (IsAct (Look made.vpage) g) (λ reply. MissingAfterLook g made (word_in reply)))

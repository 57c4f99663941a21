-- The fault on a page that is kept read-only for its shadow, as a finished list of actions and replies.
use Rattle.std.specs.Prelude.{ℕ, ◌-◌, ◌==◌, ◌&&◌, not, Bool, Option, Some, None}
use Rattle.nm_base.specs.Geometry.{Geometry}
use Rattle.nm_base.specs.PageWord.{is_present, is_writable, is_saved}
use Rattle.nm_base.specs.ShadowWord.{shadow_frame}
use Rattle.nm_action.specs.declared.action.Action.TheVariants.{Unlock, Look, Read, SetShadow, Grant}
use Rattle.nm_action.specs.declared.action.Cell.TheVariants.{Home, Shadow}
use Rattle.nm_action.specs.Own.{Own}
use Rattle.nm_part.specs.Patterns.{Ends, Follows, Either}
use Rattle.nm_compose.specs.Acts.{IsAct}
use Rattle.nm_pool.specs.declared.job.PoolJob.TheVariants.{Back}
use Rattle.nm_pool.specs.Pool.{IsPool}
use Rattle.nm_reclaim.specs.Reclaims.{word_in}
use Rattle.nm_shadow_fault.specs.declared.fault.FaultEnd.{FaultEnd}
use Rattle.nm_shadow_fault.specs.declared.fault.FaultEnd.TheVariants.{Ready, Granted}
use Rattle.nm_shadow_fault.specs.declared.fault.FaultMade.{FaultMade}
use Rattle.nm_shadow_fault.specs.Locking.{LocksPage}

-- a word is present, and keeps the right to write for later: a store through it needs the fault
abbrev pub needs_grant : ℕ → Bool
needs_grant word = is_present word && (is_saved word && not (is_writable word))

-- 7. Where there was a shadow, its frame is put back.
abbrev pub GrantPutsBack : Geometry → Option ℕ → Own → FaultEnd → Type 0
GrantPutsBack g None = Ends (Granted None)
GrantPutsBack g (Some shadow) = Follows (IsPool g (Back shadow)) (λ end. Ends (Granted (Some shadow)))

-- 6. The page is unlocked.
-- 5. The right to write is granted.
abbrev pub Grants : Geometry → FaultMade → Option ℕ → Own → FaultEnd → Type 0
Grants g made shadow = Follows (IsAct (Grant made.vpage) g) (λ granted. Follows (IsAct (Unlock made.page) g) (λ unlocked. GrantPutsBack g shadow))

-- 4. Where the home has a shadow, its shadow word is set to none.
abbrev pub GrantAfterShadow : Geometry → FaultMade → ℕ → ℕ → Own → FaultEnd → Type 0
GrantAfterShadow g made master word = Either (word == 0) (Grants g made None)
    (Follows (IsAct (SetShadow made.page master None) g) (λ set. Grants g made (Some (shadow_frame word))))

-- 3. The home and its shadow word are read.
abbrev pub GrantAfterHome : Geometry → FaultMade → ℕ → Own → FaultEnd → Type 0
GrantAfterHome g made word = Follows (IsAct (Read made.page (Shadow (word - 1))) g) (λ reply. GrantAfterShadow g made (word - 1) (word_in reply))

-- 2. v is looked at; unless its word needs the fault, the page is unlocked, and v is ready.
abbrev pub GrantAfterLook : Geometry → FaultMade → ℕ → Own → FaultEnd → Type 0
GrantAfterLook g made word = Either (needs_grant word) (Follows (IsAct (Read made.page (Home made.page)) g) (λ reply. GrantAfterHome g made (word_in reply)))
    (Follows (IsAct (Unlock made.page) g) (λ unlocked. Ends Ready))

-- 1. The page is locked, again while it is busy.
abbrev pub IsShadowFault : FaultMade → Geometry → Own → FaultEnd → Type 0
IsShadowFault made g = Follows (LocksPage made.page) (λ locked. Follows (IsAct (Look made.vpage) g) (λ reply. GrantAfterLook g made (word_in reply)))

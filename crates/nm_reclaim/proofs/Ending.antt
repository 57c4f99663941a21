-- What is left of Reclaim has a list.
use Rattle.std.proofs.Common.{◌≡◌, ℕ, ◌+◌, ◌==◌, nat_lt, Bool, true, false, List, ◌-◌, None, refl, subst, arith}
use Rattle.nm_base.specs.Geometry.{Geometry, tier_of}
use Rattle.nm_base.specs.Ranges.{IsTier}
use Rattle.nm_base.specs.ShadowWord.{shadow_frame}
use Rattle.nm_action.specs.declared.action.Action.TheVariants.{Lock, Unlock, Read, SetShadow}
use Rattle.nm_action.specs.declared.action.Cell.TheVariants.{Home, Shadow}
use Rattle.nm_action.specs.declared.action.Reply.{Reply}
use Rattle.nm_action.specs.declared.action.Reply.TheVariants.{Done}
use Rattle.nm_action.specs.Own.{Own}
use Rattle.nm_part.specs.Patterns.{Ends, Follows, CanEnd}
use Rattle.nm_part.proofs.Patterns.{can-ends, can-follow, can-either, each-can}
use Rattle.nm_compose.specs.Acts.{IsAct}
use Rattle.nm_compose.proofs.Acting.{some-act}
use Rattle.nm_pool.specs.declared.job.PoolJob.TheVariants.{Back}
use Rattle.nm_pool.specs.Pool.{IsPool}
use Rattle.nm_pool.proofs.Begun.{some-pool}
use Rattle.nm_reclaim.specs.declared.sweep.ReclaimMade.{ReclaimMade}
use Rattle.nm_reclaim.specs.Reclaims.{most_freed, word_in, PutsBack, DiscardsShadow, LeavesPage, VisitAfterShadow, VisitAfterHome, VisitAfterLock, Visits, VisitsAll}

can-back : (g : Geometry) (shadow : ℕ) → IsTier g (tier_of g shadow) → CanEnd (IsPool g (Back shadow))
can-back g shadow exists = let b = some-pool g (Back shadow) exists in record { rest = b.rest; outcome = b.outcome; shown = b.whole }

pub can-puts : (g : Geometry) (shadow freed : ℕ) (after : ℕ → Own → ℕ → Type 0) → IsTier g (tier_of g shadow) → ((n : ℕ) → CanEnd (after n)) → CanEnd (PutsBack g shadow freed after)
can-puts g shadow freed after exists can = can-follow (IsPool g (Back shadow)) (λ end. after (freed + 1)) (can-back g shadow exists) (can (freed + 1))

pub can-leave : (g : Geometry) (page freed : ℕ) (after : ℕ → Own → ℕ → Type 0) → ((n : ℕ) → CanEnd (after n)) → CanEnd (LeavesPage g page freed after)
can-leave g page freed after can = can-follow (IsAct (Unlock page) g) (λ unlocked. after freed) (some-act (Unlock page) g) (can freed)

pub can-discard : (g : Geometry) (page master shadow freed : ℕ) (after : ℕ → Own → ℕ → Type 0) → IsTier g (tier_of g shadow) → ((n : ℕ) → CanEnd (after n)) → CanEnd (DiscardsShadow g page master shadow freed after)
can-discard g page master shadow freed after exists can =
    can-follow (IsAct (SetShadow page master None) g) (λ set. LeavesPage g page freed (λ n. PutsBack g shadow n after)) (some-act (SetShadow page master None) g)
    (can-leave g page freed (λ n. PutsBack g shadow n after) (λ n. can-puts g shadow n after exists can))

shadow-test : (g : Geometry) (made : ReclaimMade) (page master word freed : ℕ) (after : ℕ → Own → ℕ → Type 0) (empty there : Bool) → IsTier g made.tier → (word == 0) ≡ empty → (tier_of g (shadow_frame word) == made.tier) ≡ there
    → ((n : ℕ) → CanEnd (after n)) → CanEnd (VisitAfterShadow g made page master word freed after)
shadow-test g made page master word freed after true there exists e t can = rw e (can-leave g page freed after can)
shadow-test g made page master word freed after false false exists e t can = rw (e, t) (can-leave g page freed after can)
shadow-test g made page master word freed after false true exists e t can =
    let T : ℕ → Type 0 = λ tier. IsTier g tier in
    let same : made.tier ≡ tier_of g (shadow_frame word) = grind arith in
    rw (e, t) (can-discard g page master (shadow_frame word) freed after (subst T same exists) can)

pub can-after-shadow : (g : Geometry) (made : ReclaimMade) (page master word freed : ℕ) (after : ℕ → Own → ℕ → Type 0) → IsTier g made.tier → ((n : ℕ) → CanEnd (after n)) → CanEnd (VisitAfterShadow g made page master word freed after)
can-after-shadow g made page master word freed after exists can = shadow-test g made page master word freed after (word == 0) (tier_of g (shadow_frame word) == made.tier) exists refl refl can

pub can-after-home : (g : Geometry) (made : ReclaimMade) (page word freed : ℕ) (after : ℕ → Own → ℕ → Type 0) → IsTier g made.tier → ((n : ℕ) → CanEnd (after n)) → CanEnd (VisitAfterHome g made page word freed after)
can-after-home g made page word freed after exists can =
    can-either (word == 0) (LeavesPage g page freed after) (Follows (IsAct (Read page (Shadow (word - 1))) g) (λ reply. VisitAfterShadow g made page (word - 1) (word_in reply) freed after)) (can-leave g page freed after can)
    (can-follow (IsAct (Read page (Shadow (word - 1))) g) (λ reply. VisitAfterShadow g made page (word - 1) (word_in reply) freed after) (some-act (Read page (Shadow (word - 1))) g)
    (can-after-shadow g made page (word - 1) (word_in (some-act (Read page (Shadow (word - 1))) g).outcome) freed after exists can))

pub can-after-lock : (g : Geometry) (made : ReclaimMade) (page : ℕ) (reply : Reply) (freed : ℕ) (after : ℕ → Own → ℕ → Type 0) → IsTier g made.tier → ((n : ℕ) → CanEnd (after n)) → CanEnd (VisitAfterLock g made page reply freed after)
can-after-lock g made page Done freed after exists can =
    can-follow (IsAct (Read page (Home page)) g) (λ reply. VisitAfterHome g made page (word_in reply) freed after) (some-act (Read page (Home page)) g)
    (can-after-home g made page (word_in (some-act (Read page (Home page)) g).outcome) freed after exists can)
can-after-lock g made page _ freed after exists can = can freed

can-visit : (g : Geometry) (made : ReclaimMade) (page freed : ℕ) (after : ℕ → Own → ℕ → Type 0) → IsTier g made.tier → ((n : ℕ) → CanEnd (after n)) → CanEnd (Visits g made page freed after)
can-visit g made page freed after exists can =
    can-either (nat_lt freed (most_freed made)) (Follows (IsAct (Lock page) g) (λ reply. VisitAfterLock g made page reply freed after)) (after freed)
    (can-follow (IsAct (Lock page) g) (λ reply. VisitAfterLock g made page reply freed after) (some-act (Lock page) g) (can-after-lock g made page (some-act (Lock page) g).outcome freed after exists can))
    (can freed)

pub can-visits : (g : Geometry) (made : ReclaimMade) (pages : List ℕ) (freed : ℕ) → IsTier g made.tier → CanEnd (VisitsAll g made pages freed)
can-visits g made pages freed exists = each-can (Visits g made) pages freed (λ all. Ends all) (λ page now later can. can-visit g made page now later exists can) (λ all. can-ends all)

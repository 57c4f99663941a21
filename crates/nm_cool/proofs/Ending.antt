-- Each pattern of the cooling of a candidate has a list.
use Rattle.std.proofs.Common.{ℕ, List}
use Rattle.nm_base.specs.Geometry.{Geometry}
use Rattle.nm_action.specs.declared.action.Action.TheVariants.{Lock, Unlock, Mark}
use Rattle.nm_action.specs.declared.action.Reply.{Reply}
use Rattle.nm_action.specs.declared.action.Reply.TheVariants as replies
use Rattle.nm_part.specs.Patterns.{Ends, CanEnd}
use Rattle.nm_part.proofs.Patterns.{can-ends, can-follow}
use Rattle.nm_compose.specs.Acts.{IsAct}
use Rattle.nm_compose.proofs.Acting.{some-act}
use Rattle.nm_mappings.specs.Visits.{IsVisits, arms_made}
use Rattle.nm_mappings.proofs.Visiting.{some-visits}
use Rattle.nm_looks.specs.Seeing.{IsLooks}
use Rattle.nm_looks.specs.Parts.{page_looks}
use Rattle.nm_looks.proofs.Looking.{some-looks}
use Rattle.nm_cool.specs.declared.cool.Cooled.TheVariants.{Busy, Cold}
use Rattle.nm_cool.specs.Cooling.{CoolData, UnlocksCold, MarksCold, ArmsCold, LooksCold, AfterColdLock, IsCooling}

pub can-unlocks : (made : CoolData) (g : Geometry) → CanEnd (UnlocksCold made g)
can-unlocks made g = can-follow (IsAct (Unlock made.1) g) (λ unlocked. Ends Cold) (some-act (Unlock made.1) g) (can-ends Cold)

pub can-marks : (made : CoolData) (g : Geometry) → CanEnd (MarksCold made g)
can-marks made g = can-follow (IsAct (Mark made.1 1 0) g) (λ marked. UnlocksCold made g) (some-act (Mark made.1 1 0) g) (can-unlocks made g)

pub can-arms : (made : CoolData) (g : Geometry) (outside : List ℕ) → CanEnd (ArmsCold made g outside)
can-arms made g outside = can-follow (IsVisits (arms_made made.1 outside) g) (λ armed. MarksCold made g) (some-visits (arms_made made.1 outside) g) (can-marks made g)

pub can-looks : (made : CoolData) (g : Geometry) → CanEnd (LooksCold made g)
can-looks made g =
    let some = some-looks (page_looks made.0 made.1 0) g in
    can-follow (IsLooks (page_looks made.0 made.1 0) g) (λ seen. ArmsCold made g seen.outside) some (can-arms made g some.outcome.outside)

pub can-after-lock : (made : CoolData) (g : Geometry) (reply : Reply) → CanEnd (AfterColdLock made g reply)
can-after-lock made g replies.Done = can-looks made g
can-after-lock made g _ = can-ends Busy

-- the pattern has a list
pub some-cooling : (made : CoolData) (g : Geometry) → CanEnd (IsCooling made g)
some-cooling made g = let some = some-act (Lock made.1) g in can-follow (IsAct (Lock made.1) g) (AfterColdLock made g) some (can-after-lock made g some.outcome)

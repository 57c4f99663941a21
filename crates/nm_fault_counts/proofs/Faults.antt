-- Faults count what their ends say.
use Rattle.std.proofs.Common.{◌≡◌, ℕ, ◌-◌, ◌==◌, not, Bool, true, false, Option, Some, None, refl}
use Rattle.nm_base.specs.Geometry.{Geometry}
use Rattle.nm_base.specs.ShadowWord.{shadow_frame}
use Rattle.nm_action.specs.declared.action.Action.TheVariants.{Unlock, Look, Read, Map, Grant, SetHome, SetShadow}
use Rattle.nm_action.specs.declared.action.Cell.TheVariants as cells
use Rattle.nm_part.specs.Patterns.{Ends, Follows}
use Rattle.nm_compose.specs.Acts.{IsAct}
use Rattle.nm_compose.specs.declared.or.Or.TheVariants.{This, Other}
use Rattle.nm_pool.specs.Pool.{IsPool}
use Rattle.nm_pool.specs.declared.job.PoolJob.TheVariants.{Back}
use Rattle.nm_copying.specs.Zeroing.{IsZeroing}
use Rattle.nm_reclaim.specs.Reclaims.{word_in}
use Rattle.nm_shadow_fault.specs.declared.fault.FaultEnd.{FaultEnd}
use Rattle.nm_shadow_fault.specs.declared.fault.FaultEnd.TheVariants as faults
use Rattle.nm_shadow_fault.specs.declared.fault.FaultMade.{FaultMade}
use Rattle.nm_shadow_fault.specs.ShadowFault.{needs_grant, GrantPutsBack, Grants, GrantAfterShadow, GrantAfterHome, GrantAfterLook, IsShadowFault}
use Rattle.nm_missing_fault.specs.Searching.{IsSearch}
use Rattle.nm_missing_fault.specs.MissingFault.{missing_word, MapsVPage, SetsFirstHome, ZeroesFrame, Demands, Aliases, MissingAfterHome, MissingAfterLook, IsMissingFault}
use Rattle.nm_fault.specs.Tasks.{IsFault}
use Rattle.nm_fault_counts.specs.FaultTally.{ended_with}
use Rattle.nm_fault_counts.specs.Counted.{AreFaultsCounted, end_counted}
use Rattle.nm_fault_counts.proofs.Plain.{pool-plain, zeroing-plain, search-plain}
use Rattle.nm_fault_counts.proofs.Runs.{Counts, count-ends, count-then, count-last, count-either, count-plain, count-locked}

-- ---- on a page that is kept read-only for its shadow

puts-back-counts : (g : Geometry) (shadow : Option ℕ) → Counts false false (GrantPutsBack g shadow)
puts-back-counts g None = count-ends false false (faults.Granted None) refl
puts-back-counts g (Some shadow) = count-plain (IsPool g (Back shadow)) (λ end. Ends (faults.Granted (Some shadow))) (pool-plain g (Back shadow)) (λ end. count-ends false false (faults.Granted (Some shadow)) refl)

grants-counts : (g : Geometry) (made : FaultMade) (shadow : Option ℕ) → Counts false false (Grants g made shadow)
grants-counts g made shadow =
    count-then false false (Grant made.vpage) g (λ granted. Follows (IsAct (Unlock made.page) g) (λ unlocked. GrantPutsBack g shadow)) refl
    (λ granted. count-then false false (Unlock made.page) g (λ unlocked. GrantPutsBack g shadow) refl (λ unlocked. puts-back-counts g shadow))

grant-home-counts : (g : Geometry) (made : FaultMade) (word : ℕ) → Counts false false (GrantAfterHome g made word)
grant-home-counts g made word =
    count-then false false (Read made.page (cells.Shadow (word - 1))) g (λ reply. GrantAfterShadow g made (word - 1) (word_in reply)) refl (λ reply.
    count-either false false (word_in reply == 0) (Grants g made None) (Follows (IsAct (SetShadow made.page (word - 1) None) g) (λ set. Grants g made (Some (shadow_frame (word_in reply)))))
    (grants-counts g made None)
    (count-then false false (SetShadow made.page (word - 1) None) g (λ set. Grants g made (Some (shadow_frame (word_in reply)))) refl (λ set. grants-counts g made (Some (shadow_frame (word_in reply))))))

ready-counts : (g : Geometry) (made : FaultMade) → Counts false false (Follows (IsAct (Unlock made.page) g) (λ unlocked. Ends faults.Ready))
ready-counts g made = count-last false false made.page g faults.Ready refl

shadow-fault-counts : (h m : Bool) (made : FaultMade) (g : Geometry) → Counts h m (IsShadowFault made g)
shadow-fault-counts h m made g =
    count-locked h m made.page (λ locked. Follows (IsAct (Look made.vpage) g) (λ reply. GrantAfterLook g made (word_in reply))) (λ locked.
    count-then false false (Look made.vpage) g (λ reply. GrantAfterLook g made (word_in reply)) refl (λ reply.
    count-either false false (needs_grant (word_in reply)) (Follows (IsAct (Read made.page (cells.Home made.page)) g) (λ home. GrantAfterHome g made (word_in home))) (Follows (IsAct (Unlock made.page) g) (λ unlocked. Ends faults.Ready))
    (count-then false false (Read made.page (cells.Home made.page)) g (λ home. GrantAfterHome g made (word_in home)) refl (λ home. grant-home-counts g made (word_in home)))
    (ready-counts g made)))

-- ---- on a virtual page that is not mapped

maps-vpage-counts : (homed : Bool) (g : Geometry) (made : FaultMade) (frame : ℕ) (shadowed : Bool) (end : FaultEnd) → ended_with homed true (Unlock made.page) ≡ end_counted end → Counts homed false (MapsVPage g made frame shadowed end)
maps-vpage-counts homed g made frame shadowed end so =
    count-then homed false (Map made.vpage (missing_word g made.vpage frame shadowed)) g (λ mapped. Follows (IsAct (Unlock made.page) g) (λ unlocked. Ends end)) refl
    (λ mapped. count-last homed true made.page g end so)

demands-counts : (g : Geometry) (made : FaultMade) → Counts false false (Demands g made)
demands-counts g made =
    count-plain (IsSearch (record { page = made.page }) g) (λ frame. ZeroesFrame g made frame) (search-plain (record { page = made.page }) g) (λ frame.
    count-plain (IsZeroing (record { frame = frame; words = g.words }) g) (λ zeroed. SetsFirstHome g made frame) (zeroing-plain (record { frame = frame; words = g.words }) g) (λ zeroed.
    count-then false false (SetHome made.page frame) g (λ set. MapsVPage g made frame false faults.Demand) refl (λ set. maps-vpage-counts true g made frame false faults.Demand refl)))

missing-home-counts : (g : Geometry) (made : FaultMade) (word : ℕ) → Counts false false (MissingAfterHome g made word)
missing-home-counts g made word =
    count-either false false (word == 0) (Demands g made) (Aliases g made (word - 1)) (demands-counts g made)
    (count-then false false (Read made.page (cells.Shadow (word - 1))) g (λ reply. MapsVPage g made (word - 1) (not (word_in reply == 0)) faults.Alias) refl (λ reply. maps-vpage-counts false g made (word - 1) (not (word_in reply == 0)) faults.Alias refl))

missing-fault-counts : (h m : Bool) (made : FaultMade) (g : Geometry) → Counts h m (IsMissingFault made g)
missing-fault-counts h m made g =
    count-locked h m made.page (λ locked. Follows (IsAct (Look made.vpage) g) (λ reply. MissingAfterLook g made (word_in reply))) (λ locked.
    count-then false false (Look made.vpage) g (λ reply. MissingAfterLook g made (word_in reply)) refl (λ reply.
    count-either false false (word_in reply == 0) (Follows (IsAct (Read made.page (cells.Home made.page)) g) (λ home. MissingAfterHome g made (word_in home))) (Follows (IsAct (Unlock made.page) g) (λ unlocked. Ends faults.Ready))
    (count-then false false (Read made.page (cells.Home made.page)) g (λ home. MissingAfterHome g made (word_in home)) refl (λ home. missing-home-counts g made (word_in home)))
    (ready-counts g made)))

pub faults-counted : AreFaultsCounted IsFault end_counted
faults-counted h m (This made) g own end done = missing-fault-counts h m made.1 g own end done
faults-counted h m (Other made) g own end done = shadow-fault-counts h m made.1 g own end done

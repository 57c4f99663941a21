-- Faults, which make no Mark.
use Rattle.std.proofs.Common.{ℕ, zero, suc, ◌-◌, ◌==◌, not, Bool, false, length, Option, Some, None}
use Rattle.std.specs.List.{range_with_len}
use Rattle.nm_base.specs.Geometry.{Geometry}
use Rattle.nm_base.specs.ShadowWord.{shadow_frame}
use Rattle.nm_action.specs.declared.action.AckTo.{AckTo}
use Rattle.nm_action.specs.declared.action.Action.TheVariants.{Unlock, Look, Read, Map, Grant, SetHome, SetShadow}
use Rattle.nm_action.specs.declared.action.Cell.TheVariants as cells
use Rattle.nm_action.specs.Own.{Own}
use Rattle.nm_part.specs.Patterns.{Ends, Follows}
use Rattle.nm_compose.specs.Acts.{IsAct}
use Rattle.nm_compose.specs.declared.or.Or.TheVariants.{This, Other}
use Rattle.nm_pool.specs.Pool.{IsPool}
use Rattle.nm_pool.specs.declared.job.PoolJob.TheVariants.{Take, Back}
use Rattle.nm_copying.specs.Zeroing.{IsZeroing}
use Rattle.nm_reclaim.specs.Reclaims.{word_in}
use Rattle.nm_obtain.specs.Obtains.{IsObtain}
use Rattle.nm_shadow_fault.specs.declared.fault.FaultEnd.{FaultEnd}
use Rattle.nm_shadow_fault.specs.declared.fault.FaultEnd.TheVariants as faults
use Rattle.nm_shadow_fault.specs.declared.fault.FaultMade.{FaultMade}
use Rattle.nm_shadow_fault.specs.Locking.{LocksPage}
use Rattle.nm_shadow_fault.specs.ShadowFault.{needs_grant, GrantPutsBack, Grants, GrantAfterShadow, GrantAfterHome, GrantAfterLook, IsShadowFault}
use Rattle.nm_missing_fault.specs.declared.search.SearchMade.{SearchMade}
use Rattle.nm_missing_fault.specs.Searching.{low_mark, frame_taken, frame_obtained, FoundOr, TakesLast, SeeksIn, SeeksFrom, Round, Rounds, IsSearch}
use Rattle.nm_missing_fault.specs.MissingFault.{missing_word, MapsVPage, SetsFirstHome, ZeroesFrame, Demands, Aliases, MissingAfterHome, MissingAfterLook, IsMissingFault}
use Rattle.nm_fault.specs.Tasks.{FaultBegun, IsFault}
use Rattle.nm_marks.specs.Contents.{ListsOnly}
use Rattle.nm_marks.proofs.Patterns.{only-ends, only-follows, only-then, only-either, only-each, only-sometimes}
use Rattle.nm_part_marks.specs.Actions.{IsActionOf}
use Rattle.nm_part_marks.proofs.Leaves.{pool-actions, locks-actions, zeroing-actions}
use Rattle.nm_part_marks.proofs.Keeping.{obtain-actions}

-- ---- on a page that is kept read-only for its shadow

puts-back-actions : (may : ℕ → ℕ → Type 0) (ack : AckTo → Type 0) (g : Geometry) (shadow : Option ℕ) → ListsOnly (IsActionOf may ack) (GrantPutsBack g shadow)
puts-back-actions may ack g None = only-ends (IsActionOf may ack) (faults.Granted None)
puts-back-actions may ack g (Some shadow) = only-follows (IsActionOf may ack) (IsPool g (Back shadow)) (λ end. Ends (faults.Granted (Some shadow))) (pool-actions may ack g (Back shadow)) (λ end. only-ends (IsActionOf may ack) (faults.Granted (Some shadow)))

grants-actions : (may : ℕ → ℕ → Type 0) (ack : AckTo → Type 0) (g : Geometry) (made : FaultMade) (shadow : Option ℕ) → ListsOnly (IsActionOf may ack) (Grants g made shadow)
grants-actions may ack g made shadow =
    only-then (IsActionOf may ack) (Grant made.vpage) g (λ granted. Follows (IsAct (Unlock made.page) g) (λ unlocked. GrantPutsBack g shadow)) tt
    (λ granted. only-then (IsActionOf may ack) (Unlock made.page) g (λ unlocked. GrantPutsBack g shadow) tt (λ unlocked. puts-back-actions may ack g shadow))

grant-home-actions : (may : ℕ → ℕ → Type 0) (ack : AckTo → Type 0) (g : Geometry) (made : FaultMade) (word : ℕ) → ListsOnly (IsActionOf may ack) (GrantAfterHome g made word)
grant-home-actions may ack g made word =
    let M = IsActionOf may ack in
    only-then M (Read made.page (cells.Shadow (word - 1))) g (λ reply. GrantAfterShadow g made (word - 1) (word_in reply)) tt (λ reply.
    only-either M (word_in reply == 0) (Grants g made None) (Follows (IsAct (SetShadow made.page (word - 1) None) g) (λ set. Grants g made (Some (shadow_frame (word_in reply)))))
    (grants-actions may ack g made None)
    (only-then M (SetShadow made.page (word - 1) None) g (λ set. Grants g made (Some (shadow_frame (word_in reply)))) tt (λ set. grants-actions may ack g made (Some (shadow_frame (word_in reply))))))

pub shadow-fault-actions : (may : ℕ → ℕ → Type 0) (ack : AckTo → Type 0) (made : FaultMade) (g : Geometry) → ListsOnly (IsActionOf may ack) (IsShadowFault made g)
shadow-fault-actions may ack made g =
    let M = IsActionOf may ack in
    only-follows M (LocksPage made.page) (λ locked. Follows (IsAct (Look made.vpage) g) (λ reply. GrantAfterLook g made (word_in reply))) (locks-actions may ack made.page) (λ locked.
    only-then M (Look made.vpage) g (λ reply. GrantAfterLook g made (word_in reply)) tt (λ reply.
    only-either M (needs_grant (word_in reply)) (Follows (IsAct (Read made.page (cells.Home made.page)) g) (λ home. GrantAfterHome g made (word_in home))) (Follows (IsAct (Unlock made.page) g) (λ unlocked. Ends faults.Ready))
    (only-then M (Read made.page (cells.Home made.page)) g (λ home. GrantAfterHome g made (word_in home)) tt (λ home. grant-home-actions may ack g made (word_in home)))
    (only-then M (Unlock made.page) g (λ unlocked. Ends faults.Ready) tt (λ unlocked. only-ends M faults.Ready))))

-- ---- the search for a frame

found-actions : (may : ℕ → ℕ → Type 0) (ack : AckTo → Type 0) (next : Own → ℕ → Type 0) (frame : Option ℕ) → ListsOnly (IsActionOf may ack) next → ListsOnly (IsActionOf may ack) (FoundOr next frame)
found-actions may ack next (Some frame) rest = only-ends (IsActionOf may ack) frame
found-actions may ack next None rest = rest

round-actions : (may : ℕ → ℕ → Type 0) (ack : AckTo → Type 0) (made : SearchMade) (g : Geometry) (again : Own → ℕ → Type 0) → ListsOnly (IsActionOf may ack) again → ListsOnly (IsActionOf may ack) (Round made g again)
round-actions may ack made g again rest =
    let M = IsActionOf may ack in
    let last : ListsOnly M (TakesLast g again) = only-follows M (IsPool g (Take 0 0)) (λ end. FoundOr again (frame_taken end)) (pool-actions may ack g (Take 0 0)) (λ end. found-actions may ack again (frame_taken end) rest) in
    let seeks : ListsOnly M (SeeksFrom made g 1 again) =
    only-each M (SeeksIn made g) (range_with_len 1 (length g.tiers - 1)) (λ kept. TakesLast g again)
    (λ tier kept next then. only-follows M (IsObtain (record { page = made.page; tier = tier }) g) (λ end. FoundOr (next kept) (frame_obtained end)) (obtain-actions may ack (record { page = made.page; tier = tier }) g) (λ end. found-actions may ack (next kept) (frame_obtained end) (then kept)))
    (λ kept. last) tt in
    only-follows M (IsPool g (Take 0 (low_mark g))) (λ end. FoundOr (SeeksFrom made g 1 again) (frame_taken end)) (pool-actions may ack g (Take 0 (low_mark g))) (λ end. found-actions may ack (SeeksFrom made g 1 again) (frame_taken end) seeks)

rounds-actions : (may : ℕ → ℕ → Type 0) (ack : AckTo → Type 0) (made : SearchMade) (g : Geometry) (n : ℕ) → ListsOnly (IsActionOf may ack) (Rounds made g n)
rounds-actions may ack made g zero = λ own frame h. absurd h
rounds-actions may ack made g (suc n) = round-actions may ack made g (Rounds made g n) (rounds-actions may ack made g n)

search-actions : (may : ℕ → ℕ → Type 0) (ack : AckTo → Type 0) (made : SearchMade) (g : Geometry) → ListsOnly (IsActionOf may ack) (IsSearch made g)
search-actions may ack made g = only-sometimes (IsActionOf may ack) (Rounds made g) (rounds-actions may ack made g)

-- ---- on a virtual page that is not mapped

maps-vpage-actions : (may : ℕ → ℕ → Type 0) (ack : AckTo → Type 0) (g : Geometry) (made : FaultMade) (frame : ℕ) (shadowed : Bool) (end : FaultEnd) → ListsOnly (IsActionOf may ack) (MapsVPage g made frame shadowed end)
maps-vpage-actions may ack g made frame shadowed end =
    only-then (IsActionOf may ack) (Map made.vpage (missing_word g made.vpage frame shadowed)) g (λ mapped. Follows (IsAct (Unlock made.page) g) (λ unlocked. Ends end)) tt
    (λ mapped. only-then (IsActionOf may ack) (Unlock made.page) g (λ unlocked. Ends end) tt (λ unlocked. only-ends (IsActionOf may ack) end))

demands-actions : (may : ℕ → ℕ → Type 0) (ack : AckTo → Type 0) (g : Geometry) (made : FaultMade) → ListsOnly (IsActionOf may ack) (Demands g made)
demands-actions may ack g made =
    let M = IsActionOf may ack in
    only-follows M (IsSearch (record { page = made.page }) g) (λ frame. ZeroesFrame g made frame) (search-actions may ack (record { page = made.page }) g) (λ frame.
    only-follows M (IsZeroing (record { frame = frame; words = g.words }) g) (λ zeroed. SetsFirstHome g made frame) (zeroing-actions may ack (record { frame = frame; words = g.words }) g) (λ zeroed.
    only-then M (SetHome made.page frame) g (λ set. MapsVPage g made frame false faults.Demand) tt (λ set. maps-vpage-actions may ack g made frame false faults.Demand)))

missing-home-actions : (may : ℕ → ℕ → Type 0) (ack : AckTo → Type 0) (g : Geometry) (made : FaultMade) (word : ℕ) → ListsOnly (IsActionOf may ack) (MissingAfterHome g made word)
missing-home-actions may ack g made word =
    only-either (IsActionOf may ack) (word == 0) (Demands g made) (Aliases g made (word - 1)) (demands-actions may ack g made)
    (only-then (IsActionOf may ack) (Read made.page (cells.Shadow (word - 1))) g (λ reply. MapsVPage g made (word - 1) (not (word_in reply == 0)) faults.Alias) tt (λ reply. maps-vpage-actions may ack g made (word - 1) (not (word_in reply == 0)) faults.Alias))

pub missing-fault-actions : (may : ℕ → ℕ → Type 0) (ack : AckTo → Type 0) (made : FaultMade) (g : Geometry) → ListsOnly (IsActionOf may ack) (IsMissingFault made g)
missing-fault-actions may ack made g =
    let M = IsActionOf may ack in
    only-follows M (LocksPage made.page) (λ locked. Follows (IsAct (Look made.vpage) g) (λ reply. MissingAfterLook g made (word_in reply))) (locks-actions may ack made.page) (λ locked.
    only-then M (Look made.vpage) g (λ reply. MissingAfterLook g made (word_in reply)) tt (λ reply.
    only-either M (word_in reply == 0) (Follows (IsAct (Read made.page (cells.Home made.page)) g) (λ home. MissingAfterHome g made (word_in home))) (Follows (IsAct (Unlock made.page) g) (λ unlocked. Ends faults.Ready))
    (only-then M (Read made.page (cells.Home made.page)) g (λ home. MissingAfterHome g made (word_in home)) tt (λ home. missing-home-actions may ack g made (word_in home)))
    (only-then M (Unlock made.page) g (λ unlocked. Ends faults.Ready) tt (λ unlocked. only-ends M faults.Ready))))

pub fault-actions : (may : ℕ → ℕ → Type 0) (ack : AckTo → Type 0) (begun : FaultBegun) (g : Geometry) → ListsOnly (IsActionOf may ack) (IsFault begun g)
fault-actions may ack (This made) g = missing-fault-actions may ack made.1 g
fault-actions may ack (Other made) g = shadow-fault-actions may ack made.1 g

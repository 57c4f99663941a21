-- Faults leave no choice.
use Rattle.std.proofs.Common.{ℕ, zero, suc, ◌-◌, ◌==◌, not, Bool, false, length, Option, Some, None}
use Rattle.std.specs.List.{range_with_len}
use Rattle.nm_base.specs.Geometry.{Geometry}
use Rattle.nm_base.specs.ShadowWord.{shadow_frame}
use Rattle.nm_action.specs.declared.action.Action.TheVariants.{Unlock, Look, Read, Map, Grant, SetHome, SetShadow}
use Rattle.nm_action.specs.declared.action.Cell.TheVariants as cells
use Rattle.nm_action.specs.Own.{Own}
use Rattle.nm_part.specs.Patterns.{Ends, Follows}
use Rattle.nm_compose.specs.Acts.{IsAct}
use Rattle.nm_compose.specs.declared.or.Or.TheVariants.{This, Other}
use Rattle.nm_pool.specs.Pool.{IsPool}
use Rattle.nm_pool.specs.declared.job.PoolJob.TheVariants.{Take, Back}
use Rattle.nm_copying.specs.Zeroing.{IsZeroing}
use Rattle.nm_reclaim.specs.Reclaims.{word_in}
use Rattle.nm_obtain.specs.Obtains.{IsObtain}
use Rattle.nm_shadow_fault.specs.declared.fault.FaultEnd.{FaultEnd}
use Rattle.nm_shadow_fault.specs.declared.fault.FaultEnd.TheVariants as faults
use Rattle.nm_shadow_fault.specs.declared.fault.FaultMade.{FaultMade}
use Rattle.nm_shadow_fault.specs.Locking.{LocksPage}
use Rattle.nm_shadow_fault.specs.ShadowFault.{needs_grant, GrantPutsBack, Grants, GrantAfterShadow, GrantAfterHome, GrantAfterLook, IsShadowFault}
use Rattle.nm_missing_fault.specs.declared.search.SearchMade.{SearchMade}
use Rattle.nm_missing_fault.specs.Searching.{low_mark, frame_taken, frame_obtained, FoundOr, TakesLast, SeeksIn, SeeksFrom, Round, Rounds, IsSearch}
use Rattle.nm_missing_fault.specs.MissingFault.{missing_word, MapsVPage, SetsFirstHome, ZeroesFrame, Demands, Aliases, MissingAfterHome, MissingAfterLook, IsMissingFault}
use Rattle.nm_fault.specs.Tasks.{FaultBegun, IsFault}
use Rattle.nm_choice.specs.Deterministic.{AreRepliesApart, AgreeUpToAnswers, IsDeterministicPart}
use Rattle.nm_choice.proofs.Patterns.{agree-follows, agree-each, one-ends, one-follows, one-either, one-sometimes}
use Rattle.nm_choice.proofs.Acts.{one-then}
use Rattle.nm_part_choice.proofs.Leaves.{pool-one, locks-one, zeroing-one}
use Rattle.nm_part_choice.proofs.Keeping.{obtain-one}

-- ---- on a page that is kept read-only for its shadow

puts-back-one : (g : Geometry) (shadow : Option ℕ) → IsDeterministicPart (GrantPutsBack g shadow)
puts-back-one g None = one-ends AreRepliesApart (faults.Granted None)
puts-back-one g (Some shadow) = one-follows AreRepliesApart (IsPool g (Back shadow)) (λ end. Ends (faults.Granted (Some shadow))) (pool-one g (Back shadow)) (λ end. one-ends AreRepliesApart (faults.Granted (Some shadow)))

grants-one : (g : Geometry) (made : FaultMade) (shadow : Option ℕ) → IsDeterministicPart (Grants g made shadow)
grants-one g made shadow =
    one-then (Grant made.vpage) g (λ granted. Follows (IsAct (Unlock made.page) g) (λ unlocked. GrantPutsBack g shadow))
    (λ granted. one-then (Unlock made.page) g (λ unlocked. GrantPutsBack g shadow) (λ unlocked. puts-back-one g shadow))

grant-home-one : (g : Geometry) (made : FaultMade) (word : ℕ) → IsDeterministicPart (GrantAfterHome g made word)
grant-home-one g made word =
    one-then (Read made.page (cells.Shadow (word - 1))) g (λ reply. GrantAfterShadow g made (word - 1) (word_in reply)) (λ reply.
    one-either AreRepliesApart (word_in reply == 0) (Grants g made None) (Follows (IsAct (SetShadow made.page (word - 1) None) g) (λ set. Grants g made (Some (shadow_frame (word_in reply)))))
    (grants-one g made None)
    (one-then (SetShadow made.page (word - 1) None) g (λ set. Grants g made (Some (shadow_frame (word_in reply)))) (λ set. grants-one g made (Some (shadow_frame (word_in reply))))))

pub shadow-fault-one : (made : FaultMade) (g : Geometry) → IsDeterministicPart (IsShadowFault made g)
shadow-fault-one made g =
    one-follows AreRepliesApart (LocksPage made.page) (λ locked. Follows (IsAct (Look made.vpage) g) (λ reply. GrantAfterLook g made (word_in reply))) (locks-one made.page) (λ locked.
    one-then (Look made.vpage) g (λ reply. GrantAfterLook g made (word_in reply)) (λ reply.
    one-either AreRepliesApart (needs_grant (word_in reply)) (Follows (IsAct (Read made.page (cells.Home made.page)) g) (λ home. GrantAfterHome g made (word_in home))) (Follows (IsAct (Unlock made.page) g) (λ unlocked. Ends faults.Ready))
    (one-then (Read made.page (cells.Home made.page)) g (λ home. GrantAfterHome g made (word_in home)) (λ home. grant-home-one g made (word_in home)))
    (one-then (Unlock made.page) g (λ unlocked. Ends faults.Ready) (λ unlocked. one-ends AreRepliesApart faults.Ready))))

-- ---- the search for a frame

-- Where no frame was found, what comes next may be made a different number of times in two lists.

found-one : (next then : Own → ℕ → Type 0) (frame : Option ℕ) → AgreeUpToAnswers AreRepliesApart next then → AgreeUpToAnswers AreRepliesApart (FoundOr next frame) (FoundOr then frame)
found-one next then (Some frame) rest = one-ends AreRepliesApart frame
found-one next then None rest = rest

last-one : (g : Geometry) (again retry : Own → ℕ → Type 0) → AgreeUpToAnswers AreRepliesApart again retry → AgreeUpToAnswers AreRepliesApart (TakesLast g again) (TakesLast g retry)
last-one g again retry rest =
    agree-follows AreRepliesApart (IsPool g (Take 0 0)) (IsPool g (Take 0 0)) (λ end. FoundOr again (frame_taken end)) (λ end. FoundOr retry (frame_taken end)) (pool-one g (Take 0 0)) (λ end. found-one again retry (frame_taken end) rest)

seeks-one : (made : SearchMade) (g : Geometry) (again retry : Own → ℕ → Type 0) → AgreeUpToAnswers AreRepliesApart again retry → AgreeUpToAnswers AreRepliesApart (SeeksFrom made g 1 again) (SeeksFrom made g 1 retry)
seeks-one made g again retry rest =
    agree-each AreRepliesApart (SeeksIn made g) (range_with_len 1 (length g.tiers - 1)) (λ kept. TakesLast g again) (λ kept. TakesLast g retry)
    (λ tier kept next later then. agree-follows AreRepliesApart (IsObtain (record { page = made.page; tier = tier }) g) (IsObtain (record { page = made.page; tier = tier }) g) (λ end. FoundOr (next kept) (frame_obtained end)) (λ end. FoundOr (later kept) (frame_obtained end)) (obtain-one (record { page = made.page; tier = tier }) g) (λ end. found-one (next kept) (later kept) (frame_obtained end) (then kept)))
    (λ kept. last-one g again retry rest) tt

round-one : (made : SearchMade) (g : Geometry) (again retry : Own → ℕ → Type 0) → AgreeUpToAnswers AreRepliesApart again retry → AgreeUpToAnswers AreRepliesApart (Round made g again) (Round made g retry)
round-one made g again retry rest =
    agree-follows AreRepliesApart (IsPool g (Take 0 (low_mark g))) (IsPool g (Take 0 (low_mark g))) (λ end. FoundOr (SeeksFrom made g 1 again) (frame_taken end)) (λ end. FoundOr (SeeksFrom made g 1 retry) (frame_taken end))
    (pool-one g (Take 0 (low_mark g))) (λ end. found-one (SeeksFrom made g 1 again) (SeeksFrom made g 1 retry) (frame_taken end) (seeks-one made g again retry rest))

rounds-one : (made : SearchMade) (g : Geometry) (n m : ℕ) → AgreeUpToAnswers AreRepliesApart (Rounds made g n) (Rounds made g m)
rounds-one made g zero m = λ own other frame end h k. absurd h
rounds-one made g (suc n) zero = λ own other frame end h k. absurd k
rounds-one made g (suc n) (suc m) = round-one made g (Rounds made g n) (Rounds made g m) (rounds-one made g n m)

search-one : (made : SearchMade) (g : Geometry) → IsDeterministicPart (IsSearch made g)
search-one made g = one-sometimes AreRepliesApart (Rounds made g) (rounds-one made g)

-- ---- on a virtual page that is not mapped

maps-vpage-one : (g : Geometry) (made : FaultMade) (frame : ℕ) (shadowed : Bool) (end : FaultEnd) → IsDeterministicPart (MapsVPage g made frame shadowed end)
maps-vpage-one g made frame shadowed end =
    one-then (Map made.vpage (missing_word g made.vpage frame shadowed)) g (λ mapped. Follows (IsAct (Unlock made.page) g) (λ unlocked. Ends end))
    (λ mapped. one-then (Unlock made.page) g (λ unlocked. Ends end) (λ unlocked. one-ends AreRepliesApart end))

demands-one : (g : Geometry) (made : FaultMade) → IsDeterministicPart (Demands g made)
demands-one g made =
    one-follows AreRepliesApart (IsSearch (record { page = made.page }) g) (λ frame. ZeroesFrame g made frame) (search-one (record { page = made.page }) g) (λ frame.
    one-follows AreRepliesApart (IsZeroing (record { frame = frame; words = g.words }) g) (λ zeroed. SetsFirstHome g made frame) (zeroing-one (record { frame = frame; words = g.words }) g) (λ zeroed.
    one-then (SetHome made.page frame) g (λ set. MapsVPage g made frame false faults.Demand) (λ set. maps-vpage-one g made frame false faults.Demand)))

missing-home-one : (g : Geometry) (made : FaultMade) (word : ℕ) → IsDeterministicPart (MissingAfterHome g made word)
missing-home-one g made word =
    one-either AreRepliesApart (word == 0) (Demands g made) (Aliases g made (word - 1)) (demands-one g made)
    (one-then (Read made.page (cells.Shadow (word - 1))) g (λ reply. MapsVPage g made (word - 1) (not (word_in reply == 0)) faults.Alias) (λ reply. maps-vpage-one g made (word - 1) (not (word_in reply == 0)) faults.Alias))

pub missing-fault-one : (made : FaultMade) (g : Geometry) → IsDeterministicPart (IsMissingFault made g)
missing-fault-one made g =
    one-follows AreRepliesApart (LocksPage made.page) (λ locked. Follows (IsAct (Look made.vpage) g) (λ reply. MissingAfterLook g made (word_in reply))) (locks-one made.page) (λ locked.
    one-then (Look made.vpage) g (λ reply. MissingAfterLook g made (word_in reply)) (λ reply.
    one-either AreRepliesApart (word_in reply == 0) (Follows (IsAct (Read made.page (cells.Home made.page)) g) (λ home. MissingAfterHome g made (word_in home))) (Follows (IsAct (Unlock made.page) g) (λ unlocked. Ends faults.Ready))
    (one-then (Read made.page (cells.Home made.page)) g (λ home. MissingAfterHome g made (word_in home)) (λ home. missing-home-one g made (word_in home)))
    (one-then (Unlock made.page) g (λ unlocked. Ends faults.Ready) (λ unlocked. one-ends AreRepliesApart faults.Ready))))

pub fault-one : (begun : FaultBegun) (g : Geometry) → IsDeterministicPart (IsFault begun g)
fault-one (This made) g = missing-fault-one made.1 g
fault-one (Other made) g = shadow-fault-one made.1 g

-- The steps of a pool task.
use Rattle.std.proofs.Common.{◌≡◌, ℕ, suc, ◌+◌, ◌-◌, ◌*◌, ◌<◌, ◌≤◌, [], ◌∷◌, ◌++◌, Some, length, refl, sym, subst, arith}
use Rattle.std.proofs.lemmas.List.Sums.{sum_by-take-le}
use Rattle.nm_base.specs.Geometry.{Geometry, frame_count}
use Rattle.nm_action.specs.declared.action.Action.{Action}
use Rattle.nm_action.specs.declared.action.Reply.{Reply}
use Rattle.nm_action.specs.declared.action.Reply.TheVariants.{Done, Word, Busy, Lost}
use Rattle.nm_action.specs.declared.action.Action.TheVariants.{TakeTurn, Scan, GiveFrame, PutFrame, ReleaseTurn}
use Rattle.nm_action.specs.declared.turn.Step.{Step}
use Rattle.nm_action.specs.declared.turn.Step.TheVariants.{Do, Over}
use Rattle.nm_view.specs.declared.view.Scanned.{Scanned}
use Rattle.nm_view.specs.Views.{View}
use Rattle.nm_base.specs.FreeWords.{free_words}
use Rattle.nm_event.specs.After.{scanned_word, view_after}
use Rattle.nm_view.specs.Opening.{unscanned}
use Rattle.nm_permit.specs.Permitted.{Allowed}
use Rattle.nm_event.specs.Fitting.{Fits}
use Rattle.nm_action.specs.Own.{Own}
use Rattle.nm_part.specs.Parts.{IsBegunWith, IsQuiet, IsPartStep, NothingTold}
use Rattle.nm_part.proofs.OwnLemmas.{view-push}
use Rattle.nm_pool.specs.declared.job.PoolJob.{PoolJob}
use Rattle.nm_pool.specs.declared.job.PoolJob.TheVariants.{Take, Level, Back}
use Rattle.nm_pool.specs.declared.job.PoolMade.{PoolMade}
use Rattle.nm_pool.specs.declared.job.PoolEnd.{PoolEnd}
use Rattle.nm_pool.specs.declared.job.PoolEnd.TheVariants as ends
use Rattle.nm_pool.specs.declared.task.PoolTask.{PoolTask}
use Rattle.nm_pool.specs.declared.task.Stage.{Stage}
use Rattle.nm_pool.specs.declared.task.Stage.TheVariants.{New, Turning, Scanning, Giving, Putting, Releasing}
use Rattle.nm_pool.specs.Pool.{tier_for, scanned, IsPool}
use Rattle.nm_pool.specs.Given.{pool_made, MayBegin, IsGiven, Leaves}
use Rattle.nm_pool.specs.Stages.{action_at, next_stage, HasTurn, IsScanning, IsScanJob, IsReleasing, IsAtStage, AwaitsPoolAt, AwaitsPool}
use Rattle.nm_pool.proofs.Begun.{IsUnder, finished, begun-release, begun-give, begun-word, begun-scan, begun-put, begun-refused}
use Rattle.nm_pool.proofs.Views.{tier-exists, view-refused, at-refused, at-turn, at-scanned-word, at-next, at-given, at-put}

-- What is permitted.

-- the frame of a tier is a frame
frame-exists : (g : Geometry) (tier : ℕ) (v : View) (f : ℕ) → IsGiven g tier v f → f < frame_count g
frame-exists g tier v f h = omega (arith, h.there.below, sum_by-take-le (λ x. x) g.tiers (tier + 1))

permitted-scan : (g : Geometry) (v : View) (job : PoolJob) (own : Own) (scan : Scanned) → IsScanning (pool_made g job) g v own scan → scan.words < free_words g (tier_for g job) → Allowed g (view_after g v own) (Scan (tier_for g job) scan.words)
permitted-scan g v job own scan h lt = rw h.turn.now (record { range = record { tier = tier-exists g v job h.turn.may; index = lt }; permitted = record { turn = refl; next = refl } })

permitted-give : (g : Geometry) (v : View) (job : PoolJob) (own : Own) (scan : Scanned) (f : ℕ) → IsScanning (pool_made g job) g v own scan → free_words g (tier_for g job) ≤ scan.words → scan.least ≡ Some f → Allowed g (view_after g v own) (GiveFrame f)
permitted-give g v job own scan f h ge e =
    let least = rw e at h.has.least in
    rw h.turn.now (record { range = frame-exists g (tier_for g job) v f least.1; permitted = record { whole = omega (arith, h.has.count, h.within, ge); least = e } })

put_go : (g : Geometry) (v : View) (frame : ℕ) (own : Own) (scan : Scanned) → HasTurn (pool_made g (Back frame)) g v own [] scan → Allowed g (view_after g v own) (PutFrame frame)
put_go g v frame own scan h = rw h.now (record { range = h.may.work.0; permitted = record { turn = refl; owned = h.may.work.1 } })

permitted-put : (g : Geometry) (v : View) (job : PoolJob) (own : Own) (scan : Scanned) (frame : ℕ) → HasTurn (pool_made g job) g v own [] scan → job ≡ Back frame → Allowed g (view_after g v own) (PutFrame frame)
permitted-put g v job own scan frame h e =
    let P : PoolJob → Type 0 = λ j. HasTurn (pool_made g j) g v own [] scan → Allowed g (view_after g v own) (PutFrame frame) in
    subst P (sym e) (λ t. put_go g v frame own scan t) h

permitted : (g : Geometry) (v : View) (job : PoolJob) (own : Own) (scan : Scanned) (stage : Stage) → IsAtStage (pool_made g job) scan stage g v own → Allowed g (view_after g v own) (action_at (pool_made g job) scan stage)
permitted g v job own scan New h = absurd h
permitted g v job own scan Turning h = record { range = tier-exists g v job h.may; permitted = rw (h.is, view-refused) h.may.turn }
permitted g v job own scan Scanning h = permitted-scan g v job own scan h.0 h.1
permitted g v job own scan (Giving f) h = permitted-give g v job own scan f h.0 h.1 h.2
permitted g v job own scan (Putting f) h = permitted-put g v job own scan f h.0 h.1
permitted g v job own scan (Releasing end) h = record { range = tier-exists g v job h.may; permitted = h.turn }

-- Lists that can be carried on.

under-scan : (g : Geometry) (v : View) (job : PoolJob) (own : Own) (scan : Scanned) → (h : IsScanning (pool_made g job) g v own scan) → IsUnder (tier_for g job) own (scanned (tier_for g job) 0 h.words)
under-scan g v job own scan h = record { busy = h.turn.busy; is = h.turn.is }

scan_go : (g : Geometry) (v : View) (job : PoolJob) (own : Own) (scan : Scanned) (k : ℕ) → IsScanJob job → (h : IsScanning (pool_made g job) g v own scan) → length h.words + suc k ≡ free_words g (tier_for g job)
    → IsBegunWith (IsPool g job) own (Scan (tier_for g job) (length h.words))
scan_go g v job own scan k is h left =
    let exists = tier-exists g v job h.turn.may in
    begun-word g job v k own h.words scan exists (under-scan g v job own scan h) left h.has (λ o ws s u l h. begun-scan g job v k o ws s is exists u l h)

begun-scanning : (g : Geometry) (v : View) (job : PoolJob) (own : Own) (scan : Scanned) → IsScanJob job → scan.words < free_words g (tier_for g job) → IsScanning (pool_made g job) g v own scan → IsBegunWith (IsPool g job) own (Scan (tier_for g job) scan.words)
begun-scanning g v job own scan is lt h =
    let P : ℕ → Type 0 = λ n. IsBegunWith (IsPool g job) own (Scan (tier_for g job) n) in
    subst P (sym h.has.count) (scan_go g v job own scan (free_words g (tier_for g job) - (length h.words + 1)) is h (omega (arith, h.has.count, lt)))

give_go : (g : Geometry) (v : View) (tier floor : ℕ) (own : Own) (scan : Scanned) (f : ℕ) → floor < scan.sum → free_words g tier ≤ scan.words → scan.least ≡ Some f → IsScanning (pool_made g (Take tier floor)) g v own scan → IsBegunWith (IsPool g (Take tier floor)) own (GiveFrame f)
give_go g v tier floor own scan f more ge e h =
    let least = rw e at h.has.least in
    begun-give g tier floor own h.words v scan f (under-scan g v (Take tier floor) own scan h) (omega (arith, h.has.count, h.within, ge)) more h.has least.0

begun-giving : (g : Geometry) (v : View) (job : PoolJob) (own : Own) (scan : Scanned) (f : ℕ) → IsAtStage (pool_made g job) scan (Giving f) g v own → IsBegunWith (IsPool g job) own (GiveFrame f)
begun-giving g v (Take tier floor) own scan f (h, ge, e, more) = give_go g v tier floor own scan f more ge e h
begun-giving g v (Level tier) own scan f (h, ge, e, more) = absurd more
begun-giving g v (Back frame) own scan f (h, ge, e, more) = absurd more

begun-putting : (g : Geometry) (v : View) (job : PoolJob) (own : Own) (scan : Scanned) (frame : ℕ) → HasTurn (pool_made g job) g v own [] scan → job ≡ Back frame → IsBegunWith (IsPool g job) own (PutFrame frame)
begun-putting g v job own scan frame h e =
    let P : PoolJob → Type 0 = λ j. HasTurn (pool_made g j) g v own [] scan → IsBegunWith (IsPool g j) own (PutFrame frame) in
    subst P (sym e) (λ t. begun-put g frame own (record { busy = t.busy; is = t.is })) h

begun : (g : Geometry) (v : View) (job : PoolJob) (own : Own) (scan : Scanned) (stage : Stage) → IsAtStage (pool_made g job) scan stage g v own → IsBegunWith (IsPool g job) own (action_at (pool_made g job) scan stage)
begun g v job own scan New h = absurd h
begun g v job own scan Turning h = begun-refused g job v own h.busy (tier-exists g v job h.may) h.is
begun g v job own scan Scanning h = begun-scanning g v job own scan h.2 h.1 h.0
begun g v job own scan (Giving f) h = begun-giving g v job own scan f h
begun g v job own scan (Putting f) h = begun-putting g v job own scan f h.0 h.1
begun g v job own scan (Releasing end) h = begun-release g job own h.inner end (record { busy = h.busy; is = h.is }) h.work

quiet : (made : PoolMade) (scan : Scanned) (stage : Stage) → IsQuiet (action_at made scan stage)
quiet made scan New = tt
quiet made scan Turning = tt
quiet made scan Scanning = tt
quiet made scan (Giving f) = tt
quiet made scan (Putting f) = tt
quiet made scan (Releasing end) = tt

-- Steps.

-- what a step of a task has to be
abbrev pub IsPoolStep : PoolMade → PoolJob → Scanned → Stage → Geometry → View → Own → Step PoolEnd → Type 0
IsPoolStep made job scan stage g v own result = IsPartStep (AwaitsPoolAt made scan stage) (λ g. IsPool g job) (λ g. Leaves g job) NothingTold g v own result

-- a stage gives its action
asks : (g : Geometry) (v : View) (job : PoolJob) (own : Own) (scan : Scanned) (stage : Stage) → IsAtStage (pool_made g job) scan stage g v own → IsPoolStep (pool_made g job) job scan stage g v own (Do (action_at (pool_made g job) scan stage))
asks g v job own scan stage h = record {
  quiet = quiet (pool_made g job) scan stage;
  permitted = permitted g v job own scan stage h;
  awaited = record { at = h; is = refl };
  begun = begun g v job own scan stage h;
}

-- the first step
pub steps-first : (g : Geometry) (v : View) (made : PoolMade) (scan : Scanned) → scan ≡ unscanned → MayBegin made g v → IsPoolStep made made.job scan Turning g v [] (Do (action_at made scan Turning))
steps-first g v made scan none may =
    let P : PoolMade → Type 0 = λ m. MayBegin m g v → IsPoolStep m made.job scan Turning g v [] (Do (action_at m scan Turning)) in
    subst P (sym may.is) (λ m. asks g v made.job [] scan Turning (record { may = m; busy = []; is = refl; none = none })) may

-- the step after a refused turn
after-busy : (g : Geometry) (v : View) (made : PoolMade) (scan : Scanned) (own : Own) (action : Action) (w : ℕ) → AwaitsPoolAt made scan Turning g v own action
    → IsPoolStep made made.job scan Turning g v (own ++ (action, Busy w) ∷ []) (Do (action_at made scan Turning))
after-busy g v made scan own action w a =
    let P : PoolMade → Type 0 = λ m. AwaitsPoolAt m scan Turning g v own action → IsPoolStep m made.job scan Turning g v (own ++ (action, Busy w) ∷ []) (Do (action_at m scan Turning)) in
    subst P (sym a.at.may.is) (λ b. rw b.is (asks g v made.job (own ++ (TakeTurn (tier_for g made.job), Busy w) ∷ []) scan Turning (at-refused g v made.job own scan w b.at))) a

-- the step after the turn was had
after-done : (g : Geometry) (v : View) (made : PoolMade) (scan : Scanned) (own : Own) (action : Action) → AwaitsPoolAt made scan Turning g v own action
    → IsPoolStep made made.job scan (next_stage made scan) g v (own ++ (action, Done) ∷ []) (Do (action_at made scan (next_stage made scan)))
after-done g v made scan own action a =
    let P : PoolMade → Type 0 = λ m. AwaitsPoolAt m scan Turning g v own action → IsPoolStep m made.job scan (next_stage m scan) g v (own ++ (action, Done) ∷ []) (Do (action_at m scan (next_stage m scan))) in
    let m : PoolMade = pool_made g made.job in
    subst P (sym a.at.may.is) (λ b. rw b.is (asks g v made.job (own ++ (TakeTurn (tier_for g made.job), Done) ∷ []) scan (next_stage m scan) (at-turn g v made.job own scan b.at))) a

-- the step after a scanned word
after-word : (g : Geometry) (v : View) (made : PoolMade) (scan : Scanned) (own : Own) (action : Action) (w : ℕ) → Fits g (view_after g v own) action (Word w) → AwaitsPoolAt made scan Scanning g v own action
    → (new : Scanned) → new ≡ scanned_word (made.base + 64 * scan.words) w scan → IsPoolStep made made.job new (next_stage made new) g v (own ++ (action, Word w) ∷ []) (Do (action_at made new (next_stage made new)))
after-word g v made scan own action w f a new n =
    let P : PoolMade → Type 0 = λ m. AwaitsPoolAt m scan Scanning g v own action → new ≡ scanned_word (m.base + 64 * scan.words) w scan → IsPoolStep m made.job new (next_stage m new) g v (own ++ (action, Word w) ∷ []) (Do (action_at m new (next_stage m new))) in
    let m : PoolMade = pool_made g made.job in
    subst P (sym a.at.0.turn.may.is) (λ b e.
    let F : Action → Type 0 = λ x. Fits g (view_after g v own) x (Word w) in
    let fits = subst F b.is f in
    let at = at-scanned-word g v made.job own scan w fits.told.bits fits.told.said b.at.1 b.at.0 in
    rw (b.is, e) (asks g v made.job (own ++ (Scan (tier_for g made.job) scan.words, Word w) ∷ []) (scanned_word (m.base + 64 * scan.words) w scan) (next_stage m (scanned_word (m.base + 64 * scan.words) w scan))
    (at-next g v made.job (own ++ (Scan (tier_for g made.job) scan.words, Word w) ∷ []) (scanned_word (m.base + 64 * scan.words) w scan) b.at.2 at))) a n

given_go : (g : Geometry) (v : View) (job : PoolJob) (scan : Scanned) (own : Own) (f : ℕ) (reply : Reply) → Fits g (view_after g v own) (GiveFrame f) reply → IsAtStage (pool_made g job) scan (Giving f) g v own
    → IsReleasing (pool_made g job) g v (own ++ (GiveFrame f, reply) ∷ []) (ends.Got f)
given_go g v job scan own f Done fits h = absurd fits.kind
given_go g v job scan own f (Word old) fits h = at-given g v job own scan f old h
given_go g v job scan own f (Busy w) fits h = absurd fits.kind
given_go g v job scan own f (Lost w) fits h = absurd fits.kind

-- the step after a frame was given
after-given : (g : Geometry) (v : View) (made : PoolMade) (scan : Scanned) (own : Own) (action : Action) (f : ℕ) (reply : Reply) → Fits g (view_after g v own) action reply → AwaitsPoolAt made scan (Giving f) g v own action
    → IsPoolStep made made.job scan (Releasing (ends.Got f)) g v (own ++ (action, reply) ∷ []) (Do (action_at made scan (Releasing (ends.Got f))))
after-given g v made scan own action f reply fits a =
    let P : PoolMade → Type 0 = λ m. AwaitsPoolAt m scan (Giving f) g v own action → IsPoolStep m made.job scan (Releasing (ends.Got f)) g v (own ++ (action, reply) ∷ []) (Do (action_at m scan (Releasing (ends.Got f)))) in
    let F : Action → Type 0 = λ x. Fits g (view_after g v own) x reply in
    subst P (sym a.at.0.turn.may.is) (λ b. rw b.is (asks g v made.job (own ++ (GiveFrame f, reply) ∷ []) scan (Releasing (ends.Got f)) (given_go g v made.job scan own f reply (subst F b.is fits) b.at))) a

put_answer : (g : Geometry) (v : View) (job : PoolJob) (scan : Scanned) (own : Own) (f : ℕ) (reply : Reply) → Fits g (view_after g v own) (PutFrame f) reply → IsAtStage (pool_made g job) scan (Putting f) g v own
    → IsReleasing (pool_made g job) g v (own ++ (PutFrame f, reply) ∷ []) ends.Back
put_answer g v job scan own f Done fits h = absurd fits.kind
put_answer g v job scan own f (Word old) fits h = at-put g v job own scan f old h.0 h.1
put_answer g v job scan own f (Busy w) fits h = absurd fits.kind
put_answer g v job scan own f (Lost w) fits h = absurd fits.kind

-- the step after a frame was put back
after-put : (g : Geometry) (v : View) (made : PoolMade) (scan : Scanned) (own : Own) (action : Action) (f : ℕ) (reply : Reply) → Fits g (view_after g v own) action reply → AwaitsPoolAt made scan (Putting f) g v own action
    → IsPoolStep made made.job scan (Releasing ends.Back) g v (own ++ (action, reply) ∷ []) (Do (action_at made scan (Releasing ends.Back)))
after-put g v made scan own action f reply fits a =
    let P : PoolMade → Type 0 = λ m. AwaitsPoolAt m scan (Putting f) g v own action → IsPoolStep m made.job scan (Releasing ends.Back) g v (own ++ (action, reply) ∷ []) (Do (action_at m scan (Releasing ends.Back))) in
    let F : Action → Type 0 = λ x. Fits g (view_after g v own) x reply in
    subst P (sym a.at.0.may.is) (λ b. rw b.is (asks g v made.job (own ++ (PutFrame f, reply) ∷ []) scan (Releasing ends.Back) (put_answer g v made.job scan own f reply (subst F b.is fits) b.at))) a

end_go : (g : Geometry) (v : View) (job : PoolJob) (scan : Scanned) (stage : Stage) (own : Own) (end : PoolEnd) (reply : Reply) → Fits g (view_after g v own) (ReleaseTurn (tier_for g job)) reply → IsReleasing (pool_made g job) g v own end
    → IsPoolStep (pool_made g job) job scan stage g v (own ++ (ReleaseTurn (tier_for g job), reply) ∷ []) (Over end)
end_go g v job scan stage own end Done fits h = record {
  shown = finished g job own h.inner end (record { busy = h.busy; is = h.is }) h.work;
  left = rw (view-push g v own (ReleaseTurn (tier_for g job)) Done) h.left;
  over = tt;
}
end_go g v job scan stage own end (Word w) fits h = absurd fits.kind
end_go g v job scan stage own end (Busy w) fits h = absurd fits.kind
end_go g v job scan stage own end (Lost w) fits h = absurd fits.kind

-- the end, after the turn was released
after-released : (g : Geometry) (v : View) (made : PoolMade) (scan : Scanned) (stage : Stage) (own : Own) (action : Action) (end : PoolEnd) (reply : Reply) → Fits g (view_after g v own) action reply → AwaitsPoolAt made scan (Releasing end) g v own action
    → IsPoolStep made made.job scan stage g v (own ++ (action, reply) ∷ []) (Over end)
after-released g v made scan stage own action end reply fits a =
    let P : PoolMade → Type 0 = λ m. AwaitsPoolAt m scan (Releasing end) g v own action → IsPoolStep m made.job scan stage g v (own ++ (action, reply) ∷ []) (Over end) in
    let F : Action → Type 0 = λ x. Fits g (view_after g v own) x reply in
    subst P (sym a.at.may.is) (λ b. rw b.is (end_go g v made.job scan stage own end reply (subst F b.is fits) b.at)) a

-- The same, of the task's fields.

-- what a step has to be after one answer more
abbrev pub IsAfter : PoolTask → PoolTask → Geometry → View → Own → Step PoolEnd → Type 0
IsAfter s new g v own result = IsPoolStep new.made s.made.job new.scan new.stage g v own result

at_stage : (s : PoolTask) (stage : Stage) (g : Geometry) (v : View) (own : Own) (action : Action) → s.stage ≡ stage → AwaitsPool s g v own action → AwaitsPoolAt s.made s.scan stage g v own action
at_stage s stage g v own action e a = let P : Stage → Type 0 = λ st. AwaitsPoolAt s.made s.scan st g v own action in subst P e a

pub step-busy : (s new : PoolTask) (reply : Reply) (w : ℕ) (given : Action) → s.stage ≡ Turning → reply ≡ Busy w → new ≡ record s { stage = Turning } → given ≡ action_at s.made s.scan Turning
    → (g : Geometry) (v : View) (own : Own) (action : Action) → AwaitsPool s g v own action → IsAfter s new g v (own ++ (action, reply) ∷ []) (Do given)
step-busy s new reply w given e r n i g v own action a = rw (r, n, i) (after-busy g v s.made s.scan own action w (at_stage s Turning g v own action e a))

pub step-done : (s new : PoolTask) (reply : Reply) (given : Action) → s.stage ≡ Turning → reply ≡ Done → new ≡ record s { stage = next_stage s.made s.scan } → given ≡ action_at s.made s.scan (next_stage s.made s.scan)
    → (g : Geometry) (v : View) (own : Own) (action : Action) → AwaitsPool s g v own action → IsAfter s new g v (own ++ (action, reply) ∷ []) (Do given)
step-done s new reply given e r n i g v own action a = rw (r, n, i) (after-done g v s.made s.scan own action (at_stage s Turning g v own action e a))

pub step-word : (s new : PoolTask) (reply : Reply) (w : ℕ) (scan : Scanned) (given : Action) → s.stage ≡ Scanning → reply ≡ Word w → scan ≡ scanned_word (s.made.base + 64 * s.scan.words) w s.scan
    → new ≡ record s { scan = scan; stage = next_stage s.made scan } → given ≡ action_at s.made scan (next_stage s.made scan)
    → (g : Geometry) (v : View) (own : Own) (action : Action) → AwaitsPool s g v own action → Fits g (view_after g v own) action reply → IsAfter s new g v (own ++ (action, reply) ∷ []) (Do given)
step-word s new reply w scan given e r sc n i g v own action a f = rw (r, n, i) (after-word g v s.made s.scan own action w (rw r at f) (at_stage s Scanning g v own action e a) scan sc)

pub step-given : (s new : PoolTask) (reply : Reply) (f : ℕ) (given : Action) → s.stage ≡ Giving f → new ≡ record s { stage = Releasing (ends.Got f) } → given ≡ action_at s.made s.scan (Releasing (ends.Got f))
    → (g : Geometry) (v : View) (own : Own) (action : Action) → AwaitsPool s g v own action → Fits g (view_after g v own) action reply → IsAfter s new g v (own ++ (action, reply) ∷ []) (Do given)
step-given s new reply f given e n i g v own action a fits = rw (n, i) (after-given g v s.made s.scan own action f reply fits (at_stage s (Giving f) g v own action e a))

pub step-put : (s new : PoolTask) (reply : Reply) (f : ℕ) (given : Action) → s.stage ≡ Putting f → new ≡ record s { stage = Releasing ends.Back } → given ≡ action_at s.made s.scan (Releasing ends.Back)
    → (g : Geometry) (v : View) (own : Own) (action : Action) → AwaitsPool s g v own action → Fits g (view_after g v own) action reply → IsAfter s new g v (own ++ (action, reply) ∷ []) (Do given)
step-put s new reply f given e n i g v own action a fits = rw (n, i) (after-put g v s.made s.scan own action f reply fits (at_stage s (Putting f) g v own action e a))

pub step-over : (s : PoolTask) (reply : Reply) (end : PoolEnd) → s.stage ≡ Releasing end
    → (g : Geometry) (v : View) (own : Own) (action : Action) → AwaitsPool s g v own action → Fits g (view_after g v own) action reply → IsAfter s s g v (own ++ (action, reply) ∷ []) (Over end)
step-over s reply end e g v own action a fits = after-released g v s.made s.scan s.stage own action end reply fits (at_stage s (Releasing end) g v own action e a)

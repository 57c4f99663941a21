-- From stage to stage: what is known after one answer more. The task is the one of a job in a geometry.
use Rattle.std.proofs.Common.{◌≡◌, ℕ, ◌+◌, ◌*◌, ◌^◌, ◌<◌, ◌≤◌, nat_lt, if◌then◌else◌, Bool, true, false, List, [], ◌∷◌, ◌++◌, Option, Some, None, length, refl, sym, ◌∙◌, subst, append_assoc, arith}
use Rattle.std.proofs.lemmas.List.{length-append}
use Rattle.nm_base.specs.Geometry.{Geometry, first_frame, tier_of}
use Rattle.nm_base.proofs.Tiers.{IsInTier-tier_of}
use Rattle.nm_action.specs.declared.action.Action.TheVariants.{TakeTurn, Scan, GiveFrame, PutFrame}
use Rattle.nm_action.specs.declared.action.Reply.TheVariants.{Done, Word, Busy}
use Rattle.nm_view.specs.declared.view.Scanned.{Scanned}
use Rattle.nm_view.specs.Views.{View}
use Rattle.nm_base.specs.FreeWords.{free_words}
use Rattle.nm_event.specs.After.{after_of, scanned_word, view_after}
use Rattle.nm_view.specs.Opening.{unscanned}
use Rattle.nm_event.specs.Fitting.{IsScanOf}
use Rattle.nm_action.specs.Own.{Own}
use Rattle.nm_part.proofs.OwnLemmas.{view-push}
use Rattle.nm_pool.specs.declared.job.PoolJob.{PoolJob}
use Rattle.nm_pool.specs.declared.job.PoolJob.TheVariants.{Take, Level, Back}
use Rattle.nm_pool.specs.declared.job.PoolEnd.{PoolEnd}
use Rattle.nm_pool.specs.declared.job.PoolEnd.TheVariants as ends
use Rattle.nm_pool.specs.declared.task.Stage.TheVariants.{Scanning, Giving, Releasing}
use Rattle.nm_pool.specs.Pool.{tier_for, refused, scanned, IsLeastFree, IsWork}
use Rattle.nm_pool.specs.Given.{pool_made, MayWork, MayBegin, released, IsGiven, Leaves}
use Rattle.nm_pool.specs.Stages.{next_stage, taking, HasScanned, HasTurn, IsTurning, IsScanning, IsScanJob, IsReleasing, IsAtStage}
use Rattle.nm_pool.proofs.Lists.{refused-push, scanned-push}
use Rattle.nm_pool.proofs.Scans.{scan-push, scan-none}

tier-of-job : (g : Geometry) (v : View) (job : PoolJob) → MayWork g v job → tier_for g job < length g.tiers
tier-of-job g v (Take tier floor) h = h
tier-of-job g v (Level tier) h = h
tier-of-job g v (Back frame) h = (IsInTier-tier_of g frame h.0).exists

-- the tier of a job exists
pub tier-exists : (g : Geometry) (v : View) (job : PoolJob) → MayBegin (pool_made g job) g v → tier_for g job < length g.tiers
tier-exists g v job h = tier-of-job g v job h.work

-- Asking for the turn changes nothing.

pub view-refused : (g : Geometry) (v : View) (tier : ℕ) (ws : List ℕ) → view_after g v (refused tier ws) ≡ v
view-refused g v tier [] = refl
view-refused g v tier (w ∷ ws) = view-refused g v tier ws

pub at-refused : (g : Geometry) (v : View) (job : PoolJob) (own : Own) (scan : Scanned) (w : ℕ) → IsTurning (pool_made g job) g v own scan → IsTurning (pool_made g job) g v (own ++ (TakeTurn (tier_for g job), Busy w) ∷ []) scan
at-refused g v job own scan w h = record {
  may = h.may;
  busy = h.busy ++ w ∷ [];
  none = h.none;
  is = rw h.is (sym (refused-push (tier_for g job) h.busy w));
}

pub turn-had : (g : Geometry) (v : View) (job : PoolJob) (own : Own) (scan : Scanned) → IsTurning (pool_made g job) g v own scan → HasTurn (pool_made g job) g v (own ++ (TakeTurn (tier_for g job), Done) ∷ []) [] scan
turn-had g v job own scan h = record {
  may = h.may;
  busy = h.busy;
  is = rw h.is refl;
  now = view-push g v own (TakeTurn (tier_for g job)) Done ∙ rw (h.is, view-refused, h.none) refl;
}

-- Scanning.

pub scan-had : (g : Geometry) (v : View) (job : PoolJob) (own : Own) (words : List ℕ) (w : ℕ) (scan : Scanned) → scan.words ≡ length words → HasTurn (pool_made g job) g v own (scanned (tier_for g job) 0 words) scan
    → HasTurn (pool_made g job) g v (own ++ (Scan (tier_for g job) scan.words, Word w) ∷ []) (scanned (tier_for g job) 0 (words ++ w ∷ [])) (scanned_word (first_frame g (tier_for g job) + 64 * scan.words) w scan)
scan-had g v job own words w scan e h = record {
  may = h.may;
  busy = h.busy;
  is = rw (h.is, scanned-push (tier_for g job) 0 scan.words words w (omega (arith, e))) (append_assoc (refused (tier_for g job) h.busy) ((TakeTurn (tier_for g job), Done) ∷ scanned (tier_for g job) 0 words) ((Scan (tier_for g job) scan.words, Word w) ∷ []));
  now = view-push g v own (Scan (tier_for g job) scan.words) (Word w) ∙ rw h.now refl;
}

-- what a scanned word says of free frames does not depend on the turn
scan_same : (g : Geometry) (v : View) (turn : Option ℕ) (scan : Scanned) (tier n w : ℕ) → IsScanOf g (record v { turn = turn; scan = scan }) tier n w → IsScanOf g v tier n w
scan_same g v turn scan tier n w h = λ bit set. let free = h bit set in record { within = free.within; owned = free.owned; home = free.home }

pub at-scanned-word : (g : Geometry) (v : View) (job : PoolJob) (own : Own) (scan : Scanned) (w : ℕ) → w < 2 ^ 64 → IsScanOf g (view_after g v own) (tier_for g job) scan.words w → scan.words < free_words g (tier_for g job)
    → IsScanning (pool_made g job) g v own scan → IsScanning (pool_made g job) g v (own ++ (Scan (tier_for g job) scan.words, Word w) ∷ []) (scanned_word (first_frame g (tier_for g job) + 64 * scan.words) w scan)
at-scanned-word g v job own scan w fits is lt h =
    let seen : IsScanOf g v (tier_for g job) scan.words w = scan_same g v (Some (tier_for g job)) scan (tier_for g job) scan.words w (rw h.turn.now at is) in
    let there : IsScanOf g v (tier_for g job) (length h.words) w = rw h.has.count at seen in
    record {
      words = h.words ++ w ∷ [];
      turn = scan-had g v job own h.words w scan h.has.count h.turn;
      within = omega (arith, h.has.count, lt, length-append h.words (w ∷ []));
      has = scan-push g (tier_for g job) v h.words w scan (tier-exists g v job h.turn.may) fits there h.has;
    }

-- After the scan.

pub at-summed : (g : Geometry) (v : View) (job : PoolJob) (own : Own) (scan : Scanned) (end : PoolEnd) → (h : IsScanning (pool_made g job) g v own scan) → IsWork g job (scanned (tier_for g job) 0 h.words) end → Leaves g job v end (released v) → IsReleasing (pool_made g job) g v own end
at-summed g v job own scan end h work left = record {
  may = h.turn.may;
  busy = h.turn.busy;
  inner = scanned (tier_for g job) 0 h.words;
  work = work;
  is = h.turn.is;
  turn = rw h.turn.now refl;
  left = rw h.turn.now left;
}

whole : (g : Geometry) (v : View) (job : PoolJob) (own : Own) (scan : Scanned) → (h : IsScanning (pool_made g job) g v own scan) → free_words g (tier_for g job) ≤ scan.words → length h.words ≡ free_words g (tier_for g job)
whole g v job own scan h ge = omega (arith, h.has.count, h.within, ge)

take_go : (g : Geometry) (v : View) (tier floor : ℕ) (own : Own) (scan : Scanned) → IsScanning (pool_made g (Take tier floor)) g v own scan → free_words g tier ≤ scan.words → (f : ℕ) → scan.least ≡ Some f → (b : Bool) → nat_lt floor scan.sum ≡ b
    → IsAtStage (pool_made g (Take tier floor)) scan (if b then Giving f else Releasing (ends.AtFloor scan.sum)) g v own
take_go g v tier floor own scan h ge f e true b = (h, ge, e, grind (arith, b))
take_go g v tier floor own scan h ge f e false b = at-summed g v (Take tier floor) own scan (ends.AtFloor scan.sum) h (record { words = h.words; all = whole g v (Take tier floor) own scan h ge; sum = h.has.sum; is = refl }, grind (arith, b)) refl

least_go : (g : Geometry) (v : View) (tier floor : ℕ) (own : Own) (scan : Scanned) → IsScanning (pool_made g (Take tier floor)) g v own scan → free_words g tier ≤ scan.words → (l : Option ℕ) → scan.least ≡ l
    → IsAtStage (pool_made g (Take tier floor)) scan (taking floor scan.sum l) g v own
least_go g v tier floor own scan h ge None e = at-summed g v (Take tier floor) own scan (ends.AtFloor scan.sum) h (record { words = h.words; all = whole g v (Take tier floor) own scan h ge; sum = h.has.sum; is = refl }, omega (arith, h.has.some e)) refl
least_go g v tier floor own scan h ge (Some f) e = take_go g v tier floor own scan h ge f e (nat_lt floor scan.sum) refl

more_take : (g : Geometry) (v : View) (tier floor : ℕ) (own : Own) (scan : Scanned) → IsScanning (pool_made g (Take tier floor)) g v own scan → (b : Bool) → nat_lt scan.words (free_words g tier) ≡ b
    → IsAtStage (pool_made g (Take tier floor)) scan (if b then Scanning else taking floor scan.sum scan.least) g v own
more_take g v tier floor own scan h true e = (h, grind (arith, e), tt)
more_take g v tier floor own scan h false e = least_go g v tier floor own scan h (grind (arith, e)) scan.least refl

more_level : (g : Geometry) (v : View) (tier : ℕ) (own : Own) (scan : Scanned) → IsScanning (pool_made g (Level tier)) g v own scan → (b : Bool) → nat_lt scan.words (free_words g tier) ≡ b
    → IsAtStage (pool_made g (Level tier)) scan (if b then Scanning else Releasing (ends.Level scan.sum)) g v own
more_level g v tier own scan h true e = (h, grind (arith, e), tt)
more_level g v tier own scan h false e = at-summed g v (Level tier) own scan (ends.Level scan.sum) h (record { words = h.words; all = whole g v (Level tier) own scan h (grind (arith, e)); sum = h.has.sum; is = refl }) refl

-- the stage after a word was scanned
pub at-next : (g : Geometry) (v : View) (job : PoolJob) (own : Own) (scan : Scanned) → IsScanJob job → IsScanning (pool_made g job) g v own scan → IsAtStage (pool_made g job) scan (next_stage (pool_made g job) scan) g v own
at-next g v (Take tier floor) own scan is h = more_take g v tier floor own scan h (nat_lt scan.words (free_words g tier)) refl
at-next g v (Level tier) own scan is h = more_level g v tier own scan h (nat_lt scan.words (free_words g tier)) refl
at-next g v (Back frame) own scan is h = absurd is

at-start : (g : Geometry) (v : View) (job : PoolJob) (own : Own) (scan : Scanned) → scan ≡ unscanned → HasTurn (pool_made g job) g v own [] scan → IsScanning (pool_made g job) g v own scan
at-start g v job own scan e h = let P : Scanned → Type 0 = λ s. HasScanned g (tier_for g job) v [] s in record {
  words = [];
  turn = h;
  within = omega arith;
  has = subst P (sym e) (scan-none g (tier_for g job) v);
}

turn_go : (g : Geometry) (v : View) (job : PoolJob) (own : Own) (scan : Scanned) → scan ≡ unscanned → HasTurn (pool_made g job) g v own [] scan → IsAtStage (pool_made g job) scan (next_stage (pool_made g job) scan) g v own
turn_go g v (Take tier floor) own scan e h = at-next g v (Take tier floor) own scan tt (at-start g v (Take tier floor) own scan e h)
turn_go g v (Level tier) own scan e h = at-next g v (Level tier) own scan tt (at-start g v (Level tier) own scan e h)
turn_go g v (Back frame) own scan e h = (h, refl)

-- the stage after the turn was had
pub at-turn : (g : Geometry) (v : View) (job : PoolJob) (own : Own) (scan : Scanned) → IsTurning (pool_made g job) g v own scan → IsAtStage (pool_made g job) scan (next_stage (pool_made g job) scan) g v (own ++ (TakeTurn (tier_for g job), Done) ∷ [])
at-turn g v job own scan h = turn_go g v job (own ++ (TakeTurn (tier_for g job), Done) ∷ []) scan h.none (turn-had g v job own scan h)

-- Frames.

given_least : (g : Geometry) (tier : ℕ) (v : View) (words : List ℕ) (scan : Scanned) (f : ℕ) → HasScanned g tier v words scan → scan.least ≡ Some f → IsLeastFree g tier words f × IsGiven g tier v f
given_least g tier v words scan f h e = rw e at h.least

-- a frame was given
pub at-given : (g : Geometry) (v : View) (job : PoolJob) (own : Own) (scan : Scanned) (f old : ℕ) → IsAtStage (pool_made g job) scan (Giving f) g v own → IsReleasing (pool_made g job) g v (own ++ (GiveFrame f, Word old) ∷ []) (ends.Got f)
at-given g v (Take tier floor) own scan f old (h, ge, e, more) =
    let least = given_least g tier v h.words scan f h.has e in
    let now : view_after g v (own ++ (GiveFrame f, Word old) ∷ []) ≡ after_of g (record v { turn = Some tier; scan = scan }) (GiveFrame f) (Word old) = view-push g v own (GiveFrame f) (Word old) ∙ rw h.turn.now refl in
    record {
      may = h.turn.may;
      busy = h.turn.busy;
      inner = scanned tier 0 h.words ++ (GiveFrame f, Word old) ∷ [];
      work = record { words = h.words; old = old; all = whole g v (Take tier floor) own scan h ge; more = rw h.has.sum at more; least = least.0; is = refl };
      is = rw h.turn.is (append_assoc (refused tier h.turn.busy) ((TakeTurn tier, Done) ∷ scanned tier 0 h.words) ((GiveFrame f, Word old) ∷ []));
      turn = rw now refl;
      left = (least.1, rw now refl);
    }
at-given g v (Level tier) own scan f old (h, ge, e, more) = absurd more
at-given g v (Back frame) own scan f old (h, ge, e, more) = absurd more

back_go : (g : Geometry) (v : View) (frame : ℕ) (own : Own) (scan : Scanned) (old : ℕ) → HasTurn (pool_made g (Back frame)) g v own [] scan → IsReleasing (pool_made g (Back frame)) g v (own ++ (PutFrame frame, Word old) ∷ []) ends.Back
back_go g v frame own scan old h =
    let now : view_after g v (own ++ (PutFrame frame, Word old) ∷ []) ≡ after_of g (record v { turn = Some (tier_of g frame); scan = scan }) (PutFrame frame) (Word old) = view-push g v own (PutFrame frame) (Word old) ∙ rw h.now refl in
    record {
      may = h.may;
      busy = h.busy;
      inner = (PutFrame frame, Word old) ∷ [];
      work = record { old = old; is = refl };
      is = rw h.is (append_assoc (refused (tier_of g frame) h.busy) ((TakeTurn (tier_of g frame), Done) ∷ []) ((PutFrame frame, Word old) ∷ []));
      turn = rw now refl;
      left = rw now refl;
    }

-- a frame was put back
pub at-put : (g : Geometry) (v : View) (job : PoolJob) (own : Own) (scan : Scanned) (frame old : ℕ) → HasTurn (pool_made g job) g v own [] scan → job ≡ Back frame → IsReleasing (pool_made g job) g v (own ++ (PutFrame frame, Word old) ∷ []) ends.Back
at-put g v job own scan frame old h e =
    let P : PoolJob → Type 0 = λ j. HasTurn (pool_made g j) g v own [] scan → IsReleasing (pool_made g j) g v (own ++ (PutFrame frame, Word old) ∷ []) ends.Back in
    subst P (sym e) (λ t. back_go g v frame own scan old t) h

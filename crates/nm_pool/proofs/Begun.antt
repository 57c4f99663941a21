-- Each list that a pool task gives is the beginning of a finished one.
use Rattle.std.proofs.Common.{◌≡◌, ℕ, zero, suc, ◌+◌, ◌*◌, ◌<◌, nat_lt, Bool, true, false, List, [], ◌∷◌, ◌++◌, Option, Some, None, length, refl, sym, subst, append_assoc, arith}
use Rattle.std.proofs.lemmas.List.{length-append, append-nil}
use Rattle.nm_base.specs.Geometry.{Geometry, first_frame}
use Rattle.nm_action.specs.declared.action.Action.{Action}
use Rattle.nm_action.specs.declared.action.Reply.{Reply}
use Rattle.nm_action.specs.declared.action.Action.TheVariants.{TakeTurn, Scan, GiveFrame, PutFrame, ReleaseTurn}
use Rattle.nm_action.specs.declared.action.Reply.TheVariants.{Done, Word}
use Rattle.nm_view.specs.declared.view.Scanned.{Scanned}
use Rattle.nm_view.specs.Views.{View}
use Rattle.nm_base.specs.FreeWords.{free_words}
use Rattle.nm_event.specs.After.{scanned_word}
use Rattle.nm_view.specs.Opening.{opening, unscanned}
use Rattle.nm_action.specs.Own.{Own}
use Rattle.nm_part.specs.Parts.{IsBegun, IsBegunWith}
use Rattle.nm_part.proofs.OwnLemmas.{begun-with}
use Rattle.nm_pool.specs.declared.job.PoolJob.{PoolJob}
use Rattle.nm_pool.specs.declared.job.PoolJob.TheVariants.{Take, Level, Back}
use Rattle.nm_pool.specs.declared.job.PoolEnd.{PoolEnd}
use Rattle.nm_pool.specs.declared.job.PoolEnd.TheVariants as ends
use Rattle.nm_pool.specs.Pool.{tier_for, refused, scanned, IsLeastFree, IsWork, IsPool}
use Rattle.nm_pool.specs.Stages.{HasScanned, IsScanJob}
use Rattle.nm_pool.proofs.Lists.{scanned-push, no_bit}
use Rattle.nm_pool.proofs.Scans.{scan-push, scan-none}

-- the turn of a tier was taken, and `inner` done under it
pub record IsUnder (tier : ℕ) (own inner : Own) : Type 0 where
  pub busy : List ℕ
  pub is : own ≡ refused tier busy ++ (TakeTurn tier, Done) ∷ inner

pub under-more : (tier : ℕ) (own inner : Own) (x : Action × Reply) → IsUnder tier own inner → IsUnder tier (own ++ x ∷ []) (inner ++ x ∷ [])
under-more tier own inner x h = record { busy = h.busy; is = rw h.is (append_assoc (refused tier h.busy) ((TakeTurn tier, Done) ∷ inner) (x ∷ [])) }

-- the turn is released after the work
pub finished : (g : Geometry) (job : PoolJob) (own inner : Own) (end : PoolEnd) → IsUnder (tier_for g job) own inner → IsWork g job inner end → IsPool g job (own ++ (ReleaseTurn (tier_for g job), Done) ∷ []) end
finished g job own inner end h work = record { busy = h.busy; inner = inner; work = work; is = rw h.is refl }

pub begun-work : (g : Geometry) (job : PoolJob) (own inner : Own) (end : PoolEnd) → IsUnder (tier_for g job) own inner → IsWork g job inner end → IsBegun (IsPool g job) own
begun-work g job own inner end h work = record { rest = (ReleaseTurn (tier_for g job), Done) ∷ []; outcome = end; whole = finished g job own inner end h work }

-- the turn is left to release
pub begun-release : (g : Geometry) (job : PoolJob) (own inner : Own) (end : PoolEnd) → IsUnder (tier_for g job) own inner → IsWork g job inner end → IsBegunWith (IsPool g job) own (ReleaseTurn (tier_for g job))
begun-release g job own inner end h work =
    let P : Own → Type 0 = λ own. IsPool g job own end in
    record {
      reply = Done;
      begun = record { rest = []; outcome = end; whole = subst P (sym (append-nil (own ++ (ReleaseTurn (tier_for g job), Done) ∷ []))) (finished g job own inner end h work) };
    }

-- the least frame is left to take
pub begun-give : (g : Geometry) (tier floor : ℕ) (own : Own) (words : List ℕ) (v : View) (scan : Scanned) (f : ℕ) → IsUnder tier own (scanned tier 0 words) → length words ≡ free_words g tier → floor < scan.sum → HasScanned g tier v words scan → IsLeastFree g tier words f
    → IsBegunWith (IsPool g (Take tier floor)) own (GiveFrame f)
begun-give g tier floor own words v scan f u all more h least =
    let x : Action × Reply = (GiveFrame f, Word 0) in
    record {
      reply = Word 0;
      begun = begun-work g (Take tier floor) (own ++ x ∷ []) (scanned tier 0 words ++ x ∷ []) (ends.Got f) (under-more tier own (scanned tier 0 words) x u)
          (record { words = words; old = 0; all = all; more = rw h.sum at more; least = least; is = refl });
    }

take_go : (g : Geometry) (tier floor : ℕ) (own : Own) (words : List ℕ) (v : View) (scan : Scanned) (f : ℕ) → IsUnder tier own (scanned tier 0 words) → length words ≡ free_words g tier → HasScanned g tier v words scan → scan.least ≡ Some f → (b : Bool) → nat_lt floor scan.sum ≡ b → IsBegun (IsPool g (Take tier floor)) own
take_go g tier floor own words v scan f u all h e true b = let least = rw e at h.least in begun-with (IsPool g (Take tier floor)) own (GiveFrame f) (begun-give g tier floor own words v scan f u all (grind (arith, b)) h least.0)
take_go g tier floor own words v scan f u all h e false b = begun-work g (Take tier floor) own (scanned tier 0 words) (ends.AtFloor scan.sum) u (record { words = words; all = all; sum = h.sum; is = refl }, grind (arith, b))

least_go : (g : Geometry) (tier floor : ℕ) (own : Own) (words : List ℕ) (v : View) (scan : Scanned) → IsUnder tier own (scanned tier 0 words) → length words ≡ free_words g tier → HasScanned g tier v words scan → (l : Option ℕ) → scan.least ≡ l → IsBegun (IsPool g (Take tier floor)) own
least_go g tier floor own words v scan u all h None e = begun-work g (Take tier floor) own (scanned tier 0 words) (ends.AtFloor scan.sum) u (record { words = words; all = all; sum = h.sum; is = refl }, omega (arith, h.some e))
least_go g tier floor own words v scan u all h (Some f) e = take_go g tier floor own words v scan f u all h e (nat_lt floor scan.sum) refl

begun-all : (g : Geometry) (job : PoolJob) (own : Own) (words : List ℕ) (v : View) (scan : Scanned) → IsScanJob job → IsUnder (tier_for g job) own (scanned (tier_for g job) 0 words) → length words ≡ free_words g (tier_for g job) → HasScanned g (tier_for g job) v words scan → IsBegun (IsPool g job) own
begun-all g (Take tier floor) own words v scan is u all h = least_go g tier floor own words v scan u all h scan.least refl
begun-all g (Level tier) own words v scan is u all h = begun-work g (Level tier) own (scanned tier 0 words) (ends.Level scan.sum) u (record { words = words; all = all; sum = h.sum; is = refl })
begun-all g (Back frame) own words v scan is u all h = absurd is

-- a word is left to scan, which may have no free frame; what comes after it can be carried on
pub begun-word : (g : Geometry) (job : PoolJob) (v : View) (k : ℕ) (own : Own) (words : List ℕ) (scan : Scanned) → tier_for g job < length g.tiers → IsUnder (tier_for g job) own (scanned (tier_for g job) 0 words)
    → length words + suc k ≡ free_words g (tier_for g job) → HasScanned g (tier_for g job) v words scan
    → ((own : Own) (words : List ℕ) (scan : Scanned) → IsUnder (tier_for g job) own (scanned (tier_for g job) 0 words) → length words + k ≡ free_words g (tier_for g job) → HasScanned g (tier_for g job) v words scan → IsBegun (IsPool g job) own)
    → IsBegunWith (IsPool g job) own (Scan (tier_for g job) (length words))
begun-word g job v k own words scan exists u left h then =
    let tier : ℕ = tier_for g job in
    let x : Action × Reply = (Scan tier (length words), Word 0) in
    let more : IsUnder tier (own ++ x ∷ []) (scanned tier 0 (words ++ 0 ∷ [])) = rw (scanned-push tier 0 (length words) words 0 (omega arith)) (under-more tier own (scanned tier 0 words) x u) in
    record {
      reply = Word 0;
      begun = then (own ++ x ∷ []) (words ++ 0 ∷ []) (scanned_word (first_frame g tier + 64 * scan.words) 0 scan) more (omega (arith, left, length-append words (0 ∷ [])))
          (scan-push g tier v words 0 scan exists (omega arith) (λ bit set. absurd (no_bit 0 bit refl set)) h);
    }

-- a scan with k words left, each of which may have no free frame
pub begun-scan : (g : Geometry) (job : PoolJob) (v : View) (k : ℕ) (own : Own) (words : List ℕ) (scan : Scanned) → IsScanJob job → tier_for g job < length g.tiers → IsUnder (tier_for g job) own (scanned (tier_for g job) 0 words)
    → length words + k ≡ free_words g (tier_for g job) → HasScanned g (tier_for g job) v words scan → IsBegun (IsPool g job) own
begun-scan g job v zero own words scan is exists u left h = begun-all g job own words v scan is u (omega (arith, left)) h
begun-scan g job v (suc k) own words scan is exists u left h =
    begun-with (IsPool g job) own (Scan (tier_for g job) (length words)) (begun-word g job v k own words scan exists u left h (λ o ws s u l h. begun-scan g job v k o ws s is exists u l h))

-- a frame is left to put back
pub begun-put : (g : Geometry) (frame : ℕ) (own : Own) → IsUnder (tier_for g (Back frame)) own [] → IsBegunWith (IsPool g (Back frame)) own (PutFrame frame)
begun-put g frame own u =
    let x : Action × Reply = (PutFrame frame, Word 0) in
    record { reply = Word 0; begun = begun-work g (Back frame) (own ++ x ∷ []) (x ∷ []) ends.Back (under-more (tier_for g (Back frame)) own [] x u) (record { old = 0; is = refl }) }

begun-turn : (g : Geometry) (job : PoolJob) (v : View) (own : Own) → tier_for g job < length g.tiers → IsUnder (tier_for g job) own [] → IsBegun (IsPool g job) own
begun-turn g (Take tier floor) v own exists u = begun-scan g (Take tier floor) v (free_words g tier) own [] unscanned tt exists u (omega arith) (scan-none g tier v)
begun-turn g (Level tier) v own exists u = begun-scan g (Level tier) v (free_words g tier) own [] unscanned tt exists u (omega arith) (scan-none g tier v)
begun-turn g (Back frame) v own exists u = begun-with (IsPool g (Back frame)) own (PutFrame frame) (begun-put g frame own u)

-- the turn is left to take
pub begun-refused : (g : Geometry) (job : PoolJob) (v : View) (own : Own) (busy : List ℕ) → tier_for g job < length g.tiers → own ≡ refused (tier_for g job) busy → IsBegunWith (IsPool g job) own (TakeTurn (tier_for g job))
begun-refused g job v own busy exists e =
    let x : Action × Reply = (TakeTurn (tier_for g job), Done) in
    record { reply = Done; begun = begun-turn g job v (own ++ x ∷ []) exists (record { busy = busy; is = rw e refl }) }

-- there is a finished list of each job whose tier exists
pub some-pool : (g : Geometry) (job : PoolJob) → tier_for g job < length g.tiers → IsBegun (IsPool g job) []
some-pool g job exists = begun-with (IsPool g job) [] (TakeTurn (tier_for g job)) (begun-refused g job (opening g 0) [] [] exists refl)

acts_go : (tier : ℕ) (busy : List ℕ) (inner : Own) → ¬ ([] ≡ refused tier busy ++ (TakeTurn tier, Done) ∷ inner ++ (ReleaseTurn tier, Done) ∷ [])
acts_go tier [] inner e = cc e
acts_go tier (w ∷ busy) inner e = cc e

-- a pool task is not over at once
pub pool-acts : (g : Geometry) (job : PoolJob) (end : PoolEnd) → ¬ IsPool g job [] end
pool-acts g job end h = acts_go (tier_for g job) h.busy h.inner h.is

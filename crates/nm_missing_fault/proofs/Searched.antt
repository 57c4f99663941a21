-- Searches have finished lists.
use Rattle.std.proofs.Common.{◌≡◌, ◌≢◌, ℕ, zero, suc, ◌+◌, ◌-◌, ◌<◌, ◌≤◌, nat_le, Bool, true, false, List, [], ◌∷◌, ◌++◌, All, Option, Some, None, length, replicate, slice_index, sum_by, count_ones, refl, arith}
use Rattle.std.specs.List.{range_with_len}
use Rattle.std.proofs.lemmas.List.{length-replicate}
use Rattle.std.proofs.lemmas.List.Elements.{All-nil, All-cons, All-head, All-tail}
use Rattle.std.proofs.lemmas.List.Sums.{sum_by-cons}
use Rattle.std.proofs.lemmas.Nat.{zero_from_ones}
use Rattle.nm_base.specs.Geometry.{Geometry, IsGeometry, AreTiers, first_frame}
use Rattle.nm_base.specs.Ranges.{IsTier}
use Rattle.nm_base.specs.FreeWords.{free_words}
use Rattle.nm_action.specs.declared.action.Action.TheVariants.{TakeTurn, GiveFrame, ReleaseTurn}
use Rattle.nm_action.specs.declared.action.Reply.TheVariants.{Done, Word}
use Rattle.nm_action.specs.Own.{Own}
use Rattle.nm_part.specs.Patterns.{Follows, Each, Sometimes, CanEnd}
use Rattle.nm_part.proofs.Patterns.{can-ends, can-follow, can-sometimes}
use Rattle.nm_pool.specs.declared.job.PoolEnd.TheVariants as pools
use Rattle.nm_pool.specs.declared.job.PoolJob.{PoolJob}
use Rattle.nm_pool.specs.declared.job.PoolJob.TheVariants.{Take}
use Rattle.nm_pool.specs.Pool.{IsPool, IsLeastFree, tier_for, scanned, free_bits}
use Rattle.nm_pool.proofs.Begun.{some-pool}
use Rattle.nm_missing_fault.specs.declared.search.SearchMade.{SearchMade}
use Rattle.nm_obtain.specs.Obtains.{IsObtain}
use Rattle.nm_obtain.proofs.Searching.{some-obtain}
use Rattle.nm_missing_fault.specs.Searching.{low_mark, frame_taken, frame_obtained, FoundOr, TakesLast, SeeksIn, SeeksFrom, Round, Rounds, IsSearch}

-- A frame of tier 0 can be had.

some-frames : (tiers : List ℕ) → AreTiers tiers → 1 ≤ slice_index tiers 0
some-frames [] are = omega (arith, are.0)
some-frames (n ∷ ns) are = (All-head (λ k. (1 ≤ k) × (k ≤ 4095)) n ns are.2).0

-- the words of tier 0 of which the first frame alone is free
abbrev pub one_free : Geometry → List ℕ
one_free g = 1 ∷ replicate (free_words g 0 - 1) 0

one-length : (g : Geometry) → IsGeometry g → length (one_free g) ≡ free_words g 0
one-length g fine =
    let frames : 1 ≤ slice_index g.tiers 0 = some-frames g.tiers fine.ranges.1 in
    let rest : length (replicate {A = ℕ} (free_words g 0 - 1) 0) ≡ free_words g 0 - 1 = length-replicate {A = ℕ} (free_words g 0 - 1) 0 in
    omega (arith, rest, frames)

one-least : (g : Geometry) → IsLeastFree g 0 (one_free g) (first_frame g 0)
one-least g = record {
  free = record { index = 0; bit = 0; small = omega arith; set = refl; is = omega arith };
  least = λ other free. omega (arith, free.is);
}

one-more : (g : Geometry) → 0 < free_bits (one_free g)
one-more g =
    let some : count_ones 1 ≢ 0 = λ e. (let z : 1 ≡ 0 = zero_from_ones 1 e in absurd (omega (arith, z))) in
    let sum : sum_by count_ones (one_free g) ≡ count_ones 1 + sum_by count_ones (replicate (free_words g 0 - 1) 0) = sum_by-cons count_ones 1 (replicate (free_words g 0 - 1) 0) in
    omega (arith, some, sum)

-- the last frames of tier 0 can be taken
pub can-take : (g : Geometry) → IsGeometry g → IsPool g (Take 0 0) ((TakeTurn 0, Done) ∷ (scanned 0 0 (one_free g) ++ (GiveFrame (first_frame g 0), Word 0) ∷ []) ++ (ReleaseTurn 0, Done) ∷ []) (pools.Got (first_frame g 0))
can-take g fine = record {
  busy = [];
  inner = scanned 0 0 (one_free g) ++ (GiveFrame (first_frame g 0), Word 0) ∷ [];
  work = record { words = one_free g; old = 0; all = one-length g fine; more = one-more g; least = one-least g; is = refl };
  is = refl;
}

pub can-last : (g : Geometry) (again : Own → ℕ → Type 0) → IsGeometry g → CanEnd (TakesLast g again)
can-last g again fine =
    can-follow (IsPool g (Take 0 0)) (λ end. FoundOr again (frame_taken end))
    (record { rest = (TakeTurn 0, Done) ∷ (scanned 0 0 (one_free g) ++ (GiveFrame (first_frame g 0), Word 0) ∷ []) ++ (ReleaseTurn 0, Done) ∷ []; outcome = pools.Got (first_frame g 0); shown = can-take g fine })
    (can-ends (first_frame g 0))

pub can-found : (next : Own → ℕ → Type 0) (found : Option ℕ) → CanEnd next → CanEnd (FoundOr next found)
can-found next (Some frame) can = can-ends frame
can-found next None can = can

-- What comes before it.

-- a pool task has a list
can-pool : (g : Geometry) (job : PoolJob) → tier_for g job < length g.tiers → CanEnd (IsPool g job)
can-pool g job exists = let some = some-pool g job exists in record { rest = some.rest; outcome = some.outcome; shown = some.whole }

-- the tiers of a list are there
abbrev AreTiersOf : Geometry → List ℕ → Type 0
AreTiersOf g tiers = All (IsTier g) tiers

can-seeks : (made : SearchMade) (g : Geometry) (tiers : List ℕ) (again : Own → ℕ → Type 0) → IsGeometry g → AreTiersOf g tiers → CanEnd (Each (SeeksIn made g) tiers tt (λ kept. TakesLast g again))
can-seeks made g [] again fine are = can-last g again fine
can-seeks made g (tier ∷ tiers) again fine are =
    let some : CanEnd (IsObtain (record { page = made.page; tier = tier }) g) = some-obtain (record { page = made.page; tier = tier }) g (All-head (IsTier g) tier tiers are) in
    can-follow (IsObtain (record { page = made.page; tier = tier }) g) (λ end. FoundOr (Each (SeeksIn made g) tiers tt (λ kept. TakesLast g again)) (frame_obtained end)) some
    (can-found (Each (SeeksIn made g) tiers tt (λ kept. TakesLast g again)) (frame_obtained some.outcome) (can-seeks made g tiers again fine (All-tail (IsTier g) tier tiers are)))

range-tiers : (g : Geometry) (tier count : ℕ) → tier + count ≤ length g.tiers → AreTiersOf g (range_with_len tier count)
range-tiers g tier zero le = All-nil (IsTier g)
range-tiers g tier (suc count) le = All-cons (IsTier g) tier (range_with_len (tier + 1) count) (omega (arith, le)) (range-tiers g (tier + 1) count (omega (arith, le)))

any-tiers : (g : Geometry) (tier : ℕ) (some : Bool) → nat_le tier (length g.tiers) ≡ some → AreTiersOf g (range_with_len tier (length g.tiers - tier))
any-tiers g tier true is = range-tiers g tier (length g.tiers - tier) (grind (arith, is))
any-tiers g tier false is = let none : length g.tiers - tier ≡ 0 = grind (arith, is) in rw none (All-nil (IsTier g))

pub can-from : (made : SearchMade) (g : Geometry) (tier : ℕ) (again : Own → ℕ → Type 0) → IsGeometry g → CanEnd (SeeksFrom made g tier again)
can-from made g tier again fine = can-seeks made g (range_with_len tier (length g.tiers - tier)) again fine (any-tiers g tier (nat_le tier (length g.tiers)) refl)

pub can-round : (made : SearchMade) (g : Geometry) (again : Own → ℕ → Type 0) → IsGeometry g → CanEnd (Round made g again)
can-round made g again fine =
    let some : CanEnd (IsPool g (Take 0 (low_mark g))) = can-pool g (Take 0 (low_mark g)) (omega (arith, fine.ranges.1.0)) in
    can-follow (IsPool g (Take 0 (low_mark g))) (λ end. FoundOr (SeeksFrom made g 1 again) (frame_taken end)) some (can-found (SeeksFrom made g 1 again) (frame_taken some.outcome) (can-from made g 1 again fine))

pub can-rounds : (made : SearchMade) (g : Geometry) (n : ℕ) → IsGeometry g → CanEnd (Rounds made g (suc n))
can-rounds made g n fine = can-round made g (Rounds made g n) fine

-- the pattern has a list
pub some-search : (made : SearchMade) (g : Geometry) → IsGeometry g → CanEnd (IsSearch made g)
some-search made g fine = can-sometimes (Rounds made g) 1 (can-rounds made g 0 fine)

-- Numbers of tries.

-- a number of tries after a first list is one of the whole
pub tries-after : {E X O : Type 0} (first : List E → X → Type 0) (after : X → ℕ → List E → O → Type 0) (own : List E) (outcome : O)
    → Follows first (λ end. Sometimes (after end)) own outcome → Sometimes (λ n. Follows first (λ end. after end n)) own outcome
tries-after first after own outcome f = record {
  tries = f.rest.tries;
  is = record { end = f.end; front = f.front; back = f.back; shown = f.shown; rest = f.rest.is; is = f.is };
}

-- one try more
pub tries-more : {E O : Type 0} (pattern of : ℕ → List E → O → Type 0) (own : List E) (outcome : O)
    → ((n : ℕ) → pattern n own outcome → of (suc n) own outcome) → Sometimes pattern own outcome → Sometimes of own outcome
tries-more pattern of own outcome more s = record { tries = suc s.tries; is = more s.tries s.is }

-- as many tries
pub tries-as : {E O : Type 0} (pattern of : ℕ → List E → O → Type 0) (own : List E) (outcome : O)
    → ((n : ℕ) → pattern n own outcome → of n own outcome) → Sometimes pattern own outcome → Sometimes of own outcome
tries-as pattern of own outcome same s = record { tries = s.tries; is = same s.tries s.is }

-- The reclaimer, as a pattern over finished lists of answered turns, the last step first. Each step is given what comes after it.
use Rattle.std.specs.Prelude.{ℕ, zero, suc, ◌+◌, ◌-◌, ◌%◌, nat_lt, nat_le, Bool, true, false, List, [], ◌∷◌, length, slice_index, slice_set}
use Rattle.nm_base.specs.Geometry.{Geometry, page_count}
use Rattle.nm_policy.specs.declared.watermarks.Watermarks.{Watermarks}
use Rattle.nm_policy.specs.Watermarks.{watermarks_of}
use Rattle.nm_action.specs.declared.spent.Spent.{Spent}
use Rattle.nm_vpages.specs.VPages.{vpages_of}
use Rattle.nm_part.specs.Patterns.{Ends, Follows, Either, Sometimes}
use Rattle.nm_inspect.specs.declared.inspect.Inspected.{Inspected}
use Rattle.nm_inspect.specs.declared.inspect.Inspected.TheVariants.{Elsewhere, InUse, Idle}
use Rattle.nm_worker.specs.Notes.{Notes, IsWorkDone}
use Rattle.nm_kswap.specs.declared.stage.Kept.{Kept}
use Rattle.nm_kswap.specs.Works.{ReclaimerWorkMade, ReclaimerWorkEnd, IsReclaimerWork, made_asking, made_level, made_inspect, made_demote}
use Rattle.nm_kswap.specs.Ends.{asked_in, level_in, inspected_in, demoted_in, spent_in, nothing_drawn, frames_freed, reclaimer_counts}

-- a pattern of sequences of an actor
abbrev pub Sequence : Type 1
Sequence = Notes → Unit {0} → Type 0

-- What is kept from step to step: the hand of each tier, and what was drawn.

-- each hand is at page 0 at first
abbrev pub kept_at_first : Kept
kept_at_first = record { hands = 0 ∷ 0 ∷ 0 ∷ []; spent = nothing_drawn }

-- the page at which the hand of a tier is
abbrev pub hand_of : ℕ → Kept → ℕ
hand_of tier kept = slice_index kept.hands tier

-- the hand of a tier goes on by one page, from the last to page 0
abbrev pub hand_moved : Geometry → ℕ → Kept → Kept
hand_moved g tier kept = record kept { hands = slice_set kept.hands tier ((hand_of tier kept + 1) % page_count g) }

abbrev pub with_drawn : Spent → Kept → Kept
with_drawn spent kept = record kept { spent = spent }

-- What the geometry says.

-- the watermarks of a tier
abbrev pub marks_of : Geometry → ℕ → Watermarks
marks_of g tier = watermarks_of (slice_index g.tiers tier)

-- the tiers before this one have a slower tier
abbrev pub last_tier : Geometry → ℕ
last_tier g = length g.tiers - 1

abbrev pub has_any : List ℕ → Bool
has_any [] = false
has_any (v ∷ vs) = true

-- some virtual page is mapped to the page
abbrev pub has_vpage : Geometry → ℕ → Bool
has_vpage g page = has_any (vpages_of g page)

-- The steps.

-- a piece of work is done
abbrev pub Does : Geometry → ReclaimerWorkMade → (ReclaimerWorkEnd → Sequence) → Sequence
Does g work after = Follows (IsWorkDone IsReclaimerWork reclaimer_counts work g) after

-- 3. A visit of a page, with the counted level of the tier: the page is inspected, and where some of it lies in the tier and
-- nothing of it was accessed, it is demoted; a demotion that moved the page counts the level up. A page without a virtual page has
-- nothing to look at.
abbrev pub Demotes : Geometry → ℕ → ℕ → Kept → (ℕ → Kept → Sequence) → Sequence
Demotes g page level kept after = Does g (made_demote g page kept.spent) (λ end. after (level + frames_freed (demoted_in end)) (with_drawn (spent_in end) kept))

abbrev pub AfterInspect : Geometry → ℕ → ℕ → Kept → (ℕ → Kept → Sequence) → Inspected → Sequence
AfterInspect g page level kept after Elsewhere = after level kept
AfterInspect g page level kept after InUse = after level kept
AfterInspect g page level kept after Idle = Demotes g page level kept after

abbrev pub Inspects : Geometry → ℕ → ℕ → ℕ → Kept → (ℕ → Kept → Sequence) → Sequence
Inspects g tier page level kept after = Does g (made_inspect g page tier) (λ end. AfterInspect g page level kept after (inspected_in end))

abbrev pub Visit : Geometry → ℕ → ℕ → ℕ → Kept → (ℕ → Kept → Sequence) → Sequence
Visit g tier page level kept after = Either (has_vpage g page) (Inspects g tier page level kept after) (after level kept)

-- At most so many visits are made, while the counted level is below the watermark `high`: each at the page at which the hand of the
-- tier is, which goes on by one page.
abbrev pub VisitsPages : Geometry → ℕ → ℕ → ℕ → Kept → (Kept → Sequence) → Sequence
VisitsPages g tier zero level kept after = after kept
VisitsPages g tier (suc more) level kept after = Either (nat_lt level (marks_of g tier).high) (Visit g tier (hand_of tier kept) level (hand_moved g tier kept) (λ level kept. VisitsPages g tier more level kept after)) (after kept)

-- 2. The free frames of a tier are counted, and where these are at most the watermark `low`, pages are visited, each page once at
-- most.
abbrev pub Relieves : Geometry → ℕ → Kept → (Kept → Sequence) → Sequence
Relieves g tier kept after = Does g (made_level g tier) (λ end. Either (nat_le (level_in end) (marks_of g tier).low) (VisitsPages g tier (page_count g) (level_in end) kept after) (after kept))

-- This is done for so many tiers, from this one on, in order.
abbrev pub Tiers : Geometry → ℕ → ℕ → Kept → (Kept → Sequence) → Sequence
Tiers g tier zero kept after = after kept
Tiers g tier (suc more) kept after = Relieves g tier kept (λ kept. Tiers g (tier + 1) more kept after)

-- 1. A round: all processors are asked, up to the first that has not ended; then the tiers but the last are relieved. What comes
-- after it is given whether all processors had ended.
abbrev pub ReclaimerRound : Geometry → Kept → (Bool → Kept → Sequence) → Sequence
ReclaimerRound g kept after = Does g (made_asking g) (λ end. Tiers g 0 (last_tier g) kept (after (asked_in end)))

-- 4. At most so many rounds: after a round in which all processors had ended comes End, and else a further round.
abbrev pub ReclaimerRounds : Geometry → ℕ → Kept → Sequence
ReclaimerRounds g zero kept notes outcome = ⊥
ReclaimerRounds g (suc more) kept notes outcome = ReclaimerRound g kept (λ ended kept. Either ended (Ends tt) (ReclaimerRounds g more kept)) notes outcome

abbrev pub IsReclaiming : Geometry → Sequence
IsReclaiming g = Sometimes (λ rounds. ReclaimerRounds g rounds kept_at_first)

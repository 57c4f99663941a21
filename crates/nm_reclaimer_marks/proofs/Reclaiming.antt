-- The reclaimer makes no Mark, and leaves the lane Pending alone.
use Rattle.std.proofs.Common.{ℕ, zero, suc, ◌+◌, nat_lt, nat_le, Bool, true, false, [], ◌∷◌, sym, ap, subst, ◌∙◌}
use Rattle.nm_base.specs.Geometry.{Geometry, page_count}
use Rattle.nm_action.specs.declared.action.Action.{Action}
use Rattle.nm_action.specs.declared.spent.Spent.{Spent}
use Rattle.nm_action.specs.declared.tally.Tally.{Tally}
use Rattle.nm_action.specs.Own.{Own}
use Rattle.nm_part.specs.Patterns.{Ends, Either}
use Rattle.nm_compose.specs.declared.or.Or.TheVariants.{This, Other}
use Rattle.nm_pool.specs.declared.job.PoolJob.TheVariants.{Level}
use Rattle.nm_inspect.specs.declared.inspect.Inspected.{Inspected}
use Rattle.nm_inspect.specs.declared.inspect.Inspected.TheVariants.{Elsewhere, InUse, Idle}
use Rattle.nm_actor.specs.Turns.{Turns}
use Rattle.nm_worker.specs.Notes.{Notes, noted_turns, worked}
use Rattle.nm_worker.proofs.NoteLists.{turns-append}
use Rattle.nm_kswap.specs.Works.{ReclaimerWorkMade, ReclaimerWorkEnd, IsReclaimerWork, made_asking, made_level, made_inspect, made_demote}
use Rattle.nm_kswap.specs.Ends.{asked_in, level_in, inspected_in, demoted_in, spent_in, frames_freed, reclaimer_counts}
use Rattle.nm_kswap.specs.Reclaiming.{Sequence, hand_of, hand_moved, with_drawn, marks_of, last_tier, has_vpage, Does, Demotes, AfterInspect, Inspects, Visit, VisitsPages, Relieves, Tiers, ReclaimerRounds, kept_at_first, IsReclaiming}
use Rattle.nm_marks.specs.Contents.{HasOnly, ListsOnly}
use Rattle.nm_marks.specs.Marks.{HasOnlyMarks, IsNoMark}
use Rattle.nm_marks.proofs.Contents.{only-both}
use Rattle.nm_part_marks.specs.Actions.{IsActionOf, IsNoAck}
use Rattle.nm_part_marks.proofs.Made.{marks-of}
use Rattle.nm_part_marks.proofs.Leaves.{pool-actions}
use Rattle.nm_part_marks.proofs.Keeping.{demotion-actions, inspection-actions}
use Rattle.nm_note_marks.specs.Contents.{own_noted}
use Rattle.nm_note_marks.proofs.Patterns.{noted-append, note-work}
use Rattle.nm_pending.specs.PendingTurns.{AreOffPending}
use Rattle.nm_pending.proofs.Off.{off-both}
use Rattle.nm_part_marks.proofs.Asking.{asks-actions}

-- the outcome of a sequence of the reclaimer
abbrev ReclaimerOutcome : Type 0
ReclaimerOutcome = Unit {0}

-- a sequence has no Mark and no acknowledgement, and no put into the lane Pending or take from it
record IsQuietlyNoted (notes : Notes) : Type 0 where
  only : HasOnly (IsActionOf IsNoMark IsNoAck) (own_noted notes)
  off : AreOffPending (noted_turns notes)

-- each sequence is so
abbrev Only : Sequence → Type 0
Only pattern = (notes : Notes) (outcome : ReclaimerOutcome) → pattern notes outcome → IsQuietlyNoted notes

-- ---- the pieces of its work

ask-only : (g : Geometry) → ListsOnly (IsActionOf IsNoMark IsNoAck) (IsReclaimerWork (made_asking g) g)
ask-only g own (This all) h = asks-actions IsNoMark IsNoAck g 0 g.cpus own all h
ask-only g own (Other end) h = absurd h

level-only : (g : Geometry) (tier : ℕ) → ListsOnly (IsActionOf IsNoMark IsNoAck) (IsReclaimerWork (made_level g tier) g)
level-only g tier own (This all) h = absurd h
level-only g tier own (Other (This end)) h = pool-actions IsNoMark IsNoAck g (Level tier) own end h
level-only g tier own (Other (Other end)) h = absurd h

inspect-only : (g : Geometry) (page tier : ℕ) → ListsOnly (IsActionOf IsNoMark IsNoAck) (IsReclaimerWork (made_inspect g page tier) g)
inspect-only g page tier own (This all) h = absurd h
inspect-only g page tier own (Other (This end)) h = absurd h
inspect-only g page tier own (Other (Other (This found))) h = inspection-actions IsNoMark IsNoAck (record { 0 = g; 1 = record { page = page; tier = tier } }) g own found h
inspect-only g page tier own (Other (Other (Other told))) h = absurd h

demote-only : (g : Geometry) (page : ℕ) (spent : Spent) → ListsOnly (IsActionOf IsNoMark IsNoAck) (IsReclaimerWork (made_demote g page spent) g)
demote-only g page spent own (This all) h = absurd h
demote-only g page spent own (Other (This end)) h = absurd h
demote-only g page spent own (Other (Other (This found))) h = absurd h
demote-only g page spent own (Other (Other (Other told))) h = demotion-actions IsNoMark IsNoAck (record { page = page; spent = spent }) g own told.end.end h.shown

-- ---- along the pattern

off-worked : (counts : Tally) (own : Own) → AreOffPending (noted_turns (worked counts own))
off-worked counts [] = tt
off-worked counts (e ∷ own) = (tt, off-worked counts own)

does-only : (g : Geometry) (work : ReclaimerWorkMade) (after : ReclaimerWorkEnd → Sequence) → ListsOnly (IsActionOf IsNoMark IsNoAck) (IsReclaimerWork work g) → ((end : ReclaimerWorkEnd) → Only (after end)) → Only (Does g work after)
does-only g work after so then notes outcome h =
    let P : Action → Type 0 = IsActionOf IsNoMark IsNoAck in
    let w = h.shown in
    let r = then h.end h.back outcome h.rest in
    let O : Own → Type 0 = λ l. HasOnly P l in
    let T : Turns → Type 0 = λ l. AreOffPending l in
    record {
      only = subst O (sym (ap own_noted h.is ∙ noted-append h.front h.back)) (only-both P (own_noted h.front) (own_noted h.back) (note-work P IsReclaimerWork reclaimer_counts work g so h.front h.end w) r.only);
      off = subst T (sym (ap noted_turns h.is ∙ turns-append h.front h.back)) (off-both (noted_turns h.front) (noted_turns h.back) (subst T (sym (ap noted_turns w.is)) (off-worked (reclaimer_counts h.end) w.own)) r.off);
    }

either-only : (b : Bool) (held other : Sequence) → Only held → Only other → Only (Either b held other)
either-only true held other so then = so
either-only false held other so then = then

ends-only : Only (Ends tt)
ends-only notes outcome h =
    let N : Notes → Type 0 = λ l. IsQuietlyNoted l in
    subst N (sym h.none) (record { only = tt; off = tt })

demotes-only : (g : Geometry) (page level : ℕ) (kept : _) (after : ℕ → _ → Sequence) → ((level : ℕ) (kept : _) → Only (after level kept)) → Only (Demotes g page level kept after)
demotes-only g page level kept after rest =
    does-only g (made_demote g page kept.spent) (λ end. after (level + frames_freed (demoted_in end)) (with_drawn (spent_in end) kept)) (demote-only g page kept.spent)
    (λ end. rest (level + frames_freed (demoted_in end)) (with_drawn (spent_in end) kept))

after-inspect-only : (g : Geometry) (page level : ℕ) (kept : _) (after : ℕ → _ → Sequence) (found : Inspected) → ((level : ℕ) (kept : _) → Only (after level kept)) → Only (AfterInspect g page level kept after found)
after-inspect-only g page level kept after Elsewhere rest = rest level kept
after-inspect-only g page level kept after InUse rest = rest level kept
after-inspect-only g page level kept after Idle rest = demotes-only g page level kept after rest

visit-only : (g : Geometry) (tier page level : ℕ) (kept : _) (after : ℕ → _ → Sequence) → ((level : ℕ) (kept : _) → Only (after level kept)) → Only (Visit g tier page level kept after)
visit-only g tier page level kept after rest =
    either-only (has_vpage g page) (Inspects g tier page level kept after) (after level kept)
    (does-only g (made_inspect g page tier) (λ end. AfterInspect g page level kept after (inspected_in end)) (inspect-only g page tier) (λ end. after-inspect-only g page level kept after (inspected_in end) rest))
    (rest level kept)

visits-only : (g : Geometry) (tier more level : ℕ) (kept : _) (after : _ → Sequence) → ((kept : _) → Only (after kept)) → Only (VisitsPages g tier more level kept after)
visits-only g tier zero level kept after rest = rest kept
visits-only g tier (suc more) level kept after rest =
    let next : ℕ → _ → Sequence = λ level kept. VisitsPages g tier more level kept after in
    either-only (nat_lt level (marks_of g tier).high) (Visit g tier (hand_of tier kept) level (hand_moved g tier kept) next) (after kept)
    (visit-only g tier (hand_of tier kept) level (hand_moved g tier kept) next (λ level kept. visits-only g tier more level kept after rest))
    (rest kept)

relieves-only : (g : Geometry) (tier : ℕ) (kept : _) (after : _ → Sequence) → ((kept : _) → Only (after kept)) → Only (Relieves g tier kept after)
relieves-only g tier kept after rest =
    does-only g (made_level g tier) (λ end. Either (nat_le (level_in end) (marks_of g tier).low) (VisitsPages g tier (page_count g) (level_in end) kept after) (after kept)) (level-only g tier)
    (λ end. either-only (nat_le (level_in end) (marks_of g tier).low) (VisitsPages g tier (page_count g) (level_in end) kept after) (after kept) (visits-only g tier (page_count g) (level_in end) kept after rest) (rest kept))

tiers-only : (g : Geometry) (tier more : ℕ) (kept : _) (after : _ → Sequence) → ((kept : _) → Only (after kept)) → Only (Tiers g tier more kept after)
tiers-only g tier zero kept after rest = rest kept
tiers-only g tier (suc more) kept after rest = relieves-only g tier kept (λ kept. Tiers g (tier + 1) more kept after) (λ kept. tiers-only g (tier + 1) more kept after rest)

rounds-only : (g : Geometry) (more : ℕ) (kept : _) → Only (ReclaimerRounds g more kept)
rounds-only g zero kept notes outcome h = absurd h
rounds-only g (suc more) kept notes outcome h =
    let after : Bool → _ → Sequence = λ ended kept. Either ended (Ends tt) (ReclaimerRounds g more kept) in
    does-only g (made_asking g) (λ end. Tiers g 0 (last_tier g) kept (after (asked_in end))) (ask-only g)
    (λ end. tiers-only g 0 (last_tier g) kept (after (asked_in end)) (λ kept. either-only (asked_in end) (Ends tt) (ReclaimerRounds g more kept) ends-only (rounds-only g more kept)))
    notes outcome h

whole-only : (g : Geometry) → Only (IsReclaiming g)
whole-only g notes outcome h = rounds-only g h.tries kept_at_first notes outcome h.is

pub reclaiming-unmarked : (g : Geometry) (notes : Notes) (outcome : ReclaimerOutcome) → IsReclaiming g notes outcome → HasOnlyMarks IsNoMark (own_noted notes)
reclaiming-unmarked g notes outcome h = marks-of IsNoMark (own_noted notes) (whole-only g notes outcome h).only

pub reclaiming-off : (g : Geometry) (notes : Notes) (outcome : ReclaimerOutcome) → IsReclaiming g notes outcome → AreOffPending (noted_turns notes)
reclaiming-off g notes outcome h = (whole-only g notes outcome h).off

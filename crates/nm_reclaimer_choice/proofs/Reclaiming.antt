-- The sequence of the reclaimer leaves no choice. Each lemma is of two patterns, which may have a different number of rounds.
use Rattle.std.proofs.Common.{ℕ, zero, suc, ◌+◌, nat_lt, nat_le, Bool, length}
use Rattle.nm_base.specs.Geometry.{Geometry, page_count}
use Rattle.nm_action.specs.declared.spent.Spent.{Spent}
use Rattle.nm_part.specs.Patterns.{Ends, Either}
use Rattle.nm_inspect.specs.declared.inspect.Inspected.{Inspected}
use Rattle.nm_inspect.specs.declared.inspect.Inspected.TheVariants.{Elsewhere, InUse, Idle}
use Rattle.nm_demote.specs.declared.demote.DemoteEnd.{DemoteEnd}
use Rattle.nm_kswap.specs.declared.stage.Kept.{Kept}
use Rattle.nm_kswap.specs.Works.{IsReclaimerWork, made_asking, made_level, made_inspect, made_demote}
use Rattle.nm_kswap.specs.Ends.{asked_in, level_in, inspected_in, frames_freed, reclaimer_counts}
use Rattle.nm_kswap.specs.Reclaiming.{Sequence, kept_at_first, hand_of, hand_moved, with_drawn, marks_of, last_tier, has_vpage, Demotes, AfterInspect, Inspects, Visit, VisitsPages, Relieves, Tiers, ReclaimerRound, ReclaimerRounds, IsReclaiming}
use Rattle.nm_choice.specs.Deterministic.{AgreeUpToAnswers}
use Rattle.nm_choice.proofs.Patterns.{one-ends, agree-either, one-sometimes}
use Rattle.nm_note_choice.specs.NotesApart.{AreNotesApart, IsDeterministicRoutine}
use Rattle.nm_note_choice.proofs.Works.{work-follows}
use Rattle.nm_reclaimer_choice.proofs.Works.{asks-told, levels-told, inspects-told, demote_tells, demotes-told}

abbrev Agree : Sequence → Sequence → Type 0
Agree first second = AgreeUpToAnswers AreNotesApart first second

-- what comes after a visit
abbrev LevelsAgree : (ℕ → Kept → Sequence) → (ℕ → Kept → Sequence) → Type 0
LevelsAgree after then = (level : ℕ) (kept : Kept) → Agree (after level kept) (then level kept)

-- what comes after a tier
abbrev KeptAgree : (Kept → Sequence) → (Kept → Sequence) → Type 0
KeptAgree after then = (kept : Kept) → Agree (after kept) (then kept)

demotes : (g : Geometry) (page level : ℕ) (kept : Kept) (after then : ℕ → Kept → Sequence) → LevelsAgree after then → Agree (Demotes g page level kept after) (Demotes g page level kept then)
demotes g page level kept after then rest =
    work-follows IsReclaimerWork reclaimer_counts (made_demote g page kept.spent) g demote_tells
    (λ (told : DemoteEnd × Spent). after (level + frames_freed told.0) (with_drawn told.1 kept)) (λ (told : DemoteEnd × Spent). then (level + frames_freed told.0) (with_drawn told.1 kept))
    (demotes-told g page kept.spent) (λ told. rest (level + frames_freed told.0) (with_drawn told.1 kept))

after_inspect : (g : Geometry) (page level : ℕ) (kept : Kept) (after then : ℕ → Kept → Sequence) (found : Inspected) → LevelsAgree after then → Agree (AfterInspect g page level kept after found) (AfterInspect g page level kept then found)
after_inspect g page level kept after then Elsewhere rest = rest level kept
after_inspect g page level kept after then InUse rest = rest level kept
after_inspect g page level kept after then Idle rest = demotes g page level kept after then rest

inspects : (g : Geometry) (tier page level : ℕ) (kept : Kept) (after then : ℕ → Kept → Sequence) → LevelsAgree after then → Agree (Inspects g tier page level kept after) (Inspects g tier page level kept then)
inspects g tier page level kept after then rest =
    work-follows IsReclaimerWork reclaimer_counts (made_inspect g page tier) g inspected_in (AfterInspect g page level kept after) (AfterInspect g page level kept then)
    (inspects-told g page tier) (λ found. after_inspect g page level kept after then found rest)

visit : (g : Geometry) (tier page level : ℕ) (kept : Kept) (after then : ℕ → Kept → Sequence) → LevelsAgree after then → Agree (Visit g tier page level kept after) (Visit g tier page level kept then)
visit g tier page level kept after then rest =
    agree-either AreNotesApart (has_vpage g page) (Inspects g tier page level kept after) (Inspects g tier page level kept then) (after level kept) (then level kept) (inspects g tier page level kept after then rest) (rest level kept)

visits : (g : Geometry) (tier more level : ℕ) (kept : Kept) (after then : Kept → Sequence) → KeptAgree after then → Agree (VisitsPages g tier more level kept after) (VisitsPages g tier more level kept then)
visits g tier zero level kept after then rest = rest kept
visits g tier (suc more) level kept after then rest =
    agree-either AreNotesApart (nat_lt level (marks_of g tier).high)
    (Visit g tier (hand_of tier kept) level (hand_moved g tier kept) (λ level kept. VisitsPages g tier more level kept after)) (Visit g tier (hand_of tier kept) level (hand_moved g tier kept) (λ level kept. VisitsPages g tier more level kept then))
    (after kept) (then kept)
    (visit g tier (hand_of tier kept) level (hand_moved g tier kept) (λ level kept. VisitsPages g tier more level kept after) (λ level kept. VisitsPages g tier more level kept then) (λ level kept. visits g tier more level kept after then rest)) (rest kept)

relieves : (g : Geometry) (tier : ℕ) (kept : Kept) (after then : Kept → Sequence) → KeptAgree after then → Agree (Relieves g tier kept after) (Relieves g tier kept then)
relieves g tier kept after then rest =
    work-follows IsReclaimerWork reclaimer_counts (made_level g tier) g level_in
    (λ level. Either (nat_le level (marks_of g tier).low) (VisitsPages g tier (page_count g) level kept after) (after kept)) (λ level. Either (nat_le level (marks_of g tier).low) (VisitsPages g tier (page_count g) level kept then) (then kept))
    (levels-told g tier) (λ level. agree-either AreNotesApart (nat_le level (marks_of g tier).low) (VisitsPages g tier (page_count g) level kept after) (VisitsPages g tier (page_count g) level kept then) (after kept) (then kept)
    (visits g tier (page_count g) level kept after then rest) (rest kept))

tiers : (g : Geometry) (tier more : ℕ) (kept : Kept) (after then : Kept → Sequence) → KeptAgree after then → Agree (Tiers g tier more kept after) (Tiers g tier more kept then)
tiers g tier zero kept after then rest = rest kept
tiers g tier (suc more) kept after then rest =
    relieves g tier kept (λ kept. Tiers g (tier + 1) more kept after) (λ kept. Tiers g (tier + 1) more kept then) (λ kept. tiers g (tier + 1) more kept after then rest)

round : (g : Geometry) (kept : Kept) (after then : Bool → Kept → Sequence) → ((ended : Bool) → KeptAgree (after ended) (then ended)) → Agree (ReclaimerRound g kept after) (ReclaimerRound g kept then)
round g kept after then rest =
    work-follows IsReclaimerWork reclaimer_counts (made_asking g) g asked_in (λ ended. Tiers g 0 (last_tier g) kept (after ended)) (λ ended. Tiers g 0 (last_tier g) kept (then ended))
    (asks-told g) (λ ended. tiers g 0 (last_tier g) kept (after ended) (then ended) (rest ended))

rounds : (g : Geometry) (n m : ℕ) (kept : Kept) → Agree (ReclaimerRounds g n kept) (ReclaimerRounds g m kept)
rounds g zero m kept = λ notes others outcome end h k. absurd h
rounds g (suc n) zero kept = λ notes others outcome end h k. absurd k
rounds g (suc n) (suc m) kept =
    round g kept (λ ended kept. Either ended (Ends tt) (ReclaimerRounds g n kept)) (λ ended kept. Either ended (Ends tt) (ReclaimerRounds g m kept))
    (λ ended kept. agree-either AreNotesApart ended (Ends tt) (Ends tt) (ReclaimerRounds g n kept) (ReclaimerRounds g m kept) (one-ends AreNotesApart tt) (rounds g n m kept))

pub reclaiming-one : (g : Geometry) → IsDeterministicRoutine (IsReclaiming g)
reclaiming-one g = one-sometimes AreNotesApart (λ rounds. ReclaimerRounds g rounds kept_at_first) (λ n m. rounds g n m kept_at_first)

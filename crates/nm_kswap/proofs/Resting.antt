-- The pieces of the reclaimer's work begin in a view with nothing open, and leave such a one.
use Rattle.std.proofs.Common.{◌≡◌, ℕ, zero, suc, ◌+◌, ◌<◌, nat_lt, nat_le, if◌then◌else◌, Bool, true, false, List, [], length, map, Option, refl, sym, ap, subst, ◌∙◌, arith}
use Rattle.nm_base.specs.Geometry.{Geometry, page_count}
use Rattle.nm_base.specs.Ranges.{IsPage}
use Rattle.nm_action.specs.declared.spent.Spent.{Spent}
use Rattle.nm_action.specs.Own.{Own}
use Rattle.nm_view.specs.declared.view.Owned.{Owned}
use Rattle.nm_view.specs.Lists.{find}
use Rattle.nm_view.specs.Operations.{page_of}
use Rattle.nm_view.specs.Views.{Op, View}
use Rattle.nm_event.specs.After.{spoiled, spoiled_frame, filled}
use Rattle.nm_compose.specs.declared.or.Or.TheVariants.{This, Other}
use Rattle.nm_reclaim.specs.Swept.{IsForgotten}
use Rattle.nm_pool.specs.declared.job.PoolEnd.TheVariants as pools
use Rattle.nm_pool.specs.Given.{released}
use Rattle.nm_inspect.specs.declared.inspect.Inspected.{Inspected}
use Rattle.nm_inspect.specs.declared.inspect.Inspected.TheVariants as inspected
use Rattle.nm_demote.specs.declared.select.DemoteMade.{DemoteMade}
use Rattle.nm_demote.specs.declared.demote.DemoteEnd.{DemoteEnd}
use Rattle.nm_demote.specs.declared.demote.DemoteEnd.TheVariants.{Remapped, Copied, NoFrame, Gone, Worn, Busy}
use Rattle.nm_demote.specs.Leaving.{IsDemoteLeft}
use Rattle.nm_worker.specs.Routines.{IsLeftEmpty}
use Rattle.nm_worker.specs.declared.routine.Task.{Task}
use Rattle.nm_worker.specs.declared.routine.Task.TheVariants.{Run}
use Rattle.nm_kswap.specs.declared.stage.Kept.{Kept}
use Rattle.nm_kswap.specs.declared.stage.Visit.{Visit}
use Rattle.nm_kswap.specs.declared.stage.Stage.{Stage}
use Rattle.nm_kswap.specs.declared.stage.Stage.TheVariants.{New, Asking, Counting, Inspecting, Demoting, Over}
use Rattle.nm_kswap.specs.Works.{ReclaimerWorkMade, ReclaimerWorkEnd, MayReclaimerWork, IsReclaimerWork, ReclaimerWorkLeaves, made_asking, made_level, made_inspect, made_demote}
use Rattle.nm_kswap.specs.Ends.{spent_in, demoted_in, level_in, inspected_in, frames_freed}
use Rattle.nm_kswap.specs.Reclaiming.{hand_of, hand_moved, with_drawn, marks_of, has_vpage}
use Rattle.nm_kswap.specs.Stages.{task_at, to_stage, tier_stage, to_visit, to_demote, going_on}
use Rattle.nm_kswap.specs.Knowing.{IsResting, RunsWork, IsEndAt}

-- They may begin.

pub may-ask : (g : Geometry) (spent : Spent) (view : View) → IsResting g spent view → MayReclaimerWork (made_asking g) g view
may-ask g spent view h = let some = h.geometry.ranges.2.0 in record { all = refl; some = omega (arith, some); ops = h.empty.ops }

pub may-level : (g : Geometry) (tier : ℕ) (spent : Spent) (view : View) → tier < length g.tiers → IsResting g spent view → MayReclaimerWork (made_level g tier) g view
may-level g tier spent view there h = record { geometry = h.geometry; is = refl; work = there; turn = h.empty.turn }

pub may-inspect : (g : Geometry) (page tier : ℕ) (spent : Spent) (view : View) → IsResting g spent view → MayReclaimerWork (made_inspect g page tier) g view
may-inspect g page tier spent view h = record { same = refl; alone = ap (λ (ops : List Op). find page_of page ops) h.empty.ops }

pub may-demote : (g : Geometry) (page : ℕ) (spent : Spent) (view : View) → IsPage g page → IsResting g spent view → MayReclaimerWork (made_demote g page spent) g view
may-demote g page spent view there h = record {
  piece = record {
    same = refl;
    geometry = h.geometry;
    page = there;
    none = h.empty.ops;
    turn = h.empty.turn;
    spent = λ i. record { bumps = h.drawn.bumps i; raises = h.drawn.raises i };
  };
  drawn = h.drawn;
}

-- A task that runs a piece of work is over.

-- it has ended so, with this list
pub record IsPieceOver (work : ReclaimerWorkMade) (g : Geometry) (now later : View) (end : ReclaimerWorkEnd) : Type 0 where
  pub own : Own
  pub shown : IsReclaimerWork work g own end
  pub left : ReclaimerWorkLeaves work g now end later

abbrev pub IsOverIn : Task ReclaimerWorkMade → Geometry → View → View → ReclaimerWorkEnd → Type 0
IsOverIn (Run work) g now later end = IsPieceOver work g now later end
IsOverIn task g now later end = ⊥

-- the end is of the kind of the stage
level-kind : (g : Geometry) (last : Bool) (tier : ℕ) (now later : View) (end : ReclaimerWorkEnd) → IsPieceOver (made_level g tier) g now later end → IsEndAt (Counting last tier) end
level-kind g last tier now later (This all) h = absurd h.shown
level-kind g last tier now later (Other (This (pools.Level n))) h = tt
level-kind g last tier now later (Other (This (pools.Got frame))) h = absurd h.shown.work
level-kind g last tier now later (Other (This (pools.AtFloor n))) h = absurd h.shown.work
level-kind g last tier now later (Other (This pools.Back)) h = absurd h.shown.work
level-kind g last tier now later (Other (Other end)) h = absurd h.shown

inspect-kind : (g : Geometry) (visit : Visit) (now later : View) (end : ReclaimerWorkEnd) → IsPieceOver (made_inspect g visit.page visit.tier) g now later end → IsEndAt (Inspecting visit) end
inspect-kind g visit now later (This all) h = absurd h.shown
inspect-kind g visit now later (Other (This end)) h = absurd h.shown
inspect-kind g visit now later (Other (Other (This found))) h = tt
inspect-kind g visit now later (Other (Other (Other told))) h = absurd h.shown

demote-kind : (g : Geometry) (visit : Visit) (spent : Spent) (now later : View) (end : ReclaimerWorkEnd) → IsPieceOver (made_demote g visit.page spent) g now later end → IsEndAt (Demoting visit) end
demote-kind g visit spent now later (This all) h = absurd h.shown
demote-kind g visit spent now later (Other (This end)) h = absurd h.shown
demote-kind g visit spent now later (Other (Other (This found))) h = absurd h.shown
demote-kind g visit spent now later (Other (Other (Other told))) h = tt

ask-kind : (g : Geometry) (now later : View) (end : ReclaimerWorkEnd) → IsPieceOver (made_asking g) g now later end → IsEndAt Asking end
ask-kind g now later (This all) h = tt
ask-kind g now later (Other end) h = absurd h.shown

pub over-kind : (g : Geometry) (kept : Kept) (stage : Stage) (now later : View) (end : ReclaimerWorkEnd) → IsOverIn (task_at g kept stage) g now later end → IsEndAt stage end
over-kind g kept New now later end h = absurd h
over-kind g kept Asking now later end h = ask-kind g now later end h
over-kind g kept (Counting last tier) now later end h = level-kind g last tier now later end h
over-kind g kept (Inspecting visit) now later end h = inspect-kind g visit now later end h
over-kind g kept (Demoting visit) now later end h = demote-kind g visit kept.spent now later end h
over-kind g kept Over now later end h = absurd h

pub over-runs : (g : Geometry) (kept : Kept) (stage : Stage) (now later : View) (end : ReclaimerWorkEnd) → IsOverIn (task_at g kept stage) g now later end → RunsWork stage
over-runs g kept New now later end h = absurd h
over-runs g kept Asking now later end h = tt
over-runs g kept (Counting last tier) now later end h = tt
over-runs g kept (Inspecting visit) now later end h = tt
over-runs g kept (Demoting visit) now later end h = tt
over-runs g kept Over now later end h = absurd h

-- What was drawn is kept.

visit-spent-by : (g : Geometry) (last : Bool) (tier level left : ℕ) (kept : Kept) (below some : Bool) → (to_visit g last tier level left (hand_moved g tier kept)).kept.spent ≡ kept.spent
    → (if below then (if some then to_stage (Inspecting (record { last = last; tier = tier; level = level; page = hand_of tier kept; left = left })) (hand_moved g tier kept) else to_visit g last tier level left (hand_moved g tier kept)) else to_stage (tier_stage g last (tier + 1)) kept).kept.spent ≡ kept.spent
visit-spent-by g last tier level left kept true true later = refl
visit-spent-by g last tier level left kept true false later = later
visit-spent-by g last tier level left kept false some later = refl

visit-spent : (g : Geometry) (last : Bool) (tier level left : ℕ) (kept : Kept) → (to_visit g last tier level left kept).kept.spent ≡ kept.spent
visit-spent g last tier level zero kept = refl
visit-spent g last tier level (suc left) kept = visit-spent-by g last tier level left kept (nat_lt level (marks_of g tier).high) (has_vpage g (hand_of tier kept)) (visit-spent g last tier level left (hand_moved g tier kept))

level-spent : (g : Geometry) (last : Bool) (tier level : ℕ) (kept : Kept) (low : Bool) → (if low then to_visit g last tier level (page_count g) kept else to_stage (tier_stage g last (tier + 1)) kept).kept.spent ≡ kept.spent
level-spent g last tier level kept true = visit-spent g last tier level (page_count g) kept
level-spent g last tier level kept false = refl

found-spent : (g : Geometry) (visit : Visit) (kept : Kept) (found : Inspected) → (to_demote g visit kept found).kept.spent ≡ kept.spent
found-spent g visit kept inspected.Elsewhere = visit-spent g visit.last visit.tier visit.level visit.left kept
found-spent g visit kept inspected.InUse = visit-spent g visit.last visit.tier visit.level visit.left kept
found-spent g visit kept inspected.Idle = refl

-- What they leave.

same-rests : (g : Geometry) (spent after : Spent) (now later : View) → later ≡ now → after ≡ spent → IsResting g spent now → IsResting g after later
same-rests g spent after now later is same h =
    let R : View → Type 0 = λ v. IsResting g after v in
    let S : Spent → Type 0 = λ s. IsResting g s now in
    subst R (sym is) (subst S (sym same) h)

-- the turn is released
level-rests : (g : Geometry) (spent after : Spent) (now later : View) → later ≡ released now → after ≡ spent → IsResting g spent now → IsResting g after later
level-rests g spent after now later is same h =
    same-rests g spent after (released now) later is same (record { geometry = h.geometry; empty = record { ops = h.empty.ops; owned = h.empty.owned; turn = refl }; drawn = record { bumps = h.drawn.bumps; raises = h.drawn.raises } })

-- no frame is owned after a demotion, where none was before
forgotten-none : (skip : Option ℕ) (old new : List Owned) → old ≡ [] → IsForgotten skip old new → new ≡ []
forgotten-none skip old new none h = h.is ∙ ap (λ (owned : List Owned). map (λ w. filled (h.change w.fill) w) owned) none

spoiled-none : (page : ℕ) (owned : List Owned) → owned ≡ [] → spoiled page owned ≡ []
spoiled-none page owned none = ap (λ (l : List Owned). map (spoiled_frame page) l) none

demote-empty : (made : DemoteMade) (now later : View) (end : DemoteEnd) → IsDemoteLeft made now end later → IsLeftEmpty now → IsLeftEmpty later
demote-empty made now later Remapped h e = record {
  ops = ap (λ (v : View). v.ops) h.is ∙ e.ops;
  owned = ap (λ (v : View). v.owned) h.is ∙ spoiled-none made.page h.before (forgotten-none _ now.owned h.before e.owned h.forgotten);
  turn = ap (λ (v : View). v.turn) h.is ∙ e.turn;
}
demote-empty made now later Copied h e = record {
  ops = ap (λ (v : View). v.ops) h.is ∙ e.ops;
  owned = ap (λ (v : View). v.owned) h.is ∙ spoiled-none made.page h.before (forgotten-none _ now.owned h.before e.owned h.forgotten);
  turn = ap (λ (v : View). v.turn) h.is ∙ e.turn;
}
demote-empty made now later (NoFrame n) h e = record {
  ops = ap (λ (v : View). v.ops) h.is ∙ e.ops;
  owned = ap (λ (v : View). v.owned) h.is ∙ spoiled-none made.page h.before (forgotten-none _ now.owned h.before e.owned h.forgotten);
  turn = ap (λ (v : View). v.turn) h.is ∙ e.turn;
}
demote-empty made now later Gone h e = record {
  ops = ap (λ (v : View). v.ops) h.is ∙ e.ops;
  owned = ap (λ (v : View). v.owned) h.is ∙ spoiled-none made.page h.before (forgotten-none _ now.owned h.before e.owned h.forgotten);
  turn = ap (λ (v : View). v.turn) h.is ∙ e.turn;
}
demote-empty made now later Worn h e = record {
  ops = ap (λ (v : View). v.ops) h.is ∙ e.ops;
  owned = ap (λ (v : View). v.owned) h.is ∙ spoiled-none made.page h.before (forgotten-none _ now.owned h.before e.owned h.forgotten);
  turn = ap (λ (v : View). v.turn) h.is ∙ e.turn;
}
demote-empty made now later Busy h e = subst IsLeftEmpty (sym h) e

demote-rests : (g : Geometry) (visit : Visit) (kept : Kept) (now later : View) (end : ReclaimerWorkEnd) → IsPieceOver (made_demote g visit.page kept.spent) g now later end → IsResting g kept.spent now → IsResting g (spent_in end) later
demote-rests g visit kept now later (This all) h r = absurd h.shown
demote-rests g visit kept now later (Other (This end)) h r = absurd h.shown
demote-rests g visit kept now later (Other (Other (This found))) h r = absurd h.shown
demote-rests g visit kept now later (Other (Other (Other told))) h r = record {
  geometry = r.geometry;
  empty = demote-empty (record { page = visit.page; spent = kept.spent }) now later told.end.end h.left.left r.empty;
  drawn = h.left.drawn;
}

after-ask : (g : Geometry) (kept : Kept) (now later : View) (end : ReclaimerWorkEnd) → IsPieceOver (made_asking g) g now later end → IsResting g kept.spent now → IsResting g kept.spent later
after-ask g kept now later (This all) h r = same-rests g kept.spent kept.spent now later h.left refl r
after-ask g kept now later (Other end) h r = absurd h.shown

after-level : (g : Geometry) (tier : ℕ) (kept : Kept) (spent : Spent) (now later : View) (end : ReclaimerWorkEnd) → IsPieceOver (made_level g tier) g now later end → spent ≡ kept.spent → IsResting g kept.spent now → IsResting g spent later
after-level g tier kept spent now later (This all) h same r = absurd h.shown
after-level g tier kept spent now later (Other (This (pools.Level n))) h same r = level-rests g kept.spent spent now later h.left same r
after-level g tier kept spent now later (Other (This (pools.Got frame))) h same r = absurd h.shown.work
after-level g tier kept spent now later (Other (This (pools.AtFloor n))) h same r = absurd h.shown.work
after-level g tier kept spent now later (Other (This pools.Back)) h same r = absurd h.shown.work
after-level g tier kept spent now later (Other (Other end)) h same r = absurd h.shown

after-inspect : (g : Geometry) (visit : Visit) (kept : Kept) (spent : Spent) (now later : View) (end : ReclaimerWorkEnd) → IsPieceOver (made_inspect g visit.page visit.tier) g now later end → spent ≡ kept.spent → IsResting g kept.spent now → IsResting g spent later
after-inspect g visit kept spent now later (This all) h same r = absurd h.shown
after-inspect g visit kept spent now later (Other (This end)) h same r = absurd h.shown
after-inspect g visit kept spent now later (Other (Other (This found))) h same r = same-rests g kept.spent spent now later h.left same r
after-inspect g visit kept spent now later (Other (Other (Other told))) h same r = absurd h.shown

-- after the piece of a stage the view has nothing open, and so much is drawn as is kept
pub going-rests : (g : Geometry) (kept : Kept) (stage : Stage) (now later : View) (end : ReclaimerWorkEnd) → IsOverIn (task_at g kept stage) g now later end → IsResting g kept.spent now → IsResting g (going_on g kept stage end).kept.spent later
going-rests g kept New now later end h r = absurd h
going-rests g kept Asking now later end h r = after-ask g kept now later end h r
going-rests g kept (Counting last tier) now later end h r =
    after-level g tier kept (going_on g kept (Counting last tier) end).kept.spent now later end h (level-spent g last tier (level_in end) kept (nat_le (level_in end) (marks_of g tier).low)) r
going-rests g kept (Inspecting visit) now later end h r =
    after-inspect g visit kept (going_on g kept (Inspecting visit) end).kept.spent now later end h (found-spent g visit kept (inspected_in end)) r
going-rests g kept (Demoting visit) now later end h r =
    let S : Spent → Type 0 = λ s. IsResting g s later in
    subst S (sym (visit-spent g visit.last visit.tier (visit.level + frames_freed (demoted_in end)) visit.left (with_drawn (spent_in end) kept))) (demote-rests g visit kept now later end h r)
going-rests g kept Over now later end h r = absurd h

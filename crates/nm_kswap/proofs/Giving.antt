-- The task of a stage is a next task, and which stage may come next.
use Rattle.std.proofs.Common.{◌≡◌, ◌≢◌, ℕ, zero, suc, ◌+◌, ◌<◌, ◌≤◌, nat_lt, nat_le, if◌then◌else◌, Bool, true, false, List, [], ◌∷◌, length, Option, refl, sym, subst, ◌∙◌, arith}
use Rattle.std.proofs.lemmas.List.{length-set}
use Rattle.std.proofs.lemmas.Nat.{mod_below}
use Rattle.std.proofs.lemmas.List.Elements.{All-nil, All-cons, All-get_or, All-set}
use Rattle.nm_base.specs.Geometry.{Geometry, IsGeometry, page_count}
use Rattle.nm_base.specs.Ranges.{IsPage}
use Rattle.nm_action.specs.Own.{Own}
use Rattle.nm_view.specs.Opening.{opening}
use Rattle.nm_view.specs.Views.{View}
use Rattle.nm_compose.specs.declared.or.Or.TheVariants.{This, Other}
use Rattle.nm_inspect.specs.declared.inspect.Inspected.{Inspected}
use Rattle.nm_inspect.specs.declared.inspect.Inspected.TheVariants as inspected
use Rattle.nm_part.specs.Patterns.{Sometimes, CanEnd}
use Rattle.nm_transfer.specs.Stages.{HoldsWords}
use Rattle.nm_vpages.specs.VPages.{vpages_of}
use Rattle.nm_worker.specs.declared.routine.Task.{Task}
use Rattle.nm_worker.specs.declared.routine.Task.TheVariants.{Run, Put, Take, Stop}
use Rattle.nm_worker.specs.declared.routine.Ended.{Ended}
use Rattle.nm_worker.specs.declared.routine.Ended.TheVariants as ended
use Rattle.nm_worker.specs.Notes.{Notes, IsTask}
use Rattle.nm_worker.specs.Routines.{task_data, IsTaskRun, IsStop, IsNextTask, IsTaskOver}
use Rattle.nm_worker.proofs.Routing.{run-follows}
use Rattle.nm_kswap.specs.declared.stage.Kept.{Kept}
use Rattle.nm_kswap.specs.declared.stage.Visit.{Visit}
use Rattle.nm_kswap.specs.declared.stage.Stage.{Stage}
use Rattle.nm_kswap.specs.declared.stage.Stage.TheVariants.{New, Asking, Counting, Inspecting, Demoting, Over}
use Rattle.nm_kswap.specs.declared.reclaiming.Reclaiming.{Reclaiming}
use Rattle.nm_kswap.specs.declared.work.ReclaimerPiece.{ReclaimerPiece}
use Rattle.nm_kswap.specs.Works.{ReclaimerWorkMade, ReclaimerWorkEnd, reclaimer_work_made, MayReclaimerWork, IsReclaimerWork, ReclaimerWorkLeaves, made_asking, made_level, made_inspect, made_demote}
use Rattle.nm_kswap.specs.Ends.{nothing_drawn, level_in, inspected_in, demoted_in, spent_in, frames_freed, reclaimer_counts}
use Rattle.nm_kswap.specs.Reclaiming.{Sequence, kept_at_first, IsReclaiming, hand_of, hand_moved, with_drawn, marks_of, has_any, has_vpage, Does}
use Rattle.nm_kswap.specs.Stages.{task_at, Going, to_stage, tier_stage, to_visit, to_demote, going_on, words_after, StageOn, StageLeft, TaskLeft}
use Rattle.nm_kswap.specs.Knowing.{IsResting, AreHands, IsVisit, IsStageOf, RunsWork, HasWords, IsEndAt, IsAble, IsNewReclaiming, KnowsReclaiming, ReclaimingLeft, IsNewTask, GivesTask}
use Rattle.nm_kswap.proofs.Lists.{left-can}
use Rattle.nm_kswap.proofs.Fitting.{going-fits}
use Rattle.nm_kswap.proofs.Resting.{IsOverIn, may-ask, may-level, may-inspect, may-demote, over-kind, over-runs, going-rests}

-- The task of a stage.

-- by the data of the pieces alone
abbrev pub NextIn : (View → Task ReclaimerWorkMade → Type 0) → (Ended ReclaimerWorkEnd → Sequence) → Sequence → Geometry → View → Task ReclaimerWorkMade → Type 0
NextIn knows left was g now (Run work) = MayReclaimerWork work g now × IsTaskRun (knows now (Run work)) (IsTask IsReclaimerWork reclaimer_counts g (Run work)) left was
NextIn knows left was g now Stop = IsStop (knows now Stop) tt was
NextIn knows left was g now task = ⊥

by-data : (is_new : ReclaimerPiece → Type 0) (knows : View → Task ReclaimerWorkMade → Type 0) (left : Ended ReclaimerWorkEnd → Sequence) (was : Sequence) (g : Geometry) (now : View) (task : Task ReclaimerPiece)
    → IsNewTask is_new task → NextIn knows left was g now (task_data reclaimer_work_made task) → IsNextTask reclaimer_work_made is_new MayReclaimerWork IsReclaimerWork reclaimer_counts knows left tt was g now task
by-data is_new knows left was g now (Run piece) fresh h = record { is_new = fresh; may_begin = h.0; run = h.1 }
by-data is_new knows left was g now (Put lane page) fresh h = absurd h
by-data is_new knows left was g now (Take lane) fresh h = absurd h
by-data is_new knows left was g now Stop fresh h = h

-- the number of rounds is told by what comes after a piece
does-some : (g : Geometry) (work : ReclaimerWorkMade) (after : ReclaimerWorkEnd → ℕ → Sequence) (notes : Notes) (outcome : Unit {0})
    → Does g work (λ end. Sometimes (after end)) notes outcome → Sometimes (λ rounds. Does g work (λ end. after end rounds)) notes outcome
does-some g work after notes outcome h = record { tries = h.rest.tries; is = record { end = h.end; front = h.front; back = h.back; shown = h.shown; rest = h.rest.is; is = h.is } }

task-can : (g : Geometry) (kept : Kept) (stage : Stage) (work : ReclaimerWorkMade) (notes : Notes) (end : Ended ReclaimerWorkEnd) → IsStageOf g stage → RunsWork stage → IsTask IsReclaimerWork reclaimer_counts g (Run work) notes end → CanEnd (TaskLeft g kept stage end)
task-can g kept stage work notes (ended.Run end) there runs done = left-can g kept stage end there runs
task-can g kept stage work notes (ended.Put full) there runs done = absurd done
task-can g kept stage work notes (ended.Take page) there runs done = absurd done

-- the piece of a stage runs
runs-piece : (g : Geometry) (kept : Kept) (stage : Stage) (work : ReclaimerWorkMade) (now : View) (knows : View → Task ReclaimerWorkMade → Type 0) (was : Sequence)
    → knows now (Run work) → IsStageOf g stage → RunsWork stage → MayReclaimerWork work g now
    → ((notes : Notes) (outcome : Unit {0}) → Sometimes (λ rounds. Does g work (λ end. StageLeft g kept stage end rounds)) notes outcome → was notes outcome)
    → NextIn knows (TaskLeft g kept stage) was g now (Run work)
runs-piece g kept stage work now knows was known there runs may fits = (
  may,
  record {
    known = known;
    can = λ notes end done. task-can g kept stage work notes end there runs done;
    fits = λ notes outcome f. fits notes outcome (does-some g work (StageLeft g kept stage) notes outcome (run-follows IsReclaimerWork reclaimer_counts g work (TaskLeft g kept stage) notes outcome f));
  },
)

next-at : (g : Geometry) (kept : Kept) (stage : Stage) (now : View) (knows : View → Task ReclaimerWorkMade → Type 0) (was : Sequence)
    → knows now (task_at g kept stage) → IsStageOf g stage → IsResting g kept.spent now
    → ((notes : Notes) (outcome : Unit {0}) → Sometimes (StageOn g kept stage) notes outcome → was notes outcome)
    → NextIn knows (TaskLeft g kept stage) was g now (task_at g kept stage)
next-at g kept New now knows was known there rests fits = absurd there
next-at g kept Asking now knows was known there rests fits =
    runs-piece g kept Asking (made_asking g) now knows was known tt tt (may-ask g kept.spent now rests) (λ notes outcome s. fits notes outcome (record { tries = suc s.tries; is = s.is }))
next-at g kept (Counting last tier) now knows was known there rests fits =
    runs-piece g kept (Counting last tier) (made_level g tier) now knows was known there tt (may-level g tier kept.spent now (omega (arith, there)) rests) fits
next-at g kept (Inspecting visit) now knows was known there rests fits =
    runs-piece g kept (Inspecting visit) (made_inspect g visit.page visit.tier) now knows was known there tt (may-inspect g visit.page visit.tier kept.spent now rests) fits
next-at g kept (Demoting visit) now knows was known there rests fits =
    runs-piece g kept (Demoting visit) (made_demote g visit.page kept.spent) now knows was known there tt (may-demote g visit.page kept.spent now there.page rests) fits
next-at g kept Over now knows was known there rests fits = record { known = known; ended = fits [] tt (record { tries = 0; is = record { none = refl; is = refl } }) }

-- the task that the routine gives at its stage comes next
pub gives-task : (is_new : ReclaimerPiece → Type 0) (r : Reclaiming) (g : Geometry) (kept : Kept) (stage : Stage) (task : Task ReclaimerPiece) (now : View) (was : Sequence)
    → r.geometry.now ≡ g → r.kept ≡ kept → r.stage ≡ stage → AreHands g kept.hands → IsStageOf g stage → HasWords stage r.taken
    → task_data reclaimer_work_made task ≡ task_at g kept stage → IsNewTask is_new task → IsResting g kept.spent now
    → ((notes : Notes) (outcome : Unit {0}) → Sometimes (StageOn g kept stage) notes outcome → was notes outcome)
    → IsNextTask reclaimer_work_made is_new MayReclaimerWork IsReclaimerWork reclaimer_counts (KnowsReclaiming r) (ReclaimingLeft r) tt was g now task
gives-task is_new r g kept stage task now was geometry-is kept-is stage-is hands there words told fresh rests fits =
    let L : Geometry → Kept → Stage → Type 0 = λ h k s. NextIn (KnowsReclaiming r) (TaskLeft h k s) was g now (task_data reclaimer_work_made task) in
    let D : Task ReclaimerWorkMade → Type 0 = λ t. NextIn (KnowsReclaiming r) (TaskLeft g kept stage) was g now t in
    let able : IsAble r = record {
      hands = subst (λ (h : Geometry). AreHands h r.kept.hands) (sym geometry-is) (subst (λ (k : Kept). AreHands g k.hands) (sym kept-is) hands);
      stage = subst (λ (h : Geometry). IsStageOf h r.stage) (sym geometry-is) (subst (λ (s : Stage). IsStageOf g s) (sym stage-is) there);
      words = subst (λ (s : Stage). HasWords s r.taken) (sym stage-is) words;
    } in
    let resting : IsResting r.geometry.now r.kept.spent now = subst (λ (h : Geometry). IsResting h r.kept.spent now) (sym geometry-is) (subst (λ (k : Kept). IsResting g k.spent now) (sym kept-is) rests) in
    let task-is : task_at g kept stage ≡ task_at r.geometry.now r.kept r.stage = λ i. task_at (sym geometry-is i) (sym kept-is i) (sym stage-is i) in
    let known : KnowsReclaiming r now (task_at g kept stage) = record { is = task-is; able = able; resting = resting } in
    let next = next-at g kept stage now (KnowsReclaiming r) was known there rests fits in
    let here : L g kept stage = subst D (sym told) next in
    by-data is_new (KnowsReclaiming r) (ReclaimingLeft r) was g now task fresh
    (subst (λ (h : Geometry). L h r.kept r.stage) (sym geometry-is) (subst (λ (k : Kept). L g k r.stage) (sym kept-is) (subst (λ (s : Stage). L g kept s) (sym stage-is) here)))

-- A task is over.

over-data : (ends : ReclaimerPiece → Geometry → Own → ReclaimerWorkEnd → Type 0) (g : Geometry) (now later : View) (task : Task ReclaimerPiece) (end : ReclaimerWorkEnd)
    → IsTaskOver reclaimer_work_made IsReclaimerWork ReclaimerWorkLeaves ends g now later task (ended.Run end) → IsOverIn (task_data reclaimer_work_made task) g now later end
over-data ends g now later (Run piece) end h = record { own = h.own; shown = h.shown; left = h.left }
over-data ends g now later (Put lane page) end h = absurd h
over-data ends g now later (Take lane) end h = absurd h
over-data ends g now later Stop end h = absurd h

-- the piece of the stage is over
pub over-at : (ends : ReclaimerPiece → Geometry → Own → ReclaimerWorkEnd → Type 0) (r : Reclaiming) (now later : View) (task : Task ReclaimerPiece) (end : ReclaimerWorkEnd)
    → KnowsReclaiming r now (task_data reclaimer_work_made task) → IsTaskOver reclaimer_work_made IsReclaimerWork ReclaimerWorkLeaves ends r.geometry.now now later task (ended.Run end)
    → IsOverIn (task_at r.geometry.now r.kept r.stage) r.geometry.now now later end
over-at ends r now later task end known over =
    let D : Task ReclaimerWorkMade → Type 0 = λ t. IsOverIn t r.geometry.now now later end in
    subst D known.is (over-data ends r.geometry.now now later task end over)

abbrev IsNotLane : Task ReclaimerPiece → Type 0
IsNotLane (Run piece) = Unit {0}
IsNotLane (Put lane page) = ⊥
IsNotLane (Take lane) = ⊥
IsNotLane Stop = Unit {0}

abbrev pub IsRunEnd : Ended ReclaimerWorkEnd → Type 0
IsRunEnd (ended.Run end) = Unit {0}
IsRunEnd (ended.Put full) = ⊥
IsRunEnd (ended.Take page) = ⊥

no-put : (g : Geometry) (kept : Kept) (stage : Stage) (task : Task ReclaimerPiece) → task_data reclaimer_work_made task ≡ task_at g kept stage → IsNotLane task
no-put g kept stage (Run piece) is = tt
no-put g kept stage Stop is = tt
no-put g kept New (Put lane page) is = cc
no-put g kept Asking (Put lane page) is = cc
no-put g kept (Counting last tier) (Put lane page) is = cc
no-put g kept (Inspecting visit) (Put lane page) is = cc
no-put g kept (Demoting visit) (Put lane page) is = cc
no-put g kept Over (Put lane page) is = cc
no-put g kept New (Take lane) is = cc
no-put g kept Asking (Take lane) is = cc
no-put g kept (Counting last tier) (Take lane) is = cc
no-put g kept (Inspecting visit) (Take lane) is = cc
no-put g kept (Demoting visit) (Take lane) is = cc
no-put g kept Over (Take lane) is = cc

-- it ended as a piece of work ends
ends-run : (ends : ReclaimerPiece → Geometry → Own → ReclaimerWorkEnd → Type 0) (g : Geometry) (now later : View) (task : Task ReclaimerPiece) (end : Ended ReclaimerWorkEnd) → IsNotLane task
    → IsTaskOver reclaimer_work_made IsReclaimerWork ReclaimerWorkLeaves ends g now later task end → IsRunEnd end
ends-run ends g now later task (ended.Run end) piece h = tt
ends-run ends g now later (Run p) (ended.Put full) piece h = absurd h
ends-run ends g now later (Put lane page) (ended.Put full) piece h = absurd piece
ends-run ends g now later (Take lane) (ended.Put full) piece h = absurd h
ends-run ends g now later Stop (ended.Put full) piece h = absurd h
ends-run ends g now later (Run p) (ended.Take page) piece h = absurd h
ends-run ends g now later (Put lane b) (ended.Take page) piece h = absurd h
ends-run ends g now later (Take lane) (ended.Take page) piece h = absurd piece
ends-run ends g now later Stop (ended.Take page) piece h = absurd h

pub runs-over : (ends : ReclaimerPiece → Geometry → Own → ReclaimerWorkEnd → Type 0) (r : Reclaiming) (now later : View) (task : Task ReclaimerPiece) (end : Ended ReclaimerWorkEnd)
    → KnowsReclaiming r now (task_data reclaimer_work_made task) → IsTaskOver reclaimer_work_made IsReclaimerWork ReclaimerWorkLeaves ends r.geometry.now now later task end → IsRunEnd end
runs-over ends r now later task end known over = ends-run ends r.geometry.now now later task end (no-put r.geometry.now r.kept r.stage task known.is) over

-- What may come next.

pub moved-hands : (g : Geometry) (tier : ℕ) (kept : Kept) → IsGeometry g → AreHands g kept.hands → AreHands g (hand_moved g tier kept).hands
moved-hands g tier kept fine hands =
    let some : 1 ≤ page_count g = fine.ranges.3.1 in
    record {
      size = length-set kept.hands tier _ ∙ hands.size;
      within = All-set (IsPage g) kept.hands tier _ (mod_below (hand_of tier kept + 1) (page_count g) some) hands.within;
    }

tier-of : (g : Geometry) (last : Bool) (tier : ℕ) (more : Bool) → nat_lt (tier + 1) (length g.tiers) ≡ more → IsStageOf g (if more then Counting last tier else (if last then Over else Asking))
tier-of g last tier true is = grind (arith, is)
tier-of g true tier false is = tt
tier-of g false tier false is = tt

tier-there : (g : Geometry) (last : Bool) (tier : ℕ) → IsStageOf g (tier_stage g last tier)
tier-there g last tier = tier-of g last tier (nat_lt (tier + 1) (length g.tiers)) refl

some-there : (pages : List ℕ) → has_any pages ≡ true → pages ≢ []
some-there [] some none = cc
some-there (v ∷ vs) some none = cc

-- what is kept and the stage are in range
pub record IsGoing (g : Geometry) (going : Going) : Type 0 where
  pub hands : AreHands g going.kept.hands
  pub stage : IsStageOf g going.stage

visit-by : (g : Geometry) (last : Bool) (tier level left : ℕ) (kept : Kept) (below some : Bool) → IsGeometry g → tier + 1 < length g.tiers → AreHands g kept.hands
    → nat_lt level (marks_of g tier).high ≡ below → has_vpage g (hand_of tier kept) ≡ some → IsGoing g (to_visit g last tier level left (hand_moved g tier kept))
    → IsGoing g (if below then (if some then to_stage (Inspecting (record { last = last; tier = tier; level = level; page = hand_of tier kept; left = left })) (hand_moved g tier kept) else to_visit g last tier level left (hand_moved g tier kept)) else to_stage (tier_stage g last (tier + 1)) kept)
visit-by g last tier level left kept true true fine there hands low some later =
    let few = fine.ranges.1.1 in
    record {
      hands = moved-hands g tier kept fine hands;
      stage = record {
        tier = there;
        low = grind (arith, low);
        page = All-get_or (IsPage g) kept.hands tier 0 (omega (arith, there, few, hands.size)) hands.within;
        some = some-there (vpages_of g (hand_of tier kept)) some;
      };
    }
visit-by g last tier level left kept true false fine there hands low some later = later
visit-by g last tier level left kept false found fine there hands low some later = record { hands = hands; stage = tier-there g last (tier + 1) }

pub visit-going : (g : Geometry) (last : Bool) (tier level left : ℕ) (kept : Kept) → IsGeometry g → tier + 1 < length g.tiers → AreHands g kept.hands → IsGoing g (to_visit g last tier level left kept)
visit-going g last tier level zero kept fine there hands = record { hands = hands; stage = tier-there g last (tier + 1) }
visit-going g last tier level (suc left) kept fine there hands =
    visit-by g last tier level left kept (nat_lt level (marks_of g tier).high) (has_vpage g (hand_of tier kept)) fine there hands refl refl
    (visit-going g last tier level left (hand_moved g tier kept) fine there (moved-hands g tier kept fine hands))

level-going : (g : Geometry) (last : Bool) (tier level : ℕ) (kept : Kept) (low : Bool) → IsGeometry g → tier + 1 < length g.tiers → AreHands g kept.hands
    → IsGoing g (if low then to_visit g last tier level (page_count g) kept else to_stage (tier_stage g last (tier + 1)) kept)
level-going g last tier level kept true fine there hands = visit-going g last tier level (page_count g) kept fine there hands
level-going g last tier level kept false fine there hands = record { hands = hands; stage = tier-there g last (tier + 1) }

found-going : (g : Geometry) (visit : Visit) (kept : Kept) (found : Inspected) → IsGeometry g → IsVisit g visit → AreHands g kept.hands → IsGoing g (to_demote g visit kept found)
found-going g visit kept inspected.Elsewhere fine there hands = visit-going g visit.last visit.tier visit.level visit.left kept fine there.tier hands
found-going g visit kept inspected.InUse fine there hands = visit-going g visit.last visit.tier visit.level visit.left kept fine there.tier hands
found-going g visit kept inspected.Idle fine there hands = record { hands = hands; stage = there }

pub going-there : (g : Geometry) (kept : Kept) (stage : Stage) (end : ReclaimerWorkEnd) → IsGeometry g → IsStageOf g stage → RunsWork stage → AreHands g kept.hands → IsGoing g (going_on g kept stage end)
going-there g kept New end fine there runs hands = absurd runs
going-there g kept Asking end fine there runs hands = record { hands = hands; stage = tier-there g _ 0 }
going-there g kept (Counting last tier) end fine there runs hands = level-going g last tier (level_in end) kept (nat_le (level_in end) (marks_of g tier).low) fine there hands
going-there g kept (Inspecting visit) end fine there runs hands = found-going g visit kept (inspected_in end) fine there hands
going-there g kept (Demoting visit) end fine there runs hands = visit-going g visit.last visit.tier (visit.level + frames_freed (demoted_in end)) visit.left (with_drawn (spent_in end) kept) fine there.tier hands
going-there g kept Over end fine there runs hands = absurd runs

-- the list for taken words is there after a piece
pub going-words : (stage : Stage) (end : ReclaimerWorkEnd) (taken : Option (List (ℕ × ℕ))) → IsEndAt stage end → HasWords stage taken → HoldsWords (words_after stage end taken)
going-words New end taken kind words = absurd kind
going-words Asking end taken kind words = words
going-words (Counting last tier) end taken kind words = words
going-words (Inspecting visit) end taken kind words = words
going-words (Demoting visit) (This all) taken kind words = absurd kind
going-words (Demoting visit) (Other (This end)) taken kind words = absurd kind
going-words (Demoting visit) (Other (Other (This found))) taken kind words = absurd kind
going-words (Demoting visit) (Other (Other (Other told))) taken kind words = tt
going-words Over end taken kind words = absurd kind

-- The steps of the routine.

fresh-hands : (g : Geometry) → IsGeometry g → AreHands g kept_at_first.hands
fresh-hands g fine =
    let some : 1 ≤ page_count g = fine.ranges.3.1 in
    let at : IsPage g 0 = omega (arith, some) in
    record { size = refl; within = All-cons (IsPage g) 0 (0 ∷ 0 ∷ []) at (All-cons (IsPage g) 0 (0 ∷ []) at (All-cons (IsPage g) 0 [] at (All-nil (IsPage g)))) }

opening-rests : (g : Geometry) (number : ℕ) → IsGeometry g → IsResting g nothing_drawn (opening g number)
opening-rests g number fine = record { geometry = fine; empty = record { ops = refl; owned = refl; turn = refl }; drawn = record { bumps = refl; raises = refl } }

-- the first task
pub first-task : (is_new : ReclaimerPiece → Type 0) (old new : Reclaiming) (result : Task ReclaimerPiece) (number : ℕ)
    → IsNewReclaiming old → new.geometry.now ≡ old.geometry.now → new.kept ≡ old.kept → new.stage ≡ Asking → HasWords Asking new.taken
    → task_data reclaimer_work_made result ≡ task_at old.geometry.now old.kept Asking → IsNewTask is_new result
    → GivesTask is_new new result (IsReclaiming old.geometry.now) old.geometry.now (opening old.geometry.now number)
first-task is_new old new result number fresh geometry kept stage words told made =
    gives-task is_new new old.geometry.now kept_at_first Asking result (opening old.geometry.now number) (IsReclaiming old.geometry.now) geometry (kept ∙ fresh.fresh) stage
    (fresh-hands old.geometry.now fresh.geometry) tt words told made (opening-rests old.geometry.now number fresh.geometry) (λ notes outcome s. s)

-- the task after one that is over
pub next-task : (is_new : ReclaimerPiece → Type 0) (ends : ReclaimerPiece → Geometry → Own → ReclaimerWorkEnd → Type 0) (old mid new : Reclaiming) (stage : Stage) (task result : Task ReclaimerPiece) (given : Ended ReclaimerWorkEnd) (end : ReclaimerWorkEnd) (now later : View)
    → given ≡ ended.Run end
    → stage ≡ (going_on old.geometry.now old.kept old.stage end).stage → mid.kept ≡ (going_on old.geometry.now old.kept old.stage end).kept → mid.geometry.now ≡ old.geometry.now
    → new.geometry.now ≡ mid.geometry.now → new.kept ≡ mid.kept → new.stage ≡ stage → HasWords stage new.taken
    → task_data reclaimer_work_made result ≡ task_at mid.geometry.now mid.kept stage → IsNewTask is_new result
    → KnowsReclaiming old now (task_data reclaimer_work_made task) → IsTaskOver reclaimer_work_made IsReclaimerWork ReclaimerWorkLeaves ends old.geometry.now now later task given
    → GivesTask is_new new result (ReclaimingLeft old given) old.geometry.now later
next-task is_new ends old mid new stage task result given end now later so stage-is kept-is mid-is new-is same at words told made known over =
    let g : Geometry = old.geometry.now in
    let going : Going = going_on g old.kept old.stage end in
    let O : Ended ReclaimerWorkEnd → Type 0 = λ e. IsTaskOver reclaimer_work_made IsReclaimerWork ReclaimerWorkLeaves ends g now later task e in
    let piece = over-at ends old now later task end known (subst O so over) in
    let runs : RunsWork old.stage = over-runs g old.kept old.stage now later end piece in
    let there : IsGoing g going = going-there g old.kept old.stage end known.resting.geometry known.able.stage runs known.able.hands in
    let W : Stage → Type 0 = λ s. HasWords s new.taken in
    let task-is : task_at mid.geometry.now mid.kept stage ≡ task_at g going.kept going.stage = λ i. task_at (mid-is i) (kept-is i) (stage-is i) in
    let G : Ended ReclaimerWorkEnd → Type 0 = λ e. GivesTask is_new new result (ReclaimingLeft old e) g later in
    subst G (sym so) (gives-task is_new new g going.kept going.stage result later (ReclaimingLeft old (ended.Run end)) (new-is ∙ mid-is) (same ∙ kept-is) (at ∙ stage-is)
    there.hands there.stage (subst W stage-is words) (told ∙ task-is) made (going-rests g old.kept old.stage now later end piece known.resting)
    (λ notes outcome s. record { tries = s.tries; is = going-fits g old.kept old.stage end s.tries notes outcome runs s.is }))

-- a task is over: what the routine may do then

pub over-able : (ends : ReclaimerPiece → Geometry → Own → ReclaimerWorkEnd → Type 0) (old : Reclaiming) (task : Task ReclaimerPiece) (given : Ended ReclaimerWorkEnd) (end : ReclaimerWorkEnd) (now later : View) → given ≡ ended.Run end
    → KnowsReclaiming old now (task_data reclaimer_work_made task) → IsTaskOver reclaimer_work_made IsReclaimerWork ReclaimerWorkLeaves ends old.geometry.now now later task given → IsEndAt old.stage end
over-able ends old task given end now later so known over =
    let O : Ended ReclaimerWorkEnd → Type 0 = λ e. IsTaskOver reclaimer_work_made IsReclaimerWork ReclaimerWorkLeaves ends old.geometry.now now later task e in
    over-kind old.geometry.now old.kept old.stage now later end (over-at ends old now later task end known (subst O so over))

pub over-stage : (ends : ReclaimerPiece → Geometry → Own → ReclaimerWorkEnd → Type 0) (old mid : Reclaiming) (stage : Stage) (task : Task ReclaimerPiece) (given : Ended ReclaimerWorkEnd) (end : ReclaimerWorkEnd) (now later : View) → given ≡ ended.Run end
    → stage ≡ (going_on old.geometry.now old.kept old.stage end).stage → mid.geometry.now ≡ old.geometry.now
    → KnowsReclaiming old now (task_data reclaimer_work_made task) → IsTaskOver reclaimer_work_made IsReclaimerWork ReclaimerWorkLeaves ends old.geometry.now now later task given → IsStageOf mid.geometry.now stage
over-stage ends old mid stage task given end now later so stage-is mid-is known over =
    let g : Geometry = old.geometry.now in
    let O : Ended ReclaimerWorkEnd → Type 0 = λ e. IsTaskOver reclaimer_work_made IsReclaimerWork ReclaimerWorkLeaves ends g now later task e in
    let piece = over-at ends old now later task end known (subst O so over) in
    let there = going-there g old.kept old.stage end known.resting.geometry known.able.stage (over-runs g old.kept old.stage now later end piece) known.able.hands in
    subst (λ (h : Geometry). IsStageOf h stage) (sym mid-is) (subst (IsStageOf g) (sym stage-is) there.stage)

pub over-words : (ends : ReclaimerPiece → Geometry → Own → ReclaimerWorkEnd → Type 0) (old : Reclaiming) (taken : Option (List (ℕ × ℕ))) (task : Task ReclaimerPiece) (given : Ended ReclaimerWorkEnd) (end : ReclaimerWorkEnd) (now later : View) → given ≡ ended.Run end
    → taken ≡ words_after old.stage end old.taken
    → KnowsReclaiming old now (task_data reclaimer_work_made task) → IsTaskOver reclaimer_work_made IsReclaimerWork ReclaimerWorkLeaves ends old.geometry.now now later task given → HoldsWords taken
over-words ends old taken task given end now later so is known over =
    subst HoldsWords (sym is) (going-words old.stage end old.taken (over-able ends old task given end now later so known over) known.able.words)

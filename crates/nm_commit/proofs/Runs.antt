-- The pieces of the decision, each at its stage.
use Rattle.std.proofs.Common.{◌≡◌, Some, refl, ap}
use Rattle.nm_base.specs.Geometry.{Geometry}
use Rattle.nm_base.specs.PageWord.{is_dirty}
use Rattle.nm_action.specs.declared.action.Action.{Action}
use Rattle.nm_action.specs.declared.action.Action.TheVariants.{Unlock, Map, SetHome, SetShadow, Mark, Read}
use Rattle.nm_action.specs.declared.action.Cell.TheVariants as cells
use Rattle.nm_action.specs.declared.action.Reply.{Reply}
use Rattle.nm_action.specs.declared.action.Reply.TheVariants.{Done, Word, Busy, Lost}
use Rattle.nm_action.specs.Own.{Own}
use Rattle.nm_step.specs.Table.{IsDone}
use Rattle.nm_view.specs.Views.{View}
use Rattle.nm_permit.specs.Permitted.{Allowed}
use Rattle.nm_part.specs.Parts.{IsQuiet}
use Rattle.nm_part.specs.Patterns.{Ends, Follows, CanEnd}
use Rattle.nm_part.proofs.Patterns.{can-ends, can-follow, can-either}
use Rattle.nm_compose.specs.Acts.{IsAct, IsActed}
use Rattle.nm_compose.specs.Plans.{IsPieceRun, IsOver}
use Rattle.nm_compose.specs.declared.or.Or.TheVariants.{This, Other}
use Rattle.nm_compose.proofs.Acting.{some-act}
use Rattle.nm_compose.proofs.Choosing.{this-follows, other-follows}
use Rattle.nm_pool.specs.Pool.{IsPool}
use Rattle.nm_pool.specs.Given.{MayBegin, Leaves}
use Rattle.nm_pool.specs.declared.job.PoolJob.TheVariants.{Back}
use Rattle.nm_pool.specs.declared.job.PoolMade.{PoolMade}
use Rattle.nm_pool.specs.declared.job.PoolEnd.{PoolEnd}
use Rattle.nm_prepare.specs.Placing.{IsPlanPlaced, RunsPlaced}
use Rattle.nm_prepare.proofs.Placed.{at-placed, run-placed}
use Rattle.nm_prepare.proofs.Ending.{some-back}
use Rattle.nm_commit.specs.declared.decide.Decide.{Decide}
use Rattle.nm_commit.specs.declared.decide.DecideMade.{DecideMade}
use Rattle.nm_commit.specs.declared.decide.DecideStage.{DecideStage}
use Rattle.nm_commit.specs.declared.decide.Decided.{Decided}
use Rattle.nm_commit.specs.declared.decide.Decided.TheVariants.{Committed, Aborted}
use Rattle.nm_commit.specs.Deciding.{moved_word, UnlocksPage, Marks, Maps, Shades, ReadsShadowWord, Commits, GivesBack, UnlocksOld, Aborts, IsDeciding, IsDecision}
use Rattle.nm_commit.specs.Stages.{DecideParts, DecideEnd, MayDecidePiece, IsDecidePiece, DecideLeaves, after_action, after_task, decide_piece, decide_left, DecideKnown}

-- Each pattern has a list, last first.

pub can-unlocks : (g : Geometry) (made : DecideMade) → CanEnd (UnlocksPage g made)
can-unlocks g made = can-follow (IsAct (Unlock made.page) g) (λ unlocked. Ends Committed) (some-act (Unlock made.page) g) (can-ends Committed)

pub can-marks : (g : Geometry) (made : DecideMade) → CanEnd (Marks g made)
can-marks g made = can-follow (IsAct (Mark made.page 2 0) g) (λ marked. UnlocksPage g made) (some-act (Mark made.page 2 0) g) (can-unlocks g made)

pub can-maps : (g : Geometry) (made : DecideMade) → CanEnd (Maps g made)
can-maps g made = can-follow (IsAct (Map made.vpage (moved_word g made.frame made.word)) g) (λ mapped. Marks g made) (some-act (Map made.vpage (moved_word g made.frame made.word)) g) (can-marks g made)

pub can-shades : (g : Geometry) (made : DecideMade) → CanEnd (Shades g made)
can-shades g made = can-follow (IsAct (SetShadow made.page made.frame (Some made.home)) g) (λ set. Maps g made) (some-act (SetShadow made.page made.frame (Some made.home)) g) (can-maps g made)

pub can-reads : (g : Geometry) (made : DecideMade) → CanEnd (ReadsShadowWord g made)
can-reads g made = can-follow (IsAct (Read made.page (cells.Shadow made.frame)) g) (λ reply. Shades g made) (some-act (Read made.page (cells.Shadow made.frame)) g) (can-shades g made)

pub can-commits : (g : Geometry) (made : DecideMade) → CanEnd (Commits g made)
can-commits g made = can-follow (IsAct (SetHome made.page made.frame) g) (λ set. ReadsShadowWord g made) (some-act (SetHome made.page made.frame) g) (can-reads g made)

pub can-gives-back : (g : Geometry) (made : DecideMade) → CanEnd (GivesBack g made)
can-gives-back g made = can-follow (IsPool g (Back made.frame)) (λ back. Ends (Aborted made.word)) (some-back g made.frame) (can-ends (Aborted made.word))

pub can-unlocks-old : (g : Geometry) (made : DecideMade) → CanEnd (UnlocksOld g made)
can-unlocks-old g made = can-follow (IsAct (Unlock made.page) g) (λ unlocked. GivesBack g made) (some-act (Unlock made.page) g) (can-gives-back g made)

pub can-aborts : (g : Geometry) (made : DecideMade) → CanEnd (Aborts g made)
can-aborts g made = can-follow (IsAct (Map made.vpage made.word) g) (λ mapped. UnlocksOld g made) (some-act (Map made.vpage made.word) g) (can-unlocks-old g made)

-- the pattern has a list
pub some-deciding : (made : DecideMade) (g : Geometry) → CanEnd (IsDeciding made g)
some-deciding made g = can-either (is_dirty made.word) (Aborts g made) (Commits g made) (can-aborts g made) (can-commits g made)

-- The two sorts of pieces.

abbrev TaskShape : PoolMade → Geometry → Own → PoolEnd → Type 0
TaskShape made g own end = IsPool g made.job own end

can-act : (action : Action) (g : Geometry) (own : Own) (end : DecideEnd) (after : Own → Decided → Type 0) → IsDecidePiece (This action) g own end → CanEnd after → CanEnd (after_action after end)
can-act action g own (This reply) after shown can = can
can-act action g own (Other end) after shown can = absurd shown

can-task : (made : PoolMade) (g : Geometry) (own : Own) (end : DecideEnd) (after : Own → Decided → Type 0) → IsDecidePiece (Other made) g own end → CanEnd after → CanEnd (after_task after end)
can-task made g own (This reply) after shown can = absurd shown
can-task made g own (Other end) after shown can = can

-- an action runs
pub decide-act : (knows : Geometry → View → View → DecideParts → Type 0) (after : Geometry → Own → Decided → Type 0) (action : Action) (g : Geometry) (first now : View)
    → IsQuiet action → Allowed g now action → knows g first now (This action) → CanEnd (after g)
    → IsPieceRun MayDecidePiece IsDecidePiece knows (λ g. after_action (after g)) (Follows (IsAct action g) (λ reply. after g)) (This action) g first now
decide-act knows after action g first now quiet allowed known can = record {
  begin = record { quiet = quiet; allowed = allowed };
  known = known;
  can = λ own end shown. can-act action g own end (after g) shown can;
  fits = λ own outcome f. this-follows IsAct TaskShape (after_action (after g)) action g own outcome f;
}

-- a task runs
pub decide-task : (knows : Geometry → View → View → DecideParts → Type 0) (after : Geometry → Own → Decided → Type 0) (made : PoolMade) (g : Geometry) (first now : View)
    → MayBegin made g now → knows g first now (Other made) → CanEnd (after g)
    → IsPieceRun MayDecidePiece IsDecidePiece knows (λ g. after_task (after g)) (Follows (IsPool g made.job) (λ end. after g)) (Other made) g first now
decide-task knows after made g first now may known can = record {
  begin = may;
  known = known;
  can = λ own end shown. can-task made g own end (after g) shown can;
  fits = λ own outcome f. other-follows IsAct TaskShape (after_task (after g)) made g own outcome f;
}

-- The steps.

abbrev pub RunsDecide : DecideMade → DecideStage → (Own → Decided → Type 0) → Geometry → View → View → Type 0
RunsDecide = RunsPlaced MayDecidePiece IsDecidePiece decide_piece decide_left DecideKnown

abbrev pub AtDecide : Decide → Geometry → View → View → DecideParts → Type 0
AtDecide s = IsPlanPlaced decide_piece DecideKnown s.geometry.now s.made s.stage

abbrev pub GivesDecide : Decide → DecideParts → (Own → Decided → Type 0) → Geometry → View → View → Type 0
GivesDecide new runs was g first now = IsPieceRun MayDecidePiece IsDecidePiece (AtDecide new) (decide_left new.made new.stage) was runs g first now

abbrev pub IsDecideOver : Decide → (Own → Decided → Type 0) → Geometry → View → View → Decided → Type 0
IsDecideOver old was g first now outcome = IsOver was (λ g view outcome left. IsDecision old.made view left) (λ g outcome. Unit {0}) g first now outcome

-- as the plan comes to a stage
pub gives-decide : (old new : Decide) (next : DecideStage) (runs : DecideParts) (was : Own → Decided → Type 0) (g : Geometry) (first now : View)
    → old.geometry.now ≡ g → new ≡ record old { stage = next } → runs ≡ decide_piece old.geometry.now old.made next → RunsDecide old.made next was g first now → GivesDecide new runs was g first now
gives-decide old new next runs was g first now geometry is acts run =
    run-placed MayDecidePiece IsDecidePiece decide_piece decide_left DecideKnown was old.geometry.now new.geometry.now old.made new.made next new.stage runs g first now
    geometry (ap (λ (s : Decide). s.geometry.now) is) (ap (λ (s : Decide). s.made) is) (ap (λ (s : Decide). s.stage) is) acts run

abbrev pub DecideEnds : Own → DecideParts → Geometry → View → DecideEnd → View → Type 0
DecideEnds own runs g now end later = DecideLeaves runs g now end later × IsDecidePiece runs g own end

-- after a piece: shown at its stage, for its end
pub step-decide : (old new : Decide) (here next : DecideStage) (end : DecideEnd) (runs given : DecideParts) (g : Geometry) (first now later : View) (own : Own)
    → old.stage ≡ here → AtDecide old g first now runs → DecideLeaves runs g now end later → IsDecidePiece runs g own end
    → new ≡ record old { stage = next } → given ≡ decide_piece old.geometry.now old.made next
    → (DecideKnown old.made here g first now → DecideEnds own (decide_piece g old.made here) g now end later → RunsDecide old.made next (decide_left old.made here g end) g first later)
    → GivesDecide new given (decide_left old.made old.stage g end) g first later
step-decide old new here next end runs given g first now later own at placed left shown is acts show =
    at-placed decide_piece DecideKnown (DecideEnds own) (λ stage end. GivesDecide new given (decide_left old.made stage g end) g first later) old.geometry.now old.made old.stage here end end g first now later runs at refl placed (left, shown)
    (λ k a. gives-decide old new next given (decide_left old.made here g end) g first later placed.geometry is acts (show k a))

-- after a piece, the end
pub over-decide : (old : Decide) (here : DecideStage) (end : DecideEnd) (runs : DecideParts) (outcome : Decided) (g : Geometry) (first now later : View) (own : Own)
    → old.stage ≡ here → AtDecide old g first now runs → DecideLeaves runs g now end later → IsDecidePiece runs g own end
    → (DecideKnown old.made here g first now → DecideEnds own (decide_piece g old.made here) g now end later → IsDecideOver old (decide_left old.made here g end) g first later outcome)
    → IsDecideOver old (decide_left old.made old.stage g end) g first later outcome
over-decide old here end runs outcome g first now later own at placed left shown show =
    at-placed decide_piece DecideKnown (DecideEnds own) (λ stage end. IsDecideOver old (decide_left old.made stage g end) g first later outcome) old.geometry.now old.made old.stage here end end g first now later runs at refl placed (left, shown) show

-- after an action, whatever its reply is
pub by-action : (action : Action) (g : Geometry) (now later : View) (own : Own) (goal : DecideEnd → Type 0) (end : DecideEnd) → DecideEnds own (This action) g now end later → ((reply : Reply) → IsActed g now action reply later → goal (This reply)) → goal end
by-action action g now later own goal (This reply) ends show = show reply ends.0
by-action action g now later own goal (Other end) ends show = absurd ends.0

-- after a task
pub by-job : (made : PoolMade) (g : Geometry) (now later : View) (own : Own) (goal : DecideEnd → Type 0) (end : DecideEnd) → DecideEnds own (Other made) g now end later → ((end : PoolEnd) → Leaves g made.job now end later → IsPool g made.job own end → goal (Other end)) → goal end
by-job made g now later own goal (This reply) ends show = absurd ends.0
by-job made g now later own goal (Other end) ends show = show end ends.0 ends.1

-- a put answers Done
pub done-acted : (action : Action) (g : Geometry) (now later : View) (reply : Reply) → IsDone reply → IsActed g now action reply later → IsActed g now action Done later
done-acted action g now later Done kind acted = acted
done-acted action g now later (Word w) kind acted = absurd kind
done-acted action g now later (Busy w) kind acted = absurd kind
done-acted action g now later (Lost w) kind acted = absurd kind

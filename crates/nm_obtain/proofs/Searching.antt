-- The steps of the search for a frame.
use Rattle.std.proofs.Common.{◌≡◌, ◌≢◌, ℕ, Option, Some, None, All, refl, sym, ap, ◌∙◌, subst}
use Rattle.nm_base.specs.Geometry.{Geometry}
use Rattle.nm_base.specs.Ranges.{IsTier}
use Rattle.nm_base.specs.HomeWord.{home_word}
use Rattle.nm_action.specs.Own.{Own}
use Rattle.nm_view.specs.declared.view.Fill.TheVariants.{Raw}
use Rattle.nm_view.specs.Views.{Op, View}
use Rattle.nm_view.specs.Opening.{unscanned}
use Rattle.nm_event.specs.After.{owning}
use Rattle.nm_part.specs.Patterns.{Follows, CanEnd}
use Rattle.nm_part.proofs.Patterns.{ends-now, over-at-once, can-ends, can-follow}
use Rattle.nm_compose.specs.Plans.{IsNewRun, IsOver}
use Rattle.nm_compose.specs.Stages.{IsPieceAt, RunsAt}
use Rattle.nm_compose.specs.declared.or.Or.TheVariants.{This, Other}
use Rattle.nm_compose.proofs.Choosing.{this-follows, other-follows}
use Rattle.nm_compose.proofs.Staging.{by-stage, runs-new}
use Rattle.nm_pool.specs.Pool.{IsPool}
use Rattle.nm_pool.specs.Given.{pool_made, MayBegin, Leaves, released}
use Rattle.nm_pool.specs.declared.job.PoolEnd.{PoolEnd}
use Rattle.nm_pool.specs.declared.job.PoolEnd.TheVariants as pools
use Rattle.nm_pool.specs.declared.job.PoolJob.TheVariants.{Take}
use Rattle.nm_pool.proofs.Begun.{some-pool}
use Rattle.nm_reclaim.specs.Reclaims.{pages_visited, IsReclaim}
use Rattle.nm_reclaim.specs.Swept.{MayReclaim, IsSwept}
use Rattle.nm_reclaim.specs.Sweeping.{SweptMade, IsSweep}
use Rattle.nm_reclaim.specs.Tasks.{first_visited, TaskMade, MayTask, IsSweepFor}
use Rattle.nm_reclaim.proofs.Ending.{can-visits}
use Rattle.nm_reclaim.proofs.Forgetting.{swept-after, forgotten-unowned}
use Rattle.nm_reclaim.proofs.Tasks.{sweep-is, may-sweep, nothing-done}
use Rattle.nm_reclaim.proofs.Views.{forgets-none}
use Rattle.nm_obtain.specs.declared.obtain.Obtain.{Obtain}
use Rattle.nm_obtain.specs.declared.obtain.ObtainMade.{ObtainMade}
use Rattle.nm_obtain.specs.declared.obtain.Obtained.{Obtained}
use Rattle.nm_obtain.specs.declared.obtain.Obtained.TheVariants as ends
use Rattle.nm_obtain.specs.declared.obtain.Stage.{Stage}
use Rattle.nm_obtain.specs.declared.obtain.Stage.TheVariants.{Trying, Reclaiming, TryingAgain}
use Rattle.nm_obtain.specs.Obtains.{reclaim_for, AfterSecondTry, TriesAgain, ReclaimsTier, AfterFirstTry, IsObtain}
use Rattle.nm_obtain.specs.Obtaining.{MayObtain, HasObtained, IsObtained}
use Rattle.nm_obtain.specs.Searching.{ObtainParts, ObtainPieceEnd, IsPoolTask, MayObtainPiece, IsObtainPiece, ObtainPieceLeaves, ObtainPiece, obtain_parts, IsNewObtainPiece, obtain_made, obtain_piece, obtain_left, IsSearching, IsReclaimingFrom, ObtainKnown, obtain_stages}

-- What is left can end.

some-try : (g : Geometry) (tier : ℕ) → IsTier g tier → CanEnd (IsPool g (Take tier 0))
some-try g tier exists = let p = some-pool g (Take tier 0) exists in record { rest = p.rest; outcome = p.outcome; shown = p.whole }

can-after-second : (g : Geometry) (tier : ℕ) (own : Own) (end : PoolEnd) → IsPool g (Take tier 0) own end → CanEnd (AfterSecondTry end)
can-after-second g tier own (pools.Got frame) h = can-ends (ends.Got frame)
can-after-second g tier own (pools.AtFloor n) h = can-ends (ends.AtFloor n)
can-after-second g tier own (pools.Level n) h = absurd h.work
can-after-second g tier own pools.Back h = absurd h.work

can-try-again : (g : Geometry) (made : ObtainMade) → IsTier g made.tier → CanEnd (TriesAgain g made)
can-try-again g made exists =
    let some = some-try g made.tier exists in
    can-follow (IsPool g (Take made.tier 0)) AfterSecondTry some (can-after-second g made.tier some.rest some.outcome some.shown)

can-reclaim : (g : Geometry) (made : ObtainMade) → IsTier g made.tier → CanEnd (ReclaimsTier g made)
can-reclaim g made exists =
    can-follow (IsReclaim g (reclaim_for made)) (λ freed. TriesAgain g made) (can-visits g (reclaim_for made) (pages_visited g (reclaim_for made)) 0 exists) (can-try-again g made exists)

can-after-first : (g : Geometry) (made : ObtainMade) (own : Own) (end : PoolEnd) → IsTier g made.tier → IsPool g (Take made.tier 0) own end → CanEnd (AfterFirstTry g made end)
can-after-first g made own (pools.Got frame) exists h = can-ends (ends.Got frame)
can-after-first g made own (pools.AtFloor n) exists h = can-reclaim g made exists
can-after-first g made own (pools.Level n) exists h = absurd h.work
can-after-first g made own pools.Back exists h = absurd h.work

-- the pattern has a list
pub some-obtain : (made : ObtainMade) (g : Geometry) → IsTier g made.tier → CanEnd (IsObtain made g)
some-obtain made g exists =
    let some = some-try g made.tier exists in
    can-follow (IsPool g (Take made.tier 0)) (AfterFirstTry g made) some (can-after-first g made some.rest some.outcome exists some.shown)

-- The views.

-- at first nothing is lost
pub searching-first : (made : Geometry × ObtainMade) (g : Geometry) (view : View) → MayObtain made.0 made.1 g view → IsSearching made g view view
searching-first made g view may = record { may = may; swept = record { is = refl; owned = forgets-none (Some made.1.page) view.owned } }

turn-free : (made : Geometry × ObtainMade) (g : Geometry) (first now : View) → IsSearching made g first now → now.turn ≡ None
turn-free made g first now h = ap (λ (v : View). v.turn) h.swept.is ∙ h.may.may.turn

-- what Reclaim needs of the view is as it was
reclaim-may : (made : Geometry × ObtainMade) (g : Geometry) (first now : View) → IsSearching made g first now → MayReclaim (reclaim_for made.1) g now
reclaim-may made g first now h =
    let may = h.may.may in
    let P : View → Type 0 = λ v. MayReclaim (reclaim_for made.1) g v in
    subst P (sym h.swept.is) (record { geometry = may.geometry; tier = may.tier; ops = may.ops; turn = may.turn })

-- the turn was released
released-is : (made : Geometry × ObtainMade) (g : Geometry) (first now : View) → IsSearching made g first now → released now ≡ record first { owned = now.owned; scan = unscanned }
released-is made g first now h = ap released h.swept.is ∙ ap (λ (t : Option ℕ). record first { turn = t; owned = now.owned; scan = unscanned }) (sym h.may.may.turn)

-- no frame was free
floor-swept : (made : Geometry × ObtainMade) (g : Geometry) (first now later : View) → IsSearching made g first now → later ≡ released now → IsSwept (Some made.1.page) first later
floor-swept made g first now later h is =
    let P : View → Type 0 = λ v. IsSwept (Some made.1.page) first v in
    subst P (sym is) (record { is = released-is made g first now h; owned = h.swept.owned })

-- a frame was given
frame-got : (made : Geometry × ObtainMade) (g : Geometry) (first now later : View) (frame : ℕ) → IsSearching made g first now → Leaves g (Take made.1.tier 0) now (pools.Got frame) later → HasObtained made.1 g first frame later
frame-got made g first now later frame h a = record {
  given = record {
    there = a.0.there;
    fresh = forgotten-unowned (Some made.1.page) frame first.owned now.owned h.swept.owned a.0.fresh;
    homeless = subst (λ (v : View). All (λ (o : Op). o.home ≢ Some (home_word frame)) v.ops) h.swept.is a.0.homeless;
  };
  before = now.owned;
  forgotten = h.swept.owned;
  fresh = a.0.fresh;
  scan = unscanned;
  is = a.1 ∙ ap (λ (v : View). record v { owned = owning frame Raw now.owned }) (released-is made g first now h);
}

-- Pieces that run.

abbrev pub RunsObtain : Geometry × ObtainMade → Stage → (Own → Obtained → Type 0) → Geometry → View → View → Type 0
RunsObtain = RunsAt MayObtainPiece IsObtainPiece obtain_stages

try-may : (made : Geometry × ObtainMade) (g : Geometry) (first now : View) → IsSearching made g first now → MayBegin (pool_made made.0 (Take made.1.tier 0)) g now
try-may made g first now h = record {
  geometry = h.may.may.geometry;
  is = ap (λ (k : Geometry). pool_made k (Take made.1.tier 0)) h.may.same;
  work = h.may.may.tier;
  turn = turn-free made g first now h;
}

can-first : (made : Geometry × ObtainMade) (g : Geometry) (own : Own) (end : ObtainPieceEnd) → IsTier g made.1.tier → IsObtainPiece (This (pool_made made.0 (Take made.1.tier 0))) g own end → CanEnd (obtain_left made Trying g end)
can-first made g own (This end) exists shown = can-after-first g made.1 own end exists shown
can-first made g own (Other freed) exists shown = absurd shown

can-second : (made : Geometry × ObtainMade) (g : Geometry) (own : Own) (end : ObtainPieceEnd) → IsObtainPiece (This (pool_made made.0 (Take made.1.tier 0))) g own end → CanEnd (obtain_left made TryingAgain g end)
can-second made g own (This end) shown = can-after-second g made.1.tier own end shown
can-second made g own (Other freed) shown = absurd shown

pub runs-trying : (made : Geometry × ObtainMade) (g : Geometry) (first now : View) → IsSearching made g first now → RunsObtain made Trying (IsObtain made.1 g) g first now
runs-trying made g first now h = record {
  begin = try-may made g first now h;
  known = record { is = refl; known = h };
  can = λ own end shown. can-first made g own end h.may.may.tier shown;
  fits = λ own outcome f. this-follows IsPoolTask IsSweep (obtain_left made Trying g) (pool_made made.0 (Take made.1.tier 0)) g own outcome f;
}

pub runs-again : (made : Geometry × ObtainMade) (g : Geometry) (first now : View) → IsSearching made g first now → RunsObtain made TryingAgain (TriesAgain g made.1) g first now
runs-again made g first now h = record {
  begin = try-may made g first now h;
  known = record { is = refl; known = h };
  can = λ own end shown. can-second made g own end shown;
  fits = λ own outcome f. this-follows IsPoolTask IsSweep (obtain_left made TryingAgain g) (pool_made made.0 (Take made.1.tier 0)) g own outcome f;
}

-- the sweep from this page on
abbrev sweep_from : Geometry × ObtainMade → ℕ → SweptMade
sweep_from made visited = (made.0, record { asked = reclaim_for made.1; first = visited })

abbrev task_for : Geometry × ObtainMade → TaskMade
task_for made = (made.0, reclaim_for made.1)

sweep-for : (made : Geometry × ObtainMade) (visited : ℕ) (g : Geometry) (first now : View) → IsReclaimingFrom made visited g first now → IsSweepFor (task_for made) (sweep_from made visited)
sweep-for made visited g first now h =
    let F : Geometry → Type 0 = λ k. first_visited k (reclaim_for made.1) ≡ Some visited in
    record { same = refl; asked = refl; first = subst F (sym h.searching.may.same) h.visits }

pub runs-reclaiming : (made : Geometry × ObtainMade) (visited : ℕ) (g : Geometry) (first now : View) → IsReclaimingFrom made visited g first now → RunsObtain made (Reclaiming visited) (ReclaimsTier g made.1) g first now
runs-reclaiming made visited g first now h =
    let for = sweep-for made visited g first now h in
    let may : MayTask (task_for made) g now = record { same = h.searching.may.same; may = reclaim-may made g first now h.searching } in
    let S : (Own → ℕ → Type 0) → Type 0 = λ shape. (own : Own) (outcome : Obtained) → Follows shape (λ freed. TriesAgain g made.1) own outcome → ReclaimsTier g made.1 own outcome in
    let whole : S (IsSweep (sweep_from made visited) g) = subst S (sym (sweep-is g (task_for made) (sweep_from made visited) h.searching.may.same for)) (λ own outcome f. f) in
    record {
      begin = may-sweep g (task_for made) (sweep_from made visited) now for may;
      known = record { is = refl; known = h };
      can = λ own end shown. can-try-again g made.1 h.searching.may.may.tier;
      fits = λ own outcome f. whole own outcome (other-follows IsPoolTask IsSweep (obtain_left made (Reclaiming visited) g) (sweep_from made visited) g own outcome f);
    }

-- there is nothing to visit: a frame is taken again at once
pub runs-unvisited : (made : Geometry × ObtainMade) (g : Geometry) (first now : View) → IsSearching made g first now → first_visited g (reclaim_for made.1) ≡ None → RunsObtain made TryingAgain (ReclaimsTier g made.1) g first now
runs-unvisited made g first now h none =
    let run = runs-again made g first now h in
    record {
      begin = run.begin;
      known = run.known;
      can = run.can;
      fits = λ own outcome f. over-at-once (IsReclaim g (reclaim_for made.1)) (λ freed. TriesAgain g made.1) 0 own outcome (nothing-done g (reclaim_for made.1) none) (run.fits own outcome f);
    }

-- What the plan does next.

abbrev pub PlanMade : Obtain → Geometry × ObtainMade
PlanMade s = obtain_made s.geometry.now s.made

-- it gives this piece, where this was left
abbrev pub GivesObtain : Obtain → ObtainPiece → (Own → Obtained → Type 0) → Geometry → View → View → Type 0
GivesObtain new piece was g first now = IsNewRun obtain_parts IsNewObtainPiece MayObtainPiece IsObtainPiece (IsPieceAt obtain_stages (PlanMade new) new.stage) (obtain_left (PlanMade new) new.stage) was piece g first now

-- it is over, where this was left
abbrev pub IsObtainOver : Obtain → (Own → Obtained → Type 0) → Geometry → View → View → Obtained → Type 0
IsObtainOver old was g first now outcome = IsOver was (λ g view outcome left. IsObtained old.made g view outcome left) (λ g outcome. Unit {0}) g first now outcome

-- it has come to a stage
pub record ComesTo (old new : Obtain) (stage : Stage) (piece : ObtainPiece) : Type 0 where
  pub is : new ≡ record old { stage = stage }
  pub makes : obtain_parts piece ≡ obtain_piece (PlanMade old) stage
  pub fresh : IsNewObtainPiece piece

pub gives-obtain : (old new : Obtain) (stage : Stage) (piece : ObtainPiece) (was : Own → Obtained → Type 0) (g : Geometry) (first now : View) → ComesTo old new stage piece
    → RunsObtain (PlanMade old) stage was g first now → GivesObtain new piece was g first now
gives-obtain old new stage piece was g first now comes run =
    runs-new obtain_parts IsNewObtainPiece MayObtainPiece IsObtainPiece obtain_stages was (PlanMade old) (PlanMade new) stage new.stage piece g first now
    (ap (λ (s : Obtain). PlanMade s) comes.is) (ap (λ (s : Obtain). s.stage) comes.is) comes.makes comes.fresh run

abbrev EndsSo : Own → ObtainParts → Geometry → View → ObtainPieceEnd → View → Type 0
EndsSo own runs g now end later = ObtainPieceLeaves runs g now end later × IsObtainPiece runs g own end

-- a piece of the plan has ended so
pub record HasRun (old : Obtain) (here : Stage) (end so : ObtainPieceEnd) (runs : ObtainParts) (g : Geometry) (first now later : View) (own : Own) : Type 0 where
  pub at : old.stage ≡ here
  pub ended : end ≡ so
  pub known : IsPieceAt obtain_stages (PlanMade old) old.stage g first now runs
  pub left : ObtainPieceLeaves runs g now end later
  pub shown : IsObtainPiece runs g own end

step-obtain : (old : Obtain) (here : Stage) (goal : Stage → ObtainPieceEnd → Type 0) (end so : ObtainPieceEnd) (runs : ObtainParts) (g : Geometry) (first now later : View) (own : Own) → HasRun old here end so runs g first now later own
    → (ObtainKnown (PlanMade old) here g first now → EndsSo own (obtain_piece (PlanMade old) here) g now so later → goal here so) → goal old.stage end
step-obtain old here goal end so runs g first now later own run show =
    by-stage obtain_stages (EndsSo own) goal (PlanMade old) old.stage here end so g first now later runs run.at run.ended run.known (run.left, run.shown) show

abbrev Left : Obtain → Geometry → Stage → ObtainPieceEnd → Own → Obtained → Type 0
Left old g stage end = obtain_left (PlanMade old) stage g end

-- The first piece.

pub begins : (old new : Obtain) (piece : ObtainPiece) (g : Geometry) (view : View) → ComesTo old new Trying piece → MayObtain old.geometry.now old.made g view → GivesObtain new piece (IsObtain old.made g) g view view
begins old new piece g view comes may = gives-obtain old new Trying piece (IsObtain old.made g) g view view comes (runs-trying (PlanMade old) g view view (searching-first (PlanMade old) g view may))

-- After the first try.

pub got-first : (old : Obtain) (end : ObtainPieceEnd) (frame : ℕ) (runs : ObtainParts) (g : Geometry) (first now later : View) (own : Own) → HasRun old Trying end (This (pools.Got frame)) runs g first now later own
    → IsObtainOver old (Left old g old.stage end) g first later (ends.Got frame)
got-first old end frame runs g first now later own run =
    step-obtain old Trying (λ stage end. IsObtainOver old (Left old g stage end) g first later (ends.Got frame)) end (This (pools.Got frame)) runs g first now later own run
    (λ k a. record { shown = ends-now (ends.Got frame); left = frame-got (PlanMade old) g first now later frame k a.0; over = tt })

pub floor-first : (old new : Obtain) (piece : ObtainPiece) (visited n : ℕ) (end : ObtainPieceEnd) (runs : ObtainParts) (g : Geometry) (first now later : View) (own : Own) → HasRun old Trying end (This (pools.AtFloor n)) runs g first now later own
    → first_visited old.geometry.now (reclaim_for old.made) ≡ Some visited → ComesTo old new (Reclaiming visited) piece → GivesObtain new piece (Left old g old.stage end) g first later
floor-first old new piece visited n end runs g first now later own run visits comes =
    step-obtain old Trying (λ stage end. GivesObtain new piece (Left old g stage end) g first later) end (This (pools.AtFloor n)) runs g first now later own run
    (λ k a.
    let F : Geometry → Type 0 = λ h. first_visited h (reclaim_for old.made) ≡ Some visited in
    gives-obtain old new (Reclaiming visited) piece (ReclaimsTier g old.made) g first later comes (runs-reclaiming (PlanMade old) visited g first later
    (record { searching = record { may = k.may; swept = floor-swept (PlanMade old) g first now later k a.0 }; visits = subst F k.may.same visits })))

pub floor-unvisited : (old new : Obtain) (piece : ObtainPiece) (n : ℕ) (end : ObtainPieceEnd) (runs : ObtainParts) (g : Geometry) (first now later : View) (own : Own) → HasRun old Trying end (This (pools.AtFloor n)) runs g first now later own
    → first_visited old.geometry.now (reclaim_for old.made) ≡ None → ComesTo old new TryingAgain piece → GivesObtain new piece (Left old g old.stage end) g first later
floor-unvisited old new piece n end runs g first now later own run none comes =
    step-obtain old Trying (λ stage end. GivesObtain new piece (Left old g stage end) g first later) end (This (pools.AtFloor n)) runs g first now later own run
    (λ k a.
    let F : Geometry → Type 0 = λ h. first_visited h (reclaim_for old.made) ≡ None in
    gives-obtain old new TryingAgain piece (ReclaimsTier g old.made) g first later comes (runs-unvisited (PlanMade old) g first later
    (record { may = k.may; swept = floor-swept (PlanMade old) g first now later k a.0 }) (subst F k.may.same none)))

-- After Reclaim.

swept-by : (made : Geometry × ObtainMade) (visited : ℕ) (g : Geometry) (first now later : View) (own : Own) (end : ObtainPieceEnd) → IsReclaimingFrom made visited g first now → EndsSo own (obtain_piece made (Reclaiming visited)) g now end later → IsSearching made g first later
swept-by made visited g first now later own (This x) h a = absurd a.0
swept-by made visited g first now later own (Other freed) h a = record { may = h.searching.may; swept = swept-after (Some made.1.page) first now later h.searching.swept a.0 }

pub reclaimed : (old new : Obtain) (piece : ObtainPiece) (visited : ℕ) (end : ObtainPieceEnd) (runs : ObtainParts) (g : Geometry) (first now later : View) (own : Own) → HasRun old (Reclaiming visited) end end runs g first now later own
    → ComesTo old new TryingAgain piece → GivesObtain new piece (Left old g old.stage end) g first later
reclaimed old new piece visited end runs g first now later own run comes =
    step-obtain old (Reclaiming visited) (λ stage end. GivesObtain new piece (Left old g stage end) g first later) end end runs g first now later own run
    (λ k a. gives-obtain old new TryingAgain piece (TriesAgain g old.made) g first later comes (runs-again (PlanMade old) g first later (swept-by (PlanMade old) visited g first now later own end k a)))

-- After the second try.

pub got-second : (old : Obtain) (end : ObtainPieceEnd) (frame : ℕ) (runs : ObtainParts) (g : Geometry) (first now later : View) (own : Own) → HasRun old TryingAgain end (This (pools.Got frame)) runs g first now later own
    → IsObtainOver old (Left old g old.stage end) g first later (ends.Got frame)
got-second old end frame runs g first now later own run =
    step-obtain old TryingAgain (λ stage end. IsObtainOver old (Left old g stage end) g first later (ends.Got frame)) end (This (pools.Got frame)) runs g first now later own run
    (λ k a. record { shown = ends-now (ends.Got frame); left = frame-got (PlanMade old) g first now later frame k a.0; over = tt })

pub floor-second : (old : Obtain) (end : ObtainPieceEnd) (n : ℕ) (runs : ObtainParts) (g : Geometry) (first now later : View) (own : Own) → HasRun old TryingAgain end (This (pools.AtFloor n)) runs g first now later own
    → IsObtainOver old (Left old g old.stage end) g first later (ends.AtFloor n)
floor-second old end n runs g first now later own run =
    step-obtain old TryingAgain (λ stage end. IsObtainOver old (Left old g stage end) g first later (ends.AtFloor n)) end (This (pools.AtFloor n)) runs g first now later own run
    (λ k a. record { shown = ends-now (ends.AtFloor n); left = floor-swept (PlanMade old) g first now later k a.0; over = tt })

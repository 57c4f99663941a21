-- The steps of a search for a frame.
use Rattle.std.proofs.Common.{◌≡◌, ℕ, ◌+◌, ◌^◌, ◌<◌, ◌≤◌, nat_lt, if◌then◌else◌, Bool, true, false, List, [], ◌∷◌, ◌++◌, length, Option, Some, None, refl, sym, ap, ◌∙◌, subst, arith}
use Rattle.nm_base.specs.Geometry.{Geometry}
use Rattle.nm_base.specs.Ranges.{IsTier}
use Rattle.nm_base.proofs.Tiers.{IsInTier-lt}
use Rattle.nm_action.specs.Own.{Own}
use Rattle.nm_view.specs.declared.view.Fill.TheVariants.{Raw}
use Rattle.nm_view.specs.declared.view.Owned.{Owned}
use Rattle.nm_view.specs.Operations.{owned_frame}
use Rattle.nm_view.specs.Opening.{unscanned}
use Rattle.nm_view.specs.Views.{Op, View}
use Rattle.nm_part.specs.Patterns.{Follows, Sometimes}
use Rattle.nm_part.proofs.Patterns.{can-sometimes}
use Rattle.nm_compose.specs.declared.or.Or.TheVariants.{This, Other}
use Rattle.nm_compose.specs.Plans.{IsPieceRun, IsOver}
use Rattle.nm_compose.proofs.Choosing.{this-follows, other-follows}
use Rattle.nm_pool.specs.declared.job.PoolEnd.TheVariants as pools
use Rattle.nm_pool.specs.declared.job.PoolJob.TheVariants.{Take}
use Rattle.nm_pool.specs.Pool.{IsPool}
use Rattle.nm_pool.specs.Given as given
use Rattle.nm_pool.specs.Given.{pool_made, released}
use Rattle.nm_obtain.specs.declared.obtain.ObtainMade.{ObtainMade}
use Rattle.nm_obtain.specs.declared.obtain.Obtained.{Obtained}
use Rattle.nm_obtain.specs.declared.obtain.Obtained.TheVariants as obtained
use Rattle.nm_obtain.specs.Obtains.{IsObtain}
use Rattle.nm_obtain.specs.Obtaining.{HasObtained}
use Rattle.nm_obtain.specs.Searching.{IsPoolTask, obtain_made}
use Rattle.nm_copying.proofs.Edits.{range-next, range-none}
use Rattle.nm_prepare.specs.Placing.{IsPlanPlaced, RunsPlaced}
use Rattle.nm_prepare.proofs.Placed.{at-placed, run-placed}
use Rattle.nm_reclaim.specs.Swept.{HasOnlySkipped, IsSwept}
use Rattle.nm_reclaim.proofs.Lasts.{put_last}
use Rattle.nm_reclaim.proofs.Views.{forgets-none}
use Rattle.nm_missing_fault.specs.declared.search.FrameSearch.{FrameSearch}
use Rattle.nm_missing_fault.specs.declared.search.SearchMade.{SearchMade}
use Rattle.nm_missing_fault.specs.declared.search.SearchStage.{SearchStage}
use Rattle.nm_missing_fault.specs.declared.search.SearchStage.TheVariants.{New, TakingAboveLow, Obtaining, TakingLast}
use Rattle.nm_missing_fault.specs.Searching.{low_mark, frame_taken, frame_obtained, frame_found, FoundOr, TakesLast, SeeksFrom, Round, Rounds, IsSearch}
use Rattle.nm_missing_fault.specs.Found.{MaySearch, IsFound}
use Rattle.nm_missing_fault.specs.SearchStages.{SearchPieceMade, SearchPieceEnd, MaySearchPiece, IsSearchPiece, LeavesSearchPiece, HasTier, stage_from, search_piece_of, search_left_in, search_left, IsWithoutFrame, IsSeekingFrame, KnownInSearch}
use Rattle.nm_reclaim.proofs.Forgetting.{forgets-after, swept-after}
use Rattle.nm_missing_fault.proofs.Searched.{can-found, can-from, can-rounds, tries-after, tries-more, tries-as}

-- Views.

-- the plan was made for the geometry in which it begins
pub search-here : (mine : Geometry) (made : SearchMade) (g : Geometry) (view : View) → MaySearch mine made g view → MaySearch g made g view
search-here mine made g view h = record { same = refl; geometry = h.geometry; ops = h.ops; turn = h.turn }

pub without-first : (made : SearchMade) (g : Geometry) (view : View) → MaySearch g made g view → IsWithoutFrame made g view view
without-first made g view may = record { may = may; swept = record { is = refl; owned = forgets-none (Some made.page) view.owned } }

turn-free : (made : SearchMade) (g : Geometry) (first now : View) → IsWithoutFrame made g first now → now.turn ≡ None
turn-free made g first now at = ap (λ (v : View). v.turn) at.swept.is ∙ at.may.turn

-- the turn was released, and no frame was had
pub without-released : (made : SearchMade) (g : Geometry) (first now later : View) → IsWithoutFrame made g first now → later ≡ released now → IsWithoutFrame made g first later
without-released made g first now later at left =
    let V : View → Type 0 = λ v. IsWithoutFrame made g first v in
    subst V (sym left) (record {
      may = at.may;
      swept = record {
        is = ap (λ (v : View). record v { turn = None; scan = unscanned }) at.swept.is
            ∙ ap (λ (t : Option ℕ). record first { turn = t; owned = now.owned; scan = unscanned }) (sym at.may.turn);
        owned = at.swept.owned;
      };
    })

-- a frame was had
pub found-taken : (made : SearchMade) (g : Geometry) (first now later : View) (frame floor : ℕ) → IsWithoutFrame made g first now → given.Leaves g (Take 0 floor) now (pools.Got frame) later → IsFound made g first frame later
found-taken made g first now later frame floor at left =
    let fresh = left.0.fresh in
    let frames = put_last owned_frame (record { frame = frame; fill = Raw }) now.owned fresh in
    let V : View → Type 0 = λ v. IsFound made g first frame v in
    subst V (sym left.1) (record {
      before = now.owned;
      owned = at.swept.owned;
      exists = IsInTier-lt g frame 0 left.0.there;
      fresh = fresh;
      is = ap (λ (ws : List Owned). record (released now) { owned = ws }) frames
          ∙ (ap (λ (v : View). record v { turn = None; scan = unscanned; owned = now.owned ++ record { frame = frame; fill = Raw } ∷ [] }) at.swept.is
          ∙ ap (λ (t : Option ℕ). record first { turn = t; scan = unscanned; owned = now.owned ++ record { frame = frame; fill = Raw } ∷ [] }) (sym at.may.turn));
    })

-- a frame of a slower tier was had
pub found-obtained : (made : SearchMade) (g : Geometry) (first now later : View) (frame tier : ℕ) → IsWithoutFrame made g first now → HasObtained (record { page = made.page; tier = tier }) g now frame later → IsFound made g first frame later
found-obtained made g first now later frame tier at left =
    let frames = put_last owned_frame (record { frame = frame; fill = Raw }) left.before left.fresh in
    let V : View → Type 0 = λ v. IsFound made g first frame v in
    subst V (sym left.is) (record {
      before = left.before;
      owned = forgets-after (Some made.page) first.owned now.owned left.before at.swept.owned left.forgotten;
      exists = IsInTier-lt g frame tier left.given.there;
      fresh = left.fresh;
      is = ap (λ (ws : List Owned). record now { owned = ws; scan = left.scan }) frames
          ∙ ap (λ (v : View). record v { owned = left.before ++ record { frame = frame; fill = Raw } ∷ []; scan = left.scan }) at.swept.is;
    })

-- none was had there
pub without-swept : (made : SearchMade) (g : Geometry) (first now later : View) → IsWithoutFrame made g first now → IsSwept (Some made.page) now later → IsWithoutFrame made g first later
without-swept made g first now later at left = record { may = at.may; swept = swept-after (Some made.page) first now later at.swept left }

-- Pieces that run.

abbrev ObtainShape : Geometry × ObtainMade → Geometry → Own → Obtained → Type 0
ObtainShape made g own outcome = IsObtain made.1 g own outcome

abbrev pub RunsSearch : SearchMade → SearchStage → (Own → ℕ → Type 0) → Geometry → View → View → Type 0
RunsSearch = RunsPlaced MaySearchPiece IsSearchPiece search_piece_of search_left KnownInSearch

may-take : (made : SearchMade) (floor : ℕ) (g : Geometry) (first now : View) → IsWithoutFrame made g first now → given.MayBegin (pool_made g (Take 0 floor)) g now
may-take made floor g first now at = record { geometry = at.may.geometry; is = refl; work = omega (arith, at.may.geometry.ranges.1.0); turn = turn-free made g first now at }

-- a frame of tier 0 above `low`
pub runs-above : (made : SearchMade) (was : Own → ℕ → Type 0) (g : Geometry) (first now : View) → ((own : Own) (frame : ℕ) → IsSearch made g own frame → was own frame) → IsWithoutFrame made g first now
    → RunsSearch made TakingAboveLow was g first now
runs-above made was g first now fits at = record {
  begin = may-take made (low_mark g) g first now at;
  known = record { geometry = refl; is = refl; holds = at };
  can = λ own end shown. can-sometimes (search_left_in made TakingAboveLow g end) 0 (can-found (SeeksFrom made g 1 (Rounds made g 0)) (frame_found end) (can-from made g 1 (Rounds made g 0) at.may.geometry));
  fits = λ own frame f. fits own frame
      (tries-more (λ n. Round made g (Rounds made g n)) (Rounds made g) own frame (λ n h. h)
      (tries-after (IsPool g (Take 0 (low_mark g))) (λ end n. FoundOr (SeeksFrom made g 1 (Rounds made g n)) (frame_taken end)) own frame
      (this-follows IsPoolTask ObtainShape (search_left made TakingAboveLow g) (pool_made g (Take 0 (low_mark g))) g own frame f)));
}

-- the last frames of tier 0
pub runs-last : (made : SearchMade) (was : Own → ℕ → Type 0) (g : Geometry) (first now : View) → ((own : Own) (frame : ℕ) → Sometimes (λ n. TakesLast g (Rounds made g n)) own frame → was own frame) → IsWithoutFrame made g first now
    → RunsSearch made TakingLast was g first now
runs-last made was g first now fits at = record {
  begin = may-take made 0 g first now at;
  known = record { geometry = refl; is = refl; holds = at };
  can = λ own end shown. can-sometimes (search_left_in made TakingLast g end) 1 (can-found (Rounds made g 1) (frame_found end) (can-rounds made g 0 at.may.geometry));
  fits = λ own frame f. fits own frame
      (tries-after (IsPool g (Take 0 0)) (λ end n. FoundOr (Rounds made g n) (frame_taken end)) own frame
      (this-follows IsPoolTask ObtainShape (search_left made TakingLast g) (pool_made g (Take 0 0)) g own frame f));
}

-- a frame of a slower tier
runs-obtain : (made : SearchMade) (tier : ℕ) (g : Geometry) (first now : View) → IsTier g tier → IsWithoutFrame made g first now
    → RunsSearch made (Obtaining tier) (Sometimes (λ n. SeeksFrom made g tier (Rounds made g n))) g first now
runs-obtain made tier g first now exists at =
    let asked : ObtainMade = record { page = made.page; tier = tier } in
    let ops = ap (λ (v : View). v.ops) at.swept.is in
    record {
      begin = record { same = refl; may = record { geometry = at.may.geometry; tier = exists; ops = subst (λ (os : List Op). HasOnlySkipped (Some made.page) os) (sym ops) at.may.ops; turn = turn-free made g first now at } };
      known = record { geometry = refl; is = refl; holds = record { without = at; tier_is = exists } };
      can = λ own end shown. can-sometimes (search_left_in made (Obtaining tier) g end) 0 (can-found (SeeksFrom made g (tier + 1) (Rounds made g 0)) (frame_found end) (can-from made g (tier + 1) (Rounds made g 0) at.may.geometry));
      fits = λ own frame f.
          tries-as (λ n. Follows (IsObtain asked g) (λ end. FoundOr (SeeksFrom made g (tier + 1) (Rounds made g n)) (frame_obtained end))) (λ n. SeeksFrom made g tier (Rounds made g n)) own frame (λ n h. rw (range-next tier (length g.tiers) exists) h)
          (tries-after (IsObtain asked g) (λ end n. FoundOr (SeeksFrom made g (tier + 1) (Rounds made g n)) (frame_obtained end)) own frame
          (other-follows IsPoolTask ObtainShape (search_left made (Obtaining tier) g) (obtain_made g asked) g own frame f));
    }

-- by whether there is such a tier
from-test : (made : SearchMade) (tier : ℕ) (some : Bool) (g : Geometry) (first now : View) → nat_lt tier (length g.tiers) ≡ some → IsWithoutFrame made g first now
    → RunsSearch made (if some then Obtaining tier else TakingLast) (Sometimes (λ n. SeeksFrom made g tier (Rounds made g n))) g first now
from-test made tier true g first now is at = runs-obtain made tier g first now (grind (arith, is)) at
from-test made tier false g first now is at =
    let none : length g.tiers ≤ tier = grind (arith, is) in
    runs-last made (Sometimes (λ n. SeeksFrom made g tier (Rounds made g n))) g first now
    (λ own frame s. tries-as (λ n. TakesLast g (Rounds made g n)) (λ n. SeeksFrom made g tier (Rounds made g n)) own frame (λ n h. rw (range-none tier (length g.tiers) none) h) s) at

pub runs-from : (made : SearchMade) (tier : ℕ) (g : Geometry) (first now : View) → IsWithoutFrame made g first now
    → RunsSearch made (stage_from g tier) (Sometimes (λ n. SeeksFrom made g tier (Rounds made g n))) g first now
runs-from made tier g first now at = from-test made tier (nat_lt tier (length g.tiers)) g first now refl at

-- the tier of a stage is there
has-test : (g : Geometry) (tier : ℕ) (some : Bool) → nat_lt tier (length g.tiers) ≡ some → HasTier g (if some then Obtaining tier else TakingLast)
has-test g tier true is = grind (arith, is)
has-test g tier false is = tt

pub stage-there : (g : Geometry) (tier : ℕ) → HasTier g (stage_from g tier)
stage-there g tier = has-test g tier (nat_lt tier (length g.tiers)) refl

-- After a piece.

-- no frame was had
pub without-piece : (made : SearchMade) (floor : ℕ) (g : Geometry) (first now later : View) (end : SearchPieceEnd) → frame_found end ≡ None → IsWithoutFrame made g first now → LeavesSearchPiece (This (pool_made g (Take 0 floor))) g now end later → IsWithoutFrame made g first later
without-piece made floor g first now later (This (pools.Got frame)) none at left = cc none
without-piece made floor g first now later (This (pools.AtFloor n)) none at left = without-released made g first now later at left
without-piece made floor g first now later (This (pools.Level n)) none at left = without-released made g first now later at left
without-piece made floor g first now later (This pools.Back) none at left = absurd left
without-piece made floor g first now later (Other end) none at left = absurd left

pub without-obtain : (made : SearchMade) (tier : ℕ) (g : Geometry) (first now later : View) (end : SearchPieceEnd) → frame_found end ≡ None → IsWithoutFrame made g first now → LeavesSearchPiece (Other (obtain_made g (record { page = made.page; tier = tier }))) g now end later
    → IsWithoutFrame made g first later
without-obtain made tier g first now later (This end) none at left = absurd left
without-obtain made tier g first now later (Other (obtained.Got frame)) none at left = cc none
without-obtain made tier g first now later (Other (obtained.AtFloor n)) none at left = without-swept made g first now later at left

-- a frame was had
found-piece : (made : SearchMade) (floor : ℕ) (g : Geometry) (first now later : View) (end : SearchPieceEnd) (frame : ℕ) → frame_found end ≡ Some frame → IsWithoutFrame made g first now → LeavesSearchPiece (This (pool_made g (Take 0 floor))) g now end later → IsFound made g first frame later
found-piece made floor g first now later (This (pools.Got f)) frame some at left =
    let same : f ≡ frame = cc in
    subst (λ (n : ℕ). IsFound made g first n later) same (found-taken made g first now later f floor at left)
found-piece made floor g first now later (This (pools.AtFloor n)) frame some at left = cc some
found-piece made floor g first now later (This (pools.Level n)) frame some at left = cc some
found-piece made floor g first now later (This pools.Back) frame some at left = cc some
found-piece made floor g first now later (Other end) frame some at left = absurd left

found-slower : (made : SearchMade) (tier : ℕ) (g : Geometry) (first now later : View) (end : SearchPieceEnd) (frame : ℕ) → frame_found end ≡ Some frame → IsWithoutFrame made g first now → LeavesSearchPiece (Other (obtain_made g (record { page = made.page; tier = tier }))) g now end later
    → IsFound made g first frame later
found-slower made tier g first now later (This end) frame some at left = absurd left
found-slower made tier g first now later (Other (obtained.Got f)) frame some at left =
    let same : f ≡ frame = cc in
    subst (λ (n : ℕ). IsFound made g first n later) same (found-obtained made g first now later f tier at left)
found-slower made tier g first now later (Other (obtained.AtFloor n)) frame some at left = cc some

abbrev pub IsSearchOver : SearchMade → (Own → ℕ → Type 0) → Geometry → View → View → ℕ → Type 0
IsSearchOver made was g first now frame = IsOver was (λ g view frame left. IsFound made g view frame left) (λ g frame. Unit {0}) g first now frame

ends-found : (next : Own → ℕ → Type 0) (found : Option ℕ) (frame : ℕ) → found ≡ Some frame → FoundOr next found [] frame
ends-found next (Some f) frame is = let same : f ≡ frame = cc in record { none = refl; is = sym same }
ends-found next None frame is = cc is

-- at each stage a frame that is had ends the search
pub over-at : (made : SearchMade) (stage : SearchStage) (g : Geometry) (first now later : View) (end : SearchPieceEnd) (frame : ℕ) → frame_found end ≡ Some frame → KnownInSearch made stage g first now → LeavesSearchPiece (search_piece_of g made stage) g now end later
    → IsSearchOver made (search_left made stage g end) g first later frame
over-at made New g first now later end frame some k a = absurd k
over-at made TakingAboveLow g first now later end frame some k a = record {
  shown = record { tries = 0; is = ends-found (SeeksFrom made g 1 (Rounds made g 0)) (frame_found end) frame some };
  left = found-piece made (low_mark g) g first now later end frame some k a;
  over = tt;
}
over-at made (Obtaining tier) g first now later end frame some k a = record {
  shown = record { tries = 0; is = ends-found (SeeksFrom made g (tier + 1) (Rounds made g 0)) (frame_found end) frame some };
  left = found-slower made tier g first now later end frame some k.without a;
  over = tt;
}
over-at made TakingLast g first now later end frame some k a = record {
  shown = record { tries = 0; is = ends-found (Rounds made g 0) (frame_found end) frame some };
  left = found-piece made 0 g first now later end frame some k a;
  over = tt;
}

-- what is left where no frame was had
found-none : (next : ℕ → Own → ℕ → Type 0) (found : Option ℕ) (own : Own) (frame : ℕ) → found ≡ None → Sometimes next own frame → Sometimes (λ n. FoundOr (next n) found) own frame
found-none next (Some f) own frame is s = cc is
found-none next None own frame is s = s

weaker : (made : SearchMade) (stage : SearchStage) (was wider : Own → ℕ → Type 0) (g : Geometry) (first now : View) → ((own : Own) (frame : ℕ) → was own frame → wider own frame) → RunsSearch made stage was g first now → RunsSearch made stage wider g first now
weaker made stage was wider g first now more run = record { begin = run.begin; known = run.known; can = run.can; fits = λ own frame f. more own frame (run.fits own frame f) }

pub after-above : (made : SearchMade) (g : Geometry) (first now later : View) (end : SearchPieceEnd) → frame_found end ≡ None → KnownInSearch made TakingAboveLow g first now → LeavesSearchPiece (search_piece_of g made TakingAboveLow) g now end later
    → RunsSearch made (stage_from g 1) (search_left made TakingAboveLow g end) g first later
after-above made g first now later end none k a =
    weaker made (stage_from g 1) (Sometimes (λ n. SeeksFrom made g 1 (Rounds made g n))) (search_left made TakingAboveLow g end) g first later
    (λ own frame s. found-none (λ n. SeeksFrom made g 1 (Rounds made g n)) (frame_found end) own frame none s)
    (runs-from made 1 g first later (without-piece made (low_mark g) g first now later end none k a))

pub after-obtain : (made : SearchMade) (tier : ℕ) (g : Geometry) (first now later : View) (end : SearchPieceEnd) → frame_found end ≡ None → KnownInSearch made (Obtaining tier) g first now → LeavesSearchPiece (search_piece_of g made (Obtaining tier)) g now end later
    → RunsSearch made (stage_from g (tier + 1)) (search_left made (Obtaining tier) g end) g first later
after-obtain made tier g first now later end none k a =
    weaker made (stage_from g (tier + 1)) (Sometimes (λ n. SeeksFrom made g (tier + 1) (Rounds made g n))) (search_left made (Obtaining tier) g end) g first later
    (λ own frame s. found-none (λ n. SeeksFrom made g (tier + 1) (Rounds made g n)) (frame_found end) own frame none s)
    (runs-from made (tier + 1) g first later (without-obtain made tier g first now later end none k.without a))

pub after-last : (made : SearchMade) (g : Geometry) (first now later : View) (end : SearchPieceEnd) → frame_found end ≡ None → KnownInSearch made TakingLast g first now → LeavesSearchPiece (search_piece_of g made TakingLast) g now end later
    → RunsSearch made TakingAboveLow (search_left made TakingLast g end) g first later
after-last made g first now later end none k a =
    runs-above made (search_left made TakingLast g end) g first later (λ own frame s. found-none (Rounds made g) (frame_found end) own frame none s) (without-piece made 0 g first now later end none k a)

-- The steps, as those of a plan that goes by stages.

abbrev pub AtSearch : FrameSearch → Geometry → View → View → SearchPieceMade → Type 0
AtSearch s = IsPlanPlaced search_piece_of KnownInSearch s.geometry.now s.made s.stage

abbrev pub GivesSearch : FrameSearch → SearchPieceMade → (Own → ℕ → Type 0) → Geometry → View → View → Type 0
GivesSearch new runs was g first now = IsPieceRun MaySearchPiece IsSearchPiece (AtSearch new) (search_left new.made new.stage) was runs g first now

-- as the plan comes to a stage
pub gives-search : (old new : FrameSearch) (next : SearchStage) (runs : SearchPieceMade) (was : Own → ℕ → Type 0) (g : Geometry) (first now : View)
    → old.geometry.now ≡ g → new ≡ record old { stage = next } → runs ≡ search_piece_of old.geometry.now old.made next → RunsSearch old.made next was g first now → GivesSearch new runs was g first now
gives-search old new next runs was g first now geometry is acts run =
    run-placed MaySearchPiece IsSearchPiece search_piece_of search_left KnownInSearch was old.geometry.now new.geometry.now old.made new.made next new.stage runs g first now
    geometry (ap (λ (s : FrameSearch). s.geometry.now) is) (ap (λ (s : FrameSearch). s.made) is) (ap (λ (s : FrameSearch). s.stage) is) acts run

-- after a piece: shown at its stage, for its end
pub step-search : (old new : FrameSearch) (here next : SearchStage) (end : SearchPieceEnd) (runs given : SearchPieceMade) (g : Geometry) (first now later : View)
    → old.stage ≡ here → AtSearch old g first now runs → LeavesSearchPiece runs g now end later
    → new ≡ record old { stage = next } → given ≡ search_piece_of old.geometry.now old.made next
    → (KnownInSearch old.made here g first now → LeavesSearchPiece (search_piece_of g old.made here) g now end later → RunsSearch old.made next (search_left old.made here g end) g first later)
    → GivesSearch new given (search_left old.made old.stage g end) g first later
step-search old new here next end runs given g first now later at placed left is acts show =
    at-placed search_piece_of KnownInSearch LeavesSearchPiece (λ stage end. GivesSearch new given (search_left old.made stage g end) g first later) old.geometry.now old.made old.stage here end end g first now later runs at refl placed left
    (λ k a. gives-search old new next given (search_left old.made here g end) g first later placed.geometry is acts (show k a))

-- after a piece, the end
pub over-search : (old : FrameSearch) (here : SearchStage) (end : SearchPieceEnd) (runs : SearchPieceMade) (frame : ℕ) (g : Geometry) (first now later : View)
    → old.stage ≡ here → AtSearch old g first now runs → LeavesSearchPiece runs g now end later
    → (KnownInSearch old.made here g first now → LeavesSearchPiece (search_piece_of g old.made here) g now end later → IsSearchOver old.made (search_left old.made here g end) g first later frame)
    → IsSearchOver old.made (search_left old.made old.stage g end) g first later frame
over-search old here end runs frame g first now later at placed left show =
    at-placed search_piece_of KnownInSearch LeavesSearchPiece (λ stage end. IsSearchOver old.made (search_left old.made stage g end) g first later frame) old.geometry.now old.made old.stage here end end g first now later runs at refl placed left show

-- there are few tiers
pub tier-few : (old : FrameSearch) (tier : ℕ) (g : Geometry) (first now : View) (runs : SearchPieceMade) → old.stage ≡ Obtaining tier → AtSearch old g first now runs → tier + 1 < 2 ^ 32
tier-few old tier g first now runs at placed =
    let K : SearchStage → Type 0 = λ s. KnownInSearch old.made s g first now in
    let k : IsSeekingFrame old.made tier g first now = subst K at placed.holds in
    omega (arith, k.tier_is, k.without.may.geometry.ranges.1.1)

-- The steps of a sweep, each at its stage.
use Rattle.std.proofs.Common.{◌≡◌, ◌≢◌, ℕ, ◌+◌, ◌-◌, ◌<◌, ◌≤◌, ◌==◌, inl, inr, nat_lt, true, false, [], ◌++◌, Some, None, refl, sym, ap, ◌∙◌, subst, arith, Fits, w32}
use Rattle.nm_base.specs.Geometry.{Geometry, frame_count, tier_of}
use Rattle.nm_base.specs.Ranges.{IsTier}
use Rattle.nm_base.proofs.Tiers.{IsInTier-tier_of}
use Rattle.nm_base.specs.HomeWord.{home_word}
use Rattle.nm_base.specs.ShadowWord.{shadow_frame}
use Rattle.nm_action.specs.declared.action.Action.{Action}
use Rattle.nm_action.specs.declared.action.Action.TheVariants.{Lock, Unlock, Read, SetShadow}
use Rattle.nm_action.specs.declared.action.Cell.TheVariants.{Home, Shadow}
use Rattle.nm_action.specs.declared.action.Reply.{Reply}
use Rattle.nm_action.specs.declared.action.Reply.TheVariants.{Done, Word, Busy, Lost}
use Rattle.nm_action.specs.Own.{Own}
use Rattle.nm_view.specs.Views.{View}
use Rattle.nm_permit.specs.Permitted.{MayUnshade}
use Rattle.nm_part.specs.Patterns.{Ends, Follows, CanEnd}
use Rattle.nm_part.proofs.Patterns.{ends-now, each-exit, either-yes, either-other}
use Rattle.nm_compose.specs.declared.act.Act.{Act}
use Rattle.nm_compose.specs.declared.or.Or.{Or}
use Rattle.nm_compose.specs.declared.or.Or.TheVariants.{This, Other}
use Rattle.nm_compose.specs.declared.plan.Next.{Next}
use Rattle.nm_compose.specs.declared.plan.Next.TheVariants.{Run, Over}
use Rattle.nm_compose.specs.Acts.{IsAct, IsActed}
use Rattle.nm_compose.specs.Plans.{IsNewRun, IsNext, IsOver}
use Rattle.nm_compose.specs.Stages.{IsPieceAt, RunsAt}
use Rattle.nm_compose.proofs.Staging.{by-stage, runs-new}
use Rattle.nm_pool.specs.declared.job.PoolEnd.{PoolEnd}
use Rattle.nm_pool.specs.declared.job.PoolEnd.TheVariants.{Got, AtFloor, Level}
use Rattle.nm_pool.specs.declared.job.PoolEnd.TheVariants as ends
use Rattle.nm_pool.specs.declared.job.PoolJob.TheVariants.{Back}
use Rattle.nm_pool.specs.declared.job.PoolMade.{PoolMade}
use Rattle.nm_pool.specs.declared.task.PoolTask.{PoolTask}
use Rattle.nm_pool.specs.Pool.{IsPool}
use Rattle.nm_pool.specs.Given.{pool_made}
use Rattle.nm_pool.specs.Given as given
use Rattle.nm_view.specs.Lists.{erase}
use Rattle.nm_view.specs.Opening.{unscanned}
use Rattle.nm_view.specs.Operations.{owned_frame}
use Rattle.nm_reclaim.specs.declared.sweep.Place.{Place}
use Rattle.nm_reclaim.specs.declared.sweep.ReclaimMade.{ReclaimMade}
use Rattle.nm_reclaim.specs.declared.sweep.Stage.{Stage}
use Rattle.nm_reclaim.specs.declared.sweep.Stage.TheVariants.{Locking, ReadingHome, ReadingShadow, Discarding, Freeing, PuttingBack, Unlocking}
use Rattle.nm_reclaim.specs.declared.sweep.Sweep.{Sweep}
use Rattle.nm_reclaim.specs.Reclaims.{is_shadow_in, pages_from, most_freed, word_in, PutsBack, DiscardsShadow, LeavesPage, VisitAfterLock, Visits}
use Rattle.nm_reclaim.specs.Swept.{IsSwept}
use Rattle.nm_reclaim.specs.Sweeping.{SweepPieceMade, SweepPieceEnd, sweep_piece_made, IsNewSweepPiece, MaySweepPiece, IsSweepPiece, LeavesSweepPiece, SweptMade, sweep_made, MaySweep, IsSweep, SweepLeaves, new_place, sweep_piece_of, sweep_piece_at, reply_of_piece, sweep_left, KnownBy, VisitsFrom, IsAtPage, IsLocked, IsSweepReadingHome, IsReadingShadow, IsDiscarding, IsFreeing, IsSweepPuttingBack, sweep_stages, next_visited, IsNextVisit}
use Rattle.nm_reclaim.proofs.Pages.{IsNextPage, next-page, page-over, pages-next}
use Rattle.nm_reclaim.proofs.Ending.{can-puts, can-leave, can-after-shadow, can-after-home, can-after-lock, can-visits}
use Rattle.nm_reclaim.proofs.Views.{page-fresh, may-unlock, known-there, locked-done, locked-busy, home-none, home-read, home-range, shadow-kept, shadow-read, shadow-range, discarded, freeing-done, unlocked-done, put-back, owned-there, forgets-none}

-- Lists of a piece.

this-split : (action : Action) (g : Geometry) (left : SweepPieceEnd → Own → ℕ → Type 0) (own : Own) (outcome : ℕ) (end : SweepPieceEnd) (front back : Own) → IsSweepPiece (This action) g front end → left end back outcome → own ≡ front ++ back
    → Follows (IsAct action g) (λ reply. left (This reply)) own outcome
this-split action g left own outcome (This reply) front back shown rest is = record { end = reply; front = front; back = back; shown = shown; rest = rest; is = is }
this-split action g left own outcome (Other end) front back shown rest is = absurd shown

-- a list of a single action, and what is left after it
this-follows : (action : Action) (g : Geometry) (left : SweepPieceEnd → Own → ℕ → Type 0) (own : Own) (outcome : ℕ) → Follows (IsSweepPiece (This action) g) left own outcome → Follows (IsAct action g) (λ reply. left (This reply)) own outcome
this-follows action g left own outcome f = this-split action g left own outcome f.end f.front f.back f.shown f.rest f.is

other-split : (made : PoolMade) (g : Geometry) (left : SweepPieceEnd → Own → ℕ → Type 0) (own : Own) (outcome : ℕ) (end : SweepPieceEnd) (front back : Own) → IsSweepPiece (Other made) g front end → left end back outcome → own ≡ front ++ back
    → Follows (IsPool g made.job) (λ end. left (Other end)) own outcome
other-split made g left own outcome (This reply) front back shown rest is = absurd shown
other-split made g left own outcome (Other end) front back shown rest is = record { end = end; front = front; back = back; shown = shown; rest = rest; is = is }

-- a list of a pool task, and what is left after it
other-follows : (made : PoolMade) (g : Geometry) (left : SweepPieceEnd → Own → ℕ → Type 0) (own : Own) (outcome : ℕ) → Follows (IsSweepPiece (Other made) g) left own outcome → Follows (IsPool g made.job) (λ end. left (Other end)) own outcome
other-follows made g left own outcome f = other-split made g left own outcome f.end f.front f.back f.shown f.rest f.is

-- Pieces that run.

abbrev Runs : SweptMade → Place → (Own → ℕ → Type 0) → Geometry → View → View → Type 0
Runs = RunsAt MaySweepPiece IsSweepPiece sweep_stages

abbrev pub place_of : ℕ → ℕ → Stage → Place
place_of page freed stage = record { page = page; freed = freed; stage = stage }

can-next : (g : Geometry) (made : SweptMade) (page : ℕ) (first : View) → MaySweep made g first → (n : ℕ) → CanEnd (VisitsFrom g made.1.asked (page + 1) n)
can-next g made page first may n = can-visits g made.1.asked (pages_from g made.1.asked.skip (page + 1)) n may.may.tier

-- the Lock of the next page
runs-visit : (made : SweptMade) (page freed next : ℕ) (g : Geometry) (first now : View) → MaySweep made g first → IsSwept made.1.asked.skip first now → freed ≤ page → IsNextPage g made.1.asked page freed next
    → Runs made (place_of next freed Locking) (VisitsFrom g made.1.asked page freed) g first now
runs-visit made page freed next g first now may swept few n =
    let at : IsAtPage made next freed g first = record { may = may; exists = n.within; other = n.other; count = omega (arith, few, n.up) } in
    let V : View → Type 0 = λ v. MaySweepPiece (This (Lock next)) g v in
    record {
      begin = subst V (sym swept.is) (record { quiet = tt; allowed = record { range = n.within; permitted = record { fresh = page-fresh made next freed g first at; few = omega (arith, may.may.ops.few) } } });
      known = record { is = refl; known = record { at = at; few = n.few; swept = swept } };
      can = λ own end shown. can-after-lock g made.1.asked next (reply_of_piece end) freed (λ all. VisitsFrom g made.1.asked (next + 1) all) may.may.tier (can-next g made next first may);
      fits = λ own outcome f. rw n.left (either-yes (nat_lt freed (most_freed made.1.asked))
          (Follows (IsAct (Lock next) g) (λ reply. VisitAfterLock g made.1.asked next reply freed (λ all. VisitsFrom g made.1.asked (next + 1) all)))
          (VisitsFrom g made.1.asked (next + 1) freed) own outcome n.few
          (this-follows (Lock next) g (sweep_left made (place_of next freed Locking) g) own outcome f));
    }

-- Read of the home
runs-home : (made : SweptMade) (page freed : ℕ) (g : Geometry) (first now : View) → IsSweepReadingHome made page freed g first now
    → Runs made (place_of page freed ReadingHome) (sweep_left made (place_of page freed Locking) g (This Done)) g first now
runs-home made page freed g first now at = record {
  begin = record { quiet = tt; allowed = record { range = record { page = at.locked.at.exists; cell = refl }; permitted = known-there made page freed g first now at.op (λ o. Unit {0}) at.locked tt } };
  known = record { is = refl; known = at };
  can = λ own end shown. can-after-home g made.1.asked page (word_in (reply_of_piece end)) freed (λ all. VisitsFrom g made.1.asked (page + 1) all) at.locked.at.may.may.tier (can-next g made page first at.locked.at.may);
  fits = λ own outcome f. this-follows (Read page (Home page)) g (sweep_left made (place_of page freed ReadingHome) g) own outcome f;
}

home-some : (word master : ℕ) → word ≡ home_word master → (word == 0) ≡ false
home-some word master is = grind arith

-- Read of the shadow word
runs-shadow : (made : SweptMade) (page freed word master : ℕ) (g : Geometry) (first now : View) → word ≡ home_word master → IsReadingShadow made page freed master g first now
    → Runs made (place_of page freed (ReadingShadow master)) (sweep_left made (place_of page freed ReadingHome) g (This (Word word))) g first now
runs-shadow made page freed word master g first now is at = record {
  begin = record { quiet = tt; allowed = record { range = record { page = at.locked.at.exists; cell = at.frame }; permitted = known-there made page freed g first now at.op (λ o. o.home ≡ Some (home_word master)) at.locked at.home } };
  known = record { is = refl; known = at };
  can = λ own end shown. can-after-shadow g made.1.asked page master (word_in (reply_of_piece end)) freed (λ all. VisitsFrom g made.1.asked (page + 1) all) at.locked.at.may.may.tier (can-next g made page first at.locked.at.may);
  fits = λ own outcome f.
      let some : (word == 0) ≡ false = home-some word master is in
      let frame : word - 1 ≡ master = omega (arith, is) in
      rw (some, frame) (this-follows (Read page (Shadow master)) g (sweep_left made (place_of page freed (ReadingShadow master)) g) own outcome f);
}

-- the Unlock of a page that is left as it is
runs-leave : (made : SweptMade) (page freed : ℕ) (g : Geometry) (first now : View) → IsLocked made page freed g first now
    → Runs made (place_of page freed Unlocking) (LeavesPage g page freed (λ n. VisitsFrom g made.1.asked (page + 1) n)) g first now
runs-leave made page freed g first now at = record {
  begin = record { quiet = tt; allowed = record { range = at.locked.at.exists; permitted = may-unlock made page freed g first now at.op at.locked } };
  known = record { is = refl; known = at };
  can = λ own end shown. can-next g made page first at.locked.at.may freed;
  fits = λ own outcome f. this-follows (Unlock page) g (sweep_left made (place_of page freed Unlocking) g) own outcome f;
}

-- SetShadow
runs-discard : (made : SweptMade) (page freed master shadow : ℕ) (g : Geometry) (first now : View) → IsTier g (tier_of g shadow) → IsDiscarding made page freed master shadow g first now
    → Runs made (place_of page freed (Discarding master shadow)) (DiscardsShadow g page master shadow freed (λ n. VisitsFrom g made.1.asked (page + 1) n)) g first now
runs-discard made page freed master shadow g first now exists at = record {
  begin = record {
    quiet = tt;
    allowed = record {
      range = record { page = at.locked.at.exists; master = at.frame; shadow = tt };
      permitted = known-there made page freed g first now at.op (MayUnshade master) at.locked (record { home = at.home; some = rw at.known at.some });
    };
  };
  known = record { is = refl; known = at };
  can = λ own end shown. can-leave g page freed (λ n. PutsBack g shadow n (λ all. VisitsFrom g made.1.asked (page + 1) all)) (λ n. can-puts g shadow n (λ all. VisitsFrom g made.1.asked (page + 1) all) exists (can-next g made page first at.locked.at.may));
  fits = λ own outcome f. this-follows (SetShadow page master None) g (sweep_left made (place_of page freed (Discarding master shadow)) g) own outcome f;
}

-- the Unlock before a frame is put back
runs-free : (made : SweptMade) (page freed master shadow : ℕ) (end : SweepPieceEnd) (g : Geometry) (first now : View) → IsFreeing made page freed shadow g first now
    → Runs made (place_of page freed (Freeing shadow)) (sweep_left made (place_of page freed (Discarding master shadow)) g end) g first now
runs-free made page freed master shadow end g first now at = record {
  begin = record { quiet = tt; allowed = record { range = at.locked.at.exists; permitted = may-unlock made page freed g first now at.op at.locked } };
  known = record { is = refl; known = at };
  can = λ own end shown. can-puts g shadow freed (λ all. VisitsFrom g made.1.asked (page + 1) all) ((IsInTier-tier_of g shadow at.owned.exists).exists) (can-next g made page first at.locked.at.may);
  fits = λ own outcome f. this-follows (Unlock page) g (sweep_left made (place_of page freed (Freeing shadow)) g) own outcome f;
}

-- the frame is put back
runs-back : (made : SweptMade) (page freed shadow : ℕ) (end : SweepPieceEnd) (g : Geometry) (first now : View) → IsSweepPuttingBack made page freed shadow g first now
    → Runs made (place_of page freed (PuttingBack shadow)) (sweep_left made (place_of page freed (Freeing shadow)) g end) g first now
runs-back made page freed shadow end g first now at = record {
  begin = record {
    geometry = at.at.may.may.geometry;
    is = ap (λ (k : Geometry). pool_made k (Back shadow)) at.at.may.same;
    work = (at.owned.exists, owned-there made.1.asked.skip shadow g first.owned now.owned at.owned);
    turn = ap (λ (v : View). v.turn) at.rest ∙ at.at.may.may.turn;
  };
  known = record { is = refl; known = at };
  can = λ own end shown. can-next g made page first at.at.may (freed + 1);
  fits = λ own outcome f. other-follows (pool_made made.0 (Back shadow)) g (sweep_left made (place_of page freed (PuttingBack shadow)) g) own outcome f;
}

-- What a plan gives next.

-- the sweep gives this piece, where this was left
abbrev pub Gives : Sweep → Or Act PoolTask → (Own → ℕ → Type 0) → Geometry → View → View → Type 0
Gives new piece was g first now =
    IsNewRun sweep_piece_made IsNewSweepPiece MaySweepPiece IsSweepPiece (IsPieceAt sweep_stages (sweep_made new.geometry.now new.made) new.place) (sweep_left (sweep_made new.geometry.now new.made) new.place) was piece g first now

-- it is over, where this was left
abbrev pub IsOverWith : Sweep → (Own → ℕ → Type 0) → Geometry → View → View → ℕ → Type 0
IsOverWith new was g first now outcome = IsOver was (SweepLeaves (sweep_made new.geometry.now new.made)) (λ g freed. new.place.freed ≡ freed) g first now outcome

-- what it does next, where this was left
abbrev pub IsNextOf : Sweep → Sweep → (Own → ℕ → Type 0) → Geometry → View → View → Next (Or Act PoolTask) ℕ → Type 0
IsNextOf old new was g first now next =
    IsNext sweep_piece_made IsNewSweepPiece MaySweepPiece IsSweepPiece (IsPieceAt sweep_stages (sweep_made new.geometry.now new.made) new.place) (sweep_left (sweep_made new.geometry.now new.made) new.place) was
    (SweepLeaves (sweep_made old.geometry.now old.made)) (λ g freed. new.place.freed ≡ freed) g first now next

-- as it comes to a stage at its page
pub gives-now : (old new : Sweep) (stage : Stage) (piece : Or Act PoolTask) (was : Own → ℕ → Type 0) (g : Geometry) (first now : View)
    → new ≡ record old { place = record old.place { stage = stage } } → sweep_piece_made piece ≡ sweep_piece_at old.geometry.now new.place → IsNewSweepPiece piece
    → Runs (sweep_made old.geometry.now old.made) (place_of old.place.page old.place.freed stage) was g first now → Gives new piece was g first now
gives-now old new stage piece was g first now is makes fresh run =
    let P : Place → Type 0 = λ p. sweep_piece_made piece ≡ sweep_piece_at old.geometry.now p in
    runs-new sweep_piece_made IsNewSweepPiece MaySweepPiece IsSweepPiece sweep_stages was (sweep_made old.geometry.now old.made) (sweep_made new.geometry.now new.made) (place_of old.place.page old.place.freed stage) new.place piece g first now
    (ap (λ (s : Sweep). sweep_made s.geometry.now s.made) is) (ap (λ (s : Sweep). s.place) is) (subst P (ap (λ (s : Sweep). s.place) is) makes) fresh run

pub over-left : (g : Geometry) (asked : ReclaimMade) (page freed : ℕ) → next_visited g asked page freed ≡ None → VisitsFrom g asked page freed [] freed
over-left g asked page freed none = elim (page-over g asked page freed none) [
  | inl enough ↦ each-exit (Visits g asked) (pages_from g asked.skip page) freed (λ all. Ends all) [] freed
      (λ item later h. either-other (nat_lt freed (most_freed asked)) (Follows (IsAct (Lock item) g) (λ reply. VisitAfterLock g asked item reply freed later)) (later freed) [] freed enough h) (ends-now freed)
  | inr empty ↦ rw empty (ends-now freed)
]

-- the next visit, or the end
pub next-visit : (page freed : ℕ) (old new : Sweep) (next : Next (Or Act PoolTask) ℕ) (g : Geometry) (first later : View)
    → IsNextVisit page freed old new next → MaySweep (sweep_made old.geometry.now old.made) g first → IsSwept old.made.asked.skip first later → freed ≤ page
    → IsNextOf old new (VisitsFrom g old.made.asked page freed) g first later next
next-visit page freed old new (Run piece) g first later v may swept few =
    let n : IsNextPage g old.made.asked page freed v.next = next-page g old.made.asked page freed v.next (subst (λ (k : Geometry). next_visited k old.made.asked page freed ≡ Some v.next) may.same v.some) in
    runs-new sweep_piece_made IsNewSweepPiece MaySweepPiece IsSweepPiece sweep_stages (VisitsFrom g old.made.asked page freed) (sweep_made old.geometry.now old.made) (sweep_made new.geometry.now new.made) (place_of v.next freed Locking) new.place piece g first later
    (ap (λ (s : Sweep). sweep_made s.geometry.now s.made) v.new_is) (ap (λ (s : Sweep). s.place) v.new_is) v.made v.fresh
    (runs-visit (sweep_made old.geometry.now old.made) page freed v.next g first later may swept few n)
next-visit page freed old new (Over outcome) g first later v may swept few = record {
  shown = rw v.is (over-left g old.made.asked page freed (subst (λ (k : Geometry). next_visited k old.made.asked page freed ≡ None) may.same v.none));
  left = swept;
  over = ap (λ (s : Sweep). s.place.freed) v.new_is ∙ sym v.is;
}

-- The first piece.

pub runs-first : (made : SweptMade) (g : Geometry) (view : View) → MaySweep made g view → Runs made (place_of made.1.first 0 Locking) (IsSweep made g) g view view
runs-first made g view may =
    runs-visit made made.1.first 0 made.1.first g view view may (record { is = refl; owned = forgets-none made.1.asked.skip view.owned }) (omega arith)
    (record { few = may.visits.few; within = may.visits.exists; other = may.visits.other; up = omega arith; left = pages-next g made.1.asked.skip made.1.first may.visits.exists may.visits.other })

-- Replies and ends.

named-home : (g : Geometry) (word master : ℕ) → frame_count g ≤ 4096 → word ≤ frame_count g → word ≢ 0 → master ≡ word - 1 → word ≡ home_word master
named-home g word master few range some is =
    omega (arith, some, is)

is-zero : (word : ℕ) → word ≡ 0 → (word == 0) ≡ true
is-zero word none = grind arith

shadow-some : (g : Geometry) (tier word : ℕ) → is_shadow_in g tier word ≡ true → word ≢ 0
shadow-some g tier word is none = grind arith

set-done : (g : Geometry) (now later : View) (page master : ℕ) (reply : Reply) → IsActed g now (SetShadow page master None) reply later → IsActed g now (SetShadow page master None) Done later
set-done g now later page master Done a = a
set-done g now later page master (Word w) a = absurd a.fits.kind
set-done g now later page master (Busy w) a = absurd a.fits.kind
set-done g now later page master (Lost w) a = absurd a.fits.kind

unlock-done : (g : Geometry) (now later : View) (page : ℕ) (reply : Reply) → IsActed g now (Unlock page) reply later → IsActed g now (Unlock page) Done later
unlock-done g now later page Done a = a
unlock-done g now later page (Word w) a = absurd a.fits.kind
unlock-done g now later page (Busy w) a = absurd a.fits.kind
unlock-done g now later page (Lost w) a = absurd a.fits.kind

pub back-left : (g : Geometry) (shadow : ℕ) (now later : View) (own : Own) (end : PoolEnd) → given.Leaves g (Back shadow) now end later → IsPool g (Back shadow) own end
    → later ≡ record now { turn = None; scan = unscanned; owned = erase owned_frame shadow now.owned }
back-left g shadow now later own (Got f) left shown = absurd shown.work
back-left g shadow now later own (AtFloor n) left shown = absurd shown.work
back-left g shadow now later own (Level n) left shown = absurd shown.work
back-left g shadow now later own ends.Back left shown = left

-- The pieces after each stage.

-- what is to be shown after a piece needs to be shown at its stage
pub at-stage : (old : Sweep) (here : Stage) (goal : Stage → SweepPieceEnd → Type 0) (end so : SweepPieceEnd) (g : Geometry) (first now later : View) (piece : SweepPieceMade)
    → old.place.stage ≡ here → end ≡ so → IsPieceAt sweep_stages (sweep_made old.geometry.now old.made) old.place g first now piece → LeavesSweepPiece piece g now end later
    → (KnownBy (sweep_made old.geometry.now old.made) old.place.page old.place.freed here g first now → LeavesSweepPiece (sweep_piece_of old.geometry.now old.place.page here) g now so later → goal here so) → goal old.place.stage end
at-stage old here goal end so g first now later piece at ended known left show =
    by-stage sweep_stages LeavesSweepPiece (λ (place : Place) (end : SweepPieceEnd). goal place.stage end) (sweep_made old.geometry.now old.made) old.place (place_of old.place.page old.place.freed here) end so g first now later piece
    (ap (λ (s : Stage). place_of old.place.page old.place.freed s) at) ended known left show

abbrev pub Was : Sweep → Geometry → Stage → SweepPieceEnd → Own → ℕ → Type 0
Was old g stage end = sweep_left (sweep_made old.geometry.now old.made) (place_of old.place.page old.place.freed stage) g end

-- a Lock gives the first page
pub begins : (old new : Sweep) (piece : Or Act PoolTask) (g : Geometry) (view : View)
    → old.place ≡ new_place old.made → new ≡ record old { place = record old.place { stage = Locking } } → sweep_piece_made piece ≡ sweep_piece_at old.geometry.now new.place → IsNewSweepPiece piece
    → MaySweep (sweep_made old.geometry.now old.made) g view → Gives new piece (IsSweep (sweep_made old.geometry.now old.made) g) g view view
begins old new piece g view opens is makes fresh may =
    let R : Place → Type 0 = λ p. Runs (sweep_made old.geometry.now old.made) (place_of p.page p.freed Locking) (IsSweep (sweep_made old.geometry.now old.made) g) g view view in
    gives-now old new Locking piece (IsSweep (sweep_made old.geometry.now old.made) g) g view view is makes fresh (subst R (sym opens) (runs-first (sweep_made old.geometry.now old.made) g view may))

-- the plan has come from this stage to that one
pub record IsGone (old new : Sweep) (here there : Stage) (piece : Or Act PoolTask) (end so : SweepPieceEnd) : Type 0 where
  pub from : old.place.stage ≡ here
  pub ended : end ≡ so
  pub is : new ≡ record old { place = record old.place { stage = there } }
  pub makes : sweep_piece_made piece ≡ sweep_piece_at old.geometry.now new.place
  pub fresh : IsNewSweepPiece piece

-- the next piece, by what runs at the stage
gone : (old new : Sweep) (here there : Stage) (piece : Or Act PoolTask) (end so : SweepPieceEnd) (g : Geometry) (first now later : View) (runs : SweepPieceMade)
    → IsGone old new here there piece end so → IsPieceAt sweep_stages (sweep_made old.geometry.now old.made) old.place g first now runs → LeavesSweepPiece runs g now end later
    → (KnownBy (sweep_made old.geometry.now old.made) old.place.page old.place.freed here g first now → LeavesSweepPiece (sweep_piece_of old.geometry.now old.place.page here) g now so later
    → Runs (sweep_made old.geometry.now old.made) (place_of old.place.page old.place.freed there) (Was old g here so) g first later)
    → Gives new piece (Was old g old.place.stage end) g first later
gone old new here there piece end so g first now later runs went known left run =
    at-stage old here (λ stage end. Gives new piece (Was old g stage end) g first later) end so g first now later runs went.from went.ended known left
    (λ k l. gives-now old new there piece (Was old g here so) g first later went.is went.makes went.fresh (run k l))

-- the page was locked
pub after-lock : (old new : Sweep) (piece : Or Act PoolTask) (end : SweepPieceEnd) (g : Geometry) (first now later : View) (runs : SweepPieceMade)
    → IsGone old new Locking ReadingHome piece end (This Done) → IsPieceAt sweep_stages (sweep_made old.geometry.now old.made) old.place g first now runs → LeavesSweepPiece runs g now end later
    → Gives new piece (Was old g old.place.stage end) g first later
after-lock old new piece end g first now later runs is known left =
    let made : SweptMade = sweep_made old.geometry.now old.made in
    gone old new Locking ReadingHome piece end (This Done) g first now later runs is known left
    (λ k l. runs-home made old.place.page old.place.freed g first later (locked-done made old.place.page old.place.freed g first now later k l))

-- there is no home
pub after-no-home : (old new : Sweep) (piece : Or Act PoolTask) (end : SweepPieceEnd) (word : ℕ) (g : Geometry) (first now later : View) (runs : SweepPieceMade) → word ≡ 0
    → IsGone old new ReadingHome Unlocking piece end (This (Word word)) → IsPieceAt sweep_stages (sweep_made old.geometry.now old.made) old.place g first now runs → LeavesSweepPiece runs g now end later
    → Gives new piece (Was old g old.place.stage end) g first later
after-no-home old new piece end word g first now later runs none is known left =
    let made : SweptMade = sweep_made old.geometry.now old.made in
    gone old new ReadingHome Unlocking piece end (This (Word word)) g first now later runs is known left
    (λ k l. let test : (word == 0) ≡ true = is-zero word none in rw test (runs-leave made old.place.page old.place.freed g first later (home-none made old.place.page old.place.freed g first now later word k l)))

-- the home was read
pub after-home : (old new : Sweep) (piece : Or Act PoolTask) (end : SweepPieceEnd) (word master : ℕ) (g : Geometry) (first now later : View) (runs : SweepPieceMade) → word ≢ 0 → master ≡ word - 1
    → IsGone old new ReadingHome (ReadingShadow master) piece end (This (Word word)) → IsPieceAt sweep_stages (sweep_made old.geometry.now old.made) old.place g first now runs → LeavesSweepPiece runs g now end later
    → Gives new piece (Was old g old.place.stage end) g first later
after-home old new piece end word master g first now later runs some read is known left =
    let made : SweptMade = sweep_made old.geometry.now old.made in
    gone old new ReadingHome (ReadingShadow master) piece end (This (Word word)) g first now later runs is known left
    (λ k l.
    let few = home-range made old.place.page old.place.freed g first now later word k l in
    let named : word ≡ home_word master = named-home g word master (k.locked.at.may.may.geometry.ranges.1.3) few some read in
    runs-shadow made old.place.page old.place.freed word master g first later named (home-read made old.place.page old.place.freed g first now later word master k l named))

-- the shadow is not in the tier, or there is none
pub after-kept : (old new : Sweep) (piece : Or Act PoolTask) (end : SweepPieceEnd) (master word : ℕ) (g : Geometry) (first now later : View) (runs : SweepPieceMade) → is_shadow_in old.geometry.now old.made.asked.tier word ≡ false
    → IsGone old new (ReadingShadow master) Unlocking piece end (This (Word word)) → IsPieceAt sweep_stages (sweep_made old.geometry.now old.made) old.place g first now runs → LeavesSweepPiece runs g now end later
    → Gives new piece (Was old g old.place.stage end) g first later
after-kept old new piece end master word g first now later runs out is known left =
    let made : SweptMade = sweep_made old.geometry.now old.made in
    gone old new (ReadingShadow master) Unlocking piece end (This (Word word)) g first now later runs is known left
    (λ k l.
    let here : is_shadow_in g made.1.asked.tier word ≡ false = subst (λ (x : Geometry). is_shadow_in x old.made.asked.tier word ≡ false) k.locked.at.may.same out in
    rw here (runs-leave made old.place.page old.place.freed g first later (shadow-kept made old.place.page old.place.freed master g first now later word k l)))

-- the shadow is in the tier
pub after-shadow : (old new : Sweep) (piece : Or Act PoolTask) (end : SweepPieceEnd) (master word shadow : ℕ) (g : Geometry) (first now later : View) (runs : SweepPieceMade) → is_shadow_in old.geometry.now old.made.asked.tier word ≡ true → shadow ≡ shadow_frame word
    → IsGone old new (ReadingShadow master) (Discarding master shadow) piece end (This (Word word)) → IsPieceAt sweep_stages (sweep_made old.geometry.now old.made) old.place g first now runs → LeavesSweepPiece runs g now end later
    → Gives new piece (Was old g old.place.stage end) g first later
after-shadow old new piece end master word shadow g first now later runs in-tier frame is known left =
    let made : SweptMade = sweep_made old.geometry.now old.made in
    gone old new (ReadingShadow master) (Discarding master shadow) piece end (This (Word word)) g first now later runs is known left
    (λ k l.
    let here : is_shadow_in g made.1.asked.tier word ≡ true = subst (λ (x : Geometry). is_shadow_in x old.made.asked.tier word ≡ true) k.locked.at.may.same in-tier in
    let some : word ≢ 0 = shadow-some g made.1.asked.tier word here in
    let exists = shadow-range made old.place.page old.place.freed master g first now later word k l some in
    let S : ℕ → Type 0 = λ s. Runs made (place_of old.place.page old.place.freed (Discarding master s)) (Was old g (ReadingShadow master) (This (Word word))) g first later in
    subst S (sym frame) (rw here (runs-discard made old.place.page old.place.freed master (shadow_frame word) g first later ((IsInTier-tier_of g (shadow_frame word) exists).exists)
    (shadow-read made old.place.page old.place.freed master g first now later word k l some))))

-- the shadow was taken away
pub after-discard : (old new : Sweep) (piece : Or Act PoolTask) (end : SweepPieceEnd) (reply : Reply) (master shadow : ℕ) (g : Geometry) (first now later : View) (runs : SweepPieceMade)
    → IsGone old new (Discarding master shadow) (Freeing shadow) piece end (This reply) → IsPieceAt sweep_stages (sweep_made old.geometry.now old.made) old.place g first now runs → LeavesSweepPiece runs g now end later
    → Gives new piece (Was old g old.place.stage end) g first later
after-discard old new piece end reply master shadow g first now later runs is known left =
    let made : SweptMade = sweep_made old.geometry.now old.made in
    gone old new (Discarding master shadow) (Freeing shadow) piece end (This reply) g first now later runs is known left
    (λ k l. runs-free made old.place.page old.place.freed master shadow (This reply) g first later (discarded made old.place.page old.place.freed master shadow g first now later k (set-done g now later old.place.page master reply l)))

-- the page was unlocked before the frame is put back
pub after-free : (old new : Sweep) (piece : Or Act PoolTask) (end : SweepPieceEnd) (reply : Reply) (shadow : ℕ) (g : Geometry) (first now later : View) (runs : SweepPieceMade)
    → IsGone old new (Freeing shadow) (PuttingBack shadow) piece end (This reply) → IsPieceAt sweep_stages (sweep_made old.geometry.now old.made) old.place g first now runs → LeavesSweepPiece runs g now end later
    → Gives new piece (Was old g old.place.stage end) g first later
after-free old new piece end reply shadow g first now later runs is known left =
    let made : SweptMade = sweep_made old.geometry.now old.made in
    gone old new (Freeing shadow) (PuttingBack shadow) piece end (This reply) g first now later runs is known left
    (λ k l. runs-back made old.place.page old.place.freed shadow (This reply) g first later (freeing-done made old.place.page old.place.freed shadow g first now later k (unlock-done g now later old.place.page reply l)))

-- the visit of a page is over
pub record IsVisitOver (page freed : ℕ) (old new : Sweep) (here : Stage) (given : Next (Or Act PoolTask) ℕ) (end so : SweepPieceEnd) : Type 0 where
  pub from : old.place.stage ≡ here
  pub ended : end ≡ so
  pub next : IsNextVisit page freed old new given

-- the page was busy
pub after-busy : (old new : Sweep) (next : Next (Or Act PoolTask) ℕ) (end : SweepPieceEnd) (word : ℕ) (g : Geometry) (first now later : View) (runs : SweepPieceMade)
    → IsVisitOver (old.place.page + 1) old.place.freed old new Locking next end (This (Busy word)) → IsPieceAt sweep_stages (sweep_made old.geometry.now old.made) old.place g first now runs → LeavesSweepPiece runs g now end later
    → IsNextOf old new (Was old g old.place.stage end) g first later next
after-busy old new next end word g first now later runs is known left =
    let made : SweptMade = sweep_made old.geometry.now old.made in
    at-stage old Locking (λ stage end. IsNextOf old new (Was old g stage end) g first later next) end (This (Busy word)) g first now later runs is.from is.ended known left
    (λ k l. next-visit (old.place.page + 1) old.place.freed old new next g first later is.next k.at.may (locked-busy made old.place.page old.place.freed word g first now later k l) (omega (arith, k.at.count)))

-- the page was unlocked as it was
pub after-unlock : (old new : Sweep) (next : Next (Or Act PoolTask) ℕ) (end : SweepPieceEnd) (reply : Reply) (g : Geometry) (first now later : View) (runs : SweepPieceMade)
    → IsVisitOver (old.place.page + 1) old.place.freed old new Unlocking next end (This reply) → IsPieceAt sweep_stages (sweep_made old.geometry.now old.made) old.place g first now runs → LeavesSweepPiece runs g now end later
    → IsNextOf old new (Was old g old.place.stage end) g first later next
after-unlock old new next end reply g first now later runs is known left =
    let made : SweptMade = sweep_made old.geometry.now old.made in
    at-stage old Unlocking (λ stage end. IsNextOf old new (Was old g stage end) g first later next) end (This reply) g first now later runs is.from is.ended known left
    (λ k l. next-visit (old.place.page + 1) old.place.freed old new next g first later is.next k.locked.at.may
    (unlocked-done made old.place.page old.place.freed g first now later k (unlock-done g now later old.place.page reply l)) (omega (arith, k.locked.at.count)))

-- the frame was put back
pub after-back : (old new : Sweep) (next : Next (Or Act PoolTask) ℕ) (end : SweepPieceEnd) (shadow : ℕ) (pool : PoolEnd) (g : Geometry) (first now later : View) (own : Own) (runs : SweepPieceMade)
    → IsVisitOver (old.place.page + 1) (old.place.freed + 1) old new (PuttingBack shadow) next end (Other pool) → IsPieceAt sweep_stages (sweep_made old.geometry.now old.made) old.place g first now runs
    → IsSweepPiece runs g own end → LeavesSweepPiece runs g now end later → IsNextOf old new (Was old g old.place.stage end) g first later next
after-back old new next end shadow pool g first now later own runs is known shown left =
    let made : SweptMade = sweep_made old.geometry.now old.made in
    by-stage sweep_stages (λ (m : SweepPieceMade) k v (x : SweepPieceEnd) w. LeavesSweepPiece m k v x w × IsSweepPiece m k own x) (λ (place : Place) (end : SweepPieceEnd). IsNextOf old new (Was old g place.stage end) g first later next) made old.place
    (place_of old.place.page old.place.freed (PuttingBack shadow)) end (Other pool) g first now later runs (ap (λ (s : Stage). place_of old.place.page old.place.freed s) is.from) is.ended known (left, shown)
    (λ k l. next-visit (old.place.page + 1) (old.place.freed + 1) old new next g first later is.next k.at.may
    (put-back made old.place.page old.place.freed shadow g first now later k (back-left g shadow now later own pool l.0 l.1)) (omega (arith, k.at.count)))

-- no more are freed than pages were visited
pub freed-fits : (old : Sweep) (shadow : ℕ) (end so : SweepPieceEnd) (g : Geometry) (first now later : View) (runs : SweepPieceMade) → old.place.stage ≡ PuttingBack shadow → end ≡ so
    → IsPieceAt sweep_stages (sweep_made old.geometry.now old.made) old.place g first now runs → LeavesSweepPiece runs g now end later → Fits w32 (old.place.freed + 1)
freed-fits old shadow end so g first now later runs is ended known left =
    at-stage old (PuttingBack shadow) (λ stage end. Fits w32 (old.place.freed + 1)) end so g first now later runs is ended known left
    (λ k l. omega (arith, k.at.count, k.at.exists, k.at.may.may.geometry.room, k.at.may.may.geometry.ranges.1.3))

-- the shadow is a frame
pub shadow-frame : (old : Sweep) (master word : ℕ) (end : SweepPieceEnd) (g : Geometry) (first now later : View) (runs : SweepPieceMade) → old.place.stage ≡ ReadingShadow master → end ≡ This (Word word)
    → IsPieceAt sweep_stages (sweep_made old.geometry.now old.made) old.place g first now runs → LeavesSweepPiece runs g now end later → word ≢ 0 → shadow_frame word < frame_count old.geometry.now
shadow-frame old master word end g first now later runs is ended known left some =
    at-stage old (ReadingShadow master) (λ stage end. shadow_frame word < frame_count old.geometry.now) end (This (Word word)) g first now later runs is ended known left
    (λ k l. let F : Geometry → Type 0 = λ x. shadow_frame word < frame_count x in
    subst F (sym k.locked.at.may.same) (shadow-range (sweep_made old.geometry.now old.made) old.place.page old.place.freed master g first now later word k l some))

-- The steps before the page is taken out of the table.
use Rattle.std.proofs.Common.{◌≡◌, ◌≢◌, ℕ, suc, ◌+◌, ◌-◌, ◌<◌, ◌≤◌, ◌==◌, ◌&&◌, not, if◌then◌else◌, cond, Bool, true, false, List, [], ◌∷◌, ◌++◌, map, length, All, Option, Some, None, IsSome, IsSomeAnd, inl, inr, refl, sym, ap, ◌∙◌, subst, arith}
use Rattle.std.specs.Option.{IfSome}
use Rattle.std.specs.List.{filter}
use Rattle.std.proofs.lemmas.Bool.Decides.{nat_tests}
use Rattle.nm_base.specs.Geometry.{Geometry, IsGeometry, tier_of, backing_page}
use Rattle.nm_base.specs.Ranges.{IsFrame}
use Rattle.nm_base.specs.HomeWord.{home_word}
use Rattle.nm_base.specs.ShadowWord.{shadow_frame, NamesShadow}
use Rattle.nm_base.proofs.ShadowWords.{shadow_frame-NamesShadow}
use Rattle.nm_base.proofs.Tiers.{IsInTier-lt}
use Rattle.nm_action.specs.declared.action.Action.TheVariants.{Lock, Unlock, Mark, Read, SetShadow}
use Rattle.nm_action.specs.declared.action.Cell.TheVariants as cells
use Rattle.nm_action.specs.declared.action.Reply.{Reply}
use Rattle.nm_action.specs.declared.action.Reply.TheVariants.{Done, Word, Busy, Lost}
use Rattle.nm_action.specs.Own.{Own}
use Rattle.nm_view.specs.declared.view.Fill.TheVariants.{Raw}
use Rattle.nm_view.specs.declared.view.Owned.{Owned}
use Rattle.nm_view.specs.declared.view.Scanned.{Scanned}
use Rattle.nm_view.specs.Lists.{find, edit, erase, first, itself, Once}
use Rattle.nm_view.specs.Views.{Op, View, most_ops}
use Rattle.nm_view.specs.Opening.{opened, unscanned}
use Rattle.nm_view.specs.Operations.{page_of, owned_frame, op_on, IsLookedMapped, IsLookedOver}
use Rattle.nm_view.proofs.Finds.{find_put}
use Rattle.nm_view.proofs.Items.{all_head, all_tail, more, none_left}
use Rattle.nm_permit.specs.Permitted.{MayLock, MayUnlock, MayRead, MayUnshade}
use Rattle.nm_event.specs.After.{after_of, owning, spoiled}
use Rattle.nm_event.specs.Fitting.{IsNotOwned, IsReadOf, IsHomeRead, IsShadowRead, IsNewsOfShadow}
use Rattle.nm_part.specs.Patterns.{Ends, Follows, Either, CanEnd}
use Rattle.nm_part.proofs.Patterns.{ends-now, over-at-once, can-ends, either-yes}
use Rattle.nm_compose.specs.Acts.{MayAct, IsAct, IsActed}
use Rattle.nm_compose.specs.declared.or.Or.TheVariants.{This, Other}
use Rattle.nm_pool.specs.Pool.{IsPool}
use Rattle.nm_pool.specs.Given.{pool_made, MayBegin, Leaves, released, IsGiven}
use Rattle.nm_pool.specs.declared.job.PoolJob.TheVariants.{Take, Back}
use Rattle.nm_pool.specs.declared.job.PoolEnd.{PoolEnd}
use Rattle.nm_pool.specs.declared.job.PoolEnd.TheVariants as pools
use Rattle.nm_base.specs.declared.geometry.VPage.{VPage}
use Rattle.nm_view.specs.Opening.{is_mapped_to}
use Rattle.nm_vpages.specs.VPages.{most_vpages, vpages_among, vpages_of}
use Rattle.nm_mappings.specs.declared.visits.Visit.TheVariants as visits
use Rattle.nm_mappings.specs.Visits.{IsVisits, MayVisit, IsVisited, looks_made, arms_made, mapped_of, visited}
use Rattle.nm_mappings.proofs.Operations.{visited-look}
use Rattle.nm_mappings.proofs.Visited.{arms-left}
use Rattle.nm_copying.specs.Copying.{told}
use Rattle.nm_transfer.proofs.Held.{edit-one}
use Rattle.nm_transfer.proofs.Lists.{erase-put}
use Rattle.nm_prepare.specs.Worn.{is_worn}
use Rattle.nm_prepare.specs.Preparing.{is_slow_home, tier_above, floor_above}
use Rattle.nm_prepare.proofs.Found.{vpages-all, vpages-has, looked-over, found-mapped, found-all}
use Rattle.nm_prepare.proofs.Taking.{above-home}
use Rattle.nm_locked.specs.declared.choose.ChooseMade.{ChooseMade}
use Rattle.nm_locked.specs.declared.choose.Early.{Early}
use Rattle.nm_locked.specs.declared.choose.Early.TheVariants.{NoFrame, Gone, Worn}
use Rattle.nm_locked.specs.declared.choose.Chosen.{Chosen}
use Rattle.nm_locked.specs.declared.choose.Chosen.TheVariants as ends
use Rattle.nm_locked.specs.declared.choose.Stage.TheVariants.{Locking, Marking, Unlocking, ReadingHome, Looking, Arming, Taking, ReadingShadow, Unshading, PuttingBack}
use Rattle.nm_locked.specs.Choosing.{UnlocksInMove, ClosesInMove, ArmsAll, PutsBackInMove, DiscardsInMove, ReadsShadowInMove, AfterTakeInMove, TakesInMove, AfterLooksInMove, LooksInMove, AfterHomeInMove, ReadsHomeInMove, AfterLockInMove, IsChoosing}
use Rattle.nm_locked.specs.Chosen.{MayChoose, opened_view, move_looked_op, IsSlowHomeInMove, HasSeenInMove, IsNewFrameInMove, HasReadyInMove, HasClosedInMove}
use Rattle.nm_locked.specs.Stages.{PieceMadeInMove, PieceEndInMove, IsPieceInMove, PieceLeavesInMove, move_reply_in, move_told_in, move_found_in, pool_in, move_lock_stage, move_arm_stage, move_looked_stage, move_look_stage, move_home_stage, IsLockingInMove, IsOpenInMove, IsReadingHomeInMove, IsLookingInMove, IsArmingInMove, IsTakingInMove, HasGot, IsReadingShadowInMove, HasShadowInMove, IsUnshadingInMove, IsPuttingBackInMove}
use Rattle.nm_locked.proofs.Opened.{opened-on, opened-some, opened-some-of, after-lock, after-read, after-unshade, after-unlock, after-task}
use Rattle.nm_locked.proofs.Ending.{can-unlocks, can-closes, can-arms, can-puts-back, can-discards, can-after-take, can-after-looks, can-after-home, can-after-lock}
use Rattle.nm_locked.proofs.Runs.{RunsChoose, EndsSo, act-run, visits-run, task-run, runs-as}
use Rattle.nm_mappings.proofs.Lists.{vpage-there}

-- The early end.

pub some-is : {A : Type 0} (o : Option A) (x : A) → o ≡ Some x → IsSome o
some-is {A} o x e = subst (λ (o : Option A). IsSome o) (sym e) refl

pub runs-marking : (made : ChooseMade) (early : Early) (g : Geometry) (view now : View) → IsOpenInMove made g view now → RunsChoose made (Marking early) (ClosesInMove g made early) g view now
runs-marking made early g view now h =
    let on : op_on now made.page ≡ Some h.op = ap (λ (v : View). op_on v made.page) h.is ∙ opened-on h.op view.owned h.scan made.page view h.page_is in
    act-run made (Marking early) (λ marked. UnlocksInMove g made early) (Mark made.page 2 0) g view now refl
    (record { quiet = tt; allowed = record { range = h.may.page; permitted = inr (record { pending = refl; none = refl; op = some-is (op_on now made.page) h.op on }) } }) h
    (λ own outcome f. f) (λ end. can-unlocks g made early)

runs-unlocking : (made : ChooseMade) (early : Early) (g : Geometry) (view now : View) → IsOpenInMove made g view now → RunsChoose made (Unlocking early) (UnlocksInMove g made early) g view now
runs-unlocking made early g view now h =
    act-run made (Unlocking early) (λ unlocked. Ends (ends.Closed early)) (Unlock made.page) g view now refl
    (record { quiet = tt; allowed = record { range = h.may.page; permitted = opened-some h.op view.owned h.scan made.page view now (MayUnlock g) h.page_is h.is h.unlock } }) h
    (λ own outcome f. f) (λ end. can-ends (ends.Closed early))

open-at : (made : ChooseMade) (g : Geometry) (view now later : View) → later ≡ now → IsOpenInMove made g view now → IsOpenInMove made g view later
open-at made g view now later e h = subst (λ (v : View). IsOpenInMove made g view v) (sym e) h

pub after-marking : (made : ChooseMade) (early : Early) (g : Geometry) (view now later : View) (own : Own) (end : PieceEndInMove) → IsOpenInMove made g view now → EndsSo own (This (Mark made.page 2 0)) g now end later
    → RunsChoose made (Unlocking early) (UnlocksInMove g made early) g view later
after-marking made early g view now later own (This reply) h a = runs-unlocking made early g view later (open-at made g view now later a.0.is h)
after-marking made early g view now later own (Other x) h a = absurd a.0

pub after-unlocking : (made : ChooseMade) (g : Geometry) (view now later : View) (own : Own) (end : PieceEndInMove) → IsOpenInMove made g view now → EndsSo own (This (Unlock made.page)) g now end later → HasClosedInMove made.page view later
after-unlocking made g view now later own (This Done) h a = record {
  scan = h.scan;
  is = a.0.is ∙ ap (λ (v : View). after_of g v (Unlock made.page) Done) h.is ∙ after-unlock g h.op view.owned h.scan made.page view h.page_is h.may.none;
}
after-unlocking made g view now later own (This (Word w)) h a = absurd a.0.fits.kind
after-unlocking made g view now later own (This (Busy w)) h a = absurd a.0.fits.kind
after-unlocking made g view now later own (This (Lost w)) h a = absurd a.0.fits.kind
after-unlocking made g view now later own (Other x) h a = absurd a.0

-- an operation of which nothing was changed may be closed
open-looked : (made : ChooseMade) (g : Geometry) (view now : View) (home shadow : Option ℕ) (looked : List (ℕ × ℕ)) (scan : Scanned) → MayChoose g made g view
    → now ≡ opened_view (move_looked_op made.page view.room.aliases home shadow looked) view.owned scan view → IsOpenInMove made g view now
open-looked made g view now home shadow looked scan may e = record {
  may = may;
  op = move_looked_op made.page view.room.aliases home shadow looked;
  page_is = refl;
  unlock = record { back = refl; flushed = record { made = refl; seen = tt }; phase = λ e. cc };
  scan = scan;
  is = e;
}

-- these virtual pages are armed, and the work ends
pub runs-arms : (made : ChooseMade) (early : Early) (pages : List ℕ) (g : Geometry) (view now : View) → IsArmingInMove made pages g view now → RunsChoose made (move_arm_stage early pages) (ArmsAll g made early pages) g view now
runs-arms made early [] g view now h =
    runs-as made (Marking early) (ClosesInMove g made early) (ArmsAll g made early []) g view now
    (λ own outcome c. over-at-once (IsVisits (arms_made made.page []) g) (λ armed. ClosesInMove g made early) [] own outcome (ends-now []) c) (runs-marking made early g view now h.opened)
runs-arms made early (v ∷ vs) g view now h =
    let may : MayVisit (arms_made made.page (v ∷ vs)) g now = record {
      of = h.of;
      each = opened-some h.opened.op view.owned h.opened.scan made.page view now (λ o. All (λ u. IsLookedMapped o.looked o.taken u) (v ∷ vs)) h.opened.page_is h.opened.is h.mapped;
    } in
    visits-run made (Arming early (v ∷ vs)) (λ armed. ClosesInMove g made early) (arms_made made.page (v ∷ vs)) g view now refl may h (λ own outcome f. f) (λ end. can-closes g made early)

pub after-arming : (made : ChooseMade) (early : Early) (pages : List ℕ) (g : Geometry) (view now later : View) (own : Own) (end : PieceEndInMove) → IsArmingInMove made pages g view now → EndsSo own (Other (This (arms_made made.page pages))) g now end later
    → RunsChoose made (Marking early) (ClosesInMove g made early) g view later
after-arming made early pages g view now later own (This x) h a = absurd a.0
after-arming made early pages g view now later own (Other (Other x)) h a = absurd a.0
after-arming made early pages g view now later own (Other (This found)) h a = runs-marking made early g view later (open-at made g view now later (arms-left made.page pages now found later a.0) h.opened)

-- The Lock.

pub may-here : (mine : Geometry) (made : ChooseMade) (g : Geometry) (view : View) → MayChoose mine made g view → MayChoose g made g view
may-here mine made g view may = record { same = refl; geometry = may.geometry; page = may.page; none = may.none; turn = may.turn; spent = may.spent; count = may.count }

pub runs-locking : (made : ChooseMade) (g : Geometry) (view : View) → MayChoose g made g view → RunsChoose made Locking (IsChoosing made g) g view view
runs-locking made g view may =
    let few : length view.ops < most_ops = subst (λ (l : List Op). length l < most_ops) (sym may.none) (omega arith) in
    act-run made Locking (AfterLockInMove g made) (Lock made.page) g view view refl
    (record { quiet = tt; allowed = record { range = may.page; permitted = record { fresh = ap (find page_of made.page) may.none; few = few } } }) (record { may = may; begun = refl })
    (λ own outcome f. f) (λ end. can-after-lock g made (move_reply_in end) may.geometry)

locked-test : (made : ChooseMade) (g : Geometry) (view later : View) (test : Bool) → is_worn made.spent ≡ test → MayChoose g made g view
    → later ≡ opened_view (move_looked_op made.page view.room.aliases None None []) view.owned view.scan view
    → RunsChoose made (if test then Marking Worn else ReadingHome) (Either test (ClosesInMove g made Worn) (ReadsHomeInMove g made)) g view later
locked-test made g view later true is may e = runs-marking made Worn g view later (open-looked made g view later None None [] view.scan may e)
locked-test made g view later false is may e =
    act-run made ReadingHome (λ reply. AfterHomeInMove g made (told reply)) (Read made.page (cells.Home made.page)) g view later refl
    (record { quiet = tt; allowed = record { range = record { page = may.page; cell = refl }; permitted = opened-some (move_looked_op made.page view.room.aliases None None []) view.owned view.scan made.page view later (MayRead (cells.Home made.page)) refl e tt } })
    (record { may = may; left = is; is = e }) (λ own outcome f. f) (λ end. can-after-home g made (move_told_in end) may.geometry)

pub after-locking : (made : ChooseMade) (g : Geometry) (view now later : View) (own : Own) → IsLockingInMove made g view now → EndsSo own (This (Lock made.page)) g now (This Done) later
    → RunsChoose made (move_lock_stage made.spent) (AfterLockInMove g made Done) g view later
after-locking made g view now later own h a =
    locked-test made g view later (is_worn made.spent) refl h.may (a.0.is ∙ ap (λ (v : View). after_of g v (Lock made.page) Done) h.begun ∙ after-lock g view made.page h.may.none)

pub after-busy : (made : ChooseMade) (g : Geometry) (view now later : View) (own : Own) (word : ℕ) → IsLockingInMove made g view now → EndsSo own (This (Lock made.page)) g now (This (Busy word)) later → later ≡ view
after-busy made g view now later own word h a = a.0.is ∙ h.begun

-- The LooksInMove.

pub and-both : (a b : Bool) → (not a && not b) ≡ true → (a ≡ false) × (b ≡ false)
and-both true b e = cc
and-both false true e = cc
and-both false false e = (refl, refl)

choice : (t : Bool) (u : ℕ) (o : Option ℕ) → IsSome o → IsSome (if t then Some u else o)
choice true u o h = refl
choice false u o h = h

found-later : (v : ℕ) (p : ℕ × ℕ) (l : List (ℕ × ℕ)) (t : Bool) → IsSome (find itself v (map first l)) → IsSome (find itself v (map first (cond t (p ∷ l) l)))
found-later v p l true h = choice (p.0 == v) p.0 (find itself v (map first l)) h
found-later v p l false h = h

found-here : (p : ℕ × ℕ) (l : List (ℕ × ℕ)) (t : Bool) → t ≡ true → IsSome (find itself p.0 (map first (cond t (p ∷ l) l)))
found-here p l true e = let same : (p.0 == p.0) ≡ true = grind arith in subst (λ (b : Bool). IsSome (if b then Some p.0 else find itself p.0 (map first l))) (sym same) refl
found-here p l false e = cc

later-all : (p : ℕ × ℕ) (l : List (ℕ × ℕ)) (t : Bool) (qs : List (ℕ × ℕ)) → All (λ q. q.1 ≢ 0 → IsSome (find itself q.0 (map first l))) qs → All (λ q. q.1 ≢ 0 → IsSome (find itself q.0 (map first (cond t (p ∷ l) l)))) qs
later-all p l t [] h = none_left (λ q. q.1 ≢ 0 → IsSome (find itself q.0 (map first (cond t (p ∷ l) l))))
later-all p l t (q ∷ qs) h =
    let P : ℕ × ℕ → Type 0 = λ q. q.1 ≢ 0 → IsSome (find itself q.0 (map first (cond t (p ∷ l) l))) in
    let Q : ℕ × ℕ → Type 0 = λ q. q.1 ≢ 0 → IsSome (find itself q.0 (map first l)) in
    more P q qs (λ some. found-later q.0 p l t (all_head Q q qs h some)) (later-all p l t qs (all_tail Q q qs h))

-- each virtual page that was looked at as not 0 is found
pub seen-found : (told : List (ℕ × ℕ)) → All (λ q. q.1 ≢ 0 → IsSome (find itself q.0 (mapped_of told))) told
seen-found [] = none_left (λ q. q.1 ≢ 0 → IsSome (find itself q.0 []))
seen-found (p ∷ ps) =
    let l : List (ℕ × ℕ) = filter (λ q. not (q.1 == 0)) ps in
    let P : ℕ × ℕ → Type 0 = λ q. q.1 ≢ 0 → IsSome (find itself q.0 (mapped_of (p ∷ ps))) in
    more P p ps (λ some. let t : not (p.1 == 0) ≡ true = grind (arith, nat_tests) in found-here p l (not (p.1 == 0)) t) (later-all p l (not (p.1 == 0)) ps (seen-found ps))

few-cond : (t : Bool) (v : ℕ) (l : List ℕ) (n : ℕ) → length l ≤ n → length (if t then v ∷ l else l) ≤ suc n
few-cond true v l n h = omega arith
few-cond false v l n h = omega arith

among-few : (page : ℕ) (vs : List (Option VPage)) (v : ℕ) → length (vpages_among page vs v) ≤ length vs
among-few page [] v = omega arith
among-few page (p ∷ vs) v = few-cond (is_mapped_to page p) v (vpages_among page vs (v + 1)) (length vs) (among-few page vs (v + 1))

found-cond : (t : Bool) (p : ℕ × ℕ) (l : List (ℕ × ℕ)) (n : ℕ) → length (map first l) ≤ n → length (map first (cond t (p ∷ l) l)) ≤ suc n
found-cond true p l n h = omega arith
found-cond false p l n h = omega arith

found-few : (told : List (ℕ × ℕ)) → length (mapped_of told) ≤ length (map first told)
found-few [] = omega arith
found-few (p ∷ ps) = found-cond (not (p.1 == 0)) p (filter (λ q. not (q.1 == 0)) ps) (length (map first ps)) (found-few ps)

-- there are no more than there can be virtual pages
pub looked-few : (g : Geometry) (page : ℕ) (told : List (ℕ × ℕ)) → IsGeometry g → map first told ≡ vpages_of g page → length (mapped_of told) ≤ most_vpages
looked-few g page told geometry pages =
    let few = geometry.ranges.3.0 in
    let all = among-few page g.vpages 0 in
    let found = subst (λ (l : List ℕ). length (mapped_of told) ≤ length l) pages (found-few told) in
    omega arith

taking-work : (made : ChooseMade) (g : Geometry) (view now : View) (home : ℕ) (pages : List ℕ) → IsTakingInMove made home pages g view now → MayBegin (pool_made g (Take (tier_above g home) (floor_above g home))) g now
taking-work made g view now home pages h = record {
  geometry = h.slow.may.geometry;
  is = refl;
  work = above-home g home h.slow.range;
  turn = ap (λ (v : View). v.turn) h.is ∙ h.slow.may.turn;
}

can-taken : (made : ChooseMade) (home : ℕ) (pages : List ℕ) (g : Geometry) (own : Own) (end : PieceEndInMove) → IsPieceInMove (Other (Other (pool_made g (Take (tier_above g home) (floor_above g home))))) g own end → CanEnd (AfterTakeInMove g made home pages (pool_in end))
can-taken made home pages g own (This x) shown = absurd shown
can-taken made home pages g own (Other (This x)) shown = absurd shown
can-taken made home pages g own (Other (Other end)) shown = can-after-take g made home pages (tier_above g home) (floor_above g home) own end shown

-- none of them is taken
mapped-each : (pages : List ℕ) (looked : List (ℕ × ℕ)) → All (λ v. IsSomeAnd (find first v looked) (λ p. p.1 ≢ 0)) pages → All (λ v. IsLookedMapped looked [] v) pages
mapped-each pages looked h = λ i d lt. record { looked = h i d lt; there = refl }

runs-taking : (made : ChooseMade) (home : ℕ) (pages : List ℕ) (g : Geometry) (view now : View) → IsTakingInMove made home pages g view now → RunsChoose made (Taking home pages) (TakesInMove g made home pages) g view now
runs-taking made home pages g view now h =
    task-run made (Taking home pages) (AfterTakeInMove g made home pages) (pool_made g (Take (tier_above g home) (floor_above g home))) g view now refl (taking-work made g view now home pages h) h
    (λ own outcome f. f) (λ own end shown. can-taken made home pages g own end shown)

-- the virtual pages of the page were looked at
looked-test : (made : ChooseMade) (home : ℕ) (pages : List ℕ) (looked : List (ℕ × ℕ)) (g : Geometry) (view now : View) (test : Bool) → (length pages == made.count) ≡ test → IsSlowHomeInMove made g view home
    → now ≡ opened_view (move_looked_op made.page view.room.aliases (Some (home_word home)) None looked) view.owned view.scan view
    → (length pages ≡ made.count → HasSeenInMove made g pages looked) → All (λ v. backing_page g v ≡ Some made.page) pages → All (λ v. IsSomeAnd (find first v looked) (λ p. p.1 ≢ 0)) pages
    → RunsChoose made (if test then Taking home pages else move_arm_stage Gone pages) (Either test (TakesInMove g made home pages) (ArmsAll g made Gone pages)) g view now
unfolding open-looked
looked-test made home pages looked g view now true e slow is seen of mapped =
    runs-taking made home pages g view now (record { slow = slow; looked = looked; seen = seen (grind (arith, nat_tests)); is = is })
looked-test made home pages looked g view now false e slow is seen of mapped =
    runs-arms made Gone pages g view now (record { opened = open-looked made g view now (Some (home_word home)) None looked view.scan slow.may is; of = of; mapped = mapped-each pages looked mapped })

looked-seen : (made : ChooseMade) (home : ℕ) (g : Geometry) (view now : View) (told : List (ℕ × ℕ)) → map first told ≡ vpages_of g made.page → Once first told → IsSlowHomeInMove made g view home
    → now ≡ opened_view (move_looked_op made.page view.room.aliases (Some (home_word home)) None told) view.owned view.scan view
    → RunsChoose made (move_looked_stage made home (mapped_of told)) (AfterLooksInMove g made home (mapped_of told)) g view now
looked-seen made home g view now told pages once slow is =
    let all = subst (All (λ v. backing_page g v ≡ Some made.page)) (sym pages) (vpages-all g made.page) in
    let of = found-all (λ v. backing_page g v ≡ Some made.page) told all in
    let mapped = found-mapped told once in
    looked-test made home (mapped_of told) told g view now (length (mapped_of told) == made.count) refl slow is
    (λ count. record { of = of; over = looked-over g made.page told pages; mapped = mapped; found = seen-found told; count = count; few = looked-few g made.page told slow.may.geometry pages }) of mapped

pub after-looking : (made : ChooseMade) (home : ℕ) (g : Geometry) (view now later : View) (own : Own) (end : PieceEndInMove) → IsLookingInMove made home g view now → EndsSo own (Other (This (looks_made made.page (vpages_of g made.page)))) g now end later
    → RunsChoose made (move_looked_stage made home (move_found_in end)) (AfterLooksInMove g made home (move_found_in end)) g view later
after-looking made home g view now later own (This x) h a = absurd a.0
after-looking made home g view now later own (Other (Other x)) h a = absurd a.0
after-looking made home g view now later own (Other (This found)) h a =
    let o : Op = move_looked_op made.page view.room.aliases (Some (home_word home)) None [] in
    let v = a.0 in
    let is : later ≡ opened_view (move_looked_op made.page view.room.aliases (Some (home_word home)) None v.told) view.owned view.scan view =
    v.is ∙ ap (λ (x : View). record x { ops = edit page_of made.page (visited visits.Look v.told) x.ops }) h.is
    ∙ ap (λ (l : List Op). record view { ops = l }) (edit-one (visited visits.Look v.told) o made.page refl)
    ∙ ap (λ (x : Op). record view { ops = x ∷ [] }) (visited-look v.told o v.once) in
    let P : List ℕ → Type 0 = λ l. RunsChoose made (move_looked_stage made home l) (AfterLooksInMove g made home l) g view later in
    subst P (sym v.mapped) (looked-seen made home g view later v.told v.pages v.once h.slow is)

-- The home.

pub none-of : (g : Geometry) (page : ℕ) → vpages_of g page ≡ [] → (v : ℕ) → backing_page g v ≡ Some page → ⊥
none-of g page none v e = let h = vpages-has g page v e in let n = subst (λ (l : List ℕ). IsSome (find itself v l)) none h in let c : false ≡ true = n in cc

-- the virtual pages are to be looked at, if there are any
look-from : (made : ChooseMade) (home : ℕ) (pages : List ℕ) (g : Geometry) (view now : View) → vpages_of g made.page ≡ pages → IsLookingInMove made home g view now → RunsChoose made (move_look_stage made home pages) (LooksInMove g made home) g view now
look-from made home [] g view now none h =
    let run = looked-test made home [] [] g view now (length (mapped_of []) == made.count) refl h.slow h.is
    (λ count. record { of = none_left _; over = λ v e. absurd (none-of g made.page none v e); mapped = none_left _; found = none_left _; count = count; few = omega arith }) (none_left _) (none_left _) in
    let V : List ℕ → Type 0 = λ l. (own : Own) (outcome : Chosen) → AfterLooksInMove g made home [] own outcome → Follows (IsVisits (looks_made made.page l) g) (AfterLooksInMove g made home) own outcome in
    let at-once : V [] = λ own outcome c. over-at-once (IsVisits (looks_made made.page []) g) (AfterLooksInMove g made home) [] own outcome (ends-now []) c in
    runs-as made (move_looked_stage made home []) (AfterLooksInMove g made home []) (LooksInMove g made home) g view now (subst V (sym none) at-once) run
look-from made home (v ∷ vs) g view now some h =
    visits-run made (Looking home) (AfterLooksInMove g made home) (looks_made made.page (vpages_of g made.page)) g view now refl (record { of = vpages-all g made.page; each = tt }) h
    (λ own outcome f. f) (λ end. can-after-looks g made home (move_found_in end) h.slow.may.geometry)

home-test : (made : ChooseMade) (word : ℕ) (g : Geometry) (view later : View) (test : Bool) → is_slow_home g word ≡ test → MayChoose g made g view → is_worn made.spent ≡ false
    → later ≡ opened_view (move_looked_op made.page view.room.aliases (Some word) None []) view.owned view.scan view
    → (word ≢ 0 → IsFrame g (word - 1)) → (word ≢ 0 → IsNotOwned view (word - 1))
    → RunsChoose made (if test then move_look_stage made (word - 1) (vpages_of g made.page) else Marking Gone) (Either test (LooksInMove g made (word - 1)) (ClosesInMove g made Gone)) g view later
home-test made word g view later true e may left is range unowned =
    let both = and-both (word == 0) (tier_of g (word - 1) == 0) e in
    let some : word ≢ 0 = grind (arith, both.0) in
    let slow : tier_of g (word - 1) ≢ 0 = grind (arith, both.1) in
    let same : home_word (word - 1) ≡ word = omega (arith, some) in
    look-from made (word - 1) (vpages_of g made.page) g view later refl (record {
      slow = record { may = may; left = left; range = range some; slow = slow; unowned = unowned some };
      is = is ∙ ap (λ (w : ℕ). opened_view (move_looked_op made.page view.room.aliases (Some w) None []) view.owned view.scan view) (sym same);
    })
home-test made word g view later false e may left is range unowned = runs-marking made Gone g view later (open-looked made g view later (Some word) None [] view.scan may is)

-- what a Read of the home tells
pub home-told : (made : ChooseMade) (g : Geometry) (view now later : View) (word : ℕ) → IsReadingHomeInMove made g view now → IsActed g now (Read made.page (cells.Home made.page)) (Word word) later → IsHomeRead g now word (move_looked_op made.page view.room.aliases None None [])
home-told made g view now later word h acted =
    let on = ap (λ (v : View). op_on v made.page) h.is ∙ opened-on (move_looked_op made.page view.room.aliases None None []) view.owned view.scan made.page view refl in
    subst (λ (x : Option Op). IfSome x (IsReadOf g now (cells.Home made.page) word)) on acted.fits.told.said

pub after-reading-home : (made : ChooseMade) (g : Geometry) (view now later : View) (own : Own) (end : PieceEndInMove) → IsReadingHomeInMove made g view now → EndsSo own (This (Read made.page (cells.Home made.page))) g now end later
    → RunsChoose made (move_home_stage g made (move_told_in end)) (AfterHomeInMove g made (move_told_in end)) g view later
after-reading-home made g view now later own (This Done) h a = absurd a.0.fits.kind
after-reading-home made g view now later own (This (Busy w)) h a = absurd a.0.fits.kind
after-reading-home made g view now later own (This (Lost w)) h a = absurd a.0.fits.kind
after-reading-home made g view now later own (Other x) h a = absurd a.0
after-reading-home made g view now later own (This (Word word)) h a =
    let read = home-told made g view now later word h a.0 in
    let news = read.news refl in
    let is = a.0.is ∙ ap (λ (v : View). after_of g v (Read made.page (cells.Home made.page)) (Word word)) h.is
    ∙ after-read g (move_looked_op made.page view.room.aliases None None []) view.owned view.scan made.page word (cells.Home made.page) view refl in
    home-test made word g view later (is_slow_home g word) refl h.may h.left is (λ some. let range = news.range in omega (arith, some)) (λ some. subst (λ (v : View). IsNotOwned v (word - 1)) h.is (read.free some))

-- The frame.

-- a frame was given
pub after-got : (made : ChooseMade) (home frame : ℕ) (pages : List ℕ) (g : Geometry) (view now later : View) (own : Own) → IsTakingInMove made home pages g view now
    → EndsSo own (Other (Other (pool_made g (Take (tier_above g home) (floor_above g home))))) g now (Other (Other (pools.Got frame))) later
    → RunsChoose made (ReadingShadow home frame pages) (ReadsShadowInMove g made home frame pages) g view later
after-got made home frame pages g view now later own h a =
    let o : Op = move_looked_op made.page view.room.aliases (Some (home_word home)) None h.looked in
    let given = a.0.0 in
    let is : later ≡ opened_view o (owning frame Raw view.owned) unscanned view =
    a.0.1 ∙ ap (λ (v : View). record (released v) { owned = owning frame Raw v.owned }) h.is ∙ after-task o view.owned (owning frame Raw view.owned) view.scan view h.slow.may.turn in
    let homeless = subst (λ (v : View). All (λ (x : Op). x.home ≢ Some (home_word frame)) v.ops) h.is given.homeless in
    let other : frame ≢ home = λ e. all_head (λ (x : Op). x.home ≢ Some (home_word frame)) o [] homeless (ap (λ (f : ℕ). Some (home_word f)) (sym e)) in
    let got : HasGot made home frame pages g view = record {
      slow = h.slow;
      new = record { range = IsInTier-lt g frame (tier_above g home) given.there; fresh = subst (λ (v : View). IsNotOwned v frame) h.is given.fresh; other = other };
      looked = h.looked;
      seen = h.seen;
      scan = unscanned;
    } in
    act-run made (ReadingShadow home frame pages) (λ reply. DiscardsInMove g made home (told reply) frame pages) (Read made.page (cells.Shadow home)) g view later refl
    (record { quiet = tt; allowed = record { range = record { page = h.slow.may.page; cell = h.slow.range }; permitted = opened-some o (owning frame Raw view.owned) unscanned made.page view later (MayRead (cells.Shadow home)) refl is refl } })
    (record { got = got; is = is }) (λ own outcome f. f) (λ end. can-discards g made home (move_told_in end) frame pages)

-- too few frames are free
pub after-floor : (made : ChooseMade) (home n : ℕ) (pages : List ℕ) (g : Geometry) (view now later : View) (own : Own) → IsTakingInMove made home pages g view now
    → EndsSo own (Other (Other (pool_made g (Take (tier_above g home) (floor_above g home))))) g now (Other (Other (pools.AtFloor n))) later
    → RunsChoose made (move_arm_stage (NoFrame n) pages) (ArmsAll g made (NoFrame n) pages) g view later
unfolding open-looked
after-floor made home n pages g view now later own h a =
    let o : Op = move_looked_op made.page view.room.aliases (Some (home_word home)) None h.looked in
    let is : later ≡ opened_view o view.owned unscanned view = a.0 ∙ ap released h.is ∙ after-task o view.owned view.owned view.scan view h.slow.may.turn in
    runs-arms made (NoFrame n) pages g view later (record { opened = open-looked made g view later (Some (home_word home)) None h.looked unscanned h.slow.may is; of = h.seen.of; mapped = mapped-each pages h.looked h.seen.mapped })

-- The shadow.

ready-now : (made : ChooseMade) (home frame : ℕ) (pages : List ℕ) (g : Geometry) (view later : View) (got : HasGot made home frame pages g view) (scan : Scanned)
    → later ≡ opened_view (move_looked_op made.page view.room.aliases (Some (home_word home)) (Some 0) got.looked) (owning frame Raw view.owned) scan view → HasReadyInMove made g view home frame pages later
ready-now made home frame pages g view later got scan is = record { slow = got.slow; new = got.new; looked = got.looked; seen = got.seen; scan = scan; is = is }

shadow-told : (made : ChooseMade) (home frame : ℕ) (pages : List ℕ) (g : Geometry) (view now later : View) (word : ℕ) (h : IsReadingShadowInMove made home frame pages g view now) → IsActed g now (Read made.page (cells.Shadow home)) (Word word) later
    → IsShadowRead g now home word (move_looked_op made.page view.room.aliases (Some (home_word home)) None h.got.looked)
shadow-told made home frame pages g view now later word h acted =
    let o : Op = move_looked_op made.page view.room.aliases (Some (home_word home)) None h.got.looked in
    let on = ap (λ (v : View). op_on v made.page) h.is ∙ opened-on o (owning frame Raw view.owned) h.got.scan made.page view refl in
    subst (λ (x : Option Op). IfSome x (IsReadOf g now (cells.Shadow home) word)) on acted.fits.told.said

shadow-view : (made : ChooseMade) (home frame : ℕ) (pages : List ℕ) (g : Geometry) (view now later : View) (word : ℕ) (h : IsReadingShadowInMove made home frame pages g view now) → IsActed g now (Read made.page (cells.Shadow home)) (Word word) later
    → later ≡ opened_view (move_looked_op made.page view.room.aliases (Some (home_word home)) (Some word) h.got.looked) (owning frame Raw view.owned) h.got.scan view
shadow-view made home frame pages g view now later word h acted =
    acted.is ∙ ap (λ (v : View). after_of g v (Read made.page (cells.Shadow home)) (Word word)) h.is
    ∙ after-read g (move_looked_op made.page view.room.aliases (Some (home_word home)) None h.got.looked) (owning frame Raw view.owned) h.got.scan made.page word (cells.Shadow home) view refl

news-range : (g : Geometry) (page master word : ℕ) → IsGeometry g → word ≢ 0 → IsNewsOfShadow g page master word → IsFrame g (shadow_frame word)
news-range g page master word geometry some (inl none) = absurd (some none)
news-range g page master word geometry some (inr (frame, names)) = subst (IsFrame g) (sym (shadow_frame-NamesShadow g word page frame geometry.ranges.1.3 names.names)) names.names.range

-- there is none
pub after-no-shadow : (made : ChooseMade) (home frame : ℕ) (pages : List ℕ) (g : Geometry) (view now later : View) (own : Own) (end : PieceEndInMove) → IsReadingShadowInMove made home frame pages g view now → EndsSo own (This (Read made.page (cells.Shadow home))) g now end later
    → move_told_in end ≡ 0 → HasReadyInMove made g view home frame pages later
after-no-shadow made home frame pages g view now later own (This Done) h a none = absurd a.0.fits.kind
after-no-shadow made home frame pages g view now later own (This (Busy w)) h a none = absurd a.0.fits.kind
after-no-shadow made home frame pages g view now later own (This (Lost w)) h a none = absurd a.0.fits.kind
after-no-shadow made home frame pages g view now later own (Other x) h a none = absurd a.0
after-no-shadow made home frame pages g view now later own (This (Word word)) h a none =
    ready-now made home frame pages g view later h.got h.got.scan (shadow-view made home frame pages g view now later word h a.0
    ∙ ap (λ (w : ℕ). opened_view (move_looked_op made.page view.room.aliases (Some (home_word home)) (Some w) h.got.looked) (owning frame Raw view.owned) h.got.scan view) none)

unshade-runs : (made : ChooseMade) (home shadow frame : ℕ) (pages : List ℕ) (g : Geometry) (view now : View) → IsUnshadingInMove made home shadow frame pages g view now
    → RunsChoose made (Unshading home shadow frame pages) (Follows (IsAct (SetShadow made.page home None) g) (λ set. PutsBackInMove g made home shadow frame pages)) g view now
unshade-runs made home shadow frame pages g view now h =
    let o : Op = move_looked_op made.page view.room.aliases (Some (home_word home)) (Some shadow) h.has.got.looked in
    act-run made (Unshading home shadow frame pages) (λ set. PutsBackInMove g made home shadow frame pages) (SetShadow made.page home None) g view now refl
    (record {
      quiet = tt;
      allowed = record {
        range = record { page = h.has.got.slow.may.page; master = h.has.got.slow.range; shadow = tt };
        permitted = opened-some o (owning frame Raw view.owned) h.has.got.scan made.page view now (MayUnshade home) refl h.is (record { home = refl; some = h.has.some });
      };
    }) h (λ own outcome f. f) (λ end. can-puts-back g made home shadow frame pages)

-- there is one
pub after-shadow : (made : ChooseMade) (home frame : ℕ) (pages : List ℕ) (g : Geometry) (view now later : View) (own : Own) (end : PieceEndInMove) → IsReadingShadowInMove made home frame pages g view now → EndsSo own (This (Read made.page (cells.Shadow home))) g now end later
    → move_told_in end ≢ 0 → RunsChoose made (Unshading home (move_told_in end) frame pages) (DiscardsInMove g made home (move_told_in end) frame pages) g view later
after-shadow made home frame pages g view now later own (This Done) h a some = absurd a.0.fits.kind
after-shadow made home frame pages g view now later own (This (Busy w)) h a some = absurd a.0.fits.kind
after-shadow made home frame pages g view now later own (This (Lost w)) h a some = absurd a.0.fits.kind
after-shadow made home frame pages g view now later own (Other x) h a some = absurd a.0
after-shadow made home frame pages g view now later own (This (Word word)) h a some =
    let read = shadow-told made home frame pages g view now later word h a.0 in
    let run = unshade-runs made home word frame pages g view later (record {
      has = record {
        got = h.got;
        some = some;
        range = news-range g made.page home word h.got.slow.may.geometry some (read.news refl);
        fresh = ap (λ (v : View). find owned_frame (shadow_frame word) v.owned) (sym h.is) ∙ read.free some;
      };
      is = shadow-view made home frame pages g view now later word h a.0;
    }) in
    let test : (word == 0) ≡ false = grind (arith, some) in
    let D : Bool → Type 0 = λ t. RunsChoose made (Unshading home word frame pages) (Either t (Ends (ends.Ready home frame pages)) (Follows (IsAct (SetShadow made.page home None) g) (λ set. PutsBackInMove g made home word frame pages))) g view later in
    subst D (sym test) run

-- the shadow word is set to none: its frame is put back
pub after-unshading : (made : ChooseMade) (home shadow frame : ℕ) (pages : List ℕ) (g : Geometry) (view now later : View) (own : Own) (end : PieceEndInMove) → IsUnshadingInMove made home shadow frame pages g view now → EndsSo own (This (SetShadow made.page home None)) g now end later
    → RunsChoose made (PuttingBack home shadow frame pages) (PutsBackInMove g made home shadow frame pages) g view later
after-unshading made home shadow frame pages g view now later own (This (Word w)) h a = absurd a.0.fits.kind
after-unshading made home shadow frame pages g view now later own (This (Busy w)) h a = absurd a.0.fits.kind
after-unshading made home shadow frame pages g view now later own (This (Lost w)) h a = absurd a.0.fits.kind
after-unshading made home shadow frame pages g view now later own (Other x) h a = absurd a.0
after-unshading made home shadow frame pages g view now later own (This Done) h a =
    let o : Op = move_looked_op made.page view.room.aliases (Some (home_word home)) (Some shadow) h.has.got.looked in
    let new : Owned = record { frame = shadow_frame shadow; fill = Raw } in
    let owned : List Owned = owning (shadow_frame shadow) Raw (owning frame Raw view.owned) in
    let is : later ≡ opened_view (move_looked_op made.page view.room.aliases (Some (home_word home)) (Some 0) h.has.got.looked) owned h.has.got.scan view =
    a.0.is ∙ ap (λ (v : View). after_of g v (SetShadow made.page home None) Done) h.is ∙ after-unshade g o (owning frame Raw view.owned) h.has.got.scan made.page home view refl in
    let there : IsSome (find owned_frame (shadow_frame shadow) owned) = some-is (find owned_frame (shadow_frame shadow) owned) new (find_put owned_frame new (owning frame Raw view.owned)) in
    let may : MayBegin (pool_made g (Back (shadow_frame shadow))) g later = record {
      geometry = h.has.got.slow.may.geometry;
      is = refl;
      work = (h.has.range, subst (λ (v : View). IsSome (find owned_frame (shadow_frame shadow) v.owned)) (sym is) there);
      turn = ap (λ (v : View). v.turn) is ∙ h.has.got.slow.may.turn;
    } in
    task-run made (PuttingBack home shadow frame pages) (λ back. Ends (ends.Ready home frame pages)) (pool_made g (Back (shadow_frame shadow))) g view later refl may (record { has = h.has; is = is })
    (λ own outcome f. f) (λ own end shown. can-ends (ends.Ready home frame pages))

pub after-putting-back : (made : ChooseMade) (home shadow frame : ℕ) (pages : List ℕ) (g : Geometry) (view now later : View) (own : Own) (end : PieceEndInMove) → IsPuttingBackInMove made home shadow frame pages g view now → EndsSo own (Other (Other (pool_made g (Back (shadow_frame shadow))))) g now end later
    → HasReadyInMove made g view home frame pages later
after-putting-back made home shadow frame pages g view now later own (This x) h a = absurd a.0
after-putting-back made home shadow frame pages g view now later own (Other (This x)) h a = absurd a.0
after-putting-back made home shadow frame pages g view now later own (Other (Other (pools.Got f))) h a = absurd a.1.work
after-putting-back made home shadow frame pages g view now later own (Other (Other (pools.AtFloor n))) h a = absurd a.1.work
after-putting-back made home shadow frame pages g view now later own (Other (Other (pools.Level n))) h a = absurd a.1.work
after-putting-back made home shadow frame pages g view now later own (Other (Other pools.Back)) h a =
    let o : Op = move_looked_op made.page view.room.aliases (Some (home_word home)) (Some 0) h.has.got.looked in
    let new : Owned = record { frame = shadow_frame shadow; fill = Raw } in
    let rest : List Owned = owning frame Raw view.owned in
    ready-now made home frame pages g view later h.has.got unscanned
    (a.0 ∙ ap (λ (v : View). record (released v) { owned = erase owned_frame (shadow_frame shadow) v.owned }) h.is
    ∙ after-task o (owning (shadow_frame shadow) Raw rest) (erase owned_frame (shadow_frame shadow) (owning (shadow_frame shadow) Raw rest)) h.has.got.scan view h.has.got.slow.may.turn
    ∙ ap (λ (l : List Owned). opened_view o l unscanned view) (erase-put new rest h.has.fresh))

-- nothing more happens where there is no shadow
pub discards-none : (made : ChooseMade) (home shadow frame : ℕ) (pages : List ℕ) (g : Geometry) → shadow ≡ 0 → DiscardsInMove g made home shadow frame pages [] (ends.Ready home frame pages)
discards-none made home shadow frame pages g none =
    let test : (shadow == 0) ≡ true = grind (arith, none) in
    either-yes (shadow == 0) (Ends (ends.Ready home frame pages)) (Follows (IsAct (SetShadow made.page home None) g) (λ set. PutsBackInMove g made home shadow frame pages)) [] (ends.Ready home frame pages) test (ends-now (ends.Ready home frame pages))

-- The steps before the page is taken out of the table.
use Rattle.std.proofs.Common.{◌≡◌, ◌≢◌, ℕ, ◌+◌, ◌-◌, ◌<◌, ◌==◌, if◌then◌else◌, Bool, true, false, List, [], ◌∷◌, map, length, All, Option, Some, None, inl, inr, refl, sym, ap, ◌∙◌, subst, arith}
use Rattle.std.specs.Option.{IfSome}
use Rattle.nm_base.specs.Geometry.{Geometry, IsGeometry, tier_of, backing_page}
use Rattle.nm_base.specs.Ranges.{IsFrame}
use Rattle.nm_base.specs.HomeWord.{home_word}
use Rattle.nm_base.specs.ShadowWord.{shadow_frame}
use Rattle.nm_base.proofs.ShadowWords.{shadow_frame-NamesShadow}
use Rattle.nm_base.proofs.Tiers.{tier_of-IsInTier, IsInTier-lt}
use Rattle.nm_action.specs.declared.action.Action.TheVariants.{Lock, Unlock, Read}
use Rattle.nm_action.specs.declared.action.Cell.TheVariants as cells
use Rattle.nm_action.specs.declared.action.Reply.TheVariants.{Done, Word, Busy, Lost}
use Rattle.nm_action.specs.Own.{Own}
use Rattle.nm_view.specs.declared.view.Fill.TheVariants.{Raw}
use Rattle.nm_view.specs.declared.view.Owned.{Owned}
use Rattle.nm_view.specs.declared.view.Scanned.{Scanned}
use Rattle.nm_view.specs.Lists.{find, edit, first, Once}
use Rattle.nm_view.specs.Views.{Op, View, most_ops}
use Rattle.nm_view.specs.Operations.{page_of, owned_frame, op_on}
use Rattle.nm_view.proofs.Items.{none_left, more}
use Rattle.nm_permit.specs.Permitted.{MayUnlock, MayRead}
use Rattle.nm_event.specs.After.{after_of, owning}
use Rattle.nm_event.specs.Fitting.{IsNotOwned, IsReadOf, IsHomeRead, IsShadowRead, IsNewsOfShadow}
use Rattle.nm_part.specs.Patterns.{Ends, Follows, Either}
use Rattle.nm_part.proofs.Patterns.{ends-now, over-at-once, can-ends, either-yes, either-other}
use Rattle.nm_compose.specs.Acts.{IsActed}
use Rattle.nm_compose.specs.declared.or.Or.TheVariants.{This, Other}
use Rattle.nm_vpages.specs.VPages.{vpages_of}
use Rattle.nm_mappings.specs.declared.visits.Visit.TheVariants as visits
use Rattle.nm_mappings.specs.Visits.{IsVisits, looks_made, mapped_of, visited}
use Rattle.nm_mappings.proofs.Operations.{visited-look}
use Rattle.nm_copying.specs.Copying.{told}
use Rattle.nm_transfer.specs.declared.transfer.Source.TheVariants as sources
use Rattle.nm_transfer.proofs.Held.{edit-one}
use Rattle.nm_reclaim.specs.Swept.{IsForgotten}
use Rattle.nm_reclaim.proofs.Views.{forgets-none}
use Rattle.nm_obtain.specs.Obtaining.{MayObtain, HasObtained}
use Rattle.nm_obtain.specs.declared.obtain.Obtained.TheVariants.{Got, AtFloor}
use Rattle.nm_prepare.specs.Worn.{is_worn}
use Rattle.nm_prepare.proofs.Found.{vpages-all, looked-over, found-mapped, found-all}
use Rattle.nm_locked.specs.Chosen.{opened_view, move_looked_op}
use Rattle.nm_locked.proofs.Opened.{opened-on, opened-some, after-lock, after-read, after-unlock}
use Rattle.nm_locked.proofs.Steps.{seen-found, looked-few}
use Rattle.nm_demote.specs.declared.select.DemoteMade.{DemoteMade}
use Rattle.nm_demote.specs.declared.select.Early.{Early}
use Rattle.nm_demote.specs.declared.select.Early.TheVariants.{NoFrame, Gone, Worn}
use Rattle.nm_demote.specs.declared.select.Select.{Select}
use Rattle.nm_demote.specs.declared.select.Selected.{Selected}
use Rattle.nm_demote.specs.declared.select.Selected.TheVariants as ends
use Rattle.nm_demote.specs.declared.select.Stage.TheVariants.{Locking, Unlocking, ReadingHome, ReadingShadow, Looking, Obtaining}
use Rattle.nm_demote.specs.Selecting.{UnlocksEarly, AfterObtain, obtain_for, SeeksFrame, SelectsHome, AfterLooksToDemote, LooksToDemote, ReadsShadowToDemote, has_slower, AfterHomeToDemote, ReadsHomeToDemote, AfterLockToDemote, IsSelecting}
use Rattle.nm_demote.specs.Selections.{MayDemote, IsFastHome, HasSeenToDemote, IsNewHome, IsReadyToDemote, HasClosedToDemote}
use Rattle.nm_demote.specs.Stages.{SelectPieceEnd, reply_in_selecting, told_in_selecting, found_in_selecting, obtained_in, demote_lock_stage, demote_home_stage, demote_look_from, demote_look_stage, IsLockingToDemote, IsOpenToDemote, IsReadingHomeToDemote, IsReadingShadowToDemote, HasShadowWord, IsLookingToDemote, IsObtainingToDemote}
use Rattle.nm_demote.proofs.Ending.{can-after-obtain, can-after-looks, can-looks, slower-tier, can-after-home, can-after-lock}
use Rattle.nm_demote.proofs.Runs.{RunsSelect, EndsSelect, IsSelectOver, act-run, visits-run, search-run, runs-as}

-- The early end.

runs-unlocking : (made : DemoteMade) (early : Early) (g : Geometry) (view now : View) → IsOpenToDemote made g view now → RunsSelect made (Unlocking early) (UnlocksEarly g made early) g view now
runs-unlocking made early g view now h =
    act-run made (Unlocking early) (λ unlocked. Ends (ends.Closed early)) (Unlock made.page) g view now refl
    (record { quiet = tt; allowed = record { range = h.may.page; permitted = opened-some h.op h.before h.scan made.page view now (MayUnlock g) h.page_is h.is h.unlock } }) h
    (λ own outcome f. f) (λ end. can-ends (ends.Closed early))

pub after-unlocking : (made : DemoteMade) (g : Geometry) (view now later : View) (own : Own) (end : SelectPieceEnd) → IsOpenToDemote made g view now → EndsSelect own (This (Unlock made.page)) g now end later → HasClosedToDemote made.page view later
after-unlocking made g view now later own (This Done) h a = record {
  before = h.before;
  forgotten = h.forgotten;
  scan = h.scan;
  is = a.0.is ∙ ap (λ (v : View). after_of g v (Unlock made.page) Done) h.is ∙ after-unlock g h.op h.before h.scan made.page view h.page_is h.may.none;
}
after-unlocking made g view now later own (This (Word w)) h a = absurd a.0.fits.kind
after-unlocking made g view now later own (This (Busy w)) h a = absurd a.0.fits.kind
after-unlocking made g view now later own (This (Lost w)) h a = absurd a.0.fits.kind
after-unlocking made g view now later own (Other x) h a = absurd a.0

-- an operation of which nothing was changed may be closed
open-looked : (made : DemoteMade) (g : Geometry) (view now : View) (home shadow : Option ℕ) (looked : List (ℕ × ℕ)) (before : List Owned) (scan : Scanned) → MayDemote g made g view → IsForgotten (Some made.page) view.owned before
    → now ≡ opened_view (move_looked_op made.page view.room.aliases home shadow looked) before scan view → IsOpenToDemote made g view now
open-looked made g view now home shadow looked before scan may forgotten e = record {
  may = may;
  op = move_looked_op made.page view.room.aliases home shadow looked;
  page_is = refl;
  unlock = record { back = refl; flushed = record { made = refl; seen = tt }; phase = λ e. cc };
  before = before;
  forgotten = forgotten;
  scan = scan;
  is = e;
}

-- the work ends, with all frames as they were
runs-closing : (made : DemoteMade) (early : Early) (g : Geometry) (view now : View) (home shadow : Option ℕ) (looked : List (ℕ × ℕ)) → MayDemote g made g view
    → now ≡ opened_view (move_looked_op made.page view.room.aliases home shadow looked) view.owned view.scan view → RunsSelect made (Unlocking early) (UnlocksEarly g made early) g view now
runs-closing made early g view now home shadow looked may e =
    runs-unlocking made early g view now (open-looked made g view now home shadow looked view.owned view.scan may (forgets-none (Some made.page) view.owned) e)

-- The Lock.

pub may-here : (mine : Geometry) (made : DemoteMade) (g : Geometry) (view : View) → MayDemote mine made g view → MayDemote g made g view
may-here mine made g view may = record { same = refl; geometry = may.geometry; page = may.page; none = may.none; turn = may.turn; spent = may.spent }

pub runs-locking : (made : DemoteMade) (g : Geometry) (view : View) → MayDemote g made g view → RunsSelect made Locking (IsSelecting made g) g view view
runs-locking made g view may =
    let few : length view.ops < most_ops = subst (λ (l : List Op). length l < most_ops) (sym may.none) (omega arith) in
    act-run made Locking (AfterLockToDemote g made) (Lock made.page) g view view refl
    (record { quiet = tt; allowed = record { range = may.page; permitted = record { fresh = ap (find page_of made.page) may.none; few = few } } }) (record { may = may; begun = refl })
    (λ own outcome f. f) (λ end. can-after-lock g made (reply_in_selecting end))

locked-test : (made : DemoteMade) (g : Geometry) (view later : View) (test : Bool) → is_worn made.spent ≡ test → MayDemote g made g view
    → later ≡ opened_view (move_looked_op made.page view.room.aliases None None []) view.owned view.scan view
    → RunsSelect made (if test then Unlocking Worn else ReadingHome) (Either test (UnlocksEarly g made Worn) (ReadsHomeToDemote g made)) g view later
locked-test made g view later true is may e = runs-closing made Worn g view later None None [] may e
locked-test made g view later false is may e =
    act-run made ReadingHome (λ reply. AfterHomeToDemote g made (told reply)) (Read made.page (cells.Home made.page)) g view later refl
    (record { quiet = tt; allowed = record { range = record { page = may.page; cell = refl }; permitted = opened-some (move_looked_op made.page view.room.aliases None None []) view.owned view.scan made.page view later (MayRead (cells.Home made.page)) refl e tt } })
    (record { may = may; left = is; is = e }) (λ own outcome f. f) (λ end. can-after-home g made (told_in_selecting end))

pub after-locking : (made : DemoteMade) (g : Geometry) (view now later : View) (own : Own) → IsLockingToDemote made g view now → EndsSelect own (This (Lock made.page)) g now (This Done) later
    → RunsSelect made (demote_lock_stage made.spent) (AfterLockToDemote g made Done) g view later
after-locking made g view now later own h a =
    locked-test made g view later (is_worn made.spent) refl h.may (a.0.is ∙ ap (λ (v : View). after_of g v (Lock made.page) Done) h.begun ∙ after-lock g view made.page h.may.none)

pub after-busy : (made : DemoteMade) (g : Geometry) (view now later : View) (own : Own) (word : ℕ) → IsLockingToDemote made g view now → EndsSelect own (This (Lock made.page)) g now (This (Busy word)) later → later ≡ view
after-busy made g view now later own word h a = a.0.is ∙ h.begun

-- The home.

home-test : (made : DemoteMade) (word : ℕ) (g : Geometry) (view later : View) (test : Bool) → has_slower g word ≡ test → MayDemote g made g view → is_worn made.spent ≡ false
    → later ≡ opened_view (move_looked_op made.page view.room.aliases (Some word) None []) view.owned view.scan view
    → (word ≢ 0 → IsFrame g (word - 1)) → (word ≢ 0 → IsNotOwned view (word - 1))
    → RunsSelect made (if test then ReadingShadow (word - 1) else Unlocking Gone) (Either test (ReadsShadowToDemote g made (word - 1)) (UnlocksEarly g made Gone)) g view later
home-test made word g view later true e may left is range unowned =
    let both = slower-tier g word e in
    let some : word ≢ 0 = grind (arith, both.0) in
    let same : home_word (word - 1) ≡ word = omega (arith, some) in
    let fast : IsFastHome made g view (word - 1) = record { may = may; left = left; range = range some; fast = both.1; unowned = unowned some } in
    let now : later ≡ opened_view (move_looked_op made.page view.room.aliases (Some (home_word (word - 1))) None []) view.owned view.scan view =
    is ∙ ap (λ (w : ℕ). opened_view (move_looked_op made.page view.room.aliases (Some w) None []) view.owned view.scan view) (sym same) in
    act-run made (ReadingShadow (word - 1)) (λ reply. LooksToDemote g made (word - 1) (told reply)) (Read made.page (cells.Shadow (word - 1))) g view later refl
    (record {
      quiet = tt;
      allowed = record {
        range = record { page = may.page; cell = range some };
        permitted = opened-some (move_looked_op made.page view.room.aliases (Some (home_word (word - 1))) None []) view.owned view.scan made.page view later (MayRead (cells.Shadow (word - 1))) refl now refl;
      };
    })
    (record { fast = fast; is = now }) (λ own outcome f. f) (λ end. can-looks g made (word - 1) (told_in_selecting end) both.1)
home-test made word g view later false e may left is range unowned = runs-closing made Gone g view later (Some word) None [] may is

-- what a Read of the home tells
home-told : (made : DemoteMade) (g : Geometry) (view now later : View) (word : ℕ) → IsReadingHomeToDemote made g view now → IsActed g now (Read made.page (cells.Home made.page)) (Word word) later → IsHomeRead g now word (move_looked_op made.page view.room.aliases None None [])
home-told made g view now later word h acted =
    let on = ap (λ (v : View). op_on v made.page) h.is ∙ opened-on (move_looked_op made.page view.room.aliases None None []) view.owned view.scan made.page view refl in
    subst (λ (x : Option Op). IfSome x (IsReadOf g now (cells.Home made.page) word)) on acted.fits.told.said

pub after-reading-home : (made : DemoteMade) (g : Geometry) (view now later : View) (own : Own) (end : SelectPieceEnd) → IsReadingHomeToDemote made g view now → EndsSelect own (This (Read made.page (cells.Home made.page))) g now end later
    → RunsSelect made (demote_home_stage g (told_in_selecting end)) (AfterHomeToDemote g made (told_in_selecting end)) g view later
after-reading-home made g view now later own (This Done) h a = absurd a.0.fits.kind
after-reading-home made g view now later own (This (Busy w)) h a = absurd a.0.fits.kind
after-reading-home made g view now later own (This (Lost w)) h a = absurd a.0.fits.kind
after-reading-home made g view now later own (Other x) h a = absurd a.0
after-reading-home made g view now later own (This (Word word)) h a =
    let read = home-told made g view now later word h a.0 in
    let news = read.news refl in
    let is = a.0.is ∙ ap (λ (v : View). after_of g v (Read made.page (cells.Home made.page)) (Word word)) h.is
    ∙ after-read g (move_looked_op made.page view.room.aliases None None []) view.owned view.scan made.page word (cells.Home made.page) view refl in
    home-test made word g view later (has_slower g word) refl h.may h.left is (λ some. let range = news.range in omega (arith, some)) (λ some. subst (λ (v : View). IsNotOwned v (word - 1)) h.is (read.free some))

-- The shadow word.

shadow-told : (made : DemoteMade) (home : ℕ) (g : Geometry) (view now later : View) (word : ℕ) (h : IsReadingShadowToDemote made home g view now) → IsActed g now (Read made.page (cells.Shadow home)) (Word word) later
    → IsShadowRead g now home word (move_looked_op made.page view.room.aliases (Some (home_word home)) None [])
shadow-told made home g view now later word h acted =
    let o : Op = move_looked_op made.page view.room.aliases (Some (home_word home)) None [] in
    let on = ap (λ (v : View). op_on v made.page) h.is ∙ opened-on o view.owned view.scan made.page view refl in
    subst (λ (x : Option Op). IfSome x (IsReadOf g now (cells.Shadow home) word)) on acted.fits.told.said

-- the virtual pages are to be looked at, if there are any
look-from : (made : DemoteMade) (home shadow : ℕ) (pages : List ℕ) (g : Geometry) (view now : View) → vpages_of g made.page ≡ pages → IsLookingToDemote made home shadow g view now → RunsSelect made (demote_look_from home shadow pages) (LooksToDemote g made home shadow) g view now
look-from made home shadow [] g view now none h =
    let run = runs-closing made Gone g view now (Some (home_word home)) (Some shadow) [] h.has.fast.may h.is in
    let V : List ℕ → Type 0 = λ l. (own : Own) (outcome : Selected) → UnlocksEarly g made Gone own outcome → Follows (IsVisits (looks_made made.page l) g) (AfterLooksToDemote g made home shadow) own outcome in
    let at-once : V [] = λ own outcome c. over-at-once (IsVisits (looks_made made.page []) g) (AfterLooksToDemote g made home shadow) [] own outcome (ends-now []) c in
    runs-as made (Unlocking Gone) (UnlocksEarly g made Gone) (LooksToDemote g made home shadow) g view now (subst V (sym none) at-once) run
look-from made home shadow (v ∷ vs) g view now some h =
    visits-run made (Looking home shadow) (AfterLooksToDemote g made home shadow) (looks_made made.page (vpages_of g made.page)) g view now refl (record { of = vpages-all g made.page; each = tt }) h
    (λ own outcome f. f) (λ end. can-after-looks g made home shadow (found_in_selecting end) h.has.fast.fast)

pub after-reading-shadow : (made : DemoteMade) (home : ℕ) (g : Geometry) (view now later : View) (own : Own) (end : SelectPieceEnd) → IsReadingShadowToDemote made home g view now → EndsSelect own (This (Read made.page (cells.Shadow home))) g now end later
    → RunsSelect made (demote_look_stage g made home (told_in_selecting end)) (LooksToDemote g made home (told_in_selecting end)) g view later
after-reading-shadow made home g view now later own (This Done) h a = absurd a.0.fits.kind
after-reading-shadow made home g view now later own (This (Busy w)) h a = absurd a.0.fits.kind
after-reading-shadow made home g view now later own (This (Lost w)) h a = absurd a.0.fits.kind
after-reading-shadow made home g view now later own (Other x) h a = absurd a.0
after-reading-shadow made home g view now later own (This (Word word)) h a =
    let read = shadow-told made home g view now later word h a.0 in
    let is = a.0.is ∙ ap (λ (v : View). after_of g v (Read made.page (cells.Shadow home)) (Word word)) h.is
    ∙ after-read g (move_looked_op made.page view.room.aliases (Some (home_word home)) None []) view.owned view.scan made.page word (cells.Shadow home) view refl in
    look-from made home word (vpages_of g made.page) g view later refl (record {
      has = record { fast = h.fast; news = read.news refl; free = λ some. subst (λ (v : View). IsNotOwned v (shadow_frame word)) h.is (read.free some) };
      is = is;
    })

-- The Looks.

-- what was seen
pub record HasLookedToDemote (made : DemoteMade) (home shadow : ℕ) (g : Geometry) (view : View) (pages : List ℕ) (later : View) : Type 0 where
  pub has : HasShadowWord made g view home shadow
  pub looked : List (ℕ × ℕ)
  pub seen : HasSeenToDemote made g pages looked
  pub is : later ≡ opened_view (move_looked_op made.page view.room.aliases (Some (home_word home)) (Some shadow) looked) view.owned view.scan view

looked-seen : (made : DemoteMade) (g : Geometry) (told : List (ℕ × ℕ)) → IsGeometry g → map first told ≡ vpages_of g made.page → Once first told → HasSeenToDemote made g (mapped_of told) told
looked-seen made g told geometry pages once =
    let all = subst (All (λ v. backing_page g v ≡ Some made.page)) (sym pages) (vpages-all g made.page) in
    record {
      of = found-all (λ v. backing_page g v ≡ Some made.page) told all;
      over = looked-over g made.page told pages;
      mapped = found-mapped told once;
      found = seen-found told;
      few = looked-few g made.page told geometry pages;
    }

pub has-looked : (made : DemoteMade) (home shadow : ℕ) (g : Geometry) (view now later : View) (own : Own) (end : SelectPieceEnd) → IsLookingToDemote made home shadow g view now → EndsSelect own (Other (This (looks_made made.page (vpages_of g made.page)))) g now end later
    → HasLookedToDemote made home shadow g view (found_in_selecting end) later
has-looked made home shadow g view now later own (This x) h a = absurd a.0
has-looked made home shadow g view now later own (Other (Other x)) h a = absurd a.0
has-looked made home shadow g view now later own (Other (This found)) h a =
    let o : Op = move_looked_op made.page view.room.aliases (Some (home_word home)) (Some shadow) [] in
    let v = a.0 in
    let is : later ≡ opened_view (move_looked_op made.page view.room.aliases (Some (home_word home)) (Some shadow) v.told) view.owned view.scan view =
    v.is ∙ ap (λ (x : View). record x { ops = edit page_of made.page (visited visits.Look v.told) x.ops }) h.is
    ∙ ap (λ (l : List Op). record view { ops = l }) (edit-one (visited visits.Look v.told) o made.page refl)
    ∙ ap (λ (x : Op). record view { ops = x ∷ [] }) (visited-look v.told o v.once) in
    let P : List ℕ → Type 0 = λ l. HasSeenToDemote made g l v.told in
    record { has = h.has; looked = v.told; seen = subst P (sym v.mapped) (looked-seen made g v.told h.has.fast.may.geometry v.pages v.once); is = is }

after-none : (made : DemoteMade) (home shadow : ℕ) (g : Geometry) (pages : List ℕ) (own : Own) (outcome : Selected) → pages ≡ [] → UnlocksEarly g made Gone own outcome → AfterLooksToDemote g made home shadow pages own outcome
after-none made home shadow g pages own outcome none h = subst (λ (l : List ℕ). AfterLooksToDemote g made home shadow l own outcome) (sym none) h

after-some : (made : DemoteMade) (home shadow : ℕ) (g : Geometry) (pages : List ℕ) (own : Own) (outcome : Selected) → pages ≢ [] → SelectsHome g made home shadow pages own outcome → AfterLooksToDemote g made home shadow pages own outcome
after-some made home shadow g [] own outcome some h = absurd (some refl)
after-some made home shadow g (v ∷ vs) own outcome some h = h

-- none has a word
pub after-looking-none : (made : DemoteMade) (home shadow : ℕ) (pages : List ℕ) (g : Geometry) (view later : View) → HasLookedToDemote made home shadow g view pages later → pages ≡ []
    → RunsSelect made (Unlocking Gone) (AfterLooksToDemote g made home shadow pages) g view later
after-looking-none made home shadow pages g view later h none =
    runs-as made (Unlocking Gone) (UnlocksEarly g made Gone) (AfterLooksToDemote g made home shadow pages) g view later (λ own outcome c. after-none made home shadow g pages own outcome none c)
    (runs-closing made Gone g view later (Some (home_word home)) (Some shadow) h.looked h.has.fast.may h.is)

search-may : (made : DemoteMade) (home : ℕ) (pages : List ℕ) (g : Geometry) (view now : View) → IsObtainingToDemote made home pages g view now → MayObtain g (obtain_for g made home) g now
search-may made home pages g view now h =
    let o : Op = move_looked_op made.page view.room.aliases (Some (home_word home)) (Some 0) h.looked in
    let P : View → Type 0 = λ v. MayObtain g (obtain_for g made home) g v in
    subst P (sym h.is) (record {
      same = refl;
      may = record {
        geometry = h.fast.may.geometry;
        tier = h.fast.fast;
        ops = record { few = omega arith; named = more (λ (x : Op). Some made.page ≡ Some x.page) o [] refl (none_left (λ (x : Op). Some made.page ≡ Some x.page)) };
        turn = h.fast.may.turn;
      };
    })

runs-obtaining : (made : DemoteMade) (home : ℕ) (pages : List ℕ) (g : Geometry) (view now : View) → IsObtainingToDemote made home pages g view now → RunsSelect made (Obtaining home pages) (SeeksFrame g made home pages) g view now
runs-obtaining made home pages g view now h =
    search-run made (Obtaining home pages) (AfterObtain g made home pages) (g, obtain_for g made home) g view now refl (search-may made home pages g view now h) h
    (λ own outcome f. f) (λ end. can-after-obtain g made home pages (obtained_in end))

is-none : (shadow : ℕ) → shadow ≡ 0 → (shadow == 0) ≡ true
is-none shadow e = grind arith

is-some : (shadow : ℕ) → shadow ≢ 0 → (shadow == 0) ≡ false
is-some shadow e = grind arith

-- there is no shadow
pub after-looking-plain : (made : DemoteMade) (home shadow : ℕ) (pages : List ℕ) (g : Geometry) (view later : View) → HasLookedToDemote made home shadow g view pages later → pages ≢ [] → shadow ≡ 0
    → RunsSelect made (Obtaining home pages) (AfterLooksToDemote g made home shadow pages) g view later
after-looking-plain made home shadow pages g view later h some none =
    let is = h.is ∙ ap (λ (w : ℕ). opened_view (move_looked_op made.page view.room.aliases (Some (home_word home)) (Some w) h.looked) view.owned view.scan view) none in
    runs-as made (Obtaining home pages) (SeeksFrame g made home pages) (AfterLooksToDemote g made home shadow pages) g view later
    (λ own outcome c. after-some made home shadow g pages own outcome some
    (either-yes (shadow == 0) (SeeksFrame g made home pages) (Ends (ends.Ready home (shadow_frame shadow) sources.Shadow pages)) own outcome (is-none shadow none) c))
    (runs-obtaining made home pages g view later (record { fast = h.has.fast; looked = h.looked; seen = h.seen; some = some; is = is }))

-- the shadow is a new home
shadow-home : (made : DemoteMade) (home shadow : ℕ) (g : Geometry) (view : View) → HasShadowWord made g view home shadow → shadow ≢ 0 → IsNewsOfShadow g made.page home shadow → IsNewHome made g home (shadow_frame shadow) shadow sources.Shadow view.owned
shadow-home made home shadow g view h some (inl none) = absurd (some none)
shadow-home made home shadow g view h some (inr (frame, names)) =
    let same : frame ≡ shadow_frame shadow = sym (shadow_frame-NamesShadow g shadow made.page frame h.fast.may.geometry.ranges.1.3 names.names) in
    let F : ℕ → Type 0 = λ f. find owned_frame f view.owned ≡ None in
    let N : ℕ → Type 0 = λ f. IsNewHome made g home f shadow sources.Shadow view.owned in
    subst N same (record { range = names.names.range; slower = names.slower; fresh = subst F (sym same) (h.free some); beside = names.names.is })

pub after-looking-shadow : (old : Select) (home shadow frame : ℕ) (pages : List ℕ) (g : Geometry) (view later : View) → HasLookedToDemote old.made home shadow g view pages later → pages ≢ [] → shadow ≢ 0 → frame ≡ shadow_frame shadow
    → IsSelectOver old (AfterLooksToDemote g old.made home shadow pages) g view later (ends.Ready home frame sources.Shadow pages)
after-looking-shadow old home shadow frame pages g view later h some there is =
    let O : ℕ → Type 0 = λ f. IsSelectOver old (AfterLooksToDemote g old.made home shadow pages) g view later (ends.Ready home f sources.Shadow pages) in
    subst O (sym is) (record {
      shown = after-some old.made home shadow g pages [] (ends.Ready home (shadow_frame shadow) sources.Shadow pages) some
          (either-other (shadow == 0) (SeeksFrame g old.made home pages) (Ends (ends.Ready home (shadow_frame shadow) sources.Shadow pages)) [] (ends.Ready home (shadow_frame shadow) sources.Shadow pages) (is-some shadow there)
          (ends-now (ends.Ready home (shadow_frame shadow) sources.Shadow pages)));
      left = record {
        fast = h.has.fast;
        looked = h.looked;
        seen = h.seen;
        some = some;
        before = view.owned;
        forgotten = forgets-none (Some old.made.page) view.owned;
        shadow = shadow;
        new = shadow-home old.made home shadow g view h.has there h.has.news;
        scan = view.scan;
        is = h.is;
      };
      over = tt;
    })

-- The search for a frame.

-- the frame that was taken is a new home
taken-home : (made : DemoteMade) (home frame : ℕ) (pages : List ℕ) (g : Geometry) (view now later : View) → IsObtainingToDemote made home pages g view now → HasObtained (obtain_for g made home) g now frame later → IsReadyToDemote made g view home frame sources.Copy pages later
taken-home made home frame pages g view now later h a =
    let o : Op = move_looked_op made.page view.room.aliases (Some (home_word home)) (Some 0) h.looked in
    let tier : tier_of g home + 1 ≡ tier_of g frame = tier_of-IsInTier g frame (tier_of g home + 1) a.given.there in
    record {
      fast = h.fast;
      looked = h.looked;
      seen = h.seen;
      some = h.some;
      before = a.before;
      forgotten = subst (λ (v : View). IsForgotten (Some made.page) v.owned a.before) h.is a.forgotten;
      shadow = 0;
      new = record { range = IsInTier-lt g frame (tier_of g home + 1) a.given.there; slower = omega (arith, tier); fresh = a.fresh; beside = refl };
      scan = a.scan;
      is = a.is ∙ ap (λ (v : View). record v { owned = owning frame Raw a.before; scan = a.scan }) h.is;
    }

pub after-got : (old : Select) (home frame : ℕ) (pages : List ℕ) (g : Geometry) (view now later : View) (own : Own) → IsObtainingToDemote old.made home pages g view now → EndsSelect own (Other (Other (g, obtain_for g old.made home))) g now (Other (Other (Got frame))) later
    → IsSelectOver old (AfterObtain g old.made home pages (Got frame)) g view later (ends.Ready home frame sources.Copy pages)
after-got old home frame pages g view now later own h a = record {
  shown = ends-now (ends.Ready home frame sources.Copy pages);
  left = taken-home old.made home frame pages g view now later h a.0;
  over = tt;
}

-- there is none
pub after-floor : (made : DemoteMade) (home n : ℕ) (pages : List ℕ) (g : Geometry) (view now later : View) (own : Own) → IsObtainingToDemote made home pages g view now → EndsSelect own (Other (Other (g, obtain_for g made home))) g now (Other (Other (AtFloor n))) later
    → RunsSelect made (Unlocking (NoFrame n)) (UnlocksEarly g made (NoFrame n)) g view later
after-floor made home n pages g view now later own h a =
    runs-unlocking made (NoFrame n) g view later (open-looked made g view later (Some (home_word home)) (Some 0) h.looked later.owned later.scan h.fast.may
    (subst (λ (v : View). IsForgotten (Some made.page) v.owned later.owned) h.is a.0.owned)
    (a.0.is ∙ ap (λ (v : View). record v { owned = later.owned; scan = later.scan }) h.is))

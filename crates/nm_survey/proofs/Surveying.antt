-- The steps of the smallest composite.
use Rattle.std.proofs.Common.{◌≡◌, ℕ, suc, ◌+◌, ◌-◌, ◌<◌, ◌≤◌, ◌==◌, nat_lt, if◌then◌else◌, Bool, true, false, List, [], ◌∷◌, ◌++◌, Option, Some, None, option_map, IsSomeAnd, inl, inr, refl, sym, ap, ◌∙◌, subst, arith}
use Rattle.std.proofs.lemmas.Bool.{ltb-true, ltb-false, cases_eq}
use Rattle.nm_base.specs.Geometry.{Geometry, backing_page}
use Rattle.nm_action.specs.declared.action.Action.{Action}
use Rattle.nm_action.specs.declared.action.Action.TheVariants.{Lock, Look, Unlock}
use Rattle.nm_action.specs.declared.action.Reply.{Reply}
use Rattle.nm_action.specs.declared.action.Reply.TheVariants.{Done, Word, Busy, Lost}
use Rattle.nm_view.specs.Views.{Op, View}
use Rattle.nm_view.specs.Lists.{find, edit, erase}
use Rattle.nm_view.specs.Opening.{opened}
use Rattle.nm_view.specs.Operations.{page_of, op_on}
use Rattle.nm_view.proofs.Finds.{find_join, find_edit, find_edit_other}
use Rattle.nm_permit.specs.Permitted.{MayUnlock}
use Rattle.nm_event.specs.After.{looked_at, edit_under, spoiled}
use Rattle.nm_action.specs.Own.{Own}
use Rattle.nm_part.specs.Patterns.{Ends, CanEnd}
use Rattle.nm_part.proofs.Patterns.{ends-now, can-ends, can-follow, each-can}
use Rattle.nm_compose.specs.Acts.{MayAct, IsAct, IsActed}
use Rattle.nm_compose.specs.Plans.{IsNewRun, IsOver}
use Rattle.nm_compose.specs.Stages.{IsPieceAt, RunsAt}
use Rattle.nm_compose.specs.declared.act.Act.{Act}
use Rattle.nm_compose.proofs.Acting.{some-act}
use Rattle.nm_compose.proofs.Staging.{by-stage, runs-new}
use Rattle.nm_survey.specs.declared.survey.Survey.{Survey}
use Rattle.nm_survey.specs.declared.survey.Stage.{Stage}
use Rattle.nm_survey.specs.declared.survey.Stage.TheVariants.{Locking, Looking, Unlocking}
use Rattle.nm_survey.specs.declared.survey.SurveyMade.{SurveyMade}
use Rattle.nm_survey.specs.Surveys.{numbers_from, count_with, count_after, IsSurveyed, Unlocks, SurveysAt, SurveyLooks, AfterSurveyLock, IsSurvey, MaySurvey, HasLocked, IsSurveyAtLock, survey_stages, survey_action, survey_left, looking_from}

-- The operation on the page.

looked-some : (g : Geometry) (v word : ℕ) (o : Option Op) → IsSomeAnd o (MayUnlock g) → IsSomeAnd (option_map (looked_at v word) o) (MayUnlock g)
looked-some g v word None h = h
looked-some g v word (Some o) h = record { back = h.back; flushed = record { made = h.flushed.made; seen = h.flushed.seen }; phase = h.phase }

-- a Look leaves it as it may be unlocked
looked-edit : (g : Geometry) (b p v word : ℕ) (ops : List Op) → IsSomeAnd (find page_of b ops) (MayUnlock g) → IsSomeAnd (find page_of b (edit page_of p (looked_at v word) ops)) (MayUnlock g)
looked-edit g b p v word ops h =
    let M : Option Op → Type 0 = λ o. IsSomeAnd o (MayUnlock g) in
    let E : ℕ → Type 0 = λ n. M (find page_of b (edit page_of n (looked_at v word) ops)) in
    elim (cases_eq b p) [
      | inl same ↦ subst E same (subst M (sym (find_edit page_of b (looked_at v word) ops (λ o. refl))) (looked-some g v word (find page_of b ops) h))
      | inr other ↦ subst M (sym (find_edit_other page_of p (looked_at v word) b ops (λ o. refl) (λ e. other (sym e)))) h
    ]

looked-under : (g : Geometry) (b v word : ℕ) (page : Option ℕ) (ops : List Op) → IsSomeAnd (find page_of b ops) (MayUnlock g) → IsSomeAnd (find page_of b (edit_under page (looked_at v word) ops)) (MayUnlock g)
looked-under g b v word None ops h = h
looked-under g b v word (Some p) ops h = looked-edit g b p v word ops h

-- The views.

fresh-now : (page : ℕ) (first now : View) → now ≡ first → op_on first page ≡ None → op_on now page ≡ None
fresh-now page first now same fresh = rw same fresh

-- the page was locked
pub locked-done : (made : SurveyMade) (g : Geometry) (first now later : View) → IsSurveyAtLock made g first now → IsActed g now (Lock made.page) Done later → HasLocked made g first later
locked-done made g first now later at acted =
    let L : View → Type 0 = λ v. HasLocked made g first v in
    subst L (sym acted.is) (record {
      page = at.may.page;
      vpages = at.may.vpages;
      few = at.may.few;
      op = rw (find_join page_of (opened made.page now.room.aliases) now.ops (fresh-now made.page first now at.begun at.may.lock.fresh)) (record { back = refl; flushed = record { made = refl; seen = tt }; phase = λ e. cc });
      rest = ap (λ (v : View). record v { ops = now.ops ++ opened made.page now.room.aliases ∷ [] }) at.begun;
    })

-- a virtual page was looked at
pub locked-looked : (made : SurveyMade) (g : Geometry) (first now later : View) (vpage : ℕ) (reply : Reply) → HasLocked made g first now → IsActed g now (Look vpage) reply later → HasLocked made g first later
locked-looked made g first now later vpage Done at acted = absurd acted.fits.kind
locked-looked made g first now later vpage (Word word) at acted =
    let L : View → Type 0 = λ v. HasLocked made g first v in
    subst L (sym acted.is) (record {
      page = at.page;
      vpages = at.vpages;
      few = at.few;
      op = looked-under g made.page vpage word (backing_page g vpage) now.ops at.op;
      rest = ap (λ (v : View). record v { ops = edit_under (backing_page g vpage) (looked_at vpage word) now.ops }) at.rest;
    })
locked-looked made g first now later vpage (Busy w) at acted = absurd acted.fits.kind
locked-looked made g first now later vpage (Lost w) at acted = absurd acted.fits.kind

-- after the Unlock
unlocked-rest : (g : Geometry) (first now : View) (page : ℕ) (reply : Reply) (later : View) → now ≡ record first { ops = now.ops } → IsActed g now (Unlock page) reply later → IsSurveyed first later
unlocked-rest g first now page Done later rest a =
    let S : View → Type 0 = λ v. IsSurveyed first v in
    subst S (sym a.is) (record { is = ap (λ (v : View). record v { ops = erase page_of page now.ops; owned = spoiled page now.owned }) rest })
unlocked-rest g first now page (Word w) later rest a = absurd a.fits.kind
unlocked-rest g first now page (Busy w) later rest a = absurd a.fits.kind
unlocked-rest g first now page (Lost w) later rest a = absurd a.fits.kind

-- where the page was busy
busy-rest : (g : Geometry) (first now : View) (page word : ℕ) (later : View) → now ≡ first → IsActed g now (Lock page) (Busy word) later → IsSurveyed first later
busy-rest g first now page word later same a = let S : View → Type 0 = λ v. IsSurveyed first v in subst S (sym (a.is ∙ same)) (record { is = refl })

count-test : (word mapped : ℕ) (test : Bool) → (if test then mapped else mapped + 1) ≤ mapped + 1
count-test word mapped true = omega arith
count-test word mapped false = omega arith

count-most : (vpage mapped word count : ℕ) → count ≡ count_with word mapped → mapped ≤ vpage → count ≤ vpage + 1
count-most vpage mapped word count is few = let m = count-test word mapped (word == 0) in omega arith

-- What is left.

numbers-next : (v n : ℕ) → v < n → numbers_from v (n - v) ≡ v ∷ numbers_from (v + 1) (n - (v + 1))
numbers-next v n h = let e : n - v ≡ suc (n - (v + 1)) = omega arith in rw e refl

numbers-none : (v n : ℕ) → n ≤ v → numbers_from v (n - v) ≡ []
numbers-none v n h = let e : n - v ≡ 0 = omega arith in rw e refl

can-unlocks : (g : Geometry) (page mapped : ℕ) → CanEnd (Unlocks g page mapped)
can-unlocks g page mapped = can-follow (IsAct (Unlock page) g) (λ reply. Ends (Some mapped)) (some-act (Unlock page) g) (can-ends (Some mapped))

can-looks : (g : Geometry) (made : SurveyMade) (vpage mapped : ℕ) → CanEnd (SurveyLooks g made vpage mapped)
can-looks g made vpage mapped = each-can (SurveysAt g) (numbers_from vpage (made.vpages - vpage)) mapped (Unlocks g made.page)
    (λ item now later can. can-follow (IsAct (Look item) g) (λ reply. later (count_after reply now)) (some-act (Look item) g) (can (count_after (some-act (Look item) g).outcome now)))
    (λ end. can-unlocks g made.page end)

can-after-lock : (g : Geometry) (made : SurveyMade) (reply : Reply) → CanEnd (AfterSurveyLock g made reply)
can-after-lock g made Done = can-looks g made 0 0
can-after-lock g made _ = can-ends None

-- the pattern has a list
pub some-survey : (made : SurveyMade) (g : Geometry) → CanEnd (IsSurvey made g)
some-survey made g = can-follow (IsAct (Lock made.page) g) (AfterSurveyLock g made) (some-act (Lock made.page) g) (can-after-lock g made (some-act (Lock made.page) g).outcome)

-- The pieces.

abbrev pub RunsSurvey : SurveyMade → Stage → (Own → Option ℕ → Type 0) → Geometry → View → View → Type 0
RunsSurvey = RunsAt (λ action g view. MayAct g view action) IsAct survey_stages

runs-test : (made : SurveyMade) (g : Geometry) (first now : View) (vpage mapped : ℕ) (test : Bool) → nat_lt vpage made.vpages ≡ test → HasLocked made g first now → mapped ≤ vpage
    → RunsSurvey made (if test then Looking vpage mapped else Unlocking mapped) (SurveyLooks g made vpage mapped) g first now
runs-test made g first now vpage mapped true is h m =
    let within = ltb-true vpage made.vpages is in
    record {
      begin = record { quiet = tt; allowed = record { range = subst (λ (n : ℕ). vpage < n) h.vpages within; permitted = tt } };
      known = record { is = refl; known = record { locked = h; within = within; count = m } };
      can = λ own end shown. can-looks g made (vpage + 1) (count_after end mapped);
      fits = λ own outcome f. rw (numbers-next vpage made.vpages within) f;
    }
runs-test made g first now vpage mapped false is h m = record {
  begin = record { quiet = tt; allowed = record { range = h.page; permitted = h.op } };
  known = record { is = refl; known = h };
  can = λ own end shown. can-ends (Some mapped);
  fits = λ own outcome f. rw (numbers-none vpage made.vpages (ltb-false vpage made.vpages is)) f;
}

-- the Look at this virtual page, or the Unlock
pub runs-from : (made : SurveyMade) (g : Geometry) (first now : View) (vpage mapped : ℕ) → HasLocked made g first now → mapped ≤ vpage
    → RunsSurvey made (looking_from made vpage mapped) (SurveyLooks g made vpage mapped) g first now
runs-from made g first now vpage mapped h m = runs-test made g first now vpage mapped (nat_lt vpage made.vpages) refl h m

-- the Lock
pub runs-first : (made : SurveyMade) (g : Geometry) (view : View) → MaySurvey made g view → RunsSurvey made Locking (IsSurvey made g) g view view
runs-first made g view may = record {
  begin = record { quiet = tt; allowed = record { range = may.page; permitted = may.lock } };
  known = record { is = refl; known = record { may = may; begun = refl } };
  can = λ own end shown. can-after-lock g made end;
  fits = λ own outcome f. f;
}

-- the survey gives this action, where this was left
abbrev pub Gives : Survey → Act → (Own → Option ℕ → Type 0) → Geometry → View → View → Type 0
Gives new act was g first now = IsNewRun (λ (a : Act). a.action) (λ a. Unit {0}) (λ action g view. MayAct g view action) IsAct (IsPieceAt survey_stages new.made new.stage) (survey_left new.made new.stage) was act g first now

-- as it comes to a stage
pub gives-now : (old new : Survey) (stage : Stage) (act : Act) (was : Own → Option ℕ → Type 0) (g : Geometry) (first now : View)
    → new ≡ record old { stage = stage } → act.action ≡ survey_action old.made stage → RunsSurvey old.made stage was g first now → Gives new act was g first now
gives-now old new stage act was g first now is acts run =
    runs-new (λ (a : Act). a.action) (λ a. Unit {0}) (λ action g view. MayAct g view action) IsAct survey_stages was old.made new.made stage new.stage act g first now
    (ap (λ (s : Survey). s.made) is) (ap (λ (s : Survey). s.stage) is) acts tt run

-- The steps, each at its stage.

abbrev Acted : Action → Geometry → View → Reply → View → Type 0
Acted action g view reply left = IsActed g view action reply left

-- the page was locked: the first Look, or the Unlock
pub after-lock : (old new : Survey) (act : Act) (end : Reply) (g : Geometry) (first now later : View) (action : Action)
    → old.stage ≡ Locking → end ≡ Done → IsPieceAt survey_stages old.made old.stage g first now action → IsActed g now action end later
    → new ≡ record old { stage = looking_from old.made 0 0 } → act.action ≡ survey_action old.made (looking_from old.made 0 0)
    → Gives new act (survey_left old.made old.stage g end) g first later
after-lock old new act end g first now later action at ended known acted is acts =
    by-stage survey_stages Acted (λ stage reply. Gives new act (survey_left old.made stage g reply) g first later) old.made old.stage Locking end Done g first now later action at ended known acted
    (λ k a. gives-now old new (looking_from old.made 0 0) act (SurveyLooks g old.made 0 0) g first later is acts (runs-from old.made g first later 0 0 (locked-done old.made g first now later k a) (omega arith)))

-- the page was busy: the end
pub after-busy : (old : Survey) (word : ℕ) (end : Reply) (g : Geometry) (first now later : View) (action : Action)
    → old.stage ≡ Locking → end ≡ Busy word → IsPieceAt survey_stages old.made old.stage g first now action → IsActed g now action end later
    → IsOver (survey_left old.made old.stage g end) (λ g view mapped left. IsSurveyed view left) (λ g mapped. Unit {0}) g first later None
after-busy old word end g first now later action at ended known acted =
    by-stage survey_stages Acted (λ stage reply. IsOver (survey_left old.made stage g reply) (λ g view mapped left. IsSurveyed view left) (λ g mapped. Unit {0}) g first later None) old.made old.stage Locking end (Busy word) g first now later action at ended known acted
    (λ k a. record { shown = ends-now None; left = busy-rest g first now old.made.page word later k.begun a; over = tt })

-- a virtual page was looked at: the next Look, or the Unlock
pub after-look : (old new : Survey) (act : Act) (vpage mapped word count : ℕ) (end : Reply) (g : Geometry) (first now later : View) (action : Action)
    → old.stage ≡ Looking vpage mapped → end ≡ Word word → count ≡ count_with word mapped → IsPieceAt survey_stages old.made old.stage g first now action → IsActed g now action end later
    → new ≡ record old { stage = looking_from old.made (vpage + 1) count } → act.action ≡ survey_action old.made (looking_from old.made (vpage + 1) count)
    → Gives new act (survey_left old.made old.stage g end) g first later
after-look old new act vpage mapped word count end g first now later action at ended counts known acted is acts =
    by-stage survey_stages Acted (λ stage reply. Gives new act (survey_left old.made stage g reply) g first later) old.made old.stage (Looking vpage mapped) end (Word word) g first now later action at ended known acted
    (λ k a. let W : ℕ → Type 0 = λ n. Gives new act (SurveyLooks g old.made (vpage + 1) n) g first later in
    subst W counts (gives-now old new (looking_from old.made (vpage + 1) count) act (SurveyLooks g old.made (vpage + 1) count) g first later is acts
    (runs-from old.made g first later (vpage + 1) count (locked-looked old.made g first now later vpage (Word word) k.locked a) (count-most vpage mapped word count counts k.count))))

-- the page was unlocked: the end
pub after-unlock : (old : Survey) (mapped : ℕ) (end : Reply) (g : Geometry) (first now later : View) (action : Action)
    → old.stage ≡ Unlocking mapped → IsPieceAt survey_stages old.made old.stage g first now action → IsActed g now action end later
    → IsOver (survey_left old.made old.stage g end) (λ g view mapped left. IsSurveyed view left) (λ g mapped. Unit {0}) g first later (Some mapped)
after-unlock old mapped end g first now later action at known acted =
    by-stage survey_stages Acted (λ stage reply. IsOver (survey_left old.made stage g reply) (λ g view mapped left. IsSurveyed view left) (λ g mapped. Unit {0}) g first later (Some mapped)) old.made old.stage (Unlocking mapped) end end g first now later action at refl known acted
    (λ k a. record { shown = ends-now (Some mapped); left = unlocked-rest g first now old.made.page end later k.rest a; over = tt })

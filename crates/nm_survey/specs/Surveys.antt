-- The smallest composite: Lock of a page; where that is Busy, the end; Look at each virtual page in order; Unlock.
use Rattle.std.specs.Prelude.{◌≡◌, ℕ, zero, suc, ◌+◌, ◌-◌, ◌^◌, ◌<◌, ◌≤◌, ◌==◌, nat_lt, if◌then◌else◌, List, [], ◌∷◌, length, Option, Some, None, IsSomeAnd}
use Rattle.nm_base.specs.Geometry.{Geometry}
use Rattle.nm_action.specs.declared.action.Action.{Action}
use Rattle.nm_action.specs.declared.action.Action.TheVariants.{Lock, Unlock, Look}
use Rattle.nm_action.specs.declared.action.Reply.{Reply}
use Rattle.nm_action.specs.declared.action.Reply.TheVariants.{Done, Word}
use Rattle.nm_view.specs.Views.{View}
use Rattle.nm_base.specs.Ranges.{IsPage}
use Rattle.nm_view.specs.Operations.{op_on}
use Rattle.nm_permit.specs.Permitted.{MayLock, MayUnlock}
use Rattle.nm_action.specs.Own.{Own}
use Rattle.nm_part.specs.Patterns.{Ends, Follows, Each}
use Rattle.nm_compose.specs.Acts.{IsAct}
use Rattle.nm_compose.specs.Stages.{Stages}
use Rattle.nm_survey.specs.declared.survey.Stage.{Stage}
use Rattle.nm_survey.specs.declared.survey.Stage.TheVariants.{New, Locking, Looking, Unlocking}
use Rattle.nm_survey.specs.declared.survey.SurveyMade.{SurveyMade}

-- The pattern, last step first. No stage occurs in it.

-- the count after one word more
abbrev pub count_with : ℕ → ℕ → ℕ
count_with word mapped = if word == 0 then mapped else mapped + 1

-- the count after this reply to a Look
abbrev pub count_after : Reply → ℕ → ℕ
count_after (Word word) mapped = count_with word mapped
count_after _ mapped = mapped

-- so many numbers from this one on
abbrev pub numbers_from : ℕ → ℕ → List ℕ
numbers_from first zero = []
numbers_from first (suc more) = first ∷ numbers_from (first + 1) more

-- the Unlock, and the end with this count
abbrev pub Unlocks : Geometry → ℕ → ℕ → Own → Option ℕ → Type 0
Unlocks g page mapped = Follows (IsAct (Unlock page) g) (λ reply. Ends (Some mapped))

-- a Look at one virtual page, and what comes after it by the count
abbrev pub SurveysAt : Geometry → ℕ → ℕ → (ℕ → Own → Option ℕ → Type 0) → Own → Option ℕ → Type 0
SurveysAt g vpage mapped after = Follows (IsAct (Look vpage) g) (λ reply. after (count_after reply mapped))

-- the SurveyLooks from this virtual page on, and the Unlock
abbrev pub SurveyLooks : Geometry → SurveyMade → ℕ → ℕ → Own → Option ℕ → Type 0
SurveyLooks g made vpage mapped = Each (SurveysAt g) (numbers_from vpage (made.vpages - vpage)) mapped (Unlocks g made.page)

abbrev pub AfterSurveyLock : Geometry → SurveyMade → Reply → Own → Option ℕ → Type 0
AfterSurveyLock g made Done = SurveyLooks g made 0 0
AfterSurveyLock g made _ = Ends None

abbrev pub IsSurvey : SurveyMade → Geometry → Own → Option ℕ → Type 0
IsSurvey made g = Follows (IsAct (Lock made.page) g) (AfterSurveyLock g made)

-- it may begin where the page may be locked
pub record MaySurvey (made : SurveyMade) (g : Geometry) (view : View) : Type 0 where
  pub page : IsPage g made.page
  pub vpages : made.vpages ≡ length g.vpages
  pub few : made.vpages < 2 ^ 32
  pub lock : MayLock view made.page

-- it leaves all of the view but its operations and its owned frames as it was
pub record IsSurveyed (view left : View) : Type 0 where
  pub is : left ≡ record view { ops = left.ops; owned = left.owned }

-- The stages.

-- the action of a stage
abbrev pub survey_action : SurveyMade → Stage → Action
survey_action made New = Lock made.page
survey_action made Locking = Lock made.page
survey_action made (Looking vpage _) = Look vpage
survey_action made (Unlocking _) = Unlock made.page

-- the stage that comes to this virtual page
abbrev pub looking_from : SurveyMade → ℕ → ℕ → Stage
looking_from made vpage mapped = if nat_lt vpage made.vpages then Looking vpage mapped else Unlocking mapped

-- what is left after the action of a stage, by its reply
abbrev pub survey_left : SurveyMade → Stage → Geometry → Reply → Own → Option ℕ → Type 0
survey_left made New g reply = Ends None
survey_left made Locking g reply = AfterSurveyLock g made reply
survey_left made (Looking vpage mapped) g reply = SurveyLooks g made (vpage + 1) (count_after reply mapped)
survey_left made (Unlocking mapped) g reply = Ends (Some mapped)

-- the page is locked and may be unlocked, and all else of the view but its operations is as it was
pub record HasLocked (made : SurveyMade) (g : Geometry) (first now : View) : Type 0 where
  pub page : IsPage g made.page
  pub vpages : made.vpages ≡ length g.vpages
  pub few : made.vpages < 2 ^ 32
  pub op : IsSomeAnd (op_on now made.page) (MayUnlock g)
  pub rest : now ≡ record first { ops = now.ops }

-- it has begun
pub record IsSurveyAtLock (made : SurveyMade) (g : Geometry) (first now : View) : Type 0 where
  pub may : MaySurvey made g first
  pub begun : now ≡ first

-- so many of the virtual pages before this one are mapped
pub record IsSurveyAtLook (made : SurveyMade) (vpage mapped : ℕ) (g : Geometry) (first now : View) : Type 0 where
  pub locked : HasLocked made g first now
  pub within : vpage < made.vpages
  pub count : mapped ≤ vpage

-- what is known at a stage
abbrev pub KnownInSurvey : SurveyMade → Stage → Geometry → View → View → Type 0
KnownInSurvey made New g first now = ⊥
KnownInSurvey made Locking g first now = IsSurveyAtLock made g first now
KnownInSurvey made (Looking vpage mapped) g first now = IsSurveyAtLook made vpage mapped g first now
KnownInSurvey made (Unlocking mapped) g first now = HasLocked made g first now

abbrev pub survey_stages : Stages SurveyMade Stage Action Reply (Option ℕ)
survey_stages = record { piece = survey_action; left = survey_left; known = KnownInSurvey }

-- Replies that fit a survey of the one page of a machine, for rows that feed them.
use Rattle.std.proofs.Common.{◌≡◌, ℕ, ◌^◌, ◌<◌, ◌≤◌, if◌then◌else◌, Bool, true, false, List, [], ◌∷◌, length, ◌==◌, Option, Some, None, IfSome, inl, refl, sym, subst, arith}
use Rattle.std.proofs.lemmas.List.Elements.{All-nil}
use Rattle.nm_base.specs.Geometry.{Geometry, IsGeometry, backing_page}
use Rattle.nm_action.specs.declared.action.Action.{Action}
use Rattle.nm_action.specs.declared.action.Action.TheVariants.{Lock, Look, Unlock, Bump}
use Rattle.nm_action.specs.declared.action.Reply.TheVariants.{Done, Word, Busy}
use Rattle.nm_action.specs.Own.{Own}
use Rattle.nm_view.specs.Views.{Op, View, most_bumps}
use Rattle.nm_view.specs.Opening.{opening, opened}
use Rattle.nm_view.specs.Lists.{find}
use Rattle.nm_view.specs.Operations.{page_of, op_under}
use Rattle.nm_event.specs.Fitting.{Fits, IsAsKnown}
use Rattle.nm_part.specs.Parts.{IsAsked}
use Rattle.nm_compose.specs.Acts.{MayAct}
use Rattle.nm_survey.specs.declared.survey.SurveyMade.{SurveyMade}
use Rattle.nm_survey.specs.Surveys.{MaySurvey}

-- the action that is awaited, where it is known
pub awaited-at : {O : Type 0} {awaits : Geometry → View → Own → Action → Type 0} {shape : Geometry → Own → O → Type 0} {g : Geometry} {v : View} {own : Own} {x : Action} → IsAsked awaits shape g v own x → (action : Action) → x ≡ action → awaits g v own action
awaited-at {awaits = awaits} {g = g} {v = v} {own = own} s action e = let P : Action → Type 0 = λ y. awaits g v own y in subst P e s.awaited

-- a survey of page 0 that was made for a geometry may begin
pub may-survey : (m : SurveyMade) (g : Geometry) → m ≡ record { page = 0; vpages = length g.vpages } → IsGeometry g → MaySurvey m g (opening g 0)
may-survey m g e limits =
    let P : SurveyMade → Type 0 = λ y. MaySurvey y g (opening g 0) in
    subst P (sym e) (record {
      page = omega (arith, limits.ranges.3);
      vpages = refl;
      few = omega (arith, limits.ranges.3);
      lock = record { fresh = refl; few = omega arith };
    })

pub fits-locked : (g : Geometry) (v : View) (page : ℕ) → Fits g v (Lock page) Done
fits-locked g v page = record { kind = tt; told = tt }

pub fits-busy : (g : Geometry) (v : View) (page w : ℕ) → 0 < w → w < 2 ^ 64 → Fits g v (Lock page) (Busy w)
fits-busy g v page w some small = record { kind = tt; told = record { bits = small; said = λ e. omega (arith, e, some) } }

pub fits-unlocked : (g : Geometry) (v : View) (page : ℕ) → Fits g v (Unlock page) Done
fits-unlocked g v page = record { kind = tt; told = tt }

known-none : (b r v : ℕ) (test : Bool) → IfSome (if test then Some (opened b r) else None) (IsAsKnown v 0)
known-none b r v true = record { looked = λ e. tt; taken = λ t. refl; home = tt; shadow = tt }
known-none b r v false = tt

-- where the view has one operation, in which nothing is known, no virtual page need be mapped
known-under : (view : View) (b r v : ℕ) (page : Option ℕ) → view.ops ≡ opened b r ∷ [] → IfSome (op_under view page) (IsAsKnown v 0)
known-under view b r v None e = tt
known-under view b r v (Some p) e = let P : List Op → Type 0 = λ ops. IfSome (find page_of p ops) (IsAsKnown v 0) in subst P (sym e) (known-none b r v (b == p))

pub fits-looked : (g : Geometry) (view : View) (b r v : ℕ) → view.ops ≡ opened b r ∷ [] → Fits g view (Look v) (Word 0)
fits-looked g view b r v e = record {
  kind = tt;
  told = record {
    bits = omega arith;
    said = record {
      table = record { layout = inl refl; frame = λ n. absurd (n refl); writable = λ w. cc; saved = λ s. cc };
      known = known-under view b r v (backing_page g v) e;
    };
  };
}

-- a machine without pages, tiers and processors
abbrev pub bare : Geometry
bare = record { words = 1; tiers = []; cpus = 0; vpages = [] }

pub may-bump : (action : Action) (g : Geometry) → action ≡ Bump → MayAct g (opening g 0) action
may-bump action g e =
    let P : Action → Type 0 = λ a. MayAct g (opening g 0) a in
    subst P (sym e) (record { quiet = tt; allowed = record { range = tt; permitted = record { few = omega arith; dry = All-nil _ } } })

pub fits-bumped : (g : Geometry) (v : View) (word : ℕ) → word ≤ most_bumps → word < 2 ^ 64 → Fits g v Bump (Word word)
fits-bumped g v word most small = record { kind = tt; told = record { bits = small; said = most } }

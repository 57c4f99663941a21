-- The steps of a zeroing.
use Rattle.std.proofs.Common.{◌≡◌, ℕ, zero, suc, ◌+◌, ◌-◌, ◌<◌, ◌≤◌, Option, None, IsSomeAnd, refl, sym, ap, ◌∙◌, subst, arith}
use Rattle.std.specs.List.{range_with_len}
use Rattle.nm_base.specs.Geometry.{Geometry}
use Rattle.nm_action.specs.declared.action.Action.{Action}
use Rattle.nm_action.specs.declared.action.Action.TheVariants.{CopyStore}
use Rattle.nm_action.specs.declared.action.Reply.{Reply}
use Rattle.nm_action.specs.declared.action.Reply.TheVariants.{Done, Word, Busy, Lost}
use Rattle.nm_action.specs.Own.{Own}
use Rattle.nm_view.specs.declared.view.Fill.{Fill}
use Rattle.nm_view.specs.declared.view.Fill.TheVariants.{Zeroed}
use Rattle.nm_view.specs.Lists.{find}
use Rattle.nm_view.specs.Views.{View}
use Rattle.nm_view.specs.Operations.{owned_frame}
use Rattle.nm_permit.specs.Permitted.{IsZeroedTo, Allowed}
use Rattle.nm_event.specs.After.{filled}
use Rattle.nm_part.specs.Patterns.{Ends, CanEnd}
use Rattle.nm_part.proofs.Patterns.{ends-now, can-ends, can-follow, each-can}
use Rattle.nm_compose.specs.Acts.{MayAct, IsAct, IsActed}
use Rattle.nm_compose.specs.Plans.{IsNewRun, IsOver}
use Rattle.nm_compose.specs.Stages.{IsPieceAt, RunsAt}
use Rattle.nm_compose.specs.declared.act.Act.{Act}
use Rattle.nm_compose.proofs.Acting.{some-act}
use Rattle.nm_compose.proofs.Staging.{by-stage, runs-new}
use Rattle.nm_copying.specs.declared.zeroes.Zeroes.{Zeroes}
use Rattle.nm_copying.specs.declared.zeroes.ZeroStage.{ZeroStage}
use Rattle.nm_copying.specs.declared.zeroes.ZeroStage.TheVariants.{Zeroing}
use Rattle.nm_copying.specs.declared.zeroes.ZeroesMade.{ZeroesMade}
use Rattle.nm_copying.specs.Zeroing.{ZeroOf, ZeroesFrom, IsZeroing, zeroed_fill, zeroing, MayZeroes, IsZeroed, zeroes_action, zeroes_left, IsAtZero, zeroes_stages}
use Rattle.nm_copying.proofs.Edits.{edit-twice, range-next, range-none}
use Rattle.nm_copying.proofs.Copied.{fill-after, same-owned, some-words}

zeroed-to : (count : ℕ) → IsZeroedTo count (zeroed_fill count)
zeroed-to zero = refl
zeroed-to (suc n) = refl

zero-allowed : (made : ZeroesMade) (g : Geometry) (first now : View) (index : ℕ) → IsAtZero made index g first now → Allowed g now (CopyStore None made.frame index 0)
zero-allowed made g first now index at =
    let F : Option Fill → Type 0 = λ o. IsSomeAnd o (IsZeroedTo index) in
    record {
      range = record { page = tt; frame = at.may.frame; index = subst (λ (n : ℕ). index < n) at.may.words at.within; value = omega arith };
      permitted = rw at.is (record { fill = subst F (sym (fill-after made.frame (zeroed_fill index) first.owned at.may.fill)) (zeroed-to index); zero_is = refl });
    }

zero-first : (made : ZeroesMade) (g : Geometry) (view : View) → MayZeroes made g view → view ≡ zeroing made 0 view
zero-first made g view may =
    let owned = same-owned made.frame view.owned (find owned_frame made.frame view.owned) refl may.fill in
    rw owned refl

zero-done : (made : ZeroesMade) (g : Geometry) (first now later : View) (index : ℕ) (reply : Reply) → IsAtZero made index g first now → IsActed g now (CopyStore None made.frame index 0) reply later → later ≡ zeroing made (index + 1) first
zero-done made g first now later index Done at acted =
    let n : index + 1 ≡ suc index = omega arith in
    acted.is ∙ rw (at.is, edit-twice owned_frame made.frame (filled (zeroed_fill index)) (filled (Zeroed (index + 1))) first.owned (λ w. refl), n) refl
zero-done made g first now later index (Word w) at acted = absurd acted.fits.kind
zero-done made g first now later index (Busy w) at acted = absurd acted.fits.kind
zero-done made g first now later index (Lost w) at acted = absurd acted.fits.kind

-- What is left.

can-zeroes : (made : ZeroesMade) (g : Geometry) (index : ℕ) → CanEnd (ZeroesFrom made g index)
can-zeroes made g index = each-can (ZeroOf made g) (range_with_len index (made.words - index)) tt (λ kept. Ends tt)
    (λ item now later can. can-follow (IsAct (CopyStore None made.frame item 0) g) (λ stored. later now) (some-act (CopyStore None made.frame item 0) g) (can now))
    (λ end. can-ends end)

-- the pattern has a list
pub some-zeroes : (made : ZeroesMade) (g : Geometry) → CanEnd (IsZeroing made g)
some-zeroes made g = can-zeroes made g 0

-- The pieces.

abbrev pub RunsZeroes : ZeroesMade → ZeroStage → (Own → Unit {0} → Type 0) → Geometry → View → View → Type 0
RunsZeroes = RunsAt (λ action g view. MayAct g view action) IsAct zeroes_stages

runs-zero : (made : ZeroesMade) (g : Geometry) (first now : View) (index : ℕ) → IsAtZero made index g first now → RunsZeroes made (Zeroing index) (ZeroesFrom made g index) g first now
runs-zero made g first now index at = record {
  begin = record { quiet = tt; allowed = zero-allowed made g first now index at };
  known = record { is = refl; known = at };
  can = λ own end shown. can-zeroes made g (index + 1);
  fits = λ own outcome f. rw (range-next index made.words at.within) f;
}

-- the first store
pub zeroes-first : (made : ZeroesMade) (g : Geometry) (view : View) → MayZeroes made g view → RunsZeroes made (Zeroing 0) (IsZeroing made g) g view view
zeroes-first made g view may = runs-zero made g view view 0 (record { may = may; within = rw may.words (some-words g may.geometry); is = zero-first made g view may })

-- the zeroing gives this action, where this was left
abbrev pub GivesZero : Zeroes → Act → (Own → Unit {0} → Type 0) → Geometry → View → View → Type 0
GivesZero new act was g first now = IsNewRun (λ (a : Act). a.action) (λ a. Unit {0}) (λ action g view. MayAct g view action) IsAct (IsPieceAt zeroes_stages new.made new.stage) (zeroes_left new.made new.stage) was act g first now

-- as it comes to a stage
pub zero-now : (old new : Zeroes) (stage : ZeroStage) (act : Act) (was : Own → Unit {0} → Type 0) (g : Geometry) (first now : View)
    → new ≡ record old { stage = stage } → act.action ≡ zeroes_action old.made stage → RunsZeroes old.made stage was g first now → GivesZero new act was g first now
zero-now old new stage act was g first now is acts run =
    runs-new (λ (a : Act). a.action) (λ a. Unit {0}) (λ action g view. MayAct g view action) IsAct zeroes_stages was old.made new.made stage new.stage act g first now
    (ap (λ (s : Zeroes). s.made) is) (ap (λ (s : Zeroes). s.stage) is) acts tt run

-- The steps.

abbrev Acted : Action → Geometry → View → Reply → View → Type 0
Acted action g view reply left = IsActed g view action reply left

-- a word was set, and there is another
pub after-zero : (old new : Zeroes) (act : Act) (index : ℕ) (end : Reply) (g : Geometry) (first now later : View) (action : Action)
    → old.stage ≡ Zeroing index → index + 1 < old.made.words → IsPieceAt zeroes_stages old.made old.stage g first now action → IsActed g now action end later
    → new ≡ record old { stage = Zeroing (index + 1) } → act.action ≡ zeroes_action old.made (Zeroing (index + 1))
    → GivesZero new act (zeroes_left old.made old.stage g end) g first later
after-zero old new act index end g first now later action at more known acted is acts =
    by-stage zeroes_stages Acted (λ stage reply. GivesZero new act (zeroes_left old.made stage g reply) g first later) old.made old.stage (Zeroing index) end end g first now later action at refl known acted
    (λ k a. zero-now old new (Zeroing (index + 1)) act (ZeroesFrom old.made g (index + 1)) g first later is acts
    (runs-zero old.made g first later (index + 1) (record { may = k.may; within = more; is = zero-done old.made g first now later index end k a })))

-- the last word was set
pub after-last-zero : (old : Zeroes) (index : ℕ) (end : Reply) (g : Geometry) (first now later : View) (action : Action)
    → old.stage ≡ Zeroing index → old.made.words ≤ index + 1 → IsPieceAt zeroes_stages old.made old.stage g first now action → IsActed g now action end later
    → IsOver (zeroes_left old.made old.stage g end) (λ g view end left. IsZeroed old.made view left) (λ g end. Unit {0}) g first later tt
after-last-zero old index end g first now later action at none known acted =
    by-stage zeroes_stages Acted (λ stage reply. IsOver (zeroes_left old.made stage g reply) (λ g view end left. IsZeroed old.made view left) (λ g end. Unit {0}) g first later tt) old.made old.stage (Zeroing index) end end g first now later action at refl known acted
    (λ k a. let all : index + 1 ≡ old.made.words = omega (arith, k.within, none) in
    record { shown = rw (range-none (index + 1) old.made.words none) (ends-now tt); left = record { is = rw (sym all) (zero-done old.made g first now later index end k a) }; over = tt })

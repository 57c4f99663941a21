-- The steps of Softens.
use Rattle.std.proofs.Common.{◌≡◌, ℕ, nat_le, ◌+◌, ◌<◌, List, [], ◌∷◌, All, Option, Some, refl, sym, ◌∙◌, subst}
use Rattle.nm_base.specs.Geometry.{Geometry}
use Rattle.nm_base.specs.Ranges.{IsVPage}
use Rattle.nm_action.specs.declared.action.Action.{Action}
use Rattle.nm_action.specs.declared.action.Reply.{Reply}
use Rattle.nm_action.specs.declared.action.Reply.TheVariants.{Done, Word, Busy, Lost}
use Rattle.nm_action.specs.Own.{Own}
use Rattle.nm_view.specs.Views.{View}
use Rattle.nm_view.proofs.Items.{all_head, all_filter}
use Rattle.nm_part.specs.Patterns.{Ends, CanEnd}
use Rattle.nm_part.proofs.Patterns.{ends-now, can-ends, can-follow, each-can}
use Rattle.nm_compose.specs.Acts.{MayAct, IsAct, IsActed}
use Rattle.nm_compose.specs.Plans.{IsNewRun, IsOver}
use Rattle.nm_compose.specs.Stages.{IsPieceAt, RunsAt}
use Rattle.nm_compose.specs.declared.act.Act.{Act}
use Rattle.nm_compose.proofs.Acting.{some-act}
use Rattle.nm_compose.proofs.Staging.{by-stage, runs-new}
use Rattle.nm_vpages.specs.VPages.{most_vpages, at_or_after}
use Rattle.nm_vpages.proofs.Numbers.{at-least-zero}
use Rattle.nm_looks.specs.declared.softens.Softens.{Softens}
use Rattle.nm_looks.specs.Softening.{soften_at, SoftenAt, IsSoftens, MaySoften, softens_left, IsSofteningAt, softens_stages}

-- What is left.

-- the pattern has a list
pub some-softens : (pages : List ℕ) (g : Geometry) → CanEnd (IsSoftens pages g)
some-softens pages g = each-can (SoftenAt g) pages tt (λ kept. Ends tt)
    (λ v now later can. can-follow (IsAct (soften_at v) g) (λ reply. later now) (some-act (soften_at v) g) (can now))
    (λ all. can-ends tt)

-- The pieces.

abbrev pub RunsSoftens : List ℕ → Option ℕ → (Own → Unit {0} → Type 0) → Geometry → View → View → Type 0
RunsSoftens = RunsAt (λ action g view. MayAct g view action) IsAct softens_stages

runs-at : (pages : List ℕ) (g : Geometry) (first now : View) (v : ℕ) → IsSofteningAt pages v g first now
    → (rest : List ℕ) → rest ≡ v ∷ at_or_after (v + 1) pages → RunsSoftens pages (Some v) (IsSoftens rest g) g first now
runs-at pages g view now v at rest next = record {
  begin = record { quiet = tt; allowed = record { range = at.there; permitted = tt } };
  known = record { is = refl; known = at };
  can = λ own end shown. some-softens (at_or_after (v + 1) pages) g;
  fits = λ own outcome f. rw next f;
}

-- a virtual page of the list is in range
there-from : (pages : List ℕ) (g : Geometry) (from v : ℕ) → All (IsVPage g) pages → at_or_after from pages ≡ v ∷ at_or_after (v + 1) pages → IsVPage g v
there-from pages g from v all next = all_head (IsVPage g) v (at_or_after (v + 1) pages) (subst (All (IsVPage g)) next (all_filter (IsVPage g) (nat_le from) pages all))

-- a Soften leaves the view as it was
softened : (g : Geometry) (view left : View) (v : ℕ) (reply : Reply) → IsActed g view (soften_at v) reply left → left ≡ view
softened g view left v Done a = absurd a.fits.kind
softened g view left v (Word w) a = a.is
softened g view left v (Busy w) a = absurd a.fits.kind
softened g view left v (Lost w) a = absurd a.fits.kind

-- The steps of the plan.

-- Softens give this action, where this was left
abbrev pub GivesSoften : Softens → Act → (Own → Unit {0} → Type 0) → Geometry → View → View → Type 0
GivesSoften new act was g first now = IsNewRun (λ (a : Act). a.action) (λ a. Unit {0}) (λ action g view. MayAct g view action) IsAct (IsPieceAt softens_stages new.pages new.at) (softens_left new.pages new.at) was act g first now

gives-at : (pages : List ℕ) (new : Softens) (act : Act) (was : Own → Unit {0} → Type 0) (g : Geometry) (first now : View) (v : ℕ)
    → new.pages ≡ pages → new.at ≡ Some v → act.action ≡ soften_at v → RunsSoftens pages (Some v) was g first now → GivesSoften new act was g first now
gives-at pages new act was g first now v made-is at-is acts run =
    runs-new (λ (a : Act). a.action) (λ a. Unit {0}) (λ action g view. MayAct g view action) IsAct softens_stages was pages new.pages (Some v) new.at act g first now made-is at-is acts tt run

-- the first action
pub begins-softens : (pages : List ℕ) (new : Softens) (act : Act) (v : ℕ) (g : Geometry) (view : View)
    → new.pages ≡ pages → new.at ≡ Some v → act.action ≡ soften_at v → v < most_vpages → at_or_after 0 pages ≡ v ∷ at_or_after (v + 1) pages
    → MaySoften pages g view → GivesSoften new act (IsSoftens pages g) g view view
begins-softens pages new act v g view made-is at-is acts small next all =
    let at : IsSofteningAt pages v g view view = record { all = all; there = there-from pages g 0 v all next; small = small; is = refl } in
    gives-at pages new act (IsSoftens pages g) g view view v made-is at-is acts (runs-at pages g view view v at pages (sym (at-least-zero pages) ∙ next))

abbrev Acted : Action → Geometry → View → Reply → View → Type 0
Acted action g view reply left = IsActed g view action reply left

-- the next action
pub softens-on : (old new : Softens) (act : Act) (v u : ℕ) (end : Reply) (g : Geometry) (first now later : View) (action : Action)
    → old.at ≡ Some v → IsPieceAt softens_stages old.pages old.at g first now action → IsActed g now action end later
    → new.pages ≡ old.pages → new.at ≡ Some u → act.action ≡ soften_at u
    → u < most_vpages → at_or_after (v + 1) old.pages ≡ u ∷ at_or_after (u + 1) old.pages
    → GivesSoften new act (softens_left old.pages old.at g end) g first later
softens-on old new act v u end g first now later action at-is known acted made-is new-at acts small next =
    by-stage softens_stages Acted (λ at reply. GivesSoften new act (softens_left old.pages at g reply) g first later) old.pages old.at (Some v) end end g first now later action at-is refl known acted
    (λ k a.
    let at : IsSofteningAt old.pages u g first later = record { all = k.all; there = there-from old.pages g (v + 1) u k.all next; small = small; is = softened g now later v end a ∙ k.is } in
    gives-at old.pages new act (IsSoftens (at_or_after (v + 1) old.pages) g) g first later u made-is new-at acts (runs-at old.pages g first later u at (at_or_after (v + 1) old.pages) next))

-- the end
pub softens-over : (old : Softens) (v : ℕ) (end : Reply) (g : Geometry) (first now later : View) (action : Action)
    → old.at ≡ Some v → IsPieceAt softens_stages old.pages old.at g first now action → IsActed g now action end later
    → at_or_after (v + 1) old.pages ≡ []
    → IsOver (softens_left old.pages old.at g end) (λ g view end left. left ≡ view) (λ g end. Unit {0}) g first later tt
softens-over old v end g first now later action at-is known acted none =
    by-stage softens_stages Acted (λ at reply. IsOver (softens_left old.pages at g reply) (λ g view end left. left ≡ view) (λ g end. Unit {0}) g first later tt) old.pages old.at (Some v) end end g first now later action at-is refl known acted
    (λ k a.
    let over : IsOver (IsSoftens [] g) (λ g view end left. left ≡ view) (λ g end. Unit {0}) g first later tt = record { shown = ends-now tt; left = softened g now later v end a ∙ k.is; over = tt } in
    subst (λ (l : List ℕ). IsOver (IsSoftens l g) (λ g view end left. left ≡ view) (λ g end. Unit {0}) g first later tt) (sym none) over)

-- where they are
pub softens-at : (old : Softens) (v : ℕ) (g : Geometry) (first now : View) (action : Action) → old.at ≡ Some v → IsPieceAt softens_stages old.pages old.at g first now action → IsSofteningAt old.pages v g first now
softens-at old v g first now action at-is known = subst (λ (o : Option ℕ). softens_stages.known old.pages o g first now) at-is known.known

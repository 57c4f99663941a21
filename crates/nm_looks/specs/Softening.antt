-- The accessed bit is taken from the table word of each of several virtual pages, in ascending order.
use Rattle.std.specs.Prelude.{◌≡◌, ℕ, ◌+◌, ◌<◌, List, [], All, Option, Some, None}
use Rattle.nm_base.specs.Geometry.{Geometry}
use Rattle.nm_base.specs.Ranges.{IsVPage}
use Rattle.nm_action.specs.declared.action.Action.{Action}
use Rattle.nm_action.specs.declared.action.Action.TheVariants.{Soften}
use Rattle.nm_action.specs.declared.action.Bit.TheVariants.{Accessed}
use Rattle.nm_action.specs.declared.action.Reply.{Reply}
use Rattle.nm_action.specs.Own.{Own}
use Rattle.nm_view.specs.Views.{View}
use Rattle.nm_part.specs.Patterns.{Ends, Follows, Each}
use Rattle.nm_compose.specs.Acts.{IsAct}
use Rattle.nm_compose.specs.Stages.{Stages}
use Rattle.nm_vpages.specs.VPages.{most_vpages, at_or_after}
use Rattle.nm_looks.specs.declared.softens.Softens.{Softens}

-- The pattern.

abbrev pub soften_at : ℕ → Action
soften_at v = Soften v Accessed

-- one virtual page is softened, and what comes after it
abbrev pub SoftenAt : Geometry → ℕ → Unit {0} → (Unit {0} → Own → Unit {0} → Type 0) → Own → Unit {0} → Type 0
SoftenAt g v kept after = Follows (IsAct (soften_at v) g) (λ reply. after kept)

-- these virtual pages are softened, in order
abbrev pub IsSoftens : List ℕ → Geometry → Own → Unit {0} → Type 0
IsSoftens pages g = Each (SoftenAt g) pages tt (λ kept. Ends tt)

-- they may begin where the virtual pages are in range
abbrev pub MaySoften : List ℕ → Geometry → View → Type 0
MaySoften pages g view = All (IsVPage g) pages

-- The places.

-- Softens have not begun: there is a virtual page
pub record IsNewSoftens (plan : Softens) : Type 0 where
  pub start : plan.at ≡ None
  pub some : plan.pages ≡ [] → ⊥

-- the action at a virtual page, if they have begun
abbrev pub soften_of : Option ℕ → Action
soften_of None = soften_at 0
soften_of (Some v) = soften_at v

-- what is left after it
abbrev pub softens_left : List ℕ → Option ℕ → Geometry → Reply → Own → Unit {0} → Type 0
softens_left pages None g reply = Ends tt
softens_left pages (Some v) g reply = IsSoftens (at_or_after (v + 1) pages) g

-- the virtual page is the next, and the view is the first one
pub record IsSofteningAt (pages : List ℕ) (v : ℕ) (g : Geometry) (view now : View) : Type 0 where
  pub all : All (IsVPage g) pages
  pub there : IsVPage g v
  pub small : v < most_vpages
  pub is : now ≡ view

abbrev pub KnownInSoftens : List ℕ → Option ℕ → Geometry → View → View → Type 0
KnownInSoftens pages None g view now = ⊥
KnownInSoftens pages (Some v) g view now = IsSofteningAt pages v g view now

abbrev pub softens_stages : Stages (List ℕ) (Option ℕ) Action Reply (Unit {0})
softens_stages = record { piece = λ pages at. soften_of at; left = softens_left; known = KnownInSoftens }

-- That every frame passes one of the four tests, in the state after each run.
use Rattle.std.proofs.Common.{◌≡◌, ℕ, ◌+◌, ◌<◌, ◌==◌, if◌then◌else◌, Bool, List, length, refl, sym, ap, subst, ◌∙◌, inl, inr}
use Rattle.std.proofs.lemmas.Bool.{true≢false, cases_Bool, eq-eqb, ne_eqb}
use Rattle.nm_base.specs.Geometry.{Geometry, IsGeometry}
use Rattle.nm_action.specs.declared.action.Event.{Event}
use Rattle.nm_words.specs.Words.{HasSizes}
use Rattle.nm_core.specs.EndWords as ends
use Rattle.nm_core.specs.Roles as state
use Rattle.nm_core.specs.Runs.{IsRun, state_after}
use Rattle.nm_core.specs.State.{State}
use Rattle.nm_report.specs.Filters.{HasOneRoleEach, CountsFilters}
use Rattle.nm_report.proofs.Filtered.{counts-filters}
use Rattle.nm_world.specs.FrameLaw.{Claim, Names, HasRole, AreRoles}
use Rattle.nm_world.specs.FrameLaw.Claim.{Bit, AtHome, AtShadow, By}
use Rattle.nm_world.specs.Laws.{AreAll}
use Rattle.nm_world.specs.Seen.{world_of}
use Rattle.nm_runs.proofs.EachRun.{IsLawful, lawful_run}
use Rattle.nm_laws.proofs.Tests.{kind_of, FindsKind, names_in, finds_bit, finds_home, finds_shadow, finds_view}

-- a test is passed exactly where the claim is of its kind
passed : (n : Names) (f kind : ℕ) (test : Bool) (c : Claim) → FindsKind n f kind test → HasRole n f c → test ≡ (kind_of c == kind)
passed n f kind test c finds role = elim (cases_Bool test) [
  | inl holds ↦
      let found = finds.to holds in
      holds ∙ sym (eq-eqb (kind_of c) kind (ap kind_of (sym (role.only found.0 found.1.0)) ∙ found.1.1))
  | inr fails ↦ fails ∙ sym (ne_eqb (kind_of c) kind (λ same. true≢false (sym (finds.from c role.is same) ∙ fails)))
]

abbrev tests : Bool → Bool → Bool → Bool → ℕ
tests a b c d = (if a then 1 else 0) + (if b then 1 else 0) + (if c then 1 else 0) + (if d then 1 else 0)

-- a claim is of one kind
one_kind : (c : Claim) → tests (kind_of c == 0) (kind_of c == 1) (kind_of c == 2) (kind_of c == 3) ≡ 1
one_kind Bit = refl
one_kind (AtHome b) = refl
one_kind (AtShadow k) = refl
one_kind (By a) = refl

same_tests : (a b c d k l m n : Bool) → a ≡ k → b ≡ l → c ≡ m → d ≡ n → tests a b c d ≡ tests k l m n
same_tests a b c d k l m n free mapped shadow held =
    ap (λ t. tests t b c d) free ∙ ap (λ t. tests k t c d) mapped ∙ ap (λ t. tests k l t d) shadow ∙ ap (λ t. tests k l m t) held

-- where each frame is named in one way, it passes one test
one_test : (s : State) → HasSizes s.geometry s.words → AreRoles s.geometry (names_in s) → HasOneRoleEach s
one_test s sizes roles f frame =
    let role = roles f frame in
    same_tests _ _ _ _ _ _ _ _
    (passed (names_in s) f 0 (state.is_free s f) role.0 (finds_bit s f frame) role.1)
    (passed (names_in s) f 1 (state.is_mapped s f) role.0 (finds_home s f sizes) role.1)
    (passed (names_in s) f 2 (state.is_shadow s f) role.0 (finds_shadow s f sizes) role.1)
    (passed (names_in s) f 3 (state.is_held s f) role.0 (finds_view s f) role.1)
    ∙ one_kind role.0

-- ---- runs

-- in the state after a run every frame passes one test
pub one_role_in_run : (g : Geometry) (events : List Event) → IsGeometry g → IsRun g events → HasOneRoleEach (state_after g events)
one_role_in_run g events is run =
    let s : State = state_after g events in
    let All : Geometry → Type 0 = λ n. AreAll n (world_of s) in
    let lawful : IsLawful g s = lawful_run g events is run in
    let all : AreAll s.geometry (world_of s) = subst All (sym lawful.machine) lawful.all in
    one_test s lawful.kept.sizes all.frames.roles

-- and so the counts at its end are those of the tests
pub counts_in_run : (g : Geometry) (events : List Event) (end : ends.EndWords) (tier : ℕ) → IsGeometry g → IsRun g events → ends.IsEndOf (state_after g events) end → tier < length g.tiers → CountsFilters (state_after g events) end tier
counts_in_run g events end tier is run ends there =
    let In : Geometry → Type 0 = λ n. tier < length n.tiers in
    counts-filters (state_after g events) end tier ends (one_role_in_run g events is run) (subst In (sym (lawful_run g events is run).machine) there)

-- What the counts of a tier's line are of the state at the end: how many of the tier's frames pass each of four tests.
use Rattle.std.specs.Prelude.{◌≡◌, ℕ, ◌+◌, ◌<◌, if◌then◌else◌, Bool, count_by}
use Rattle.std.specs.List.{range_with_len}
use Rattle.nm_base.specs.Geometry.{Geometry, frame_count, first_frame}
use Rattle.nm_core.specs.State.{State}
use Rattle.nm_core.specs.Roles as state
use Rattle.nm_core.specs.EndWords.{EndWords}
use Rattle.nm_report.specs.Ends.{is_free_role, is_mapped_role, is_shadow_role, is_held_role, tier_frames, tier_roles}

-- how many of the tests a frame passes: free, mapped, a shadow, held
abbrev pub tests_passed : State → ℕ → ℕ
tests_passed s f = (if state.is_free s f then 1 else 0) + (if state.is_mapped s f then 1 else 0) + (if state.is_shadow s f then 1 else 0) + (if state.is_held s f then 1 else 0)

-- every frame passes one test
abbrev pub HasOneRoleEach : State → Type 0
HasOneRoleEach s = (f : ℕ) → f < frame_count s.geometry → tests_passed s f ≡ 1

-- how many frames of tier t pass a test
abbrev pub tier_count_by : Geometry → (ℕ → Bool) → ℕ → ℕ
tier_count_by g test t = count_by test (range_with_len (first_frame g t) (tier_frames g t))

-- the first count of a tier's line is that of the frames that are free
abbrev pub CountsFree : State → EndWords → ℕ → Type 0
CountsFree s e t = count_by is_free_role (tier_roles s.geometry e.roles t) ≡ tier_count_by s.geometry (state.is_free s) t

-- each count of a tier's line is that of a filter
pub record CountsFilters (s : State) (e : EndWords) (t : ℕ) : Type 0 where
  pub free : CountsFree s e t
  pub mapped : count_by is_mapped_role (tier_roles s.geometry e.roles t) ≡ tier_count_by s.geometry (state.is_mapped s) t
  pub shadow : count_by is_shadow_role (tier_roles s.geometry e.roles t) ≡ tier_count_by s.geometry (state.is_shadow s) t
  pub held : count_by is_held_role (tier_roles s.geometry e.roles t) ≡ tier_count_by s.geometry (state.is_held s) t

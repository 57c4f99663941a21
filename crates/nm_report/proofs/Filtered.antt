-- The counts of roles are those of the tests by which the roles were given.
use Rattle.std.proofs.Common.{◌≡◌, ℕ, zero, suc, ◌+◌, ◌-◌, ◌<◌, ◌≤◌, Bool, true, false, List, [], ◌∷◌, map, length, take, drop, refl, ap, ◌∙◌, arith}
use Rattle.std.specs.Bool.{if◌then◌else◌}
use Rattle.std.specs.Prelude.{count_by, cond}
use Rattle.std.specs.List.{range_with_len}
use Rattle.std.proofs.lemmas.List.{drop-map}
use Rattle.std.proofs.lemmas.List.FromFn.{take-map-range_with_len}
use Rattle.std.proofs.lemmas.List.Sums.{sum_by-cons}
use Rattle.nm_base.specs.Geometry.{Geometry, frame_count, first_frame}
use Rattle.nm_core.specs.declared.ends.Role.{Role}
use Rattle.nm_core.specs.declared.ends.Role.TheVariants.{Free, Mapped, Shadow, Held}
use Rattle.nm_core.specs.State.{State}
use Rattle.nm_core.specs.Roles as state
use Rattle.nm_core.specs.EndWords.{EndWords, IsEndOf}
use Rattle.nm_report.specs.Ends.{is_free_role, is_mapped_role, is_shadow_role, is_held_role, tier_frames, tier_roles}
use Rattle.nm_report.specs.Filters.{HasOneRoleEach, tier_count_by, CountsFree, CountsFilters}
use Rattle.nm_report.proofs.Counts.{first_frame-room}

-- ---- one frame

abbrev role_by : Bool → Bool → Bool → Role
role_by a b c = if a then Free else if b then Mapped else if c then Shadow else Held

free_is : (a b c : Bool) → is_free_role (role_by a b c) ≡ a
free_is true b c = refl
free_is false true c = refl
free_is false false true = refl
free_is false false false = refl

-- where one test is passed, the role says which
one_role : (a b c d : Bool) → (if a then 1 else 0) + (if b then 1 else 0) + (if c then 1 else 0) + (if d then 1 else 0) ≡ 1 → (is_mapped_role (role_by a b c) ≡ b) × (is_shadow_role (role_by a b c) ≡ c) × (is_held_role (role_by a b c) ≡ d)
one_role true false false false h = (refl, refl, refl)
one_role false true false false h = (refl, refl, refl)
one_role false false true false h = (refl, refl, refl)
one_role false false false true h = (refl, refl, refl)
one_role true true c d h = absurd (omega (arith, h))
one_role true false true d h = absurd (omega (arith, h))
one_role true false false true h = absurd (omega (arith, h))
one_role false true true d h = absurd (omega (arith, h))
one_role false true false true h = absurd (omega (arith, h))
one_role false false true true h = absurd (omega (arith, h))
one_role false false false false h = absurd (omega (arith, h))

-- ---- the frames of a tier

drop-range : (k a n : ℕ) → drop k (range_with_len a n) ≡ range_with_len (a + k) (n - k)
drop-range zero a n =
    let same : a + 0 ≡ a = omega arith in
    let all : n - 0 ≡ n = omega arith in
    rw (same, all) refl
drop-range (suc k) a zero =
    let none : 0 - suc k ≡ 0 = omega arith in
    rw none refl
drop-range (suc k) a (suc n) =
    let next : a + suc k ≡ a + 1 + k = omega arith in
    let left : suc n - suc k ≡ n - k = omega arith in
    rw (next, left) (drop-range k (a + 1) n)

abbrev weight : Bool → ℕ
weight b = cond b 1 0

counted : (p : Role → Bool) (role : ℕ → Role) (test : ℕ → Bool) (a n : ℕ) → ((f : ℕ) → f < a + n → p (role f) ≡ test f) → count_by p (map role (range_with_len a n)) ≡ count_by test (range_with_len a n)
counted p role test a zero h = refl
counted p role test a (suc n) h =
    omega (
      arith,
      sum_by-cons (λ r. cond (p r) 1 0) (role a) (map role (range_with_len (a + 1) n)),
      sum_by-cons (λ f. cond (test f) 1 0) a (range_with_len (a + 1) n),
      ap weight (h a (omega arith)),
      counted p role test (a + 1) n (λ f lt. h f (omega (arith, lt))),
    )

tier-roles : (s : State) (e : EndWords) (t : ℕ) → IsEndOf s e → t < length s.geometry.tiers → tier_roles s.geometry e.roles t ≡ map (state.role_of s) (range_with_len (first_frame s.geometry t) (tier_frames s.geometry t))
tier-roles s e t end h =
    let a : ℕ = first_frame s.geometry t in
    let m : ℕ = tier_frames s.geometry t in
    let n : ℕ = frame_count s.geometry in
    let role = state.role_of s in
    let room : m ≤ n - a = omega (arith, first_frame-room s.geometry t h) in
    let from : 0 + a ≡ a = omega arith in
    ap (λ rs. take m (drop a rs)) end.roles ∙ ap (take m) (drop-map role a (range_with_len 0 n) ∙ ap (map role) (drop-range a 0 n) ∙ ap (λ k. map role (range_with_len k (n - a))) from) ∙ take-map-range_with_len role a (n - a) m room

tier-counted : (s : State) (e : EndWords) (t : ℕ) (p : Role → Bool) (test : ℕ → Bool) → IsEndOf s e → t < length s.geometry.tiers → ((f : ℕ) → f < frame_count s.geometry → p (state.role_of s f) ≡ test f)
    → count_by p (tier_roles s.geometry e.roles t) ≡ tier_count_by s.geometry test t
tier-counted s e t p test end h each =
    ap (count_by p) (tier-roles s e t end h)
    ∙ counted p (state.role_of s) test (first_frame s.geometry t) (tier_frames s.geometry t) (λ f lt. each f (omega (arith, lt, first_frame-room s.geometry t h)))

-- ---- the counts

pub counts-free : (s : State) (e : EndWords) (t : ℕ) → IsEndOf s e → t < length s.geometry.tiers → CountsFree s e t
counts-free s e t end h = tier-counted s e t is_free_role (state.is_free s) end h (λ f lt. free_is (state.is_free s f) (state.is_mapped s f) (state.is_shadow s f))

pub counts-filters : (s : State) (e : EndWords) (t : ℕ) → IsEndOf s e → HasOneRoleEach s → t < length s.geometry.tiers → CountsFilters s e t
counts-filters s e t end one h =
    let role = λ (f : ℕ) (lt : f < frame_count s.geometry). one_role (state.is_free s f) (state.is_mapped s f) (state.is_shadow s f) (state.is_held s f) (one f lt) in
    record {
      free = counts-free s e t end h;
      mapped = tier-counted s e t is_mapped_role (state.is_mapped s) end h (λ f lt. (role f lt).0);
      shadow = tier-counted s e t is_shadow_role (state.is_shadow s) end h (λ f lt. (role f lt).1);
      held = tier-counted s e t is_held_role (state.is_held s) end h (λ f lt. (role f lt).2);
    }

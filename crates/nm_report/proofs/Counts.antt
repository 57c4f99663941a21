-- The roles of a tier's frames, counted.
use Rattle.std.proofs.Common.{◌≡◌, ℕ, zero, suc, ◌+◌, ◌<◌, ◌≤◌, Bool, List, [], ◌∷◌, length, take, drop, sum, get_or, refl, arith, length-take, length-drop}
use Rattle.std.specs.Prelude.{count_by, cond}
use Rattle.std.proofs.lemmas.List.Sums.{sum_by-cons}
use Rattle.nm_base.specs.Geometry.{Geometry, frame_count, first_frame}
use Rattle.nm_core.specs.declared.ends.Role.{Role}
use Rattle.nm_core.specs.declared.ends.Role.TheVariants.{Free, Mapped, Shadow, Held}
use Rattle.nm_core.specs.EndWords.{EndWords, HasEndRoom}
use Rattle.nm_report.specs.Ends.{SumTo, is_free_role, is_mapped_role, is_shadow_role, is_held_role, tier_frames, tier_roles}

sum-cons : (n : ℕ) (ns : List ℕ) → sum (n ∷ ns) ≡ n + sum ns
sum-cons n ns = sum_by-cons (λ x. x) n ns

sum-take : (ns : List ℕ) (t d : ℕ) → t < length ns → sum (take t ns) + get_or ns t d ≤ sum ns
sum-take [] t d h = absurd (omega arith)
sum-take (n ∷ ns) zero d h = omega (arith, sum-cons n ns)
sum-take (n ∷ ns) (suc t) d h = omega (arith, sum-cons n ns, sum-cons n (take t ns), sum-take ns t d (omega arith))

-- a tier's frames end where all frames end, or before
pub first_frame-room : (g : Geometry) (t : ℕ) → t < length g.tiers → first_frame g t + tier_frames g t ≤ frame_count g
first_frame-room g t h = sum-take g.tiers t 0 h

more : (p : Role → Bool) (r : Role) (roles : List Role) → count_by p (r ∷ roles) ≡ cond (p r) 1 0 + count_by p roles
more p r roles = sum_by-cons (λ x. cond (p x) 1 0) r roles

-- one role more
counts-cons : (r : Role) (roles : List Role) (n : ℕ) → SumTo roles n → SumTo (r ∷ roles) (n + 1)
counts-cons Free roles n h = omega (arith, h, more is_free_role Free roles, more is_mapped_role Free roles, more is_shadow_role Free roles, more is_held_role Free roles)
counts-cons Mapped roles n h = omega (arith, h, more is_free_role Mapped roles, more is_mapped_role Mapped roles, more is_shadow_role Mapped roles, more is_held_role Mapped roles)
counts-cons Shadow roles n h = omega (arith, h, more is_free_role Shadow roles, more is_mapped_role Shadow roles, more is_shadow_role Shadow roles, more is_held_role Shadow roles)
counts-cons Held roles n h = omega (arith, h, more is_free_role Held roles, more is_mapped_role Held roles, more is_shadow_role Held roles, more is_held_role Held roles)

-- each role passes one of the four tests
counts-length : (roles : List Role) → SumTo roles (length roles)
counts-length [] = refl
counts-length (r ∷ roles) = let e = counts-cons r roles (length roles) (counts-length roles) in omega (arith, e)

-- the four counts of a tier
pub counts-tier : (g : Geometry) (e : EndWords) (t : ℕ) → HasEndRoom g e → t < length g.tiers → SumTo (tier_roles g e.roles t) (tier_frames g t)
counts-tier g e t room h =
    let all = counts-length (tier_roles g e.roles t) in
    omega (arith, all, room.roles, first_frame-room g t h, length-take (tier_frames g t) (drop (first_frame g t) e.roles), length-drop (first_frame g t) e.roles)

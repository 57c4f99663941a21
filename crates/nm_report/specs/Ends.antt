-- End words: how long their lists are, what they may name, and how many frames of a tier have each role.
use Rattle.std.specs.Prelude.{◌≡◌, ℕ, ◌+◌, ◌<◌, ◌==◌, if◌then◌else◌, Bool, true, false, List, length, take, drop, slice_index, slice_index_or, replicate, All, Option, Some, None, IfSome, count_by}
use Rattle.nm_base.specs.Geometry.{Geometry, page_count, frame_count, first_frame}
use Rattle.nm_core.specs.declared.ends.Role.{Role}
use Rattle.nm_core.specs.declared.ends.Role.TheVariants.{Free, Mapped, Shadow, Held}
use Rattle.nm_core.specs.EndWords.{EndWords}

-- every home is a frame, and every shadow word names a page and a frame
pub record NamesInRange (g : Geometry) (e : EndWords) : Type 0 where
  pub homes : All (λ home. IfSome home (λ f. f < frame_count g)) e.homes
  pub shadows : All (λ shadow. IfSome shadow (λ s. (s.0 < page_count g) × (s.1 < frame_count g))) e.shadows

abbrev pub is_free_role : Role → Bool
is_free_role Free = true
is_free_role Mapped = false
is_free_role Shadow = false
is_free_role Held = false

abbrev pub is_mapped_role : Role → Bool
is_mapped_role Free = false
is_mapped_role Mapped = true
is_mapped_role Shadow = false
is_mapped_role Held = false

abbrev pub is_shadow_role : Role → Bool
is_shadow_role Free = false
is_shadow_role Mapped = false
is_shadow_role Shadow = true
is_shadow_role Held = false

abbrev pub is_held_role : Role → Bool
is_held_role Free = false
is_held_role Mapped = false
is_held_role Shadow = false
is_held_role Held = true

-- how many frames tier t has
abbrev pub tier_frames : Geometry → ℕ → ℕ
tier_frames g t = slice_index g.tiers t

-- the roles of the frames of tier t
abbrev pub tier_roles : Geometry → List Role → ℕ → List Role
tier_roles g roles t = take (tier_frames g t) (drop (first_frame g t) roles)

-- the roles that pass each of the four tests are as many as there are in all
abbrev pub SumTo : List Role → ℕ → Type 0
SumTo roles n = count_by is_free_role roles + count_by is_mapped_role roles + count_by is_shadow_role roles + count_by is_held_role roles ≡ n

-- the home of page b, if it has one
abbrev pub end_home : EndWords → ℕ → Option ℕ
end_home e b = slice_index_or e.homes b None

-- the frame that a shadow word names beside page b
abbrev pub named_beside : ℕ → Option (ℕ × ℕ) → Option ℕ
named_beside b None = None
named_beside b (Some s) = if s.0 == b then Some s.1 else None

-- the shadow of page b in frame f: the frame that the shadow word of f names, where it names b
abbrev pub end_shadow : EndWords → ℕ → ℕ → Option ℕ
end_shadow e b f = named_beside b (slice_index_or e.shadows f None)

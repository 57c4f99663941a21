-- The words of a machine at the end of a run, as a report reads them.
use Rattle.std.specs.Prelude.{◌≡◌, ℕ, ◌↔◌, Bool, false, List, length, map, replicate, Option, None, slice_index, IsTrue}
use Rattle.std.specs.List.{range_with_len}
use Rattle.nm_base.specs.Geometry.{Geometry, page_count, frame_count}
use Rattle.nm_base.specs.HomeWord.{named_home}
use Rattle.nm_base.specs.ShadowWord.{named_shadow}
use Rattle.nm_core.specs.declared.ends.Role.{Role}
use Rattle.nm_core.specs.declared.ends.Role.TheVariants.{Free}
use Rattle.nm_core.specs.State.{State}
use Rattle.nm_core.specs.Roles.{role_of, all_frames, IsSettled}

-- the frame of each backing page, if it has one; for each frame the page of which it is the master and the shadow, if it
-- is one; the marks; the roles of the frames; whether the machine is settled
pub record EndWords : Type 0 where
  pub homes : List (Option ℕ)
  pub shadows : List (Option (ℕ × ℕ))
  pub marks : List ℕ
  pub roles : List Role
  pub settled : Bool

-- no page has a frame, no frame a shadow, no page a mark, every frame is free, and nothing is settled
abbrev pub empty_end : Geometry → EndWords
empty_end g = record {
  homes = replicate (page_count g) None;
  shadows = replicate (frame_count g) None;
  marks = replicate (page_count g) 0;
  roles = replicate (frame_count g) Free;
  settled = false;
}

-- a home and a mark for each backing page, a shadow word and a role for each frame
pub record HasEndRoom (g : Geometry) (e : EndWords) : Type 0 where
  pub homes : length e.homes ≡ page_count g
  pub shadows : length e.shadows ≡ frame_count g
  pub marks : length e.marks ≡ page_count g
  pub roles : length e.roles ≡ frame_count g

-- the end words of a state
pub record IsEndOf (s : State) (e : EndWords) : Type 0 where
  pub homes : e.homes ≡ map (λ page. named_home (slice_index s.words.home page)) (range_with_len 0 (page_count s.geometry))
  pub shadows : e.shadows ≡ map (λ frame. named_shadow (slice_index s.words.shadow frame)) (all_frames s.geometry)
  pub marks : e.marks ≡ s.words.mark
  pub roles : e.roles ≡ map (role_of s) (all_frames s.geometry)
  pub settled : IsTrue e.settled ↔ IsSettled s

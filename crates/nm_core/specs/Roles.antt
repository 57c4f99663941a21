-- The roles of frames, and when a machine is settled.
use Rattle.std.specs.Prelude.{◌≡◌, ℕ, ◌==◌, ◌&&◌, not, if◌then◌else◌, Bool, List, [], filter, is_some, All}
use Rattle.std.specs.List.{list_any, range_with_len}
use Rattle.std.specs.Int.{bit_at}
use Rattle.nm_base.specs.Geometry.{Geometry, frame_count}
use Rattle.nm_view.specs.Lists.{find}
use Rattle.nm_view.specs.Views.{View, end_word}
use Rattle.nm_base.specs.HomeWord.{home_word}
use Rattle.nm_base.specs.ShadowWord.{shadow_frame}
use Rattle.nm_view.specs.Operations.{owned_frame}
use Rattle.nm_words.specs.Words.{word_at}
use Rattle.nm_base.specs.FreeWords.{free_bit}
use Rattle.nm_step.specs.Table.{free_word_of}
use Rattle.nm_core.specs.declared.ends.Role.{Role}
use Rattle.nm_core.specs.declared.ends.Role.TheVariants.{Free, Mapped, Shadow, Held}
use Rattle.nm_core.specs.State.{State}

-- the frame's bit is set
abbrev pub is_free : State → ℕ → Bool
is_free s f = bit_at (word_at s.geometry s.words (free_word_of s.geometry f)) (free_bit s.geometry f) == 1

-- a home word names the frame
abbrev pub is_home_of : ℕ → ℕ → Bool
is_home_of f word = word == home_word f

-- some home word names the frame
abbrev pub is_mapped : State → ℕ → Bool
is_mapped s f = list_any (is_home_of f) s.words.home

-- a shadow word names the frame as shadow
abbrev pub names_shadow : ℕ → ℕ → Bool
names_shadow f word = not (word == 0) && (shadow_frame word == f)

-- some shadow word names the frame as shadow
abbrev pub is_shadow : State → ℕ → Bool
is_shadow s f = list_any (names_shadow f) s.words.shadow

-- a view owns the frame
abbrev pub owns : ℕ → View → Bool
owns f view = is_some (find owned_frame f view.owned)

-- some view owns the frame
abbrev pub is_held : State → ℕ → Bool
is_held s f = list_any (owns f) s.views

abbrev pub all_frames : Geometry → List ℕ
all_frames g = range_with_len 0 (frame_count g)

-- the four roles as filters over all frames
abbrev pub free_frames : State → List ℕ
free_frames s = filter (is_free s) (all_frames s.geometry)

abbrev pub mapped_frames : State → List ℕ
mapped_frames s = filter (is_mapped s) (all_frames s.geometry)

abbrev pub shadow_frames : State → List ℕ
shadow_frames s = filter (is_shadow s) (all_frames s.geometry)

abbrev pub held_frames : State → List ℕ
held_frames s = filter (is_held s) (all_frames s.geometry)

-- the role of a frame: the first of the tests Free, Mapped and Shadow that it passes, else Held
abbrev pub role_of : State → ℕ → Role
role_of s f = if is_free s f then Free else if is_mapped s f then Mapped else if is_shadow s f then Shadow else Held

-- the role of a frame that is found to have this role too, or not: a free frame stays free
abbrev pub marked : Role → Bool → Role → Role
marked role named Free = Free
marked role named Mapped = if named then role else Mapped
marked role named Shadow = if named then role else Shadow
marked role named Held = if named then role else Held

-- a machine is settled: every processor has ended, no lock and no turn is held, no page has a mark, and no view has an
-- operation or an owned frame
pub record IsSettled (s : State) : Type 0 where
  pub ended : All (λ n. n ≡ end_word) s.words.ack
  pub locks : All (λ n. n ≡ 0) s.words.lock
  pub turns : All (λ n. n ≡ 0) s.words.turn
  pub marks : All (λ n. n ≡ 0) s.words.mark
  pub ops : All (λ v. v.ops ≡ []) s.views
  pub owned : All (λ v. v.owned ≡ []) s.views

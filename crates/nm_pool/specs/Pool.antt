-- The work of a pool task, as a finished list of actions and replies.
use Rattle.std.specs.Prelude.{◌≡◌, ℕ, ◌+◌, ◌*◌, ◌<◌, ◌≤◌, List, [], ◌∷◌, ◌++◌, length, slice_index, sum_by, count_ones}
use Rattle.std.specs.Int.{bit_at}
use Rattle.nm_base.specs.Geometry.{Geometry, first_frame, tier_of}
use Rattle.nm_action.specs.declared.action.Action.TheVariants.{TakeTurn, Scan, GiveFrame, PutFrame, ReleaseTurn}
use Rattle.nm_action.specs.declared.action.Reply.TheVariants.{Done, Word, Busy}
use Rattle.nm_base.specs.FreeWords.{free_words}
use Rattle.nm_action.specs.Own.{Own}
use Rattle.nm_pool.specs.declared.job.PoolJob.{PoolJob}
use Rattle.nm_pool.specs.declared.job.PoolJob.TheVariants.{Take, Level, Back}
use Rattle.nm_pool.specs.declared.job.PoolEnd.{PoolEnd}
use Rattle.nm_pool.specs.declared.job.PoolEnd.TheVariants as ends

-- the tier whose turn a job takes
abbrev pub tier_for : Geometry → PoolJob → ℕ
tier_for g (Take tier _) = tier
tier_for g (Level tier) = tier
tier_for g (Back frame) = tier_of g frame

-- the turn was refused once for each of these words
abbrev pub refused : ℕ → List ℕ → Own
refused tier [] = []
refused tier (w ∷ ws) = (TakeTurn tier, Busy w) ∷ refused tier ws

-- the words of a tier's free frames were scanned from word k on
abbrev pub scanned : ℕ → ℕ → List ℕ → Own
scanned tier k [] = []
scanned tier k (w ∷ ws) = (Scan tier k, Word w) ∷ scanned tier (k + 1) ws

-- how many frames are free by these words
abbrev pub free_bits : List ℕ → ℕ
free_bits words = sum_by count_ones words

-- a frame is free by the words of its tier
pub record IsFree (g : Geometry) (tier : ℕ) (words : List ℕ) (frame : ℕ) : Type 0 where
  pub index : ℕ
  pub bit : ℕ
  pub small : bit < 64
  pub set : bit_at (slice_index words index) bit ≡ 1
  pub is : frame ≡ first_frame g tier + 64 * index + bit

-- the least of the frames that are free
pub record IsLeastFree (g : Geometry) (tier : ℕ) (words : List ℕ) (frame : ℕ) : Type 0 where
  pub free : IsFree g tier words frame
  pub least : (other : ℕ) → IsFree g tier words other → frame ≤ other

-- more frames than the floor are free, and the least of them is given
pub record IsFrameTaken (g : Geometry) (tier floor : ℕ) (own : Own) (frame : ℕ) : Type 0 where
  pub words : List ℕ
  pub old : ℕ
  pub all : length words ≡ free_words g tier
  pub more : floor < free_bits words
  pub least : IsLeastFree g tier words frame
  pub is : own ≡ scanned tier 0 words ++ (GiveFrame frame, Word old) ∷ []

-- the whole tier is scanned, and n frames are free
pub record IsSummed (g : Geometry) (tier : ℕ) (own : Own) (n : ℕ) : Type 0 where
  pub words : List ℕ
  pub all : length words ≡ free_words g tier
  pub sum : n ≡ free_bits words
  pub is : own ≡ scanned tier 0 words

-- a frame is put back
pub record IsPutting (frame : ℕ) (own : Own) : Type 0 where
  pub old : ℕ
  pub is : own ≡ (PutFrame frame, Word old) ∷ []

-- what a job does under the turn, and its outcome
abbrev pub IsWork : Geometry → PoolJob → Own → PoolEnd → Type 0
IsWork g (Take tier floor) own (ends.Got frame) = IsFrameTaken g tier floor own frame
IsWork g (Take tier floor) own (ends.AtFloor n) = IsSummed g tier own n × (n ≤ floor)
IsWork g (Take tier floor) own (ends.Level n) = ⊥
IsWork g (Take tier floor) own ends.Back = ⊥
IsWork g (Level tier) own (ends.Got frame) = ⊥
IsWork g (Level tier) own (ends.AtFloor n) = ⊥
IsWork g (Level tier) own (ends.Level n) = IsSummed g tier own n
IsWork g (Level tier) own ends.Back = ⊥
IsWork g (Back frame) own (ends.Got f) = ⊥
IsWork g (Back frame) own (ends.AtFloor n) = ⊥
IsWork g (Back frame) own (ends.Level n) = ⊥
IsWork g (Back frame) own ends.Back = IsPutting frame own

-- the turn is taken, again while it is refused; then comes the work; then the turn is released
pub record IsPool (g : Geometry) (job : PoolJob) (own : Own) (end : PoolEnd) : Type 0 where
  pub busy : List ℕ
  pub inner : Own
  pub work : IsWork g job inner end
  pub is : own ≡ refused (tier_for g job) busy ++ (TakeTurn (tier_for g job), Done) ∷ inner ++ (ReleaseTurn (tier_for g job), Done) ∷ []

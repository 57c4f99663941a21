-- Plans that go by stages: what holds at a stage stands in three tables.
use Rattle.std.specs.Prelude.{◌≡◌}
use Rattle.nm_base.specs.Geometry.{Geometry}
use Rattle.nm_view.specs.Views.{View}
use Rattle.nm_action.specs.Own.{Own}
use Rattle.nm_compose.specs.Plans.{IsPieceRun}

-- by what the plan was made with, and the stage: what the piece that runs is made with; what is left after it, by how it
-- ends; and what is known of the view in which the composite began, and of that in which the piece began
pub record Stages (Q S M X O : Type 0) : Type 1 where
  pub piece : Q → S → M
  pub left : Q → S → Geometry → X → Own → O → Type 0
  pub known : Q → S → Geometry → View → View → Type 0

-- the piece that runs is that of the stage, and what is known there holds
pub record IsPieceAt {Q S M X O : Type 0} (stages : Stages Q S M X O) (made : Q) (stage : S) (g : Geometry) (first now : View) (piece : M) : Type 0 where
  pub is : piece ≡ stages.piece made stage
  pub known : stages.known made stage g first now

-- the piece of a stage runs
abbrev pub RunsAt : {Q S M X O : Type 0} → (M → Geometry → View → Type 0) → (M → Geometry → Own → X → Type 0) → Stages Q S M X O → Q → S → (Own → O → Type 0) → Geometry → View → View → Type 0
RunsAt may_begin shape stages made stage was g first now = IsPieceRun may_begin shape (IsPieceAt stages made stage) (stages.left made stage) was (stages.piece made stage) g first now

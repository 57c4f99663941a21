-- Patterns of finished lists, and of the outcome that each list shows. The events of a list are of any type: actions with
-- their replies for a part, turns with what was heard for an actor. A pattern is a relation of whole lists; nothing of the
-- code that makes the list stands in it.
use Rattle.std.specs.Prelude.{◌≡◌, ℕ, ◌++◌, ◌∷◌, [], Bool, true, false, List}

-- nothing more happens, and this is the outcome: the last of numbered steps
pub record Ends {E O : Type 0} (end : O) (own : List E) (outcome : O) : Type 0 where
  pub none : own ≡ []
  pub is : outcome ≡ end

-- first a list of the one pattern; then, by the outcome that this shows, a list of another: "Lock the page; where that
-- was Busy, .."
pub record Follows {E X O : Type 0} (first : List E → X → Type 0) (after : X → List E → O → Type 0) (own : List E) (outcome : O) : Type 0 where
  pub end : X
  pub front : List E
  pub back : List E
  pub shown : first front end
  pub rest : after end back outcome
  pub is : own ≡ front ++ back

-- the one pattern where a test holds, and the other where it does not
abbrev pub Either : {E O : Type 0} → Bool → (List E → O → Type 0) → (List E → O → Type 0) → List E → O → Type 0
Either true held other = held
Either false held other = other

-- for each item in order: the body, which is given the item, what is kept so far, and the pattern that comes after it, by
-- what is kept then; and after the last item, by what is kept at its end, what comes after the loop. A body that is the
-- pattern after it, for some items, skips those; where it is so for all further items, the loop ends early.
abbrev pub Each : {A S E O : Type 0} → (A → S → (S → List E → O → Type 0) → List E → O → Type 0) → List A → S → (S → List E → O → Type 0) → List E → O → Type 0
Each body [] kept after = after kept
Each body (item ∷ items) kept after = body item kept (λ next. Each body items next after)

-- the pattern with some number of tries: "again while Busy"
pub record Sometimes {E O : Type 0} (pattern : ℕ → List E → O → Type 0) (own : List E) (outcome : O) : Type 0 where
  pub tries : ℕ
  pub is : pattern tries own outcome

-- after this list, a list of the pattern `left` makes up a list of the whole
pub record IsLeft {E O : Type 0} (whole : List E → O → Type 0) (own : List E) (left : List E → O → Type 0) : Type 0 where
  pub carry : (rest : List E) (outcome : O) → left rest outcome → whole (own ++ rest) outcome

-- a pattern has a list
pub record CanEnd {E O : Type 0} (pattern : List E → O → Type 0) : Type 0 where
  pub rest : List E
  pub outcome : O
  pub shown : pattern rest outcome

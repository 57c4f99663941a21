-- The list of a part with what its actor does while the part waits.
use Rattle.std.specs.Prelude.{◌≡◌, [], ◌∷◌, ◌++◌, Bool, true, false}
use Rattle.nm_action.specs.declared.action.Action.{Action}
use Rattle.nm_action.specs.declared.action.Reply.{Reply}
use Rattle.nm_action.specs.Own.{Own}
use Rattle.nm_part.specs.Patterns.{Ends, Follows}

-- In all of these `catch` is the pattern of what the actor does while the part waits, by what the actor keeps before and
-- after it; and `waits`, of the part's own list so far and its next action, says whether the part waits before that action.

-- the actor catches up where the part waits, and does nothing where it does not
abbrev pub CatchesWhere : {S : Type 0} → (S → Own → S → Type 0) → Bool → S → Own → S → Type 0
CatchesWhere catch true kept = catch kept
CatchesWhere catch false kept = Ends kept

-- the list is this one event
pub record IsEvent (event : Action × Reply) (own : Own) (reply : Reply) : Type 0 where
  pub is : own ≡ event ∷ []
  pub told : reply ≡ event.1

-- the list of an actor is that of a part, which made the list `before` already, with a catch up before each action at which
-- the part waits
abbrev pub Weaves : {S : Type 0} → (S → Own → S → Type 0) → (Own → Action → Bool) → Own → Own → S → Own → S → Type 0
Weaves catch waits before [] kept = Ends kept
Weaves catch waits before (event ∷ inner) kept =
    Follows (CatchesWhere catch (waits before event.0) kept) (λ now. Follows (IsEvent event) (λ reply. Weaves catch waits (before ++ event ∷ []) inner now))

-- the list of an actor that runs a part to its end: the part's own list, which shows the part's outcome, with catch ups
pub record WeavesPart {S X : Type 0} (catch : S → Own → S → Type 0) (waits : Own → Action → Bool) (shape : Own → X → Type 0) (kept : S) (own : Own) (end : X × S) : Type 0 where
  pub inner : Own
  pub shown : shape inner end.0
  pub woven : Weaves catch waits [] inner kept own end.1

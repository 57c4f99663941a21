-- What is known of an access between two turns.
use Rattle.std.specs.Prelude.{◌≡◌, ℕ, List, [], None}
use Rattle.nm_base.specs.Geometry.{Geometry}
use Rattle.nm_base.specs.PageWord.{IsPageWord}
use Rattle.nm_action.specs.declared.action.Action.{Action}
use Rattle.nm_action.specs.declared.turn.Turn.{Turn}
use Rattle.nm_action.specs.Own.{Own}
use Rattle.nm_view.specs.Views.{View}
use Rattle.nm_part.specs.Patterns.{Sometimes, IsLeft}
use Rattle.nm_actor.specs.Turns.{Turns}
use Rattle.nm_catchup.specs.Catching.{kept_of}
use Rattle.nm_access.specs.declared.access.Access.{Access}
use Rattle.nm_access.specs.declared.access.AccessStep.{AccessStep}
use Rattle.nm_access.specs.declared.made.AccessMade.{AccessMade}
use Rattle.nm_access.specs.Faults.{FaultKinds, zero_fault_counts, ends_tally}
use Rattle.nm_access.specs.Accesses.{Carried, Tries, AfterLook, Faults, Translates, IsWholeAccess}
use Rattle.nm_access.specs.Accessing.{IsAccessMade, IsAccessReady, IsPeeked, IsInFault, IsFaultGiven, AwaitsAccess, IsAccessStep, view_then}

-- In all of these `made_of` and `awaits_of` tell the data of a fault, and what it awaits.

abbrev pub AwaitsOf : {F M X : Type 0} → FaultKinds M X → (F → M) → (F → Geometry → View → Own → Action → Type 0) → Access F → Geometry → Carried X → View → Turns → Turn → Type 0
AwaitsOf kinds made_of awaits_of a = AwaitsAccess kinds a.geometry.now a.made a.stage a.hinted (made_of a.fault) (awaits_of a.fault) a.cache a.tally

abbrev pub IsStepOf : {F M X : Type 0} → FaultKinds M X → (F → M) → (F → Geometry → View → Own → Action → Type 0) → Access F → Geometry → Carried X → View → Turns → AccessStep → Type 0
IsStepOf kinds made_of awaits_of a = IsAccessStep kinds a.geometry.now a.made a.stage a.hinted (made_of a.fault) (awaits_of a.fault) a.cache a.tally

-- what is held
abbrev pub held_of : {F X : Type 0} → Access F → List X → Carried X
held_of a ends = record { kept = kept_of a.cache; ends = ends }

-- it was made with this, and has counted the ends of its faults
pub record IsBegunWell {F M X : Type 0} (kinds : FaultKinds M X) (a : Access F) (g : Geometry) (ends : List X) : Type 0 where
  pub same : a.geometry.now ≡ g
  pub may : IsAccessMade g a.made
  pub counted : a.tally ≡ ends_tally kinds.counts ends

-- (1) is left
pub record IsTrying {F M X : Type 0} (kinds : FaultKinds M X) (a : Access F) (g : Geometry) (was : Carried X) (view : View) (turns : Turns) : Type 0 where
  pub ends : List X
  pub well : IsBegunWell kinds a g ends
  pub due : IsLeft (IsWholeAccess kinds g a.made was) turns (Sometimes (λ tries. Tries g a.made (Translates kinds g a.made tries) (held_of a ends) a.hinted))
  pub ready : IsAccessReady g (kept_of a.cache) (view_then g view turns)

-- the virtual page was looked at
pub record IsAccessLooked {F M X : Type 0} (kinds : FaultKinds M X) (a : Access F) (stamp word : ℕ) (g : Geometry) (was : Carried X) (view : View) (turns : Turns) : Type 0 where
  pub ends : List X
  pub well : IsBegunWell kinds a g ends
  pub due : IsLeft (IsWholeAccess kinds g a.made was) turns (Sometimes (λ tries. AfterLook kinds g a.made stamp (Translates kinds g a.made tries) (held_of a ends) a.hinted word))
  pub known : IsPeeked g a.made stamp (kept_of a.cache) (view_then g view turns)
  pub layout : IsPageWord word

-- a fault with this data is left
pub record IsFaulting {F M X : Type 0} (kinds : FaultKinds M X) (a : Access F) (fault : M) (g : Geometry) (was : Carried X) (view : View) (turns : Turns) : Type 0 where
  pub ends : List X
  pub well : IsBegunWell kinds a g ends
  pub due : IsLeft (IsWholeAccess kinds g a.made was) turns (Sometimes (λ tries. Faults kinds g a.made (Translates kinds g a.made tries) fault (held_of a ends) a.hinted))
  pub ready : IsAccessReady g (kept_of a.cache) (view_then g view turns)

-- a fault gives an action
pub record IsGiving {F M X : Type 0} (kinds : FaultKinds M X) (made_of : F → M) (awaits_of : F → Geometry → View → Own → Action → Type 0) (a : Access F) (action : Action) (g : Geometry) (was : Carried X) (view : View) (turns : Turns) : Type 0 where
  pub ends : List X
  pub well : IsBegunWell kinds a g ends
  pub inner : Own
  pub run : IsInFault kinds a.made a.hinted (made_of a.fault) (kept_of a.cache) ends g was view inner turns
  pub gives : IsFaultGiven kinds (made_of a.fault) (awaits_of a.fault) g run.first inner action

-- an access with this may be begun
pub record IsOpening {F M X : Type 0} (kinds : FaultKinds M X) (a : Access F) (made : AccessMade) (g : Geometry) (was : Carried X) (view : View) : Type 0 where
  pub same : a.geometry.now ≡ g
  pub may : IsAccessMade g made
  pub kept : was.kept ≡ kept_of a.cache
  pub counted : a.tally ≡ ends_tally kinds.counts was.ends
  pub ready : IsAccessReady g (kept_of a.cache) view

-- it has no translations, has acknowledged nothing, and no fault of it has ended
pub record IsFresh {F : Type 0} (g : Geometry) (a : Access F) : Type 0 where
  pub same : a.geometry.now ≡ g
  pub kept : kept_of a.cache ≡ record { cache = record { sets = 16; ways = 4; entries = [] }; acked = None }
  pub counted : a.tally ≡ zero_fault_counts

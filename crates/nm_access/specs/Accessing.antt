-- How far an access has come.
use Rattle.std.specs.Prelude.{◌≡◌, ◌≢◌, ℕ, Bool, true, false, if◌then◌else◌, IsTrue, List, [], ◌++◌, Some, IsSome}
use Rattle.nm_base.specs.Geometry.{Geometry, IsGeometry, backing_page}
use Rattle.nm_base.specs.PageWord.{is_present, has_hint, is_writable}
use Rattle.nm_base.specs.Ranges.{IsVPage, IsPage, IsIndex, IsWord}
use Rattle.nm_action.specs.declared.action.Action.{Action}
use Rattle.nm_action.specs.declared.action.Action.TheVariants.{Look, Walk, Peek, Soften, Mark}
use Rattle.nm_action.specs.declared.action.Bit.TheVariants.{Hint}
use Rattle.nm_action.specs.declared.action.Reply.TheVariants.{Word}
use Rattle.nm_action.specs.declared.tally.Tally.{Tally}
use Rattle.nm_action.specs.declared.turn.Lane.TheVariants.{Candidates}
use Rattle.nm_action.specs.declared.turn.Turn.{Turn}
use Rattle.nm_action.specs.declared.turn.Turn.TheVariants.{Do, Put, End}
use Rattle.nm_action.specs.declared.turn.Heard.{Heard}
use Rattle.nm_action.specs.declared.turn.Heard.TheVariants.{Answer}
use Rattle.nm_action.specs.Own.{Own}
use Rattle.nm_view.specs.Lists.{find}
use Rattle.nm_view.specs.Views.{View, end_word}
use Rattle.nm_view.specs.Operations.{peeked_page}
use Rattle.nm_permit.specs.Permitted.{Allowed}
use Rattle.nm_event.specs.After.{view_after}
use Rattle.nm_part.specs.Parts.{IsQuiet, IsBegunWith}
use Rattle.nm_part.specs.Patterns.{Ends, Follows, Sometimes, IsLeft}
use Rattle.nm_actor.specs.Turns.{Turns, own_list}
use Rattle.nm_actor.specs.Actors.{IsAnswer, IsPermittedTurn}
use Rattle.nm_desk.specs.Desk.{desk}
use Rattle.nm_desk.specs.Woven.{CatchesWhere, Weaves}
use Rattle.nm_catchup.specs.declared.cache.TranslationCache.{TranslationCache}
use Rattle.nm_catchup.specs.CatchUp.{Kept, entry_of, CatchesUp}
use Rattle.nm_catchup.specs.Catching.{kept_of, fresh_peek, IsKeptWith, AwaitsCatch}
use Rattle.nm_access.specs.declared.made.Touch.{Touch}
use Rattle.nm_access.specs.declared.made.Touch.TheVariants as touches
use Rattle.nm_access.specs.declared.made.AccessMade.{AccessMade}
use Rattle.nm_access.specs.declared.access.AccessStage.{AccessStage}
use Rattle.nm_access.specs.declared.access.AccessStage.TheVariants.{Resting, CatchingUp, Peeking, Looking, Faulting, Waiting, Softening, Walking, Marking, Putting, Unmarking, Touching}
use Rattle.nm_access.specs.declared.access.AccessStep.{AccessStep}
use Rattle.nm_access.specs.declared.access.AccessStep.TheVariants.{Give, Over}
use Rattle.nm_access.specs.Turning.{Hears, action_turns, word_heard, IsTurnBegun}
use Rattle.nm_access.specs.Faults.{FaultKinds, HasNothingOpen, ends_tally}
use Rattle.nm_access.specs.Accesses.{Carried, Accessed, is_write, touch_action, serves, Touches, AfterPut, AfterMark, AfterWalk, Tries, Faults, AfterLook, Translates, IsWholeAccess}

-- What an access is made with.

abbrev pub IsTouchWord : Touch → Type 0
IsTouchWord touches.Load = Unit {0}
IsTouchWord (touches.Store x) = IsWord x
IsTouchWord (touches.Add x) = IsWord x

-- an access may be made with this: the virtual page is mapped to the backing page, and the numbers are in range
pub record IsAccessMade (g : Geometry) (made : AccessMade) : Type 0 where
  pub geometry : IsGeometry g
  pub vpage : IsVPage g made.vpage
  pub mapped : backing_page g made.vpage ≡ Some made.page
  pub page : IsPage g made.page
  pub index : IsIndex g made.word
  pub value : IsTouchWord made.touch

-- The view.

-- the translations agree with the view, in which nothing is open; and something was acknowledged
pub record IsAccessReady (g : Geometry) (kept : Kept) (view : View) : Type 0 where
  pub all : IsKeptWith g kept view
  pub on : IsSome kept.acked
  pub free : HasNothingOpen view

-- the same, and the page was peeked
pub record IsPeeked (g : Geometry) (made : AccessMade) (stamp : ℕ) (kept : Kept) (view : View) : Type 0 where
  pub ready : IsAccessReady g kept view
  pub peek : find peeked_page made.vpage view.peeked ≡ Some (fresh_peek made.vpage stamp)

-- the same, and the page may be walked with this word
pub record MayBeWalked (g : Geometry) (made : AccessMade) (stamp word : ℕ) (kept : Kept) (view : View) : Type 0 where
  pub peeked : IsPeeked g made stamp kept view
  pub present : IsTrue (is_present word)
  pub hint : has_hint word ≡ false
  pub writable : IsTrue (is_write made.touch) → IsTrue (is_writable word)

-- the translations agree with the view, and one of them serves
pub record IsAccessServed (g : Geometry) (made : AccessMade) (kept : Kept) (view : View) : Type 0 where
  pub ready : IsAccessReady g kept view
  pub served : serves made.touch (entry_of kept made.vpage) ≡ true

abbrev pub KnownInAccess : Geometry → AccessMade → AccessStage → Kept → View → Type 0
KnownInAccess g made Resting kept view = ⊥
KnownInAccess g made CatchingUp kept view = ⊥
KnownInAccess g made Peeking kept view = IsAccessReady g kept view
KnownInAccess g made (Looking stamp) kept view = IsPeeked g made stamp kept view
KnownInAccess g made Faulting kept view = ⊥
KnownInAccess g made (Waiting action) kept view = ⊥
KnownInAccess g made Softening kept view = IsAccessReady g kept view
KnownInAccess g made (Walking stamp word) kept view = MayBeWalked g made stamp word kept view
KnownInAccess g made Marking kept view = IsAccessServed g made kept view
KnownInAccess g made Putting kept view = IsAccessServed g made kept view
KnownInAccess g made Unmarking kept view = IsAccessServed g made kept view
KnownInAccess g made Touching kept view = IsAccessServed g made kept view

-- The stages of one turn.

-- the turn of a stage
abbrev pub access_turn : AccessMade → AccessStage → Turn
access_turn made Resting = End
access_turn made CatchingUp = End
access_turn made Peeking = Do (Peek made.vpage)
access_turn made (Looking stamp) = Do (Look made.vpage)
access_turn made Faulting = End
access_turn made (Waiting action) = End
access_turn made Softening = Do (Soften made.vpage Hint)
access_turn made (Walking stamp word) = Do (Walk made.vpage word (is_write made.touch))
access_turn made Marking = Do (Mark made.page 0 1)
access_turn made Putting = Put Candidates made.page
access_turn made Unmarking = Do (Mark made.page 1 0)
access_turn made Touching = Do (touch_action made made.touch)

-- what is left after the turn of a stage, by what is heard
abbrev pub access_left : {M X : Type 0} → FaultKinds M X → Geometry → AccessMade → AccessStage → Carried X → Bool → ℕ → Heard → Turns → Accessed X → Type 0
access_left kinds g made Resting held hinted tries heard = Touches g made held
access_left kinds g made CatchingUp held hinted tries heard = Touches g made held
access_left kinds g made Peeking held hinted tries heard = Follows (Hears g (Do (Look made.vpage))) (λ look. AfterLook kinds g made (word_heard heard) (Translates kinds g made tries) held hinted (word_heard look))
access_left kinds g made (Looking stamp) held hinted tries heard = AfterLook kinds g made stamp (Translates kinds g made tries) held hinted (word_heard heard)
access_left kinds g made Faulting held hinted tries heard = Touches g made held
access_left kinds g made (Waiting action) held hinted tries heard = Touches g made held
access_left kinds g made Softening held hinted tries heard = Translates kinds g made tries held true
access_left kinds g made (Walking stamp word) held hinted tries heard = AfterWalk g made stamp word (Translates kinds g made tries) held hinted heard
access_left kinds g made Marking held hinted tries heard = AfterMark g made held heard
access_left kinds g made Putting held hinted tries heard = AfterPut g made held heard
access_left kinds g made Unmarking held hinted tries heard = Touches g made held
access_left kinds g made Touching held hinted tries heard = Ends (record { held = held; word = word_heard heard })

-- which stage comes next

abbrev pub tried_stage : Bool → AccessStage
tried_stage served = if served then Touching else Peeking

abbrev pub marked_stage : Bool → AccessStage
marked_stage marked = if marked then Marking else Touching

-- In all of these `was` is what was held, and `view` the view, when the access began, and `turns` the turns since then.

abbrev pub view_then : Geometry → View → Turns → View
view_then g view turns = view_after g view (own_list turns)

-- the answer to the turn of a stage is awaited
pub record IsAtAccessTurn {M X : Type 0} (kinds : FaultKinds M X) (made : AccessMade) (stage : AccessStage) (hinted : Bool) (kept : Kept) (ends : List X) (g : Geometry) (was : Carried X) (view : View) (turns : Turns) (turn : Turn) : Type 0 where
  pub is : turn ≡ access_turn made stage
  pub due : IsLeft (IsWholeAccess kinds g made was) turns (Sometimes (λ tries. Follows (Hears g (access_turn made stage)) (access_left kinds g made stage (record { kept = kept; ends = ends }) hinted tries)))
  pub known : KnownInAccess g made stage kept (view_then g view turns)

-- the answer to an action of a catch up is awaited, after which the translations are tried
pub record IsAtCatch {M X : Type 0} (kinds : FaultKinds M X) (made : AccessMade) (hinted : Bool) (cache : TranslationCache) (ends : List X) (g : Geometry) (was : Carried X) (view : View) (turns : Turns) (turn : Turn) : Type 0 where
  pub before : Kept
  pub front : Turns
  pub own : Own
  pub action : Action
  pub given : turn ≡ Do action
  pub is : turns ≡ front ++ action_turns own
  pub due : IsLeft (IsWholeAccess kinds g made was) front (Sometimes (λ tries. Tries g made (Translates kinds g made tries) (record { kept = before; ends = ends }) hinted))
  pub free : HasNothingOpen (view_then g view front)
  pub running : (view_then g view front).acked ≢ end_word
  pub awaited : AwaitsCatch cache before g (view_then g view front) own action

-- a fault with this data has made the list `inner`, and the turns since it began are the actions `own`
pub record IsInFault {M X : Type 0} (kinds : FaultKinds M X) (made : AccessMade) (hinted : Bool) (fault : M) (kept : Kept) (ends : List X) (g : Geometry) (was : Carried X) (view : View) (inner : Own) (turns : Turns) : Type 0 where
  pub before : Kept
  pub front : Turns
  pub own : Own
  pub is : turns ≡ front ++ action_turns own
  pub due : IsLeft (IsWholeAccess kinds g made was) front (Sometimes (λ tries. Faults kinds g made (Translates kinds g made tries) fault (record { kept = before; ends = ends }) hinted))
  pub frees : (now left : View) (end : X) → kinds.leaves fault g now end left → HasNothingOpen left
  pub woven : Weaves (CatchesUp g) kinds.waits [] inner before own kept
  pub first : View
  pub first_is : first ≡ desk g (view_then g view front)
  pub seat : desk g (view_then g view turns) ≡ view_after g first inner
  pub all : IsKeptWith g kept (view_then g view turns)
  pub on : IsSome kept.acked

-- the fault is to give this action
pub record IsFaultGiven {M X : Type 0} (kinds : FaultKinds M X) (fault : M) (awaits : Geometry → View → Own → Action → Type 0) (g : Geometry) (first : View) (inner : Own) (action : Action) : Type 0 where
  pub quiet : IsQuiet action
  pub permitted : Allowed g (view_after g first inner) action
  pub awaited : awaits g first inner action
  pub begun : IsBegunWith (kinds.shape fault g) inner action

-- the answer to an action of a fault is awaited
pub record IsAtFault {M X : Type 0} (kinds : FaultKinds M X) (made : AccessMade) (hinted : Bool) (fault : M) (awaits : Geometry → View → Own → Action → Type 0) (kept : Kept) (ends : List X) (g : Geometry) (was : Carried X) (view : View) (turns : Turns) (turn : Turn) : Type 0 where
  pub middle : Kept
  pub before : Turns
  pub inner : Own
  pub run : IsInFault kinds made hinted fault middle ends g was view inner before
  pub caught : Own
  pub action : Action
  pub given : turn ≡ Do action
  pub is : turns ≡ before ++ action_turns caught
  pub catches : CatchesWhere (CatchesUp g) (kinds.waits inner action) middle caught kept
  pub seat : desk g (view_then g view turns) ≡ view_after g run.first inner
  pub all : IsKeptWith g kept (view_then g view turns)
  pub on : IsSome kept.acked
  pub gives : IsFaultGiven kinds fault awaits g run.first inner action

-- the answer to an action of a catch up is awaited, after which an action of a fault is given
pub record IsAtWait {M X : Type 0} (kinds : FaultKinds M X) (made : AccessMade) (hinted : Bool) (fault : M) (awaits : Geometry → View → Own → Action → Type 0) (waiting : Action) (cache : TranslationCache) (ends : List X) (g : Geometry) (was : Carried X) (view : View) (turns : Turns) (turn : Turn) : Type 0 where
  pub middle : Kept
  pub before : Turns
  pub inner : Own
  pub run : IsInFault kinds made hinted fault middle ends g was view inner before
  pub waits : kinds.waits inner waiting ≡ true
  pub gives : IsFaultGiven kinds fault awaits g run.first inner waiting
  pub own : Own
  pub action : Action
  pub given : turn ≡ Do action
  pub is : turns ≡ before ++ action_turns own
  pub awaited : AwaitsCatch cache middle g (view_then g view before) own action

-- the processor catches up at a stage
abbrev pub IsCatchingStage : AccessStage → Type 0
IsCatchingStage CatchingUp = Unit {0}
IsCatchingStage (Waiting action) = Unit {0}
IsCatchingStage stage = ⊥

-- the answer decides what comes after a stage
abbrev pub IsToldStage : AccessStage → Type 0
IsToldStage Peeking = Unit {0}
IsToldStage (Looking stamp) = Unit {0}
IsToldStage (Walking stamp word) = Unit {0}
IsToldStage Marking = Unit {0}
IsToldStage Touching = Unit {0}
IsToldStage stage = ⊥

-- what an access awaits at a stage
abbrev pub IsAtAccessStage : {M X : Type 0} → FaultKinds M X → AccessMade → AccessStage → Bool → M → (Geometry → View → Own → Action → Type 0) → TranslationCache → List X → Geometry → Carried X → View → Turns → Turn → Type 0
IsAtAccessStage kinds made Resting hinted fault awaits cache ends g was view turns turn = ⊥
IsAtAccessStage kinds made CatchingUp hinted fault awaits cache ends g was view turns turn = IsAtCatch kinds made hinted cache ends g was view turns turn
IsAtAccessStage kinds made Faulting hinted fault awaits cache ends g was view turns turn = IsAtFault kinds made hinted fault awaits (kept_of cache) ends g was view turns turn
IsAtAccessStage kinds made (Waiting waiting) hinted fault awaits cache ends g was view turns turn = IsAtWait kinds made hinted fault awaits waiting cache ends g was view turns turn
IsAtAccessStage kinds made stage hinted fault awaits cache ends g was view turns turn = IsAtAccessTurn kinds made stage hinted (kept_of cache) ends g was view turns turn

-- an access that was made with this awaits the answer to a turn
pub record AwaitsAccess {M X : Type 0} (kinds : FaultKinds M X) (geometry : Geometry) (made : AccessMade) (stage : AccessStage) (hinted : Bool) (fault : M) (awaits : Geometry → View → Own → Action → Type 0) (cache : TranslationCache) (tally : Tally) (g : Geometry) (was : Carried X) (view : View) (turns : Turns) (turn : Turn) : Type 0 where
  pub same : geometry ≡ g
  pub may : IsAccessMade g made
  pub ends : List X
  pub counted : tally ≡ ends_tally kinds.counts ends
  pub at : IsAtAccessStage kinds made stage hinted fault awaits cache ends g was view turns turn

-- a turn of an access is permitted, and its answer is awaited
pub record IsAccessAsked {M X : Type 0} (kinds : FaultKinds M X) (geometry : Geometry) (made : AccessMade) (stage : AccessStage) (hinted : Bool) (fault : M) (awaits : Geometry → View → Own → Action → Type 0) (cache : TranslationCache) (tally : Tally) (g : Geometry) (was : Carried X) (view : View) (turns : Turns) (turn : Turn) : Type 0 where
  pub permitted : IsPermittedTurn g (view_then g view turns) turn
  pub awaited : AwaitsAccess kinds geometry made stage hinted fault awaits cache tally g was view turns turn
  pub begun : IsTurnBegun (IsWholeAccess kinds g made was) turns turn

-- an access is over
pub record IsAccessOver {M X : Type 0} (kinds : FaultKinds M X) (geometry : Geometry) (made : AccessMade) (cache : TranslationCache) (tally : Tally) (g : Geometry) (was : Carried X) (view : View) (turns : Turns) (word : ℕ) : Type 0 where
  pub same : geometry ≡ g
  pub ends : List X
  pub counted : tally ≡ ends_tally kinds.counts ends
  pub shown : IsWholeAccess kinds g made was turns (record { held = record { kept = kept_of cache; ends = ends }; word = word })
  pub ready : IsAccessReady g (kept_of cache) (view_then g view turns)

abbrev pub IsAccessStep : {M X : Type 0} → FaultKinds M X → Geometry → AccessMade → AccessStage → Bool → M → (Geometry → View → Own → Action → Type 0) → TranslationCache → Tally → Geometry → Carried X → View → Turns → AccessStep → Type 0
IsAccessStep kinds geometry made stage hinted fault awaits cache tally g was view turns (Give turn) = IsAccessAsked kinds geometry made stage hinted fault awaits cache tally g was view turns turn
IsAccessStep kinds geometry made stage hinted fault awaits cache tally g was view turns (Over word) = IsAccessOver kinds geometry made cache tally g was view turns word

-- what is heard answers a turn whose answer is awaited
pub record IsAccessHeard {X : Type 0} (awaits : Geometry → Carried X → View → Turns → Turn → Type 0) (heard : Heard) : Type 0 where
  pub geometry : Geometry
  pub was : Carried X
  pub view : View
  pub turns : Turns
  pub turn : Turn
  pub awaited : awaits geometry was view turns turn
  pub answer : IsAnswer geometry (view_then geometry view turns) turn heard

-- a turn is given
abbrev pub GivesTurn : AccessStep → Type 0
GivesTurn (Give turn) = Unit {0}
GivesTurn (Over word) = ⊥

-- the word was touched, and this is what was heard
pub record IsTouched (stage : AccessStage) (heard : Heard) (word : ℕ) : Type 0 where
  pub last : stage ≡ Touching
  pub told : heard ≡ Answer (Word word)

-- an access is over exactly where the word was touched, and with the word that was heard then
abbrev pub DoesTouch : AccessStage → Heard → AccessStep → Type 0
DoesTouch stage heard (Give turn) = stage ≢ Touching
DoesTouch stage heard (Over word) = IsTouched stage heard word

-- The transaction law: what a finished list of events shows of each transaction. It is read off the list alone; no table
-- word, no dirty bit and no view occurs in it.
use Rattle.std.specs.Prelude.{◌≡◌, ◌↔◌, ℕ, ◌<◌, true, List, ◌∷◌, ◌++◌, Some, All, Any}
use Rattle.nm_base.specs.Geometry.{Geometry, backing_page}
use Rattle.nm_action.specs.declared.action.Action.{Action}
use Rattle.nm_action.specs.declared.action.Action.TheVariants.{Store, Add, Walk, Bump, SeeAck, ClearDirty, Unmap, Map, SetHome}
use Rattle.nm_action.specs.declared.action.Reply.{Reply}
use Rattle.nm_action.specs.declared.action.Reply.TheVariants.{Done, Word}
use Rattle.nm_action.specs.declared.action.Event.{Event}

-- Events.

-- an actor made an action, and heard a reply
abbrev pub replied : ℕ → Action → Reply → Event
replied a action reply = record { actor = a; action = action; reply = reply }

-- actor a made this action
pub record IsBy (a : ℕ) (action : Action) (e : Event) : Type 0 where
  pub actor : e.actor ≡ a
  pub made : e.action ≡ action

-- a Walk of v with `write` was answered Done
abbrev pub WalksDirty : ℕ → Action → Reply → Type 0
WalksDirty v (Walk u _ true) Done = u ≡ v
WalksDirty v _ _ = ⊥

abbrev pub IsDirtyWalk : ℕ → Event → Type 0
IsDirtyWalk v e = WalksDirty v e.action e.reply

-- a Store or an Add to backing page b, through any of its virtual pages
abbrev pub StoresTo : Geometry → ℕ → Action → Type 0
StoresTo g b (Store v _ _) = backing_page g v ≡ Some b
StoresTo g b (Add v _ _) = backing_page g v ≡ Some b
StoresTo g b _ = ⊥

-- a SetHome of page b
abbrev pub SetsHome : ℕ → Action → Type 0
SetsHome b (SetHome c _) = c ≡ b
SetsHome b _ = ⊥

-- a SetHome of page b, or a Map of a virtual page of b
abbrev pub SetsOrMaps : Geometry → ℕ → Action → Type 0
SetsOrMaps g b (SetHome c _) = c ≡ b
SetsOrMaps g b (Map v _) = backing_page g v ≡ Some b
SetsOrMaps g b _ = ⊥

-- actor a made a SetHome or a Map on page b
pub record IsSetOrMap (g : Geometry) (a b : ℕ) (e : Event) : Type 0 where
  pub actor : e.actor ≡ a
  pub acts : SetsOrMaps g b e.action

-- Flushes.

-- actor a saw processor p with an acknowledgement that answers the bump that told this number: more than it
pub record IsSeen (a p number : ℕ) (e : Event) : Type 0 where
  pub word : ℕ
  pub is : e ≡ replied a (SeeAck p) (Word word)
  pub answers : number < word

-- the flush of actor a ended in a list of events: after its first Bump there it saw each processor with an acknowledgement
-- that answers this bump. The shortest front of a list in which it ended has the SeeAck that ended it as its last event.
pub record HasFlushEnded (g : Geometry) (a : ℕ) (events : List Event) : Type 0 where
  pub before : List Event
  pub number : ℕ
  pub after : List Event
  pub list : events ≡ before ++ replied a Bump (Word number) ∷ after
  pub first : All (λ e. ¬ IsBy a Bump e) before
  pub seen : (p : ℕ) → p < g.cpus → Any (IsSeen a p number) after

-- Transactions.

-- a transaction of actor a on virtual page v of page b in a list of events: it begins with a ClearDirty of v, and its last event
-- is a's first SetHome or Map on b after that; `middle` are the events between the two
pub record IsTransaction (g : Geometry) (events : List Event) (a v b : ℕ) (middle : List Event) (last : Event) : Type 0 where
  pub front : List Event
  pub clear : Event
  pub rest : List Event
  pub list : events ≡ front ++ clear ∷ middle ++ last ∷ rest
  pub clears : IsBy a (ClearDirty v) clear
  pub page : backing_page g v ≡ Some b
  pub first : All (λ e. ¬ IsSetOrMap g a b e) middle
  pub ends : IsSetOrMap g a b last

-- how a transaction is decided: between its first event and its last its actor made Unmap of v, once, when the flush after the
-- ClearDirty had ended; the last event is a SetHome exactly where nobody's dirty Walk of v lies before that Unmap, and else it
-- maps v to the word that the Unmap took; where it is a SetHome, nobody made a Store or an Add to b once the flush had ended
pub record IsDecided (g : Geometry) (a v b : ℕ) (middle : List Event) (last : Event) : Type 0 where
  pub before : List Event
  pub word : ℕ
  pub after : List Event
  pub unmaps : middle ≡ before ++ replied a (Unmap v) (Word word) ∷ after
  pub none_before : All (λ e. ¬ IsBy a (Unmap v) e) before
  pub none_after : All (λ e. ¬ IsBy a (Unmap v) e) after
  pub flushed : HasFlushEnded g a before
  pub commits : SetsHome b last.action ↔ ¬ Any (IsDirtyWalk v) before
  pub returns : Any (IsDirtyWalk v) before → last.action ≡ Map v word
  pub still : SetsHome b last.action → (flush rest : List Event) → middle ≡ flush ++ rest → HasFlushEnded g a flush → All (λ e. ¬ StoresTo g b e.action) rest

-- the transaction law: each transaction in a list of events is decided so
abbrev pub ObeyTransactionLaw : Geometry → List Event → Type 0
ObeyTransactionLaw g events = (a v b : ℕ) (middle : List Event) (last : Event) → IsTransaction g events a v b middle last → IsDecided g a v b middle last

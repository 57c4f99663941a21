-- An access of a processor, as a finished list of turns; the last step first.
use Rattle.std.specs.Prelude.{ℕ, zero, suc, ◌==◌, ◌&&◌, ◌||◌, not, Bool, true, false, List, [], ◌∷◌, ◌++◌, Option, Some, None}
use Rattle.nm_base.specs.Geometry.{Geometry, tier_of}
use Rattle.nm_base.specs.PageWord.{has_hint, is_writable, is_dirty, frame_of}
use Rattle.nm_action.specs.declared.action.Action.{Action}
use Rattle.nm_action.specs.declared.action.Action.TheVariants.{Load, Store, Add, Look, Walk, Peek, Soften, Mark}
use Rattle.nm_action.specs.declared.action.Bit.TheVariants.{Hint}
use Rattle.nm_action.specs.declared.turn.Lane.TheVariants.{Candidates}
use Rattle.nm_action.specs.declared.turn.Turn.TheVariants.{Do, Put}
use Rattle.nm_action.specs.declared.turn.Heard.{Heard}
use Rattle.nm_action.specs.declared.turn.Heard.TheVariants.{PutFull}
use Rattle.nm_part.specs.Patterns.{Ends, Follows, Either, Sometimes}
use Rattle.nm_actor.specs.Turns.{Turns}
use Rattle.nm_xlat.specs.declared.translations.Entry.{Entry}
use Rattle.nm_setcache.specs.SetAssociative.{put_in_set}
use Rattle.nm_desk.specs.Woven.{WeavesPart}
use Rattle.nm_catchup.specs.CatchUp.{Kept, entry_of, CatchesUp}
use Rattle.nm_access.specs.declared.made.Touch.{Touch}
use Rattle.nm_access.specs.declared.made.Touch.TheVariants as touches
use Rattle.nm_access.specs.declared.made.AccessMade.{AccessMade}
use Rattle.nm_access.specs.Turning.{Hears, Acts, heard_reply, word_heard, is_done}
use Rattle.nm_access.specs.Faults.{FaultKinds}

-- what a processor holds from access to access: its translations, and the ends of its faults so far
pub record Carried (X : Type 0) : Type 0 where
  pub kept : Kept
  pub ends : List X

-- what an access comes to: what is held then, and the word that it was told
pub record Accessed (X : Type 0) : Type 0 where
  pub held : Carried X
  pub word : ℕ

-- an add is treated as a store
abbrev pub is_write : Touch → Bool
is_write touches.Load = false
is_write (touches.Store _) = true
is_write (touches.Add _) = true

-- the load, store or add
abbrev pub touch_action : AccessMade → Touch → Action
touch_action made touches.Load = Load made.vpage made.word
touch_action made (touches.Store x) = Store made.vpage made.word x
touch_action made (touches.Add x) = Add made.vpage made.word x

-- a cached entry serves a load, and only a dirty one serves a store or an add
abbrev pub serves : Touch → Option Entry → Bool
serves touch None = false
serves touch (Some entry) = not (is_write touch) || entry.dirty

-- the entry of a page whose walk was done, by the word and the stamp
abbrev pub walked_entry : AccessMade → ℕ → ℕ → Entry
walked_entry made word stamp = record { frame = frame_of word; dirty = is_writable word && (is_write made.touch || is_dirty word); stamp = stamp }

-- what is held after a walk was done: the entry is cached
abbrev pub held_walked : {X : Type 0} → AccessMade → ℕ → ℕ → Carried X → Carried X
held_walked made word stamp held = record held { kept = record held.kept { cache = put_in_set (record { page = made.vpage; entry = walked_entry made word stamp }) held.kept.cache } }

-- what is held after a fault
abbrev pub held_faulted : {X : Type 0} → X × Kept → Carried X → Carried X
held_faulted end held = record { kept = end.1; ends = held.ends ++ end.0 ∷ [] }

abbrev pub held_caught : {X : Type 0} → Kept → Carried X → Carried X
held_caught kept held = record held { kept = kept }

abbrev pub AccessPattern : Type 0 → Type 1
AccessPattern X = Turns → Accessed X → Type 0

-- The access is made.
abbrev pub Touches : {X : Type 0} → Geometry → AccessMade → Carried X → Turns → Accessed X → Type 0
Touches g made held = Follows (Hears g (Do (touch_action made made.touch))) (λ heard. Ends (record { held = held; word = word_heard heard }))

-- A Put that found the lane full: the mark is taken away.
abbrev pub AfterPut : {X : Type 0} → Geometry → AccessMade → Carried X → Heard → Turns → Accessed X → Type 0
AfterPut g made held PutFull = Follows (Hears g (Do (Mark made.page 1 0))) (λ unmarked. Touches g made held)
AfterPut g made held _ = Touches g made held

-- A Mark that was done: the page is put in Candidates.
abbrev pub AfterMark : {X : Type 0} → Geometry → AccessMade → Carried X → Heard → Turns → Accessed X → Type 0
AfterMark g made held heard = Either (is_done (heard_reply heard)) (Follows (Hears g (Put Candidates made.page)) (AfterPut g made held)) (Touches g made held)

-- a page that was noted as hinted is marked where its frame is not in tier 0
abbrev pub is_marked : Geometry → Bool → ℕ → Bool
is_marked g hinted word = hinted && not (tier_of g (frame_of word) == 0)

abbrev pub MarksCandidate : {X : Type 0} → Geometry → AccessMade → ℕ → Bool → Carried X → Turns → Accessed X → Type 0
MarksCandidate g made word hinted held = Either (is_marked g hinted word) (Follows (Hears g (Do (Mark made.page 0 1))) (AfterMark g made held)) (Touches g made held)

-- 4. Walk; where it was done the entry is cached, else (3), which is `again`.
abbrev pub AfterWalk : {X : Type 0} → Geometry → AccessMade → ℕ → ℕ → (Carried X → Bool → Turns → Accessed X → Type 0) → Carried X → Bool → Heard → Turns → Accessed X → Type 0
AfterWalk g made stamp word again held hinted heard = Either (is_done (heard_reply heard)) (MarksCandidate g made word hinted (held_walked made word stamp held)) (again held hinted)

-- 1, 2. Catch up; where a cached entry serves, the access is made, else (3).
abbrev pub Tries : {X : Type 0} → Geometry → AccessMade → (Carried X → Bool → Turns → Accessed X → Type 0) → Carried X → Bool → Turns → Accessed X → Type 0
Tries g made again held hinted = Follows (Acts (CatchesUp g held.kept)) (λ kept. Either (serves made.touch (entry_of kept made.vpage)) (Touches g made (held_caught kept held)) (again (held_caught kept held) hinted))

-- a fault with this data, with catch ups where it waits; then (1)
abbrev pub Faults : {M X : Type 0} → FaultKinds M X → Geometry → AccessMade → (Carried X → Bool → Turns → Accessed X → Type 0) → M → Carried X → Bool → Turns → Accessed X → Type 0
Faults kinds g made again fault held hinted = Follows (Acts (WeavesPart (CatchesUp g) kinds.waits (kinds.shape fault g) held.kept)) (λ end. Tries g made again (held_faulted end held) hinted)

-- 3. By the word of v: a missing fault; its hint is cleared, and (3); a shadow fault; or (4).
abbrev pub AfterLook : {M X : Type 0} → FaultKinds M X → Geometry → AccessMade → ℕ → (Carried X → Bool → Turns → Accessed X → Type 0) → Carried X → Bool → ℕ → Turns → Accessed X → Type 0
AfterLook kinds g made stamp again held hinted word =
    Either (word == 0) (Faults kinds g made again (kinds.missing g made.vpage) held hinted)
    (Either (has_hint word) (Follows (Hears g (Do (Soften made.vpage Hint))) (λ softened. again held true))
    (Either (is_write made.touch && not (is_writable word)) (Faults kinds g made again (kinds.shadowed g made.vpage) held hinted)
    (Follows (Hears g (Do (Walk made.vpage word (is_write made.touch)))) (AfterWalk g made stamp word again held hinted))))

-- 3. v is peeked and looked at; with at most so many tries.
abbrev pub Translates : {M X : Type 0} → FaultKinds M X → Geometry → AccessMade → ℕ → Carried X → Bool → Turns → Accessed X → Type 0
Translates kinds g made zero held hinted turns outcome = ⊥
Translates kinds g made (suc tries) held hinted turns outcome =
    Follows (Hears g (Do (Peek made.vpage))) (λ peek. Follows (Hears g (Do (Look made.vpage))) (λ look. AfterLook kinds g made (word_heard peek) (Translates kinds g made tries) held hinted (word_heard look))) turns outcome

-- an access, with whatever number of tries
abbrev pub IsWholeAccess : {M X : Type 0} → FaultKinds M X → Geometry → AccessMade → Carried X → Turns → Accessed X → Type 0
IsWholeAccess kinds g made held = Sometimes (λ tries. Tries g made (Translates kinds g made tries) held false)

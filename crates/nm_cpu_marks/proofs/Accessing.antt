-- The accesses of a processor: their actions are such as come before its end.
use Rattle.std.proofs.Common.{ℕ, zero, suc, ◌-◌, ◌==◌, ◌&&◌, not, Bool, true, false, is_some, length, Some, refl, inl, inr}
use Rattle.std.specs.List.{range_with_len}
use Rattle.nm_base.specs.Geometry.{Geometry}
use Rattle.nm_base.specs.PageWord.{has_hint, is_writable}
use Rattle.nm_action.specs.declared.action.AckTo.TheVariants.{Seen}
use Rattle.nm_action.specs.declared.action.Action.TheVariants.{Poll, Peek, Ack, Look, Walk, Soften, Mark}
use Rattle.nm_action.specs.declared.action.Bit.TheVariants.{Hint}
use Rattle.nm_action.specs.declared.turn.Heard.{Heard}
use Rattle.nm_action.specs.declared.turn.Heard.TheVariants.{Start, Answer, PutDone, PutFull, Took, TookNone}
use Rattle.nm_action.specs.declared.turn.Lane.TheVariants.{Candidates}
use Rattle.nm_action.specs.declared.turn.Turn.TheVariants.{Do, Put}
use Rattle.nm_part.specs.Patterns.{Ends, Follows, Either}
use Rattle.nm_compose.specs.Acts.{IsAct}
use Rattle.nm_actor.specs.Turns.{Turns}
use Rattle.nm_desk.specs.Woven.{WeavesPart}
use Rattle.nm_catchup.specs.CatchUp.{Kept, entry_of, peeked_with, told_word, is_news, PeeksAt, Acknowledges, PeeksFrom, CatchesUp}
use Rattle.nm_access.specs.declared.made.AccessMade.{AccessMade}
use Rattle.nm_access.specs.declared.made.Touch.{Touch}
use Rattle.nm_access.specs.declared.made.Touch.TheVariants as touches
use Rattle.nm_access.specs.Turning.{Hears, Acts, heard_reply, word_heard, is_done}
use Rattle.nm_access.specs.Faults.{FaultKinds}
use Rattle.nm_access.specs.Accesses.{Carried, Accessed, is_write, touch_action, serves, held_walked, held_faulted, held_caught, Touches, AfterPut, AfterMark, is_marked, MarksCandidate, AfterWalk, Tries, Faults, AfterLook, Translates, IsWholeAccess}
use Rattle.nm_marks.specs.Contents.{ListsOnly}
use Rattle.nm_marks.proofs.Patterns.{only-ends, only-then, only-either, only-each}
use Rattle.nm_cpu_marks.specs.Processing.{IsProcessing}
use Rattle.nm_cpu_marks.proofs.Turning.{TurnsOnly, turn-follows, turn-ends, turn-either, turn-sometimes, turn-acts, turn-then, turn-puts, woven-only}

-- the faults do only such actions
abbrev pub FaultsOnly : {M X : Type 0} → FaultKinds M X → Type 0
FaultsOnly {M} {X} kinds = (fault : M) (g : Geometry) → ListsOnly IsProcessing (kinds.shape fault g)

-- ---- catch ups

acknowledges : (g : Geometry) (number : ℕ) (kept : Kept) → ListsOnly IsProcessing (Acknowledges g number kept)
acknowledges g number kept = only-then IsProcessing (Ack Seen) g (λ reply. Ends (record kept { acked = Some number })) tt (λ reply. only-ends IsProcessing (record kept { acked = Some number }))

peeks : (g : Geometry) (number from : ℕ) (kept : Kept) → ListsOnly IsProcessing (PeeksFrom g number from kept)
peeks g number from kept =
    only-each IsProcessing (PeeksAt g) (range_with_len from (length g.vpages - from)) (Acknowledges g number)
    (λ page kept next rest. only-either IsProcessing (is_some (entry_of kept page)) (Follows (IsAct (Peek page) g) (λ reply. next (peeked_with page (told_word reply) kept))) (next kept)
    (only-then IsProcessing (Peek page) g (λ reply. next (peeked_with page (told_word reply) kept)) tt (λ reply. rest (peeked_with page (told_word reply) kept))) (rest kept))
    (acknowledges g number) kept

catches : (g : Geometry) (kept : Kept) → ListsOnly IsProcessing (CatchesUp g kept)
catches g kept =
    only-then IsProcessing Poll g (λ reply. Either (is_news kept.acked (told_word reply)) (PeeksFrom g (told_word reply) 0 kept) (Ends kept)) tt
    (λ reply. only-either IsProcessing (is_news kept.acked (told_word reply)) (PeeksFrom g (told_word reply) 0 kept) (Ends kept) (peeks g (told_word reply) 0 kept) (only-ends IsProcessing kept))

pub catches-turns : (g : Geometry) (kept : Kept) → TurnsOnly IsProcessing (Acts (CatchesUp g kept))
catches-turns g kept = turn-acts IsProcessing (CatchesUp g kept) (catches g kept)

-- ---- an access

touch-is : (made : AccessMade) (touch : Touch) → IsProcessing (touch_action made touch)
touch-is made touches.Load = tt
touch-is made (touches.Store x) = tt
touch-is made (touches.Add x) = tt

touched : {X : Type 0} (g : Geometry) (made : AccessMade) (held : Carried X) → TurnsOnly IsProcessing (Touches g made held)
touched {X} g made held =
    turn-then IsProcessing g (touch_action made made.touch) (λ heard. Ends (record { held = held; word = word_heard heard })) (touch-is made made.touch) (λ heard. turn-ends IsProcessing (record { held = held; word = word_heard heard }))

after-put : {X : Type 0} (g : Geometry) (made : AccessMade) (held : Carried X) (heard : Heard) → TurnsOnly IsProcessing (AfterPut g made held heard)
after-put g made held PutFull = turn-then IsProcessing g (Mark made.page 1 0) (λ unmarked. Touches g made held) (inr (record { old_is = refl; new_is = refl })) (λ unmarked. touched g made held)
after-put g made held Start = touched g made held
after-put g made held (Answer reply) = touched g made held
after-put g made held PutDone = touched g made held
after-put g made held (Took page) = touched g made held
after-put g made held TookNone = touched g made held

after-mark : {X : Type 0} (g : Geometry) (made : AccessMade) (held : Carried X) (heard : Heard) → TurnsOnly IsProcessing (AfterMark g made held heard)
after-mark g made held heard =
    turn-either IsProcessing (is_done (heard_reply heard)) (Follows (Hears g (Put Candidates made.page)) (AfterPut g made held)) (Touches g made held)
    (turn-follows IsProcessing (Hears g (Put Candidates made.page)) (AfterPut g made held) (turn-puts IsProcessing g made.page) (after-put g made held)) (touched g made held)

marks : {X : Type 0} (g : Geometry) (made : AccessMade) (word : ℕ) (hinted : Bool) (held : Carried X) → TurnsOnly IsProcessing (MarksCandidate g made word hinted held)
marks g made word hinted held =
    turn-either IsProcessing (is_marked g hinted word) (Follows (Hears g (Do (Mark made.page 0 1))) (AfterMark g made held)) (Touches g made held)
    (turn-then IsProcessing g (Mark made.page 0 1) (AfterMark g made held) (inl (record { old_is = refl; new_is = refl })) (after-mark g made held)) (touched g made held)

-- what comes after a try does only such actions
abbrev AgainOnly : {X : Type 0} → (Carried X → Bool → Turns → Accessed X → Type 0) → Type 0
AgainOnly {X} again = (held : Carried X) (hinted : Bool) → TurnsOnly IsProcessing (again held hinted)

after-walk : {X : Type 0} (g : Geometry) (made : AccessMade) (stamp word : ℕ) (again : Carried X → Bool → Turns → Accessed X → Type 0) (held : Carried X) (hinted : Bool) (heard : Heard) → AgainOnly again → TurnsOnly IsProcessing (AfterWalk g made stamp word again held hinted heard)
after-walk g made stamp word again held hinted heard rest =
    turn-either IsProcessing (is_done (heard_reply heard)) (MarksCandidate g made word hinted (held_walked made word stamp held)) (again held hinted) (marks g made word hinted (held_walked made word stamp held)) (rest held hinted)

tries : {X : Type 0} (g : Geometry) (made : AccessMade) (again : Carried X → Bool → Turns → Accessed X → Type 0) → AgainOnly again → AgainOnly (Tries g made again)
tries g made again rest held hinted =
    turn-follows IsProcessing (Acts (CatchesUp g held.kept)) (λ kept. Either (serves made.touch (entry_of kept made.vpage)) (Touches g made (held_caught kept held)) (again (held_caught kept held) hinted)) (catches-turns g held.kept)
    (λ kept. turn-either IsProcessing (serves made.touch (entry_of kept made.vpage)) (Touches g made (held_caught kept held)) (again (held_caught kept held) hinted) (touched g made (held_caught kept held)) (rest (held_caught kept held) hinted))

faulted : {M X : Type 0} (kinds : FaultKinds M X) (g : Geometry) (made : AccessMade) (again : Carried X → Bool → Turns → Accessed X → Type 0) (fault : M) (held : Carried X) (hinted : Bool) → FaultsOnly kinds → AgainOnly again → TurnsOnly IsProcessing (Faults kinds g made again fault held hinted)
faulted kinds g made again fault held hinted faults rest =
    turn-follows IsProcessing (Acts (WeavesPart (CatchesUp g) kinds.waits (kinds.shape fault g) held.kept)) (λ end. Tries g made again (held_faulted end held) hinted)
    (turn-acts IsProcessing (WeavesPart (CatchesUp g) kinds.waits (kinds.shape fault g) held.kept) (woven-only IsProcessing (CatchesUp g) (catches g) kinds.waits (kinds.shape fault g) (faults fault g) held.kept))
    (λ end. tries g made again rest (held_faulted end held) hinted)

after-look : {M X : Type 0} (kinds : FaultKinds M X) (g : Geometry) (made : AccessMade) (stamp : ℕ) (again : Carried X → Bool → Turns → Accessed X → Type 0) (held : Carried X) (hinted : Bool) (word : ℕ) → FaultsOnly kinds → AgainOnly again → TurnsOnly IsProcessing (AfterLook kinds g made stamp again held hinted word)
after-look kinds g made stamp again held hinted word faults rest =
    let walks = Follows (Hears g (Do (Walk made.vpage word (is_write made.touch)))) (AfterWalk g made stamp word again held hinted) in
    let shadowed = Either (is_write made.touch && not (is_writable word)) (Faults kinds g made again (kinds.shadowed g made.vpage) held hinted) walks in
    let softens = Follows (Hears g (Do (Soften made.vpage Hint))) (λ softened. again held true) in
    turn-either IsProcessing (word == 0) (Faults kinds g made again (kinds.missing g made.vpage) held hinted) (Either (has_hint word) softens shadowed)
    (faulted kinds g made again (kinds.missing g made.vpage) held hinted faults rest)
    (turn-either IsProcessing (has_hint word) softens shadowed
    (turn-then IsProcessing g (Soften made.vpage Hint) (λ softened. again held true) tt (λ softened. rest held true))
    (turn-either IsProcessing (is_write made.touch && not (is_writable word)) (Faults kinds g made again (kinds.shadowed g made.vpage) held hinted) walks
    (faulted kinds g made again (kinds.shadowed g made.vpage) held hinted faults rest)
    (turn-then IsProcessing g (Walk made.vpage word (is_write made.touch)) (AfterWalk g made stamp word again held hinted) tt (λ heard. after-walk g made stamp word again held hinted heard rest))))

translates : {M X : Type 0} (kinds : FaultKinds M X) (g : Geometry) (made : AccessMade) → FaultsOnly kinds → (n : ℕ) → AgainOnly (Translates kinds g made n)
translates kinds g made faults zero held hinted = λ turns outcome h. absurd h
translates kinds g made faults (suc n) held hinted =
    turn-then IsProcessing g (Peek made.vpage) (λ peek. Follows (Hears g (Do (Look made.vpage))) (λ look. AfterLook kinds g made (word_heard peek) (Translates kinds g made n) held hinted (word_heard look))) tt (λ peek.
    turn-then IsProcessing g (Look made.vpage) (λ look. AfterLook kinds g made (word_heard peek) (Translates kinds g made n) held hinted (word_heard look)) tt (λ look.
    after-look kinds g made (word_heard peek) (Translates kinds g made n) held hinted (word_heard look) faults (translates kinds g made faults n)))

pub whole-access : {M X : Type 0} (kinds : FaultKinds M X) (g : Geometry) (made : AccessMade) (held : Carried X) → FaultsOnly kinds → TurnsOnly IsProcessing (IsWholeAccess kinds g made held)
whole-access kinds g made held faults =
    turn-sometimes IsProcessing (λ n. Tries g made (Translates kinds g made n) held false) (λ n. tries g made (Translates kinds g made n) (translates kinds g made faults n) held false)

-- Accesses of a processor count what the ends of their faults say.
use Rattle.std.proofs.Common.{ℕ, zero, suc, ◌-◌, ◌==◌, ◌&&◌, not, Bool, true, false, is_some, List, [], ◌∷◌, ◌++◌, length, Some, refl}
use Rattle.std.specs.List.{range_with_len}
use Rattle.nm_base.specs.Geometry.{Geometry}
use Rattle.nm_base.specs.PageWord.{has_hint, is_writable}
use Rattle.nm_action.specs.declared.action.AckTo.TheVariants.{Seen}
use Rattle.nm_action.specs.declared.action.Action.TheVariants.{Poll, Peek, Ack, Look, Walk, Soften, Mark}
use Rattle.nm_action.specs.declared.action.Bit.TheVariants.{Hint}
use Rattle.nm_action.specs.declared.turn.Heard.{Heard}
use Rattle.nm_action.specs.declared.turn.Heard.TheVariants.{Start, Answer, PutDone, PutFull, Took, TookNone}
use Rattle.nm_action.specs.declared.turn.Lane.TheVariants.{Candidates}
use Rattle.nm_action.specs.declared.turn.Turn.TheVariants.{Do, Put}
use Rattle.nm_part.specs.Patterns.{Ends, Follows, Either}
use Rattle.nm_compose.specs.Acts.{IsAct}
use Rattle.nm_actor.specs.Turns.{Turns}
use Rattle.nm_desk.specs.Woven.{WeavesPart}
use Rattle.nm_catchup.specs.CatchUp.{Kept, entry_of, peeked_with, told_word, is_news, PeeksAt, Acknowledges, PeeksFrom, CatchesUp}
use Rattle.nm_access.specs.declared.made.AccessMade.{AccessMade}
use Rattle.nm_access.specs.declared.made.Touch.{Touch}
use Rattle.nm_access.specs.declared.made.Touch.TheVariants as touches
use Rattle.nm_access.specs.Turning.{Hears, Acts, heard_reply, word_heard, is_done}
use Rattle.nm_access.specs.Faults.{FaultKinds}
use Rattle.nm_access.specs.Accesses.{Carried, Accessed, is_write, touch_action, serves, held_walked, held_faulted, held_caught, Touches, AfterPut, AfterMark, is_marked, MarksCandidate, AfterWalk, Tries, Faults, AfterLook, Translates, IsWholeAccess}
use Rattle.nm_shadow_fault.specs.declared.fault.FaultEnd.{FaultEnd}
use Rattle.nm_marks.specs.Contents.{ListsOnly}
use Rattle.nm_marks.proofs.Patterns.{only-ends, only-then, only-either, only-each}
use Rattle.nm_fault_counts.specs.Counted.{AreFaultsCounted}
use Rattle.nm_fault_counts.proofs.Lists.{IsSilent}
use Rattle.nm_cpu_counts.proofs.Turning.{TurnsCount, turn-follows, turn-ends, turn-either, turn-sometimes, turn-acts, turn-then, turn-puts, turn-weaves}

-- ---- catch ups

acknowledges : (g : Geometry) (number : ℕ) (kept : Kept) → ListsOnly IsSilent (Acknowledges g number kept)
acknowledges g number kept = only-then IsSilent (Ack Seen) g (λ reply. Ends (record kept { acked = Some number })) tt (λ reply. only-ends IsSilent (record kept { acked = Some number }))

peeks : (g : Geometry) (number from : ℕ) (kept : Kept) → ListsOnly IsSilent (PeeksFrom g number from kept)
peeks g number from kept =
    only-each IsSilent (PeeksAt g) (range_with_len from (length g.vpages - from)) (Acknowledges g number)
    (λ page kept next rest. only-either IsSilent (is_some (entry_of kept page)) (Follows (IsAct (Peek page) g) (λ reply. next (peeked_with page (told_word reply) kept))) (next kept)
    (only-then IsSilent (Peek page) g (λ reply. next (peeked_with page (told_word reply) kept)) tt (λ reply. rest (peeked_with page (told_word reply) kept))) (rest kept))
    (acknowledges g number) kept

pub catches-silent : (g : Geometry) (kept : Kept) → ListsOnly IsSilent (CatchesUp g kept)
catches-silent g kept =
    only-then IsSilent Poll g (λ reply. Either (is_news kept.acked (told_word reply)) (PeeksFrom g (told_word reply) 0 kept) (Ends kept)) tt
    (λ reply. only-either IsSilent (is_news kept.acked (told_word reply)) (PeeksFrom g (told_word reply) 0 kept) (Ends kept) (peeks g (told_word reply) 0 kept) (only-ends IsSilent kept))

-- ---- an access

-- an access counts, from what is held on, what its outcome holds
abbrev pub AccessCounts : {X : Type 0} → (X → List FaultEnd) → Carried X → (Turns → Accessed X → Type 0) → Type 0
AccessCounts counted held pattern = TurnsCount counted held.ends (λ end. end.held.ends) pattern

pub touch-is : (made : AccessMade) (touch : Touch) → IsSilent (touch_action made touch)
touch-is made touches.Load = tt
touch-is made (touches.Store x) = tt
touch-is made (touches.Add x) = tt

pub touched : {X : Type 0} (c : X → List FaultEnd) (g : Geometry) (made : AccessMade) (held : Carried X) → AccessCounts c held (Touches g made held)
touched {X} c g made held =
    turn-then c held.ends (λ (end : Accessed X). end.held.ends) g (touch_action made made.touch) (λ heard. Ends (record { held = held; word = word_heard heard })) (touch-is made made.touch)
    (λ heard. turn-ends c held.ends (λ (end : Accessed X). end.held.ends) (record { held = held; word = word_heard heard }) refl)

pub after-put : {X : Type 0} (c : X → List FaultEnd) (g : Geometry) (made : AccessMade) (held : Carried X) (heard : Heard) → AccessCounts c held (AfterPut g made held heard)
after-put {X} c g made held PutFull = turn-then c held.ends (λ (end : Accessed X). end.held.ends) g (Mark made.page 1 0) (λ unmarked. Touches g made held) tt (λ unmarked. touched c g made held)
after-put c g made held Start = touched c g made held
after-put c g made held (Answer reply) = touched c g made held
after-put c g made held PutDone = touched c g made held
after-put c g made held (Took page) = touched c g made held
after-put c g made held TookNone = touched c g made held

pub after-mark : {X : Type 0} (c : X → List FaultEnd) (g : Geometry) (made : AccessMade) (held : Carried X) (heard : Heard) → AccessCounts c held (AfterMark g made held heard)
after-mark {X} c g made held heard =
    let now : Accessed X → List X = λ end. end.held.ends in
    turn-either c held.ends now (is_done (heard_reply heard)) (Follows (Hears g (Put Candidates made.page)) (AfterPut g made held)) (Touches g made held)
    (turn-follows c held.ends (λ (heard : Heard). held.ends) now (Hears g (Put Candidates made.page)) (AfterPut g made held) (turn-puts c held.ends g Candidates made.page) (after-put c g made held)) (touched c g made held)

marks : {X : Type 0} (c : X → List FaultEnd) (g : Geometry) (made : AccessMade) (word : ℕ) (hinted : Bool) (held : Carried X) → AccessCounts c held (MarksCandidate g made word hinted held)
marks {X} c g made word hinted held =
    let now : Accessed X → List X = λ end. end.held.ends in
    turn-either c held.ends now (is_marked g hinted word) (Follows (Hears g (Do (Mark made.page 0 1))) (AfterMark g made held)) (Touches g made held)
    (turn-then c held.ends now g (Mark made.page 0 1) (AfterMark g made held) tt (after-mark c g made held)) (touched c g made held)

-- so does what comes after a try
abbrev pub AgainCounts : {X : Type 0} → (X → List FaultEnd) → (Carried X → Bool → Turns → Accessed X → Type 0) → Type 0
AgainCounts {X} counted again = (held : Carried X) (hinted : Bool) → AccessCounts counted held (again held hinted)

pub after-walk : {X : Type 0} (c : X → List FaultEnd) (g : Geometry) (made : AccessMade) (stamp word : ℕ) (again : Carried X → Bool → Turns → Accessed X → Type 0) (held : Carried X) (hinted : Bool) (heard : Heard) → AgainCounts c again → AccessCounts c held (AfterWalk g made stamp word again held hinted heard)
after-walk {X} c g made stamp word again held hinted heard rest =
    let now : Accessed X → List X = λ end. end.held.ends in
    turn-either c held.ends now (is_done (heard_reply heard)) (MarksCandidate g made word hinted (held_walked made word stamp held)) (again held hinted) (marks c g made word hinted (held_walked made word stamp held)) (rest held hinted)

pub tries : {X : Type 0} (c : X → List FaultEnd) (g : Geometry) (made : AccessMade) (again : Carried X → Bool → Turns → Accessed X → Type 0) → AgainCounts c again → AgainCounts c (Tries g made again)
tries {X} c g made again rest held hinted =
    let now : Accessed X → List X = λ end. end.held.ends in
    turn-follows c held.ends (λ (kept : Kept). held.ends) now (Acts (CatchesUp g held.kept)) (λ kept. Either (serves made.touch (entry_of kept made.vpage)) (Touches g made (held_caught kept held)) (again (held_caught kept held) hinted)) (turn-acts c held.ends (CatchesUp g held.kept) (catches-silent g held.kept))
    (λ kept. turn-either c held.ends now (serves made.touch (entry_of kept made.vpage)) (Touches g made (held_caught kept held)) (again (held_caught kept held) hinted) (touched c g made (held_caught kept held)) (rest (held_caught kept held) hinted))

pub faulted : {M X : Type 0} (c : X → List FaultEnd) (kinds : FaultKinds M X) (g : Geometry) (made : AccessMade) (again : Carried X → Bool → Turns → Accessed X → Type 0) (fault : M) (held : Carried X) (hinted : Bool) → AreFaultsCounted kinds.shape c → AgainCounts c again → AccessCounts c held (Faults kinds g made again fault held hinted)
faulted {M} {X} c kinds g made again fault held hinted law rest =
    let now : Accessed X → List X = λ end. end.held.ends in
    turn-follows c held.ends (λ (end : X × Kept). held.ends ++ end.0 ∷ []) now (Acts (WeavesPart (CatchesUp g) kinds.waits (kinds.shape fault g) held.kept)) (λ end. Tries g made again (held_faulted end held) hinted)
    (turn-weaves c held.ends (CatchesUp g) (catches-silent g) kinds.waits (kinds.shape fault g) held.kept (λ h m own end d. law h m fault g own end d))
    (λ end. tries c g made again rest (held_faulted end held) hinted)

pub after-look : {M X : Type 0} (c : X → List FaultEnd) (kinds : FaultKinds M X) (g : Geometry) (made : AccessMade) (stamp : ℕ) (again : Carried X → Bool → Turns → Accessed X → Type 0) (held : Carried X) (hinted : Bool) (word : ℕ) → AreFaultsCounted kinds.shape c → AgainCounts c again → AccessCounts c held (AfterLook kinds g made stamp again held hinted word)
after-look {M} {X} c kinds g made stamp again held hinted word law rest =
    let now : Accessed X → List X = λ end. end.held.ends in
    let walks = Follows (Hears g (Do (Walk made.vpage word (is_write made.touch)))) (AfterWalk g made stamp word again held hinted) in
    let shadowed = Either (is_write made.touch && not (is_writable word)) (Faults kinds g made again (kinds.shadowed g made.vpage) held hinted) walks in
    let softens = Follows (Hears g (Do (Soften made.vpage Hint))) (λ softened. again held true) in
    turn-either c held.ends now (word == 0) (Faults kinds g made again (kinds.missing g made.vpage) held hinted) (Either (has_hint word) softens shadowed)
    (faulted c kinds g made again (kinds.missing g made.vpage) held hinted law rest)
    (turn-either c held.ends now (has_hint word) softens shadowed
    (turn-then c held.ends now g (Soften made.vpage Hint) (λ softened. again held true) tt (λ softened. rest held true))
    (turn-either c held.ends now (is_write made.touch && not (is_writable word)) (Faults kinds g made again (kinds.shadowed g made.vpage) held hinted) walks
    (faulted c kinds g made again (kinds.shadowed g made.vpage) held hinted law rest)
    (turn-then c held.ends now g (Walk made.vpage word (is_write made.touch)) (AfterWalk g made stamp word again held hinted) tt (λ heard. after-walk c g made stamp word again held hinted heard rest))))

pub translates : {M X : Type 0} (c : X → List FaultEnd) (kinds : FaultKinds M X) (g : Geometry) (made : AccessMade) → AreFaultsCounted kinds.shape c → (n : ℕ) → AgainCounts c (Translates kinds g made n)
translates c kinds g made law zero held hinted = λ h m turns outcome d. absurd d
translates {M} {X} c kinds g made law (suc n) held hinted =
    let now : Accessed X → List X = λ end. end.held.ends in
    turn-then c held.ends now g (Peek made.vpage) (λ peek. Follows (Hears g (Do (Look made.vpage))) (λ look. AfterLook kinds g made (word_heard peek) (Translates kinds g made n) held hinted (word_heard look))) tt (λ peek.
    turn-then c held.ends now g (Look made.vpage) (λ look. AfterLook kinds g made (word_heard peek) (Translates kinds g made n) held hinted (word_heard look)) tt (λ look.
    after-look c kinds g made (word_heard peek) (Translates kinds g made n) held hinted (word_heard look) law (translates c kinds g made law n)))

pub whole-access : {M X : Type 0} (c : X → List FaultEnd) (kinds : FaultKinds M X) (g : Geometry) (made : AccessMade) (held : Carried X) → AreFaultsCounted kinds.shape c → AccessCounts c held (IsWholeAccess kinds g made held)
whole-access {M} {X} c kinds g made held law =
    turn-sometimes c held.ends (λ (end : Accessed X). end.held.ends) (λ n. Tries g made (Translates kinds g made n) held false) (λ n. tries c g made (Translates kinds g made n) (translates c kinds g made law n) held false)

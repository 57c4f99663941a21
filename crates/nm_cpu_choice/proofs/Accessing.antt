-- The accesses of a processor leave no choice. Each lemma is of two patterns, which may be tried a different number of times.
use Rattle.std.proofs.Common.{ℕ, zero, suc, ◌-◌, ◌==◌, ◌&&◌, not, Bool, true, false, is_some, length, Some}
use Rattle.std.specs.List.{range_with_len}
use Rattle.nm_base.specs.Geometry.{Geometry}
use Rattle.nm_base.specs.PageWord.{has_hint, is_writable}
use Rattle.nm_action.specs.declared.action.AckTo.TheVariants.{Seen}
use Rattle.nm_action.specs.declared.action.Action.TheVariants.{Poll, Peek, Ack, Look, Walk, Soften, Mark}
use Rattle.nm_action.specs.declared.action.Bit.TheVariants.{Hint}
use Rattle.nm_action.specs.declared.turn.Heard.{Heard}
use Rattle.nm_action.specs.declared.turn.Heard.TheVariants.{Start, Answer, PutDone, PutFull, Took, TookNone}
use Rattle.nm_action.specs.declared.turn.Lane.TheVariants.{Candidates}
use Rattle.nm_action.specs.declared.turn.Turn.TheVariants.{Do, Put}
use Rattle.nm_part.specs.Patterns.{Ends, Follows, Either}
use Rattle.nm_compose.specs.Acts.{IsAct}
use Rattle.nm_actor.specs.Turns.{Turns}
use Rattle.nm_desk.specs.Woven.{WeavesPart}
use Rattle.nm_catchup.specs.CatchUp.{Kept, entry_of, peeked_with, told_word, is_news, PeeksAt, Acknowledges, PeeksFrom, CatchesUp}
use Rattle.nm_access.specs.declared.made.AccessMade.{AccessMade}
use Rattle.nm_access.specs.Turning.{Hears, Acts, heard_reply, word_heard, is_done}
use Rattle.nm_access.specs.Faults.{FaultKinds}
use Rattle.nm_access.specs.Accesses.{Carried, Accessed, is_write, touch_action, serves, held_walked, held_faulted, held_caught, Touches, AfterPut, AfterMark, is_marked, MarksCandidate, AfterWalk, Tries, Faults, AfterLook, Translates, IsWholeAccess}
use Rattle.nm_choice.specs.Deterministic.{AreRepliesApart, AreAnswersApart, AgreeUpToAnswers, IsDeterministicPart, IsDeterministicActor}
use Rattle.nm_choice.proofs.Patterns.{one-ends, one-either, one-each, agree-follows, agree-either, one-sometimes}
use Rattle.nm_choice.proofs.Acts.{one-then}
use Rattle.nm_cpu_choice.proofs.Turning.{hears-then, acts-one}
use Rattle.nm_cpu_choice.proofs.Weaving.{woven-one}

-- the faults leave no choice
abbrev pub FaultsOne : {M X : Type 0} → FaultKinds M X → Type 0
FaultsOne {M} {X} kinds = (fault : M) (g : Geometry) → IsDeterministicPart (kinds.shape fault g)

-- ---- catch ups

acknowledges : (g : Geometry) (number : ℕ) (kept : Kept) → IsDeterministicPart (Acknowledges g number kept)
acknowledges g number kept = one-then (Ack Seen) g (λ reply. Ends (record kept { acked = Some number })) (λ reply. one-ends AreRepliesApart (record kept { acked = Some number }))

peeks : (g : Geometry) (number from : ℕ) (kept : Kept) → IsDeterministicPart (PeeksFrom g number from kept)
peeks g number from kept =
    one-each AreRepliesApart (PeeksAt g) (range_with_len from (length g.vpages - from)) (Acknowledges g number)
    (λ page kept next rest. one-either AreRepliesApart (is_some (entry_of kept page)) (Follows (IsAct (Peek page) g) (λ reply. next (peeked_with page (told_word reply) kept))) (next kept)
    (one-then (Peek page) g (λ reply. next (peeked_with page (told_word reply) kept)) (λ reply. rest (peeked_with page (told_word reply) kept))) (rest kept))
    (acknowledges g number) kept

catches : (g : Geometry) (kept : Kept) → IsDeterministicPart (CatchesUp g kept)
catches g kept =
    one-then Poll g (λ reply. Either (is_news kept.acked (told_word reply)) (PeeksFrom g (told_word reply) 0 kept) (Ends kept))
    (λ reply. one-either AreRepliesApart (is_news kept.acked (told_word reply)) (PeeksFrom g (told_word reply) 0 kept) (Ends kept) (peeks g (told_word reply) 0 kept) (one-ends AreRepliesApart kept))

pub catches-turns : (g : Geometry) (kept : Kept) → IsDeterministicActor (Acts (CatchesUp g kept))
catches-turns g kept = acts-one (CatchesUp g kept) (catches g kept)

-- ---- an access

touched : {X : Type 0} (g : Geometry) (made : AccessMade) (held : Carried X) → IsDeterministicActor (Touches g made held)
touched {X} g made held =
    hears-then g (Do (touch_action made made.touch)) (λ heard. Ends (record { held = held; word = word_heard heard })) (λ heard. Ends (record { held = held; word = word_heard heard })) (λ heard. one-ends AreAnswersApart (record { held = held; word = word_heard heard }))

after-put : {X : Type 0} (g : Geometry) (made : AccessMade) (held : Carried X) (heard : Heard) → IsDeterministicActor (AfterPut g made held heard)
after-put g made held PutFull = hears-then g (Do (Mark made.page 1 0)) (λ unmarked. Touches g made held) (λ unmarked. Touches g made held) (λ unmarked. touched g made held)
after-put g made held Start = touched g made held
after-put g made held (Answer reply) = touched g made held
after-put g made held PutDone = touched g made held
after-put g made held (Took page) = touched g made held
after-put g made held TookNone = touched g made held

after-mark : {X : Type 0} (g : Geometry) (made : AccessMade) (held : Carried X) (heard : Heard) → IsDeterministicActor (AfterMark g made held heard)
after-mark g made held heard =
    one-either AreAnswersApart (is_done (heard_reply heard)) (Follows (Hears g (Put Candidates made.page)) (AfterPut g made held)) (Touches g made held)
    (hears-then g (Put Candidates made.page) (AfterPut g made held) (AfterPut g made held) (after-put g made held)) (touched g made held)

marks : {X : Type 0} (g : Geometry) (made : AccessMade) (word : ℕ) (hinted : Bool) (held : Carried X) → IsDeterministicActor (MarksCandidate g made word hinted held)
marks g made word hinted held =
    one-either AreAnswersApart (is_marked g hinted word) (Follows (Hears g (Do (Mark made.page 0 1))) (AfterMark g made held)) (Touches g made held)
    (hears-then g (Do (Mark made.page 0 1)) (AfterMark g made held) (AfterMark g made held) (after-mark g made held)) (touched g made held)

-- what comes after a try
abbrev Again : Type 0 → Type 1
Again X = Carried X → Bool → Turns → Accessed X → Type 0

abbrev AgainAgree : {X : Type 0} → Again X → Again X → Type 0
AgainAgree {X} again retry = (held : Carried X) (hinted : Bool) → AgreeUpToAnswers AreAnswersApart (again held hinted) (retry held hinted)

after-walk : {X : Type 0} (g : Geometry) (made : AccessMade) (stamp word : ℕ) (again retry : Again X) (held : Carried X) (hinted : Bool) (heard : Heard) → AgainAgree again retry → AgreeUpToAnswers AreAnswersApart (AfterWalk g made stamp word again held hinted heard) (AfterWalk g made stamp word retry held hinted heard)
after-walk g made stamp word again retry held hinted heard rest =
    agree-either AreAnswersApart (is_done (heard_reply heard)) (MarksCandidate g made word hinted (held_walked made word stamp held)) (MarksCandidate g made word hinted (held_walked made word stamp held)) (again held hinted) (retry held hinted)
    (marks g made word hinted (held_walked made word stamp held)) (rest held hinted)

tries : {X : Type 0} (g : Geometry) (made : AccessMade) (again retry : Again X) → AgainAgree again retry → AgainAgree (Tries g made again) (Tries g made retry)
tries g made again retry rest held hinted =
    agree-follows AreAnswersApart (Acts (CatchesUp g held.kept)) (Acts (CatchesUp g held.kept))
    (λ kept. Either (serves made.touch (entry_of kept made.vpage)) (Touches g made (held_caught kept held)) (again (held_caught kept held) hinted))
    (λ kept. Either (serves made.touch (entry_of kept made.vpage)) (Touches g made (held_caught kept held)) (retry (held_caught kept held) hinted)) (catches-turns g held.kept)
    (λ kept. agree-either AreAnswersApart (serves made.touch (entry_of kept made.vpage)) (Touches g made (held_caught kept held)) (Touches g made (held_caught kept held)) (again (held_caught kept held) hinted) (retry (held_caught kept held) hinted)
    (touched g made (held_caught kept held)) (rest (held_caught kept held) hinted))

faulted : {M X : Type 0} (kinds : FaultKinds M X) (g : Geometry) (made : AccessMade) (again retry : Again X) (fault : M) (held : Carried X) (hinted : Bool) → FaultsOne kinds → AgainAgree again retry
    → AgreeUpToAnswers AreAnswersApart (Faults kinds g made again fault held hinted) (Faults kinds g made retry fault held hinted)
faulted kinds g made again retry fault held hinted faults rest =
    agree-follows AreAnswersApart (Acts (WeavesPart (CatchesUp g) kinds.waits (kinds.shape fault g) held.kept)) (Acts (WeavesPart (CatchesUp g) kinds.waits (kinds.shape fault g) held.kept))
    (λ end. Tries g made again (held_faulted end held) hinted) (λ end. Tries g made retry (held_faulted end held) hinted)
    (acts-one (WeavesPart (CatchesUp g) kinds.waits (kinds.shape fault g) held.kept) (woven-one (CatchesUp g) (catches g) kinds.waits (kinds.shape fault g) (faults fault g) held.kept))
    (λ end. tries g made again retry rest (held_faulted end held) hinted)

abbrev Walks : {X : Type 0} → Geometry → AccessMade → ℕ → Again X → Carried X → Bool → ℕ → Turns → Accessed X → Type 0
Walks g made stamp again held hinted word = Follows (Hears g (Do (Walk made.vpage word (is_write made.touch)))) (AfterWalk g made stamp word again held hinted)

abbrev Shadowed : {M X : Type 0} → FaultKinds M X → Geometry → AccessMade → ℕ → Again X → Carried X → Bool → ℕ → Turns → Accessed X → Type 0
Shadowed kinds g made stamp again held hinted word = Either (is_write made.touch && not (is_writable word)) (Faults kinds g made again (kinds.shadowed g made.vpage) held hinted) (Walks g made stamp again held hinted word)

abbrev Softens : {X : Type 0} → Geometry → AccessMade → Again X → Carried X → Turns → Accessed X → Type 0
Softens g made again held = Follows (Hears g (Do (Soften made.vpage Hint))) (λ softened. again held true)

shadowed_one : {M X : Type 0} (kinds : FaultKinds M X) (g : Geometry) (made : AccessMade) (stamp : ℕ) (again retry : Again X) (held : Carried X) (hinted : Bool) (word : ℕ) → FaultsOne kinds → AgainAgree again retry
    → AgreeUpToAnswers AreAnswersApart (Shadowed kinds g made stamp again held hinted word) (Shadowed kinds g made stamp retry held hinted word)
shadowed_one kinds g made stamp again retry held hinted word faults rest =
    agree-either AreAnswersApart (is_write made.touch && not (is_writable word)) (Faults kinds g made again (kinds.shadowed g made.vpage) held hinted) (Faults kinds g made retry (kinds.shadowed g made.vpage) held hinted)
    (Walks g made stamp again held hinted word) (Walks g made stamp retry held hinted word)
    (faulted kinds g made again retry (kinds.shadowed g made.vpage) held hinted faults rest)
    (hears-then g (Do (Walk made.vpage word (is_write made.touch))) (AfterWalk g made stamp word again held hinted) (AfterWalk g made stamp word retry held hinted) (λ heard. after-walk g made stamp word again retry held hinted heard rest))

after-look : {M X : Type 0} (kinds : FaultKinds M X) (g : Geometry) (made : AccessMade) (stamp : ℕ) (again retry : Again X) (held : Carried X) (hinted : Bool) (word : ℕ) → FaultsOne kinds → AgainAgree again retry
    → AgreeUpToAnswers AreAnswersApart (AfterLook kinds g made stamp again held hinted word) (AfterLook kinds g made stamp retry held hinted word)
after-look kinds g made stamp again retry held hinted word faults rest =
    agree-either AreAnswersApart (word == 0) (Faults kinds g made again (kinds.missing g made.vpage) held hinted) (Faults kinds g made retry (kinds.missing g made.vpage) held hinted)
    (Either (has_hint word) (Softens g made again held) (Shadowed kinds g made stamp again held hinted word)) (Either (has_hint word) (Softens g made retry held) (Shadowed kinds g made stamp retry held hinted word))
    (faulted kinds g made again retry (kinds.missing g made.vpage) held hinted faults rest)
    (agree-either AreAnswersApart (has_hint word) (Softens g made again held) (Softens g made retry held) (Shadowed kinds g made stamp again held hinted word) (Shadowed kinds g made stamp retry held hinted word)
    (hears-then g (Do (Soften made.vpage Hint)) (λ softened. again held true) (λ softened. retry held true) (λ softened. rest held true))
    (shadowed_one kinds g made stamp again retry held hinted word faults rest))

translates : {M X : Type 0} (kinds : FaultKinds M X) (g : Geometry) (made : AccessMade) → FaultsOne kinds → (n m : ℕ) → AgainAgree (Translates kinds g made n) (Translates kinds g made m)
translates kinds g made faults zero m held hinted = λ turns others outcome end h k. absurd h
translates kinds g made faults (suc n) zero held hinted = λ turns others outcome end h k. absurd k
translates kinds g made faults (suc n) (suc m) held hinted =
    hears-then g (Do (Peek made.vpage)) (λ peek. Follows (Hears g (Do (Look made.vpage))) (λ look. AfterLook kinds g made (word_heard peek) (Translates kinds g made n) held hinted (word_heard look)))
    (λ peek. Follows (Hears g (Do (Look made.vpage))) (λ look. AfterLook kinds g made (word_heard peek) (Translates kinds g made m) held hinted (word_heard look))) (λ peek.
    hears-then g (Do (Look made.vpage)) (λ look. AfterLook kinds g made (word_heard peek) (Translates kinds g made n) held hinted (word_heard look)) (λ look. AfterLook kinds g made (word_heard peek) (Translates kinds g made m) held hinted (word_heard look)) (λ look.
    after-look kinds g made (word_heard peek) (Translates kinds g made n) (Translates kinds g made m) held hinted (word_heard look) faults (translates kinds g made faults n m)))

pub whole-access : {M X : Type 0} (kinds : FaultKinds M X) (g : Geometry) (made : AccessMade) (held : Carried X) → FaultsOne kinds → IsDeterministicActor (IsWholeAccess kinds g made held)
whole-access kinds g made held faults =
    one-sometimes AreAnswersApart (λ n. Tries g made (Translates kinds g made n) held false) (λ n m. tries g made (Translates kinds g made n) (Translates kinds g made m) (translates kinds g made faults n m) held false)

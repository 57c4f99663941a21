-- Each pattern of an access has a list.
use Rattle.std.proofs.Common.{◌≡◌, ℕ, ◌∷◌, [], ◌&&◌, not, Bool, false, refl, subst, sym}
use Rattle.nm_base.specs.Geometry.{Geometry}
use Rattle.nm_base.specs.PageWord.{is_writable}
use Rattle.nm_action.specs.declared.action.Action.TheVariants.{Look, Walk, Peek, Mark}
use Rattle.nm_action.specs.declared.action.Reply.TheVariants.{Done, Word, Lost}
use Rattle.nm_action.specs.declared.turn.Turn.{Turn}
use Rattle.nm_action.specs.declared.turn.Turn.TheVariants.{Do}
use Rattle.nm_action.specs.declared.turn.Heard.{Heard}
use Rattle.nm_action.specs.declared.turn.Heard.TheVariants.{Answer, PutDone}
use Rattle.nm_action.specs.Own.{Own}
use Rattle.nm_part.specs.Patterns.{Follows, Either, CanEnd}
use Rattle.nm_part.proofs.Patterns.{can-ends, can-follow, can-either}
use Rattle.nm_actor.specs.Turns.{Turns}
use Rattle.nm_catchup.specs.CatchUp.{entry_of, CatchesUp}
use Rattle.nm_catchup.proofs.Loops.{catches-up-can}
use Rattle.nm_access.specs.declared.made.Touch.{Touch}
use Rattle.nm_access.specs.declared.made.Touch.TheVariants as touches
use Rattle.nm_access.specs.declared.made.AccessMade.{AccessMade}
use Rattle.nm_access.specs.Turning.{IsHeardOf, Hears, Acts, action_turns, word_heard}
use Rattle.nm_access.specs.Faults.{FaultKinds}
use Rattle.nm_access.specs.Accesses.{Carried, Accessed, is_write, touch_action, serves, is_marked, held_walked, held_caught, Touches, AfterPut, AfterMark, MarksCandidate, AfterWalk, Tries, Faults, AfterLook, Translates}

-- a turn and something of its kind
abbrev pub some-heard : (g : Geometry) (turn : Turn) (heard : Heard) → IsHeardOf g turn heard → CanEnd (Hears g turn)
some-heard g turn heard kind = record { rest = (turn, heard) ∷ []; outcome = heard; shown = record { is = refl; kind = kind } }

pub some-acts : {O : Type 0} (pattern : Own → O → Type 0) → CanEnd pattern → CanEnd (Acts pattern)
some-acts pattern can = record { rest = action_turns can.rest; outcome = can.outcome; shown = record { own = can.rest; is = refl; shown = can.shown } }

pub touch-heard : (g : Geometry) (made : AccessMade) (touch : Touch) → IsHeardOf g (Do (touch_action made touch)) (Answer (Word 0))
touch-heard g made touches.Load = λ view. tt
touch-heard g made (touches.Store x) = λ view. tt
touch-heard g made (touches.Add x) = λ view. tt

pub touches-can : {X : Type 0} (g : Geometry) (made : AccessMade) (held : Carried X) → CanEnd (Touches g made held)
touches-can g made held = can-follow _ _ (some-heard g (Do (touch_action made made.touch)) (Answer (Word 0)) (touch-heard g made made.touch)) (can-ends (record { held = held; word = 0 }))

pub put-can : {X : Type 0} (g : Geometry) (made : AccessMade) (held : Carried X) → CanEnd (AfterPut g made held PutDone)
put-can g made held = touches-can g made held

pub mark-can : {X : Type 0} (g : Geometry) (made : AccessMade) (held : Carried X) → CanEnd (AfterMark g made held (Answer (Lost 0)))
mark-can g made held = touches-can g made held

pub marks-can : {X : Type 0} (g : Geometry) (made : AccessMade) (word : ℕ) (hinted : Bool) (held : Carried X) → CanEnd (MarksCandidate g made word hinted held)
marks-can g made word hinted held = can-either (is_marked g hinted word) (Follows (Hears g (Do (Mark made.page 0 1))) (AfterMark g made held)) (Touches g made held)
    (can-follow (Hears g (Do (Mark made.page 0 1))) (AfterMark g made held) (some-heard g (Do (Mark made.page 0 1)) (Answer (Lost 0)) (λ view. tt)) (mark-can g made held)) (touches-can g made held)

pub walk-can : {X : Type 0} (g : Geometry) (made : AccessMade) (stamp word : ℕ) (again : Carried X → Bool → Turns → Accessed X → Type 0) (held : Carried X) (hinted : Bool) → CanEnd (AfterWalk g made stamp word again held hinted (Answer Done))
walk-can g made stamp word again held hinted = marks-can g made word hinted (held_walked made word stamp held)

-- a word that is present and writable, and has no hint

abbrev pub plain : ℕ
plain = 5

write-plain : (touch : Touch) → (is_write touch && not (is_writable plain)) ≡ false
write-plain touches.Load = refl
write-plain (touches.Store x) = refl
write-plain (touches.Add x) = refl

pub look-can : {M X : Type 0} (kinds : FaultKinds M X) (g : Geometry) (made : AccessMade) (stamp : ℕ) (again : Carried X → Bool → Turns → Accessed X → Type 0) (held : Carried X) (hinted : Bool) → CanEnd (AfterLook kinds g made stamp again held hinted plain)
look-can {M} {X} kinds g made stamp again held hinted =
    let walks : Turns → Accessed X → Type 0 = Follows (Hears g (Do (Walk made.vpage plain (is_write made.touch)))) (AfterWalk g made stamp plain again held hinted) in
    let can : CanEnd walks = can-follow (Hears g (Do (Walk made.vpage plain (is_write made.touch)))) (AfterWalk g made stamp plain again held hinted) (some-heard g (Do (Walk made.vpage plain (is_write made.touch))) (Answer Done) (λ view. tt)) (walk-can g made stamp plain again held hinted) in
    subst (λ (test : Bool). CanEnd (Either test (Faults kinds g made again (kinds.shadowed g made.vpage) held hinted) walks)) (sym (write-plain made.touch)) can

pub translates-can : {M X : Type 0} (kinds : FaultKinds M X) (g : Geometry) (made : AccessMade) (held : Carried X) (hinted : Bool) → CanEnd (Translates kinds g made 1 held hinted)
translates-can {M} {X} kinds g made held hinted =
    let again : Carried X → Bool → Turns → Accessed X → Type 0 = Translates kinds g made 0 in
    let can = can-follow (Hears g (Do (Peek made.vpage))) (λ peek. Follows (Hears g (Do (Look made.vpage))) (λ look. AfterLook kinds g made (word_heard peek) again held hinted (word_heard look)))
    (some-heard g (Do (Peek made.vpage)) (Answer (Word 0)) (λ view. tt))
    (can-follow (Hears g (Do (Look made.vpage))) (λ look. AfterLook kinds g made 0 again held hinted (word_heard look)) (some-heard g (Do (Look made.vpage)) (Answer (Word plain)) (λ view. tt)) (look-can kinds g made 0 again held hinted)) in
    record { rest = can.rest; outcome = can.outcome; shown = can.shown }

pub tries-can : {M X : Type 0} (kinds : FaultKinds M X) (g : Geometry) (made : AccessMade) (held : Carried X) (hinted : Bool) → CanEnd (Tries g made (Translates kinds g made 1) held hinted)
tries-can kinds g made held hinted =
    let caught = some-acts (CatchesUp g held.kept) (catches-up-can g held.kept) in
    can-follow (Acts (CatchesUp g held.kept)) _ caught
    (can-either (serves made.touch (entry_of caught.outcome made.vpage)) (Touches g made (held_caught caught.outcome held)) (Translates kinds g made 1 (held_caught caught.outcome held) hinted)
    (touches-can g made (held_caught caught.outcome held)) (translates-can kinds g made (held_caught caught.outcome held) hinted))

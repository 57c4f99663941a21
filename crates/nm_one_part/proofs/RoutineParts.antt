-- Two parts in runs of one actor that follows a routine which leaves no choice.
use Rattle.std.proofs.Common.{◌≡◌, Bool, true, false, [], ◌∷◌, ◌++◌, refl, sym, ap, subst, ◌∙◌, append_assoc}
use Rattle.std.proofs.lemmas.List.{append-nil}
use Rattle.nm_action.specs.declared.tally.Tally.{Tally}
use Rattle.nm_action.specs.declared.turn.Turn.{Turn}
use Rattle.nm_action.specs.declared.turn.Heard.{Heard}
use Rattle.nm_part.specs.Patterns.{CanEnd}
use Rattle.nm_actor.specs.Turns.{Turns}
use Rattle.nm_worker.specs.Notes.{Notes, noted_turns}
use Rattle.nm_worker.proofs.NoteLists.{turns-append}
use Rattle.nm_routine_part.specs.Parts.{IsCarriedOn, HasOutcome, HasMore, counts_of, IsRoutinePart}
use Rattle.nm_note_choice.specs.NotesApart.{IsDeterministicRoutine}
use Rattle.nm_actor_choice.proofs.Beginnings.{routine-next, routine-ends, routine-notes}

-- the notes begin a whole sequence
begins : {O : Type 0} (whole : Notes → O → Type 0) (ended : Bool) (notes : Notes) → IsCarriedOn whole ended notes → CanEnd (λ rest outcome. whole (notes ++ rest) outcome)
begins whole true notes h =
    let W : Notes → Type 0 = λ l. whole l h.outcome in
    record { rest = []; outcome = h.outcome; shown = subst W (sym (append-nil notes)) h.shown }
begins whole false notes h = record { rest = h.next ∷ h.rest; outcome = h.outcome; shown = h.shown }

-- after the same answered turns it gives the same turn
pub part-next : {O : Type 0} (whole : Notes → O → Type 0) (front rest more : Turns) (t u : Turn × Heard) (ended over : Bool) (tally other : Tally) → IsDeterministicRoutine whole
    → IsRoutinePart whole (front ++ t ∷ rest) ended tally → IsRoutinePart whole (front ++ u ∷ more) over other → t.0 ≡ u.0
part-next whole front rest more t u ended over tally other law h k =
    let a = begins whole ended h.notes h.carried in
    let b = begins whole over k.notes k.carried in
    routine-next whole h.notes k.notes a.rest b.rest front rest more t u a.outcome b.outcome law a.shown b.shown (sym h.is) (sym k.is)

-- nothing stands behind its end
pub part-ends : {O : Type 0} (whole : Notes → O → Type 0) (turns more : Turns) (t : Turn × Heard) (ended : Bool) (tally other : Tally) → IsDeterministicRoutine whole
    → IsRoutinePart whole turns true tally → IsRoutinePart whole (turns ++ t ∷ more) ended other → ⊥
part-ends whole turns more t ended tally other law h k =
    let b = begins whole ended k.notes k.carried in
    let longer : noted_turns (k.notes ++ b.rest) ≡ noted_turns h.notes ++ t ∷ (more ++ noted_turns b.rest) =
    turns-append k.notes b.rest ∙ ap (λ (l : Turns). l ++ noted_turns b.rest) (sym k.is) ∙ append_assoc turns (t ∷ more) (noted_turns b.rest) ∙ ap (λ (l : Turns). l ++ t ∷ (more ++ noted_turns b.rest)) h.is in
    routine-ends whole h.notes (k.notes ++ b.rest) (more ++ noted_turns b.rest) t h.carried.outcome b.outcome law h.carried.shown b.shown longer

-- a whole sequence is no beginning of a longer one
not-more : {O : Type 0} (whole : Notes → O → Type 0) (one other : Notes) → IsDeterministicRoutine whole → noted_turns one ≡ noted_turns other → HasOutcome whole one → HasMore whole other → ⊥
not-more whole one other law same h k =
    let t : Turn × Heard = (k.next.turn, k.next.heard) in
    routine-ends whole one (other ++ k.next ∷ k.rest) (noted_turns k.rest) t h.outcome k.outcome law h.shown k.shown
    (turns-append other (k.next ∷ k.rest) ∙ ap (λ (l : Turns). l ++ t ∷ noted_turns k.rest) (sym same))

same-ended : {O : Type 0} (whole : Notes → O → Type 0) (ended over : Bool) (one other : Notes) → IsDeterministicRoutine whole → noted_turns one ≡ noted_turns other → IsCarriedOn whole ended one → IsCarriedOn whole over other → ended ≡ over
same-ended whole true true one other law same h k = refl
same-ended whole false false one other law same h k = refl
same-ended whole true false one other law same h k = absurd (not-more whole one other law same h k)
same-ended whole false true one other law same h k = absurd (not-more whole other one law (sym same) k h)

-- whether it has ended follows from its turns
pub part-same : {O : Type 0} (whole : Notes → O → Type 0) (turns : Turns) (ended over : Bool) (tally other : Tally) → IsDeterministicRoutine whole
    → IsRoutinePart whole turns ended tally → IsRoutinePart whole turns over other → ended ≡ over
part-same whole turns ended over tally other law h k = same-ended whole ended over h.notes k.notes law (sym h.is ∙ k.is) h.carried k.carried

-- so does what it has counted, whether it has ended or not
pub part-tally : {O : Type 0} (whole : Notes → O → Type 0) (turns : Turns) (ended over : Bool) (tally other : Tally) → IsDeterministicRoutine whole
    → IsRoutinePart whole turns ended tally → IsRoutinePart whole turns over other → tally ≡ other
part-tally whole turns ended over tally other law h k =
    let a = begins whole ended h.notes h.carried in
    let b = begins whole over k.notes k.carried in
    let same : h.notes ≡ k.notes = routine-notes whole h.notes k.notes a.rest b.rest a.outcome b.outcome law a.shown b.shown (sym h.is ∙ k.is) in
    h.counted ∙ ap counts_of same ∙ sym k.counted

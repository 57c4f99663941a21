-- An actor that follows a routine gives a turn before it ends.
use Rattle.std.proofs.Common.{◌≡◌, true, [], ◌∷◌, refl, subst}
use Rattle.nm_action.specs.declared.tally.Tally.{Tally}
use Rattle.nm_worker.specs.Notes.{Notes, noted_turns}
use Rattle.nm_routine_part.specs.Parts.{IsRoutinePart}

notes-none : (notes : Notes) → [] ≡ noted_turns notes → notes ≡ []
notes-none [] is = refl
notes-none (n ∷ notes) is = cc

-- where no whole sequence is empty, no part without turns has ended
pub routine-acts : {O : Type 0} (whole : Notes → O → Type 0) (tally : Tally) → ((outcome : O) → ¬ whole [] outcome) → ¬ IsRoutinePart whole [] true tally
routine-acts whole tally acts h =
    let Whole : Notes → Type 0 = λ l. whole l h.carried.outcome in
    acts h.carried.outcome (subst Whole (notes-none h.notes h.is) h.carried.shown)

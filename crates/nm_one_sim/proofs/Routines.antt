-- An actor that follows a routine which leaves no choice has one part.
use Rattle.std.proofs.Common.{Bool, true, ◌∷◌, ◌++◌}
use Rattle.nm_action.specs.declared.tally.Tally.{Tally}
use Rattle.nm_actor.specs.Turns.{Turns}
use Rattle.nm_worker.specs.Notes.{Notes}
use Rattle.nm_routine_part.specs.Parts.{IsRoutinePart}
use Rattle.nm_note_choice.specs.NotesApart.{IsDeterministicRoutine}
use Rattle.nm_one_part.proofs.RoutineParts.{part-next, part-ends, part-same, part-tally}
use Rattle.nm_one_sim.specs.OnePart.{LeavesOnePart}

pub routine-leaves-one-part : {O : Type 0} (whole : Notes → O → Type 0) → IsDeterministicRoutine whole → LeavesOnePart (IsRoutinePart whole)
routine-leaves-one-part whole law = record {
  next = λ front rest more t u ended over tally other h k. part-next whole front rest more t u ended over tally other law h k;
  ends = λ turns more t ended tally other h k. part-ends whole turns more t ended tally other law h k;
  same = λ turns ended over tally other h k. part-same whole turns ended over tally other law h k;
  counts = λ turns ended over tally other h k. part-tally whole turns ended over tally other law h k;
}

-- where more is said of an actor's part
pub one-part-of : (part whole : Turns → Bool → Tally → Type 0) → ((turns : Turns) (ended : Bool) (tally : Tally) → part turns ended tally → whole turns ended tally) → LeavesOnePart whole → LeavesOnePart part
one-part-of part whole said one = record {
  next = λ front rest more t u ended over tally other h k. one.next front rest more t u ended over tally other (said (front ++ t ∷ rest) ended tally h) (said (front ++ u ∷ more) over other k);
  ends = λ turns more t ended tally other h k. one.ends turns more t ended tally other (said turns true tally h) (said (turns ++ t ∷ more) ended other k);
  same = λ turns ended over tally other h k. one.same turns ended over tally other (said turns ended tally h) (said turns over other k);
  counts = λ turns ended over tally other h k. one.counts turns ended over tally other (said turns ended tally h) (said turns over other k);
}

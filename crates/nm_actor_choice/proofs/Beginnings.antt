-- Beginnings of whole sequences of an actor that has no choice. In all of these the sequences `one` and `other` are whole; a beginning is
-- a list with which a whole one begins.
use Rattle.std.proofs.Common.{◌≡◌, ◌⊎◌, ◌∷◌, ◌++◌, refl, ap, ◌∙◌, append_assoc, inl, inr}
use Rattle.nm_action.specs.declared.turn.Turn.{Turn}
use Rattle.nm_action.specs.declared.turn.Heard.{Heard}
use Rattle.nm_actor.specs.Turns.{Turns}
use Rattle.nm_worker.specs.Notes.{Notes, noted_turns}
use Rattle.nm_worker.proofs.NoteLists.{turns-append}
use Rattle.nm_choice.specs.Deterministic.{Diverge, Coincide, AreAnswersApart, IsDeterministicActor}
use Rattle.nm_note_choice.specs.NotesApart.{IsDeterministicRoutine}
use Rattle.nm_actor_choice.proofs.Turns.{AreAlike, next-alike, none-behind}
use Rattle.nm_actor_choice.proofs.Notes.{turns-alike, beginnings-alike}

-- more behind a beginning with a turn in it
longer : (front rest more : Turns) (t : Turn × Heard) → (front ++ t ∷ rest) ++ more ≡ front ++ t ∷ (rest ++ more)
longer front rest more t = append_assoc front (t ∷ rest) more

-- ---- answered turns

actor-alike : {O : Type 0} (one other : Turns) (outcome end : O) → Diverge AreAnswersApart one other ⊎ Coincide one outcome other end → AreAlike one other
actor-alike one other outcome end (inl d) = inl d
actor-alike one other outcome end (inr same) = inr same.list

-- after the same answered turns the same turn is given
pub actor-next : {O : Type 0} (whole : Turns → O → Type 0) (front rest more behind beyond : Turns) (t u : Turn × Heard) (outcome end : O) → IsDeterministicActor whole
    → whole ((front ++ t ∷ rest) ++ behind) outcome → whole ((front ++ u ∷ more) ++ beyond) end → t.0 ≡ u.0
actor-next whole front rest more behind beyond t u outcome end law one other =
    next-alike front (rest ++ behind) (more ++ beyond) ((front ++ t ∷ rest) ++ behind) ((front ++ u ∷ more) ++ beyond) t u
    (actor-alike ((front ++ t ∷ rest) ++ behind) ((front ++ u ∷ more) ++ beyond) outcome end (law ((front ++ t ∷ rest) ++ behind) ((front ++ u ∷ more) ++ beyond) outcome end one other))
    (longer front rest behind t) (longer front more beyond u)

-- nothing stands behind a whole sequence
pub actor-ends : {O : Type 0} (whole : Turns → O → Type 0) (turns more : Turns) (t : Turn × Heard) (outcome end : O) → IsDeterministicActor whole → whole turns outcome → whole (turns ++ t ∷ more) end → ⊥
actor-ends whole turns more t outcome end law one other =
    none-behind turns (turns ++ t ∷ more) more t (actor-alike turns (turns ++ t ∷ more) outcome end (law turns (turns ++ t ∷ more) outcome end one other)) refl

-- ---- notes

behind-turns : (notes rest : Notes) (front back : Turns) (t : Turn × Heard) → noted_turns notes ≡ front ++ t ∷ back → noted_turns (notes ++ rest) ≡ front ++ t ∷ (back ++ noted_turns rest)
behind-turns notes rest front back t is = turns-append notes rest ∙ ap (λ (l : Turns). l ++ noted_turns rest) is ∙ longer front back (noted_turns rest) t

-- after the same answered turns the same turn is given
pub routine-next : {O : Type 0} (whole : Notes → O → Type 0) (one other behind beyond : Notes) (front rest more : Turns) (t u : Turn × Heard) (outcome end : O) → IsDeterministicRoutine whole
    → whole (one ++ behind) outcome → whole (other ++ beyond) end → noted_turns one ≡ front ++ t ∷ rest → noted_turns other ≡ front ++ u ∷ more → t.0 ≡ u.0
routine-next whole one other behind beyond front rest more t u outcome end law first second is other_is =
    next-alike front (rest ++ noted_turns behind) (more ++ noted_turns beyond) (noted_turns (one ++ behind)) (noted_turns (other ++ beyond)) t u
    (turns-alike (one ++ behind) (other ++ beyond) outcome end (law (one ++ behind) (other ++ beyond) outcome end first second))
    (behind-turns one behind front rest t is) (behind-turns other beyond front more u other_is)

-- nothing stands behind a whole sequence
pub routine-ends : {O : Type 0} (whole : Notes → O → Type 0) (one other : Notes) (more : Turns) (t : Turn × Heard) (outcome end : O) → IsDeterministicRoutine whole
    → whole one outcome → whole other end → noted_turns other ≡ noted_turns one ++ t ∷ more → ⊥
routine-ends whole one other more t outcome end law first second is =
    none-behind (noted_turns one) (noted_turns other) more t (turns-alike one other outcome end (law one other outcome end first second)) is

-- beginnings with the same answered turns have the same notes, with what is counted in them
pub routine-notes : {O : Type 0} (whole : Notes → O → Type 0) (one other behind beyond : Notes) (outcome end : O) → IsDeterministicRoutine whole
    → whole (one ++ behind) outcome → whole (other ++ beyond) end → noted_turns one ≡ noted_turns other → one ≡ other
routine-notes whole one other behind beyond outcome end law first second same =
    beginnings-alike one other behind beyond outcome end (law (one ++ behind) (other ++ beyond) outcome end first second) same

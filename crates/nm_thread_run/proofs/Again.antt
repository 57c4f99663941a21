-- What a migrator did since it was resumed is one whole sequence, at whose end it found both lanes empty.
use Rattle.std.proofs.Common.{◌≡◌, ℕ, ◌+◌, ◌++◌, true, [], ◌∷◌, Option, inl, inr, sym, ap, subst, ◌∙◌}
use Rattle.nm_base.specs.Geometry.{Geometry}
use Rattle.nm_action.specs.declared.tally.Tally.{Tally}
use Rattle.nm_action.specs.declared.turn.Heard.{Heard}
use Rattle.nm_action.specs.declared.turn.Lane.{Lane}
use Rattle.nm_actor.specs.Boards.{BoardState}
use Rattle.nm_actor.specs.Turns.{Turns, IsDrained}
use Rattle.nm_choice.specs.Deterministic.{Diverge}
use Rattle.nm_note_choice.specs.NotesApart.{AreNotesApart}
use Rattle.nm_worker.specs.Notes.{Noted, Notes, noted_turns}
use Rattle.nm_worker.proofs.NoteLists.{turns-append}
use Rattle.nm_migrator_work.specs.Planned.{MigratorKept}
use Rattle.nm_migrator.specs.Migrating.{IsMigrating, IsMigratingBy}
use Rattle.nm_migrator.specs.Parts.{migrator_made, worker_counted, AgreesMigrator, IsMigratorPartBy}
use Rattle.nm_migrator.specs.declared.actor.MigratorActor.{MigratorActor}
use Rattle.nm_migrator_choice.proofs.Migrating.{migrating-one}
use Rattle.nm_migrator_marks.proofs.Draining.{sequence-drained}
use Rattle.nm_thread_crew.specs.Boarded.{HasStoodLast, IsEmptied}

-- ---- lists of turns

abbrev rest_of : Turns → Turns
rest_of [] = []
rest_of (t ∷ turns) = turns

abbrev first_heard : Heard → Turns → Heard
first_heard heard [] = heard
first_heard heard (t ∷ turns) = t.1

same_back : (front a b : Turns) → front ++ a ≡ front ++ b → a ≡ b
same_back [] a b same = same
same_back (t ∷ front) a b same = same_back front a b (ap rest_of same)

-- two lists of notes that begin one list of turns don't hear two things
not_apart : (front : Notes) (here there : Noted) (rest more : Notes) (a b : Turns) → AreNotesApart here there → noted_turns (front ++ here ∷ rest) ++ a ≡ noted_turns (front ++ there ∷ more) ++ b → ⊥
not_apart [] here there rest more a b apart same = apart.differ (ap (first_heard here.heard) same)
not_apart (n ∷ front) here there rest more a b apart same = not_apart front here there rest more a b apart (ap rest_of same)

same_turns : (one other : Notes) (a b : Turns) → Diverge AreNotesApart one other → noted_turns one ++ a ≡ noted_turns other ++ b → ⊥
same_turns one other a b d same =
    let One : Notes → Type 0 = λ l. noted_turns l ++ a ≡ noted_turns other ++ b in
    let Other : Notes → Type 0 = λ l. noted_turns (d.front ++ d.here ∷ d.rest) ++ a ≡ noted_turns l ++ b in
    not_apart d.front d.here d.there d.rest d.more a b d.parts (subst Other d.other_is (subst One d.is same))

-- ---- the second sequence

-- a whole sequence, and two of them that begin with it: what comes behind is whole
second_drained : (g : Geometry) (retry : Option ℕ) (one two : Notes) (kept last : MigratorKept) (since : Turns) → IsMigrating g retry one kept → IsMigratingBy 1 g retry two last
    → noted_turns one ++ since ≡ noted_turns two → (lane : Lane) → IsDrained lane since
second_drained g retry one two kept last since whole both same lane =
    let split : noted_turns one ++ since ≡ noted_turns both.front ++ noted_turns both.back = same ∙ ap noted_turns both.is ∙ turns-append both.front both.back in
    let D : Turns → Type 0 = λ l. IsDrained lane l in
    elim (migrating-one g retry one both.front kept both.end whole both.shown) [
      | inl apart ↦ absurd (same_turns one both.front since (noted_turns both.back) apart split)
      | inr one-list ↦ (
          let Front : Notes → Type 0 = λ l. noted_turns l ++ since ≡ noted_turns both.front ++ noted_turns both.back in
          let back : since ≡ noted_turns both.back = same_back (noted_turns both.front) since (noted_turns both.back) (subst Front one-list.list split) in
          subst D (sym back) (sequence-drained g retry both.end both.back last both.rest lane))
    ]

-- those of a migrator with this data, by its parts
part_drained : (g : Geometry) (retry : Option ℕ) (before since : Turns) (counts more : Tally) → IsMigratorPartBy (record { 0 = g; 1 = retry; 2 = 0 }) before true counts
    → IsMigratorPartBy (record { 0 = g; 1 = retry; 2 = 1 }) (before ++ since) true more → (lane : Lane) → IsDrained lane since
part_drained g retry before since counts more one two =
    let p = one.part in
    let q = two.part in
    second_drained g retry p.notes q.notes p.carried.outcome q.carried.outcome since p.carried.shown q.carried.shown (ap (λ (l : Turns). l ++ since) (sym p.is) ∙ q.is)

pub migrator-emptied : {N : Type 0} (g : Geometry) (retry : Option ℕ) (b : BoardState N) (n : ℕ) (entered : Geometry × Option ℕ × ℕ) (last : MigratorActor)
    → entered ≡ record { 0 = g; 1 = retry; 2 = 0 }
    → HasStoodLast migrator_made (λ m. record { 0 = m.0; 1 = m.1; 2 = m.2 + 1 }) AgreesMigrator b n entered last
    → (lane : Lane) → IsEmptied lane b
migrator-emptied g retry b n entered last made h lane =
    let Again : Geometry × Option ℕ × ℕ → Geometry × Option ℕ × ℕ = λ m. record { 0 = m.0; 1 = m.1; 2 = m.2 + 1 } in
    let Before : Geometry × Option ℕ × ℕ → Type 0 = λ m. IsMigratorPartBy m h.before true (worker_counted h.first.worker) in
    let All : Geometry × Option ℕ × ℕ → Type 0 = λ m. IsMigratorPartBy m (h.before ++ h.since) true (worker_counted last.worker) in
    h.emptied lane (part_drained g retry h.before h.since (worker_counted h.first.worker) (worker_counted last.worker) (subst Before (h.same ∙ made) h.ended.part) (subst All (h.again ∙ ap Again made) h.agreed.part) lane)

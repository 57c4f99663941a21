-- Two parts of one processor in runs.
use Rattle.std.proofs.Common.{◌≡◌, ℕ, Bool, true, false, List, [], ◌∷◌, ◌++◌, refl, sym, subst, append_assoc}
use Rattle.std.proofs.lemmas.List.{append-nil}
use Rattle.nm_base.specs.Geometry.{Geometry}
use Rattle.nm_action.specs.declared.tally.Tally.{Tally}
use Rattle.nm_action.specs.declared.turn.Turn.{Turn}
use Rattle.nm_action.specs.declared.turn.Heard.{Heard}
use Rattle.nm_part.specs.Patterns.{CanEnd}
use Rattle.nm_actor.specs.Turns.{Turns, own_list}
use Rattle.nm_access.specs.Faults.{FaultKinds}
use Rattle.nm_script.specs.declared.script.Line.{Line}
use Rattle.nm_report.specs.declared.line_result.LineResult.{LineResult}
use Rattle.nm_cpu.specs.Programs.{IsProgramMade}
use Rattle.nm_cpu.specs.Lines.{own_accesses}
use Rattle.nm_cpu.specs.Parts.{IsSequenceBegun, IsSequence, IsCpuPart}
use Rattle.nm_choice.specs.Deterministic.{IsDeterministicActor}
use Rattle.nm_actor_choice.proofs.Beginnings.{actor-next, actor-ends}
use Rattle.nm_one_part.proofs.Followed.{one-list-of-results}

-- the turns begin a whole sequence
begins : {M X : Type 0} (kinds : FaultKinds M X) (g : Geometry) (program : List Line) (turns : Turns) (ended : Bool) (results : List LineResult) (ends : List X) → IsSequence kinds g program turns ended results ends → CanEnd (λ rest outcome. IsProgramMade kinds g program (turns ++ rest) outcome)
begins kinds g program turns true results ends h =
    let W : Turns → Type 0 = λ l. IsProgramMade kinds g program l (record { results = results; ends = ends }) in
    record { rest = []; outcome = record { results = results; ends = ends }; shown = subst W (sym (append-nil turns)) h }
begins kinds g program turns false results ends h =
    let can = h.begun.can in
    let t : Turn × Heard = (h.next, h.begun.heard) in
    let W : Turns → Type 0 = λ l. IsProgramMade kinds g program l can.outcome in
    record { rest = t ∷ can.rest; outcome = can.outcome; shown = subst W (append_assoc turns (t ∷ []) can.rest) can.shown }

-- after the same answered turns it gives the same turn
pub cpu-next : {M X : Type 0} (kinds : FaultKinds M X) (g : Geometry) (number : ℕ) (program : List Line) (front rest more : Turns) (t u : Turn × Heard) (ended over : Bool) (results others : List LineResult) (tally other : Tally) → IsDeterministicActor (IsProgramMade kinds g program)
    → IsCpuPart kinds g number program (front ++ t ∷ rest) ended results tally → IsCpuPart kinds g number program (front ++ u ∷ more) over others other → t.0 ≡ u.0
cpu-next kinds g number program front rest more t u ended over results others tally other law h k =
    let a = begins kinds g program (front ++ t ∷ rest) ended results h.ends h.sequence in
    let b = begins kinds g program (front ++ u ∷ more) over others k.ends k.sequence in
    actor-next (IsProgramMade kinds g program) front rest more a.rest b.rest t u a.outcome b.outcome law a.shown b.shown

-- nothing stands behind its end
pub cpu-ends : {M X : Type 0} (kinds : FaultKinds M X) (g : Geometry) (number : ℕ) (program : List Line) (turns more : Turns) (t : Turn × Heard) (ended : Bool) (results others : List LineResult) (tally other : Tally) → IsDeterministicActor (IsProgramMade kinds g program)
    → IsCpuPart kinds g number program turns true results tally → IsCpuPart kinds g number program (turns ++ t ∷ more) ended others other → ⊥
cpu-ends kinds g number program turns more t ended results others tally other law h k =
    let b = begins kinds g program (turns ++ t ∷ more) ended others k.ends k.sequence in
    let W : Turns → Type 0 = λ l. IsProgramMade kinds g program l b.outcome in
    actor-ends (IsProgramMade kinds g program) turns (more ++ b.rest) t (record { results = results; ends = h.ends }) b.outcome law h.sequence (subst W (append_assoc turns (t ∷ more) b.rest) b.shown)

-- a whole sequence is no beginning of a longer one
not-begun : {M X : Type 0} (kinds : FaultKinds M X) (g : Geometry) (program : List Line) (turns : Turns) (results : List LineResult) (ends : List X) → IsDeterministicActor (IsProgramMade kinds g program)
    → IsProgramMade kinds g program turns (record { results = results; ends = ends }) → IsSequenceBegun kinds g program turns → ⊥
not-begun kinds g program turns results ends law h k =
    let t : Turn × Heard = (k.next, k.begun.heard) in
    let can = k.begun.can in
    let W : Turns → Type 0 = λ l. IsProgramMade kinds g program l can.outcome in
    actor-ends (IsProgramMade kinds g program) turns can.rest t (record { results = results; ends = ends }) can.outcome law h (subst W (append_assoc turns (t ∷ []) can.rest) can.shown)

-- whether it has ended follows from its turns
pub cpu-same : {M X : Type 0} (kinds : FaultKinds M X) (g : Geometry) (number : ℕ) (program : List Line) (turns : Turns) (ended over : Bool) (results others : List LineResult) (tally other : Tally) → IsDeterministicActor (IsProgramMade kinds g program)
    → IsCpuPart kinds g number program turns ended results tally → IsCpuPart kinds g number program turns over others other → ended ≡ over
cpu-same kinds g number program turns true true results others tally other law h k = refl
cpu-same kinds g number program turns false false results others tally other law h k = refl
cpu-same kinds g number program turns true false results others tally other law h k = absurd (not-begun kinds g program turns results h.ends law h.sequence k.sequence)
cpu-same kinds g number program turns false true results others tally other law h k = absurd (not-begun kinds g program turns others k.ends law k.sequence h.sequence)

-- so do its results
pub cpu-results : {M X : Type 0} (kinds : FaultKinds M X) (g : Geometry) (number : ℕ) (program : List Line) (turns : Turns) (ended over : Bool) (results others : List LineResult) (tally other : Tally)
    → IsCpuPart kinds g number program turns ended results tally → IsCpuPart kinds g number program turns over others other → results ≡ others
cpu-results kinds g number program turns ended over results others tally other h k =
    one-list-of-results number ended over program results others (own_accesses number (own_list turns)) h.follows k.follows

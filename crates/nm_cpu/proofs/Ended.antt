-- The end of a processor.
use Rattle.std.proofs.Common.{◌≡◌, List, [], ◌∷◌, ◌++◌, Option, refl, sym, ap, ◌∙◌, subst}
use Rattle.std.proofs.lemmas.List.{append-nil}
use Rattle.nm_base.specs.Geometry.{Geometry}
use Rattle.nm_action.specs.declared.action.AckTo.TheVariants as ack
use Rattle.nm_action.specs.declared.action.Action.{Action}
use Rattle.nm_action.specs.declared.action.Action.TheVariants.{Ack}
use Rattle.nm_action.specs.declared.turn.Turn.{Turn}
use Rattle.nm_action.specs.declared.turn.Turn.TheVariants.{Do, End}
use Rattle.nm_action.specs.declared.action.Reply.TheVariants.{Done, Word, Busy, Lost}
use Rattle.nm_action.specs.declared.turn.Heard.{Heard}
use Rattle.nm_action.specs.declared.turn.Heard.TheVariants.{Start, Answer, PutDone, PutFull, Took, TookNone}
use Rattle.nm_action.specs.Own.{Own}
use Rattle.nm_flat.specs.declared.access.Access as flat
use Rattle.nm_view.specs.Views.{View}
use Rattle.nm_view.specs.Opening.{opening}
use Rattle.nm_part.proofs.Patterns.{ends-now}
use Rattle.nm_tally.specs.Counts.{events_tally}
use Rattle.nm_actor.specs.Turns.{Turns, own_list}
use Rattle.nm_actor.specs.Actors.{IsAnswer, IsAnswerTo, answered}
use Rattle.nm_access.specs.Faults.{FaultKinds, HasNothingOpen, ends_tally}
use Rattle.nm_access.proofs.TurnSteps.{answer-kind, then-push}
use Rattle.nm_report.specs.Follows.{AreMade}
use Rattle.nm_cpu.specs.declared.actor.Processor.{Processor}
use Rattle.nm_cpu.specs.declared.actor.CpuStage.{CpuStage}
use Rattle.nm_cpu.specs.declared.actor.CpuStage.TheVariants.{Ending, Over}
use Rattle.nm_cpu.specs.Programs.{CpuEnd}
use Rattle.nm_cpu.specs.Agreeing.{geometry_of, made_program, cpu_view, accesses_of_turns, IsEndedCpu, IsAtEnding, IsAtCpuStage, IsAtCpuTurn, IsAdvanced}
use Rattle.nm_cpu.proofs.Silent.{accesses-push, silent-do}
use Rattle.nm_cpu.proofs.Going.{sum-as}

-- the end was acknowledged: the view has nothing open, as before
ended-view : {F : Type 0} (c : Processor F) (turns : Turns) (heard : Heard) → HasNothingOpen (cpu_view c turns) → IsAnswer (geometry_of c) (cpu_view c turns) (Do (Ack ack.End)) heard → IsEndedCpu (cpu_view c (turns ++ (Do (Ack ack.End), heard) ∷ []))
ended-view c turns (Answer Done) free answer = subst (λ (v : View). IsEndedCpu v) (sym (then-push (geometry_of c) (opening (geometry_of c) c.made.number) turns (Do (Ack ack.End)) (Answer Done)))
    (record { free = record { ops = free.ops; owned = free.owned; turn = free.turn }; acked = refl })
ended-view c turns (Answer (Word word)) free answer = absurd answer.kind
ended-view c turns (Answer (Busy word)) free answer = absurd answer.kind
ended-view c turns (Answer (Lost word)) free answer = absurd answer.kind
ended-view c turns Start free answer = absurd answer
ended-view c turns PutDone free answer = absurd answer
ended-view c turns PutFull free answer = absurd answer
ended-view c turns (Took page) free answer = absurd answer
ended-view c turns TookNone free answer = absurd answer

-- the end was acknowledged, and End is given
pub ends : {F M X : Type 0} (kinds : FaultKinds M X) (made_of : F → M) (awaits_of : F → Geometry → View → Own → Action → Type 0) (c : Processor F) (turns : Turns) (last : Option Turn) (heard : Heard) → c.stage ≡ Ending
    → IsAtCpuTurn kinds made_of awaits_of c turns last → IsAnswerTo (geometry_of c) (cpu_view c turns) last heard → IsAdvanced kinds made_of awaits_of (record c { stage = Over }) (answered last heard turns) End
ends {F} {M} {X} kinds made_of awaits_of c turns last heard at h answer =
    let e : IsAtEnding kinds c turns last = subst (λ (s : CpuStage). IsAtCpuStage kinds made_of awaits_of s c turns last) at h.at in
    let p = c.made.number in
    let one : Turns = (Do (Ack ack.End), heard) ∷ [] in
    let outcome : CpuEnd X = record { results = c.results.items; ends = e.ends } in
    let A : Option Turn → Type 0 = λ l. IsAnswerTo (geometry_of c) (cpu_view c turns) l heard in
    let T : Option Turn → Type 0 = λ l. IsAdvanced kinds made_of awaits_of (record c { stage = Over }) (answered l heard turns) End in
    let silent : accesses_of_turns c (turns ++ one) ≡ accesses_of_turns c turns = accesses-push p turns (Do (Ack ack.End)) heard ∙ (ap (λ (l : List flat.Access). accesses_of_turns c turns ++ l) (silent-do (Ack ack.End) (λ p reply. refl) p heard) ∙ append-nil (accesses_of_turns c turns)) in
    subst T (sym e.given) (record {
      at = record { cpu = h.cpu; room = h.room; next = tt; permitted = tt; left = ended-view c turns heard e.free (subst A e.given answer); at = refl };
      part = λ counts is. record {
        ends = e.ends;
        sequence = e.due.carry one outcome (record { end = heard; front = one; back = []; shown = record { is = refl; kind = answer-kind (geometry_of c) (cpu_view c turns) (Do (Ack ack.End)) heard (subst A e.given answer) }; rest = ends-now outcome; is = refl });
        follows = record { pieces = subst (λ (l : List flat.Access). AreMade p (made_program c) c.results.items l) (sym silent) e.follows; whole = λ ended. e.as_many };
        counted = sum-as counts c.access.tally (events_tally (own_list (turns ++ one))) (ends_tally kinds.counts e.ends) is e.counted;
      };
    })

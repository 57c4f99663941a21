-- The whole sequence of a processor: such actions, and then the acknowledgement of its end.
use Rattle.std.proofs.Common.{◌≡◌, ℕ, zero, suc, ◌+◌, ◌==◌, Bool, true, false, List, [], ◌∷◌, ◌++◌, refl, sym, ap, subst, ◌∙◌, append_assoc}
use Rattle.std.proofs.lemmas.List.{append-nil}
use Rattle.nm_base.specs.Geometry.{Geometry}
use Rattle.nm_action.specs.declared.action.AckTo.TheVariants.{End}
use Rattle.nm_action.specs.declared.action.Action.{Action}
use Rattle.nm_action.specs.declared.action.Action.TheVariants.{Ack, Mark}
use Rattle.nm_action.specs.declared.action.Reply.{Reply}
use Rattle.nm_action.specs.declared.turn.Heard.{Heard}
use Rattle.nm_action.specs.declared.turn.Heard.TheVariants.{Start, Answer, PutDone, PutFull, Took, TookNone}
use Rattle.nm_action.specs.declared.turn.Turn.TheVariants.{Do}
use Rattle.nm_action.specs.Own.{Own}
use Rattle.nm_part.specs.Patterns.{Ends, Follows, Either}
use Rattle.nm_actor.specs.Turns.{Turns, own_list}
use Rattle.nm_actor.proofs.TurnLists.{own-append}
use Rattle.nm_catchup.specs.CatchUp.{CatchesUp}
use Rattle.nm_script.specs.declared.script.Line.{Line}
use Rattle.nm_script.specs.declared.script.Line.TheVariants.{Load, Store, Add, Await}
use Rattle.nm_report.specs.declared.line_result.LineResult.{LineResult}
use Rattle.nm_report.specs.declared.line_result.LineResult.TheVariants.{Loaded, Stored, Added, Met, Missed}
use Rattle.nm_access.specs.declared.made.AccessMade.{AccessMade}
use Rattle.nm_access.specs.declared.made.Touch.TheVariants as touches
use Rattle.nm_access.specs.Turning.{Hears, Acts}
use Rattle.nm_access.specs.Faults.{FaultKinds}
use Rattle.nm_access.specs.Accesses.{Carried, IsWholeAccess}
use Rattle.nm_shadow_fault.specs.declared.fault.FaultEnd.{FaultEnd}
use Rattle.nm_cpu_fault.specs.ProcessorFaults.{processor_faults}
use Rattle.nm_cpu.specs.Programs.{access_to, CpuEnd, AfterLine, Awaits, LineMade, LinesMade, fresh_kept, carried_with, IsProgramMade}
use Rattle.nm_marks.specs.Contents.{HasOnly}
use Rattle.nm_marks.specs.Marks.{IsMarkOf, HasOnlyMarks, IsNoMark, IsCandidateMark}
use Rattle.nm_marks.proofs.Contents.{only-both, only-more}
use Rattle.nm_part_marks.specs.Actions.{IsActionOf, IsNoAck}
use Rattle.nm_part_marks.proofs.Faults.{fault-actions}
use Rattle.nm_unmarked.specs.Unmarking.{EndsLast, IsProcessorUnmarking}
use Rattle.nm_pending.specs.PendingTurns.{AreOffPending}
use Rattle.nm_pending.proofs.Off.{off-both}
use Rattle.nm_cpu_marks.specs.Processing.{IsProcessing, EndsOnce}
use Rattle.nm_cpu_marks.proofs.Turning.{TurnsOnly}
use Rattle.nm_cpu_marks.proofs.Accessing.{FaultsOnly, catches-turns, whole-access}

-- turns that end once, of which none is a put into the lane Pending or a take from it
record IsEndedOnce (turns : Turns) : Type 0 where
  once : EndsOnce (own_list turns)
  off : AreOffPending turns

-- each list of turns of a pattern is so
abbrev AllEndOnce : {O : Type 0} → (Turns → O → Type 0) → Type 0
AllEndOnce {O} pattern = (turns : Turns) (outcome : O) → pattern turns outcome → IsEndedOnce turns

ends-after : (front back : Own) → HasOnly IsProcessing front → EndsOnce back → EndsOnce (front ++ back)
ends-after front back so h = record {
  front = front ++ h.front;
  reply = h.reply;
  is = ap (λ (l : Own). front ++ l) h.is ∙ sym (append_assoc front h.front ((Ack End, h.reply) ∷ []));
  before = only-both IsProcessing front h.front so h.before;
}

end-follows : {X O : Type 0} (first : Turns → X → Type 0) (after : X → Turns → O → Type 0) → TurnsOnly IsProcessing first → ((end : X) → AllEndOnce (after end)) → AllEndOnce (Follows first after)
end-follows first after now then turns outcome h =
    let E : Own → Type 0 = λ l. EndsOnce l in
    let T : Turns → Type 0 = λ l. AreOffPending l in
    let first = now h.front h.end h.shown in
    let last = then h.end h.back outcome h.rest in
    record {
      once = subst E (sym (ap own_list h.is ∙ own-append h.front h.back)) (ends-after (own_list h.front) (own_list h.back) first.only last.once);
      off = subst T (sym h.is) (off-both h.front h.back first.off last.off);
    }

end-either : {O : Type 0} (b : Bool) (held other : Turns → O → Type 0) → AllEndOnce held → AllEndOnce other → AllEndOnce (Either b held other)
end-either true held other so then = so
end-either false held other so then = then

-- ---- the acknowledgement of the end

ack-heard : (g : Geometry) (turns : Turns) (heard : Heard) → Hears g (Do (Ack End)) turns heard → IsEndedOnce turns
ack-heard g turns (Answer reply) h =
    let T : Turns → Type 0 = λ l. IsEndedOnce l in
    subst T (sym h.is) (record { once = record { front = []; reply = reply; is = refl; before = tt }; off = (tt, tt) })
ack-heard g turns Start h = absurd h.kind
ack-heard g turns PutDone h = absurd h.kind
ack-heard g turns PutFull h = absurd h.kind
ack-heard g turns (Took page) h = absurd h.kind
ack-heard g turns TookNone h = absurd h.kind

last-ack : {O : Type 0} (g : Geometry) (end : O) → AllEndOnce (Follows (Hears g (Do (Ack End))) (λ heard. Ends end))
last-ack g end turns outcome h =
    let E : Turns → Type 0 = λ l. IsEndedOnce l in
    let is : turns ≡ h.front = h.is ∙ ap (λ (l : Turns). h.front ++ l) h.rest.none ∙ append-nil h.front in
    subst E (sym is) (ack-heard g h.front h.end h.shown)

-- ---- lines

awaits : {M X : Type 0} (kinds : FaultKinds M X) (g : Geometry) (access : AccessMade) (x made more : ℕ) (after : AfterLine X) (held : Carried X) → FaultsOnly kinds → ((result : LineResult) (now : Carried X) → AllEndOnce (after result now)) → AllEndOnce (Awaits kinds g access x made more after held)
awaits kinds g access x made zero after held faults rest = rest (Missed made) held
awaits kinds g access x made (suc more) after held faults rest =
    end-follows (IsWholeAccess kinds g access held) (λ end. Either (end.word == x) (after (Met (made + 1)) end.held) (Awaits kinds g access x (made + 1) more after end.held)) (whole-access kinds g access held faults)
    (λ end. end-either (end.word == x) (after (Met (made + 1)) end.held) (Awaits kinds g access x (made + 1) more after end.held) (rest (Met (made + 1)) end.held) (awaits kinds g access x (made + 1) more after end.held faults rest))

line-made : {M X : Type 0} (kinds : FaultKinds M X) (g : Geometry) (line : Line) (after : AfterLine X) (held : Carried X) → FaultsOnly kinds → ((result : LineResult) (now : Carried X) → AllEndOnce (after result now)) → AllEndOnce (LineMade kinds g line after held)
line-made kinds g (Load v w) after held faults rest = end-follows (IsWholeAccess kinds g (access_to g v w touches.Load) held) (λ end. after (Loaded end.word) end.held) (whole-access kinds g (access_to g v w touches.Load) held faults) (λ end. rest (Loaded end.word) end.held)
line-made kinds g (Store v w x) after held faults rest = end-follows (IsWholeAccess kinds g (access_to g v w (touches.Store x)) held) (λ end. after Stored end.held) (whole-access kinds g (access_to g v w (touches.Store x)) held faults) (λ end. rest Stored end.held)
line-made kinds g (Add v w x) after held faults rest = end-follows (IsWholeAccess kinds g (access_to g v w (touches.Add x)) held) (λ end. after (Added end.word) end.held) (whole-access kinds g (access_to g v w (touches.Add x)) held faults) (λ end. rest (Added end.word) end.held)
line-made kinds g (Await v w x max) after held faults rest = awaits kinds g (access_to g v w touches.Load) x 0 max after held faults rest

lines-made : {M X : Type 0} (kinds : FaultKinds M X) (g : Geometry) (lines : List Line) (results : List LineResult) (held : Carried X) → FaultsOnly kinds → AllEndOnce (LinesMade kinds g lines results held)
lines-made kinds g [] results held faults = last-ack g (record { results = results; ends = held.ends })
lines-made kinds g (line ∷ lines) results held faults =
    line-made kinds g line (λ result now. LinesMade kinds g lines (results ++ result ∷ []) now) held faults (λ result now. lines-made kinds g lines (results ++ result ∷ []) now faults)

program-made : {M X : Type 0} (kinds : FaultKinds M X) (g : Geometry) (program : List Line) → FaultsOnly kinds → AllEndOnce (IsProgramMade kinds g program)
program-made kinds g program faults = end-follows (Acts (CatchesUp g fresh_kept)) (λ kept. LinesMade kinds g program [] (carried_with kept [])) (catches-turns g fresh_kept) (λ kept. lines-made kinds g program [] (carried_with kept []) faults)

-- ---- the processor's faults

quiet-processing : (action : Action) → IsActionOf IsNoMark IsNoAck action → IsProcessing action
quiet-processing (Mark page old new) h = absurd h
quiet-processing (Ack to) h = absurd h
quiet-processing _ h = tt

processor-faults : FaultsOnly processor_faults
processor-faults fault g own end h = only-more (IsActionOf IsNoMark IsNoAck) IsProcessing quiet-processing own (fault-actions IsNoMark IsNoAck fault g own end h)

-- ---- what a list that ends once shows

candidate-of : (action : Action) → IsProcessing action → IsMarkOf IsCandidateMark action
candidate-of (Mark page old new) h = h
candidate-of (Ack to) h = tt
candidate-of _ h = tt

marks-once : (own : Own) → EndsOnce own → HasOnlyMarks IsCandidateMark own
marks-once own h =
    let M : Own → Type 0 = λ l. HasOnlyMarks IsCandidateMark l in
    subst M (sym h.is) (only-both (IsMarkOf IsCandidateMark) h.front ((Ack End, h.reply) ∷ []) (only-more IsProcessing (IsMarkOf IsCandidateMark) candidate-of h.front h.before) (tt, tt))

no-end-ack : (action : Action) → IsProcessing action → ¬ (action ≡ Ack End)
no-end-ack action h is =
    let P : Action → Type 0 = λ a. IsProcessing a in
    subst P is h

same-head : (x y : Action × Reply) (xs ys : Own) → x ∷ xs ≡ y ∷ ys → (x ≡ y) × (xs ≡ ys)
same-head x y xs ys is = (cc, cc)

no-list : (xs : Own) (y : Action × Reply) (ys : Own) → ¬ ([] ≡ xs ++ y ∷ ys)
no-list [] y ys is = cc
no-list (x ∷ xs) y ys is = cc

last-of : (own : Own) (reply : Reply) → HasOnly IsProcessing own → EndsLast (own ++ (Ack End, reply) ∷ [])
last-of [] reply so [] rest other is = sym (same-head (Ack End, reply) (Ack End, other) [] rest is).1
last-of [] reply so (x ∷ front) rest other is = absurd (no-list front (Ack End, other) rest (same-head (Ack End, reply) x [] (front ++ (Ack End, other) ∷ rest) is).1)
last-of (e ∷ own) reply so [] rest other is = absurd (no-end-ack e.0 so.0 (ap (λ (p : Action × Reply). p.0) (same-head e (Ack End, other) (own ++ (Ack End, reply) ∷ []) rest is).0))
last-of (e ∷ own) reply so (x ∷ front) rest other is = last-of own reply so.1 front rest other (same-head e x (own ++ (Ack End, reply) ∷ []) (front ++ (Ack End, other) ∷ rest) is).1

last-once : (own : Own) → EndsOnce own → EndsLast own
last-once own h =
    let L : Own → Type 0 = λ l. EndsLast l in
    subst L (sym h.is) (last-of h.front h.reply h.before)

pub processor-unmarking : (g : Geometry) (program : List Line) (turns : Turns) (end : CpuEnd FaultEnd) → IsProgramMade processor_faults g program turns end → IsProcessorUnmarking (own_list turns)
processor-unmarking g program turns end h =
    let once : EndsOnce (own_list turns) = (program-made processor_faults g program processor-faults turns end h).once in
    record { marks = marks-once (own_list turns) once; last = last-once (own_list turns) once }

pub processor-off : (g : Geometry) (program : List Line) (turns : Turns) (end : CpuEnd FaultEnd) → IsProgramMade processor_faults g program turns end → AreOffPending turns
processor-off g program turns end h = (program-made processor_faults g program processor-faults turns end h).off

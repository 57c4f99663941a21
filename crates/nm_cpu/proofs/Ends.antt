-- Each pattern of a sequence has a list, and a turn of a piece begins one.
use Rattle.std.proofs.Common.{◌≡◌, ℕ, zero, suc, ◌+◌, ◌==◌, List, [], ◌∷◌, ◌++◌, false, refl, subst, append_assoc}
use Rattle.nm_base.specs.Geometry.{Geometry}
use Rattle.nm_action.specs.declared.action.AckTo.TheVariants as ack
use Rattle.nm_action.specs.declared.action.Action.{Action}
use Rattle.nm_action.specs.declared.action.Action.TheVariants.{Ack}
use Rattle.nm_action.specs.declared.action.Reply.{Reply}
use Rattle.nm_action.specs.declared.action.Reply.TheVariants as replies
use Rattle.nm_action.specs.declared.turn.Turn.{Turn}
use Rattle.nm_action.specs.declared.turn.Turn.TheVariants.{Do}
use Rattle.nm_action.specs.declared.turn.Heard.TheVariants.{Answer}
use Rattle.nm_action.specs.Own.{Own}
use Rattle.nm_part.specs.Parts.{IsBegunWith}
use Rattle.nm_part.specs.Patterns.{Ends, Follows, IsLeft, CanEnd}
use Rattle.nm_part.proofs.Patterns.{can-ends, can-follow, can-either, can-sometimes}
use Rattle.nm_actor.specs.Turns.{Turns}
use Rattle.nm_catchup.specs.CatchUp.{Kept, CatchesUp}
use Rattle.nm_catchup.proofs.Loops.{catches-up-can}
use Rattle.nm_access.specs.declared.made.Touch.TheVariants as touches
use Rattle.nm_access.specs.declared.made.AccessMade.{AccessMade}
use Rattle.nm_access.specs.Turning.{Hears, Acts, action_turns, IsTurnBegun}
use Rattle.nm_access.specs.Faults.{FaultKinds}
use Rattle.nm_access.specs.Accesses.{Carried, Accessed, Tries, Translates, IsWholeAccess}
use Rattle.nm_access.proofs.TurnSteps.{turns-append}
use Rattle.nm_access.proofs.Ends.{some-heard, some-acts, tries-can}
use Rattle.nm_script.specs.declared.script.Line.{Line}
use Rattle.nm_script.specs.declared.script.Line.TheVariants.{Load, Store, Add, Await}
use Rattle.nm_report.specs.declared.line_result.LineResult.{LineResult}
use Rattle.nm_report.specs.declared.line_result.LineResult.TheVariants.{Loaded, Stored, Added, Met, Missed}
use Rattle.nm_cpu.specs.Programs.{CpuEnd, AfterLine, access_to, Awaits, LineMade, LinesMade, fresh_kept, carried_with, IsProgramMade}
use Rattle.nm_cpu.specs.Lines.{after_access, after_line}

-- Patterns that have a list.

pub access-can : {M X : Type 0} (kinds : FaultKinds M X) (g : Geometry) (made : AccessMade) (held : Carried X) → CanEnd (IsWholeAccess kinds g made held)
access-can kinds g made held = can-sometimes (λ tries. Tries g made (Translates kinds g made tries) held false) 1 (tries-can kinds g made held false)

-- whatever a line gave, its sequence can be finished
abbrev CanGoOn : {X : Type 0} → AfterLine X → Type 0
CanGoOn {X} after = (result : LineResult) (held : Carried X) → CanEnd (after result held)

awaits-can : {M X : Type 0} (kinds : FaultKinds M X) (g : Geometry) (access : AccessMade) (x made more : ℕ) (after : AfterLine X) (held : Carried X) → CanGoOn after → CanEnd (Awaits kinds g access x made more after held)
awaits-can kinds g access x made zero after held can = can (Missed made) held
awaits-can {M} {X} kinds g access x made (suc more) after held can =
    let some = access-can kinds g access held in
    let c = can-follow (IsWholeAccess kinds g access held) _ some
    (can-either (some.outcome.word == x) (after (Met (made + 1)) some.outcome.held) (Awaits kinds g access x (made + 1) more after some.outcome.held) (can (Met (made + 1)) some.outcome.held)
    (awaits-can kinds g access x (made + 1) more after some.outcome.held can)) in
    record { rest = c.rest; outcome = c.outcome; shown = c.shown }

one-can : {M X : Type 0} (kinds : FaultKinds M X) (g : Geometry) (access : AccessMade) (held : Carried X) (after : Accessed X → Turns → CpuEnd X → Type 0) → ((end : Accessed X) → CanEnd (after end)) → CanEnd (Follows (IsWholeAccess kinds g access held) after)
one-can kinds g access held after can = can-follow (IsWholeAccess kinds g access held) after (access-can kinds g access held) (can (access-can kinds g access held).outcome)

line-can : {M X : Type 0} (kinds : FaultKinds M X) (g : Geometry) (line : Line) (after : AfterLine X) (held : Carried X) → CanGoOn after → CanEnd (LineMade kinds g line after held)
line-can kinds g (Load v w) after held can = one-can kinds g (access_to g v w touches.Load) held (λ end. after (Loaded end.word) end.held) (λ end. can (Loaded end.word) end.held)
line-can kinds g (Store v w x) after held can = one-can kinds g (access_to g v w (touches.Store x)) held (λ end. after Stored end.held) (λ end. can Stored end.held)
line-can kinds g (Add v w x) after held can = one-can kinds g (access_to g v w (touches.Add x)) held (λ end. after (Added end.word) end.held) (λ end. can (Added end.word) end.held)
line-can kinds g (Await v w x max) after held can = awaits-can kinds g (access_to g v w touches.Load) x 0 max after held can

pub lines-can : {M X : Type 0} (kinds : FaultKinds M X) (g : Geometry) (lines : List Line) (results : List LineResult) (held : Carried X) → CanEnd (LinesMade kinds g lines results held)
lines-can kinds g [] results held = can-follow (Hears g (Do (Ack ack.End))) (λ heard. Ends (record { results = results; ends = held.ends })) (some-heard g (Do (Ack ack.End)) (Answer replies.Done) (λ view. tt)) (can-ends (record { results = results; ends = held.ends }))
lines-can kinds g (line ∷ lines) results held = line-can kinds g line (after_line kinds g lines results) held (λ result now. lines-can kinds g lines (results ++ result ∷ []) now)

pub after-access-can : {M X : Type 0} (kinds : FaultKinds M X) (g : Geometry) (line : Line) (lines : List Line) (results : List LineResult) (loads more : ℕ) (end : Accessed X) → CanEnd (after_access kinds g line loads more (after_line kinds g lines results) end)
after-access-can kinds g (Load v w) lines results loads more end = lines-can kinds g lines (results ++ Loaded end.word ∷ []) end.held
after-access-can kinds g (Store v w x) lines results loads more end = lines-can kinds g lines (results ++ Stored ∷ []) end.held
after-access-can kinds g (Add v w x) lines results loads more end = lines-can kinds g lines (results ++ Added end.word ∷ []) end.held
after-access-can kinds g (Await v w x max) lines results loads more end = can-either (end.word == x) (after_line kinds g lines results (Met (loads + 1)) end.held) (Awaits kinds g (access_to g v w touches.Load) x (loads + 1) more (after_line kinds g lines results) end.held)
    (lines-can kinds g lines (results ++ Met (loads + 1) ∷ []) end.held)
    (awaits-can kinds g (access_to g v w touches.Load) x (loads + 1) more (after_line kinds g lines results) end.held (λ result now. lines-can kinds g lines (results ++ result ∷ []) now))

pub program-can : {M X : Type 0} (kinds : FaultKinds M X) (g : Geometry) (program : List Line) → CanEnd (IsProgramMade kinds g program)
program-can kinds g program =
    let caught = some-acts (CatchesUp g fresh_kept) (catches-up-can g fresh_kept) in
    can-follow (Acts (CatchesUp g fresh_kept)) (λ kept. LinesMade kinds g program [] (carried_with kept [])) caught (lines-can kinds g program [] (carried_with caught.outcome []))

-- Turns that begin a list.

regroup : (front inner one rest more : Turns) → front ++ (((inner ++ one) ++ rest) ++ more) ≡ ((front ++ inner) ++ one) ++ (rest ++ more)
regroup front inner one rest more = simp append_assoc

-- a turn of a piece that is left
pub inside-begun : {X O : Type 0} (whole : Turns → O → Type 0) (piece : Turns → X → Type 0) (after : X → Turns → O → Type 0) (front inner : Turns) (turn : Turn) → IsLeft whole front (Follows piece after) → IsTurnBegun piece inner turn → ((x : X) → CanEnd (after x))
    → IsTurnBegun whole (front ++ inner) turn
inside-begun {X} {O} whole piece after front inner turn due begun can =
    let one : Turns = (turn, begun.heard) ∷ [] in
    let x : X = begun.can.outcome in
    let more = can x in
    record {
      heard = begun.heard;
      can = record {
        rest = begun.can.rest ++ more.rest;
        outcome = more.outcome;
        shown = subst (λ (l : Turns). whole l more.outcome) (regroup front inner one begun.can.rest more.rest)
            (due.carry (((inner ++ one) ++ begun.can.rest) ++ more.rest) more.outcome (record { end = x; front = (inner ++ one) ++ begun.can.rest; back = more.rest; shown = begun.can.shown; rest = more.shown; is = refl }));
      };
    }

regroup-own : (own more : Own) (action : Action) (reply : Reply) (back : Turns) → action_turns ((own ++ (action, reply) ∷ []) ++ more) ++ back ≡ (action_turns own ++ (Do action, Answer reply) ∷ []) ++ (action_turns more ++ back)
regroup-own own more action reply back = simp (turns-append, append_assoc)

-- an action of the first catch up
pub opening-begun : {M X : Type 0} (kinds : FaultKinds M X) (g : Geometry) (program : List Line) (own : Own) (action : Action) → IsBegunWith (CatchesUp g fresh_kept) own action → IsTurnBegun (IsProgramMade kinds g program) (action_turns own) (Do action)
opening-begun {M} {X} kinds g program own action begun =
    let done : Own = (own ++ (action, begun.reply) ∷ []) ++ begun.begun.rest in
    let kept : Kept = begun.begun.outcome in
    let more = lines-can kinds g program [] (carried_with kept []) in
    record {
      heard = Answer begun.reply;
      can = record {
        rest = action_turns begun.begun.rest ++ more.rest;
        outcome = more.outcome;
        shown = subst (λ (l : Turns). IsProgramMade kinds g program l more.outcome) (regroup-own own begun.begun.rest action begun.reply more.rest)
            (record { end = kept; front = action_turns done; back = more.rest; shown = record { own = done; is = refl; shown = begun.begun.whole }; rest = more.shown; is = refl });
      };
    }

-- Turns that a processor gives while it goes on.
use Rattle.std.proofs.Common.{◌≡◌, ◌≢◌, ℕ, ◌<◌, ◌≤◌, Bool, false, List, [], ◌∷◌, ◌++◌, length, get_or, vec_capacity, Some, refl, sym, ap, ◌∙◌, subst}
use Rattle.std.specs.List.{AllByRecursion}
use Rattle.std.proofs.lemmas.List.{append-nil}
use Rattle.nm_base.specs.Geometry.{Geometry}
use Rattle.nm_action.specs.declared.action.AckTo.TheVariants as ack
use Rattle.nm_action.specs.declared.action.Action.{Action}
use Rattle.nm_action.specs.declared.action.Action.TheVariants.{Ack}
use Rattle.nm_action.specs.declared.action.Reply.TheVariants as replies
use Rattle.nm_action.specs.declared.tally.Tally.{Tally}
use Rattle.nm_action.specs.declared.turn.Lane.{Lane}
use Rattle.nm_action.specs.declared.turn.Turn.{Turn}
use Rattle.nm_action.specs.declared.turn.Turn.TheVariants.{Do, Put, Take, End}
use Rattle.nm_action.specs.declared.turn.Heard.TheVariants.{Answer}
use Rattle.nm_action.specs.Own.{Own}
use Rattle.nm_action.specs.Tally.{sum_of}
use Rattle.nm_view.specs.Views.{View}
use Rattle.nm_part.specs.Patterns.{IsLeft}
use Rattle.nm_tally.specs.Counts.{events_tally}
use Rattle.nm_actor.specs.Turns.{Turns, own_list}
use Rattle.nm_actor.specs.Actors.{IsPermittedTurn, gave_end}
use Rattle.nm_catchup.specs.Catching.{kept_of}
use Rattle.nm_catchup.specs.declared.cache.TranslationCache.{TranslationCache}
use Rattle.nm_access.specs.declared.made.AccessMade.{AccessMade}
use Rattle.nm_access.specs.declared.access.Access.{Access}
use Rattle.nm_access.specs.declared.access.AccessStage.{AccessStage}
use Rattle.nm_access.specs.declared.access.AccessStage.TheVariants as accesses
use Rattle.nm_access.specs.declared.access.AccessStep.TheVariants.{Give}
use Rattle.nm_access.specs.Turning.{IsTurnBegun}
use Rattle.nm_access.specs.Faults.{FaultKinds, ends_tally}
use Rattle.nm_access.specs.Accesses.{Carried, IsWholeAccess}
use Rattle.nm_access.specs.Accessing.{IsTouchWord, IsAccessMade, IsAtAccessStage}
use Rattle.nm_access.specs.Moving.{AwaitsOf, IsStepOf, IsOpening}
use Rattle.nm_script.specs.declared.script.Line.{Line}
use Rattle.nm_report.specs.Follows.{AreMade}
use Rattle.nm_cpu.specs.declared.actor.Processor.{Processor}
use Rattle.nm_cpu.specs.declared.actor.CpuStage.{CpuStage}
use Rattle.nm_cpu.specs.declared.actor.CpuStage.TheVariants.{Accessing, Ending}
use Rattle.nm_cpu.specs.Programs.{CpuEnd, IsLineOf, IsCpu, line_access, carried_with, IsProgramMade}
use Rattle.nm_cpu.specs.Lines.{AccessLeft, NextLeft, after_access, after_line}
use Rattle.nm_cpu.specs.Parts.{IsCpuPart}
use Rattle.nm_cpu.specs.Agreeing.{geometry_of, made_program, cpu_view, accesses_of_turns, IsBetweenLines, IsAtNext, IsAtAccess, IsAtEnding, IsAtCpuStage, ComesNextTurn, IsAdvanced}
use Rattle.nm_access.proofs.Running.{kept-running}
use Rattle.nm_cpu.proofs.Running.{left-at}
use Rattle.nm_cpu.proofs.Followed.{followed-part, followed-all}
use Rattle.nm_cpu.proofs.Mapped.{line-made, one-line, line-at, none-left}
use Rattle.nm_cpu.proofs.Ends.{after-access-can, inside-begun}

-- Turns that are not End.

do-end : (action : Action) → Do action ≡ End → ⊥
do-end action e = cc

put-end : (lane : Lane) (page : ℕ) → Put lane page ≡ End → ⊥
put-end lane page e = cc

pub not-do : (turn : Turn) (action : Action) → turn ≡ Do action → turn ≢ End
not-do turn action is e = do-end action (sym is ∙ e)

-- no turn of an access is End
pub access-goes : {M X : Type 0} (kinds : FaultKinds M X) (made : AccessMade) (stage : AccessStage) (hinted : Bool) (fault : M) (awaits : Geometry → View → Own → Action → Type 0) (cache : TranslationCache) (ends : List X) (g : Geometry) (was : Carried X) (view : View) (turns : Turns) (turn : Turn)
    → IsAtAccessStage kinds made stage hinted fault awaits cache ends g was view turns turn → turn ≢ End
access-goes kinds made accesses.Resting hinted fault awaits cache ends g was view turns turn h e = absurd h
access-goes kinds made accesses.CatchingUp hinted fault awaits cache ends g was view turns turn h e = not-do turn h.action h.given e
access-goes kinds made accesses.Faulting hinted fault awaits cache ends g was view turns turn h e = not-do turn h.action h.given e
access-goes kinds made (accesses.Waiting waiting) hinted fault awaits cache ends g was view turns turn h e = not-do turn h.action h.given e
access-goes kinds made accesses.Peeking hinted fault awaits cache ends g was view turns turn h e = not-do turn _ h.is e
access-goes kinds made (accesses.Looking stamp) hinted fault awaits cache ends g was view turns turn h e = not-do turn _ h.is e
access-goes kinds made accesses.Softening hinted fault awaits cache ends g was view turns turn h e = not-do turn _ h.is e
access-goes kinds made (accesses.Walking stamp word) hinted fault awaits cache ends g was view turns turn h e = not-do turn _ h.is e
access-goes kinds made accesses.Marking hinted fault awaits cache ends g was view turns turn h e = not-do turn _ h.is e
access-goes kinds made accesses.Putting hinted fault awaits cache ends g was view turns turn h e = put-end _ made.page (sym h.is ∙ e)
access-goes kinds made accesses.Unmarking hinted fault awaits cache ends g was view turns turn h e = not-do turn _ h.is e
access-goes kinds made accesses.Touching hinted fault awaits cache ends g was view turns turn h e = not-do turn _ h.is e

pub goes-on : (turn : Turn) → turn ≢ End → gave_end (Some turn) ≡ false
goes-on (Do action) not = refl
goes-on (Put lane page) not = refl
goes-on (Take lane) not = refl
goes-on End not = absurd (not refl)

comes-next : {M X : Type 0} (kinds : FaultKinds M X) (g : Geometry) (program : List Line) (turns : Turns) (turn : Turn) → turn ≢ End → IsTurnBegun (IsProgramMade kinds g program) turns turn → ComesNextTurn kinds g program turns (Some turn)
comes-next kinds g program turns (Do action) not begun = begun
comes-next kinds g program turns (Put lane page) not begun = begun
comes-next kinds g program turns (Take lane) not begun = begun
comes-next kinds g program turns End not begun = tt

pub sum-as : (a b c d : Tally) → a ≡ c → b ≡ d → sum_of a b ≡ sum_of c d
sum-as a b c d e f = ap (λ (t : Tally). sum_of t b) e ∙ ap (λ (t : Tally). sum_of c t) f

-- what is between the lines speaks of neither the access nor the stage
pub between-as : {F : Type 0} (c : Processor F) (a : Access F) (stage : CpuStage) (done lines : List Line) (more : ℕ) (turns : Turns) → IsBetweenLines c done lines more turns → IsBetweenLines (record c { access = a; stage = stage }) done lines more turns
between-as c a stage done lines more turns b = record { is = b.is; as_many = b.as_many; loads = b.loads; follows = b.follows }

-- a turn that is not End is given
pub going : {F M X : Type 0} (kinds : FaultKinds M X) (made_of : F → M) (awaits_of : F → Geometry → View → Own → Action → Type 0) (c : Processor F) (turns : Turns) (turn : Turn) (done lines : List Line) (more : ℕ) (ends : List X)
    → turn ≢ End → IsPermittedTurn (geometry_of c) (cpu_view c turns) turn → IsTurnBegun (IsProgramMade kinds (geometry_of c) (made_program c)) turns turn
    → IsCpu (geometry_of c) c.made.number (made_program c) → length (made_program c) ≤ vec_capacity c.results → IsBetweenLines c done lines more turns → c.access.tally ≡ ends_tally kinds.counts ends
    → IsAtCpuStage kinds made_of awaits_of c.stage c turns (Some turn) → IsAdvanced kinds made_of awaits_of c turns turn
going {F} {M} {X} kinds made_of awaits_of c turns turn done lines more ends not permitted begun cpu room between counted at =
    let P : Tally → Bool → Type 0 = λ counts b. IsCpuPart kinds (geometry_of c) c.made.number (made_program c) turns b c.results.items (sum_of counts c.access.tally) in
    record {
      at = record { cpu = cpu; room = room; next = comes-next kinds (geometry_of c) (made_program c) turns turn not begun; permitted = permitted; left = left-at kinds made_of awaits_of c turns turn not at; at = at };
      part = λ counts is. subst (λ (b : Bool). P counts b) (sym (goes-on turn not)) (record {
        ends = ends;
        sequence = record { next = turn; begun = begun };
        follows = followed-part c.made.number (made_program c) done lines c.results.items c.loads more (accesses_of_turns c turns) between.is between.as_many between.loads between.follows;
        counted = sum-as counts c.access.tally (events_tally (own_list turns)) (ends_tally kinds.counts ends) is counted;
      });
    }

-- An access awaits an answer.

pub access-given : {F M X : Type 0} (kinds : FaultKinds M X) (made_of : F → M) (awaits_of : F → Geometry → View → Own → Action → Type 0) (c : Processor F) (front inner : Turns) (turn : Turn) (done : List Line) (line : Line) (lines : List Line) (more : ℕ) (held : Carried X)
    → c.stage ≡ Accessing → IsCpu (geometry_of c) c.made.number (made_program c) → length (made_program c) ≤ vec_capacity c.results → IsBetweenLines c done (line ∷ lines) more (front ++ inner)
    → c.access.made ≡ line_access (geometry_of c) line
    → IsLeft (IsProgramMade kinds (geometry_of c) (made_program c)) front (AccessLeft kinds (geometry_of c) line lines c.results.items c.loads more held)
    → IsPermittedTurn (geometry_of c) (cpu_view c (front ++ inner)) turn
    → AwaitsOf kinds made_of awaits_of c.access (geometry_of c) held (cpu_view c front) inner turn → IsTurnBegun (IsWholeAccess kinds (geometry_of c) c.access.made held) inner turn
    → IsAdvanced kinds made_of awaits_of c (front ++ inner) turn
access-given {F} {M} {X} kinds made_of awaits_of c front inner turn done line lines more held at cpu room between access due permitted awaited begun =
    let B : AccessMade → Type 0 = λ m. IsTurnBegun (IsWholeAccess kinds (geometry_of c) m held) inner turn in
    let here : IsAtAccess kinds made_of awaits_of c (front ++ inner) (Some turn) = record {
      turn = turn;
      given = refl;
      front = front;
      inner = inner;
      run = record { done = done; line = line; lines = lines; more = more; between = between; is = refl; access = access; held = held; due = due };
      awaited = awaited;
    } in
    going kinds made_of awaits_of c (front ++ inner) turn done (line ∷ lines) more awaited.ends
    (access-goes kinds c.access.made c.access.stage c.access.hinted (made_of c.access.fault) (awaits_of c.access.fault) c.access.cache awaited.ends (geometry_of c) held (cpu_view c front) inner turn awaited.at)
    permitted
    (inside-begun (IsProgramMade kinds (geometry_of c) (made_program c)) (IsWholeAccess kinds (geometry_of c) (line_access (geometry_of c) line) held) (after_access kinds (geometry_of c) line c.loads more (after_line kinds (geometry_of c) lines c.results.items)) front inner turn due
    (subst B access begun) (after-access-can kinds (geometry_of c) line lines c.results.items c.loads more))
    cpu room between awaited.counted
    (subst (λ s. IsAtCpuStage kinds made_of awaits_of s c (front ++ inner) (Some turn)) (sym at) here)

-- The next access is begun.

pub access-begins : {F M X : Type 0} (kinds : FaultKinds M X) (made_of : F → M) (awaits_of : F → Geometry → View → Own → Action → Type 0) (c : Processor F) (a : Access F) (made : AccessMade) (turn : Turn) (line d : Line) (n : ℕ) (turns : Turns)
    → n ≡ length c.results.items → n < length (made_program c) → get_or (made_program c) n d ≡ line → made ≡ line_access (geometry_of c) line → IsTouchWord made.touch → a.made ≡ made
    → ((g : Geometry) (was : Carried X) (view : View) → IsOpening kinds c.access made g was view → IsStepOf kinds made_of awaits_of a g was view [] (Give turn))
    → IsAtNext kinds c turns → IsAdvanced kinds made_of awaits_of (record c { access = a; stage = Accessing }) turns turn
access-begins {F} {M} {X} kinds made_of awaits_of c a made turn line d n turns number some at access value same begins h =
    let first = line-at (made_program c) h.done h.lines line d n h.between.is (h.between.as_many ∙ sym number) some at in
    let B : List Line → Type 0 = λ l. IsBetweenLines c h.done l h.more turns in
    let between : B (line ∷ first.rest) = subst B first.is h.between in
    let L : List Line → Type 0 = λ l. IsLeft (IsProgramMade kinds (geometry_of c) (made_program c)) turns (NextLeft kinds (geometry_of c) l c.results.items c.loads h.more (carried_with (kept_of c.access.cache) h.ends)) in
    let step = begins (geometry_of c) (carried_with (kept_of c.access.cache) h.ends) (cpu_view c turns) (record {
      same = h.same;
      may = subst (λ (m : AccessMade). IsAccessMade (geometry_of c) m) (sym access) (line-made (geometry_of c) line h.cpu.geometry (one-line _ h.done first.rest line (subst (λ (l : List Line). AllByRecursion (IsLineOf (geometry_of c)) l) between.is h.cpu.lines)) (subst (λ (m : AccessMade). IsTouchWord m.touch) access value));
      kept = refl;
      counted = h.counted;
      ready = h.ready;
    }) in
    let T : Turns → Type 0 = λ l. IsAdvanced kinds made_of awaits_of (record c { access = a; stage = Accessing }) l turn in
    let V : Turns → Type 0 = λ l. IsPermittedTurn (geometry_of c) (cpu_view c l) turn in
    let W : Turns → Type 0 = λ l. IsBetweenLines c h.done (line ∷ first.rest) h.more l in
    subst T (append-nil turns) (access-given kinds made_of awaits_of (record c { access = a; stage = Accessing }) turns [] turn h.done line first.rest h.more (carried_with (kept_of c.access.cache) h.ends)
    refl h.cpu h.room (between-as c a Accessing h.done (line ∷ first.rest) h.more (turns ++ []) (subst W (sym (append-nil turns)) between)) (same ∙ access) (subst L first.is h.due) (subst V (sym (append-nil turns)) step.permitted) step.awaited step.begun)

-- All lines were made.

pub ending-begins : {F M X : Type 0} (kinds : FaultKinds M X) (made_of : F → M) (awaits_of : F → Geometry → View → Own → Action → Type 0) (c : Processor F) (n : ℕ) (turns : Turns) → n ≡ length c.results.items → length (made_program c) ≤ n
    → IsAtNext kinds c turns → IsAdvanced kinds made_of awaits_of (record c { stage = Ending }) turns (Do (Ack ack.End))
ending-begins {F} {M} {X} kinds made_of awaits_of c n turns number all h =
    let none = none-left (made_program c) h.done h.lines n h.between.is (h.between.as_many ∙ sym number) all in
    let B : List Line → Type 0 = λ l. IsBetweenLines c h.done l h.more turns in
    let between : B [] = subst B none h.between in
    let L : List Line → Type 0 = λ l. IsLeft (IsProgramMade kinds (geometry_of c) (made_program c)) turns (NextLeft kinds (geometry_of c) l c.results.items c.loads h.more (carried_with (kept_of c.access.cache) h.ends)) in
    let due : L [] = subst L none h.due in
    let whole : made_program c ≡ h.done = between.is ∙ append-nil h.done in
    let A : List Line → Type 0 = λ l. AreMade c.made.number l c.results.items (accesses_of_turns c turns) in
    let last : CpuEnd X = record { results = c.results.items; ends = h.ends } in
    let T : Turns → Type 0 = λ l. IsTurnBegun (IsProgramMade kinds (geometry_of c) (made_program c)) l (Do (Ack ack.End)) in
    let here : IsAtEnding kinds (record c { stage = Ending }) turns (Some (Do (Ack ack.End))) = record {
      given = refl;
      same = h.same;
      ends = h.ends;
      counted = h.counted;
      free = h.ready.free;
      running = kept-running (geometry_of c) (kept_of c.access.cache) (cpu_view c turns) h.ready.all h.ready.on;
      as_many = sym between.as_many ∙ sym (ap (λ (l : List Line). length l) whole);
      follows = subst A (sym whole) (followed-all c.made.number h.done c.results.items c.loads (accesses_of_turns c turns) between.follows);
      due = due;
    } in
    going kinds made_of awaits_of (record c { stage = Ending }) turns (Do (Ack ack.End)) h.done [] h.more h.ends (do-end (Ack ack.End))
    (record { range = tt; permitted = record { processor = h.ready.all.processor; polled = tt } })
    (record {
      heard = Answer replies.Done;
      can = record {
        rest = [];
        outcome = last;
        shown = subst (λ (l : Turns). IsProgramMade kinds (geometry_of c) (made_program c) l last) (sym (append-nil (turns ++ (Do (Ack ack.End), Answer replies.Done) ∷ []))) (due.carry ((Do (Ack ack.End), Answer replies.Done) ∷ []) last
            (record { end = Answer replies.Done; front = (Do (Ack ack.End), Answer replies.Done) ∷ []; back = []; shown = record { is = refl; kind = λ view. tt }; rest = record { none = refl; is = refl }; is = refl }));
      };
    })
    h.cpu h.room (between-as c c.access Ending h.done [] h.more turns between) h.counted here

-- The first catch up of a processor.
use Rattle.std.proofs.Common.{◌≡◌, ℕ, List, [], ◌∷◌, ◌++◌, length, true, false, Option, Some, None, refl, sym, ap, ◌∙◌, subst}
use Rattle.std.specs.List.{AllByRecursion}
use Rattle.nm_base.specs.Geometry.{Geometry}
use Rattle.nm_action.specs.declared.action.Action.{Action}
use Rattle.nm_action.specs.declared.action.Action.TheVariants.{Poll}
use Rattle.nm_action.specs.declared.action.Reply.{Reply}
use Rattle.nm_action.specs.declared.turn.Step.{Step}
use Rattle.nm_action.specs.declared.turn.Step.TheVariants as steps
use Rattle.nm_action.specs.declared.turn.Turn.{Turn}
use Rattle.nm_action.specs.declared.turn.Turn.TheVariants.{Do}
use Rattle.nm_action.specs.declared.turn.Heard.{Heard}
use Rattle.nm_action.specs.declared.turn.Heard.TheVariants.{Answer}
use Rattle.nm_action.specs.Own.{Own}
use Rattle.nm_flat.specs.declared.access.Access as flat
use Rattle.nm_view.specs.Views.{View}
use Rattle.nm_view.specs.Opening.{opening}
use Rattle.nm_permit.specs.Permitted.{Allowed}
use Rattle.nm_event.specs.Fitting.{Fits}
use Rattle.nm_event.specs.After.{view_after}
use Rattle.nm_part.specs.Patterns.{IsLeft}
use Rattle.nm_part.proofs.Patterns.{left-start, left-after}
use Rattle.nm_actor.specs.Turns.{Turns, own_turn, own_list}
use Rattle.nm_actor.specs.Actors.{IsAnswerTo, answered, HasHeard}
use Rattle.nm_catchup.specs.declared.cache.TranslationCache.{TranslationCache}
use Rattle.nm_catchup.specs.declared.cache.CatchStage.TheVariants.{Polling}
use Rattle.nm_catchup.specs.CatchUp.{Kept, CatchesUp}
use Rattle.nm_catchup.specs.Catching.{kept_of, catch_action, IsKeptWith, AwaitsCatch, IsCatchHeard, IsCatchAsked, IsCaughtUp, IsCatchStep}
use Rattle.nm_access.specs.declared.access.Access.{Access}
use Rattle.nm_access.specs.Turning.{Acts, action_turns}
use Rattle.nm_access.specs.Faults.{FaultKinds, ends_tally}
use Rattle.nm_access.specs.Accessing.{IsAccessReady}
use Rattle.nm_access.proofs.TurnSteps.{turns-push, own-turns}
use Rattle.nm_access.proofs.Trying.{poll-awaits, poll-begun, free-as}
use Rattle.nm_script.specs.declared.script.Line.{Line}
use Rattle.nm_report.specs.declared.line_result.LineResult.{LineResult}
use Rattle.nm_cpu.specs.declared.actor.Processor.{Processor}
use Rattle.nm_cpu.specs.declared.actor.CpuStage.{CpuStage}
use Rattle.nm_cpu.specs.declared.actor.CpuStage.TheVariants.{New, Opening}
use Rattle.nm_cpu.specs.Programs.{IsLineOf, IsCpu, fresh_kept, carried_with, LinesMade, IsProgramMade}
use Rattle.nm_cpu.specs.Lines.{own_accesses, AreLoadsOf, NextLeft, FollowsSoFar}
use Rattle.nm_cpu.specs.Agreeing.{geometry_of, made_program, cpu_view, accesses_of_turns, IsBetweenLines, IsAtNext, IsAtNew, IsAtOpening, IsAtCpuStage, IsAtCpuTurn, IsAdvanced}
use Rattle.nm_cpu.proofs.Followed.{followed-none}
use Rattle.nm_cpu.proofs.Silent.{accesses-push, silent-do, silent-catch}
use Rattle.nm_cpu.proofs.Lines.{some-loads, lines-begin}
use Rattle.nm_cpu.proofs.Ends.{opening-begun}
use Rattle.nm_cpu.proofs.Going.{not-do, going}

-- Before the first line.

-- each line is one of the program
pub first-of : (P : Line → Type 0) (lines : List Line) → AllByRecursion P lines → (line : Line) (rest : List Line) → lines ≡ line ∷ rest → P line
first-of P [] all line rest is = absurd (none is)
  where
    none : [] ≡ line ∷ rest → ⊥
    none e = cc
first-of P (l ∷ lines) all line rest is = (subst (λ (x : List Line). AllByRecursion P x) is all).0

-- no line was made
pub between-first : {F : Type 0} (c : Processor F) (more : ℕ) (turns : Turns) → c.results.items ≡ [] → c.loads ≡ 0 → accesses_of_turns c turns ≡ [] → AreLoadsOf (made_program c) 0 more → IsBetweenLines c [] (made_program c) more turns
between-first c more turns results loads silent of =
    let R : List LineResult → ℕ → List flat.Access → Type 0 = λ r n l. FollowsSoFar c.made.number [] (made_program c) r n l in
    let list = accesses_of_turns c turns in
    record {
      is = refl;
      as_many = sym (ap (λ (r : List LineResult). length r) results);
      loads = subst (λ n. AreLoadsOf (made_program c) n more) (sym loads) of;
      follows = subst (λ (r : List LineResult). R r c.loads list) (sym results) (subst (λ n. R [] n list) (sym loads) (subst (λ (l : List flat.Access). R [] 0 l) (sym silent) (followed-none c.made.number (made_program c))));
    }

-- The start.

no-true : false ≡ true → ⊥
no-true e = cc

none-is : {A : Type 0} {x : A} → None ≡ Some x → ⊥
none-is e = cc

fresh-kept : (g : Geometry) (number : ℕ) (program : List Line) → IsCpu g number program → IsKeptWith g fresh_kept (opening g number)
fresh-kept g number program cpu = record {
  geometry = cpu.geometry;
  processor = cpu.exists;
  range = λ page some. absurd (no-true some);
  cached = λ page e is. absurd (none-is is);
  acked = tt;
}

-- the first turn
pub new-goes : {F M X : Type 0} (kinds : FaultKinds M X) (made_of : F → M) (awaits_of : F → Geometry → View → Own → Action → Type 0) (c : Processor F) (a : Access F) (action : Action) (turns : Turns) (last : Option Turn) (heard : Heard)
    → c.stage ≡ New → a ≡ record c.access { cache = a.cache } → kept_of a.cache ≡ kept_of c.access.cache → a.cache.stage ≡ Polling → action ≡ Poll
    → IsAtCpuTurn kinds made_of awaits_of c turns last → IsAdvanced kinds made_of awaits_of (record c { access = a; stage = Opening }) (answered last heard turns) (Do action)
new-goes {F} {M} {X} kinds made_of awaits_of c a action turns last heard at rest kept polling polls h =
    let S : CpuStage → Type 0 = λ s. IsAtCpuStage kinds made_of awaits_of s c turns last in
    let n : IsAtNew c turns last = subst S at h.at in
    let d : Processor F = record c { access = a; stage = Opening } in
    let g = geometry_of c in
    let same : kept_of a.cache ≡ fresh_kept = kept ∙ n.fresh.kept in
    let counted : a.tally ≡ ends_tally kinds.counts [] = ap (λ (x : Access F). x.tally) rest ∙ n.fresh.counted in
    let loads = some-loads g (made_program c) (first-of (IsLineOf g) (made_program c) h.cpu.lines) in
    let here : IsAtOpening kinds d [] (Some (Do Poll)) = record {
      own = [];
      action = Poll;
      given = refl;
      is = refl;
      awaited = poll-awaits a.cache fresh_kept g (opening g c.made.number) polling same (fresh-kept g c.made.number (made_program c) h.cpu);
      same = ap (λ (x : Access F). x.geometry.now) rest ∙ n.fresh.same;
      counted = counted;
      results = n.results;
      loads = n.loads;
      silent = refl;
    } in
    let P : Action → Turns → Type 0 = λ x l. IsAdvanced kinds made_of awaits_of d l (Do x) in
    let T : Option Turn → Turns → Type 0 = λ o l. P action (answered o heard l) in
    subst (λ o. T o turns) (sym n.start) (subst (λ l. T None l) (sym n.none) (subst (λ x. P x []) (sym polls)
    (going kinds made_of awaits_of d [] (Do Poll) [] (made_program c) loads.0 [] (not-do (Do Poll) Poll refl) (record { range = tt; permitted = h.cpu.exists })
    (opening-begun kinds g (made_program c) [] Poll (poll-begun g fresh_kept)) h.cpu h.room (between-first d loads.0 [] n.results n.loads refl loads.1) counted here)))

-- A reply.

at-opening : {F M X : Type 0} (kinds : FaultKinds M X) (made_of : F → M) (awaits_of : F → Geometry → View → Own → Action → Type 0) (c : Processor F) (turns : Turns) (last : Option Turn) → c.stage ≡ Opening → IsAtCpuTurn kinds made_of awaits_of c turns last → IsAtOpening kinds c turns last
at-opening kinds made_of awaits_of c turns last at h = subst (λ (s : CpuStage). IsAtCpuStage kinds made_of awaits_of s c turns last) at h.at

opening-fits : {F M X : Type 0} (kinds : FaultKinds M X) (c : Processor F) (turns : Turns) (last : Option Turn) (reply : Reply) → (o : IsAtOpening kinds c turns last) → IsAnswerTo (geometry_of c) (cpu_view c turns) last (Answer reply)
    → Fits (geometry_of c) (view_after (geometry_of c) (opening (geometry_of c) c.made.number) o.own) o.action reply
opening-fits kinds c turns last reply o answer =
    let g = geometry_of c in
    let L : Option Turn → Type 0 = λ l. IsAnswerTo g (cpu_view c turns) l (Answer reply) in
    let V : Own → Type 0 = λ l. Fits g (view_after g (opening g c.made.number) l) o.action reply in
    subst V (own-turns o.own) (subst (λ (t : Turns). V (own_list t)) o.is (subst L o.given answer))

-- the translations are to hear the reply
pub opening-heard : {F M X : Type 0} (kinds : FaultKinds M X) (made_of : F → M) (awaits_of : F → Geometry → View → Own → Action → Type 0) (c : Processor F) (reply : Reply) → c.stage ≡ Opening
    → HasHeard (geometry_of c) c.made.number (IsAtCpuTurn kinds made_of awaits_of c) (Answer reply) → IsCatchHeard c.access.cache reply
opening-heard kinds made_of awaits_of c reply at h =
    let o = at-opening kinds made_of awaits_of c h.turns h.last at h.agreed in
    record { was = fresh_kept; geometry = geometry_of c; view = opening (geometry_of c) c.made.number; own = o.own; action = o.action; awaited = o.awaited; fits = opening-fits kinds c h.turns h.last reply o h.answer }

-- the turns with the answer
opening-turns : {F M X : Type 0} (kinds : FaultKinds M X) (c : Processor F) (turns : Turns) (last : Option Turn) (reply : Reply) → (o : IsAtOpening kinds c turns last) → answered last (Answer reply) turns ≡ action_turns (o.own ++ (o.action, reply) ∷ [])
opening-turns kinds c turns last reply o = rw (o.given, o.is) (turns-push [] o.own o.action reply)

-- no access was made
opening-silent : {F M X : Type 0} (kinds : FaultKinds M X) (c : Processor F) (turns : Turns) (last : Option Turn) (reply : Reply) → (o : IsAtOpening kinds c turns last) → accesses_of_turns c (answered last (Answer reply) turns) ≡ []
opening-silent kinds c turns last reply o =
    let p = c.made.number in
    let A : Action → Type 0 = λ a. own_accesses p (own_list (turns ++ (Do a, Answer reply) ∷ [])) ≡ [] in
    let stage = c.access.cache.stage in
    let T : Option Turn → Type 0 = λ l. own_accesses p (own_list (answered l (Answer reply) turns)) ≡ [] in
    subst T (sym o.given) (subst A (sym o.awaited.is) (accesses-push p turns (Do (catch_action stage)) (Answer reply) ∙ ap (λ (l : List flat.Access). l ++ own_accesses p (own_turn (Do (catch_action stage)) (Answer reply))) o.silent ∙ silent-do (catch_action stage) (silent-catch stage) p (Answer reply)))

-- what the catch up promises of a step
abbrev pub Opens : TranslationCache → TranslationCache → Reply → Step (Unit {0}) → Type 0
Opens cache later reply result = (was : Kept) (g : Geometry) (view : View) (own : Own) (action : Action) → AwaitsCatch cache was g view own action → Fits g (view_after g view own) action reply → IsCatchStep later was g view (own ++ (action, reply) ∷ []) result

-- the catch up goes on
pub opening-goes : {F M X : Type 0} (kinds : FaultKinds M X) (made_of : F → M) (awaits_of : F → Geometry → View → Own → Action → Type 0) (c : Processor F) (a : Access F) (reply : Reply) (result : Step (Unit {0})) (next : Action) (turns : Turns) (last : Option Turn)
    → c.stage ≡ Opening → a ≡ record c.access { cache = a.cache } → result ≡ steps.Do next → Opens c.access.cache a.cache reply result
    → IsAtCpuTurn kinds made_of awaits_of c turns last → IsAnswerTo (geometry_of c) (cpu_view c turns) last (Answer reply)
    → IsAdvanced kinds made_of awaits_of (record c { access = a }) (answered last (Answer reply) turns) (Do next)
opening-goes {F} {M} {X} kinds made_of awaits_of c a reply result next turns last at rest is opens h answer =
    let o = at-opening kinds made_of awaits_of c turns last at h in
    let g = geometry_of c in
    let d : Processor F = record c { access = a } in
    let own : Own = o.own ++ (o.action, reply) ∷ [] in
    let list = opening-turns kinds c turns last reply o in
    let asked : IsCatchAsked a.cache fresh_kept g (opening g c.made.number) own next = subst (λ (s : Step (Unit {0})). IsCatchStep a.cache fresh_kept g (opening g c.made.number) own s) is
    (opens fresh_kept g (opening g c.made.number) o.own o.action o.awaited (opening-fits kinds c turns last reply o answer)) in
    let counted : a.tally ≡ ends_tally kinds.counts [] = ap (λ (x : Access F). x.tally) rest ∙ o.counted in
    let silent : accesses_of_turns c (action_turns own) ≡ [] = subst (λ (t : Turns). accesses_of_turns c t ≡ []) list (opening-silent kinds c turns last reply o) in
    let loads = some-loads g (made_program c) (first-of (IsLineOf g) (made_program c) h.cpu.lines) in
    let here : IsAtOpening kinds d (action_turns own) (Some (Do next)) = record {
      own = own;
      action = next;
      given = refl;
      is = refl;
      awaited = asked.awaited;
      same = ap (λ (x : Access F). x.geometry.now) rest ∙ o.same;
      counted = counted;
      results = o.results;
      loads = o.loads;
      silent = silent;
    } in
    subst (λ (t : Turns). IsAdvanced kinds made_of awaits_of d t (Do next)) (sym list)
    (going kinds made_of awaits_of d (action_turns own) (Do next) [] (made_program c) loads.0 [] (not-do (Do next) next refl)
    (subst (λ (l : Own). Allowed g (view_after g (opening g c.made.number) l) next) (sym (own-turns own)) asked.permitted)
    (opening-begun kinds g (made_program c) own next asked.begun) h.cpu h.room (between-first d loads.0 (action_turns own) o.results o.loads silent loads.1) counted
    (subst (λ (s : CpuStage). IsAtCpuStage kinds made_of awaits_of s d (action_turns own) (Some (Do next))) (sym at) here))

-- the catch up is over: the first line comes next
pub opening-over : {F M X : Type 0} (kinds : FaultKinds M X) (made_of : F → M) (awaits_of : F → Geometry → View → Own → Action → Type 0) (c : Processor F) (a : Access F) (reply : Reply) (result : Step (Unit {0})) (turns : Turns) (last : Option Turn)
    → c.stage ≡ Opening → a ≡ record c.access { cache = a.cache } → result ≡ steps.Over tt → Opens c.access.cache a.cache reply result
    → IsAtCpuTurn kinds made_of awaits_of c turns last → IsAnswerTo (geometry_of c) (cpu_view c turns) last (Answer reply)
    → IsAtNext kinds (record c { access = a }) (answered last (Answer reply) turns)
opening-over {F} {M} {X} kinds made_of awaits_of c a reply result turns last at rest is opens h answer =
    let o = at-opening kinds made_of awaits_of c turns last at h in
    let g = geometry_of c in
    let d : Processor F = record c { access = a } in
    let own : Own = o.own ++ (o.action, reply) ∷ [] in
    let list = opening-turns kinds c turns last reply o in
    let start = opening g c.made.number in
    let over : IsCaughtUp a.cache fresh_kept g start own = subst (λ (s : Step (Unit {0})). IsCatchStep a.cache fresh_kept g start own s) is
    (opens fresh_kept g start o.own o.action o.awaited (opening-fits kinds c turns last reply o answer)) in
    let silent : accesses_of_turns c (action_turns own) ≡ [] = subst (λ (t : Turns). accesses_of_turns c t ≡ []) list (opening-silent kinds c turns last reply o) in
    let whole = IsProgramMade kinds g (made_program c) in
    let due = left-after whole [] (action_turns own) (Acts (CatchesUp g fresh_kept)) (λ kept. LinesMade kinds g (made_program c) [] (carried_with kept [])) (kept_of a.cache) (left-start whole) (record { own = own; is = refl; shown = over.shown }) in
    let begins = lines-begin kinds g whole (action_turns own) (made_program c) [] (carried_with (kept_of a.cache) []) (first-of (IsLineOf g) (made_program c) h.cpu.lines) due in
    let D : List LineResult → ℕ → Type 0 = λ r n. IsLeft whole (action_turns own) (NextLeft kinds g (made_program c) r n begins.more (carried_with (kept_of a.cache) [])) in
    let there = own-turns own in
    let R : Own → Type 0 = λ l. IsAccessReady g (kept_of a.cache) (view_after g start l) in
    subst (λ (t : Turns). IsAtNext kinds d t) (sym list) (record {
      done = [];
      lines = made_program c;
      more = begins.more;
      between = between-first d begins.more (action_turns own) o.results o.loads silent begins.of;
      cpu = h.cpu;
      room = h.room;
      same = ap (λ (x : Access F). x.geometry.now) rest ∙ o.same;
      ends = [];
      counted = ap (λ (x : Access F). x.tally) rest ∙ o.counted;
      ready = subst R (sym there) (record { all = over.all; on = over.on; free = free-as g start (view_after g start own) over.seat (record { ops = refl; owned = refl; turn = refl }) });
      due = subst (λ (r : List LineResult). D r c.loads) (sym o.results) (subst (λ n. D [] n) (sym o.loads) begins.due);
    })

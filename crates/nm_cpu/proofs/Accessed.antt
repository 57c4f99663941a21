-- An access of a line goes on, or is over.
use Rattle.std.proofs.Common.{◌≡◌, ℕ, List, [], ◌∷◌, ◌++◌, Option, sym, ap, ◌∙◌, subst, append_assoc}
use Rattle.std.proofs.lemmas.List.{append-nil}
use Rattle.nm_base.specs.Geometry.{Geometry}
use Rattle.nm_action.specs.declared.action.Action.{Action}
use Rattle.nm_action.specs.declared.turn.Turn.{Turn}
use Rattle.nm_action.specs.declared.turn.Heard.{Heard}
use Rattle.nm_action.specs.Own.{Own}
use Rattle.nm_flat.specs.declared.access.Access as flat
use Rattle.nm_view.specs.Views.{View}
use Rattle.nm_view.specs.Opening.{opening}
use Rattle.nm_actor.specs.Turns.{Turns, own_turn, own_list}
use Rattle.nm_actor.specs.Actors.{IsAnswer, IsAnswerTo, IsPermittedTurn, answered, HasHeard}
use Rattle.nm_access.specs.declared.access.Access.{Access}
use Rattle.nm_access.specs.declared.access.AccessStep.{AccessStep}
use Rattle.nm_access.specs.declared.access.AccessStep.TheVariants.{Give, Over}
use Rattle.nm_access.specs.Faults.{FaultKinds}
use Rattle.nm_access.specs.Accesses.{Carried}
use Rattle.nm_access.specs.Accessing.{IsAccessHeard, IsTouched, DoesTouch, view_then}
use Rattle.nm_access.specs.Moving.{AwaitsOf, IsStepOf}
use Rattle.nm_access.proofs.TurnSteps.{then-append}
use Rattle.nm_cpu.specs.declared.actor.Processor.{Processor}
use Rattle.nm_cpu.specs.declared.actor.CpuStage.{CpuStage}
use Rattle.nm_cpu.specs.declared.actor.CpuStage.TheVariants.{Accessing}
use Rattle.nm_cpu.specs.Lines.{own_accesses, FollowsSoFar}
use Rattle.nm_cpu.specs.Agreeing.{geometry_of, cpu_view, accesses_of_turns, line_touch, IsBetweenLines, IsUnderWay, HasTouched, IsAtAccess, IsAtCpuStage, IsAtCpuTurn, IsAdvanced}
use Rattle.nm_cpu.proofs.Silent.{accesses-push, silent-stage, touched-stage}
use Rattle.nm_cpu.proofs.Going.{access-given}

-- An access hears an answer.

pub at-access : {F M X : Type 0} (kinds : FaultKinds M X) (made_of : F → M) (awaits_of : F → Geometry → View → Own → Action → Type 0) (c : Processor F) (turns : Turns) (last : Option Turn) → c.stage ≡ Accessing → IsAtCpuTurn kinds made_of awaits_of c turns last → IsAtAccess kinds made_of awaits_of c turns last
at-access kinds made_of awaits_of c turns last at h = subst (λ (s : CpuStage). IsAtCpuStage kinds made_of awaits_of s c turns last) at h.at

access-answer : {F M X : Type 0} (kinds : FaultKinds M X) (made_of : F → M) (awaits_of : F → Geometry → View → Own → Action → Type 0) (c : Processor F) (turns : Turns) (last : Option Turn) (heard : Heard) → (a : IsAtAccess kinds made_of awaits_of c turns last) → IsAnswerTo (geometry_of c) (cpu_view c turns) last heard
    → IsAnswer (geometry_of c) (view_then (geometry_of c) (cpu_view c a.front) a.inner) a.turn heard
access-answer kinds made_of awaits_of c turns last heard a answer =
    let g = geometry_of c in
    let L : Option Turn → Type 0 = λ l. IsAnswerTo g (cpu_view c turns) l heard in
    let T : Turns → Type 0 = λ t. IsAnswer g (cpu_view c t) a.turn heard in
    subst (λ (v : View). IsAnswer g v a.turn heard) (then-append g (opening g c.made.number) a.front a.inner) (subst T a.run.is (subst L a.given answer))

pub access-heard : {F M X : Type 0} (kinds : FaultKinds M X) (made_of : F → M) (awaits_of : F → Geometry → View → Own → Action → Type 0) (c : Processor F) (heard : Heard) → c.stage ≡ Accessing
    → HasHeard (geometry_of c) c.made.number (IsAtCpuTurn kinds made_of awaits_of c) heard → IsAccessHeard (AwaitsOf kinds made_of awaits_of c.access) heard
access-heard kinds made_of awaits_of c heard at h =
    let a = at-access kinds made_of awaits_of c h.turns h.last at h.agreed in
    record { geometry = geometry_of c; was = a.run.held; view = cpu_view c a.front; turns = a.inner; turn = a.turn; awaited = a.awaited; answer = access-answer kinds made_of awaits_of c h.turns h.last heard a h.answer }

-- the turns with the answer
access-turns : {F M X : Type 0} (kinds : FaultKinds M X) (made_of : F → M) (awaits_of : F → Geometry → View → Own → Action → Type 0) (c : Processor F) (turns : Turns) (last : Option Turn) (heard : Heard) → (a : IsAtAccess kinds made_of awaits_of c turns last)
    → answered last heard turns ≡ a.front ++ (a.inner ++ (a.turn, heard) ∷ [])
access-turns kinds made_of awaits_of c turns last heard a = rw (a.given, a.run.is) (append_assoc a.front a.inner ((a.turn, heard) ∷ []))

-- the accesses with the answer
access-list : {F M X : Type 0} (kinds : FaultKinds M X) (made_of : F → M) (awaits_of : F → Geometry → View → Own → Action → Type 0) (c : Processor F) (turns : Turns) (last : Option Turn) (heard : Heard) (one : List flat.Access) → (a : IsAtAccess kinds made_of awaits_of c turns last)
    → own_accesses c.made.number (own_turn a.turn heard) ≡ one → accesses_of_turns c (answered last heard turns) ≡ accesses_of_turns c turns ++ one
access-list kinds made_of awaits_of c turns last heard one a is =
    let T : Option Turn → Type 0 = λ l. own_accesses c.made.number (own_list (answered l heard turns)) ≡ accesses_of_turns c turns ++ one in
    subst T (sym a.given) (accesses-push c.made.number turns a.turn heard ∙ ap (λ (l : List flat.Access). accesses_of_turns c turns ++ l) is)

-- what an access promises of a step
abbrev pub Steps : {F M X : Type 0} → FaultKinds M X → (F → M) → (F → Geometry → View → Own → Action → Type 0) → Access F → Access F → Heard → AccessStep → Type 0
Steps {F} {M} {X} kinds made_of awaits_of old new heard step = (g : Geometry) (was : Carried X) (view : View) (turns : Turns) (turn : Turn) → AwaitsOf kinds made_of awaits_of old g was view turns turn → IsAnswer g (view_then g view turns) turn heard
    → IsStepOf kinds made_of awaits_of new g was view (turns ++ (turn, heard) ∷ []) step

-- the access goes on
pub access-goes-on : {F M X : Type 0} (kinds : FaultKinds M X) (made_of : F → M) (awaits_of : F → Geometry → View → Own → Action → Type 0) (c : Processor F) (new : Access F) (heard : Heard) (step : AccessStep) (turn : Turn) (turns : Turns) (last : Option Turn)
    → c.stage ≡ Accessing → new.made ≡ c.access.made → step ≡ Give turn → DoesTouch c.access.stage heard step → Steps kinds made_of awaits_of c.access new heard step
    → IsAtCpuTurn kinds made_of awaits_of c turns last → IsAnswerTo (geometry_of c) (cpu_view c turns) last heard → IsAdvanced kinds made_of awaits_of (record c { access = new }) (answered last heard turns) turn
access-goes-on {F} {M} {X} kinds made_of awaits_of c new heard step turn turns last at same is touch steps h answer =
    let a = at-access kinds made_of awaits_of c turns last at h in
    let g = geometry_of c in
    let d : Processor F = record c { access = new } in
    let view = cpu_view c a.front in
    let inner : Turns = a.inner ++ (a.turn, heard) ∷ [] in
    let asked : IsStepOf kinds made_of awaits_of new g a.run.held view inner (Give turn) = subst (λ (s : AccessStep). IsStepOf kinds made_of awaits_of new g a.run.held view inner s) is
    (steps g a.run.held view a.inner a.turn a.awaited (access-answer kinds made_of awaits_of c turns last heard a answer)) in
    let quiet = silent-stage kinds c.access.made c.access.stage c.access.hinted (made_of c.access.fault) (awaits_of c.access.fault) c.access.cache a.awaited.ends g a.run.held view a.inner a.turn
    (subst (λ (s : AccessStep). DoesTouch c.access.stage heard s) is touch) a.awaited.at c.made.number heard in
    let list = access-turns kinds made_of awaits_of c turns last heard a in
    let all : accesses_of_turns c (answered last heard turns) ≡ accesses_of_turns c turns = access-list kinds made_of awaits_of c turns last heard [] a quiet ∙ append-nil (accesses_of_turns c turns) in
    let B : List flat.Access → Type 0 = λ l. FollowsSoFar c.made.number a.run.done (a.run.line ∷ a.run.lines) c.results.items c.loads l in
    let between : IsBetweenLines d a.run.done (a.run.line ∷ a.run.lines) a.run.more (answered last heard turns) = record {
      is = a.run.between.is;
      as_many = a.run.between.as_many;
      loads = a.run.between.loads;
      follows = subst B (sym all) a.run.between.follows;
    } in
    subst (λ (t : Turns). IsAdvanced kinds made_of awaits_of d t turn) (sym list)
    (access-given kinds made_of awaits_of d a.front inner turn a.run.done a.run.line a.run.lines a.run.more a.run.held at h.cpu h.room
    (subst (λ (t : Turns). IsBetweenLines d a.run.done (a.run.line ∷ a.run.lines) a.run.more t) list between) (same ∙ a.run.access) a.run.due
    (subst (λ (v : View). IsPermittedTurn g v turn) (sym (then-append g (opening g c.made.number) a.front inner)) asked.permitted) asked.awaited asked.begun)

-- the access is over
pub access-over : {F M X : Type 0} (kinds : FaultKinds M X) (made_of : F → M) (awaits_of : F → Geometry → View → Own → Action → Type 0) (c : Processor F) (new : Access F) (heard : Heard) (step : AccessStep) (word : ℕ) (turns : Turns) (last : Option Turn)
    → c.stage ≡ Accessing → new.made ≡ c.access.made → step ≡ Over word → DoesTouch c.access.stage heard step → Steps kinds made_of awaits_of c.access new heard step
    → IsAtCpuTurn kinds made_of awaits_of c turns last → IsAnswerTo (geometry_of c) (cpu_view c turns) last heard → HasTouched kinds (record c { access = new }) word (answered last heard turns)
access-over {F} {M} {X} kinds made_of awaits_of c new heard step word turns last at same is touch steps h answer =
    let a = at-access kinds made_of awaits_of c turns last at h in
    let g = geometry_of c in
    let view = cpu_view c a.front in
    let inner : Turns = a.inner ++ (a.turn, heard) ∷ [] in
    let over : IsStepOf kinds made_of awaits_of new g a.run.held view inner (Over word) = subst (λ (s : AccessStep). IsStepOf kinds made_of awaits_of new g a.run.held view inner s) is
    (steps g a.run.held view a.inner a.turn a.awaited (access-answer kinds made_of awaits_of c turns last heard a answer)) in
    let told : IsTouched c.access.stage heard word = subst (λ (s : AccessStep). DoesTouch c.access.stage heard s) is touch in
    let one = touched-stage kinds c.access.made c.access.stage c.access.hinted (made_of c.access.fault) (awaits_of c.access.fault) c.access.cache a.awaited.ends g a.run.held view a.inner a.turn heard c.made.number word a.run.line
    told.last told.told a.run.access a.awaited.at in
    record {
      cpu = h.cpu;
      way = record { done = a.run.done; line = a.run.line; lines = a.run.lines; more = a.run.more; is = a.run.between.is; as_many = a.run.between.as_many; loads = a.run.between.loads; room = h.room };
      list = accesses_of_turns c turns;
      follows = a.run.between.follows;
      touched = access-list kinds made_of awaits_of c turns last heard (line_touch c.made.number a.run.line word ∷ []) a one;
      front = a.front;
      inner = inner;
      is = access-turns kinds made_of awaits_of c turns last heard a;
      access = same ∙ a.run.access;
      held = a.run.held;
      due = a.run.due;
      over = over;
    }

-- a line is under way
pub under-way : {F M X : Type 0} (kinds : FaultKinds M X) (made_of : F → M) (awaits_of : F → Geometry → View → Own → Action → Type 0) (c : Processor F) (heard : Heard) → c.stage ≡ Accessing → HasHeard (geometry_of c) c.made.number (IsAtCpuTurn kinds made_of awaits_of c) heard → IsUnderWay c
under-way kinds made_of awaits_of c heard at h =
    let a = at-access kinds made_of awaits_of c h.turns h.last at h.agreed in
    record { done = a.run.done; line = a.run.line; lines = a.run.lines; more = a.run.more; is = a.run.between.is; as_many = a.run.between.as_many; loads = a.run.between.loads; room = h.agreed.room }

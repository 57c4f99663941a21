-- The event of an answer is counted, and the next turn is given.
use Rattle.std.proofs.Common.{◌≡◌, ℕ, [], ◌∷◌, ◌++◌, length, Option, Some, None, refl, sym, ap, ◌∙◌, subst}
use Rattle.std.proofs.lemmas.List.{append-nil}
use Rattle.nm_base.specs.Geometry.{Geometry, page_count}
use Rattle.nm_action.specs.declared.action.Action.{Action}
use Rattle.nm_action.specs.declared.action.Reply.{Reply}
use Rattle.nm_action.specs.declared.turn.Turn.{Turn}
use Rattle.nm_action.specs.declared.turn.Turn.TheVariants.{Do, Put, Take, End}
use Rattle.nm_action.specs.declared.turn.Heard.{Heard}
use Rattle.nm_action.specs.declared.turn.Heard.TheVariants.{Start, Answer, PutDone, PutFull, Took, TookNone}
use Rattle.nm_action.specs.Own.{Own}
use Rattle.nm_view.specs.Views.{View}
use Rattle.nm_tally.specs.declared.counter.Counter.{Counter}
use Rattle.nm_tally.specs.Counting.{IsCountable, CountsEvents}
use Rattle.nm_tally.proofs.Countable.{countable}
use Rattle.nm_actor.specs.Turns.{Turns, own_turn, own_list, turns_view}
use Rattle.nm_actor.specs.Actors.{IsAnswer, IsAnswerTo, IsPermittedTurn, IsTurn, answered, HasHeard}
use Rattle.nm_actor.proofs.TurnLists.{own-push}
use Rattle.nm_access.specs.Faults.{FaultKinds}
use Rattle.nm_cpu.specs.declared.actor.Processor.{Processor}
use Rattle.nm_cpu.specs.declared.actor.CpuStage.{CpuStage}
use Rattle.nm_cpu.specs.declared.actor.CpuStage.TheVariants.{New, Opening, Accessing, Ending, Over}
use Rattle.nm_cpu.specs.declared.made.CpuMade.{CpuMade}
use Rattle.nm_cpu.specs.Agreeing.{geometry_of, cpu_view, IsPermittedLast, IsKeptTurn, IsAtCpuStage, IsAtCpuTurn, IsAdvanced, FollowsCpu}

-- The event.

answers-do : (g : Geometry) (view : View) (turn : Turn) (reply : Reply) → IsAnswer g view turn (Answer reply) → (action : Action) × (turn ≡ Do action)
answers-do g view (Do action) reply h = (action, refl)
answers-do g view (Put lane page) reply h = absurd h
answers-do g view (Take lane) reply h = absurd h
answers-do g view End reply h = absurd h

-- the action whose reply is heard is the one that is kept
pub record IsActionKept {F M X : Type 0} (kinds : FaultKinds M X) (made_of : F → M) (awaits_of : F → Geometry → View → Own → Action → Type 0) (c : Processor F) (turns : Turns) (last : Option Turn) : Type 0 where
  pub action : Action
  pub given : c.given ≡ Do action
  pub last_is : last ≡ Some (Do action)

pub action-kept : {F M X : Type 0} (kinds : FaultKinds M X) (made_of : F → M) (awaits_of : F → Geometry → View → Own → Action → Type 0) (c : Processor F) (turns : Turns) (last : Option Turn) (reply : Reply)
    → IsKeptTurn c.given last → IsAnswerTo (geometry_of c) (cpu_view c turns) last (Answer reply) → IsActionKept kinds made_of awaits_of c turns last
action-kept kinds made_of awaits_of c turns None reply kept answer = absurd answer
action-kept kinds made_of awaits_of c turns (Some turn) reply kept answer =
    let a = answers-do (geometry_of c) (cpu_view c turns) turn reply answer in
    record { action = a.0; given = sym kept ∙ a.1; last_is = ap Some a.1 }

do-same : (a b : Action) → Do a ≡ Do b → a ≡ b
do-same a b e = cc

-- it can be counted
pub note-fits : {F M X : Type 0} (kinds : FaultKinds M X) (made_of : F → M) (awaits_of : F → Geometry → View → Own → Action → Type 0) (c : Processor F) (heard : Heard) (reply : Reply) (action : Action) → heard ≡ Answer reply → c.given ≡ Do action
    → HasHeard (geometry_of c) c.made.number (FollowsCpu kinds made_of awaits_of c) heard → IsCountable (length c.counter.locked.items) action
note-fits kinds made_of awaits_of c heard reply action is given h =
    let k = action-kept kinds made_of awaits_of c h.turns h.last reply h.agreed.kept (subst (λ (x : Heard). IsAnswerTo (geometry_of c) (cpu_view c h.turns) h.last x) is h.answer) in
    let L : Option Turn → Type 0 = λ l. IsPermittedLast (geometry_of c) (cpu_view c h.turns) l in
    let permitted = subst L k.last_is h.agreed.at.permitted in
    let N : ℕ → Type 0 = λ n. IsCountable n k.action in
    subst (λ (a : Action). IsCountable (length c.counter.locked.items) a) (do-same k.action action (sym k.given ∙ given)) (subst N (sym h.agreed.pages) (countable (geometry_of c) k.action permitted.range))

-- no other turn is kept where a reply is heard
pub note-do : {F M X : Type 0} (kinds : FaultKinds M X) (made_of : F → M) (awaits_of : F → Geometry → View → Own → Action → Type 0) (c : Processor F) (heard : Heard) (reply : Reply) (other : Turn) → heard ≡ Answer reply → c.given ≡ other → ((action : Action) → Do action ≡ other → ⊥)
    → HasHeard (geometry_of c) c.made.number (FollowsCpu kinds made_of awaits_of c) heard → ⊥
note-do kinds made_of awaits_of c heard reply other is given not h =
    let k = action-kept kinds made_of awaits_of c h.turns h.last reply h.agreed.kept (subst (λ (x : Heard). IsAnswerTo (geometry_of c) (cpu_view c h.turns) h.last x) is h.answer) in
    not k.action (sym k.given ∙ given)

-- a reply was counted
pub noted-reply : {F M X : Type 0} (kinds : FaultKinds M X) (made_of : F → M) (awaits_of : F → Geometry → View → Own → Action → Type 0) (c : Processor F) (counter : Counter) (heard : Heard) (reply : Reply) (action : Action) (turns : Turns) (last : Option Turn) → heard ≡ Answer reply → c.given ≡ Do action
    → ((own : Own) → CountsEvents c.counter own → CountsEvents counter (own ++ (action, reply) ∷ [])) → FollowsCpu kinds made_of awaits_of c turns last → IsAnswerTo (geometry_of c) (cpu_view c turns) last heard
    → CountsEvents counter (own_list (answered last heard turns))
noted-reply kinds made_of awaits_of c counter heard reply action turns last is given counts h answer =
    let k = action-kept kinds made_of awaits_of c turns last reply h.kept (subst (λ (x : Heard). IsAnswerTo (geometry_of c) (cpu_view c turns) last x) is answer) in
    let same : k.action ≡ action = do-same k.action action (sym k.given ∙ given) in
    let E : Own → Type 0 = λ l. CountsEvents counter l in
    let T : Option Turn → Heard → Type 0 = λ l x. CountsEvents counter (own_list (answered l x turns)) in
    let A : Action → Type 0 = λ a. T (Some (Do a)) (Answer reply) in
    subst (λ (l : Option Turn). T l heard) (sym k.last_is) (subst (λ (x : Heard). T (Some (Do k.action)) x) (sym is) (subst A (sym same)
    (subst E (sym (own-push turns (Do action) (Answer reply))) (counts (own_list turns) h.events))))

-- nothing was counted, since no reply was heard

abbrev pub IsNoReply : Heard → Type 0
IsNoReply heard = (reply : Reply) → heard ≡ Answer reply → ⊥

no-event : (g : Geometry) (view : View) (turn : Turn) (heard : Heard) → IsNoReply heard → IsAnswer g view turn heard → own_turn turn heard ≡ []
no-event g view (Do action) Start none h = refl
no-event g view (Do action) (Answer reply) none h = absurd (none reply refl)
no-event g view (Do action) PutDone none h = refl
no-event g view (Do action) PutFull none h = refl
no-event g view (Do action) (Took page) none h = refl
no-event g view (Do action) TookNone none h = refl
no-event g view (Put lane page) heard none h = refl
no-event g view (Take lane) heard none h = refl
no-event g view End heard none h = refl

same-list : (g : Geometry) (view : View) (turns : Turns) (last : Option Turn) (heard : Heard) → IsNoReply heard → IsAnswerTo g view last heard → own_list (answered last heard turns) ≡ own_list turns
same-list g view turns None heard none h = refl
same-list g view turns (Some turn) heard none h = own-push turns turn heard ∙ (ap (λ (l : Own). own_list turns ++ l) (no-event g view turn heard none h) ∙ append-nil (own_list turns))

pub noted-none : {F M X : Type 0} (kinds : FaultKinds M X) (made_of : F → M) (awaits_of : F → Geometry → View → Own → Action → Type 0) (c : Processor F) (heard : Heard) (turns : Turns) (last : Option Turn) → IsNoReply heard → FollowsCpu kinds made_of awaits_of c turns last
    → IsAnswerTo (geometry_of c) (cpu_view c turns) last heard → CountsEvents c.counter (own_list (answered last heard turns))
noted-none kinds made_of awaits_of c heard turns last none h answer = subst (λ (l : Own). CountsEvents c.counter l) (sym (same-list (geometry_of c) (cpu_view c turns) turns last heard none answer)) h.events

-- The turn.

-- a stage speaks of neither the counter nor the turn that is kept
at-kept : {F M X : Type 0} (kinds : FaultKinds M X) (made_of : F → M) (awaits_of : F → Geometry → View → Own → Action → Type 0) (stage : CpuStage) (c : Processor F) (counter : Counter) (turn : Turn) (turns : Turns) (last : Option Turn)
    → IsAtCpuStage kinds made_of awaits_of stage c turns last → IsAtCpuStage kinds made_of awaits_of stage (record c { counter = counter; given = turn }) turns last
at-kept kinds made_of awaits_of New c counter turn turns last h = record { none = h.none; start = h.start; fresh = h.fresh; results = h.results; loads = h.loads }
at-kept kinds made_of awaits_of Opening c counter turn turns last h = record {
  own = h.own;
  action = h.action;
  given = h.given;
  is = h.is;
  awaited = h.awaited;
  same = h.same;
  counted = h.counted;
  results = h.results;
  loads = h.loads;
  silent = h.silent;
}
at-kept kinds made_of awaits_of Accessing c counter turn turns last h = record {
  turn = h.turn;
  given = h.given;
  front = h.front;
  inner = h.inner;
  run = record {
    done = h.run.done;
    line = h.run.line;
    lines = h.run.lines;
    more = h.run.more;
    between = record { is = h.run.between.is; as_many = h.run.between.as_many; loads = h.run.between.loads; follows = h.run.between.follows };
    is = h.run.is;
    access = h.run.access;
    held = h.run.held;
    due = h.run.due;
  };
  awaited = h.awaited;
}
at-kept kinds made_of awaits_of Ending c counter turn turns last h = record { given = h.given; same = h.same; ends = h.ends; counted = h.counted; free = h.free; running = h.running; as_many = h.as_many; follows = h.follows; due = h.due }
at-kept kinds made_of awaits_of Over c counter turn turns last h = h

pub turn-kept : {F M X : Type 0} (kinds : FaultKinds M X) (made_of : F → M) (awaits_of : F → Geometry → View → Own → Action → Type 0) (c : Processor F) (counter : Counter) (turn : Turn) (turns : Turns) (last : Option Turn)
    → IsAtCpuTurn kinds made_of awaits_of c turns last → IsAtCpuTurn kinds made_of awaits_of (record c { counter = counter; given = turn }) turns last
turn-kept kinds made_of awaits_of c counter turn turns last h = record { cpu = h.cpu; room = h.room; next = h.next; permitted = h.permitted; left = h.left; at = at-kept kinds made_of awaits_of c.stage c counter turn turns last h.at }

-- what is agreed with speaks of all but the counter
pub at-noted : {F M X : Type 0} (kinds : FaultKinds M X) (made_of : F → M) (awaits_of : F → Geometry → View → Own → Action → Type 0) (c n : Processor F) (turns : Turns) (last : Option Turn) → n ≡ record c { counter = n.counter }
    → IsAtCpuTurn kinds made_of awaits_of c turns last → IsAtCpuTurn kinds made_of awaits_of n turns last
at-noted {F} kinds made_of awaits_of c n turns last rest h = subst (λ (x : Processor F). IsAtCpuTurn kinds made_of awaits_of x turns last) (sym rest) (turn-kept kinds made_of awaits_of c n.counter c.given turns last h)

answer-noted : {F : Type 0} (c n : Processor F) (turns : Turns) (last : Option Turn) (heard : Heard) → n ≡ record c { counter = n.counter } → IsAnswerTo (geometry_of c) (cpu_view c turns) last heard → IsAnswerTo (geometry_of n) (cpu_view n turns) last heard
answer-noted {F} c n turns last heard rest h = subst (λ (x : Processor F). IsAnswerTo (geometry_of x) (cpu_view x turns) last heard) (sym rest) h

-- the processor goes on with the counter
pub heard-noted : {F M X : Type 0} (kinds : FaultKinds M X) (made_of : F → M) (awaits_of : F → Geometry → View → Own → Action → Type 0) (c n : Processor F) (heard : Heard) → n ≡ record c { counter = n.counter }
    → HasHeard (geometry_of c) c.made.number (FollowsCpu kinds made_of awaits_of c) heard → HasHeard (geometry_of n) n.made.number (IsAtCpuTurn kinds made_of awaits_of n) heard
heard-noted kinds made_of awaits_of c n heard rest h =
    record { turns = h.turns; last = h.last; agreed = at-noted kinds made_of awaits_of c n h.turns h.last rest h.agreed.at; answer = answer-noted c n h.turns h.last heard rest h.answer }

pub turn-follows : {F M X : Type 0} (kinds : FaultKinds M X) (made_of : F → M) (awaits_of : F → Geometry → View → Own → Action → Type 0) (c n d : Processor F) (turn : Turn) (heard : Heard) (turns : Turns) (last : Option Turn)
    → n ≡ record c { counter = n.counter } → length n.counter.locked.items ≡ length c.counter.locked.items → CountsEvents n.counter (own_list (answered last heard turns)) → d.made ≡ n.made → d.counter ≡ n.counter
    → (IsAtCpuTurn kinds made_of awaits_of n turns last → IsAnswerTo (geometry_of n) (cpu_view n turns) last heard → IsAdvanced kinds made_of awaits_of d (answered last heard turns) turn)
    → FollowsCpu kinds made_of awaits_of c turns last → IsAnswerTo (geometry_of c) (cpu_view c turns) last heard
    → IsTurn (geometry_of c) c.made.number (FollowsCpu kinds made_of awaits_of (record d { given = turn })) (answered last heard turns) turn
turn-follows {F} kinds made_of awaits_of c n d turn heard turns last rest pages counts made counter advances h answer =
    let a = advances (at-noted kinds made_of awaits_of c n turns last rest h.at) (answer-noted c n turns last heard rest answer) in
    let same : d.made ≡ c.made = made ∙ ap (λ (x : Processor F). x.made) rest in
    let events : CountsEvents d.counter (own_list (answered last heard turns)) = subst (λ (k : Counter). CountsEvents k (own_list (answered last heard turns))) (sym counter) counts in
    let view = cpu_view d (answered last heard turns) in
    record {
      agreed = record {
        part = a.part d.counter.tally events.tally;
        at = turn-kept kinds made_of awaits_of d d.counter turn (answered last heard turns) (Some turn) a.at;
        events = events;
        pages = ap (λ (k : Counter). length k.locked.items) counter ∙ (pages ∙ (h.pages ∙ sym (ap (λ (m : CpuMade). page_count m.geometry.now) same)));
        kept = refl;
      };
      permitted = subst (λ (m : CpuMade). IsPermittedTurn m.geometry.now (turns_view m.geometry.now m.number (answered last heard turns)) turn) same a.at.permitted;
    }

-- The actors of a machine, of which one gives a turn.
use Rattle.std.proofs.Common.{◌≡◌, ◌≢◌, ◌<◌, ◌+◌, ℕ, zero, suc, List, [], ◌∷◌, length, get_or, set, map, Option, Some, refl, sym, ap, subst, ◌∙◌, arith}
use Rattle.nm_base.specs.Geometry.{Geometry}
use Rattle.nm_action.specs.declared.turn.Turn.{Turn}
use Rattle.nm_action.specs.declared.turn.Heard.{Heard}
use Rattle.nm_actor.specs.Turns.{Turns, turns_view}
use Rattle.nm_actor.specs.Actors.{answered, IsAnswerTo, IsPermittedTurn, HasHeard, IsTurn}
use Rattle.nm_play.specs.Crews.{AtActor, IsAgreeing}

-- ---- one actor

-- it hears what answers its last turn
pub agreeing-heard : {M : Type 0} (geometry : M → Geometry) (number : M → ℕ) (made : M) (agrees : Turns → Option Turn → Type 0) (g : Geometry) (actor : ℕ) (turns : Turns) (last : Option Turn) (heard : Heard)
    → IsAgreeing geometry number made agrees g actor turns last → IsAnswerTo g (turns_view g actor turns) last heard → HasHeard (geometry made) (number made) agrees heard
agreeing-heard geometry number made agrees g actor turns last heard h a =
    let P : Geometry → Type 0 = λ k. IsAnswerTo k (turns_view k actor turns) last heard in
    let Q : ℕ → Type 0 = λ n. IsAnswerTo (geometry made) (turns_view (geometry made) n turns) last heard in
    record { turns = turns; last = last; agreed = h.agreed; answer = subst Q (sym h.same) (subst P (sym h.machine) a) }

-- the turn that an actor gave next
pub record IsNext {M : Type 0} (geometry : M → Geometry) (number : M → ℕ) (made : M) (agrees : Turns → Option Turn → Type 0) (g : Geometry) (actor : ℕ) (turns : Turns) (turn : Turn) : Type 0 where
  pub agreeing : IsAgreeing geometry number made agrees g actor turns (Some turn)
  pub permitted : IsPermittedTurn g (turns_view g actor turns) turn

pub agreeing-next : {M : Type 0} (geometry : M → Geometry) (number : M → ℕ) (made made' : M) (agrees agrees' : Turns → Option Turn → Type 0) (g : Geometry) (actor : ℕ) (turns : Turns) (last : Option Turn) (heard : Heard) (turn : Turn)
    → IsAgreeing geometry number made agrees g actor turns last → IsAnswerTo g (turns_view g actor turns) last heard → made' ≡ made
    → ((turns : Turns) (last : Option Turn) → agrees turns last → IsAnswerTo (geometry made) (turns_view (geometry made) (number made) turns) last heard → IsTurn (geometry made) (number made) agrees' (answered last heard turns) turn)
    → IsNext geometry number made' agrees' g actor (answered last heard turns) turn
agreeing-next {M} geometry number made made' agrees agrees' g actor turns last heard turn h a same next =
    let P : Geometry → Type 0 = λ k. IsAnswerTo k (turns_view k actor turns) last heard in
    let Q : ℕ → Type 0 = λ n. IsAnswerTo (geometry made) (turns_view (geometry made) n turns) last heard in
    let t = next turns last h.agreed (subst Q (sym h.same) (subst P (sym h.machine) a)) in
    let G : Geometry → Type 0 = λ k. IsPermittedTurn k (turns_view k actor (answered last heard turns)) turn in
    let N : ℕ → Type 0 = λ n. IsPermittedTurn (geometry made) (turns_view (geometry made) n (answered last heard turns)) turn in
    record {
      agreeing = record { machine = ap geometry same ∙ h.machine; same = ap number same ∙ h.same; agreed = t.agreed };
      permitted = subst G h.machine (subst N h.same t.permitted);
    }

-- ---- among all

-- the actor of a number is a processor
pub at-cpu : {C : Type 0} (cpu : C → Type 0) (m r : Type 0) (cpus : List C) (actor : ℕ) (d : C) → actor < length cpus → AtActor cpu m r cpus actor → cpu (get_or cpus actor d)
at-cpu cpu m r [] actor d lt h = absurd (omega (arith, lt))
at-cpu cpu m r (c ∷ cpus) zero d lt h = h
at-cpu cpu m r (c ∷ cpus) (suc actor) d lt h = at-cpu cpu m r cpus actor d (omega (arith, lt)) h

pub set-cpu : {C : Type 0} (cpu : C → Type 0) (m r : Type 0) (cpus : List C) (actor : ℕ) (c : C) → actor < length cpus → cpu c → AtActor cpu m r (set cpus actor c) actor
set-cpu cpu m r [] actor c lt h = absurd (omega (arith, lt))
set-cpu cpu m r (x ∷ cpus) zero c lt h = h
set-cpu cpu m r (x ∷ cpus) (suc actor) c lt h = set-cpu cpu m r cpus actor c (omega (arith, lt)) h

-- another actor
pub set-other : {C : Type 0} (cpu : C → Type 0) (m r : Type 0) (cpus : List C) (actor other : ℕ) (c : C) → other ≢ actor → AtActor cpu m r cpus other → AtActor cpu m r (set cpus actor c) other
set-other cpu m r [] actor other c n h = h
set-other cpu m r (x ∷ cpus) zero zero c n h = absurd (n refl)
set-other cpu m r (x ∷ cpus) zero (suc other) c n h = h
set-other cpu m r (x ∷ cpus) (suc actor) zero c n h = h
set-other cpu m r (x ∷ cpus) (suc actor) (suc other) c n h = set-other cpu m r cpus actor other c (λ e. n (ap suc e)) h

pub map-set : {C A : Type 0} (f : C → A) (cpus : List C) (actor : ℕ) (c d : C) → actor < length cpus → f c ≡ f (get_or cpus actor d) → map f (set cpus actor c) ≡ map f cpus
map-set f [] actor c d lt e = refl
map-set f (x ∷ cpus) zero c d lt e = ap (λ y. y ∷ map f cpus) e
map-set f (x ∷ cpus) (suc actor) c d lt e = ap (λ l. f x ∷ l) (map-set f cpus actor c d (omega (arith, lt)) e)

-- the actor of a number is the migrator
pub at-migrator : {C : Type 0} (cpu : C → Type 0) (m r : Type 0) (cpus : List C) (actor : ℕ) → actor ≡ length cpus → AtActor cpu m r cpus actor → m
at-migrator cpu m r [] actor e h = let P : ℕ → Type 0 = λ a. AtActor cpu m r [] a in subst P e h
at-migrator cpu m r (c ∷ cpus) zero e h = absurd (omega (arith, e))
at-migrator cpu m r (c ∷ cpus) (suc actor) e h = at-migrator cpu m r cpus actor (omega (arith, e)) h

pub is-migrator : {C : Type 0} (cpu : C → Type 0) (m r : Type 0) (cpus : List C) (actor : ℕ) → actor ≡ length cpus → m → AtActor cpu m r cpus actor
is-migrator cpu m r [] actor e h = let P : ℕ → Type 0 = λ a. AtActor cpu m r [] a in subst P (sym e) h
is-migrator cpu m r (c ∷ cpus) zero e h = absurd (omega (arith, e))
is-migrator cpu m r (c ∷ cpus) (suc actor) e h = is-migrator cpu m r cpus actor (omega (arith, e)) h

-- it is the reclaimer
pub at-reclaimer : {C : Type 0} (cpu : C → Type 0) (m r : Type 0) (cpus : List C) (actor : ℕ) → length cpus < actor → AtActor cpu m r cpus actor → r
at-reclaimer cpu m r [] zero lt h = absurd (omega (arith, lt))
at-reclaimer cpu m r [] (suc zero) lt h = h
at-reclaimer cpu m r [] (suc (suc actor)) lt h = absurd h
at-reclaimer cpu m r (c ∷ cpus) zero lt h = absurd (omega (arith, lt))
at-reclaimer cpu m r (c ∷ cpus) (suc actor) lt h = at-reclaimer cpu m r cpus actor (omega (arith, lt)) h

-- what is said of the actor of a number, in other words
pub at-other : {C : Type 0} (cpu cpu' : C → Type 0) (m m' r r' : Type 0) (cpus : List C) (actor other : ℕ) → other ≢ actor → ((c : C) → cpu c → cpu' c)
    → (length cpus ≢ actor → m → m') → (length cpus + 1 ≢ actor → r → r') → AtActor cpu m r cpus other → AtActor cpu' m' r' cpus other
at-other cpu cpu' m m' r r' [] actor zero n f fm fr h = fm n h
at-other cpu cpu' m m' r r' [] actor (suc zero) n f fm fr h = fr (λ e. n (let z : 1 ≡ 0 + 1 = omega arith in z ∙ e)) h
at-other cpu cpu' m m' r r' [] actor (suc (suc other)) n f fm fr h = absurd h
at-other cpu cpu' m m' r r' (c ∷ cpus) actor zero n f fm fr h = f c h
at-other cpu cpu' m m' r r' (c ∷ cpus) zero (suc other) n f fm fr h = at-other cpu cpu' m m' r r' cpus (length cpus + 2 + other) other (λ e. omega (arith, e)) f (λ k. fm (λ e. omega (arith, e))) (λ k. fr (λ e. omega (arith, e))) h
at-other cpu cpu' m m' r r' (c ∷ cpus) (suc actor) (suc other) n f fm fr h =
    at-other cpu cpu' m m' r r' cpus actor other (λ e. n (ap suc e)) f (λ k. fm (λ e. k (omega (arith, e)))) (λ k. fr (λ e. k (omega (arith, e)))) h

-- the reclaimer changed, at its number
pub is-reclaimer : {C : Type 0} (cpu cpu' : C → Type 0) (m m' r r' : Type 0) (cpus : List C) (actor : ℕ) → length cpus < actor → r' → AtActor cpu m r cpus actor → AtActor cpu' m' r' cpus actor
is-reclaimer cpu cpu' m m' r r' [] zero lt k h = absurd (omega (arith, lt))
is-reclaimer cpu cpu' m m' r r' [] (suc zero) lt k h = k
is-reclaimer cpu cpu' m m' r r' [] (suc (suc actor)) lt k h = absurd h
is-reclaimer cpu cpu' m m' r r' (c ∷ cpus) zero lt k h = absurd (omega (arith, lt))
is-reclaimer cpu cpu' m m' r r' (c ∷ cpus) (suc actor) lt k h = is-reclaimer cpu cpu' m m' r r' cpus actor (omega (arith, lt)) k h

pub reclaimer-number : {C : Type 0} (cpu : C → Type 0) (m r : Type 0) (cpus : List C) (actor : ℕ) → length cpus < actor → AtActor cpu m r cpus actor → actor ≡ length cpus + 1
reclaimer-number cpu m r [] zero lt h = absurd (omega (arith, lt))
reclaimer-number cpu m r [] (suc zero) lt h = omega arith
reclaimer-number cpu m r [] (suc (suc actor)) lt h = absurd h
reclaimer-number cpu m r (c ∷ cpus) zero lt h = absurd (omega (arith, lt))
reclaimer-number cpu m r (c ∷ cpus) (suc actor) lt h = let e = reclaimer-number cpu m r cpus actor (omega (arith, lt)) h in omega (arith, e)

-- ---- a crew

-- what is told of a kind of actor
pub record Kind (X XMade : Type 0) : Type 1 where
  pub geometry : XMade → Geometry
  pub number : XMade → ℕ
  pub made : X → XMade
  pub agrees : X → Turns → Option Turn → Type 0

abbrev pub Says : {X XMade : Type 0} → Kind X XMade → X → Geometry → ℕ → Turns → Option Turn → Type 0
Says k x g actor turns last = IsAgreeing k.geometry k.number (k.made x) (k.agrees x) g actor turns last

abbrev pub machine_of : {X XMade : Type 0} → Kind X XMade → X → Geometry
machine_of k x = k.geometry (k.made x)

abbrev pub Agrees : {C CMade M MMade R RMade : Type 0} → Kind C CMade → Kind M MMade → Kind R RMade → List C → M → R → ℕ → Turns → Option Turn → Type 0
Agrees kc km kr cpus m r actor turns last =
    AtActor (λ c. Says kc c (machine_of km m) actor turns last) (Says km m (machine_of km m) actor turns last) (Says kr r (machine_of km m) actor turns last) cpus actor

-- what an actor promises of its next turn
abbrev pub Promises : {X XMade : Type 0} → Kind X XMade → X → X → Heard → Turn → Type 0
Promises k x x' heard turn = (turns : Turns) (last : Option Turn) → k.agrees x turns last → IsAnswerTo (machine_of k x) (turns_view (machine_of k x) (k.number (k.made x)) turns) last heard
    → IsTurn (machine_of k x) (k.number (k.made x)) (k.agrees x') (answered last heard turns) turn

cpu-says : {C CMade M MMade R RMade : Type 0} (kc : Kind C CMade) (km : Kind M MMade) (kr : Kind R RMade) (cpus : List C) (m : M) (r : R) (actor : ℕ) (x : C) (turns : Turns) (last : Option Turn)
    → actor < length cpus → x ≡ get_or cpus actor x → Agrees kc km kr cpus m r actor turns last → Says kc x (machine_of km m) actor turns last
cpu-says {C} kc km kr cpus m r actor x turns last lt at h =
    let P : C → Type 0 = λ c. Says kc c (machine_of km m) actor turns last in
    subst P (sym at) (at-cpu (λ c. Says kc c (machine_of km m) actor turns last) (Says km m (machine_of km m) actor turns last) (Says kr r (machine_of km m) actor turns last) cpus actor x lt h)

pub cpu-heard : {C CMade M MMade R RMade : Type 0} (kc : Kind C CMade) (km : Kind M MMade) (kr : Kind R RMade) (cpus : List C) (m : M) (r : R) (actor : ℕ) (x : C) (heard : Heard)
    → actor < length cpus → x ≡ get_or cpus actor x → HasHeard (machine_of km m) actor (Agrees kc km kr cpus m r actor) heard → HasHeard (machine_of kc x) (kc.number (kc.made x)) (kc.agrees x) heard
cpu-heard kc km kr cpus m r actor x heard lt at h =
    agreeing-heard kc.geometry kc.number (kc.made x) (kc.agrees x) (machine_of km m) actor h.turns h.last heard (cpu-says kc km kr cpus m r actor x h.turns h.last lt at h.agreed) h.answer

pub cpu-turn : {C CMade M MMade R RMade : Type 0} (kc : Kind C CMade) (km : Kind M MMade) (kr : Kind R RMade) (cpus : List C) (m : M) (r : R) (actor : ℕ) (x x' : C) (heard : Heard) (turn : Turn)
    → actor < length cpus → x ≡ get_or cpus actor x → kc.made x' ≡ kc.made x → Promises kc x x' heard turn
    → (turns : Turns) (last : Option Turn) → Agrees kc km kr cpus m r actor turns last → IsAnswerTo (machine_of km m) (turns_view (machine_of km m) actor turns) last heard
    → IsTurn (machine_of km m) actor (Agrees kc km kr (set cpus actor x') m r actor) (answered last heard turns) turn
cpu-turn kc km kr cpus m r actor x x' heard turn lt at same next turns last h a =
    let g = machine_of km m in
    let n = agreeing-next kc.geometry kc.number (kc.made x) (kc.made x') (kc.agrees x) (kc.agrees x') g actor turns last heard turn (cpu-says kc km kr cpus m r actor x turns last lt at h) a same next in
    let done = answered last heard turns in
    record {
      agreed = set-cpu (λ c. Says kc c g actor done (Some turn)) (Says km m g actor done (Some turn)) (Says kr r g actor done (Some turn)) cpus actor x' lt n.agreeing;
      permitted = n.permitted;
    }

pub cpu-others : {C CMade M MMade R RMade : Type 0} (kc : Kind C CMade) (km : Kind M MMade) (kr : Kind R RMade) (cpus : List C) (m : M) (r : R) (actor : ℕ) (x' : C)
    → (other : ℕ) (turns : Turns) (last : Option Turn) → other ≢ actor → Agrees kc km kr cpus m r other turns last → Agrees kc km kr (set cpus actor x') m r other turns last
cpu-others kc km kr cpus m r actor x' other turns last n h =
    let g = machine_of km m in
    set-other (λ c. Says kc c g other turns last) (Says km m g other turns last) (Says kr r g other turns last) cpus actor other x' n h

moved : {X XMade : Type 0} (k : Kind X XMade) (x : X) (g g' : Geometry) (actor : ℕ) (turns : Turns) (last : Option Turn) → g ≡ g' → Says k x g actor turns last → Says k x g' actor turns last
moved k x g g' actor turns last e h = record { machine = h.machine ∙ e; same = h.same; agreed = h.agreed }

pub migrator-heard : {C CMade M MMade R RMade : Type 0} (kc : Kind C CMade) (km : Kind M MMade) (kr : Kind R RMade) (cpus : List C) (m : M) (r : R) (actor : ℕ) (heard : Heard)
    → actor ≡ length cpus → HasHeard (machine_of km m) actor (Agrees kc km kr cpus m r actor) heard → HasHeard (machine_of km m) (km.number (km.made m)) (km.agrees m) heard
migrator-heard kc km kr cpus m r actor heard e h =
    let g = machine_of km m in
    agreeing-heard km.geometry km.number (km.made m) (km.agrees m) g actor h.turns h.last heard
    (at-migrator (λ c. Says kc c g actor h.turns h.last) (Says km m g actor h.turns h.last) (Says kr r g actor h.turns h.last) cpus actor e h.agreed) h.answer

pub migrator-turn : {C CMade M MMade R RMade : Type 0} (kc : Kind C CMade) (km : Kind M MMade) (kr : Kind R RMade) (cpus : List C) (m m' : M) (r : R) (actor : ℕ) (heard : Heard) (turn : Turn)
    → actor ≡ length cpus → km.made m' ≡ km.made m → Promises km m m' heard turn
    → (turns : Turns) (last : Option Turn) → Agrees kc km kr cpus m r actor turns last → IsAnswerTo (machine_of km m) (turns_view (machine_of km m) actor turns) last heard
    → IsTurn (machine_of km m) actor (Agrees kc km kr cpus m' r actor) (answered last heard turns) turn
migrator-turn kc km kr cpus m m' r actor heard turn e same next turns last h a =
    let g = machine_of km m in
    let g' = machine_of km m' in
    let done = answered last heard turns in
    let n = agreeing-next km.geometry km.number (km.made m) (km.made m') (km.agrees m) (km.agrees m') g actor turns last heard turn
    (at-migrator (λ c. Says kc c g actor turns last) (Says km m g actor turns last) (Says kr r g actor turns last) cpus actor e h) a same next in
    record {
      agreed = is-migrator (λ c. Says kc c g' actor done (Some turn)) (Says km m' g' actor done (Some turn)) (Says kr r g' actor done (Some turn)) cpus actor e
          (moved km m' g g' actor done (Some turn) (sym (ap km.geometry same)) n.agreeing);
      permitted = n.permitted;
    }

pub migrator-others : {C CMade M MMade R RMade : Type 0} (kc : Kind C CMade) (km : Kind M MMade) (kr : Kind R RMade) (cpus : List C) (m m' : M) (r : R) (actor : ℕ) → actor ≡ length cpus → km.made m' ≡ km.made m
    → (other : ℕ) (turns : Turns) (last : Option Turn) → other ≢ actor → Agrees kc km kr cpus m r other turns last → Agrees kc km kr cpus m' r other turns last
migrator-others kc km kr cpus m m' r actor e same other turns last n h =
    let g = machine_of km m in
    let g' = machine_of km m' in
    let to : g ≡ g' = sym (ap km.geometry same) in
    at-other (λ c. Says kc c g other turns last) (λ c. Says kc c g' other turns last) (Says km m g other turns last) (Says km m' g' other turns last) (Says kr r g other turns last) (Says kr r g' other turns last) cpus actor other n
    (λ c k. moved kc c g g' other turns last to k) (λ k x. absurd (k (sym e))) (λ k x. moved kr r g g' other turns last to x) h

reclaimer-says : {C CMade M MMade R RMade : Type 0} (kc : Kind C CMade) (km : Kind M MMade) (kr : Kind R RMade) (cpus : List C) (m : M) (r : R) (actor : ℕ) (turns : Turns) (last : Option Turn)
    → length cpus < actor → Agrees kc km kr cpus m r actor turns last → Says kr r (machine_of km m) actor turns last
reclaimer-says kc km kr cpus m r actor turns last lt h =
    let g = machine_of km m in
    at-reclaimer (λ c. Says kc c g actor turns last) (Says km m g actor turns last) (Says kr r g actor turns last) cpus actor lt h

pub reclaimer-heard : {C CMade M MMade R RMade : Type 0} (kc : Kind C CMade) (km : Kind M MMade) (kr : Kind R RMade) (cpus : List C) (m : M) (r : R) (actor : ℕ) (heard : Heard)
    → length cpus < actor → HasHeard (machine_of km m) actor (Agrees kc km kr cpus m r actor) heard → HasHeard (machine_of kr r) (kr.number (kr.made r)) (kr.agrees r) heard
reclaimer-heard kc km kr cpus m r actor heard lt h =
    agreeing-heard kr.geometry kr.number (kr.made r) (kr.agrees r) (machine_of km m) actor h.turns h.last heard (reclaimer-says kc km kr cpus m r actor h.turns h.last lt h.agreed) h.answer

pub reclaimer-turn : {C CMade M MMade R RMade : Type 0} (kc : Kind C CMade) (km : Kind M MMade) (kr : Kind R RMade) (cpus : List C) (m : M) (r r' : R) (actor : ℕ) (heard : Heard) (turn : Turn)
    → length cpus < actor → kr.made r' ≡ kr.made r → Promises kr r r' heard turn
    → (turns : Turns) (last : Option Turn) → Agrees kc km kr cpus m r actor turns last → IsAnswerTo (machine_of km m) (turns_view (machine_of km m) actor turns) last heard
    → IsTurn (machine_of km m) actor (Agrees kc km kr cpus m r' actor) (answered last heard turns) turn
reclaimer-turn kc km kr cpus m r r' actor heard turn lt same next turns last h a =
    let g = machine_of km m in
    let done = answered last heard turns in
    let n = agreeing-next kr.geometry kr.number (kr.made r) (kr.made r') (kr.agrees r) (kr.agrees r') g actor turns last heard turn (reclaimer-says kc km kr cpus m r actor turns last lt h) a same next in
    record {
      agreed = is-reclaimer (λ c. Says kc c g actor turns last) (λ c. Says kc c g actor done (Some turn)) (Says km m g actor turns last) (Says km m g actor done (Some turn)) (Says kr r g actor turns last) (Says kr r' g actor done (Some turn)) cpus actor lt n.agreeing h;
      permitted = n.permitted;
    }

pub reclaimer-others : {C CMade M MMade R RMade : Type 0} (kc : Kind C CMade) (km : Kind M MMade) (kr : Kind R RMade) (cpus : List C) (m : M) (r r' : R) (actor : ℕ) (heard : Heard) → length cpus < actor
    → HasHeard (machine_of km m) actor (Agrees kc km kr cpus m r actor) heard
    → (other : ℕ) (turns : Turns) (last : Option Turn) → other ≢ actor → Agrees kc km kr cpus m r other turns last → Agrees kc km kr cpus m r' other turns last
reclaimer-others kc km kr cpus m r r' actor heard lt has other turns last n h =
    let g = machine_of km m in
    let e = reclaimer-number (λ c. Says kc c g actor has.turns has.last) (Says km m g actor has.turns has.last) (Says kr r g actor has.turns has.last) cpus actor lt has.agreed in
    at-other (λ c. Says kc c g other turns last) (λ c. Says kc c g other turns last) (Says km m g other turns last) (Says km m g other turns last) (Says kr r g other turns last) (Says kr r' g other turns last) cpus actor other n
    (λ c k. k) (λ k x. x) (λ k x. absurd (k (sym e))) h

-- ---- for those who make a crew

-- what is said of no actor of any kind is said of no actor
pub at-never : {C : Type 0} (cpu : C → Type 0) (m r : Type 0) (cpus : List C) (actor : ℕ) → ((c : C) → cpu c → ⊥) → (m → ⊥) → (r → ⊥) → AtActor cpu m r cpus actor → ⊥
at-never cpu m r [] zero fc fm fr h = fm h
at-never cpu m r [] (suc zero) fc fm fr h = fr h
at-never cpu m r [] (suc (suc actor)) fc fm fr h = h
at-never cpu m r (c ∷ cpus) zero fc fm fr h = fc c h
at-never cpu m r (c ∷ cpus) (suc actor) fc fm fr h = at-never cpu m r cpus actor fc fm fr h

-- what is said of each processor, of the migrator and of the reclaimer is said of each actor
pub at-each : {C : Type 0} (cpu : C → Type 0) (m r : Type 0) (cpus : List C) (actor : ℕ) → actor < length cpus + 2 → ((d : C) → actor < length cpus → cpu (get_or cpus actor d)) → m → r → AtActor cpu m r cpus actor
at-each cpu m r [] zero lt fc fm fr = fm
at-each cpu m r [] (suc zero) lt fc fm fr = fr
at-each cpu m r [] (suc (suc actor)) lt fc fm fr = absurd (omega (arith, lt))
at-each cpu m r (c ∷ cpus) zero lt fc fm fr = fc c (omega arith)
at-each cpu m r (c ∷ cpus) (suc actor) lt fc fm fr = at-each cpu m r cpus actor (omega (arith, lt)) (λ d l. fc d (omega (arith, l))) fm fr

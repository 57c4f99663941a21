-- A crew of actors that give turns from lists.
use Rattle.std.proofs.Common.{◌≡◌, ◌<◌, ◌+◌, ℕ, zero, suc, List, [], ◌∷◌, length, get_or, Option, Some, None, refl, sym, ap, subst, ◌∙◌, arith}
use Rattle.nm_base.specs.Geometry.{Geometry}
use Rattle.nm_action.specs.declared.turn.Turn.{Turn}
use Rattle.nm_action.specs.declared.turn.Turn.TheVariants.{End}
use Rattle.nm_view.specs.Opening.{IsActor}
use Rattle.nm_actor.specs.Turns.{Turns}
use Rattle.nm_play.specs.declared.crew.Actors.{Actors}
use Rattle.nm_play.specs.Crews.{AtActor, IsAgreeing, MayStart}
use Rattle.nm_play.proofs.Members.{at-never}
use Rattle.nm_schedule_rows.specs.declared.listed.Listed.{Listed}
use Rattle.nm_schedule_rows.specs.Listed.{IsSmall, IsListed}

abbrev pub Says : Listed → Geometry → ℕ → Turns → Option Turn → Type 0
Says l g actor turns last = IsAgreeing {M = Geometry × ℕ} (λ made. made.0) (λ made. made.1) (l.geometry.now, l.number) (λ done last. IsListed l.geometry.now l.turns.now l.given l.last done last) g actor turns last

abbrev pub SaysAll : Actors Listed Listed Listed → ℕ → Turns → Option Turn → Type 0
SaysAll s actor turns last =
    AtActor (λ l. Says l s.migrator.geometry.now actor turns last) (Says s.migrator s.migrator.geometry.now actor turns last) (Says s.reclaimer s.migrator.geometry.now actor turns last) s.cpus.items actor

-- an actor that gave nothing, at its place in a machine
pub record IsReady (g : Geometry) (number : ℕ) (l : Listed) : Type 0 where
  pub machine : l.geometry.now ≡ g
  pub same : l.number ≡ number
  pub listed : IsListed l.geometry.now l.turns.now l.given l.last [] None

ready-says : (g machine : Geometry) (number actor : ℕ) (l : Listed) → machine ≡ g → actor ≡ number → IsReady g number l → Says l machine actor [] None
ready-says g machine number actor l m e h = record { machine = h.machine ∙ sym m; same = h.same ∙ sym e; agreed = h.listed }

never-ends : (l : Listed) (g : Geometry) (actor : ℕ) → ¬ Says l g actor [] (Some End)
never-ends l g actor h = let b = h.agreed.begun in omega (arith, b)

-- each of three actors
first : (g machine : Geometry) → machine ≡ g → (cpu migrator reclaimer : Listed) → IsReady g 0 cpu → IsReady g 1 migrator → IsReady g 2 reclaimer → (actor : ℕ) → actor < 3
    → AtActor (λ l. Says l machine actor [] None) (Says migrator machine actor [] None) (Says reclaimer machine actor [] None) (cpu ∷ []) actor
first g machine e cpu migrator reclaimer c m r zero lt = ready-says g machine 0 0 cpu e refl c
first g machine e cpu migrator reclaimer c m r (suc zero) lt = ready-says g machine 1 (suc zero) migrator e (omega arith) m
first g machine e cpu migrator reclaimer c m r (suc (suc zero)) lt = ready-says g machine 2 (suc (suc zero)) reclaimer e (omega arith) r
first g machine e cpu migrator reclaimer c m r (suc (suc (suc actor))) lt = absurd (omega (arith, lt))

-- the actors may start
pub listed-start : (g : Geometry) (cpu : Listed) (crew : Actors Listed Listed Listed) → crew.cpus.items ≡ cpu ∷ [] → g.cpus ≡ 1
    → IsReady g 0 cpu → IsReady g 1 crew.migrator → IsReady g 2 crew.reclaimer → MayStart g SaysAll crew
listed-start g cpu crew is one c m r = record {
  opens = λ actor there. (
      let machine = crew.migrator.geometry.now in
      let P : List Listed → Type 0 = λ l. AtActor (λ l. Says l machine actor [] None) (Says crew.migrator machine actor [] None) (Says crew.reclaimer machine actor [] None) l actor in
      subst P (sym is) (first g machine m.machine cpu crew.migrator crew.reclaimer c m r actor (omega (arith, there, one))));
  acts = λ other actor. at-never (λ l. Says l other.migrator.geometry.now actor [] (Some End)) (Says other.migrator other.migrator.geometry.now actor [] (Some End)) (Says other.reclaimer other.migrator.geometry.now actor [] (Some End)) other.cpus.items actor
      (λ l. never-ends l other.migrator.geometry.now actor) (never-ends other.migrator other.migrator.geometry.now actor) (never-ends other.reclaimer other.migrator.geometry.now actor);
}

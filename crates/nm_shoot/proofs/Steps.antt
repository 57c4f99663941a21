-- The steps of a shootdown.
use Rattle.std.proofs.Common.{◌≡◌, ℕ, ◌+◌, ◌-◌, ◌<◌, ◌≤◌, nat_lt, if◌then◌else◌, Bool, true, false, List, [], ◌∷◌, ◌++◌, length, replicate, refl, sym, ap, subst, append_assoc, arith}
use Rattle.std.proofs.lemmas.List.{length-replicate, length-append, append-nil}
use Rattle.std.proofs.lemmas.List.Elements.{All-append, All-nil}
use Rattle.nm_base.specs.Geometry.{Geometry}
use Rattle.nm_action.specs.declared.action.Action.{Action}
use Rattle.nm_action.specs.declared.action.Action.TheVariants.{Bump, SeeAck}
use Rattle.nm_action.specs.declared.action.Reply.{Reply}
use Rattle.nm_action.specs.declared.action.Reply.TheVariants.{Word}
use Rattle.nm_action.specs.declared.turn.Step.{Step}
use Rattle.nm_action.specs.declared.turn.Step.TheVariants.{Do, Over}
use Rattle.nm_view.specs.Views.{View}
use Rattle.nm_action.specs.Own.{Own}
use Rattle.nm_part.specs.Parts.{IsBegun, IsBegunWith, IsPartStep, NothingTold}
use Rattle.nm_shoot.specs.declared.shoot.Shoot.{Shoot}
use Rattle.nm_shoot.specs.declared.shoot.Stage.{Stage}
use Rattle.nm_shoot.specs.declared.shoot.Stage.TheVariants.{Bumping, Seeing}
use Rattle.nm_shoot.specs.Shootdown.{asked, asked_from, IsAnswered, IsShootdown}
use Rattle.nm_shoot.specs.Flushed.{MayShoot, IsFlushed}
use Rattle.nm_shoot.specs.Asking.{IsBumping, HasAsked, IsSeeing, AwaitsShootAt, AwaitsShoot, ask}
use Rattle.nm_shoot.proofs.Lists.{All-push, asked-push, asked_from-append, answered-number}
use Rattle.nm_shoot.proofs.Views.{flushed}

next_list : (b a e own own' more : Own) (x : Action × Reply) → own ≡ (b ++ a) ++ e → own' ≡ e ++ x ∷ [] → more ≡ a ++ (own' ++ []) → own ++ x ∷ [] ≡ (b ++ more) ++ []
next_list b a e own own' more x i j k = rw (i, k, j) (simp (append_assoc, append-nil))

finished_list : (b a e own rest more : Own) → own ≡ (b ++ a) ++ e → e ≡ [] → more ≡ a ++ rest → own ++ rest ≡ b ++ more
finished_list b a e own rest more i j k = rw (i, k, j) (simp (append_assoc, append-nil))

-- the bump drew a number
pub has-bumped : (cpus : ℕ) (g : Geometry) (v : View) (own : Own) (action : Action) (old : ℕ) → IsBumping cpus g v own action → HasAsked cpus g v (own ++ (action, Word old) ∷ []) 0 (old + 1)
has-bumped cpus g v own action old b = record {
  may = b.may;
  old = old;
  words = [];
  early = [];
  drawn = refl;
  each = refl;
  within = omega arith;
  answered = All-nil _;
  below = All-nil _;
  is = rw (b.none, b.bump) refl;
}

-- a processor gave a word that is too small
pub has-more : (cpus : ℕ) (g : Geometry) (v : View) (own : Own) (cpu number word : ℕ) → word < number → HasAsked cpus g v own cpu number → HasAsked cpus g v (own ++ (SeeAck cpu, Word word) ∷ []) cpu number
has-more cpus g v own cpu number word lt h = record {
  may = h.may;
  old = h.old;
  words = h.words;
  early = h.early ++ word ∷ [];
  drawn = h.drawn;
  each = h.each;
  within = h.within;
  answered = h.answered;
  below = All-push (λ w. w < number) h.early word h.below lt;
  is = rw (h.is, asked-push) (append_assoc ((Bump, Word h.old) ∷ asked_from 0 h.words) (asked cpu h.early) ((SeeAck cpu, Word word) ∷ []));
}

-- a processor gave a word that is great enough
pub has-next : (cpus : ℕ) (g : Geometry) (v : View) (own : Own) (cpu number word : ℕ) → number ≤ word → cpu < cpus → HasAsked cpus g v own cpu number → HasAsked cpus g v (own ++ (SeeAck cpu, Word word) ∷ []) (cpu + 1) number
has-next cpus g v own cpu number word ge lt h =
    let ws : List ℕ = h.early ++ word ∷ [] in
    let one : IsAnswered number ws = record { early = h.early; last = word; is = refl; below = h.below; enough = ge } in
    let e : cpu ≡ 0 + length h.words = omega (arith, h.each) in
    let long = asked_from-append 0 cpu h.words (ws ∷ []) e in
    record {
      may = h.may;
      old = h.old;
      words = h.words ++ ws ∷ [];
      early = [];
      drawn = h.drawn;
      each = omega (arith, h.each, length-append h.words (ws ∷ []));
      within = omega arith;
      answered = All-push (IsAnswered number) h.words ws h.answered one;
      below = All-nil _;
      is = next_list ((Bump, Word h.old) ∷ []) (asked_from 0 h.words) (asked cpu h.early) _ _ _ _ h.is (asked-push cpu h.early word) long;
    }

-- the rest of a shootdown in which each processor left gives the number itself
finished : (cpus : ℕ) (g : Geometry) (v : View) (own : Own) (cpu number k : ℕ) → cpu + k ≡ cpus → (h : HasAsked cpus g v own cpu number) → h.early ≡ [] → IsShootdown cpus (own ++ asked_from cpu (replicate k (number ∷ []))) number
finished cpus g v own cpu number k e h none =
    let rest : List (List ℕ) = replicate k (number ∷ []) in
    record {
      old = h.old;
      words = h.words ++ rest;
      drawn = h.drawn;
      each = omega (arith, h.each, e, length-append h.words rest, length-replicate k (number ∷ []));
      answered = All-append (IsAnswered number) h.words rest h.answered (answered-number number k);
      is = finished_list ((Bump, Word h.old) ∷ []) (asked_from 0 h.words) (asked cpu h.early) _ _ _ h.is (ap (asked cpu) none) (asked_from-append 0 cpu h.words rest (omega (arith, h.each)));
    }

-- a shootdown that asks a processor can be carried on
begun : (cpus : ℕ) (g : Geometry) (v : View) (own : Own) (cpu number : ℕ) → cpu < cpus → HasAsked cpus g v own cpu number → IsBegunWith (IsShootdown cpus) own (SeeAck cpu)
unfolding has-next
begun cpus g v own cpu number lt h =
    let next = has-next cpus g v own cpu number number (omega arith) lt h in
    record {
      reply = Word number;
      begun = record {
        rest = asked_from (cpu + 1) (replicate (cpus - (cpu + 1)) (number ∷ []));
        outcome = number;
        whole = finished cpus g v (own ++ (SeeAck cpu, Word number) ∷ []) (cpu + 1) number (cpus - (cpu + 1)) (omega arith) next refl;
      };
    }

-- the shootdown that draws 1, and that each processor answers at once
abbrev pub some_shootdown : ℕ → Own
some_shootdown cpus = (Bump, Word 0) ∷ asked_from 0 (replicate cpus (1 ∷ []))

some_shown : (cpus : ℕ) → IsShootdown cpus (some_shootdown cpus) 1
some_shown cpus = record { old = 0; words = replicate cpus (1 ∷ []); drawn = refl; each = length-replicate cpus (1 ∷ []); answered = answered-number 1 cpus; is = refl }

-- there is a shootdown of each number of processors
pub some-shootdown : (cpus : ℕ) → IsBegun (IsShootdown cpus) []
some-shootdown cpus = record { rest = some_shootdown cpus; outcome = 1; whole = some_shown cpus }

-- a shootdown is not over at once
pub shootdown-acts : (cpus number : ℕ) → ¬ IsShootdown cpus [] number
shootdown-acts cpus number h = cc h.is

-- the first step
pub steps-first : (cpus : ℕ) (g : Geometry) (v : View) → MayShoot cpus g v → IsPartStep (AwaitsShootAt cpus Bumping) (λ g. IsShootdown cpus) IsFlushed NothingTold g v [] (Do Bump)
steps-first cpus g v may = record {
  quiet = tt;
  permitted = record { range = tt; permitted = may.bump };
  awaited = record { may = may; none = refl; bump = refl };
  begun = record { reply = Word 0; begun = record { rest = asked_from 0 (replicate cpus (1 ∷ [])); outcome = 1; whole = some_shown cpus } };
}

-- a processor is asked
asks : (cpus : ℕ) (g : Geometry) (v : View) (own : Own) (cpu number : ℕ) → cpu < cpus → HasAsked cpus g v own cpu number
    → IsPartStep (AwaitsShootAt cpus (Seeing cpu number)) (λ g. IsShootdown cpus) IsFlushed NothingTold g v own (Do (SeeAck cpu))
asks cpus g v own cpu number lt h = record {
  quiet = tt;
  permitted = record { range = rw (sym h.may.all) lt; permitted = tt };
  awaited = record { has = h; next = lt; see = refl };
  begun = begun cpus g v own cpu number lt h;
}

-- all processors have answered
ends : (cpus : ℕ) (g : Geometry) (v : View) (own : Own) (cpu number : ℕ) → cpus ≤ cpu → (h : HasAsked cpus g v own cpu number) → h.early ≡ []
    → IsPartStep (AwaitsShootAt cpus (Seeing cpu number)) (λ g. IsShootdown cpus) IsFlushed NothingTold g v own (Over number)
ends cpus g v own cpu number ge h none =
    let P : Own → Type 0 = λ own. IsShootdown cpus own number in
    let shown : IsShootdown cpus own number = subst P (append-nil own) (finished cpus g v own cpu number 0 (omega (arith, h.within)) h none) in
    record { shown = shown; left = flushed g v cpus number own h.may.all shown; over = tt }

seen_go : (cpus : ℕ) (g : Geometry) (v : View) (own : Own) (cpu number : ℕ) (h : HasAsked cpus g v own cpu number) → h.early ≡ [] → (b : Bool) → nat_lt cpu cpus ≡ b
    → IsPartStep (AwaitsShootAt cpus (Seeing cpu number)) (λ g. IsShootdown cpus) IsFlushed NothingTold g v own (if b then Do (SeeAck cpu) else Over number)
seen_go cpus g v own cpu number h none true e = asks cpus g v own cpu number (grind (arith, e)) h
seen_go cpus g v own cpu number h none false e = ends cpus g v own cpu number (grind (arith, e)) h none

-- the step after the bump
pub steps-bumped : (cpus : ℕ) (g : Geometry) (v : View) (own : Own) (action : Action) (old : ℕ) → IsBumping cpus g v own action
    → IsPartStep (AwaitsShootAt cpus (Seeing 0 (old + 1))) (λ g. IsShootdown cpus) IsFlushed NothingTold g v (own ++ (action, Word old) ∷ []) (ask cpus 0 (old + 1))
unfolding has-bumped
steps-bumped cpus g v own action old b = seen_go cpus g v (own ++ (action, Word old) ∷ []) 0 (old + 1) (has-bumped cpus g v own action old b) refl (nat_lt 0 cpus) refl

-- the step after a word that is too small
pub steps-again : (cpus : ℕ) (g : Geometry) (v : View) (own : Own) (cpu number word : ℕ) (action : Action) → word < number → IsSeeing cpus g v own cpu number action
    → IsPartStep (AwaitsShootAt cpus (Seeing cpu number)) (λ g. IsShootdown cpus) IsFlushed NothingTold g v (own ++ (action, Word word) ∷ []) (ask cpus cpu number)
steps-again cpus g v own cpu number word action lt s =
    let more : Own = own ++ (SeeAck cpu, Word word) ∷ [] in
    let less : nat_lt cpu cpus ≡ true = grind (arith, s.next) in
    rw (s.see, less) (asks cpus g v more cpu number s.next (has-more cpus g v own cpu number word lt s.has))

-- the step after a word that is great enough
pub steps-next : (cpus : ℕ) (g : Geometry) (v : View) (own : Own) (cpu number word : ℕ) (action : Action) → number ≤ word → IsSeeing cpus g v own cpu number action
    → IsPartStep (AwaitsShootAt cpus (Seeing (cpu + 1) number)) (λ g. IsShootdown cpus) IsFlushed NothingTold g v (own ++ (action, Word word) ∷ []) (ask cpus (cpu + 1) number)
unfolding has-next
steps-next cpus g v own cpu number word action ge s =
    let more : Own = own ++ (SeeAck cpu, Word word) ∷ [] in
    rw s.see (seen_go cpus g v more (cpu + 1) number (has-next cpus g v own cpu number word ge s.next s.has) refl (nat_lt (cpu + 1) cpus) refl)

-- The same, of the part's fields.

at_stage : (s : Shoot) (stage : Stage) (g : Geometry) (v : View) (own : Own) (action : Action) → s.stage ≡ stage → AwaitsShoot s g v own action → AwaitsShootAt s.cpus stage g v own action
at_stage s stage g v own action e a = let P : Stage → Type 0 = λ st. AwaitsShootAt s.cpus st g v own action in subst P e a

-- what a step of a shootdown has to be after one answer more
abbrev pub IsNext : Shoot → Shoot → Geometry → View → Own → Step ℕ → Type 0
IsNext s new g v own result = IsPartStep (AwaitsShoot new) (λ g. IsShootdown s.cpus) IsFlushed NothingTold g v own result

pub after-bump : (s new : Shoot) (reply : Reply) (old : ℕ) (result : Step ℕ) → s.stage ≡ Bumping → reply ≡ Word old → new ≡ record s { stage = Seeing 0 (old + 1) } → result ≡ ask s.cpus 0 (old + 1)
    → (g : Geometry) (v : View) (own : Own) (action : Action) → AwaitsShoot s g v own action → IsNext s new g v (own ++ (action, reply) ∷ []) result
after-bump s new reply old result e r n i g v own action a = rw (r, n, i) (steps-bumped s.cpus g v own action old (at_stage s Bumping g v own action e a))

pub after-less : (s new : Shoot) (reply : Reply) (cpu number word : ℕ) (result : Step ℕ) → s.stage ≡ Seeing cpu number → reply ≡ Word word → word < number → new ≡ record s { stage = Seeing cpu number } → result ≡ ask s.cpus cpu number
    → (g : Geometry) (v : View) (own : Own) (action : Action) → AwaitsShoot s g v own action → IsNext s new g v (own ++ (action, reply) ∷ []) result
after-less s new reply cpu number word result e r lt n i g v own action a = rw (r, n, i) (steps-again s.cpus g v own cpu number word action lt (at_stage s (Seeing cpu number) g v own action e a))

pub after-enough : (s new : Shoot) (reply : Reply) (cpu number word : ℕ) (result : Step ℕ) → s.stage ≡ Seeing cpu number → reply ≡ Word word → number ≤ word → new ≡ record s { stage = Seeing (cpu + 1) number } → result ≡ ask s.cpus (cpu + 1) number
    → (g : Geometry) (v : View) (own : Own) (action : Action) → AwaitsShoot s g v own action → IsNext s new g v (own ++ (action, reply) ∷ []) result
after-enough s new reply cpu number word result e r ge n i g v own action a = rw (r, n, i) (steps-next s.cpus g v own cpu number word action ge (at_stage s (Seeing cpu number) g v own action e a))

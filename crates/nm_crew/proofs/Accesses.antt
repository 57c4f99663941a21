-- The accesses of a processor among the events of turns are those of its own list.
use Rattle.std.proofs.Common.{◌≡◌, ◌==◌, ℕ, Bool, true, false, cond, List, [], ◌∷◌, Option, Some, None, refl, sym, ap, ◌∙◌}
use Rattle.std.specs.List.{filter_map, cons_option}
use Rattle.std.proofs.lemmas.Bool.{eqb-true}
use Rattle.nm_flat.specs.declared.access.Access.{Access}
use Rattle.nm_flat.specs.declared.access.AccessKind.TheVariants as kinds
use Rattle.nm_flat.specs.Memory.{own_part_of}
use Rattle.nm_action.specs.declared.action.Action.{Action}
use Rattle.nm_action.specs.declared.action.Action.TheVariants.{Load, Store, Add}
use Rattle.nm_action.specs.declared.action.Reply.{Reply}
use Rattle.nm_action.specs.declared.action.Reply.TheVariants.{Word}
use Rattle.nm_action.specs.declared.action.Event.{Event}
use Rattle.nm_action.specs.Own.{Own, own_of}
use Rattle.nm_core.specs.Runs.{access_by, accesses_of}
use Rattle.nm_actor.specs.Turns.{own_list}
use Rattle.nm_schedule.specs.declared.turn.Played.{Played}
use Rattle.nm_schedule.specs.Played.{turns_by, events_of}
use Rattle.nm_play.proofs.Own.{own-turns}

abbrev pub access_in : ℕ → Action × Reply → Option Access
access_in cpu e = access_by cpu e.0 e.1

abbrev pub own_accesses : ℕ → Own → List Access
own_accesses cpu own = filter_map (access_in cpu) own

no-access : (cpu : ℕ) (action : Action) (reply : Reply) (accesses : List Access) (own : Own) (b : Bool) → access_by cpu action reply ≡ None → accesses ≡ own_accesses cpu own
    → accesses ≡ own_accesses cpu (cond b ((action, reply) ∷ own) own)
no-access cpu action reply accesses own true none h = h ∙ ap (λ o. cons_option o (own_accesses cpu own)) (sym none)
no-access cpu action reply accesses own false none h = h

an-access : (actor cpu : ℕ) (access : ℕ → Access) (e : Action × Reply) (rest : List Access) (own : Own) (b : Bool) → (b ≡ true → actor ≡ cpu) → access_in cpu e ≡ Some (access cpu)
    → own_part_of cpu rest ≡ own_accesses cpu own → cond b (access actor ∷ own_part_of cpu rest) (own_part_of cpu rest) ≡ own_accesses cpu (cond b (e ∷ own) own)
an-access actor cpu access e rest own true same is h =
    ap (λ k. access k ∷ own_part_of cpu rest) (same refl) ∙ ap (λ l. access cpu ∷ l) h ∙ ap (λ o. cons_option o (own_accesses cpu own)) (sym is)
an-access actor cpu access e rest own false same is h = h

one-event : (actor cpu : ℕ) (action : Action) (reply : Reply) (rest : List Access) (own : Own) → own_part_of cpu rest ≡ own_accesses cpu own
    → own_part_of cpu (cons_option (access_by actor action reply) rest) ≡ own_accesses cpu (cond (actor == cpu) ((action, reply) ∷ own) own)
one-event actor cpu (Load v i) (Word x) rest own h =
    an-access actor cpu (λ p. record { cpu = p; vpage = v; word = i; kind = kinds.Load x }) (Load v i, Word x) rest own (actor == cpu) (eqb-true actor cpu) refl h
one-event actor cpu (Store v i x) (Word w) rest own h =
    an-access actor cpu (λ p. record { cpu = p; vpage = v; word = i; kind = kinds.Store x }) (Store v i x, Word w) rest own (actor == cpu) (eqb-true actor cpu) refl h
one-event actor cpu (Add v i x) (Word gave) rest own h =
    an-access actor cpu (λ p. record { cpu = p; vpage = v; word = i; kind = kinds.Add gave x }) (Add v i x, Word gave) rest own (actor == cpu) (eqb-true actor cpu) refl h
one-event actor cpu action reply rest own h = no-access cpu action reply (own_part_of cpu rest) own (actor == cpu) refl h

-- the accesses of a processor among events are those of its own list
pub accesses-own : (cpu : ℕ) (events : List Event) → own_part_of cpu (accesses_of events) ≡ own_accesses cpu (own_of cpu events)
accesses-own cpu [] = refl
accesses-own cpu (e ∷ events) = one-event e.actor cpu e.action e.reply (accesses_of events) (own_of cpu events) (accesses-own cpu events)

pub accesses-turns : (cpu : ℕ) (played : List Played) → own_part_of cpu (accesses_of (events_of played)) ≡ filter_map (λ e. access_by cpu e.0 e.1) (own_list (turns_by cpu played))
accesses-turns cpu played = accesses-own cpu (events_of played) ∙ ap (own_accesses cpu) (own-turns cpu played)

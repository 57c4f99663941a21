-- The accesses of a processor in a list of events are those of its own list.
use Rattle.std.proofs.Common.{◌≡◌, ℕ, ◌==◌, Bool, true, false, List, [], ◌∷◌, Option, Some, None, if◌then◌else◌, refl, sym, ap, ◌∙◌}
use Rattle.std.specs.List.{cons_option}
use Rattle.std.proofs.lemmas.Bool.{eqb-true}
use Rattle.nm_action.specs.declared.action.Action.{Action}
use Rattle.nm_action.specs.declared.action.Action.TheVariants.{Load, Store, Add}
use Rattle.nm_action.specs.declared.action.Event.{Event}
use Rattle.nm_action.specs.declared.action.Reply.{Reply}
use Rattle.nm_action.specs.declared.action.Reply.TheVariants.{Done, Word, Busy, Lost}
use Rattle.nm_action.specs.Own.{Own, own_of}
use Rattle.nm_flat.specs.declared.access.Access.{Access}
use Rattle.nm_flat.specs.Memory.{own_part_of}
use Rattle.nm_core.specs.Runs.{access_by, access_of, accesses_of}
use Rattle.nm_cpu.specs.Lines.{access_in, own_accesses}

none-some : (a : Access) → None ≡ Some a → ⊥
none-some a e = cc

-- an access is one of the processor that made the event
access-cpu : (cpu : ℕ) (action : Action) (reply : Reply) (a : Access) → access_by cpu action reply ≡ Some a → a.cpu ≡ cpu
access-cpu cpu (Load v w) (Word x) a is = let e : cpu ≡ a.cpu = cc in sym e
access-cpu cpu (Load v w) Done a is = absurd (none-some a is)
access-cpu cpu (Load v w) (Busy x) a is = absurd (none-some a is)
access-cpu cpu (Load v w) (Lost x) a is = absurd (none-some a is)
access-cpu cpu (Store v w x) (Word y) a is = let e : cpu ≡ a.cpu = cc in sym e
access-cpu cpu (Store v w x) Done a is = absurd (none-some a is)
access-cpu cpu (Store v w x) (Busy y) a is = absurd (none-some a is)
access-cpu cpu (Store v w x) (Lost y) a is = absurd (none-some a is)
access-cpu cpu (Add v w x) (Word y) a is = let e : cpu ≡ a.cpu = cc in sym e
access-cpu cpu (Add v w x) Done a is = absurd (none-some a is)
access-cpu cpu (Add v w x) (Busy y) a is = absurd (none-some a is)
access-cpu cpu (Add v w x) (Lost y) a is = absurd (none-some a is)
access-cpu cpu action reply a is = absurd (none-some a is)

-- a list with an access in front, or none
abbrev with_front : Option Access → List Access → List Access
with_front None list = list
with_front (Some a) list = a ∷ list

-- the part of a processor, with what its event adds
part-own : (cpu actor : ℕ) (found : Option Access) (list : List Access) → ((a : Access) → found ≡ Some a → a.cpu ≡ actor) → (actor == cpu) ≡ true → own_part_of cpu (with_front found list) ≡ with_front found (own_part_of cpu list)
part-own cpu actor None list by same = refl
part-own cpu actor (Some a) list by same = let mine : (a.cpu == cpu) ≡ true = ap (λ n. n == cpu) (by a refl) ∙ same in rw mine refl

part-other : (cpu actor : ℕ) (found : Option Access) (list : List Access) → ((a : Access) → found ≡ Some a → a.cpu ≡ actor) → (actor == cpu) ≡ false → own_part_of cpu (with_front found list) ≡ own_part_of cpu list
part-other cpu actor None list by same = refl
part-other cpu actor (Some a) list by same = let others : (a.cpu == cpu) ≡ false = ap (λ n. n == cpu) (by a refl) ∙ same in rw others refl

-- what an event adds
all-front : (e : Event) (events : List Event) → accesses_of (e ∷ events) ≡ with_front (access_of e) (accesses_of events)
all-front e events = by-found (access_of e) (accesses_of events)
  where
    by-found : (found : Option Access) (list : List Access) → cons_option found list ≡ with_front found list
    by-found None list = refl
    by-found (Some a) list = refl

own-front : (cpu : ℕ) (event : Action × Reply) (own : Own) → own_accesses cpu (event ∷ own) ≡ with_front (access_in cpu event) (own_accesses cpu own)
own-front cpu event own = by-found (access_in cpu event) (own_accesses cpu own)
  where
    by-found : (found : Option Access) (list : List Access) → cons_option found list ≡ with_front found list
    by-found None list = refl
    by-found (Some a) list = refl

pub own-part : (cpu : ℕ) (events : List Event) → own_part_of cpu (accesses_of events) ≡ own_accesses cpu (own_of cpu events)
own-part cpu [] = refl
own-part cpu (e ∷ events) = ap (λ l. own_part_of cpu l) (all-front e events) ∙ by-actor (own-part cpu events) (e.actor == cpu) refl
  where
    by-actor : own_part_of cpu (accesses_of events) ≡ own_accesses cpu (own_of cpu events) → (same : Bool) → (e.actor == cpu) ≡ same → own_part_of cpu (with_front (access_of e) (accesses_of events)) ≡ own_accesses cpu (own_of cpu (e ∷ events))
    by-actor rest true same =
        let F : ℕ → Option Access = λ n. access_by n e.action e.reply in
        part-own cpu e.actor (access_of e) (accesses_of events) (λ a is. access-cpu e.actor e.action e.reply a is) same
        ∙ ap (λ l. with_front (access_of e) l) rest
        ∙ ap (λ n. with_front (F n) (own_accesses cpu (own_of cpu events))) (eqb-true e.actor cpu same)
        ∙ sym (own-front cpu (e.action, e.reply) (own_of cpu events))
        ∙ ap (λ (b : Bool). own_accesses cpu (if b then (e.action, e.reply) ∷ own_of cpu events else own_of cpu events)) (sym same)
    by-actor rest false other =
        part-other cpu e.actor (access_of e) (accesses_of events) (λ a is. access-cpu e.actor e.action e.reply a is) other
        ∙ rest
        ∙ ap (λ (b : Bool). own_accesses cpu (if b then (e.action, e.reply) ∷ own_of cpu events else own_of cpu events)) (sym other)

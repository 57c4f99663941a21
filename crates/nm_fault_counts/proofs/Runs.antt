-- Patterns whose lists count what their outcomes say, from those that they are joined of.
use Rattle.std.proofs.Common.{◌≡◌, ℕ, Bool, true, false, List, [], ◌∷◌, ◌++◌, refl, sym, ap, subst, ◌∙◌, inl}
use Rattle.std.proofs.lemmas.List.{append-nil}
use Rattle.nm_base.specs.Geometry.{Geometry}
use Rattle.nm_action.specs.declared.action.Action.{Action}
use Rattle.nm_action.specs.declared.action.Action.TheVariants.{Lock, Unlock}
use Rattle.nm_action.specs.declared.action.Reply.{Reply}
use Rattle.nm_action.specs.declared.action.Reply.TheVariants.{Done, Busy}
use Rattle.nm_action.specs.Own.{Own}
use Rattle.nm_part.specs.Patterns.{Ends, Follows, Either}
use Rattle.nm_compose.specs.Acts.{IsAct}
use Rattle.nm_shadow_fault.specs.declared.fault.FaultEnd.{FaultEnd}
use Rattle.nm_shadow_fault.specs.Locking.{lock_refused, LocksPage}
use Rattle.nm_marks.specs.Contents.{HasOnly, ListsOnly}
use Rattle.nm_fault_counts.specs.FaultTally.{has_homed, has_mapped, ended_with}
use Rattle.nm_fault_counts.specs.Counted.{IsFaultCounted, end_counted}
use Rattle.nm_fault_counts.proofs.Lists.{IsPlain, event-counted, plain-counted}

-- each list of a pattern counts what its end says
abbrev pub Counts : Bool → Bool → (Own → FaultEnd → Type 0) → Type 0
Counts h m pattern = (own : Own) (end : FaultEnd) → pattern own end → IsFaultCounted h m own (end_counted end)

pub count-ends : (h m : Bool) (end : FaultEnd) → end_counted end ≡ [] → Counts h m (Ends end)
count-ends h m end none own outcome done =
    let O : Own → Type 0 = λ l. IsFaultCounted h m l (end_counted outcome) in
    let none' : end_counted outcome ≡ [] = ap end_counted done.is ∙ none in
    subst O (sym done.none) (record { counted = sym none'; last = tt })

-- one action, and what follows by its reply
pub count-then : (h m : Bool) (action : Action) (g : Geometry) (after : Reply → Own → FaultEnd → Type 0) → ended_with h m action ≡ [] → ((reply : Reply) → Counts (has_homed action h) (has_mapped action m) (after reply)) → Counts h m (Follows (IsAct action g) after)
count-then h m action g after none then own end done =
    let O : Own → Type 0 = λ l. IsFaultCounted h m l (end_counted end) in
    let is : own ≡ (action, done.end) ∷ done.back = done.is ∙ ap (λ (l : Own). l ++ done.back) done.shown.is in
    subst O (sym is) (event-counted h m (action, done.end) done.back (end_counted end) none (then done.end done.back end done.rest))

-- the page is unlocked, and that was all
pub count-last : (h m : Bool) (page : ℕ) (g : Geometry) (end : FaultEnd) → ended_with h m (Unlock page) ≡ end_counted end → Counts h m (Follows (IsAct (Unlock page) g) (λ unlocked. Ends end))
count-last h m page g end so own outcome done =
    let O : Own → Type 0 = λ l. IsFaultCounted h m l (end_counted outcome) in
    let is : own ≡ (Unlock page, done.end) ∷ [] = done.is ∙ ap (λ (l : Own). l ++ done.back) done.shown.is ∙ ap (λ (l : Own). (Unlock page, done.end) ∷ l) done.rest.none in
    subst O (sym is) (record { counted = append-nil (ended_with h m (Unlock page)) ∙ so ∙ ap end_counted (sym done.rest.is); last = (inl refl, tt) })

pub count-either : (h m b : Bool) (held other : Own → FaultEnd → Type 0) → Counts h m held → Counts h m other → Counts h m (Either b held other)
count-either h m true held other so then = so
count-either h m false held other so then = then

-- first a list of plain actions
pub count-plain : {X : Type 0} (first : Own → X → Type 0) (after : X → Own → FaultEnd → Type 0) → ListsOnly IsPlain first → ((x : X) → Counts false false (after x)) → Counts false false (Follows first after)
count-plain first after so then own end done =
    let O : Own → Type 0 = λ l. IsFaultCounted false false l (end_counted end) in
    subst O (sym done.is) (plain-counted done.front done.back (end_counted end) (so done.front done.end done.shown) (then done.end done.back end done.rest))

lock-plain : (page : ℕ) (words : List ℕ) → HasOnly IsPlain (lock_refused page words)
lock-plain page [] = tt
lock-plain page (w ∷ words) = (tt, lock-plain page words)

locked-counted : (h m : Bool) (page : ℕ) (words : List ℕ) (ys : Own) (ends : List FaultEnd) → IsFaultCounted false false ys ends → IsFaultCounted h m ((lock_refused page words ++ (Lock page, Done) ∷ []) ++ ys) ends
locked-counted h m page [] ys ends rest = event-counted h m (Lock page, Done) ys ends refl rest
locked-counted h m page (w ∷ words) ys ends rest = event-counted h m (Lock page, Busy w) ((lock_refused page words ++ (Lock page, Done) ∷ []) ++ ys) ends refl (locked-counted false false page words ys ends rest)

-- first the page is locked, whatever came before that
pub count-locked : (h m : Bool) (page : ℕ) (after : Unit {0} → Own → FaultEnd → Type 0) → ((locked : Unit {0}) → Counts false false (after locked)) → Counts h m (Follows (LocksPage page) after)
count-locked h m page after then own end done =
    let O : Own → Type 0 = λ l. IsFaultCounted h m l (end_counted end) in
    let is : own ≡ (lock_refused page done.shown.busy ++ (Lock page, Done) ∷ []) ++ done.back = done.is ∙ ap (λ (l : Own). l ++ done.back) done.shown.is in
    subst O (sym is) (locked-counted h m page done.shown.busy done.back (end_counted end) (then done.end done.back end done.rest))

-- What lists one after the other count.
use Rattle.std.proofs.Common.{◌≡◌, Bool, false, List, [], ◌∷◌, ◌++◌, refl, sym, ap, subst, ◌∙◌, append_assoc, inl, inr}
use Rattle.nm_action.specs.declared.action.Action.{Action}
use Rattle.nm_action.specs.declared.action.Action.TheVariants.{Lock, Unlock, Map, SetHome}
use Rattle.nm_action.specs.declared.action.Reply.{Reply}
use Rattle.nm_action.specs.Own.{Own}
use Rattle.nm_shadow_fault.specs.declared.fault.FaultEnd.{FaultEnd}
use Rattle.nm_marks.specs.Contents.{HasOnly}
use Rattle.nm_fault_counts.specs.FaultTally.{has_homed, has_mapped, ended_with, faults_from}
use Rattle.nm_fault_counts.specs.Counted.{CountsLast, IsFaultCounted, ends_counted}

-- whether a home was set, and a word mapped, since the last Lock or Unlock, after a list

abbrev pub homed_from : Bool → Own → Bool
homed_from homed [] = homed
homed_from homed (e ∷ own) = homed_from (has_homed e.0 homed) own

abbrev pub mapped_from : Bool → Own → Bool
mapped_from mapped [] = mapped
mapped_from mapped (e ∷ own) = mapped_from (has_mapped e.0 mapped) own

pub faults-append : (h m : Bool) (xs ys : Own) → faults_from h m (xs ++ ys) ≡ faults_from h m xs ++ faults_from (homed_from h xs) (mapped_from m xs) ys
faults-append h m [] ys = refl
faults-append h m (e ∷ xs) ys =
    let h' = has_homed e.0 h in
    let m' = has_mapped e.0 m in
    ap (λ (l : List FaultEnd). ended_with h m e.0 ++ l) (faults-append h' m' xs ys) ∙ sym (append_assoc (ended_with h m e.0) (faults_from h' m' xs) (faults_from (homed_from h' xs) (mapped_from m' xs) ys))

pub ends-append : {X : Type 0} (counted : X → List FaultEnd) (xs ys : List X) → ends_counted counted (xs ++ ys) ≡ ends_counted counted xs ++ ends_counted counted ys
ends-append counted [] ys = refl
ends-append counted (x ∷ xs) ys = ap (λ (l : List FaultEnd). counted x ++ l) (ends-append counted xs ys) ∙ sym (append_assoc (counted x) (ends_counted counted xs) (ends_counted counted ys))

-- ---- actions that neither lock nor unlock, and set no home and map nothing

abbrev pub IsSilent : Action → Type 0
IsSilent (SetHome page frame) = ⊥
IsSilent (Map vpage word) = ⊥
IsSilent (Lock page) = ⊥
IsSilent (Unlock page) = ⊥
IsSilent action = Unit {0}

silent-homed : (action : Action) (h : Bool) → IsSilent action → has_homed action h ≡ h
silent-homed (SetHome page frame) h so = absurd so
silent-homed (Lock page) h so = absurd so
silent-homed (Unlock page) h so = absurd so
silent-homed _ h so = refl

silent-mapped : (action : Action) (m : Bool) → IsSilent action → has_mapped action m ≡ m
silent-mapped (Map vpage word) m so = absurd so
silent-mapped (Lock page) m so = absurd so
silent-mapped (Unlock page) m so = absurd so
silent-mapped _ m so = refl

silent-ended : (action : Action) (h m : Bool) → IsSilent action → ended_with h m action ≡ []
silent-ended (Unlock page) h m so = absurd so
silent-ended _ h m so = refl

-- such an event, whatever comes after it
pub silent-event : (h m : Bool) (e : Action × Reply) (own : Own) → IsSilent e.0 → faults_from h m (e ∷ own) ≡ faults_from h m own
silent-event h m e own so =
    ap (λ (l : List FaultEnd). l ++ faults_from (has_homed e.0 h) (has_mapped e.0 m) own) (silent-ended e.0 h m so)
    ∙ ap (λ (b : Bool). faults_from b (has_mapped e.0 m) own) (silent-homed e.0 h so) ∙ ap (λ (b : Bool). faults_from h b own) (silent-mapped e.0 m so)

-- a list of such actions, and what comes after it
pub silent-list : (h m : Bool) (xs ys : Own) → HasOnly IsSilent xs → faults_from h m (xs ++ ys) ≡ faults_from h m ys
silent-list h m [] ys so = refl
silent-list h m (e ∷ xs) ys so = silent-event h m e (xs ++ ys) so.0 ∙ silent-list h m xs ys so.1

-- ---- actions that set no home and map nothing

abbrev pub IsPlain : Action → Type 0
IsPlain (SetHome page frame) = ⊥
IsPlain (Map vpage word) = ⊥
IsPlain action = Unit {0}

plain-homed : (action : Action) → IsPlain action → has_homed action false ≡ false
plain-homed (SetHome page frame) so = absurd so
plain-homed (Lock page) so = refl
plain-homed (Unlock page) so = refl
plain-homed _ so = refl

plain-mapped : (action : Action) → IsPlain action → has_mapped action false ≡ false
plain-mapped (Map vpage word) so = absurd so
plain-mapped (Lock page) so = refl
plain-mapped (Unlock page) so = refl
plain-mapped _ so = refl

pub idle-ended : (action : Action) → ended_with false false action ≡ []
idle-ended (Unlock page) = refl
idle-ended _ = refl

-- ---- what is counted after an event

pub event-counted : (h m : Bool) (e : Action × Reply) (own : Own) (ends : List FaultEnd) → ended_with h m e.0 ≡ [] → IsFaultCounted (has_homed e.0 h) (has_mapped e.0 m) own ends → IsFaultCounted h m (e ∷ own) ends
event-counted h m e own ends none rest = record {
  counted = ap (λ (l : List FaultEnd). l ++ faults_from (has_homed e.0 h) (has_mapped e.0 m) own) none ∙ rest.counted;
  last = (inr none, rest.last);
}

-- after a list of plain actions
pub plain-counted : (xs ys : Own) (ends : List FaultEnd) → HasOnly IsPlain xs → IsFaultCounted false false ys ends → IsFaultCounted false false (xs ++ ys) ends
plain-counted [] ys ends so rest = rest
plain-counted (e ∷ xs) ys ends so rest =
    let H : Bool → Type 0 = λ b. IsFaultCounted b (has_mapped e.0 false) (xs ++ ys) ends in
    let M : Bool → Type 0 = λ b. IsFaultCounted false b (xs ++ ys) ends in
    event-counted false false e (xs ++ ys) ends (idle-ended e.0) (subst H (sym (plain-homed e.0 so.0)) (subst M (sym (plain-mapped e.0 so.0)) (plain-counted xs ys ends so.1 rest)))

no-event : (xs : Own) (e : Action × Reply) (ys : Own) → ¬ (xs ++ e ∷ ys ≡ [])
no-event [] e ys is = cc
no-event (x ∷ xs) e ys is = cc

-- a list that counts nothing before its last event: a front of it counts nothing
pub front-counted : (h m : Bool) (front : Own) (e : Action × Reply) (back : Own) → CountsLast h m (front ++ e ∷ back) → faults_from h m front ≡ []
front-counted h m [] e back late = refl
front-counted h m (x ∷ front) e back (inl none, late) = absurd (no-event front e back none)
front-counted h m (x ∷ front) e back (inr none, late) =
    ap (λ (l : List FaultEnd). l ++ faults_from (has_homed x.0 h) (has_mapped x.0 m) front) none ∙ front-counted (has_homed x.0 h) (has_mapped x.0 m) front e back late

-- When a step is refused, and that it then changes nothing.
use Rattle.std.proofs.Common.{◌≡◌, ◌≢◌, ◌↔◌, ℕ, ◌+◌, ◌==◌, if◌then◌else◌, Bool, true, false, set, refl, sym, ap, ◌∙◌, subst}
use Rattle.std.proofs.lemmas.Bool.{eqb-true, eq-eqb}
use Rattle.std.proofs.lemmas.List.{set-get_or}
use Rattle.nm_action.specs.declared.action.Reply.{Reply}
use Rattle.nm_action.specs.declared.action.Reply.TheVariants.{Done, Busy, Lost}
use Rattle.nm_action.specs.declared.action.Action.{Action}
use Rattle.nm_action.specs.declared.action.Action.TheVariants.{Walk, Lock, TakeTurn, Mark}
use Rattle.nm_view.specs.Views.{View}
use Rattle.nm_view.specs.Opening.{opening}
use Rattle.nm_event.specs.After.{after_of}
use Rattle.nm_words.specs.declared.names.Where.{Where}
use Rattle.nm_words.specs.declared.names.Where.TheVariants as names
use Rattle.nm_words.specs.Words.{word_at, with_word}
use Rattle.nm_words.proofs.Groups.{with_word-same}
use Rattle.nm_base.specs.PageWord.{walked_word}
use Rattle.nm_core.specs.State.{State, state_of, view_of, word_found, reply_to, step}
use Rattle.nm_core.specs.Causes.{IsBusyWith, IsLostTo, Refuses}

-- an exchange that is made where the word is 0: its reply is Busy exactly where it is not
busy_go : (n w : ℕ) (b : Bool) → (n == 0) ≡ b → ((if b then Done else Busy n) ≡ Busy w) ↔ ((n ≡ w) × (w ≢ 0))
busy_go n w true e = (λ h. absurd (cc), λ h. let zero : n ≡ 0 = eqb-true n 0 e in absurd (h.1 (sym h.0 ∙ zero)))
busy_go n w false e =
    (λ h. let same : n ≡ w = cc in (same, λ zero. let at : (n == 0) ≡ true = rw (same ∙ zero) refl in absurd (cc)), λ h. ap Busy h.0)

-- an exchange that is made where the word is the expected one: its reply is Lost exactly where it is another
lost_go : (n w old : ℕ) (b : Bool) → (n == old) ≡ b → ((if b then Done else Lost n) ≡ Lost w) ↔ ((n ≡ w) × (w ≢ old))
lost_go n w old true e = (λ h. absurd (cc), λ h. let same : n ≡ old = eqb-true n old e in absurd (h.1 (sym h.0 ∙ same)))
lost_go n w old false e =
    (λ h. let same : n ≡ w = cc in (same, λ expected. let at : (n == old) ≡ true = rw (same ∙ expected) (eq-eqb old old refl) in absurd (cc)), λ h. ap Lost h.0)

not_busy : (n w : ℕ) (b : Bool) → (if b then Done else Lost n) ≡ Busy w → ⊥
not_busy n w true e = cc
not_busy n w false e = cc

not_lost : (n w : ℕ) (b : Bool) → (if b then Done else Busy n) ≡ Lost w → ⊥
not_lost n w true e = cc
not_lost n w false e = cc

-- Busy comes exactly where the lock or turn word that the action would take is not 0
pub busy_cause : (s : State) (actor : ℕ) (a : Action) (w : ℕ) → (reply_to s actor a ≡ Busy w) ↔ IsBusyWith s actor a w
busy_cause s actor (Lock b) w =
    let go = busy_go (word_found s actor (Lock b)) w (word_found s actor (Lock b) == 0) refl in
    (λ e. record { taking = tt; found = (go.0 e).0; held = (go.0 e).1 }, λ h. go.1 (h.found, h.held))
busy_cause s actor (TakeTurn t) w =
    let go = busy_go (word_found s actor (TakeTurn t)) w (word_found s actor (TakeTurn t) == 0) refl in
    (λ e. record { taking = tt; found = (go.0 e).0; held = (go.0 e).1 }, λ h. go.1 (h.found, h.held))
busy_cause s actor (Walk v e write) w = (λ h. absurd (not_busy (word_found s actor (Walk v e write)) w (word_found s actor (Walk v e write) == e) h), λ h. absurd h.taking)
busy_cause s actor (Mark b old new) w = (λ h. absurd (not_busy (word_found s actor (Mark b old new)) w (word_found s actor (Mark b old new) == old) h), λ h. absurd h.taking)
busy_cause s actor a w = (λ h. absurd (cc), λ h. absurd h.taking)

-- Lost comes exactly where the table word or mark is another than the expected one
pub lost_cause : (s : State) (actor : ℕ) (a : Action) (w : ℕ) → (reply_to s actor a ≡ Lost w) ↔ IsLostTo s actor a w
lost_cause s actor (Walk v e write) w =
    let go = lost_go (word_found s actor (Walk v e write)) w e (word_found s actor (Walk v e write) == e) refl in
    (λ h. record { found = (go.0 h).0; other = (go.0 h).1 }, λ h. go.1 (h.found, h.other))
lost_cause s actor (Mark b old new) w =
    let go = lost_go (word_found s actor (Mark b old new)) w old (word_found s actor (Mark b old new) == old) refl in
    (λ h. record { found = (go.0 h).0; other = (go.0 h).1 }, λ h. go.1 (h.found, h.other))
lost_cause s actor (Lock b) w = (λ h. absurd (not_lost (word_found s actor (Lock b)) w (word_found s actor (Lock b) == 0) h), λ h. absurd h.other)
lost_cause s actor (TakeTurn t) w = (λ h. absurd (not_lost (word_found s actor (TakeTurn t)) w (word_found s actor (TakeTurn t) == 0) h), λ h. absurd h.other)
lost_cause s actor a w = (λ h. absurd (cc), λ h. absurd h.other)

-- a state in which the found word is written again, and the view of the actor is as it was, is the same
same_state : (s : State) (actor : ℕ) (c : Where) → state_of s.geometry (with_word s.geometry s.words c (word_at s.geometry s.words c)) (set s.views actor (view_of s actor)) ≡ s
same_state s actor c =
    ap (λ w. state_of s.geometry w (set s.views actor (view_of s actor))) (with_word-same s.geometry s.words c) ∙ ap (λ vs. state_of s.geometry s.words vs) (set-get_or s.views actor (opening s.geometry actor))

refused_go : (s : State) (actor : ℕ) (c : Where) (x : ℕ) (b : Bool) (done refused : Reply) (after : Reply → View) → (Refuses done → ⊥) → after refused ≡ view_of s actor → Refuses (if b then done else refused) → state_of s.geometry (with_word s.geometry s.words c (if b then x else word_at s.geometry s.words c)) (set s.views actor (after (if b then done else refused))) ≡ s
refused_go s actor c x true made refused after not_done same h = absurd (not_done h)
refused_go s actor c x false made refused after not_done same h =
    ap (λ v. state_of s.geometry (with_word s.geometry s.words c (word_at s.geometry s.words c)) (set s.views actor v)) same ∙ same_state s actor c

-- a refused action changes nothing
pub refused_same : (s : State) (actor : ℕ) (a : Action) → Refuses (reply_to s actor a) → step s actor a ≡ s
refused_same s actor (Walk v e write) h =
    refused_go s actor (names.Pte v) (walked_word e write) (word_found s actor (Walk v e write) == e) Done (Lost (word_found s actor (Walk v e write))) (after_of s.geometry (view_of s actor) (Walk v e write)) (λ done. done) refl h
refused_same s actor (Mark b old new) h =
    refused_go s actor (names.Mark b) new (word_found s actor (Mark b old new) == old) Done (Lost (word_found s actor (Mark b old new))) (after_of s.geometry (view_of s actor) (Mark b old new)) (λ done. done) refl h
refused_same s actor (Lock b) h =
    refused_go s actor (names.Lock b) ((view_of s actor).number + 1) (word_found s actor (Lock b) == 0) Done (Busy (word_found s actor (Lock b))) (after_of s.geometry (view_of s actor) (Lock b)) (λ done. done) refl h
refused_same s actor (TakeTurn t) h =
    refused_go s actor (names.Turn t) ((view_of s actor).number + 1) (word_found s actor (TakeTurn t) == 0) Done (Busy (word_found s actor (TakeTurn t))) (after_of s.geometry (view_of s actor) (TakeTurn t)) (λ done. done) refl h
refused_same s actor a h = absurd h

-- The same, of a state that is another's value.

pub busy_at : (s now : State) (actor : ℕ) (a : Action) (r : Reply) (w : ℕ) → s ≡ now → r ≡ reply_to s actor a → (r ≡ Busy w) ↔ IsBusyWith now actor a w
busy_at s now actor a r w same is =
    subst (λ (n : State). (r ≡ Busy w) ↔ IsBusyWith n actor a w) same (subst (λ (q : Reply). (q ≡ Busy w) ↔ IsBusyWith s actor a w) (sym is) (busy_cause s actor a w))

pub lost_at : (s now : State) (actor : ℕ) (a : Action) (r : Reply) (w : ℕ) → s ≡ now → r ≡ reply_to s actor a → (r ≡ Lost w) ↔ IsLostTo now actor a w
lost_at s now actor a r w same is =
    subst (λ (n : State). (r ≡ Lost w) ↔ IsLostTo n actor a w) same (subst (λ (q : Reply). (q ≡ Lost w) ↔ IsLostTo s actor a w) (sym is) (lost_cause s actor a w))

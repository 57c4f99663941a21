-- What the own lists of a run tell of the marks so far, and that each step keeps it.
use Rattle.std.proofs.Common.{◌≡◌, ◌≢◌, ℕ, ◌<◌, ◌≤◌, ◌⊎◌, [], ◌∷◌, ◌++◌, sym, ap, subst, inl, inr, ◌∙◌, arith, append_assoc}
use Rattle.std.proofs.lemmas.Bool.{cases_eq, cases_lt}
use Rattle.nm_base.specs.Geometry.{Geometry}
use Rattle.nm_action.specs.declared.action.AckTo.TheVariants.{End}
use Rattle.nm_action.specs.declared.action.Action.{Action}
use Rattle.nm_action.specs.declared.action.Action.TheVariants.{Ack, Mark}
use Rattle.nm_action.specs.declared.action.Reply.{Reply}
use Rattle.nm_action.specs.declared.action.Reply.TheVariants.{Done}
use Rattle.nm_action.specs.Own.{Own}
use Rattle.nm_view.specs.Views.{View, end_word}
use Rattle.nm_permit.specs.Permitted.{Allowed}
use Rattle.nm_event.specs.After.{after_of}
use Rattle.nm_world.specs.Worlds.{World, moved, reply_in}
use Rattle.nm_world.specs.Laws.{AreAll}
use Rattle.nm_world.proofs.Choose.{choose}
use Rattle.nm_marks.specs.Contents.{HasEvent}
use Rattle.nm_marks.specs.Marks.{IsTakenBack}
use Rattle.nm_marks.proofs.Contents.{has-left}
use Rattle.nm_unmarked.specs.Unmarking.{IsEndSeen, IsCandidateTakenBack}
use Rattle.nm_unmarked.proofs.Owns.{has-last, has-new, within-or-last}
use Rattle.nm_unmarked.proofs.Steps.{mark_at, mark-step, mark-made, mark-told, mark-allowed, acked-step, polled-on, seen-end}

-- a processor acknowledged its end
abbrev pub IsEndAck : Action → Reply → Type 0
IsEndAck action reply = action ≡ Ack End

-- a page was marked as pending, and this mark was not taken back
pub record IsPending (b : ℕ) (own : Own) : Type 0 where
  pub front : Own
  pub rest : Own
  pub is : own ≡ front ++ (Mark b 1 2, Done) ∷ rest
  pub left : ¬ HasEvent (IsTakenBack b) rest

-- a processor whose view says that it has ended acknowledged its end, and so did one that was seen at its end; a candidate was
-- not swept, and a pending page was marked so by the migrator
pub record AreMarked (g : Geometry) (m : World) (owns : ℕ → Own) : Type 0 where
  pub ended : (p : ℕ) → p < g.cpus → (m.view p).acked ≡ end_word → HasEvent IsEndAck (owns p)
  pub seen : (p : ℕ) → p < g.cpus → HasEvent (IsEndSeen p) (owns g.cpus) → HasEvent IsEndAck (owns p)
  pub few : (b : ℕ) → mark_at m b ≤ 2
  pub candidate : (b : ℕ) → mark_at m b ≡ 1 → ¬ IsCandidateTakenBack g b (owns g.cpus)
  pub pending : (b : ℕ) → mark_at m b ≡ 2 → IsPending b (owns g.cpus)

-- a step of an actor: processors alone make candidates, and none once they acknowledged their end; the migrator alone makes
-- pending pages
pub record IsOwnStep (g : Geometry) (m : World) (a : ℕ) (action : Action) (reply : Reply) (owns later : ℕ → Own) : Type 0 where
  pub all : AreAll g m
  pub allowed : Allowed g (m.view a) action
  pub told : reply ≡ reply_in g m a action
  pub own : later a ≡ owns a ++ (action, reply) ∷ []
  pub others : (c : ℕ) → a ≢ c → later c ≡ owns c
  pub candidates : g.cpus ≤ a → (b : ℕ) → ¬ (action ≡ Mark b 0 1)
  pub pendings : a ≢ g.cpus → (b : ℕ) → ¬ (action ≡ Mark b 1 2)
  pub running : a < g.cpus → ¬ HasEvent IsEndAck (owns a)

-- the list of an actor has one event more, or is as before
list-after : (g : Geometry) (m : World) (a : ℕ) (action : Action) (reply : Reply) (owns later : ℕ → Own) → IsOwnStep g m a action reply owns later → (c : ℕ) → ((a ≡ c) × (later c ≡ owns c ++ (action, reply) ∷ [])) ⊎ (later c ≡ owns c)
list-after g m a action reply owns later h c = elim (cases_eq a c) [
  | inl same ↦
      let L : ℕ → Type 0 = λ n. later n ≡ owns n ++ (action, reply) ∷ [] in
      inl (same, subst L same h.own)
  | inr other ↦ inr (h.others c other)
]

grown : (P : Action → Reply → Type 0) (g : Geometry) (m : World) (a : ℕ) (action : Action) (reply : Reply) (owns later : ℕ → Own) → IsOwnStep g m a action reply owns later → (c : ℕ) → HasEvent P (owns c) → HasEvent P (later c)
grown P g m a action reply owns later h c has =
    let H : Own → Type 0 = λ l. HasEvent P l in
    elim (list-after g m a action reply owns later h c) [
      | inl more ↦ subst H (sym more.1) (has-left P (owns c) ((action, reply) ∷ []) has)
      | inr same ↦ subst H (sym same) has
    ]

not-polled : (g : Geometry) (m : World) (a : ℕ) → AreAll g m → a < g.cpus → (m.view a).req_seen ≢ end_word
not-polled g m a all there = polled-on (m.view a).req_seen (all.shape.shape a (omega (arith, there))).polled

ended-after : (g : Geometry) (m : World) (a : ℕ) (action : Action) (reply : Reply) (owns later : ℕ → Own) → IsOwnStep g m a action reply owns later → AreMarked g m owns
    → (p : ℕ) → p < g.cpus → ((moved g m a action).view p).acked ≡ end_word → HasEvent IsEndAck (later p)
ended-after g m a action reply owns later h i p there =
    let new : View = after_of g (m.view a) action (reply_in g m a action) in
    let P : View → Type 0 = λ v. v.acked ≡ end_word → HasEvent IsEndAck (later p) in
    choose P p a new (m.view p)
    (λ same says.
    let E : ℕ → Type 0 = λ n. (m.view n).acked ≡ end_word in
    let polled : (m.view a).req_seen ≢ end_word = not-polled g m a h.all (omega (arith, same, there)) in
    elim (acked-step g (m.view a) action (reply_in g m a action) polled says) [
      | inl before ↦ grown IsEndAck g m a action reply owns later h p (i.ended p there (subst E (sym same) before))
      | inr is ↦
          let L : ℕ → Type 0 = λ n. HasEvent IsEndAck (later n) in
          let H : Own → Type 0 = λ l. HasEvent IsEndAck l in
          subst L (sym same) (subst H (sym h.own) (has-new IsEndAck (owns a) (action, reply) is))
    ])
    (λ other says. grown IsEndAck g m a action reply owns later h p (i.ended p there says))

seen-after : (g : Geometry) (m : World) (a : ℕ) (action : Action) (reply : Reply) (owns later : ℕ → Own) → IsOwnStep g m a action reply owns later → AreMarked g m owns
    → (p : ℕ) → p < g.cpus → HasEvent (IsEndSeen p) (later g.cpus) → HasEvent IsEndAck (later p)
seen-after g m a action reply owns later h i p there has =
    let S : Own → Type 0 = λ l. HasEvent (IsEndSeen p) l in
    elim (list-after g m a action reply owns later h g.cpus) [
      | inl more ↦ elim (has-last (IsEndSeen p) (owns g.cpus) (action, reply) (subst S more.1 has)) [
        | inl before ↦ grown IsEndAck g m a action reply owns later h p (i.seen p there before)
        | inr last ↦
            let at = seen-end g m a p action reply h.told last.action_is last.reply_is in
            grown IsEndAck g m a action reply owns later h p (i.ended p there ((h.all.caches.desks p).acked there ∙ at))
      ]
      | inr same ↦ grown IsEndAck g m a action reply owns later h p (i.seen p there (subst S same has))
    ]

few-after : (g : Geometry) (m : World) (a : ℕ) (action : Action) (reply : Reply) (owns later : ℕ → Own) → IsOwnStep g m a action reply owns later → AreMarked g m owns
    → (b : ℕ) → mark_at (moved g m a action) b ≤ 2
few-after g m a action reply owns later h i b =
    let F : ℕ → Type 0 = λ n. n ≤ 2 in
    elim (mark-step g m a action b) [
      | inl same ↦ subst F (sym same) (i.few b)
      | inr made ↦ subst F (sym made.left) (mark-allowed g (m.view a) action b made.old made.new h.allowed made.is).few
    ]

-- a candidate that stays was not swept by this step, since the Mark would have been made
not-swept : (g : Geometry) (m : World) (a : ℕ) (action : Action) (reply : Reply) (owns later : ℕ → Own) → IsOwnStep g m a action reply owns later → AreMarked g m owns
    → (b : ℕ) → mark_at m b ≡ 1 → mark_at (moved g m a action) b ≡ 1 → ¬ IsCandidateTakenBack g b (later g.cpus)
not-swept g m a action reply owns later h i b before after swept =
    let S : Own → Type 0 = λ l. IsCandidateTakenBack g b l in
    elim (list-after g m a action reply owns later h g.cpus) [
      | inl more ↦
          let w : IsCandidateTakenBack g b (owns g.cpus ++ (action, reply) ∷ []) = subst S more.1 swept in
          elim (within-or-last (owns g.cpus) w.front (action, reply) (Mark b 1 0, w.reply) w.rest w.is) [
            | inl within ↦ i.candidate b before (record { front = w.front; reply = w.reply; rest = within.rest; is = within.is; seen = w.seen })
            | inr last ↦
                let none : mark_at (moved g m a action) b ≡ 0 = mark-made g m a action b 1 0 (sym (ap (λ (e : Action × Reply). e.0) last)) before in
                omega (arith, none, after)
          ]
      | inr same ↦ i.candidate b before (subst S same swept)
    ]

-- a new candidate was not swept, since its processor has not ended
not-swept-new : (g : Geometry) (m : World) (a : ℕ) (action : Action) (reply : Reply) (owns later : ℕ → Own) → IsOwnStep g m a action reply owns later → AreMarked g m owns
    → (b : ℕ) → action ≡ Mark b 0 1 → ¬ IsCandidateTakenBack g b (later g.cpus)
not-swept-new g m a action reply owns later h i b is swept = elim (cases_lt a g.cpus) [
  | inl there ↦
      let S : Own → Type 0 = λ l. IsCandidateTakenBack g b l in
      let w : IsCandidateTakenBack g b (owns g.cpus) = subst S (h.others g.cpus (λ same. omega (arith, same, there))) swept in
      let H : Own → Type 0 = λ l. HasEvent (IsEndSeen a) l in
      h.running there (i.seen a there (subst H (sym w.is) (has-left (IsEndSeen a) w.front ((Mark b 1 0, w.reply) ∷ w.rest) (w.seen a there))))
  | inr past ↦ h.candidates past b is
]

candidate-after : (g : Geometry) (m : World) (a : ℕ) (action : Action) (reply : Reply) (owns later : ℕ → Own) → IsOwnStep g m a action reply owns later → AreMarked g m owns
    → (b : ℕ) → mark_at (moved g m a action) b ≡ 1 → ¬ IsCandidateTakenBack g b (later g.cpus)
candidate-after g m a action reply owns later h i b one = elim (mark-step g m a action b) [
  | inl same ↦ not-swept g m a action reply owns later h i b (sym same ∙ one) one
  | inr made ↦
      let new : made.new ≡ 1 = sym made.left ∙ one in
      let old : made.old ≡ 0 = (mark-allowed g (m.view a) action b made.old made.new h.allowed made.is).one new in
      let is : action ≡ Mark b 0 1 = made.is ∙ ap (λ (n : ℕ). Mark b n made.new) old ∙ ap (λ (n : ℕ). Mark b 0 n) new in
      not-swept-new g m a action reply owns later h i b is
]

-- a pending page that stays was not taken back by this step
still-pending : (g : Geometry) (m : World) (a : ℕ) (action : Action) (reply : Reply) (owns later : ℕ → Own) → IsOwnStep g m a action reply owns later → AreMarked g m owns
    → (b : ℕ) → mark_at m b ≡ 2 → mark_at (moved g m a action) b ≡ 2 → IsPending b (later g.cpus)
still-pending g m a action reply owns later h i b before after =
    let P : Own → Type 0 = λ l. IsPending b l in
    let w : IsPending b (owns g.cpus) = i.pending b before in
    elim (list-after g m a action reply owns later h g.cpus) [
      | inl more ↦ subst P (sym more.1) (record {
        front = w.front;
        rest = w.rest ++ (action, reply) ∷ [];
        is = ap (λ (l : Own). l ++ (action, reply) ∷ []) w.is ∙ append_assoc w.front ((Mark b 1 2, Done) ∷ w.rest) ((action, reply) ∷ []);
        left = λ has. elim (has-last (IsTakenBack b) w.rest (action, reply) has) [
          | inl earlier ↦ w.left earlier
          | inr last ↦
              let none : mark_at (moved g m a action) b ≡ 0 = mark-made g m a action b 2 0 last before in
              omega (arith, none, after)
        ];
      })
      | inr same ↦ subst P (sym same) w
    ]

-- a new one was marked by the migrator
new-pending : (g : Geometry) (m : World) (a : ℕ) (action : Action) (reply : Reply) (owns later : ℕ → Own) → IsOwnStep g m a action reply owns later → AreMarked g m owns
    → (b : ℕ) → action ≡ Mark b 1 2 → mark_at m b ≡ 1 → IsPending b (later g.cpus)
new-pending g m a action reply owns later h i b is before = elim (cases_eq a g.cpus) [
  | inl same ↦
      let L : ℕ → Type 0 = λ n. later n ≡ owns n ++ (action, reply) ∷ [] in
      let own : later g.cpus ≡ owns g.cpus ++ (action, reply) ∷ [] = subst L same h.own in
      let done : reply ≡ Done = h.told ∙ mark-told g m a action b 1 2 is before in
      record {
        front = owns g.cpus;
        rest = [];
        is = own ∙ ap (λ (x : Action). owns g.cpus ++ (x, reply) ∷ []) is ∙ ap (λ (r : Reply). owns g.cpus ++ (Mark b 1 2, r) ∷ []) done;
        left = λ none. none;
      }
  | inr other ↦ absurd (h.pendings other b is)
]

pending-after : (g : Geometry) (m : World) (a : ℕ) (action : Action) (reply : Reply) (owns later : ℕ → Own) → IsOwnStep g m a action reply owns later → AreMarked g m owns
    → (b : ℕ) → mark_at (moved g m a action) b ≡ 2 → IsPending b (later g.cpus)
pending-after g m a action reply owns later h i b two = elim (mark-step g m a action b) [
  | inl same ↦ still-pending g m a action reply owns later h i b (sym same ∙ two) two
  | inr made ↦
      let new : made.new ≡ 2 = sym made.left ∙ two in
      let old : made.old ≡ 1 = (mark-allowed g (m.view a) action b made.old made.new h.allowed made.is).two new in
      let is : action ≡ Mark b 1 2 = made.is ∙ ap (λ (n : ℕ). Mark b n made.new) old ∙ ap (λ (n : ℕ). Mark b 1 n) new in
      new-pending g m a action reply owns later h i b is (made.found ∙ old)
]

pub marked-step : (g : Geometry) (m : World) (a : ℕ) (action : Action) (reply : Reply) (owns later : ℕ → Own) → IsOwnStep g m a action reply owns later → AreMarked g m owns → AreMarked g (moved g m a action) later
marked-step g m a action reply owns later h i = record {
  ended = ended-after g m a action reply owns later h i;
  seen = seen-after g m a action reply owns later h i;
  few = few-after g m a action reply owns later h i;
  candidate = candidate-after g m a action reply owns later h i;
  pending = pending-after g m a action reply owns later h i;
}

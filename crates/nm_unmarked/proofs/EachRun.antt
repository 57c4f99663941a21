-- That no mark is left at the end of a run whose actors take their marks back.
use Rattle.std.proofs.Common.{◌≡◌, ◌≢◌, ℕ, zero, suc, ◌+◌, ◌<◌, ◌≤◌, ◌⊎◌, List, [], ◌∷◌, ◌++◌, refl, sym, ap, subst, inl, inr, ◌∙◌, arith, append_assoc}
use Rattle.std.proofs.lemmas.Bool.{cases_eq, cases_lt}
use Rattle.std.proofs.lemmas.List.{append-nil, get_or-replicate}
use Rattle.nm_base.specs.Geometry.{Geometry, IsGeometry}
use Rattle.nm_base.specs.Ranges.{IsPage}
use Rattle.nm_action.specs.declared.action.AckTo.TheVariants.{End}
use Rattle.nm_action.specs.declared.action.Action.{Action}
use Rattle.nm_action.specs.declared.action.Action.TheVariants.{Ack, Mark}
use Rattle.nm_action.specs.declared.action.Event.{Event}
use Rattle.nm_action.specs.declared.action.Reply.{Reply}
use Rattle.nm_action.specs.Own.{Own, own_of}
use Rattle.nm_view.specs.Views.{View}
use Rattle.nm_view.specs.Opening.{IsActor}
use Rattle.nm_permit.specs.Permitted.{Allowed}
use Rattle.nm_words.specs.declared.names.Where.TheVariants as words
use Rattle.nm_words.specs.Words.{opening_words}
use Rattle.nm_core.specs.Runs.{IsStep, IsRun, IsRunFrom, after_event, state_after}
use Rattle.nm_core.specs.State.{State, view_of, start}
use Rattle.nm_core.proofs.Starts.{view_of-start}
use Rattle.nm_world.specs.Worlds.{World, moved, reply_in}
use Rattle.nm_world.specs.Seen.{world_of}
use Rattle.nm_world.proofs.Bridge.{seen_of, seen_word-place, world_of-step}
use Rattle.nm_runs.proofs.EachRun.{IsLawful, lawful_run, reply_same}
use Rattle.nm_runs.proofs.Longer.{state_from-more, run_from-more}
use Rattle.nm_settled.specs.Ended.{HasNoMark}
use Rattle.nm_marks.specs.Contents.{HasEvent}
use Rattle.nm_marks.specs.Marks.{IsMarkOf, HasOnlyMarks, IsNoMark, IsCandidateMark, IsMigratorMark}
use Rattle.nm_unmarked.specs.Unmarking.{EndsLast, TakeMarksBack}
use Rattle.nm_unmarked.proofs.Owns.{own-at, own-same, own-other, has-at, only-middle, no-middle}
use Rattle.nm_unmarked.proofs.Steps.{mark_at}
use Rattle.nm_unmarked.proofs.Marked.{IsEndAck, AreMarked, IsOwnStep, marked-step}

-- ---- where nothing was done

no-marks : (g : Geometry) (b : ℕ) → mark_at (world_of (start g)) b ≡ 0
no-marks g b = seen_of (λ n. n ≡ 0) g (opening_words g) (words.Mark b) refl (λ there. get_or-replicate _ b 0 0 there)

pub marked-start : (g : Geometry) → AreMarked g (world_of (start g)) (λ a. own_of a [])
marked-start g = record {
  ended = λ p there says. let off = ap (λ (v : View). v.acked) (view_of-start g p (omega (arith, there))) in absurd (omega (arith, off, says));
  seen = λ p there none. absurd none;
  few = λ b. omega (arith, no-marks g b);
  candidate = λ b one. absurd (omega (arith, no-marks g b, one));
  pending = λ b two. absurd (omega (arith, no-marks g b, two));
}

-- ---- one event more

-- the actor of a step is a processor, the migrator or the reclaimer
actors : (g : Geometry) (a : ℕ) → IsActor g a → g.cpus ≤ a → (a ≡ g.cpus) ⊎ (a ≡ g.cpus + 1)
actors g a there past = elim (cases_eq a g.cpus) [
  | inl same ↦ inl same
  | inr other ↦ inr (omega (arith, there, past, other))
]

-- a Mark in the own list of an actor is one of those that this list has
mark-in : (may : ℕ → ℕ → Type 0) (actor : ℕ) (before rest : List Event) (e : Event) (b old new : ℕ) → e.actor ≡ actor → e.action ≡ Mark b old new → HasOnlyMarks may (own_of actor (before ++ e ∷ rest)) → may old new
mark-in may actor before rest e b old new same is marks =
    let M : Own → Type 0 = λ l. HasOnlyMarks may l in
    let A : Action → Type 0 = λ a. IsMarkOf may a in
    subst A is (only-middle (IsMarkOf may) (own_of actor before) (e.action, e.reply) (own_of actor rest) (subst M (own-at actor before rest e same) marks))

no-candidate : (g : Geometry) (before rest : List Event) (e : Event) → IsActor g e.actor → TakeMarksBack g (before ++ e ∷ rest) → g.cpus ≤ e.actor → (b : ℕ) → ¬ (e.action ≡ Mark b 0 1)
no-candidate g before rest e there back past b is = elim (actors g e.actor there past) [
  | inl same ↦ elim (mark-in IsMigratorMark g.cpus before rest e b 0 1 same is back.migrator.marks) [
    | inl h ↦ omega (arith, h.old_is)
    | inr h ↦ elim h [
      | inl k ↦ omega (arith, k.old_is)
      | inr k ↦ omega (arith, k.old_is)
    ]
  ]
  | inr same ↦ mark-in IsNoMark (g.cpus + 1) before rest e b 0 1 same is back.reclaimer
]

no-pending : (g : Geometry) (before rest : List Event) (e : Event) → IsActor g e.actor → TakeMarksBack g (before ++ e ∷ rest) → e.actor ≢ g.cpus → (b : ℕ) → ¬ (e.action ≡ Mark b 1 2)
no-pending g before rest e there back other b is = elim (cases_lt e.actor g.cpus) [
  | inl below ↦ elim (mark-in IsCandidateMark e.actor before rest e b 1 2 refl is (back.processors e.actor below).marks) [
    | inl h ↦ omega (arith, h.old_is)
    | inr h ↦ omega (arith, h.new_is)
  ]
  | inr past ↦ elim (actors g e.actor there past) [
    | inl same ↦ other same
    | inr same ↦ mark-in IsNoMark (g.cpus + 1) before rest e b 1 2 same is back.reclaimer
  ]
]

-- a processor that makes a step has not acknowledged its end
not-ended : (own rest : Own) (e : Action × Reply) → EndsLast (own ++ e ∷ rest) → ¬ HasEvent IsEndAck own
not-ended own rest e last has =
    let at = has-at IsEndAck own has in
    let there : own ++ e ∷ rest ≡ at.front ++ (Ack End, at.event.1) ∷ (at.rest ++ e ∷ rest) =
    ap (λ (l : Own). l ++ e ∷ rest) at.is ∙ append_assoc at.front (at.event ∷ at.rest) (e ∷ rest) ∙ ap (λ (x : Action). at.front ++ (x, at.event.1) ∷ (at.rest ++ e ∷ rest)) at.holds in
    no-middle at.rest e rest (sym (last at.front (at.rest ++ e ∷ rest) at.event.1 there))

processor-runs : (g : Geometry) (before rest : List Event) (e : Event) → TakeMarksBack g (before ++ e ∷ rest) → e.actor < g.cpus → ¬ HasEvent IsEndAck (own_of e.actor before)
processor-runs g before rest e back there =
    let L : Own → Type 0 = λ l. EndsLast l in
    not-ended (own_of e.actor before) (own_of e.actor rest) (e.action, e.reply) (subst L (own-at e.actor before rest e refl) (back.processors e.actor there).last)

own-step : (g : Geometry) (before rest : List Event) (e : Event) → IsGeometry g → IsRun g before → IsStep (state_after g before) e → TakeMarksBack g (before ++ e ∷ rest)
    → IsOwnStep g (world_of (state_after g before)) e.actor e.action e.reply (λ a. own_of a before) (λ a. own_of a (before ++ e ∷ []))
own-step g before rest e is run made back =
    let s : State = state_after g before in
    let lawful : IsLawful g s = lawful_run g before is run in
    let I : Geometry → Type 0 = λ n. IsActor n e.actor in
    let A : Geometry → Type 0 = λ n. Allowed n (view_of s e.actor) e.action in
    let there : IsActor g e.actor = subst I lawful.machine made.actor in
    record {
      all = lawful.all;
      allowed = subst A lawful.machine made.allowed;
      told = made.reply ∙ sym (reply_same s e.actor e.action lawful.kept made.actor made.allowed) ∙ ap (λ (n : Geometry). reply_in n (world_of s) e.actor e.action) lawful.machine;
      own = own-same e.actor before e refl;
      others = λ c other. own-other c before e other;
      candidates = no-candidate g before rest e there back;
      pendings = no-pending g before rest e there back;
      running = processor-runs g before rest e back;
    }

marked-more : (g : Geometry) (before rest : List Event) (e : Event) → IsGeometry g → IsRun g before → IsStep (state_after g before) e → TakeMarksBack g (before ++ e ∷ rest)
    → AreMarked g (world_of (state_after g before)) (λ a. own_of a before) → AreMarked g (world_of (after_event (state_after g before) e)) (λ a. own_of a (before ++ e ∷ []))
marked-more g before rest e is run made back marked =
    let s : State = state_after g before in
    let lawful : IsLawful g s = lawful_run g before is run in
    let same : world_of (after_event s e) ≡ moved g (world_of s) e.actor e.action =
    world_of-step s e.actor e.action lawful.kept made.actor made.allowed ∙ ap (λ (n : Geometry). moved n (world_of s) e.actor e.action) lawful.machine in
    let M : World → Type 0 = λ m. AreMarked g m (λ a. own_of a (before ++ e ∷ [])) in
    subst M (sym same) (marked-step g (world_of s) e.actor e.action e.reply (λ a. own_of a before) (λ a. own_of a (before ++ e ∷ [])) (own-step g before rest e is run made back) marked)

-- ---- runs

marked-from : (g : Geometry) (events before rest : List Event) → events ≡ before ++ rest → IsGeometry g → IsRun g before → IsRunFrom (state_after g before) rest → TakeMarksBack g events
    → AreMarked g (world_of (state_after g before)) (λ a. own_of a before) → AreMarked g (world_of (state_after g events)) (λ a. own_of a events)
marked-from g events before [] all is run more back marked =
    let M : List Event → Type 0 = λ l. AreMarked g (world_of (state_after g l)) (λ a. own_of a l) in
    subst M (sym (all ∙ append-nil before)) marked
marked-from g events before (e ∷ rest) all is run more back marked =
    let after : state_after g (before ++ e ∷ []) ≡ after_event (state_after g before) e = state_from-more (start g) before e in
    let T : List Event → Type 0 = λ l. TakeMarksBack g l in
    let R : State → Type 0 = λ s. IsRunFrom s rest in
    let M : State → Type 0 = λ s. AreMarked g (world_of s) (λ a. own_of a (before ++ e ∷ [])) in
    marked-from g events (before ++ e ∷ []) rest (all ∙ sym (append_assoc before (e ∷ []) rest)) is (run_from-more (start g) before e run more.0)
    (subst R (sym after) more.1) back
    (subst M (sym after) (marked-more g before rest e is run more.0 (subst T all back) marked))

none-of : (n : ℕ) → n ≤ 2 → n ≢ 1 → n ≢ 2 → n ≡ 0
none-of zero few one two = refl
none-of (suc zero) few one two = absurd (one refl)
none-of (suc (suc zero)) few one two = absurd (two refl)
none-of (suc (suc (suc n))) few one two = absurd (omega (arith, few))

pub unmarked-run : (g : Geometry) (events : List Event) → IsGeometry g → IsRun g events → TakeMarksBack g events → HasNoMark (state_after g events)
unmarked-run g events is run back page there =
    let s : State = state_after g events in
    let marked : AreMarked g (world_of s) (λ a. own_of a events) = marked-from g events [] events refl is tt run back (marked-start g) in
    let P : Geometry → Type 0 = λ n. IsPage n page in
    let page_there : IsPage g page = subst P (lawful_run g events is run).machine there in
    sym (seen_word-place s.geometry s.words (words.Mark page) there)
    ∙ none-of (mark_at (world_of s) page) (marked.few page)
    (λ one. marked.candidate page one (back.migrator.swept page page_there))
    (λ two. let p = marked.pending page two in p.left (back.migrator.back page page_there p.front p.rest p.is))

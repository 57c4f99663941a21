-- The transactions of every run obey the law.
use Rattle.std.proofs.Common.{◌≡◌, ℕ, List, [], ◌∷◌, ◌++◌, Some, All, sym, ap, subst, ◌∙◌, inl, append_assoc, append-nil}
use Rattle.nm_base.specs.Geometry.{Geometry, IsGeometry, backing_page}
use Rattle.nm_action.specs.declared.action.Action.{Action}
use Rattle.nm_action.specs.declared.action.Action.TheVariants.{ClearDirty}
use Rattle.nm_action.specs.declared.action.Event.{Event}
use Rattle.nm_core.specs.Kept.{IsKept}
use Rattle.nm_core.specs.Runs.{IsStep, IsRun, IsRunFrom, after_event}
use Rattle.nm_core.specs.State.{State, start}
use Rattle.nm_core.proofs.Starts.{IsKept-start}
use Rattle.nm_view.proofs.Items.{all_head, all_tail}
use Rattle.nm_world.specs.Worlds.{World, moved}
use Rattle.nm_world.specs.Laws.{AreAll, IsReady}
use Rattle.nm_world.specs.Seen.{world_of}
use Rattle.nm_world.proofs.Bridge.{world_of-step}
use Rattle.nm_world.proofs.Opening.{AreAll-start}
use Rattle.nm_runs.proofs.EachRun.{kept_after, all_after, reply_same}
use Rattle.nm_runs.proofs.Joined.{ready_of}
use Rattle.nm_transactions.specs.TransactionLaw.{replied, IsBy, IsSetOrMap, IsDecided, ObeyTransactionLaw}
use Rattle.nm_transactions.proofs.Open.{IsOpen}
use Rattle.nm_transactions.proofs.Begun.{cleared_begun}
use Rattle.nm_transactions.proofs.Steps.{event_in, open_moved}
use Rattle.nm_transactions.proofs.Ended.{open_ended}

-- a step of a lawful state is one of its world
record Stepped (s : State) (e : Event) : Type 0 where
  ready : IsReady s.geometry (world_of s) e.actor e.action
  event : event_in s.geometry (world_of s) e.actor e.action ≡ e
  after : moved s.geometry (world_of s) e.actor e.action ≡ world_of (after_event s e)
  kept : IsKept (after_event s e)
  all : AreAll s.geometry (world_of (after_event s e))

stepped : (s : State) (e : Event) → IsKept s → AreAll s.geometry (world_of s) → IsStep s e → Stepped s e
stepped s e k all made = record {
  ready = ready_of s.geometry (world_of s) e.actor e.action k.geometry all made.actor made.allowed;
  event = ap (replied e.actor e.action) (reply_same s e.actor e.action k made.actor made.allowed ∙ sym made.reply);
  after = sym (world_of-step s e.actor e.action k made.actor made.allowed);
  kept = kept_after s e.actor e.action k made.actor made.allowed;
  all = all_after s e.actor e.action k made.actor made.allowed all;
}

-- one event more of an open transaction
one_more : (s : State) (e : Event) (a v b : ℕ) (done : List Event) → IsKept s → AreAll s.geometry (world_of s) → Stepped s e → backing_page s.geometry v ≡ Some b → ¬ IsSetOrMap s.geometry a b e → IsOpen s.geometry (world_of s) a v b done → IsOpen s.geometry (world_of (after_event s e)) a v b (done ++ e ∷ [])
one_more s e a v b done k all made of not begun =
    let g : Geometry = s.geometry in
    let Other : Event → Type 0 = λ f. ¬ IsSetOrMap g a b f in
    let Open : Event → Type 0 = λ f. IsOpen g (moved g (world_of s) e.actor e.action) a v b (done ++ f ∷ []) in
    let At : World → Type 0 = λ m. IsOpen g m a v b (done ++ e ∷ []) in
    subst At made.after (subst Open made.event (open_moved g (world_of s) a v b e.actor done e.action k.geometry all made.ready of (subst Other (sym made.event) not) begun))

-- the last event of an open transaction
last_one : (s : State) (e : Event) (a v b : ℕ) (done : List Event) → IsKept s → AreAll s.geometry (world_of s) → Stepped s e → backing_page s.geometry v ≡ Some b → IsSetOrMap s.geometry a b e → IsOpen s.geometry (world_of s) a v b done → IsDecided s.geometry a v b done e
last_one s e a v b done k all made of last begun =
    let g : Geometry = s.geometry in
    subst (IsDecided g a v b done) made.event (open_ended g (world_of s) a v b e.actor done e.action k.geometry all made.ready of (subst (IsSetOrMap g a b) (sym made.event) last) begun)

-- an open transaction is followed to its end
followed : (s : State) (a v b : ℕ) (done middle : List Event) (last : Event) (rest : List Event) → IsKept s → AreAll s.geometry (world_of s) → backing_page s.geometry v ≡ Some b → IsOpen s.geometry (world_of s) a v b done → All (λ e. ¬ IsSetOrMap s.geometry a b e) middle → IsSetOrMap s.geometry a b last → IsRunFrom s (middle ++ last ∷ rest) → IsDecided s.geometry a v b (done ++ middle) last
followed s a v b done [] last rest k all of begun none acts run =
    subst (λ (es : List Event). IsDecided s.geometry a v b es last) (sym (append-nil done)) (last_one s last a v b done k all (stepped s last k all run.0) of acts begun)
followed s a v b done (e ∷ middle) last rest k all of begun none acts run =
    let made : Stepped s e = stepped s e k all run.0 in
    let next : IsOpen s.geometry (world_of (after_event s e)) a v b (done ++ e ∷ []) = one_more s e a v b done k all made of (all_head (λ f. ¬ IsSetOrMap s.geometry a b f) e middle none) begun in
    subst (λ (es : List Event). IsDecided s.geometry a v b es last) (append_assoc done (e ∷ []) middle)
    (followed (after_event s e) a v b (done ++ e ∷ []) middle last rest made.kept made.all of next (all_tail (λ f. ¬ IsSetOrMap s.geometry a b f) e middle none) acts run.1)

-- the ClearDirty opens it
opened_by : (s : State) (e : Event) (a v b : ℕ) → AreAll s.geometry (world_of s) → Stepped s e → backing_page s.geometry v ≡ Some b → IsBy a (ClearDirty v) e → IsOpen s.geometry (world_of (after_event s e)) a v b []
opened_by s e a v b all made of clear =
    let g : Geometry = s.geometry in
    let m : World = world_of s in
    let At : World → Type 0 = λ n. IsOpen g n a v b [] in
    let Opens : ℕ → Type 0 = λ c. IsReady g m c (ClearDirty v) → IsOpen g (moved g m c (ClearDirty v)) a v b [] in
    let own : Opens a = λ r. inl (cleared_begun g m a v b all.locks r of) in
    let Made : Action → Type 0 = λ x. IsReady g m e.actor x → IsOpen g (moved g m e.actor x) a v b [] in
    let made_so : Made e.action = subst Made (sym clear.made) (subst Opens (sym clear.actor) own) in
    subst At made.after (made_so made.ready)

each_from : (s : State) (a v b : ℕ) (front : List Event) (clear : Event) (middle : List Event) (last : Event) (rest : List Event) → IsKept s → AreAll s.geometry (world_of s) → backing_page s.geometry v ≡ Some b → IsBy a (ClearDirty v) clear → All (λ e. ¬ IsSetOrMap s.geometry a b e) middle → IsSetOrMap s.geometry a b last → IsRunFrom s (front ++ clear ∷ middle ++ last ∷ rest) → IsDecided s.geometry a v b middle last
each_from s a v b [] clear middle last rest k all of clears none acts run =
    let made : Stepped s clear = stepped s clear k all run.0 in
    followed (after_event s clear) a v b [] middle last rest made.kept made.all of (opened_by s clear a v b all made of clears) none acts run.1
each_from s a v b (e ∷ front) clear middle last rest k all of clears none acts run =
    let made : Stepped s e = stepped s e k all run.0 in
    each_from (after_event s e) a v b front clear middle last rest made.kept made.all of clears none acts run.1

pub transactions_obey : (g : Geometry) (events : List Event) → IsGeometry g → IsRun g events → ObeyTransactionLaw g events
transactions_obey g events is run a v b middle last h =
    each_from (start g) a v b h.front h.clear middle last h.rest (IsKept-start g is) (AreAll-start g is) h.page h.clears h.first h.ends (subst (IsRun g) h.list run)

-- The kinds by which an operation comes or goes: Lock and Unlock.
use Rattle.std.proofs.Common.{◌≡◌, ℕ, ◌+◌, ◌≤◌, ◌<◌, ◌==◌, if◌then◌else◌, Bool, true, false, Option, Some, None, IfSome, All, refl, sym, ap, subst, ◌∙◌, inl, inr, arith}
use Rattle.std.specs.Prelude.{option_map}
use Rattle.std.specs.Int.{bit_at}
use Rattle.nm_base.specs.Geometry.{Geometry, backing_page}
use Rattle.nm_action.specs.declared.action.Reply.TheVariants.{Done, Busy}
use Rattle.nm_action.specs.declared.action.Action.TheVariants.{Lock, Unlock}
use Rattle.nm_words.specs.declared.names.Where.{Where}
use Rattle.nm_words.specs.declared.names.Where.TheVariants as words
use Rattle.nm_view.specs.declared.view.CacheEntry.{CacheEntry}
use Rattle.nm_view.specs.declared.view.Peeked.{Peeked}
use Rattle.nm_view.specs.Views.{Op, View}
use Rattle.nm_view.specs.Opening.{opened}
use Rattle.nm_view.specs.Operations.{IsFlushEnded, AreSeen}
use Rattle.nm_view.proofs.Items.{all_same, none_left, some_same, not_none}
use Rattle.nm_permit.specs.Permitted.{Allowed, MayUnlock}
use Rattle.nm_event.specs.After.{after_of}
use Rattle.nm_world.specs.Worlds.{World, written, viewing, moved, stamp_at, lock_at, ack_at, op_at}
use Rattle.nm_world.specs.Parts.{Flight, flight_of, desk_of, flight_at, desk_at}
use Rattle.nm_world.specs.Sights.{Sets}
use Rattle.nm_world.specs.Notions.{IsBehind, Owes, IsOwed}
use Rattle.nm_world.specs.ShapeLaw.{ShapeLaw}
use Rattle.nm_world.specs.LockLaw.{LockLaw}
use Rattle.nm_world.specs.Laws.{IsReady}
use Rattle.nm_world.specs.CacheLaw.{IsPeekSound, IsFlightSound, CacheLaw}
use Rattle.nm_world.proofs.Moves.{edited, gone, part_sets, sole_op}
use Rattle.nm_world.proofs.Writing.{open_sets, close_sets}
use Rattle.nm_caches.proofs.Shapes.{GoesOn, IsRunning, some_parts, part_from, entry_kept, flight_kept, law_kept, view_part}
use Rattle.nm_caches.proofs.Still.{read_still, same_view}
use Rattle.nm_caches.proofs.Edits.{owed_others}

-- Nobody is owed.

seen_all : (cpus ack p : ℕ) (flush : Option ℕ) (seen : ℕ) → p < cpus → IfSome flush (λ _. AreSeen cpus seen) → IsBehind ack p flush seen → ⊥
seen_all cpus ack p None seen there all behind = behind
seen_all cpus ack p (Some f) seen there all behind = let one : bit_at seen p ≡ 1 = all p there in omega (arith, one, behind.unseen)

-- an operation whose flush ended owes no processor
pub nobody_owed : (g : Geometry) (ack p : ℕ) (o : Op) → IsFlushEnded g o → p < g.cpus → Owes ack p (flight_of o) → ⊥
nobody_owed g ack p o ended there (inl due) = let made : o.due ≡ false = ended.made in let is : o.due ≡ true = due in let bad : ⊥ = cc in bad
nobody_owed g ack p o ended there (inr behind) = seen_all g.cpus ack p o.flush o.seen there ended.seen behind

-- where the flush of an operation ended, no entry of its page is owed
pub page_not_owed : (g : Geometry) (m : World) (a b : ℕ) (o : Op) → op_at m a b ≡ Some o → IsFlushEnded g o → LockLaw g m → (p : ℕ) → IsRunning g m p → (e : CacheEntry) → backing_page g e.vpage ≡ Some b → IsOwed g m p e → ⊥
page_not_owed g m a b o here ended locks p runs e of owed =
    let page : owed.page ≡ b = some_same owed.page b (sym owed.of ∙ of) in
    let On : ℕ → Type 0 = λ j. flight_at m owed.actor j ≡ Some owed.op in
    let found = part_from flight_of (op_at m owed.actor b) owed.op (subst On page owed.here) in
    let actor : owed.actor ≡ a = sole_op g m a b o locks here owed.actor found.0 found.1.0 in
    let At : ℕ → Type 0 = λ c. op_at m c b ≡ Some found.0 in
    let same : found.0 ≡ o = some_same found.0 o (sym (subst At actor found.1.0) ∙ here) in
    let Owe : Flight → Type 0 = λ x. Owes (ack_at m p) p x in
    nobody_owed g (ack_at m p) p o ended runs.processor (subst Owe (sym found.1.1 ∙ ap flight_of same) owed.owes)

-- Lock.

lock_done : (g : Geometry) (m : World) (a b : ℕ) → op_at m a b ≡ None → ShapeLaw g m → CacheLaw g m → CacheLaw g (record { word = written (words.Lock b) ((m.view a).number + 1) m.word; view = viewing a (after_of g (m.view a) (Lock b) Done) m.view })
lock_done g m a b none shape h =
    let word : Where → ℕ = written (words.Lock b) ((m.view a).number + 1) m.word in
    let new : View = after_of g (m.view a) (Lock b) Done in
    let m' : World = record { word = word; view = viewing a new m.view } in
    let o : Op = opened b (m.view a).room.aliases in
    let goes : GoesOn m m' = record { stamps = λ v. omega arith; req = omega arith } in
    let sets : Sets (flight_at m) (flight_at m') a b (Some (flight_of o)) = part_sets flight_of (op_at m) (op_at m') a b (Some o) (open_sets a o new m.view refl none) in
    let absent : flight_at m a b ≡ None = ap (option_map flight_of) none in
    law_kept g m m' goes (λ p. refl) (view_part desk_of a new m.view refl)
    (λ p runs e sound. entry_kept g m m' p e goes (λ j. refl) (λ before. elim before [
      | inl stands ↦ inl stands
      | inr owed ↦ inr (owed_others g m m' p e a b (Some (flight_of o)) refl sets (λ q here _. not_none q (sym absent ∙ here)) owed)
    ]) sound)
    (edited (λ c j q. IsFlightSound m' q) (flight_at m) (flight_at m') a b (flight_of o) sets
    (record { raised = none_left (λ (p : ℕ × ℕ). p.1 ≤ stamp_at m p.0); wet = inr refl })
    (λ c j q _ is. flight_kept m m' q goes.stamps (h.flights c j q is)))
    (λ p. edited (λ c j q. All (IsPeekSound (desk_at m p).req_seen q) (desk_at m p).peeked) (flight_at m) (flight_at m') a b (flight_of o) sets
    (all_same (λ (k : Peeked). k.stamp ≤ stamp_at m k.vpage) (IsPeekSound (desk_at m p).req_seen (flight_of o)) (desk_at m p).peeked (λ k _ flush v n has found number reached fresh. absurd (not_none flush has)) (h.desks p).peeks)
    (λ c j q _ is. (h.desks p).fresh c j q is))
    shape h

-- done where the lock is free, and busy where another has it
lock_by : (g : Geometry) (m : World) (a b : ℕ) (t : Bool) → op_at m a b ≡ None → ShapeLaw g m → CacheLaw g m → CacheLaw g (record { word = written (words.Lock b) (if t then (m.view a).number + 1 else lock_at m b) m.word; view = viewing a (after_of g (m.view a) (Lock b) (if t then Done else Busy (lock_at m b))) m.view })
lock_by g m a b true none shape h = lock_done g m a b none shape h
lock_by g m a b false none shape h = read_still g m (words.Lock b) a (m.view a) (same_view (m.view a)) shape h

pub cache_lock : (g : Geometry) (m : World) (a b : ℕ) → Allowed g (m.view a) (Lock b) → ShapeLaw g m → CacheLaw g m → CacheLaw g (moved g m a (Lock b))
cache_lock g m a b allowed shape h = lock_by g m a b (lock_at m b == 0) allowed.permitted.fresh shape h

-- Unlock.

pub cache_unlock : (g : Geometry) (m : World) (a b : ℕ) → IsReady g m a (Unlock b) → CacheLaw g m → CacheLaw g (moved g m a (Unlock b))
cache_unlock g m a b ready h =
    let word : Where → ℕ = written (words.Lock b) 0 m.word in
    let new : View = after_of g (m.view a) (Unlock b) Done in
    let m' : World = record { word = word; view = viewing a new m.view } in
    let goes : GoesOn m m' = record { stamps = λ v. omega arith; req = omega arith } in
    let own = some_parts (op_at m a b) (MayUnlock g) ready.allowed.permitted in
    let here : flight_at m a b ≡ Some (flight_of own.0) = ap (option_map flight_of) own.1.0 in
    let sets : Sets (flight_at m) (flight_at m') a b None = part_sets flight_of (op_at m) (op_at m') a b None (close_sets a b new m.view refl (ready.shaped.shape a ready.actor).keyed.ops_once) in
    law_kept g m m' goes (λ p. refl) (view_part desk_of a new m.view refl)
    (λ p runs e sound. entry_kept g m m' p e goes (λ j. refl) (λ before. elim before [
      | inl stands ↦ inl stands
      | inr owed ↦ inr (owed_others g m m' p e a b None refl sets (λ q is owes.
          let Owe : Flight → Type 0 = λ x. Owes (ack_at m p) p x in
          nobody_owed g (ack_at m p) p own.0 own.1.1.flushed runs.processor (subst Owe (some_same q (flight_of own.0) (sym is ∙ here)) owes)) owed)
    ]) sound)
    (λ c j q is. flight_kept m m' q goes.stamps (h.flights c j q (gone (flight_at m) (flight_at m') a b sets c j q is).1))
    (λ p c j q is. (h.desks p).fresh c j q (gone (flight_at m) (flight_at m') a b sets c j q is).1)
    ready.shaped h

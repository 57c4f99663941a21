-- The reply of each kind of permitted action fits.
use Rattle.std.proofs.Common.{◌≡◌, ◌≢◌, ℕ, ◌<◌, ◌≤◌, ◌==◌, if◌then◌else◌, [], Option, Some, None, IsSomeAnd, IfSome, sym, ap, subst, arith}
use Rattle.std.specs.Prelude.{option_map}
use Rattle.std.proofs.lemmas.Bool.{eqb-true, eqb-false}
use Rattle.nm_base.specs.Geometry.{Geometry, IsGeometry, frame_count}
use Rattle.nm_action.specs.declared.action.Cell.TheVariants as cells
use Rattle.nm_action.specs.declared.action.Reply.TheVariants.{Done, Busy, Lost}
use Rattle.nm_action.specs.declared.action.Action.{Action}
use Rattle.nm_action.specs.declared.action.Action.TheVariants.{Load, Store, Add, Look, Walk, Peek, Poll, Ack, Lock, Unlock, Bump, SeeAck, Raise, Soften, Arm, ClearDirty, Unmap, Map, Grant, CopyLoad, CopyStore, SetHome, SetShadow, TakeTurn, Scan, GiveFrame, PutFrame, ReleaseTurn, Mark, Read}
use Rattle.nm_view.specs.Lists.{find, first}
use Rattle.nm_view.specs.Views.{Op, View}
use Rattle.nm_view.specs.Opening.{IsActor}
use Rattle.nm_view.specs.Operations.{op_on, op_of, IsLookedMapped}
use Rattle.nm_view.proofs.Items.{some_same}
use Rattle.nm_permit.specs.Permitted.{Allowed, MayClear, MayUnmap, MayGrant, MayRead, IsSavedWord}
use Rattle.nm_words.specs.declared.names.Where.TheVariants as words
use Rattle.nm_step.specs.Table.{where_of, change_of}
use Rattle.nm_step.proofs.Replies.{IsReplyTo-reply_of}
use Rattle.nm_event.specs.Fitting.{Fits, FitsTold, IsCarried, IsMappedReply, IsTableReply, IsReadOf, Agrees}
use Rattle.nm_world.specs.Worlds.{World, pte_at, home_at, shadow_at, op_at, found_in, reply_in}
use Rattle.nm_world.specs.Parts.{lore_of}
use Rattle.nm_world.specs.Laws.{AreAll}
use Rattle.nm_world.proofs.Choose.{decide}
use Rattle.nm_world.proofs.Moves.{on_page}
use Rattle.nm_world.proofs.Options.{if_all, some_and}
use Rattle.nm_world.proofs.Bits.{saved_some}
use Rattle.nm_fits.proofs.Words.{table_reply}
use Rattle.nm_fits.proofs.Sums.{few_bumps, few_raises}
use Rattle.nm_fits.proofs.Frames.{known_op, scan_fits, home_read_fits, shadow_read_fits}

-- a word that was looked at as not 0 and not taken is not 0
mapped_word : (g : Geometry) (m : World) (a b v : ℕ) (o : Op) → AreAll g m → op_at m a b ≡ Some o → find first v o.taken ≡ None → IsSomeAnd (find first v o.looked) (λ p. p.1 ≢ 0) → pte_at m v ≢ 0
mapped_word g m a b v o h is none looked zero =
    let p = some_and (find first v o.looked) (λ p. p.1 ≢ 0) looked in
    let agrees : Agrees p.0.1 (pte_at m v) = subst (λ (q : Option (ℕ × ℕ)). IfSome q (λ p. Agrees p.1 (pte_at m v))) p.1.0 ((known_op g m a b o h is).looked v none) in
    p.1.1 (agrees.absent.1 zero)

mapped_reply : (g : Geometry) (m : World) (a v : ℕ) → AreAll g m → pte_at m v ≢ 0 → IsMappedReply g (m.view a) v (pte_at m v)
mapped_reply g m a v h some = record { carried = table_reply g m a v h; mapped = some }

arm_mapped : (g : Geometry) (m : World) (a v : ℕ) → AreAll g m → IsSomeAnd (op_of g (m.view a) v) (λ o. IsLookedMapped o.looked o.taken v) → pte_at m v ≢ 0
arm_mapped g m a v h may =
    let on = on_page g (m.view a) v (λ o. IsLookedMapped o.looked o.taken v) may in
    mapped_word g m a on.page v on.op h on.here on.may.there on.may.looked

clear_mapped : (g : Geometry) (m : World) (a v : ℕ) → AreAll g m → IsSomeAnd (op_of g (m.view a) v) (MayClear g v) → pte_at m v ≢ 0
clear_mapped g m a v h may =
    let on = on_page g (m.view a) v (MayClear g v) may in
    let none : on.op.taken ≡ [] = (h.locks.staged a on.page (lore_of on.op) (ap (option_map lore_of) on.here)).held_taken on.may.phase in
    mapped_word g m a on.page v on.op h on.here (ap (find first v) none) on.may.mapped

unmap_mapped : (g : Geometry) (m : World) (a v : ℕ) → AreAll g m → IsSomeAnd (op_of g (m.view a) v) (MayUnmap g v) → pte_at m v ≢ 0
unmap_mapped g m a v h may =
    let on = on_page g (m.view a) v (MayUnmap g v) may in
    mapped_word g m a on.page v on.op h on.here on.may.mapped.there on.may.mapped.looked

grant_mapped : (g : Geometry) (m : World) (a v : ℕ) → AreAll g m → IsSomeAnd (op_of g (m.view a) v) (MayGrant v) → pte_at m v ≢ 0
grant_mapped g m a v h may =
    let on = on_page g (m.view a) v (MayGrant v) may in
    let p = some_and (find first v on.op.looked) (λ p. IsSavedWord p.1) on.may.saved in
    let looked : IsSomeAnd (find first v on.op.looked) (λ p. p.1 ≢ 0) = subst (λ (q : Option (ℕ × ℕ)). IsSomeAnd q (λ p. p.1 ≢ 0)) (sym p.1.0) (saved_some p.0.1 p.1.1) in
    mapped_word g m a on.page v on.op h on.here on.may.there looked

-- what a Read gives fits the operation
home_fits : (g : Geometry) (m : World) (a b page : ℕ) → AreAll g m → IsActor g a → page ≡ b → IfSome (op_on (m.view a) b) (IsReadOf g (m.view a) (cells.Home page) (home_at m page))
home_fits g m a b page h actor same =
    if_all (op_on (m.view a) b) (IsReadOf g (m.view a) (cells.Home page) (home_at m page)) (λ o is.
    subst (λ (n : ℕ). IsReadOf g (m.view a) (cells.Home n) (home_at m n) o) (sym same) (home_read_fits g m a b o h actor is))

may_read : (o : Option Op) (x : Op) (P : Op → Type 0) → o ≡ Some x → IsSomeAnd o P → P x
may_read None x P is h = absurd h
may_read (Some y) x P is h = subst P (some_same y x is) h

shadow_fits : (g : Geometry) (m : World) (a b k : ℕ) → frame_count g ≤ 4096 → AreAll g m → k < frame_count g → IsSomeAnd (op_on (m.view a) b) (MayRead (cells.Shadow k)) → IfSome (op_on (m.view a) b) (IsReadOf g (m.view a) (cells.Shadow k) (shadow_at m k))
shadow_fits g m a b k few h frame may =
    if_all (op_on (m.view a) b) (IsReadOf g (m.view a) (cells.Shadow k) (shadow_at m k)) (λ o is.
    shadow_read_fits g m a b k o few h frame is (may_read (op_on (m.view a) b) o (MayRead (cells.Shadow k)) is may))

-- a word carried by a reply
carries : (g : Geometry) (m : World) (a : ℕ) (action : Action) (Said : Type 0) → AreAll g m → Said → IsCarried (found_in g m a action) Said
carries g m a action Said h said = record { bits = h.bounds.words (where_of g (m.view a) action); said = said }

taking : (g : Geometry) (view : View) (action : Action) (n : ℕ) → FitsTold g view action Done → (n ≢ 0 → FitsTold g view action (Busy n)) → FitsTold g view action (if n == 0 then Done else Busy n)
taking g view action n done busy = decide (FitsTold g view action) (n == 0) Done (Busy n) (λ _. done) (λ held. busy (eqb-false n 0 held))

asking : (g : Geometry) (view : View) (action : Action) (n e : ℕ) → (n ≡ e → FitsTold g view action Done) → (n ≢ e → FitsTold g view action (Lost n)) → FitsTold g view action (if n == e then Done else Lost n)
asking g view action n e done lost = decide (FitsTold g view action) (n == e) Done (Lost n) (λ is. done (eqb-true n e is)) (λ is. lost (eqb-false n e is))

told : (g : Geometry) (m : World) (a : ℕ) (action : Action) → IsGeometry g → AreAll g m → IsActor g a → Allowed g (m.view a) action → FitsTold g (m.view a) action (reply_in g m a action)
told g m a (Load v i) is h actor may = carries g m a (Load v i) _ h tt
told g m a (Store v i x) is h actor may = carries g m a (Store v i x) _ h tt
told g m a (Add v i x) is h actor may = carries g m a (Add v i x) _ h tt
told g m a (Look v) is h actor may = carries g m a (Look v) _ h (table_reply g m a v h)
told g m a (Walk v e write) is h actor may =
    asking g (m.view a) (Walk v e write) (pte_at m v) e
    (λ same. subst (IsTableReply g (m.view a) v) same (table_reply g m a v h))
    (λ other. record { bits = h.bounds.words (words.Pte v); said = record { carried = table_reply g m a v h; other = other } })
told g m a (Peek v) is h actor may = carries g m a (Peek v) _ h (omega (arith, h.bounds.stamps v, few_raises g m is h.shape))
told g m a Poll is h actor may = carries g m a Poll _ h (omega (arith, h.bounds.req, few_bumps g m is h.shape))
told g m a (Ack to) is h actor may = tt
told g m a (Lock b) is h actor may = taking g (m.view a) (Lock b) (m.word (words.Lock b)) tt (λ held. record { bits = h.bounds.words (words.Lock b); said = held })
told g m a (Unlock b) is h actor may = tt
told g m a Bump is h actor may = carries g m a Bump _ h (omega (arith, h.bounds.req, few_bumps g m is h.shape))
told g m a (SeeAck p) is h actor may = carries g m a (SeeAck p) _ h tt
told g m a (Raise v) is h actor may = carries g m a (Raise v) _ h (omega (arith, h.bounds.stamps v, few_raises g m is h.shape))
told g m a (Soften v bit) is h actor may = carries g m a (Soften v bit) _ h (table_reply g m a v h)
told g m a (Arm v) is h actor may = carries g m a (Arm v) _ h (mapped_reply g m a v h (arm_mapped g m a v h may.permitted))
told g m a (ClearDirty v) is h actor may = carries g m a (ClearDirty v) _ h (mapped_reply g m a v h (clear_mapped g m a v h may.permitted))
told g m a (Unmap v) is h actor may = carries g m a (Unmap v) _ h (mapped_reply g m a v h (unmap_mapped g m a v h may.permitted))
told g m a (Map v word) is h actor may = tt
told g m a (Grant v) is h actor may = carries g m a (Grant v) _ h (mapped_reply g m a v h (grant_mapped g m a v h may.permitted))
told g m a (CopyLoad b i) is h actor may = carries g m a (CopyLoad b i) _ h tt
told g m a (CopyStore b f i x) is h actor may = tt
told g m a (SetHome b f) is h actor may = tt
told g m a (SetShadow b k s) is h actor may = tt
told g m a (TakeTurn t) is h actor may = taking g (m.view a) (TakeTurn t) (m.word (words.Turn t)) tt (λ held. record { bits = h.bounds.words (words.Turn t); said = held })
told g m a (Scan t k) is h actor may = carries g m a (Scan t k) _ h (scan_fits g m a t k h actor may.range.tier)
told g m a (GiveFrame f) is h actor may = carries g m a (GiveFrame f) _ h tt
told g m a (PutFrame f) is h actor may = carries g m a (PutFrame f) _ h tt
told g m a (ReleaseTurn t) is h actor may = tt
told g m a (Mark b old new) is h actor may =
    asking g (m.view a) (Mark b old new) (m.word (words.Mark b)) old (λ same. tt) (λ other. record { bits = h.bounds.words (words.Mark b); said = other })
told g m a (Read b (cells.Home page)) is h actor may = carries g m a (Read b (cells.Home page)) _ h (home_fits g m a b page h actor may.range.cell)
told g m a (Read b (cells.Shadow k)) is h actor may = carries g m a (Read b (cells.Shadow k)) _ h (shadow_fits g m a b k is.ranges.1.3 h may.range.cell may.permitted)

pub Fits-reply_in : (g : Geometry) (m : World) (a : ℕ) (action : Action) → IsGeometry g → AreAll g m → IsActor g a → Allowed g (m.view a) action → Fits g (m.view a) action (reply_in g m a action)
Fits-reply_in g m a action is h actor may = record {
  kind = IsReplyTo-reply_of (change_of g (m.view a) action) (found_in g m a action);
  told = told g m a action is h actor may;
}

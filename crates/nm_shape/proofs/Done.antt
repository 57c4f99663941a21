-- Actions that were done keep that the numbers of a view are in range.
use Rattle.std.proofs.Common.{◌≡◌, ◌≢◌, ℕ, ◌+◌, ◌<◌, ◌≤◌, [], ◌∷◌, ◌++◌, Option, Some, None, refl, sym, ap, arith, length-append}
use Rattle.std.specs.Option.{IfSome, IsSomeAnd}
use Rattle.nm_base.specs.Geometry.{Geometry, IsGeometry, backing_page, frame_count}
use Rattle.nm_action.specs.declared.action.AckTo.{AckTo}
use Rattle.nm_action.specs.declared.action.AckTo.TheVariants.{Seen, Off, End}
use Rattle.nm_action.specs.declared.action.Reply.TheVariants.{Done}
use Rattle.nm_action.specs.declared.action.Action.{Action}
use Rattle.nm_action.specs.declared.action.Action.TheVariants.{Walk, Ack, Lock, Unlock, Map, CopyStore, SetHome, SetShadow, TakeTurn, ReleaseTurn}
use Rattle.nm_view.specs.Lists.{edit, erase, put}
use Rattle.nm_view.specs.Views.{Op, View}
use Rattle.nm_view.specs.Operations.{page_of, cached_page, owned_frame, op_on, known_home}
use Rattle.nm_view.specs.Opening.{opened, unscanned}
use Rattle.nm_base.specs.HomeWord.{IsHomeWord}
use Rattle.nm_base.specs.Ranges.{IsPage, IsFrame}
use Rattle.nm_permit.specs.Permitted.{Allowed, MayLock, MayCopyStore, MaySetShadow}
use Rattle.nm_step.specs.Table.{acked_word}
use Rattle.nm_event.specs.After.{after_of, walked, is_confirmed, kept_entries, mapped_at, copied_one, homed_at, shaded, edit_under, edit_of, let_go, shading, spoiled_under, stored_fill}
use Rattle.nm_event.specs.Ranged.{IsInRangeDone}
use Rattle.nm_shape.specs.Keyed.{IsEntryInRange, IsOpKeyed, IsScanInRange, IsKeyed}
use Rattle.nm_view.proofs.Items.{all_find, all_join, none_left, all_put, all_filter, all_erase}
use Rattle.nm_view.proofs.Finds.{once_put, once_filter, once_erase, once_join, length_erase}
use Rattle.nm_shape.proofs.Ops.{keyed_opened, keyed_mapped, keyed_copied, keyed_homed, keyed_shaded}
use Rattle.nm_shape.proofs.Groups.{some_and, with_ops, with_cache, with_owned, with_scan, with_counts, edit_op, edit_op_of}
use Rattle.nm_shape.proofs.Frames.{AreOwned, owned_spoiled, owned_spoiled_under, owned_less, owned_filled, stored_in_range, owned_let_go, owned_unshaded}

-- the frames of a view
pub frames_of : (g : Geometry) (view : View) → IsKeyed g view → AreOwned g view.owned
frames_of g view k = record { once = k.owned_once; all = k.owned }

-- what holds of every operation holds of the one on a page
pub op_found : (g : Geometry) (view : View) (page : ℕ) (o : Option Op) → o ≡ op_on view page → IsKeyed g view → IfSome o (IsOpKeyed g)
op_found g view page None e k = tt
op_found g view page (Some o) e k = all_find page_of page (IsOpKeyed g) view.ops o k.ops (sym e)

pub few_frames : (g : Geometry) → IsGeometry g → frame_count g ≤ 4096
few_frames g is = is.ranges.1.3

keyed_ack : (g : Geometry) (view : View) (to : AckTo) → IsKeyed g view → IsKeyed g (record view { acked = acked_word view to; cache = kept_entries view to })
keyed_ack g view Seen k = with_cache g (record view { acked = view.req_seen }) (kept_entries view Seen) (once_filter cached_page (is_confirmed view.peeked) view.cache k.cache_once) (all_filter (IsEntryInRange g) (is_confirmed view.peeked) view.cache k.cache) (with_counts g view view.req_seen view.bumps view.req_seen view.raises k.bumps k.raises k)
keyed_ack g view Off k = with_cache g (record view { acked = acked_word view Off }) [] tt (none_left (IsEntryInRange g)) (with_counts g view view.req_seen view.bumps (acked_word view Off) view.raises k.bumps k.raises k)
keyed_ack g view End k = with_cache g (record view { acked = acked_word view End }) [] tt (none_left (IsEntryInRange g)) (with_counts g view view.req_seen view.bumps (acked_word view End) view.raises k.bumps k.raises k)

keyed_lock : (g : Geometry) (view : View) (b : ℕ) → IsPage g b → MayLock view b → IsKeyed g view → IsKeyed g (record view { ops = view.ops ++ opened b view.room.aliases ∷ [] })
keyed_lock g view b p may k =
    let new : Op = opened b view.room.aliases in
    with_ops g view (view.ops ++ new ∷ []) (rw (length-append view.ops (new ∷ [])) (omega (arith, may.few)))
    (once_join page_of new view.ops k.ops_once may.fresh)
    (all_join (IsOpKeyed g) view.ops new k.ops (keyed_opened g b view.room.aliases p (ap (λ r. r.aliases) k.room))) k

keyed_unlock : (g : Geometry) (view : View) (b : ℕ) → IsKeyed g view → IsKeyed g (record view { ops = erase page_of b view.ops })
keyed_unlock g view b k = with_ops g view (erase page_of b view.ops) (omega (arith, length_erase page_of b view.ops, k.few)) (once_erase page_of b view.ops k.ops_once) (all_erase page_of (IsOpKeyed g) b view.ops k.ops) k

copied_under : (g : Geometry) (view : View) (b : Option ℕ) (f i x : ℕ) → i < g.words → MayCopyStore view b f i x → IsKeyed g view → IsKeyed g (record view { ops = edit_under b copied_one view.ops })
copied_under g view None f i x lt may k = k
copied_under g view (Some page) f i x lt may k = edit_op g view page copied_one (λ o. refl) (λ o e ko. let l : i ≡ o.copied = (some_and (op_on view page) o _ e may.loaded).next in keyed_copied g o (omega (arith, l, lt)) ko) k

taken_away : (g : Geometry) (view : View) (master : ℕ) (o : Option Op) → IsSomeAnd o (MaySetShadow g view master None) → IsSomeAnd o (λ p. IsSomeAnd p.shadow (λ w. w ≢ 0))
taken_away g view master None may = may
taken_away g view master (Some o) may = may.some

pub known_in_range : (g : Geometry) (view : View) (page : ℕ) (o : Option Op) → IfSome o (IsOpKeyed g) → IfSome (known_home o) (IsHomeWord g)
known_in_range g view page None k = tt
known_in_range g view page (Some o) k = k.home

-- the frames after a SetShadow
shaded_frames : (g : Geometry) (view : View) (page master : ℕ) (shadow : Option ℕ) → frame_count g ≤ 4096 → IsPage g page → IsSomeAnd (op_on view page) (MaySetShadow g view master shadow) → IsKeyed g view → AreOwned g (shading g page (op_on view page) shadow view.owned)
shaded_frames g view page master None few p may k = owned_unshaded g page (op_on view page) view.owned few p (op_found g view page (op_on view page) refl k) (taken_away g view master (op_on view page) may) (frames_of g view k)
shaded_frames g view page master (Some s) few p may k = owned_less g s view.owned (frames_of g view k)

pub no_turn : (g : Geometry) (turn : Option ℕ) → IsScanInRange g turn unscanned
no_turn g None = refl
no_turn g (Some t) = record { words = omega arith; sum = omega arith; least = tt }

keyed_map : (g : Geometry) (view : View) (v word : ℕ) → IsKeyed g view → IsKeyed g (record view { ops = edit_of g v (mapped_at v word) view.ops; owned = spoiled_under (backing_page g v) view.owned })
keyed_map g view v word k =
    let f : AreOwned g (spoiled_under (backing_page g v) view.owned) = owned_spoiled_under g (backing_page g v) view.owned (frames_of g view k) in
    with_owned g (record view { ops = edit_of g v (mapped_at v word) view.ops }) (spoiled_under (backing_page g v) view.owned) f.once f.all
    (edit_op_of g view v (mapped_at v word) (λ o. refl) (λ o e s ko. keyed_mapped g v word o e ko) k)

keyed_set_home : (g : Geometry) (view : View) (b f : ℕ) → IsPage g b → IsFrame g f → IsKeyed g view → IsKeyed g (record view { ops = edit page_of b (homed_at f) view.ops; owned = let_go b (known_home (op_on view b)) (erase owned_frame f view.owned) })
keyed_set_home g view b f p r k =
    let home : Option ℕ = known_home (op_on view b) in
    let known : IfSome home (IsHomeWord g) = known_in_range g view b (op_on view b) (op_found g view b (op_on view b) refl k) in
    let h : AreOwned g (let_go b home (erase owned_frame f view.owned)) = owned_let_go g b home (erase owned_frame f view.owned) p known (owned_less g f view.owned (frames_of g view k)) in
    with_owned g (record view { ops = edit page_of b (homed_at f) view.ops }) (let_go b home (erase owned_frame f view.owned)) h.once h.all
    (edit_op g view b (homed_at f) (λ o. refl) (λ o e ko. keyed_homed g f o r ko) k)

keyed_set_shadow : (g : Geometry) (view : View) (b m : ℕ) (s : Option ℕ) → IsGeometry g → IsPage g b → IfSome s (IsFrame g) → IsSomeAnd (op_on view b) (MaySetShadow g view m s) → IsKeyed g view → IsKeyed g (record view { ops = edit page_of b (shaded b s) view.ops; owned = shading g b (op_on view b) s view.owned })
keyed_set_shadow g view b m s is p r may k =
    let h : AreOwned g (shading g b (op_on view b) s view.owned) = shaded_frames g view b m s (few_frames g is) p may k in
    with_owned g (record view { ops = edit page_of b (shaded b s) view.ops }) (shading g b (op_on view b) s view.owned) h.once h.all
    (edit_op g view b (shaded b s) (λ o. refl) (λ o e ko. keyed_shaded g b s o p r ko) k)

pub keyed_done : (g : Geometry) (view : View) (action : Action) → IsGeometry g → IsKeyed g view → Allowed g view action → IsInRangeDone g action → IsKeyed g (after_of g view action Done)
keyed_done g view (Walk v e write) is k a r = with_cache g view (put cached_page (walked view v e write) view.cache) (once_put cached_page (walked view v e write) view.cache k.cache_once) (all_put cached_page (IsEntryInRange g) (walked view v e write) view.cache (record { vpage = a.range; frame = r.frame }) k.cache) k
keyed_done g view (Ack to) is k a r = keyed_ack g view to k
keyed_done g view (Lock b) is k a r = keyed_lock g view b a.range a.permitted k
keyed_done g view (Unlock b) is k a r = let f : AreOwned g _ = owned_spoiled g b view.owned (frames_of g view k) in with_owned g (record view { ops = erase page_of b view.ops }) _ f.once f.all (keyed_unlock g view b k)
keyed_done g view (Map v word) is k a r = keyed_map g view v word k
keyed_done g view (CopyStore b f i x) is k a r = let h : AreOwned g _ = owned_filled g f (stored_fill b (i + 1)) view.owned (stored_in_range g b i a.range.page a.range.index) (frames_of g view k) in with_owned g (record view { ops = edit_under b copied_one view.ops }) _ h.once h.all (copied_under g view b f i x a.range.index a.permitted k)
keyed_done g view (SetHome b f) is k a r = keyed_set_home g view b f a.range.page a.range.frame k
keyed_done g view (SetShadow b m s) is k a r = keyed_set_shadow g view b m s is a.range.page a.range.shadow a.permitted k
keyed_done g view (TakeTurn t) is k a r = with_scan g view (Some t) unscanned a.range (no_turn g (Some t)) k
keyed_done g view (ReleaseTurn t) is k a r = with_scan g view None unscanned tt (no_turn g None) k
keyed_done g view action is k a r = k

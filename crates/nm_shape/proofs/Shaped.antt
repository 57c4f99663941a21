-- The law of the shape: a permitted action with a reply that fits keeps the shape of the view.
use Rattle.std.proofs.Common.{◌≡◌, ℕ, ◌+◌, ◌≤◌, ◌⊎◌, inl, inr, [], Option, Some, None, All, refl, sym, subst, arith}
use Rattle.std.specs.Option.{IfSome, IsSomeAnd}
use Rattle.nm_base.specs.Geometry.{Geometry, IsGeometry, backing_page}
use Rattle.nm_action.specs.declared.action.Cell.{Cell}
use Rattle.nm_action.specs.declared.action.Reply.{Reply}
use Rattle.nm_action.specs.declared.action.Reply.TheVariants.{Done, Word, Busy, Lost}
use Rattle.nm_action.specs.declared.action.Action.{Action}
use Rattle.nm_action.specs.declared.action.Action.TheVariants.{Look, Walk, Poll, Ack, Lock, Unlock, Bump, SeeAck, Raise, ClearDirty, Unmap, Map, Grant, CopyLoad, CopyStore, SetHome, SetShadow, Read}
use Rattle.nm_view.specs.Lists.{edit}
use Rattle.nm_view.specs.Views.{Op, View, off_word, most_bumps}
use Rattle.nm_view.specs.Operations.{page_of, op_on, IsProcessor}
use Rattle.nm_view.specs.Opening.{opened, opening, IsActor}
use Rattle.nm_base.specs.Ranges.{IsPage, IsFrame}
use Rattle.nm_permit.specs.Permitted.{Allowed, MayRead, MaySetShadow}
use Rattle.nm_event.specs.After.{after_of, edit_under, edit_of, looked_at, read_cell, cleared_at, taken_at, raised_to, bumped_to, seen_at, loaded, copied_one, homed_at, shaded, mapped_at, granted_at}
use Rattle.nm_event.specs.Fitting.{Fits, FitsWord, IsReadOf}
use Rattle.nm_shape.specs.Keyed.{IsKeyed}
use Rattle.nm_shape.specs.Shape.{IsOpShaped, HasShape}
use Rattle.nm_view.proofs.Items.{all_join, none_left, all_edit, all_erase, all_map}
use Rattle.nm_view.proofs.Finds.{find_number}
use Rattle.nm_shape.proofs.Groups.{some_and}
use Rattle.nm_shape.proofs.ShapedOps.{shaped_opened, shaped_looked, shaped_cleared, shaped_taken, shaped_raised, shaped_bumped, shaped_seen, shaped_loaded, shaped_copied, shaped_homed, shaped_mapped, shaped_granted, shaped_shaded, shaped_read}
use Rattle.nm_shape.proofs.Still.{busy_still, lost_still}
use Rattle.nm_shape.proofs.Laws.{keyed_opening, keyed_after, fits_in_range}

-- Operations of a view.

if_some : {T : Type 0} (o : Option T) (x : T) (P : T → Type 0) → o ≡ Some x → IfSome o P → P x
if_some o x P e h = let Q : Option _ → Type 0 = λ y. IfSome y P in subst Q e h

edited : (g : Geometry) (view : View) (page : ℕ) (f : Op → Op) → ((o : Op) → IsOpShaped g o → IsOpShaped g (f o)) → All (IsOpShaped g) view.ops → All (IsOpShaped g) (edit page_of page f view.ops)
edited g view page f step h = all_edit page_of (IsOpShaped g) page f view.ops (λ o e s. step o s) h

edited_under : (g : Geometry) (view : View) (page : Option ℕ) (f : Op → Op) → ((o : Op) → IsOpShaped g o → IsOpShaped g (f o)) → All (IsOpShaped g) view.ops → All (IsOpShaped g) (edit_under page f view.ops)
edited_under g view None f step h = h
edited_under g view (Some page) f step h = edited g view page f step h

edited_of : (g : Geometry) (view : View) (v : ℕ) (f : Op → Op) → ((o : Op) → IsOpShaped g o → IsOpShaped g (f o)) → All (IsOpShaped g) view.ops → All (IsOpShaped g) (edit_of g v f view.ops)
edited_of g view v f step h = edited_under g view (backing_page g v) f step h

read_ops : (g : Geometry) (view : View) (page : ℕ) (cell : Cell) (word : ℕ) → IsSomeAnd (op_on view page) (MayRead cell) → IfSome (op_on view page) (IsReadOf g view cell word) → All (IsOpShaped g) view.ops → All (IsOpShaped g) (edit page_of page (read_cell cell word) view.ops)
read_ops g view page cell word may r h = all_edit page_of (IsOpShaped g) page (read_cell cell word) view.ops (λ o e s. shaped_read g view cell word o (some_and (op_on view page) o (MayRead cell) e may) (if_some (op_on view page) o (IsReadOf g view cell word) e r) s) h

shaded_ops : (g : Geometry) (view : View) (page master : ℕ) (shadow : Option ℕ) → IsPage g page → IfSome shadow (IsFrame g) → IsSomeAnd (op_on view page) (MaySetShadow g view master shadow) → All (IsOpShaped g) view.ops → All (IsOpShaped g) (edit page_of page (shaded page shadow) view.ops)
shaded_ops g view page master shadow p f may h = all_edit page_of (IsOpShaped g) page (shaded page shadow) view.ops (λ o e s. shaped_shaded g view page master shadow o (find_number page_of page view.ops o e) p f (some_and (op_on view page) o (MaySetShadow g view master shadow) e may) s) h

ops_done : (g : Geometry) (view : View) (action : Action) → HasShape g view → Allowed g view action → All (IsOpShaped g) (after_of g view action Done).ops
ops_done g view (Lock b) h a = all_join (IsOpShaped g) view.ops (opened b view.room.aliases) h.ops (shaped_opened g b view.room.aliases)
ops_done g view (Unlock b) h a = all_erase page_of (IsOpShaped g) b view.ops h.ops
ops_done g view (Map v word) h a = edited_of g view v (mapped_at v word) (shaped_mapped g v word) h.ops
ops_done g view (CopyStore b f i x) h a = edited_under g view b copied_one (shaped_copied g) h.ops
ops_done g view (SetHome b f) h a = edited g view b (homed_at f) (shaped_homed g f) h.ops
ops_done g view (SetShadow b m s) h a = shaded_ops g view b m s a.range.page a.range.shadow a.permitted h.ops
ops_done g view action h a = h.ops

ops_told : (g : Geometry) (view : View) (action : Action) (n : ℕ) → HasShape g view → Allowed g view action → FitsWord g view action n → All (IsOpShaped g) (after_of g view action (Word n)).ops
ops_told g view (Look v) n h a fits = edited_of g view v (looked_at v n) (shaped_looked g v n) h.ops
ops_told g view Bump n h a fits = all_map (IsOpShaped g) (IsOpShaped g) (bumped_to (n + 1)) view.ops (shaped_bumped g (n + 1)) h.ops
ops_told g view (SeeAck p) n h a fits = all_map (IsOpShaped g) (IsOpShaped g) (seen_at p n) view.ops (shaped_seen g p n) h.ops
ops_told g view (Raise v) n h a fits = edited_of g view v (raised_to v (n + 1)) (shaped_raised g v (n + 1)) h.ops
ops_told g view (ClearDirty v) n h a fits = edited_of g view v (cleared_at v) (shaped_cleared g v) h.ops
ops_told g view (Unmap v) n h a fits = edited_of g view v (taken_at v n) (shaped_taken g v n) h.ops
ops_told g view (Grant v) n h a fits = edited_of g view v (granted_at v n) (shaped_granted g v n) h.ops
ops_told g view (CopyLoad b i) n h a fits = edited g view b (loaded n) (shaped_loaded g n) h.ops
ops_told g view (Read b cell) n h a fits = read_ops g view b cell n a.permitted fits h.ops
ops_told g view action n h a fits = h.ops

-- What was polled, and the cache.

abbrev IsPolled : ℕ → Type 0
IsPolled n = (n ≡ off_word) ⊎ (n ≤ most_bumps)

polled_done : (g : Geometry) (view : View) (action : Action) → HasShape g view → IsPolled (after_of g view action Done).req_seen
polled_done g view Poll h = h.polled
polled_done g view action h = h.polled

polled_told : (g : Geometry) (view : View) (action : Action) (n : ℕ) → HasShape g view → FitsWord g view action n → IsPolled (after_of g view action (Word n)).req_seen
polled_told g view Poll n h fits = inr fits
polled_told g view action n h fits = h.polled

not_processor : (g : Geometry) (view : View) → IsProcessor g view → g.cpus ≤ view.number → ⊥
not_processor g view p le = omega (arith, p, le)

cache_done : (g : Geometry) (view : View) (action : Action) → HasShape g view → Allowed g view action → g.cpus ≤ (after_of g view action Done).number → (after_of g view action Done).cache ≡ []
cache_done g view (Walk v e write) h a = λ le. absurd (not_processor g view a.permitted.processor le)
cache_done g view (Ack to) h a = λ le. absurd (not_processor g view a.permitted.processor le)
cache_done g view action h a = h.processor

cache_told : (g : Geometry) (view : View) (action : Action) (n : ℕ) → HasShape g view → g.cpus ≤ (after_of g view action (Word n)).number → (after_of g view action (Word n)).cache ≡ []
cache_told g view Poll n h = h.processor
cache_told g view action n h = h.processor

-- The law.

-- the opening view of an actor has the shape
pub shape_opening : (g : Geometry) (number : ℕ) → IsActor g number → HasShape g (opening g number)
shape_opening g number is = record { keyed = keyed_opening g number is; ops = none_left (IsOpShaped g); polled = inl refl; processor = λ le. refl }

shape_keyed : (g : Geometry) (view : View) (action : Action) (reply : Reply) → IsGeometry g → HasShape g view → Allowed g view action → Fits g view action reply → IsKeyed g (after_of g view action reply)
shape_keyed g view action reply is h a f = keyed_after g view action reply is h.keyed a (fits_in_range g view action reply is h.keyed a f)

-- a permitted action with a reply that fits keeps the shape
pub shape_after : (g : Geometry) (view : View) (action : Action) (reply : Reply) → IsGeometry g → HasShape g view → Allowed g view action → Fits g view action reply → HasShape g (after_of g view action reply)
shape_after g view action Done is h a f = record { keyed = shape_keyed g view action Done is h a f; ops = ops_done g view action h a; polled = polled_done g view action h; processor = cache_done g view action h a }
shape_after g view action (Word n) is h a f = record { keyed = shape_keyed g view action (Word n) is h a f; ops = ops_told g view action n h a f.told.said; polled = polled_told g view action n h f.told.said; processor = cache_told g view action n h }
shape_after g view action (Busy n) is h a f = let P : View → Type 0 = λ v. HasShape g v in subst P (sym (busy_still g view action n)) h
shape_after g view action (Lost n) is h a f = let P : View → Type 0 = λ v. HasShape g v in subst P (sym (lost_still g view action n)) h

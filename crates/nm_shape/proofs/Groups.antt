-- Views whose numbers are in range, group by group of their fields.
use Rattle.std.proofs.Common.{◌≡◌, ℕ, ◌≤◌, List, map, Option, Some, None, All, length, refl, subst}
use Rattle.std.specs.Option.{IsSomeAnd}
use Rattle.nm_base.specs.Geometry.{Geometry, backing_page}
use Rattle.nm_view.specs.declared.view.CacheEntry.{CacheEntry}
use Rattle.nm_view.specs.declared.view.Peeked.{Peeked}
use Rattle.nm_view.specs.declared.view.Owned.{Owned}
use Rattle.nm_view.specs.declared.view.Scanned.{Scanned}
use Rattle.nm_view.specs.Lists.{find, edit, Once}
use Rattle.nm_view.specs.Views.{Op, View, most_ops, own_bumps, own_raises}
use Rattle.nm_view.specs.Operations.{page_of, cached_page, peeked_page, owned_frame, op_of}
use Rattle.nm_base.specs.Ranges.{IsVPage, IsTier}
use Rattle.nm_event.specs.After.{edit_under, edit_of}
use Rattle.nm_shape.specs.Keyed.{IsEntryInRange, IsOpKeyed, IsOwnedInRange, IsScanInRange, IsKeyed}
use Rattle.nm_view.proofs.Items.{all_edit, all_map}
use Rattle.nm_view.proofs.Finds.{find_number, once_edit, once_map, length_edit}
use Rattle.std.specs.Option.{IfSome}
use Rattle.std.proofs.lemmas.List.{length-map}

-- of an option that is Some of a value, what holds of its value holds of that value
pub some_and : {T : Type 0} (o : Option T) (x : T) (P : T → Type 0) → o ≡ Some x → IsSomeAnd o P → P x
some_and o x P e h = let Q : Option _ → Type 0 = λ y. IsSomeAnd y P in subst Q e h

pub with_ops : (g : Geometry) (view : View) (ops : List Op) → length ops ≤ most_ops → Once page_of ops → All (IsOpKeyed g) ops → IsKeyed g view → IsKeyed g (record view { ops = ops })
with_ops g view ops few once all k = record { actor = k.actor; few = few; ops_once = once; ops = all; cache_once = k.cache_once; cache = k.cache; peeked_once = k.peeked_once; peeked = k.peeked; owned_once = k.owned_once; owned = k.owned; turn = k.turn; scan = k.scan; bumps = k.bumps; raises = k.raises; room = k.room }

pub with_cache : (g : Geometry) (view : View) (cache : List CacheEntry) → Once cached_page cache → All (IsEntryInRange g) cache → IsKeyed g view → IsKeyed g (record view { cache = cache })
with_cache g view cache once all k = record { actor = k.actor; few = k.few; ops_once = k.ops_once; ops = k.ops; cache_once = once; cache = all; peeked_once = k.peeked_once; peeked = k.peeked; owned_once = k.owned_once; owned = k.owned; turn = k.turn; scan = k.scan; bumps = k.bumps; raises = k.raises; room = k.room }

pub with_peeked : (g : Geometry) (view : View) (peeked : List Peeked) → Once peeked_page peeked → All (λ p. IsVPage g p.vpage) peeked → IsKeyed g view → IsKeyed g (record view { peeked = peeked })
with_peeked g view peeked once all k = record { actor = k.actor; few = k.few; ops_once = k.ops_once; ops = k.ops; cache_once = k.cache_once; cache = k.cache; peeked_once = once; peeked = all; owned_once = k.owned_once; owned = k.owned; turn = k.turn; scan = k.scan; bumps = k.bumps; raises = k.raises; room = k.room }

pub with_owned : (g : Geometry) (view : View) (owned : List Owned) → Once owned_frame owned → All (IsOwnedInRange g) owned → IsKeyed g view → IsKeyed g (record view { owned = owned })
with_owned g view owned once all k = record { actor = k.actor; few = k.few; ops_once = k.ops_once; ops = k.ops; cache_once = k.cache_once; cache = k.cache; peeked_once = k.peeked_once; peeked = k.peeked; owned_once = once; owned = all; turn = k.turn; scan = k.scan; bumps = k.bumps; raises = k.raises; room = k.room }

pub with_scan : (g : Geometry) (view : View) (turn : Option ℕ) (scan : Scanned) → IfSome turn (IsTier g) → IsScanInRange g turn scan → IsKeyed g view → IsKeyed g (record view { turn = turn; scan = scan })
with_scan g view turn scan t s k = record { actor = k.actor; few = k.few; ops_once = k.ops_once; ops = k.ops; cache_once = k.cache_once; cache = k.cache; peeked_once = k.peeked_once; peeked = k.peeked; owned_once = k.owned_once; owned = k.owned; turn = t; scan = s; bumps = k.bumps; raises = k.raises; room = k.room }

pub with_counts : (g : Geometry) (view : View) (req_seen bumps acked raises : ℕ) → bumps ≤ own_bumps → raises ≤ own_raises → IsKeyed g view → IsKeyed g (record view { req_seen = req_seen; bumps = bumps; acked = acked; raises = raises })
with_counts g view req_seen bumps acked raises b r k = record { actor = k.actor; few = k.few; ops_once = k.ops_once; ops = k.ops; cache_once = k.cache_once; cache = k.cache; peeked_once = k.peeked_once; peeked = k.peeked; owned_once = k.owned_once; owned = k.owned; turn = k.turn; scan = k.scan; bumps = b; raises = r; room = k.room }

-- Operations.

pub edit_op : (g : Geometry) (view : View) (page : ℕ) (f : Op → Op) → ((o : Op) → page_of (f o) ≡ page_of o) → ((o : Op) → find page_of page view.ops ≡ Some o → IsOpKeyed g o → IsOpKeyed g (f o)) → IsKeyed g view → IsKeyed g (record view { ops = edit page_of page f view.ops })
edit_op g view page f same step k = with_ops g view (edit page_of page f view.ops) (rw (length_edit page_of page f view.ops) k.few) (once_edit page_of page f view.ops same k.ops_once) (all_edit page_of (IsOpKeyed g) page f view.ops step k.ops) k

edit_go : (g : Geometry) (view : View) (v : ℕ) (f : Op → Op) (p : Option ℕ) → backing_page g v ≡ p → ((o : Op) → page_of (f o) ≡ page_of o) → ((o : Op) → backing_page g v ≡ Some o.page → op_of g view v ≡ Some o → IsOpKeyed g o → IsOpKeyed g (f o)) → IsKeyed g view → IsKeyed g (record view { ops = edit_under p f view.ops })
edit_go g view v f None e same step k = k
edit_go g view v f (Some b) e same step k =
    edit_op g view b f same (λ o found ko. step o (rw (find_number page_of b view.ops o found) e) (rw e found) ko) k

-- the operation on the backing page of a virtual page is changed
pub edit_op_of : (g : Geometry) (view : View) (v : ℕ) (f : Op → Op) → ((o : Op) → page_of (f o) ≡ page_of o) → ((o : Op) → backing_page g v ≡ Some o.page → op_of g view v ≡ Some o → IsOpKeyed g o → IsOpKeyed g (f o)) → IsKeyed g view → IsKeyed g (record view { ops = edit_of g v f view.ops })
edit_op_of g view v f same step k = edit_go g view v f (backing_page g v) refl same step k

pub map_ops : (g : Geometry) (view : View) (f : Op → Op) → ((o : Op) → page_of (f o) ≡ page_of o) → ((o : Op) → IsOpKeyed g o → IsOpKeyed g (f o)) → IsKeyed g view → IsKeyed g (record view { ops = map f view.ops })
map_ops g view f same step k = with_ops g view (map f view.ops) (rw (length-map view.ops f) k.few) (once_map page_of f view.ops same k.ops_once) (all_map (IsOpKeyed g) (IsOpKeyed g) f view.ops step k.ops) k

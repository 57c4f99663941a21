-- The kinds that write a table word, and leave what operations and processors know.
use Rattle.std.proofs.Common.{◌≡◌, ℕ, false, Option, Some, None, IsSomeAnd, IfSome, IsTrue, refl, ap, subst, ◌∙◌, inl, inr, arith, bit_and, bit_or}
use Rattle.std.specs.Prelude.{option_map}
use Rattle.std.specs.Int.{bit_at}
use Rattle.std.proofs.lemmas.Nat.Bits.{bit_at-zero}
use Rattle.nm_base.specs.Geometry.{Geometry}
use Rattle.nm_base.specs.PageWord.{hint_mask, accessed_mask, all_but, granted_word, is_writable, is_present}
use Rattle.nm_action.specs.declared.action.Bit.{Bit}
use Rattle.nm_action.specs.declared.action.Bit.TheVariants.{Hint, Accessed}
use Rattle.nm_action.specs.declared.action.Reply.TheVariants.{Done, Word}
use Rattle.nm_action.specs.declared.action.Action.TheVariants.{Soften, Arm, Map, Grant}
use Rattle.nm_words.specs.declared.names.Where.{Where}
use Rattle.nm_words.specs.declared.names.Where.TheVariants as words
use Rattle.nm_step.specs.Table.{bit_mask}
use Rattle.nm_view.specs.declared.view.CacheEntry.{CacheEntry}
use Rattle.nm_view.specs.Lists.{find, first}
use Rattle.nm_view.specs.Views.{Op, View}
use Rattle.nm_permit.specs.Permitted.{Allowed, MayMap, MayGrant, IsSavedWord, IsVacant, HasMappedWord}
use Rattle.nm_event.specs.After.{after_of, mapped_at, granted_at}
use Rattle.nm_event.specs.Fitting.{Agrees}
use Rattle.nm_world.specs.Worlds.{World, written, viewing, moved, pte_at, op_at}
use Rattle.nm_world.specs.Parts.{flight_of, lore_of}
use Rattle.nm_world.specs.Notions.{IsStanding}
use Rattle.nm_world.specs.ShapeLaw.{ShapeLaw}
use Rattle.nm_world.specs.LockLaw.{LockLaw, IsTrueOp}
use Rattle.nm_world.specs.CacheLaw.{CacheLaw}
use Rattle.nm_world.proofs.Choose.{choose}
use Rattle.nm_world.proofs.Parts.{part_of}
use Rattle.nm_world.proofs.Bits.{standing_or, standing_and, standing_granted}
use Rattle.nm_world.proofs.Moves.{on_page}
use Rattle.nm_caches.proofs.Shapes.{KeepsFlights, LeavesWords, table_step, some_parts, is_some}
use Rattle.nm_caches.proofs.Still.{same_view}

pub table_leaves : (v x : ℕ) (word : Where → ℕ) → LeavesWords word (written (words.Pte v) x word)
table_leaves v x word = record { stamp = λ u. refl; home = λ b. refl; ack = λ p. refl; req = refl }

-- entries stand where a table word was written on which those stand that stood on the word before
pub written_stands : (v x : ℕ) (word : Where → ℕ) (e : CacheEntry) → (e.vpage ≡ v → IsStanding (word (words.Pte v)) e → IsStanding x e) → IsStanding (word (words.Pte e.vpage)) e → IsStanding (written (words.Pte v) x word (words.Pte e.vpage)) e
written_stands v x word e step is =
    choose (λ n. IsStanding n e) e.vpage v x (word (words.Pte e.vpage))
    (λ same. step same (let At : ℕ → Type 0 = λ u. IsStanding (word (words.Pte u)) e in subst At same is))
    (λ other. is)

-- a table word is written, on which those entries stand that stood on the word before
pub put_table : (g : Geometry) (m : World) (v x a : ℕ) (new : View) → ((e : CacheEntry) → e.vpage ≡ v → IsStanding (pte_at m v) e → IsStanding x e) → KeepsFlights (m.view a) new → ShapeLaw g m → CacheLaw g m → CacheLaw g (record { word = written (words.Pte v) x m.word; view = viewing a new m.view })
put_table g m v x a new step view shape h = table_step g m (written (words.Pte v) x m.word) a new (table_leaves v x m.word) (λ e is. written_stands v x m.word e (step e) is) view shape h

softened : (word : ℕ) (bit : Bit) (e : CacheEntry) → IsStanding word e → IsStanding (bit_and word (all_but (bit_mask bit))) e
softened word Hint e is = standing_and word hint_mask e (omega arith) refl refl refl is
softened word Accessed e is = standing_and word accessed_mask e (omega arith) refl refl refl is

pub cache_soften : (g : Geometry) (m : World) (a v : ℕ) (bit : Bit) → ShapeLaw g m → CacheLaw g m → CacheLaw g (moved g m a (Soften v bit))
cache_soften g m a v bit shape h = put_table g m v (bit_and (pte_at m v) (all_but (bit_mask bit))) a (m.view a) (λ e _ is. softened (pte_at m v) bit e is) (same_view (m.view a)) shape h

pub cache_arm : (g : Geometry) (m : World) (a v : ℕ) → ShapeLaw g m → CacheLaw g m → CacheLaw g (moved g m a (Arm v))
cache_arm g m a v shape h = put_table g m v (bit_or (pte_at m v) hint_mask) a (m.view a) (λ e _ is. standing_or (pte_at m v) hint_mask e (omega arith) is) (same_view (m.view a)) shape h

-- no entry stands on 0
pub none_stands : (word : ℕ) (e : CacheEntry) → word ≡ 0 → IsStanding word e → ⊥
none_stands word e none is =
    let bit : bit_at word 0 ≡ 0 = ap (λ n. bit_at n 0) none ∙ bit_at-zero 0 in
    let present : is_present word ≡ false = rw bit refl in
    let there : IsTrue (is_present word) = is.present in
    cc

-- what an operation knows
pub known_of : (g : Geometry) (m : World) (a b : ℕ) (o : Op) → LockLaw g m → op_at m a b ≡ Some o → IsTrueOp m b (lore_of o)
known_of g m a b o locks here = locks.known a b (lore_of o) (ap (option_map lore_of) here)

-- v's word is 0 where a word may be mapped: it was taken, or was looked at as 0

agrees_none : (looked : Option (ℕ × ℕ)) (word : ℕ) → IsSomeAnd looked (λ p. p.1 ≡ 0) → IfSome looked (λ p. Agrees p.1 word) → word ≡ 0
agrees_none None word is agrees = absurd is
agrees_none (Some p) word is agrees = agrees.absent.0 is

vacant_none : (m : World) (b v : ℕ) (o : Op) → IsTrueOp m b (lore_of o) → IsVacant v o → pte_at m v ≡ 0
vacant_none m b v o known (inl taken) = known.taken v taken.taken
vacant_none m b v o known (inr absent) = agrees_none (find first v o.looked) (pte_at m v) absent.looked (known.looked v absent.there)

mapped_none : (g : Geometry) (m : World) (b v word : ℕ) (o : Op) → IsTrueOp m b (lore_of o) → HasMappedWord g v word o → pte_at m v ≡ 0
mapped_none g m b v word o known (inl back) = let p = some_parts (find first v o.taken) (λ q. q.1 ≡ word) back.taken in known.taken v (is_some (find first v o.taken) p.0 p.1.0)
mapped_none g m b v word o known (inr new) = vacant_none m b v o known new.vacant

pub cache_map : (g : Geometry) (m : World) (a v word : ℕ) → Allowed g (m.view a) (Map v word) → LockLaw g m → ShapeLaw g m → CacheLaw g m → CacheLaw g (moved g m a (Map v word))
cache_map g m a v word allowed locks shape h =
    let on = on_page g (m.view a) v (MayMap g v word) allowed.permitted in
    let none : pte_at m v ≡ 0 = mapped_none g m on.page v word on.op (known_of g m a on.page on.op locks on.here) on.may.fits in
    put_table g m v word a (after_of g (m.view a) (Map v word) Done) (λ e _ is. absurd (none_stands (pte_at m v) e none is))
    (record { desk = refl; flights = λ b. part_of flight_of g v (mapped_at v word) b (m.view a).ops (λ o. refl) (λ o. refl) }) shape h

agrees_unwritable : (looked : Option (ℕ × ℕ)) (word : ℕ) → IsSomeAnd looked (λ p. IsSavedWord p.1) → IfSome looked (λ p. Agrees p.1 word) → is_writable word ≡ false
agrees_unwritable None word is agrees = absurd is
agrees_unwritable (Some p) word is agrees = agrees.writable ∙ is.unwritable

pub cache_grant : (g : Geometry) (m : World) (a v : ℕ) → Allowed g (m.view a) (Grant v) → LockLaw g m → ShapeLaw g m → CacheLaw g m → CacheLaw g (moved g m a (Grant v))
cache_grant g m a v allowed locks shape h =
    let n : ℕ = pte_at m v in
    let on = on_page g (m.view a) v (MayGrant v) allowed.permitted in
    let known : IsTrueOp m on.page (lore_of on.op) = known_of g m a on.page on.op locks on.here in
    let unwritable : is_writable n ≡ false = agrees_unwritable (find first v on.op.looked) n on.may.saved (known.looked v on.may.there) in
    put_table g m v (granted_word n) a (after_of g (m.view a) (Grant v) (Word n)) (λ e _ is. standing_granted n e unwritable is)
    (record { desk = refl; flights = λ b. part_of flight_of g v (granted_at v n) b (m.view a).ops (λ o. refl) (λ o. refl) }) shape h

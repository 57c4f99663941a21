-- A ClearDirty opens a transaction.
use Rattle.std.proofs.Common.{◌≡◌, ◌≢◌, ℕ, ◌==◌, bit_and, false, [], Some, refl, sym, ap, subst, ◌∙◌, inl, inr, arith}
use Rattle.std.specs.Prelude.{option_map}
use Rattle.std.specs.Int.{bit_at}
use Rattle.std.proofs.lemmas.Nat.Bits.{bit_at_and}
use Rattle.nm_base.specs.Geometry.{Geometry, backing_page}
use Rattle.nm_base.specs.PageWord.{IsPageWord, is_dirty, all_but, dirty_mask}
use Rattle.nm_action.specs.declared.action.Action.TheVariants.{ClearDirty, Unmap}
use Rattle.nm_view.proofs.Items.{some_same, none_left}
use Rattle.nm_permit.specs.Permitted.{MayClear}
use Rattle.nm_event.specs.After.{edit_under, cleared_at}
use Rattle.nm_world.specs.Worlds.{World, moved, op_at, pte_at}
use Rattle.nm_world.specs.Parts.{lore_of}
use Rattle.nm_world.specs.LockLaw.{LockLaw}
use Rattle.nm_world.specs.Laws.{IsReady}
use Rattle.nm_world.proofs.Bits.{bit_and_kept}
use Rattle.nm_world.proofs.Moves.{on_page}
use Rattle.nm_world.proofs.Writing.{word_writes}
use Rattle.nm_transactions.proofs.Flushes.{IsNotBy, flush_begun}
use Rattle.nm_transactions.proofs.Tables.{TellsWalks, walks_begun}
use Rattle.nm_transactions.proofs.Courses.{op_edited}
use Rattle.nm_transactions.proofs.Open.{IsCleared, stores_begun}

-- a page word that is not 0 maps a frame
present_word : (word : ℕ) → IsPageWord word → word ≢ 0 → bit_at word 0 ≡ 1
present_word word page some = elim page [ inl zero ↦ absurd (some zero) | inr present ↦ present.present ]

undirtied : (word : ℕ) → is_dirty (bit_and word (all_but dirty_mask)) ≡ false
undirtied word =
    let none : bit_at (all_but dirty_mask) 3 ≡ 0 = refl in
    let off : bit_at (bit_and word (all_but dirty_mask)) 3 ≡ 0 = omega (arith, none, bit_at_and word (all_but dirty_mask) 3) in
    ap (λ n. n == 1) off

pub cleared_begun : (g : Geometry) (m : World) (a v b : ℕ) → LockLaw g m → IsReady g m a (ClearDirty v) → backing_page g v ≡ Some b → IsCleared g (moved g m a (ClearDirty v)) a v b []
cleared_begun g m a v b locks r of =
    let n : ℕ = pte_at m v in
    let x : ℕ = bit_and n (all_but dirty_mask) in
    let on = on_page g (m.view a) v (MayClear g v) r.allowed.permitted in
    let page : on.page ≡ b = some_same on.page b (sym on.of ∙ of) in
    let here : op_at m a b ≡ Some on.op = subst (λ (k : ℕ). op_at m a k ≡ Some on.op) page on.here in
    let written : pte_at (moved g m a (ClearDirty v)) v ≡ x = (word_writes (pte_at m) v x).here in
    let one : bit_at x 0 ≡ 1 = bit_and_kept n (all_but dirty_mask) 0 refl ∙ present_word n r.fits.told.said.carried.table.layout r.fits.told.said.mapped in
    record {
      op = cleared_at v on.op;
      here = op_edited g m a (ClearDirty v) b (cleared_at v) on.op (λ o. refl) (ap (λ p. edit_under p (cleared_at v) (m.view a).ops) of) here;
      phase = refl;
      cleared = refl;
      taken = (locks.staged a b (lore_of on.op) (ap (option_map lore_of) here)).held_taken on.may.phase;
      present = ap (λ k. bit_at k 0) written ∙ one;
      none = none_left (IsNotBy a (Unmap v));
      flush = flush_begun a (cleared_at v on.op).flush (cleared_at v on.op).seen;
      walks = subst (TellsWalks v []) (sym (ap is_dirty written ∙ undirtied n)) (walks_begun v);
      stores = stores_begun g a b (is_dirty (pte_at (moved g m a (ClearDirty v)) v));
    }

-- The kinds that change flags of a table word and no operation: Soften, Arm, Walk.
use Rattle.std.proofs.Common.{◌≡◌, ◌≢◌, ℕ, ◌==◌, ◌&&◌, ◌||◌, if◌then◌else◌, bit_and, bit_or, Bool, true, false, Option, Some, refl, sym, ap, subst, ◌∙◌, arith}
use Rattle.std.specs.Prelude.{option_map}
use Rattle.std.specs.Int.{bit_at}
use Rattle.std.proofs.lemmas.Bool.{eqb-true, eq-eqb}
use Rattle.std.proofs.lemmas.Nat.{and_le_l}
use Rattle.std.proofs.lemmas.Nat.Bits.{bit_at-lt, bit_at_or, bit_at-zero}
use Rattle.nm_base.specs.Geometry.{Geometry, backing_page}
use Rattle.nm_base.specs.PageWord.{all_but, hint_mask, walk_mask, walked_word, is_writable, is_dirty}
use Rattle.nm_action.specs.declared.action.Bit.{Bit}
use Rattle.nm_action.specs.declared.action.Bit.TheVariants.{Hint, Accessed}
use Rattle.nm_action.specs.declared.action.Reply.TheVariants.{Done, Lost}
use Rattle.nm_action.specs.declared.action.Action.TheVariants.{Soften, Arm, Walk}
use Rattle.nm_words.specs.declared.names.Where.{Where}
use Rattle.nm_words.specs.declared.names.Where.TheVariants as words
use Rattle.nm_step.specs.Table.{bit_mask}
use Rattle.nm_view.specs.declared.view.CacheEntry.{CacheEntry}
use Rattle.nm_view.specs.Views.{View}
use Rattle.nm_view.specs.Operations.{op_on, fill_of}
use Rattle.nm_event.specs.After.{after_of, walked}
use Rattle.nm_world.specs.Worlds.{World, moved, viewing, written, pte_at}
use Rattle.nm_world.specs.Parts.{copier_of}
use Rattle.nm_world.specs.Sights.{Sets, sight_of, sight_at}
use Rattle.nm_world.specs.Notions.{IsOut, IsReadOnly, IsUndirtied, IsClean}
use Rattle.nm_world.specs.CopyLaw.{CopyLaw, CopySight, copy_sight}
use Rattle.nm_world.specs.Laws.{IsReady}
use Rattle.nm_world.proofs.Choose.{choose}
use Rattle.nm_world.proofs.Writing.{entry_put}
use Rattle.nm_world.proofs.Moves.{edited}
use Rattle.nm_world.proofs.Bits.{bit_and_kept, bit_or_kept, bit_or_set}
use Rattle.nm_copies.proofs.Still.{law_tame, clean_stays}
use Rattle.nm_copies.proofs.Quiet.{same_view, view_part, entries_before, law_quiet, read_keeps}

-- a table word after its flags changed: 0 stays 0, it gets no right to write, and loses no dirty bit
pub record TamesWord (word new : ℕ) : Type 0 where
  pub zero : word ≡ 0 → new ≡ 0
  pub unwritable : is_writable word ≡ false → is_writable new ≡ false
  pub undirtied : is_dirty new ≡ false → is_dirty word ≡ false

pub same_word : (word : ℕ) → TamesWord word word
same_word word = record { zero = λ z. z; unwritable = λ w. w; undirtied = λ d. d }

pub same_flag : (a b : ℕ) → a ≡ b → (a == 1) ≡ (b == 1)
same_flag a b e = ap (λ n. n == 1) e

tames_and : (word flags : ℕ) → bit_at (all_but flags) 2 ≡ 1 → bit_at (all_but flags) 3 ≡ 1 → TamesWord word (bit_and word (all_but flags))
tames_and word flags two three = record {
  zero = λ none. omega (arith, none, and_le_l word (all_but flags));
  unwritable = λ not. same_flag _ _ (bit_and_kept word (all_but flags) 2 two) ∙ not;
  undirtied = λ not. sym (same_flag _ _ (bit_and_kept word (all_but flags) 3 three)) ∙ not;
}

pub by_flag : (b : Bool) → (b ≡ true → ⊥) → b ≡ false
by_flag true h = absurd (h refl)
by_flag false h = refl

undirtied_or : (word flags : ℕ) → is_dirty (bit_or word flags) ≡ false → is_dirty word ≡ false
undirtied_or word flags not = by_flag (is_dirty word) (λ set.
    let one : bit_at word 3 ≡ 1 = eqb-true (bit_at word 3) 1 set in
    let on : is_dirty (bit_or word flags) ≡ true = eq-eqb (bit_at (bit_or word flags) 3) 1 (bit_or_set word flags 3 one) in cc)

tames_or : (word flags : ℕ) → bit_at flags 2 ≡ 0 → word ≢ 0 → TamesWord word (bit_or word flags)
tames_or word flags two some = record {
  zero = λ none. absurd (some none);
  unwritable = λ not. same_flag _ _ (bit_or_kept word flags 2 two) ∙ not;
  undirtied = undirtied_or word flags;
}

-- a written table word that is tamer leaves each table word so
pub each_tames : (word : Where → ℕ) (v x : ℕ) → TamesWord (word (words.Pte v)) x → (u : ℕ) → TamesWord (word (words.Pte u)) (written (words.Pte v) x word (words.Pte u))
each_tames word v x t u =
    choose (TamesWord (word (words.Pte u))) u v x (word (words.Pte u))
    (λ same. subst (λ (n : ℕ). TamesWord (word (words.Pte n)) x) (sym same) t)
    (λ other. same_word (word (words.Pte u)))

-- what of a step that makes table words tamer remains to be shown: the caches
pub record CleanStill (g : Geometry) (k after : CopySight) : Type 0 where
  pub cached : (b : ℕ) → IsUndirtied g after.pte b → IsClean g k.entry b → IsClean g after.entry b
  pub out_clean : (b : ℕ) → IsOut g k.pte b → IsClean g k.entry b → IsClean g after.entry b
  pub twin_clean : (b : ℕ) → IsReadOnly g k.pte b → IsClean g k.entry b → IsClean g after.entry b

pub law_flagged : (g : Geometry) (m : World) (a v x : ℕ) (new : View) → TamesWord (pte_at m v) x → ((f : ℕ) → fill_of new f ≡ fill_of (m.view a) f) → ((b : ℕ) → option_map (copier_of g) (op_on new b) ≡ option_map (copier_of g) (op_on (m.view a) b)) → CleanStill g (copy_sight (sight_of g m)) (copy_sight (sight_at g (written (words.Pte v) x m.word) (viewing a new m.view))) → CopyLaw g (sight_of g m) → CopyLaw g (sight_at g (written (words.Pte v) x m.word) (viewing a new m.view))
law_flagged g m a v x new t fill copier clean h =
    let after = sight_at g (written (words.Pte v) x m.word) (viewing a new m.view) in
    let each = each_tames m.word v x t in
    law_tame g (sight_of g m) after (record {
      home = λ b. refl;
      mem = λ f i. refl;
      fill = λ c f. view_part (λ w. fill_of w f) a new m.view (fill f) c;
      undirtied = λ b dry u of. (each u).undirtied (dry u of);
      cached = clean.cached;
      out = λ b out u of. (each u).zero (out u of);
      out_clean = clean.out_clean;
      twin = λ b only u of. (each u).unwritable (only u of);
      twin_clean = clean.twin_clean;
    })
    (λ c b. view_part (λ w. option_map (copier_of g) (op_on w b)) a new m.view (copier b) c) h

-- the same where the view stays
flagged_still : (g : Geometry) (m : World) (a v x : ℕ) → TamesWord (pte_at m v) x → CopyLaw g (sight_of g m) → CopyLaw g (sight_at g (written (words.Pte v) x m.word) (viewing a (m.view a) m.view))
flagged_still g m a v x t h =
    let before = sight_of g m in
    let after = sight_at g (written (words.Pte v) x m.word) (viewing a (m.view a) m.view) in
    let entries = entries_before a (m.view a) m.view (λ u e is. is) in
    law_flagged g m a v x (m.view a) t (λ f. refl) (λ b. refl) (record {
      cached = λ b u. clean_stays g (copy_sight before) (copy_sight after) b entries;
      out_clean = λ b u. clean_stays g (copy_sight before) (copy_sight after) b entries;
      twin_clean = λ b u. clean_stays g (copy_sight before) (copy_sight after) b entries;
    }) h

soft_word : (word : ℕ) (bit : Bit) → TamesWord word (bit_and word (all_but (bit_mask bit)))
soft_word word Hint = tames_and word (bit_mask Hint) refl refl
soft_word word Accessed = tames_and word (bit_mask Accessed) refl refl

pub copies-soften : (g : Geometry) (m : World) (a v : ℕ) (bit : Bit) → CopyLaw g (sight_of g m) → CopyLaw g (sight_of g (moved g m a (Soften v bit)))
copies-soften g m a v bit h = flagged_still g m a v (bit_and (pte_at m v) (all_but (bit_mask bit))) (soft_word (pte_at m v) bit) h

pub copies-arm : (g : Geometry) (m : World) (a v : ℕ) → IsReady g m a (Arm v) → CopyLaw g (sight_of g m) → CopyLaw g (sight_of g (moved g m a (Arm v)))
copies-arm g m a v r h = flagged_still g m a v (bit_or (pte_at m v) hint_mask) (tames_or (pte_at m v) hint_mask refl r.fits.told.said.mapped) h

-- Walk.

walk_tames : (word : ℕ) (write : Bool) → word ≢ 0 → TamesWord word (walked_word word write)
walk_tames word true some = tames_or word (walk_mask true) refl some
walk_tames word false some = tames_or word (walk_mask false) refl some

undirty_entry : (w d : Bool) → d ≡ false → (w && (false || d)) ≡ false
undirty_entry true d off = off
undirty_entry false d off = refl

-- an entry through which stores may go is made with a dirty word alone
undirty_walk : (word : ℕ) (write : Bool) → is_dirty (walked_word word write) ≡ false → (is_writable word && (write || is_dirty word)) ≡ false
undirty_walk word true not =
    let on : is_dirty (walked_word word true) ≡ true = eq-eqb (bit_at (walked_word word true) 3) 1 (omega (arith, bit_at_or word (walk_mask true) 3, bit_at-lt word 3)) in
    absurd cc
undirty_walk word false not = let off : is_dirty word ≡ false = undirtied_or word (walk_mask false) not in undirty_entry (is_writable word) (is_dirty word) off

unwritable_walk : (w d : Bool) → w ≡ false → (w && d) ≡ false
unwritable_walk true d off = absurd cc
unwritable_walk false d off = refl

-- no cache has a dirty entry of a page after one was cached, if this one is not dirty where it is of the page
clean_put : (g : Geometry) (entry after : ℕ → ℕ → Option CacheEntry) (a v b : ℕ) (e : CacheEntry) → Sets entry after a v (Some e) → (backing_page g v ≡ Some b → e.dirty ≡ false) → IsClean g entry b → IsClean g after b
clean_put g entry after a v b e sets own h c u x of is =
    edited (λ c u x. backing_page g u ≡ Some b → x.dirty ≡ false) entry after a v e sets own (λ c u x apart there mine. h c u x mine there) c u x is of

pub cases_on : (P : Bool → Type 0) (t : Bool) → (t ≡ true → P true) → (t ≡ false → P false) → P t
cases_on P true p q = p refl
cases_on P false p q = q refl

walk_done : (g : Geometry) (m : World) (a v e : ℕ) (write : Bool) → pte_at m v ≡ e → e ≢ 0 → CopyLaw g (sight_of g m) → CopyLaw g (sight_at g (written (words.Pte v) (walked_word e write) m.word) (viewing a (after_of g (m.view a) (Walk v e write) Done) m.view))
walk_done g m a v e write found some h =
    let new : View = after_of g (m.view a) (Walk v e write) Done in
    let entry : CacheEntry = walked (m.view a) v e write in
    let before = sight_of g m in
    let after = sight_at g (written (words.Pte v) (walked_word e write) m.word) (viewing a new m.view) in
    let sets : Sets before.entry after.entry a v (Some entry) = entry_put a entry new m.view refl in
    let left : after.pte v ≡ walked_word e write = choose (λ n. n ≡ walked_word e write) v v (walked_word e write) (pte_at m v) (λ s. refl) (λ n. absurd (n refl)) in
    law_flagged g m a v (walked_word e write) new (subst (λ (n : ℕ). TamesWord n (walked_word e write)) (sym found) (walk_tames e write some)) (λ f. refl) (λ b. refl)
    (record {
      cached = λ b dry. clean_put g before.entry after.entry a v b entry sets (λ of. undirty_walk e write (ap is_dirty (sym left) ∙ dry v of));
      out_clean = λ b out. clean_put g before.entry after.entry a v b entry sets (λ of. absurd (some (sym found ∙ out v of)));
      twin_clean = λ b only. clean_put g before.entry after.entry a v b entry sets (λ of. unwritable_walk (is_writable e) (write || is_dirty e) (ap is_writable (sym found) ∙ only v of));
    }) h

pub copies-walk : (g : Geometry) (m : World) (a v e : ℕ) (write : Bool) → IsReady g m a (Walk v e write) → CopyLaw g (sight_of g m) → CopyLaw g (sight_of g (moved g m a (Walk v e write)))
copies-walk g m a v e write r h =
    let n : ℕ = pte_at m v in
    let view : View = m.view a in
    let Left : Bool → Type 0 = λ b. CopyLaw g (sight_at g (written (words.Pte v) (if b then walked_word e write else n) m.word) (viewing a (after_of g view (Walk v e write) (if b then Done else Lost n)) m.view)) in
    cases_on Left (n == e)
    (λ found.
    let some : e ≢ 0 = λ none. (let bit : bit_at e 0 ≡ 1 = eqb-true (bit_at e 0) 1 r.allowed.permitted.present in absurd (omega (arith, bit, ap (λ k. bit_at k 0) none ∙ bit_at-zero 0))) in
    walk_done g m a v e write (eqb-true n e found) some h)
    (λ lost. law_quiet g m (written (words.Pte v) n m.word) a view (read_keeps (words.Pte v) m.word) (same_view g view) h)

-- The kinds that write a table word.
use Rattle.std.proofs.Common.{◌≡◌, ◌≢◌, ◌↔◌, ℕ, ◌^◌, ◌<◌, ◌==◌, if◌then◌else◌, bit_and, bit_or, Bool, true, false, List, Option, Some, None, IsSome, IfSome, All, refl, sym, ap, subst, ◌∙◌, inl, inr, arith}
use Rattle.std.specs.Prelude.{option_map}
use Rattle.std.specs.Int.{bit_at}
use Rattle.std.proofs.lemmas.Bool.{eqb-true}
use Rattle.std.proofs.lemmas.Nat.{and_le_l}
use Rattle.std.proofs.lemmas.Nat.Bits.{bit_at-zero}
use Rattle.nm_base.specs.Geometry.{Geometry, IsWritable, backing_page}
use Rattle.nm_base.specs.HomeWord.{home_word}
use Rattle.nm_base.specs.PageWord.{IsPresentWord, all_but, hint_mask, dirty_mask, grant_mask, walk_mask, walked_word, granted_word, is_writable, is_saved, frame_of}
use Rattle.nm_base.proofs.TableWords.{HasLayout-and, HasLayout-or, HasLayout-xor}
use Rattle.nm_action.specs.declared.action.Bit.{Bit}
use Rattle.nm_action.specs.declared.action.Bit.TheVariants.{Hint, Accessed}
use Rattle.nm_action.specs.declared.action.Reply.TheVariants.{Done, Word, Lost}
use Rattle.nm_action.specs.declared.action.Action.TheVariants.{Soften, Arm, Walk, ClearDirty, Unmap, Map, Grant}
use Rattle.nm_view.specs.declared.view.Owned.{Owned}
use Rattle.nm_view.specs.Lists.{find, first}
use Rattle.nm_view.specs.Views.{Op, View}
use Rattle.nm_view.specs.Operations.{owned_frame, op_on, fill_of}
use Rattle.nm_view.proofs.Items.{some_same, all_find, all_join, all_erase}
use Rattle.nm_view.proofs.Finds.{find_number}
use Rattle.nm_permit.specs.Permitted.{MayUnmap, MayMap, MayGrant, IsWordBack, IsWordNew, IsSavedWord}
use Rattle.nm_words.specs.declared.names.Where.TheVariants as words
use Rattle.nm_step.specs.Table.{bit_mask}
use Rattle.nm_event.specs.After.{after_of, edit_under, cleared_at, taken_at, mapped_at, granted_at, spoiled_frame, spoiled_under}
use Rattle.nm_event.specs.Fitting.{Agrees}
use Rattle.nm_world.specs.Worlds.{World, moved, viewing, written, pte_at, home_at, shadow_at, op_at}
use Rattle.nm_world.specs.Parts.{lore_of}
use Rattle.nm_world.specs.Sights.{sight_of, sight_at}
use Rattle.nm_world.specs.LockLaw.{LockLaw, IsTrueOp}
use Rattle.nm_world.specs.FrameLaw.{FrameLaw, IsWordOf, MapsToHome}
use Rattle.nm_world.specs.Laws.{IsReady}
use Rattle.nm_world.proofs.Options.{some_and}
use Rattle.nm_world.proofs.Bits.{frame_and, frame_or, frame_xor, bit_and_kept, bit_or_kept, bit_or_set, bit_xor_kept}
use Rattle.nm_world.proofs.Moves.{edited, on_page}
use Rattle.nm_world.proofs.Parts.{part_of}
use Rattle.nm_world.proofs.Writing.{word_writes, edit_sets}
use Rattle.nm_frames.proofs.Still.{cases_on, takings_of, KeepsView, same_view, same_fills, map_fills, roles_kept, words_written, taken_still, takings_kept, read_keeps, frames_quiet}

-- Known values.

pub if_at : {A : Type 0} (P : A → Type 0) (o : Option A) (x : A) → IfSome o P → o ≡ Some x → P x
if_at P None x h is = absurd cc
if_at P (Some y) x h is = subst P (some_same y x is) h

-- what an operation knows is so
pub true_op : (m : World) (g : Geometry) (a b : ℕ) (o : Op) → LockLaw g m → op_at m a b ≡ Some o → IsTrueOp m b (lore_of o)
true_op m g a b o locks is = locks.known a b (lore_of o) (ap (option_map lore_of) is)

-- Flags.

-- a table word changes in what no law of frames reads
record Touches (word new : ℕ) : Type 0 where
  present : IsPresentWord word → IsPresentWord new
  frame : frame_of new ≡ frame_of word
  writable : is_writable new ≡ is_writable word
  saved : is_saved new ≡ is_saved word

touches_and : (word flags : ℕ) → flags < 2 ^ 12 → bit_at (all_but flags) 0 ≡ 1 → bit_at (all_but flags) 2 ≡ 1 → bit_at (all_but flags) 5 ≡ 1 → Touches word (bit_and word (all_but flags))
touches_and word flags low zero two five = record {
  present = λ h. record { present = bit_and_kept word (all_but flags) 0 zero ∙ h.present; layout = HasLayout-and word (all_but flags) h.layout };
  frame = frame_and word flags low;
  writable = ap (λ n. n == 1) (bit_and_kept word (all_but flags) 2 two);
  saved = ap (λ n. n == 1) (bit_and_kept word (all_but flags) 5 five);
}

touches_or : (word flags : ℕ) → flags < 2 ^ 6 → bit_at flags 2 ≡ 0 → bit_at flags 5 ≡ 0 → Touches word (bit_or word flags)
touches_or word flags low two five = record {
  present = λ h. record { present = bit_or_set word flags 0 h.present; layout = HasLayout-or word flags low h.layout };
  frame = frame_or word flags (omega (arith, low));
  writable = ap (λ n. n == 1) (bit_or_kept word flags 2 two);
  saved = ap (λ n. n == 1) (bit_or_kept word flags 5 five);
}

touches_bit : (word : ℕ) (bit : Bit) → Touches word (bit_and word (all_but (bit_mask bit)))
touches_bit word Hint = touches_and word (bit_mask Hint) (omega arith) refl refl refl
touches_bit word Accessed = touches_and word (bit_mask Accessed) (omega arith) refl refl refl

touches_walk : (word : ℕ) (write : Bool) → Touches word (walked_word word write)
touches_walk word true = touches_or word (walk_mask true) (omega arith) refl refl
touches_walk word false = touches_or word (walk_mask false) (omega arith) refl refl

touched : (g : Geometry) (homes shades : ℕ → ℕ) (v word new : ℕ) → Touches word new → MapsToHome g homes shades v word → MapsToHome g homes shades v new
touched g homes shades v word new t h = record {
  page = h.page;
  of = h.of;
  is = record {
    layout = t.present h.is.layout;
    home = h.is.home ∙ ap home_word (sym t.frame);
    writable = λ on. h.is.writable (sym t.writable ∙ on);
    saved = λ on. h.is.saved (sym t.saved ∙ on);
    unshaded = λ some. t.writable ∙ h.is.unshaded (λ none. some (ap shades t.frame ∙ none));
  };
}

-- Table words.

-- one table word is written: it maps, if it is not 0; taken words map; and the view owns the frames that it owned
frames_written : (g : Geometry) (m : World) (a v x : ℕ) (new : View) → (x ≢ 0 → MapsToHome g (home_at m) (shadow_at m) v x) → ((f : ℕ) → IsSome (fill_of (m.view a) f) ↔ IsSome (fill_of new f)) → ((c b : ℕ) (o : Op) → op_on (viewing a new m.view c) b ≡ Some o → o.moved ≡ false → All (λ p. IsWordOf g (home_at m) (shadow_at m) b p.0 p.1) o.taken) → FrameLaw g (sight_of g m) → FrameLaw g (sight_at g (written (words.Pte v) x m.word) (viewing a new m.view))
frames_written g m a v x new maps fills taken law = record {
  roles = roles_kept g m (written (words.Pte v) x m.word) a new (λ f. refl) (λ b. refl) (λ k. refl) fills law;
  words = words_written g (sight_of g m) (sight_at g (written (words.Pte v) x m.word) (viewing a new m.view)) v x (word_writes (pte_at m) v x) (λ b. refl) (λ k. refl) maps law;
  taken = taken;
}

-- the same, where the view is as before in what the law reads
frames_table : (g : Geometry) (m : World) (a v x : ℕ) (new : View) → (x ≢ 0 → MapsToHome g (home_at m) (shadow_at m) v x) → KeepsView (m.view a) new → FrameLaw g (sight_of g m) → FrameLaw g (sight_at g (written (words.Pte v) x m.word) (viewing a new m.view))
frames_table g m a v x new maps view law =
    frames_written g m a v x new maps view.fills
    (taken_still g (sight_of g m) (sight_at g (written (words.Pte v) x m.word) (viewing a new m.view)) (λ b. refl) (λ k. refl) (takings_kept a new m.view view) law) law

frames_touched : (g : Geometry) (m : World) (a v x : ℕ) (new : View) → Touches (pte_at m v) x → (x ≢ 0 → pte_at m v ≢ 0) → KeepsView (m.view a) new → FrameLaw g (sight_of g m) → FrameLaw g (sight_at g (written (words.Pte v) x m.word) (viewing a new m.view))
frames_touched g m a v x new t some view law =
    frames_table g m a v x new (λ is. touched g (home_at m) (shadow_at m) v (pte_at m v) x t (law.words v (some is))) view law

cleared_some : (word flags : ℕ) → bit_and word (all_but flags) ≢ 0 → word ≢ 0
cleared_some word flags some none = some (omega (arith, none, and_le_l word (all_but flags)))

pub frames_soften : (g : Geometry) (m : World) (a v : ℕ) (bit : Bit) → FrameLaw g (sight_of g m) → FrameLaw g (sight_of g (moved g m a (Soften v bit)))
frames_soften g m a v bit law =
    let n : ℕ = pte_at m v in
    frames_touched g m a v (bit_and n (all_but (bit_mask bit))) (m.view a) (touches_bit n bit) (cleared_some n (bit_mask bit)) (same_view (m.view a)) law

pub frames_arm : (g : Geometry) (m : World) (a v : ℕ) → IsReady g m a (Arm v) → FrameLaw g (sight_of g m) → FrameLaw g (sight_of g (moved g m a (Arm v)))
frames_arm g m a v r law =
    let n : ℕ = pte_at m v in
    frames_touched g m a v (bit_or n hint_mask) (m.view a) (touches_or n hint_mask (omega arith) refl refl) (λ _. r.fits.told.said.mapped) (same_view (m.view a)) law

pub frames_clear_dirty : (g : Geometry) (m : World) (a v : ℕ) → FrameLaw g (sight_of g m) → FrameLaw g (sight_of g (moved g m a (ClearDirty v)))
frames_clear_dirty g m a v law =
    let n : ℕ = pte_at m v in
    frames_touched g m a v (bit_and n (all_but dirty_mask)) (after_of g (m.view a) (ClearDirty v) (Word n)) (touches_and n dirty_mask (omega arith) refl refl refl) (cleared_some n dirty_mask)
    (record { takings = λ b. part_of takings_of g v (cleared_at v) b (m.view a).ops (λ o. refl) (λ o. refl); fills = λ f. same_fills }) law

pub present_some : (word : ℕ) → bit_at word 0 ≡ 1 → word ≢ 0
present_some word on none = let off : bit_at word 0 ≡ 0 = ap (λ n. bit_at n 0) none ∙ bit_at-zero 0 in absurd (omega (arith, on, off))

pub frames_walk : (g : Geometry) (m : World) (a v e : ℕ) (write : Bool) → IsReady g m a (Walk v e write) → FrameLaw g (sight_of g m) → FrameLaw g (sight_of g (moved g m a (Walk v e write)))
frames_walk g m a v e write r law =
    let n : ℕ = pte_at m v in
    let view : View = m.view a in
    let Left : Bool → Type 0 = λ t. FrameLaw g (sight_of g (record { word = written (words.Pte v) (if t then walked_word e write else n) m.word; view = viewing a (after_of g view (Walk v e write) (if t then Done else Lost n)) m.view })) in
    cases_on Left (n == e)
    (λ found.
    let same : n ≡ e = eqb-true n e found in
    let some : e ≢ 0 = present_some e (eqb-true (bit_at e 0) 1 r.allowed.permitted.present) in
    frames_touched g m a v (walked_word e write) (after_of g view (Walk v e write) Done)
    (subst (λ (k : ℕ). Touches k (walked_word e write)) (sym same) (touches_walk e write))
    (λ _ none. some (sym same ∙ none))
    (record { takings = λ b. refl; fills = λ f. same_fills }) law)
    (λ lost. frames_quiet g m (written (words.Pte v) n m.word) a view (read_keeps g (words.Pte v) m.word) (same_view view) law)

-- Words out of the table, and back.

pub frames_unmap : (g : Geometry) (m : World) (a v : ℕ) → IsReady g m a (Unmap v) → FrameLaw g (sight_of g m) → FrameLaw g (sight_of g (moved g m a (Unmap v)))
frames_unmap g m a v r law =
    let n : ℕ = pte_at m v in
    let view : View = m.view a in
    let new : View = after_of g view (Unmap v) (Word n) in
    let on = on_page g view v (MayUnmap g v) r.allowed.permitted in
    let maps = law.words v r.fits.told.said.mapped in
    let same : maps.page ≡ on.page = some_same maps.page on.page (sym maps.of ∙ on.of) in
    let took : IsWordOf g (home_at m) (shadow_at m) on.page v n = subst (λ (b : ℕ). IsWordOf g (home_at m) (shadow_at m) b v n) same maps.is in
    let P : ℕ → ℕ → Op → Type 0 = λ c b o. o.moved ≡ false → All (λ p. IsWordOf g (home_at m) (shadow_at m) b p.0 p.1) o.taken in
    let sets = edit_sets a on.page (taken_at v n) on.op new m.view (λ x. refl) (ap (λ b. edit_under b (taken_at v n) view.ops) on.of) on.here in
    frames_written g m a v 0 new (λ some. absurd (some refl)) (λ f. same_fills)
    (edited P (op_at m) (λ c b. op_on (viewing a new m.view c) b) a on.page (taken_at v n on.op) sets
    (λ _. all_join (λ p. IsWordOf g (home_at m) (shadow_at m) on.page p.0 p.1) on.op.taken (v, n) (law.taken a on.page on.op on.here on.may.unmoved) took)
    (λ c b p apart there. law.taken c b p there)) law

-- spoiled frames stay owned
pub spoiled_fills : (page : Option ℕ) (owned : List Owned) (f : ℕ) → IsSome (option_map (λ (w : Owned). w.fill) (find owned_frame f owned)) ↔ IsSome (option_map (λ (w : Owned). w.fill) (find owned_frame f (spoiled_under page owned)))
spoiled_fills None owned f = same_fills
spoiled_fills (Some b) owned f = map_fills (spoiled_frame b) f owned (λ w. refl)

-- a word that was taken maps again
word_back : (g : Geometry) (m : World) (a v word b : ℕ) (o : Op) → op_at m a b ≡ Some o → IsWordBack v word o → FrameLaw g (sight_of g m) → IsWordOf g (home_at m) (shadow_at m) b v word
word_back g m a v word b o here back law =
    let found = some_and (find first v o.taken) (λ p. p.1 ≡ word) back.taken in
    let maps = all_find first v (λ p. IsWordOf g (home_at m) (shadow_at m) b p.0 p.1) o.taken found.0 (law.taken a b o here back.unmoved) found.1.0 in
    let number : found.0.0 ≡ v = find_number first v o.taken found.0 found.1.0 in
    subst (λ (w : ℕ). IsWordOf g (home_at m) (shadow_at m) b v w) found.1.1
    (subst (λ (u : ℕ). IsWordOf g (home_at m) (shadow_at m) b u found.0.1) number maps)

-- the shadow word of the known home, where it was read as none
pub no_shadow : (m : World) (b f : ℕ) (o : Op) → IsTrueOp m b (lore_of o) → o.shadow ≡ Some 0 → home_at m b ≡ home_word f → shadow_at m f ≡ 0
no_shadow m b f o known none home = sym (if_at (λ word. (k : ℕ) → home_at m b ≡ home_word k → word ≡ shadow_at m k) o.shadow 0 known.shadow none f home)

-- a new word maps
word_new : (g : Geometry) (m : World) (v word b : ℕ) (o : Op) → IsTrueOp m b (lore_of o) → IsWordNew g v word o → IsWordOf g (home_at m) (shadow_at m) b v word
word_new g m v word b o known new =
    let home : home_at m b ≡ home_word (frame_of word) = sym (if_at (λ h. h ≡ home_at m b) o.home (home_word (frame_of word)) known.home new.home) in
    record {
      layout = new.present;
      home = home;
      writable = new.writable;
      saved = new.saved;
      unshaded = λ some. cases_on (λ t. t ≡ false) (is_writable word) (λ on. absurd (some (no_shadow m b (frame_of word) o known (new.unshadowed on) home))) (λ off. refl);
    }

pub frames_map : (g : Geometry) (m : World) (a v word : ℕ) → LockLaw g m → IsReady g m a (Map v word) → FrameLaw g (sight_of g m) → FrameLaw g (sight_of g (moved g m a (Map v word)))
frames_map g m a v word locks r law =
    let view : View = m.view a in
    let new : View = after_of g view (Map v word) Done in
    let on = on_page g view v (MayMap g v word) r.allowed.permitted in
    let is : IsWordOf g (home_at m) (shadow_at m) on.page v word = elim on.may.fits [
      | inl back ↦ word_back g m a v word on.page on.op on.here back law
      | inr fresh ↦ word_new g m v word on.page on.op (true_op m g a on.page on.op locks on.here) fresh
    ] in
    let P : ℕ → ℕ → Op → Type 0 = λ c b o. o.moved ≡ false → All (λ p. IsWordOf g (home_at m) (shadow_at m) b p.0 p.1) o.taken in
    let sets = edit_sets a on.page (mapped_at v word) on.op new m.view (λ x. refl) (ap (λ b. edit_under b (mapped_at v word) view.ops) on.of) on.here in
    frames_written g m a v word new (λ some. record { page = on.page; of = on.of; is = is }) (spoiled_fills (backing_page g v) view.owned)
    (edited P (op_at m) (λ c b. op_on (viewing a new m.view c) b) a on.page (mapped_at v word on.op) sets
    (λ unmoved. all_erase first (λ p. IsWordOf g (home_at m) (shadow_at m) on.page p.0 p.1) v on.op.taken (law.taken a on.page on.op on.here unmoved))
    (λ c b p apart there. law.taken c b p there)) law

-- the right to write comes to a word whose page may be written and whose frame has no shadow
granted : (g : Geometry) (homes shades : ℕ → ℕ) (v word : ℕ) → IsWritable g v → shades (frame_of word) ≡ 0 → MapsToHome g homes shades v word → MapsToHome g homes shades v (granted_word word)
granted g homes shades v word may bare h =
    let frame : frame_of (granted_word word) ≡ frame_of word = frame_xor word grant_mask (omega arith) in
    record {
      page = h.page;
      of = h.of;
      is = record {
        layout = record { present = bit_xor_kept word grant_mask 0 refl ∙ h.is.layout.present; layout = HasLayout-xor word grant_mask (omega arith) h.is.layout.layout };
        home = h.is.home ∙ ap home_word (sym frame);
        writable = λ _. may;
        saved = λ _. may;
        unshaded = λ some. absurd (some (ap shades frame ∙ bare));
      };
    }

pub frames_grant : (g : Geometry) (m : World) (a v : ℕ) → LockLaw g m → IsReady g m a (Grant v) → FrameLaw g (sight_of g m) → FrameLaw g (sight_of g (moved g m a (Grant v)))
frames_grant g m a v locks r law =
    let n : ℕ = pte_at m v in
    let view : View = m.view a in
    let new : View = after_of g view (Grant v) (Word n) in
    let on = on_page g view v (MayGrant v) r.allowed.permitted in
    let known = true_op m g a on.page on.op locks on.here in
    let maps = law.words v r.fits.told.said.mapped in
    let same : maps.page ≡ on.page = some_same maps.page on.page (sym maps.of ∙ on.of) in
    let home : home_at m on.page ≡ home_word (frame_of n) = ap (home_at m) (sym same) ∙ maps.is.home in
    let looked = some_and (find first v on.op.looked) (λ p. IsSavedWord p.1) on.may.saved in
    let agrees : Agrees looked.0.1 n = if_at (λ p. Agrees p.1 n) (find first v on.op.looked) looked.0 (known.looked v on.may.there) looked.1.0 in
    let may : IsWritable g v = maps.is.saved (agrees.saved ∙ looked.1.1.saved) in
    frames_table g m a v (granted_word n) new
    (λ some. granted g (home_at m) (shadow_at m) v n may (no_shadow m on.page (frame_of n) on.op known on.may.shadow home) maps)
    (record { takings = λ b. part_of takings_of g v (granted_at v n) b view.ops (λ o. refl) (λ o. refl); fills = spoiled_fills (backing_page g v) view.owned }) law

-- Map and Grant: what the actor knows of copies of the page is spoilt.
use Rattle.std.proofs.Common.{◌≡◌, ◌≢◌, ℕ, ◌&&◌, Bool, true, false, Option, Some, None, refl, sym, ap, ◌∙◌, inl, inr}
use Rattle.std.proofs.lemmas.Bool.{cases_eq}
use Rattle.nm_base.specs.Geometry.{Geometry, backing_page}
use Rattle.nm_base.specs.PageWord.{grant_mask, granted_word, is_dirty}
use Rattle.nm_action.specs.declared.action.Reply.TheVariants.{Done, Word}
use Rattle.nm_action.specs.declared.action.Action.TheVariants.{Map, Grant}
use Rattle.nm_words.specs.declared.names.Where.TheVariants as words
use Rattle.nm_view.specs.declared.view.Phase.{Phase}
use Rattle.nm_view.specs.declared.view.Phase.TheVariants.{Held, Cleared, Taken}
use Rattle.nm_view.specs.declared.view.Fill.{Fill}
use Rattle.nm_view.specs.declared.view.Fill.TheVariants.{Copied, Equal}
use Rattle.nm_view.specs.Views.{Op, View}
use Rattle.nm_view.specs.Operations.{fill_of, op_on, names_one, is_early, is_flush_ended}
use Rattle.nm_permit.specs.Permitted.{MayMap, MayGrant}
use Rattle.nm_event.specs.After.{after_of, mapped_at, granted_at, has_some, spoiled, spoiled_under}
use Rattle.nm_view.specs.Lists.{erase, first}
use Rattle.nm_world.specs.Worlds.{World, moved, viewing, written, pte_at}
use Rattle.nm_world.specs.Parts.{Copier, copier_of}
use Rattle.nm_world.specs.Sights.{Sight, Sets, WritesOne, sight_of, sight_at}
use Rattle.nm_world.specs.Notions.{IsClean, IsUndirtied, fill_page}
use Rattle.nm_world.specs.CopyLaw.{CopyLaw, CopySight, copy_sight, IsUnspoilt, OpCopies}
use Rattle.nm_world.specs.Laws.{IsReady}
use Rattle.nm_world.proofs.Writing.{own_view, edit_sets, word_writes}
use Rattle.nm_world.proofs.Moves.{on_page}
use Rattle.nm_world.proofs.Bits.{bit_xor_kept}
use Rattle.nm_copies.specs.Facts.{HasHolders}
use Rattle.nm_copies.proofs.Still.{clean_stays}
use Rattle.nm_copies.proofs.Fills.{fills_from, no_copies, spoilt_from}
use Rattle.nm_copies.proofs.Edits.{law_table, other_page}
use Rattle.nm_copies.proofs.Flags.{same_flag}
use Rattle.nm_copies.proofs.Holders.{no_last}
use Rattle.nm_copies.proofs.Table.{keeps_frames, edit_is}

-- the actor's fills tell nothing of a page
abbrev pub IsUntold : (ℕ → ℕ → Option Fill) → ℕ → ℕ → Type 0
IsUntold fill a b = (f : ℕ) (x : Fill) → fill a f ≡ Some x → fill_page x ≢ Some b

-- an operation with no word loaded, of whose page no fill tells, has no copies
spoilt_own : (g : Geometry) (k : CopySight) (a b : ℕ) (o : Copier) → o.last ≡ None → IsUntold k.fill a b → (o.naming ≡ true → o.early ≡ false → IsUnspoilt g k.pte b o.naming o.taken → IsClean g k.entry b) → OpCopies g k a b o
spoilt_own g k a b o unloaded untold dirty =
    no_copies g k a b o
    (λ has. elim has [
      | inl some ↦ (no_last o.last unloaded some)
      | inr owns ↦ untold owns.frame (Copied b owns.count) owns.is refl
    ])
    (λ f is. untold f (Equal b) is refl) dirty

-- a step at which the actor's fills are spoilt of the page of v, whose table word and operation change
spoilt_step : (g : Geometry) (m : World) (a v x b : ℕ) (o : Op) (f : Op → Op) (new : View) → HasHolders (sight_of g m).op → backing_page g v ≡ Some b → op_on (m.view a) b ≡ Some o → Sets (sight_of g m).op (sight_at g (written (words.Pte v) x m.word) (viewing a new m.view)).op a b (Some (f o)) → new.cache ≡ (m.view a).cache → new.owned ≡ spoiled b (m.view a).owned → (f o).last ≡ None → ((copier_of g (f o)).naming ≡ true → (copier_of g (f o)).early ≡ false → IsUnspoilt g (sight_at g (written (words.Pte v) x m.word) (viewing a new m.view)).pte b (copier_of g (f o)).naming (f o).taken → IsClean g (sight_of g m).entry b) → CopyLaw g (sight_of g m) → CopyLaw g (sight_at g (written (words.Pte v) x m.word) (viewing a new m.view))
spoilt_step g m a v x b o f new holders of here sets cache owned unloaded dirty h =
    let before : Sight = sight_of g m in
    let after : Sight = sight_at g (written (words.Pte v) x m.word) (viewing a new m.view) in
    let writes : WritesOne before.pte after.pte v x = word_writes before.pte v x in
    let s = keeps_frames g m a v x new cache in
    let mine : (k : ℕ) → after.fill a k ≡ fill_of new k = λ k. ap (λ w. fill_of w k) (own_view a new m.view) in
    law_table g before after a b o (f o) holders sets here s
    (fills_from a new m.view (λ k y is. (spoilt_from b k y (m.view a) new owned is).from))
    (λ j u other own. other_page g before.pte after.pte v x b j writes of other u own)
    (spoilt_own g (copy_sight after) a b (copier_of g (f o)) unloaded
    (λ k y is. (spoilt_from b k y (m.view a) new owned (sym (mine k) ∙ is)).apart)
    (λ naming late u. clean_stays g (copy_sight before) (copy_sight after) b s.entry (dirty naming late u))) h

spoiled_is : (g : Geometry) (v b : ℕ) (view : View) → backing_page g v ≡ Some b → spoiled_under (backing_page g v) view.owned ≡ spoiled b view.owned
spoiled_is g v b view of = ap (λ p. spoiled_under p view.owned) of

-- an operation that names a virtual page after a Map is cleared and made no SetHome
map_named : (phase : Phase) (cleared some moved ended : Bool) → phase ≢ Cleared → names_one phase (cleared && some) moved ≡ true → is_early phase ended ≡ false → (cleared ≡ true) × (moved ≡ false)
map_named Held cleared some moved ended apart naming late = absurd (let both : true ≡ false = late in cc)
map_named Cleared cleared some moved ended apart naming late = absurd (apart refl)
map_named Taken true true true ended apart naming late = absurd (let both : false ≡ true = naming in cc)
map_named Taken true true false ended apart naming late = (refl, refl)
map_named Taken true false moved ended apart naming late = absurd (let both : false ≡ true = naming in cc)
map_named Taken false some moved ended apart naming late = absurd (let both : false ≡ true = naming in cc)

-- then only a dirty word goes back
map_dirty : (g : Geometry) (pte : ℕ → ℕ) (v word b : ℕ) (o : Op) → pte v ≡ word → backing_page g v ≡ Some b → MayMap g v word o → (copier_of g (mapped_at v word o)).naming ≡ true → (copier_of g (mapped_at v word o)).early ≡ false → IsUndirtied g pte b → ⊥
map_dirty g pte v word b o is of may naming late dry =
    let told = map_named o.phase o.cleared (has_some (erase first v o.taken)) o.moved (is_flush_ended g o) may.phase naming late in
    let on : is_dirty word ≡ true = may.dirty told.0 told.1 in
    let off : is_dirty word ≡ false = ap is_dirty (sym is) ∙ dry v of in
    cc

pub copies-map : (g : Geometry) (m : World) (a v word : ℕ) → HasHolders (sight_of g m).op → IsReady g m a (Map v word) → CopyLaw g (sight_of g m) → CopyLaw g (sight_of g (moved g m a (Map v word)))
copies-map g m a v word holders r h =
    let new : View = after_of g (m.view a) (Map v word) Done in
    let on = on_page g (m.view a) v (MayMap g v word) r.allowed.permitted in
    let after : Sight = sight_at g (written (words.Pte v) word m.word) (viewing a new m.view) in
    let writes : WritesOne (sight_of g m).pte after.pte v word = word_writes (sight_of g m).pte v word in
    spoilt_step g m a v word on.page on.op (mapped_at v word) new holders on.of on.here
    (edit_sets a on.page (mapped_at v word) on.op new m.view (λ o. refl) (edit_is g v on.page (mapped_at v word) (m.view a).ops on.of) on.here)
    refl (spoiled_is g v on.page (m.view a) on.of) refl
    (λ naming late u. absurd (map_dirty g after.pte v word on.page on.op writes.here on.of on.may naming late (u.table naming))) h

-- a grant leaves dirty what was dirty
undirtied_granted : (g : Geometry) (pte after : ℕ → ℕ) (v b : ℕ) → WritesOne pte after v (granted_word (pte v)) → IsUndirtied g after b → IsUndirtied g pte b
undirtied_granted g pte after v b writes dry u of =
    elim (cases_eq u v) [
      | inl same ↦
          let left : is_dirty (granted_word (pte v)) ≡ is_dirty (pte v) = same_flag _ _ (bit_xor_kept (pte v) grant_mask 3 refl) in
          ap (λ n. is_dirty (pte n)) same ∙ sym left ∙ ap is_dirty (sym writes.here) ∙ ap (λ n. is_dirty (after n)) (sym same) ∙ dry u of
      | inr other ↦ ap is_dirty (sym (writes.rest u other)) ∙ dry u of
    ]

pub copies-grant : (g : Geometry) (m : World) (a v : ℕ) → HasHolders (sight_of g m).op → IsReady g m a (Grant v) → CopyLaw g (sight_of g m) → CopyLaw g (sight_of g (moved g m a (Grant v)))
copies-grant g m a v holders r h =
    let n : ℕ = pte_at m v in
    let x : ℕ = granted_word n in
    let new : View = after_of g (m.view a) (Grant v) (Word n) in
    let on = on_page g (m.view a) v (MayGrant v) r.allowed.permitted in
    let after : Sight = sight_at g (written (words.Pte v) x m.word) (viewing a new m.view) in
    let writes : WritesOne (sight_of g m).pte after.pte v x = word_writes (sight_of g m).pte v x in
    spoilt_step g m a v x on.page on.op (granted_at v n) new holders on.of on.here
    (edit_sets a on.page (granted_at v n) on.op new m.view (λ o. refl) (edit_is g v on.page (granted_at v n) (m.view a).ops on.of) on.here)
    refl (spoiled_is g v on.page (m.view a) on.of) refl
    (λ naming late u. (h.ops a on.page on.op on.here).dirty naming late
    (record { table = λ named. undirtied_granted g (sight_of g m).pte after.pte v on.page writes (u.table named); taken = u.taken })) h

-- CopyStore: the next word of an owned frame is written, a 0 or the word that was loaded.
use Rattle.std.proofs.Common.{◌≡◌, ◌≢◌, ℕ, ◌+◌, ◌<◌, ◌⊎◌, Option, Some, None, IsSome, IsSomeAnd, refl, sym, ap, subst, ◌∙◌, inl, inr, arith}
use Rattle.std.specs.Prelude.{option_map}
use Rattle.std.proofs.lemmas.Bool.{cases_eq}
use Rattle.nm_base.specs.Geometry.{Geometry}
use Rattle.nm_base.specs.Ranges.{IsIndex}
use Rattle.nm_action.specs.declared.action.Reply.TheVariants.{Done}
use Rattle.nm_action.specs.declared.action.Action.TheVariants.{CopyStore}
use Rattle.nm_words.specs.declared.names.Where.TheVariants as words
use Rattle.nm_view.specs.declared.view.CacheEntry.{CacheEntry}
use Rattle.nm_view.specs.declared.view.Fill.{Fill}
use Rattle.nm_view.specs.declared.view.Fill.TheVariants.{Raw, Zeroed, Copied, Equal}
use Rattle.nm_view.specs.declared.view.Owned.{Owned}
use Rattle.nm_view.specs.Lists.{find, edit}
use Rattle.nm_view.specs.Views.{Op, View}
use Rattle.nm_view.specs.Operations.{owned_frame, cached_page, fill_of, op_on}
use Rattle.nm_view.proofs.Finds.{find_edit, find_edit_other}
use Rattle.nm_view.proofs.Items.{not_none, some_same}
use Rattle.nm_permit.specs.Permitted.{IsZeroedTo, IsCopiedTo, IsLoaded}
use Rattle.nm_event.specs.After.{after_of, copied_one, filled}
use Rattle.nm_world.specs.Worlds.{World, moved, viewing, written}
use Rattle.nm_world.specs.Parts.{Copier, copier_of}
use Rattle.nm_world.specs.Sights.{Sight, Sets, sight_of, sight_at}
use Rattle.nm_world.specs.Notions.{page_value, fill_page}
use Rattle.nm_world.specs.CopyLaw.{CopyLaw, copy_sight, HasCopies, IsUnspoilt, IsTwin, OpCopies}
use Rattle.nm_world.specs.Laws.{IsReady}
use Rattle.nm_world.proofs.Writing.{item_sets, edit_sets, mem_sets}
use Rattle.nm_world.proofs.Moves.{edited}
use Rattle.nm_copies.specs.Facts.{HasHolders, HasRoles}
use Rattle.nm_copies.proofs.Still.{Leaves, copies_left, clean_stays}
use Rattle.nm_copies.proofs.Quiet.{view_part}
use Rattle.nm_copies.proofs.Holders.{some_op}
use Rattle.nm_copies.proofs.Edits.{law_edited}
use Rattle.nm_copies.proofs.Copying.{known_op}
use Rattle.nm_copies.proofs.Memory.{value_apart}

-- an owned frame gets another fill
fill_edit : (a f : ℕ) (x : Fill) (w : Owned) (new : View) (views : ℕ → View) → new.owned ≡ edit owned_frame f (filled x) (views a).owned → find owned_frame f (views a).owned ≡ Some w → Sets (λ c j. fill_of (views c) j) (λ c j. fill_of (viewing a new views c) j) a f (Some x)
fill_edit a f x w new views is there =
    item_sets fill_of a f (Some x) new views
    (ap (λ ws. option_map (λ (y : Owned). y.fill) (find owned_frame f ws)) is
    ∙ ap (option_map (λ (y : Owned). y.fill)) (find_edit owned_frame f (filled x) (views a).owned (λ y. refl) ∙ ap (option_map (filled x)) there))
    (λ j other. ap (λ ws. option_map (λ (y : Owned). y.fill) (find owned_frame j ws)) is
    ∙ ap (option_map (λ (y : Owned). y.fill)) (find_edit_other owned_frame f (filled x) j (views a).owned (λ y. refl) (λ same. other (sym same))))

-- the frame that a permission names is owned
pub record OwnsFrame (view : View) (f : ℕ) (P : Fill → Type 0) : Type 0 where
  pub item : Owned
  pub there : find owned_frame f view.owned ≡ Some item
  pub may : P item.fill

owns_found : (view : View) (f : ℕ) (P : Fill → Type 0) (found : Option Owned) → find owned_frame f view.owned ≡ found → IsSomeAnd (option_map (λ (w : Owned). w.fill) found) P → OwnsFrame view f P
owns_found view f P None is h = absurd h
owns_found view f P (Some w) is h = record { item = w; there = is; may = h }

owns_frame : (view : View) (f : ℕ) (P : Fill → Type 0) → IsSomeAnd (fill_of view f) P → OwnsFrame view f P
owns_frame view f P h = owns_found view f P (find owned_frame f view.owned) refl h

-- one word of an owned frame is written, and the frame gets another fill; table words, homes and caches stay
pub record Fills (m after : Sight) (a f i x : ℕ) (was fill : Fill) : Type 0 where
  pub pte : (v : ℕ) → after.pte v ≡ m.pte v
  pub home : (b : ℕ) → after.home b ≡ m.home b
  pub entry : (c v : ℕ) → after.entry c v ≡ m.entry c v
  pub mem : Sets m.mem after.mem f i x
  pub fills : Sets m.fill after.fill a f (Some fill)
  pub owned : m.fill a f ≡ Some was

-- the frames of all other fills are other frames
others_apart : (m after : Sight) (a f i x : ℕ) (was fill : Fill) → Fills m after a f i x was fill → HasRoles m → (c h : ℕ) (y : Fill) → (c ≢ a) ⊎ (h ≢ f) → m.fill c h ≡ Some y → h ≢ f
others_apart m after a f i x was fill s roles c h y apart is =
    elim apart [
      | inl actor ↦ λ same. actor (roles.owner a c f was y s.owned (subst (λ (k : ℕ). m.fill c k ≡ Some y) same is))
      | inr frame ↦ frame
    ]

-- the words of all other fills stay
others_kept : (m after : Sight) (a f i x : ℕ) (was fill : Fill) → Fills m after a f i x was fill → HasRoles m → (c h : ℕ) (y : Fill) → (c ≢ a) ⊎ (h ≢ f) → m.fill c h ≡ Some y → (j : ℕ) → after.mem h j ≡ m.mem h j
others_kept m after a f i x was fill s roles c h y apart is j = s.mem.others h j (others_apart m after a f i x was fill s roles c h y apart is)

-- every page has its words, as an owned frame is no home
value_kept : (m after : Sight) (a f i x b j : ℕ) (was fill : Fill) → Fills m after a f i x was fill → HasRoles m → page_value after.home after.mem b j ≡ page_value m.home m.mem b j
value_kept m after a f i x b j was fill s roles =
    let home : page_value after.home after.mem b j ≡ page_value m.home after.mem b j = rw (s.home b) refl in
    home ∙ value_apart m.home m.mem after.mem b f j (roles.owned a b f was s.owned) (λ h k other. s.mem.others h k other)

-- what a fill that tells of another page than the new fill says was said before, of words that stay
fill_before : (m after : Sight) (a f i x : ℕ) (was fill : Fill) → Fills m after a f i x was fill → (c h b : ℕ) (y : Fill) → after.fill c h ≡ Some y → fill_page fill ≢ Some b → fill_page y ≡ Some b → (m.fill c h ≡ Some y) × ((c ≢ a) ⊎ (h ≢ f))
fill_before m after a f i x was fill s c h b y is apart of =
    edited (λ c h y. fill_page y ≡ Some b → (m.fill c h ≡ Some y) × ((c ≢ a) ⊎ (h ≢ f))) m.fill after.fill a f fill s.fills
    (λ own. absurd (apart own)) (λ c h y other there of. (there, other)) c h y is of

fills_leave : (g : Geometry) (m after : Sight) (a f i x c b : ℕ) (was fill : Fill) → Fills m after a f i x was fill → HasRoles m → fill_page fill ≢ Some b → Leaves g (copy_sight m) (copy_sight after) c b
fills_leave g m after a f i x c b was fill s roles apart =
    let entry : (c v : ℕ) (e : CacheEntry) → after.entry c v ≡ Some e → m.entry c v ≡ Some e = λ c v e is. sym (s.entry c v) ∙ is in
    record {
      fill = λ h y is of. (fill_before m after a f i x was fill s c h b y is apart of).0;
      words = λ h j y is of. let before = fill_before m after a f i x was fill s c h b y is apart of in others_kept m after a f i x was fill s roles c h y before.1 before.0 j;
      value = λ j. value_kept m after a f i x b j was fill s roles;
      undirtied = λ h v of. rw (sym (s.pte v)) (h v of);
      cached = λ u. clean_stays g (copy_sight m) (copy_sight after) b entry;
      out = λ h v of. s.pte v ∙ h v of;
      out_clean = λ u. clean_stays g (copy_sight m) (copy_sight after) b entry;
      twin = λ h v of. rw (s.pte v) (h v of);
      twin_clean = λ u. clean_stays g (copy_sight m) (copy_sight after) b entry;
    }

-- the words of frames that are Zeroed so far, where the new fill's are
zeroed_after : (m after : Sight) (a f i x : ℕ) (was fill : Fill) → Fills m after a f i x was fill → HasRoles m → ((a f n : ℕ) → m.fill a f ≡ Some (Zeroed n) → (j : ℕ) → j < n → m.mem f j ≡ 0) → ((n : ℕ) → fill ≡ Zeroed n → (j : ℕ) → j < n → after.mem f j ≡ 0) → (c h n : ℕ) → after.fill c h ≡ Some (Zeroed n) → (j : ℕ) → j < n → after.mem h j ≡ 0
zeroed_after m after a f i x was fill s roles zeroed own c h n is j lt =
    edited (λ c h y. (n : ℕ) → y ≡ Zeroed n → (j : ℕ) → j < n → after.mem h j ≡ 0) m.fill after.fill a f fill s.fills own
    (λ c h y apart there n same j lt. others_kept m after a f i x was fill s roles c h y apart there j ∙ zeroed c h n (there ∙ ap Some same) j lt)
    c h (Zeroed n) is n refl j lt

-- A 0 is written.

-- the first words of the frame were 0
zeroed_first : (m : Sight) (a f i j : ℕ) (was : Fill) → m.fill a f ≡ Some was → IsZeroedTo i was → ((n : ℕ) → m.fill a f ≡ Some (Zeroed n) → (j : ℕ) → j < n → m.mem f j ≡ 0) → j < i → m.mem f j ≡ 0
zeroed_first m a f i j Raw is may zeroed lt = absurd (omega (arith, may, lt))
zeroed_first m a f i j (Zeroed n) is may zeroed lt = zeroed n is j (omega (arith, may, lt))
zeroed_first m a f i j (Copied b n) is may zeroed lt = absurd may
zeroed_first m a f i j (Equal b) is may zeroed lt = absurd may

same_count : (n k : ℕ) → Zeroed n ≡ Zeroed k → n ≡ k
same_count n k is = cc

law_zeroed : (g : Geometry) (m after : Sight) (a f i x : ℕ) (was : Fill) → Fills m after a f i x was (Zeroed (i + 1)) → ((c b : ℕ) → after.op c b ≡ m.op c b) → HasRoles m → IsZeroedTo i was → x ≡ 0 → CopyLaw g m → CopyLaw g after
law_zeroed g m after a f i x was s op roles may zero h = record {
  zeroed = zeroed_after m after a f i x was (Zeroed (i + 1)) s roles h.zeroed
      (λ n same j lt. elim (cases_eq j i) [
        | inl last ↦ ap (after.mem f) last ∙ s.mem.here ∙ zero
        | inr other ↦ s.mem.rest j other ∙ zeroed_first m a f i j was s.owned may (h.zeroed a f) (let count : i + 1 ≡ n = same_count (i + 1) n same in omega (arith, lt, count, other))
      ]);
  has_op = λ c k b y is of. rw (op c b) (h.has_op c k b y (fill_before m after a f i x was (Zeroed (i + 1)) s c k b y is (not_none b) of).0 of);
  ops = λ c b o is. copies_left g (copy_sight m) (copy_sight after) c b (copier_of g o) (fills_leave g m after a f i x c b was (Zeroed (i + 1)) s roles (not_none b)) (h.ops c b o (sym (op c b) ∙ is));
}

-- The loaded word is written.

-- the first words of the frame were copied
copied_first : (g : Geometry) (m : Sight) (a b f i j : ℕ) (was : Fill) (o : Copier) → m.fill a f ≡ Some was → IsCopiedTo b i was → OpCopies g (copy_sight m) a b o → IsUnspoilt g m.pte b o.naming o.taken → IsIndex g j → j < i → m.mem f j ≡ page_value m.home m.mem b j
copied_first g m a b f i j Raw o is may h u index lt = absurd (omega (arith, may, lt))
copied_first g m a b f i j (Zeroed n) o is may h u index lt = absurd may
copied_first g m a b f i j (Copied c n) o is may h u index lt = h.copied f n (is ∙ ap (λ k. Some (Copied k n)) may.page_is) u j index (omega (arith, may.count_is, lt))
copied_first g m a b f i j (Equal c) o is may h u index lt = absurd may

same_copy : (b c n k : ℕ) → Copied b n ≡ Copied c k → n ≡ k
same_copy b c n k is = cc

no_zeroed : (b n k : ℕ) → Copied b n ≡ Zeroed k → ⊥
no_zeroed b n k is = cc

equal_copied : (b c n : ℕ) → Some (Copied b n) ≡ Some (Equal c) → ⊥
equal_copied b c n is = cc

-- the operation whose word was written has one word more copied, and none loaded
stored_own : (g : Geometry) (m after : Sight) (a b f i x : ℕ) (was : Fill) (o : Op) → Fills m after a f i x was (Copied b (i + 1)) → HasRoles m → IsCopiedTo b i was → IsLoaded i x o → IsIndex g i → OpCopies g (copy_sight m) a b (copier_of g o) → OpCopies g (copy_sight after) a b (copier_of g (copied_one o))
stored_own g m after a b f i x was o s roles may loaded index h =
    let fill : Fill = Copied b (i + 1) in
    let has : HasCopies m.fill a b o.last = inl (rw loaded.last cc) in
    let value : (j : ℕ) → page_value after.home after.mem b j ≡ page_value m.home m.mem b j = λ j. value_kept m after a f i x b j was fill s roles in
    let before : IsUnspoilt g after.pte b (copier_of g o).naming o.taken → IsUnspoilt g m.pte b (copier_of g o).naming o.taken = λ u. record { table = λ n v of. rw (sym (s.pte v)) (u.table n v of); taken = u.taken } in
    let at : (j : ℕ) → j ≡ i → IsUnspoilt g m.pte b (copier_of g o).naming o.taken → x ≡ page_value m.home m.mem b j = λ j same u. (
    let next : o.copied ≡ j = sym (same ∙ loaded.next) in
    let range : IsIndex g o.copied = subst (IsIndex g) loaded.next index in
    h.last x loaded.last range u ∙ ap (page_value m.home m.mem b) next) in
    let entry : (c v : ℕ) (e : CacheEntry) → after.entry c v ≡ Some e → m.entry c v ≡ Some e = λ c v e is. sym (s.entry c v) ∙ is in
    record {
      early = λ early. absurd (h.early early has);
      last = λ y is range u. absurd (not_none y is);
      copied = λ k n is u j range lt. elim (cases_eq k f) [
        | inl same ↦
            let count : i + 1 ≡ n = same_copy b b (i + 1) n (some_same fill (Copied b n) (sym s.fills.here ∙ subst (λ (y : ℕ). after.fill a y ≡ Some (Copied b n)) same is)) in
            ap (λ y. after.mem y j) same ∙ elim (cases_eq j i) [
              | inl last ↦ ap (after.mem f) last ∙ s.mem.here ∙ at j last (before u)
              | inr other ↦ s.mem.rest j other ∙ copied_first g m a b f i j was (copier_of g o) s.owned may h (before u) range (omega (arith, lt, count, other))
            ] ∙ sym (value j)
        | inr other ↦
            let was_so : m.fill a k ≡ Some (Copied b n) = sym (s.fills.rest k other) ∙ is in
            s.mem.others k j other ∙ h.copied k n was_so (before u) j range lt ∙ sym (value j)
      ];
      dirty = λ naming late u. clean_stays g (copy_sight m) (copy_sight after) b entry (h.dirty naming late (before u));
      out = λ unnamed _ v of. s.pte v ∙ h.out unnamed has v of;
      out_clean = λ unnamed _. clean_stays g (copy_sight m) (copy_sight after) b entry (h.out_clean unnamed has);
      equal = λ k is.
          let other : k ≢ f = λ same. equal_copied b b (i + 1) (sym s.fills.here ∙ subst (λ (y : ℕ). after.fill a y ≡ Some (Equal b)) same is) in
          let twin : IsTwin g (copy_sight m) b k = h.equal k (sym (s.fills.rest k other) ∙ is) in
          record {
            equal = λ j range. s.mem.others k j other ∙ twin.equal j range ∙ sym (value j);
            unwritable = λ v of. rw (s.pte v) (twin.unwritable v of);
            clean = clean_stays g (copy_sight m) (copy_sight after) b entry twin.clean;
          };
    }

law_copied : (g : Geometry) (m after : Sight) (a b f i x : ℕ) (was : Fill) (o : Op) → Fills m after a f i x was (Copied b (i + 1)) → Sets m.op after.op a b (Some (copied_one o)) → m.op a b ≡ Some o → HasHolders m.op → HasRoles m → IsCopiedTo b i was → IsLoaded i x o → IsIndex g i → CopyLaw g m → CopyLaw g after
law_copied g m after a b f i x was o s sets here holders roles may loaded index h =
    let fill : Fill = Copied b (i + 1) in
    law_edited g m after a b o (copied_one o) holders sets here
    (zeroed_after m after a f i x was fill s roles h.zeroed (λ n same. absurd (no_zeroed b (i + 1) n same)))
    (λ c k j y is of.
    edited (λ c k y. fill_page y ≡ Some j → IsSome (m.op c j)) m.fill after.fill a f fill s.fills
    (λ own. subst (λ (p : ℕ). IsSome (m.op a p)) (some_same b j own) (some_op (m.op a b) o here))
    (λ c k y apart there of. h.has_op c k j y there of) c k y is of)
    (stored_own g m after a b f i x was o s roles may loaded index (h.ops a b o here))
    (λ c j other. fills_leave g m after a f i x c j was fill s roles (λ same. other (sym (some_same b j same)))) h

pub copies-copy_store : (g : Geometry) (m : World) (a : ℕ) (b : Option ℕ) (f i x : ℕ) → HasHolders (sight_of g m).op → HasRoles (sight_of g m) → IsReady g m a (CopyStore b f i x) → CopyLaw g (sight_of g m) → CopyLaw g (sight_of g (moved g m a (CopyStore b f i x)))
copies-copy_store g m a None f i x holders roles r h =
    let new : View = after_of g (m.view a) (CopyStore None f i x) Done in
    let before : Sight = sight_of g m in
    let after : Sight = sight_at g (written (words.Mem f i) x m.word) (viewing a new m.view) in
    let frame = owns_frame (m.view a) f (IsZeroedTo i) r.allowed.permitted.fill in
    let s : Fills before after a f i x frame.item.fill (Zeroed (i + 1)) = record {
      pte = λ v. refl;
      home = λ b. refl;
      entry = λ c v. view_part (λ w. find cached_page v w.cache) a new m.view refl c;
      mem = mem_sets before.mem f i x;
      fills = fill_edit a f (Zeroed (i + 1)) frame.item new m.view refl frame.there;
      owned = ap (option_map (λ (w : Owned). w.fill)) frame.there;
    } in
    law_zeroed g before after a f i x frame.item.fill s (λ c b. view_part (λ w. op_on w b) a new m.view refl c) roles frame.may r.allowed.permitted.zero_is h
copies-copy_store g m a (Some b) f i x holders roles r h =
    let new : View = after_of g (m.view a) (CopyStore (Some b) f i x) Done in
    let before : Sight = sight_of g m in
    let after : Sight = sight_at g (written (words.Mem f i) x m.word) (viewing a new m.view) in
    let frame = owns_frame (m.view a) f (IsCopiedTo b i) r.allowed.permitted.fill in
    let on = known_op (IsLoaded i x) (op_on (m.view a) b) r.allowed.permitted.loaded in
    let s : Fills before after a f i x frame.item.fill (Copied b (i + 1)) = record {
      pte = λ v. refl;
      home = λ b. refl;
      entry = λ c v. view_part (λ w. find cached_page v w.cache) a new m.view refl c;
      mem = mem_sets before.mem f i x;
      fills = fill_edit a f (Copied b (i + 1)) frame.item new m.view refl frame.there;
      owned = ap (option_map (λ (w : Owned). w.fill)) frame.there;
    } in
    law_copied g before after a b f i x frame.item.fill on.0 s
    (edit_sets a b copied_one on.0 new m.view (λ o. refl) refl on.1.0) on.1.0 holders roles frame.may on.1.1 r.allowed.range.index h

-- A word of a frame is written: by stores through a dirty entry (Store, Add), and into an owned frame (CopyStore).
use Rattle.std.proofs.Common.{◌≡◌, ◌≢◌, ℕ, ◌+◌, ◌-◌, ◌%◌, ◌^◌, true, false, IsTrue, Option, Some, None, IsSomeAnd, refl, sym, ap, subst, ◌∙◌, inl, inr, arith}
use Rattle.std.proofs.lemmas.Bool.{cases_eq}
use Rattle.nm_base.specs.Geometry.{Geometry}
use Rattle.nm_base.specs.HomeWord.{home_word}
use Rattle.nm_action.specs.declared.action.Action.TheVariants.{Store, Add}
use Rattle.nm_words.specs.declared.names.Where.TheVariants as words
use Rattle.nm_step.specs.Table.{cached_frame, entry_frame}
use Rattle.nm_view.specs.declared.view.CacheEntry.{CacheEntry}
use Rattle.nm_view.specs.declared.view.Fill.{Fill}
use Rattle.nm_view.specs.declared.view.Fill.TheVariants.{Zeroed}
use Rattle.nm_view.specs.Lists.{find}
use Rattle.nm_view.specs.Views.{View}
use Rattle.nm_view.specs.Operations.{cached_page, fill_of, op_on}
use Rattle.nm_permit.specs.Permitted.{IsCachedDirty}
use Rattle.nm_world.specs.Worlds.{World, moved, viewing, written}
use Rattle.nm_world.specs.Parts.{Copier, copier_of}
use Rattle.nm_world.specs.Sights.{Sight, Sets, sight_of, sight_at}
use Rattle.nm_world.specs.Notions.{IsClean, page_value}
use Rattle.nm_world.specs.CopyLaw.{CopyLaw, CopySight, copy_sight, HasCopies, IsUnspoilt, OpCopies}
use Rattle.nm_world.specs.Laws.{IsReady}
use Rattle.nm_world.proofs.Writing.{mem_sets}
use Rattle.nm_copies.specs.Facts.{HasHomes, HasRoles}
use Rattle.nm_copies.proofs.Still.{Leaves, copies_left, clean_stays}
use Rattle.nm_copies.proofs.Quiet.{view_part, entries_before}
use Rattle.nm_copies.proofs.Flags.{cases_on}
use Rattle.nm_copies.proofs.Fills.{there}
use Rattle.nm_copies.proofs.Copying.{value_home}

-- a page whose home is not the frame that was written has its words
pub value_apart : (home : ℕ → ℕ) (mem after : ℕ → ℕ → ℕ) (b f i : ℕ) → home b ≢ home_word f → ((h j : ℕ) → h ≢ f → after h j ≡ mem h j) → page_value home after b i ≡ page_value home mem b i
value_apart home mem after b f i apart same =
    elim (cases_eq (home b) 0) [
      | inl zero ↦ rw zero refl
      | inr some ↦ value_home home after b i some ∙ same (home b - 1) i (λ is. apart (omega (arith, is, some))) ∙ sym (value_home home mem b i some)
    ]

-- A store through a dirty entry.

-- beside a dirty entry of a page nothing is said of its copies
broken : (g : Geometry) (k : CopySight) (a b : ℕ) (o : Copier) → ¬ IsClean g k.entry b → OpCopies g k a b o → HasCopies k.fill a b o.last → IsUnspoilt g k.pte b o.naming o.taken → ⊥
broken g k a b o spoilt h has u =
    cases_on (λ t. o.naming ≡ t → ⊥) o.naming
    (λ naming. λ _. cases_on (λ t. o.early ≡ t → ⊥) o.early (λ early. λ _. h.early early has) (λ late. λ _. spoilt (h.dirty naming late u)) refl)
    (λ unnamed. λ _. spoilt (h.out_clean unnamed has)) refl

-- what a store leaves: all but one word of one frame
pub record StoreLeaves (k after : CopySight) (f : ℕ) : Type 0 where
  pub pte : (v : ℕ) → after.pte v ≡ k.pte v
  pub home : (b : ℕ) → after.home b ≡ k.home b
  pub mem : (h j : ℕ) → h ≢ f → after.mem h j ≡ k.mem h j
  pub fill : (a f : ℕ) → after.fill a f ≡ k.fill a f
  pub entry : (a v : ℕ) (e : CacheEntry) → after.entry a v ≡ Some e → k.entry a v ≡ Some e

before_store : (k after : CopySight) (a b f : ℕ) (last : Option ℕ) → StoreLeaves k after f → HasCopies after.fill a b last → HasCopies k.fill a b last
before_store k after a b f last left (inl some) = inl some
before_store k after a b f last left (inr owns) = inr (record { frame = owns.frame; count = owns.count; is = sym (left.fill a owns.frame) ∙ owns.is })

broken_op : (g : Geometry) (k after : CopySight) (a b f : ℕ) (o : Copier) → StoreLeaves k after f → ¬ IsClean g k.entry b → OpCopies g k a b o → OpCopies g after a b o
broken_op g k after a b f o left spoilt h =
    let before : HasCopies after.fill a b o.last → HasCopies k.fill a b o.last = before_store k after a b f o.last left in
    let was : IsUnspoilt g after.pte b o.naming o.taken → IsUnspoilt g k.pte b o.naming o.taken = λ u. record { table = λ n v of. rw (sym (left.pte v)) (u.table n v of); taken = u.taken } in
    record {
      early = λ early has. h.early early (before has);
      last = λ x is index u. absurd (broken g k a b o spoilt h (inl (there o.last x is)) (was u));
      copied = λ f n is u i index lt. absurd (broken g k a b o spoilt h (before (inr (record { frame = f; count = n; is = is }))) (was u));
      dirty = λ naming late u. absurd (spoilt (h.dirty naming late (was u)));
      out = λ unnamed has. absurd (spoilt (h.out_clean unnamed (before has)));
      out_clean = λ unnamed has. absurd (spoilt (h.out_clean unnamed (before has)));
      equal = λ f is. absurd (spoilt (h.equal f (sym (left.fill a f) ∙ is)).clean);
    }

-- the copies of another page are left: its home, and the frames of its copies, are other frames
store_leaves : (g : Geometry) (m after : Sight) (a b f : ℕ) → StoreLeaves (copy_sight m) (copy_sight after) f → m.home b ≢ home_word f → ((c h : ℕ) (x : Fill) → m.fill c h ≡ Some x → h ≢ f) → Leaves g (copy_sight m) (copy_sight after) a b
store_leaves g m after a b f s apart owned = record {
  fill = λ h x is of. sym (s.fill a h) ∙ is;
  words = λ h i x is of. s.mem h i (owned a h x (sym (s.fill a h) ∙ is));
  value = λ i. let home : page_value after.home after.mem b i ≡ page_value m.home after.mem b i = rw (s.home b) refl in home ∙ value_apart m.home m.mem after.mem b f i apart s.mem;
  undirtied = λ h v of. rw (sym (s.pte v)) (h v of);
  cached = λ u. clean_stays g (copy_sight m) (copy_sight after) b s.entry;
  out = λ h v of. s.pte v ∙ h v of;
  out_clean = λ u. clean_stays g (copy_sight m) (copy_sight after) b s.entry;
  twin = λ h v of. rw (s.pte v) (h v of);
  twin_clean = λ u. clean_stays g (copy_sight m) (copy_sight after) b s.entry;
}

known_entry : (found : Option CacheEntry) → IsSomeAnd found (λ e. IsTrue e.dirty) → (e : CacheEntry) × ((found ≡ Some e) × (e.dirty ≡ true))
known_entry None h = absurd h
known_entry (Some e) h = (e, (refl, h))

dirty_entry : (view : View) (v : ℕ) → IsCachedDirty view v → (e : CacheEntry) × ((find cached_page v view.cache ≡ Some e) × (e.dirty ≡ true))
dirty_entry view v h = known_entry (find cached_page v view.cache) h

-- a word is written through a dirty entry
law_stored : (g : Geometry) (m : World) (a v i x : ℕ) → HasHomes g (sight_of g m) → HasRoles (sight_of g m) → IsCachedDirty (m.view a) v → CopyLaw g (sight_of g m) → CopyLaw g (sight_at g (written (words.Mem (cached_frame (m.view a) v) i) x m.word) (viewing a (m.view a) m.view))
law_stored g m a v i x homes roles cached h =
    let view : View = m.view a in
    let f : ℕ = cached_frame view v in
    let before : Sight = sight_of g m in
    let after : Sight = sight_at g (written (words.Mem f i) x m.word) (viewing a view m.view) in
    let k = copy_sight before in
    let kept = copy_sight after in
    let sets : Sets before.mem after.mem f i x = mem_sets before.mem f i x in
    let entry = dirty_entry view v cached in
    let page = homes.mapped a v entry.0 entry.1.0 in
    let leads : before.home page.0 ≡ home_word entry.0.frame = homes.homes a v page.0 entry.0 entry.1.0 page.1 in
    let frame : f ≡ entry.0.frame = ap entry_frame entry.1.0 in
    let home : before.home page.0 ≡ home_word f = leads ∙ ap home_word (sym frame) in
    let s : StoreLeaves k kept f = record {
      pte = λ u. refl;
      home = λ b. refl;
      mem = λ c j other. sets.others c j other;
      fill = λ c y. view_part (λ w. fill_of w y) a view m.view refl c;
      entry = entries_before a view m.view (λ u e is. is);
    } in
    let owned : (c y : ℕ) (z : Fill) → before.fill c y ≡ Some z → y ≢ f = λ c y z is same. roles.owned c page.0 y z is (home ∙ ap home_word (sym same)) in
    let spoilt : ¬ IsClean g k.entry page.0 = λ clean. (let off : entry.0.dirty ≡ false = clean a v entry.0 page.1 entry.1.0 in let both : true ≡ false = sym entry.1.1 ∙ off in cc) in
    let op : (c j : ℕ) → after.op c j ≡ before.op c j = λ c j. view_part (λ w. op_on w j) a view m.view refl c in
    record {
      zeroed = λ c y n is j lt. let was = sym (s.fill c y) ∙ is in s.mem y j (owned c y (Zeroed n) was) ∙ h.zeroed c y n was j lt;
      has_op = λ c y j z is of. rw (op c j) (h.has_op c y j z (sym (s.fill c y) ∙ is) of);
      ops = λ c j o is.
          let own = h.ops c j o (sym (op c j) ∙ is) in
          elim (cases_eq j page.0) [
            | inl same ↦ broken_op g k kept c j f (copier_of g o) s (λ clean. spoilt (subst (λ (b : ℕ). IsClean g k.entry b) same clean)) own
            | inr other ↦ copies_left g k kept c j (copier_of g o) (store_leaves g before after c j f s (λ is. other (roles.one_page j page.0 f is home)) owned) own
          ];
    }

pub copies-store : (g : Geometry) (m : World) (a v i x : ℕ) → HasHomes g (sight_of g m) → HasRoles (sight_of g m) → IsReady g m a (Store v i x) → CopyLaw g (sight_of g m) → CopyLaw g (sight_of g (moved g m a (Store v i x)))
copies-store g m a v i x homes roles r h = law_stored g m a v i x homes roles r.allowed.permitted.cached h

pub copies-add : (g : Geometry) (m : World) (a v i x : ℕ) → HasHomes g (sight_of g m) → HasRoles (sight_of g m) → IsReady g m a (Add v i x) → CopyLaw g (sight_of g m) → CopyLaw g (sight_of g (moved g m a (Add v i x)))
copies-add g m a v i x homes roles r h = law_stored g m a v i ((m.word (words.Mem (cached_frame (m.view a) v) i) + x) % 2 ^ 64) homes roles r.allowed.permitted.cached h

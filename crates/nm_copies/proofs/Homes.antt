-- SetHome: the page gets another home with the same words, and the old one is its twin.
use Rattle.std.proofs.Common.{◌≡◌, ◌≢◌, ℕ, ◌-◌, ◌==◌, ◌⊎◌, if◌then◌else◌, Bool, true, false, List, [], ◌∷◌, All, Option, Some, None, IsSome, refl, sym, ap, subst, ◌∙◌, inl, inr, arith}
use Rattle.std.specs.Prelude.{option_map}
use Rattle.std.proofs.lemmas.Bool.{cases_eq}
use Rattle.nm_base.specs.Geometry.{Geometry, backing_page}
use Rattle.nm_base.specs.HomeWord.{home_word}
use Rattle.nm_base.specs.PageWord.{is_dirty, is_writable}
use Rattle.nm_base.specs.Ranges.{IsIndex}
use Rattle.nm_view.specs.declared.view.CacheEntry.{CacheEntry}
use Rattle.nm_view.specs.declared.view.Fill.{Fill}
use Rattle.nm_view.specs.declared.view.Fill.TheVariants.{Zeroed, Copied, Equal}
use Rattle.nm_view.specs.declared.view.Owned.{Owned}
use Rattle.nm_view.specs.declared.view.Phase.{Phase}
use Rattle.nm_view.specs.declared.view.Phase.TheVariants.{Held, Cleared, Taken}
use Rattle.nm_view.specs.Lists.{find, first, erase, Once}
use Rattle.nm_view.specs.Views.{Op}
use Rattle.nm_view.specs.Operations.{owned_frame, names_one, IsTaken}
use Rattle.nm_view.proofs.Finds.{find_erase, find_erase_other, find_put, find_put_other, find_number}
use Rattle.nm_view.proofs.Items.{not_none, some_same, all_find, all_head}
use Rattle.nm_permit.specs.Permitted.{IsHomeDemanded, IsHomeCommitted, IsHomeMoved}
use Rattle.nm_event.specs.After.{homed_at, let_go, owning}
use Rattle.nm_event.specs.Fitting.{Agrees}
use Rattle.nm_world.specs.Worlds.{moved}
use Rattle.nm_world.specs.Parts.{copier_of}
use Rattle.nm_world.specs.Sights.{Sight, Sets, WritesOne}
use Rattle.nm_world.specs.Notions.{IsClean, IsOut, page_value, fill_page}
use Rattle.nm_world.specs.CopyLaw.{CopyLaw, copy_sight, HasCopies, IsUnspoilt, OpCopies}
use Rattle.nm_world.proofs.Choose.{choose}
use Rattle.nm_copies.specs.Facts.{HasHolders, HasNamed, HasMapped, HasHomes, HasStanding, IsInformed}
use Rattle.nm_copies.proofs.Still.{Leaves, clean_stays}
use Rattle.nm_copies.proofs.Flags.{cases_on}
use Rattle.nm_copies.proofs.Holders.{some_op}
use Rattle.nm_copies.proofs.Edits.{law_edited}
use Rattle.nm_copies.proofs.Copying.{value_home}
use Rattle.nm_copies.proofs.Emptied.{some_item, if_at, emptied, standing_some, uncached}

-- The fills after a SetHome.

abbrev pub fill_in : List Owned → ℕ → Option Fill
fill_in owned f = option_map (λ (w : Owned). w.fill) (find owned_frame f owned)

-- a frame is the old home of page b, and Equal of it
pub record IsLetGo (b : ℕ) (home : Option ℕ) (f : ℕ) (x : Fill) : Type 0 where
  pub word : ℕ
  pub known : home ≡ Some word
  pub some : word ≢ 0
  pub frame : f ≡ word - 1
  pub is : x ≡ Equal b

put_from : (b word f : ℕ) (x : Fill) (owned : List Owned) → word ≢ 0 → fill_in (owning (word - 1) (Equal b) owned) f ≡ Some x → (fill_in owned f ≡ Some x) ⊎ IsLetGo b (Some word) f x
put_from b word f x owned some is =
    let item : Owned = record { frame = word - 1; fill = Equal b } in
    elim (cases_eq f (word - 1)) [
      | inl same ↦
          let here : fill_in (owning (word - 1) (Equal b) owned) f ≡ Some (Equal b) = rw same (ap (option_map (λ (w : Owned). w.fill)) (find_put owned_frame item owned)) in
          inr (record { word = word; known = refl; some = some; frame = same; is = some_same x (Equal b) (sym is ∙ here) })
      | inr other ↦ inl (sym (ap (option_map (λ (w : Owned). w.fill)) (find_put_other owned_frame item f owned (λ s. other (sym s)))) ∙ is)
    ]

pub let_go_from : (b f : ℕ) (x : Fill) (home : Option ℕ) (owned : List Owned) → fill_in (let_go b home owned) f ≡ Some x → (fill_in owned f ≡ Some x) ⊎ IsLetGo b home f x
let_go_from b f x None owned is = inl is
let_go_from b f x (Some word) owned is =
    choose (λ (ws : List Owned). fill_in ws f ≡ Some x → (fill_in owned f ≡ Some x) ⊎ IsLetGo b (Some word) f x) word 0 owned (owning (word - 1) (Equal b) owned)
    (λ zero is. inl is) (λ some is. put_from b word f x owned some is) is

pub erased_from : (f h : ℕ) (x : Fill) (owned : List Owned) → Once owned_frame owned → fill_in (erase owned_frame h owned) f ≡ Some x → fill_in owned f ≡ Some x
erased_from f h x owned once is =
    elim (cases_eq f h) [
      | inl same ↦
          let none : fill_in (erase owned_frame h owned) f ≡ None = rw same (ap (option_map (λ (w : Owned). w.fill)) (find_erase owned_frame h owned once)) in
          absurd (not_none x (sym none ∙ is))
      | inr other ↦ sym (ap (option_map (λ (w : Owned). w.fill)) (find_erase_other owned_frame h f owned (λ s. other (sym s)))) ∙ is
    ]

-- a fill after a SetHome of page b: it was there before, or is that of the old home
abbrev pub FillsOrOld : Sight → Sight → ℕ → ℕ → Type 0
FillsOrOld m after a b = (c f : ℕ) (x : Fill) → after.fill c f ≡ Some x → (m.fill c f ≡ Some x) ⊎ ((c ≡ a) × IsLetGo b (Some (m.home b)) f x)

-- That a new home is ready.

-- the page is out of the table and has no dirty entry, and the frame has its words; the copies that were made are true
pub record IsReadyHome (g : Geometry) (m : Sight) (b f : ℕ) (o : Op) : Type 0 where
  pub out : IsOut g m.pte b
  pub clean : IsClean g m.entry b
  pub same : (i : ℕ) → IsIndex g i → m.mem f i ≡ page_value m.home m.mem b i
  pub taken : names_one o.phase o.cleared o.moved ≡ true → names_one o.phase o.cleared true ≡ false → All (λ p. is_dirty p.1 ≡ false) o.taken

-- a page without a home has neither words nor entries
homeless_out : (g : Geometry) (m : Sight) (b : ℕ) → m.home b ≡ 0 → HasMapped g m → IsOut g m.pte b
homeless_out g m b none mapped v of = elim (cases_eq (m.pte v) 0) [ inl zero ↦ zero | inr some ↦ absurd (mapped.words v b of some none) ]

homeless_clean : (g : Geometry) (m : Sight) (b : ℕ) → m.home b ≡ 0 → HasHomes g m → IsClean g m.entry b
homeless_clean g m b none homes c v e of is = absurd (omega (arith, none, homes.homes c v b e is of))

-- nor does its operation name a virtual page, except in phase Cleared
unnamed_phase : (phase : Phase) (cleared moved : Bool) → (phase ≡ Held → cleared ≡ false) → names_one phase cleared moved ≡ true → names_one phase cleared true ≡ false → (phase ≡ Taken) × ((cleared ≡ true) × (moved ≡ false))
unnamed_phase Held true moved held naming after = absurd (let both : true ≡ false = held refl in cc)
unnamed_phase Held false moved held naming after = absurd (let both : false ≡ true = naming in cc)
unnamed_phase Cleared cleared moved held naming after = absurd (let both : true ≡ false = after in cc)
unnamed_phase Taken true true held naming after = absurd (let both : false ≡ true = naming in cc)
unnamed_phase Taken true false held naming after = (refl, (refl, refl))
unnamed_phase Taken false moved held naming after = absurd (let both : false ≡ true = naming in cc)

pub ready_demanded : (g : Geometry) (m : Sight) (a b f : ℕ) (o : Op) (x : Fill) → m.op a b ≡ Some o → m.fill a f ≡ Some x → IsHomeDemanded g o x → IsInformed g m b o → HasMapped g m → HasHomes g m → (o.phase ≡ Held → o.cleared ≡ false) → (o.cleared ≡ true → o.phase ≡ Taken → o.taken ≢ []) → CopyLaw g m → IsReadyHome g m b f o
ready_demanded g m a b f o x here owned may informed mapped homes held some h =
    let none : m.home b ≡ 0 = sym (informed.home 0 may.home) in
    let zero : (i : ℕ) → page_value m.home m.mem b i ≡ 0 = λ i. rw none refl in
    record {
      out = homeless_out g m b none mapped;
      clean = homeless_clean g m b none homes;
      same = λ i index. h.zeroed a f g.words (owned ∙ ap Some may.filled) i index ∙ sym (zero i);
      taken = λ naming after.
          let told = unnamed_phase o.phase o.cleared o.moved held naming after in
          absurd (mapped.taken a b o here told.1.1 (some told.1.0 told.0) none);
    }

unspoilt_unnamed : (g : Geometry) (pte : ℕ → ℕ) (b : ℕ) (naming : Bool) (taken : List (ℕ × ℕ)) → naming ≡ false → IsUnspoilt g pte b naming taken
unspoilt_unnamed g pte b naming taken off = record { table = λ on. absurd (let both : true ≡ false = sym on ∙ off in cc); taken = λ on. absurd (let both : true ≡ false = sym on ∙ off in cc) }

taken_unnamed : (phase : Phase) (cleared moved : Bool) → phase ≡ Taken → cleared ≡ false → names_one phase cleared moved ≡ false
taken_unnamed phase cleared moved is off = rw (is, off) refl

pub ready_moved : (g : Geometry) (m : Sight) (a b f : ℕ) (o : Op) (x : Fill) → m.op a b ≡ Some o → m.fill a f ≡ Some x → IsHomeMoved g o x → IsInformed g m b o → HasStanding g m → CopyLaw g m → IsReadyHome g m b f o
ready_moved g m a b f o x here owned may informed standing h =
    let own = h.ops a b o here in
    let unnamed : names_one o.phase o.cleared o.moved ≡ false = taken_unnamed o.phase o.cleared o.moved may.unmapped.phase.taken may.unmapped.phase.uncleared in
    record {
      out = emptied g m b o may.unmapped informed;
      clean = uncached g m a b o here may.unmapped informed standing;
      same = λ i index. elim may.filled [
        | inl copied ↦ own.copied f g.words (owned ∙ ap Some copied ∙ ap (λ p. Some (Copied p g.words)) informed.page) (unspoilt_unnamed g m.pte b (names_one o.phase o.cleared o.moved) o.taken unnamed) i index index
        | inr equal ↦ (own.equal f (owned ∙ ap Some equal ∙ ap (λ p. Some (Equal p)) informed.page)).equal i index
      ];
      taken = λ naming after. absurd (let both : true ≡ false = sym naming ∙ unnamed in cc);
    }

found_first : (p : ℕ × ℕ) (rest : Option (ℕ × ℕ)) (v : ℕ) → p.0 ≡ v → IsSome (if p.0 == v then Some p else rest)
found_first p rest v here = choose (λ (o : Option (ℕ × ℕ)). IsSome o) p.0 v (Some p) rest (λ _. cc) (λ other. absurd (other here))

-- where one virtual page alone was looked at as not 0 or taken, and something is taken, it is this one
first_taken : (taken : List (ℕ × ℕ)) (v : ℕ) → taken ≢ [] → All (λ p. p.0 ≡ v) taken → IsTaken taken v
first_taken [] v some all = absurd (some refl)
first_taken (p ∷ ps) v some all = let here : p.0 ≡ v = all_head (λ q. q.0 ≡ v) p ps all in found_first p (find first v ps) v here

-- each word of the page is 0: of the one that was taken, and of the others, which were looked at as 0
named_word : (g : Geometry) (m : Sight) (b u v : ℕ) (o : Op) (p : ℕ × ℕ) (found : Option (ℕ × ℕ)) → find first u o.taken ≡ found → IsInformed g m b o → backing_page g u ≡ Some b → find first u o.looked ≡ Some p → IsTaken o.taken v → (p.1 ≢ 0 → p.0 ≡ v) → m.pte u ≡ 0
named_word g m b u v o p (Some q) is informed of looked taken only = informed.taken u of (rw is cc)
named_word g m b u v o p None is informed of looked taken only =
    let agrees : Agrees p.1 (m.pte u) = if_at (find first u o.looked) p (λ q. Agrees q.1 (m.pte u)) looked (informed.looked u of is) in
    elim (cases_eq p.1 0) [
      | inl zero ↦ agrees.absent.0 zero
      | inr some ↦
          let here : u ≡ v = sym (find_number first u o.looked p looked) ∙ only some in
          let q = some_item (find first v o.taken) taken in
          absurd (not_none q.0 (sym is ∙ ap (λ n. find first n o.taken) here ∙ q.1))
    ]

named_out : (g : Geometry) (m : Sight) (a b : ℕ) (o : Op) → m.op a b ≡ Some o → names_one o.phase o.cleared o.moved ≡ true → o.taken ≢ [] → IsInformed g m b o → HasNamed g m.op → IsOut g m.pte b
named_out g m a b o here naming some informed named u of =
    let one = named.alone a b o here naming in
    let taken : IsTaken o.taken one.0 = first_taken o.taken one.0 some one.1.takes in
    let p = some_item (find first u o.looked) (named.over a b o here naming u (of ∙ ap Some (sym informed.page))) in
    named_word g m b u one.0 o p.0 (find first u o.taken) refl informed of p.1 taken (all_find first u (λ q. q.1 ≢ 0 → q.0 ≡ one.0) o.looked p.0 one.1.looks p.1)

pub ready_committed : (g : Geometry) (m : Sight) (a b f : ℕ) (o : Op) (x : Fill) → m.op a b ≡ Some o → m.fill a f ≡ Some x → IsHomeCommitted g o x → IsInformed g m b o → HasNamed g m.op → HasStanding g m → CopyLaw g m → IsReadyHome g m b f o
ready_committed g m a b f o x here owned may informed named standing h =
    let own = h.ops a b o here in
    let filled : m.fill a f ≡ Some (Copied b g.words) = owned ∙ ap Some may.filled ∙ ap (λ p. Some (Copied p g.words)) informed.page in
    let has : HasCopies m.fill a b o.last = inr (record { frame = f; count = g.words; is = filled }) in
    let out : IsOut g m.pte b =
    cases_on (λ t. names_one o.phase o.cleared o.moved ≡ t → IsOut g m.pte b) (names_one o.phase o.cleared o.moved)
    (λ naming. λ _. named_out g m a b o here naming may.clean.some informed named) (λ unnamed. λ _. own.out unnamed has) refl in
    record {
      out = out;
      clean = λ c v e of is. absurd (standing_some (m.pte v) e (standing.stands a b o here may.flushed c v e of is) (out v of));
      same = λ i index. own.copied f g.words filled (record { table = λ _ v of. ap is_dirty (out v of); taken = λ _. may.clean.clean }) i index index;
      taken = λ naming after. may.clean.clean;
    }

-- The law after it.

copied_equal : (b n : ℕ) → Copied b n ≡ Equal b → ⊥
copied_equal b n is = cc

zeroed_equal : (b n : ℕ) → Zeroed n ≡ Equal b → ⊥
zeroed_equal b n is = cc

-- the old home has the words that the page had
old_home : (m : Sight) (b k i : ℕ) → IsLetGo b (Some (m.home b)) k (Equal b) → m.mem k i ≡ page_value m.home m.mem b i
old_home m b k i old =
    let word : m.home b ≡ old.word = some_same (m.home b) old.word old.known in
    let frame : k ≡ m.home b - 1 = omega (arith, word, old.frame) in
    ap (λ n. m.mem n i) frame ∙ sym (value_home m.home m.mem b i (λ none. old.some (sym word ∙ none)))

home_own : (g : Geometry) (m after : Sight) (a b f : ℕ) (o : Op) → WritesOne m.home after.home b (home_word f) → ((v : ℕ) → after.pte v ≡ m.pte v) → ((h i : ℕ) → after.mem h i ≡ m.mem h i) → ((c v : ℕ) (e : CacheEntry) → after.entry c v ≡ Some e → m.entry c v ≡ Some e) → FillsOrOld m after a b → IsReadyHome g m b f o → OpCopies g (copy_sight m) a b (copier_of g o) → OpCopies g (copy_sight after) a b (copier_of g (homed_at f o))
home_own g m after a b f o writes pte mem entry fills ready h =
    let value : (i : ℕ) → IsIndex g i → page_value after.home after.mem b i ≡ page_value m.home m.mem b i = λ i index.
    value_home after.home after.mem b i (λ none. (omega (arith, none, writes.here))) ∙ mem (after.home b - 1) i
    ∙ ap (λ n. m.mem n i) (let frame : after.home b - 1 ≡ f = omega (arith, writes.here) in frame) ∙ ready.same i index in
    let copy : (k n : ℕ) → after.fill a k ≡ Some (Copied b n) → m.fill a k ≡ Some (Copied b n) = λ k n is. elim (fills a k (Copied b n) is) [
      | inl was ↦ was
      | inr old ↦ absurd (copied_equal b n old.1.is)
    ] in
    let has : HasCopies after.fill a b o.last → HasCopies m.fill a b o.last = λ copies. elim copies [
      | inl some ↦ inl some
      | inr owns ↦ inr (record { frame = owns.frame; count = owns.count; is = copy owns.frame owns.count owns.is })
    ] in
    let out : IsOut g after.pte b = λ v of. pte v ∙ ready.out v of in
    let clean : IsClean g after.entry b = clean_stays g (copy_sight m) (copy_sight after) b entry ready.clean in
    let before : IsUnspoilt g after.pte b (names_one o.phase o.cleared true) o.taken → IsUnspoilt g m.pte b (names_one o.phase o.cleared o.moved) o.taken = λ u. record {
      table = λ naming v of. ap is_dirty (ready.out v of);
      taken = λ naming. cases_on (λ t. names_one o.phase o.cleared true ≡ t → All (λ p. is_dirty p.1 ≡ false) o.taken) (names_one o.phase o.cleared true) (λ on. λ _. u.taken on) (λ off. λ _. ready.taken naming off) refl;
    } in
    record {
      early = λ early copies. h.early early (has copies);
      last = λ x is index u. h.last x is index (before u) ∙ sym (value o.copied index);
      copied = λ k n is u i index lt. mem k i ∙ h.copied k n (copy k n is) (before u) i index lt ∙ sym (value i index);
      dirty = λ naming late u. clean;
      out = λ unnamed copies. out;
      out_clean = λ unnamed copies. clean;
      equal = λ k is. record {
        equal = λ i index. mem k i ∙ elim (fills a k (Equal b) is) [
          | inl was ↦ (h.equal k was).equal i index
          | inr old ↦ old_home m b k i old.1
        ] ∙ sym (value i index);
        unwritable = λ v of. ap is_writable (out v of);
        clean = clean;
      };
    }

-- what of another page is left
home_leaves : (g : Geometry) (m after : Sight) (a b f c j : ℕ) → j ≢ b → WritesOne m.home after.home b (home_word f) → ((v : ℕ) → after.pte v ≡ m.pte v) → ((h i : ℕ) → after.mem h i ≡ m.mem h i) → ((c v : ℕ) (e : CacheEntry) → after.entry c v ≡ Some e → m.entry c v ≡ Some e) → FillsOrOld m after a b → Leaves g (copy_sight m) (copy_sight after) c j
home_leaves g m after a b f c j other writes pte mem entry fills = record {
  fill = λ h x is of. elim (fills c h x is) [ inl was ↦ was | inr old ↦ absurd (other (some_same j b (sym of ∙ ap fill_page old.1.is))) ];
  words = λ h i x is of. mem h i;
  value = λ i. (let same : after.home j ≡ m.home j = writes.rest j other in rw (same, mem (m.home j - 1) i) refl);
  undirtied = λ h v of. rw (sym (pte v)) (h v of);
  cached = λ u. clean_stays g (copy_sight m) (copy_sight after) j entry;
  out = λ h v of. pte v ∙ h v of;
  out_clean = λ u. clean_stays g (copy_sight m) (copy_sight after) j entry;
  twin = λ h v of. rw (pte v) (h v of);
  twin_clean = λ u. clean_stays g (copy_sight m) (copy_sight after) j entry;
}

pub law_homed : (g : Geometry) (m after : Sight) (a b f : ℕ) (o : Op) → HasHolders m.op → Sets m.op after.op a b (Some (homed_at f o)) → m.op a b ≡ Some o → WritesOne m.home after.home b (home_word f) → ((v : ℕ) → after.pte v ≡ m.pte v) → ((h i : ℕ) → after.mem h i ≡ m.mem h i) → ((c v : ℕ) (e : CacheEntry) → after.entry c v ≡ Some e → m.entry c v ≡ Some e) → FillsOrOld m after a b → IsReadyHome g m b f o → CopyLaw g m → CopyLaw g after
law_homed g m after a b f o holders sets here writes pte mem entry fills ready h =
    law_edited g m after a b o (homed_at f o) holders sets here
    (λ c k n is i lt. mem k i ∙ elim (fills c k (Zeroed n) is) [ inl was ↦ h.zeroed c k n was i lt | inr old ↦ absurd (zeroed_equal b n old.1.is) ])
    (λ c k j x is of. elim (fills c k x is) [
      | inl was ↦ h.has_op c k j x was of
      | inr old ↦
          let page : b ≡ j = some_same b j (sym (ap fill_page old.1.is) ∙ of) in
          subst (λ (n : ℕ). IsSome (m.op n j)) (sym old.0) (subst (λ (n : ℕ). IsSome (m.op a n)) page (some_op (m.op a b) o here))
    ])
    (home_own g m after a b f o writes pte mem entry fills ready (h.ops a b o here))
    (λ c j other. home_leaves g m after a b f c j other writes pte mem entry fills) h

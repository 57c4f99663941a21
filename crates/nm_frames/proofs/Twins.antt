-- The kinds that touch what the shadow law reads.
use Rattle.std.proofs.Common.{◌≡◌, ◌≢◌, ℕ, ◌+◌, ◌-◌, ◌^◌, ◌<◌, ◌%◌, ◌==◌, ◌&&◌, ◌||◌, if◌then◌else◌, Bool, false, IsTrue, List, [], ◌∷◌, Option, Some, None, IsSome, IsSomeAnd, length, refl, sym, ap, subst, ◌∙◌, inl, inr, arith, take_all}
use Rattle.std.specs.Prelude.{sum}
use Rattle.std.specs.List.{filter}
use Rattle.std.proofs.lemmas.Bool.{cases_eq, eqb-true}
use Rattle.std.specs.Int.{bit_at}
use Rattle.nm_base.specs.Geometry.{Geometry, IsGeometry, tier_of, frame_count, first_frame, backing_page}
use Rattle.nm_base.specs.HomeWord.{home_word}
use Rattle.nm_base.specs.PageWord.{is_writable, is_dirty, frame_of, walked_word}
use Rattle.nm_base.specs.Ranges.{IsFrame}
use Rattle.nm_base.specs.ShadowWord.{shadow_word}
use Rattle.nm_base.proofs.ShadowWords.{shadow_frame-NamesShadow}
use Rattle.nm_base.proofs.Tiers.{tier_of-IsInTier, IsInTier-tier_of}
use Rattle.nm_action.specs.declared.action.AckTo.{AckTo}
use Rattle.nm_action.specs.declared.action.AckTo.TheVariants.{Seen, Off, End}
use Rattle.nm_action.specs.declared.action.Reply.TheVariants.{Done, Lost}
use Rattle.nm_action.specs.declared.action.Action.TheVariants.{Store, Add, Walk, Ack, CopyStore, SetHome, SetShadow}
use Rattle.nm_view.specs.declared.view.CacheEntry.{CacheEntry}
use Rattle.nm_view.specs.declared.view.Fill.{Fill}
use Rattle.nm_view.specs.declared.view.Fill.TheVariants.{Equal}
use Rattle.nm_view.specs.Lists.{find, Once}
use Rattle.nm_view.specs.Views.{Op, View}
use Rattle.nm_view.specs.Operations.{page_of, cached_page, op_on, fill_of, IsInLastTier}
use Rattle.nm_view.proofs.Items.{some_same, not_none, all_find}
use Rattle.nm_view.proofs.Finds.{find_number, absent_filter}
use Rattle.nm_permit.specs.Permitted.{MaySetHome, HasNewHome, IsFreeOfShadow, MayShade, IsZeroedTo, IsCopiedTo}
use Rattle.nm_words.specs.declared.names.Where.TheVariants as words
use Rattle.nm_step.specs.Table.{cached_frame, entry_frame}
use Rattle.nm_event.specs.After.{after_of, walked, is_confirmed, kept_entries}
use Rattle.nm_world.specs.Worlds.{World, moved, written, viewing, pte_at, home_at, shadow_at, mem_at, op_at}
use Rattle.nm_world.specs.Sights.{Sight, WritesOne, Sets, sight_of, sight_at}
use Rattle.nm_world.specs.Notions.{page_value}
use Rattle.nm_world.specs.LockLaw.{LockLaw}
use Rattle.nm_world.specs.CacheLaw.{CacheLaw, IsEntrySound}
use Rattle.nm_world.specs.CopyLaw.{CopyLaw}
use Rattle.nm_world.specs.ShadowLaw.{IsMaster, ShadowLaw}
use Rattle.nm_world.specs.FrameLaw.{AtHome, AtShadow, By, names_of, NamesAsShadow, FrameLaw}
use Rattle.nm_world.specs.Bounds.{HasBounds}
use Rattle.nm_world.specs.Laws.{IsReady}
use Rattle.nm_world.proofs.Options.{some_and}
use Rattle.nm_world.proofs.Choose.{choose}
use Rattle.nm_world.proofs.Moves.{edited}
use Rattle.nm_world.proofs.Roles.{one_claim}
use Rattle.nm_world.proofs.Writing.{word_writes, mem_sets, entry_put}
use Rattle.nm_frames.proofs.Still.{cases_on, not_both}
use Rattle.nm_frames.proofs.Table.{if_at, true_op, no_shadow, present_some}
use Rattle.nm_frames.proofs.Owners.{some_same_fill}
use Rattle.nm_frames.proofs.Shadings.{few_frames, same_page}
use Rattle.nm_frames.proofs.Shadows.{master_kept, clean_kept, KeepsCache, same_cache, entries_kept, shadows_quiet, shadows_unread}

-- Frames apart.

-- the shadow of a master is named so
names_shadow : (g : Geometry) (m : World) (k : ℕ) (h : IsMaster g (sight_of g m) k) → IsGeometry g → shadow_at m k ≢ 0 → NamesAsShadow (shadow_at m k) h.frame
names_shadow g m k h isg some = record { some = some; is = shadow_frame-NamesShadow g (shadow_at m k) h.page h.frame (few_frames g isg) h.names }

-- a frame is neither a master nor a shadow
record IsApart (g : Geometry) (m : World) (f : ℕ) : Type 0 where
  master : (k : ℕ) → shadow_at m k ≢ 0 → k ≢ f
  shadow : (k : ℕ) (h : IsMaster g (sight_of g m) k) → shadow_at m k ≢ 0 → h.frame ≢ f

-- a word of a frame that is neither is written
shadows_stored : (g : Geometry) (m : World) (a f i x : ℕ) (new : View) → IsApart g m f → KeepsCache (m.view a) new → ShadowLaw g (sight_of g m) → ShadowLaw g (sight_at g (written (words.Mem f i) x m.word) (viewing a new m.view))
shadows_stored g m a f i x new apart cache law =
    let after : Sight = sight_at g (written (words.Mem f i) x m.word) (viewing a new m.view) in
    let sets : Sets (mem_at m) after.mem f i x = mem_sets (mem_at m) f i x in
    record {
      masters = λ k some. (let h = law.masters k some in
          master_kept g (sight_of g m) after k h refl refl
          (λ j in_page. sets.others k j (apart.master k some) ∙ h.equal j in_page ∙ sym (sets.others h.frame j (apart.shadow k h some)))
          (clean_kept g (sight_of g m).entry after.entry h.page (entries_kept a new m.view cache) h.clean));
    }

home_no_shadow : (b k : ℕ) → AtHome b ≡ AtShadow k → ⊥
home_no_shadow b k e = cc

home_not_owned : (b a : ℕ) → AtHome b ≡ By a → ⊥
home_not_owned b a e = cc

shadow_not_owned : (k a : ℕ) → AtShadow k ≡ By a → ⊥
shadow_not_owned k a e = cc

-- the home of a page with a dirty entry is neither
dirty_apart : (g : Geometry) (m : World) (a v b f : ℕ) (e : CacheEntry) → IsGeometry g → IsFrame g f → find cached_page v (m.view a).cache ≡ Some e → IsTrue e.dirty → backing_page g v ≡ Some b → home_at m b ≡ home_word f → FrameLaw g (sight_of g m) → ShadowLaw g (sight_of g m) → IsApart g m f
dirty_apart g m a v b f e isg frame cached dirty of home frames law = record {
  master = λ k some same. (
      let h = law.masters k some in
      let named : home_at m h.page ≡ home_word f = h.home ∙ ap home_word same in
      let page : h.page ≡ b = same_page h.page b (one_claim g (names_of (sight_of g m)) f (AtHome h.page) (AtHome b) frames.roles frame named home) in
      let clean : e.dirty ≡ false = h.clean a v e (of ∙ ap Some (sym page)) cached in
      absurd (not_both e.dirty dirty clean));
  shadow = λ k h some same. (
      let named : NamesAsShadow (shadow_at m k) f = subst (λ (n : ℕ). NamesAsShadow (shadow_at m k) n) same (names_shadow g m k h isg some) in
      home_no_shadow b k (one_claim g (names_of (sight_of g m)) f (AtHome b) (AtShadow k) frames.roles frame home named));
}

-- an owned frame is neither
owned_apart : (g : Geometry) (m : World) (a f : ℕ) → IsGeometry g → IsFrame g f → IsSome (fill_of (m.view a) f) → FrameLaw g (sight_of g m) → ShadowLaw g (sight_of g m) → IsApart g m f
owned_apart g m a f isg frame owned frames law = record {
  master = λ k some same. (
      let h = law.masters k some in
      home_not_owned h.page a (one_claim g (names_of (sight_of g m)) f (AtHome h.page) (By a) frames.roles frame (h.home ∙ ap home_word same) owned));
  shadow = λ k h some same. (
      let named : NamesAsShadow (shadow_at m k) f = subst (λ (n : ℕ). NamesAsShadow (shadow_at m k) n) same (names_shadow g m k h isg some) in
      shadow_not_owned k a (one_claim g (names_of (sight_of g m)) f (AtShadow k) (By a) frames.roles frame named owned));
}

-- the frame to which a dirty entry leads
cached_apart : (g : Geometry) (m : World) (a v : ℕ) → IsGeometry g → IsSomeAnd (find cached_page v (m.view a).cache) (λ e. IsTrue e.dirty) → CacheLaw g m → HasBounds g m → FrameLaw g (sight_of g m) → ShadowLaw g (sight_of g m) → IsApart g m (cached_frame (m.view a) v)
cached_apart g m a v isg may caches bounds frames law =
    let cached = some_and (find cached_page v (m.view a).cache) (λ e. IsTrue e.dirty) may in
    let e : CacheEntry = cached.0 in
    let number : e.vpage ≡ v = find_number cached_page v (m.view a).cache e cached.1.0 in
    let sound : IsEntrySound g m a e = all_find cached_page v (IsEntrySound g m a) (m.view a).cache e (caches.desks a).entries cached.1.0 in
    let page = some_and (backing_page g e.vpage) (λ b. home_at m b ≡ home_word e.frame) sound.home in
    let of : backing_page g v ≡ Some page.0 = ap (backing_page g) (sym number) ∙ page.1.0 in
    let frame : IsFrame g e.frame = omega (arith, page.1.1, bounds.homes page.0) in
    subst (IsApart g m) (ap entry_frame (sym cached.1.0)) (dirty_apart g m a v page.0 e.frame e isg frame cached.1.0 cached.1.1 of page.1.1 frames law)

pub shadows_store : (g : Geometry) (m : World) (a v i x : ℕ) → IsGeometry g → CacheLaw g m → HasBounds g m → FrameLaw g (sight_of g m) → IsReady g m a (Store v i x) → ShadowLaw g (sight_of g m) → ShadowLaw g (sight_of g (moved g m a (Store v i x)))
shadows_store g m a v i x isg caches bounds frames r law =
    shadows_stored g m a (cached_frame (m.view a) v) i x (m.view a) (cached_apart g m a v isg r.allowed.permitted.cached caches bounds frames law) (same_cache (m.view a)) law

pub shadows_add : (g : Geometry) (m : World) (a v i x : ℕ) → IsGeometry g → CacheLaw g m → HasBounds g m → FrameLaw g (sight_of g m) → IsReady g m a (Add v i x) → ShadowLaw g (sight_of g m) → ShadowLaw g (sight_of g (moved g m a (Add v i x)))
shadows_add g m a v i x isg caches bounds frames r law =
    let f : ℕ = cached_frame (m.view a) v in
    shadows_stored g m a f i ((mem_at m f i + x) % 2 ^ 64) (m.view a) (cached_apart g m a v isg r.allowed.permitted.cached caches bounds frames law) (same_cache (m.view a)) law

known_fill : (found : Option Fill) (P : Fill → Type 0) → IsSomeAnd found P → IsSome found
known_fill found P h = let fill = some_and found P h in some_same_fill (Some fill.0) found (sym fill.1.0) cc

stored_owned : (g : Geometry) (m : World) (a : ℕ) (b : Option ℕ) (f i x : ℕ) → IsReady g m a (CopyStore b f i x) → IsSome (fill_of (m.view a) f)
stored_owned g m a None f i x r = known_fill (fill_of (m.view a) f) (IsZeroedTo i) r.allowed.permitted.fill
stored_owned g m a (Some b) f i x r = known_fill (fill_of (m.view a) f) (IsCopiedTo b i) r.allowed.permitted.fill

pub shadows_copy_store : (g : Geometry) (m : World) (a : ℕ) (b : Option ℕ) (f i x : ℕ) → IsGeometry g → FrameLaw g (sight_of g m) → IsReady g m a (CopyStore b f i x) → ShadowLaw g (sight_of g m) → ShadowLaw g (sight_of g (moved g m a (CopyStore b f i x)))
shadows_copy_store g m a b f i x isg frames r law =
    shadows_stored g m a f i x (after_of g (m.view a) (CopyStore b f i x) Done) (owned_apart g m a f isg r.allowed.range.frame (stored_owned g m a b f i x r) frames law) (same_cache (m.view a)) law

-- Caches.

-- what is found after entries were dropped was found before
kept_find : (p : CacheEntry → Bool) (v : ℕ) (e : CacheEntry) (xs : List CacheEntry) → Once cached_page xs → find cached_page v (filter p xs) ≡ Some e → find cached_page v xs ≡ Some e
kept_find p v e [] once is = is
kept_find p v e (x ∷ xs) once is = grind (arith, kept_find p v e xs, absent_filter cached_page p v xs)

ack_cache : (view : View) (to : AckTo) → Once cached_page view.cache → (v : ℕ) (e : CacheEntry) → find cached_page v (kept_entries view to) ≡ Some e → find cached_page v view.cache ≡ Some e
ack_cache view Seen once v e is = kept_find (is_confirmed view.peeked) v e view.cache once is
ack_cache view Off once v e is = absurd (not_none e is)
ack_cache view End once v e is = absurd (not_none e is)

pub shadows_ack : (g : Geometry) (m : World) (a : ℕ) (to : AckTo) → IsReady g m a (Ack to) → ShadowLaw g (sight_of g m) → ShadowLaw g (sight_of g (moved g m a (Ack to)))
shadows_ack g m a to r law = shadows_unread g m a (Ack to) tt (ack_cache (m.view a) to (r.shaped.shape a r.actor).keyed.cache_once) law

dirty_not : (writable write dirty : Bool) → writable ≡ false → (writable && (write || dirty)) ≡ false
dirty_not writable write dirty off = rw off refl

-- a walk of a page that has a shadow caches no dirty entry
walked_clean : (g : Geometry) (m : World) (v e k b : ℕ) (write : Bool) (view : View) → pte_at m v ≡ e → e ≢ 0 → FrameLaw g (sight_of g m) → home_at m b ≡ home_word k → shadow_at m k ≢ 0 → backing_page g v ≡ Some b → (walked view v e write).dirty ≡ false
walked_clean g m v e k b write view found present frames home some of =
    let maps = frames.words v (λ none. present (sym found ∙ none)) in
    let page : maps.page ≡ b = some_same maps.page b (sym maps.of ∙ of) in
    let named : home_at m b ≡ home_word (frame_of (pte_at m v)) = ap (home_at m) (sym page) ∙ maps.is.home in
    let master : frame_of (pte_at m v) ≡ k = omega (arith, home, named) in
    let off : is_writable (pte_at m v) ≡ false = maps.is.unshaded (λ none. some (ap (shadow_at m) (sym master) ∙ none)) in
    dirty_not (is_writable e) write (is_dirty e) (ap is_writable (sym found) ∙ off)

pub shadows_walk : (g : Geometry) (m : World) (a v e : ℕ) (write : Bool) → FrameLaw g (sight_of g m) → IsReady g m a (Walk v e write) → ShadowLaw g (sight_of g m) → ShadowLaw g (sight_of g (moved g m a (Walk v e write)))
shadows_walk g m a v e write frames r law =
    let n : ℕ = pte_at m v in
    let view : View = m.view a in
    let Left : Bool → Type 0 = λ t. ShadowLaw g (sight_of g (record { word = written (words.Pte v) (if t then walked_word e write else n) m.word; view = viewing a (after_of g view (Walk v e write) (if t then Done else Lost n)) m.view })) in
    cases_on Left (n == e)
    (λ found.
    let present : e ≢ 0 = present_some e (eqb-true (bit_at e 0) 1 r.allowed.permitted.present) in
    let new : View = after_of g view (Walk v e write) Done in
    let after : Sight = sight_at g (written (words.Pte v) (walked_word e write) m.word) (viewing a new m.view) in
    let w : CacheEntry = walked view v e write in
    record {
      masters = λ k some. (let h = law.masters k some in
          let P : ℕ → ℕ → CacheEntry → Type 0 = λ c u x. backing_page g u ≡ Some h.page → x.dirty ≡ false in
          let each = edited P (sight_of g m).entry after.entry a v w (entry_put a w new m.view refl)
          (λ of. walked_clean g m v e k h.page write view (eqb-true n e found) present frames h.home some of)
          (λ c u x apart is of. h.clean c u x of is) in
          master_kept g (sight_of g m) after k h refl refl h.equal (λ c u x of is. each c u x is of));
    })
    (λ lost. shadows_quiet g m (written (words.Pte v) n m.word) a view (record { home = λ b. refl; shadow = λ k. refl; mem = λ f i. refl }) (same_cache view) law)

-- Homes and shadow words.

-- a frame of the last tier has no slower one
last_tier : (g : Geometry) (h : ℕ) → IsGeometry g → IsInLastTier g h → 0 < h → tier_of g (h - 1) ≡ length g.tiers - 1
last_tier g h isg last some =
    let all : first_frame g (length g.tiers - 1 + 1) ≡ frame_count g = ap sum (take_all (length g.tiers - 1 + 1) g.tiers (omega arith)) in
    sym (tier_of-IsInTier g (h - 1) (length g.tiers - 1) (record {
      exists = omega (arith, isg.ranges.1.0);
      from = omega (arith, last.above, some);
      below = omega (arith, all, last.exists, some);
    }))

-- where a home may be set, the old one has no shadow
no_old_shadow : (g : Geometry) (m : World) (a b k : ℕ) (o : Op) (fill : Fill) → IsGeometry g → LockLaw g m → op_at m a b ≡ Some o → HasNewHome g fill o → home_at m b ≡ home_word k → IsMaster g (sight_of g m) k → shadow_at m k ≢ 0 → ⊥
no_old_shadow g m a b k o fill isg locks here new home h some =
    let known = true_op m g a b o locks here in
    let free : IsFreeOfShadow g o → ⊥ = λ f. elim f [
      | inl none ↦ some (no_shadow m b k o known none home)
      | inr last ↦
          let known_home = some_and o.home (IsInLastTier g) last in
          let at : known_home.0 ≡ home_at m b = if_at (λ x. x ≡ home_at m b) o.home known_home.0 known.home known_home.1.0 in
          let minus : known_home.0 - 1 ≡ k = omega (arith, at, home) in
          let lies : tier_of g k ≡ length g.tiers - 1 = ap (tier_of g) (sym minus) ∙ last_tier g known_home.0 isg known_home.1.1 (omega (arith, at, home)) in
          let shadow : tier_of g h.frame < length g.tiers = (IsInTier-tier_of g h.frame h.names.range).exists in
          omega (arith, lies, shadow, h.slower)
    ] in
    elim new [
      | inl demanded ↦
          let none : 0 ≡ home_at m b = if_at (λ x. x ≡ home_at m b) o.home 0 known.home demanded.home in
          omega (arith, none, home)
      | inr (inl committed) ↦ free committed.shadow
      | inr (inr moves) ↦ free (inl moves.shadow)
    ]

pub shadows_set_home : (g : Geometry) (m : World) (a b f : ℕ) → IsGeometry g → LockLaw g m → IsReady g m a (SetHome b f) → ShadowLaw g (sight_of g m) → ShadowLaw g (sight_of g (moved g m a (SetHome b f)))
shadows_set_home g m a b f isg locks r law =
    let view : View = m.view a in
    let new : View = after_of g view (SetHome b f) Done in
    let after : Sight = sight_at g (written (words.Home b) (home_word f) m.word) (viewing a new m.view) in
    let on = some_and (op_on view b) (MaySetHome g (fill_of view f)) r.allowed.permitted in
    let own = some_and (fill_of view f) (λ known. HasNewHome g known on.0) on.1.1 in
    let writes : WritesOne (home_at m) after.home b (home_word f) = word_writes (home_at m) b (home_word f) in
    record {
      masters = λ k some. (let h = law.masters k some in
          master_kept g (sight_of g m) after k h refl
          (writes.rest h.page (λ same. no_old_shadow g m a b k on.0 own.0 isg locks on.1.0 own.1.1 (ap (home_at m) (sym same) ∙ h.home) h some))
          h.equal (clean_kept g (sight_of g m).entry after.entry h.page (entries_kept a new m.view (same_cache view)) h.clean));
    }

shadows_unshade : (g : Geometry) (m : World) (a b k : ℕ) → ShadowLaw g (sight_of g m) → ShadowLaw g (sight_of g (moved g m a (SetShadow b k None)))
shadows_unshade g m a b k law =
    let view : View = m.view a in
    let new : View = after_of g view (SetShadow b k None) Done in
    let after : Sight = sight_at g (written (words.Shadow k) 0 m.word) (viewing a new m.view) in
    let writes : WritesOne (shadow_at m) after.shadow k 0 = word_writes (shadow_at m) k 0 in
    record {
      masters = λ j some. elim (cases_eq j k) [
        | inl same ↦ absurd (some (ap after.shadow same ∙ writes.here))
        | inr other ↦
            let stays = writes.rest j other in
            let h = law.masters j (λ none. some (stays ∙ none)) in
            master_kept g (sight_of g m) after j h stays refl h.equal (clean_kept g (sight_of g m).entry after.entry h.page (entries_kept a new m.view (same_cache view)) h.clean)
      ];
    }

at_home : (home : ℕ → ℕ) (mem : ℕ → ℕ → ℕ) (b k i : ℕ) → home b ≡ home_word k → page_value home mem b i ≡ mem k i
at_home home mem b k i is =
    choose (λ n. n ≡ mem k i) (home b) 0 0 (mem (home b - 1) i)
    (λ none. absurd (omega (arith, none, is)))
    (λ some. let at : home b - 1 ≡ k = omega (arith, is) in ap (λ f. mem f i) at)

shadows_shade : (g : Geometry) (m : World) (a b k s : ℕ) → LockLaw g m → CopyLaw g (sight_of g m) → IsReady g m a (SetShadow b k (Some s)) → ShadowLaw g (sight_of g m) → ShadowLaw g (sight_of g (moved g m a (SetShadow b k (Some s))))
shadows_shade g m a b k s locks copies r law =
    let view : View = m.view a in
    let new : View = after_of g view (SetShadow b k (Some s)) Done in
    let x : ℕ = shadow_word b (Some s) in
    let after : Sight = sight_at g (written (words.Shadow k) x m.word) (viewing a new m.view) in
    let writes : WritesOne (shadow_at m) after.shadow k x = word_writes (shadow_at m) k x in
    let on = some_and (op_on view b) (MayShade g view k s) r.allowed.permitted in
    let o : Op = on.0 in
    let may = on.1.1 in
    let home : home_at m b ≡ home_word k = sym (if_at (λ h. h ≡ home_at m b) o.home (home_word k) (true_op m g a b o locks on.1.0).home may.home) in
    let page : o.page ≡ b = find_number page_of b view.ops o on.1.0 in
    let twin = (copies.ops a b o on.1.0).equal s (subst (λ (c : ℕ). fill_of view s ≡ Some (Equal c)) page may.fill) in
    let keeps = entries_kept a new m.view (same_cache view) in
    let master : IsMaster g after k = record {
      page = b;
      frame = s;
      names = record { exists = r.allowed.range.page; range = r.allowed.range.shadow; is = writes.here };
      home = home;
      slower = may.slower;
      equal = λ i in_page. sym (twin.equal i in_page ∙ at_home (home_at m) (mem_at m) b k i home);
      clean = clean_kept g (sight_of g m).entry after.entry b keeps twin.clean;
    } in
    record {
      masters = λ j some. elim (cases_eq j k) [
        | inl same ↦ subst (IsMaster g after) (sym same) master
        | inr other ↦
            let stays = writes.rest j other in
            let h = law.masters j (λ none. some (stays ∙ none)) in
            master_kept g (sight_of g m) after j h stays refl h.equal (clean_kept g (sight_of g m).entry after.entry h.page keeps h.clean)
      ];
    }

pub shadows_set_shadow : (g : Geometry) (m : World) (a b k : ℕ) (shadow : Option ℕ) → LockLaw g m → CopyLaw g (sight_of g m) → IsReady g m a (SetShadow b k shadow) → ShadowLaw g (sight_of g m) → ShadowLaw g (sight_of g (moved g m a (SetShadow b k shadow)))
shadows_set_shadow g m a b k None locks copies r law = shadows_unshade g m a b k law
shadows_set_shadow g m a b k (Some s) locks copies r law = shadows_shade g m a b k s locks copies r law

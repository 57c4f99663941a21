-- The kinds by which the flushes of one operation change: ClearDirty, Unmap and Raise.
use Rattle.std.proofs.Common.{◌≡◌, ◌≢◌, ℕ, ◌+◌, ◌%◌, ◌^◌, ◌≤◌, ◌<◌, true, Option, Some, None, IsSome, IsSomeAnd, IsTrue, All, refl, sym, ap, subst, ◌∙◌, ◌⊎◌, inl, inr, arith}
use Rattle.std.specs.Prelude.{option_map}
use Rattle.std.proofs.lemmas.Bool.{cases_eq}
use Rattle.nm_base.specs.Geometry.{Geometry, backing_page}
use Rattle.nm_action.specs.declared.action.Reply.TheVariants.{Word}
use Rattle.nm_action.specs.declared.action.Action.TheVariants.{ClearDirty, Unmap, Raise}
use Rattle.nm_words.specs.declared.names.Where.{Where}
use Rattle.nm_words.specs.declared.names.Where.TheVariants as words
use Rattle.nm_view.specs.declared.view.CacheEntry.{CacheEntry}
use Rattle.nm_view.specs.declared.view.Peeked.{Peeked}
use Rattle.nm_view.specs.Lists.{find, edit, erase, put, first, itself}
use Rattle.nm_view.specs.Views.{Op, View, most_raises}
use Rattle.nm_view.specs.Operations.{page_of, op_on}
use Rattle.nm_view.proofs.Items.{all_find, all_put, all_erase, all_same, some_same, not_none}
use Rattle.nm_view.proofs.Finds.{find_put, find_put_other, find_erase_other}
use Rattle.nm_permit.specs.Permitted.{Allowed, MayClear, MayUnmap, IsWet}
use Rattle.nm_event.specs.After.{after_of, edit_under, edit_of, cleared_at, taken_at, raised_to}
use Rattle.nm_shape.specs.Shape.{IsOpShaped}
use Rattle.nm_world.specs.Worlds.{World, written, viewing, moved, left_in, pte_at, stamp_at, home_at, ack_at, op_at}
use Rattle.nm_world.specs.Parts.{Flight, flight_of, desk_of, flight_at, desk_at}
use Rattle.nm_world.specs.Sights.{Sets}
use Rattle.nm_world.specs.Notions.{IsStanding, Owes, IsMeant, IsOwed}
use Rattle.nm_world.specs.ShapeLaw.{ShapeLaw}
use Rattle.nm_world.specs.Laws.{IsReady}
use Rattle.nm_world.specs.CacheLaw.{IsEntrySound, IsPeekSound, IsFlightSound, CacheLaw}
use Rattle.nm_world.proofs.Choose.{choose}
use Rattle.nm_world.proofs.Moves.{on_page, edited, part_sets}
use Rattle.nm_world.proofs.Writing.{edit_sets}
use Rattle.nm_caches.proofs.Shapes.{GoesOn, Stands, some_at, is_some, wet_due, entry_kept, flight_kept, law_kept, view_part}

-- the flushes of the operation on the page of v, after it was edited
pub flight_sets : (g : Geometry) (m : World) (word : Where → ℕ) (a v b : ℕ) (f : Op → Op) (o : Op) (new : View) → ((x : Op) → page_of (f x) ≡ page_of x) → new.ops ≡ edit_of g v f (m.view a).ops → backing_page g v ≡ Some b → op_at m a b ≡ Some o → Sets (flight_at m) (flight_at (record { word = word; view = viewing a new m.view })) a b (Some (flight_of (f o)))
flight_sets g m word a v b f o new same is of here =
    let ops : new.ops ≡ edit page_of b f (m.view a).ops = is ∙ ap (λ (q : Option ℕ). edit_under q f (m.view a).ops) of in
    part_sets flight_of (op_at m) (λ c j. op_on (viewing a new m.view c) j) a b (Some (f o)) (edit_sets a b f o new m.view same ops here)

-- an operation that owes a flush that is meant for an entry
pub owed_by : (g : Geometry) (m : World) (p : ℕ) (e : CacheEntry) (a b : ℕ) (o : Flight) → backing_page g e.vpage ≡ Some b → flight_at m a b ≡ Some o → Owes (ack_at m p) p o → IsMeant e.vpage e.stamp o → IsOwed g m p e
owed_by g m p e a b o of here owes meant = record { actor = a; page = b; op = o; of = of; here = here; owes = owes; meant = meant }

-- actor a's operation on b owes the flush
record IsOwedBy (g : Geometry) (m : World) (p : ℕ) (e : CacheEntry) (a b : ℕ) : Type 0 where
  op : Flight
  of : backing_page g e.vpage ≡ Some b
  here : flight_at m a b ≡ Some op
  owes : Owes (ack_at m p) p op
  meant : IsMeant e.vpage e.stamp op

-- where one operation changes, an entry is owed by another as before, or was owed by this one
owed_or : (g : Geometry) (m m' : World) (p : ℕ) (e : CacheEntry) (a b : ℕ) (x : Option Flight) → ack_at m' p ≡ ack_at m p → Sets (flight_at m) (flight_at m') a b x → IsOwed g m p e → IsOwed g m' p e ⊎ IsOwedBy g m p e a b
owed_or g m m' p e a b x ack sets owed =
    let Owe : ℕ → Type 0 = λ n. Owes n p owed.op in
    let kept : flight_at m' owed.actor owed.page ≡ flight_at m owed.actor owed.page → IsOwed g m' p e =
    λ same. owed_by g m' p e owed.actor owed.page owed.op owed.of (same ∙ owed.here) (subst Owe (sym ack) owed.owes) owed.meant in
    elim (cases_eq owed.actor a) [
      | inr other ↦ inl (kept (sets.others owed.actor owed.page other))
      | inl actor ↦ elim (cases_eq owed.page b) [
        | inr away ↦ inl (kept (let Kept : ℕ → Type 0 = λ c. flight_at m' c owed.page ≡ flight_at m c owed.page in subst Kept (sym actor) (sets.rest owed.page away)))
        | inl page ↦
            let At : ℕ → Type 0 = λ c. flight_at m c b ≡ Some owed.op in
            let On : ℕ → Type 0 = λ j. flight_at m owed.actor j ≡ Some owed.op in
            inr (record {
              op = owed.op;
              of = owed.of ∙ ap (λ (j : ℕ). Some j) page;
              here = subst At actor (subst On page owed.here);
              owes = owed.owes;
              meant = owed.meant;
            })
      ]
    ]

-- an entry is owed still where one operation changes that goes on owing what it owed
pub owed_edit : (g : Geometry) (m m' : World) (p : ℕ) (e : CacheEntry) (a b : ℕ) (o u : Flight) → ack_at m' p ≡ ack_at m p → Sets (flight_at m) (flight_at m') a b (Some u) → flight_at m a b ≡ Some o → (Owes (ack_at m p) p o → IsMeant e.vpage e.stamp o → Owes (ack_at m p) p u × IsMeant e.vpage e.stamp u) → IsOwed g m p e → IsOwed g m' p e
owed_edit g m m' p e a b o u ack sets here own owed =
    elim (owed_or g m m' p e a b (Some u) ack sets owed) [
      | inl kept ↦ kept
      | inr by ↦
          let same : by.op ≡ o = some_same by.op o (sym by.here ∙ here) in
          let Owe : Flight → Type 0 = λ q. Owes (ack_at m p) p q in
          let Meant : Flight → Type 0 = λ q. IsMeant e.vpage e.stamp q in
          let both = own (subst Owe same by.owes) (subst Meant same by.meant) in
          let New : ℕ → Type 0 = λ n. Owes n p u in
          owed_by g m' p e a b u by.of sets.here (subst New (sym ack) both.0) both.1
    ]

-- an entry is owed still where one operation changes that did not owe it
pub owed_others : (g : Geometry) (m m' : World) (p : ℕ) (e : CacheEntry) (a b : ℕ) (x : Option Flight) → ack_at m' p ≡ ack_at m p → Sets (flight_at m) (flight_at m') a b x → ((o : Flight) → flight_at m a b ≡ Some o → Owes (ack_at m p) p o → ⊥) → IsOwed g m p e → IsOwed g m' p e
owed_others g m m' p e a b x ack sets none owed =
    elim (owed_or g m m' p e a b x ack sets owed) [
      | inl kept ↦ kept
      | inr by ↦ absurd (none by.op by.here by.owes)
    ]

-- the law where the flushes of one operation change
pub flight_edit : (g : Geometry) (m m' : World) (a b : ℕ) (u : Flight) → GoesOn m m' → ((p : ℕ) → ack_at m' p ≡ ack_at m p) → ((p : ℕ) → desk_at m' p ≡ desk_at m p) → ((j : ℕ) → home_at m' j ≡ home_at m j) → Sets (flight_at m) (flight_at m') a b (Some u) → ((p : ℕ) (e : CacheEntry) → IsEntrySound g m p e → Stands g m' p e) → IsFlightSound m' u → ((p : ℕ) → All (IsPeekSound (desk_at m p).req_seen u) (desk_at m p).peeked) → ShapeLaw g m → CacheLaw g m → CacheLaw g m'
flight_edit g m m' a b u goes acks desks homes sets entries sound peeks shape h =
    law_kept g m m' goes acks desks
    (λ p _ e was. entry_kept g m m' p e goes homes (λ _. entries p e was) was)
    (edited (λ c j q. IsFlightSound m' q) (flight_at m) (flight_at m') a b u sets sound (λ c j q _ is. flight_kept m m' q goes.stamps (h.flights c j q is)))
    (λ p. edited (λ c j q. All (IsPeekSound (desk_at m p).req_seen q) (desk_at m p).peeked) (flight_at m) (flight_at m') a b u sets (peeks p) (λ c j q _ is. (h.desks p).fresh c j q is))
    shape h

-- A page gets wet.

-- the flushes of an operation after v's table word was changed
abbrev wetted : ℕ → Flight → Flight
wetted v o = record { due = true; flush = None; seen = o.seen; wet = put itself v o.wet; raised = erase first v o.raised }

-- what is meant for entries of another virtual page is meant for them still
wetted_meant : (v u stamp : ℕ) (o : Flight) → u ≢ v → IsMeant u stamp o → IsMeant u stamp (wetted v o)
wetted_meant v u stamp o other (inl wet) = inl (let Wet : Option ℕ → Type 0 = λ found. IsSome found in subst Wet (sym (find_put_other itself v u o.wet (λ s. other (sym s)))) wet)
wetted_meant v u stamp o other (inr raised) = inr (let More : Option (ℕ × ℕ) → Type 0 = λ found. IsSomeAnd found (λ p. stamp < p.1) in subst More (sym (find_erase_other first v u o.raised (λ s. other (sym s)))) raised)

-- each entry stands or is owed: those of v by this very operation
wetted_entry : (g : Geometry) (m m' : World) (p : ℕ) (e : CacheEntry) (a b v : ℕ) (o : Flight) → backing_page g v ≡ Some b → ack_at m' p ≡ ack_at m p → ((u : ℕ) → u ≢ v → pte_at m' u ≡ pte_at m u) → Sets (flight_at m) (flight_at m') a b (Some (wetted v o)) → flight_at m a b ≡ Some o → IsEntrySound g m p e → Stands g m' p e
wetted_entry g m m' p e a b v o of ack table sets here sound =
    elim (cases_eq e.vpage v) [
      | inl same ↦
          let wet : IsSome (find itself e.vpage (put itself v o.wet)) = is_some _ v (ap (λ (k : ℕ). find itself k (put itself v o.wet)) same ∙ find_put itself v o.wet) in
          inr (owed_by g m' p e a b (wetted v o) (ap (backing_page g) same ∙ of) sets.here (inl refl) (inl wet))
      | inr other ↦ elim sound.stands [
        | inl stands ↦ inl (let Stood : ℕ → Type 0 = λ n. IsStanding n e in subst Stood (sym (table e.vpage other)) stands)
        | inr owed ↦ inr (owed_edit g m m' p e a b o (wetted v o) ack sets here (λ _ meant. (inl refl, wetted_meant v e.vpage e.stamp o other meant)) owed)
      ]
    ]

-- the table word of v is changed, and the operation on its page has v wet and is due
cache_wet : (g : Geometry) (m : World) (a b v x : ℕ) (o : Flight) (new : View) → backing_page g v ≡ Some b → flight_at m a b ≡ Some o → desk_of new ≡ desk_of (m.view a) → Sets (flight_at m) (flight_at (record { word = written (words.Pte v) x m.word; view = viewing a new m.view })) a b (Some (wetted v o)) → ShapeLaw g m → CacheLaw g m → CacheLaw g (record { word = written (words.Pte v) x m.word; view = viewing a new m.view })
cache_wet g m a b v x o new of here desk sets shape h =
    let m' : World = record { word = written (words.Pte v) x m.word; view = viewing a new m.view } in
    let goes : GoesOn m m' = record { stamps = λ u. omega arith; req = omega arith } in
    flight_edit g m m' a b (wetted v o) goes (λ p. refl) (view_part desk_of a new m.view desk) (λ j. refl) sets
    (λ p e sound. wetted_entry g m m' p e a b v o of refl (λ u other. choose (λ n. n ≡ pte_at m u) u v x (pte_at m u) (λ same. absurd (other same)) (λ _. refl)) sets here sound)
    (record { raised = all_erase first (λ p. p.1 ≤ stamp_at m p.0) v o.raised (h.flights a b o here).raised; wet = inl refl })
    (λ p. all_same (λ (k : Peeked). k.stamp ≤ stamp_at m k.vpage) (IsPeekSound (desk_at m p).req_seen (wetted v o)) (desk_at m p).peeked (λ k _ flush u n has found number reached fresh. absurd (not_none flush has)) (h.desks p).peeks)
    shape h

pub cache_clear_dirty : (g : Geometry) (m : World) (a v : ℕ) → Allowed g (m.view a) (ClearDirty v) → ShapeLaw g m → CacheLaw g m → CacheLaw g (moved g m a (ClearDirty v))
cache_clear_dirty g m a v allowed shape h =
    let m' : World = moved g m a (ClearDirty v) in
    let new : View = after_of g (m.view a) (ClearDirty v) (Word (pte_at m v)) in
    let on = on_page g (m.view a) v (MayClear g v) allowed.permitted in
    cache_wet g m a on.page v (left_in g m a (ClearDirty v)) (flight_of on.op) new on.of (ap (option_map flight_of) on.here) refl
    (flight_sets g m m'.word a v on.page (cleared_at v) on.op new (λ o. refl) refl on.of on.here) shape h

pub cache_unmap : (g : Geometry) (m : World) (a v : ℕ) → Allowed g (m.view a) (Unmap v) → ShapeLaw g m → CacheLaw g m → CacheLaw g (moved g m a (Unmap v))
cache_unmap g m a v allowed shape h =
    let m' : World = moved g m a (Unmap v) in
    let new : View = after_of g (m.view a) (Unmap v) (Word (pte_at m v)) in
    let on = on_page g (m.view a) v (MayUnmap g v) allowed.permitted in
    cache_wet g m a on.page v 0 (flight_of on.op) new on.of (ap (option_map flight_of) on.here) refl
    (flight_sets g m m'.word a v on.page (taken_at v (pte_at m v)) on.op new (λ o. refl) refl on.of on.here) shape h

-- A raise.

-- the flushes of an operation after a raise of v to a number
abbrev dried : ℕ → ℕ → Flight → Flight
dried v n o = record { due = o.due; flush = o.flush; seen = o.seen; wet = erase itself v o.wet; raised = put first (v, n) o.raised }

-- what is meant for an entry is meant for it still, where the raise of its page is to more than its stamp
dried_meant : (v n u stamp : ℕ) (o : Flight) → (u ≡ v → stamp < n) → IsMeant u stamp o → IsMeant u stamp (dried v n o)
dried_meant v n u stamp o more meant =
    elim (cases_eq u v) [
      | inl same ↦
          let found : find first u (put first (v, n) o.raised) ≡ Some (v, n) = ap (λ (k : ℕ). find first k (put first (v, n) o.raised)) same ∙ find_put first (v, n) o.raised in
          inr (some_at (find first u (put first (v, n) o.raised)) (v, n) (λ p. stamp < p.1) found (more same))
      | inr other ↦ elim meant [
        | inl wet ↦ inl (let Wet : Option ℕ → Type 0 = λ found. IsSome found in subst Wet (sym (find_erase_other itself v u o.wet (λ s. other (sym s)))) wet)
        | inr raised ↦ inr (let More : Option (ℕ × ℕ) → Type 0 = λ found. IsSomeAnd found (λ p. stamp < p.1) in subst More (sym (find_put_other first (v, n) u o.raised (λ s. other (sym s)))) raised)
      ]
    ]

-- stamps after a raise of v
raised_stamps : (m : World) (v n u : ℕ) → n ≡ stamp_at m v + 1 → stamp_at m u ≤ written (words.Stamp v) n m.word (words.Stamp u)
raised_stamps m v n u is = choose (λ x. stamp_at m u ≤ x) u v n (stamp_at m u) (λ same. omega (arith, is, ap (stamp_at m) same)) (λ other. omega arith)

-- the law after a raise by an operation that is due
cache_raised : (g : Geometry) (m : World) (a b v n : ℕ) (o : Flight) (new : View) → n ≡ stamp_at m v + 1 → flight_at m a b ≡ Some o → IsTrue o.due → o.flush ≡ None → desk_of new ≡ desk_of (m.view a) → Sets (flight_at m) (flight_at (record { word = written (words.Stamp v) n m.word; view = viewing a new m.view })) a b (Some (dried v n o)) → ShapeLaw g m → CacheLaw g m → CacheLaw g (record { word = written (words.Stamp v) n m.word; view = viewing a new m.view })
cache_raised g m a b v n o new is here due none desk sets shape h =
    let word : Where → ℕ = written (words.Stamp v) n m.word in
    let m' : World = record { word = word; view = viewing a new m.view } in
    let goes : GoesOn m m' = record { stamps = λ u. raised_stamps m v n u is; req = omega arith } in
    let top : word (words.Stamp v) ≡ n = choose (λ x. x ≡ n) v v n (stamp_at m v) (λ _. refl) (λ other. absurd (other refl)) in
    flight_edit g m m' a b (dried v n o) goes (λ p. refl) (view_part desk_of a new m.view desk) (λ j. refl) sets
    (λ p e sound. elim sound.stands [
      | inl stands ↦ inl stands
      | inr owed ↦ inr (owed_edit g m m' p e a b o (dried v n o) refl sets here
          (λ owes meant. (inl due, dried_meant v n e.vpage e.stamp o (λ same. omega (arith, is, sound.stamp, ap (stamp_at m) same)) meant)) owed)
    ])
    (record {
      raised = all_put first (λ p. p.1 ≤ stamp_at m' p.0) (v, n) o.raised (omega (arith, top)) (flight_kept m m' o goes.stamps (h.flights a b o here)).raised;
      wet = inl due;
    })
    (λ p. all_same (λ (k : Peeked). k.stamp ≤ stamp_at m k.vpage) (IsPeekSound (desk_at m p).req_seen (dried v n o)) (desk_at m p).peeked (λ k _ flush u x has found number reached fresh. absurd (not_none flush (sym none ∙ has))) (h.desks p).peeks)
    shape h

pub cache_raise : (g : Geometry) (m : World) (a v : ℕ) → IsReady g m a (Raise v) → CacheLaw g m → CacheLaw g (moved g m a (Raise v))
cache_raise g m a v ready h =
    let m' : World = moved g m a (Raise v) in
    let n : ℕ = stamp_at m v in
    let new : View = after_of g (m.view a) (Raise v) (Word n) in
    let on = on_page g (m.view a) v (IsWet v) ready.allowed.permitted.wet in
    let few : n ≤ most_raises = ready.fits.told.said in
    let shaped : IsOpShaped g on.op = all_find page_of on.page (IsOpShaped g) (m.view a).ops on.op (ready.shaped.shape a ready.actor).ops on.here in
    let here : flight_at m a on.page ≡ Some (flight_of on.op) = ap (option_map flight_of) on.here in
    let due : IsTrue on.op.due = wet_due (flight_of on.op) v (h.flights a on.page (flight_of on.op) here).wet on.may in
    let Number : ℕ → Type 0 = λ x. x ≡ n + 1 → CacheLaw g (record { word = written (words.Stamp v) x m.word; view = viewing a new m.view }) in
    let step : Number (n + 1) = λ _. cache_raised g m a on.page v (n + 1) (flight_of on.op) new refl here due (shaped.due due) refl
    (flight_sets g m (written (words.Stamp v) (n + 1) m.word) a v on.page (raised_to v (n + 1)) on.op new (λ o. refl) refl on.of on.here) ready.shaped h in
    let whole : (n + 1) % 2 ^ 64 ≡ n + 1 = omega (arith, few) in
    subst Number (sym whole) step whole

-- The view at each stage of an access.
use Rattle.std.proofs.Common.{◌≡◌, ◌≢◌, ◌⊎◌, inl, inr, ℕ, ◌&&◌, ◌||◌, not, Bool, true, false, IsTrue, List, [], Option, Some, None, IsSome, IfSome, IsSomeAnd, refl, sym, ◌∙◌, subst, arith}
use Rattle.std.proofs.lemmas.Bool.{cases_eq}
use Rattle.nm_base.specs.Geometry.{Geometry, backing_page}
use Rattle.nm_base.specs.PageWord.{is_writable, is_dirty}
use Rattle.nm_base.specs.Ranges.{IsVPage, IsIndex}
use Rattle.nm_action.specs.declared.action.Action.TheVariants.{Look, Walk, Peek}
use Rattle.nm_action.specs.declared.action.Reply.{Reply}
use Rattle.nm_action.specs.declared.action.Reply.TheVariants.{Done, Word}
use Rattle.nm_view.specs.declared.view.CacheEntry.{CacheEntry}
use Rattle.nm_view.specs.Lists.{find, put}
use Rattle.nm_view.specs.Views.{Op, View, off_word, end_word}
use Rattle.nm_view.specs.Operations.{cached_page, peeked_page}
use Rattle.nm_view.proofs.Finds.{find_put, find_put_other}
use Rattle.nm_permit.specs.Permitted.{Allowed}
use Rattle.nm_event.specs.After.{after_of, edit_of, walked}
use Rattle.nm_actor.specs.Actors.{IsPermittedTurn}
use Rattle.nm_xlat.specs.declared.translations.Entry.{Entry}
use Rattle.nm_xlat.specs.declared.xlat_cache.CachedPage.{CachedPage}
use Rattle.nm_xlat.specs.Entries.{entry_at}
use Rattle.nm_xlat.proofs.Lookups.{this_page_at-put, other_pages_at-put}
use Rattle.nm_setcache.specs.SetAssociative.{SetAssociative, put_in_set, entries_of_set}
use Rattle.nm_catchup.specs.CatchUp.{Kept, entry_of}
use Rattle.nm_catchup.specs.Catching.{entry_in, fresh_peek, AreCached, IsAcked, IsKeptWith}
use Rattle.nm_catchup.proofs.Entries.{acked-as, kept-as, is-some}
use Rattle.nm_access.specs.declared.made.Touch.{Touch}
use Rattle.nm_access.specs.declared.made.Touch.TheVariants as touches
use Rattle.nm_access.specs.declared.made.AccessMade.{AccessMade}
use Rattle.nm_access.specs.declared.access.AccessStage.{AccessStage}
use Rattle.nm_access.specs.declared.access.AccessStage.TheVariants.{Resting, CatchingUp, Peeking, Looking, Faulting, Waiting, Softening, Walking, Marking, Putting, Unmarking, Touching}
use Rattle.nm_access.specs.Accesses.{is_write, touch_action, serves, walked_entry}
use Rattle.nm_access.specs.Accessing.{IsTouchWord, IsAccessMade, IsAccessReady, IsPeeked, MayBeWalked, IsAccessServed, KnownInAccess, access_turn}

-- Permitted turns.

false-true : false ≡ true → ⊥
false-true e = cc

-- what was acknowledged last is a number
running : (view : View) (acked : Option ℕ) → IsSome acked → IfSome acked (IsAcked view) → (view.acked ≢ off_word) × (view.acked ≢ end_word)
running view None on h = absurd (false-true on)
running view (Some number) on h = (λ e. omega (arith, e, h.is, h.most), λ e. omega (arith, e, h.is, h.most))

-- a translation that serves
pub record Serving (touch : Touch) (o : Option Entry) : Type 0 where
  pub entry : Entry
  pub is : o ≡ Some entry
  pub dirty : is_write touch ≡ true → entry.dirty ≡ true

dirty-if : (touch : Touch) (dirty : Bool) → (not (is_write touch) || dirty) ≡ true → is_write touch ≡ true → dirty ≡ true
dirty-if touches.Load dirty h w = absurd (false-true w)
dirty-if (touches.Store x) dirty h w = h
dirty-if (touches.Add x) dirty h w = h

serving : (touch : Touch) (o : Option Entry) → serves touch o ≡ true → Serving touch o
serving touch None h = absurd (false-true h)
serving touch (Some e) h = record { entry = e; is = refl; dirty = λ w. dirty-if touch e.dirty h w }

found-dirty : (v : ℕ) (e : Entry) (o : Option CacheEntry) → o ≡ Some (entry_in v e) → e.dirty ≡ true → IsSomeAnd o (λ x. IsTrue x.dirty)
found-dirty v e o is dirty = rw is dirty

pub touch-allowed : (g : Geometry) (made : AccessMade) (touch : Touch) (kept : Kept) (view : View) → IsVPage g made.vpage → IsIndex g made.word → IsTouchWord touch → IsKeptWith g kept view
    → serves touch (entry_of kept made.vpage) ≡ true → Allowed g view (touch_action made touch)
touch-allowed g made touches.Load kept view vpage index value all served =
    let s = serving touches.Load (entry_of kept made.vpage) served in
    record { range = record { vpage = vpage; index = index }; permitted = record { processor = all.processor; cached = is-some (find cached_page made.vpage view.cache) (entry_in made.vpage s.entry) (all.cached made.vpage s.entry s.is) } }
touch-allowed g made (touches.Store x) kept view vpage index value all served =
    let s = serving (touches.Store x) (entry_of kept made.vpage) served in
    record { range = record { vpage = vpage; index = index; value = value }; permitted = record { processor = all.processor; cached = found-dirty made.vpage s.entry (find cached_page made.vpage view.cache) (all.cached made.vpage s.entry s.is) (s.dirty refl) } }
touch-allowed g made (touches.Add x) kept view vpage index value all served =
    let s = serving (touches.Add x) (entry_of kept made.vpage) served in
    record { range = record { vpage = vpage; index = index; value = value }; permitted = record { processor = all.processor; cached = found-dirty made.vpage s.entry (find cached_page made.vpage view.cache) (all.cached made.vpage s.entry s.is) (s.dirty refl) } }

pub permitted-turn : (g : Geometry) (made : AccessMade) (stage : AccessStage) (kept : Kept) (view : View) → IsAccessMade g made → KnownInAccess g made stage kept view → IsPermittedTurn g view (access_turn made stage)
permitted-turn g made Resting kept view may known = absurd known
permitted-turn g made CatchingUp kept view may known = absurd known
permitted-turn g made Peeking kept view may known = record { range = may.vpage; permitted = known.all.processor }
permitted-turn g made (Looking stamp) kept view may known = record { range = may.vpage; permitted = tt }
permitted-turn g made Faulting kept view may known = absurd known
permitted-turn g made (Waiting action) kept view may known = absurd known
permitted-turn g made Softening kept view may known = record { range = may.vpage; permitted = tt }
permitted-turn g made (Walking stamp word) kept view may known =
    let ready = known.peeked.ready in
    let on = running view kept.acked ready.on ready.all.acked in
    record {
      range = may.vpage;
      permitted = record {
        processor = ready.all.processor;
        on = on.0;
        running = on.1;
        peek = is-some (find peeked_page made.vpage view.peeked) (fresh_peek made.vpage stamp) known.peeked.peek;
        present = known.present;
        hint = known.hint;
        writable = known.writable;
      };
    }
permitted-turn g made Marking kept view may known = record { range = may.page; permitted = inl (inl (record { old_is = refl; new_is = refl })) }
permitted-turn g made Putting kept view may known = tt
permitted-turn g made Unmarking kept view may known = record { range = may.page; permitted = inl (inr (inl (record { old_is = refl; new_is = refl }))) }
permitted-turn g made Touching kept view may known = touch-allowed g made made.touch kept view may.vpage may.index may.value known.ready.all known.served

-- The view after a turn.

pub ready-as : (g : Geometry) (kept : Kept) (view later : View) → later.number ≡ view.number → later.cache ≡ view.cache → later.acked ≡ view.acked → later.ops ≡ [] → later.owned ≡ view.owned → later.turn ≡ view.turn → IsAccessReady g kept view → IsAccessReady g kept later
ready-as g kept view later number cache acked ops owned turn h = record { all = kept-as g kept view later number cache acked h.all; on = h.on; free = record { ops = ops; owned = owned ∙ h.free.owned; turn = turn ∙ h.free.turn } }

pub peeked-then : (g : Geometry) (made : AccessMade) (kept : Kept) (view : View) (stamp : ℕ) → IsAccessReady g kept view → IsPeeked g made stamp kept (after_of g view (Peek made.vpage) (Word stamp))
peeked-then g made kept view stamp h = record {
  ready = ready-as g kept view (after_of g view (Peek made.vpage) (Word stamp)) refl refl refl h.free.ops refl refl h;
  peek = find_put peeked_page (fresh_peek made.vpage stamp) view.peeked;
}

edit-none : (g : Geometry) (v page : ℕ) (f : Op → Op) (ops : List Op) → backing_page g v ≡ Some page → ops ≡ [] → edit_of g v f ops ≡ []
edit-none g v page f ops mapped none = rw (mapped, none) refl

pub looked-then : (g : Geometry) (made : AccessMade) (kept : Kept) (view : View) (stamp word : ℕ) → IsAccessMade g made → IsPeeked g made stamp kept view → IsPeeked g made stamp kept (after_of g view (Look made.vpage) (Word word))
looked-then g made kept view stamp word may h = record {
  ready = ready-as g kept view (after_of g view (Look made.vpage) (Word word)) refl refl refl (edit-none g made.vpage made.page _ view.ops may.mapped h.ready.free.ops) refl refl h.ready;
  peek = h.peek;
}

-- A walk that was done.

walked-is : (view : View) (made : AccessMade) (word stamp : ℕ) → find peeked_page made.vpage view.peeked ≡ Some (fresh_peek made.vpage stamp)
    → walked view made.vpage word (is_write made.touch) ≡ entry_in made.vpage (walked_entry made word stamp)
walked-is view made word stamp peek = rw peek refl

abbrev pub page_walked : AccessMade → ℕ → ℕ → CachedPage
page_walked made word stamp = record { page = made.vpage; entry = walked_entry made word stamp }

some-same : (a b : Entry) → Some a ≡ Some b → a ≡ b
some-same a b e = cc

none-some : (e : Entry) (o : Option Entry) → o ≡ None → o ≡ Some e → ⊥
none-some e o n s = cc

-- the entry of a page after a put: that which was put, or what was there
put-entry : (x : CachedPage) (c : SetAssociative) (page : ℕ) (e : Entry) → entry_at page (put_in_set x c).entries ≡ Some e → ((page ≡ x.page) × (e ≡ x.entry)) ⊎ ((page ≢ x.page) × (entry_at page c.entries ≡ Some e))
put-entry x c page e there = elim (cases_eq page x.page) [
  | inl same ↦ let P : ℕ → Type 0 = λ p. entry_at p (put_in_set x c).entries ≡ Some e in
      inl (same, some-same e x.entry (sym (subst P same there) ∙ this_page_at-put x _))
  | inr other ↦ elim (other_pages_at-put x c.ways (entries_of_set c.sets x.page c.entries) c.entries page other) [
    | inl stays ↦ inr (other, sym stays ∙ there)
    | inr gone ↦ absurd (none-some e (entry_at page (put_in_set x c).entries) gone there)
  ]
]

walked-cached : (made : AccessMade) (word stamp : ℕ) (kept : Kept) (view : View) (page : ℕ) (e : Entry) → find peeked_page made.vpage view.peeked ≡ Some (fresh_peek made.vpage stamp) → AreCached kept view
    → ((page ≡ made.vpage) × (e ≡ walked_entry made word stamp)) ⊎ ((page ≢ made.vpage) × (entry_of kept page ≡ Some e))
    → find cached_page page (put cached_page (walked view made.vpage word (is_write made.touch)) view.cache) ≡ Some (entry_in page e)
walked-cached made word stamp kept view page e peek cached (inl same) =
    let x = entry_in made.vpage (walked_entry made word stamp) in
    let here : find cached_page made.vpage (put cached_page x view.cache) ≡ Some x = find_put cached_page x view.cache in
    let P : ℕ → Type 0 = λ p. find cached_page p (put cached_page x view.cache) ≡ Some (entry_in p (walked_entry made word stamp)) in
    let Q : Entry → Type 0 = λ y. find cached_page page (put cached_page x view.cache) ≡ Some (entry_in page y) in
    rw (walked-is view made word stamp peek) (subst Q (sym same.1) (subst P (sym same.0) here))
walked-cached made word stamp kept view page e peek cached (inr other) =
    let w = walked view made.vpage word (is_write made.touch) in
    find_put_other cached_page w page view.cache (λ same. other.0 (sym same)) ∙ cached page e other.1

some-entry : (o : Option Entry) → IsSome o → (e : Entry) × (o ≡ Some e)
some-entry None h = absurd (false-true h)
some-entry (Some e) h = (e, refl)

walked-range : (g : Geometry) (made : AccessMade) (word stamp : ℕ) (kept : Kept) (page : ℕ) → IsVPage g made.vpage → ((w : ℕ) → IsSome (entry_of kept w) → IsVPage g w) → IsSome (entry_at page (put_in_set (page_walked made word stamp) kept.cache).entries) → IsVPage g page
walked-range g made word stamp kept page vpage range there =
    let x = some-entry (entry_at page (put_in_set (page_walked made word stamp) kept.cache).entries) there in
    elim (put-entry (page_walked made word stamp) kept.cache page x.0 x.1) [
      | inl same ↦ subst (λ p. IsVPage g p) (sym same.0) vpage
      | inr other ↦ range page (is-some (entry_of kept page) x.0 other.1)
    ]

serves-write : (touch : Touch) (writable dirty : Bool) → (is_write touch ≡ true → writable ≡ true) → (not (is_write touch) || (writable && (is_write touch || dirty))) ≡ true
serves-write touches.Load writable dirty h = refl
serves-write (touches.Store x) writable dirty h = rw (h refl) refl
serves-write (touches.Add x) writable dirty h = rw (h refl) refl

abbrev pub kept_walked : AccessMade → ℕ → ℕ → Kept → Kept
kept_walked made word stamp kept = record kept { cache = put_in_set (page_walked made word stamp) kept.cache }

pub walked-then : (g : Geometry) (made : AccessMade) (kept : Kept) (view : View) (stamp word : ℕ) → IsAccessMade g made → MayBeWalked g made stamp word kept view
    → IsAccessServed g made (kept_walked made word stamp kept) (after_of g view (Walk made.vpage word (is_write made.touch)) Done)
walked-then g made kept view stamp word may h =
    let all = h.peeked.ready.all in
    let now : entry_of (kept_walked made word stamp kept) made.vpage ≡ Some (walked_entry made word stamp) = this_page_at-put (page_walked made word stamp) _ in
    record {
      ready = record {
        all = record {
          geometry = all.geometry;
          processor = all.processor;
          range = λ page there. walked-range g made word stamp kept page may.vpage all.range there;
          cached = λ page e there. walked-cached made word stamp kept view page e h.peeked.peek all.cached (put-entry (page_walked made word stamp) kept.cache page e there);
          acked = acked-as kept.acked view (after_of g view (Walk made.vpage word (is_write made.touch)) Done) refl all.acked;
        };
        on = h.peeked.ready.on;
        free = record { ops = h.peeked.ready.free.ops; owned = h.peeked.ready.free.owned; turn = h.peeked.ready.free.turn };
      };
      served = rw now (serves-write made.touch (is_writable word) (is_dirty word) h.writable);
    }

-- a touch leaves the view as it is
pub touched-then : (g : Geometry) (made : AccessMade) (touch : Touch) (view : View) (reply : Reply) → after_of g view (touch_action made touch) reply ≡ view
touched-then g made touches.Load view reply = refl
touched-then g made (touches.Store x) view reply = refl
touched-then g made (touches.Add x) view reply = refl

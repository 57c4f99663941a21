-- Entries that are kept, beside the view.
use Rattle.std.proofs.Common.{◌≡◌, ◌≢◌, ℕ, ◌+◌, ◌≤◌, eqb, cond, Bool, true, false, List, [], ◌∷◌, length, Option, Some, None, IsSome, IfSome, inl, inr, refl, sym, ap, ◌∙◌, subst, arith}
use Rattle.std.specs.List.{filter}
use Rattle.std.proofs.lemmas.Bool.{cases_eq, eqb-true, eq-eqb, ne_eqb}
use Rattle.nm_base.specs.Geometry.{Geometry}
use Rattle.nm_action.specs.declared.action.AckTo.TheVariants.{Seen}
use Rattle.nm_action.specs.declared.action.Action.TheVariants.{Peek, Poll, Ack}
use Rattle.nm_action.specs.declared.action.Reply.TheVariants.{Done, Word}
use Rattle.nm_view.specs.declared.view.Peeked.{Peeked}
use Rattle.nm_view.specs.Lists.{find, put}
use Rattle.nm_view.specs.Views.{View, most_bumps}
use Rattle.nm_view.specs.Operations.{cached_page, peeked_page}
use Rattle.nm_view.proofs.Finds.{find_put, find_put_other}
use Rattle.nm_event.specs.After.{after_of, is_confirmed}
use Rattle.nm_xlat.specs.declared.translations.Entry.{Entry}
use Rattle.nm_xlat.proofs.Lookups.{entry_at-entries_without}
use Rattle.nm_catchup.specs.CatchUp.{Kept, entry_of, has_stamp, kept_without, peeked_with}
use Rattle.nm_catchup.specs.Catching.{entry_in, IsAcked, IsKeptWith, fresh_peek, HasPeeked}

-- the first item of a number is found among those that pass a test, where it passes
find-filter : {A : Type 0} (key : A → ℕ) (test : A → Bool) (k : ℕ) (xs : List A) (x : A) → find key k xs ≡ Some x → test x ≡ true → find key k (filter test xs) ≡ Some x
find-filter key test k [] x found passes = found
find-filter key test k (y ∷ ys) x found passes = grind (arith, find-filter key test k ys x)

-- The entries after a Peek.

none-some : {A : Type 0} (x : A) → None ≡ Some x → ⊥
none-some x e = cc

without-other : (kept : Kept) (page w : ℕ) (e : Entry) → entry_of (kept_without page kept) w ≡ Some e → (w ≢ page) × (entry_of kept w ≡ Some e)
without-other kept page w e h =
    let is : entry_of (kept_without page kept) w ≡ cond (eqb w page) None (entry_of kept w) = entry_at-entries_without w page kept.cache.entries in
    let told : cond (eqb w page) None (entry_of kept w) ≡ Some e = sym is ∙ h in
    elim (cases_eq w page) [
      | inl same ↦ absurd (none-some e (rw (eq-eqb w page same) at told))
      | inr other ↦ (other, rw (ne_eqb w page other) at told)
    ]

stamp-of : (o : Option Entry) (stamp : ℕ) (e : Entry) → true ≡ has_stamp o stamp → o ≡ Some e → e.stamp ≡ stamp
stamp-of None stamp e is h = absurd (none-some e h)
stamp-of (Some x) stamp e is h = let same : x ≡ e = cc in subst (λ (y : Entry). y.stamp ≡ stamp) same (eqb-true x.stamp stamp (sym is))

-- an entry that stays stood there before, and if it is of the page that was peeked it has the stamp
stays : (kept : Kept) (page stamp w : ℕ) (e : Entry) (test : Bool) → test ≡ has_stamp (entry_of kept page) stamp
    → entry_of (cond test kept (kept_without page kept)) w ≡ Some e → (entry_of kept w ≡ Some e) × (w ≡ page → e.stamp ≡ stamp)
stays kept page stamp w e true is h = (h, λ same. stamp-of (entry_of kept page) stamp e is (subst (λ p. entry_of kept p ≡ Some e) same h))
stays kept page stamp w e false is h = let o = without-other kept page w e h in (o.1, λ same. absurd (o.0 same))

-- an entry after a Peek
pub peeked-entry : (kept : Kept) (page stamp w : ℕ) (e : Entry) → entry_of (peeked_with page stamp kept) w ≡ Some e → (entry_of kept w ≡ Some e) × (w ≡ page → e.stamp ≡ stamp)
peeked-entry kept page stamp w e h = stays kept page stamp w e (has_stamp (entry_of kept page) stamp) refl h

acked-peeked : (kept : Kept) (page stamp : ℕ) (test : Bool) → (cond test kept (kept_without page kept)).acked ≡ kept.acked
acked-peeked kept page stamp true = refl
acked-peeked kept page stamp false = refl

false-true : false ≡ true → ⊥
false-true e = cc

some-is : {A : Type 0} (o : Option A) → IsSome o → (x : A) × (o ≡ Some x)
some-is None h = absurd (false-true h)
some-is (Some x) h = (x, refl)

pub is-some : {A : Type 0} (o : Option A) (x : A) → o ≡ Some x → IsSome o
is-some o x e = rw e refl

-- What is kept, beside a view that changed.

pub acked-as : (o : Option ℕ) (view later : View) → later.acked ≡ view.acked → IfSome o (IsAcked view) → IfSome o (IsAcked later)
acked-as None view later same h = h
acked-as (Some number) view later same h = record { is = same ∙ h.is; most = h.most }

-- it is kept where the number, the cache and the acknowledgement stay
pub kept-as : (g : Geometry) (kept : Kept) (view later : View) → later.number ≡ view.number → later.cache ≡ view.cache → later.acked ≡ view.acked → IsKeptWith g kept view → IsKeptWith g kept later
kept-as g kept view later number cache acked h = record {
  geometry = h.geometry;
  processor = rw number h.processor;
  range = h.range;
  cached = λ page e at. rw cache (h.cached page e at);
  acked = acked-as kept.acked view later acked h.acked;
}

-- fewer entries are kept
fewer-kept : (g : Geometry) (kept fewer : Kept) (view : View) → fewer.acked ≡ kept.acked → ((page : ℕ) (e : Entry) → entry_of fewer page ≡ Some e → entry_of kept page ≡ Some e) → IsKeptWith g kept view → IsKeptWith g fewer view
fewer-kept g kept fewer view acked from h = record {
  geometry = h.geometry;
  processor = h.processor;
  range = λ page there. let x = some-is (entry_of fewer page) there in h.range page (is-some (entry_of kept page) x.0 (from page x.0 x.1));
  cached = λ page e at. h.cached page e (from page e at);
  acked = rw acked h.acked;
}

-- The view after each action.

-- the number was polled
pub polled-news : (g : Geometry) (kept : Kept) (view : View) (number : ℕ) → IsKeptWith g kept view → number ≤ most_bumps → HasPeeked g number 0 kept (after_of g view Poll (Word number))
polled-news g kept view number h most = record {
  all = kept-as g kept view (after_of g view Poll (Word number)) refl refl refl h;
  polled = refl;
  most = most;
  peeked = λ page e lt at. absurd (omega (arith, lt));
}

peek-found : (w page : ℕ) (e : Entry) (stamp : ℕ) (peeked : List Peeked) → (w ≡ page → e.stamp ≡ stamp) → (w ≢ page → find peeked_page w peeked ≡ Some (fresh_peek w e.stamp))
    → find peeked_page w (put peeked_page (fresh_peek page stamp) peeked) ≡ Some (fresh_peek w e.stamp)
peek-found w page e stamp peeked same other = elim (cases_eq w page) [
  | inl is ↦ let now : fresh_peek page stamp ≡ fresh_peek w e.stamp = let s = same is in cc in
      subst (λ (k : ℕ). find peeked_page k (put peeked_page (fresh_peek page stamp) peeked) ≡ Some (fresh_peek w e.stamp)) (sym is) (find_put peeked_page (fresh_peek page stamp) peeked ∙ ap Some now)
  | inr not ↦ find_put_other peeked_page (fresh_peek page stamp) w peeked (λ is. not (sym is)) ∙ other not
]

-- a page was peeked
pub peeked-one : (g : Geometry) (kept : Kept) (view : View) (number page stamp : ℕ) → HasPeeked g number page kept view
    → HasPeeked g number (page + 1) (peeked_with page stamp kept) (after_of g view (Peek page) (Word stamp))
peeked-one g kept view number page stamp h =
    let from = peeked-entry kept page stamp in
    record {
      all = kept-as g (peeked_with page stamp kept) view (after_of g view (Peek page) (Word stamp)) refl refl refl
          (fewer-kept g kept (peeked_with page stamp kept) view (acked-peeked kept page stamp (has_stamp (entry_of kept page) stamp)) (λ w e at. (from w e at).0) h.all);
      polled = h.polled;
      most = h.most;
      peeked = λ w e lt at. peek-found w page e stamp view.peeked (from w e at).1 (λ other. h.peeked w e (omega (arith, lt, other)) (from w e at).0);
    }

confirmed : (page : ℕ) (e : Entry) (peeked : List Peeked) → find peeked_page page peeked ≡ Some (fresh_peek page e.stamp) → is_confirmed peeked (entry_in page e) ≡ true
confirmed page e peeked found = rw found (eq-eqb e.stamp e.stamp refl)

-- the number was acknowledged
pub acknowledged : (g : Geometry) (kept : Kept) (view : View) (number : ℕ) → HasPeeked g number (length g.vpages) kept view → IsKeptWith g (record kept { acked = Some number }) (after_of g view (Ack Seen) Done)
acknowledged g kept view number h = record {
  geometry = h.all.geometry;
  processor = h.all.processor;
  range = h.all.range;
  cached = λ page e at. find-filter cached_page (is_confirmed view.peeked) page view.cache (entry_in page e) (h.all.cached page e at)
      (confirmed page e view.peeked (h.peeked page e (h.all.range page (is-some (entry_of kept page) e at)) at));
  acked = record { is = h.polled; most = h.most };
}

-- The cache law in pieces: what is kept of an entry, of what a processor caches, and of the whole.
use Rattle.std.proofs.Common.{◌≡◌, ◌≢◌, ℕ, ◌+◌, ◌<◌, ◌≤◌, false, [], Option, Some, None, IsSome, IsSomeAnd, IsTrue, All, refl, sym, ap, subst, ◌∙◌, ◌⊎◌, inl, inr, arith}
use Rattle.std.specs.Prelude.{option_map}
use Rattle.std.proofs.Math.Path.{fun_ext}
use Rattle.std.proofs.lemmas.Bool.{cases_eq, cases_lt}
use Rattle.nm_base.specs.Geometry.{Geometry, backing_page}
use Rattle.nm_view.specs.declared.view.CacheEntry.{CacheEntry}
use Rattle.nm_view.specs.declared.view.Peeked.{Peeked}
use Rattle.nm_view.specs.Lists.{find, itself}
use Rattle.nm_view.specs.Views.{View, off_word, end_word}
use Rattle.nm_view.specs.Operations.{op_on}
use Rattle.nm_view.proofs.Items.{all_same, none_left, some_same, not_none}
use Rattle.nm_words.specs.declared.names.Where.{Where}
use Rattle.nm_words.specs.declared.names.Where.TheVariants.{Req, Pte, Stamp, Home, Ack}
use Rattle.nm_world.specs.Worlds.{World, written, viewing, pte_at, stamp_at, home_at, ack_at}
use Rattle.nm_world.specs.Parts.{Flight, flight_of, desk_of, flight_at, desk_at}
use Rattle.nm_world.specs.Notions.{IsBumpCount, IsStanding, Owes, IsOwed}
use Rattle.nm_world.specs.ShapeLaw.{ShapeLaw}
use Rattle.nm_world.specs.CacheLaw.{IsEntrySound, IsPeekSound, IsDeskSound, IsFlightSound, CacheLaw}
use Rattle.nm_world.proofs.Choose.{choose, choose_name}
use Rattle.nm_world.proofs.Writing.{each_view}

-- Options.

-- what follows of a known value
pub some_more : {A : Type 0} (o : Option A) (P Q : A → Type 0) → ((x : A) → o ≡ Some x → P x → Q x) → IsSomeAnd o P → IsSomeAnd o Q
some_more None P Q step h = absurd h
some_more (Some x) P Q step h = step x refl h

-- the operation of which a part was found
pub part_from : {A B : Type 0} (part : A → B) (found : Option A) (p : B) → option_map part found ≡ Some p → (o : A) × ((found ≡ Some o) × (part o ≡ p))
part_from part None p is = absurd (not_none p is)
part_from part (Some o) p is = (o, (refl, some_same (part o) p is))

-- what an optional item is known to be
pub some_parts : {A : Type 0} (found : Option A) (P : A → Type 0) → IsSomeAnd found P → (x : A) × ((found ≡ Some x) × P x)
some_parts None P h = absurd h
some_parts (Some x) P h = (x, (refl, h))

pub some_at : {A : Type 0} (found : Option A) (x : A) (P : A → Type 0) → found ≡ Some x → P x → IsSomeAnd found P
some_at found x P is p = rw is p

pub is_some : {A : Type 0} (found : Option A) (x : A) → found ≡ Some x → IsSome found
is_some found x is = rw is cc

pub not_true : IsTrue false → ⊥
not_true h = cc

-- Processors that cache.

-- p is a processor whose acknowledgement is a number
pub record IsRunning (g : Geometry) (m : World) (p : ℕ) : Type 0 where
  pub processor : p < g.cpus
  pub number : IsBumpCount (ack_at m p)

-- an acknowledgement is a number, or it is none
pub number_or : (n : ℕ) → IsBumpCount n ⊎ ¬ IsBumpCount n
number_or n =
    elim (cases_eq n off_word) [
      | inl off ↦ inr (λ h. h.on off)
      | inr on ↦ elim (cases_eq n end_word) [
        | inl ended ↦ inr (λ h. h.running ended)
        | inr running ↦ inl (record { on = on; running = running })
      ]
    ]

-- no actor but a processor caches
pub no_cache : (g : Geometry) (m : World) (p : ℕ) → ShapeLaw g m → g.cpus ≤ p → (desk_at m p).cache ≡ []
no_cache g m p shape past =
    elim (cases_lt p (g.cpus + 2)) [
      | inl there ↦ (shape.shape p there).processor (omega (arith, past, shape.number p))
      | inr out ↦ ap (λ (v : View). v.cache) (shape.nobody p (λ is. omega (arith, is, out)))
    ]

-- who caches runs
pub caches_or_runs : (g : Geometry) (m : World) (p : ℕ) → ShapeLaw g m → CacheLaw g m → ((desk_at m p).cache ≡ []) ⊎ IsRunning g m p
caches_or_runs g m p shape h =
    elim (cases_lt p g.cpus) [
      | inr past ↦ inl (no_cache g m p shape past)
      | inl there ↦ elim (number_or (ack_at m p)) [
        | inl number ↦ inr (record { processor = there; number = number })
        | inr none ↦ inl ((h.desks p).off there none)
      ]
    ]

-- what holds of each entry of a processor that runs holds of all that is cached
pub each_entry : (g : Geometry) (m : World) (p : ℕ) (Q : CacheEntry → Type 0) → ShapeLaw g m → CacheLaw g m → (IsRunning g m p → (e : CacheEntry) → IsEntrySound g m p e → Q e) → All Q (desk_at m p).cache
each_entry g m p Q shape h step =
    elim (caches_or_runs g m p shape h) [
      | inl none ↦ subst (All Q) (sym none) (none_left Q)
      | inr runs ↦ all_same (IsEntrySound g m p) Q (desk_at m p).cache (step runs) (h.desks p).entries
    ]

-- Entries.

-- an entry stands on its table word, or is owed a flush
abbrev pub Stands : Geometry → World → ℕ → CacheEntry → Type 0
Stands g m p e = IsStanding (pte_at m e.vpage) e ⊎ IsOwed g m p e

-- raises and bumps do not become fewer
pub record GoesOn (m m' : World) : Type 0 where
  pub stamps : (v : ℕ) → stamp_at m v ≤ stamp_at m' v
  pub req : m.word Req ≤ m'.word Req

pub entry_kept : (g : Geometry) (m m' : World) (p : ℕ) (e : CacheEntry) → GoesOn m m' → ((b : ℕ) → home_at m' b ≡ home_at m b) → (Stands g m p e → Stands g m' p e) → IsEntrySound g m p e → IsEntrySound g m' p e
entry_kept g m m' p e goes homes stands h = record {
  stamp = omega (arith, h.stamp, goes.stamps e.vpage);
  home = some_more (backing_page g e.vpage) _ _ (λ b _ is. homes b ∙ is) h.home;
  stands = stands h.stands;
}

-- what is owed is owed after a step at which operations and the acknowledgement are as before
pub owed_still : (g : Geometry) (m m' : World) (p : ℕ) (e : CacheEntry) → ack_at m' p ≡ ack_at m p → ((c j : ℕ) → flight_at m' c j ≡ flight_at m c j) → IsOwed g m p e → IsOwed g m' p e
owed_still g m m' p e ack flights h = record {
  actor = h.actor;
  page = h.page;
  op = h.op;
  of = h.of;
  here = flights h.actor h.page ∙ h.here;
  owes = subst (λ (n : ℕ). Owes n p h.op) (sym ack) h.owes;
  meant = h.meant;
}

-- where entries go on standing on their table words, and nothing else changes, each stands or is owed as before
pub stands_still : (g : Geometry) (m m' : World) (p : ℕ) (e : CacheEntry) → (IsStanding (pte_at m e.vpage) e → IsStanding (pte_at m' e.vpage) e) → ack_at m' p ≡ ack_at m p → ((c j : ℕ) → flight_at m' c j ≡ flight_at m c j) → Stands g m p e → Stands g m' p e
stands_still g m m' p e stands ack flights (inl is) = inl (stands is)
stands_still g m m' p e stands ack flights (inr owed) = inr (owed_still g m m' p e ack flights owed)

-- Desks.

-- what a processor caches and has seen stays sound: its entries stay so, and its fresh peeks are no older than the flushes
pub desk_kept : (g : Geometry) (m m' : World) (p : ℕ) → GoesOn m m' → ack_at m' p ≡ ack_at m p → (IsRunning g m p → (e : CacheEntry) → IsEntrySound g m p e → IsEntrySound g m' p e) → ((a b : ℕ) (o : Flight) → flight_at m' a b ≡ Some o → All (IsPeekSound (desk_at m p).req_seen o) (desk_at m p).peeked) → ShapeLaw g m → CacheLaw g m → IsDeskSound g m' p (desk_at m p)
desk_kept g m m' p goes ack entries fresh shape h =
    let was = h.desks p in
    record {
      acked = λ there. was.acked there ∙ sym ack;
      off = λ there none. was.off there (λ number. none (subst IsBumpCount (sym ack) number));
      polled = λ number. let before : (desk_at m p).req_seen ≤ m.word Req = was.polled number in omega (arith, before, goes.req);
      entries = each_entry g m p (IsEntrySound g m' p) shape h entries;
      peeks = all_same (λ (k : Peeked). k.stamp ≤ stamp_at m k.vpage) (λ k. k.stamp ≤ stamp_at m' k.vpage) (desk_at m p).peeked (λ k le. omega (arith, le, goes.stamps k.vpage)) was.peeks;
      fresh = fresh;
    }

-- an acknowledgement that is as before is no more than the bumps
pub ack_kept : (g : Geometry) (m m' : World) (p : ℕ) → GoesOn m m' → ack_at m' p ≡ ack_at m p → CacheLaw g m → p < g.cpus → IsBumpCount (ack_at m' p) → ack_at m' p ≤ m'.word Req
ack_kept g m m' p goes ack h there number =
    let before : ack_at m p ≤ m.word Req = h.acks p there (subst IsBumpCount ack number) in
    omega (arith, before, ack, goes.req)

-- the flushes of an operation stay sound where raises do not become fewer
pub flight_kept : (m m' : World) (o : Flight) → ((v : ℕ) → stamp_at m v ≤ stamp_at m' v) → IsFlightSound m o → IsFlightSound m' o
flight_kept m m' o stamps h = record {
  raised = all_same (λ (p : ℕ × ℕ). p.1 ≤ stamp_at m p.0) (λ p. p.1 ≤ stamp_at m' p.0) o.raised (λ p le. omega (arith, le, stamps p.0)) h.raised;
  wet = h.wet;
}

-- a wet page is of a due operation
pub wet_due : (o : Flight) (v : ℕ) → IsTrue o.due ⊎ (o.wet ≡ []) → IsSome (find itself v o.wet) → IsTrue o.due
wet_due o v (inl due) wet = due
wet_due o v (inr none) wet = absurd (let nothing : find itself v o.wet ≡ None = ap (find itself v) none in let bad : ⊥ = cc in bad)

-- Whole laws.

-- where desks and acknowledgements are as before, the law is kept if each entry stays sound, each operation's flushes are,
-- and fresh peeks are no older than they
pub law_kept : (g : Geometry) (m m' : World) → GoesOn m m' → ((p : ℕ) → ack_at m' p ≡ ack_at m p) → ((p : ℕ) → desk_at m' p ≡ desk_at m p) → ((p : ℕ) → IsRunning g m p → (e : CacheEntry) → IsEntrySound g m p e → IsEntrySound g m' p e) → ((a b : ℕ) (o : Flight) → flight_at m' a b ≡ Some o → IsFlightSound m' o) → ((p a b : ℕ) (o : Flight) → flight_at m' a b ≡ Some o → All (IsPeekSound (desk_at m p).req_seen o) (desk_at m p).peeked) → ShapeLaw g m → CacheLaw g m → CacheLaw g m'
law_kept g m m' goes acks desks entries flights fresh shape h = record {
  acks = λ p. ack_kept g m m' p goes (acks p) h;
  desks = λ p. subst (IsDeskSound g m' p) (sym (desks p)) (desk_kept g m m' p goes (acks p) (entries p) (fresh p) shape h);
  flights = flights;
}

-- Steps that leave the operations' flushes.

-- all but the table, the caches and what was seen is as before
pub record LeavesFlights (m m' : World) : Type 0 where
  pub stamps : (v : ℕ) → stamp_at m' v ≡ stamp_at m v
  pub homes : (b : ℕ) → home_at m' b ≡ home_at m b
  pub req : m'.word Req ≡ m.word Req
  pub flights : (c j : ℕ) → flight_at m' c j ≡ flight_at m c j

pub leaves_on : (m m' : World) → LeavesFlights m m' → GoesOn m m'
leaves_on m m' h = record { stamps = λ v. omega (arith, h.stamps v); req = omega (arith, h.req) }

-- the entries of a processor stay sound where they go on standing on the table
pub entry_still : (g : Geometry) (m m' : World) (p : ℕ) (e : CacheEntry) → LeavesFlights m m' → ack_at m' p ≡ ack_at m p → (IsStanding (pte_at m e.vpage) e → IsStanding (pte_at m' e.vpage) e) → IsEntrySound g m p e → IsEntrySound g m' p e
entry_still g m m' p e leaves ack stands sound = entry_kept g m m' p e (leaves_on m m' leaves) leaves.homes (stands_still g m m' p e stands ack leaves.flights) sound

-- so does all that it caches and has seen
pub desk_still : (g : Geometry) (m m' : World) (p : ℕ) → LeavesFlights m m' → ack_at m' p ≡ ack_at m p → ((e : CacheEntry) → IsStanding (pte_at m e.vpage) e → IsStanding (pte_at m' e.vpage) e) → ShapeLaw g m → CacheLaw g m → IsDeskSound g m' p (desk_at m p)
desk_still g m m' p leaves ack stands shape h =
    desk_kept g m m' p (leaves_on m m' leaves) ack (λ _ e sound. entry_still g m m' p e leaves ack (stands e) sound)
    (λ a b o is. (h.desks p).fresh a b o (sym (leaves.flights a b) ∙ is)) shape h

pub flights_still : (g : Geometry) (m m' : World) → LeavesFlights m m' → CacheLaw g m → (a b : ℕ) (o : Flight) → flight_at m' a b ≡ Some o → IsFlightSound m' o
flights_still g m m' leaves h a b o is = flight_kept m m' o (leaves_on m m' leaves).stamps (h.flights a b o (sym (leaves.flights a b) ∙ is))

-- where table words alone change, and entries go on standing on them
cache_table : (g : Geometry) (m m' : World) → LeavesFlights m m' → ((p : ℕ) → ack_at m' p ≡ ack_at m p) → ((p : ℕ) → desk_at m' p ≡ desk_at m p) → ((e : CacheEntry) → IsStanding (pte_at m e.vpage) e → IsStanding (pte_at m' e.vpage) e) → ShapeLaw g m → CacheLaw g m → CacheLaw g m'
cache_table g m m' leaves acks desks stands shape h = record {
  acks = λ p. ack_kept g m m' p (leaves_on m m' leaves) (acks p) h;
  desks = λ p. subst (IsDeskSound g m' p) (sym (desks p)) (desk_still g m m' p leaves (acks p) stands shape h);
  flights = flights_still g m m' leaves h;
}

-- a step of an actor: what it caches and has seen afterwards is sound
pub desk_step : (g : Geometry) (m : World) (word : Where → ℕ) (a : ℕ) (new : View) → LeavesFlights m (record { word = word; view = viewing a new m.view }) → ((p : ℕ) → p ≢ a → word (Ack p) ≡ ack_at m p) → (a < g.cpus → IsBumpCount (word (Ack a)) → word (Ack a) ≤ word Req) → ((e : CacheEntry) → IsStanding (pte_at m e.vpage) e → IsStanding (word (Pte e.vpage)) e) → IsDeskSound g (record { word = word; view = viewing a new m.view }) a (desk_of new) → ShapeLaw g m → CacheLaw g m → CacheLaw g (record { word = word; view = viewing a new m.view })
desk_step g m word a new leaves acks own_ack stands own shape h =
    let m' : World = record { word = word; view = viewing a new m.view } in
    record {
      acks = λ p. elim (cases_eq p a) [
        | inl same ↦ let Bounded : ℕ → Type 0 = λ n. n < g.cpus → IsBumpCount (word (Ack n)) → word (Ack n) ≤ word Req in subst Bounded (sym same) own_ack
        | inr other ↦ ack_kept g m m' p (leaves_on m m' leaves) (acks p other) h
      ];
      desks = each_view (λ p v. IsDeskSound g m' p (desk_of v)) a new m.view own (λ p other. desk_still g m m' p leaves (acks p other) stands shape h);
      flights = flights_still g m m' leaves h;
    }

-- Words.

-- a word that is written again leaves every word
pub rewritten : (c : Where) (word : Where → ℕ) → written c (word c) word ≡ word
rewritten c word = fun_ext (λ d. choose_name (λ n. n ≡ word d) c d (word c) (word d) (λ same. ap word same) (λ other. refl))

-- the law after a read: of the words as they were
pub after_read : (g : Geometry) (c : Where) (word : Where → ℕ) (views : ℕ → View) → CacheLaw g (record { word = word; view = views }) → CacheLaw g (record { word = written c (word c) word; view = views })
after_read g c word views h = subst (λ (w : Where → ℕ). CacheLaw g (record { word = w; view = views })) (sym (rewritten c word)) h

-- Views.

-- a part of each view that the new one of the actor keeps
pub view_part : {A : Type 0} (part : View → A) (a : ℕ) (new : View) (views : ℕ → View) → part new ≡ part (views a) → (c : ℕ) → part (viewing a new views c) ≡ part (views c)
view_part part a new views same c = choose (λ v. part v ≡ part (views c)) c a new (views c) (λ s. same ∙ ap (λ i. part (views i)) (sym s)) (λ other. refl)

-- the new view of an actor has the desk and the flushes of the old one
pub record KeepsFlights (view new : View) : Type 0 where
  pub desk : desk_of new ≡ desk_of view
  pub flights : (b : ℕ) → option_map flight_of (op_on new b) ≡ option_map flight_of (op_on view b)

-- words of which the law reads the table alone
pub record LeavesWords (word after : Where → ℕ) : Type 0 where
  pub stamp : (v : ℕ) → after (Stamp v) ≡ word (Stamp v)
  pub home : (b : ℕ) → after (Home b) ≡ word (Home b)
  pub ack : (p : ℕ) → after (Ack p) ≡ word (Ack p)
  pub req : after Req ≡ word Req

-- a step of an actor whose view keeps its desk and flushes, and which leaves all that entries stand on
pub table_step : (g : Geometry) (m : World) (word : Where → ℕ) (a : ℕ) (new : View) → LeavesWords m.word word → ((e : CacheEntry) → IsStanding (pte_at m e.vpage) e → IsStanding (word (Pte e.vpage)) e) → KeepsFlights (m.view a) new → ShapeLaw g m → CacheLaw g m → CacheLaw g (record { word = word; view = viewing a new m.view })
table_step g m word a new words stands view shape h =
    let m' : World = record { word = word; view = viewing a new m.view } in
    let leaves : LeavesFlights m m' = record {
      stamps = words.stamp;
      homes = words.home;
      req = words.req;
      flights = λ c j. view_part (λ v. option_map flight_of (op_on v j)) a new m.view (view.flights j) c;
    } in
    cache_table g m m' leaves words.ack (view_part desk_of a new m.view view.desk) stands shape h

-- The kinds by which a processor sees something: Peek, Poll and Walk.
use Rattle.std.proofs.Common.{◌≡◌, ◌≢◌, ℕ, ◌^◌, ◌≤◌, ◌<◌, ◌==◌, ◌||◌, if◌then◌else◌, Bool, true, false, List, Option, Some, None, IsTrue, All, refl, sym, ap, subst, ◌∙◌, inl, arith}
use Rattle.std.specs.Prelude.{option_map}
use Rattle.std.specs.Int.{bit_at}
use Rattle.std.proofs.lemmas.Bool.{and_parts, eqb-true, eq-eqb}
use Rattle.std.proofs.lemmas.Nat.Bits.{bit_at-zero, bit_at-lt, bit_at_or}
use Rattle.nm_base.specs.Geometry.{Geometry, backing_page}
use Rattle.nm_base.specs.HomeWord.{home_word}
use Rattle.nm_base.specs.PageWord.{is_present, is_writable, is_dirty, frame_of, walk_mask, walked_word}
use Rattle.nm_action.specs.declared.action.Reply.TheVariants.{Done, Word, Lost}
use Rattle.nm_action.specs.declared.action.Action.TheVariants.{Walk, Peek, Poll}
use Rattle.nm_words.specs.declared.names.Where.{Where}
use Rattle.nm_words.specs.declared.names.Where.TheVariants as words
use Rattle.nm_view.specs.declared.view.CacheEntry.{CacheEntry}
use Rattle.nm_view.specs.declared.view.Peeked.{Peeked}
use Rattle.nm_view.specs.Lists.{find, first}
use Rattle.nm_view.specs.Views.{Op, View}
use Rattle.nm_view.specs.Operations.{op_on, cached_page, peeked_page}
use Rattle.nm_view.proofs.Items.{all_find, all_put, all_map}
use Rattle.nm_view.proofs.Finds.{find_number}
use Rattle.nm_permit.specs.Permitted.{Allowed}
use Rattle.nm_event.specs.After.{after_of, stale, stamp_of, walked}
use Rattle.nm_world.specs.Worlds.{World, written, viewing, moved, pte_at, stamp_at, home_at}
use Rattle.nm_world.specs.Parts.{Flight, flight_of, flight_at}
use Rattle.nm_world.specs.Notions.{IsBumpCount, IsStanding}
use Rattle.nm_world.specs.ShapeLaw.{ShapeLaw}
use Rattle.nm_world.specs.CacheLaw.{IsEntrySound, IsPeekSound, CacheLaw}
use Rattle.nm_world.proofs.Choose.{choose}
use Rattle.nm_world.proofs.Bits.{frame_or, bit_or_set, standing_or}
use Rattle.nm_caches.specs.Facts.{AreMappings}
use Rattle.nm_caches.proofs.Shapes.{LeavesFlights, some_at, not_true, desk_step, entry_still, each_entry, after_read, view_part}
use Rattle.nm_caches.proofs.Still.{same_view, read_still}
use Rattle.nm_caches.proofs.Table.{written_stands}

-- the new view has the operations of the old one, and of the words the table alone may change
pub leaves_table : (m : World) (word : Where → ℕ) (a : ℕ) (new : View) → ((v : ℕ) → word (words.Stamp v) ≡ stamp_at m v) → ((b : ℕ) → word (words.Home b) ≡ home_at m b) → word words.Req ≡ m.word words.Req → new.ops ≡ (m.view a).ops → LeavesFlights m (record { word = word; view = viewing a new m.view })
leaves_table m word a new stamps homes req ops = record {
  stamps = stamps;
  homes = homes;
  req = req;
  flights = λ c j. view_part (λ v. option_map flight_of (op_on v j)) a new m.view (ap (λ (xs : List Op). option_map flight_of (find (λ o. o.page) j xs)) ops) c;
}

-- what is raised of v is no more than v's raises
pub raised_below : (m : World) (o : Flight) (v u n : ℕ) → All (λ p. p.1 ≤ stamp_at m p.0) o.raised → find first v o.raised ≡ Some (u, n) → n ≤ stamp_at m v
raised_below m o v u n all found =
    let below : n ≤ stamp_at m u = all_find first v (λ p. p.1 ≤ stamp_at m p.0) o.raised (u, n) all found in
    let same : u ≡ v = find_number first v o.raised (u, n) found in
    subst (λ (k : ℕ). n ≤ stamp_at m k) same below

pub cache_peek : (g : Geometry) (m : World) (a v : ℕ) → ShapeLaw g m → CacheLaw g m → CacheLaw g (moved g m a (Peek v))
cache_peek g m a v shape h =
    let n : ℕ = stamp_at m v in
    let new : View = after_of g (m.view a) (Peek v) (Word n) in
    let m' : World = record { word = m.word; view = viewing a new m.view } in
    let seen : Peeked = record { vpage = v; stamp = n; fresh = true } in
    let was = h.desks a in
    let leaves : LeavesFlights m m' = leaves_table m m.word a new (λ u. refl) (λ b. refl) refl refl in
    after_read g (words.Stamp v) m.word (viewing a new m.view) (
    desk_step g m m.word a new leaves (λ p _. refl) (h.acks a) (λ e is. is) (record {
      acked = was.acked;
      off = was.off;
      polled = was.polled;
      entries = each_entry g m a (IsEntrySound g m' a) shape h (λ _ e sound. entry_still g m m' a e leaves refl (λ is. is) sound);
      peeks = all_put peeked_page (λ k. k.stamp ≤ stamp_at m k.vpage) seen (m.view a).peeked (omega arith) was.peeks;
      fresh = λ c b o is.
          let before : flight_at m c b ≡ Some o = sym (leaves.flights c b) ∙ is in
          all_put peeked_page (IsPeekSound (m.view a).req_seen o) seen (m.view a).peeked
          (λ flush u x has found number le fresh. raised_below m o v u x (h.flights c b o before).raised found)
          (was.fresh c b o before);
    }) shape h
    )

pub cache_poll : (g : Geometry) (m : World) (a : ℕ) → ShapeLaw g m → CacheLaw g m → CacheLaw g (moved g m a Poll)
cache_poll g m a shape h =
    let n : ℕ = m.word words.Req in
    let new : View = after_of g (m.view a) Poll (Word n) in
    let m' : World = record { word = m.word; view = viewing a new m.view } in
    let was = h.desks a in
    let leaves : LeavesFlights m m' = leaves_table m m.word a new (λ u. refl) (λ b. refl) refl refl in
    let Below : Peeked → Type 0 = λ k. k.stamp ≤ stamp_at m k.vpage in
    after_read g words.Req m.word (viewing a new m.view) (
    desk_step g m m.word a new leaves (λ p _. refl) (h.acks a) (λ e is. is) (record {
      acked = was.acked;
      off = was.off;
      polled = λ number. omega arith;
      entries = each_entry g m a (IsEntrySound g m' a) shape h (λ _ e sound. entry_still g m m' a e leaves refl (λ is. is) sound);
      peeks = all_map Below Below stale (m.view a).peeked (λ k le. le) was.peeks;
      fresh = λ c b o is. all_map Below (IsPeekSound n o) stale (m.view a).peeked (λ k le flush u x has found number below fresh. absurd (not_true fresh)) was.peeks;
    }) shape h
    )

-- Walk.

walk_low : (write : Bool) → walk_mask write < 2 ^ 12
walk_low true = omega arith
walk_low false = omega arith

-- a word has bit 3 after a walk that writes, and where it had it
walked_dirty : (e : ℕ) (write : Bool) → IsTrue (write || is_dirty e) → bit_at (walked_word e write) 3 ≡ 1
walked_dirty e true h = let mask : bit_at (walk_mask true) 3 ≡ 1 = refl in omega (arith, bit_at_or e (walk_mask true) 3, mask, bit_at-lt e 3)
walked_dirty e false h = bit_or_set e (walk_mask false) 3 (eqb-true (bit_at e 3) 1 h)

-- what a walk caches stands on the word that it leaves
walked_stands : (view : View) (v e : ℕ) (write : Bool) → IsTrue (is_present e) → IsStanding (walked_word e write) (walked view v e write)
walked_stands view v e write present = record {
  present = eq-eqb _ 1 (bit_or_set e (walk_mask write) 0 (eqb-true (bit_at e 0) 1 present));
  frame = frame_or e (walk_mask write) (walk_low write);
  writable = λ dirty. eq-eqb _ 1 (bit_or_set e (walk_mask write) 2 (eqb-true (bit_at e 2) 1 (and_parts (is_writable e) (write || is_dirty e) dirty).0));
  dirty = λ dirty. eq-eqb _ 1 (walked_dirty e write (and_parts (is_writable e) (write || is_dirty e) dirty).1);
}

-- the stamp of a peek of v is no more than v's raises
seen_stamp : (n : ℕ) (found : Option Peeked) → ((k : Peeked) → found ≡ Some k → k.stamp ≤ n) → stamp_of found ≤ n
seen_stamp n None below = omega arith
seen_stamp n (Some k) below = below k refl

peek_below : (m : World) (view : View) (v : ℕ) → All (λ k. k.stamp ≤ stamp_at m k.vpage) view.peeked → stamp_of (find peeked_page v view.peeked) ≤ stamp_at m v
peek_below m view v all =
    seen_stamp (stamp_at m v) (find peeked_page v view.peeked) (λ k found.
    let same : k.vpage ≡ v = find_number peeked_page v view.peeked k found in
    let below : k.stamp ≤ stamp_at m k.vpage = all_find peeked_page v (λ k. k.stamp ≤ stamp_at m k.vpage) view.peeked k all found in
    subst (λ (u : ℕ). k.stamp ≤ stamp_at m u) same below)

-- a word on which an entry is walked is not 0
present_some : (e : ℕ) → IsTrue (is_present e) → e ≢ 0
present_some e present none =
    let bit : bit_at e 0 ≡ 0 = ap (λ n. bit_at n 0) none ∙ bit_at-zero 0 in
    let one : bit_at e 0 ≡ 1 = eqb-true (bit_at e 0) 1 present in
    absurd (omega (arith, bit, one))

-- what a walk caches is sound
walked_sound : (g : Geometry) (m : World) (word : Where → ℕ) (views : ℕ → View) (a v e : ℕ) (write : Bool) → word (words.Pte v) ≡ walked_word e write → word (words.Stamp v) ≡ stamp_at m v → ((b : ℕ) → word (words.Home b) ≡ home_at m b) → pte_at m v ≡ e → IsTrue (is_present e) → AreMappings g m → CacheLaw g m → IsEntrySound g (record { word = word; view = views }) a (walked (m.view a) v e write)
walked_sound g m word views a v e write left stamp homes found present mappings h =
    let is = mappings v (λ none. present_some e present (sym found ∙ none)) in
    let home : word (words.Home is.page) ≡ home_word (frame_of e) = homes is.page ∙ is.is.home ∙ ap (λ n. home_word (frame_of n)) found in
    record {
      stamp = omega (arith, stamp, peek_below m (m.view a) v (h.desks a).peeks);
      home = some_at (backing_page g v) is.page (λ b. word (words.Home b) ≡ home_word (frame_of e)) is.of home;
      stands = inl (let Stands : ℕ → Type 0 = λ n. IsStanding n (walked (m.view a) v e write) in subst Stands (sym left) (walked_stands (m.view a) v e write present));
    }

walk_done : (g : Geometry) (m : World) (a v e : ℕ) (write : Bool) → pte_at m v ≡ e → Allowed g (m.view a) (Walk v e write) → AreMappings g m → ShapeLaw g m → CacheLaw g m → CacheLaw g (record { word = written (words.Pte v) (walked_word e write) m.word; view = viewing a (after_of g (m.view a) (Walk v e write) Done) m.view })
walk_done g m a v e write found allowed mappings shape h =
    let word : Where → ℕ = written (words.Pte v) (walked_word e write) m.word in
    let new : View = after_of g (m.view a) (Walk v e write) Done in
    let m' : World = record { word = word; view = viewing a new m.view } in
    let was = h.desks a in
    let may = allowed.permitted in
    let leaves : LeavesFlights m m' = leaves_table m word a new (λ u. refl) (λ b. refl) refl refl in
    let Stood : ℕ → CacheEntry → Type 0 = λ n e. IsStanding n e in
    let stands : (c : CacheEntry) → Stood (pte_at m c.vpage) c → Stood (word (words.Pte c.vpage)) c =
    λ c is. written_stands v (walked_word e write) m.word c (λ _ on. standing_or e (walk_mask write) c (walk_low write) (subst (λ (n : ℕ). Stood n c) found on)) is in
    let left : word (words.Pte v) ≡ walked_word e write = choose (λ n. n ≡ walked_word e write) v v (walked_word e write) (pte_at m v) (λ _. refl) (λ other. absurd (other refl)) in
    desk_step g m word a new leaves (λ p _. refl) (h.acks a) stands (record {
      acked = was.acked;
      off = λ there none. absurd (none (let Number : ℕ → Type 0 = λ n. IsBumpCount n in subst Number (was.acked there) (record { on = may.on; running = may.running })));
      polled = was.polled;
      entries = all_put cached_page (IsEntrySound g m' a) (walked (m.view a) v e write) (m.view a).cache
          (walked_sound g m word (viewing a new m.view) a v e write left refl (λ b. refl) found may.present mappings h)
          (each_entry g m a (IsEntrySound g m' a) shape h (λ _ c sound. entry_still g m m' a c leaves refl (stands c) sound));
      peeks = was.peeks;
      fresh = λ c b o is. was.fresh c b o (sym (leaves.flights c b) ∙ is);
    }) shape h

-- done where the word is the one that was expected, and lost where it is another
walk_by : (g : Geometry) (m : World) (a v e : ℕ) (write t : Bool) → (pte_at m v == e) ≡ t → Allowed g (m.view a) (Walk v e write) → AreMappings g m → ShapeLaw g m → CacheLaw g m → CacheLaw g (record { word = written (words.Pte v) (if t then walked_word e write else pte_at m v) m.word; view = viewing a (after_of g (m.view a) (Walk v e write) (if t then Done else Lost (pte_at m v))) m.view })
walk_by g m a v e write true is allowed mappings shape h = walk_done g m a v e write (eqb-true (pte_at m v) e is) allowed mappings shape h
walk_by g m a v e write false is allowed mappings shape h = read_still g m (words.Pte v) a (m.view a) (same_view (m.view a)) shape h

pub cache_walk : (g : Geometry) (m : World) (a v e : ℕ) (write : Bool) → Allowed g (m.view a) (Walk v e write) → AreMappings g m → ShapeLaw g m → CacheLaw g m → CacheLaw g (moved g m a (Walk v e write))
cache_walk g m a v e write allowed mappings shape h = walk_by g m a v e write (pte_at m v == e) refl allowed mappings shape h

-- The kinds by which the flushes of all operations of an actor change: Bump and SeeAck.
use Rattle.std.proofs.Common.{◌≡◌, ◌≢◌, ℕ, ◌+◌, ◌%◌, ◌^◌, ◌≤◌, ◌<◌, nat_le, if◌then◌else◌, Bool, true, false, List, [], Option, Some, None, IsTrue, All, map, refl, sym, ap, subst, ◌∙◌, ◌⊎◌, inl, inr, arith, bit_or}
use Rattle.std.specs.Prelude.{option_map}
use Rattle.std.proofs.lemmas.Bool.{cases_eq, leb-true}
use Rattle.std.proofs.lemmas.Nat.Bits.{bit_at-zero, bit_at_or, bit_at-pow_other}
use Rattle.nm_base.specs.Geometry.{Geometry}
use Rattle.nm_action.specs.declared.action.Reply.TheVariants.{Word}
use Rattle.nm_action.specs.declared.action.Action.TheVariants.{Bump, SeeAck}
use Rattle.nm_words.specs.declared.names.Where.{Where}
use Rattle.nm_words.specs.declared.names.Where.TheVariants as words
use Rattle.nm_view.specs.declared.view.CacheEntry.{CacheEntry}
use Rattle.nm_view.specs.declared.view.Peeked.{Peeked}
use Rattle.nm_view.specs.Lists.{find, first}
use Rattle.nm_view.specs.Views.{Op, View, most_bumps}
use Rattle.nm_view.specs.Operations.{page_of, op_on}
use Rattle.nm_view.proofs.Items.{all_find, all_same, some_same}
use Rattle.nm_view.proofs.Finds.{find_map}
use Rattle.nm_permit.specs.Permitted.{AreDueDry}
use Rattle.nm_event.specs.After.{after_of, bumped_to, seen_with, seen_at}
use Rattle.nm_world.specs.Worlds.{World, written, viewing, moved, home_at, ack_at, op_at}
use Rattle.nm_world.specs.Parts.{Flight, flight_of, desk_of, flight_at, desk_at}
use Rattle.nm_world.specs.Notions.{IsBumpCount, IsUnseenBelow, IsBehind, Owes, IsMeant, IsOwed}
use Rattle.nm_world.specs.ShapeLaw.{ShapeLaw}
use Rattle.nm_world.specs.Laws.{IsReady}
use Rattle.nm_world.specs.CacheLaw.{IsEntrySound, IsPeekSound, IsFlightSound, CacheLaw}
use Rattle.nm_world.proofs.Writing.{own_view, other_view}
use Rattle.nm_caches.proofs.Shapes.{GoesOn, Stands, IsRunning, entry_kept, flight_kept, law_kept, part_from, view_part, after_read}
use Rattle.nm_caches.proofs.Edits.{owed_by}

-- the flushes of every operation of an actor are changed, and those of others are as before
pub record Maps (op after : ℕ → ℕ → Option Flight) (a : ℕ) (f : Flight → Flight) : Type 0 where
  pub own : (j : ℕ) → after a j ≡ option_map f (op a j)
  pub others : (c j : ℕ) → c ≢ a → after c j ≡ op c j

part_mapped : (f : Op → Op) (h : Flight → Flight) (found : Option Op) → ((o : Op) → flight_of (f o) ≡ h (flight_of o)) → option_map flight_of (option_map f found) ≡ option_map h (option_map flight_of found)
part_mapped f h None same = refl
part_mapped f h (Some o) same = ap (λ (q : Flight). Some q) (same o)

map_maps : (m : World) (word : Where → ℕ) (a : ℕ) (f : Op → Op) (h : Flight → Flight) (new : View) → new.ops ≡ map f (m.view a).ops → ((o : Op) → page_of (f o) ≡ page_of o) → ((o : Op) → flight_of (f o) ≡ h (flight_of o)) → Maps (flight_at m) (flight_at (record { word = word; view = viewing a new m.view })) a h
map_maps m word a f h new is page same = record {
  own = λ j. ap (λ (v : View). option_map flight_of (op_on v j)) (own_view a new m.view)
      ∙ ap (λ (xs : List Op). option_map flight_of (find page_of j xs)) is
      ∙ ap (option_map flight_of) (find_map page_of f j (m.view a).ops page)
      ∙ part_mapped f h (op_at m a j) same;
  others = λ c j other. ap (λ (v : View). option_map flight_of (op_on v j)) (other_view a new m.view c other);
}

-- what holds of each changed one, and of each as it was, holds of each
pub mapped : (P : ℕ → ℕ → Flight → Type 0) (op after : ℕ → ℕ → Option Flight) (a : ℕ) (f : Flight → Flight) → Maps op after a f → ((j : ℕ) (o : Flight) → op a j ≡ Some o → P a j (f o)) → ((c j : ℕ) (o : Flight) → op c j ≡ Some o → P c j o) → (c j : ℕ) (o : Flight) → after c j ≡ Some o → P c j o
mapped P op after a f maps own rest c j o is =
    elim (cases_eq c a) [
      | inr other ↦ rest c j o (sym (maps.others c j other) ∙ is)
      | inl actor ↦
          let At : ℕ → Type 0 = λ n. after n j ≡ Some o in
          let found = part_from f (op a j) o (sym (maps.own j) ∙ subst At actor is) in
          let Q : ℕ → Type 0 = λ n. P n j o in
          subst Q (sym actor) (subst (P a j) found.1.1 (own j found.0 found.1.0))
    ]

-- an entry is owed still where all operations of an actor go on owing what they owed
owed_mapped : (g : Geometry) (m m' : World) (p : ℕ) (e : CacheEntry) (a : ℕ) (f : Flight → Flight) → ack_at m' p ≡ ack_at m p → Maps (flight_at m) (flight_at m') a f → ((j : ℕ) (o : Flight) → flight_at m a j ≡ Some o → Owes (ack_at m p) p o → Owes (ack_at m p) p (f o)) → ((o : Flight) → IsMeant e.vpage e.stamp o → IsMeant e.vpage e.stamp (f o)) → IsOwed g m p e → IsOwed g m' p e
owed_mapped g m m' p e a f ack maps owes meant owed =
    let Owe : Flight → ℕ → Type 0 = λ q n. Owes n p q in
    elim (cases_eq owed.actor a) [
      | inr other ↦ owed_by g m' p e owed.actor owed.page owed.op owed.of (maps.others owed.actor owed.page other ∙ owed.here) (subst (Owe owed.op) (sym ack) owed.owes) owed.meant
      | inl actor ↦
          let At : ℕ → Type 0 = λ c. flight_at m c owed.page ≡ Some owed.op in
          let there : flight_at m a owed.page ≡ Some owed.op = subst At actor owed.here in
          owed_by g m' p e a owed.page (f owed.op) owed.of (maps.own owed.page ∙ ap (option_map f) there) (subst (Owe (f owed.op)) (sym ack) (owes owed.page owed.op there owed.owes)) (meant owed.op owed.meant)
    ]

-- the law where the flushes of all operations of an actor change
flights_map : (g : Geometry) (m m' : World) (a : ℕ) (f : Flight → Flight) → GoesOn m m' → ((p : ℕ) → ack_at m' p ≡ ack_at m p) → ((p : ℕ) → desk_at m' p ≡ desk_at m p) → ((j : ℕ) → home_at m' j ≡ home_at m j) → Maps (flight_at m) (flight_at m') a f → ((p : ℕ) → IsRunning g m p → (e : CacheEntry) → IsEntrySound g m p e → Stands g m' p e) → ((j : ℕ) (o : Flight) → flight_at m a j ≡ Some o → IsFlightSound m' (f o)) → ((p j : ℕ) (o : Flight) → flight_at m a j ≡ Some o → All (IsPeekSound (desk_at m p).req_seen (f o)) (desk_at m p).peeked) → ShapeLaw g m → CacheLaw g m → CacheLaw g m'
flights_map g m m' a f goes acks desks homes maps entries sound peeks shape h =
    law_kept g m m' goes acks desks
    (λ p runs e was. entry_kept g m m' p e goes homes (λ _. entries p runs e was) was)
    (mapped (λ c j o. IsFlightSound m' o) (flight_at m) (flight_at m') a f maps sound (λ c j o is. flight_kept m m' o goes.stamps (h.flights c j o is)))
    (λ p. mapped (λ c j o. All (IsPeekSound (desk_at m p).req_seen o) (desk_at m p).peeked) (flight_at m) (flight_at m') a f maps (peeks p) (λ c j o is. (h.desks p).fresh c j o is))
    shape h

-- SeeAck.

-- the flushes of an operation after a processor was seen with this acknowledgement
abbrev seen_flight : ℕ → ℕ → Flight → Flight
seen_flight cpu word o = record { due = o.due; flush = o.flush; seen = seen_with o.flush cpu word o.seen; wet = o.wet; raised = o.raised }

-- a processor that is seen was not behind, so who is behind stays unseen
still_behind : (cpu word ack p flush seen : ℕ) → (p ≡ cpu → ack ≡ word) → IsUnseenBelow ack p flush seen → (t : Bool) → nat_le flush word ≡ t → IsUnseenBelow ack p flush (if t then bit_or seen (2 ^ cpu) else seen)
still_behind cpu word ack p flush seen own h false is = h
still_behind cpu word ack p flush seen own h true is =
    let reached : flush ≤ word = leb-true flush word is in
    let other : p ≢ cpu = λ same. omega (arith, reached, own same, h.below) in
    record {
      unseen = omega (arith, bit_at_or seen (2 ^ cpu) p, h.unseen, bit_at-pow_other cpu p other);
      number = h.number;
      below = h.below;
    }

seen_behind : (cpu word ack p : ℕ) (flush : Option ℕ) (seen : ℕ) → (p ≡ cpu → ack ≡ word) → IsBehind ack p flush seen → IsBehind ack p flush (seen_with flush cpu word seen)
seen_behind cpu word ack p None seen own h = absurd h
seen_behind cpu word ack p (Some flush) seen own h = still_behind cpu word ack p flush seen own h (nat_le flush word) refl

seen_owes : (cpu word ack p : ℕ) (o : Flight) → (p ≡ cpu → ack ≡ word) → Owes ack p o → Owes ack p (seen_flight cpu word o)
seen_owes cpu word ack p o own (inl due) = inl due
seen_owes cpu word ack p o own (inr behind) = inr (seen_behind cpu word ack p o.flush o.seen own behind)

pub cache_see_ack : (g : Geometry) (m : World) (a cpu : ℕ) → ShapeLaw g m → CacheLaw g m → CacheLaw g (moved g m a (SeeAck cpu))
cache_see_ack g m a cpu shape h =
    let n : ℕ = ack_at m cpu in
    let new : View = after_of g (m.view a) (SeeAck cpu) (Word n) in
    let m' : World = record { word = m.word; view = viewing a new m.view } in
    let goes : GoesOn m m' = record { stamps = λ v. omega arith; req = omega arith } in
    let maps = map_maps m m.word a (seen_at cpu n) (seen_flight cpu n) new refl (λ o. refl) (λ o. refl) in
    after_read g (words.Ack cpu) m.word (viewing a new m.view) (
    flights_map g m m' a (seen_flight cpu n) goes (λ p. refl) (view_part desk_of a new m.view refl) (λ j. refl) maps
    (λ p _ e sound. elim sound.stands [
      | inl stands ↦ inl stands
      | inr owed ↦ inr (owed_mapped g m m' p e a (seen_flight cpu n) refl maps (λ j o _ owes. seen_owes cpu n (ack_at m p) p o (λ same. ap (ack_at m) same) owes) (λ o meant. meant) owed)
    ])
    (λ j o is. let was = h.flights a j o is in record { raised = was.raised; wet = was.wet })
    (λ p j o is. (h.desks p).fresh a j o is)
    shape h
    )

-- Bump.

-- the flushes of an operation after a bump to this number
abbrev bumped_flight : ℕ → Flight → Flight
bumped_flight number o = record { due = false; flush = (if o.due then Some number else o.flush); seen = (if o.due then 0 else o.seen); wet = o.wet; raised = o.raised }

-- a due operation asks a processor for the bump that it made, and what else is owed is as before
bumped_owes : (ack p number : ℕ) (due : Bool) (flush : Option ℕ) (seen : ℕ) → IsUnseenBelow ack p number 0 → IsTrue due ⊎ IsBehind ack p flush seen → IsTrue false ⊎ IsBehind ack p (if due then Some number else flush) (if due then 0 else seen)
bumped_owes ack p number true flush seen new owes = inr new
bumped_owes ack p number false flush seen new (inl due) = absurd cc
bumped_owes ack p number false flush seen new (inr behind) = inr behind

-- no peek was made since the bump, and to earlier flushes it stands as before
bumped_peek : (req_seen number : ℕ) (o : Flight) (k : Peeked) (due : Bool) → (IsBumpCount req_seen → req_seen < number) → IsPeekSound req_seen o k → (flush v n : ℕ) → (if due then Some number else o.flush) ≡ Some flush → find first k.vpage o.raised ≡ Some (v, n) → IsBumpCount req_seen → flush ≤ req_seen → IsTrue k.fresh → n ≤ k.stamp
bumped_peek req_seen number o k true polled sound flush v n has found is reached fresh = let same : number ≡ flush = some_same number flush has in absurd (omega (arith, same, reached, polled is))
bumped_peek req_seen number o k false polled sound flush v n has found is reached fresh = sound flush v n has found is reached fresh

-- an operation with a wet page is due, and a due one has none at a bump
bumped_dry : (m : World) (a j : ℕ) (o : Flight) → AreDueDry (m.view a).ops → flight_at m a j ≡ Some o → IsTrue o.due ⊎ (o.wet ≡ []) → o.wet ≡ []
bumped_dry m a j o dry is (inr none) = none
bumped_dry m a j o dry is (inl due) =
    let found = part_from flight_of (op_at m a j) o is in
    let Dry : Flight → Type 0 = λ q. IsTrue q.due → q.wet ≡ [] in
    let own : Dry (flight_of found.0) = all_find page_of j (λ (x : Op). IsTrue x.due → x.wet ≡ []) (m.view a).ops found.0 dry found.1.0 in
    subst Dry found.1.1 own due

bump_done : (g : Geometry) (m : World) (a n : ℕ) (new : View) → n ≡ m.word words.Req + 1 → desk_of new ≡ desk_of (m.view a) → new.ops ≡ map (bumped_to n) (m.view a).ops → AreDueDry (m.view a).ops → ShapeLaw g m → CacheLaw g m → CacheLaw g (record { word = written words.Req n m.word; view = viewing a new m.view })
bump_done g m a n new is desk ops dry shape h =
    let m' : World = record { word = written words.Req n m.word; view = viewing a new m.view } in
    let goes : GoesOn m m' = record { stamps = λ v. omega arith; req = omega (arith, is) } in
    let maps = map_maps m m'.word a (bumped_to n) (bumped_flight n) new ops (λ o. refl) (λ o. refl) in
    flights_map g m m' a (bumped_flight n) goes (λ p. refl) (view_part desk_of a new m.view desk) (λ j. refl) maps
    (λ p runs e sound. elim sound.stands [
      | inl stands ↦ inl stands
      | inr owed ↦
          let below : ack_at m p ≤ m.word words.Req = h.acks p runs.processor runs.number in
          let unseen : IsUnseenBelow (ack_at m p) p n 0 = record { unseen = bit_at-zero p; number = runs.number; below = omega (arith, below, is) } in
          inr (owed_mapped g m m' p e a (bumped_flight n) refl maps (λ j o _ owes. bumped_owes (ack_at m p) p n o.due o.flush o.seen unseen owes) (λ o meant. meant) owed)
    ])
    (λ j o found. let was = h.flights a j o found in record { raised = was.raised; wet = inr (bumped_dry m a j o dry found was.wet) })
    (λ p j o found. all_same (IsPeekSound (desk_at m p).req_seen o) (IsPeekSound (desk_at m p).req_seen (bumped_flight n o)) (desk_at m p).peeked
    (λ k sound flush v x has at number reached fresh. bumped_peek (desk_at m p).req_seen n o k o.due (λ number. let most : (desk_at m p).req_seen ≤ m.word words.Req = (h.desks p).polled number in omega (arith, most, is)) sound flush v x has at number reached fresh)
    ((h.desks p).fresh a j o found))
    shape h

pub cache_bump : (g : Geometry) (m : World) (a : ℕ) → IsReady g m a Bump → CacheLaw g m → CacheLaw g (moved g m a Bump)
cache_bump g m a ready h =
    let n : ℕ = m.word words.Req in
    let new : View = after_of g (m.view a) Bump (Word n) in
    let few : n ≤ most_bumps = ready.fits.told.said in
    let Number : ℕ → Type 0 = λ x. CacheLaw g (record { word = written words.Req x m.word; view = viewing a new m.view }) in
    let step : Number (n + 1) = bump_done g m a (n + 1) new refl refl refl ready.allowed.permitted.dry ready.shaped h in
    let whole : (n + 1) % 2 ^ 64 ≡ n + 1 = omega (arith, few) in
    subst Number (sym whole) step

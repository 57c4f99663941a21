-- That an acknowledgement keeps the cache law: what is kept of the cache was seen since, and what is owed is owed still.
use Rattle.std.proofs.Common.{◌≡◌, ◌≢◌, ℕ, ◌≤◌, ◌<◌, ◌==◌, if◌then◌else◌, Bool, true, false, List, [], ◌∷◌, Option, Some, None, IsSomeAnd, IsTrue, All, refl, sym, ap, subst, ◌∙◌, ◌⊎◌, inl, inr, arith}
use Rattle.std.specs.List.{filter}
use Rattle.std.proofs.lemmas.Bool.{and_parts, eqb-true, cases_lt}
use Rattle.nm_base.specs.Geometry.{Geometry}
use Rattle.nm_action.specs.declared.action.AckTo.{AckTo}
use Rattle.nm_action.specs.declared.action.AckTo.TheVariants.{Seen, Off, End}
use Rattle.nm_action.specs.declared.action.Reply.TheVariants.{Done}
use Rattle.nm_action.specs.declared.action.Action.TheVariants.{Ack}
use Rattle.nm_words.specs.declared.names.Where.{Where}
use Rattle.nm_words.specs.declared.names.Where.TheVariants as words
use Rattle.nm_step.specs.Table.{acked_word}
use Rattle.nm_view.specs.declared.view.CacheEntry.{CacheEntry}
use Rattle.nm_view.specs.declared.view.Peeked.{Peeked}
use Rattle.nm_view.specs.Lists.{find, first}
use Rattle.nm_view.specs.Views.{View, off_word, most_bumps}
use Rattle.nm_view.specs.Operations.{peeked_page}
use Rattle.nm_view.proofs.Items.{all_find, all_head, all_tail, more, none_left}
use Rattle.nm_view.proofs.Finds.{find_number}
use Rattle.nm_permit.specs.Permitted.{Allowed, IsPolledFor}
use Rattle.nm_event.specs.After.{after_of, is_fresh_at, is_confirmed, kept_entries}
use Rattle.nm_world.specs.Worlds.{World, written, viewing, moved, ack_at}
use Rattle.nm_world.specs.Parts.{Flight}
use Rattle.nm_world.specs.Notions.{IsBumpCount, IsUnseenBelow, IsBehind, Owes, IsMeant}
use Rattle.nm_world.specs.ShapeLaw.{ShapeLaw}
use Rattle.nm_world.specs.CacheLaw.{IsEntrySound, IsPeekSound, CacheLaw}
use Rattle.nm_world.proofs.Choose.{choose}
use Rattle.nm_caches.proofs.Shapes.{LeavesFlights, some_parts, not_true, wet_due, desk_step, leaves_on, entry_kept}
use Rattle.nm_caches.proofs.Desks.{leaves_table}

-- Lists.

kept_go : {A : Type 0} (Q : A → Type 0) (x : A) (xs : List A) (t : Bool) → (t ≡ true → Q x) → All Q xs → All Q (if t then x ∷ xs else xs)
kept_go Q x xs true step h = more Q x xs (step refl) h
kept_go Q x xs false step h = h

-- what follows of each item of a list that passes a test holds of all that pass
all_passed : {A : Type 0} (P Q : A → Type 0) (p : A → Bool) (xs : List A) → ((x : A) → P x → p x ≡ true → Q x) → All P xs → All Q (filter p xs)
all_passed P Q p [] step h = none_left Q
all_passed P Q p (x ∷ xs) step h = kept_go Q x (filter p xs) (p x) (step x (all_head P x xs h)) (all_passed P Q p xs step (all_tail P x xs h))

-- What an acknowledgement says.

-- what was polled is a number once it is not Off
polled_number : (n : ℕ) → n ≢ off_word → (n ≡ off_word) ⊎ (n ≤ most_bumps) → IsBumpCount n
polled_number n on (inl off) = absurd (on off)
polled_number n on (inr few) = record { on = on; running = λ ended. omega (arith, few, ended) }

-- Confirmed entries.

-- an entry is confirmed by a fresh peek of its page
record IsConfirmedBy (peeked : List Peeked) (e : CacheEntry) (k : Peeked) : Type 0 where
  found : find peeked_page e.vpage peeked ≡ Some k
  fresh : k.fresh ≡ true
  stamp : k.stamp ≡ e.stamp

fresh_peek : (stamp : ℕ) (found : Option Peeked) → is_fresh_at stamp found ≡ true → (k : Peeked) × ((found ≡ Some k) × ((k.fresh ≡ true) × (k.stamp ≡ stamp)))
fresh_peek stamp None is = absurd (not_true is)
fresh_peek stamp (Some k) is = let parts = and_parts k.fresh (k.stamp == stamp) is in (k, (refl, (parts.0, eqb-true k.stamp stamp parts.1)))

confirmed_by : (peeked : List Peeked) (e : CacheEntry) → is_confirmed peeked e ≡ true → (k : Peeked) × IsConfirmedBy peeked e k
confirmed_by peeked e is = let k = fresh_peek e.stamp (find peeked_page e.vpage peeked) is in (k.0, record { found = k.1.0; fresh = k.1.1.0; stamp = k.1.1.1 })

-- What is owed.

behind_is : (ack p : ℕ) (flush : Option ℕ) (seen : ℕ) → IsBehind ack p flush seen → (f : ℕ) × ((flush ≡ Some f) × IsUnseenBelow ack p f seen)
behind_is ack p None seen h = absurd h
behind_is ack p (Some f) seen h = (f, (refl, h))

-- no peek that is no older than a flush confirms an entry for which the flush is meant
stale_entry : (req_seen flush : ℕ) (o : Flight) (e : CacheEntry) (k : Peeked) → k.vpage ≡ e.vpage → k.fresh ≡ true → k.stamp ≡ e.stamp → IsBumpCount req_seen → o.flush ≡ Some flush → flush ≤ req_seen → IsPeekSound req_seen o k → IsSomeAnd (find first e.vpage o.raised) (λ p. e.stamp < p.1) → ⊥
stale_entry req_seen flush o e k page fresh stamp number has reached sound raised =
    let p = some_parts (find first e.vpage o.raised) (λ q. e.stamp < q.1) raised in
    let found : find first k.vpage o.raised ≡ Some p.0 = ap (λ (v : ℕ). find first v o.raised) page ∙ p.1.0 in
    let seen : p.0.1 ≤ k.stamp = sound flush p.0.0 p.0.1 has found number reached fresh in
    omega (arith, seen, stamp, p.1.1)

-- an entry that is confirmed is owed after the acknowledgement of what was polled, if it was owed before
owes_still : (ack p req_seen : ℕ) (o : Flight) (e : CacheEntry) (k : Peeked) → k.vpage ≡ e.vpage → k.fresh ≡ true → k.stamp ≡ e.stamp → IsBumpCount req_seen → IsTrue o.due ⊎ (o.wet ≡ []) → IsPeekSound req_seen o k → IsMeant e.vpage e.stamp o → Owes ack p o → Owes req_seen p o
owes_still ack p req_seen o e k page fresh stamp number wet sound meant (inl due) = inl due
owes_still ack p req_seen o e k page fresh stamp number wet sound (inl is_wet) (inr behind) = inl (wet_due o e.vpage wet is_wet)
owes_still ack p req_seen o e k page fresh stamp number wet sound (inr raised) (inr behind) =
    let f = behind_is ack p o.flush o.seen behind in
    elim (cases_lt req_seen f.0) [
      | inl below ↦
          let Behind : Option ℕ → Type 0 = λ flush. IsBehind req_seen p flush o.seen in
          inr (subst Behind (sym f.1.0) (record { unseen = f.1.1.unseen; number = number; below = below }))
      | inr reached ↦ absurd (stale_entry req_seen f.0 o e k page fresh stamp number f.1.0 reached sound raised)
    ]

-- the world after an acknowledgement
abbrev acked_world : Geometry → World → ℕ → AckTo → World
acked_world g m a to = record { word = written (words.Ack a) (acked_word (m.view a) to) m.word; view = viewing a (after_of g (m.view a) (Ack to) Done) m.view }

own_ack : (g : Geometry) (m : World) (a : ℕ) (to : AckTo) → ack_at (acked_world g m a to) a ≡ acked_word (m.view a) to
own_ack g m a to = choose (λ n. n ≡ acked_word (m.view a) to) a a (acked_word (m.view a) to) (ack_at m a) (λ _. refl) (λ other. absurd (other refl))

other_ack : (g : Geometry) (m : World) (a : ℕ) (to : AckTo) (p : ℕ) → p ≢ a → ack_at (acked_world g m a to) p ≡ ack_at m p
other_ack g m a to p other = choose (λ n. n ≡ ack_at m p) p a (acked_word (m.view a) to) (ack_at m p) (λ same. absurd (other same)) (λ _. refl)

ack_leaves : (g : Geometry) (m : World) (a : ℕ) (to : AckTo) → LeavesFlights m (acked_world g m a to)
ack_leaves g m a to = leaves_table m (written (words.Ack a) (acked_word (m.view a) to) m.word) a (after_of g (m.view a) (Ack to) Done) (λ v. refl) (λ b. refl) refl refl

-- an entry that is kept is sound
kept_sound : (g : Geometry) (m : World) (a : ℕ) (e : CacheEntry) → IsBumpCount (m.view a).req_seen → is_confirmed (m.view a).peeked e ≡ true → CacheLaw g m → IsEntrySound g m a e → IsEntrySound g (acked_world g m a Seen) a e
kept_sound g m a e number is h sound =
    let m' : World = acked_world g m a Seen in
    let leaves = ack_leaves g m a Seen in
    let k = confirmed_by (m.view a).peeked e is in
    let page : k.0.vpage ≡ e.vpage = find_number peeked_page e.vpage (m.view a).peeked k.0 k.1.found in
    entry_kept g m m' a e (leaves_on m m' leaves) leaves.homes (λ before. elim before [
      | inl stands ↦ inl stands
      | inr owed ↦
          let peek : IsPeekSound (m.view a).req_seen owed.op k.0 = all_find peeked_page e.vpage (IsPeekSound (m.view a).req_seen owed.op) (m.view a).peeked k.0 ((h.desks a).fresh owed.actor owed.page owed.op owed.here) k.1.found in
          let owes : Owes (m.view a).req_seen a owed.op = owes_still (ack_at m a) a (m.view a).req_seen owed.op e k.0 page k.1.fresh k.1.stamp number (h.flights owed.actor owed.page owed.op owed.here).wet peek owed.meant owed.owes in
          let Owe : ℕ → Type 0 = λ n. Owes n a owed.op in
          inr (record {
            actor = owed.actor;
            page = owed.page;
            op = owed.op;
            of = owed.of;
            here = leaves.flights owed.actor owed.page ∙ owed.here;
            owes = subst Owe (sym (own_ack g m a Seen)) owes;
            meant = owed.meant;
          })
    ]) sound

-- all that is kept of a cache is sound
kept_all : (g : Geometry) (m : World) (a : ℕ) (to : AckTo) → (to ≡ Seen → IsBumpCount (m.view a).req_seen) → CacheLaw g m → All (IsEntrySound g (acked_world g m a to) a) (kept_entries (m.view a) to)
kept_all g m a Seen number h = all_passed (IsEntrySound g m a) (IsEntrySound g (acked_world g m a Seen) a) (is_confirmed (m.view a).peeked) (m.view a).cache (λ e sound is. kept_sound g m a e (number refl) is h sound) (h.desks a).entries
kept_all g m a Off number h = none_left (IsEntrySound g (acked_world g m a Off) a)
kept_all g m a End number h = none_left (IsEntrySound g (acked_world g m a End) a)

-- an acknowledgement that is a number is of what was polled
acked_most : (view : View) (to : AckTo) (most : ℕ) → (IsBumpCount view.req_seen → view.req_seen ≤ most) → IsBumpCount (acked_word view to) → acked_word view to ≤ most
acked_most view Seen most polled number = polled number
acked_most view Off most polled number = absurd (number.on refl)
acked_most view End most polled number = absurd (number.running refl)

-- without a number nothing is kept
kept_none : (view : View) (to : AckTo) → (to ≡ Seen → IsBumpCount view.req_seen) → ¬ IsBumpCount (acked_word view to) → kept_entries view to ≡ []
kept_none view Seen number none = absurd (none (number refl))
kept_none view Off number none = refl
kept_none view End number none = refl

polled_for : (view : View) (to : AckTo) → IsPolledFor view to → to ≡ Seen → view.req_seen ≢ off_word
polled_for view Seen polled is = polled
polled_for view Off polled is = absurd cc
polled_for view End polled is = absurd cc

ack_done : (g : Geometry) (m : World) (a : ℕ) (to : AckTo) → a < g.cpus → IsPolledFor (m.view a) to → ShapeLaw g m → CacheLaw g m → CacheLaw g (acked_world g m a to)
ack_done g m a to processor polled shape h =
    let word : Where → ℕ = written (words.Ack a) (acked_word (m.view a) to) m.word in
    let new : View = after_of g (m.view a) (Ack to) Done in
    let leaves = ack_leaves g m a to in
    let was = h.desks a in
    let own : word (words.Ack a) ≡ acked_word (m.view a) to = own_ack g m a to in
    let number : to ≡ Seen → IsBumpCount (m.view a).req_seen = λ is. polled_number (m.view a).req_seen (polled_for (m.view a) to polled is) (shape.shape a (omega (arith, processor))).polled in
    desk_step g m word a new leaves (other_ack g m a to)
    (λ _ is. let below : acked_word (m.view a) to ≤ m.word words.Req = acked_most (m.view a) to (m.word words.Req) was.polled (subst IsBumpCount own is) in omega (arith, own, below))
    (λ e is. is) (record {
      acked = λ _. sym own;
      off = λ _ none. kept_none (m.view a) to number (λ is. none (subst IsBumpCount (sym own) is));
      polled = was.polled;
      entries = kept_all g m a to number h;
      peeks = was.peeks;
      fresh = λ c b o is. was.fresh c b o (sym (leaves.flights c b) ∙ is);
    }) shape h

pub cache_ack : (g : Geometry) (m : World) (a : ℕ) (to : AckTo) → Allowed g (m.view a) (Ack to) → ShapeLaw g m → CacheLaw g m → CacheLaw g (moved g m a (Ack to))
cache_ack g m a to allowed shape h =
    let may = allowed.permitted in
    let same : (m.view a).number ≡ a = shape.number a in
    let After : ℕ → Type 0 = λ n. CacheLaw g (record { word = written (words.Ack n) (acked_word (m.view a) to) m.word; view = viewing a (after_of g (m.view a) (Ack to) Done) m.view }) in
    subst After (sym same) (ack_done g m a to (omega (arith, same, may.processor)) may.polled shape h)

-- SeeAck: a flush may end with it, from when on no cache has a dirty entry of a page that is unspoilt.
use Rattle.std.proofs.Common.{◌≡◌, ℕ, ◌^◌, not, bit_or, nat_le, if◌then◌else◌, Bool, true, false, IsTrue, Option, Some, None, IsSome, IfSome, refl, sym, subst, ◌∙◌}
use Rattle.std.specs.Prelude.{option_map}
use Rattle.nm_base.specs.Geometry.{Geometry, backing_page}
use Rattle.nm_base.specs.PageWord.{is_dirty}
use Rattle.nm_action.specs.declared.action.Reply.TheVariants.{Word}
use Rattle.nm_action.specs.declared.action.Action.TheVariants.{SeeAck}
use Rattle.nm_words.specs.declared.names.Where.{Where}
use Rattle.nm_words.specs.declared.names.Where.TheVariants as words
use Rattle.nm_view.specs.declared.view.CacheEntry.{CacheEntry}
use Rattle.nm_view.specs.declared.view.Phase.{Phase}
use Rattle.nm_view.specs.declared.view.Phase.TheVariants.{Held, Cleared, Taken}
use Rattle.nm_view.specs.Views.{Op, View}
use Rattle.nm_view.specs.Operations.{fill_of, op_on, page_of, AreSeen, IsFlushEnded, is_early, is_flush_ended}
use Rattle.nm_view.proofs.Finds.{find_map}
use Rattle.nm_view.proofs.Items.{not_none, some_same}
use Rattle.nm_view.proofs.Known.{IsFlushEnded-is, is-IsFlushEnded}
use Rattle.nm_event.specs.After.{after_of, seen_at, seen_with}
use Rattle.nm_world.specs.Worlds.{World, moved, viewing, written}
use Rattle.nm_world.specs.Parts.{copier_of}
use Rattle.nm_world.specs.Sights.{Sight, sight_of, sight_at}
use Rattle.nm_world.specs.Notions.{IsClean, IsUndirtied, IsStanding}
use Rattle.nm_world.specs.CopyLaw.{CopyLaw, CopySight, copy_sight, OpCopies}
use Rattle.nm_world.proofs.Choose.{choose}
use Rattle.nm_world.proofs.Bits.{bit_or_set}
use Rattle.nm_copies.specs.Facts.{HasStanding}
use Rattle.nm_copies.proofs.Still.{Stays, stays_tame, tame_leaves, copies_left}
use Rattle.nm_copies.proofs.Quiet.{read_keeps, view_part, entries_before}
use Rattle.nm_copies.proofs.Flags.{cases_on}

-- who was seen stays seen

seen_if : (t : Bool) (p seen n : ℕ) → AreSeen n seen → AreSeen n (if t then bit_or seen (2 ^ p) else seen)
seen_if true p seen n h = λ q lt. bit_or_set seen (2 ^ p) q (h q lt)
seen_if false p seen n h = h

seen_more : (flush : Option ℕ) (p word seen n : ℕ) → AreSeen n seen → AreSeen n (seen_with flush p word seen)
seen_more None p word seen n h = h
seen_more (Some flush) p word seen n h = seen_if (nat_le flush word) p seen n h

if_seen : (flush : Option ℕ) (P Q : Type 0) → (P → Q) → IfSome flush (λ _. P) → IfSome flush (λ _. Q)
if_seen None P Q step h = h
if_seen (Some n) P Q step h = step h

-- so a flush that ended stays so
ended_stays : (g : Geometry) (p word : ℕ) (o : Op) → is_flush_ended g o ≡ true → is_flush_ended g (seen_at p word o) ≡ true
ended_stays g p word o is =
    let was : IsFlushEnded g o = IsFlushEnded-is g o is in
    is-IsFlushEnded g (seen_at p word o) (record {
      made = was.made;
      seen = if_seen o.flush (AreSeen g.cpus o.seen) (AreSeen g.cpus (seen_with o.flush p word o.seen)) (seen_more o.flush p word o.seen g.cpus) was.seen;
    })

turned : (b : Bool) → not b ≡ true → b ≡ false
turned true h = absurd (let both : false ≡ true = h in cc)
turned false h = refl

early_before : (phase : Phase) (was is : Bool) → (was ≡ true → is ≡ true) → is_early phase is ≡ true → is_early phase was ≡ true
early_before Held was is stays early = refl
early_before Cleared true is stays early = absurd (let both : true ≡ false = sym (stays refl) ∙ turned is early in cc)
early_before Cleared false is stays early = refl
early_before Taken was is stays early = early

-- where it is no longer early, the flush ended
ends : (phase : Phase) (was is : Bool) → is_early phase was ≡ true → is_early phase is ≡ false → is ≡ true
ends Held was is early late = absurd (let both : true ≡ false = late in cc)
ends Cleared was true early late = refl
ends Cleared was false early late = absurd (let both : true ≡ false = late in cc)
ends Taken was is early late = absurd (let both : false ≡ true = early in cc)

undirty : (d w : Bool) → (IsTrue d → IsTrue w) → w ≡ false → d ≡ false
undirty true w step off = absurd (let on : w ≡ true = step refl in cc)
undirty false w step off = refl

-- entries that stand on words that are not dirty are not dirty
clean_standing : (g : Geometry) (pte : ℕ → ℕ) (entry : ℕ → ℕ → Option CacheEntry) (b : ℕ) → ((c v : ℕ) (e : CacheEntry) → backing_page g v ≡ Some b → entry c v ≡ Some e → IsStanding (pte v) e) → IsUndirtied g pte b → IsClean g entry b
clean_standing g pte entry b stands dry c v e of is = undirty e.dirty (is_dirty (pte v)) (stands c v e of is).dirty (dry v of)

see_own : (g : Geometry) (k : CopySight) (a b p word : ℕ) (o : Op) → (IsFlushEnded g (seen_at p word o) → IsUndirtied g k.pte b → IsClean g k.entry b) → OpCopies g k a b (copier_of g o) → OpCopies g k a b (copier_of g (seen_at p word o))
see_own g k a b p word o clean h =
    let is : Bool = is_flush_ended g (seen_at p word o) in
    let was : Bool = is_flush_ended g o in
    record {
      early = λ early. h.early (early_before o.phase was is (ended_stays g p word o) early);
      last = h.last;
      copied = h.copied;
      dirty = λ naming late u.
          cases_on (λ t. is_early o.phase was ≡ t → IsClean g k.entry b) (is_early o.phase was)
          (λ first. λ _. clean (IsFlushEnded-is g (seen_at p word o) (ends o.phase was is first late)) (u.table naming))
          (λ before. λ _. h.dirty naming before u) refl;
      out = h.out;
      out_clean = h.out_clean;
      equal = h.equal;
    }

mapped_op : (f : Op → Op) (found : Option Op) (q : Op) → option_map f found ≡ Some q → (o : Op) × ((found ≡ Some o) × (f o ≡ q))
mapped_op f None q is = absurd (not_none q is)
mapped_op f (Some o) q is = (o, (refl, some_same (f o) q is))

some_mapped : (f : Op → Op) (found : Option Op) → IsSome found → IsSome (option_map f found)
some_mapped f None some = some
some_mapped f (Some o) some = some

pub copies-see : (g : Geometry) (m : World) (a p : ℕ) → HasStanding g (sight_of g (moved g m a (SeeAck p))) → CopyLaw g (sight_of g m) → CopyLaw g (sight_of g (moved g m a (SeeAck p)))
copies-see g m a p stands h =
    let n : ℕ = m.word (words.Ack p) in
    let view : View = m.view a in
    let new : View = after_of g view (SeeAck p) (Word n) in
    let word : Where → ℕ = written (words.Ack p) n m.word in
    let before : Sight = sight_of g m in
    let after : Sight = sight_at g word (viewing a new m.view) in
    let k = copy_sight before in
    let kept = copy_sight after in
    let keeps = read_keeps (words.Ack p) m.word in
    let fill : (c f : ℕ) → after.fill c f ≡ before.fill c f = λ c f. view_part (λ v. fill_of v f) a new m.view refl c in
    let s : Stays g k kept = record { pte = keeps.pte; home = keeps.home; mem = keeps.mem; fill = fill; entry = entries_before a new m.view (λ v e is. is) } in
    let left = tame_leaves g k kept (stays_tame g k kept s) in
    let own : (j : ℕ) → op_on new j ≡ option_map (seen_at p n) (op_on view j) = λ j. find_map page_of (seen_at p n) j view.ops (λ o. refl) in
    record {
      zeroed = λ c f i is x lt. s.mem f x ∙ h.zeroed c f i (sym (fill c f) ∙ is) x lt;
      has_op = λ c f j x is of.
          let some : IsSome (before.op c j) = h.has_op c f j x (sym (fill c f) ∙ is) of in
          choose (λ v. IsSome (op_on v j)) c a new (m.view c)
          (λ same. rw (own j) (some_mapped (seen_at p n) (op_on view j) (subst (λ (i : ℕ). IsSome (op_on (m.view i) j)) same some)))
          (λ other. some);
      ops = λ c j q is.
          choose (λ v. op_on v j ≡ Some q → OpCopies g kept c j (copier_of g q)) c a new (m.view c)
          (λ same mine.
          let was = mapped_op (seen_at p n) (op_on view j) q (sym (own j) ∙ mine) in
          let there : before.op c j ≡ Some was.0 = subst (λ (i : ℕ). op_on (m.view i) j ≡ Some was.0) (sym same) was.1.0 in
          let ends_so : IsFlushEnded g q → IsUndirtied g kept.pte j → IsClean g kept.entry j = λ ended. clean_standing g kept.pte kept.entry j (stands.stands c j q is ended) in
          subst (λ (x : Op). OpCopies g kept c j (copier_of g x)) was.1.1
          (see_own g kept c j p n was.0 (subst (λ (x : Op). IsFlushEnded g x → IsUndirtied g kept.pte j → IsClean g kept.entry j) (sym was.1.1) ends_so)
          (copies_left g k kept c j (copier_of g was.0) (left c j) (h.ops c j was.0 there))))
          (λ other there. copies_left g k kept c j (copier_of g q) (left c j) (h.ops c j q there)) is;
    }

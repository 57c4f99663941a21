-- Actions that gave a word keep that the numbers of a view are in range, where the word is in range.
use Rattle.std.proofs.Common.{◌≡◌, ℕ, ◌+◌, ◌*◌, ◌^◌, ◌<◌, ◌≤◌, ◌==◌, if◌then◌else◌, Bool, true, false, map, Option, Some, None, refl, sym, subst, arith}
use Rattle.std.specs.Option.{IfSome}
use Rattle.std.specs.Prelude.{count_ones}
use Rattle.std.specs.Int.{bit_at, w64}
use Rattle.std.proofs.lemmas.Nat.{ones-le}
use Rattle.std.proofs.lemmas.Nat.Bits.{bit_at-trailing_zeros}
use Rattle.nm_base.specs.Geometry.{Geometry, IsGeometry, IsInTier, backing_page, first_frame}
use Rattle.nm_action.specs.declared.action.Cell.{Cell}
use Rattle.nm_action.specs.declared.action.Cell.TheVariants.{Home, Shadow}
use Rattle.nm_action.specs.declared.action.Reply.TheVariants.{Word}
use Rattle.nm_action.specs.declared.action.Action.{Action}
use Rattle.nm_action.specs.declared.action.Action.TheVariants.{Look, Peek, Poll, Bump, SeeAck, Raise, ClearDirty, Unmap, Grant, CopyLoad, Scan, GiveFrame, PutFrame, Read}
use Rattle.nm_view.specs.declared.view.Peeked.{Peeked}
use Rattle.nm_view.specs.declared.view.Scanned.{Scanned}
use Rattle.nm_view.specs.declared.view.Fill.TheVariants.{Raw}
use Rattle.nm_view.specs.Lists.{erase, put}
use Rattle.nm_view.specs.Views.{Op, View}
use Rattle.nm_base.specs.FreeWords.{free_base, least_bit, HasOwnBits}
use Rattle.nm_base.proofs.Tiers.{IsInTier-from_first}
use Rattle.nm_view.specs.Operations.{page_of, peeked_page, owned_frame, op_of}
use Rattle.nm_view.specs.Opening.{unscanned}
use Rattle.nm_base.specs.Ranges.{IsVPage, IsTier, IsWord}
use Rattle.nm_permit.specs.Permitted.{Allowed, IsFreeWordAt, MayUnmap, MayScan}
use Rattle.nm_event.specs.After.{after_of, looked_at, stale, bumped_to, seen_at, raised_to, cleared_at, taken_at, granted_at, loaded, read_cell, scanned_word, least_with, owning, edit_of, spoiled_under}
use Rattle.nm_shape.specs.Keyed.{IsScanOfTier, IsScanInRange, IsKeyed}
use Rattle.nm_event.specs.Ranged.{IsInRangeReply}
use Rattle.nm_view.proofs.Items.{all_put, all_map}
use Rattle.nm_view.proofs.Finds.{once_put, once_map}
use Rattle.nm_shape.proofs.Ops.{keyed_looked, keyed_cleared, keyed_taken, keyed_raised, keyed_loaded, keyed_granted, keyed_read, keyed_bumped, keyed_seen}
use Rattle.nm_shape.proofs.Groups.{some_and, with_peeked, with_owned, with_scan, with_counts, edit_op, edit_op_of, map_ops}
use Rattle.nm_shape.proofs.Frames.{AreOwned, owned_spoiled_under, owned_more, owned_less}
use Rattle.nm_shape.proofs.Done.{frames_of, no_turn}

abbrev peeked_at : ℕ → ℕ → Peeked
peeked_at v n = record { vpage = v; stamp = n; fresh = true }

keyed_grant : (g : Geometry) (view : View) (v n : ℕ) → IsKeyed g view → IsKeyed g (record view { ops = edit_of g v (granted_at v n) view.ops; owned = spoiled_under (backing_page g v) view.owned })
keyed_grant g view v n k =
    let f : AreOwned g (spoiled_under (backing_page g v) view.owned) = owned_spoiled_under g (backing_page g v) view.owned (frames_of g view k) in
    with_owned g (record view { ops = edit_of g v (granted_at v n) view.ops }) (spoiled_under (backing_page g v) view.owned) f.once f.all
    (edit_op_of g view v (granted_at v n) (λ o. refl) (λ o e s ko. keyed_granted g v n o e ko) k)

-- Scans.

least_set : (n : ℕ) → 0 < n → n < 2 ^ 64 → bit_at n (least_bit n) ≡ 1
unfolding least_bit
least_set n some lt = (bit_at-trailing_zeros w64 n some lt).1

least_in_tier : (g : Geometry) (t i n : ℕ) (b : Bool) → (n == 0) ≡ b → IsTier g t → IsWord n → HasOwnBits g t i n → IfSome (if b then None else Some (free_base g t i + least_bit n)) (λ f. IsInTier g f t)
least_in_tier g t i n true e tier w own = tt
least_in_tier g t i n false e tier w own =
    let some : 0 < n = grind arith in
    let within : IsInTier g (first_frame g t + (64 * i + least_bit n)) t = IsInTier-from_first g t (64 * i + least_bit n) tier (own (least_bit n) (least_set n some w)) in
    let same : free_base g t i + least_bit n ≡ first_frame g t + (64 * i + least_bit n) = omega arith in
    rw same within

least_with_in_tier : (g : Geometry) (least : Option ℕ) (t i n : ℕ) → IfSome least (λ f. IsInTier g f t) → IsTier g t → IsWord n → HasOwnBits g t i n → IfSome (least_with least (free_base g t i) n) (λ f. IsInTier g f t)
least_with_in_tier g (Some f) t i n h tier w own = h
least_with_in_tier g None t i n h tier w own = least_in_tier g t i n (n == 0) refl tier w own

scanned_of_tier : (g : Geometry) (scan : Scanned) (t i n : ℕ) → IsFreeWordAt g t i → i ≡ scan.words → IsWord n → HasOwnBits g t i n → IsScanOfTier g scan t → IsScanOfTier g (scanned_word (free_base g t i) n scan) t
scanned_of_tier g scan t i n range next w own s =
    let few : count_ones n ≤ 64 = ones-le 64 n w in
    record {
      words = omega (arith, next, range.index);
      sum = omega (arith, few, s.sum);
      least = least_with_in_tier g scan.least t i n s.least range.tier w own;
    }

scanned_in_range : (g : Geometry) (view : View) (t i n : ℕ) → IsFreeWordAt g t i → MayScan view t i → IsWord n → HasOwnBits g t i n → IsKeyed g view → IsScanInRange g view.turn (scanned_word (free_base g t i) n view.scan)
scanned_in_range g view t i n range may w own k =
    let P : Option ℕ → Type 0 = λ turn. IsScanInRange g turn view.scan in
    let Q : Option ℕ → Type 0 = λ turn. IsScanInRange g turn (scanned_word (free_base g t i) n view.scan) in
    subst Q (sym may.turn) (scanned_of_tier g view.scan t i n range may.next w own (subst P may.turn k.scan))

read_page : (cell : Cell) (word : ℕ) (o : Op) → page_of (read_cell cell word o) ≡ page_of o
read_page (Home n) word o = refl
read_page (Shadow m) word o = refl

pub keyed_told : (g : Geometry) (view : View) (action : Action) (n : ℕ) → IsGeometry g → IsKeyed g view → Allowed g view action → IsInRangeReply g action (Word n) → IsKeyed g (after_of g view action (Word n))
keyed_told g view (Look v) n is k a r = edit_op_of g view v (looked_at v n) (λ o. refl) (λ o e s ko. keyed_looked g v n o e ko) k
keyed_told g view (Peek v) n is k a r = with_peeked g view (put peeked_page (peeked_at v n) view.peeked) (once_put peeked_page (peeked_at v n) view.peeked k.peeked_once) (all_put peeked_page (λ p. IsVPage g p.vpage) (peeked_at v n) view.peeked a.range k.peeked) k
keyed_told g view Poll n is k a r = with_peeked g (record view { req_seen = n }) (map stale view.peeked) (once_map peeked_page stale view.peeked (λ p. refl) k.peeked_once) (all_map (λ p. IsVPage g p.vpage) (λ p. IsVPage g p.vpage) stale view.peeked (λ p h. h) k.peeked) (with_counts g view n view.bumps view.acked view.raises k.bumps k.raises k)
keyed_told g view Bump n is k a r = map_ops g (record view { bumps = view.bumps + 1 }) (bumped_to (n + 1)) (λ o. refl) (λ o ko. keyed_bumped g (n + 1) o ko) (with_counts g view view.req_seen (view.bumps + 1) view.acked view.raises (omega (arith, a.permitted.few)) k.raises k)
keyed_told g view (SeeAck p) n is k a r = map_ops g view (seen_at p n) (λ o. refl) (λ o ko. keyed_seen g p n o a.range ko) k
keyed_told g view (Raise v) n is k a r = edit_op_of g (record view { raises = view.raises + 1 }) v (raised_to v (n + 1)) (λ o. refl) (λ o e s ko. keyed_raised g v (n + 1) o e ko) (with_counts g view view.req_seen view.bumps view.acked (view.raises + 1) k.bumps (omega (arith, a.permitted.few)) k)
keyed_told g view (ClearDirty v) n is k a r = edit_op_of g view v (cleared_at v) (λ o. refl) (λ o e s ko. keyed_cleared g v o e ko) k
keyed_told g view (Unmap v) n is k a r = edit_op_of g view v (taken_at v n) (λ o. refl) (λ o e s ko. keyed_taken g v n o e (some_and (op_of g view v) o (MayUnmap g v) s a.permitted).mapped.there ko) k
keyed_told g view (Grant v) n is k a r = keyed_grant g view v n k
keyed_told g view (CopyLoad b i) n is k a r = edit_op g view b (loaded n) (λ o. refl) (λ o e ko. keyed_loaded g n o ko) k
keyed_told g view (Scan t i) n is k a r = with_scan g view view.turn (scanned_word (free_base g t i) n view.scan) k.turn (scanned_in_range g view t i n a.range a.permitted r.bits r.said k) k
keyed_told g view (GiveFrame f) n is k a r = let h : AreOwned g (owning f Raw view.owned) = owned_more g f Raw view.owned a.range tt (frames_of g view k) in with_owned g (record view { scan = unscanned }) (owning f Raw view.owned) h.once h.all (with_scan g view view.turn unscanned k.turn (no_turn g view.turn) k)
keyed_told g view (PutFrame f) n is k a r = let h : AreOwned g (erase owned_frame f view.owned) = owned_less g f view.owned (frames_of g view k) in with_owned g view (erase owned_frame f view.owned) h.once h.all k
keyed_told g view (Read b cell) n is k a r = edit_op g view b (read_cell cell n) (read_page cell n) (λ o e ko. keyed_read g cell n o r.said ko) k
keyed_told g view action n is k a r = k

-- The loop over cached pages.
use Rattle.std.proofs.Common.{◌≡◌, ℕ, zero, suc, ◌+◌, ◌-◌, ◌<◌, ◌≤◌, false, List, ◌∷◌, length, Some, None, IsSome, is_some, refl, sym, subst, arith}
use Rattle.std.specs.List.{range_with_len}
use Rattle.nm_base.specs.Geometry.{Geometry}
use Rattle.nm_action.specs.declared.action.AckTo.TheVariants.{Seen}
use Rattle.nm_action.specs.declared.action.Action.TheVariants.{Peek, Poll, Ack}
use Rattle.nm_action.specs.declared.action.Reply.{Reply}
use Rattle.nm_action.specs.Own.{Own}
use Rattle.nm_part.specs.Patterns.{Ends, Follows, Each, CanEnd}
use Rattle.nm_part.proofs.Patterns.{can-ends, can-follow, can-either, either-yes, either-other, each-can}
use Rattle.nm_compose.specs.Acts.{IsAct}
use Rattle.nm_compose.proofs.Acting.{some-act}
use Rattle.nm_catchup.specs.declared.cache.CatchStage.{CatchStage}
use Rattle.nm_catchup.specs.declared.cache.CatchStage.TheVariants.{Resting, Polling, Peeking, Acknowledging}
use Rattle.nm_catchup.specs.CatchUp.{Kept, entry_of, is_news, peeked_with, told_word, PeeksAt, Acknowledges, PeeksFrom, CatchesUp}
use Rattle.nm_catchup.specs.Catching.{catch_left}

range-first : (from n m : ℕ) → m ≡ suc n → range_with_len from m ≡ from ∷ range_with_len (from + 1) n
range-first from n m e = rw e refl

-- pages with no entry are passed over
skip : (g : Geometry) (kept : Kept) (after : Kept → Own → Kept → Type 0) (own : Own) (o : Kept) (k from n : ℕ) → ((w : ℕ) → from ≤ w → w < from + k → entry_of kept w ≡ None)
    → Each (PeeksAt g) (range_with_len (from + k) n) kept after own o → Each (PeeksAt g) (range_with_len from (k + n)) kept after own o
skip g kept after own o zero from n none h =
    let a : from + 0 ≡ from = omega arith in
    let b : n ≡ 0 + n = omega arith in
    subst (λ m. Each (PeeksAt g) (range_with_len from m) kept after own o) b (subst (λ f. Each (PeeksAt g) (range_with_len f n) kept after own o) a h)
skip g kept after own o (suc k) from n none h =
    let at : from + suc k ≡ from + 1 + k = omega arith in
    let size : suc k + n ≡ suc (k + n) = omega arith in
    let there = subst (λ f. Each (PeeksAt g) (range_with_len f n) kept after own o) at h in
    let inner = skip g kept after own o k (from + 1) n (λ w a b. none w (omega (arith, a)) (omega (arith, b))) there in
    let absent : is_some (entry_of kept from) ≡ false = rw (none from (omega arith) (omega arith)) refl in
    subst (λ (l : List ℕ). Each (PeeksAt g) l kept after own o) (sym (range-first from (k + n) (suc k + n) size))
    (either-other (is_some (entry_of kept from)) (Follows (IsAct (Peek from) g) (λ reply. Each (PeeksAt g) (range_with_len (from + 1) (k + n)) (peeked_with from (told_word reply) kept) after)) (Each (PeeksAt g) (range_with_len (from + 1) (k + n)) kept after) own o absent inner)

-- the least cached page is peeked next
pub peek-next : (g : Geometry) (number from page : ℕ) (kept : Kept) (own : Own) (o : Kept) → from ≤ page → page < length g.vpages → IsSome (entry_of kept page) → ((w : ℕ) → from ≤ w → w < page → entry_of kept w ≡ None)
    → Follows (IsAct (Peek page) g) (λ reply. PeeksFrom g number (page + 1) (peeked_with page (told_word reply) kept)) own o → PeeksFrom g number from kept own o
peek-next g number from page kept own o least within there none h =
    let after = Acknowledges g number in
    let at : from + (page - from) ≡ page = omega arith in
    let left : length g.vpages - page ≡ suc (length g.vpages - (page + 1)) = omega arith in
    let size : (page - from) + (length g.vpages - page) ≡ length g.vpages - from = omega arith in
    let here : Each (PeeksAt g) (page ∷ range_with_len (page + 1) (length g.vpages - (page + 1))) kept after own o =
    either-yes (is_some (entry_of kept page)) (Follows (IsAct (Peek page) g) (λ reply. PeeksFrom g number (page + 1) (peeked_with page (told_word reply) kept))) (PeeksFrom g number (page + 1) kept) own o there h in
    let all : Each (PeeksAt g) (range_with_len page (length g.vpages - page)) kept after own o = subst (λ (l : List ℕ). Each (PeeksAt g) l kept after own o) (sym (range-first page (length g.vpages - (page + 1)) (length g.vpages - page) left)) here in
    let far : Each (PeeksAt g) (range_with_len (from + (page - from)) (length g.vpages - page)) kept after own o = subst (λ f. Each (PeeksAt g) (range_with_len f (length g.vpages - page)) kept after own o) (sym at) all in
    subst (λ m. Each (PeeksAt g) (range_with_len from m) kept after own o) size
    (skip g kept after own o (page - from) from (length g.vpages - page) (λ w a b. none w a (omega (arith, b))) far)

-- where no page is cached any more, the number is acknowledged
pub ack-next : (g : Geometry) (number from : ℕ) (kept : Kept) (own : Own) (o : Kept) → ((w : ℕ) → from ≤ w → entry_of kept w ≡ None) → Acknowledges g number kept own o → PeeksFrom g number from kept own o
ack-next g number from kept own o none h =
    let size : (length g.vpages - from) + 0 ≡ length g.vpages - from = omega arith in
    subst (λ m. Each (PeeksAt g) (range_with_len from m) kept (Acknowledges g number) own o) size
    (skip g kept (Acknowledges g number) own o (length g.vpages - from) from 0 (λ w a b. none w a) h)

-- Each of these patterns has a list.

acknowledges-can : (g : Geometry) (number : ℕ) (kept : Kept) → CanEnd (Acknowledges g number kept)
acknowledges-can g number kept = can-follow _ _ (some-act (Ack Seen) g) (can-ends (record kept { acked = Some number }))

peeks-can : (g : Geometry) (number from : ℕ) (kept : Kept) → CanEnd (PeeksFrom g number from kept)
peeks-can g number from kept = each-can (PeeksAt g) (range_with_len from (length g.vpages - from)) kept (Acknowledges g number)
    (λ page now later can. can-either (is_some (entry_of now page)) (Follows (IsAct (Peek page) g) (λ reply. later (peeked_with page (told_word reply) now))) (later now)
    (can-follow (IsAct (Peek page) g) (λ reply. later (peeked_with page (told_word reply) now)) (some-act (Peek page) g) (can (peeked_with page (told_word (some-act (Peek page) g).outcome) now))) (can now))
    (λ end. acknowledges-can g number end)

pub left-can : (g : Geometry) (stage : CatchStage) (kept : Kept) (reply : Reply) → CanEnd (catch_left g stage kept reply)
left-can g Resting kept reply = can-ends kept
left-can g Polling kept reply = can-either (is_news kept.acked (told_word reply)) (PeeksFrom g (told_word reply) 0 kept) (Ends kept) (peeks-can g (told_word reply) 0 kept) (can-ends kept)
left-can g (Peeking number page) kept reply = peeks-can g number (page + 1) (peeked_with page (told_word reply) kept)
left-can g (Acknowledging number) kept reply = can-ends (record kept { acked = Some number })

-- a processor can always catch up
pub catches-up-can : (g : Geometry) (kept : Kept) → CanEnd (CatchesUp g kept)
catches-up-can g kept = can-follow (IsAct Poll g) (λ reply. catch_left g Polling kept reply) (some-act Poll g) (left-can g Polling kept (some-act Poll g).outcome)

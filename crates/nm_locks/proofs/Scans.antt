-- The kind that scans free frames.
use Rattle.std.proofs.Common.{◌≡◌, ◌≢◌, ℕ, ◌+◌, ◌*◌, ◌^◌, ◌<◌, ◌==◌, true, Option, Some, None, refl, sym, ap, subst, ◌∙◌, arith}
use Rattle.std.specs.Prelude.{slice_index}
use Rattle.std.specs.Int.{bit_at, w64}
use Rattle.std.proofs.lemmas.Bool.{eqb-false, eq-eqb, lt-ltb}
use Rattle.std.proofs.lemmas.Nat.Bits.{bit_at-trailing_zeros}
use Rattle.nm_base.specs.Geometry.{Geometry, IsInTier, first_frame, tier_of, frame_count}
use Rattle.nm_base.specs.FreeWords.{free_index, free_bit, free_base, least_bit}
use Rattle.nm_base.specs.Ranges.{IsWord, IsTier}
use Rattle.nm_base.proofs.Tiers.{tier_of-IsInTier, IsInTier-from_first, IsInTier-lt}
use Rattle.nm_action.specs.declared.action.Reply.TheVariants.{Word}
use Rattle.nm_action.specs.declared.action.Action.TheVariants.{Scan}
use Rattle.nm_view.specs.Views.{View}
use Rattle.nm_view.proofs.Items.{not_none, some_same}
use Rattle.nm_words.specs.declared.names.Where.{Where}
use Rattle.nm_words.specs.declared.names.Where.TheVariants as words
use Rattle.nm_step.specs.Table.{free_word_of}
use Rattle.nm_event.specs.After.{after_of, least_with}
use Rattle.nm_world.specs.Worlds.{World, moved, viewing, written}
use Rattle.nm_world.specs.Sights.{free_in}
use Rattle.nm_world.specs.LockLaw.{LockLaw, IsFreeIn}
use Rattle.nm_world.specs.Laws.{IsReady}
use Rattle.nm_world.proofs.Choose.{choose, decide}
use Rattle.nm_locks.proofs.Still.{read_keeps}
use Rattle.nm_locks.proofs.Turns.{lock_turns, view_turn}

least_set : (n : ℕ) → 0 < n → n < 2 ^ 64 → (least_bit n < 64) × (bit_at n (least_bit n) ≡ 1)
unfolding least_bit
least_set n some lt = let low = bit_at-trailing_zeros w64 n some lt in (low.0, low.1)

both_free : (t u k j : ℕ) → t ≡ u → k ≡ j → words.Free t k ≡ words.Free u j
both_free t u k j e h = cc

-- the frame for which the least set bit of a word of a tier stands
least_free : (g : Geometry) (word : Where → ℕ) (t k n : ℕ) → word (words.Free t k) ≡ n → IsTier g t → IsWord n → n ≢ 0 → ((bit : ℕ) → bit_at n bit ≡ 1 → 64 * k + bit < slice_index g.tiers t) → IsInTier g (free_base g t k + least_bit n) t × (free_in g word (free_base g t k + least_bit n) ≡ true)
least_free g word t k n is tier range some own =
    let low = least_set n (omega (arith, some)) range in
    let f : ℕ = free_base g t k + least_bit n in
    let at : first_frame g t + (64 * k + least_bit n) ≡ f = omega arith in
    let lies : IsInTier g f t = subst (λ (x : ℕ). IsInTier g x t) at (IsInTier-from_first g t (64 * k + least_bit n) tier (own (least_bit n) low.1)) in
    let of : tier_of g f ≡ t = sym (tier_of-IsInTier g f t lies) in
    let first : first_frame g (tier_of g f) ≡ first_frame g t = ap (first_frame g) of in
    let index : free_index g f ≡ k = omega (arith, first, low.0) in
    let bit : free_bit g f ≡ least_bit n = omega (arith, first, low.0) in
    let there : free_word_of g f ≡ words.Free t k = both_free (tier_of g f) t (free_index g f) k of index in
    let set : bit_at (word (free_word_of g f)) (free_bit g f) ≡ 1 = ap (λ c. bit_at (word c) (free_bit g f)) there ∙ ap (λ x. bit_at x (free_bit g f)) is ∙ ap (bit_at n) bit ∙ low.1 in
    (lies, rw (lt-ltb f (frame_count g) (IsInTier-lt g f t lies)) (eq-eqb _ 1 set))

-- the least frame after a scan of a word is free, and of its tier
least_scanned : (g : Geometry) (word : Where → ℕ) (t k n f : ℕ) (least : Option ℕ) → word (words.Free t k) ≡ n → IsTier g t → IsWord n → ((bit : ℕ) → bit_at n bit ≡ 1 → 64 * k + bit < slice_index g.tiers t) → ((x : ℕ) → least ≡ Some x → IsInTier g x t × (free_in g word x ≡ true)) → least_with least (free_base g t k) n ≡ Some f → IsInTier g f t × (free_in g word f ≡ true)
least_scanned g word t k n f (Some x) is tier range own before found = before f found
least_scanned g word t k n f None is tier range own before found =
    let P : Option ℕ → Type 0 = λ o. o ≡ Some f → IsInTier g f t × (free_in g word f ≡ true) in
    decide P (n == 0) None (Some (free_base g t k + least_bit n))
    (λ zero none. absurd (not_none f none))
    (λ some here.
    let Q : ℕ → Type 0 = λ x. IsInTier g x t × (free_in g word x ≡ true) in
    subst Q (some_same (free_base g t k + least_bit n) f here) (least_free g word t k n is tier range (eqb-false n 0 some) own))
    found

pub lock_scan : (g : Geometry) (m : World) (a t k : ℕ) → IsReady g m a (Scan t k) → LockLaw g m → LockLaw g (moved g m a (Scan t k))
lock_scan g m a t k r h =
    let n : ℕ = m.word (words.Free t k) in
    let view : View = m.view a in
    let new : View = after_of g view (Scan t k) (Word n) in
    let word : Where → ℕ = written (words.Free t k) n m.word in
    let kept = read_keeps g (words.Free t k) m.word in
    let said = r.fits.told.said in
    let mine = r.allowed.permitted.turn in
    lock_turns g m word a new kept.pte kept.home kept.shadow kept.lock refl
    (λ c u. view_turn g m a new refl h c u)
    (λ c u f. choose (λ v. v.turn ≡ Some u → v.scan.least ≡ Some f → IsFreeIn g (record { word = word; view = viewing a new m.view }) u f) c a new (m.view c)
    (λ ca is found.
    let same : t ≡ u = some_same t u (sym mine ∙ is) in
    let scanned = least_scanned g m.word t k n f view.scan.least refl r.allowed.range.tier r.fits.told.bits (λ bit set. (said bit set).within)
    (λ x there. let was = h.least a t x mine there in (was.tier, was.free)) found in
    record { tier = subst (IsInTier g f) same scanned.0; free = kept.free f ∙ scanned.1 })
    (λ ca is found. let was = h.least c u f is found in record { tier = was.tier; free = kept.free f ∙ was.free })) h

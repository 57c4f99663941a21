-- Where a frame lies among the tiers.
use Rattle.std.proofs.Common.{◌≡◌, ℕ, zero, suc, ◌+◌, ◌-◌, ◌<◌, ◌≤◌, Bool, true, false, List, [], ◌∷◌, length, take, sum, nat_lt, refl, arith, add-one}
use Rattle.std.specs.Bool.{if◌then◌else◌}
use Rattle.std.specs.Prelude.{slice_index}
use Rattle.std.proofs.lemmas.Bool.{ltb-true, ltb-false}
use Rattle.std.proofs.lemmas.List.Sums.{sum_by-cons}
use Rattle.nm_base.specs.Geometry.{Geometry, IsInTier, tier_among, tier_of, first_frame, frame_count}

-- f lies in place t of the tiers ns
record IsAt (ns : List ℕ) (f t : ℕ) : Type 0 where
  exists : t < length ns
  start : sum (take t ns) ≤ f
  below : f < sum (take (t + 1) ns)

sum-cons : (n : ℕ) (ns : List ℕ) → sum (n ∷ ns) ≡ n + sum ns
sum-cons n ns = sum_by-cons (λ x. x) n ns

later : (n : ℕ) (ns : List ℕ) (f t : ℕ) → n ≤ f → IsAt ns (f - n) t → IsAt (n ∷ ns) f (suc t)
later n ns f t h at = record {
  exists = omega (arith, at.exists);
  start = omega (arith, at.start, sum-cons n (take t ns));
  below = rw add-one (omega (arith, rw add-one at at.below, sum-cons n (take (suc t) ns)));
}

step : (n : ℕ) (ns : List ℕ) (f : ℕ) (b : Bool) → nat_lt f n ≡ b → (n ≤ f → IsAt ns (f - n) (tier_among ns (f - n))) → IsAt (n ∷ ns) f (if b then 0 else tier_among ns (f - n) + 1)
step n ns f true e rest = record { exists = omega arith; start = omega arith; below = omega (arith, ltb-true f n e) }
step n ns f false e rest = let h : n ≤ f = ltb-false f n e in rw add-one (later n ns f (tier_among ns (f - n)) h (rest h))

IsAt-tier_among : (ns : List ℕ) (f : ℕ) → f < sum ns → IsAt ns f (tier_among ns f)
IsAt-tier_among [] f h = absurd (omega (arith, h))
IsAt-tier_among (n ∷ ns) f h =
    step n ns f (nat_lt f n) refl (λ over. IsAt-tier_among ns (f - n) (omega (arith, sum-cons n ns)))

-- each frame lies in its tier
pub IsInTier-tier_of : (g : Geometry) (f : ℕ) → f < frame_count g → IsInTier g f (tier_of g f)
IsInTier-tier_of g f h = let at = IsAt-tier_among g.tiers f h in record { exists = at.exists; from = at.start; below = at.below }

-- a place of the tiers is the one in which its frames are found
first_place : (n : ℕ) (ns : List ℕ) (f : ℕ) (b : Bool) → nat_lt f n ≡ b → IsAt (n ∷ ns) f zero → zero ≡ (if b then 0 else tier_among ns (f - n) + 1)
first_place n ns f true e at = refl
first_place n ns f false e at = let below : f < n = omega (arith, at.below, sum-cons n (take zero ns)) in absurd (omega (arith, below, ltb-false f n e))

later_place : (n : ℕ) (ns : List ℕ) (f t : ℕ) (b : Bool) → nat_lt f n ≡ b → n ≤ f → t ≡ tier_among ns (f - n) → suc t ≡ (if b then 0 else tier_among ns (f - n) + 1)
later_place n ns f t true e le is = absurd (omega (arith, ltb-true f n e))
later_place n ns f t false e le is = omega (arith, is)

only_place : (ns : List ℕ) (f t : ℕ) → IsAt ns f t → t ≡ tier_among ns f
only_place [] f t at = absurd (omega (arith, at.exists))
only_place (n ∷ ns) f zero at = first_place n ns f (nat_lt f n) refl at
only_place (n ∷ ns) f (suc t) at =
    let start : n + sum (take t ns) ≤ f = omega (arith, at.start, sum-cons n (take t ns)) in
    let le : n ≤ f = omega (arith, start) in
    let rest : IsAt ns (f - n) t = record {
      exists = omega (arith, at.exists);
      start = omega (arith, start);
      below = rw add-one (omega (arith, rw add-one at at.below, sum-cons n (take (suc t) ns)));
    } in
    later_place n ns f t (nat_lt f n) refl le (only_place ns (f - n) t rest)

-- the tier of a frame is the one in which it lies
pub tier_of-IsInTier : (g : Geometry) (f t : ℕ) → IsInTier g f t → t ≡ tier_of g f
tier_of-IsInTier g f t h = only_place g.tiers f t (record { exists = h.exists; start = h.from; below = h.below })

take_more : (ns : List ℕ) (t : ℕ) → t < length ns → sum (take (suc t) ns) ≡ sum (take t ns) + slice_index ns t
take_more [] t lt = absurd (omega (arith, lt))
take_more (n ∷ ns) zero lt = omega (arith, sum-cons n (take zero ns))
take_more (n ∷ ns) (suc t) lt = omega (arith, sum-cons n (take (suc t) ns), sum-cons n (take t ns), take_more ns t (omega (arith, lt)))

take_less : (ns : List ℕ) (t : ℕ) → sum (take t ns) ≤ sum ns
take_less [] zero = omega arith
take_less [] (suc t) = omega arith
take_less (n ∷ ns) zero = omega arith
take_less (n ∷ ns) (suc t) = omega (arith, sum-cons n ns, sum-cons n (take t ns), take_less ns t)

-- the frames of a tier lie in it
pub IsInTier-from_first : (g : Geometry) (t n : ℕ) → t < length g.tiers → n < slice_index g.tiers t → IsInTier g (first_frame g t + n) t
IsInTier-from_first g t n exists lt = record { exists = exists; from = omega arith; below = rw add-one (omega (arith, lt, take_more g.tiers t exists)) }

-- a frame of a tier is a frame
pub IsInTier-lt : (g : Geometry) (f t : ℕ) → IsInTier g f t → f < frame_count g
IsInTier-lt g f t h = omega (arith, h.below, take_less g.tiers (t + 1))

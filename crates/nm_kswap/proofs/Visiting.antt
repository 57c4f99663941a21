-- The visits of a tier, one by one.
use Rattle.std.proofs.Common.{◌≡◌, ℕ, zero, suc, ◌+◌, ◌-◌, ◌<◌, ◌≤◌, ◌↔◌, ◌%◌, ◌^◌, IsTrue, nat_lt, nat_le, if◌then◌else◌, Bool, true, false, slice_set, length, refl, sym, subst, arith}
use Rattle.std.proofs.lemmas.List.Elements.{All-get_or}
use Rattle.nm_base.specs.Geometry.{Geometry, IsGeometry, page_count}
use Rattle.nm_base.specs.Ranges.{IsPage}
use Rattle.nm_kswap.specs.declared.stage.Kept.{Kept}
use Rattle.nm_kswap.specs.declared.stage.Stage.TheVariants.{Inspecting}
use Rattle.nm_kswap.specs.Reclaiming.{hand_of, hand_moved, marks_of, has_vpage}
use Rattle.nm_kswap.specs.Stages.{to_stage, tier_stage, to_visit}
use Rattle.nm_kswap.specs.Knowing.{AreHands}
use Rattle.nm_kswap.proofs.Giving.{moved-hands}

-- the level is enough: no more visits
pub visits-enough : (g : Geometry) (last : Bool) (tier level left : ℕ) (kept : Kept) → nat_lt level (marks_of g tier).high ≡ false → to_visit g last tier level left kept ≡ to_stage (tier_stage g last (tier + 1)) kept
visits-enough g last tier level zero kept enough = refl
visits-enough g last tier level (suc left) kept enough = rw enough refl

-- no visit is left
pub visits-none : (g : Geometry) (last : Bool) (tier level left : ℕ) (kept : Kept) → left ≡ 0 → to_visit g last tier level left kept ≡ to_stage (tier_stage g last (tier + 1)) kept
visits-none g last tier level left kept none = let V : ℕ → Type 0 = λ n. to_visit g last tier level n kept ≡ to_stage (tier_stage g last (tier + 1)) kept in subst V (sym none) refl

-- the kept, with the hand of a tier put on from this page
abbrev pub put_on : Geometry → ℕ → ℕ → Kept → Kept
put_on g tier pages kept = record { hands = slice_set kept.hands tier ((hand_of tier kept + 1) % pages); spent = kept.spent }

visits-suc : (g : Geometry) (last : Bool) (tier level left : ℕ) (kept : Kept) (some : Bool) → nat_lt level (marks_of g tier).high ≡ true → has_vpage g (hand_of tier kept) ≡ some
    → to_visit g last tier level (suc left) kept ≡ (if some then to_stage (Inspecting (record { last = last; tier = tier; level = level; page = hand_of tier kept; left = left })) (hand_moved g tier kept) else to_visit g last tier level left (hand_moved g tier kept))
visits-suc g last tier level left kept some low found = rw (low, found) refl

visits-next : (g : Geometry) (last : Bool) (tier level left pages : ℕ) (kept : Kept) (some : Bool) → nat_lt level (marks_of g tier).high ≡ true → has_vpage g (hand_of tier kept) ≡ some → 0 < left → pages ≡ page_count g
    → to_visit g last tier level left kept ≡ (if some then to_stage (Inspecting (record { last = last; tier = tier; level = level; page = hand_of tier kept; left = left - 1 })) (put_on g tier pages kept) else to_visit g last tier level (left - 1) (put_on g tier pages kept))
visits-next g last tier level left pages kept some low found more is =
    let one : suc (left - 1) ≡ left = omega (arith, more) in
    let V : ℕ → Type 0 = λ n. to_visit g last tier level n kept ≡ (if some then to_stage (Inspecting (record { last = last; tier = tier; level = level; page = hand_of tier kept; left = left - 1 })) (hand_moved g tier kept) else to_visit g last tier level (left - 1) (hand_moved g tier kept)) in
    let P : ℕ → Type 0 = λ n. to_visit g last tier level left kept ≡ (if some then to_stage (Inspecting (record { last = last; tier = tier; level = level; page = hand_of tier kept; left = left - 1 })) (put_on g tier n kept) else to_visit g last tier level (left - 1) (put_on g tier n kept)) in
    subst P (sym is) (subst V one (visits-suc g last tier level (left - 1) kept some low found))

-- the page has a virtual page: it is visited
pub visits-found : (g : Geometry) (last : Bool) (tier level left pages : ℕ) (kept : Kept) → nat_lt level (marks_of g tier).high ≡ true → has_vpage g (hand_of tier kept) ≡ true → 0 < left → pages ≡ page_count g
    → to_visit g last tier level left kept ≡ to_stage (Inspecting (record { last = last; tier = tier; level = level; page = hand_of tier kept; left = left - 1 })) (put_on g tier pages kept)
visits-found g last tier level left pages kept low found more is = visits-next g last tier level left pages kept true low found more is

-- it has none: the next one
pub visits-more : (g : Geometry) (last : Bool) (tier level left pages : ℕ) (kept : Kept) → nat_lt level (marks_of g tier).high ≡ true → has_vpage g (hand_of tier kept) ≡ false → 0 < left → pages ≡ page_count g
    → to_visit g last tier level (left - 1) (put_on g tier pages kept) ≡ to_visit g last tier level left kept
visits-more g last tier level left pages kept low found more is = sym (visits-next g last tier level left pages kept false low found more is)

pub hands-put-on : (g : Geometry) (tier pages : ℕ) (kept : Kept) → pages ≡ page_count g → IsGeometry g → AreHands g kept.hands → AreHands g (put_on g tier pages kept).hands
hands-put-on g tier pages kept is fine hands = let P : ℕ → Type 0 = λ n. AreHands g (put_on g tier n kept).hands in subst P (sym is) (moved-hands g tier kept fine hands)

-- whether the level is enough
pub not-enough : (enough : Bool) (high level : ℕ) → (IsTrue enough ↔ (high ≤ level)) → enough ≡ false → nat_lt level high ≡ true
not-enough enough high level h is = grind (arith, h, is)

pub is-enough : (enough : Bool) (high level : ℕ) → (IsTrue enough ↔ (high ≤ level)) → enough ≡ true → nat_lt level high ≡ false
is-enough enough high level h is = grind (arith, h, is)

pub wants-by : (wants : Bool) (level low : ℕ) → (IsTrue wants ↔ (level ≤ low)) → wants ≡ nat_le level low
wants-by true level low h = grind (arith, h)
wants-by false level low h = grind (arith, h)

-- the number of the next page fits
pub hand-small : (g : Geometry) (tier : ℕ) (kept : Kept) → IsGeometry g → tier + 1 < length g.tiers → AreHands g kept.hands → hand_of tier kept + 1 < 2 ^ 32
hand-small g tier kept fine there hands =
    let few = fine.ranges.1.1 in
    let pages = fine.ranges.3.2 in
    let within = All-get_or (IsPage g) kept.hands tier 0 (omega (arith, there, few, hands.size)) hands.within in
    omega (arith, pages, within)

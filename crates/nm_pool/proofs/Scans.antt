-- One word more of a scan.
use Rattle.std.proofs.Common.{◌≡◌, ℕ, ◌+◌, ◌*◌, ◌^◌, ◌<◌, ◌≤◌, ◌==◌, inl, inr, if◌then◌else◌, Bool, true, false, List, [], ◌∷◌, ◌++◌, Option, Some, None, MatchOption, length, count_ones, refl, arith}
use Rattle.std.proofs.lemmas.List.{length-append}
use Rattle.std.proofs.lemmas.Bool.{cases_lt}
use Rattle.std.proofs.lemmas.Nat.{ones-le, ones_le_self}
use Rattle.std.proofs.lemmas.Nat.Bits.{bit_at-trailing_zeros}
use Rattle.std.specs.Int.{bit_at, w64}
use Rattle.nm_base.specs.Geometry.{Geometry, first_frame}
use Rattle.nm_view.specs.declared.view.Scanned.{Scanned}
use Rattle.nm_view.specs.Views.{View}
use Rattle.nm_base.specs.FreeWords.{least_bit}
use Rattle.nm_event.specs.After.{scanned_word, least_with}
use Rattle.nm_view.specs.Opening.{unscanned}
use Rattle.nm_event.specs.Fitting.{IsScanOf}
use Rattle.nm_pool.specs.Pool.{IsFree, IsLeastFree}
use Rattle.nm_pool.specs.Given.{IsGiven}
use Rattle.nm_pool.specs.Stages.{HasScanned}
use Rattle.nm_pool.proofs.Lists.{count-push, first-next, no_bit, free-within, free-kept, free-new, free-cases, IsNewFree}

-- what is known of the least frame
abbrev pub KnowsLeast : Geometry → ℕ → View → List ℕ → Option ℕ → Type 0
KnowsLeast g tier view words least = MatchOption least ((frame : ℕ) → ¬ IsFree g tier words frame) (λ frame. IsLeastFree g tier words frame × IsGiven g tier view frame)

-- a frame of an earlier word is less than one of a later word
earlier : (g : Geometry) (tier : ℕ) (ws : List ℕ) (w f e : ℕ) → IsFree g tier ws f → IsNewFree g tier (length ws) w e → f ≤ e
earlier g tier ws w f e h n = omega (arith, free-within g tier ws f h, h.is, h.small, n.is)

least-kept : (g : Geometry) (tier : ℕ) (ws : List ℕ) (w f : ℕ) → IsLeastFree g tier ws f → IsLeastFree g tier (ws ++ w ∷ []) f
least-kept g tier ws w f h = record {
  free = free-kept g tier ws w f h.free;
  least = λ e free. elim (free-cases g tier ws w e free) [ inl old ↦ h.least e old | inr new ↦ earlier g tier ws w f e h.free new ];
}

none-kept : (g : Geometry) (tier : ℕ) (ws : List ℕ) (w : ℕ) → w ≡ 0 → ((f : ℕ) → ¬ IsFree g tier ws f) → (f : ℕ) → ¬ IsFree g tier (ws ++ w ∷ []) f
none-kept g tier ws w z h f free = elim (free-cases g tier ws w f free) [ inl old ↦ h f old | inr new ↦ no_bit w new.bit z new.set ]

-- the lowest bit of a word
record IsLowest (w bit : ℕ) : Type 0 where
  small : bit < 64
  set : bit_at w bit ≡ 1
  least : (i : ℕ) → bit_at w i ≡ 1 → bit ≤ i

lowest : (w : ℕ) → 0 < w → w < 2 ^ 64 → IsLowest w (least_bit w)
unfolding least_bit
lowest w pos fits = let t = bit_at-trailing_zeros w64 w pos fits in record {
  small = t.0;
  set = t.1;
  least = λ i set. elim (cases_lt i (least_bit w)) [ inl lt ↦ absurd (let z = t.2 i lt in omega (arith, z, set)) | inr ge ↦ ge ];
}

least-first : (g : Geometry) (tier : ℕ) (ws : List ℕ) (w bit : ℕ) → IsLowest w bit → ((f : ℕ) → ¬ IsFree g tier ws f) → IsLeastFree g tier (ws ++ w ∷ []) (first_frame g tier + 64 * length ws + bit)
least-first g tier ws w bit l h = record {
  free = free-new g tier ws w _ (record { bit = bit; small = l.small; set = l.set; is = refl });
  least = λ e free. elim (free-cases g tier ws w e free) [ inl old ↦ absurd (h e old) | inr new ↦ omega (arith, l.least new.bit new.set, new.is) ];
}

given-first : (g : Geometry) (tier : ℕ) (view : View) (n w bit : ℕ) → tier < length g.tiers → IsLowest w bit → IsScanOf g view tier n w → IsGiven g tier view (first_frame g tier + 64 * n + bit)
given-first g tier view n w bit exists l scan = let free = scan bit l.set in record {
  there = record { exists = exists; «from» = omega arith; below = omega (arith, free.within, first-next g tier exists) };
  fresh = free.owned;
  homeless = free.home;
}

first_go : (g : Geometry) (tier : ℕ) (view : View) (ws : List ℕ) (w : ℕ) → tier < length g.tiers → w < 2 ^ 64 → IsScanOf g view tier (length ws) w → ((f : ℕ) → ¬ IsFree g tier ws f)
    → (b : Bool) → (w == 0) ≡ b → KnowsLeast g tier view (ws ++ w ∷ []) (if b then None else Some (first_frame g tier + 64 * length ws + least_bit w))
first_go g tier view ws w exists fits scan h true e = none-kept g tier ws w (grind (arith, e)) h
first_go g tier view ws w exists fits scan h false e =
    let l = lowest w (grind (arith, e)) fits in
    (least-first g tier ws w (least_bit w) l h, given-first g tier view (length ws) w (least_bit w) exists l scan)

pub least-push : (g : Geometry) (tier : ℕ) (view : View) (ws : List ℕ) (w : ℕ) (least : Option ℕ) → tier < length g.tiers → w < 2 ^ 64 → IsScanOf g view tier (length ws) w
    → KnowsLeast g tier view ws least → KnowsLeast g tier view (ws ++ w ∷ []) (least_with least (first_frame g tier + 64 * length ws) w)
least-push g tier view ws w None exists fits scan h = first_go g tier view ws w exists fits scan h (w == 0) refl
least-push g tier view ws w (Some f) exists fits scan h = (least-kept g tier ws w f h.0, h.1)

some_go : (w sum f : ℕ) (b : Bool) → (w == 0) ≡ b → sum ≡ 0 → ◌≡◌ {A = Option ℕ} (if b then None else Some f) None → sum + count_ones w ≡ 0
some_go w sum f true e s h = let z : w ≡ 0 = grind (arith, e) in let o : count_ones w ≤ w = ones_le_self w in omega (arith, z, o, s)
some_go w sum f false e s h = cc

some-push : (least : Option ℕ) (sum base w : ℕ) → (least ≡ None → sum ≡ 0) → least_with least base w ≡ None → sum + count_ones w ≡ 0
some-push None sum base w h e = some_go w sum (base + least_bit w) (w == 0) refl (h refl) e
some-push (Some f) sum base w h e = cc

ones-small : (w : ℕ) → w < 2 ^ 64 → count_ones w ≤ 64
ones-small w h = ones-le 64 w h

-- a scan with one word more
pub scan-push : (g : Geometry) (tier : ℕ) (view : View) (ws : List ℕ) (w : ℕ) (scan : Scanned) → tier < length g.tiers → w < 2 ^ 64 → IsScanOf g view tier (length ws) w
    → HasScanned g tier view ws scan → HasScanned g tier view (ws ++ w ∷ []) (scanned_word (first_frame g tier + 64 * scan.words) w scan)
scan-push g tier view ws w scan exists fits is h = record {
  count = omega (arith, h.count, length-append ws (w ∷ []));
  sum = rw (count-push, h.sum) refl;
  few = omega (arith, h.few, ones-small w fits, length-append ws (w ∷ []));
  some = some-push scan.least scan.sum (first_frame g tier + 64 * scan.words) w h.some;
  least = rw h.count (least-push g tier view ws w scan.least exists fits is h.least);
}

-- nothing is scanned
pub scan-none : (g : Geometry) (tier : ℕ) (view : View) → HasScanned g tier view [] unscanned
scan-none g tier view = record {
  count = refl;
  sum = refl;
  few = omega arith;
  some = λ _. refl;
  least = λ f free. let bad = free-within g tier [] f free in omega (arith, bad);
}

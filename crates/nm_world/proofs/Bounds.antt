-- That the world of a state has the bounds that the state keeps.
use Rattle.std.proofs.Common.{◌≡◌, ℕ, suc, ◌+◌, ◌<◌, ◌≤◌, List, [], ◌∷◌, Some, None, length, get_or, refl, sym, ap, ◌∙◌, inl, inr, arith}
use Rattle.std.specs.Prelude.{sum_by}
use Rattle.std.specs.List.{range_with_len}
use Rattle.std.proofs.lemmas.Bool.{cases_lt}
use Rattle.std.proofs.lemmas.List.{get_or_default, get_or_past}
use Rattle.std.proofs.lemmas.List.Sums.{sum_by-cons}
use Rattle.std.proofs.lemmas.Nat.Bits.{bit_at-zero}
use Rattle.nm_base.specs.Geometry.{Geometry, frame_count}
use Rattle.nm_base.specs.FreeWords.{HasOwnBits}
use Rattle.nm_base.specs.HomeWord.{IsHomeWord}
use Rattle.nm_base.specs.Ranges.{IsWord}
use Rattle.nm_base.specs.ShadowWord.{IsShadowWord}
use Rattle.nm_base.specs.TableWord.{IsTableInRange}
use Rattle.nm_base.proofs.TableWords.{IsTableInRange-zero}
use Rattle.nm_view.specs.Views.{Op, View}
use Rattle.nm_view.specs.Opening.{opening}
use Rattle.nm_view.specs.Operations.{page_of, op_on}
use Rattle.nm_view.proofs.Items.{all_find, not_none}
use Rattle.nm_words.specs.declared.names.Where.TheVariants.{Req, Pte, Stamp, Home, Shadow, Free}
use Rattle.nm_core.specs.Named.{AreTakenInRange}
use Rattle.nm_core.specs.Kept.{IsKept, raises_of}
use Rattle.nm_core.specs.State.{State, view_of, actor_count}
use Rattle.nm_world.specs.Bounds.{HasBounds, raises_in}
use Rattle.nm_world.specs.Seen.{world_of}
use Rattle.nm_world.proofs.Bridge.{seen_of}

-- a sum over the items of a list is a sum over their places
sum_by-places : {A : Type 0} (f : A → ℕ) (h : ℕ → ℕ) (a : ℕ) (xs : List A) → ((i : ℕ) (d : A) → i < length xs → h (a + i) ≡ f (get_or xs i d)) → sum_by h (range_with_len a (length xs)) ≡ sum_by f xs
sum_by-places f h a [] same = refl
sum_by-places f h a (x ∷ xs) same =
    let first : h a ≡ f x = ap h (omega arith) ∙ same 0 x (omega arith) in
    let rest = sum_by-places f h (a + 1) xs (λ i d lt. ap h (omega arith) ∙ same (suc i) d (omega (arith, lt))) in
    omega (arith, sum_by-cons h a (range_with_len (a + 1) (length xs)), sum_by-cons f x xs, first, rest)

-- the sum over the views of a state, by actors
views_sum : (s : State) (f : View → ℕ) → length s.views ≡ actor_count s.geometry → sum_by (λ a. f (view_of s a)) (range_with_len 0 (actor_count s.geometry)) ≡ sum_by f s.views
views_sum s f size =
    ap (λ n. sum_by (λ a. f (view_of s a)) (range_with_len 0 n)) (sym size)
    ∙ sum_by-places f (λ a. f (view_of s a)) 0 s.views (λ i d lt. ap (λ n. f (view_of s n)) (omega arith) ∙ ap f (get_or_default s.views i (opening s.geometry i) d lt))

-- no word of 0 has a bit that is not its tier's
no_bits : (g : Geometry) (t k : ℕ) → HasOwnBits g t k 0
no_bits g t k bit set = absurd (omega (arith, set, bit_at-zero bit))

-- the taken words of an actor's operations are in range
taken_kept : (s : State) (a b : ℕ) (o : Op) → IsKept s → op_on (view_of s a) b ≡ Some o → AreTakenInRange s.geometry o
taken_kept s a b o k is =
    elim (cases_lt a (length s.views)) [
      | inl there ↦ all_find page_of b (AreTakenInRange s.geometry) (view_of s a).ops o (k.views a there).taken is
      | inr past ↦
          let none : op_on (view_of s a) b ≡ None = ap (λ v. op_on v b) (get_or_past s.views a (opening s.geometry a) past) in
          absurd (not_none o (sym none ∙ is))
    ]

pub HasBounds-world_of : (s : State) → IsKept s → HasBounds s.geometry (world_of s)
HasBounds-world_of s k =
    let g : Geometry = s.geometry in
    let some : 0 < frame_count g = omega (arith, k.geometry.room) in
    let raises : raises_in g (world_of s) ≡ raises_of s = views_sum s (λ v. v.raises) k.actors in
    record {
      req = k.ranged Req tt ∙ sym (views_sum s (λ v. v.bumps) k.actors);
      stamps = λ v. seen_of (λ n. n ≤ raises_in g (world_of s)) g s.words (Stamp v) (omega arith) (λ p. omega (arith, k.ranged (Stamp v) p, raises));
      table = λ v. seen_of (IsTableInRange g) g s.words (Pte v) (IsTableInRange-zero g some) (k.ranged (Pte v));
      taken = λ a b o is. taken_kept s a b o k is;
      homes = λ b. seen_of (IsHomeWord g) g s.words (Home b) (omega arith) (k.ranged (Home b));
      shadows = λ m. seen_of (IsShadowWord g) g s.words (Shadow m) (inl refl) (k.ranged (Shadow m));
      free = λ t i. seen_of (HasOwnBits g t i) g s.words (Free t i) (no_bits g t i) (k.ranged (Free t i));
      words = λ c. seen_of IsWord g s.words c (omega arith) (k.words c);
    }

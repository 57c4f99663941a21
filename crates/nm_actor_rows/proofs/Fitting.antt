-- Words of free frames, and table words, that fit where the view has no operation and owns nothing.
use Rattle.std.proofs.Common.{◌≡◌, ℕ, ◌^◌, ◌<◌, ◌≤◌, inl, inr, List, [], Option, Some, None, IfSome, slice_index, refl, sym, subst, arith}
use Rattle.std.proofs.lemmas.Bool.{cases_lt}
use Rattle.std.proofs.lemmas.List.Elements.{All-nil}
use Rattle.std.proofs.lemmas.Nat.Bits.{bit_at_above}
use Rattle.std.specs.Int.{bit_at}
use Rattle.nm_base.specs.Geometry.{Geometry, backing_page}
use Rattle.nm_view.specs.Views.{Op, View}
use Rattle.nm_view.specs.Lists.{find}
use Rattle.nm_view.specs.Operations.{page_of, op_under}
use Rattle.nm_event.specs.Fitting.{IsScanOf, IsAsKnown, IsTableReply}

below : (w n bit : ℕ) → w < 2 ^ n → bit_at w bit ≡ 1 → bit < n
below w n bit small set = elim (cases_lt bit n) [ inl lt ↦ lt | inr ge ↦ absurd (let z = bit_at_above w n bit small ge in omega (arith, z, set)) ]

-- word 0 of a tier of at least n frames has bits below n alone
pub fits_scan : (g : Geometry) (v : View) (tier w n : ℕ) → w < 2 ^ n → n ≤ slice_index g.tiers tier → v.ops ≡ [] → v.owned ≡ [] → IsScanOf g v tier 0 w
fits_scan g v tier w n short fits ops owned = λ bit set. record {
  within = let lt = below w n bit short set in omega (arith, lt, fits);
  owned = rw owned refl;
  home = rw ops (All-nil _);
}

known-empty : (view : View) (v : ℕ) (page : Option ℕ) → view.ops ≡ [] → IfSome (op_under view page) (IsAsKnown v 0)
known-empty view v None e = tt
known-empty view v (Some b) e = let P : List Op → Type 0 = λ ops. IfSome (find page_of b ops) (IsAsKnown v 0) in subst P (sym e) tt

-- the absent table word fits, where the view has no operation
pub fits_absent : (g : Geometry) (view : View) (v word : ℕ) → word ≡ 0 → view.ops ≡ [] → IsTableReply g view v word
fits_absent g view v word absent ops = rw absent (record {
  table = record { layout = inl refl; frame = λ n. absurd (n refl); writable = λ w. cc; saved = λ s. cc };
  known = known-empty view v (backing_page g v) ops;
})

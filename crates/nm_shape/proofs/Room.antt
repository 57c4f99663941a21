-- The lists of a view whose numbers are in range are within their room.
use Rattle.std.proofs.Common.{◌≡◌, ◌≢◌, ℕ, zero, suc, ◌+◌, ◌^◌, ◌<◌, ◌≤◌, ◌==◌, Bool, true, false, inl, inr, List, take, get_or, Option, Some, None, All, length, refl, sym, subst, ap, ◌∙◌, arith}
use Rattle.std.specs.Prelude.{count_ones, count_by, slice_index, option_map}
use Rattle.std.proofs.lemmas.List.{take_all}
use Rattle.std.specs.Option.{IfSome}
use Rattle.std.proofs.lemmas.Grind.{common_steps}
use Rattle.std.proofs.lemmas.Nat.{ones-le}
use Rattle.std.proofs.Math.Pow.{pow-lt}
use Rattle.nm_base.specs.Geometry.{Geometry, IsGeometry, backing_page, backing_among, page_count, frame_count}
use Rattle.nm_base.specs.declared.geometry.VPage.{VPage}
use Rattle.nm_action.specs.declared.action.Reply.{Reply}
use Rattle.nm_action.specs.declared.action.Reply.TheVariants.{Done, Word}
use Rattle.nm_action.specs.declared.action.Action.{Action}
use Rattle.nm_action.specs.declared.action.Action.TheVariants.{Bump, Raise, SetHome, Scan}
use Rattle.nm_view.specs.Lists.{first, itself, Once}
use Rattle.nm_view.specs.Views.{Op, View}
use Rattle.nm_view.specs.Operations.{cached_page, peeked_page, owned_frame, op_on, known_home}
use Rattle.nm_view.specs.declared.view.Scanned.{Scanned}
use Rattle.nm_base.specs.HomeWord.{IsHomeWord}
use Rattle.nm_base.specs.ShadowWord.{IsShadowWord}
use Rattle.nm_base.specs.Ranges.{IsPage}
use Rattle.nm_permit.specs.Permitted.{Allowed, IsFreeWordAt, MayScan}
use Rattle.nm_event.specs.Room.{IsOpWithin, IsWithinRoom, NumbersFit}
use Rattle.nm_shape.specs.Keyed.{IsEntryInRange, IsOpKeyed, IsOwnedInRange, IsScanOfTier, IsScanInRange, IsKeyed}
use Rattle.nm_event.specs.Ranged.{IsInRangeReply}
use Rattle.nm_view.specs.Opening.{is_mapped_to, alias_count, most_below, most_aliases}
use Rattle.nm_view.proofs.Items.{all_same}
use Rattle.nm_shape.proofs.Keys.{pigeon, IsAmong, pigeon_among}
use Rattle.nm_shape.proofs.Done.{op_found, known_in_range, few_frames}

mapped : (o : Option VPage) (b : ℕ) → option_map (λ q. q.page) o ≡ Some b → is_mapped_to b o ≡ true
mapped None b e = absurd (cc)
mapped (Some q) b e = let same : q.page ≡ b = cc in rw same (grind arith)

within : (vs : List (Option VPage)) (v b : ℕ) → backing_among vs v ≡ Some b → v < length vs
within vs v b e = grind (arith, common_steps)

-- what has a virtual page of a backing page stands at one of its virtual pages
backed : {A : Type 0} (key : A → ℕ) (vs : List (Option VPage)) (b : ℕ) (x : A) → backing_among vs (key x) ≡ Some b → IsAmong key (is_mapped_to b) vs None (length vs) x
backed key vs b x e = record { below = within vs (key x) b e; passes = mapped (get_or vs (key x) None) b e }

most_go : (vs : List (Option VPage)) (b n : ℕ) (t : Bool) → (b == n) ≡ t → b < suc n → ((k : ℕ) → k < n → alias_count vs k ≤ most_below vs n) → alias_count vs b ≤ most_below vs (suc n)
most_go vs b n true e lt rest = let same : b ≡ n = grind (arith, e) in rw same (omega arith)
most_go vs b n false e lt rest = let apart : b ≢ n = grind (arith, e) in let less : alias_count vs b ≤ most_below vs n = rest b (omega (arith, apart, lt)) in omega (arith, less)

most_of : (vs : List (Option VPage)) (b n : ℕ) → b < n → alias_count vs b ≤ most_below vs n
most_of vs b zero lt = let bad : ⊥ = omega (arith, lt) in absurd bad
most_of vs b (suc n) lt = most_go vs b n (b == n) refl lt (λ k below. most_of vs k n below)

few_aliases : {A : Type 0} (g : Geometry) (key : A → ℕ) (page : ℕ) (xs : List A) → IsPage g page → Once key xs → All (λ x. backing_page g (key x) ≡ Some page) xs → length xs ≤ most_aliases g
few_aliases g key page xs is o h =
    let among : All (IsAmong key (is_mapped_to page) g.vpages None (length g.vpages)) xs = all_same (λ x. backing_page g (key x) ≡ Some page) (IsAmong key (is_mapped_to page) g.vpages None (length g.vpages)) xs (λ x e. backed key g.vpages page x e) h in
    let all : take (length g.vpages) g.vpages ≡ g.vpages = take_all (length g.vpages) g.vpages (omega arith) in
    let few : length xs ≤ count_by (is_mapped_to page) (take (length g.vpages) g.vpages) = pigeon_among key (is_mapped_to page) g.vpages None (length g.vpages) xs (omega arith) o among in
    let most : alias_count g.vpages page ≤ most_aliases g = most_of g.vpages page (page_count g) is in
    let same : count_by (is_mapped_to page) (take (length g.vpages) g.vpages) ≡ alias_count g.vpages page = ap (λ vs. count_by (is_mapped_to page) vs) all in
    omega (arith, few, most, same)

few_words : (g : Geometry) → IsGeometry g → g.words < 1024
few_words g is = let size = is.ranges.0 in let lt : 2 ^ size.0 < 2 ^ 10 = pow-lt {i = size.0} {j = 10} (omega (arith, size.1)) in omega (arith, lt, size.2)

named_fits : (g : Geometry) (word : ℕ) → IsGeometry g → IsShadowWord g word → word < 2 ^ 64
named_fits g word is (inl e) = omega (arith, e)
named_fits g word is (inr (page, frame, h)) =
    let pages : page_count g ≤ 4096 = is.ranges.3.2 in
    let frames : frame_count g ≤ 4096 = few_frames g is in
    rw h.is (omega (arith, h.exists, h.range, pages, frames))

shadow_fits : (g : Geometry) (word : Option ℕ) → IsGeometry g → IfSome word (IsShadowWord g) → IfSome word (λ w. w < 2 ^ 64)
shadow_fits g None is h = tt
shadow_fits g (Some w) is h = named_fits g w is h

op_within : (g : Geometry) (o : Op) → IsGeometry g → IsOpKeyed g o → IsOpWithin (most_aliases g) o
op_within g o is k = record {
  looked = few_aliases g first o.page o.looked k.page k.looked.once k.looked.own;
  taken = few_aliases g first o.page o.taken k.page k.taken.once k.taken.own;
  wet = few_aliases g itself o.page o.wet k.page k.wet.once k.wet.own;
  raised = few_aliases g first o.page o.raised k.page k.raised.once k.raised.own;
  room = k.room;
  copied = omega (arith, few_words g is, k.copied);
  shadow = shadow_fits g o.shadow is k.shadow;
}

pub within_room : (g : Geometry) (view : View) → IsGeometry g → IsKeyed g view → IsWithinRoom view
within_room g view is k =
    let vpages : view.room.vpages ≡ length g.vpages = ap (λ r. r.vpages) k.room in
    let aliases : view.room.aliases ≡ most_aliases g = ap (λ r. r.aliases) k.room in
    let frames : view.room.frames ≡ frame_count g = ap (λ r. r.frames) k.room in
    let P : ℕ → Type 0 = λ n. All (IsOpWithin n) view.ops in
    record {
      cache = rw vpages (pigeon cached_page (length g.vpages) view.cache k.cache_once (all_same (IsEntryInRange g) (λ e. e.vpage < length g.vpages) view.cache (λ e h. h.vpage) k.cache));
      peeked = rw vpages (pigeon peeked_page (length g.vpages) view.peeked k.peeked_once k.peeked);
      owned = rw frames (pigeon owned_frame (frame_count g) view.owned k.owned_once (all_same (IsOwnedInRange g) (λ w. w.frame < frame_count g) view.owned (λ w h. h.frame) k.owned));
      ops = subst P (sym aliases) (all_same (IsOpKeyed g) (IsOpWithin (most_aliases g)) view.ops (λ o h. op_within g o is h) k.ops);
    }

-- Numbers.

home_fits : (g : Geometry) (home : Option ℕ) → frame_count g ≤ 4096 → IfSome home (IsHomeWord g) → IfSome home (λ h. h ≤ 2 ^ 32)
home_fits g None few h = tt
home_fits g (Some n) few h = omega (arith, few, h)

few_of_tier : (ns : List ℕ) (t : ℕ) → All (λ n. (1 ≤ n) × (n ≤ 4095)) ns → t < length ns → slice_index ns t ≤ 4095
few_of_tier ns t all lt = (all t 0 lt).1

few_scanned : (g : Geometry) (scan : Scanned) (t i n : ℕ) → IsGeometry g → IsFreeWordAt g t i → i ≡ scan.words → n < 2 ^ 64 → IsScanOfTier g scan t → scan.sum + count_ones n < 2 ^ 32
few_scanned g scan t i n is range next w s =
    let few : count_ones n ≤ 64 = ones-le 64 n w in
    let tier : slice_index g.tiers t ≤ 4095 = few_of_tier g.tiers t is.ranges.1.2 range.tier in
    let words : scan.words < 65 = omega (arith, next, range.index, tier) in
    omega (arith, few, words, s.sum)

sum_fits : (g : Geometry) (view : View) (t i n : ℕ) → IsGeometry g → IsFreeWordAt g t i → MayScan view t i → n < 2 ^ 64 → IsKeyed g view → view.scan.sum + count_ones n < 2 ^ 32
sum_fits g view t i n is range may w k =
    let P : Option ℕ → Type 0 = λ turn. IsScanInRange g turn view.scan in
    few_scanned g view.scan t i n is range may.next w (subst P may.turn k.scan)

-- the numbers of a step fit their fields, where its word is in range
pub numbers_fit : (g : Geometry) (view : View) (action : Action) (reply : Reply) → IsGeometry g → IsKeyed g view → Allowed g view action → IsInRangeReply g action reply → NumbersFit view action reply
numbers_fit g view Bump (Word n) is k a r = λ i d lt due. omega (arith, r.said)
numbers_fit g view (Raise v) (Word n) is k a r = omega (arith, r.said)
numbers_fit g view (SetHome b f) Done is k a r = home_fits g (known_home (op_on view b)) (few_frames g is) (known_in_range g view b (op_on view b) (op_found g view b (op_on view b) refl k))
numbers_fit g view (Scan t i) (Word n) is k a r = sum_fits g view t i n is a.range a.permitted r.bits k
numbers_fit g view action reply is k a r = tt

-- each operation has the room of the view
pub rooms_of : (g : Geometry) (view : View) → IsKeyed g view → All (λ o. o.room ≡ view.room.aliases) view.ops
rooms_of g view k =
    let aliases : view.room.aliases ≡ most_aliases g = ap (λ r. r.aliases) k.room in
    all_same (IsOpKeyed g) (λ o. o.room ≡ view.room.aliases) view.ops (λ o h. h.room ∙ sym aliases) k.ops

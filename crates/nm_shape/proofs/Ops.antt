-- Operations whose numbers are in range: what each change keeps.
use Rattle.std.proofs.Common.{◌≡◌, ℕ, ◌^◌, ◌<◌, inl, inr, if◌then◌else◌, Bool, true, false, List, [], ◌∷◌, ◌++◌, Option, Some, None, refl, arith, bit_or, nat_le}
use Rattle.std.specs.Option.{IfSome}
use Rattle.std.proofs.lemmas.Nat.{or_lt, pow_pos}
use Rattle.std.proofs.Math.Pow.{pow-lt}
use Rattle.nm_base.specs.Geometry.{Geometry, backing_page}
use Rattle.nm_action.specs.declared.action.Cell.{Cell}
use Rattle.nm_action.specs.declared.action.Cell.TheVariants.{Home, Shadow}
use Rattle.nm_view.specs.Lists.{find, erase, put, first, itself}
use Rattle.nm_view.specs.Views.{Op}
use Rattle.nm_base.specs.PageWord.{granted_word}
use Rattle.nm_base.specs.ShadowWord.{shadow_word, IsShadowWord}
use Rattle.nm_view.specs.Opening.{most_aliases, opened}
use Rattle.nm_base.specs.Ranges.{IsPage, IsFrame}
use Rattle.nm_event.specs.After.{looked_at, read_cell, cleared_at, taken_at, raised_to, bumped_to, seen_at, seen_with, loaded, copied_one, homed_at, shaded, mapped_at, granted_at}
use Rattle.nm_shape.specs.Keyed.{AreOwnPages, AreOwnNumbers, IsOpKeyed}
use Rattle.nm_event.specs.Ranged.{IsCellWord}
use Rattle.nm_view.proofs.Items.{all_join, none_left, all_put, all_erase}
use Rattle.nm_view.proofs.Finds.{once_put, once_erase, once_join}

own_none : (g : Geometry) (page : ℕ) → AreOwnPages g page []
own_none g page = record { once = tt; own = none_left (λ p. backing_page g p.0 ≡ Some page) }

own_put : (g : Geometry) (page v word : ℕ) (xs : List (ℕ × ℕ)) → backing_page g v ≡ Some page → AreOwnPages g page xs → AreOwnPages g page (put first (v, word) xs)
own_put g page v word xs e h = record { once = once_put first (v, word) xs h.once; own = all_put first (λ p. backing_page g p.0 ≡ Some page) (v, word) xs e h.own }

own_erase : (g : Geometry) (page v : ℕ) (xs : List (ℕ × ℕ)) → AreOwnPages g page xs → AreOwnPages g page (erase first v xs)
own_erase g page v xs h = record { once = once_erase first v xs h.once; own = all_erase first (λ p. backing_page g p.0 ≡ Some page) v xs h.own }

own_join : (g : Geometry) (page v word : ℕ) (xs : List (ℕ × ℕ)) → backing_page g v ≡ Some page → find first v xs ≡ None → AreOwnPages g page xs → AreOwnPages g page (xs ++ (v, word) ∷ [])
own_join g page v word xs e f h = record { once = once_join first (v, word) xs h.once f; own = all_join (λ p. backing_page g p.0 ≡ Some page) xs (v, word) h.own e }

numbers_none : (g : Geometry) (page : ℕ) → AreOwnNumbers g page []
numbers_none g page = record { once = tt; own = none_left (λ v. backing_page g v ≡ Some page) }

numbers_put : (g : Geometry) (page v : ℕ) (xs : List ℕ) → backing_page g v ≡ Some page → AreOwnNumbers g page xs → AreOwnNumbers g page (put itself v xs)
numbers_put g page v xs e h = record { once = once_put itself v xs h.once; own = all_put itself (λ u. backing_page g u ≡ Some page) v xs e h.own }

numbers_erase : (g : Geometry) (page v : ℕ) (xs : List ℕ) → AreOwnNumbers g page xs → AreOwnNumbers g page (erase itself v xs)
numbers_erase g page v xs h = record { once = once_erase itself v xs h.once; own = all_erase itself (λ u. backing_page g u ≡ Some page) v xs h.own }

zero_below : (n : ℕ) → 0 < 2 ^ n
zero_below n = pow_pos n

-- Changes of one operation.

pub keyed_opened : (g : Geometry) (page room : ℕ) → IsPage g page → room ≡ most_aliases g → IsOpKeyed g (opened page room)
keyed_opened g page room p e = record { page = p; home = tt; shadow = tt; looked = own_none g page; taken = own_none g page; wet = numbers_none g page; raised = own_none g page; seen = zero_below g.cpus; copied = omega arith; room = e }

pub keyed_looked : (g : Geometry) (v word : ℕ) (o : Op) → backing_page g v ≡ Some o.page → IsOpKeyed g o → IsOpKeyed g (looked_at v word o)
keyed_looked g v word o e k = record { page = k.page; home = k.home; shadow = k.shadow; looked = own_put g o.page v word o.looked e k.looked; taken = k.taken; wet = k.wet; raised = k.raised; seen = k.seen; copied = k.copied; room = k.room }

pub keyed_cleared : (g : Geometry) (v : ℕ) (o : Op) → backing_page g v ≡ Some o.page → IsOpKeyed g o → IsOpKeyed g (cleared_at v o)
keyed_cleared g v o e k = record { page = k.page; home = k.home; shadow = k.shadow; looked = k.looked; taken = k.taken; wet = numbers_put g o.page v o.wet e k.wet; raised = own_erase g o.page v o.raised k.raised; seen = k.seen; copied = k.copied; room = k.room }

pub keyed_taken : (g : Geometry) (v word : ℕ) (o : Op) → backing_page g v ≡ Some o.page → find first v o.taken ≡ None → IsOpKeyed g o → IsOpKeyed g (taken_at v word o)
keyed_taken g v word o e f k = record { page = k.page; home = k.home; shadow = k.shadow; looked = k.looked; taken = own_join g o.page v word o.taken e f k.taken; wet = numbers_put g o.page v o.wet e k.wet; raised = own_erase g o.page v o.raised k.raised; seen = k.seen; copied = k.copied; room = k.room }

pub keyed_raised : (g : Geometry) (v number : ℕ) (o : Op) → backing_page g v ≡ Some o.page → IsOpKeyed g o → IsOpKeyed g (raised_to v number o)
keyed_raised g v number o e k = record { page = k.page; home = k.home; shadow = k.shadow; looked = k.looked; taken = k.taken; wet = numbers_erase g o.page v o.wet k.wet; raised = own_put g o.page v number o.raised e k.raised; seen = k.seen; copied = k.copied; room = k.room }

pub keyed_loaded : (g : Geometry) (word : ℕ) (o : Op) → IsOpKeyed g o → IsOpKeyed g (loaded word o)
keyed_loaded g word o k = record { page = k.page; home = k.home; shadow = k.shadow; looked = k.looked; taken = k.taken; wet = k.wet; raised = k.raised; seen = k.seen; copied = k.copied; room = k.room }

pub keyed_copied : (g : Geometry) (o : Op) → o.copied < g.words → IsOpKeyed g o → IsOpKeyed g (copied_one o)
keyed_copied g o lt k = record { page = k.page; home = k.home; shadow = k.shadow; looked = k.looked; taken = k.taken; wet = k.wet; raised = k.raised; seen = k.seen; copied = omega (arith, lt); room = k.room }

pub keyed_homed : (g : Geometry) (frame : ℕ) (o : Op) → IsFrame g frame → IsOpKeyed g o → IsOpKeyed g (homed_at frame o)
keyed_homed g frame o f k = record { page = k.page; home = omega (arith, f); shadow = inl refl; looked = k.looked; taken = k.taken; wet = k.wet; raised = k.raised; seen = k.seen; copied = k.copied; room = k.room }

pub keyed_mapped : (g : Geometry) (v word : ℕ) (o : Op) → backing_page g v ≡ Some o.page → IsOpKeyed g o → IsOpKeyed g (mapped_at v word o)
keyed_mapped g v word o e k = record { page = k.page; home = k.home; shadow = k.shadow; looked = own_put g o.page v word o.looked e k.looked; taken = own_erase g o.page v o.taken k.taken; wet = k.wet; raised = k.raised; seen = k.seen; copied = k.copied; room = k.room }

pub keyed_granted : (g : Geometry) (v word : ℕ) (o : Op) → backing_page g v ≡ Some o.page → IsOpKeyed g o → IsOpKeyed g (granted_at v word o)
keyed_granted g v word o e k = record { page = k.page; home = k.home; shadow = k.shadow; looked = own_put g o.page v (granted_word word) o.looked e k.looked; taken = k.taken; wet = k.wet; raised = k.raised; seen = k.seen; copied = k.copied; room = k.room }

shadow_named : (g : Geometry) (page : ℕ) (shadow : Option ℕ) → IsPage g page → IfSome shadow (IsFrame g) → IsShadowWord g (shadow_word page shadow)
shadow_named g page None p f = inl refl
shadow_named g page (Some s) p f = inr (page, s, record { exists = p; range = f; is = refl })

pub keyed_shaded : (g : Geometry) (page : ℕ) (shadow : Option ℕ) (o : Op) → IsPage g page → IfSome shadow (IsFrame g) → IsOpKeyed g o → IsOpKeyed g (shaded page shadow o)
keyed_shaded g page shadow o p f k = record { page = k.page; home = k.home; shadow = shadow_named g page shadow p f; looked = k.looked; taken = k.taken; wet = k.wet; raised = k.raised; seen = k.seen; copied = k.copied; room = k.room }

pub keyed_read : (g : Geometry) (cell : Cell) (word : ℕ) (o : Op) → IsCellWord g cell word → IsOpKeyed g o → IsOpKeyed g (read_cell cell word o)
keyed_read g (Home n) word o r k = record { page = k.page; home = r; shadow = k.shadow; looked = k.looked; taken = k.taken; wet = k.wet; raised = k.raised; seen = k.seen; copied = k.copied; room = k.room }
keyed_read g (Shadow m) word o r k = record { page = k.page; home = k.home; shadow = r; looked = k.looked; taken = k.taken; wet = k.wet; raised = k.raised; seen = k.seen; copied = k.copied; room = k.room }

bumped_seen : (n seen : ℕ) (due : Bool) → seen < 2 ^ n → (if due then 0 else seen) < 2 ^ n
bumped_seen n seen true lt = zero_below n
bumped_seen n seen false lt = lt

pub keyed_bumped : (g : Geometry) (number : ℕ) (o : Op) → IsOpKeyed g o → IsOpKeyed g (bumped_to number o)
keyed_bumped g number o k = record { page = k.page; home = k.home; shadow = k.shadow; looked = k.looked; taken = k.taken; wet = k.wet; raised = k.raised; seen = bumped_seen g.cpus o.seen o.due k.seen; copied = k.copied; room = k.room }

marked : (n cpu seen : ℕ) (b : Bool) → cpu < n → seen < 2 ^ n → (if b then bit_or seen (2 ^ cpu) else seen) < 2 ^ n
marked n cpu seen true c lt = or_lt n seen (2 ^ cpu) lt (pow-lt c)
marked n cpu seen false c lt = lt

seen_below : (n cpu word seen : ℕ) (flush : Option ℕ) → cpu < n → seen < 2 ^ n → seen_with flush cpu word seen < 2 ^ n
seen_below n cpu word seen None c lt = lt
seen_below n cpu word seen (Some f) c lt = marked n cpu seen (nat_le f word) c lt

pub keyed_seen : (g : Geometry) (cpu word : ℕ) (o : Op) → cpu < g.cpus → IsOpKeyed g o → IsOpKeyed g (seen_at cpu word o)
keyed_seen g cpu word o c k = record { page = k.page; home = k.home; shadow = k.shadow; looked = k.looked; taken = k.taken; wet = k.wet; raised = k.raised; seen = seen_below g.cpus cpu word o.seen o.flush c k.seen; copied = k.copied; room = k.room }

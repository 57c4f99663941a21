-- That a permitted action leaves its word one of 64 bits.
use Rattle.std.proofs.Common.{◌≡◌, ℕ, ◌^◌, ◌<◌, ◌≤◌, ◌==◌, Bool, true, false, if◌then◌else◌, Option, Some, None, IfSome, refl, subst, inl, inr, ◌⊎◌, arith}
use Rattle.std.proofs.lemmas.Bool.{eqb-true}
use Rattle.std.proofs.lemmas.Nat.{and_le_l, or_lt, xor_lt, pow_below}
use Rattle.nm_base.specs.Geometry.{Geometry, IsGeometry, frame_count, page_count}
use Rattle.nm_base.specs.FreeWords.{free_bit}
use Rattle.nm_base.specs.PageWord.{walk_mask}
use Rattle.nm_base.specs.ShadowWord.{shadow_word}
use Rattle.nm_base.specs.Ranges.{IsPage, IsFrame, IsWord}
use Rattle.nm_base.proofs.TableWords.{HasLayout-lt}
use Rattle.nm_action.specs.declared.action.AckTo.{AckTo}
use Rattle.nm_action.specs.declared.action.AckTo.TheVariants.{Seen, Off, End}
use Rattle.nm_action.specs.declared.action.Action.{Action}
use Rattle.nm_action.specs.declared.action.Action.TheVariants.{Store, Walk, Ack, Lock, Unlock, Arm, Unmap, Map, Grant, CopyStore, SetHome, SetShadow, TakeTurn, PutFrame, ReleaseTurn, Mark}
use Rattle.nm_view.specs.Views.{View}
use Rattle.nm_permit.specs.Permitted.{Allowed, IsMarkStep, IsMarkDone}
use Rattle.nm_words.specs.declared.exchanges.Change.{Change}
use Rattle.nm_words.specs.declared.exchanges.Change.TheVariants as changes
use Rattle.nm_words.specs.Exchanges.{changed}
use Rattle.nm_step.specs.Table.{change_of, acked_word}
use Rattle.nm_core.specs.Kept.{IsViewKept}
use Rattle.nm_core.proofs.InRange.{mapped}

-- what an exchange writes has 64 bits, where it found the word n
abbrev Writes : Change → ℕ → Type 0
Writes changes.Keep n = Unit {0}
Writes (changes.Swap x) n = IsWord x
Writes (changes.Put x) n = IsWord x
Writes (changes.Add k) n = Unit {0}
Writes (changes.And k) n = Unit {0}
Writes (changes.Or k) n = IsWord k
Writes (changes.Xor k) n = IsWord k
Writes (changes.Take x) n = IsWord x
Writes (changes.IfIs old new) n = IsWord old → IsWord new

either : (n x : ℕ) (b : Bool) → (b ≡ true → IsWord x) → IsWord n → IsWord (if b then x else n)
either n x true p q = p refl
either n x false p q = q

by_change : (change : Change) (n : ℕ) → Writes change n → IsWord n → IsWord (changed change n)
by_change changes.Keep n w h = h
by_change (changes.Swap x) n w h = w
by_change (changes.Put x) n w h = w
by_change (changes.Add k) n w h = omega arith
by_change (changes.And k) n w h = omega (arith, h, and_le_l n k)
by_change (changes.Or k) n w h = or_lt 64 n k h w
by_change (changes.Xor k) n w h = xor_lt 64 n k h w
by_change (changes.Take x) n w h = either n x (n == 0) (λ same. w) h
by_change (changes.IfIs old new) n w h = either n new (n == old) (λ same. w (subst IsWord (eqb-true n old same) h)) h

walk_few : (write : Bool) → walk_mask write < 2 ^ 64
walk_few true = omega arith
walk_few false = omega arith

acked : (view : View) (to : AckTo) → IsWord view.req_seen → IsWord (acked_word view to)
acked view Seen h = h
acked view Off h = omega arith
acked view End h = omega arith

shaded : (g : Geometry) (page : ℕ) (shadow : Option ℕ) → IsGeometry g → IsPage g page → IfSome shadow (IsFrame g) → IsWord (shadow_word page shadow)
shaded g page None is exists range = omega arith
shaded g page (Some s) is exists range =
    let pages : page_count g ≤ 4096 = is.ranges.3.2 in
    let frames : frame_count g ≤ 4096 = omega (arith, is.ranges.1) in
    omega (arith, exists, range, pages, frames)

marked : (view : View) (b old new : ℕ) → IsMarkStep old new ⊎ IsMarkDone view b old new → IsWord new
marked view b old new (inl (inl h)) = omega (arith, h.new_is)
marked view b old new (inl (inr (inl h))) = omega (arith, h.new_is)
marked view b old new (inl (inr (inr h))) = omega (arith, h.new_is)
marked view b old new (inr h) = omega (arith, h.none)

-- what a permitted action writes has 64 bits
writes : (g : Geometry) (actor : ℕ) (view : View) (a : Action) (n : ℕ) → IsGeometry g → IsViewKept g actor view → Allowed g view a → Writes (change_of g view a) n
writes g actor view (Store v i x) n is k may = may.range.value
writes g actor view (Walk v e write) n is k may = λ old. or_lt 64 e (walk_mask write) old (walk_few write)
writes g actor view (Ack to) n is k may = acked view to k.polled
writes g actor view (Lock b) n is k may = omega (arith, k.keyed.actor, is.ranges.2.1)
writes g actor view (Unlock b) n is k may = omega arith
writes g actor view (Arm v) n is k may = omega arith
writes g actor view (Unmap v) n is k may = omega arith
writes g actor view (Map v word) n is k may = omega (arith, HasLayout-lt word (mapped g view v word k.keyed k.names may.permitted).layout)
writes g actor view (Grant v) n is k may = omega arith
writes g actor view (CopyStore b f i x) n is k may = may.range.value
writes g actor view (SetHome b f) n is k may = let frames : frame_count g ≤ 4096 = omega (arith, is.ranges.1) in omega (arith, may.range.frame, frames)
writes g actor view (SetShadow b m s) n is k may = shaded g b s is may.range.page may.range.shadow
writes g actor view (TakeTurn t) n is k may = omega (arith, k.keyed.actor, is.ranges.2.1)
writes g actor view (PutFrame f) n is k may = let bit : free_bit g f < 64 = omega arith in pow_below (free_bit g f) 64 bit
writes g actor view (ReleaseTurn t) n is k may = omega arith
writes g actor view (Mark b old new) n is k may = λ expected. marked view b old new may.permitted
writes g actor view a n is k may = tt

-- the word of a permitted action has 64 bits afterwards
pub IsWord-changed : (g : Geometry) (actor : ℕ) (view : View) (a : Action) (n : ℕ) → IsGeometry g → IsViewKept g actor view → Allowed g view a → IsWord n → IsWord (changed (change_of g view a) n)
IsWord-changed g actor view a n is k may h = by_change (change_of g view a) n (writes g actor view a n is k may) h

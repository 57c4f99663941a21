-- The flush of an operation as the events since its ClearDirty show it.
use Rattle.std.proofs.Common.{◌≡◌, ℕ, ◌+◌, ◌≤◌, ◌^◌, nat_le, bit_or, if◌then◌else◌, Bool, true, false, List, [], ◌∷◌, ◌++◌, Option, Some, None, IfSome, All, refl, sym, ap, subst, ◌∙◌, ◌⊎◌, inl, inr, arith, append_assoc}
use Rattle.std.specs.Prelude.{Any}
use Rattle.std.specs.Int.{bit_at}
use Rattle.std.proofs.lemmas.Bool.{cases_eq, leb-true, le-leb}
use Rattle.std.proofs.lemmas.List.Quantifiers.{Any-push}
use Rattle.std.proofs.lemmas.Nat.Bits.{bit_at-zero, bit_at-lt, bit_at_or, bit_at-pow_same, bit_at-pow_other}
use Rattle.nm_base.specs.Geometry.{Geometry}
use Rattle.nm_action.specs.declared.action.Action.{Action}
use Rattle.nm_action.specs.declared.action.Action.TheVariants.{Bump, SeeAck}
use Rattle.nm_action.specs.declared.action.Reply.TheVariants.{Word}
use Rattle.nm_action.specs.declared.action.Event.{Event}
use Rattle.nm_view.specs.Operations.{AreSeen}
use Rattle.nm_view.proofs.Items.{all_join, none_left, not_none}
use Rattle.nm_event.specs.After.{seen_with}
use Rattle.nm_transactions.specs.TransactionLaw.{replied, IsBy, IsSeen, HasFlushEnded}
use Rattle.nm_transactions.proofs.Lists.{any_nil, any_longer, any_before, same_first, not_none_of}

abbrev pub IsNotBy : ℕ → Action → Event → Type 0
IsNotBy a action e = ¬ IsBy a action e

-- no Bump was made yet: the operation is due
pub record IsStillDue (a : ℕ) (events : List Event) (due : Bool) : Type 0 where
  pub is : due ≡ true
  pub none : All (IsNotBy a Bump) events

-- after the first Bump the operation has its number, and the processors that were seen are those that answered it
pub record IsBumped (a : ℕ) (events : List Event) (due : Bool) (flush : Option ℕ) (seen : ℕ) : Type 0 where
  pub before : List Event
  pub number : ℕ
  pub after : List Event
  pub list : events ≡ before ++ replied a Bump (Word number) ∷ after
  pub first : All (IsNotBy a Bump) before
  pub made : due ≡ false
  pub flush_is : flush ≡ Some (number + 1)
  pub shown : (p : ℕ) → Any (IsSeen a p number) after → bit_at seen p ≡ 1
  pub known : (p : ℕ) → bit_at seen p ≡ 1 → Any (IsSeen a p number) after

abbrev pub ShowsFlush : ℕ → List Event → Bool → Option ℕ → ℕ → Type 0
ShowsFlush a events due flush seen = IsStillDue a events due ⊎ IsBumped a events due flush seen

-- the processors that were seen before, and those that an event shows
record SeesMore (a number : ℕ) (e : Event) (seen more : ℕ) : Type 0 where
  shown : (p : ℕ) → IsSeen a p number e → bit_at more p ≡ 1
  stays : (p : ℕ) → bit_at seen p ≡ 1 → bit_at more p ≡ 1
  known : (p : ℕ) → bit_at more p ≡ 1 → (bit_at seen p ≡ 1) ⊎ IsSeen a p number e

bumped_more : (a : ℕ) (events : List Event) (e : Event) (due : Bool) (flush : Option ℕ) (seen more : ℕ) (h : IsBumped a events due flush seen) → SeesMore a h.number e seen more → IsBumped a (events ++ e ∷ []) due flush more
bumped_more a events e due flush seen more h s = record {
  before = h.before;
  number = h.number;
  after = h.after ++ e ∷ [];
  list = ap (λ es. es ++ e ∷ []) h.list ∙ append_assoc h.before (replied a Bump (Word h.number) ∷ h.after) (e ∷ []);
  first = h.first;
  made = h.made;
  flush_is = h.flush_is;
  shown = λ p some. elim (any_before (IsSeen a p h.number) h.after e some) [ inl old ↦ s.stays p (h.shown p old) | inr last ↦ s.shown p last ];
  known = λ p bit. elim (s.known p bit) [
    | inl old ↦ any_longer (IsSeen a p h.number) h.after (e ∷ []) (h.known p old)
    | inr last ↦ Any-push (IsSeen a p h.number) h.after e last
  ];
}

-- an event that is no SeeAck of the actor shows none
sees_none : (a number : ℕ) (e : Event) (seen : ℕ) → ((p : ℕ) → IsNotBy a (SeeAck p) e) → SeesMore a number e seen seen
sees_none a number e seen not = record {
  shown = λ p is. absurd (not p (record { actor = ap (λ (f : Event). f.actor) is.is; made = ap (λ (f : Event). f.action) is.is }));
  stays = λ p bit. bit;
  known = λ p bit. inl bit;
}

-- an event of another kind, or of another actor
pub flush_left : (a : ℕ) (events : List Event) (e : Event) (due : Bool) (flush : Option ℕ) (seen : ℕ) → IsNotBy a Bump e → ((p : ℕ) → IsNotBy a (SeeAck p) e) → ShowsFlush a events due flush seen → ShowsFlush a (events ++ e ∷ []) due flush seen
flush_left a events e due flush seen bump see (inl h) = inl (record { is = h.is; none = all_join (IsNotBy a Bump) events e h.none bump })
flush_left a events e due flush seen bump see (inr h) = inr (bumped_more a events e due flush seen seen h (sees_none a h.number e seen see))

-- at first the operation is due
pub flush_begun : (a : ℕ) (flush : Option ℕ) (seen : ℕ) → ShowsFlush a [] true flush seen
flush_begun a flush seen = inl (record { is = refl; none = none_left (IsNotBy a Bump) })

-- the Bump: a due operation has its number now, and no processor is seen

bumped_first : (a : ℕ) (events : List Event) (n : ℕ) → All (IsNotBy a Bump) events → IsBumped a (events ++ replied a Bump (Word n) ∷ []) false (Some (n + 1)) 0
bumped_first a events n none = record {
  before = events;
  number = n;
  after = [];
  list = refl;
  first = none;
  made = refl;
  flush_is = refl;
  shown = λ p some. absurd (any_nil (IsSeen a p n) some);
  known = λ p bit. absurd (omega (arith, bit, bit_at-zero p));
}

see_apart : (a p n : ℕ) → IsNotBy a (SeeAck p) (replied a Bump (Word n))
see_apart a p n is = let same : Bump ≡ SeeAck p = is.made in cc

pub flush_bump : (a : ℕ) (events : List Event) (n : ℕ) (due : Bool) (flush : Option ℕ) (seen : ℕ) → ShowsFlush a events due flush seen → ShowsFlush a (events ++ replied a Bump (Word n) ∷ []) false (if due then Some (n + 1) else flush) (if due then 0 else seen)
flush_bump a events n true flush seen (inl h) = inr (bumped_first a events n h.none)
flush_bump a events n false flush seen (inl h) = absurd (let both : false ≡ true = h.is in cc)
flush_bump a events n true flush seen (inr h) = absurd (let both : true ≡ false = h.made in cc)
flush_bump a events n false flush seen (inr h) = inr (bumped_more a events (replied a Bump (Word n)) false flush seen seen h (sees_none a h.number (replied a Bump (Word n)) seen (λ p. see_apart a p n)))

-- SeeAck: a processor whose acknowledgement answers the bump is seen

bit_stays : (t : Bool) (seen q p : ℕ) → bit_at seen p ≡ 1 → bit_at (if t then bit_or seen (2 ^ q) else seen) p ≡ 1
bit_stays true seen q p bit = omega (arith, bit, bit_at_or seen (2 ^ q) p, bit_at-lt (2 ^ q) p)
bit_stays false seen q p bit = bit

bit_shown : (t : Bool) (seen q : ℕ) → t ≡ true → bit_at (if t then bit_or seen (2 ^ q) else seen) q ≡ 1
bit_shown true seen q is = omega (arith, bit_at_or seen (2 ^ q) q, bit_at-pow_same q, bit_at-lt seen q)
bit_shown false seen q is = absurd cc

bit_known : (t : Bool) (seen q p : ℕ) → bit_at (if t then bit_or seen (2 ^ q) else seen) p ≡ 1 → (bit_at seen p ≡ 1) ⊎ ((t ≡ true) × (p ≡ q))
bit_known false seen q p bit = inl bit
bit_known true seen q p bit = elim (cases_eq p q) [
  | inl same ↦ inr (refl, same)
  | inr other ↦ inl (omega (arith, bit, bit_at_or seen (2 ^ q) p, bit_at-pow_other q p other, bit_at-lt seen p))
]

sees_one : (a number q word seen : ℕ) → SeesMore a number (replied a (SeeAck q) (Word word)) seen (seen_with (Some (number + 1)) q word seen)
sees_one a number q word seen = record {
  shown = λ p is.
      let action : SeeAck q ≡ SeeAck p = ap (λ (f : Event). f.action) is.is in
      let processor : q ≡ p = cc in
      let reply : Word word ≡ Word is.word = ap (λ (f : Event). f.reply) is.is in
      let same : word ≡ is.word = cc in
      let most : number + 1 ≤ word = omega (arith, same, is.answers) in
      subst (λ (k : ℕ). bit_at (seen_with (Some (number + 1)) q word seen) k ≡ 1) processor (bit_shown (nat_le (number + 1) word) seen q (le-leb (number + 1) word most));
  stays = λ p bit. bit_stays (nat_le (number + 1) word) seen q p bit;
  known = λ p bit. elim (bit_known (nat_le (number + 1) word) seen q p bit) [
    | inl old ↦ inl old
    | inr both ↦
        let most : number + 1 ≤ word = leb-true (number + 1) word both.0 in
        inr (record { word = word; is = ap (λ k. replied a (SeeAck k) (Word word)) (sym both.1); answers = omega (arith, most) })
  ];
}

bump_apart : (a p n : ℕ) → IsNotBy a Bump (replied a (SeeAck p) (Word n))
bump_apart a p n is = let same : SeeAck p ≡ Bump = is.made in cc

pub flush_see : (a : ℕ) (events : List Event) (q word : ℕ) (due : Bool) (flush : Option ℕ) (seen : ℕ) → ShowsFlush a events due flush seen → ShowsFlush a (events ++ replied a (SeeAck q) (Word word) ∷ []) due flush (seen_with flush q word seen)
flush_see a events q word due flush seen (inl h) = inl (record { is = h.is; none = all_join (IsNotBy a Bump) events (replied a (SeeAck q) (Word word)) h.none (bump_apart a q word) })
flush_see a events q word due flush seen (inr h) =
    let Seen : Option ℕ → Type 0 = λ o. IsBumped a (events ++ replied a (SeeAck q) (Word word) ∷ []) due flush (seen_with o q word seen) in
    inr (subst Seen (sym h.flush_is) (bumped_more a events (replied a (SeeAck q) (Word word)) due flush seen (seen_with (Some (h.number + 1)) q word seen) h (sees_one a h.number q word seen)))

-- That the flush ended, in the list and in the view.

-- an operation whose flush ended: it is not due, and every processor was seen
pub record IsEnded (g : Geometry) (due : Bool) (flush : Option ℕ) (seen : ℕ) : Type 0 where
  pub made : due ≡ false
  pub seen_all : IfSome flush (λ _. AreSeen g.cpus seen)

if_any : (flush : Option ℕ) (P : Type 0) → P → IfSome flush (λ _. P)
if_any None P p = tt
if_any (Some n) P p = p

if_there : (flush : Option ℕ) (n : ℕ) (P : Type 0) → flush ≡ Some n → IfSome flush (λ _. P) → P
if_there None n P is h = absurd (not_none n is)
if_there (Some k) n P is h = h

pub ended_shown : (g : Geometry) (a : ℕ) (events : List Event) (due : Bool) (flush : Option ℕ) (seen : ℕ) → ShowsFlush a events due flush seen → HasFlushEnded g a events → IsEnded g due flush seen
ended_shown g a events due flush seen (inl h) ended =
    absurd (not_none_of (IsBy a Bump) ended.before (replied a Bump (Word ended.number)) ended.after (record { actor = refl; made = refl }) (subst (All (IsNotBy a Bump)) ended.list h.none))
ended_shown g a events due flush seen (inr h) ended =
    let same = same_first (IsBy a Bump) ended.before h.before (replied a Bump (Word ended.number)) (replied a Bump (Word h.number)) ended.after h.after (sym ended.list ∙ h.list)
    (record { actor = refl; made = refl }) (record { actor = refl; made = refl }) ended.first h.first in
    let reply : Word ended.number ≡ Word h.number = ap (λ (f : Event). f.reply) same.item in
    let number : ended.number ≡ h.number = cc in
    let shows : (p : ℕ) → Any (IsSeen a p ended.number) ended.after → Any (IsSeen a p h.number) h.after =
    λ p some. subst (λ (n : ℕ). Any (IsSeen a p n) h.after) number (subst (Any (IsSeen a p ended.number)) same.left some) in
    record { made = h.made; seen_all = if_any flush (AreSeen g.cpus seen) (λ p lt. h.shown p (shows p (ended.seen p lt))) }

pub ended_known : (g : Geometry) (a : ℕ) (events : List Event) (due : Bool) (flush : Option ℕ) (seen : ℕ) → ShowsFlush a events due flush seen → IsEnded g due flush seen → HasFlushEnded g a events
ended_known g a events due flush seen (inl h) ended = absurd (let is : due ≡ true = h.is in let not : due ≡ false = ended.made in cc)
ended_known g a events due flush seen (inr h) ended = record {
  before = h.before;
  number = h.number;
  after = h.after;
  list = h.list;
  first = h.first;
  seen = λ p lt. h.known p (if_there flush (h.number + 1) (AreSeen g.cpus seen) h.flush_is ended.seen_all p lt);
}

-- a flush that ended stays so
pub ended_longer : (g : Geometry) (a : ℕ) (events more : List Event) → HasFlushEnded g a events → HasFlushEnded g a (events ++ more)
ended_longer g a events more h = record {
  before = h.before;
  number = h.number;
  after = h.after ++ more;
  list = ap (λ es. es ++ more) h.list ∙ append_assoc h.before (replied a Bump (Word h.number) ∷ h.after) more;
  first = h.first;
  seen = λ p lt. any_longer (IsSeen a p h.number) h.after more (h.seen p lt);
}

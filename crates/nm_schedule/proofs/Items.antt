-- The items of a plan, turn by turn.
use Rattle.std.proofs.Common.{◌≡◌, ◌<◌, ◌≤◌, ◌+◌, ℕ, zero, suc, inl, inr, false, List, [], ◌∷◌, ◌++◌, length, take, drop, refl, sym, ap, subst, ◌∙◌, append_assoc, arith}
use Rattle.std.proofs.lemmas.List.{append-nil, take-append-le, length-append}
use Rattle.std.proofs.lemmas.Bool.{cases_lt}
use Rattle.nm_script.specs.declared.schedule.PlanItem.{PlanItem}
use Rattle.nm_script.specs.declared.schedule.Schedule.{Schedule}
use Rattle.nm_schedule.specs.declared.limits.TheConstants.{MOST_ITEM_TURNS}
use Rattle.nm_schedule.specs.declared.turn.Played.{Played}
use Rattle.nm_schedule.specs.Played.{has_ended}
use Rattle.nm_schedule.specs.Picks.{CountIs, IsItemOver, IsOpenBelow, EndsAfter, IsPlanned, Picks}
use Rattle.nm_schedule.specs.Standing.{Carries}
use Rattle.nm_schedule.proofs.Snoc.{length-snoc}
use Rattle.nm_schedule.proofs.Counting.{one-count}

take-whole : {A : Type 0} (l : List A) (n : ℕ) → length l ≤ n → take n l ≡ l
take-whole [] zero le = refl
take-whole [] (suc n) le = refl
take-whole (x ∷ l) zero le = absurd (omega (arith, le))
take-whole (x ∷ l) (suc n) le = ap (λ k. x ∷ k) (take-whole l n (omega (arith, le)))

-- ---- an item that is over

-- an item that was not over before these turns and is over after them has ended there, whatever turns come
pub ends-here : (item : PlanItem) (began : ℕ) (before more : List Played) → began ≤ length before → IsOpenBelow item began (length before) before → IsItemOver item began before → EndsAfter item began (length before) (before ++ more)
ends-here item began before more le unended over =
    let O : List Played → Type 0 = λ l. IsItemOver item began l in
    record {
      ordered = le;
      made = omega (arith, length-append before more);
      unfinished = λ n from to o. unended n from to (subst O (take-append-le n before more (omega (arith, to))) o);
      over = subst O (sym (take-append-le (length before) before more (omega arith) ∙ take-whole before (length before) (omega arith))) over;
    }

-- so the items after it carry on
pub carry-over : (schedule : Schedule) (actors : ℕ) (item : PlanItem) (rest : List PlanItem) (began : ℕ) (before : List Played)
    → Carries schedule actors (item ∷ rest) began before → began ≤ length before → IsOpenBelow item began (length before) before → IsItemOver item began before
    → Carries schedule actors rest (length before) before
carry-over schedule actors item rest began before carry le unended over more actor h =
    carry more actor (inr (length before, (ends-here item began before more le unended over, h)))

-- what is carried, after a turn more
pub carry-push : (schedule : Schedule) (actors : ℕ) (items : List PlanItem) (began : ℕ) (before : List Played) (p : Played)
    → Carries schedule actors items began before → Carries schedule actors items began (before ++ p ∷ [])
carry-push schedule actors items began before p carry more actor h =
    let P : List Played → Type 0 = λ l. IsPlanned actors items began l actor → Picks schedule actors l actor in
    subst P (sym (append_assoc before (p ∷ []) more)) (carry (p ∷ more) actor) h

-- what the items pick now, the schedule picks
pub carry-now : (schedule : Schedule) (actors : ℕ) (items : List PlanItem) (began : ℕ) (before : List Played) (actor : ℕ)
    → Carries schedule actors items began before → IsPlanned actors items began before actor → Picks schedule actors before actor
carry-now schedule actors items began before actor carry h =
    let P : List Played → Type 0 = λ l. IsPlanned actors items began l actor → Picks schedule actors l actor in
    subst P (append-nil before) (carry [] actor) h

-- ---- an item that is not over

-- it was not over before, and is not after a turn more
pub unended-push : (item : PlanItem) (began : ℕ) (before : List Played) (p : Played) → IsOpenBelow item began (length before + 1) before → (¬ IsItemOver item began (before ++ p ∷ []))
    → IsOpenBelow item began (length (before ++ p ∷ []) + 1) (before ++ p ∷ [])
unended-push item began before p unended now n from to over =
    let l = length-snoc before p in
    let O : List Played → Type 0 = λ l. IsItemOver item began l in
    elim (cases_lt n (length before + 1)) [
      | inl lt ↦ unended n from lt (subst O (take-append-le n before (p ∷ []) (omega (arith, lt))) over)
      | inr ge ↦ now (subst O (take-whole (before ++ p ∷ []) n (omega (arith, l, ge))) over)
    ]

-- as far as before the turn
pub unended-before : (item : PlanItem) (began : ℕ) (before : List Played) (p : Played) → IsOpenBelow item began (length before + 1) before
    → IsOpenBelow item began (length (before ++ p ∷ [])) (before ++ p ∷ [])
unended-before item began before p unended n from to over =
    let l = length-snoc before p in
    let O : List Played → Type 0 = λ l. IsItemOver item began l in
    let le : n ≤ length before = omega (arith, to, l) in
    unended n from (omega (arith, le)) (subst O (take-append-le n before (p ∷ []) le) over)

-- it has not ended now
pub unended-now : (item : PlanItem) (began : ℕ) (before : List Played) → began ≤ length before → IsOpenBelow item began (length before + 1) before → ¬ IsItemOver item began before
unended-now item began before le unended over =
    let O : List Played → Type 0 = λ l. IsItemOver item began l in
    unended (length before) le (omega arith) (subst O (sym (take-whole before (length before) (omega arith))) over)

-- when an item is not over: too few of its turns count, its actor has not ended, and it may make more
pub is-unended : (item : PlanItem) (began n : ℕ) (before : List Played) → CountIs item.kind (drop began before) n → n < item.count → has_ended before item.actor ≡ false → length before < began + MOST_ITEM_TURNS
    → ¬ IsItemOver item began before
is-unended item began n before count few active short over = elim over [
  | inl c ↦ (let e = one-count item.kind (drop began before) n c.0 count c.1.0 in omega (arith, e, c.1.1, few))
  | inr r ↦ elim r [
    | inl e ↦ (let f = active in cc (e, f))
    | inr m ↦ omega (arith, m, short)
  ]
]

-- at its beginning
pub unended-first : (item : PlanItem) (before : List Played) → (¬ IsItemOver item (length before) before) → IsOpenBelow item (length before) (length before + 1) before
unended-first item before now n from to over =
    let O : List Played → Type 0 = λ l. IsItemOver item (length before) l in
    now (subst O (take-whole before n from) over)

pub unended-none : (item : PlanItem) (before : List Played) → IsOpenBelow item (length before) (length before) before
unended-none item before n from to over = omega (arith, from, to)

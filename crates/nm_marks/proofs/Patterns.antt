-- Patterns whose lists have only such actions, or have such an event, from those that they are joined of.
use Rattle.std.proofs.Common.{ℕ, Bool, true, false, List, [], ◌∷◌, sym, subst, inl}
use Rattle.nm_base.specs.Geometry.{Geometry}
use Rattle.nm_action.specs.declared.action.Action.{Action}
use Rattle.nm_action.specs.declared.action.Reply.{Reply}
use Rattle.nm_action.specs.Own.{Own}
use Rattle.nm_part.specs.Patterns.{Ends, Follows, Either, Each, Sometimes}
use Rattle.nm_compose.specs.Acts.{IsAct}
use Rattle.nm_marks.specs.Contents.{HasOnly, HasEvent, ListsOnly, ListsHave}
use Rattle.nm_marks.proofs.Contents.{only-both, has-left, has-right}

-- ---- only such actions

pub only-act : (P : Action → Type 0) (action : Action) (g : Geometry) → P action → ListsOnly P (IsAct action g)
only-act P action g so own reply h =
    let O : Own → Type 0 = λ l. HasOnly P l in
    subst O (sym h.is) (so, tt)

pub only-ends : {O : Type 0} (P : Action → Type 0) (end : O) → ListsOnly P (Ends end)
only-ends P end own outcome h =
    let O : Own → Type 0 = λ l. HasOnly P l in
    subst O (sym h.none) tt

pub only-follows : {X O : Type 0} (P : Action → Type 0) (first : Own → X → Type 0) (after : X → Own → O → Type 0) → ListsOnly P first → ((end : X) → ListsOnly P (after end)) → ListsOnly P (Follows first after)
only-follows P first after now then own outcome h =
    let O : Own → Type 0 = λ l. HasOnly P l in
    subst O (sym h.is) (only-both P h.front h.back (now h.front h.end h.shown) (then h.end h.back outcome h.rest))

-- one action, and what follows by its reply
pub only-then : {O : Type 0} (P : Action → Type 0) (action : Action) (g : Geometry) (after : Reply → Own → O → Type 0) → P action → ((reply : Reply) → ListsOnly P (after reply)) → ListsOnly P (Follows (IsAct action g) after)
only-then P action g after so then = only-follows P (IsAct action g) after (only-act P action g so) then

pub only-either : {O : Type 0} (P : Action → Type 0) (b : Bool) (held other : Own → O → Type 0) → ListsOnly P held → ListsOnly P other → ListsOnly P (Either b held other)
only-either P true held other so then = so
only-either P false held other so then = then

pub only-each : {A S O : Type 0} (P : Action → Type 0) (body : A → S → (S → Own → O → Type 0) → Own → O → Type 0) (items : List A) (after : S → Own → O → Type 0)
    → ((item : A) (kept : S) (next : S → Own → O → Type 0) → ((kept : S) → ListsOnly P (next kept)) → ListsOnly P (body item kept next))
    → ((kept : S) → ListsOnly P (after kept)) → (kept : S) → ListsOnly P (Each body items kept after)
only-each P body [] after step over kept = over kept
only-each P body (item ∷ items) after step over kept = step item kept (λ next. Each body items next after) (only-each P body items after step over)

pub only-sometimes : {O : Type 0} (P : Action → Type 0) (pattern : ℕ → Own → O → Type 0) → ((tries : ℕ) → ListsOnly P (pattern tries)) → ListsOnly P (Sometimes pattern)
only-sometimes P pattern each own outcome h = each h.tries own outcome h.is

-- ---- such an event

pub has-act : (P : Action → Reply → Type 0) (may : Reply → Type 0) (action : Action) (g : Geometry) → ((reply : Reply) → may reply → P action reply) → ListsHave P may (IsAct action g)
has-act P may action g so own reply h here =
    let E : Own → Type 0 = λ l. HasEvent P l in
    subst E (sym h.is) (inl (so reply here))

-- in the list that follows
pub has-after : {X O : Type 0} (P : Action → Reply → Type 0) (may : O → Type 0) (first : Own → X → Type 0) (after : X → Own → O → Type 0) → ((end : X) → ListsHave P may (after end)) → ListsHave P may (Follows first after)
has-after P may first after then own outcome h here =
    let E : Own → Type 0 = λ l. HasEvent P l in
    subst E (sym h.is) (has-right P h.front h.back (then h.end h.back outcome h.rest here))

-- in the first list
pub has-first : {X O : Type 0} (P : Action → Reply → Type 0) (may : O → Type 0) (first : Own → X → Type 0) (after : X → Own → O → Type 0) → ((own : Own) (end : X) → first own end → HasEvent P own) → ListsHave P may (Follows first after)
has-first P may first after now own outcome h here =
    let E : Own → Type 0 = λ l. HasEvent P l in
    subst E (sym h.is) (has-left P h.front h.back (now h.front h.end h.shown))

-- in the first list, which is this action
pub has-now : {O : Type 0} (P : Action → Reply → Type 0) (may : O → Type 0) (action : Action) (g : Geometry) (after : Reply → Own → O → Type 0) → ((reply : Reply) → P action reply) → ListsHave P may (Follows (IsAct action g) after)
has-now P may action g after so =
    has-first P may (IsAct action g) after (λ own reply h.
    let E : Own → Type 0 = λ l. HasEvent P l in
    subst E (sym h.is) (inl (so reply)))

-- nothing more happens, and the outcome is none of these
pub has-none : {O : Type 0} (P : Action → Reply → Type 0) (may : O → Type 0) (end : O) → ¬ may end → ListsHave P may (Ends end)
has-none P may end not own outcome h here = absurd (not (subst may h.is here))

pub has-either : {O : Type 0} (P : Action → Reply → Type 0) (may : O → Type 0) (b : Bool) (held other : Own → O → Type 0) → ListsHave P may held → ListsHave P may other → ListsHave P may (Either b held other)
has-either P may true held other so then = so
has-either P may false held other so then = then

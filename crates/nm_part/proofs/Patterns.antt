-- Lists that are carried on along a pattern: no proof of a composite takes its own list apart.
use Rattle.std.proofs.Common.{◌≡◌, ℕ, ◌++◌, ◌∷◌, [], Bool, true, false, List, refl, append_assoc}
use Rattle.nm_part.specs.Patterns.{Ends, Follows, Either, Each, Sometimes, IsLeft, CanEnd}

-- What is left.

-- at first the whole is left
pub left-start : {E O : Type 0} (whole : List E → O → Type 0) → IsLeft whole [] whole
left-start whole = record { carry = λ rest outcome h. h }

-- after a first list, what comes after its outcome is left
pub left-after : {E X O : Type 0} (whole : List E → O → Type 0) (own inner : List E) (first : List E → X → Type 0) (after : X → List E → O → Type 0) (end : X)
    → IsLeft whole own (Follows first after) → first inner end → IsLeft whole (own ++ inner) (after end)
left-after whole own inner first after end h shown = record {
  carry = λ rest outcome r. rw append_assoc (h.carry (inner ++ rest) outcome (record { end = end; front = inner; back = rest; shown = shown; rest = r; is = refl }));
}

-- a pattern whose lists are all of the one that is left is left too
pub left-as : {E O : Type 0} (whole : List E → O → Type 0) (own : List E) (left now : List E → O → Type 0)
    → IsLeft whole own left → ((rest : List E) (outcome : O) → now rest outcome → left rest outcome) → IsLeft whole own now
left-as whole own left now h fits = record { carry = λ rest outcome r. h.carry rest outcome (fits rest outcome r) }

-- what is left can end: the list is the beginning of a finished one
pub left-ends : {E O : Type 0} (whole : List E → O → Type 0) (own : List E) (left : List E → O → Type 0)
    → IsLeft whole own left → CanEnd left → CanEnd (λ rest outcome. whole (own ++ rest) outcome)
left-ends whole own left h can = record { rest = can.rest; outcome = can.outcome; shown = h.carry can.rest can.outcome can.shown }

-- Ends.

-- nothing more: the whole list is finished
pub ends-now : {E O : Type 0} (outcome : O) → Ends {E = E} outcome [] outcome
ends-now outcome = record { none = refl; is = refl }

pub can-ends : {E O : Type 0} (outcome : O) → CanEnd {E = E} (Ends outcome)
can-ends outcome = record { rest = []; outcome = outcome; shown = ends-now outcome }

-- Follows.

-- a piece that is over at once: what comes after it comes now
pub over-at-once : {E X O : Type 0} (first : List E → X → Type 0) (after : X → List E → O → Type 0) (end : X) (own : List E) (outcome : O)
    → first [] end → after end own outcome → Follows first after own outcome
over-at-once first after end own outcome shown rest = record { end = end; front = []; back = own; shown = shown; rest = rest; is = refl }

pub can-follow : {E X O : Type 0} (first : List E → X → Type 0) (after : X → List E → O → Type 0) (some : CanEnd first)
    → CanEnd (after some.outcome) → CanEnd (Follows first after)
can-follow first after some can = record {
  rest = some.rest ++ can.rest;
  outcome = can.outcome;
  shown = record { end = some.outcome; front = some.rest; back = can.rest; shown = some.shown; rest = can.shown; is = refl };
}

-- Either.

pub either-yes : {E O : Type 0} (test : Bool) (held other : List E → O → Type 0) (own : List E) (outcome : O)
    → test ≡ true → held own outcome → Either test held other own outcome
either-yes test held other own outcome is h = rw is h

pub either-other : {E O : Type 0} (test : Bool) (held other : List E → O → Type 0) (own : List E) (outcome : O)
    → test ≡ false → other own outcome → Either test held other own outcome
either-other test held other own outcome is h = rw is h

pub can-either : {E O : Type 0} (test : Bool) (held other : List E → O → Type 0) → CanEnd held → CanEnd other → CanEnd (Either test held other)
can-either true held other y n = y
can-either false held other y n = n

-- Each.

-- a loop can end where each body can, and what comes after it
pub each-can : {A S E O : Type 0} (body : A → S → (S → List E → O → Type 0) → List E → O → Type 0) (items : List A) (kept : S) (after : S → List E → O → Type 0)
    → ((item : A) (now : S) (later : S → List E → O → Type 0) → ((next : S) → CanEnd (later next)) → CanEnd (body item now later))
    → ((end : S) → CanEnd (after end)) → CanEnd (Each body items kept after)
each-can body [] kept after each ends = ends kept
each-can body (item ∷ items) kept after each ends = each item kept (λ next. Each body items next after) (λ next. each-can body items next after each ends)

-- early exit: where the body of every item is what comes after it, what comes after the loop comes now
pub each-exit : {A S E O : Type 0} (body : A → S → (S → List E → O → Type 0) → List E → O → Type 0) (items : List A) (kept : S) (after : S → List E → O → Type 0) (own : List E) (outcome : O)
    → ((item : A) (later : S → List E → O → Type 0) → later kept own outcome → body item kept later own outcome)
    → after kept own outcome → Each body items kept after own outcome
each-exit body [] kept after own outcome skips h = h
each-exit body (item ∷ items) kept after own outcome skips h = skips item (λ next. Each body items next after) (each-exit body items kept after own outcome skips h)

-- Sometimes.

pub can-sometimes : {E O : Type 0} (pattern : ℕ → List E → O → Type 0) (tries : ℕ) → CanEnd (pattern tries) → CanEnd (Sometimes pattern)
can-sometimes pattern tries can = record { rest = can.rest; outcome = can.outcome; shown = record { tries = tries; is = can.shown } }

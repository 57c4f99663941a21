-- Patterns leave no choice where those that they are joined of leave none. Each lemma is stated of two patterns first, since
-- "again and again" may be made a different number of times.
use Rattle.std.proofs.Common.{◌≡◌, ◌⊎◌, inl, inr, ⊎_elim, ℕ, Bool, true, false, List, [], ◌∷◌, ◌++◌, refl, sym, ap, ap₂, subst, ◌∙◌}
use Rattle.nm_part.specs.Patterns.{Ends, Follows, Either, Each, Sometimes}
use Rattle.nm_choice.specs.Deterministic.{Diverge, Coincide, AgreeUpToAnswers, AgreeOnTold, IsDeterministic}
use Rattle.nm_choice.proofs.Diverging.{part-behind, part-more, part-as, both-same}

-- ---- nothing more

pub agree-ends : {E O : Type 0} (apart : E → E → Type 0) (one two : O) → one ≡ two → AgreeUpToAnswers apart (Ends one) (Ends two)
agree-ends apart one two same own other outcome end h k = inr (both-same own other outcome end (h.none ∙ sym k.none) (h.is ∙ same ∙ sym k.is))

pub one-ends : {E O : Type 0} (apart : E → E → Type 0) (end : O) → IsDeterministic apart (Ends end)
one-ends apart end = agree-ends apart end end refl

-- ---- one after the other

-- what comes after first lists that are the same
behind_same : {E O : Type 0} (apart : E → E → Type 0) (front front_too back back_too own other : List E) (outcome end : O)
    → own ≡ front ++ back → other ≡ front_too ++ back_too → front ≡ front_too
    → Diverge apart back back_too ⊎ Coincide back outcome back_too end → Diverge apart own other ⊎ Coincide own outcome other end
behind_same {E} apart front front_too back back_too own other outcome end is is_too same (inl d) =
    inl (part-as apart own other (front ++ back) (front ++ back_too) is (is_too ∙ ap (λ (l : List E). l ++ back_too) (sym same)) (part-behind apart front back back_too d))
behind_same {E} apart front front_too back back_too own other outcome end is is_too same (inr s) =
    inr (both-same own other outcome end (is ∙ ap₂ (λ (l m : List E). l ++ m) same s.list ∙ sym is_too) s.ends)

after_first : {E X O : Type 0} (apart : E → E → Type 0) (first second : List E → X → Type 0) (after then : X → List E → O → Type 0) (own other : List E) (outcome end : O)
    → ((x : X) → AgreeUpToAnswers apart (after x) (then x)) → (h : Follows first after own outcome) → (k : Follows second then other end)
    → Diverge apart h.front k.front ⊎ Coincide h.front h.end k.front k.end → Diverge apart own other ⊎ Coincide own outcome other end
after_first apart first second after then own other outcome end rest h k (inl d) =
    inl (part-as apart own other (h.front ++ h.back) (k.front ++ k.back) h.is k.is (part-more apart h.front k.front h.back k.back d))
after_first {E} {X} {O} apart first second after then own other outcome end rest h k (inr s) =
    let P : X → Type 0 = λ x. then x k.back end in
    behind_same apart h.front k.front h.back k.back own other outcome end h.is k.is s.list
    (rest h.end h.back k.back outcome end h.rest (subst P (sym s.ends) k.rest))

pub agree-follows : {E X O : Type 0} (apart : E → E → Type 0) (first second : List E → X → Type 0) (after then : X → List E → O → Type 0)
    → AgreeUpToAnswers apart first second → ((x : X) → AgreeUpToAnswers apart (after x) (then x)) → AgreeUpToAnswers apart (Follows first after) (Follows second then)
agree-follows apart first second after then now rest own other outcome end h k =
    after_first apart first second after then own other outcome end rest h k (now h.front k.front h.end k.end h.shown k.shown)

pub one-follows : {E X O : Type 0} (apart : E → E → Type 0) (first : List E → X → Type 0) (after : X → List E → O → Type 0)
    → IsDeterministic apart first → ((x : X) → IsDeterministic apart (after x)) → IsDeterministic apart (Follows first after)
one-follows apart first after = agree-follows apart first first after after

-- where the lists behind always diverge, the whole ones do
abbrev pub AlwaysDiverge : {E O : Type 0} → (E → E → Type 0) → (List E → O → Type 0) → (List E → O → Type 0) → Type 0
AlwaysDiverge {E} {O} apart first second = (own other : List E) (outcome end : O) → first own outcome → second other end → Diverge apart own other

pub apart-follows : {E X O : Type 0} (apart : E → E → Type 0) (first second : List E → X → Type 0) (after then : X → List E → O → Type 0)
    → AgreeUpToAnswers apart first second → ((x : X) → AlwaysDiverge apart (after x) (then x)) → AlwaysDiverge apart (Follows first after) (Follows second then)
apart-follows {E} {X} {O} apart first second after then now rest own other outcome end h k =
    let P : X → Type 0 = λ x. then x k.back end in
    let as_two : Diverge apart (h.front ++ h.back) (k.front ++ k.back) → Diverge apart own other = part-as apart own other (h.front ++ h.back) (k.front ++ k.back) h.is k.is in
    ⊎_elim
    (λ d. as_two (part-more apart h.front k.front h.back k.back d))
    (λ s. as_two (part-as apart (h.front ++ h.back) (k.front ++ k.back) (h.front ++ h.back) (h.front ++ k.back) refl (ap (λ (l : List E). l ++ k.back) (sym s.list))
    (part-behind apart h.front h.back k.back (rest h.end h.back k.back outcome end h.rest (subst P (sym s.ends) k.rest)))))
    (now h.front k.front h.end k.end h.shown k.shown)

-- what comes after goes by what is told of an end
pub told-follows : {E X Y O : Type 0} (apart : E → E → Type 0) (tell : X → Y) (first second : List E → X → Type 0) (after then : X → List E → O → Type 0)
    → AgreeOnTold apart tell first second → ((x y : X) → tell x ≡ tell y → AgreeUpToAnswers apart (after x) (then y)) → AgreeUpToAnswers apart (Follows first after) (Follows second then)
told-follows apart tell first second after then now rest own other outcome end h k =
    ⊎_elim
    (λ d. inl (part-as apart own other (h.front ++ h.back) (k.front ++ k.back) h.is k.is (part-more apart h.front k.front h.back k.back d)))
    (λ s. behind_same apart h.front k.front h.back k.back own other outcome end h.is k.is s.list (rest h.end k.end s.ends h.back k.back outcome end h.rest k.rest))
    (now h.front k.front h.end k.end h.shown k.shown)

-- ---- a choice by a test

pub agree-either : {E O : Type 0} (apart : E → E → Type 0) (b : Bool) (held holds other others : List E → O → Type 0)
    → AgreeUpToAnswers apart held holds → AgreeUpToAnswers apart other others → AgreeUpToAnswers apart (Either b held other) (Either b holds others)
agree-either apart true held holds other others so not_so = so
agree-either apart false held holds other others so not_so = not_so

pub one-either : {E O : Type 0} (apart : E → E → Type 0) (b : Bool) (held other : List E → O → Type 0)
    → IsDeterministic apart held → IsDeterministic apart other → IsDeterministic apart (Either b held other)
one-either apart b held other = agree-either apart b held held other other

-- ---- for each item

pub agree-each : {A S E O : Type 0} (apart : E → E → Type 0) (body : A → S → (S → List E → O → Type 0) → List E → O → Type 0) (items : List A) (after then : S → List E → O → Type 0)
    → ((item : A) (kept : S) (next later : S → List E → O → Type 0) → ((kept : S) → AgreeUpToAnswers apart (next kept) (later kept)) → AgreeUpToAnswers apart (body item kept next) (body item kept later))
    → ((kept : S) → AgreeUpToAnswers apart (after kept) (then kept)) → (kept : S) → AgreeUpToAnswers apart (Each body items kept after) (Each body items kept then)
agree-each apart body [] after then step over kept = over kept
agree-each apart body (item ∷ items) after then step over kept =
    step item kept (λ next. Each body items next after) (λ next. Each body items next then) (agree-each apart body items after then step over)

pub one-each : {A S E O : Type 0} (apart : E → E → Type 0) (body : A → S → (S → List E → O → Type 0) → List E → O → Type 0) (items : List A) (after : S → List E → O → Type 0)
    → ((item : A) (kept : S) (next : S → List E → O → Type 0) → ((kept : S) → IsDeterministic apart (next kept)) → IsDeterministic apart (body item kept next))
    → ((kept : S) → IsDeterministic apart (after kept)) → (kept : S) → IsDeterministic apart (Each body items kept after)
one-each apart body [] after step over kept = over kept
one-each apart body (item ∷ items) after step over kept = step item kept (λ next. Each body items next after) (one-each apart body items after step over)

-- ---- again and again

pub agree-sometimes : {E O : Type 0} (apart : E → E → Type 0) (pattern others : ℕ → List E → O → Type 0)
    → ((n m : ℕ) → AgreeUpToAnswers apart (pattern n) (others m)) → AgreeUpToAnswers apart (Sometimes pattern) (Sometimes others)
agree-sometimes apart pattern others agree own other outcome end h k = agree h.tries k.tries own other outcome end h.is k.is

pub one-sometimes : {E O : Type 0} (apart : E → E → Type 0) (pattern : ℕ → List E → O → Type 0)
    → ((n m : ℕ) → AgreeUpToAnswers apart (pattern n) (pattern m)) → IsDeterministic apart (Sometimes pattern)
one-sometimes apart pattern agree own other outcome end h k = agree h.tries k.tries own other outcome end h.is k.is

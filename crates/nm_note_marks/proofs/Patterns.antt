-- Patterns over answered turns whose sequences have only such actions, or have such an event, from those that they are joined of.
use Rattle.std.proofs.Common.{◌≡◌, ℕ, Bool, true, false, List, [], ◌∷◌, ◌++◌, Option, Some, None, sym, ap, subst, ◌∙◌}
use Rattle.nm_base.specs.Geometry.{Geometry}
use Rattle.nm_action.specs.declared.action.Action.{Action}
use Rattle.nm_action.specs.declared.action.Reply.{Reply}
use Rattle.nm_action.specs.declared.tally.Tally.{Tally}
use Rattle.nm_action.specs.declared.turn.Lane.{Lane}
use Rattle.nm_action.specs.Own.{Own}
use Rattle.nm_part.specs.Patterns.{Ends, Follows, Either, Each, Sometimes}
use Rattle.nm_actor.specs.Turns.{own_list}
use Rattle.nm_actor.proofs.TurnLists.{own-append}
use Rattle.nm_worker.specs.Notes.{Notes, noted_turns, IsWorkDone, IsPut, IsTake}
use Rattle.nm_worker.proofs.NoteLists.{turns-append, own-worked}
use Rattle.nm_marks.specs.Contents.{HasOnly, HasEvent, ListsOnly, ListsHave}
use Rattle.nm_marks.proofs.Contents.{only-both, has-left, has-right}
use Rattle.nm_note_marks.specs.Contents.{own_noted, NotesOnly, NotesHave}

-- the own list of notes one after the other
pub noted-append : (a b : Notes) → own_noted (a ++ b) ≡ own_noted a ++ own_noted b
noted-append a b = ap own_list (turns-append a b) ∙ own-append (noted_turns a) (noted_turns b)

-- ---- only such actions

-- a piece of work
pub note-work : {M X : Type 0} (P : Action → Type 0) (shape : M → Geometry → Own → X → Type 0) (counts : X → Tally) (work : M) (g : Geometry) → ListsOnly P (shape work g) → NotesOnly P (IsWorkDone shape counts work g)
note-work P shape counts work g so notes end h =
    let O : Own → Type 0 = λ l. HasOnly P l in
    subst O (sym (ap own_noted h.is ∙ own-worked (counts end) h.own)) (so h.own end h.shown)

put-none : (lane : Lane) (page : ℕ) (notes : Notes) (full : Bool) → IsPut lane page notes full → own_noted notes ≡ []
put-none lane page notes true h = ap own_noted h.is
put-none lane page notes false h = ap own_noted h.is

take-none : (lane : Lane) (notes : Notes) (page : Option ℕ) → IsTake lane notes page → own_noted notes ≡ []
take-none lane notes None h = ap own_noted h.is
take-none lane notes (Some page) h = ap own_noted h.is

-- a put or a take is no action
pub note-put : (P : Action → Type 0) (lane : Lane) (page : ℕ) → NotesOnly P (IsPut lane page)
note-put P lane page notes full h =
    let O : Own → Type 0 = λ l. HasOnly P l in
    subst O (sym (put-none lane page notes full h)) tt

pub note-take : (P : Action → Type 0) (lane : Lane) → NotesOnly P (IsTake lane)
note-take P lane notes page h =
    let O : Own → Type 0 = λ l. HasOnly P l in
    subst O (sym (take-none lane notes page h)) tt

pub note-ends : {O : Type 0} (P : Action → Type 0) (end : O) → NotesOnly P (Ends end)
note-ends P end notes outcome h =
    let N : Notes → Type 0 = λ l. HasOnly P (own_noted l) in
    subst N (sym h.none) tt

pub note-follows : {X O : Type 0} (P : Action → Type 0) (first : Notes → X → Type 0) (after : X → Notes → O → Type 0) → NotesOnly P first → ((end : X) → NotesOnly P (after end)) → NotesOnly P (Follows first after)
note-follows P first after now then notes outcome h =
    let O : Own → Type 0 = λ l. HasOnly P l in
    subst O (sym (ap own_noted h.is ∙ noted-append h.front h.back)) (only-both P (own_noted h.front) (own_noted h.back) (now h.front h.end h.shown) (then h.end h.back outcome h.rest))

pub note-either : {O : Type 0} (P : Action → Type 0) (b : Bool) (held other : Notes → O → Type 0) → NotesOnly P held → NotesOnly P other → NotesOnly P (Either b held other)
note-either P true held other so then = so
note-either P false held other so then = then

pub note-each : {A S O : Type 0} (P : Action → Type 0) (body : A → S → (S → Notes → O → Type 0) → Notes → O → Type 0) (items : List A) (after : S → Notes → O → Type 0)
    → ((item : A) (kept : S) (next : S → Notes → O → Type 0) → ((kept : S) → NotesOnly P (next kept)) → NotesOnly P (body item kept next))
    → ((kept : S) → NotesOnly P (after kept)) → (kept : S) → NotesOnly P (Each body items kept after)
note-each P body [] after step over kept = over kept
note-each P body (item ∷ items) after step over kept = step item kept (λ next. Each body items next after) (note-each P body items after step over)

pub note-sometimes : {O : Type 0} (P : Action → Type 0) (pattern : ℕ → Notes → O → Type 0) → ((tries : ℕ) → NotesOnly P (pattern tries)) → NotesOnly P (Sometimes pattern)
note-sometimes P pattern each notes outcome h = each h.tries notes outcome h.is

-- ---- such an event

-- in a piece of work
pub note-has-work : {M X : Type 0} (P : Action → Reply → Type 0) (may : X → Type 0) (shape : M → Geometry → Own → X → Type 0) (counts : X → Tally) (work : M) (g : Geometry) → ListsHave P may (shape work g) → NotesHave P may (IsWorkDone shape counts work g)
note-has-work P may shape counts work g so notes end h here =
    let E : Own → Type 0 = λ l. HasEvent P l in
    subst E (sym (ap own_noted h.is ∙ own-worked (counts end) h.own)) (so h.own end h.shown here)

-- in the first sequence, or in the one that follows
pub note-has-first : {X O : Type 0} (P : Action → Reply → Type 0) (may : O → Type 0) (first : Notes → X → Type 0) (after : X → Notes → O → Type 0) → ((notes : Notes) (end : X) → first notes end → HasEvent P (own_noted notes)) → NotesHave P may (Follows first after)
note-has-first P may first after now notes outcome h here =
    let E : Own → Type 0 = λ l. HasEvent P l in
    subst E (sym (ap own_noted h.is ∙ noted-append h.front h.back)) (has-left P (own_noted h.front) (own_noted h.back) (now h.front h.end h.shown))

pub note-has-after : {X O : Type 0} (P : Action → Reply → Type 0) (may : O → Type 0) (first : Notes → X → Type 0) (after : X → Notes → O → Type 0) → ((end : X) → NotesHave P may (after end)) → NotesHave P may (Follows first after)
note-has-after P may first after then notes outcome h here =
    let E : Own → Type 0 = λ l. HasEvent P l in
    subst E (sym (ap own_noted h.is ∙ noted-append h.front h.back)) (has-right P (own_noted h.front) (own_noted h.back) (then h.end h.back outcome h.rest here))

-- Pieces of work of several kinds, of which only some is told.
use Rattle.std.proofs.Common.{◌≡◌, ◌⊎◌, inl, inr, ⊎_elim, refl, sym, ap, ap₂, subst, ◌∙◌}
use Rattle.nm_base.specs.Geometry.{Geometry}
use Rattle.nm_action.specs.declared.spent.Spent.{Spent}
use Rattle.nm_action.specs.declared.tally.Tally.{Tally}
use Rattle.nm_action.specs.Own.{Own}
use Rattle.nm_part.specs.Patterns.{Follows}
use Rattle.nm_worker.specs.Notes.{Notes, IsWorkDone}
use Rattle.nm_drawing.specs.declared.drawing.Drawn.{Drawn}
use Rattle.nm_drawing.specs.Draws.{drawn_over, IsDrawingList}
use Rattle.nm_choice.specs.Deterministic.{Diverge, Coincide, AreRepliesApart, AgreeUpToAnswers, AgreeOnTold}
use Rattle.nm_choice.proofs.Diverging.{both-same}
use Rattle.nm_choice.proofs.Patterns.{told-follows}
use Rattle.nm_note_choice.specs.NotesApart.{AreNotesApart}
use Rattle.nm_note_choice.proofs.Tasks.{work-told}

-- an end is of this kind
pub record IsOfKind {X Y : Type 0} (into : X → Y) (shape : Own → X → Type 0) (own : Own) (end : Y) : Type 0 where
  pub part : X
  pub is : end ≡ into part
  pub shown : shape own part

-- where the ends are of one kind, what is told of that kind is told
pub kind-told : {X Y Z W : Type 0} (pattern : Own → Y → Type 0) (into : X → Y) (shape : Own → X → Type 0) (told : X → Z) (tell : Y → W) (by : Z → W) → ((x : X) → tell (into x) ≡ by (told x))
    → ((own : Own) (end : Y) → pattern own end → IsOfKind into shape own end) → AgreeOnTold AreRepliesApart told shape shape → AgreeOnTold AreRepliesApart tell pattern pattern
kind-told pattern into shape told tell by so kind agree own other one two h k =
    let a = kind own one h in
    let b = kind other two k in
    ⊎_elim
    (λ d. inl d)
    (λ s. inr (both-same own other (tell one) (tell two) s.list
    (ap tell a.is ∙ so a.part ∙ ap by s.ends ∙ sym (so b.part) ∙ sym (ap tell b.is))))
    (agree own other a.part b.part a.shown b.shown)

-- what is told of an end, with what was drawn
abbrev pub with_spent : {X Z : Type 0} → (X → Z) → Drawn X → Z × Spent
with_spent told d = (told d.end, d.spent)

-- what is told of an end, with what it counts
abbrev pub with_counts : {X Z : Type 0} → (X → Z) → (X → Tally) → X → Z × Tally
with_counts tell counts end = (tell end, counts end)

-- a piece that also tells what was drawn
pub drawing-told : {X Z : Type 0} (shape : Own → X → Type 0) (spent : Spent) (told : X → Z) → AgreeOnTold AreRepliesApart told shape shape
    → AgreeOnTold AreRepliesApart (with_spent told) (λ own d. IsDrawingList (shape own) spent own d) (λ own d. IsDrawingList (shape own) spent own d)
drawing-told {X} {Z} shape spent told agree own other one two h k =
    ⊎_elim
    (λ d. inl d)
    (λ s. inr (both-same own other (told one.end, one.spent) (told two.end, two.spent) s.list
    (ap₂ (λ (z : Z) (n : Spent). (z, n)) s.ends (h.drawn ∙ ap (drawn_over spent) s.list ∙ sym k.drawn))))
    (agree own other one.end two.end h.shown k.shown)

-- a piece of work, and what follows by what is told
pub work-follows : {M X Z O : Type 0} (shape : M → Geometry → Own → X → Type 0) (counts : X → Tally) (work : M) (g : Geometry) (tell : X → Z) (after then : Z → Notes → O → Type 0)
    → AgreeOnTold AreRepliesApart (with_counts tell counts) (shape work g) (shape work g) → ((z : Z) → AgreeUpToAnswers AreNotesApart (after z) (then z))
    → AgreeUpToAnswers AreNotesApart (Follows (IsWorkDone shape counts work g) (λ end. after (tell end))) (Follows (IsWorkDone shape counts work g) (λ end. then (tell end)))
work-follows {M} {X} {Z} {O} shape counts work g tell after then so rest =
    let both : X → Z × Tally = with_counts tell counts in
    told-follows AreNotesApart both (IsWorkDone shape counts work g) (IsWorkDone shape counts work g) (λ end. after (tell end)) (λ end. then (tell end))
    (work-told shape counts work g both (λ one two same. ap (λ (p : Z × Tally). p.1) same) so)
    (λ one two same. let P : Z → Type 0 = λ z. AgreeUpToAnswers AreNotesApart (after (tell one)) (then z) in subst P (ap (λ (p : Z × Tally). p.0) same) (rest (tell one)))

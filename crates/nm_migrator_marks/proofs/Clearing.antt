-- Patterns of the migrator whose sequences leave no mark: what is held is taken back, as is what is marked as pending.
use Rattle.std.proofs.Common.{◌≡◌, ℕ, ◌<◌, ◌⊎◌, Bool, true, false, List, [], ◌∷◌, ◌++◌, inl, inr, sym, ap, subst, ◌∙◌, append_assoc, arith}
use Rattle.nm_base.specs.Geometry.{Geometry}
use Rattle.nm_base.specs.Ranges.{IsPage}
use Rattle.nm_action.specs.declared.action.Action.{Action}
use Rattle.nm_action.specs.declared.action.Action.TheVariants.{Mark}
use Rattle.nm_action.specs.declared.action.Reply.{Reply}
use Rattle.nm_action.specs.declared.action.Reply.TheVariants.{Done}
use Rattle.nm_action.specs.declared.tally.Tally.{Tally}
use Rattle.nm_action.specs.Own.{Own}
use Rattle.nm_permit.specs.Permitted.{IsMarkSet}
use Rattle.nm_part.specs.Patterns.{Follows, Either}
use Rattle.nm_action.specs.declared.turn.Lane.TheVariants.{Pending}
use Rattle.nm_actor.specs.Turns.{Turns}
use Rattle.nm_actor.specs.Alone.{FitsLane}
use Rattle.nm_worker.specs.Notes.{Notes, noted_turns, worked, IsWorkDone}
use Rattle.nm_worker.proofs.NoteLists.{turns-append, own-worked}
use Rattle.nm_migrator_work.specs.Planned.{MigratorKept, is_mapped}
use Rattle.nm_marks.specs.Contents.{HasEvent, ListsOnly}
use Rattle.nm_marks.specs.Marks.{IsMarkOf, HasOnlyMarks, IsMigratorMark, IsTakenBack}
use Rattle.nm_marks.proofs.Contents.{only-both, marks-more, has-left, has-right}
use Rattle.nm_unmarked.specs.Unmarking.{IsEndSeen, IsCandidateTakenBack}
use Rattle.nm_note_marks.specs.Contents.{own_noted}
use Rattle.nm_note_marks.proofs.Patterns.{noted-append}
use Rattle.nm_migrator_marks.proofs.Among.{IsAmong}

-- the outcome of a sequence of the migrator
abbrev pub MigratorOutcome : Type 0
MigratorOutcome = MigratorKept

-- a Mark that takes a mark back
abbrev pub IsReturnMark : ℕ → ℕ → Type 0
IsReturnMark old new = IsMarkSet 1 0 old new ⊎ IsMarkSet 2 0 old new

-- a page was marked as pending
abbrev pub IsPendingMade : ℕ → Action × Reply → Type 0
IsPendingMade page e = e ≡ (Mark page 1 2, Done)

-- a page was taken back, or lies in the lane at the end, which holds these pages then; no page does to which nothing is mapped
abbrev pub IsPaid : Geometry → ℕ → Own → List ℕ → Type 0
IsPaid g page own left = HasEvent (IsTakenBack page) own ⊎ ((is_mapped g page ≡ true) × IsAmong page left)

-- whenever a page was marked as pending, that mark was taken back later, or the page lies in the lane at the end
abbrev pub AreAllPaid : Geometry → ℕ → Own → List ℕ → Type 0
AreAllPaid g page [] left = Unit {0}
AreAllPaid g page (e ∷ own) left = (IsPendingMade page e → IsPaid g page own left) × AreAllPaid g page own left

-- An own list with which the migrator comes to its end, after this list, while it holds these pages and the lane those, where the lane
-- holds the last pages at the end: each Mark is its own; each page was swept; what was marked as pending was taken back or is left in
-- the lane, as are the pages that were held and those in the lane.
pub record Clears (g : Geometry) (before : Own) (held pages : List ℕ) (own : Own) (left : List ℕ) : Type 0 where
  pub marks : HasOnlyMarks IsMigratorMark own
  pub swept : (page : ℕ) → IsPage g page → IsCandidateTakenBack g page (before ++ own)
  pub back : (page : ℕ) → AreAllPaid g page own left
  pub paid : (page : ℕ) → is_mapped g page ≡ true → IsAmong page held ⊎ IsAmong page pages → IsPaid g page own left

-- each sequence of a pattern is so
abbrev pub ClearsWith : {O : Type 0} → Geometry → Own → List ℕ → List ℕ → (Notes → O → Type 0) → Type 0
ClearsWith {O} g before held pages pattern = (notes : Notes) (outcome : O) (left : List ℕ) → pattern notes outcome → FitsLane Pending pages (noted_turns notes) left → Clears g before held pages (own_noted notes) left

-- so after each list, whatever the lane holds
abbrev pub ClearsAfter : {O : Type 0} → Geometry → List ℕ → (Notes → O → Type 0) → Type 0
ClearsAfter {O} g held pattern = (before : Own) (pages : List ℕ) → ClearsWith g before held pages pattern

-- every processor was seen at its end
abbrev pub AreAllSeen : Geometry → Own → Type 0
AreAllSeen g before = (cpu : ℕ) → cpu < g.cpus → HasEvent (IsEndSeen cpu) before

-- ---- own lists

return-mark : (old new : ℕ) → IsReturnMark old new → IsMigratorMark old new
return-mark old new (inl h) = inr (inl h)
return-mark old new (inr h) = inr (inr h)

no-return : ¬ IsReturnMark 1 2
no-return (inl h) = omega (arith, h.new_is)
no-return (inr h) = omega (arith, h.new_is)

paid-left : (g : Geometry) (page : ℕ) (front own : Own) (left : List ℕ) → HasEvent (IsTakenBack page) front → IsPaid g page (front ++ own) left
paid-left g page front own left h = inl (has-left (IsTakenBack page) front own h)

pub paid-right : (g : Geometry) (page : ℕ) (front own : Own) (left : List ℕ) → IsPaid g page own left → IsPaid g page (front ++ own) left
paid-right g page front own left (inl h) = inl (has-right (IsTakenBack page) front own h)
paid-right g page front own left (inr h) = inr h

paid-front : (g : Geometry) (page : ℕ) (front own : Own) (left : List ℕ) → HasOnlyMarks IsReturnMark front → AreAllPaid g page own left → AreAllPaid g page (front ++ own) left
paid-front g page [] own left so h = h
paid-front g page (e ∷ front) own left so h = (
  (λ is.
      let A : Action → Type 0 = λ a. IsMarkOf IsReturnMark a in
      absurd (no-return (subst A (ap (λ (p : Action × Reply). p.0) is) so.0))),
  paid-front g page front own left so.1 h,
)

-- ---- the lane

-- actions leave the lane
pub worked-fits : (counts : Tally) (own : Own) (pages left : List ℕ) (rest : Turns) → FitsLane Pending pages (noted_turns (worked counts own) ++ rest) left → FitsLane Pending pages rest left
worked-fits counts [] pages left rest h = h
worked-fits counts (e ∷ own) pages left rest h = worked-fits counts own pages left rest h

-- the turns of two lists of notes
pub fits-parts : (pages left : List ℕ) (notes front back : Notes) → notes ≡ front ++ back → FitsLane Pending pages (noted_turns notes) left → FitsLane Pending pages (noted_turns front ++ noted_turns back) left
fits-parts pages left notes front back is h =
    let F : Turns → Type 0 = λ l. FitsLane Pending pages l left in
    subst F (ap noted_turns is ∙ turns-append front back) h

-- ---- a piece of work

-- after a piece of work with this own list: the pages that are held then; of those before it the others were taken back
pub record GoesOn {O : Type 0} (g : Geometry) (before : Own) (held pages : List ℕ) (own : Own) (pattern : Notes → O → Type 0) : Type 0 where
  pub later : List ℕ
  pub kept : (page : ℕ) → IsAmong page held → IsAmong page later ⊎ HasEvent (IsTakenBack page) own
  pub clear : ClearsWith g (before ++ own) later pages pattern

joined : (g : Geometry) (before : Own) (held later pages left : List ℕ) (front back : Own) → HasOnlyMarks IsReturnMark front
    → ((page : ℕ) → IsAmong page held → IsAmong page later ⊎ HasEvent (IsTakenBack page) front)
    → Clears g (before ++ front) later pages back left → Clears g before held pages (front ++ back) left
joined g before held later pages left front back so kept c =
    let S : ℕ → Own → Type 0 = λ page l. IsCandidateTakenBack g page l in
    record {
      marks = only-both (IsMarkOf IsMigratorMark) front back (marks-more IsReturnMark IsMigratorMark return-mark front so) c.marks;
      swept = λ page here. subst (S page) (append_assoc before front back) (c.swept page here);
      back = λ page. paid-front g page front back left so (c.back page);
      paid = λ page mapped owed. elim owed [
        | inl mine ↦ elim (kept page mine) [
          | inl still ↦ paid-right g page front back left (c.paid page mapped (inl still))
          | inr gone ↦ paid-left g page front back left gone
        ]
        | inr queued ↦ paid-right g page front back left (c.paid page mapped (inr queued))
      ];
    }

pub does-clears : {M X O : Type 0} (g : Geometry) (before : Own) (held pages : List ℕ) (shape : M → Geometry → Own → X → Type 0) (counts : X → Tally) (work : M) (after : X → Notes → O → Type 0)
    → ListsOnly (IsMarkOf IsReturnMark) (shape work g) → ((own : Own) (end : X) → shape work g own end → GoesOn g before held pages own (after end))
    → ClearsWith g before held pages (Follows (IsWorkDone shape counts work g) after)
does-clears g before held pages shape counts work after so then notes outcome left h fits =
    let w = h.shown in
    let n = then w.own h.end w.shown in
    let C : Own → Type 0 = λ l. Clears g before held pages l left in
    let F : Turns → Type 0 = λ l. FitsLane Pending pages (l ++ noted_turns h.back) left in
    let rest : FitsLane Pending pages (noted_turns h.back) left = worked-fits (counts h.end) w.own pages left (noted_turns h.back) (subst F (ap noted_turns w.is) (fits-parts pages left notes h.front h.back h.is fits)) in
    let own : own_noted notes ≡ w.own ++ own_noted h.back =
    ap own_noted h.is ∙ noted-append h.front h.back ∙ ap (λ (l : Own). l ++ own_noted h.back) (ap own_noted w.is ∙ own-worked (counts h.end) w.own) in
    subst C (sym own) (joined g before held n.later pages left w.own (own_noted h.back) (so w.own h.end w.shown) n.kept (n.clear h.back outcome left h.rest rest))

-- a piece of work after which the same pages are held
pub does-same : {M X O : Type 0} (g : Geometry) (held : List ℕ) (shape : M → Geometry → Own → X → Type 0) (counts : X → Tally) (work : M) (after : X → Notes → O → Type 0)
    → ListsOnly (IsMarkOf IsReturnMark) (shape work g) → ((end : X) → ClearsAfter g held (after end)) → ClearsAfter g held (Follows (IsWorkDone shape counts work g) after)
does-same g held shape counts work after so then before pages =
    does-clears g before held pages shape counts work after so (λ own end shown. record { later = held; kept = λ page here. inl here; clear = then end (before ++ own) pages })

-- ---- the other patterns

pub either-clears : {O : Type 0} (g : Geometry) (held : List ℕ) (b : Bool) (one other : Notes → O → Type 0) → ClearsAfter g held one → ClearsAfter g held other → ClearsAfter g held (Either b one other)
either-clears g held true one other so then = so
either-clears g held false one other so then = then

-- other pages are held, and others lie in the lane, each of which was held or lay there
pub owed-more : (g : Geometry) (before : Own) (held later pages rest : List ℕ) (own : Own) (left : List ℕ) → ((page : ℕ) → is_mapped g page ≡ true → IsAmong page held ⊎ IsAmong page pages → IsAmong page later ⊎ IsAmong page rest)
    → Clears g before later rest own left → Clears g before held pages own left
owed-more g before held later pages rest own left so c = record { marks = c.marks; swept = c.swept; back = c.back; paid = λ page mapped owed. c.paid page mapped (so page mapped owed) }

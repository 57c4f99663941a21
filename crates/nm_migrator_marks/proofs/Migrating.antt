-- The migrator leaves no mark.
use Rattle.std.proofs.Common.{◌≡◌, ℕ, zero, suc, List, [], ◌∷◌, ◌++◌, Option, inl, inr, refl, sym, ap, subst, ◌∙◌, append_assoc}
use Rattle.nm_base.specs.Geometry.{Geometry}
use Rattle.nm_action.specs.declared.action.Action.{Action}
use Rattle.nm_action.specs.declared.action.Action.TheVariants.{Mark}
use Rattle.nm_action.specs.declared.action.Reply.{Reply}
use Rattle.nm_action.specs.declared.action.Reply.TheVariants.{Done}
use Rattle.nm_action.specs.declared.turn.Lane.{Lane}
use Rattle.nm_action.specs.declared.turn.Lane.TheVariants.{Candidates, Pending}
use Rattle.nm_action.specs.Own.{Own}
use Rattle.nm_actor.specs.Lanes.{LaneMove, put, took}
use Rattle.nm_actor.specs.Turns.{Turns, lane_list}
use Rattle.nm_actor.specs.Alone.{MovesLeave, FitsLane}
use Rattle.nm_actor.proofs.TurnLists.{lane-append}
use Rattle.nm_worker.specs.Notes.{Notes, noted_turns}
use Rattle.nm_migrator_work.specs.Planned.{MigratorKept, nothing_kept}
use Rattle.nm_migrator.specs.Migrating.{Sequence, AfterTakes, AfterCandidate, MigratorRound, MigratorRounds, MigratesFrom, IsMigratingBy}
use Rattle.nm_marks.specs.Contents.{HasEvent}
use Rattle.nm_marks.specs.Marks.{IsMarkOf, IsMigratorMark, IsTakenBack}
use Rattle.nm_marks.proofs.Contents.{only-both, has-left}
use Rattle.nm_unmarked.specs.Unmarking.{IsCandidateTakenBack, AreTakenBack, IsMigratorUnmarking}
use Rattle.nm_note_marks.specs.Contents.{own_noted}
use Rattle.nm_note_marks.proofs.Patterns.{noted-append}
use Rattle.nm_migrator_marks.proofs.Clearing.{MigratorOutcome, IsPaid, AreAllPaid, Clears, ClearsAfter, paid-right, fits-parts}
use Rattle.nm_migrator_marks.proofs.Lanes.{takes-candidates}
use Rattle.nm_migrator_marks.proofs.Heating.{NextClears, judges-clears}
use Rattle.nm_migrator_marks.proofs.Planning.{takes-clears, after-takes-clears}
use Rattle.nm_migrator_marks.proofs.Unmarking.{asks-clears}

round-clears : (g : Geometry) (retry : Option ℕ) (next : Lane → MigratorKept → Sequence) (lane : Lane) (kept : MigratorKept) → NextClears g next → ClearsAfter g [] (MigratorRound g retry next lane kept)
round-clears g retry next Candidates kept n before pages = takes-candidates g [] pages before (AfterCandidate g next kept) (λ page mapped. judges-clears g next kept page mapped n before pages) (n Pending kept before pages)
round-clears g retry next Pending kept n before pages = takes-clears g (AfterTakes g retry next kept) (λ page taken. after-takes-clears g retry next n kept page taken) (asks-clears g next kept n) 7 before pages

rounds-clears : (g : Geometry) (retry : Option ℕ) (n : ℕ) → NextClears g (MigratorRounds g retry n)
rounds-clears g retry zero lane kept before pages notes outcome left h fits = absurd h
rounds-clears g retry (suc n) lane kept before pages notes outcome left h fits = round-clears g retry (MigratorRounds g retry n) lane kept (rounds-clears g retry n) before pages notes outcome left h fits

-- ---- one that was resumed

-- the moves of two lists of turns
moves-parts : (pages : List ℕ) (a b : List LaneMove) (left : List ℕ) → MovesLeave pages (a ++ b) left → (mid : List ℕ) × MovesLeave pages a mid × MovesLeave mid b left
moves-parts pages [] b left h = (pages, refl, h)
moves-parts pages (put page ∷ a) b left h = moves-parts (pages ++ page ∷ []) a b left h
moves-parts pages (took page ∷ a) b left h =
    let r = moves-parts h.0 a b left h.2 in
    (r.0, (h.0, h.1, r.1), r.2)

fits-both : (pages : List ℕ) (a b : Turns) (left : List ℕ) → FitsLane Pending pages (a ++ b) left → (mid : List ℕ) × FitsLane Pending pages a mid × FitsLane Pending mid b left
fits-both pages a b left h =
    let M : List LaneMove → Type 0 = λ l. MovesLeave pages l left in
    moves-parts pages (lane_list Pending a) (lane_list Pending b) left (subst M (lane-append Pending a b) h)

-- what lay in the lane between two whole sequences was paid in the second
paid-both : (g : Geometry) (before : Own) (page : ℕ) (front back : Own) (mid left : List ℕ) → Clears g before [] mid back left → IsPaid g page front mid → IsPaid g page (front ++ back) left
paid-both g before page front back mid left c (inl h) = inl (has-left (IsTakenBack page) front back h)
paid-both g before page front back mid left c (inr h) = paid-right g page front back left (c.paid page h.0 (inr h.1))

all-both : (g : Geometry) (before : Own) (page : ℕ) (front back : Own) (mid left : List ℕ) → Clears g before [] mid back left → AreAllPaid g page front mid → AreAllPaid g page (front ++ back) left
all-both g before page [] back mid left c h = c.back page
all-both g before page (e ∷ front) back mid left c h = ((λ is. paid-both g before page front back mid left c (h.0 is)), all-both g before page front back mid left c h.1)

both-clear : (g : Geometry) (before : Own) (pages mid left : List ℕ) (front back : Own) → Clears g before [] pages front mid → Clears g (before ++ front) [] mid back left → Clears g before [] pages (front ++ back) left
both-clear g before pages mid left front back c d =
    let S : ℕ → Own → Type 0 = λ page l. IsCandidateTakenBack g page l in
    record {
      marks = only-both (IsMarkOf IsMigratorMark) front back c.marks d.marks;
      swept = λ page here. subst (S page) (append_assoc before front back) (d.swept page here);
      back = λ page. all-both g (before ++ front) page front back mid left d (c.back page);
      paid = λ page mapped owed. paid-both g (before ++ front) page front back mid left d (c.paid page mapped owed);
    }

-- begun with whatever is kept
from-clears : (g : Geometry) (retry : Option ℕ) (kept : MigratorKept) → ClearsAfter g [] (MigratesFrom g retry kept)
from-clears g retry kept before pages notes outcome left h fits = rounds-clears g retry h.tries Candidates kept before pages notes outcome left h.is fits

by-clears : (n : ℕ) (g : Geometry) (retry : Option ℕ) → ClearsAfter g [] (IsMigratingBy n g retry)
by-clears zero g retry before pages notes outcome left h fits = from-clears g retry (nothing_kept g) before pages notes outcome left h fits
by-clears (suc n) g retry before pages notes outcome left h fits =
    let C : Own → Type 0 = λ l. Clears g before [] pages l left in
    let p = fits-both pages (noted_turns h.front) (noted_turns h.back) left (fits-parts pages left notes h.front h.back h.is fits) in
    let first = by-clears n g retry before pages h.front h.end p.0 h.shown p.1 in
    let last = from-clears g retry h.end (before ++ own_noted h.front) p.0 h.back outcome left h.rest p.2 in
    subst C (sym (ap own_noted h.is ∙ noted-append h.front h.back)) (both-clear g before pages p.0 left (own_noted h.front) (own_noted h.back) first last)

-- ---- what is taken back

same-head : (x y : Action × Reply) (xs ys : Own) → x ∷ xs ≡ y ∷ ys → (x ≡ y) × (xs ≡ ys)
same-head x y xs ys is = (cc, cc)

-- nothing lies in the lane at the end
paid-back : (g : Geometry) (page : ℕ) (own : Own) → IsPaid g page own [] → HasEvent (IsTakenBack page) own
paid-back g page own (inl h) = h
paid-back g page own (inr h) = absurd h.1

back-of : (g : Geometry) (page : ℕ) (own : Own) → AreAllPaid g page own [] → AreTakenBack page own
back-of g page [] h [] rest is = absurd (cc)
back-of g page [] h (y ∷ front) rest is = absurd (cc)
back-of g page (e ∷ own) h [] rest is =
    let B : Own → Type 0 = λ l. HasEvent (IsTakenBack page) l in
    let same = same-head e (Mark page 1 2, Done) own rest is in
    subst B same.1 (paid-back g page own (h.0 same.0))
back-of g page (e ∷ own) h (y ∷ front) rest is = back-of g page own h.1 front rest (same-head e y own (front ++ (Mark page 1 2, Done) ∷ rest) is).1

pub migrating-unmarked : (n : ℕ) (g : Geometry) (retry : Option ℕ) (notes : Notes) (outcome : MigratorOutcome) → IsMigratingBy n g retry notes outcome → FitsLane Pending [] (noted_turns notes) [] → IsMigratorUnmarking g (own_noted notes)
migrating-unmarked n g retry notes outcome h fits =
    let c = by-clears n g retry [] [] notes outcome [] h fits in
    record { marks = c.marks; swept = c.swept; back = λ page here. back-of g page (own_noted notes) (c.back page) }

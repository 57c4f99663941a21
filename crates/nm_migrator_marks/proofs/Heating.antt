-- What is done with a candidate: a page that is marked as pending is put in the pending pages, so it is taken back later.
use Rattle.std.proofs.Common.{◌≡◌, ℕ, true, List, [], ◌∷◌, ◌++◌, refl, inl, inr, sym, ap, subst, ◌∙◌, append_assoc}
use Rattle.nm_base.specs.Geometry.{Geometry}
use Rattle.nm_action.specs.declared.action.Action.{Action}
use Rattle.nm_action.specs.declared.action.Action.TheVariants as action
use Rattle.nm_action.specs.declared.action.Reply.{Reply}
use Rattle.nm_action.specs.declared.action.Reply.TheVariants as replies
use Rattle.nm_action.specs.declared.turn.Lane.{Lane}
use Rattle.nm_action.specs.declared.turn.Lane.TheVariants.{Candidates, Pending}
use Rattle.nm_action.specs.Own.{Own}
use Rattle.nm_cool.specs.declared.cool.Cooled.{Cooled}
use Rattle.nm_cool.specs.declared.cool.Cooled.TheVariants as cooled
use Rattle.nm_actor.specs.Turns.{Turns}
use Rattle.nm_actor.specs.Alone.{FitsLane}
use Rattle.nm_worker.specs.Notes.{Notes, noted_turns}
use Rattle.nm_worker.proofs.NoteLists.{own-worked}
use Rattle.nm_migrator_work.specs.declared.work.MigratorWork.TheVariants.{Mark, Looks, Cool, Batch, Move, Ask}
use Rattle.nm_migrator_work.specs.Works.{MigratorWorkEnd, IsMigratorWork, made_mark, made_looks, made_cool}
use Rattle.nm_part.specs.Patterns.{Either}
use Rattle.nm_migrator_work.specs.Ends.{mark_reply_in, looks_in, cooled_in, migrator_counts}
use Rattle.nm_migrator_work.specs.Planned.{MigratorKept, unaborted, is_mapped}
use Rattle.nm_migrator.specs.Migrating.{Sequence, Does, Spills, AfterCool, Cools, AfterHeat, Heats, Judges}
use Rattle.nm_unmarked.specs.Unmarking.{IsCandidateTakenBack}
use Rattle.nm_note_marks.specs.Contents.{own_noted}
use Rattle.nm_note_marks.proofs.Patterns.{noted-append}
use Rattle.nm_migrator_marks.proofs.Clearing.{MigratorOutcome, IsPendingMade, IsPaid, Clears, ClearsAfter, paid-right, worked-fits, fits-parts, does-same, either-clears}
use Rattle.nm_migrator_marks.proofs.Lanes.{puts-clears, put-candidate}
use Rattle.nm_migrator_marks.proofs.Works.{unmark-returns, look-returns, cool-returns}

-- what comes next leaves no mark, while no page is held
abbrev pub NextClears : Geometry → (Lane → MigratorKept → Sequence) → Type 0
NextClears g next = (lane : Lane) (kept : MigratorKept) → ClearsAfter g [] (next lane kept)

-- ---- a page that is cooled

after-cool : (g : Geometry) (next : Lane → MigratorKept → Sequence) (kept : MigratorKept) (page : ℕ) (end : Cooled) → NextClears g next → ClearsAfter g [] (AfterCool g next kept page end)
after-cool g next kept page cooled.Busy n before pages notes outcome left h fits =
    put-candidate g [] page (Spills g next kept page)
    (λ full. either-clears g [] full (Does g (made_mark page 1 0) (λ end. next Pending kept)) (next Pending kept) (does-same g [] IsMigratorWork migrator_counts (made_mark page 1 0) (λ end. next Pending kept) (unmark-returns g page) (λ end. n Pending kept)) (n Pending kept))
    before pages h.end notes h.front h.back outcome left h.is h.shown h.rest fits
after-cool g next kept page cooled.Cold n before pages notes outcome left h fits = n Candidates kept before pages notes outcome left h fits

cools-clears : (g : Geometry) (next : Lane → MigratorKept → Sequence) (kept : MigratorKept) (page : ℕ) → NextClears g next → ClearsAfter g [] (Cools g next kept page)
cools-clears g next kept page n = does-same g [] IsMigratorWork migrator_counts (made_cool g page) (λ end. AfterCool g next kept page (cooled_in end)) (cool-returns g page) (λ end. after-cool g next kept page (cooled_in end) n)

-- ---- a page that is marked as pending

-- the own list with the Mark before it, after which these pages are held
marked : (g : Geometry) (before : Own) (held pages left : List ℕ) (page : ℕ) (reply : Reply) (own : Own) → ((b : ℕ) → IsPendingMade b (action.Mark page 1 2, reply) → IsPaid g b own left)
    → Clears g (before ++ (action.Mark page 1 2, reply) ∷ []) held pages own left → Clears g before [] pages ((action.Mark page 1 2, reply) ∷ own) left
marked g before held pages left page reply own given c =
    let S : ℕ → Own → Type 0 = λ b l. IsCandidateTakenBack g b l in
    record {
      marks = (inl (record { old_is = refl; new_is = refl }), c.marks);
      swept = λ b here. subst (S b) (append_assoc before ((action.Mark page 1 2, reply) ∷ []) own) (c.swept b here);
      back = λ b. (given b, c.back b);
      paid = λ b mapped owed. elim owed [
        | inl mine ↦ absurd mine
        | inr queued ↦ paid-right g b ((action.Mark page 1 2, reply) ∷ []) own left (c.paid b mapped (inr queued))
      ];
    }

-- by the reply: only where it is Done is the page marked, and held
heat-by : (g : Geometry) (next : Lane → MigratorKept → Sequence) (kept : MigratorKept) (page : ℕ) → is_mapped g page ≡ true → NextClears g next → (before : Own) (pages : List ℕ) (reply : Reply) (back : Notes) (outcome : MigratorOutcome) (left : List ℕ)
    → AfterHeat next kept page reply back outcome → FitsLane Pending pages (noted_turns back) left → Clears g before [] pages ((action.Mark page 1 2, reply) ∷ own_noted back) left
heat-by g next kept page mapped n before pages replies.Done back outcome left h fits =
    let c = puts-clears g [] page (next Candidates kept) (n Candidates kept) (before ++ (action.Mark page 1 2, replies.Done) ∷ []) pages back outcome left h fits in
    let M : ℕ → Type 0 = λ l. is_mapped g l ≡ true in
    marked g before (page ∷ []) pages left page replies.Done (own_noted back)
    (λ b is.
    let one : action.Mark page 1 2 ≡ action.Mark b 1 2 = ap (λ (p : Action × Reply). p.0) is in
    let same : page ≡ b = cc in
    c.paid b (subst M same mapped) (inl (inl (sym same)))) c
heat-by g next kept page mapped n before pages (replies.Word w) back outcome left h fits = marked g before [] pages left page (replies.Word w) (own_noted back) (λ b is. absurd (let bad : replies.Word w ≡ replies.Done = ap (λ (p : Action × Reply). p.1) is in cc)) (n Candidates kept (before ++ (action.Mark page 1 2, replies.Word w) ∷ []) pages back outcome left h fits)
heat-by g next kept page mapped n before pages (replies.Busy w) back outcome left h fits = marked g before [] pages left page (replies.Busy w) (own_noted back) (λ b is. absurd (let bad : replies.Busy w ≡ replies.Done = ap (λ (p : Action × Reply). p.1) is in cc)) (n Candidates kept (before ++ (action.Mark page 1 2, replies.Busy w) ∷ []) pages back outcome left h fits)
heat-by g next kept page mapped n before pages (replies.Lost w) back outcome left h fits = marked g before [] pages left page (replies.Lost w) (own_noted back) (λ b is. absurd (let bad : replies.Lost w ≡ replies.Done = ap (λ (p : Action × Reply). p.1) is in cc)) (n Candidates kept (before ++ (action.Mark page 1 2, replies.Lost w) ∷ []) pages back outcome left h fits)

heat-end : (g : Geometry) (next : Lane → MigratorKept → Sequence) (kept : MigratorKept) (page : ℕ) → is_mapped g page ≡ true → NextClears g next → (before : Own) (pages : List ℕ) (end : MigratorWorkEnd) (own : Own) (back : Notes) (outcome : MigratorOutcome) (left : List ℕ)
    → IsMigratorWork (made_mark page 1 2) g own end → AfterHeat next kept page (mark_reply_in end) back outcome → FitsLane Pending pages (noted_turns back) left → Clears g before [] pages (own ++ own_noted back) left
heat-end g next kept page mapped n before pages (Mark reply) own back outcome left shown h fits =
    let C : Own → Type 0 = λ l. Clears g before [] pages (l ++ own_noted back) left in
    subst C (sym shown.is) (heat-by g next kept page mapped n before pages reply back outcome left h fits)
heat-end g next kept page mapped n before pages (Looks seen) own back outcome left shown h fits = absurd shown
heat-end g next kept page mapped n before pages (Cool end) own back outcome left shown h fits = absurd shown
heat-end g next kept page mapped n before pages (Batch told) own back outcome left shown h fits = absurd shown
heat-end g next kept page mapped n before pages (Move told) own back outcome left shown h fits = absurd shown
heat-end g next kept page mapped n before pages (Ask all) own back outcome left shown h fits = absurd shown

heats-clears : (g : Geometry) (next : Lane → MigratorKept → Sequence) (kept : MigratorKept) (page : ℕ) → is_mapped g page ≡ true → NextClears g next → ClearsAfter g [] (Heats g next kept page)
heats-clears g next kept page mapped n before pages notes outcome left h fits =
    let w = h.shown in
    let C : Own → Type 0 = λ l. Clears g before [] pages l left in
    let F : Turns → Type 0 = λ l. FitsLane Pending pages (l ++ noted_turns h.back) left in
    let rest : FitsLane Pending pages (noted_turns h.back) left = worked-fits (migrator_counts h.end) w.own pages left (noted_turns h.back) (subst F (ap noted_turns w.is) (fits-parts pages left notes h.front h.back h.is fits)) in
    let own : own_noted notes ≡ w.own ++ own_noted h.back =
    ap own_noted h.is ∙ noted-append h.front h.back ∙ ap (λ (l : Own). l ++ own_noted h.back) (ap own_noted w.is ∙ own-worked (migrator_counts h.end) w.own) in
    subst C (sym own) (heat-end g next (unaborted page kept) page mapped n before pages h.end w.own h.back outcome left w.shown h.rest rest)

-- ---- a candidate

pub judges-clears : (g : Geometry) (next : Lane → MigratorKept → Sequence) (kept : MigratorKept) (page : ℕ) → is_mapped g page ≡ true → NextClears g next → ClearsAfter g [] (Judges g next kept page)
judges-clears g next kept page mapped n =
    does-same g [] IsMigratorWork migrator_counts (made_looks g page) (λ end. Either (looks_in end).hot (Heats g next kept page) (Cools g next kept page)) (look-returns g page)
    (λ end. either-clears g [] (looks_in end).hot (Heats g next kept page) (Cools g next kept page) (heats-clears g next kept page mapped n) (cools-clears g next kept page n))

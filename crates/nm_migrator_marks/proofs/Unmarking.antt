-- The end of the migrator: after every processor was seen at its end, and there was no candidate, the mark of each page is taken back.
use Rattle.std.proofs.Common.{◌≡◌, ℕ, zero, suc, ◌+◌, ◌<◌, ◌≤◌, ◌⊎◌, true, false, List, [], ◌∷◌, ◌++◌, inl, inr, sym, ap, subst, ◌∙◌, append_assoc, arith}
use Rattle.std.proofs.lemmas.List.{append-nil}
use Rattle.std.proofs.lemmas.Bool.{cases_eq}
use Rattle.std.specs.List.{range_with_len}
use Rattle.nm_base.specs.Geometry.{Geometry, page_count}
use Rattle.nm_base.specs.Ranges.{IsPage}
use Rattle.nm_action.specs.declared.action.Action.TheVariants as action
use Rattle.nm_action.specs.declared.turn.Lane.{Lane}
use Rattle.nm_action.specs.declared.turn.Lane.TheVariants.{Candidates, Pending}
use Rattle.nm_action.specs.Own.{Own}
use Rattle.nm_part.specs.Patterns.{Either}
use Rattle.nm_actor.specs.Alone.{FitsLane}
use Rattle.nm_worker.specs.Notes.{Notes, noted_turns}
use Rattle.nm_migrator_work.specs.declared.work.MigratorWork.TheVariants.{Mark, Looks, Cool, Batch, Move, Ask}
use Rattle.nm_migrator_work.specs.Works.{MigratorWorkEnd, IsMigratorWork, made_mark, made_ask}
use Rattle.nm_migrator_work.specs.Ends.{all_ended_in, migrator_counts}
use Rattle.nm_migrator_work.specs.Planned.{MigratorKept}
use Rattle.nm_migrator.specs.Migrating.{Sequence, TakesMapped, Unmarks, AfterLast, Asks}
use Rattle.nm_marks.proofs.Contents.{has-left, has-right}
use Rattle.nm_unmarked.specs.Unmarking.{IsEndSeen, IsCandidateTakenBack}
use Rattle.nm_note_marks.specs.Contents.{own_noted}
use Rattle.nm_migrator_marks.proofs.Asking.{all-seen}
use Rattle.nm_migrator_marks.proofs.Among.{IsAmong}
use Rattle.nm_migrator_marks.proofs.Clearing.{Clears, ClearsWith, ClearsAfter, AreAllSeen, does-clears}
use Rattle.nm_migrator_marks.proofs.Lanes.{takes-candidates}
use Rattle.nm_migrator_marks.proofs.Works.{unmark-returns, ask-returns}
use Rattle.nm_migrator_marks.proofs.Heating.{NextClears, judges-clears}

-- ---- the pages, ascending

among-range : (from many page : ℕ) → from ≤ page → page < from + many → IsAmong page (range_with_len from many)
among-range from zero page low high = absurd (omega (arith, low, high))
among-range from (suc many) page low high = elim (cases_eq page from) [
  | inl same ↦ inl same
  | inr other ↦ inr (among-range (from + 1) many page (omega (arith, low, other)) (omega (arith, high)))
]

-- ---- the marks of candidates are taken back

-- a page whose mark is taken back now
swept-now : (g : Geometry) (page b : ℕ) (before own : Own) (end : MigratorWorkEnd) → AreAllSeen g before → IsMigratorWork (made_mark page 1 0) g own end → b ≡ page → IsCandidateTakenBack g b (before ++ own)
swept-now g page b before own (Mark reply) seen h same =
    let S : ℕ → Type 0 = λ n. IsCandidateTakenBack g n (before ++ own) in
    subst S (sym same) (record { front = before; reply = reply; rest = []; is = ap (λ (l : Own). before ++ l) h.is; seen = seen })
swept-now g page b before own (Looks found) seen h same = absurd h
swept-now g page b before own (Cool end) seen h same = absurd h
swept-now g page b before own (Batch told) seen h same = absurd h
swept-now g page b before own (Move told) seen h same = absurd h
swept-now g page b before own (Ask all) seen h same = absurd h

swept-more : (g : Geometry) (b : ℕ) (before own : Own) → IsCandidateTakenBack g b before → IsCandidateTakenBack g b (before ++ own)
swept-more g b before own s = record {
  front = s.front;
  reply = s.reply;
  rest = s.rest ++ own;
  is = ap (λ (l : Own). l ++ own) s.is ∙ append_assoc s.front ((action.Mark b 1 0, s.reply) ∷ s.rest) own;
  seen = s.seen;
}

-- each page is among those that are left, or was swept
abbrev AreLeft : Geometry → Own → List ℕ → Type 0
AreLeft g before left = (b : ℕ) → IsPage g b → IsAmong b left ⊎ IsCandidateTakenBack g b before

left-after : (g : Geometry) (page : ℕ) (left : List ℕ) (before own : Own) (end : MigratorWorkEnd) → AreAllSeen g before → IsMigratorWork (made_mark page 1 0) g own end → AreLeft g before (page ∷ left) → AreLeft g (before ++ own) left
left-after g page left before own end seen h all b here = elim (all b here) [
  | inl among ↦ elim among [
    | inl same ↦ inr (swept-now g page b before own end seen h same)
    | inr later ↦ inl later
  ]
  | inr swept ↦ inr (swept-more g b before own swept)
]

unmarks-clears : (g : Geometry) (left : List ℕ) (kept : MigratorKept) (before : Own) (pages : List ℕ) → AreAllSeen g before → AreLeft g before left → ClearsWith g before [] pages (Unmarks g left kept)
unmarks-clears g [] kept before pages seen all notes outcome last h fits =
    let C : Notes → Type 0 = λ l. Clears g before [] pages (own_noted l) last in
    let F : Notes → Type 0 = λ l. FitsLane Pending pages (noted_turns l) last in
    subst C (sym h.none) (record {
      marks = tt;
      swept = λ b here.
          let S : Own → Type 0 = λ l. IsCandidateTakenBack g b l in
          subst S (sym (append-nil before)) (elim (all b here) [
            | inl none ↦ absurd none
            | inr swept ↦ swept
          ]);
      back = λ b. tt;
      paid = λ b mapped owed. elim owed [
        | inl none ↦ absurd none
        | inr queued ↦
            let A : List ℕ → Type 0 = λ l. IsAmong b l in
            inr (mapped, subst A (sym (subst F h.none fits)) queued)
      ];
    })
unmarks-clears g (page ∷ left) kept before pages seen all notes outcome last h fits =
    does-clears g before [] pages IsMigratorWork migrator_counts (made_mark page 1 0) (λ end. Unmarks g left kept) (unmark-returns g page)
    (λ own end shown. record {
      later = [];
      kept = λ b none. absurd none;
      clear = unmarks-clears g left kept (before ++ own) pages (λ cpu there. has-left (IsEndSeen cpu) before own (seen cpu there)) (left-after g page left before own end seen shown all);
    })
    notes outcome last h fits

-- ---- the question whether all have ended

after-last : (g : Geometry) (next : Lane → MigratorKept → Sequence) (kept : MigratorKept) (before : Own) (pages : List ℕ) → NextClears g next → AreAllSeen g before → ClearsWith g before [] pages (TakesMapped g Candidates (AfterLast g next kept))
after-last g next kept before pages n seen =
    takes-candidates g [] pages before (AfterLast g next kept) (λ page mapped. judges-clears g next kept page mapped n before pages)
    (unmarks-clears g (range_with_len 0 (page_count g)) kept before pages seen (λ b here. inl (among-range 0 (page_count g) b (omega (arith)) (omega (arith, here)))))

asked : (g : Geometry) (next : Lane → MigratorKept → Sequence) (kept : MigratorKept) (before own : Own) (pages : List ℕ) (end : MigratorWorkEnd) → NextClears g next → IsMigratorWork (made_ask g) g own end
    → ClearsWith g (before ++ own) [] pages (Either (all_ended_in end) (TakesMapped g Candidates (AfterLast g next kept)) (next Candidates kept))
asked g next kept before own pages (Mark reply) n h = absurd h
asked g next kept before own pages (Looks found) n h = absurd h
asked g next kept before own pages (Cool end) n h = absurd h
asked g next kept before own pages (Batch told) n h = absurd h
asked g next kept before own pages (Move told) n h = absurd h
asked g next kept before own pages (Ask true) n h = after-last g next kept (before ++ own) pages n (λ cpu there. has-right (IsEndSeen cpu) before own (all-seen g own h cpu there))
asked g next kept before own pages (Ask false) n h = n Candidates kept (before ++ own) pages

pub asks-clears : (g : Geometry) (next : Lane → MigratorKept → Sequence) (kept : MigratorKept) → NextClears g next → ClearsAfter g [] (Asks g next kept)
asks-clears g next kept n before pages =
    does-clears g before [] pages IsMigratorWork migrator_counts (made_ask g) (λ end. Either (all_ended_in end) (TakesMapped g Candidates (AfterLast g next kept)) (next Candidates kept)) (ask-returns g)
    (λ own end shown. record { later = []; kept = λ b none. absurd none; clear = asked g next kept before own pages end n shown })

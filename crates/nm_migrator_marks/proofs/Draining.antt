-- A whole sequence of the migrator finds both lanes empty at its end: the last that it does in each is a take that gives no page.
use Rattle.std.proofs.Common.{◌≡◌, ℕ, zero, suc, ◌⊎◌, Bool, true, false, List, [], ◌∷◌, ◌++◌, Option, Some, None, refl, sym, ap, subst, inl, inr, ◌∙◌, append_assoc}
use Rattle.std.specs.List.{range_with_len}
use Rattle.nm_base.specs.Geometry.{Geometry, page_count}
use Rattle.nm_action.specs.declared.action.Reply.{Reply}
use Rattle.nm_action.specs.declared.action.Reply.TheVariants as replies
use Rattle.nm_action.specs.declared.tally.Tally.{Tally}
use Rattle.nm_action.specs.declared.turn.Lane.{Lane}
use Rattle.nm_action.specs.declared.turn.Lane.TheVariants.{Candidates, Pending}
use Rattle.nm_action.specs.declared.turn.Turn.TheVariants as turn
use Rattle.nm_action.specs.declared.turn.Heard.TheVariants.{Took, TookNone}
use Rattle.nm_action.specs.Own.{Own}
use Rattle.nm_part.specs.Patterns.{Follows, Either}
use Rattle.nm_cool.specs.declared.cool.Cooled.{Cooled}
use Rattle.nm_cool.specs.declared.cool.Cooled.TheVariants as cooled
use Rattle.nm_actor.specs.Lanes.{LaneMove}
use Rattle.nm_actor.specs.Turns.{Turns, lane_list, IsDrained}
use Rattle.nm_actor.proofs.TurnLists.{lane-append}
use Rattle.nm_worker.specs.Notes.{Notes, noted_turns, worked, IsWorkDone, take_heard, IsPut, IsTake}
use Rattle.nm_worker.proofs.NoteLists.{turns-append}
use Rattle.nm_migrator_work.specs.Works.{IsMigratorWork, made_mark, made_looks, made_cool, made_batch, made_move, made_ask}
use Rattle.nm_migrator_work.specs.Ends.{mark_reply_in, looks_in, cooled_in, batch_in, move_in, drawn_in, all_ended_in, migrator_counts}
use Rattle.nm_migrator_work.specs.Planned.{MigratorKept, nothing_kept, unaborted, is_mapped, is_among, Plan, no_plan, planned, again_of, batched, is_busy_move, kept_drawn}
use Rattle.nm_migrator.specs.Migrating.{Sequence, PutsTry, Puts, Taken, TakesMappedTry, TakesMapped, Spills, AfterCool, Cools, AfterHeat, Heats, Judges, Unmarks, AfterLast, Asks, MovesLocked, AfterBatch, Batches, Plans, AfterTakes, PendingTaken, TakesPending, AfterCandidate, MigratorRound, MigratorRounds, MigratesFrom, IsMigratingBy}

-- both lanes were found empty, and nothing was put into them or taken from them since
abbrev pub AreDrained : Turns → Type 0
AreDrained turns = IsDrained Candidates turns × IsDrained Pending turns

-- after the lane Pending was found empty: nothing is put into it any more, or it is found empty again
abbrev AreEmptied : Turns → Type 0
AreEmptied turns = IsDrained Candidates turns × ((lane_list Pending turns ≡ []) ⊎ IsDrained Pending turns)

-- nothing is put into a lane or taken from one
abbrev AreStill : Turns → Type 0
AreStill turns = (lane_list Candidates turns ≡ []) × (lane_list Pending turns ≡ [])

-- the turns of each sequence of a pattern are so
abbrev pub Shows : {O : Type 0} → (Turns → Type 0) → (Notes → O → Type 0) → Type 0
Shows {O} are pattern = (notes : Notes) (outcome : O) → pattern notes outcome → are (noted_turns notes)

-- ---- turns before others

drained-more : (lane : Lane) (first turns : Turns) → IsDrained lane turns → IsDrained lane (first ++ turns)
drained-more lane first turns d = record {
  front = first ++ d.front;
  rest = d.rest;
  is = ap (λ (l : Turns). first ++ l) d.is ∙ sym (append_assoc first d.front ((turn.Take lane, TookNone) ∷ d.rest));
  still = d.still;
}

both-more : (first turns : Turns) → AreDrained turns → AreDrained (first ++ turns)
both-more first turns d = (drained-more Candidates first turns d.0, drained-more Pending first turns d.1)

emptied-more : (first turns : Turns) → lane_list Pending first ≡ [] → AreEmptied turns → AreEmptied (first ++ turns)
emptied-more first turns none (d, inl still) = (drained-more Candidates first turns d, inl (lane-append Pending first turns ∙ ap (λ (l : List LaneMove). l ++ lane_list Pending turns) none ∙ still))
emptied-more first turns none (d, inr again) = (drained-more Candidates first turns d, inr (drained-more Pending first turns again))

still-more : (first turns : Turns) → AreStill first → AreStill turns → AreStill (first ++ turns)
still-more first turns f s = (
  lane-append Candidates first turns ∙ ap (λ (l : List LaneMove). l ++ lane_list Candidates turns) f.0 ∙ s.0,
  lane-append Pending first turns ∙ ap (λ (l : List LaneMove). l ++ lane_list Pending turns) f.1 ∙ s.1,
)

emptied-again : (turns : Turns) → AreDrained turns → AreEmptied turns
emptied-again turns d = (d.0, inr d.1)

-- the lane Pending is found empty
pending-none : (turns : Turns) → AreEmptied turns → AreDrained ((turn.Take Pending, TookNone) ∷ turns)
pending-none turns (d, inl still) = (drained-more Candidates ((turn.Take Pending, TookNone) ∷ []) turns d, record { front = []; rest = turns; is = refl; still = still })
pending-none turns (d, inr again) = both-more ((turn.Take Pending, TookNone) ∷ []) turns (d, again)

-- the candidates are found to be none, and then the lanes are left alone
candidates-none : (turns : Turns) → AreStill turns → AreEmptied ((turn.Take Candidates, TookNone) ∷ turns)
candidates-none turns s = (record { front = []; rest = turns; is = refl; still = s.0 }, inl s.1)

-- the turns of a piece of work leave the lanes alone
worked-still : (counts : Tally) (own : Own) → AreStill (noted_turns (worked counts own))
worked-still counts [] = (refl, refl)
worked-still counts (e ∷ own) = worked-still counts own

work-still : {M X : Type 0} (shape : M → Geometry → Own → X → Type 0) (counts : X → Tally) (work : M) (g : Geometry) → Shows AreStill (IsWorkDone shape counts work g)
work-still shape counts work g notes end h =
    let S : Notes → Type 0 = λ l. AreStill (noted_turns l) in
    subst S (sym h.is) (worked-still (counts end) h.own)

-- ---- patterns

follows-by : {X O : Type 0} (are now then : Turns → Type 0) (first : Notes → X → Type 0) (after : X → Notes → O → Type 0) → ((a b : Turns) → now a → then b → are (a ++ b)) → Shows now first → ((end : X) → Shows then (after end)) → Shows are (Follows first after)
follows-by are now then first after joins so rest notes outcome h =
    subst are (sym (ap noted_turns h.is ∙ turns-append h.front h.back)) (joins (noted_turns h.front) (noted_turns h.back) (so h.front h.end h.shown) (rest h.end h.back outcome h.rest))

-- whatever comes first
abbrev IsAny : Turns → Type 0
IsAny turns = Unit {0}

follows-drains : {X O : Type 0} (first : Notes → X → Type 0) (after : X → Notes → O → Type 0) → ((end : X) → Shows AreDrained (after end)) → Shows AreDrained (Follows first after)
follows-drains first after rest = follows-by AreDrained IsAny AreDrained first after (λ a b any d. both-more a b d) (λ notes end h. tt) rest

either-drains : {O : Type 0} (b : Bool) (one other : Notes → O → Type 0) → Shows AreDrained one → Shows AreDrained other → Shows AreDrained (Either b one other)
either-drains true one other so then = so
either-drains false one other so then = then

-- what comes next drains the lanes
abbrev NextDrains : (Lane → MigratorKept → Sequence) → Type 0
NextDrains next = (lane : Lane) (kept : MigratorKept) → Shows AreDrained (next lane kept)

puts-try : (page : ℕ) (after : Sequence) → Shows AreDrained after → (n : ℕ) → Shows AreDrained (PutsTry page after n)
puts-try page after rest zero notes outcome h = absurd h
puts-try page after rest (suc n) notes outcome h =
    follows-drains (IsPut Pending page) (λ full. Either full (PutsTry page after n) after) (λ full. either-drains full (PutsTry page after n) after (puts-try page after rest n) rest) notes outcome h

puts-drains : (page : ℕ) (after : Sequence) → Shows AreDrained after → Shows AreDrained (Puts page after)
puts-drains page after rest notes outcome h = puts-try page after rest h.tries notes outcome h.is

-- ---- takes

taken-drains : (g : Geometry) (again : Sequence) (after : Option ℕ → Sequence) → Shows AreDrained again → ((page : Option ℕ) → Shows AreDrained (after page)) → (page : Option ℕ) → Shows AreDrained (Taken g again after page)
taken-drains g again after more rest None = rest None
taken-drains g again after more rest (Some page) = either-drains (is_mapped g page) (after (Some page)) again (rest (Some page)) more

takes-try : (g : Geometry) (lane : Lane) (after : Option ℕ → Sequence) → ((page : Option ℕ) → Shows AreDrained (after page)) → (n : ℕ) → Shows AreDrained (TakesMappedTry g lane after n)
takes-try g lane after rest zero notes outcome h = absurd h
takes-try g lane after rest (suc n) notes outcome h =
    follows-drains (IsTake lane) (λ page. Taken g (TakesMappedTry g lane after n) after page) (taken-drains g (TakesMappedTry g lane after n) after (takes-try g lane after rest n) rest) notes outcome h

takes-drains : (g : Geometry) (lane : Lane) (after : Option ℕ → Sequence) → ((page : Option ℕ) → Shows AreDrained (after page)) → Shows AreDrained (TakesMapped g lane after)
takes-drains g lane after rest notes outcome h = takes-try g lane after rest h.tries notes outcome h.is

-- a take is one turn
take-turns : (lane : Lane) (first : Notes) (back : Turns) (page : Option ℕ) → IsTake lane first page → (are : Turns → Type 0) → are (noted_turns (record { turn = turn.Take lane; heard = take_heard page; counts = None } ∷ []) ++ back) → are (noted_turns first ++ back)
take-turns lane first back page h are so =
    let F : Notes → Type 0 = λ l. are (noted_turns l ++ back) in
    subst F (sym h.is) so

-- takes from the lane Pending, after which it was found empty or a page was taken
pending-by : (g : Geometry) (again : Sequence) (after : Option ℕ → Sequence) → Shows AreDrained again → ((page : ℕ) → Shows AreDrained (after (Some page))) → Shows AreEmptied (after None)
    → (end : Option ℕ) (front back : Notes) (outcome : MigratorKept) → IsTake Pending front end → Taken g again after end back outcome → AreDrained (noted_turns front ++ noted_turns back)
pending-by g again after more some none None front back outcome take h = take-turns Pending front (noted_turns back) None take AreDrained (pending-none (noted_turns back) (none back outcome h))
pending-by g again after more some none (Some page) front back outcome take h =
    both-more (noted_turns front) (noted_turns back) (either-drains (is_mapped g page) (after (Some page)) again (some page) more back outcome h)

pending-try : (g : Geometry) (after : Option ℕ → Sequence) → ((page : ℕ) → Shows AreDrained (after (Some page))) → Shows AreEmptied (after None) → (n : ℕ) → Shows AreDrained (TakesMappedTry g Pending after n)
pending-try g after some none zero notes outcome h = absurd h
pending-try g after some none (suc n) notes outcome h =
    subst AreDrained (sym (ap noted_turns h.is ∙ turns-append h.front h.back))
    (pending-by g (TakesMappedTry g Pending after n) after (pending-try g after some none n) some none h.end h.front h.back outcome h.shown h.rest)

pending-drains : (g : Geometry) (after : Option ℕ → Sequence) → ((page : ℕ) → Shows AreDrained (after (Some page))) → Shows AreEmptied (after None) → Shows AreDrained (TakesMapped g Pending after)
pending-drains g after some none notes outcome h = pending-try g after some none h.tries notes outcome h.is

-- takes from the candidates, after the lane Pending was found empty
last-by : (g : Geometry) (again : Sequence) (after : Option ℕ → Sequence) → Shows AreEmptied again → ((page : ℕ) → Shows AreDrained (after (Some page))) → Shows AreStill (after None)
    → (end : Option ℕ) (front back : Notes) (outcome : MigratorKept) → IsTake Candidates front end → Taken g again after end back outcome → AreEmptied (noted_turns front ++ noted_turns back)
last-by g again after more some none None front back outcome take h = take-turns Candidates front (noted_turns back) None take AreEmptied (candidates-none (noted_turns back) (none back outcome h))
last-by g again after more some none (Some page) front back outcome take h =
    take-turns Candidates front (noted_turns back) (Some page) take AreEmptied
    (emptied-more ((turn.Take Candidates, Took page) ∷ []) (noted_turns back) refl (mapped (is_mapped g page) h))
  where
    mapped : (b : Bool) → Either b (after (Some page)) again back outcome → AreEmptied (noted_turns back)
    mapped true so = emptied-again (noted_turns back) (some page back outcome so)
    mapped false so = more back outcome so

last-try : (g : Geometry) (after : Option ℕ → Sequence) → ((page : ℕ) → Shows AreDrained (after (Some page))) → Shows AreStill (after None) → (n : ℕ) → Shows AreEmptied (TakesMappedTry g Candidates after n)
last-try g after some none zero notes outcome h = absurd h
last-try g after some none (suc n) notes outcome h =
    subst AreEmptied (sym (ap noted_turns h.is ∙ turns-append h.front h.back))
    (last-by g (TakesMappedTry g Candidates after n) after (last-try g after some none n) some none h.end h.front h.back outcome h.shown h.rest)

-- ---- a candidate

after-cool : (g : Geometry) (next : Lane → MigratorKept → Sequence) → NextDrains next → (kept : MigratorKept) (page : ℕ) (end : Cooled) → Shows AreDrained (AfterCool g next kept page end)
after-cool g next n kept page cooled.Busy =
    follows-drains (IsPut Candidates page) (Spills g next kept page)
    (λ full. either-drains full (Follows (IsWorkDone IsMigratorWork migrator_counts (made_mark page 1 0) g) (λ end. next Pending kept)) (next Pending kept)
    (follows-drains (IsWorkDone IsMigratorWork migrator_counts (made_mark page 1 0) g) (λ end. next Pending kept) (λ end. n Pending kept)) (n Pending kept))
after-cool g next n kept page cooled.Cold = n Candidates kept

after-heat : (next : Lane → MigratorKept → Sequence) → NextDrains next → (kept : MigratorKept) (page : ℕ) (reply : Reply) → Shows AreDrained (AfterHeat next kept page reply)
after-heat next n kept page replies.Done = puts-drains page (next Candidates kept) (n Candidates kept)
after-heat next n kept page (replies.Word w) = n Candidates kept
after-heat next n kept page (replies.Busy w) = n Candidates kept
after-heat next n kept page (replies.Lost w) = n Candidates kept

judges-drains : (g : Geometry) (next : Lane → MigratorKept → Sequence) → NextDrains next → (kept : MigratorKept) (page : ℕ) → Shows AreDrained (Judges g next kept page)
judges-drains g next n kept page =
    follows-drains (IsWorkDone IsMigratorWork migrator_counts (made_looks g page) g) (λ end. Either (looks_in end).hot (Heats g next kept page) (Cools g next kept page))
    (λ end. either-drains (looks_in end).hot (Heats g next kept page) (Cools g next kept page)
    (follows-drains (IsWorkDone IsMigratorWork migrator_counts (made_mark page 1 2) g) (λ end. AfterHeat next (unaborted page kept) page (mark_reply_in end)) (λ end. after-heat next n (unaborted page kept) page (mark_reply_in end)))
    (follows-drains (IsWorkDone IsMigratorWork migrator_counts (made_cool g page) g) (λ end. AfterCool g next kept page (cooled_in end)) (λ end. after-cool g next n kept page (cooled_in end))))

-- ---- the end

unmarks-still : (g : Geometry) (pages : List ℕ) (kept : MigratorKept) → Shows AreStill (Unmarks g pages kept)
unmarks-still g [] kept notes outcome h =
    let S : Notes → Type 0 = λ l. AreStill (noted_turns l) in
    subst S (sym h.none) (refl, refl)
unmarks-still g (page ∷ pages) kept notes outcome h =
    follows-by AreStill AreStill AreStill (IsWorkDone IsMigratorWork migrator_counts (made_mark page 1 0) g) (λ end. Unmarks g pages kept) still-more (work-still IsMigratorWork migrator_counts (made_mark page 1 0) g) (λ end. unmarks-still g pages kept) notes outcome h

asked : (g : Geometry) (next : Lane → MigratorKept → Sequence) → NextDrains next → (kept : MigratorKept) (all : Bool) → Shows AreEmptied (Either all (TakesMapped g Candidates (AfterLast g next kept)) (next Candidates kept))
asked g next n kept true notes outcome h = last-try g (AfterLast g next kept) (judges-drains g next n kept) (unmarks-still g (range_with_len 0 (page_count g)) kept) h.tries notes outcome h.is
asked g next n kept false notes outcome h = emptied-again (noted_turns notes) (n Candidates kept notes outcome h)

asks-empties : (g : Geometry) (next : Lane → MigratorKept → Sequence) → NextDrains next → (kept : MigratorKept) → Shows AreEmptied (Asks g next kept)
asks-empties g next n kept =
    follows-by AreEmptied AreStill AreEmptied (IsWorkDone IsMigratorWork migrator_counts (made_ask g) g) (λ end. Either (all_ended_in end) (TakesMapped g Candidates (AfterLast g next kept)) (next Candidates kept))
    (λ a b s e. emptied-more a b s.1 e) (work-still IsMigratorWork migrator_counts (made_ask g) g) (λ end. asked g next n kept (all_ended_in end))

-- ---- the pages that were taken

moves-drains : (g : Geometry) (next : Lane → MigratorKept → Sequence) → NextDrains next → (moves : List (ℕ × ℕ)) (kept : MigratorKept) → Shows AreDrained (MovesLocked g next moves kept)
moves-drains g next n [] kept = n Candidates kept
moves-drains g next n (m ∷ ms) kept =
    let after : MigratorKept → Sequence = λ kept. MovesLocked g next ms kept in
    follows-drains (IsWorkDone IsMigratorWork migrator_counts (made_move g m.0 m.1 kept.spent) g) (λ end. Either (is_busy_move (move_in end)) (Puts m.0 (after (kept_drawn (drawn_in end) kept))) (after (kept_drawn (drawn_in end) kept)))
    (λ end. let rest = moves-drains g next n ms (kept_drawn (drawn_in end) kept) in
    either-drains (is_busy_move (move_in end)) (Puts m.0 (after (kept_drawn (drawn_in end) kept))) (after (kept_drawn (drawn_in end) kept)) (puts-drains m.0 (after (kept_drawn (drawn_in end) kept)) rest) rest)

again-drains : (g : Geometry) (next : Lane → MigratorKept → Sequence) → NextDrains next → (moves : List (ℕ × ℕ)) (again : List ℕ) (kept : MigratorKept) → Shows AreDrained (AfterBatch g next moves again kept)
again-drains g next n moves [] kept = moves-drains g next n moves kept
again-drains g next n moves (page ∷ again) kept = puts-drains page (AfterBatch g next moves again kept) (again-drains g next n moves again kept)

batches-drains : (g : Geometry) (next : Lane → MigratorKept → Sequence) → NextDrains next → (kept : MigratorKept) (moves pieces : List (ℕ × ℕ)) → Shows AreDrained (Batches g next kept moves pieces)
batches-drains g next n kept moves [] = moves-drains g next n moves kept
batches-drains g next n kept moves (p ∷ ps) =
    follows-drains (IsWorkDone IsMigratorWork migrator_counts (made_batch g (p ∷ ps) kept.spent) g) (λ end. AfterBatch g next moves (again_of (p ∷ ps) (batch_in end).end) (batched (p ∷ ps) (batch_in end) kept))
    (λ end. again-drains g next n moves (again_of (p ∷ ps) (batch_in end).end) (batched (p ∷ ps) (batch_in end) kept))

plans-drains : (g : Geometry) (retry : Option ℕ) (next : Lane → MigratorKept → Sequence) → NextDrains next → (kept : MigratorKept) (pages : List ℕ) (plan : Plan) → Shows AreDrained (Plans g retry next kept pages plan)
plans-drains g retry next n kept [] plan = batches-drains g next n kept plan.moves plan.pieces
plans-drains g retry next n kept (page ∷ pages) plan =
    follows-drains (IsWorkDone IsMigratorWork migrator_counts (made_looks g page) g) (λ end. Plans g retry next kept pages (planned g retry kept.aborts page (looks_in end).mapped plan))
    (λ end. plans-drains g retry next n kept pages (planned g retry kept.aborts page (looks_in end).mapped plan))

-- some page was taken, and then one more or none
take-more : (g : Geometry) (after : List ℕ → Sequence) (more : List ℕ → Sequence) (taken : List ℕ) → Shows AreDrained (after taken) → ((page : ℕ) → Shows AreDrained (more (taken ++ page ∷ []))) → (end : Option ℕ) → Shows AreDrained (PendingTaken after more taken end)
take-more g after more taken some again None = some
take-more g after more taken some again (Some page) = either-drains (is_among page taken) (Puts page (after taken)) (more (taken ++ page ∷ [])) (puts-drains page (after taken) some) (again page)

takes-more : (g : Geometry) (after : List ℕ → Sequence) → ((page : ℕ) (taken : List ℕ) → Shows AreDrained (after (page ∷ taken))) → (more page : ℕ) (taken : List ℕ) → Shows AreDrained (TakesPending g after more (page ∷ taken))
takes-more g after some zero page taken = some page taken
takes-more g after some (suc more) page taken =
    takes-drains g Pending (PendingTaken after (TakesPending g after more) (page ∷ taken))
    (take-more g after (TakesPending g after more) (page ∷ taken) (some page taken) (λ b. takes-more g after some more page (taken ++ b ∷ [])))

-- none was taken yet
pending-round : (g : Geometry) (after : List ℕ → Sequence) → ((page : ℕ) (taken : List ℕ) → Shows AreDrained (after (page ∷ taken))) → Shows AreEmptied (after []) → (more : ℕ) → Shows AreDrained (TakesPending g after (suc more) [])
pending-round g after some none more = pending-drains g (PendingTaken after (TakesPending g after more) []) (λ b. takes-more g after some more b []) none

-- ---- the whole

round-drains : (g : Geometry) (retry : Option ℕ) (next : Lane → MigratorKept → Sequence) → NextDrains next → (lane : Lane) (kept : MigratorKept) → Shows AreDrained (MigratorRound g retry next lane kept)
round-drains g retry next n Candidates kept = takes-drains g Candidates (AfterCandidate g next kept) by
  where
    by : (end : Option ℕ) → Shows AreDrained (AfterCandidate g next kept end)
    by None = n Pending kept
    by (Some page) = judges-drains g next n kept page
round-drains g retry next n Pending kept = pending-round g (AfterTakes g retry next kept) (λ page taken. plans-drains g retry next n kept (page ∷ taken) no_plan) (asks-empties g next n kept) 7

rounds-drains : (g : Geometry) (retry : Option ℕ) (n : ℕ) → NextDrains (MigratorRounds g retry n)
rounds-drains g retry zero lane kept notes outcome h = absurd h
rounds-drains g retry (suc n) lane kept notes outcome h = round-drains g retry (MigratorRounds g retry n) (rounds-drains g retry n) lane kept notes outcome h

from-drains : (g : Geometry) (retry : Option ℕ) (kept : MigratorKept) → Shows AreDrained (MigratesFrom g retry kept)
from-drains g retry kept notes outcome h = rounds-drains g retry h.tries Candidates kept notes outcome h.is

migrating-drained : (n : ℕ) (g : Geometry) (retry : Option ℕ) → Shows AreDrained (IsMigratingBy n g retry)
migrating-drained zero g retry = from-drains g retry (nothing_kept g)
migrating-drained (suc n) g retry = follows-drains (IsMigratingBy n g retry) (MigratesFrom g retry) (from-drains g retry)

drained-both : (turns : Turns) → AreDrained turns → (lane : Lane) → IsDrained lane turns
drained-both turns d Candidates = d.0
drained-both turns d Pending = d.1

-- so does one that goes on from what was kept
pub sequence-drained : (g : Geometry) (retry : Option ℕ) (kept : MigratorKept) (notes : Notes) (outcome : MigratorKept) → MigratesFrom g retry kept notes outcome → (lane : Lane) → IsDrained lane (noted_turns notes)
sequence-drained g retry kept notes outcome h = drained-both (noted_turns notes) (from-drains g retry kept notes outcome h)

pub each-drained : (n : ℕ) (g : Geometry) (retry : Option ℕ) (notes : Notes) (kept : MigratorKept) → IsMigratingBy n g retry notes kept → (lane : Lane) → IsDrained lane (noted_turns notes)
each-drained n g retry notes kept h = drained-both (noted_turns notes) (migrating-drained n g retry notes kept h)

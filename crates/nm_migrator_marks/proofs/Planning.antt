-- The taking of pending pages, and the plan of their moves: each page that was taken is a page of the plan.
use Rattle.std.proofs.Common.{◌≡◌, ℕ, zero, suc, ◌⊎◌, Bool, true, false, List, [], ◌∷◌, ◌++◌, length, slice_index, Option, refl, inl, inr}
use Rattle.nm_base.specs.Geometry.{Geometry}
use Rattle.nm_action.specs.declared.turn.Lane.{Lane}
use Rattle.nm_vpages.specs.VPages.{vpages_of}
use Rattle.nm_part.specs.Patterns.{Either}
use Rattle.nm_worker.specs.Notes.{Notes}
use Rattle.nm_migrator_work.specs.Works.{IsMigratorWork, made_looks}
use Rattle.nm_migrator_work.specs.Ends.{looks_in, migrator_counts}
use Rattle.nm_migrator_work.specs.Planned.{MigratorKept, is_among, Plan, no_plan, is_moved_locked, first_or, planned, planned_by}
use Rattle.nm_migrator.specs.Migrating.{Sequence, Puts, Plans, AfterTakes, PendingTaken, TakesPending}
use Rattle.nm_note_marks.specs.Contents.{own_noted}
use Rattle.nm_migrator_marks.proofs.Among.{IsAmong, among-left, among-right, among-either, pages_of, pages-more}
use Rattle.nm_migrator_marks.proofs.Clearing.{ClearsAfter, does-clears, owed-more}
use Rattle.nm_migrator_marks.proofs.Lanes.{puts-clears, takes-pending}
use Rattle.nm_migrator_marks.proofs.Works.{look-returns}
use Rattle.nm_migrator_marks.proofs.Heating.{NextClears}
use Rattle.nm_migrator_marks.proofs.Moving.{batches-clears}

-- fewer pages are held
pub held-fewer : {O : Type 0} (g : Geometry) (held later : List ℕ) (pattern : Notes → O → Type 0) → ((b : ℕ) → IsAmong b held → IsAmong b later) → ClearsAfter g later pattern → ClearsAfter g held pattern
held-fewer g held later pattern so h before pages notes outcome left shown fits =
    owed-more g before held later pages pages (own_noted notes) left
    (λ b mapped owed. elim owed [
      | inl mine ↦ inl (so b mine)
      | inr queued ↦ inr queued
    ])
    (h before pages notes outcome left shown fits)

-- ---- the plan

abbrev plan_pages : Plan → List ℕ
plan_pages plan = pages_of plan.pieces ++ pages_of plan.moves

planned-more : (by : Bool) (g : Geometry) (page : ℕ) (mapped : List ℕ) (plan : Plan) (b : ℕ) → (b ≡ page) ⊎ IsAmong b (plan_pages plan) → IsAmong b (plan_pages (planned_by by g page mapped plan))
planned-more true g page mapped plan b (inl same) = among-right b (pages_of plan.pieces) (pages_of (planned_by true g page mapped plan).moves) (pages-more plan.moves (page, length mapped) b (inr same))
planned-more true g page mapped plan b (inr there) = elim (among-either b (pages_of plan.pieces) (pages_of plan.moves) there) [
  | inl piece ↦ among-left b (pages_of plan.pieces) (pages_of (planned_by true g page mapped plan).moves) piece
  | inr move ↦ among-right b (pages_of plan.pieces) (pages_of (planned_by true g page mapped plan).moves) (pages-more plan.moves (page, length mapped) b (inl move))
]
planned-more false g page mapped plan b (inl same) = among-left b (pages_of (planned_by false g page mapped plan).pieces) (pages_of plan.moves) (pages-more plan.pieces (page, first_or mapped (vpages_of g page)) b (inr same))
planned-more false g page mapped plan b (inr there) = elim (among-either b (pages_of plan.pieces) (pages_of plan.moves) there) [
  | inl piece ↦ among-left b (pages_of (planned_by false g page mapped plan).pieces) (pages_of plan.moves) (pages-more plan.pieces (page, first_or mapped (vpages_of g page)) b (inl piece))
  | inr move ↦ among-right b (pages_of (planned_by false g page mapped plan).pieces) (pages_of plan.moves) move
]

plan-next : (g : Geometry) (retry : Option ℕ) (aborts : List ℕ) (page : ℕ) (pages mapped : List ℕ) (plan : Plan) (b : ℕ) → IsAmong b ((page ∷ pages) ++ plan_pages plan) → IsAmong b (pages ++ plan_pages (planned g retry aborts page mapped plan))
plan-next g retry aborts page pages mapped plan b (inl same) =
    among-right b pages (plan_pages (planned g retry aborts page mapped plan)) (planned-more (is_moved_locked retry (slice_index aborts page) (length mapped)) g page mapped plan b (inl same))
plan-next g retry aborts page pages mapped plan b (inr there) = elim (among-either b pages (plan_pages plan) there) [
  | inl left ↦ among-left b pages (plan_pages (planned g retry aborts page mapped plan)) left
  | inr in_plan ↦ among-right b pages (plan_pages (planned g retry aborts page mapped plan)) (planned-more (is_moved_locked retry (slice_index aborts page) (length mapped)) g page mapped plan b (inr in_plan))
]

plans-clears : (g : Geometry) (retry : Option ℕ) (next : Lane → MigratorKept → Sequence) → NextClears g next → (kept : MigratorKept) (taken : List ℕ) (plan : Plan) → ClearsAfter g (taken ++ plan_pages plan) (Plans g retry next kept taken plan)
plans-clears g retry next n kept [] plan before pages = batches-clears g next n kept plan.moves plan.pieces before pages
plans-clears g retry next n kept (page ∷ taken) plan before pages =
    does-clears g before ((page ∷ taken) ++ plan_pages plan) pages IsMigratorWork migrator_counts (made_looks g page) (λ end. Plans g retry next kept taken (planned g retry kept.aborts page (looks_in end).mapped plan)) (look-returns g page)
    (λ own end shown. record {
      later = taken ++ plan_pages (planned g retry kept.aborts page (looks_in end).mapped plan);
      kept = λ b here. inl (plan-next g retry kept.aborts page taken (looks_in end).mapped plan b here);
      clear = plans-clears g retry next n kept taken (planned g retry kept.aborts page (looks_in end).mapped plan) (before ++ own) pages;
    })

-- ---- the taking of pending pages

-- a page that was taken, by whether it was taken before
took-page : (g : Geometry) (after more : List ℕ → Sequence) (taken : List ℕ) (page : ℕ) → (is_among page taken ≡ true → ClearsAfter g taken (after taken)) → ClearsAfter g (taken ++ page ∷ []) (more (taken ++ page ∷ []))
    → (b : Bool) → is_among page taken ≡ b → ClearsAfter g (page ∷ taken) (Either b (Puts page (after taken)) (more (taken ++ page ∷ [])))
took-page g after more taken page so then true is = puts-clears g taken page (after taken) (so is)
took-page g after more taken page so then false is =
    held-fewer g (page ∷ taken) (taken ++ page ∷ []) (more (taken ++ page ∷ []))
    (λ b here. elim here [
      | inl same ↦ among-right b taken (page ∷ []) (inl same)
      | inr mine ↦ among-left b taken (page ∷ []) mine
    ])
    then

-- some page was taken
takes-more : (g : Geometry) (after : List ℕ → Sequence) → ((page : ℕ) (taken : List ℕ) → ClearsAfter g (page ∷ taken) (after (page ∷ taken))) → (more page : ℕ) (taken : List ℕ) → ClearsAfter g (page ∷ taken) (TakesPending g after more (page ∷ taken))
takes-more g after some zero page taken = some page taken
takes-more g after some (suc more) page taken =
    takes-pending g (page ∷ taken) (PendingTaken after (TakesPending g after more) (page ∷ taken))
    (λ b mapped. took-page g after (TakesPending g after more) (page ∷ taken) b (λ is. some page taken) (takes-more g after some more page (taken ++ b ∷ [])) (is_among b (page ∷ taken)) refl)
    (some page taken)

-- none was taken yet
pub takes-clears : (g : Geometry) (after : List ℕ → Sequence) → ((page : ℕ) (taken : List ℕ) → ClearsAfter g (page ∷ taken) (after (page ∷ taken))) → ClearsAfter g [] (after []) → (more : ℕ) → ClearsAfter g [] (TakesPending g after (suc more) [])
takes-clears g after some none more =
    takes-pending g [] (PendingTaken after (TakesPending g after more) [])
    (λ b mapped. took-page g after (TakesPending g after more) [] b (λ is. absurd (cc)) (takes-more g after some more b []) (is_among b []) refl)
    none

pub after-takes-clears : (g : Geometry) (retry : Option ℕ) (next : Lane → MigratorKept → Sequence) → NextClears g next → (kept : MigratorKept) (page : ℕ) (taken : List ℕ) → ClearsAfter g (page ∷ taken) (AfterTakes g retry next kept (page ∷ taken))
after-takes-clears g retry next n kept page taken =
    held-fewer g (page ∷ taken) ((page ∷ taken) ++ []) (Plans g retry next kept (page ∷ taken) no_plan) (λ b here. among-left b (page ∷ taken) [] here) (plans-clears g retry next n kept (page ∷ taken) no_plan)

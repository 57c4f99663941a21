-- What comes with the stage that is come to is what was left.
use Rattle.std.proofs.Common.{◌≡◌, ◌≢◌, ℕ, zero, suc, ◌+◌, ◌-◌, ◌<◌, ◌≤◌, Bool, true, false, List, [], ◌∷◌, ◌++◌, length, drop, slice_index, slice_set, Some, None, sym, ap, ◌∙◌, subst, arith}
use Rattle.std.proofs.lemmas.List.{length_push}
use Rattle.std.specs.List.{range_with_len}
use Rattle.nm_base.specs.Geometry.{page_count}
use Rattle.nm_part.specs.Patterns.{Sometimes}
use Rattle.nm_part.proofs.Patterns.{ends-now, either-yes, either-other}
use Rattle.nm_txn.specs.declared.end.TxnEnd.{TxnEnd}
use Rattle.nm_vpages.specs.VPages.{vpages_of}
use Rattle.nm_drawing.specs.declared.drawing.Drawn.{Drawn}
use Rattle.nm_worker.specs.Notes.{Notes}
use Rattle.nm_migrator_work.specs.Works.{made_mark, made_batch}
use Rattle.nm_migrator.specs.declared.migrating.Migrating.{Migrating}
use Rattle.nm_migrator.specs.declared.migrating.MigratingStage.TheVariants.{TakingCandidate, Judging, TakingPending, PuttingTwice, Planning, Batching, PuttingAgain, Moving, Asking, TakingLast, Unmarking}
use Rattle.nm_migrator_work.specs.Ends.{mark_reply_in, batch_in}
use Rattle.nm_migrator_work.specs.Planned.{MigratorKept, Plan, no_plan, is_mapped, is_among, most_taken, is_moved_locked, first_or, planned_by, planned, aborts_with, again_of, batched}
use Rattle.nm_migrator.specs.Migrating.{Sequence, Does, Puts, AfterHeat, Unmarks, AfterLast, MovesLocked, AfterBatch, Batches, Plans, TakesPending, AfterCandidate}
use Rattle.nm_migrator.specs.Stages.{migrator_kept, migrator_plan, next_of, comes_at, CandidateLeft, LastLeft, JudgedLeft, CandidatesLeft, PendingLeft, TakenLeft, TakesLeft, MoreLeft, PageLeft, PlansLeft, PlannedLeft, BatchesLeft, BatchedLeft, AgainLeft, MovesLeft, UnmarksLeft}

-- every list of the one is a list of the other
abbrev pub Fits : (ℕ → Sequence) → (ℕ → Sequence) → Type 0
Fits now was = (notes : Notes) (outcome : MigratorKept) → Sometimes now notes outcome → Sometimes was notes outcome

-- Lanes.

module _ (m : Migrating) where
  -- candidates are taken again
  pub candidates-fit : Fits (comes_at m TakingCandidate) (CandidatesLeft m)
  candidates-fit notes outcome s = record { tries = suc s.tries; is = s.is }

  pub candidate-judged : (page : ℕ) → is_mapped m.geometry.now page ≡ true → Fits (comes_at m (Judging page)) (CandidateLeft m (Some page))
  candidate-judged page is notes outcome s = record {
    tries = s.tries;
    is = either-yes (is_mapped m.geometry.now page) (AfterCandidate m.geometry.now (next_of m s.tries) (migrator_kept m) (Some page)) (comes_at m TakingCandidate s.tries) notes outcome is s.is;
  }

  pub candidate-dropped : (page : ℕ) → is_mapped m.geometry.now page ≡ false → Fits (comes_at m TakingCandidate) (CandidateLeft m (Some page))
  candidate-dropped page is notes outcome s = record {
    tries = s.tries;
    is = either-other (is_mapped m.geometry.now page) (AfterCandidate m.geometry.now (next_of m s.tries) (migrator_kept m) (Some page)) (comes_at m TakingCandidate s.tries) notes outcome is s.is;
  }

  pub last-judged : (page : ℕ) → is_mapped m.geometry.now page ≡ true → Fits (comes_at m (Judging page)) (LastLeft m (Some page))
  last-judged page is notes outcome s = record {
    tries = s.tries;
    is = either-yes (is_mapped m.geometry.now page) (AfterLast m.geometry.now (next_of m s.tries) (migrator_kept m) (Some page)) (comes_at m TakingLast s.tries) notes outcome is s.is;
  }

  pub last-dropped : (page : ℕ) → is_mapped m.geometry.now page ≡ false → Fits (comes_at m TakingLast) (LastLeft m (Some page))
  last-dropped page is notes outcome s = record {
    tries = s.tries;
    is = either-other (is_mapped m.geometry.now page) (AfterLast m.geometry.now (next_of m s.tries) (migrator_kept m) (Some page)) (comes_at m TakingLast s.tries) notes outcome is s.is;
  }

  -- the last candidate was taken
  pub unmarks-start : Fits (UnmarksLeft m 0) (LastLeft m None)
  unmarks-start notes outcome s =
      let e : page_count m.geometry.now - 0 ≡ page_count m.geometry.now = omega arith in
      record { tries = s.tries; is = subst (λ (k : ℕ). Unmarks m.geometry.now (range_with_len 0 k) (migrator_kept m) notes outcome) e s.is }

  -- a hot candidate is marked as pending
  pub heats-fit : (page : ℕ) (items : List ℕ) → items ≡ slice_set m.aborts.items page 0
      → Fits (λ n. Does m.geometry.now (made_mark page 1 2) (λ end. AfterHeat (next_of m n) (record { aborts = items; spent = m.spent }) page (mark_reply_in end))) (JudgedLeft m page true)
  heats-fit page items is notes outcome s =
      let P : List ℕ → Type 0 = λ l. Sometimes (λ n. Does m.geometry.now (made_mark page 1 2) (λ end. AfterHeat (next_of m n) (record { aborts = l; spent = m.spent }) page (mark_reply_in end))) notes outcome in
      subst P is s

  -- Pending pages.

  pub pending-begins : (taken : List ℕ) → taken ≡ [] → Fits (TakesLeft (record m { taken = taken })) (PendingLeft m)
  pending-begins taken is notes outcome s =
      let P : List ℕ → Type 0 = λ l. Sometimes (TakesLeft (record m { taken = l })) notes outcome in
      let t = subst P is s in
      record { tries = suc t.tries; is = t.is }

  takes-by : (more n : ℕ) (notes : Notes) (outcome : MigratorKept) → most_taken - length m.taken ≡ more → TakesPending m.geometry.now (λ taken. TakenLeft m taken n) more m.taken notes outcome → TakesLeft m n notes outcome
  takes-by more n notes outcome is h = rw is h

  pub takes-one : length m.taken < most_taken → Fits (comes_at m TakingPending) (TakesLeft m)
  takes-one room notes outcome s = record {
    tries = s.tries;
    is = takes-by (suc (most_taken - (length m.taken + 1))) s.tries notes outcome (omega arith) s.is;
  }

  pub takes-all : most_taken ≤ length m.taken → Fits (TakenLeft m m.taken) (TakesLeft m)
  takes-all full notes outcome s = record { tries = s.tries; is = takes-by zero s.tries notes outcome (omega arith) s.is }

  pub page-dropped : (page : ℕ) → is_mapped m.geometry.now page ≡ false → Fits (comes_at m TakingPending) (PageLeft m (Some page))
  page-dropped page is notes outcome s = record {
    tries = s.tries;
    is = either-other (is_mapped m.geometry.now page) (MoreLeft m (Some page) s.tries) (comes_at m TakingPending s.tries) notes outcome is s.is;
  }

  more-fits : (page : ℕ) → is_mapped m.geometry.now page ≡ true → Fits (MoreLeft m (Some page)) (PageLeft m (Some page))
  more-fits page is notes outcome s = record {
    tries = s.tries;
    is = either-yes (is_mapped m.geometry.now page) (MoreLeft m (Some page) s.tries) (comes_at m TakingPending s.tries) notes outcome is s.is;
  }

  pub page-twice : (page : ℕ) → is_mapped m.geometry.now page ≡ true → is_among page m.taken ≡ true → Fits (comes_at m (PuttingTwice page)) (PageLeft m (Some page))
  page-twice page is among notes outcome s = more-fits page is notes outcome (record {
    tries = s.tries;
    is = either-yes (is_among page m.taken) (Puts page (TakenLeft m m.taken s.tries)) (TakesPending m.geometry.now (λ taken. TakenLeft m taken s.tries) (most_taken - (length m.taken + 1)) (m.taken ++ page ∷ [])) notes outcome among s.is;
  })

  pub page-taken : (page : ℕ) → is_mapped m.geometry.now page ≡ true → is_among page m.taken ≡ false → Fits (TakesLeft (record m { taken = m.taken ++ page ∷ [] })) (PageLeft m (Some page))
  page-taken page is among notes outcome s = more-fits page is notes outcome (record {
    tries = s.tries;
    is = either-other (is_among page m.taken) (Puts page (TakenLeft m m.taken s.tries)) (TakesPending m.geometry.now (λ taken. TakenLeft m taken s.tries) (most_taken - (length m.taken + 1)) (m.taken ++ page ∷ [])) notes outcome among
        (subst (λ (k : ℕ). TakesPending m.geometry.now (λ taken. TakenLeft m taken s.tries) (most_taken - k) (m.taken ++ page ∷ []) notes outcome) (length_push m.taken page) s.is);
  })

  -- The plan.

  pub taken-asks : drop 0 m.taken ≡ [] → Fits (comes_at m Asking) (TakenLeft m m.taken)
  taken-asks none notes outcome s = record { tries = s.tries; is = subst (λ (l : List ℕ). TakenLeft m l s.tries notes outcome) (sym none) s.is }

  taken-plans-by : (taken rest : List ℕ) (page n : ℕ) (notes : Notes) (outcome : MigratorKept) → taken ≡ page ∷ rest → Plans m.geometry.now m.retry (next_of m n) (migrator_kept m) taken no_plan notes outcome → TakenLeft m taken n notes outcome
  taken-plans-by taken rest page n notes outcome is h =
      let P : List ℕ → Type 0 = λ l. Plans m.geometry.now m.retry (next_of m n) (migrator_kept m) l no_plan notes outcome in
      subst (λ (l : List ℕ). TakenLeft m l n notes outcome) (sym is) (subst P is h)

  pub taken-plans : (page : ℕ) → drop 0 m.taken ≡ page ∷ drop 1 m.taken → Fits (PlansLeft (record m { pieces = []; moves = [] }) 0 no_plan) (TakenLeft m m.taken)
  taken-plans page is notes outcome s = record { tries = s.tries; is = taken-plans-by m.taken (drop 1 m.taken) page s.tries notes outcome is s.is }

  plan-none : (pieces moves : List (ℕ × ℕ)) → pieces ≡ [] → moves ≡ [] → ◌≡◌ {A = Plan} (record { pieces = pieces; moves = moves }) no_plan
  plan-none pieces moves is are = ap (λ (l : List (ℕ × ℕ)). let q : Plan = record { pieces = l; moves = moves } in q) is ∙ ap (λ (l : List (ℕ × ℕ)). let q : Plan = record { pieces = []; moves = l } in q) are

  pub taken-planned : (page : ℕ) (pieces moves : List (ℕ × ℕ)) → pieces ≡ [] → moves ≡ [] → drop 0 m.taken ≡ page ∷ drop 1 m.taken → Fits (PlansLeft m 0 (record { pieces = pieces; moves = moves })) (TakenLeft m m.taken)
  taken-planned page pieces moves is are next notes outcome s =
      let P : Plan → Type 0 = λ q. Sometimes (PlansLeft m 0 q) notes outcome in
      taken-plans page next notes outcome (subst P (plan-none pieces moves is are) s)

  pub plans-one : (index page : ℕ) → drop index m.taken ≡ page ∷ drop (index + 1) m.taken → Fits (comes_at m (Planning index page)) (PlansLeft m index (migrator_plan m))
  plans-one index page is notes outcome s = record {
    tries = s.tries;
    is = subst (λ (l : List ℕ). Plans m.geometry.now m.retry (next_of m s.tries) (migrator_kept m) l (migrator_plan m) notes outcome) (sym is) s.is;
  }

  pub plans-all : (index : ℕ) → drop index m.taken ≡ [] → Fits (BatchesLeft m) (PlansLeft m index (migrator_plan m))
  plans-all index none notes outcome s = record {
    tries = s.tries;
    is = subst (λ (l : List ℕ). Plans m.geometry.now m.retry (next_of m s.tries) (migrator_kept m) l (migrator_plan m) notes outcome) (sym none) s.is;
  }

  planned-by : (index page : ℕ) (mapped : List ℕ) (plan : Plan) (test : Bool) → is_moved_locked m.retry (slice_index m.aborts.items page) (length mapped) ≡ test → plan ≡ planned_by test m.geometry.now page mapped (migrator_plan m)
      → Fits (PlansLeft m (index + 1) plan) (PlannedLeft m index page mapped)
  planned-by index page mapped plan test is same notes outcome s =
      let P : Plan → Type 0 = λ q. Sometimes (PlansLeft m (index + 1) q) notes outcome in
      let e : plan ≡ planned m.geometry.now m.retry m.aborts.items page mapped (migrator_plan m) = same ∙ sym (ap (λ (b : Bool). planned_by b m.geometry.now page mapped (migrator_plan m)) is) in
      subst P e s

  pub planned-moves : (index page : ℕ) (mapped : List ℕ) (moves : List (ℕ × ℕ)) → is_moved_locked m.retry (slice_index m.aborts.items page) (length mapped) ≡ true → moves ≡ m.moves ++ (page, length mapped) ∷ []
      → Fits (PlansLeft m (index + 1) (record { pieces = m.pieces; moves = moves })) (PlannedLeft m index page mapped)
  planned-moves index page mapped moves is are = planned-by index page mapped (record { pieces = m.pieces; moves = moves }) true is (ap (λ (l : List (ℕ × ℕ)). let q : Plan = record { pieces = m.pieces; moves = l } in q) are)

  pub planned-pieces : (index page : ℕ) (mapped : List ℕ) (pieces : List (ℕ × ℕ)) → is_moved_locked m.retry (slice_index m.aborts.items page) (length mapped) ≡ false → pieces ≡ m.pieces ++ (page, first_or mapped (vpages_of m.geometry.now page)) ∷ []
      → Fits (PlansLeft m (index + 1) (record { pieces = pieces; moves = m.moves })) (PlannedLeft m index page mapped)
  planned-pieces index page mapped pieces is are = planned-by index page mapped (record { pieces = pieces; moves = m.moves }) false is (ap (λ (l : List (ℕ × ℕ)). let q : Plan = record { pieces = l; moves = m.moves } in q) are)

  -- The batch.

  batches-by : (pieces rest : List (ℕ × ℕ)) (p : ℕ × ℕ) (n : ℕ) (notes : Notes) (outcome : MigratorKept) → pieces ≡ p ∷ rest
      → Does m.geometry.now (made_batch m.geometry.now pieces m.spent) (λ end. AfterBatch m.geometry.now (next_of m n) m.moves (again_of pieces (batch_in end).end) (batched pieces (batch_in end) (migrator_kept m))) notes outcome
      → Batches m.geometry.now (next_of m n) (migrator_kept m) m.moves pieces notes outcome
  batches-by pieces rest p n notes outcome is h =
      let P : List (ℕ × ℕ) → Type 0 = λ l. Does m.geometry.now (made_batch m.geometry.now l m.spent) (λ end. AfterBatch m.geometry.now (next_of m n) m.moves (again_of l (batch_in end).end) (batched l (batch_in end) (migrator_kept m))) notes outcome in
      subst (λ (l : List (ℕ × ℕ)). Batches m.geometry.now (next_of m n) (migrator_kept m) m.moves l notes outcome) (sym is) (subst P is h)

  pub batches-some : (p : ℕ × ℕ) → drop 0 m.pieces ≡ p ∷ drop 1 m.pieces → Fits (comes_at m Batching) (BatchesLeft m)
  batches-some p is notes outcome s = record { tries = s.tries; is = batches-by m.pieces (drop 1 m.pieces) p s.tries notes outcome is s.is }

  pub batches-none : drop 0 m.pieces ≡ [] → Fits (MovesLeft m 0 (migrator_kept m)) (BatchesLeft m)
  batches-none none notes outcome s = record {
    tries = s.tries;
    is = subst (λ (l : List (ℕ × ℕ)). Batches m.geometry.now (next_of m s.tries) (migrator_kept m) m.moves l notes outcome) (sym none) s.is;
  }

  pub again-starts : (told : Drawn (List TxnEnd)) (items again : List ℕ) → items ≡ aborts_with m.pieces told.end m.aborts.items → again ≡ again_of m.pieces told.end
      → Fits (λ n. AfterBatch m.geometry.now (next_of m n) m.moves (drop 0 again) (record { aborts = items; spent = told.spent })) (BatchedLeft m told)
  again-starts told items again is are notes outcome s =
      let P : List ℕ → Type 0 = λ l. Sometimes (λ n. AfterBatch m.geometry.now (next_of m n) m.moves again (record { aborts = l; spent = told.spent })) notes outcome in
      let Q : List ℕ → Type 0 = λ l. Sometimes (λ n. AfterBatch m.geometry.now (next_of m n) m.moves l (record { aborts = aborts_with m.pieces told.end m.aborts.items; spent = told.spent })) notes outcome in
      subst Q are (subst P is s)

  pub again-one : (index page : ℕ) → drop index m.again ≡ page ∷ drop (index + 1) m.again → Fits (comes_at m (PuttingAgain index page)) (AgainLeft m index)
  again-one index page is notes outcome s = record {
    tries = s.tries;
    is = subst (λ (l : List ℕ). AfterBatch m.geometry.now (next_of m s.tries) m.moves l (migrator_kept m) notes outcome) (sym is) s.is;
  }

  pub again-all : (index : ℕ) → drop index m.again ≡ [] → Fits (MovesLeft m 0 (migrator_kept m)) (AgainLeft m index)
  again-all index none notes outcome s = record {
    tries = s.tries;
    is = subst (λ (l : List ℕ). AfterBatch m.geometry.now (next_of m s.tries) m.moves l (migrator_kept m) notes outcome) (sym none) s.is;
  }

  -- The locked moves.

  pub moves-one : (index page count : ℕ) → drop index m.moves ≡ (page, count) ∷ drop (index + 1) m.moves → Fits (comes_at m (Moving index page count)) (MovesLeft m index (migrator_kept m))
  moves-one index page count is notes outcome s = record {
    tries = s.tries;
    is = subst (λ (l : List (ℕ × ℕ)). MovesLocked m.geometry.now (next_of m s.tries) l (migrator_kept m) notes outcome) (sym is) s.is;
  }

  pub moves-all : (index : ℕ) → drop index m.moves ≡ [] → Fits (comes_at m TakingCandidate) (MovesLeft m index (migrator_kept m))
  moves-all index none notes outcome s = record {
    tries = suc s.tries;
    is = subst (λ (l : List (ℕ × ℕ)). MovesLocked m.geometry.now (next_of m (suc s.tries)) l (migrator_kept m) notes outcome) (sym none) s.is;
  }

  -- The end.

  unmarks-by : (page more n : ℕ) (notes : Notes) (outcome : MigratorKept) → page_count m.geometry.now - page ≡ more → Unmarks m.geometry.now (range_with_len page more) (migrator_kept m) notes outcome → UnmarksLeft m page n notes outcome
  unmarks-by page more n notes outcome is h = rw is h

  pub unmarks-one : (page : ℕ) → page < page_count m.geometry.now → Fits (comes_at m (Unmarking page)) (UnmarksLeft m page)
  unmarks-one page within notes outcome s = record {
    tries = s.tries;
    is = unmarks-by page (suc (page_count m.geometry.now - (page + 1))) s.tries notes outcome (omega arith) s.is;
  }

  pub unmarks-all : (page : ℕ) → page_count m.geometry.now ≤ page → Sometimes (UnmarksLeft m page) [] (migrator_kept m)
  unmarks-all page past = record { tries = zero; is = unmarks-by page zero zero [] (migrator_kept m) (omega arith) (ends-now (migrator_kept m)) }

-- there is an item
pub some-item : {A : Type 0} (xs rest : List A) (x : A) → drop 0 xs ≡ x ∷ rest → xs ≢ []
some-item [] rest x is = cc
some-item (y ∷ ys) rest x is = λ none. cc

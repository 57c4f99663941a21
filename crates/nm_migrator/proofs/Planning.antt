-- The pages that were taken, and the plan of how they are moved.
use Rattle.std.proofs.Common.{◌≡◌, ◌≢◌, ℕ, ◌<◌, ◌≤◌, ◌==◌, ◌&&◌, ◌||◌, nat_le, Bool, true, false, List, [], ◌∷◌, ◌++◌, length, All, Option, None, refl, sym, arith}
use Rattle.std.proofs.lemmas.List.{length_push}
use Rattle.std.proofs.lemmas.List.Elements.{All-nil, All-cons, All-head, All-tail, All-push}
use Rattle.std.proofs.lemmas.Bool.{leb-true, eqb-true}
use Rattle.nm_base.specs.Geometry.{Geometry}
use Rattle.nm_base.specs.Ranges.{IsPage}
use Rattle.nm_view.specs.Lists.{find, itself, first}
use Rattle.nm_view.proofs.Finds.{once_join, absent_join}
use Rattle.nm_vpages.specs.VPages.{vpages_of}
use Rattle.nm_batch.proofs.Lists.{absent-head, absent-tail}
use Rattle.nm_migrator_work.proofs.Beginning.{mapped-is-page}
use Rattle.nm_migrator_work.specs.Planned.{has_any, is_mapped, is_among, most_taken, Plan, no_plan, is_retried, is_moved_locked}
use Rattle.nm_migrator.specs.Stages.{IsMappedPage, AreTaken, IsMove, IsPlanWith}

-- Pages.

some-any : (l : List ℕ) → has_any l ≡ true → l ≢ []
some-any [] is = cc
some-any (v ∷ vs) is = λ none. cc

pub is-mapped : (g : Geometry) (page : ℕ) → is_mapped g page ≡ true → IsMappedPage g page
is-mapped g page is = some-any (vpages_of g page) is

not-among-by : (page b : ℕ) (pages : List ℕ) (test : Bool) → (b == page) ≡ test → (test || is_among page pages) ≡ false → (is_among page pages ≡ false → find itself page pages ≡ None) → find itself page (b ∷ pages) ≡ None
not-among-by page b pages true is absent rest = cc
not-among-by page b pages false is absent rest = rw is (rest absent)

pub not-among : (page : ℕ) (pages : List ℕ) → is_among page pages ≡ false → find itself page pages ≡ None
not-among page [] absent = refl
not-among page (b ∷ pages) absent = not-among-by page b pages (b == page) refl absent (not-among page pages)

pub taken-none : (g : Geometry) → AreTaken g []
taken-none g = record { few = omega arith; mapped = All-nil (IsMappedPage g); once = tt }

pub taken-more : (g : Geometry) (pages : List ℕ) (page : ℕ) → AreTaken g pages → length pages < most_taken → IsMappedPage g page → is_among page pages ≡ false → AreTaken g (pages ++ page ∷ [])
taken-more g pages page h room mapped absent = record {
  few = rw length_push (omega arith);
  mapped = All-push (IsMappedPage g) pages page h.mapped mapped;
  once = once_join itself page pages h.once (not-among page pages absent);
}

-- The plan.

pub plan-start : (g : Geometry) (pages : List ℕ) → AreTaken g pages → IsPlanWith g no_plan pages
plan-start g pages h = record {
  few = omega (arith, h.few);
  pages = All-nil (λ p. IsPage g (first p));
  once = tt;
  moves = All-nil (IsMove g);
  mapped = h.mapped;
  apart = λ i d lt. refl;
  single = h.once;
}

some-count : (retry : Option ℕ) (aborts count : ℕ) (two one : Bool) → nat_le 2 count ≡ two → (count == 1) ≡ one → (two || (one && is_retried retry aborts)) ≡ true → 1 ≤ count
some-count retry aborts count true one is eq h = let two = leb-true 2 count is in omega arith
some-count retry aborts count false true is eq h = let one = eqb-true count 1 eq in omega arith
some-count retry aborts count false false is eq h = cc

-- none of the pages that stand after a page is that page
others-apart : (page : ℕ) (pieces : List (ℕ × ℕ)) (v : ℕ) (more : List ℕ) → All (λ b. find first b pieces ≡ None) more → find itself page more ≡ None → All (λ b. find first b (pieces ++ (page, v) ∷ []) ≡ None) more
others-apart page pieces v [] h absent = All-nil (λ b. find first b (pieces ++ (page, v) ∷ []) ≡ None)
others-apart page pieces v (b ∷ more) h absent =
    let N : ℕ → Type 0 = λ b. find first b pieces ≡ None in
    All-cons (λ b. find first b (pieces ++ (page, v) ∷ []) ≡ None) b more
    (absent_join first (page, v) b pieces (λ e. absent-head itself page b more absent (sym e)) (All-head N b more h))
    (others-apart page pieces v more (All-tail N b more h) (absent-tail itself page b more absent))

pub plan-piece : (g : Geometry) (plan : Plan) (page v : ℕ) (more : List ℕ) → IsPlanWith g plan (page ∷ more) → IsPlanWith g (record plan { pieces = plan.pieces ++ (page, v) ∷ [] }) more
plan-piece g plan page v more h =
    let N : ℕ → Type 0 = λ b. find first b plan.pieces ≡ None in
    let mapped = All-head (IsMappedPage g) page more h.mapped in
    let few = h.few in
    record {
      few = rw length_push (omega arith);
      pages = All-push (λ p. IsPage g (first p)) plan.pieces (page, v) h.pages (mapped-is-page g page mapped);
      once = once_join first (page, v) plan.pieces h.once (All-head N page more h.apart);
      moves = h.moves;
      mapped = All-tail (IsMappedPage g) page more h.mapped;
      apart = others-apart page plan.pieces v more (All-tail N page more h.apart) h.single.0;
      single = h.single.1;
    }

pub plan-move : (g : Geometry) (plan : Plan) (page count : ℕ) (more : List ℕ) → 1 ≤ count → IsPlanWith g plan (page ∷ more) → IsPlanWith g (record plan { moves = plan.moves ++ (page, count) ∷ [] }) more
plan-move g plan page count more some h =
    let N : ℕ → Type 0 = λ b. find first b plan.pieces ≡ None in
    let mapped = All-head (IsMappedPage g) page more h.mapped in
    let few = h.few in
    record {
      few = rw length_push (omega arith);
      pages = h.pages;
      once = h.once;
      moves = All-push (IsMove g) plan.moves (page, count) h.moves (record { page = mapped-is-page g page mapped; some = some });
      mapped = All-tail (IsMappedPage g) page more h.mapped;
      apart = All-tail N page more h.apart;
      single = h.single.1;
    }

pub some-move : (retry : Option ℕ) (aborts count : ℕ) → is_moved_locked retry aborts count ≡ true → 1 ≤ count
some-move retry aborts count is = some-count retry aborts count (nat_le 2 count) (count == 1) refl refl is

-- Each step of a pass keeps the rule of the queue.
use Rattle.std.proofs.Common.{◌≡◌, ◌≢◌, ℕ, zero, suc, ◌<◌, ◌≤◌, true, List, [], ◌∷◌, ◌++◌, length, map, set, get_or, sym, refl, ap, ◌∙◌, subst, ⊎_elim, append_assoc, slice_get, arith}
use Rattle.std.specs.List.{All}
use Rattle.std.proofs.Math.ListN.{length-set, length-append}
use Rattle.std.proofs.lemmas.List.{append-nil, length-map, nil_from_length}
use Rattle.std.proofs.lemmas.List.Elements.{All-cons, All-map}
use mathlib.Core.Option.{some, some-injective, some-ne-none}
use lib.ListN.{get_elem?}
use Rattle.crossbeam_queue.specs.Fifo.{Pushes, Pops, Learns}
use Rattle.crossbeam_queue.proofs.Lists.{at_set, set_here}
use Rattle.nm_actor.specs.Lanes.{LaneMove, put, took}
use Rattle.nm_queue.specs.Histories.{History, moves_by, pages_taken, pages_left, IsFifo}
use Rattle.nm_queue.specs.Passes.{Known, JoinedPass, pass_numbers, IsAlone, IsMoment, pages_at, with_move, PutThen, TookThen}
use Rattle.nm_queue.specs.Rules.{KnowsMoves, Relates, SawPages}
use Rattle.nm_queue.proofs.Fifo.{by_pass, Leaves, leaves-left, left-leaves, first_out, leaves_put, leaves_took, fifo_more, fifo_now, moves_by-own, moves_by-other}
use Rattle.nm_queue.proofs.Numbers.{times, counted, all_there}

pub within : {A : Type 0} (l : List A) (i : ℕ) (a : A) → get_elem? l i ≡ some a → i < length l
within [] i a e = absurd (some-ne-none a (sym e))
within (x ∷ xs) zero a e = omega arith
within (x ∷ xs) (suc i) a e = let again = within xs i a e in omega arith

pub all_set : (F : ℕ → Known → Type 0) (views : List Known) (pass : ℕ) (w : Known) → (w.live ≡ true → F pass w)
    → ((j : ℕ) (u : Known) → j ≢ pass → get_elem? views j ≡ some u → u.live ≡ true → F j u)
    → (j : ℕ) (u : Known) → get_elem? (set views pass w) j ≡ some u → u.live ≡ true → F j u
all_set F views pass w mine others j u e = ⊎_elim
    (λ (t : (j ≡ pass) × (w ≡ u)). subst (λ (y : ℕ × Known). y.1.live ≡ true → F y.0 y.1) (λ i. (sym t.0 i, t.1 i)) mine)
    (λ (t : (j ≢ pass) × (get_elem? views j ≡ some u)). others j u t.0 t.1)
    (at_set views pass j w u e)

-- the numbers of a pass in use are kept by it
pub keeps_numbers : (n : ℕ) (h : History) (keeper : ℕ → ℕ) (pass : ℕ) (k : Known) → KnowsMoves n h keeper pass k → All (λ r. keeper r ≡ pass) (pass_numbers k)
keeps_numbers n h keeper pass k mine = All-cons (λ r. keeper r ≡ pass) k.number (map (λ j. j.number) k.joined) (ap keeper mine.number ∙ mine.kept)
    (All-map (λ r. keeper r ≡ pass) (λ j. j.number) k.joined (λ i d lt. (mine.joined i d lt).kept))

no_rest : {A : Type 0} (xs ys : List A) → xs ≡ xs ++ ys → ys ≡ []
no_rest xs ys e = let a = ap length e in let b = length-append xs ys in nil_from_length ys (omega arith)

-- a pass that is alone has seen the whole history
module _ (pages : List ℕ) (views : List Known) (pass : ℕ) (k : Known) (h : Relates pages views) (at : get_elem? views pass ≡ some k) (live : k.live ≡ true) where
  pub every_pass : IsAlone k → (r : ℕ) → r < length views → times r (pass_numbers k) ≡ 1
  every_pass alone r lt = let mine = h.known pass k at live in let long = (mine.made (suc (length k.joined)) alone).0 in
      all_there (length views) (pass_numbers k) r mine.numbers
      (All-cons (λ x. x < length views) k.number (map (λ j. j.number) k.joined) (subst (λ x. x < length views) (sym mine.number) (within views pass k at))
      (All-map (λ x. x < length views) (λ j. j.number) k.joined (λ i d lt. (mine.joined i d lt).below)))
      (let l = length-map k.joined (λ (j : JoinedPass). j.number) in omega arith) lt

  pub seen_whole : IsAlone k → k.seen ≡ h.history
  seen_whole alone =
      let mine = h.known pass k at live in
      let other = h.latest in
      let theirs = h.known other.pass other.known other.at other.live in
      let there = every_pass alone other.pass (within views other.pass other.known other.at) in
      let kept : h.keeper other.pass ≡ pass = counted (λ r. h.keeper r ≡ pass) other.pass (pass_numbers k) (keeps_numbers (length views) h.history h.keeper pass k mine) (omega arith) in
      let same : other.pass ≡ pass = sym theirs.kept ∙ kept in
      let known : k ≡ other.known = some-injective k other.known (sym at ∙ ap (λ i. get_elem? views i) (sym same) ∙ other.at) in
      ap (λ (y : Known). y.seen) known ∙ other.seen

  -- the history now, as the pass sees it
  pub moment_now : IsMoment k (h.known pass k at live).seen.rest
  moment_now = let mine = h.known pass k at live in record {
    fifo = subst IsFifo mine.seen.is h.fifo;
    own = ap (λ (y : ℕ × History). moves_by y.0 y.1) (λ i. (mine.number i, sym mine.seen.is i)) ∙ mine.own;
    alone = λ alone. no_rest k.seen mine.seen.rest (seen_whole alone ∙ mine.seen.is);
  }

-- a pass makes a move
module _ (pages pages' : List ℕ) (views : List Known) (pass : ℕ) (k : Known) (move : LaneMove) (h : Relates pages views) (at : get_elem? views pass ≡ some k) (live : k.live ≡ true) where
  abbrev grown : History
  grown = h.history ++ by_pass pass move ∷ []

  abbrev moved : Known
  moved = with_move move (h.known pass k at live).seen.rest k

  pub moves : Leaves (h.history ++ by_pass pass move ∷ []) pages' → Relates pages' (set views pass (with_move move (h.known pass k at live).seen.rest k))
  moves leaves =
      let mine = h.known pass k at live in
      let n = length views in
      let same : length (set views pass moved) ≡ n = length-set views pass moved in
      let here : pass < n = within views pass k at in
      let seen : grown ≡ moved.seen = ap (λ (y : History × ℕ). y.0 ++ by_pass y.1 move ∷ []) (λ i. (mine.seen.is i, sym mine.number i)) in
      let F : ℕ → Known → Type 0 = KnowsMoves n grown h.keeper in
      let mine' : F pass moved = record {
        number = mine.number;
        kept = mine.kept;
        own = moves_by-own pass h.history move ∙ ap (λ l. l ++ move ∷ []) mine.own;
        joined = λ i d lt. let j = mine.joined i d lt in record { kept = j.kept; other = j.other; below = j.below; moves = moves_by-other (get_or k.joined i d).number pass h.history move (λ e. j.other (sym e)) ∙ j.moves };
        numbers = mine.numbers;
        made = mine.made;
        seen = record { rest = []; is = seen ∙ sym (append-nil moved.seen) };
      } in
      let others : (j : ℕ) (u : Known) → j ≢ pass → get_elem? views j ≡ some u → u.live ≡ true → F j u = λ j u ne e l. let theirs = h.known j u e l in record {
        number = theirs.number;
        kept = theirs.kept;
        own = moves_by-other j pass h.history move (λ e'. ne (sym e')) ∙ theirs.own;
        joined = λ i d lt. let x = theirs.joined i d lt in record {
          kept = x.kept;
          other = x.other;
          below = x.below;
          moves = moves_by-other (get_or u.joined i d).number pass h.history move (λ e'. ne (sym x.kept ∙ ap h.keeper (sym e') ∙ mine.kept)) ∙ x.moves;
        };
        numbers = theirs.numbers;
        made = theirs.made;
        seen = record { rest = theirs.seen.rest ++ by_pass pass move ∷ []; is = ap (λ l. l ++ by_pass pass move ∷ []) theirs.seen.is ∙ append_assoc u.seen theirs.seen.rest (by_pass pass move ∷ []) };
      } in
      record {
        history = grown;
        keeper = h.keeper;
        fifo = fifo_more h.history (by_pass pass move) h.fifo (first_out grown pages' leaves);
        left = left-leaves grown pages' leaves;
        known = subst (λ m. (j : ℕ) (u : Known) → get_elem? (set views pass moved) j ≡ some u → u.live ≡ true → KnowsMoves m grown h.keeper j u) (sym same) (all_set F views pass moved (λ _. mine') others);
        unmade = λ r le. let le' : n ≤ r = omega arith in moves_by-other r pass h.history move (λ e. absurd (omega arith)) ∙ h.unmade r le';
        latest = record { pass = pass; known = moved; at = set_here views pass moved here; live = live; seen = sym seen };
      }

pub puts : (n pass : ℕ) (k : Known) (x : ℕ) → k.live ≡ true → Pushes Relates n pass k x (PutThen n x k)
puts n pass k x live pages views room h at =
    let mine = h.known pass k at live in
    let now = moment_now pages views pass k h at live in
    let leaves : Leaves h.history pages = leaves-left h.history (fifo_now h.history h.fifo) ∙ ap (λ t. pages_taken h.history ++ t) h.left in
    let held : pages_at k mine.seen.rest ≡ pages = ap pages_left (sym mine.seen.is) ∙ h.left in (
      with_move (put x) mine.seen.rest k,
      moves pages (pages ++ x ∷ []) views pass k (put x) h at live (leaves_put h.history pages pass x leaves),
      record { between = mine.seen.rest; moment = now; room = let l = ap length held in omega arith; is = refl },
    )

pub takes : (pass : ℕ) (k : Known) → k.live ≡ true → Pops Relates pass k (λ x w. TookThen x k w)
takes pass k live x pages views h at =
    let mine = h.known pass k at live in
    let now = moment_now (x ∷ pages) views pass k h at live in
    let leaves : Leaves h.history (x ∷ pages) = leaves-left h.history (fifo_now h.history h.fifo) ∙ ap (λ t. pages_taken h.history ++ t) h.left in
    let held : pages_at k mine.seen.rest ≡ x ∷ pages = ap pages_left (sym mine.seen.is) ∙ h.left in (
      with_move (took x) mine.seen.rest k,
      moves (x ∷ pages) pages views pass k (took x) h at live (leaves_took h.history pages pass x leaves),
      record { between = mine.seen.rest; moment = now; first = ap (λ l. slice_get l 0) held; is = refl },
    )

pub saw : (pass : ℕ) (k : Known) → k.live ≡ true → Learns Relates pass k (SawPages k)
saw pass k live pages views h at = let mine = h.known pass k at live in record {
  between = mine.seen.rest;
  moment = moment_now pages views pass k h at live;
  left = ap pages_left (sym mine.seen.is) ∙ h.left;
}

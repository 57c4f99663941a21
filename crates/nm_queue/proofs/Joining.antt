-- The rule of the queue at the start, when a pass is made, and when one is joined into another; and what it tells a pass that is
-- alone.
use Rattle.std.proofs.Common.{◌≡◌, ◌≢◌, ◌⊎◌, ◌==◌, cond, ℕ, zero, suc, ◌<◌, ◌≤◌, Bool, nat_lt, true, false, true≢false, List, [], ◌∷◌, ◌++◌, length, map, set, get_or, sym, refl, ap, ◌∙◌, subst, ⊎_elim, inl, inr, Option, Some, None, eq-eqb, ne_eqb, ltb-true, arith}
use Rattle.std.specs.Option.{IsSome, option_map}
use Rattle.std.specs.List.{All, filter}
use Rattle.std.proofs.Math.ListN.{length-set, length-append}
use Rattle.std.proofs.Math.Seq.{take-nil}
use Rattle.std.proofs.lemmas.Bool.{ltb-false, cases_lt}
use Rattle.std.proofs.lemmas.List.{append-nil, map-append, nil_from_length}
use Rattle.std.proofs.lemmas.List.Elements.{All-append, All-cons}
use Rattle.std.proofs.lemmas.List.Sums.{count_by-le-length}
use mathlib.Core.Option.{some, some-injective, some-ne-none}
use mathlib.Core.Logic.{dite}
use native.Mathlib.Decide.{ℕ_discrete}
use lib.ListN.{get_elem?}
use Rattle.crossbeam_queue.specs.Fifo.{Forks, Merges, Learns}
use Rattle.crossbeam_queue.proofs.Lists.{at_set, set_here, set_else, at_longer}
use Rattle.nm_queue.specs.Histories.{PassMove, History, moves_by, pages_left, IsFifo, IsFirstOut}
use Rattle.nm_queue.specs.Passes.{Known, JoinedPass, pass_numbers, IsAlone, first_pass, after_making, made_pass, made_count, with_joined, longer_history, either_number}
use Rattle.nm_queue.specs.Rules.{GoesOn, IsJoinedTo, HasNoTwice, KnowsMoves, HasSeen, Relates, IsWholeAt, spent_pass}
use Rattle.nm_queue.proofs.Numbers.{times, apart}
use Rattle.nm_queue.proofs.Keeping.{within, all_set, keeps_numbers, every_pass, seen_whole}

one_number : (a : ℕ) → HasNoTwice (a ∷ [])
one_number a r = count_by-le-length (λ n. n == r) (a ∷ [])

only : (a : Known) (j : ℕ) (k : Known) → get_elem? (a ∷ []) j ≡ some k → (j ≡ 0) × (a ≡ k)
only a zero k e = (refl, some-injective a k e)
only a (suc j) k e = absurd (some-ne-none k (sym e))

pub begins : Relates [] (first_pass ∷ [])
begins = record {
  history = [];
  keeper = λ r. r;
  fifo = λ n. subst IsFirstOut (sym (take-nil n)) refl;
  left = refl;
  known = λ j k e live. let o = only first_pass j k e in subst (λ (y : ℕ × Known). KnowsMoves 1 [] (λ r. r) y.0 y.1) (λ i. (sym o.0 i, o.1 i)) (record {
    number = refl;
    kept = refl;
    own = refl;
    joined = λ i d lt. absurd (omega arith);
    numbers = one_number 0;
    made = λ n e'. ((cc), refl);
    seen = record { rest = []; is = refl };
  });
  unmade = λ r le. refl;
  latest = record { pass = 0; known = first_pass; at = refl; live = refl; seen = refl };
}

at_end : (l : List Known) (a b : Known) (j : ℕ) → get_elem? (l ++ a ∷ []) j ≡ some b → (get_elem? l j ≡ some b) ⊎ ((j ≡ length l) × (a ≡ b))
at_end [] a b zero e = inr (refl, some-injective a b e)
at_end [] a b (suc j) e = absurd (some-ne-none b (sym e))
at_end (x ∷ xs) a b zero e = inl e
at_end (x ∷ xs) a b (suc j) e = ⊎_elim (λ t. inl t) (λ (t : (j ≡ length xs) × (a ≡ b)). inr (ap suc t.0, t.1)) (at_end xs a b j e)

-- one view is changed to another that has seen the same
seen_set : (views : List Known) (pass : ℕ) (k w : Known) (h : History) → get_elem? views pass ≡ some k → w.live ≡ true → w.seen ≡ k.seen → HasSeen views h → HasSeen (set views pass w) h
seen_set views pass k w h at live same last = dite (ℕ_discrete last.pass pass)
    (λ e. record { pass = pass; known = w; at = set_here views pass w (within views pass k at); live = live; seen = same ∙ ap (λ (y : Known). y.seen) (some-injective k last.known (sym at ∙ ap (λ i. get_elem? views i) (sym e) ∙ last.at)) ∙ last.seen })
    (λ ne. record { pass = last.pass; known = last.known; at = set_else views pass last.pass w ne ∙ last.at; live = last.live; seen = last.seen })

seen_longer : (views : List Known) (w : Known) (h : History) → HasSeen views h → HasSeen (views ++ w ∷ []) h
seen_longer views w h last = record { pass = last.pass; known = last.known; at = at_longer views (w ∷ []) last.pass last.known last.at; live = last.live; seen = last.seen }

some_made : (o : Option ℕ) → IsSome o → (m : ℕ) × (o ≡ Some m)
some_made (Some m) is = (m, refl)
some_made None is = absurd (true≢false (sym is))

-- who keeps a pass, after a new one is made
newer : ℕ → (ℕ → ℕ) → ℕ → ℕ
newer n keeper r = cond (r == n) n (keeper r)

newer_new : (n : ℕ) (keeper : ℕ → ℕ) → newer n keeper n ≡ n
unfolding newer
newer_new n keeper = ap (λ b. cond b n (keeper n)) (eq-eqb n n refl)

newer_old : (n : ℕ) (keeper : ℕ → ℕ) (r : ℕ) → r < n → newer n keeper r ≡ keeper r
unfolding newer
newer_old n keeper r lt = ap (λ b. cond b n (keeper r)) (ne_eqb r n (λ e. omega arith))

pub makes : (pass : ℕ) (k : Known) → k.live ≡ true → IsSome k.made → Forks Relates pass k (after_making k) (made_pass k)
makes pass k live may pages views h at =
    let mine = h.known pass k at live in
    let n = length views in
    let l : Known = after_making k in
    let r : Known = made_pass k in
    let vs : List Known = set views pass l in
    let long : length vs ≡ n = length-set views pass l in
    let all : length (vs ++ r ∷ []) ≡ suc n = let a = length-append vs (r ∷ []) in omega arith in
    let here : pass < n = within views pass k at in
    let told = some_made k.made may in
    let count : told.0 ≡ n = (mine.made told.0 told.1).0 in
    let keeper' : ℕ → ℕ = newer n h.keeper in
    let F : ℕ → Known → Type 0 = KnowsMoves (suc n) h.history keeper' in
    let zero_kept : keeper' 0 ≡ h.keeper 0 = newer_old n h.keeper 0 (omega arith) in
    let still : (j : ℕ) (u : Known) → j < n → KnowsMoves n h.history h.keeper j u → All (IsJoinedTo (suc n) h.history keeper' j) u.joined = λ j u lt was i d lt'. let x = was.joined i d lt' in record { kept = newer_old n h.keeper (get_or u.joined i d).number x.below ∙ x.kept; other = x.other; below = (let b = x.below in omega arith); moves = x.moves } in
    let left' : F pass l = record {
      number = mine.number;
      kept = newer_old n h.keeper pass here ∙ mine.kept;
      own = mine.own;
      joined = still pass k here mine;
      numbers = mine.numbers;
      made = λ m e. let e' : Some (suc told.0) ≡ Some m = sym (ap (option_map suc) told.1) ∙ e in let e'' : suc told.0 ≡ m = (cc) in ((omega arith), zero_kept ∙ (mine.made told.0 told.1).1);
      seen = mine.seen;
    } in
    let others : (j : ℕ) (u : Known) → j ≢ pass → get_elem? views j ≡ some u → u.live ≡ true → F j u = λ j u ne e live'. let was = h.known j u e live' in let lt = within views j u e in record {
      number = was.number;
      kept = newer_old n h.keeper j lt ∙ was.kept;
      own = was.own;
      joined = still j u lt was;
      numbers = was.numbers;
      made = λ m e'. absurd (ne (sym (was.made m e').1 ∙ (mine.made told.0 told.1).1));
      seen = was.seen;
    } in
    let right' : F n r = record {
      number = ap made_count told.1 ∙ count;
      kept = newer_new n h.keeper;
      own = h.unmade n (omega arith);
      joined = λ i d lt. absurd (omega arith);
      numbers = one_number r.number;
      made = λ m e. absurd ((cc));
      seen = mine.seen;
    } in
    let olds : (j : ℕ) (u : Known) → get_elem? vs j ≡ some u → u.live ≡ true → F j u = all_set F views pass l (λ _. left') others in
    record {
      history = h.history;
      keeper = keeper';
      fifo = h.fifo;
      left = h.left;
      known = subst (λ m. (j : ℕ) (u : Known) → get_elem? (vs ++ r ∷ []) j ≡ some u → u.live ≡ true → KnowsMoves m h.history keeper' j u) (sym all)
          (λ j u e live'. ⊎_elim (λ t. olds j u t live') (λ (t : (j ≡ length vs) × (r ≡ u)). subst (λ (y : ℕ × Known). F y.0 y.1) (λ i. (sym (t.0 ∙ long) i, t.1 i)) right') (at_end vs r u j e));
      unmade = λ q le. h.unmade q (omega arith);
      latest = seen_longer vs r h.history (seen_set views pass k l h.history at live refl h.latest);
    }

-- who keeps a pass, after `other` was joined into `pass`
handed : ℕ → ℕ → (ℕ → ℕ) → ℕ → ℕ
handed pass other keeper r = cond (keeper r == other) pass (keeper r)

handed_over : (pass other : ℕ) (keeper : ℕ → ℕ) (r : ℕ) → keeper r ≡ other → handed pass other keeper r ≡ pass
unfolding handed
handed_over pass other keeper r e = ap (λ b. cond b pass (keeper r)) (eq-eqb (keeper r) other e)

handed_not : (pass other : ℕ) (keeper : ℕ → ℕ) (r q : ℕ) → keeper r ≡ q → q ≢ other → handed pass other keeper r ≡ q
unfolding handed
handed_not pass other keeper r q e ne = ap (λ b. cond b pass (keeper r)) (ne_eqb (keeper r) other (λ e'. ne (sym e ∙ e'))) ∙ e

either_made : (a b : Option ℕ) (m : ℕ) → either_number a b ≡ Some m → (a ≡ Some m) ⊎ (b ≡ Some m)
either_made (Some n) b m e = inl e
either_made None b m e = inr e

either_longer : (P : History → Type 0) (a b : History) → (length a < length b → P b) → (length b ≤ length a → P a) → P (longer_history a b)
either_longer P a b second first = by (nat_lt (length a) (length b)) refl
  where
    by : (t : Bool) → nat_lt (length a) (length b) ≡ t → P (cond t b a)
    by true e = second (ltb-true (length a) (length b) e)
    by false e = first (ltb-false (length a) (length b) e)

-- the longer of two beginnings of a history, one of which is the history, is the history
first_is_all : (a b h : History) → a ≡ h → GoesOn b h → longer_history a b ≡ h
first_is_all a b h e goes = either_longer (λ t. t ≡ h) a b (λ lt. absurd (let x = ap length e in let y = ap length goes.is in let z = length-append b goes.rest in omega arith)) (λ le. e)

second_is_all : (a b h : History) → GoesOn a h → b ≡ h → longer_history a b ≡ h
second_is_all a b h goes e = either_longer (λ t. t ≡ h) a b (λ lt. e)
    (λ le. let x = ap length e in let y = ap length goes.is in let z = length-append a goes.rest in let none : goes.rest ≡ [] = nil_from_length goes.rest (omega arith) in sym (goes.is ∙ ap (λ t. a ++ t) none ∙ append-nil a))

pub joins : (pass : ℕ) (k : Known) (other : ℕ) (w : Known) → k.live ≡ true → w.live ≡ true → Merges Relates pass k other w (with_joined w k) spent_pass
joins pass k other w live live' pages views h at two at' =
    let both : Known = with_joined w k in
    let vs : List Known = set views pass both in
    let theirs_at : get_elem? views other ≡ some w = ⊎_elim (λ (t : (other ≡ pass) × (both ≡ w)). absurd (two t.0)) (λ (t : (other ≢ pass) × (get_elem? views other ≡ some w)). t.1) (at_set views pass other both w at') in
    let ne : pass ≢ other = λ e. two (sym e) in
    let mine = h.known pass k at live in
    let theirs = h.known other w theirs_at live' in
    let n = length views in
    let keeper' : ℕ → ℕ = handed pass other h.keeper in
    let F : ℕ → Known → Type 0 = KnowsMoves n h.history keeper' in
    let both' : F pass both = record {
      number = mine.number;
      kept = handed_not pass other h.keeper pass pass mine.kept ne;
      own = mine.own;
      joined = All-append (IsJoinedTo n h.history keeper' pass) k.joined (record { number = w.number; moves = w.moves } ∷ w.joined)
          (λ i d lt. let x = mine.joined i d lt in record { kept = handed_not pass other h.keeper (get_or k.joined i d).number pass x.kept ne; other = x.other; below = x.below; moves = x.moves })
          (All-cons (IsJoinedTo n h.history keeper' pass) (record { number = w.number; moves = w.moves }) w.joined
          (record {
            kept = handed_over pass other h.keeper w.number (ap h.keeper theirs.number ∙ theirs.kept);
            other = λ e. two (sym theirs.number ∙ e);
            below = subst (λ r. r < n) (sym theirs.number) (within views other w theirs_at);
            moves = ap (λ r. moves_by r h.history) theirs.number ∙ theirs.own;
          })
          (λ i d lt. let x = theirs.joined i d lt in record {
            kept = handed_over pass other h.keeper (get_or w.joined i d).number x.kept;
            other = λ e. ne (sym mine.kept ∙ ap h.keeper (sym e) ∙ x.kept);
            below = x.below;
            moves = x.moves;
          }));
      numbers = subst HasNoTwice (ap (λ t. k.number ∷ t) (sym (map-append (λ (j : JoinedPass). j.number) k.joined (record { number = w.number; moves = w.moves } ∷ w.joined))))
          (apart h.keeper pass other (pass_numbers k) (pass_numbers w) ne (keeps_numbers n h.history h.keeper pass k mine) (keeps_numbers n h.history h.keeper other w theirs) mine.numbers theirs.numbers);
      made = λ m e. ⊎_elim (λ (e' : k.made ≡ Some m). let t = mine.made m e' in (t.0, handed_not pass other h.keeper 0 pass t.1 ne))
          (λ (e' : w.made ≡ Some m). let t = theirs.made m e' in (t.0, handed_over pass other h.keeper 0 t.1)) (either_made k.made w.made m e);
      seen = either_longer (λ t. GoesOn t h.history) k.seen w.seen (λ lt. theirs.seen) (λ le. mine.seen);
    } in
    let others : (j : ℕ) (u : Known) → j ≢ pass → j ≢ other → get_elem? views j ≡ some u → u.live ≡ true → F j u = λ j u not_pass not_other e l. let was = h.known j u e l in record {
      number = was.number;
      kept = handed_not pass other h.keeper j j was.kept not_other;
      own = was.own;
      joined = λ i d lt. let x = was.joined i d lt in record { kept = handed_not pass other h.keeper (get_or u.joined i d).number j x.kept not_other; other = x.other; below = x.below; moves = x.moves };
      numbers = was.numbers;
      made = λ m e'. let t = was.made m e' in (t.0, handed_not pass other h.keeper 0 j t.1 not_other);
      seen = was.seen;
    } in
    let G : ℕ → Known → Type 0 = λ j u. j ≢ other → F j u in
    let olds : (j : ℕ) (u : Known) → get_elem? vs j ≡ some u → u.live ≡ true → G j u = all_set G views pass both (λ _ _. both') (λ j u not_pass e l not_other. others j u not_pass not_other e l) in
    let all : length (set vs other spent_pass) ≡ n = length-set vs other spent_pass ∙ length-set views pass both in
    let last = h.latest in
    let both_at : get_elem? (set vs other spent_pass) pass ≡ some both = set_else vs other pass spent_pass ne ∙ set_here views pass both (within views pass k at) in
    let latest' : HasSeen (set vs other spent_pass) h.history = dite (ℕ_discrete last.pass pass)
    (λ e. record {
      pass = pass;
      known = both;
      at = both_at;
      live = live;
      seen = first_is_all k.seen w.seen h.history (ap (λ (y : Known). y.seen) (some-injective k last.known (sym at ∙ ap (λ i. get_elem? views i) (sym e) ∙ last.at)) ∙ last.seen) theirs.seen;
    })
    (λ not_pass. dite (ℕ_discrete last.pass other)
    (λ e. record {
      pass = pass;
      known = both;
      at = both_at;
      live = live;
      seen = second_is_all k.seen w.seen h.history mine.seen (ap (λ (y : Known). y.seen) (some-injective w last.known (sym theirs_at ∙ ap (λ i. get_elem? views i) (sym e) ∙ last.at)) ∙ last.seen);
    })
    (λ not_other. record { pass = last.pass; known = last.known; at = set_else vs other last.pass spent_pass not_other ∙ set_else views pass last.pass both not_pass ∙ last.at; live = last.live; seen = last.seen })) in
    record {
      history = h.history;
      keeper = keeper';
      fifo = h.fifo;
      left = h.left;
      known = subst (λ m. (j : ℕ) (u : Known) → get_elem? (set vs other spent_pass) j ≡ some u → u.live ≡ true → KnowsMoves m h.history keeper' j u) (sym all)
          (all_set F vs other spent_pass (λ spent. absurd (true≢false (sym spent))) (λ j u not_other e l. olds j u e l not_other));
      unmade = λ r le. h.unmade r (omega arith);
      latest = latest';
    }

-- a move of a history stands in the part of its pass
stands : (h : History) (i : ℕ) (d : PassMove) → i < length h → 1 ≤ length (moves_by (get_or h i d).pass h)
stands [] i d lt = absurd (omega arith)
stands (x ∷ xs) zero d lt = subst (λ b. 1 ≤ length (map (λ (m : PassMove). m.move) (cond b (x ∷ filter (λ m. m.pass == x.pass) xs) (filter (λ m. m.pass == x.pass) xs)))) (sym (eq-eqb x.pass x.pass refl)) (omega arith)
stands (x ∷ xs) (suc i) d lt = by (stands xs i d (omega arith)) (x.pass == (get_or xs i d).pass)
  where
    by : 1 ≤ length (moves_by (get_or xs i d).pass xs) → (b : Bool) → 1 ≤ length (map (λ (m : PassMove). m.move) (cond b (x ∷ filter (λ m. m.pass == (get_or xs i d).pass) xs) (filter (λ m. m.pass == (get_or xs i d).pass) xs)))
    by again true = omega arith
    by again false = again

pub wholes : (pass : ℕ) (k : Known) → k.live ≡ true → Learns Relates pass k (λ pages. IsAlone k → IsWholeAt k pages)
wholes pass k live pages views h at alone =
    let mine = h.known pass k at live in
    let seen : h.history ≡ k.seen = sym (seen_whole pages views pass k h at live alone) in
    let each : All (λ m. times m.pass (pass_numbers k) ≡ 1) h.history = λ i d lt. let p = (get_or h.history i d).pass in
    let here = stands h.history i d lt in
    every_pass pages views pass k h at live alone p (below p here) in
    record {
      whole = record {
        fifo = subst IsFifo seen h.fifo;
        own = ap (λ (y : ℕ × History). moves_by y.0 y.1) (λ i. (mine.number i, sym seen i)) ∙ mine.own;
        joined = λ i d lt. ap (λ t. moves_by (get_or k.joined i d).number t) (sym seen) ∙ (mine.joined i d lt).moves;
        each = subst (λ t. All (λ m. times m.pass (pass_numbers k) ≡ 1) t) seen each;
      };
      left = ap pages_left (sym seen) ∙ h.left;
    }
  where
    below : (p : ℕ) → 1 ≤ length (moves_by p h.history) → p < length views
    below p one = ⊎_elim (λ lt. lt) (λ le. absurd (let e = ap length (h.unmade p le) in omega arith)) (cases_lt p (length views))

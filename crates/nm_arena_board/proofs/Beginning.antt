-- A board on which nobody has sat.
use Rattle.std.proofs.Common.{◌≡◌, ℕ, zero, suc, ◌+◌, ◌≤◌, ◌==◌, cond, true, List, [], ◌∷◌, length, map, get_or, refl, sym, ap, ◌∙◌, subst, None, Some, arith}
use Rattle.std.specs.List.{All, count_by, range_with_len}
use Rattle.std.proofs.lemmas.List.Sums.{sum_by-cons}
use Rattle.nm_base.specs.Geometry.{Geometry}
use Rattle.nm_actor.specs.Boards.{not_sat}
use Rattle.nm_core.specs.State.{actor_count}
use Rattle.nm_arena.specs.Faces.{ArenaFace, SeatFace}
use Rattle.nm_arena.specs.Seats.{IsFirstSeat}
use Rattle.nm_queue.specs.Passes.{PassState, QueueState}
use Rattle.nm_rule.specs.Knows.{unstarted, unsplit_seats}
use Rattle.nm_rule.specs.declared.known.ActorSeat.{ActorSeat}
use Rattle.nm_rule.specs.declared.known.ActorSeat.TheVariants.{Unsplit}
use Rattle.nm_arena_chair.specs.ChairFaces.{board_name, stood_table}
use Rattle.nm_arena_board.specs.BoardFaces.{BoardFace, MainFace, board_state, new_board, told_by, has_rested, seat_by, nobody_there, has_sat, has_stood, IsFreshPass, IsMaker, IsBoardKept}

none_sat : (g : Geometry) (xs : List ℕ) → count_by has_sat (map (λ actor. Unsplit (unstarted g actor)) xs) ≡ 0
none_sat g [] = refl
none_sat g (x ∷ xs) = sum_by-cons (λ s. cond {A = ℕ} (has_sat s) 1 0) (Unsplit (unstarted g x)) (map (λ actor. Unsplit (unstarted g actor)) xs) ∙ ap (λ n. 0 + n) (none_sat g xs)

none_stood : (g : Geometry) (xs : List ℕ) → count_by has_stood (map (λ actor. Unsplit (unstarted g actor)) xs) ≡ 0
none_stood g [] = refl
none_stood g (x ∷ xs) = sum_by-cons (λ s. cond {A = ℕ} (has_stood s) 1 0) (Unsplit (unstarted g x)) (map (λ actor. Unsplit (unstarted g actor)) xs) ∙ ap (λ n. 0 + n) (none_stood g xs)

nobody_sat : (g : Geometry) (xs : List ℕ) (a : ℕ) → seat_by (get_or (map (λ actor. Unsplit (unstarted g actor)) xs) a nobody_there) ≡ not_sat
nobody_sat g [] a = refl
nobody_sat g (x ∷ xs) zero = refl
nobody_sat g (x ∷ xs) (suc a) = nobody_sat g xs a

maker-new : (q : QueueState) (seats : List ActorSeat) (p : PassState) → count_by has_sat seats ≡ 0 → IsFreshPass q p → IsMaker q seats [] p
maker-new q seats p none is = record {
  queue = is.queue;
  moves = is.moves;
  made = is.made ∙ ap (λ n. Some (suc n)) (sym none);
  joined = ap length is.joined;
}

pub new_kept : (arena : ArenaFace) (seat : SeatFace) (q r : QueueState) (m : MainFace) → IsFirstSeat arena seat → seat.seats ≡ unsplit_seats arena.geometry → IsFreshPass q m.candidates → IsFreshPass r m.pending
    → m.order ≡ [] → arena.geometry.cpus + 2 ≤ m.room → IsBoardKept arena seat q r (Some m) None
new_kept arena seat q r m first unsplit candidates pending none room =
    let g = arena.geometry in
    let sat : count_by has_sat seat.seats ≡ 0 = ap (count_by has_sat) unsplit ∙ none_sat g (range_with_len 0 (actor_count g)) in
    let back : count_by has_stood seat.seats ≡ 0 = ap (count_by has_stood) unsplit ∙ none_stood g (range_with_len 0 (actor_count g)) in
    record {
      seated = first;
      passes = record {
        candidates = subst (λ o. IsMaker q seat.seats o m.candidates) (sym none) (maker-new q seat.seats m.candidates sat candidates);
        pending = subst (λ o. IsMaker r seat.seats o m.pending) (sym none) (maker-new r seat.seats m.pending sat pending);
        order = record {
          many = ap length none ∙ sym back;
          stood = subst (λ o. All (λ a. has_stood (get_or seat.seats a nobody_there) ≡ true) o) (sym none) (λ i d lt. absurd (omega (arith, lt)));
          once = λ a. subst (λ o. count_by (λ b. b == a) o ≤ 1) (sym none) (omega arith);
        };
        room = subst (λ n. n ≤ m.room) (sym first.count) room;
      };
    }

pub new_told : (b : BoardFace) (m : MainFace) → b.main ≡ Some m → b.last ≡ None → m.order ≡ [] → b.seat.seats ≡ unsplit_seats b.arena.geometry
    → board_state b ≡ new_board (board_name b.arena b.candidates b.pending) b.arena.geometry b.candidates.capacity b.pending.capacity
new_told b m main last none unsplit =
    (λ i. record (board_state b) {
      seats = λ a. (ap (λ s. seat_by (get_or s a nobody_there)) unsplit ∙ nobody_sat b.arena.geometry (range_with_len 0 (actor_count b.arena.geometry)) a) i;
      lanes = ((λ j. told_by (main j) (last j)) ∙ (λ j a. stood_table (none j) m.candidates.known.joined m.pending.known.joined a)) i;
      rested = has_rested (main i) (last i);
    })

-- A board takes a chair back.
use Rattle.std.proofs.Common.{◌≡◌, ℕ, ◌<◌, false, true, length, get_or, sym, ap, ◌∙◌, subst, None, Some, is_some}
use Rattle.std.specs.Option.{option_map}
use Rattle.nm_actor.specs.Boards.{IsChairOf, with_stood}
use Rattle.nm_arena.specs.Faces.{SeatFace}
use Rattle.nm_arena.specs.Seats.{IsFirstSeat, with_seat, progress_at}
use Rattle.nm_queue.specs.Passes.{PassState}
use Rattle.nm_rule.specs.declared.known.ActorSeat.TheVariants.{Out}
use Rattle.nm_arena_chair.specs.LaneFaces.{IsSingle}
use Rattle.nm_arena_chair.specs.ChairFaces.{ChairFace, chair_state, others_table, IsChairKept}
use Rattle.nm_arena_chair.proofs.Order.{single_at}
use Rattle.nm_arena_board.specs.BoardFaces.{BoardFace, MainFace, board_state, has_rested, seat_by, nobody_there, IsTaking, IsMainKept, IsBoardKept, main_taking}
use Rattle.nm_arena_board.proofs.Sitting.{taking_now}
use Rattle.nm_arena_board.proofs.Standing.{is_out, has_room, taking_stood, board_stood, board_left}
use Rattle.nm_arena_board.proofs.Giving.{early}

-- a board, a chair of it that was not given rest, and the passes of the board
pub record IsTakingBack (b : BoardFace) (place : ChairFace) (m : MainFace) : Type 0 where
  pub main : b.main ≡ Some m
  pub last : b.last ≡ None
  pub none : place.others ≡ None
  pub out : get_or b.seat.seats place.seat.view.number nobody_there ≡ Out
  pub first : IsSingle place.candidate_pass.known
  pub second : IsSingle place.pending_pass.known
  pub taking : IsTaking b.candidates b.pending b.seat.seats m

pub sitter_out : (now inner : BoardFace) (place : ChairFace) → inner ≡ now → IsChairOf (board_state now) (chair_state place) → get_or inner.seat.seats place.seat.view.number nobody_there ≡ Out
sitter_out now inner place same of = is_out (get_or inner.seat.seats place.seat.view.number nobody_there) (ap (λ (b : BoardFace). seat_by (get_or b.seat.seats place.seat.view.number nobody_there)) same ∙ of.sits)

unrested : (now : BoardFace) (place : ChairFace) → place.others ≡ None → IsChairOf (board_state now) (chair_state place) → has_rested now.main now.last ≡ false
unrested now place none of = sym of.rested ∙ ap (λ o. is_some (option_map (others_table place.candidate_pass.known place.pending_pass.known) o)) none

pub taking_back : (now inner : BoardFace) (place : ChairFace) (m : MainFace) → inner ≡ now → inner.main ≡ Some m → place.others ≡ None → IsChairOf (board_state now) (chair_state place)
    → IsChairKept place.arena place.seat place.candidates place.candidate_pass place.pending place.pending_pass place.others
    → IsMainKept inner.candidates inner.pending inner.seat.seats inner.main inner.last → IsTakingBack inner place m
taking_back now inner place m same main none of kept passes =
    let before : has_rested (Some m) inner.last ≡ false = ap (λ k. has_rested k inner.last) (sym main) ∙ ap (λ (b : BoardFace). has_rested b.main b.last) same ∙ unrested now place none of in
    record {
      main = main;
      last = early m inner.last before;
      none = none;
      out = sitter_out now inner place same of;
      first = single_at place.others place.candidates place.candidate_pass none kept.candidate_pass;
      second = single_at place.others place.pending place.pending_pass none kept.pending_pass;
      taking = taking_now inner.candidates inner.pending inner.seat.seats m inner.last before (subst (λ k. IsMainKept inner.candidates inner.pending inner.seat.seats k inner.last) main passes);
    }

pub room_then : (b : BoardFace) (place : ChairFace) (m : MainFace) → IsTakingBack b place m → length m.order < m.room
room_then b place m is = has_room b.candidates b.pending b.seat.seats m place.seat.view.number is.out is.taking

-- the parts of the chair, as they were taken from it
pub record IsApart (place : ChairFace) (actor : ℕ) (seat : SeatFace) (c d : PassState) : Type 0 where
  pub actor_is : actor ≡ place.seat.view.number
  pub seat_is : seat ≡ place.seat
  pub candidates : c ≡ place.candidate_pass
  pub pending : d ≡ place.pending_pass

pub kept_then : (b : BoardFace) (place : ChairFace) (m after : MainFace) (actor : ℕ) (seat own : SeatFace) (c d : PassState) → IsTakingBack b place m → IsApart place actor own c d
    → IsFirstSeat b.arena seat → seat ≡ with_seat own b.seat → after ≡ main_taking actor c d m → IsBoardKept b.arena seat b.candidates b.pending (Some after) b.last
kept_then b place m after actor seat own c d is apart seated joined taken =
    let a = place.seat.view.number in
    let here = taking_stood b.candidates b.pending b.seat.seats m a (progress_at place.seat) place.candidate_pass place.pending_pass is.out is.first is.second is.taking in
    let then : after ≡ main_taking a place.candidate_pass place.pending_pass m = taken ∙ (λ i. main_taking (apart.actor_is i) (apart.candidates i) (apart.pending i) m) in
    let there : seat ≡ with_seat place.seat b.seat = joined ∙ ap (λ s. with_seat s b.seat) apart.seat_is in
    record {
      seated = seated;
      passes = subst (λ (s : SeatFace). IsMainKept b.candidates b.pending s.seats (Some after) b.last) (sym there)
          (subst (λ (k : MainFace). IsMainKept b.candidates b.pending (with_seat place.seat b.seat).seats (Some k) b.last) (sym then)
          (subst (λ l. IsMainKept b.candidates b.pending (with_seat place.seat b.seat).seats (Some (main_taking a place.candidate_pass place.pending_pass m)) l) (sym is.last) here));
    }

pub told_then : (now inner : BoardFace) (place : ChairFace) (m after : MainFace) (actor : ℕ) (seat own : SeatFace) (c d : PassState) → inner ≡ now → IsTakingBack inner place m → IsApart place actor own c d
    → seat ≡ with_seat own inner.seat → after ≡ main_taking actor c d m
    → board_state (record inner { seat = seat; main = Some after }) ≡ with_stood (chair_state place) (board_state now)
told_then now inner place m after actor seat own c d same is apart joined taken =
    let then : after ≡ main_taking place.seat.view.number place.candidate_pass place.pending_pass m = taken ∙ (λ i. main_taking (apart.actor_is i) (apart.candidates i) (apart.pending i) m) in
    let there : seat ≡ with_seat place.seat inner.seat = joined ∙ ap (λ s. with_seat s inner.seat) apart.seat_is in
    (λ i. board_state (record inner { seat = there i; main = Some (then i) }))
    ∙ board_stood inner place m is.main is.last is.none is.out is.first is.second is.taking
    ∙ ap (λ (b : BoardFace). with_stood (chair_state place) (board_state b)) same

-- and the last chair
pub told_last : (now inner : BoardFace) (place : ChairFace) (m : MainFace) (actor : ℕ) (seat own : SeatFace) → inner ≡ now → IsApart place actor own m.candidates m.pending → place.others ≡ Some m.order
    → IsChairOf (board_state now) (chair_state place) → seat ≡ with_seat own inner.seat
    → board_state (record inner { seat = seat; main = Some m; last = Some actor }) ≡ with_stood (chair_state place) (board_state now)
told_last now inner place m actor seat own same apart some of joined =
    let there : seat ≡ with_seat place.seat inner.seat = joined ∙ ap (λ s. with_seat s inner.seat) apart.seat_is in
    let rested : has_rested inner.main inner.last ≡ true =
    ap (λ (b : BoardFace). has_rested b.main b.last) same ∙ sym of.rested ∙ ap (λ o. is_some (option_map (others_table place.candidate_pass.known place.pending_pass.known) o)) some in
    (λ i. board_state (record inner { seat = there i; main = Some m; last = Some (apart.actor_is i) }))
    ∙ board_left inner place m some apart.candidates apart.pending rested (sitter_out now inner place same of)
    ∙ ap (λ (b : BoardFace). with_stood (chair_state place) (board_state b)) same

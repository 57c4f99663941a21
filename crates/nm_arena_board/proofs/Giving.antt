-- A board gives its last chair rest.
use Rattle.std.proofs.Common.{◌≡◌, ◌≢◌, ℕ, ◌+◌, false, true≢false, ◌∷◌, ◌++◌, length, get_or, refl, sym, ap, ◌∙◌, subst, Option, None, Some, is_some}
use Rattle.std.specs.Option.{option_map}
use Rattle.nm_actor.specs.Boards.{sitting, IsChairOf, IsLast, IsRested, told_lanes}
use Rattle.nm_actor.specs.Lanes.{LaneLists}
use Rattle.nm_arena.specs.Seats.{IsFirstSeat}
use Rattle.nm_queue.specs.Histories.{pages_left}
use Rattle.nm_queue.specs.Passes.{JoinedPass, IsWholeHistory, with_joined}
use Rattle.nm_queue.specs.Rules.{HasNoTwice}
use Rattle.nm_queue.proofs.Counts.{whole_rest}
use Rattle.nm_rule.specs.declared.known.ActorSeat.TheVariants.{Out}
use Rattle.nm_arena_chair.specs.LaneFaces.{IsSingle}
use Rattle.nm_arena_chair.specs.ChairFaces.{ChairFace, chair_state, board_name, stood_table, others_table, joined_later, IsBoardPass, rested_face}
use Rattle.nm_arena_board.specs.BoardFaces.{BoardFace, MainFace, board_state, told_by, has_rested, seat_by, nobody_there, IsTaking, IsMainKept, IsBoardKept}
use Rattle.nm_arena_board.proofs.Sitting.{taking_now}
use Rattle.nm_arena_board.proofs.Standing.{is_out}
use Rattle.nm_arena_board.proofs.Resting.{last_join, once_with, rest_by}

-- before rest a board has its passes, and no last actor
pub early : (m : MainFace) (last : Option ℕ) → has_rested (Some m) last ≡ false → last ≡ None
early m None before = refl
early m (Some x) before = absurd (true≢false before)

-- a board, the last chair, and the passes of the board
pub record IsGiving (b : BoardFace) (place : ChairFace) (m : MainFace) : Type 0 where
  pub main : b.main ≡ Some m
  pub last : b.last ≡ None
  pub none : place.others ≡ None
  pub out : get_or b.seat.seats place.seat.view.number nobody_there ≡ Out
  pub others : (a : ℕ) → a ≢ place.seat.view.number → seat_by (get_or b.seat.seats a nobody_there) ≡ sitting → ⊥
  pub taking : IsTaking b.candidates b.pending b.seat.seats m
  pub seated : IsFirstSeat b.arena b.seat

not-given : {A B : Type 0} (f : A → B) (o : Option A) → is_some (option_map f o) ≡ false → o ≡ None
not-given f None e = refl
not-given f (Some x) e = absurd (true≢false e)

pub giving : (now inner : BoardFace) (place : ChairFace) (n m : MainFace) → inner ≡ now → Some n ≡ inner.main → m ≡ n → has_rested now.main now.last ≡ false
    → IsChairOf (board_state now) (chair_state place) → IsLast (board_state now) (chair_state place) → IsBoardKept inner.arena inner.seat inner.candidates inner.pending inner.main inner.last → IsGiving inner place m
giving now inner place n m same main is before of last kept =
    let here : inner.main ≡ Some m = sym main ∙ ap (λ k. Some k) (sym is) in
    let unrested : has_rested (Some m) inner.last ≡ false = ap (λ k. has_rested k inner.last) (sym here) ∙ ap (λ (b : BoardFace). has_rested b.main b.last) same ∙ before in
    record {
      main = here;
      last = early m inner.last unrested;
      none = not-given (others_table place.candidate_pass.known place.pending_pass.known) place.others (of.rested ∙ before);
      out = is_out (get_or inner.seat.seats place.seat.view.number nobody_there) (ap (λ (b : BoardFace). seat_by (get_or b.seat.seats place.seat.view.number nobody_there)) same ∙ of.sits);
      others = λ a ne sits. last a ne (ap (λ (b : BoardFace). seat_by (get_or b.seat.seats a nobody_there)) (sym same) ∙ sits);
      taking = taking_now inner.candidates inner.pending inner.seat.seats m inner.last unrested (subst (λ k. IsMainKept inner.candidates inner.pending inner.seat.seats k inner.last) here kept.passes);
      seated = kept.seated;
    }

pub candidates_join : (b : BoardFace) (place : ChairFace) (m : MainFace) → IsGiving b place m → IsBoardPass b.candidates (length m.order) m.candidates
candidates_join b place m is = last_join b.candidates b.seat.seats m.order place.seat.view.number m.candidates is.out is.others is.taking.order is.taking.candidates

pub pending_join : (b : BoardFace) (place : ChairFace) (m : MainFace) → IsGiving b place m → IsBoardPass b.pending (length m.order) m.pending
pending_join b place m is = last_join b.pending b.seat.seats m.order place.seat.view.number m.pending is.out is.others is.taking.order is.taking.pending

pub last_once : (b : BoardFace) (place : ChairFace) (m : MainFace) → IsGiving b place m → HasNoTwice (place.seat.view.number ∷ m.order)
last_once b place m is = once_with b.seat.seats m.order place.seat.view.number is.out is.taking.order

-- what the chair tells then
chair_rested : (b : BoardFace) (p : ChairFace) (m : MainFace) → IsGiving b p m → board_name p.arena p.candidates p.pending ≡ board_name b.arena b.candidates b.pending
    → IsSingle p.candidate_pass.known → IsSingle p.pending_pass.known
    → IsWholeHistory (with_joined m.candidates.known p.candidate_pass.known) → IsWholeHistory (with_joined m.pending.known p.pending_pass.known)
    → IsRested (board_state b) (chair_state p) (chair_state (rested_face b.candidates m.candidates b.pending m.pending m.order p))
chair_rested b p m is name first second whole other_whole = record {
  is = λ i. record (chair_state after) {
    others = (left ∙ right) i;
    board = record { arena = p.arena.table; candidates = (sym name i).candidates; pending = (sym name i).pending };
  };
  candidates = record {
    is = refl;
    held = rest_by b.candidates.capacity (λ l. l.candidates) (b.arena.geometry.cpus + 2) b.seat.seats lanes m.order m.candidates.known p.candidate_pass.known (record { capacity = b.candidates.capacity; pages = pages_left (with_joined m.candidates.known p.candidate_pass.known).seen })
        refl (λ a j. (told a j).candidates) is.seated.count is.taking.candidates.joined is.taking.candidates.moves first.joined is.taking.order (whole_rest b.candidates.capacity (with_joined m.candidates.known p.candidate_pass.known) whole);
  };
  pending = record {
    is = refl;
    held = rest_by b.pending.capacity (λ l. l.pending) (b.arena.geometry.cpus + 2) b.seat.seats lanes m.order m.pending.known p.pending_pass.known (record { capacity = b.pending.capacity; pages = pages_left (with_joined m.pending.known p.pending_pass.known).seen })
        refl (λ a j. (told a j).pending) is.seated.count is.taking.pending.joined is.taking.pending.moves second.joined is.taking.order (whole_rest b.pending.capacity (with_joined m.pending.known p.pending_pass.known) other_whole);
  };
}
  where
    after : ChairFace
    after = rested_face b.candidates m.candidates b.pending m.pending m.order p

    jc : JoinedPass
    jc = record { number = m.candidates.known.number; moves = m.candidates.known.moves }

    jp : JoinedPass
    jp = record { number = m.pending.known.number; moves = m.pending.known.moves }

    lanes : ℕ → LaneLists
    lanes = told_lanes (option_map (others_table p.candidate_pass.known p.pending_pass.known) p.others) (told_by b.main b.last)

    told : (a : ℕ) → lanes a ≡ stood_table m.order m.candidates.known.joined m.pending.known.joined a
    told a j = told_lanes (option_map (others_table p.candidate_pass.known p.pending_pass.known) (is.none j)) (told_by (is.main j) (is.last j)) a

    left : Some (others_table (with_joined m.candidates.known p.candidate_pass.known) (with_joined m.pending.known p.pending_pass.known) m.order) ≡ Some (stood_table m.order m.candidates.known.joined m.pending.known.joined)
    left j = Some (stood_table m.order (joined_later (first.joined j ++ jc ∷ m.candidates.known.joined)) (joined_later (second.joined j ++ jp ∷ m.pending.known.joined)))

    right : Some (stood_table m.order m.candidates.known.joined m.pending.known.joined) ≡ Some lanes
    right j = Some (λ a. sym (told a) j)

pub is_rested : (now inner : BoardFace) (p new : ChairFace) (m : MainFace) → inner ≡ now → IsGiving inner p m → IsChairOf (board_state now) (chair_state p)
    → IsSingle p.candidate_pass.known → IsSingle p.pending_pass.known → new ≡ rested_face inner.candidates m.candidates inner.pending m.pending m.order p
    → IsWholeHistory new.candidate_pass.known → IsWholeHistory new.pending_pass.known → IsRested (board_state now) (chair_state p) (chair_state new)
is_rested now inner p new m same is of first second given whole other_whole =
    let name : board_name p.arena p.candidates p.pending ≡ board_name inner.arena inner.candidates inner.pending = of.name ∙ ap (λ (b : BoardFace). board_name b.arena b.candidates b.pending) (sym same) in
    let here = chair_rested inner p m is name first second (subst (λ (c : ChairFace). IsWholeHistory c.candidate_pass.known) given whole) (subst (λ (c : ChairFace). IsWholeHistory c.pending_pass.known) given other_whole) in
    subst (λ (b : BoardFace). IsRested (board_state b) (chair_state p) (chair_state new)) same (subst (λ (c : ChairFace). IsRested (board_state inner) (chair_state p) (chair_state c)) (sym given) here)

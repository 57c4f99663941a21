-- The seat of an actor is split off.
use Rattle.std.proofs.Common.{◌≡◌, ℕ, suc, ◌+◌, ◌<◌, ◌≤◌, cond, true, false, true≢false, List, length, set, get_or, refl, sym, ap, ◌∙◌, subst, eq-eqb, ne_eqb, Option, None, Some, arith}
use Rattle.std.specs.List.{count_by}
use Rattle.std.proofs.Math.ListN.{length-set}
use Rattle.std.specs.Option.{option_map}
use Rattle.std.proofs.lemmas.List.{get_or-set_same, get_or-set_other}
use Rattle.std.proofs.lemmas.List.Sums.{sum_by-set}
use native.Mathlib.Decide.{ℕ_discrete}
use mathlib.Core.Logic.{dite}
use Rattle.nm_actor.specs.Boards.{not_sat, with_entry}
use Rattle.nm_actor.specs.Boards.{with_sat}
use Rattle.nm_arena.specs.Faces.{SeatFace}
use Rattle.nm_arena.specs.Seats.{without_seat, IsFirstSeat}
use Rattle.nm_queue.specs.Passes.{PassState, QueueState, after_making}
use Rattle.nm_arena_board.specs.BoardFaces.{BoardFace, MainFace, IsBoardKept, board_state, told_by, has_rested, seat_by, nobody_there, has_sat, has_stood, IsOrderOf, IsMaker, IsTaking, IsMainKept}
use Rattle.nm_rule.specs.declared.known.ActorSeat.{ActorSeat}
use Rattle.nm_rule.specs.declared.known.ActorSeat.TheVariants.{Unsplit, Out, Back}

-- the seat of an actor is another one
pub seats_with : (seats : List ActorSeat) (actor : ℕ) (e : ActorSeat) → actor < length seats → (a : ℕ)
    → seat_by (get_or (set seats actor e) a nobody_there) ≡ with_entry actor (seat_by e) (λ b. seat_by (get_or seats b nobody_there)) a
seats_with seats actor e lt a = dite (ℕ_discrete a actor)
    (λ same. let P : ℕ → Type 0 = λ k. seat_by (get_or (set seats actor e) k nobody_there) ≡ with_entry actor (seat_by e) (λ b. seat_by (get_or seats b nobody_there)) k in
    subst P (sym same) (ap seat_by (get_or-set_same seats actor e nobody_there lt) ∙ sym (ap (λ b. cond b (seat_by e) (seat_by (get_or seats actor nobody_there))) (eq-eqb actor actor (λ i. actor)))))
    (λ ne. ap seat_by (get_or-set_other seats actor a e nobody_there ne) ∙ sym (ap (λ b. cond b (seat_by e) (seat_by (get_or seats a nobody_there))) (ne_eqb a actor ne)))

not-sat : (s : ActorSeat) → seat_by s ≡ not_sat → (has_sat s ≡ false) × (has_stood s ≡ false)
not-sat (Unsplit p) e = (refl, refl)
not-sat Out e = absurd (cc)
not-sat (Back p) e = absurd (cc)

pub one_more_sat : (seats : List ActorSeat) (actor : ℕ) → actor < length seats → seat_by (get_or seats actor nobody_there) ≡ not_sat
    → count_by has_sat (set seats actor Out) ≡ suc (count_by has_sat seats)
one_more_sat seats actor lt e =
    let h : count_by has_sat (set seats actor Out) + cond {A = ℕ} (has_sat (get_or seats actor nobody_there)) 1 0 ≡ count_by has_sat seats + 1 = sum_by-set (λ s. cond {A = ℕ} (has_sat s) 1 0) seats actor Out nobody_there lt in
    let z : cond {A = ℕ} (has_sat (get_or seats actor nobody_there)) 1 0 ≡ 0 = ap (λ b. cond {A = ℕ} b 1 0) (not-sat (get_or seats actor nobody_there) e).0 in
    omega (arith, h, z)

pub none_more_stood : (seats : List ActorSeat) (actor : ℕ) → actor < length seats → seat_by (get_or seats actor nobody_there) ≡ not_sat
    → count_by has_stood (set seats actor Out) ≡ count_by has_stood seats
none_more_stood seats actor lt e =
    let h : count_by has_stood (set seats actor Out) + cond {A = ℕ} (has_stood (get_or seats actor nobody_there)) 1 0 ≡ count_by has_stood seats + 0 = sum_by-set (λ s. cond {A = ℕ} (has_stood s) 1 0) seats actor Out nobody_there lt in
    let z : cond {A = ℕ} (has_stood (get_or seats actor nobody_there)) 1 0 ≡ 0 = ap (λ b. cond {A = ℕ} b 1 0) (not-sat (get_or seats actor nobody_there) e).1 in
    omega (arith, h, z)

-- an actor that has stood is not the one that sits now
stood-other : (seats : List ActorSeat) (actor a : ℕ) → seat_by (get_or seats actor nobody_there) ≡ not_sat → has_stood (get_or seats a nobody_there) ≡ true
    → has_stood (get_or (set seats actor Out) a nobody_there) ≡ true
stood-other seats actor a e back = dite (ℕ_discrete a actor)
    (λ same. absurd (true≢false (sym back ∙ ap (λ k. has_stood (get_or seats k nobody_there)) same ∙ (not-sat (get_or seats actor nobody_there) e).1)))
    (λ ne. ap has_stood (get_or-set_other seats actor a Out nobody_there ne) ∙ back)

pub order_kept : (seats : List ActorSeat) (order : List ℕ) (actor : ℕ) → actor < length seats → seat_by (get_or seats actor nobody_there) ≡ not_sat → IsOrderOf seats order
    → IsOrderOf (set seats actor Out) order
order_kept seats order actor lt e is = record {
  many = is.many ∙ sym (none_more_stood seats actor lt e);
  stood = λ i d there. stood-other seats actor (get_or order i d) e (is.stood i d there);
  once = is.once;
}

-- a pass after it made one
abbrev pub making : PassState → PassState
making p = record p { known = after_making p.known }

-- the passes of a board after they made one each
abbrev pub main_making : MainFace → MainFace
main_making m = record m { candidates = making m.candidates; pending = making m.pending }

maker-sat : (q : QueueState) (seats : List ActorSeat) (order : List ℕ) (actor : ℕ) (p : PassState) → actor < length seats → seat_by (get_or seats actor nobody_there) ≡ not_sat
    → IsMaker q seats order p → IsMaker q (set seats actor Out) order (making p)
maker-sat q seats order actor p lt e is = record {
  queue = is.queue;
  moves = is.moves;
  made = ap (option_map suc) is.made ∙ ap (λ n. Some (suc n)) (sym (one_more_sat seats actor lt e));
  joined = is.joined;
}

pub main_sat : (q r : QueueState) (seats : List ActorSeat) (actor : ℕ) (m : MainFace) (last : Option ℕ) → has_rested (Some m) last ≡ false → actor < length seats
    → seat_by (get_or seats actor nobody_there) ≡ not_sat → IsMainKept q r seats (Some m) last → IsMainKept q r (set seats actor Out) (Some (main_making m)) last
main_sat q r seats actor m None before lt e kept = record {
  candidates = maker-sat q seats m.order actor m.candidates lt e kept.candidates;
  pending = maker-sat r seats m.order actor m.pending lt e kept.pending;
  order = order_kept seats m.order actor lt e kept.order;
  room = subst (λ n. n ≤ m.room) (sym (length-set seats actor Out)) kept.room;
}
main_sat q r seats actor m (Some x) before lt e kept = absurd (true≢false before)

-- before rest a board takes in passes
pub taking_now : (q r : QueueState) (seats : List ActorSeat) (m : MainFace) (last : Option ℕ) → has_rested (Some m) last ≡ false → IsMainKept q r seats (Some m) last → IsTaking q r seats m
taking_now q r seats m None before kept = kept
taking_now q r seats m (Some x) before kept = absurd (true≢false before)

pub told_sat : (m : MainFace) (last : Option ℕ) → told_by (Some (main_making m)) last ≡ told_by (Some m) last
told_sat m None = refl
told_sat m (Some x) = refl

pub rested_sat : (m : MainFace) (last : Option ℕ) → has_rested (Some (main_making m)) last ≡ has_rested (Some m) last
rested_sat m None = refl
rested_sat m (Some x) = refl

pub board_sat : (now inner : BoardFace) (actor : ℕ) (seat : SeatFace) (m : MainFace) → inner ≡ now → inner.main ≡ Some m → actor < length inner.seat.seats → seat ≡ without_seat actor inner.seat
    → board_state (record inner { seat = seat; main = Some (main_making m) }) ≡ with_sat actor (board_state now)
board_sat now inner actor seat m same main lt split =
    ap (λ s. board_state (record inner { seat = s; main = Some (main_making m) })) split
    ∙ (λ i. record (board_state inner) {
      seats = λ a. seats_with inner.seat.seats actor Out lt a i;
      lanes = (told_sat m inner.last ∙ ap (λ n. told_by n inner.last) (sym main)) i;
      rested = (rested_sat m inner.last ∙ ap (λ n. has_rested n inner.last) (sym main)) i;
    })
    ∙ ap (λ (b : BoardFace). with_sat actor (board_state b)) same

-- the same where the passes are told one by one, and what a board keeps
pub sat_board : (now inner : BoardFace) (actor : ℕ) (seat : SeatFace) (m n : MainFace) (p o : PassState) → inner ≡ now → inner.main ≡ Some n → m ≡ n → actor < length inner.seat.seats
    → seat ≡ without_seat actor inner.seat → p ≡ making m.candidates → o ≡ making m.pending
    → board_state (record inner { seat = seat; main = Some (record m { candidates = p; pending = o }) }) ≡ with_sat actor (board_state now)
sat_board now inner actor seat m n p o same main is lt split first second =
    (λ i. board_state (record inner { seat = seat; main = Some (record m { candidates = first i; pending = second i }) }))
    ∙ board_sat now inner actor seat m same (main ∙ ap (λ k. Some k) (sym is)) lt split

pub sat_kept : (now inner : BoardFace) (actor : ℕ) (seat : SeatFace) (m n : MainFace) (p o : PassState) → inner ≡ now → inner.main ≡ Some n → m ≡ n → actor < length inner.seat.seats
    → seat ≡ without_seat actor inner.seat → p ≡ making m.candidates → o ≡ making m.pending
    → has_rested now.main now.last ≡ false → seat_by (get_or now.seat.seats actor nobody_there) ≡ not_sat
    → IsFirstSeat inner.arena seat → IsMainKept inner.candidates inner.pending inner.seat.seats inner.main inner.last
    → IsBoardKept inner.arena seat inner.candidates inner.pending (Some (record m { candidates = p; pending = o })) inner.last
sat_kept now inner actor seat m n p o same main is lt split first second before once seated kept =
    let here : inner.main ≡ Some m = main ∙ ap (λ k. Some k) (sym is) in
    let early : has_rested (Some m) inner.last ≡ false = ap (λ k. has_rested k inner.last) (sym here) ∙ ap (λ (b : BoardFace). has_rested b.main b.last) same ∙ before in
    let free : seat_by (get_or inner.seat.seats actor nobody_there) ≡ not_sat = ap (λ (b : BoardFace). seat_by (get_or b.seat.seats actor nobody_there)) same ∙ once in
    let now_kept = main_sat inner.candidates inner.pending inner.seat.seats actor m inner.last early lt free (subst (λ k. IsMainKept inner.candidates inner.pending inner.seat.seats k inner.last) here kept) in
    record {
      seated = seated;
      passes = subst (λ (s : SeatFace). IsMainKept inner.candidates inner.pending s.seats (Some (record m { candidates = p; pending = o })) inner.last) (sym split)
          (subst (λ (k : MainFace). IsMainKept inner.candidates inner.pending (set inner.seat.seats actor Out) (Some k) inner.last) (λ i. record m { candidates = sym first i; pending = sym second i }) now_kept);
    }

-- The seat of an actor is joined back.
use Rattle.std.proofs.Common.{◌≡◌, ◌≢◌, ℕ, zero, suc, ◌+◌, ◌<◌, ◌≤◌, ◌==◌, cond, true, false, true≢false, List, [], ◌∷◌, ◌++◌, length, set, get_or, refl, sym, ap, ◌∙◌, subst, ne_eqb, None, Some, arith}
use Rattle.std.specs.List.{All, count_by}
use Rattle.std.proofs.Math.ListN.{length-append, length-set}
use Rattle.std.proofs.lemmas.List.{get_or-set_same, get_or-set_other}
use Rattle.std.proofs.lemmas.List.Elements.{All-append, All-cons}
use Rattle.std.proofs.lemmas.List.Sums.{sum_by-cons, sum_by-set, sum_by-append, count_by-le-length}
use native.Mathlib.Decide.{ℕ_discrete}
use mathlib.Core.Logic.{dite}
use Rattle.std.specs.Option.{option_map}
use Rattle.nm_actor.specs.Lanes.{LaneLists}
use Rattle.nm_actor.specs.Boards.{sitting, with_entry, with_stood, told_lanes}
use Rattle.nm_arena.specs.Seats.{with_seat, progress_at}
use Rattle.nm_queue.specs.Passes.{PassState, QueueState, JoinedPass, either_number}
use Rattle.nm_queue.proofs.Numbers.{times, absent}
use Rattle.nm_rule.specs.declared.known.ActorSeat.{ActorSeat}
use Rattle.nm_rule.specs.declared.known.ActorSeat.TheVariants.{Unsplit, Out, Back}
use Rattle.nm_rule.specs.declared.known.Progress.{Progress}
use Rattle.nm_rule.specs.Knows.{unstarted, no_geometry}
use Rattle.nm_arena_chair.specs.LaneFaces.{IsSingle}
use Rattle.nm_arena_chair.specs.ChairFaces.{ChairFace, chair_state, stood_table, others_table}
use Rattle.nm_arena_board.specs.BoardFaces.{BoardFace, MainFace, board_state, told_by, has_rested, seat_by, nobody_there, has_sat, has_stood, IsOrderOf, IsMaker, IsTaking, taking, main_taking}
use Rattle.nm_arena_board.proofs.Sitting.{seats_with}
use Rattle.nm_arena_board.proofs.Tables.{table_more}

pub is_out : (s : ActorSeat) → seat_by s ≡ sitting → s ≡ Out
is_out (Unsplit p) e = absurd (cc)
is_out Out e = refl
is_out (Back p) e = absurd (cc)

pub out_there : (seats : List ActorSeat) (a : ℕ) → get_or seats a nobody_there ≡ Out → a < length seats
out_there [] a e = absurd (cc)
out_there (s ∷ seats) zero e = omega arith
out_there (s ∷ seats) (suc a) e = omega (arith, out_there seats a e)

pub back_there : (seats : List ActorSeat) (a : ℕ) → has_stood (get_or seats a nobody_there) ≡ true → a < length seats
back_there [] a e = absurd (true≢false (sym e))
back_there (s ∷ seats) zero e = omega arith
back_there (s ∷ seats) (suc a) e = omega (arith, back_there seats a e)

-- those that have stood are not the one that sits
pub apart_from : (seats : List ActorSeat) (order : List ℕ) (a : ℕ) → has_stood (get_or seats a nobody_there) ≡ false → All (λ o. has_stood (get_or seats o nobody_there) ≡ true) order → All (λ o. o ≢ a) order
apart_from seats order a off back i d lt e = true≢false (sym (back i d lt) ∙ ap (λ k. has_stood (get_or seats k nobody_there)) e ∙ off)

pub as_many_sat : (seats : List ActorSeat) (a : ℕ) (p : Progress) → get_or seats a nobody_there ≡ Out → count_by has_sat (set seats a (Back p)) ≡ count_by has_sat seats
as_many_sat seats a p out =
    let h : count_by has_sat (set seats a (Back p)) + cond {A = ℕ} (has_sat (get_or seats a nobody_there)) 1 0 ≡ count_by has_sat seats + 1 = sum_by-set (λ s. cond {A = ℕ} (has_sat s) 1 0) seats a (Back p) nobody_there (out_there seats a out) in
    let z : cond {A = ℕ} (has_sat (get_or seats a nobody_there)) 1 0 ≡ 1 = ap (λ s. cond {A = ℕ} (has_sat s) 1 0) out in
    omega (arith, h, z)

pub one_more_stood : (seats : List ActorSeat) (a : ℕ) (p : Progress) → get_or seats a nobody_there ≡ Out → count_by has_stood (set seats a (Back p)) ≡ suc (count_by has_stood seats)
one_more_stood seats a p out =
    let h : count_by has_stood (set seats a (Back p)) + cond {A = ℕ} (has_stood (get_or seats a nobody_there)) 1 0 ≡ count_by has_stood seats + 1 = sum_by-set (λ s. cond {A = ℕ} (has_stood s) 1 0) seats a (Back p) nobody_there (out_there seats a out) in
    let z : cond {A = ℕ} (has_stood (get_or seats a nobody_there)) 1 0 ≡ 0 = ap (λ s. cond {A = ℕ} (has_stood s) 1 0) out in
    omega (arith, h, z)

stood-still : (seats : List ActorSeat) (a o : ℕ) (p : Progress) → get_or seats a nobody_there ≡ Out → has_stood (get_or seats o nobody_there) ≡ true → has_stood (get_or (set seats a (Back p)) o nobody_there) ≡ true
stood-still seats a o p out back = dite (ℕ_discrete o a)
    (λ same. ap (λ k. has_stood (get_or (set seats a (Back p)) k nobody_there)) same ∙ ap has_stood (get_or-set_same seats a (Back p) nobody_there (out_there seats a out)))
    (λ ne. ap has_stood (get_or-set_other seats a o (Back p) nobody_there ne) ∙ back)

pub order_stood : (seats : List ActorSeat) (order : List ℕ) (a : ℕ) (p : Progress) → get_or seats a nobody_there ≡ Out → IsOrderOf seats order → IsOrderOf (set seats a (Back p)) (order ++ a ∷ [])
order_stood seats order a p out is = record {
  many = let m = is.many in let l = length-append order (a ∷ []) in let s = one_more_stood seats a p out in omega (arith, m, l, s);
  stood = All-append (λ o. has_stood (get_or (set seats a (Back p)) o nobody_there) ≡ true) order (a ∷ []) (λ i d lt. stood-still seats a (get_or order i d) p out (is.stood i d lt))
      (All-cons (λ o. has_stood (get_or (set seats a (Back p)) o nobody_there) ≡ true) a [] (ap has_stood (get_or-set_same seats a (Back p) nobody_there (out_there seats a out))) (λ i d lt. absurd (omega (arith, lt))));
  once = λ x. dite (ℕ_discrete a x)
      (λ e. let n : times x order ≡ 0 = ap (λ k. times k order) (sym e) ∙ absent a order (apart_from seats order a (ap has_stood out) is.stood) in
      let h : times x (order ++ a ∷ []) ≡ times x order + times x (a ∷ []) = sum_by-append (λ b. cond {A = ℕ} (b == x) 1 0) order (a ∷ []) in
      let c : times x (a ∷ []) ≤ 1 = count_by-le-length (λ b. b == x) (a ∷ []) in
      omega (arith, n, h, c))
      (λ ne. let h : times x (order ++ a ∷ []) ≡ times x order + times x (a ∷ []) = sum_by-append (λ b. cond {A = ℕ} (b == x) 1 0) order (a ∷ []) in
      let z : cond {A = ℕ} (a == x) 1 0 ≡ 0 = ap (λ b. cond {A = ℕ} b 1 0) (ne_eqb a x ne) in
      let c : times x (a ∷ []) ≡ cond {A = ℕ} (a == x) 1 0 + 0 = sum_by-cons (λ b. cond {A = ℕ} (b == x) 1 0) a [] in
      let u = is.once x in omega (arith, h, z, c, u));
}

pub maker_stood : (q : QueueState) (seats : List ActorSeat) (order : List ℕ) (a : ℕ) (p : Progress) (m c : PassState) → get_or seats a nobody_there ≡ Out → IsSingle c.known
    → IsMaker q seats order m → IsMaker q (set seats a (Back p)) (order ++ a ∷ []) (taking c m)
maker_stood q seats order a p m c out single is = record {
  queue = is.queue;
  moves = is.moves;
  made = ap (λ n. either_number n c.known.made) is.made ∙ ap (λ n. Some (suc n)) (sym (as_many_sat seats a p out));
  joined = let l = length-append order (a ∷ []) in
      let j = length-append m.known.joined (record { number = c.known.number; moves = c.known.moves } ∷ c.known.joined) in
      let z : length c.known.joined ≡ 0 = ap length single.joined in
      let e = is.joined in omega (arith, l, j, z, e);
}

-- before rest a board takes in the passes of an actor that stands
pub taking_stood : (q r : QueueState) (seats : List ActorSeat) (m : MainFace) (a : ℕ) (p : Progress) (c d : PassState) → get_or seats a nobody_there ≡ Out → IsSingle c.known → IsSingle d.known
    → IsTaking q r seats m → IsTaking q r (set seats a (Back p)) (main_taking a c d m)
taking_stood q r seats m a p c d out first second is = record {
  candidates = maker_stood q seats m.order a p m.candidates c out first is.candidates;
  pending = maker_stood r seats m.order a p m.pending d out second is.pending;
  order = order_stood seats m.order a p out is.order;
  room = subst (λ n. n ≤ m.room) (sym (length-set seats a (Back p))) is.room;
}

-- and has room for its number
pub has_room : (q r : QueueState) (seats : List ActorSeat) (m : MainFace) (a : ℕ) → get_or seats a nobody_there ≡ Out → IsTaking q r seats m → length m.order < m.room
has_room q r seats m a out is =
    let s = one_more_stood seats a (unstarted no_geometry 0) out in
    let c = count_by-le-length has_stood (set seats a (Back (unstarted no_geometry 0))) in
    let l = length-set seats a (Back (unstarted no_geometry 0)) in
    let n = is.order.many in let room = is.room in
    omega (arith, s, c, l, n, room)

-- what it tells then
told_stood : (q r : QueueState) (seats : List ActorSeat) (m : MainFace) (a : ℕ) (c d : PassState) → get_or seats a nobody_there ≡ Out → IsSingle c.known → IsSingle d.known → IsTaking q r seats m
    → told_by (Some (main_taking a c d m)) None ≡ with_entry a (record { candidates = c.known.moves; pending = d.known.moves }) (told_by (Some m) None)
told_stood q r seats m a c d out first second is =
    let jc : JoinedPass = record { number = c.known.number; moves = c.known.moves } in
    let jd : JoinedPass = record { number = d.known.number; moves = d.known.moves } in
    (λ i x. stood_table (m.order ++ a ∷ []) (m.candidates.known.joined ++ jc ∷ first.joined i) (m.pending.known.joined ++ jd ∷ second.joined i) x)
    ∙ (λ i x. table_more m.order m.candidates.known.joined m.pending.known.joined a jc jd x is.candidates.joined is.pending.joined (apart_from seats m.order a (ap has_stood out) is.order.stood) i)

-- a board with the seat of an actor that stood before rest
pub board_stood : (b : BoardFace) (place : ChairFace) (m : MainFace) → b.main ≡ Some m → b.last ≡ None → place.others ≡ None
    → get_or b.seat.seats place.seat.view.number nobody_there ≡ Out → IsSingle place.candidate_pass.known → IsSingle place.pending_pass.known → IsTaking b.candidates b.pending b.seat.seats m
    → board_state (record b { seat = with_seat place.seat b.seat; main = Some (main_taking place.seat.view.number place.candidate_pass place.pending_pass m) }) ≡ with_stood (chair_state place) (board_state b)
board_stood b place m main last none out first second is =
    let a = place.seat.view.number in
    let after : MainFace = main_taking a place.candidate_pass place.pending_pass m in
    let lists : LaneLists = record { candidates = place.candidate_pass.known.moves; pending = place.pending_pass.known.moves } in
    (λ i. record (board_state b) {
      seats = λ x. seats_with b.seat.seats a (Back (progress_at place.seat)) (out_there b.seat.seats a out) x i;
      lanes = (ap (λ l. told_by (Some after) l) last ∙ told_stood b.candidates b.pending b.seat.seats m a place.candidate_pass place.pending_pass out first second is
          ∙ sym (λ j. with_entry a lists (told_lanes (option_map (others_table place.candidate_pass.known place.pending_pass.known) (none j)) (told_by (main j) (last j))))) i;
      rested = (ap (λ l. has_rested (Some after) l) last ∙ sym (λ j. has_rested (main j) (last j))) i;
    })

-- a board to which the last chair was given back
pub board_left : (b : BoardFace) (place : ChairFace) (m : MainFace) → place.others ≡ Some m.order → m.candidates ≡ place.candidate_pass → m.pending ≡ place.pending_pass → has_rested b.main b.last ≡ true
    → get_or b.seat.seats place.seat.view.number nobody_there ≡ Out
    → board_state (record b { seat = with_seat place.seat b.seat; main = Some m; last = Some place.seat.view.number }) ≡ with_stood (chair_state place) (board_state b)
board_left b place m some first second rested out =
    let a = place.seat.view.number in
    let lists : LaneLists = record { candidates = place.candidate_pass.known.moves; pending = place.pending_pass.known.moves } in
    (λ i. record (board_state b) {
      seats = λ x. seats_with b.seat.seats a (Back (progress_at place.seat)) (out_there b.seat.seats a out) x i;
      lanes = ((λ j. with_entry a (record { candidates = (first j).known.moves; pending = (second j).known.moves }) (others_table (first j).known (second j).known m.order))
          ∙ sym (λ j. with_entry a lists (told_lanes (option_map (others_table place.candidate_pass.known place.pending_pass.known) (some j)) (told_by b.main b.last)))) i;
      rested = sym rested i;
    })

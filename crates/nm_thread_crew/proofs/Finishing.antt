-- The last chair is given rest, its actor ends again and stands up.
use Rattle.std.proofs.Common.{◌≡◌, ◌≢◌, ℕ, ◌+◌, ◌<◌, ◌≤◌, true, List, refl, sym, ap, ◌∙◌, subst, Option, Some, None, arith, inl, inr}
use Rattle.std.specs.Prelude.{is_some}
use Rattle.std.proofs.lemmas.Bool.{cases_lt}
use Rattle.nm_action.specs.Own.{Own}
use Rattle.nm_action.specs.declared.turn.Turn.{Turn}
use Rattle.nm_action.specs.declared.turn.Turn.TheVariants.{End}
use Rattle.nm_base.specs.Geometry.{Geometry}
use Rattle.nm_view.specs.Views.{View}
use Rattle.nm_actor.specs.Lanes.{LaneMove, LaneLists, LaneState}
use Rattle.nm_actor.specs.Turns.{Turns}
use Rattle.nm_actor.specs.Chairs.{ChairState}
use Rattle.nm_actor.specs.Boards.{BoardState, Seat, not_sat, sitting, stood, IsChairOf, IsLast, IsRested, IsRestedBoard, lanes_of, told_lanes, with_entry, with_stood}
use Rattle.nm_threads.specs.Driven.{IsDriven}
use Rattle.nm_thread_crew.specs.Boarded.{HasEndedAt, HasStoodLast, HaveOthersStood, IsFinished, IsStood}
use Rattle.nm_threads.proofs.Kept.{made-keeps}
use Rattle.nm_thread_crew.proofs.Chairs.{driven-at}
use Rattle.nm_thread_crew.proofs.Seats.{entry-same, entry-other, kept-seat}
use Rattle.nm_thread_crew.proofs.Lanes.{emptied-lane}

abbrev rested-at : {N : Type 0} (b : BoardState N) (n : ℕ) (agrees agrees' : Turns → Option Turn → Type 0) (old mid : ChairState N)
    → IsRested b old mid → HasEndedAt b n agrees (Some End) old → ((turns : Turns) → agrees turns (Some End) → agrees' turns None) → HasEndedAt b n agrees' None mid
rested-at {N} b n agrees agrees' old mid r at again =
    let own : ChairState N → Own = λ c. c.own in
    let view : ChairState N → View = λ c. c.view in
    let machine : ChairState N → Geometry = λ c. c.geometry in
    let sitter : ChairState N → ℕ = λ c. c.actor in
    let name : ChairState N → N = λ c. c.board in
    let moves : LaneState → List LaneMove = λ l. l.moves in
    record {
      turns = at.turns;
      agreed = again at.turns at.agreed;
      own = ap own r.is ∙ at.own;
      candidates = ap moves r.candidates.is ∙ at.candidates;
      pending = ap moves r.pending.is ∙ at.pending;
      view = ap view r.is ∙ at.view;
      machine = ap machine r.is ∙ at.machine;
      sitter = ap sitter r.is ∙ at.sitter;
      name = ap name r.is ∙ at.name;
    }

-- where it stands after its turns
abbrev ended-again : {N M : Type 0} (geometry : M → Geometry) (number : M → ℕ) (made : M) (agrees agrees' agrees'' : Turns → Option Turn → Type 0) (b : BoardState N) (n : ℕ) (old mid new : ChairState N)
    → geometry made ≡ b.geometry → number made ≡ n → IsRested b old mid → HasEndedAt b n agrees (Some End) old → ((turns : Turns) → agrees turns (Some End) → agrees' turns None)
    → IsDriven (geometry made) (number made) agrees' agrees'' mid new → HasEndedAt b n agrees'' (Some End) new
ended-again geometry number made agrees agrees' agrees'' b n old mid new machine same r at again d =
    driven-at geometry number made agrees' agrees'' b n mid new machine same (rested-at b n agrees agrees' old mid r at again) d

pub last-chair-of : {N M : Type 0} (geometry : M → Geometry) (number : M → ℕ) (made : M) (agrees agrees' agrees'' : Turns → Option Turn → Type 0) (b b1 : BoardState N) (n : ℕ) (old mid new : ChairState N)
    → geometry made ≡ b.geometry → number made ≡ n → IsChairOf b old → IsRestedBoard b b1 → IsRested b old mid → HasEndedAt b n agrees (Some End) old → ((turns : Turns) → agrees turns (Some End) → agrees' turns None)
    → IsDriven (geometry made) (number made) agrees' agrees'' mid new → IsChairOf b1 new
last-chair-of {N} geometry number made agrees agrees' agrees'' b b1 n old mid new machine same of rb r at again d =
    let e = ended-again geometry number made agrees agrees' agrees'' b n old mid new machine same r at again d in
    let P : ℕ → Type 0 = λ k. b.seats k ≡ sitting in
    record {
      name = e.name ∙ sym (ap (λ (k : BoardState N). k.name) rb);
      geometry = e.machine ∙ sym (ap (λ (k : BoardState N). k.geometry) rb);
      sits = ap (λ (k : BoardState N). k.seats new.actor) rb ∙ subst P (at.sitter ∙ sym e.sitter) of.sits;
      rested = ap (λ (o : Option (ℕ → LaneLists)). is_some o) ((made-keeps mid new d.turns d.made).others ∙ ap (λ (c : ChairState N). c.others) r.is) ∙ sym (ap (λ (k : BoardState N). k.rested) rb);
    }

pub finished : {N M : Type 0} (geometry : M → Geometry) (number : M → ℕ) (made : M) (agrees agrees' agrees'' : Turns → Option Turn → Type 0) (b b1 b2 : BoardState N) (n : ℕ) (old mid new : ChairState N)
    → geometry made ≡ b.geometry → number made ≡ n → old.others ≡ None → IsRestedBoard b b1 → IsRested b old mid → HasEndedAt b n agrees (Some End) old → ((turns : Turns) → agrees turns (Some End) → agrees' turns None)
    → IsDriven (geometry made) (number made) agrees' agrees'' mid new → b2 ≡ with_stood new b1 → IsFinished n b b2
finished {N} geometry number made agrees agrees' agrees'' b b1 b2 n old mid new machine same none rb r at again d e =
    let at' = ended-again geometry number made agrees agrees' agrees'' b n old mid new machine same r at again d in
    let others : new.others ≡ Some b.lanes = (made-keeps mid new d.turns d.made).others ∙ ap (λ (c : ChairState N). c.others) r.is ∙ ap (λ (o : Option (ℕ → LaneLists)). Some (told_lanes o b.lanes)) none in
    let table : ℕ → LaneLists = told_lanes new.others b1.lanes in
    record {
      is = e ∙ ap (λ (k : BoardState N). record k { seats = with_entry new.actor (stood new.own) b1.seats; lanes = with_entry new.actor (lanes_of new) table }) rb
          ∙ (λ i. record b { seats = ap (λ (k : BoardState N). k.seats) (sym e) i; lanes = ap (λ (k : BoardState N). k.lanes) (sym e) i; rested = true });
      seats = λ a ne. kept-seat b1 b2 n a new at'.sitter ne e ∙ ap (λ (k : BoardState N). k.seats a) rb;
      lanes = λ a ne. ap (λ (k : BoardState N). k.lanes a) e ∙ ap (λ m. with_entry m (lanes_of new) table a) at'.sitter ∙ entry-other n a (lanes_of new) table ne
          ∙ ap (λ (o : Option (ℕ → LaneLists)). told_lanes o b1.lanes a) others;
    }

-- what the board tells of the last actor, and that a lane which it found empty at last is empty
pub stood-last : {N K M : Type 0} (geometry : M → Geometry) (number : M → ℕ) (made : K → M) (resumed : M → M) (agrees : K → Turns → Option Turn → Type 0) (first again last : K) (b b1 b2 : BoardState N) (n : ℕ) (old mid new : ChairState N)
    → geometry (made again) ≡ b.geometry → number (made again) ≡ n → made again ≡ resumed (made first) → made last ≡ made again
    → old.others ≡ None → n < b.geometry.cpus + 2 → b.seats n ≡ sitting → HaveOthersStood b n
    → IsRestedBoard b b1 → IsRested b old mid → HasEndedAt b n (agrees first) (Some End) old → ((turns : Turns) → agrees first turns (Some End) → agrees again turns None)
    → IsDriven (geometry (made again)) (number (made again)) (agrees again) (agrees last) mid new → b2 ≡ with_stood new b1 → HasStoodLast made resumed agrees b2 n (made first) last
stood-last {N} geometry number made resumed agrees first again last b b1 b2 n old mid new machine same resumes kept none exists sits others rb r at goes d e =
    let at' = ended-again geometry number (made again) (agrees first) (agrees again) (agrees last) b n old mid new machine same r at goes d in
    let f = finished geometry number (made again) (agrees first) (agrees again) (agrees last) b b1 b2 n old mid new machine same none rb r at goes d e in
    let table : ℕ → LaneLists = told_lanes new.others b1.lanes in
    let mine : b2.lanes n ≡ lanes_of new = ap (λ (k : BoardState N). k.lanes n) e ∙ ap (λ a. with_entry a (lanes_of new) table n) at'.sitter ∙ entry-same n (lanes_of new) table in
    record {
      first = first;
      before = at.turns;
      since = d.turns;
      same = refl;
      again = kept ∙ resumes;
      ended = at.agreed;
      agreed = at'.agreed;
      seat = ap (λ (k : BoardState N). k.seats n) e ∙ ap (λ a. with_entry a (stood new.own) b1.seats n) at'.sitter ∙ entry-same n (stood new.own) b1.seats ∙ ap stood at'.own;
      lanes = mine ∙ (λ i. record { candidates = at'.candidates i; pending = at'.pending i });
      emptied = λ lane drained. emptied-lane lane b b2 n old mid new d.turns none exists sits others r d.made drained (ap (λ (k : BoardState N). k.geometry) f.is) mine f.lanes;
    }

-- Before rest.

stood-not : (s : Seat) → IsStood s → s ≢ sitting
stood-not not_sat is e = elim is [ ]
stood-not sitting is e = elim is [ ]
stood-not (stood own) is e = cc

pub only-left : {N : Type 0} (b : BoardState N) (n : ℕ) (c : ChairState N) → c.actor ≡ n → HaveOthersStood b n → ((a : ℕ) → b.geometry.cpus + 2 ≤ a → b.seats a ≢ sitting) → IsLast b c
only-left b n c here others nobody a ne sits =
    elim (cases_lt a (b.geometry.cpus + 2)) [
      | inl lt ↦ stood-not (b.seats a) (others a lt (λ same. ne (same ∙ sym here))) sits
      | inr ge ↦ nobody a (omega (arith, ge)) sits
    ]

-- Actors sit down and stand up, one more.
use Rattle.std.proofs.Common.{◌≡◌, ◌≢◌, ℕ, ◌+◌, ◌<◌, cond, false, List, [], ◌∷◌, ◌++◌, length, get_or, refl, sym, ap, ◌∙◌, subst, Option, Some, None, eq-eqb, ne_eqb, arith}
use Rattle.std.specs.Prelude.{is_some}
use Rattle.std.proofs.lemmas.List.{get_or_append_left}
use Rattle.std.proofs.Math.Seq.{get_or-append_seam}
use native.Mathlib.Decide.{ℕ_discrete}
use mathlib.Core.Logic.{dite}
use Rattle.nm_base.specs.Geometry.{Geometry}
use Rattle.nm_action.specs.declared.turn.Turn.{Turn}
use Rattle.nm_action.specs.declared.turn.Turn.TheVariants.{End}
use Rattle.nm_view.specs.Opening.{opening}
use Rattle.nm_actor.specs.Lanes.{LaneLists}
use Rattle.nm_actor.specs.Turns.{Turns}
use Rattle.nm_actor.specs.Chairs.{ChairState}
use Rattle.nm_actor.specs.Boards.{BoardState, sitting, stood, IsChairOf, IsOpeningChair, lanes_of, told_lanes, with_entry, with_sat, with_stood}
use Rattle.nm_crew.specs.Crewed.{AtEach}
use Rattle.nm_thread_crew.specs.Boarded.{HaveSat, HasEndedAt, HasStood, IsSameBoard}

-- Tables and lists.

pub entry-same : {A : Type 0} (n : ℕ) (x : A) (t : ℕ → A) → with_entry n x t n ≡ x
entry-same n x t = ap (λ b. cond b x (t n)) (eq-eqb n n refl)

pub entry-other : {A : Type 0} (n a : ℕ) (x : A) (t : ℕ → A) → a ≢ n → with_entry n x t a ≡ t a
entry-other n a x t ne = ap (λ b. cond b x (t a)) (ne_eqb a n ne)

pub length-one : {A : Type 0} (xs : List A) (x : A) → length (xs ++ x ∷ []) ≡ length xs + 1
length-one [] x = refl
length-one (y ∷ xs) x = omega (arith, length-one xs x)

pub each-push : {C : Type 0} (said : ℕ → C → Type 0) (list : List C) (c : C) → AtEach said list → said (length list) c → AtEach said (list ++ c ∷ [])
each-push {C} said list c each is place d lt = dite (ℕ_discrete place (length list))
    (λ e. let At : ℕ → Type 0 = λ i. said i (get_or (list ++ c ∷ []) i d) in
    let Is : C → Type 0 = λ x. said (length list) x in
    subst At (sym e) (subst Is (sym (get_or-append_seam list c [] d)) is))
    (λ n. let before : place < length list = omega (arith, lt, length-one list c, n) in
    let Is : C → Type 0 = λ x. said place x in
    subst Is (sym (get_or_append_left list (c ∷ []) d place before)) (each place d before))

-- Sitting.

pub sat-none : {N : Type 0} (b : BoardState N) → HaveSat 0 0 b b
sat-none b = record { is = refl; sat = λ a from to. absurd (omega arith); below = λ a lt. refl; above = λ a le. refl }

pub sat-more : {N : Type 0} (n : ℕ) (b0 b b' : BoardState N) → HaveSat 0 n b0 b → b' ≡ with_sat n b → HaveSat 0 (n + 1) b0 b'
sat-more {N} n b0 b b' h e =
    let seats : (a : ℕ) → b'.seats a ≡ with_entry n sitting b.seats a = λ a. ap (λ (k : BoardState N). k.seats a) e in
    record {
      is = e ∙ ap (λ (k : BoardState N). record k { seats = with_entry n sitting b.seats }) h.is ∙ (λ i. record b0 { seats = ap (λ (k : BoardState N). k.seats) (sym e) i });
      sat = λ a from to. dite (ℕ_discrete a n)
          (λ same. let P : ℕ → Type 0 = λ k. b'.seats k ≡ sitting in subst P (sym same) (seats n ∙ entry-same n sitting b.seats))
          (λ ne. seats a ∙ entry-other n a sitting b.seats ne ∙ h.sat a (omega arith) (omega (arith, to, ne)));
      below = λ a lt. absurd (omega (arith, lt));
      above = λ a le. seats a ∙ entry-other n a sitting b.seats (λ same. omega (arith, le, same)) ∙ h.above a (omega (arith, le));
    }

-- a board at which some sit, and the one before: the same chairs are opening chairs of both
pub opening-of : {N : Type 0} (from to n : ℕ) (b0 b : BoardState N) (c : ChairState N) → HaveSat from to b0 b → IsOpeningChair b n c → IsOpeningChair b0 n c
opening-of {N} from to n b0 b c h o =
    let machine : b.geometry ≡ b0.geometry = ap (λ (k : BoardState N). k.geometry) h.is in
    let P : Geometry → Type 0 = λ g. c.view ≡ opening g n in
    record {
      geometry = o.geometry ∙ machine;
      sitter = o.sitter;
      own = o.own;
      view = subst P machine o.view;
      candidates = o.candidates;
      pending = o.pending;
      others = o.others;
      board = o.board ∙ ap (λ (k : BoardState N). k.name) h.is;
    }

-- Standing.

pub stood-new : {N : Type 0} (b0 b b' : BoardState N) (n : ℕ) (agrees : Turns → Option Turn → Type 0) (c : ChairState N) → HasEndedAt b0 n agrees (Some End) c → c.others ≡ None → b' ≡ with_stood c b → HasStood b' n agrees
stood-new {N} b0 b b' n agrees c at none e = record {
  turns = at.turns;
  agreed = at.agreed;
  seat = ap (λ (k : BoardState N). k.seats n) e ∙ ap (λ a. with_entry a (stood c.own) b.seats n) at.sitter ∙ entry-same n (stood c.own) b.seats ∙ ap stood at.own;
  lanes = ap (λ (k : BoardState N). k.lanes n) e ∙ ap (λ a. with_entry a (lanes_of c) (told_lanes c.others b.lanes) n) at.sitter ∙ entry-same n (lanes_of c) (told_lanes c.others b.lanes)
      ∙ (λ i. record { candidates = at.candidates i; pending = at.pending i });
}

-- what the board tells of the other actors
pub kept-seat : {N : Type 0} (b b' : BoardState N) (n a : ℕ) (c : ChairState N) → c.actor ≡ n → a ≢ n → b' ≡ with_stood c b → b'.seats a ≡ b.seats a
kept-seat {N} b b' n a c same ne e = ap (λ (k : BoardState N). k.seats a) e ∙ ap (λ m. with_entry m (stood c.own) b.seats a) same ∙ entry-other n a (stood c.own) b.seats ne

pub kept-lanes : {N : Type 0} (b b' : BoardState N) (n a : ℕ) (c : ChairState N) → c.actor ≡ n → a ≢ n → c.others ≡ None → b' ≡ with_stood c b → b'.lanes a ≡ b.lanes a
kept-lanes {N} b b' n a c same ne none e =
    ap (λ (k : BoardState N). k.lanes a) e ∙ ap (λ m. with_entry m (lanes_of c) (told_lanes c.others b.lanes) a) same ∙ entry-other n a (lanes_of c) (told_lanes c.others b.lanes) ne
    ∙ ap (λ (o : Option (ℕ → LaneLists)). told_lanes o b.lanes a) none

pub stood-kept : {N : Type 0} (b b' : BoardState N) (n a : ℕ) (agrees : Turns → Option Turn → Type 0) (c : ChairState N) → c.actor ≡ n → a ≢ n → c.others ≡ None → b' ≡ with_stood c b → HasStood b a agrees → HasStood b' a agrees
stood-kept b b' n a agrees c same ne none e h = record {
  turns = h.turns;
  agreed = h.agreed;
  seat = kept-seat b b' n a c same ne e ∙ h.seat;
  lanes = kept-lanes b b' n a c same ne none e ∙ h.lanes;
}

pub same-more : {N : Type 0} (b0 b b' : BoardState N) (c : ChairState N) → IsSameBoard b0 b → b' ≡ with_stood c b → IsSameBoard b0 b'
same-more {N} b0 b b' c h e = record {
  is = e ∙ ap (λ (k : BoardState N). record k { seats = with_entry c.actor (stood c.own) b.seats; lanes = with_entry c.actor (lanes_of c) (told_lanes c.others b.lanes) }) h.is
      ∙ (λ i. record b0 { seats = ap (λ (k : BoardState N). k.seats) (sym e) i; lanes = ap (λ (k : BoardState N). k.lanes) (sym e) i });
}

pub chair-of : {N : Type 0} (b0 b : BoardState N) (n : ℕ) (agrees : Turns → Option Turn → Type 0) (last : Option Turn) (c : ChairState N) → HasEndedAt b0 n agrees last c → c.others ≡ None → b0.rested ≡ false → IsSameBoard b0 b → b.seats n ≡ sitting → IsChairOf b c
chair-of {N} b0 b n agrees last c at none before same sits = record {
  name = at.name ∙ sym (ap (λ (k : BoardState N). k.name) same.is);
  geometry = at.machine ∙ sym (ap (λ (k : BoardState N). k.geometry) same.is);
  sits = let P : ℕ → Type 0 = λ k. b.seats k ≡ sitting in subst P (sym at.sitter) sits;
  rested = ap (λ (o : Option (ℕ → LaneLists)). is_some o) none ∙ sym (ap (λ (k : BoardState N). k.rested) same.is ∙ before);
}

front-below : {D : Type 0} (xs rest : List D) (d : D) → length xs < length (xs ++ d ∷ rest)
front-below [] rest d = omega arith
front-below (x ∷ xs) rest d = omega (arith, front-below xs rest d)

-- the item of a list that comes next
pub item-below : {D : Type 0} (list front rest : List D) (d : D) → front ++ d ∷ rest ≡ list → length front < length list
item-below list front rest d is = let l = ap length is in omega (arith, front-below front rest d, l)

pub item-next : {D : Type 0} (list front rest : List D) (d : D) (said : ℕ → D → Type 0) → front ++ d ∷ rest ≡ list → AtEach said list → said (length front) d
item-next {D} list front rest d said is each =
    let L : List D → Type 0 = λ l. AtEach said l in
    let P : D → Type 0 = λ x. said (length front) x in
    let all : AtEach said (front ++ d ∷ rest) = subst L (sym is) each in
    subst P (get_or-append_seam front d rest d) (all (length front) d (front-below front rest d))

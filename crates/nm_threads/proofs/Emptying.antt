-- A lane of a rested chair that was found empty, and in which nothing was done since.
use Rattle.std.proofs.Common.{◌≡◌, ◌==◌, cond, ℕ, ◌+◌, Bool, List, [], ◌∷◌, ◌++◌, refl, sym, ap, ◌∙◌, subst, Option, Some, None, arith}
use Rattle.std.specs.Prelude.{IfSome, IsSomeAnd}
use Rattle.std.specs.Option.{option_map}
use Rattle.std.specs.List.{count_by}
use Rattle.std.proofs.lemmas.List.Sums.{sum_by-cons, sum_by-append}
use Rattle.nm_action.specs.declared.action.Action.{Action}
use Rattle.nm_action.specs.declared.action.Reply.{Reply}
use Rattle.nm_action.specs.declared.turn.Lane.{Lane}
use Rattle.nm_action.specs.declared.turn.Lane.TheVariants.{Candidates, Pending}
use Rattle.nm_action.specs.declared.turn.Turn.{Turn}
use Rattle.nm_action.specs.declared.turn.Turn.TheVariants.{Put, Take}
use Rattle.nm_action.specs.declared.turn.Heard.{Heard}
use Rattle.nm_action.specs.declared.turn.Heard.TheVariants.{PutDone, Took, TookNone}
use Rattle.nm_actor.specs.Lanes.{LaneMove, put, took, Held, held_with, LaneState, IsPagePut, IsFull, IsPageTaken, IsEmpty, IsWithout, IsHeldWithout}
use Rattle.nm_actor.specs.Turns.{Turns, lane_turn, lane_list, IsDrained}
use Rattle.nm_actor.specs.Chairs.{ChairState, lane_of}
use Rattle.nm_actor.specs.Boards.{is_put, is_took, puts_of, takes_of, IsRest}
use Rattle.nm_threads.specs.Driven.{IsActionMade, IsLaneTurn, IsTurnMade, AreMade}
use Rattle.nm_threads.proofs.Turning.{by-turn}

abbrev copies : ℕ → List ℕ → ℕ
copies page xs = count_by (λ b. b == page) xs

-- what a lane holds and what was taken from it is what was put into it, with these counts of the others
record Balanced (page takes puts : ℕ) (l : LaneState) : Type 0 where
  held : Held
  holds : l.held ≡ Some held
  even : copies page held.pages + (takes + count_by (is_took page) l.moves) ≡ puts + count_by (is_put page) l.moves

count-one : {A : Type 0} (p : A → Bool) (xs : List A) (x : A) → count_by p (xs ++ x ∷ []) ≡ count_by p xs + cond {A = ℕ} (p x) 1 0
count-one p xs x = sum_by-append (λ y. cond (p y) 1 0) xs (x ∷ []) ∙ ap (λ n. count_by p xs + n) (sum_by-cons (λ y. cond (p y) 1 0) x [] ∙ omega arith)

count-mid : {A : Type 0} (p : A → Bool) (xs ys : List A) (x : A) → count_by p (xs ++ x ∷ ys) ≡ cond {A = ℕ} (p x) 1 0 + count_by p (xs ++ ys)
count-mid p xs ys x =
    let a = sum_by-append (λ y. cond (p y) 1 0) xs (x ∷ ys) in
    let b = sum_by-cons (λ y. cond (p y) 1 0) x ys in
    let c = sum_by-append (λ y. cond (p y) 1 0) xs ys in
    omega (arith, a, b, c)

some-held : (h k : Held) → Some h ≡ Some k → h ≡ k
some-held h k e = cc

put-even : (page takes puts b : ℕ) (old new : LaneState) → IsPagePut b old new → Balanced page takes puts old → Balanced page takes puts new
put-even page takes puts b old new is e =
    let moves : new.moves ≡ old.moves ++ put b ∷ [] = ap (λ (l : LaneState). l.moves) is.is in
    let t = ap (λ (m : List LaneMove). count_by (is_took page) m) moves ∙ count-one (is_took page) old.moves (put b) in
    let p = ap (λ (m : List LaneMove). count_by (is_put page) m) moves ∙ count-one (is_put page) old.moves (put b) in
    let h = count-one (λ x. x == page) e.held.pages b in
    let even = e.even in
    record {
      held = held_with b e.held;
      holds = ap (λ (l : LaneState). l.held) is.is ∙ ap (λ (o : Option Held). option_map (held_with b) o) e.holds;
      even = omega (arith, t, p, h, even);
    }

without-even : (page takes puts b : ℕ) (old new : LaneState) (h : Held) (o : Option Held) → o ≡ Some h → (n : Option Held) → n ≡ new.held → IsHeldWithout b o n → (h' : Held) × (new.held ≡ Some h') × IsWithout b h h'
without-even page takes puts b old new h None e n is w = absurd (cc)
without-even page takes puts b old new h (Some k) e None is w = absurd w
without-even page takes puts b old new h (Some k) e (Some h') is w =
    let P : Held → Type 0 = λ x. IsWithout b x h' in
    (h', sym is, subst P (some-held k h e) w)

took-even : (page takes puts b : ℕ) (old new : LaneState) → IsPageTaken b old new → Balanced page takes puts old → Balanced page takes puts new
took-even page takes puts b old new is e =
    let w = without-even page takes puts b old new e.held old.held e.holds new.held refl is.held in
    let moves : new.moves ≡ old.moves ++ took b ∷ [] = ap (λ (l : LaneState). l.moves) is.is in
    let t = ap (λ (m : List LaneMove). count_by (is_took page) m) moves ∙ count-one (is_took page) old.moves (took b) in
    let p = ap (λ (m : List LaneMove). count_by (is_put page) m) moves ∙ count-one (is_put page) old.moves (took b) in
    let h = ap (copies page) w.2.before ∙ count-mid (λ x. x == page) w.2.front w.2.back b in
    let h' = ap (copies page) w.2.after in
    let even = e.even in
    record { held = w.0; holds = w.1; even = omega (arith, t, p, h, h', even) }

same-even : (page takes puts : ℕ) (old new : LaneState) → new.moves ≡ old.moves → new.held ≡ old.held → Balanced page takes puts old → Balanced page takes puts new
same-even page takes puts old new moves held e =
    let t = ap (λ (m : List LaneMove). count_by (is_took page) m) moves in
    let p = ap (λ (m : List LaneMove). count_by (is_put page) m) moves in
    let even = e.even in
    record { held = e.held; holds = held ∙ e.holds; even = omega (arith, t, p, even) }

-- a turn in one lane, seen in a lane
in-lane : {N : Type 0} (P : LaneState → LaneState → Type 0) (lane into : Lane) (said : LaneState → LaneState → Type 0) (old new : ChairState N) → IsLaneTurn into said old new
    → ((l k : LaneState) → said l k → P l k) → ((l : LaneState) → P l l) → P (lane_of lane old) (lane_of lane new)
in-lane {N} P Candidates Candidates said old new made step keep = step old.candidates new.candidates made.lane_is
in-lane {N} P Pending Pending said old new made step keep = step old.pending new.pending made.lane_is
in-lane {N} P Candidates Pending said old new made step keep = let f : ChairState N → LaneState = λ c. c.candidates in subst (P old.candidates) (sym (ap f made.rest)) (keep old.candidates)
in-lane {N} P Pending Candidates said old new made step keep = let f : ChairState N → LaneState = λ c. c.pending in subst (P old.pending) (sym (ap f made.rest)) (keep old.pending)

act-lane : {N : Type 0} (lane : Lane) (action : Action) (reply : Reply) (old new : ChairState N) → IsActionMade action reply old new → lane_of lane new ≡ lane_of lane old
act-lane {N} Candidates action reply old new made = let f : ChairState N → LaneState = λ c. c.candidates in ap f made.is
act-lane {N} Pending action reply old new made = let f : ChairState N → LaneState = λ c. c.pending in ap f made.is

turn-even : {N : Type 0} (lane : Lane) (page takes puts : ℕ) (old new : ChairState N) (turn : Turn) (heard : Heard) → IsTurnMade old turn heard new → Balanced page takes puts (lane_of lane old) → Balanced page takes puts (lane_of lane new)
turn-even {N} lane page takes puts old new =
    let B : LaneState → LaneState → Type 0 = λ l k. Balanced page takes puts l → Balanced page takes puts k in
    let moves : LaneState → List LaneMove = λ l. l.moves in
    let held : LaneState → Option Held = λ l. l.held in
    by-turn (λ turn heard. B (lane_of lane old) (lane_of lane new)) old new
    (λ action reply made. subst (B (lane_of lane old)) (sym (act-lane lane action reply old new made)) (λ e. e))
    (λ into b made. in-lane B lane into (IsPagePut b) old new made (put-even page takes puts b) (λ l e. e))
    (λ into b made. in-lane B lane into IsFull old new made (λ l k is. same-even page takes puts l k (ap moves is.is) (ap held is.is)) (λ l e. e))
    (λ into b made. in-lane B lane into (IsPageTaken b) old new made (took-even page takes puts b) (λ l e. e))
    (λ into made. in-lane B lane into IsEmpty old new made (λ l k is. same-even page takes puts l k (ap moves is.is) (ap held is.is)) (λ l e. e))

made-even : {N : Type 0} (lane : Lane) (page takes puts : ℕ) (old new : ChairState N) (turns : Turns) → AreMade old turns new → Balanced page takes puts (lane_of lane old) → Balanced page takes puts (lane_of lane new)
made-even {N} lane page takes puts old new [] made e = let P : ChairState N → Type 0 = λ c. Balanced page takes puts (lane_of lane c) in subst P (sym made) e
made-even lane page takes puts old new (t ∷ turns) made e = made-even lane page takes puts made.0 new turns made.2 (turn-even lane page takes puts old made.0 t.0 t.1 made.1 e)

-- Nothing is done in a lane.

nil-front : {A : Type 0} (xs ys : List A) → xs ++ ys ≡ [] → (xs ≡ []) × (ys ≡ [])
nil-front [] ys e = (refl, e)
nil-front (x ∷ xs) ys e = absurd (cc)

abbrev Still : LaneState → LaneState → Type 0
Still old new = (new.moves ≡ old.moves) × (new.held ≡ old.held)

still-put : {N : Type 0} (lane into : Lane) (b : ℕ) (old new : ChairState N) → IsLaneTurn into (IsPagePut b) old new → lane_turn lane (Put into b) PutDone ≡ [] → Still (lane_of lane old) (lane_of lane new)
still-put {N} Candidates Candidates b old new made none = absurd (cc)
still-put {N} Pending Pending b old new made none = absurd (cc)
still-put {N} Candidates Pending b old new made none = let f : ChairState N → LaneState = λ c. c.candidates in subst (Still old.candidates) (sym (ap f made.rest)) (refl, refl)
still-put {N} Pending Candidates b old new made none = let f : ChairState N → LaneState = λ c. c.pending in subst (Still old.pending) (sym (ap f made.rest)) (refl, refl)

still-took : {N : Type 0} (lane into : Lane) (b : ℕ) (old new : ChairState N) → IsLaneTurn into (IsPageTaken b) old new → lane_turn lane (Take into) (Took b) ≡ [] → Still (lane_of lane old) (lane_of lane new)
still-took {N} Candidates Candidates b old new made none = absurd (cc)
still-took {N} Pending Pending b old new made none = absurd (cc)
still-took {N} Candidates Pending b old new made none = let f : ChairState N → LaneState = λ c. c.candidates in subst (Still old.candidates) (sym (ap f made.rest)) (refl, refl)
still-took {N} Pending Candidates b old new made none = let f : ChairState N → LaneState = λ c. c.pending in subst (Still old.pending) (sym (ap f made.rest)) (refl, refl)

turn-still : {N : Type 0} (lane : Lane) (old new : ChairState N) (turn : Turn) (heard : Heard) → IsTurnMade old turn heard new → lane_turn lane turn heard ≡ [] → Still (lane_of lane old) (lane_of lane new)
turn-still {N} lane old new =
    let moves : LaneState → List LaneMove = λ l. l.moves in
    let held : LaneState → Option Held = λ l. l.held in
    by-turn (λ turn heard. lane_turn lane turn heard ≡ [] → Still (lane_of lane old) (lane_of lane new)) old new
    (λ action reply made none. subst (Still (lane_of lane old)) (sym (act-lane lane action reply old new made)) (refl, refl))
    (λ into b made none. still-put lane into b old new made none)
    (λ into b made none. in-lane Still lane into IsFull old new made (λ l k is. (ap moves is.is, ap held is.is)) (λ l. (refl, refl)))
    (λ into b made none. still-took lane into b old new made none)
    (λ into made none. in-lane Still lane into IsEmpty old new made (λ l k is. (ap moves is.is, ap held is.is)) (λ l. (refl, refl)))

made-still : {N : Type 0} (lane : Lane) (old new : ChairState N) (turns : Turns) → AreMade old turns new → lane_list lane turns ≡ [] → (lane_of lane new).moves ≡ (lane_of lane old).moves
made-still {N} lane old new [] made none = let f : ChairState N → List LaneMove = λ c. (lane_of lane c).moves in ap f made
made-still lane old new (t ∷ turns) made none =
    let parts = nil-front (lane_turn lane t.0 t.1) (lane_list lane turns) none in
    made-still lane made.0 new turns made.2 parts.1 ∙ (turn-still lane old made.0 t.0 t.1 made.1 parts.0).0

made-split : {N : Type 0} (old new : ChairState N) (front back : Turns) → AreMade old (front ++ back) new → (mid : ChairState N) × AreMade old front mid × AreMade mid back new
made-split old new [] back made = (old, refl, made)
made-split old new (t ∷ front) back made = let r = made-split made.0 new front back made.2 in (r.0, (made.0, made.1, r.1), r.2)

-- The lane at the end.

held-none : (o : Option Held) (h : Held) → o ≡ Some h → IfSome o (λ k. k.pages ≡ []) → h.pages ≡ []
held-none None h e none = absurd (cc)
held-none (Some k) h e none = ap (λ (x : Held). x.pages) (sym (some-held k h e)) ∙ none

drained-even : {N : Type 0} (lane : Lane) (page takes puts : ℕ) (old new : ChairState N) (turns : Turns) → AreMade old turns new → IsDrained lane turns → Balanced page takes puts (lane_of lane old)
    → takes + count_by (is_took page) (lane_of lane new).moves ≡ puts + count_by (is_put page) (lane_of lane new).moves
drained-even {N} lane page takes puts old new turns made d e =
    let M : Turns → Type 0 = λ l. AreMade old l new in
    let split = made-split old new d.front ((Take lane, TookNone) ∷ d.rest) (subst M d.is made) in
    let mid = split.0 in
    let before = made-even lane page takes puts old mid d.front split.1 e in
    let take = split.2.1 in
    let none = held-none (lane_of lane mid).held before.held before.holds take.lane_is.empty in
    let moves : (lane_of lane new).moves ≡ (lane_of lane mid).moves = made-still lane split.2.0 new d.rest split.2.2 d.still ∙ ap (λ (l : LaneState). l.moves) take.lane_is.is in
    let t = ap (λ (m : List LaneMove). count_by (is_took page) m) moves in
    let p = ap (λ (m : List LaneMove). count_by (is_put page) m) moves in
    let c : copies page before.held.pages ≡ 0 = ap (copies page) none in
    let even = before.even in
    omega (arith, t, p, c, even)

rest-balanced : (page capacity : ℕ) (lists : List (List LaneMove)) (l : LaneState) (o : Option Held) → l.held ≡ o → IsSomeAnd o (IsRest capacity (lists ++ l.moves ∷ [])) → Balanced page (takes_of page lists) (puts_of page lists) l
rest-balanced page capacity lists l None e rest = absurd rest
rest-balanced page capacity lists l (Some h) e rest =
    let t = sum_by-append (λ moves. count_by (is_took page) moves) lists (l.moves ∷ []) in
    let p = sum_by-append (λ moves. count_by (is_put page) moves) lists (l.moves ∷ []) in
    let t' = sum_by-cons (λ moves. count_by (is_took page) moves) l.moves [] in
    let p' = sum_by-cons (λ moves. count_by (is_put page) moves) l.moves [] in
    let r = rest.pages page in
    record { held = h; holds = e; even = omega (arith, t, p, t', p', r) }

-- each page was taken as often as it was put, by all together
pub drained-taken : {N : Type 0} (capacity : ℕ) (lists : List (List LaneMove)) (lane : Lane) (old new : ChairState N) (turns : Turns)
    → IsSomeAnd (lane_of lane old).held (IsRest capacity (lists ++ (lane_of lane old).moves ∷ [])) → AreMade old turns new → IsDrained lane turns
    → (page : ℕ) → takes_of page (lists ++ (lane_of lane new).moves ∷ []) ≡ puts_of page (lists ++ (lane_of lane new).moves ∷ [])
drained-taken capacity lists lane old new turns rest made d page =
    let even = drained-even lane page (takes_of page lists) (puts_of page lists) old new turns made d (rest-balanced page capacity lists (lane_of lane old) (lane_of lane old).held refl rest) in
    let t = sum_by-append (λ moves. count_by (is_took page) moves) lists ((lane_of lane new).moves ∷ []) in
    let p = sum_by-append (λ moves. count_by (is_put page) moves) lists ((lane_of lane new).moves ∷ []) in
    let t' = sum_by-cons (λ moves. count_by (is_took page) moves) (lane_of lane new).moves [] in
    let p' = sum_by-cons (λ moves. count_by (is_put page) moves) (lane_of lane new).moves [] in
    omega (arith, even, t, p, t', p')

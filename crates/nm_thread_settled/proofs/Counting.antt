-- A history of which each page was taken as often as it was put leaves no page.
use Rattle.std.proofs.Common.{◌≡◌, ◌≢◌, ◌==◌, cond, ℕ, zero, suc, ◌+◌, ◌<◌, ◌≤◌, Bool, List, [], ◌∷◌, map, refl, sym, ap, ◌∙◌, inl, inr, eq-eqb, ne_eqb, arith}
use Rattle.std.specs.List.{All, range_with_len, sum_by, count_by}
use Rattle.std.proofs.lemmas.Bool.{cases_eq, cases_lt}
use Rattle.std.proofs.lemmas.List.Elements.{All-nil, All-cons}
use Rattle.std.proofs.lemmas.List.Sums.{sum_by-cons, sum_by-append}
use Rattle.nm_actor.specs.Lanes.{LaneMove}
use Rattle.nm_actor.specs.Boards.{is_put, is_took, puts_of, takes_of}
use Rattle.nm_queue.specs.Histories.{PassMove, History, moves_by, pages_put, pages_taken, pages_left, IsFifo}
use Rattle.nm_queue.proofs.Fifo.{leaves-left, fifo_now}
use Rattle.nm_queue.proofs.Numbers.{times}
use Rattle.nm_queue.proofs.Counts.{copies, over_parts, over_whole, put_copies, taken_copies}
use Rattle.nm_thread_settled.proofs.Parts.{part-other, part-some}

-- ---- each of some numbers stands in their list once

times-step : (n from many : ℕ) → times n (range_with_len from (suc many)) ≡ cond {A = ℕ} (from == n) 1 0 + times n (range_with_len (from + 1) many)
times-step n from many = sum_by-cons (λ k. cond {A = ℕ} (k == n) 1 0) from (range_with_len (from + 1) many)

times-above : (n from many : ℕ) → n < from → times n (range_with_len from many) ≡ 0
times-above n from zero below = refl
times-above n from (suc many) below =
    let first : cond {A = ℕ} (from == n) 1 0 ≡ 0 = ap (λ b. cond {A = ℕ} b 1 0) (ne_eqb from n (λ is. omega (arith, is, below))) in
    let rest = times-above n (from + 1) many (omega (arith, below)) in
    let step = times-step n from many in
    omega (arith, first, rest, step)

times-one : (n from many : ℕ) → from ≤ n → n < from + many → times n (range_with_len from many) ≡ 1
times-one n from zero low high = absurd (omega (arith, low, high))
times-one n from (suc many) low high =
    let step = times-step n from many in
    elim (cases_eq from n) [
      | inl same ↦
          let first : cond {A = ℕ} (from == n) 1 0 ≡ 1 = ap (λ b. cond {A = ℕ} b 1 0) (eq-eqb from n same) in
          let rest = times-above n (from + 1) many (omega (arith, same)) in
          omega (arith, first, rest, step)
      | inr other ↦
          let first : cond {A = ℕ} (from == n) 1 0 ≡ 0 = ap (λ b. cond {A = ℕ} b 1 0) (ne_eqb from n other) in
          let rest = times-one n (from + 1) many (omega (arith, low, other)) (omega (arith, high)) in
          omega (arith, first, rest, step)
    ]

-- ---- the passes of a history

-- the passes beyond these numbers made no move
abbrev AreBelow : ℕ → History → Type 0
AreBelow many h = (pass : ℕ) → many ≤ pass → moves_by pass h ≡ []

first-below : (many : ℕ) (m : PassMove) (h : History) → AreBelow many (m ∷ h) → m.pass < many
first-below many m h below = elim (cases_lt m.pass many) [
  | inl there ↦ there
  | inr past ↦ absurd (part-some m.pass m h refl (below m.pass (omega (arith, past))))
]

each-once : (many : ℕ) (h : History) → AreBelow many h → All (λ m. times m.pass (range_with_len 0 many) ≡ 1) h
each-once many [] below = All-nil (λ (m : PassMove). times m.pass (range_with_len 0 many) ≡ 1)
each-once many (m ∷ h) below =
    let there : m.pass < many = first-below many m h below in
    All-cons (λ (x : PassMove). times x.pass (range_with_len 0 many) ≡ 1) m h (times-one m.pass 0 many (omega (arith)) (omega (arith, there)))
    (each-once many h (λ pass past. sym (part-other pass m h (λ same. omega (arith, same, there, past))) ∙ below pass past))

-- ---- counts

over-lists : (p : LaneMove → Bool) (passes : List ℕ) (h : History) → sum_by (λ moves. count_by p moves) (map (λ pass. moves_by pass h) passes) ≡ over_parts p passes h
over-lists p [] h = refl
over-lists p (r ∷ rs) h =
    sum_by-cons (λ moves. count_by p moves) (moves_by r h) (map (λ pass. moves_by pass h) rs)
    ∙ ap (λ x. count_by p (moves_by r h) + x) (over-lists p rs h)
    ∙ sym (sum_by-cons (λ q. count_by p (moves_by q h)) r rs)

-- a list in which no page stands is empty
none-stands : (pages : List ℕ) → ((page : ℕ) → copies page pages ≡ 0) → pages ≡ []
none-stands [] none = refl
none-stands (b ∷ pages) none =
    let first : cond {A = ℕ} (b == b) 1 0 ≡ 1 = ap (λ c. cond {A = ℕ} c 1 0) (eq-eqb b b refl) in
    let step = sum_by-cons (λ k. cond {A = ℕ} (k == b) 1 0) b pages in
    let zero_of = none b in
    absurd (omega (arith, first, step, zero_of))

pub none-left : (h : History) (many : ℕ) → IsFifo h → ((pass : ℕ) → many ≤ pass → moves_by pass h ≡ [])
    → ((page : ℕ) → takes_of page (map (λ pass. moves_by pass h) (range_with_len 0 many)) ≡ puts_of page (map (λ pass. moves_by pass h) (range_with_len 0 many)))
    → pages_left h ≡ []
none-left h many fifo below even =
    let passes : List ℕ = range_with_len 0 many in
    let once = each-once many h below in
    none-stands (pages_left h) (λ page.
    let all : copies page (pages_put h) ≡ copies page (pages_taken h) + copies page (pages_left h) = ap (copies page) (leaves-left h (fifo_now h fifo)) ∙ sum_by-append (λ b. cond {A = ℕ} (b == page) 1 0) (pages_taken h) (pages_left h) in
    let puts : puts_of page (map (λ pass. moves_by pass h) passes) ≡ copies page (pages_put h) = over-lists (is_put page) passes h ∙ over_whole (is_put page) passes h once ∙ sym (put_copies page h) in
    let takes : takes_of page (map (λ pass. moves_by pass h) passes) ≡ copies page (pages_taken h) = over-lists (is_took page) passes h ∙ over_whole (is_took page) passes h once ∙ sym (taken_copies page h) in
    let same = even page in
    omega (arith, all, puts, takes, same))

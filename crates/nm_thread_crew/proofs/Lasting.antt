-- The migrator sits last.
use Rattle.std.proofs.Common.{◌≡◌, ◌≢◌, ℕ, ◌+◌, ◌<◌, ◌≤◌, List, [], ◌∷◌, length, sym, ap, ◌∙◌, subst, Option, None, arith}
use native.Mathlib.Decide.{ℕ_discrete}
use mathlib.Core.Logic.{dite}
use Rattle.nm_action.specs.declared.turn.Turn.{Turn}
use Rattle.nm_actor.specs.Turns.{Turns}
use Rattle.nm_actor.specs.Chairs.{ChairState}
use Rattle.nm_actor.specs.Boards.{BoardState, Seat, stood, with_entry, with_stood}
use Rattle.nm_crew.specs.Crewed.{AtEach}
use Rattle.nm_thread_crew.specs.Boarded.{HasStood, HaveOthersStood, IsFinished, IsSameBoard, IsStood}
use Rattle.nm_thread_crew.proofs.Seats.{entry-same, kept-lanes, kept-seat, same-more}

stood-at : {N C : Type 0} (b : BoardState N) (agrees : C → Turns → Option Turn → Type 0) (list : List C) (a : ℕ) → a < length list → AtEach (λ n c. HasStood b n (agrees c)) list → IsStood (b.seats a)
stood-at b agrees [] a lt each = absurd (omega (arith, lt))
stood-at b agrees (c ∷ list) a lt each = let P : Seat → Type 0 = IsStood in subst P (sym (each a c lt).seat) tt

-- the processors have stood, then the reclaimer: only the migrator is left
pub others-stood : {N C : Type 0} (b0 b1 b2 : BoardState N) (other : ChairState N) (agrees : C → Turns → Option Turn → Type 0) (list : List C)
    → length list ≡ b0.geometry.cpus → IsSameBoard b0 b1 → AtEach (λ i c. HasStood b1 i (agrees c)) list
    → b2 ≡ with_stood other b1 → other.actor ≡ b0.geometry.cpus + 1 → HaveOthersStood b2 b2.geometry.cpus
others-stood {N} b0 b1 b2 other agrees list many same01 each e there a lt ne =
    let n : ℕ = b0.geometry.cpus in
    let same = same-more b0 b1 b2 other same01 e in
    let cpus : b2.geometry.cpus ≡ n = ap (λ (k : BoardState N). k.geometry.cpus) same.is in
    let P : Seat → Type 0 = λ s. IsStood s in
    let Q : ℕ → Type 0 = λ k. IsStood (b2.seats k) in
    dite (ℕ_discrete a (n + 1))
    (λ is.
    let stands : b2.seats (n + 1) ≡ stood other.own = ap (λ (k : BoardState N). k.seats (n + 1)) e ∙ ap (λ m. with_entry m (stood other.own) b1.seats (n + 1)) there ∙ entry-same (n + 1) (stood other.own) b1.seats in
    subst Q (sym is) (subst P (sym stands) tt))
    (λ not.
    let other_than : a ≢ n = λ is. ne (is ∙ sym cpus) in
    let below : a < length list = omega (arith, lt, cpus, many, not, other_than) in
    subst P (sym (kept-seat b1 b2 (n + 1) a other there not e)) (stood-at b1 agrees list a below each))

-- of a number that is no actor's the lanes are as before: the processors have stood, then the reclaimer, and last the migrator
pub nobody-lanes : {N : Type 0} (b0 b1 b2 b3 : BoardState N) (other : ChairState N) (many : ℕ)
    → many ≡ b0.geometry.cpus → IsSameBoard b0 b1 → ((a : ℕ) → many ≤ a → (b1.seats a ≡ b0.seats a) × (b1.lanes a ≡ b0.lanes a))
    → b2 ≡ with_stood other b1 → other.actor ≡ b0.geometry.cpus + 1 → other.others ≡ None → IsFinished b2.geometry.cpus b2 b3
    → (a : ℕ) → b0.geometry.cpus + 2 ≤ a → b3.lanes a ≡ b0.lanes a
nobody-lanes {N} b0 b1 b2 b3 other many as_many same01 above e there none finished a past =
    let same = same-more b0 b1 b2 other same01 e in
    let cpus : b2.geometry.cpus ≡ b0.geometry.cpus = ap (λ (k : BoardState N). k.geometry.cpus) same.is in
    finished.lanes a (λ is. omega (arith, is, cpus, past))
    ∙ kept-lanes b1 b2 (b0.geometry.cpus + 1) a other there (λ is. omega (arith, is, past)) none e
    ∙ (above a (omega (arith, as_many, past))).1

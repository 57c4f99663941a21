-- The moves of a pass that made all moves of a history.
use Rattle.std.proofs.Common.{◌≡◌, ◌≢◌, ℕ, List, [], ◌∷◌, ◌++◌, length, take, refl, sym, ap, ◌∙◌, subst, inl, inr, append_assoc}
use Rattle.std.proofs.Math.Seq.{take-append_seam}
use Rattle.std.proofs.lemmas.Bool.{cases_eq}
use Rattle.std.proofs.lemmas.List.{append-nil}
use Rattle.std.proofs.lemmas.List.Elements.{filter_map-append}
use Rattle.nm_actor.specs.Lanes.{LaneMove, put, took}
use Rattle.nm_actor.specs.Alone.{MovesLeave}
use Rattle.nm_queue.specs.Histories.{PassMove, History, moves_by, page_put, page_taken, pages_put, pages_taken, pages_left, IsFirstOut, IsFifo}
use Rattle.nm_queue.proofs.Fifo.{by_pass, Leaves, leaves-left, left-leaves, leaves_put}
use Rattle.nm_thread_settled.proofs.Parts.{part-own, part-other, part-some}

-- the front of a history is first in, first out
front-first : (front rest : History) → IsFifo (front ++ rest) → IsFirstOut front
front-first front rest fifo = subst IsFirstOut (take-append_seam front rest) (fifo (length front))

-- a page was taken: it was the first of those that were left
took-first : (front : History) (pass page : ℕ) → IsFirstOut (front ++ by_pass pass (took page) ∷ []) → pages_left front ≡ page ∷ pages_left (front ++ by_pass pass (took page) ∷ [])
took-first front pass page first =
    let more : History = front ++ by_pass pass (took page) ∷ [] in
    let later : List ℕ = pages_left more in
    let puts : pages_put more ≡ pages_put front = filter_map-append (λ m. page_put m.move) front (by_pass pass (took page) ∷ []) ∙ append-nil (pages_put front) in
    let takes : pages_taken more ≡ pages_taken front ++ page ∷ [] = filter_map-append (λ m. page_taken m.move) front (by_pass pass (took page) ∷ []) in
    left-leaves front (page ∷ later) (sym puts ∙ leaves-left more first ∙ ap (λ (l : List ℕ). l ++ later) takes ∙ append_assoc (pages_taken front) (page ∷ []) later)

-- one move more
move-leaves : (front : History) (pass : ℕ) (move : LaneMove) (moves : List LaneMove) (left : List ℕ) → IsFirstOut front → IsFirstOut (front ++ by_pass pass move ∷ [])
    → MovesLeave (pages_left (front ++ by_pass pass move ∷ [])) moves left → MovesLeave (pages_left front) (move ∷ moves) left
move-leaves front pass (put page) moves left first now h =
    let M : List ℕ → Type 0 = λ l. MovesLeave l moves left in
    subst M (left-leaves (front ++ by_pass pass (put page) ∷ []) (pages_left front ++ page ∷ []) (leaves_put front (pages_left front) pass page (leaves-left front first))) h
move-leaves front pass (took page) moves left first now h = (pages_left (front ++ by_pass pass (took page) ∷ []), took-first front pass page now, h)

-- all moves are by this pass
abbrev IsOnlyBy : ℕ → History → Type 0
IsOnlyBy pass h = (other : ℕ) → other ≢ pass → moves_by other h ≡ []

only-first : (pass : ℕ) (m : PassMove) (rest : History) → IsOnlyBy pass (m ∷ rest) → m.pass ≡ pass
only-first pass m rest only = elim (cases_eq m.pass pass) [
  | inl same ↦ same
  | inr other ↦ absurd (part-some m.pass m rest refl (only m.pass other))
]

only-rest : (pass : ℕ) (m : PassMove) (rest : History) → m.pass ≡ pass → IsOnlyBy pass (m ∷ rest) → IsOnlyBy pass rest
only-rest pass m rest same only other not = sym (part-other other m rest (λ is. not (sym is ∙ same))) ∙ only other not

leave-from : (pass : ℕ) (front rest : History) → IsFifo (front ++ rest) → IsOnlyBy pass rest → MovesLeave (pages_left front) (moves_by pass rest) (pages_left (front ++ rest))
leave-from pass front [] fifo only = ap pages_left (append-nil front)
leave-from pass front (m ∷ rest) fifo only =
    let same : m.pass ≡ pass = only-first pass m rest only in
    let whole : (front ++ m ∷ []) ++ rest ≡ front ++ m ∷ rest = append_assoc front (m ∷ []) rest in
    let now : IsFifo ((front ++ m ∷ []) ++ rest) = subst IsFifo (sym whole) fifo in
    let L : History → Type 0 = λ l. MovesLeave (pages_left (front ++ m ∷ [])) (moves_by pass rest) (pages_left l) in
    let M : List LaneMove → Type 0 = λ l. MovesLeave (pages_left front) l (pages_left (front ++ m ∷ rest)) in
    let then = subst L whole (leave-from pass (front ++ m ∷ []) rest now (only-rest pass m rest same only)) in
    subst M (sym (part-own pass m rest same)) (move-leaves front m.pass m.move (moves_by pass rest) (pages_left (front ++ m ∷ rest)) (front-first front (m ∷ rest) fifo) (front-first (front ++ m ∷ []) rest now) then)

pub pass-alone : (h : History) (pass : ℕ) → IsFifo h → ((other : ℕ) → other ≢ pass → moves_by other h ≡ []) → MovesLeave [] (moves_by pass h) (pages_left h)
pass-alone h pass fifo only = leave-from pass [] h fifo only

-- A history that grows by a put, or by a take of the first page that is left, stays first in, first out.
use Rattle.std.proofs.Common.{◌≡◌, ◌≢◌, ◌⊎◌, ◌==◌, cond, ℕ, zero, suc, List, [], ◌∷◌, ◌++◌, length, map, take, drop, sym, refl, ap, ◌∙◌, subst, inl, inr, ⊎_elim, append_assoc, eq-eqb, ne_eqb}
use Rattle.std.proofs.Math.Seq.{take-nil, take-append_seam, drop-append_seam}
use Rattle.std.proofs.lemmas.List.{take-append-drop, map-append, append-nil}
use Rattle.std.proofs.lemmas.List.Elements.{filter-append, filter_map-append}
use Rattle.std.specs.List.{filter}
use Rattle.nm_actor.specs.Lanes.{LaneMove, put, took}
use Rattle.nm_queue.specs.Histories.{PassMove, History, moves_by, page_put, page_taken, pages_put, pages_taken, pages_left, IsFirstOut, IsFifo}

-- a move of a pass
abbrev pub by_pass : ℕ → LaneMove → PassMove
by_pass pass move = record { pass = pass; move = move }

-- these pages are left: they follow those that were taken
abbrev pub Leaves : History → List ℕ → Type 0
Leaves h pages = pages_put h ≡ pages_taken h ++ pages

pub leaves-left : (h : History) → IsFirstOut h → Leaves h (pages_left h)
leaves-left h first = sym (take-append-drop (length (pages_taken h)) (pages_put h)) ∙ ap (λ t. t ++ pages_left h) (sym first)

pub left-leaves : (h : History) (pages : List ℕ) → Leaves h pages → pages_left h ≡ pages
left-leaves h pages e = ap (λ t. drop (length (pages_taken h)) t) e ∙ drop-append_seam (pages_taken h) pages

pub first_out : (h : History) (pages : List ℕ) → Leaves h pages → IsFirstOut h
first_out h pages e = sym (ap (λ t. take (length (pages_taken h)) t) e ∙ take-append_seam (pages_taken h) pages)

pub leaves_put : (h : History) (pages : List ℕ) (pass page : ℕ) → Leaves h pages → Leaves (h ++ by_pass pass (put page) ∷ []) (pages ++ page ∷ [])
leaves_put h pages pass page e =
    filter_map-append (λ m. page_put m.move) h (by_pass pass (put page) ∷ [])
    ∙ ap (λ t. t ++ page ∷ []) e
    ∙ append_assoc (pages_taken h) pages (page ∷ [])
    ∙ ap (λ t. t ++ (pages ++ page ∷ [])) (sym (filter_map-append (λ m. page_taken m.move) h (by_pass pass (put page) ∷ []) ∙ append-nil (pages_taken h)))

pub leaves_took : (h : History) (pages : List ℕ) (pass page : ℕ) → Leaves h (page ∷ pages) → Leaves (h ++ by_pass pass (took page) ∷ []) pages
leaves_took h pages pass page e =
    filter_map-append (λ m. page_put m.move) h (by_pass pass (took page) ∷ [])
    ∙ append-nil (pages_put h)
    ∙ e
    ∙ sym (append_assoc (pages_taken h) (page ∷ []) pages)
    ∙ ap (λ t. t ++ pages) (sym (filter_map-append (λ m. page_taken m.move) h (by_pass pass (took page) ∷ [])))

take_more : {X : Type 0} (xs : List X) (x : X) (n : ℕ) → (take n (xs ++ x ∷ []) ≡ take n xs) ⊎ (take n (xs ++ x ∷ []) ≡ xs ++ x ∷ [])
take_more [] x zero = inl refl
take_more [] x (suc n) = inr (ap (λ t. x ∷ t) (take-nil n))
take_more (y ∷ ys) x zero = inl refl
take_more (y ∷ ys) x (suc n) = ⊎_elim (λ e. inl (ap (λ t. y ∷ t) e)) (λ e. inr (ap (λ t. y ∷ t) e)) (take_more ys x n)

pub fifo_more : (h : History) (m : PassMove) → IsFifo h → IsFirstOut (h ++ m ∷ []) → IsFifo (h ++ m ∷ [])
fifo_more h m fifo last n = ⊎_elim (λ e. subst IsFirstOut (sym e) (fifo n)) (λ e. subst IsFirstOut (sym e) last) (take_more h m n)

take_all : {X : Type 0} (xs : List X) → take (length xs) xs ≡ xs
take_all [] = refl
take_all (x ∷ xs) = ap (λ t. x ∷ t) (take_all xs)

pub fifo_now : (h : History) → IsFifo h → IsFirstOut h
fifo_now h fifo = subst IsFirstOut (take_all h) (fifo (length h))

pub moves_by-append : (pass : ℕ) (a b : History) → moves_by pass (a ++ b) ≡ moves_by pass a ++ moves_by pass b
moves_by-append pass a b = ap (λ t. map (λ (m : PassMove). m.move) t) (filter-append (λ (m : PassMove). m.pass == pass) a b) ∙ map-append (λ (m : PassMove). m.move) (filter (λ m. m.pass == pass) a) (filter (λ m. m.pass == pass) b)

pub moves_by-own : (pass : ℕ) (h : History) (move : LaneMove) → moves_by pass (h ++ by_pass pass move ∷ []) ≡ moves_by pass h ++ move ∷ []
moves_by-own pass h move = moves_by-append pass h (by_pass pass move ∷ []) ∙ ap (λ b. moves_by pass h ++ map (λ (m : PassMove). m.move) (cond b (by_pass pass move ∷ []) [])) (eq-eqb pass pass refl)

pub moves_by-other : (pass by : ℕ) (h : History) (move : LaneMove) → by ≢ pass → moves_by pass (h ++ by_pass by move ∷ []) ≡ moves_by pass h
moves_by-other pass by h move other = moves_by-append pass h (by_pass by move ∷ []) ∙ ap (λ b. moves_by pass h ++ map (λ (m : PassMove). m.move) (cond b (by_pass by move ∷ []) [])) (ne_eqb by pass other) ∙ append-nil (moves_by pass h)

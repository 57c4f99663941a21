-- A pass into which every other pass was joined knows what the queue holds.
use Rattle.std.proofs.Common.{◌≡◌, ℕ, ◌<◌, List, [], ◌∷◌, ◌++◌, length, drop, slice_get, sym, ap, ◌∙◌, subst, Some, arith}
use Rattle.std.proofs.lemmas.List.{append-nil}
use Rattle.nm_actor.specs.Lanes.{put, took}
use Rattle.nm_queue.specs.Histories.{History, pages_left}
use Rattle.nm_queue.specs.Passes.{Known, IsAlone, IsMoment, PutThen, TookThen, HeldThen}
use Rattle.nm_queue.proofs.Fifo.{by_pass, Leaves, leaves-left, left-leaves, leaves_put, leaves_took, fifo_now}

nothing_between : (k : Known) (between : History) → IsMoment k between → IsAlone k → k.seen ++ between ≡ k.seen
nothing_between k between moment alone = ap (λ t. k.seen ++ t) (moment.alone alone) ∙ append-nil k.seen

-- so many pages were in the queue
pub held_alone : (n : ℕ) (k : Known) → HeldThen n k → IsAlone k → length (pages_left k.seen) ≡ n
held_alone n k held alone = ap (λ t. length (pages_left t)) (sym (nothing_between k held.between held.moment alone)) ∙ held.pages

pub room_alone : (capacity page : ℕ) (old new : Known) → PutThen capacity page old new → IsAlone old → length (pages_left old.seen) < capacity
room_alone capacity page old new is alone = let e = ap (λ t. length (pages_left t)) (nothing_between old is.between is.moment alone) in let r = is.room in omega arith

-- a page was put behind them
pub put_alone : (capacity page : ℕ) (old new : Known) → PutThen capacity page old new → IsAlone old → pages_left new.seen ≡ pages_left old.seen ++ page ∷ []
put_alone capacity page old new is alone =
    let h = old.seen ++ is.between in
    let leaves : Leaves (h ++ by_pass old.number (put page) ∷ []) (pages_left h ++ page ∷ []) = leaves_put h (pages_left h) old.number page (leaves-left h (fifo_now h is.moment.fifo)) in
    ap (λ (k : Known). pages_left k.seen) is.is
    ∙ left-leaves (h ++ by_pass old.number (put page) ∷ []) (pages_left h ++ page ∷ []) leaves
    ∙ ap (λ t. pages_left t ++ page ∷ []) (nothing_between old is.between is.moment alone)

first_of : (xs : List ℕ) (x : ℕ) → slice_get xs 0 ≡ Some x → xs ≡ x ∷ drop 1 xs
first_of [] x e = absurd (cc)
first_of (y ∷ ys) x e = let same : y ≡ x = (cc) in ap (λ z. z ∷ ys) same

-- the first of them was taken
pub taken_alone : (page : ℕ) (old new : Known) → TookThen page old new → IsAlone old → pages_left old.seen ≡ page ∷ pages_left new.seen
taken_alone page old new is alone =
    let h = old.seen ++ is.between in
    let first : pages_left h ≡ page ∷ drop 1 (pages_left h) = first_of (pages_left h) page is.first in
    let leaves : Leaves h (page ∷ drop 1 (pages_left h)) = subst (Leaves h) first (leaves-left h (fifo_now h is.moment.fifo)) in
    let rest : pages_left new.seen ≡ drop 1 (pages_left h) = ap (λ (k : Known). pages_left k.seen) is.is ∙ left-leaves (h ++ by_pass old.number (took page) ∷ []) (drop 1 (pages_left h)) (leaves_took h (drop 1 (pages_left h)) old.number page leaves) in
    ap pages_left (sym (nothing_between old is.between is.moment alone)) ∙ first ∙ ap (λ t. page ∷ t) (sym rest)

-- and the pass is still alone
pub alone_put : (capacity page : ℕ) (old new : Known) → PutThen capacity page old new → IsAlone old → IsAlone new
alone_put capacity page old new is alone = subst IsAlone (sym is.is) alone

pub alone_taken : (page : ℕ) (old new : Known) → TookThen page old new → IsAlone old → IsAlone new
alone_taken page old new is alone = subst IsAlone (sym is.is) alone

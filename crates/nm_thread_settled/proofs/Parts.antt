-- The parts of passes in a history with one move more at its front.
use Rattle.std.proofs.Common.{◌≡◌, ◌≢◌, ◌==◌, cond, ℕ, Bool, true, false, List, [], ◌∷◌, map, sym, ap, ◌∙◌, eq-eqb, ne_eqb}
use Rattle.std.specs.List.{filter}
use Rattle.nm_actor.specs.Lanes.{LaneMove}
use Rattle.nm_queue.specs.Histories.{PassMove, History, moves_by}

moves_if : (pass : ℕ) (m : PassMove) (rest : History) (b : Bool) → (m.pass == pass) ≡ b → moves_by pass (m ∷ rest) ≡ map (λ (x : PassMove). x.move) (cond b (m ∷ filter (λ x. x.pass == pass) rest) (filter (λ x. x.pass == pass) rest))
moves_if pass m rest b e = ap (λ (c : Bool). map (λ (x : PassMove). x.move) (cond c (m ∷ filter (λ x. x.pass == pass) rest) (filter (λ x. x.pass == pass) rest))) e

pub part-own : (pass : ℕ) (m : PassMove) (rest : History) → m.pass ≡ pass → moves_by pass (m ∷ rest) ≡ m.move ∷ moves_by pass rest
part-own pass m rest same = moves_if pass m rest true (eq-eqb m.pass pass same)

pub part-other : (pass : ℕ) (m : PassMove) (rest : History) → m.pass ≢ pass → moves_by pass (m ∷ rest) ≡ moves_by pass rest
part-other pass m rest other = moves_if pass m rest false (ne_eqb m.pass pass other)

-- a pass that made the first move has moves
pub part-some : (pass : ℕ) (m : PassMove) (rest : History) → m.pass ≡ pass → ¬ (moves_by pass (m ∷ rest) ≡ [])
part-some pass m rest same none = let e : m.move ∷ moves_by pass rest ≡ [] = sym (part-own pass m rest same) ∙ none in cc

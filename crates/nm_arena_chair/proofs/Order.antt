-- What the last chair keeps, once its passes took in those of the board.
use Rattle.std.proofs.Common.{◌≡◌, ℕ, suc, List, ◌∷◌, ◌++◌, length, ap, ◌∙◌, subst, sym, Option, None, Some, is_some}
use Rattle.nm_queue.specs.Passes.{JoinedPass, PassState, QueueState, IsAlone, IsWholeHistory, either_number, with_joined}
use Rattle.nm_queue.specs.Rules.{HasNoTwice}
use Rattle.nm_arena_chair.specs.LaneFaces.{IsSingle, IsPassAt}
use Rattle.nm_arena_chair.specs.ChairFaces.{ChairFace, first_moves, HasTaken, IsChairKept, IsBoardPass}

-- a pass that took in another
abbrev pub taken_in : PassState → PassState → PassState
taken_in other into = record into { known = with_joined other.known into.known }

one_more : (q : QueueState) (many : ℕ) (other into : PassState) → IsSingle into.known → IsBoardPass q many other → length (taken_in other into).known.joined ≡ suc many
one_more q many other into single join =
    let j : JoinedPass = record { number = other.known.number; moves = other.known.moves } in
    let one : length (into.known.joined ++ j ∷ other.known.joined) ≡ suc (length other.known.joined) = ap (λ js. length (js ++ j ∷ other.known.joined)) single.joined in
    one ∙ ap suc join.joined

-- a pass takes in that of a board
taken_first : (q : QueueState) (many : ℕ) (other into : PassState) → IsSingle into.known → IsBoardPass q many other → HasTaken many (taken_in other into).known
taken_first q many other into single join = record {
  passes = one_more q many other into single join;
  first = ap (λ js. first_moves (js ++ record { number = other.known.number; moves = other.known.moves } ∷ other.known.joined)) single.joined ∙ join.moves;
}

-- and no other is left
alone_then : (q : QueueState) (many : ℕ) (other into : PassState) → IsSingle into.known → IsBoardPass q many other → IsAlone (taken_in other into).known
alone_then q many other into single join =
    ap (λ n. either_number n other.known.made) single.made ∙ join.made ∙ ap (λ n. Some (suc n)) (sym (one_more q many other into single join))

-- so it knows its whole history
whole_then : (q : QueueState) (many : ℕ) (other old into new : PassState) → IsSingle old.known → into ≡ old → IsBoardPass q many other → new ≡ taken_in other into → (IsAlone new.known → IsWholeHistory new.known) → IsWholeHistory new.known
whole_then q many other old into new single same join is whole =
    whole (subst (λ (p : PassState). IsAlone p.known) (sym is) (alone_then q many other into (subst (λ (p : PassState). IsSingle p.known) (sym same) single) join))

pub single_at : (before : Option (List ℕ)) (q : QueueState) (p : PassState) → before ≡ None → IsPassAt (is_some before) q p → IsSingle p.known
single_at before q p none at = (subst (λ b. IsPassAt (is_some b) q p) none at).alone

-- the passes of a chair before
pub singles : (now inner : ChairFace) → inner ≡ now → now.others ≡ None → IsChairKept inner.arena inner.seat inner.candidates inner.candidate_pass inner.pending inner.pending_pass inner.others
    → IsSingle now.candidate_pass.known × IsSingle now.pending_pass.known
singles now inner same none kept =
    let here = ap (λ (c : ChairFace). c.others) same ∙ none in (
      subst (λ (c : ChairFace). IsSingle c.candidate_pass.known) same (single_at inner.others inner.candidates inner.candidate_pass here kept.candidate_pass),
      subst (λ (c : ChairFace). IsSingle c.pending_pass.known) same (single_at inner.others inner.pending inner.pending_pass here kept.pending_pass),
    )

named_at : (before : Option (List ℕ)) (q r : QueueState) (p : PassState) → q.name ≡ r.name → IsPassAt (is_some before) q p → p.queue ≡ r.name
named_at before q r p name at = at.queue ∙ name

taking-kept : (c : ChairFace) (q r : QueueState) (first second : PassState) (order : List ℕ) → c.others ≡ None → IsChairKept c.arena c.seat c.candidates c.candidate_pass c.pending c.pending_pass c.others
    → c.candidates.name ≡ q.name → c.pending.name ≡ r.name → IsBoardPass q (length order) first → IsBoardPass r (length order) second → HasNoTwice (c.seat.view.number ∷ order)
    → IsChairKept c.arena c.seat q (taken_in first c.candidate_pass) r (taken_in second c.pending_pass) (Some order)
taking-kept c q r first second order none kept name other_name join other_join once =
    let mine = single_at c.others c.candidates c.candidate_pass none kept.candidate_pass in
    let own = single_at c.others c.pending c.pending_pass none kept.pending_pass in
    record {
      seated = kept.seated;
      candidate_pass = record { queue = named_at c.others c.candidates q c.candidate_pass name kept.candidate_pass; alone = alone_then q (length order) first c.candidate_pass mine join };
      pending_pass = record { queue = named_at c.others c.pending r c.pending_pass other_name kept.pending_pass; alone = alone_then r (length order) second c.pending_pass own other_join };
      others = record {
        candidates = taken_first q (length order) first c.candidate_pass mine join;
        pending = taken_first r (length order) second c.pending_pass own other_join;
        once = once;
      };
    }

pub rested_kept : (now inner : ChairFace) (q r : QueueState) (first second mine own : PassState) (order : List ℕ) → inner ≡ now → now.others ≡ None
    → IsChairKept inner.arena inner.seat inner.candidates inner.candidate_pass inner.pending inner.pending_pass inner.others
    → now.candidates.name ≡ q.name → now.pending.name ≡ r.name → IsBoardPass q (length order) first → IsBoardPass r (length order) second → HasNoTwice (now.seat.view.number ∷ order)
    → mine ≡ taken_in first inner.candidate_pass → own ≡ taken_in second inner.pending_pass → IsChairKept inner.arena inner.seat q mine r own (Some order)
rested_kept now inner q r first second mine own order same none kept name other_name join other_join once is also =
    let back = sym same in
    let here = taking-kept inner q r first second order (subst (λ (c : ChairFace). c.others ≡ None) back none) kept (subst (λ (c : ChairFace). c.candidates.name ≡ q.name) back name) (subst (λ (c : ChairFace). c.pending.name ≡ r.name) back other_name)
    join other_join (subst (λ (c : ChairFace). HasNoTwice (c.seat.view.number ∷ order)) back once) in
    subst (λ (p : PassState). IsChairKept inner.arena inner.seat q p r own (Some order)) (sym is) (subst (λ (p : PassState). IsChairKept inner.arena inner.seat q (taken_in first inner.candidate_pass) r p (Some order)) (sym also) here)

pub rested_whole : (now inner : ChairFace) (q r : QueueState) (first second mine own : PassState) (many : ℕ) → inner ≡ now → now.others ≡ None
    → IsChairKept inner.arena inner.seat inner.candidates inner.candidate_pass inner.pending inner.pending_pass inner.others → IsBoardPass q many first → IsBoardPass r many second
    → mine ≡ taken_in first inner.candidate_pass → own ≡ taken_in second inner.pending_pass → (IsAlone mine.known → IsWholeHistory mine.known) → (IsAlone own.known → IsWholeHistory own.known)
    → IsWholeHistory mine.known × IsWholeHistory own.known
rested_whole now inner q r first second mine own many same none kept join other_join is also whole other_whole =
    let single = singles now inner same none kept in (
      whole_then q many first now.candidate_pass inner.candidate_pass mine single.0 (ap (λ (c : ChairFace). c.candidate_pass) same) join is whole,
      whole_then r many second now.pending_pass inner.pending_pass own single.1 (ap (λ (c : ChairFace). c.pending_pass) same) other_join also other_whole,
    )

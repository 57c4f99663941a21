-- The lists that a batch keeps of its pieces.
use Rattle.std.proofs.Common.{◌≡◌, ℕ, zero, suc, ◌≤◌, List, [], ◌∷◌, ◌++◌, length, drop, map, Some, None, refl, sym, ap, ◌∙◌, subst, arith}
use Rattle.nm_action.specs.declared.spent.Spent.{Spent}
use Rattle.nm_prepare.specs.declared.prepare.Prepared.{Prepared}
use Rattle.nm_prepare.specs.declared.prepare.Prepared.TheVariants.{Busy, Closed, Ready}
use Rattle.nm_prepare.specs.declared.prepare.Early.TheVariants.{NoFrame, Gone, Worn}
use Rattle.nm_commit.specs.declared.decide.DecideMade.{DecideMade}
use Rattle.nm_commit.specs.declared.decide.Decided.{Decided}
use Rattle.nm_commit.specs.declared.decide.Decided.TheVariants.{Committed, Aborted}
use Rattle.nm_txn.specs.declared.batch.ReadyPiece.{ReadyPiece}
use Rattle.nm_txn.specs.Batches.{count_ready, drawn_after, drawn_with, ready_with, ready_of, taken_of, ends_of}
use Rattle.nm_batch.specs.declared.batch.BatchPlace.{BatchPlace}
use Rattle.nm_batch.specs.declared.batch.BatchStage.TheVariants.{Deciding}
use Rattle.nm_batch.specs.Places.{decide_stage_by, decide_stage}
use Rattle.nm_batch.specs.Opened.{OpenPiece, open_ready, open_word, open_made}
use Rattle.nm_batch.specs.Leaving.{count_decided}

-- what is drawn after one piece more
pub drawn-more : (spent : Spent) (ends : List Prepared) (end : Prepared) → drawn_with spent (ends ++ end ∷ []) ≡ drawn_after (drawn_with spent ends) end
drawn-more spent [] end = refl
drawn-more spent (e ∷ ends) end = drawn-more (drawn_after spent e) ends end

ready-first : (p : ℕ × ℕ) (ps : List (ℕ × ℕ)) (end : Prepared) → ready_with p end (ready_of ps []) ≡ ready_with p end []
ready-first p [] end = refl
ready-first p (q ∷ ps) end = refl

with-more : (p : ℕ × ℕ) (end : Prepared) (rest more : List ReadyPiece) → ready_with p end (rest ++ more) ≡ ready_with p end rest ++ more
with-more p Busy rest more = refl
with-more p (Closed early) rest more = refl
with-more p (Ready home frame) rest more = refl

-- the pieces that are ready after one piece more
pub ready-more : (pieces : List (ℕ × ℕ)) (ends : List Prepared) (end : Prepared) (p : ℕ × ℕ) (ps : List (ℕ × ℕ)) → drop (length ends) pieces ≡ p ∷ ps → ready_of pieces (ends ++ end ∷ []) ≡ ready_of pieces ends ++ ready_with p end []
ready-more [] [] end p ps e = cc
ready-more [] (x ∷ ends) end p ps e = cc
ready-more (q ∷ pieces) [] end p ps e = let same : q ≡ p = cc in ready-first q pieces end ∙ ap (λ (r : ℕ × ℕ). ready_with r end []) same
ready-more (q ∷ pieces) (x ∷ ends) end p ps e =
    ap (ready_with q x) (ready-more pieces ends end p ps e) ∙ with-more q x (ready_of pieces ends) (ready_with p end [])

with-count : (p : ℕ × ℕ) (end : Prepared) (rest : List ReadyPiece) (ends : List Prepared) → length rest ≡ count_ready ends → length (ready_with p end rest) ≡ count_ready (end ∷ ends)
with-count p Busy rest ends e = e
with-count p (Closed early) rest ends e = e
with-count p (Ready home frame) rest ends e = ap suc e

-- so many are ready
pub ready-count : (pieces : List (ℕ × ℕ)) (ends : List Prepared) → length ends ≤ length pieces → length (ready_of pieces ends) ≡ count_ready ends
ready-count [] [] h = refl
ready-count [] (x ∷ ends) h = let bad : ⊥ = omega arith in absurd bad
ready-count (p ∷ pieces) [] h = refl
ready-count (p ∷ pieces) (x ∷ ends) h = let less : length ends ≤ length pieces = omega arith in with-count p x (ready_of pieces ends) ends (ready-count pieces ends less)

taken-none : (ready : List ReadyPiece) → [] ≡ taken_of ready []
taken-none [] = refl
taken-none (p ∷ ps) = refl

-- the taken words of the pieces from a place on
pub taken-drop : (n : ℕ) (ready : List ReadyPiece) (words : List ℕ) → drop n (taken_of ready words) ≡ taken_of (drop n ready) (drop n words)
taken-drop zero ready words = refl
taken-drop (suc n) [] words = refl
taken-drop (suc n) (p ∷ ps) [] = taken-none (drop n ps)
taken-drop (suc n) (p ∷ ps) (w ∷ ws) = taken-drop n ps ws

pub taken-length : (ready : List ReadyPiece) (words : List ℕ) → length words ≡ length ready → length (taken_of ready words) ≡ length ready
taken-length [] words e = refl
taken-length (p ∷ ps) [] e = let bad : ⊥ = omega (arith, e) in absurd bad
taken-length (p ∷ ps) (w ∷ ws) e = let less : length ws ≡ length ps = omega (arith, e) in ap suc (taken-length ps ws less)

-- the pieces with their words
pub made-taken : (held : List OpenPiece) → map open_made held ≡ taken_of (map open_ready held) (map open_word held)
made-taken [] = refl
made-taken (p ∷ ps) = ap (λ (l : List DecideMade). open_made p ∷ l) (made-taken ps)

ends-first : (end : Prepared) (ends : List Prepared) (decided : List Decided) → ((d : List Decided) → count_ready ends ≤ length d → length (ends_of ends d) ≡ length ends) → count_ready (end ∷ ends) ≤ length decided → length (ends_of (end ∷ ends) decided) ≡ suc (length ends)
ends-first Busy ends decided step h = ap suc (step decided h)
ends-first (Closed early) ends decided step h = ap suc (step decided h)
ends-first (Ready home frame) ends [] step h = let bad : ⊥ = omega (arith, h) in absurd bad
ends-first (Ready home frame) ends (d ∷ ds) step h = let less : count_ready ends ≤ length ds = omega (arith, h) in ap suc (step ds less)

-- each piece has an end, where all that were ready were decided
pub ends-count : (ends : List Prepared) (decided : List Decided) → count_ready ends ≤ length decided → length (ends_of ends decided) ≡ length ends
ends-count [] decided h = refl
ends-count (e ∷ ends) decided h = ends-first e ends decided (λ d few. ends-count ends d few) h

decided-first : (end : Prepared) (ends : List Prepared) (decided : List Decided) → ((d : List Decided) → count_ready ends ≤ length d → count_decided (ends_of ends d) ≡ count_ready ends) → count_ready (end ∷ ends) ≤ length decided → count_decided (ends_of (end ∷ ends) decided) ≡ count_ready (end ∷ ends)
decided-first Busy ends decided step h = step decided h
decided-first (Closed (NoFrame free)) ends decided step h = step decided h
decided-first (Closed Gone) ends decided step h = step decided h
decided-first (Closed Worn) ends decided step h = step decided h
decided-first (Ready home frame) ends [] step h = let bad : ⊥ = omega (arith, h) in absurd bad
decided-first (Ready home frame) ends (Committed ∷ ds) step h = let less : count_ready ends ≤ length ds = omega (arith, h) in ap suc (step ds less)
decided-first (Ready home frame) ends (Aborted word ∷ ds) step h = let less : count_ready ends ≤ length ds = omega (arith, h) in ap suc (step ds less)

-- the ends of decided pieces are those of the ready ones, where all of these were decided
pub decided-count : (ends : List Prepared) (decided : List Decided) → count_ready ends ≤ length decided → count_decided (ends_of ends decided) ≡ count_ready ends
decided-count [] decided h = refl
decided-count (e ∷ ends) decided h = decided-first e ends decided (λ d few. decided-count ends d few) h

-- The next stage of a decision.

pub decide-none : (place : BatchPlace) (n : ℕ) → n ≡ length place.decided → drop n place.ready ≡ [] → None ≡ decide_stage place
decide-none place n e none =
    let N : ℕ → Type 0 = λ k. drop k place.ready ≡ [] in
    let here = subst N e none in
    sym (ap decide_stage_by (taken-drop (length place.decided) place.ready place.words ∙ ap (λ (l : List ReadyPiece). taken_of l (drop (length place.decided) place.words)) here))

pub decide-no-word : (place : BatchPlace) (n : ℕ) (p : ReadyPiece) (ps : List ReadyPiece) → n ≡ length place.decided → drop n place.ready ≡ p ∷ ps → drop n place.words ≡ [] → None ≡ decide_stage place
decide-no-word place n p ps e some none =
    let S : ℕ → Type 0 = λ k. drop k place.ready ≡ p ∷ ps in
    let N : ℕ → Type 0 = λ k. drop k place.words ≡ [] in
    sym (ap decide_stage_by (taken-drop (length place.decided) place.ready place.words
    ∙ (ap (λ (l : List ReadyPiece). taken_of l (drop (length place.decided) place.words)) (subst S e some) ∙ ap (taken_of (p ∷ ps)) (subst N e none))))

pub decide-some : (place : BatchPlace) (n : ℕ) (p : ReadyPiece) (ps : List ReadyPiece) (w : ℕ) (ws : List ℕ) → n ≡ length place.decided → drop n place.ready ≡ p ∷ ps → drop n place.words ≡ w ∷ ws
    → Some (Deciding (record { page = p.page; vpage = p.vpage; word = w; home = p.home; frame = p.frame })) ≡ decide_stage place
decide-some place n p ps w ws e some word =
    let S : ℕ → Type 0 = λ k. drop k place.ready ≡ p ∷ ps in
    let N : ℕ → Type 0 = λ k. drop k place.words ≡ w ∷ ws in
    sym (ap decide_stage_by (taken-drop (length place.decided) place.ready place.words
    ∙ (ap (λ (l : List ReadyPiece). taken_of l (drop (length place.decided) place.words)) (subst S e some) ∙ ap (taken_of (p ∷ ps)) (subst N e word))))

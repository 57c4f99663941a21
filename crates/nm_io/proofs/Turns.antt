-- Reads and writes in turn, one more at a time.
use Rattle.std.proofs.Common.{◌≡◌, ℕ, ◌+◌, ◌<◌, ◌≤◌, List, [], ◌∷◌, ◌++◌, length, take, drop, Result, Ok, refl, sym, ap, ◌∙◌, append-nil, arith, length-drop, length-take-le}
use Rattle.std.specs.List.{FoldsTo, concat}
use Rattle.std.proofs.lemmas.Fn.{FoldsTo-push}
use Rattle.std.proofs.lemmas.List.Folds.{concat-append}
use Rattle.nm_io.proofs.Fronts.{take-add}
use Rattle.nm_io.specs.Source.{GivesPiece, GivesInReads}
use Rattle.nm_io.specs.Sink.{WritesRest}
use Rattle.nm_io.specs.declared.faults.Failed.{Failed}

-- a read of n bytes behind the first ones gave some, where n isn't 0
pub some_taken : (taken n : ℕ) (items : List ℕ) → (n ≡ 0 → ⊥) → taken + n ≤ length items → 0 < length (take n (drop taken items))
some_taken taken n items some room =
    let rest : n ≤ length (drop taken items) = omega (arith, length-drop taken items) in omega (arith, length-take-le n (drop taken items) rest)

-- before the first read
pub GivesInReads-none : {S : Type 0} (gives : S → Result (List ℕ) Failed → S → Type 0) (s : S) (items : List ℕ) → GivesInReads gives s (take 0 items) s
GivesInReads-none gives s items = record { pieces = []; reads = refl; whole = refl }

-- one more read, of a piece that stands behind the bytes of the reads before
pub GivesInReads-more : {S : Type 0} (gives : S → Result (List ℕ) Failed → S → Type 0) (old now new : S) (items longer : List ℕ) (taken n : ℕ)
    → GivesInReads gives old (take taken items) now → take taken longer ≡ take taken items → 0 < length (take n (drop taken longer))
    → gives now (Ok (take n (drop taken longer))) new → GivesInReads gives old (take (taken + n) longer) new
GivesInReads-more gives old now new items longer taken n given front some more =
    let piece = take n (drop taken longer) in
    record {
      pieces = given.pieces ++ piece ∷ [];
      reads = FoldsTo-push (GivesPiece gives) old given.pieces now piece new given.reads (some, more);
      whole = concat-append given.pieces (piece ∷ []) ∙ ap (λ l. concat given.pieces ++ l) (append-nil piece) ∙ ap (λ l. l ++ piece) (given.whole ∙ sym front)
          ∙ sym (take-add taken n longer);
    }

-- a list of no length has nothing
pub none_left : (xs : List ℕ) → length xs ≡ 0 → xs ≡ []
none_left [] h = refl
none_left (x ∷ xs) h = absurd (omega (arith, h))

-- writes of all that was left, so far
pub record HasWritten {K : Type 0} (takes : K → List ℕ → Result ℕ Failed → K → Type 0) (old : K) (bytes : List ℕ) (new : K) (rest : List ℕ) : Type 0 where
  pub counts : List ℕ
  pub writes : FoldsTo (WritesRest takes) (record { sink = old; rest = bytes }) counts (record { sink = new; rest = rest })

pub HasWritten-none : {K : Type 0} (takes : K → List ℕ → Result ℕ Failed → K → Type 0) (s : K) (bytes : List ℕ) → HasWritten takes s bytes s bytes
HasWritten-none takes s bytes = record { counts = []; writes = refl }

pub HasWritten-more : {K : Type 0} (takes : K → List ℕ → Result ℕ Failed → K → Type 0) (old now new : K) (bytes rest less : List ℕ) (n : ℕ)
    → HasWritten takes old bytes now rest → 0 < length rest → takes now rest (Ok n) new → less ≡ drop n rest → HasWritten takes old bytes new less
HasWritten-more takes old now new bytes rest less n h some took left =
    record {
      counts = h.counts ++ n ∷ [];
      writes = FoldsTo-push (WritesRest takes) (record { sink = old; rest = bytes }) h.counts (record { sink = now; rest = rest }) n (record { sink = new; rest = less }) h.writes (some, took, left);
    }

-- The accesses of the lines so far follow the program.
use Rattle.std.proofs.Common.{◌≡◌, ℕ, suc, true, false, List, [], ◌∷◌, ◌++◌, length, refl, sym, ap, ◌∙◌, subst, append_assoc, arith}
use Rattle.std.proofs.lemmas.List.{append-nil}
use Rattle.nm_flat.specs.declared.access.Access.{Access}
use Rattle.nm_script.specs.declared.script.Line.{Line}
use Rattle.nm_script.specs.declared.script.Line.TheVariants.{Load, Store, Add, Await}
use Rattle.nm_report.specs.declared.line_result.LineResult.{LineResult}
use Rattle.nm_report.specs.Follows.{IsPiece, IsCut, AreMade, FollowsProgram}
use Rattle.nm_cpu.specs.Lines.{AreLoadsOf, IsTried, FollowsSoFar}

-- Lines that were made.

no-more : (n : ℕ) → 0 ≡ suc n → ⊥
no-more n h = absurd (omega (arith, h))

none-left : (n : ℕ) → suc n ≡ 0 → ⊥
none-left n h = absurd (omega (arith, h))

one-less : (m n : ℕ) → suc m ≡ suc n → m ≡ n
one-less m n h = omega (arith, h)

-- the lines behind those that were made
pub made-cut : (p : ℕ) (done lines : List Line) (results : List LineResult) (front back : List Access) → length done ≡ length results
    → AreMade p done results front → IsCut p lines back → AreMade p (done ++ lines) results (front ++ back)
made-cut p [] lines [] front back same made cut = subst (λ (l : List Access). IsCut p lines (l ++ back)) (sym made) cut
made-cut p [] lines (r ∷ results) front back same made cut = absurd (no-more (length results) same)
made-cut p (l ∷ done) lines [] front back same made cut = absurd (none-left (length done) same)
made-cut p (l ∷ done) lines (r ∷ results) front back same made cut = record {
  piece = made.piece;
  rest = made.rest ++ back;
  is = ap (λ (l : List Access). l ++ back) made.is ∙ append_assoc made.piece made.rest back;
  made = made.made;
  follows = made-cut p done lines results made.rest back (one-less (length done) (length results) same) made.follows cut;
}

-- one line more
pub made-more : (p : ℕ) (done : List Line) (line : Line) (results : List LineResult) (result : LineResult) (front piece : List Access) → length done ≡ length results
    → AreMade p done results front → IsPiece p line result piece → AreMade p (done ++ line ∷ []) (results ++ result ∷ []) (front ++ piece)
made-more p [] line [] result front piece same made is = record {
  piece = piece;
  rest = [];
  is = ap (λ (l : List Access). l ++ piece) made ∙ sym (append-nil piece);
  made = is;
  follows = refl;
}
made-more p [] line (r ∷ results) result front piece same made is = absurd (no-more (length results) same)
made-more p (l ∷ done) line [] result front piece same made is = absurd (none-left (length done) same)
made-more p (l ∷ done) line (r ∷ results) result front piece same made is = record {
  piece = made.piece;
  rest = made.rest ++ piece;
  is = ap (λ (l : List Access). l ++ piece) made.is ∙ append_assoc made.piece made.rest piece;
  made = made.made;
  follows = made-more p done line results result made.rest piece (one-less (length done) (length results) same) made.follows is;
}

-- A line that is under way.

-- what was tried of a line stands behind the lines that were made
tried-cut : (p : ℕ) (lines : List Line) (loads more : ℕ) (back : List Access) → AreLoadsOf lines loads more → IsTried p lines loads back → IsCut p lines back
tried-cut p [] loads more back of tried = tried
tried-cut p (Load v w ∷ lines) loads more back of tried = tried
tried-cut p (Store v w x ∷ lines) loads more back of tried = tried
tried-cut p (Add v w x ∷ lines) loads more back of tried = tried
tried-cut p (Await v w x max ∷ lines) loads more back of tried = record { values = tried.values; is = tried.is; others = tried.others; fewer = omega (arith, of, tried.count) }

-- the accesses so far follow the program, which goes on
pub followed-part : (p : ℕ) (program done lines : List Line) (results : List LineResult) (loads more : ℕ) (list : List Access) → program ≡ done ++ lines → length done ≡ length results → AreLoadsOf lines loads more
    → FollowsSoFar p done lines results loads list → FollowsProgram p false program results list
followed-part p program done lines results loads more list is same of h =
    let P : List Line → Type 0 = λ l. AreMade p l results list in
    let L : List Access → Type 0 = λ l. AreMade p (done ++ lines) results l in
    record {
      pieces = subst P (sym is) (subst L (sym h.is) (made-cut p done lines results h.front h.back same h.made (tried-cut p lines loads more h.back of h.tried)));
      whole = λ e. absurd (no-true e);
    }
  where
    no-true : false ≡ true → ⊥
    no-true e = cc

-- nothing was made
pub followed-none : (p : ℕ) (lines : List Line) → FollowsSoFar p [] lines [] 0 []
followed-none p lines = record { front = []; back = []; is = refl; made = refl; tried = tried-none p lines }
  where
    tried-none : (p : ℕ) (lines : List Line) → IsTried p lines 0 []
    tried-none p [] = refl
    tried-none p (Load v w ∷ lines) = refl
    tried-none p (Store v w x ∷ lines) = refl
    tried-none p (Add v w x ∷ lines) = refl
    tried-none p (Await v w x max ∷ lines) = record { values = []; is = refl; others = tt; count = refl }

-- all lines were made
pub followed-all : (p : ℕ) (done : List Line) (results : List LineResult) (loads : ℕ) (list : List Access) → FollowsSoFar p done [] results loads list → AreMade p done results list
followed-all p done results loads list h = subst (λ (l : List Access). AreMade p done results l) (sym (h.is ∙ (ap (λ (l : List Access). h.front ++ l) h.tried ∙ append-nil h.front))) h.made

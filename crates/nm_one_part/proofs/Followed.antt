-- A list of accesses follows a program with one list of results.
use Rattle.std.proofs.Common.{◌≡◌, ℕ, ◌+◌, Bool, List, [], ◌∷◌, ◌++◌, length, refl, sym, ap, ap₂, subst, ◌∙◌, arith}
use Rattle.nm_flat.specs.declared.access.Access.{Access}
use Rattle.nm_flat.specs.declared.access.AccessKind.TheVariants as kind
use Rattle.nm_script.specs.declared.script.Line.{Line}
use Rattle.nm_script.specs.declared.script.Line.TheVariants.{Load, Store, Add, Await}
use Rattle.nm_report.specs.declared.line_result.LineResult.{LineResult}
use Rattle.nm_report.specs.declared.line_result.LineResult.TheVariants.{Loaded, Stored, Added, Met, Missed}
use Rattle.nm_report.specs.Follows.{access_made, loads_of, IsPiece, IsCutLine, AreMade, FollowsProgram}
use Rattle.nm_one_part.proofs.Loads.{first-and-rest, not-empty, same-load, both-met, met-not-missed, both-missed, cut-not-met, cut-not-missed}

-- a result, and what comes after its piece
record IsSameHere (r s : LineResult) (rest more : List Access) : Type 0 where
  result : r ≡ s
  after : rest ≡ more

-- two splits of a list, as pieces and rests
joined : (list piece rest other more made done : List Access) → list ≡ piece ++ rest → list ≡ other ++ more → piece ≡ made → other ≡ done → made ++ rest ≡ done ++ more
joined list piece rest other more made done is other_is first second = sym (ap (λ (l : List Access). l ++ rest) first) ∙ sym is ∙ other_is ∙ ap (λ (l : List Access). l ++ more) second

add-kinds : (x y n : ℕ) → kind.Add x n ≡ kind.Add y n → x ≡ y
add-kinds x y n is = cc

same-piece : (p : ℕ) (l : Line) (r s : LineResult) (list piece rest other more : List Access) → IsPiece p l r piece → IsPiece p l s other → list ≡ piece ++ rest → list ≡ other ++ more → IsSameHere r s rest more
same-piece p (Load v w) (Loaded x) (Loaded y) list piece rest other more h k is other_is =
    let both = first-and-rest _ _ rest more (joined list piece rest other more (access_made p v w (kind.Load x) ∷ []) (access_made p v w (kind.Load y) ∷ []) is other_is h k) in
    record { result = ap (λ (n : ℕ). Loaded n) (same-load p v w x y both.0); after = both.1 }
same-piece p (Load v w) (Loaded x) Stored list piece rest other more h k is other_is = absurd k
same-piece p (Load v w) (Loaded x) (Added y) list piece rest other more h k is other_is = absurd k
same-piece p (Load v w) (Loaded x) (Met y) list piece rest other more h k is other_is = absurd k
same-piece p (Load v w) (Loaded x) (Missed y) list piece rest other more h k is other_is = absurd k
same-piece p (Load v w) Stored s list piece rest other more h k is other_is = absurd h
same-piece p (Load v w) (Added x) s list piece rest other more h k is other_is = absurd h
same-piece p (Load v w) (Met x) s list piece rest other more h k is other_is = absurd h
same-piece p (Load v w) (Missed x) s list piece rest other more h k is other_is = absurd h
same-piece p (Store v w z) Stored Stored list piece rest other more h k is other_is =
    record { result = refl; after = (first-and-rest _ _ rest more (joined list piece rest other more (access_made p v w (kind.Store z) ∷ []) (access_made p v w (kind.Store z) ∷ []) is other_is h k)).1 }
same-piece p (Store v w z) Stored (Loaded y) list piece rest other more h k is other_is = absurd k
same-piece p (Store v w z) Stored (Added y) list piece rest other more h k is other_is = absurd k
same-piece p (Store v w z) Stored (Met y) list piece rest other more h k is other_is = absurd k
same-piece p (Store v w z) Stored (Missed y) list piece rest other more h k is other_is = absurd k
same-piece p (Store v w z) (Loaded x) s list piece rest other more h k is other_is = absurd h
same-piece p (Store v w z) (Added x) s list piece rest other more h k is other_is = absurd h
same-piece p (Store v w z) (Met x) s list piece rest other more h k is other_is = absurd h
same-piece p (Store v w z) (Missed x) s list piece rest other more h k is other_is = absurd h
same-piece p (Add v w n) (Added x) (Added y) list piece rest other more h k is other_is =
    let both = first-and-rest _ _ rest more (joined list piece rest other more (access_made p v w (kind.Add x n) ∷ []) (access_made p v w (kind.Add y n) ∷ []) is other_is h k) in
    record { result = ap (λ (m : ℕ). Added m) (add-kinds x y n (ap (λ (a : Access). a.kind) both.0)); after = both.1 }
same-piece p (Add v w n) (Added x) (Loaded y) list piece rest other more h k is other_is = absurd k
same-piece p (Add v w n) (Added x) Stored list piece rest other more h k is other_is = absurd k
same-piece p (Add v w n) (Added x) (Met y) list piece rest other more h k is other_is = absurd k
same-piece p (Add v w n) (Added x) (Missed y) list piece rest other more h k is other_is = absurd k
same-piece p (Add v w n) (Loaded x) s list piece rest other more h k is other_is = absurd h
same-piece p (Add v w n) Stored s list piece rest other more h k is other_is = absurd h
same-piece p (Add v w n) (Met x) s list piece rest other more h k is other_is = absurd h
same-piece p (Add v w n) (Missed x) s list piece rest other more h k is other_is = absurd h
same-piece p (Await v w x max) (Met m) (Met n) list piece rest other more h k is other_is =
    let both = both-met p v w x h.earlier k.earlier rest more h.others k.others (joined list piece rest other more (loads_of p v w (h.earlier ++ x ∷ [])) (loads_of p v w (k.earlier ++ x ∷ [])) is other_is h.is k.is) in
    record { result = ap (λ (i : ℕ). Met i) (sym h.count ∙ ap (λ (i : ℕ). i + 1) both.0 ∙ k.count); after = both.1 }
same-piece p (Await v w x max) (Met m) (Missed n) list piece rest other more h k is other_is =
    absurd (met-not-missed p v w x h.earlier k.values rest more h.others k.others (omega (arith, h.count, h.most, k.count, k.most)) (joined list piece rest other more (loads_of p v w (h.earlier ++ x ∷ [])) (loads_of p v w k.values) is other_is h.is k.is))
same-piece p (Await v w x max) (Missed m) (Met n) list piece rest other more h k is other_is =
    absurd (met-not-missed p v w x k.earlier h.values more rest k.others h.others (omega (arith, k.count, k.most, h.count, h.most)) (joined list other more piece rest (loads_of p v w (k.earlier ++ x ∷ [])) (loads_of p v w h.values) other_is is k.is h.is))
same-piece p (Await v w x max) (Missed m) (Missed n) list piece rest other more h k is other_is =
    let many : length h.values ≡ length k.values = h.count ∙ h.most ∙ sym k.most ∙ sym k.count in
    record { result = ap (λ (i : ℕ). Missed i) (h.most ∙ sym k.most); after = both-missed p v w h.values k.values rest more many (joined list piece rest other more (loads_of p v w h.values) (loads_of p v w k.values) is other_is h.is k.is) }
same-piece p (Await v w x max) (Met m) (Loaded y) list piece rest other more h k is other_is = absurd k
same-piece p (Await v w x max) (Met m) Stored list piece rest other more h k is other_is = absurd k
same-piece p (Await v w x max) (Met m) (Added y) list piece rest other more h k is other_is = absurd k
same-piece p (Await v w x max) (Missed m) (Loaded y) list piece rest other more h k is other_is = absurd k
same-piece p (Await v w x max) (Missed m) Stored list piece rest other more h k is other_is = absurd k
same-piece p (Await v w x max) (Missed m) (Added y) list piece rest other more h k is other_is = absurd k
same-piece p (Await v w x max) (Loaded y) s list piece rest other more h k is other_is = absurd h
same-piece p (Await v w x max) Stored s list piece rest other more h k is other_is = absurd h
same-piece p (Await v w x max) (Added y) s list piece rest other more h k is other_is = absurd h

-- a line that was cut gave nothing
not-cut : (p : ℕ) (l : Line) (r : LineResult) (list piece rest : List Access) → IsCutLine p l list → IsPiece p l r piece → list ≡ piece ++ rest → ⊥
not-cut p (Load v w) (Loaded x) list piece rest cut h is = not-empty _ rest (sym cut ∙ is ∙ ap (λ (l : List Access). l ++ rest) h)
not-cut p (Load v w) Stored list piece rest cut h is = h
not-cut p (Load v w) (Added x) list piece rest cut h is = h
not-cut p (Load v w) (Met x) list piece rest cut h is = h
not-cut p (Load v w) (Missed x) list piece rest cut h is = h
not-cut p (Store v w z) Stored list piece rest cut h is = not-empty _ rest (sym cut ∙ is ∙ ap (λ (l : List Access). l ++ rest) h)
not-cut p (Store v w z) (Loaded x) list piece rest cut h is = h
not-cut p (Store v w z) (Added x) list piece rest cut h is = h
not-cut p (Store v w z) (Met x) list piece rest cut h is = h
not-cut p (Store v w z) (Missed x) list piece rest cut h is = h
not-cut p (Add v w n) (Added x) list piece rest cut h is = not-empty _ rest (sym cut ∙ is ∙ ap (λ (l : List Access). l ++ rest) h)
not-cut p (Add v w n) (Loaded x) list piece rest cut h is = h
not-cut p (Add v w n) Stored list piece rest cut h is = h
not-cut p (Add v w n) (Met x) list piece rest cut h is = h
not-cut p (Add v w n) (Missed x) list piece rest cut h is = h
not-cut p (Await v w x max) (Met n) list piece rest cut h is = cut-not-met p v w x cut.values h.earlier rest cut.others (sym cut.is ∙ is ∙ ap (λ (l : List Access). l ++ rest) h.is)
not-cut p (Await v w x max) (Missed n) list piece rest cut h is = cut-not-missed p v w cut.values h.values rest (omega (arith, cut.fewer, h.count, h.most)) (sym cut.is ∙ is ∙ ap (λ (l : List Access). l ++ rest) h.is)
not-cut p (Await v w x max) (Loaded y) list piece rest cut h is = h
not-cut p (Await v w x max) Stored list piece rest cut h is = h
not-cut p (Await v w x max) (Added y) list piece rest cut h is = h

one-made : (p : ℕ) (lines : List Line) (results others : List LineResult) (list : List Access) → AreMade p lines results list → AreMade p lines others list → results ≡ others
one-made p [] [] [] list h k = refl
one-made p [] [] (s ∷ others) list h k = absurd k
one-made p [] (r ∷ results) others list h k = absurd h
one-made p (l ∷ lines) [] [] list h k = refl
one-made p (l ∷ lines) [] (s ∷ others) list h k = absurd (not-cut p l s list k.piece k.rest h k.made k.is)
one-made p (l ∷ lines) (r ∷ results) [] list h k = absurd (not-cut p l r list h.piece h.rest k h.made h.is)
one-made p (l ∷ lines) (r ∷ results) (s ∷ others) list h k =
    let here = same-piece p l r s list h.piece h.rest k.piece k.rest h.made k.made h.is k.is in
    let A : List Access → Type 0 = λ a. AreMade p lines others a in
    ap₂ (λ (x : LineResult) (xs : List LineResult). x ∷ xs) here.result (one-made p lines results others h.rest h.follows (subst A (sym here.after) k.follows))

pub one-list-of-results : (cpu : ℕ) (ended over : Bool) (program : List Line) (results others : List LineResult) (list : List Access) → FollowsProgram cpu ended program results list → FollowsProgram cpu over program others list → results ≡ others
one-list-of-results cpu ended over program results others list h k = one-made cpu program results others list h.pieces k.pieces

-- One access more: what the next line makes of it, and that no accesses that follow the program go on with one of which it makes nothing.
use Rattle.std.proofs.Common.{◌≡◌, ◌≢◌, ℕ, suc, ◌+◌, ◌<◌, ◌≤◌, ◌==◌, ◌&&◌, Bool, true, false, List, [], ◌∷◌, ◌++◌, length, drop, Option, Some, None, refl, sym, ap, ◌∙◌, subst, arith, append_assoc, length-append, append-nil, eq-eqb}
use Rattle.std.specs.Bool.{if◌then◌else◌}
use Rattle.std.specs.List.{AllByRecursion}
use Rattle.std.proofs.lemmas.Bool.{and_parts, eqb-true}
use Rattle.std.proofs.lemmas.Option.{none-some, same_Some}
use Rattle.nm_flat.specs.declared.access.Access.{Access}
use Rattle.nm_flat.specs.declared.access.AccessKind.{AccessKind}
use Rattle.nm_flat.specs.declared.access.AccessKind.TheVariants as kind
use Rattle.nm_script.specs.declared.script.Line.{Line}
use Rattle.nm_script.specs.declared.script.Line.TheVariants.{Load, Store, Add, Await}
use Rattle.nm_report.specs.declared.line_result.LineResult.{LineResult}
use Rattle.nm_report.specs.declared.line_result.LineResult.TheVariants.{Loaded, Stored, Added, Met, Missed}
use Rattle.nm_report.specs.Follows.{access_made, loads_of, AllOther, IsMet, IsMissed, IsPiece, IsCutAwait, IsCutLine, IsCut, IsSplit, AreMade}
use Rattle.nm_follow.specs.Cursors.{HasTries, IsWaiting, IsTriedLine, IsTried, AreMadeTo, kind_taken, line_page, line_word, line_taken, access_taken, Cursor, IsCursorAt}
use Rattle.nm_follow.proofs.Pieces.{met_missed, one_piece, made_uncut}

-- ---- what is known of an access that a line takes

same_access : (a : Access) (p v w : ℕ) (k : AccessKind) → a.cpu ≡ p → a.vpage ≡ v → a.word ≡ w → a.kind ≡ k → a ≡ access_made p v w k
same_access a p v w k e f g h = ap (λ (q : ℕ × ℕ × ℕ × AccessKind). access_made q.0 q.1 q.2 q.3) (four a.cpu p a.vpage v a.word w a.kind k e f g h)
  where
    four : (a b c d e f : ℕ) (g h : AccessKind) → a ≡ b → c ≡ d → e ≡ f → g ≡ h → ◌≡◌ {A = ℕ × ℕ × ℕ × AccessKind} (a, c, e, g) (b, d, f, h)
    four a b c d e f g h i j k l = cc

tested : (b : Bool) (x : Option (Option LineResult)) (o : Option LineResult) → (if b then x else None) ≡ Some o → (b ≡ true) × (x ≡ Some o)
tested true x o e = (refl, e)
tested false x o e = absurd (none-some o e)

taken_parts : (l : Line) (t : ℕ) (a : Access) (o : Option LineResult) → line_taken l t a ≡ Some o → (a.vpage ≡ line_page l) × (a.word ≡ line_word l) × (kind_taken l t a.kind ≡ Some o)
taken_parts l t a o e =
    let b = tested (a.vpage == line_page l && a.word == line_word l) (kind_taken l t a.kind) o e in
    let c = and_parts (a.vpage == line_page l) (a.word == line_word l) b.0 in
    (eqb-true _ _ c.0, eqb-true _ _ c.1, b.1)

-- a line takes what its kind takes of its own word
taken_here : (p : ℕ) (l : Line) (t : ℕ) (k : AccessKind) → line_taken l t (access_made p (line_page l) (line_word l) k) ≡ kind_taken l t k
taken_here p l t k = rw (eq-eqb (line_page l) (line_page l) refl) (rw (eq-eqb (line_word l) (line_word l) refl) refl)

-- an await takes every load of its word
await_takes : (p v w x max t y : ℕ) → line_taken (Await v w x max) t (access_made p v w (kind.Load y)) ≢ None
await_takes p v w x max t y e = go (y == x) (t + 1 == max) (sym (taken_here p (Await v w x max) t (kind.Load y)) ∙ e)
  where
    go : (b c : Bool) → (if b then Some (Some (Met (t + 1))) else if c then Some (Some (Missed max)) else Some None) ≢ None
    go true c e = none-some _ (sym e)
    go false true e = none-some _ (sym e)
    go false false e = none-some _ (sym e)

-- ---- loads of a word

loads_more : (p v w y : ℕ) (vs : List ℕ) → loads_of p v w vs ++ access_made p v w (kind.Load y) ∷ [] ≡ loads_of p v w (vs ++ y ∷ [])
loads_more p v w y [] = refl
loads_more p v w y (z ∷ vs) = ap (λ t. access_made p v w (kind.Load z) ∷ t) (loads_more p v w y vs)

others_more : (x y : ℕ) (vs : List ℕ) → AllOther x vs → y ≢ x → AllOther x (vs ++ y ∷ [])
others_more x y [] h other = (other, tt)
others_more x y (z ∷ vs) h other = (h.0, others_more x y vs h.1 other)

-- what stands behind fewer loads than there are is one of them
load_next : (p v w : ℕ) (vs us : List ℕ) (a : Access) (more rest : List Access) → length vs < length us → loads_of p v w vs ++ a ∷ more ≡ loads_of p v w us ++ rest → (y : ℕ) × (a ≡ access_made p v w (kind.Load y))
load_next p v w vs [] a more rest lt e = absurd (omega (arith, lt))
load_next p v w [] (u ∷ us) a more rest lt e = (u, cc)
load_next p v w (z ∷ vs) (u ∷ us) a more rest lt e =
    let tail : loads_of p v w vs ++ a ∷ more ≡ loads_of p v w us ++ rest = cc in
    load_next p v w vs us a more rest (omega (arith, lt)) tail

load_next_cut : (p v w : ℕ) (vs us : List ℕ) (a : Access) (more : List Access) → loads_of p v w vs ++ a ∷ more ≡ loads_of p v w us → (y : ℕ) × (a ≡ access_made p v w (kind.Load y))
load_next_cut p v w [] [] a more e = absurd cc
load_next_cut p v w (z ∷ vs) [] a more e = absurd cc
load_next_cut p v w [] (u ∷ us) a more e = (u, cc)
load_next_cut p v w (z ∷ vs) (u ∷ us) a more e =
    let tail : loads_of p v w vs ++ a ∷ more ≡ loads_of p v w us = cc in
    load_next_cut p v w vs us a more tail

-- ---- at the next line

-- a result: the access ends the line's piece
gives_here : (p : ℕ) (l : Line) (r : LineResult) (t : ℕ) (list : List Access) (a : Access) → IsTriedLine p l t list → a.cpu ≡ p → line_taken l t a ≡ Some (Some r) → IsPiece p l r (list ++ a ∷ [])
gives_here p l r t list a h own e =
    let c = taken_parts l t a (Some r) e in
    go l r a.kind c.2 (same_access a p (line_page l) (line_word l) a.kind own c.0 c.1 refl) h
  where
    loaded : (l : Line) (v w : ℕ) (x : ℕ) (list : List Access) (k : AccessKind) → a ≡ access_made p v w k → list ≡ [] → list ++ a ∷ [] ≡ access_made p v w k ∷ []
    loaded l v w x list k is none = ap (λ t. t ++ a ∷ []) none ∙ ap (λ b. b ∷ []) is

    awaited : (v w x max y : ℕ) (r : LineResult) (b c : Bool) → (y == x) ≡ b → (t + 1 == max) ≡ c → ◌≡◌ {A = Option (Option LineResult)} (if b then Some (Some (Met (t + 1))) else if c then Some (Some (Missed max)) else Some None) (Some (Some r)) → a ≡ access_made p v w (kind.Load y) → IsWaiting p v w x max t list → IsPiece p (Await v w x max) r (list ++ a ∷ [])
    awaited v w x max y r true c hit last e is h =
        let one : Met (t + 1) ≡ r = cc in
        let same : y ≡ x = eqb-true _ _ hit in
        subst (λ q. IsPiece p (Await v w x max) q (list ++ a ∷ [])) one (record {
          earlier = h.values;
          is = ap (λ q. q ++ a ∷ []) h.is ∙ ap (λ q. loads_of p v w h.values ++ q ∷ []) is ∙ loads_more p v w y h.values ∙ ap (λ q. loads_of p v w (h.values ++ q ∷ [])) same;
          others = h.others;
          count = ap (λ n. n + 1) h.count;
          most = omega (arith, h.fewer);
        })
    awaited v w x max y r false true miss last e is h =
        let one : Missed max ≡ r = cc in
        let end : t + 1 ≡ max = eqb-true _ _ last in
        subst (λ q. IsPiece p (Await v w x max) q (list ++ a ∷ [])) one (record {
          values = h.values ++ y ∷ [];
          is = ap (λ q. q ++ a ∷ []) h.is ∙ ap (λ q. loads_of p v w h.values ++ q ∷ []) is ∙ loads_more p v w y h.values;
          others = others_more x y h.values h.others (λ s. let hit : (y == x) ≡ true = eq-eqb y x s in cc);
          count = length-append h.values (y ∷ []) ∙ omega (arith, h.count, end);
          most = refl;
        })
    awaited v w x max y r false false miss last e is h = absurd (cc)

    go : (l : Line) (r : LineResult) (k : AccessKind) → kind_taken l t k ≡ Some (Some r) → a ≡ access_made p (line_page l) (line_word l) k → IsTriedLine p l t list → IsPiece p l r (list ++ a ∷ [])
    go (Load v w) r (kind.Load x) e is h = let one : Loaded x ≡ r = cc in subst (λ q. IsPiece p (Load v w) q (list ++ a ∷ [])) one (loaded (Load v w) v w x list (kind.Load x) is h.0)
    go (Load v w) r k e is h = absurd cc
    go (Store v w x) r (kind.Store y) e is h =
        let b = tested (y == x) (Some (Some Stored)) (Some r) e in
        let one : Stored ≡ r = let f = b.1 in cc in
        let same : y ≡ x = eqb-true _ _ b.0 in
        subst (λ q. IsPiece p (Store v w x) q (list ++ a ∷ [])) one (loaded (Store v w x) v w x list (kind.Store y) is h.0 ∙ ap (λ q. access_made p v w (kind.Store q) ∷ []) same)
    go (Store v w x) r k e is h = absurd cc
    go (Add v w n) r (kind.Add gave plus) e is h =
        let b = tested (plus == n) (Some (Some (Added gave))) (Some r) e in
        let one : Added gave ≡ r = let f = b.1 in cc in
        let same : plus ≡ n = eqb-true _ _ b.0 in
        subst (λ q. IsPiece p (Add v w n) q (list ++ a ∷ [])) one (loaded (Add v w n) v w n list (kind.Add gave plus) is h.0 ∙ ap (λ q. access_made p v w (kind.Add gave q) ∷ []) same)
    go (Add v w n) r k e is h = absurd cc
    go (Await v w x max) r (kind.Load y) e is h = awaited v w x max y r (y == x) (t + 1 == max) refl refl e is h
    go (Await v w x max) r k e is h = absurd cc

-- one try more
goes_on_here : (p : ℕ) (l : Line) (t : ℕ) (list : List Access) (a : Access) → IsTriedLine p l t list → a.cpu ≡ p → line_taken l t a ≡ Some None → IsTriedLine p l (t + 1) (list ++ a ∷ [])
goes_on_here p l t list a h own e =
    let c = taken_parts l t a None e in
    go l a.kind c.2 (same_access a p (line_page l) (line_word l) a.kind own c.0 c.1 refl) h
  where
    awaited : (v w x max y : ℕ) (b c : Bool) → (y == x) ≡ b → (t + 1 == max) ≡ c → ◌≡◌ {A = Option (Option LineResult)} (if b then Some (Some (Met (t + 1))) else if c then Some (Some (Missed max)) else Some None) (Some None) → a ≡ access_made p v w (kind.Load y) → IsWaiting p v w x max t list → IsWaiting p v w x max (t + 1) (list ++ a ∷ [])
    awaited v w x max y true c hit last e is h = absurd (let f : Some (Met (t + 1)) ≡ None = cc in cc)
    awaited v w x max y false true miss last e is h = absurd (let f : Some (Missed max) ≡ None = cc in cc)
    awaited v w x max y false false miss more e is h = record {
      values = h.values ++ y ∷ [];
      is = ap (λ q. q ++ a ∷ []) h.is ∙ ap (λ q. loads_of p v w h.values ++ q ∷ []) is ∙ loads_more p v w y h.values;
      others = others_more x y h.values h.others (λ s. let hit : (y == x) ≡ true = eq-eqb y x s in cc);
      count = length-append h.values (y ∷ []) ∙ omega (arith, h.count);
      fewer = let other : t + 1 ≢ max = λ s. let hit : (t + 1 == max) ≡ true = eq-eqb (t + 1) max s in cc in omega (arith, h.fewer, other);
    }

    stored : (b : Bool) (r : LineResult) → ◌≡◌ {A = Option (Option LineResult)} (if b then Some (Some r) else None) (Some None) → ⊥
    stored true r e = let f : Some r ≡ None = cc in cc
    stored false r e = cc

    go : (l : Line) (k : AccessKind) → kind_taken l t k ≡ Some None → a ≡ access_made p (line_page l) (line_word l) k → IsTriedLine p l t list → IsTriedLine p l (t + 1) (list ++ a ∷ [])
    go (Load v w) (kind.Load x) e is h = absurd (let f : Some (Loaded x) ≡ None = cc in cc)
    go (Load v w) k e is h = absurd cc
    go (Store v w x) (kind.Store y) e is h = absurd (stored (y == x) Stored e)
    go (Store v w x) k e is h = absurd cc
    go (Add v w n) (kind.Add gave plus) e is h = absurd (stored (plus == n) (Added gave) e)
    go (Add v w n) k e is h = absurd cc
    go (Await v w x max) (kind.Load y) e is h = awaited v w x max y (y == x) (t + 1 == max) refl refl e is h
    go (Await v w x max) k e is h = absurd cc

-- accesses of which the next one is none that the line takes are no accesses of the program
refused_here : (p : ℕ) (l : Line) (t : ℕ) (list : List Access) (a : Access) (more : List Access) → IsTriedLine p l t list → line_taken l t a ≡ None
    → ((r : LineResult) (piece rest : List Access) → IsPiece p l r piece → list ++ a ∷ more ≢ piece ++ rest) × (¬ IsCutLine p l (list ++ a ∷ more))
refused_here p l t list a more h e = (pieces l h e, cuts l h e)
  where
    -- the access is not that of the line
    never : (l : Line) (k : AccessKind) (o : Option LineResult) → line_taken l t a ≡ None → kind_taken l t k ≡ Some o → a ≢ access_made p (line_page l) (line_word l) k
    never l k o e takes is = none-some o (sym (ap (λ b. line_taken l t b) (sym is) ∙ e) ∙ taken_here p l t k ∙ takes)

    alone : (b : Access) (rest : List Access) → list ≡ [] → list ++ a ∷ more ≡ b ∷ rest → a ≡ b
    alone b rest none is = let f : a ∷ more ≡ b ∷ rest = ap (λ q. q ++ a ∷ more) (sym none) ∙ is in cc

    nothing : list ≡ [] → list ++ a ∷ more ≢ []
    nothing none is = let f : a ∷ more ≡ [] = ap (λ q. q ++ a ∷ more) (sym none) ∙ is in cc

    pieces : (l : Line) → IsTriedLine p l t list → line_taken l t a ≡ None → (r : LineResult) (piece rest : List Access) → IsPiece p l r piece → list ++ a ∷ more ≢ piece ++ rest
    pieces (Load v w) h e (Loaded x) piece rest k is = never (Load v w) (kind.Load x) (Some (Loaded x)) e refl (alone (access_made p v w (kind.Load x)) rest h.0 (is ∙ ap (λ q. q ++ rest) k))
    pieces (Load v w) h e r piece rest k is = elim k [ ]
    pieces (Store v w x) h e Stored piece rest k is = never (Store v w x) (kind.Store x) (Some Stored) e (rw (eq-eqb x x refl) refl) (alone (access_made p v w (kind.Store x)) rest h.0 (is ∙ ap (λ q. q ++ rest) k))
    pieces (Store v w x) h e r piece rest k is = elim k [ ]
    pieces (Add v w n) h e (Added y) piece rest k is = never (Add v w n) (kind.Add y n) (Some (Added y)) e (rw (eq-eqb n n refl) refl) (alone (access_made p v w (kind.Add y n)) rest h.0 (is ∙ ap (λ q. q ++ rest) k))
    pieces (Add v w n) h e r piece rest k is = elim k [ ]
    pieces (Await v w x max) h e (Met m) piece rest k is =
        let joined : loads_of p v w h.values ++ a ∷ more ≡ loads_of p v w (k.earlier ++ x ∷ []) ++ rest = ap (λ q. q ++ a ∷ more) (sym h.is) ∙ is ∙ ap (λ q. q ++ rest) k.is in
        let fewer : length h.values ≤ length k.earlier = at_most h.values k.earlier (λ lt. met_missed p v w x k.earlier h.values rest (a ∷ more) h.others lt (sym joined)) in
        let lt : length h.values < length (k.earlier ++ x ∷ []) = omega (arith, fewer, length-append k.earlier (x ∷ [])) in
        let next = load_next p v w h.values (k.earlier ++ x ∷ []) a more rest lt joined in
        await_takes p v w x max t next.0 (ap (λ b. line_taken (Await v w x max) t b) (sym next.1) ∙ e)
      where
        at_most : (xs ys : List ℕ) → (length ys < length xs → ⊥) → length xs ≤ length ys
        at_most xs ys f = omega (arith, f)
    pieces (Await v w x max) h e (Missed m) piece rest k is =
        let joined : loads_of p v w h.values ++ a ∷ more ≡ loads_of p v w k.values ++ rest = ap (λ q. q ++ a ∷ more) (sym h.is) ∙ is ∙ ap (λ q. q ++ rest) k.is in
        let next = load_next p v w h.values k.values a more rest (omega (arith, h.count, h.fewer, k.count, k.most)) joined in
        await_takes p v w x max t next.0 (ap (λ b. line_taken (Await v w x max) t b) (sym next.1) ∙ e)
    pieces (Await v w x max) h e r piece rest k is = elim k [ ]

    cuts : (l : Line) → IsTriedLine p l t list → line_taken l t a ≡ None → ¬ IsCutLine p l (list ++ a ∷ more)
    cuts (Load v w) h e k = nothing h.0 k
    cuts (Store v w x) h e k = nothing h.0 k
    cuts (Add v w n) h e k = nothing h.0 k
    cuts (Await v w x max) h e k =
        let next = load_next_cut p v w h.values k.values a more (ap (λ q. q ++ a ∷ more) (sym h.is) ∙ k.is) in
        await_takes p v w x max t next.0 (ap (λ b. line_taken (Await v w x max) t b) (sym next.1) ∙ e)

-- ---- behind the results so far

-- accesses made so far follow the program
pub made_so_far : (p : ℕ) (lines : List Line) (rs : List LineResult) (t : ℕ) (list : List Access) → AreMadeTo p lines rs t list → AreMade p lines rs list
made_so_far p [] [] t list h = h.0
made_so_far p (Load v w ∷ lines) [] t list h = h.0
made_so_far p (Store v w x ∷ lines) [] t list h = h.0
made_so_far p (Add v w x ∷ lines) [] t list h = h.0
made_so_far p (Await v w x max ∷ lines) [] t list h = record { values = h.values; is = h.is; others = h.others; fewer = omega (arith, h.count, h.fewer) }
made_so_far p [] (r ∷ rs) t list h = elim h [ ]
made_so_far p (l ∷ lines) (r ∷ rs) t list h = record { piece = h.piece; rest = h.rest; is = h.is; made = h.made; follows = made_so_far p lines rs t h.rest h.follows }

-- nothing was made
pub made_none : (p : ℕ) (lines : List Line) → AllByRecursion HasTries lines → AreMadeTo p lines [] 0 []
made_none p [] h = (refl, refl)
made_none p (Load v w ∷ lines) h = (refl, refl)
made_none p (Store v w x ∷ lines) h = (refl, refl)
made_none p (Add v w x ∷ lines) h = (refl, refl)
made_none p (Await v w x max ∷ lines) h = record { values = []; is = refl; others = tt; count = refl; fewer = omega (arith, h.0.0) }

-- one access more is a try more
pub goes_on : (p : ℕ) (lines : List Line) (rs : List LineResult) (t : ℕ) (list : List Access) (a : Access) → AreMadeTo p lines rs t list → a.cpu ≡ p → access_taken (drop (length rs) lines) t a ≡ Some None → AreMadeTo p lines rs (t + 1) (list ++ a ∷ [])
goes_on p [] [] t list a h own e = absurd cc
goes_on p (l ∷ lines) [] t list a h own e = goes_on_here p l t list a h own e
goes_on p [] (r ∷ rs) t list a h own e = elim h [ ]
goes_on p (l ∷ lines) (r ∷ rs) t list a h own e = record {
  piece = h.piece;
  rest = h.rest ++ a ∷ [];
  is = ap (λ q. q ++ a ∷ []) h.is ∙ append_assoc h.piece h.rest (a ∷ []);
  made = h.made;
  follows = goes_on p lines rs t h.rest a h.follows own e;
}

-- one access more gives a result
pub gives : (p : ℕ) (lines : List Line) (rs : List LineResult) (r : LineResult) (t : ℕ) (list : List Access) (a : Access) → AllByRecursion HasTries lines → AreMadeTo p lines rs t list → a.cpu ≡ p → access_taken (drop (length rs) lines) t a ≡ Some (Some r) → AreMadeTo p lines (rs ++ r ∷ []) 0 (list ++ a ∷ [])
gives p [] [] r t list a some h own e = absurd cc
gives p (l ∷ lines) [] r t list a some h own e = record {
  piece = list ++ a ∷ [];
  rest = [];
  is = sym (append-nil (list ++ a ∷ []));
  made = gives_here p l r t list a h own e;
  follows = made_none p lines some.1;
}
gives p [] (s ∷ rs) r t list a some h own e = elim h [ ]
gives p (l ∷ lines) (s ∷ rs) r t list a some h own e = record {
  piece = h.piece;
  rest = h.rest ++ a ∷ [];
  is = ap (λ q. q ++ a ∷ []) h.is ∙ append_assoc h.piece h.rest (a ∷ []);
  made = h.made;
  follows = gives p lines rs r t h.rest a some.1 h.follows own e;
}

-- no accesses that follow the program go on with one that the next line doesn't take
pub refused : (p : ℕ) (lines : List Line) (rs ss : List LineResult) (t : ℕ) (list : List Access) (a : Access) (more : List Access) → AreMadeTo p lines rs t list → access_taken (drop (length rs) lines) t a ≡ None → ¬ AreMade p lines ss (list ++ a ∷ more)
refused p [] [] [] t list a more h e k = let f : a ∷ more ≡ [] = ap (λ q. q ++ a ∷ more) (sym h.0) ∙ k in cc
refused p [] [] (s ∷ ss) t list a more h e k = elim k [ ]
refused p (l ∷ lines) [] [] t list a more h e k = (refused_here p l t list a more h e).1 k
refused p (l ∷ lines) [] (s ∷ ss) t list a more h e k = (refused_here p l t list a more h e).0 s k.piece k.rest k.made k.is
refused p [] (r ∷ rs) ss t list a more h e k = elim h [ ]
refused p (l ∷ lines) (r ∷ rs) [] t list a more h e k = made_uncut p l r h.piece (h.rest ++ a ∷ more) h.made (subst (IsCutLine p l) (ap (λ q. q ++ a ∷ more) h.is ∙ append_assoc h.piece h.rest (a ∷ more)) k)
refused p (l ∷ lines) (r ∷ rs) (s ∷ ss) t list a more h e k =
    let joined : h.piece ++ (h.rest ++ a ∷ more) ≡ k.piece ++ k.rest = sym (ap (λ q. q ++ a ∷ more) h.is ∙ append_assoc h.piece h.rest (a ∷ more)) ∙ k.is in
    let same = one_piece p l r s h.piece k.piece (h.rest ++ a ∷ more) k.rest h.made k.made joined in
    refused p lines rs ss t h.rest a more h.follows e (subst (AreMade p lines ss) (sym same.1) k.follows)

-- a line is tried less often than the most tries of an await
pub tries_few : (p : ℕ) (lines : List Line) (rs : List LineResult) (t : ℕ) (list : List Access) → AllByRecursion HasTries lines → AreMadeTo p lines rs t list → t < 1000000000
tries_few p [] [] t list some h = omega (arith, h.1)
tries_few p (Load v w ∷ lines) [] t list some h = omega (arith, h.1)
tries_few p (Store v w x ∷ lines) [] t list some h = omega (arith, h.1)
tries_few p (Add v w x ∷ lines) [] t list some h = omega (arith, h.1)
tries_few p (Await v w x max ∷ lines) [] t list some h = omega (arith, h.fewer, some.0.1)
tries_few p [] (r ∷ rs) t list some h = elim h [ ]
tries_few p (l ∷ lines) (r ∷ rs) t list some h = tries_few p lines rs t h.rest some.1 h.follows

abbrev CursorTakes : List Line → Cursor → Access → Cursor → Type 0
CursorTakes program c a d = (p : ℕ) (list : List Access) → a.cpu ≡ p → IsCursorAt p program c list → IsCursorAt p program d (list ++ a ∷ [])

pub takes_on : (program : List Line) (rs : List LineResult) (t u : ℕ) (a : Access) → access_taken (drop (length rs) program) t a ≡ Some None → u ≡ t + 1
    → (p : ℕ) (list : List Access) → a.cpu ≡ p → AreMadeTo p program rs t list → AreMadeTo p program rs u (list ++ a ∷ [])
takes_on program rs t u a e is p list own h = subst (λ n. AreMadeTo p program rs n (list ++ a ∷ [])) (sym is) (goes_on p program rs t list a h own e)

pub takes_result : (program : List Line) (rs ss : List LineResult) (r : LineResult) (t u : ℕ) (a : Access) → AllByRecursion HasTries program → access_taken (drop (length rs) program) t a ≡ Some (Some r) → ss ≡ rs ++ r ∷ [] → u ≡ 0
    → (p : ℕ) (list : List Access) → a.cpu ≡ p → AreMadeTo p program rs t list → AreMadeTo p program ss u (list ++ a ∷ [])
takes_result program rs ss r t u a some e is zero p list own h =
    subst (λ n. AreMadeTo p program ss n (list ++ a ∷ [])) (sym zero) (subst (λ q. AreMadeTo p program q 0 (list ++ a ∷ [])) (sym is) (gives p program rs r t list a some h own e))

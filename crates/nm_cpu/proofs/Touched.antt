-- The accesses with one more, and what the line gave.
use Rattle.std.proofs.Common.{◌≡◌, ◌≢◌, ℕ, ◌+◌, ◌==◌, Bool, true, false, List, [], ◌∷◌, ◌++◌, length, Some, None, refl, sym, ap, ◌∙◌, subst, append_assoc, arith, length-append}
use Rattle.std.specs.Prelude.{if◌then◌else◌}
use Rattle.std.proofs.lemmas.List.{append-nil, map-append}
use Rattle.std.proofs.lemmas.Bool.{eqb-true, eqb-false}
use Rattle.nm_flat.specs.declared.access.Access.{Access}
use Rattle.nm_flat.specs.declared.access.AccessKind.TheVariants as kind
use Rattle.nm_script.specs.declared.script.Line.{Line}
use Rattle.nm_script.specs.declared.script.Line.TheVariants.{Load, Store, Add, Await}
use Rattle.nm_report.specs.declared.line_result.LineResult.{LineResult}
use Rattle.nm_report.specs.declared.line_result.LineResult.TheVariants.{Loaded, Stored, Added, Met, Missed}
use Rattle.nm_report.specs.Follows.{access_made, loads_of, AllOther, IsPiece}
use Rattle.nm_cpu.specs.Lines.{line_result, IsLoadsOf, AreLoads, IsTried, FollowsSoFar}
use Rattle.nm_cpu.specs.Agreeing.{line_touch}
use Rattle.nm_cpu.proofs.Followed.{made-more}

-- one load more
loads-more : (p v w : ℕ) (values : List ℕ) (word : ℕ) → loads_of p v w values ++ access_made p v w (kind.Load word) ∷ [] ≡ loads_of p v w (values ++ word ∷ [])
loads-more p v w values word = sym (map-append (λ y. access_made p v w (kind.Load y)) values (word ∷ []))

others-more : (x : ℕ) (values : List ℕ) (word : ℕ) → AllOther x values → word ≢ x → AllOther x (values ++ word ∷ [])
others-more x [] word all other = (other, tt)
others-more x (y ∷ values) word all other = (all.0, others-more x values word all.1 other)

count-more : (values : List ℕ) (word loads : ℕ) → length values ≡ loads → length (values ++ word ∷ []) ≡ loads + 1
count-more values word loads is = length-append values (word ∷ []) ∙ ap (λ n. n + 1) is

-- What an await gives, by two tests.

pub some-one : {a b : LineResult} → Some a ≡ Some b → a ≡ b
some-one e = cc

pub none-some : (r : LineResult) → None ≡ Some r → ⊥
none-some r e = cc

pub some-none : (r : LineResult) → Some r ≡ None → ⊥
some-none r e = cc

-- the value was found, or all loads were made
await-piece : (p v w x max loads more word : ℕ) (r : LineResult) (met last : Bool) (back : List Access) → (word == x) ≡ met → (loads + 1 == max) ≡ last
    → (if met then Some (Met (loads + 1)) else if last then Some (Missed (loads + 1)) else None) ≡ Some r → loads + 1 + more ≡ max
    → AreLoads p v w x loads back → IsPiece p (Await v w x max) r (back ++ access_made p v w (kind.Load word) ∷ [])
await-piece p v w x max loads more word r true last back met_is last_is gives of tried =
    let R : LineResult → Type 0 = λ r. IsPiece p (Await v w x max) r (back ++ access_made p v w (kind.Load word) ∷ []) in
    let W : ℕ → Type 0 = λ y. back ++ access_made p v w (kind.Load word) ∷ [] ≡ loads_of p v w (tried.values ++ y ∷ []) in
    subst R (some-one gives) (record {
      earlier = tried.values;
      is = subst W (eqb-true word x met_is) (ap (λ (l : List Access). l ++ access_made p v w (kind.Load word) ∷ []) tried.is ∙ loads-more p v w tried.values word);
      others = tried.others;
      count = ap (λ n. n + 1) tried.count;
      most = omega (arith, of);
    })
await-piece p v w x max loads more word r false true back met_is last_is gives of tried =
    let R : LineResult → Type 0 = λ r. IsPiece p (Await v w x max) r (back ++ access_made p v w (kind.Load word) ∷ []) in
    subst R (some-one gives) (record {
      values = tried.values ++ word ∷ [];
      is = ap (λ (l : List Access). l ++ access_made p v w (kind.Load word) ∷ []) tried.is ∙ loads-more p v w tried.values word;
      others = others-more x tried.values word tried.others (eqb-false word x met_is);
      count = count-more tried.values word loads tried.count;
      most = eqb-true (loads + 1) max last_is;
    })
await-piece p v w x max loads more word r false false back met_is last_is gives of tried = absurd (none-some r gives)

-- it loads again
await-tried : (p v w x max loads more word : ℕ) (met last : Bool) (back : List Access) → (word == x) ≡ met → (loads + 1 == max) ≡ last
    → (if met then Some (Met (loads + 1)) else if last then Some (Missed (loads + 1)) else None) ≡ None
    → AreLoads p v w x loads back → AreLoads p v w x (loads + 1) (back ++ access_made p v w (kind.Load word) ∷ [])
await-tried p v w x max loads more word true last back met_is last_is gives tried = absurd (some-none (Met (loads + 1)) gives)
await-tried p v w x max loads more word false true back met_is last_is gives tried = absurd (some-none (Missed (loads + 1)) gives)
await-tried p v w x max loads more word false false back met_is last_is gives tried = record {
  values = tried.values ++ word ∷ [];
  is = ap (λ (l : List Access). l ++ access_made p v w (kind.Load word) ∷ []) tried.is ∙ loads-more p v w tried.values word;
  others = others-more x tried.values word tried.others (eqb-false word x met_is);
  count = count-more tried.values word loads tried.count;
}

-- A line.

-- nothing was tried before
alone : (back : List Access) (a : Access) → back ≡ [] → back ++ a ∷ [] ≡ a ∷ []
alone back a none = ap (λ (l : List Access). l ++ a ∷ []) none

-- the accesses of a line that gave something
line-piece : (p : ℕ) (line : Line) (lines : List Line) (loads more word : ℕ) (r : LineResult) (back : List Access) → line_result line loads word ≡ Some r → IsLoadsOf line loads more
    → IsTried p (line ∷ lines) loads back → IsPiece p line r (back ++ line_touch p line word ∷ [])
line-piece p (Load v w) lines loads more word r back gives of tried = subst (λ (r : LineResult). IsPiece p (Load v w) r (back ++ line_touch p (Load v w) word ∷ [])) (some-one gives) (alone back (line_touch p (Load v w) word) tried)
line-piece p (Store v w x) lines loads more word r back gives of tried = subst (λ (r : LineResult). IsPiece p (Store v w x) r (back ++ line_touch p (Store v w x) word ∷ [])) (some-one gives) (alone back (line_touch p (Store v w x) word) tried)
line-piece p (Add v w x) lines loads more word r back gives of tried = subst (λ (r : LineResult). IsPiece p (Add v w x) r (back ++ line_touch p (Add v w x) word ∷ [])) (some-one gives) (alone back (line_touch p (Add v w x) word) tried)
line-piece p (Await v w x max) lines loads more word r back gives of tried = await-piece p v w x max loads more word r (word == x) (loads + 1 == max) back refl refl gives of tried

-- the accesses of a line that gave nothing
line-tried : (p : ℕ) (line : Line) (lines : List Line) (loads word : ℕ) (back : List Access) → line_result line loads word ≡ None → IsTried p (line ∷ lines) loads back
    → IsTried p (line ∷ lines) (loads + 1) (back ++ line_touch p line word ∷ [])
line-tried p (Load v w) lines loads word back gives tried = absurd (some-none (Loaded word) gives)
line-tried p (Store v w x) lines loads word back gives tried = absurd (some-none Stored gives)
line-tried p (Add v w x) lines loads word back gives tried = absurd (some-none (Added word) gives)
line-tried p (Await v w x max) lines loads word back gives tried = await-tried p v w x max loads 0 word (word == x) (loads + 1 == max) back refl refl gives tried

push-list : (list front back : List Access) (a : Access) → list ≡ front ++ back → list ++ a ∷ [] ≡ front ++ (back ++ a ∷ [])
push-list list front back a is = ap (λ (l : List Access). l ++ a ∷ []) is ∙ append_assoc front back (a ∷ [])

nothing-tried : (p : ℕ) (lines : List Line) → IsTried p lines 0 []
nothing-tried p [] = refl
nothing-tried p (Load v w ∷ lines) = refl
nothing-tried p (Store v w x ∷ lines) = refl
nothing-tried p (Add v w x ∷ lines) = refl
nothing-tried p (Await v w x max ∷ lines) = record { values = []; is = refl; others = tt; count = refl }

-- the line gave something
pub followed-some : (p : ℕ) (done : List Line) (line : Line) (lines : List Line) (results : List LineResult) (loads more word : ℕ) (r : LineResult) (list : List Access) → length done ≡ length results
    → line_result line loads word ≡ Some r → IsLoadsOf line loads more → FollowsSoFar p done (line ∷ lines) results loads list
    → FollowsSoFar p (done ++ line ∷ []) lines (results ++ r ∷ []) 0 (list ++ line_touch p line word ∷ [])
followed-some p done line lines results loads more word r list same gives of h = record {
  front = h.front ++ (h.back ++ line_touch p line word ∷ []);
  back = [];
  is = push-list list h.front h.back (line_touch p line word) h.is ∙ sym (append-nil (h.front ++ (h.back ++ line_touch p line word ∷ [])));
  made = made-more p done line results r h.front (h.back ++ line_touch p line word ∷ []) same h.made (line-piece p line lines loads more word r h.back gives of h.tried);
  tried = nothing-tried p lines;
}

-- the line gave nothing
pub followed-again : (p : ℕ) (done : List Line) (line : Line) (lines : List Line) (results : List LineResult) (loads word : ℕ) (list : List Access) → line_result line loads word ≡ None
    → FollowsSoFar p done (line ∷ lines) results loads list → FollowsSoFar p done (line ∷ lines) results (loads + 1) (list ++ line_touch p line word ∷ [])
followed-again p done line lines results loads word list gives h = record {
  front = h.front;
  back = h.back ++ line_touch p line word ∷ [];
  is = push-list list h.front h.back (line_touch p line word) h.is;
  made = h.made;
  tried = line-tried p line lines loads word h.back gives h.tried;
}

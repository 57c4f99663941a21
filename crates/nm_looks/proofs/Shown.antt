-- What words show, with one word more.
use Rattle.std.proofs.Common.{◌≡◌, ℕ, zero, suc, ◌<◌, ◌&&◌, ◌||◌, ◌↔◌, IsTrue, cond, Bool, true, false, List, [], ◌∷◌, ◌++◌, map, refl, sym, ap, ◌∙◌, arith}
use Rattle.std.specs.List.{filter, list_any}
use Rattle.std.proofs.lemmas.List.{map-append, append-nil}
use Rattle.std.proofs.lemmas.List.Elements.{All-nil, All-cons, filter-append}
use Rattle.std.proofs.lemmas.List.Folds.{list_any-append}
use Rattle.nm_base.specs.Geometry.{Geometry}
use Rattle.nm_view.specs.Lists.{first}
use Rattle.nm_vpages.specs.VPages.{AreBelow}
use Rattle.nm_looks.specs.declared.seen.Seen.{Seen}
use Rattle.nm_looks.specs.Seeing.{is_mapped_word, is_in_tier, is_outside, is_hot_word, is_accessed_word, where_so, seen_with_word, seen_of}

-- a test that holds exactly where both of two hold
pub both-test : (r a b : Bool) → (IsTrue r ↔ (IsTrue a × IsTrue b)) → r ≡ (a && b)
both-test true true true h = refl
both-test true true false h = let e = (h.0 refl).1 in cc
both-test true false b h = let e = (h.0 refl).0 in cc
both-test false true true h = let e = h.1 (refl, refl) in cc
both-test false true false h = refl
both-test false false b h = refl

where-go : (v w : ℕ) (pages : List ℕ) (t : Bool) → where_so t v pages ≡ pages ++ map first (cond t ((v, w) ∷ []) [])
where-go v w pages true = refl
where-go v w pages false = sym (append-nil pages)

-- the virtual pages of which a test holds
where-push : (p : ℕ × ℕ → Bool) (told : List (ℕ × ℕ)) (v w : ℕ) → where_so (p (v, w)) v (map first (filter p told)) ≡ map first (filter p (told ++ (v, w) ∷ []))
where-push p told v w =
    where-go v w (map first (filter p told)) (p (v, w))
    ∙ sym (ap (λ (l : List (ℕ × ℕ)). map first l) (filter-append p told ((v, w) ∷ [])) ∙ map-append first (filter p told) (filter p ((v, w) ∷ [])))

or-false : (t : Bool) → t ≡ (t || false)
or-false true = refl
or-false false = refl

-- whether a test holds of some
any-push : (p : ℕ × ℕ → Bool) (told : List (ℕ × ℕ)) (v w : ℕ) → (list_any p told || p (v, w)) ≡ list_any p (told ++ (v, w) ∷ [])
any-push p told v w = ap (λ (t : Bool). list_any p told || t) (or-false (p (v, w))) ∙ sym (list_any-append p told ((v, w) ∷ []))

abbrev seen_made : List ℕ → List ℕ → Bool → Bool → Bool → Seen
seen_made mapped outside inside hot accessed = record { mapped = mapped; outside = outside; inside = inside; hot = hot; accessed = accessed }

same-seen : (m n o p : List ℕ) (a b c d e f : Bool) → m ≡ n → o ≡ p → a ≡ b → c ≡ d → e ≡ f → seen_made m o a c e ≡ seen_made n p b d f
same-seen m n o p a b c d e f mapped outside inside hot accessed =
    ap (λ (l : List ℕ). seen_made l o a c e) mapped ∙ ap (λ (l : List ℕ). seen_made n l a c e) outside ∙ ap (λ (t : Bool). seen_made n p t c e) inside
    ∙ ap (λ (t : Bool). seen_made n p b t e) hot ∙ ap (λ (t : Bool). seen_made n p b d t) accessed

-- what is seen after one word more
pub seen-push : (g : Geometry) (tier : ℕ) (told : List (ℕ × ℕ)) (v w : ℕ) (seen : Seen) → seen ≡ seen_of g tier told → seen_with_word g tier v w seen ≡ seen_of g tier (told ++ (v, w) ∷ [])
seen-push g tier told v w seen is =
    ap (seen_with_word g tier v w) is
    ∙ same-seen _ _ _ _ _ _ _ _ _ _
    (where-push (λ p. is_mapped_word p.1) told v w) (where-push (λ p. is_outside g tier p.1) told v w)
    (any-push (λ p. is_in_tier g tier p.1) told v w) (any-push (λ p. is_hot_word p.1) told v w) (any-push (λ p. is_accessed_word p.1) told v w)

below-go : (v : ℕ) (p : ℕ × ℕ) (test : ℕ × ℕ → Bool) (t : Bool) (told : List (ℕ × ℕ)) → p.0 < v → AreBelow v (map first (filter test told)) → AreBelow v (map first (cond t (p ∷ filter test told) (filter test told)))
below-go v p test true told low h = All-cons (λ u. u < v) p.0 (map first (filter test told)) low h
below-go v p test false told low h = h

-- the virtual pages of which a test holds are below where all are
pub where-below : (v : ℕ) (test : ℕ × ℕ → Bool) (told : List (ℕ × ℕ)) → AreBelow v (map first told) → AreBelow v (map first (filter test told))
where-below v test [] h = All-nil _
where-below v test (p ∷ told) h = below-go v p test (test p) told (h zero 0 (omega arith)) (where-below v test told (λ i d lt. h (suc i) d (omega arith)))

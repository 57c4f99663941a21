-- The accesses of a processor that were written so far, and one more.
use Rattle.std.proofs.Common.{◌≡◌, ℕ, zero, suc, ◌+◌, ◌<◌, ◌≤◌, List, [], ◌∷◌, ◌++◌, map, length, take, get_or, sym, ap, subst, ◌∙◌, arith, append_assoc, flat_map}
use Rattle.std.specs.List.{zip, range_with_len}
use Rattle.std.proofs.lemmas.List.{append-nil, take_all, get_or-map}
use Rattle.std.proofs.lemmas.Slice.Zip.{length-zip}
use Rattle.nm_script.specs.declared.script.Line.{Line}
use Rattle.nm_report.specs.declared.line_result.LineResult.{LineResult}
use Rattle.nm_report.specs.Texts.{AllFit, made_text, all_made_text, cpu_text, cpus_text}

-- the results are no more than the lines
pub AllFit-length : (lines : List Line) (results : List LineResult) → AllFit lines results → length results ≤ length lines
AllFit-length lines [] fit = omega arith
AllFit-length [] (r ∷ results) fit = absurd fit
AllFit-length (l ∷ lines) (r ∷ results) fit = omega (arith, AllFit-length lines results fit.1)

-- one pair more
pairs-more : {A B C : Type 0} (f : A → B → List C) (xs : List A) (ys : List B) (i : ℕ) (d : A) (e : B) → i < length xs → i < length ys
    → flat_map (λ (p : A × B). f p.0 p.1) (take (i + 1) (zip xs ys)) ≡ flat_map (λ (p : A × B). f p.0 p.1) (take i (zip xs ys)) ++ f (get_or xs i d) (get_or ys i e)
pairs-more f [] ys i d e h k = absurd (omega (arith, h))
pairs-more f (x ∷ xs) [] i d e h k = absurd (omega (arith, k))
pairs-more f (x ∷ xs) (y ∷ ys) zero d e h k = append-nil (f x y)
pairs-more f (x ∷ xs) (y ∷ ys) (suc i) d e h k = let rest = pairs-more f xs ys i d e (omega (arith, h)) (omega (arith, k)) in grind (arith, rest, append_assoc)

-- every pair
pairs-all : {A B : Type 0} (xs : List A) (ys : List B) → length ys ≤ length xs → take (length ys) (zip xs ys) ≡ zip xs ys
pairs-all xs ys h = take_all (length ys) (zip xs ys) (omega (arith, h, length-zip xs ys))

-- one number more
numbers-more : {C : Type 0} (f : ℕ → List C) (a n j : ℕ) → a + n ≡ j → flat_map f (range_with_len a (n + 1)) ≡ flat_map f (range_with_len a n) ++ f j
numbers-more f a zero j h = let e : a ≡ j = omega (arith, h) in rw e (append-nil (f j))
numbers-more f a (suc n) j h = let rest = numbers-more f (a + 1) n j (omega (arith, h)) in grind (arith, rest, append_assoc)

pushed : (before text after some one all : List ℕ) → text ≡ before ++ some → after ≡ text ++ one → all ≡ some ++ one → after ≡ before ++ all
pushed before text after some one all e f g = f ∙ ap (λ t. t ++ one) e ∙ append_assoc before some one ∙ ap (λ t. before ++ t) (sym g)

-- the text of one number more was written
pub numbers-pushed : (f : ℕ → List ℕ) (before text after : List ℕ) (n : ℕ) → text ≡ before ++ flat_map f (range_with_len 0 n) → after ≡ text ++ f n → after ≡ before ++ flat_map f (range_with_len 0 (n + 1))
numbers-pushed f before text after n e g =
    pushed before text after (flat_map f (range_with_len 0 n)) (f n) (flat_map f (range_with_len 0 (n + 1))) e g (numbers-more f 0 n n (omega arith))

-- one access more was written
pub made-pushed : (lines : List Line) (results : List LineResult) (before text after : List ℕ) (i : ℕ) (d : Line) (e : LineResult) → i < length lines → i < length results
    → text ≡ before ++ flat_map (λ (p : Line × LineResult). made_text p.0 p.1) (take i (zip lines results)) → after ≡ text ++ made_text (get_or lines i d) (get_or results i e)
    → after ≡ before ++ flat_map (λ (p : Line × LineResult). made_text p.0 p.1) (take (i + 1) (zip lines results))
made-pushed lines results before text after i d e h k was now =
    pushed before text after (flat_map (λ (p : Line × LineResult). made_text p.0 p.1) (take i (zip lines results))) (made_text (get_or lines i d) (get_or results i e))
    (flat_map (λ (p : Line × LineResult). made_text p.0 p.1) (take (i + 1) (zip lines results))) was now (pairs-more made_text lines results i d e h k)

-- the results of one processor fit its program
pub AllFit-at : {V W : Type 0} (lines : V → List Line) (given : W → List LineResult) (ps : List V) (rs : List W) (i : ℕ) (d : V) (e : W) → i < length ps → i < length rs
    → ((p : ℕ) → AllFit (get_or (map lines ps) p []) (get_or (map given rs) p [])) → AllFit (lines (get_or ps i d)) (given (get_or rs i e))
AllFit-at lines given ps rs i d e h k fits =
    subst (λ (x : List Line). AllFit x (given (get_or rs i e))) (get_or-map lines ps i d [] h) (subst (λ (y : List LineResult). AllFit (get_or (map lines ps) i []) y) (get_or-map given rs i e [] k) (fits i))

-- one processor more was written
pub cpus-pushed : {V W : Type 0} (lines : V → List Line) (given : W → List LineResult) (ps : List V) (rs : List W) (before text after : List ℕ) (i : ℕ) (d : V) (e : W) → i < length ps → i < length rs
    → text ≡ before ++ cpus_text (map lines ps) (map given rs) i → after ≡ text ++ cpu_text i (lines (get_or ps i d)) (given (get_or rs i e)) → after ≡ before ++ cpus_text (map lines ps) (map given rs) (i + 1)
cpus-pushed lines given ps rs before text after i d e h k was now =
    let one : after ≡ text ++ cpu_text i (get_or (map lines ps) i []) (get_or (map given rs) i []) = rw (get_or-map lines ps i d [] h, get_or-map given rs i e [] k) now in
    numbers-pushed (λ p. cpu_text p (get_or (map lines ps) p []) (get_or (map given rs) p [])) before text after i was one

-- every access was written
pub made-all : (lines : List Line) (results : List LineResult) (before text : List ℕ) (i : ℕ) → AllFit lines results → i ≡ length results
    → text ≡ before ++ flat_map (λ (p : Line × LineResult). made_text p.0 p.1) (take i (zip lines results)) → text ≡ before ++ all_made_text lines results
made-all lines results before text i fit e was =
    was ∙ ap (λ n. before ++ flat_map (λ (p : Line × LineResult). made_text p.0 p.1) (take n (zip lines results))) e ∙ ap (λ ps. before ++ flat_map (λ (p : Line × LineResult). made_text p.0 p.1) ps) (pairs-all lines results (AllFit-length lines results fit))

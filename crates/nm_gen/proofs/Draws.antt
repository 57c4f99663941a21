-- One draw more: one program is longer by its line.
use Rattle.std.proofs.Common.{◌≡◌, ℕ, zero, suc, ◌+◌, ◌%◌, ◌<◌, ◌==◌, Bool, true, false, List, [], ◌∷◌, ◌++◌, map, filter, set, get_or, cond, refl, sym, ap, ◌∙◌, arith, add-one}
use Rattle.std.specs.List.{range_with_len}
use Rattle.std.proofs.lemmas.List.FromFn.{filter_of_map_range_with_len_more}
use Rattle.std.proofs.lemmas.List.{append-nil, map-id, map-append}
use Rattle.nm_script.specs.declared.script.Line.{Line}
use Rattle.nm_gen.specs.Generated.{next_draw, drawn, line_at, generated_program, programs_of}

pub drawn-suc : (n i : ℕ) → drawn n (i + 1) ≡ next_draw (drawn n i)
unfolding drawn
drawn-suc n i = rw add-one refl

-- the numbers below i + 1 that a processor has
own_more : (p i : ℕ) → filter (λ k. k % 4 == p) (range_with_len 0 (i + 1)) ≡ filter (λ k. k % 4 == p) (range_with_len 0 i) ++ cond (i % 4 == p) (i ∷ []) []
own_more p i =
    let q : ℕ → Bool = λ k. k % 4 == p in
    let whole : (n : ℕ) → map (λ (k : ℕ). k) (range_with_len 0 n) ≡ range_with_len 0 n = λ n. map-id (range_with_len 0 n) in
    ap (filter q) (sym (whole (i + 1))) ∙ filter_of_map_range_with_len_more q (λ k. k) 0 i i (omega arith) ∙ ap (λ l. filter q l ++ cond (q i) (i ∷ []) []) (whole i)

map_cond : (n i : ℕ) (b : Bool) → map (line_at n) (cond b (i ∷ []) []) ≡ cond b (line_at n i ∷ []) []
map_cond n i true = refl
map_cond n i false = refl

-- the program of a processor after one draw more
pub program_more : (n i p : ℕ) → generated_program n (i + 1) p ≡ generated_program n i p ++ cond (i % 4 == p) (line_at n i ∷ []) []
program_more n i p =
    ap (map (line_at n)) (own_more p i) ∙ map-append (line_at n) (filter (λ k. k % 4 == p) (range_with_len 0 i)) (cond (i % 4 == p) (i ∷ []) []) ∙ ap (λ l. generated_program n i p ++ l) (map_cond n i (i % 4 == p))

-- a list with the item at place q longer by a line, where q is below 4
longer : (a b c d : List Line) (l : Line) (q : ℕ) → q < 4 → set (a ∷ b ∷ c ∷ d ∷ []) q (get_or (a ∷ b ∷ c ∷ d ∷ []) q [] ++ l ∷ []) ≡ (a ++ cond (q == 0) (l ∷ []) []) ∷ (b ++ cond (q == 1) (l ∷ []) []) ∷ (c ++ cond (q == 2) (l ∷ []) []) ∷ (d ++ cond (q == 3) (l ∷ []) []) ∷ []
longer a b c d l zero h = simp append-nil
longer a b c d l (suc zero) h = simp append-nil
longer a b c d l (suc (suc zero)) h = simp append-nil
longer a b c d l (suc (suc (suc zero))) h = simp append-nil
longer a b c d l (suc (suc (suc (suc q)))) h = absurd (omega arith)

-- one draw more makes one program longer by its line
pub programs_more : (n i : ℕ) → set (programs_of n i) (i % 4) (get_or (programs_of n i) (i % 4) [] ++ line_at n i ∷ []) ≡ programs_of n (i + 1)
programs_more n i =
    longer (generated_program n i 0) (generated_program n i 1) (generated_program n i 2) (generated_program n i 3) (line_at n i) (i % 4) (omega arith)
    ∙ rw (program_more n i 0, program_more n i 1, program_more n i 2, program_more n i 3) refl

-- The records that were written so far, and those of one program more.
use Rattle.std.proofs.Common.{◌≡◌, ℕ, zero, suc, ◌+◌, ◌<◌, List, [], ◌∷◌, ◌++◌, map, flat_map, length, take, get_or, All, sym, ap, subst, ◌∙◌, append_assoc, arith}
use Rattle.std.proofs.lemmas.List.{append-nil, length-map, take-map, get_or-map}
use Rattle.std.proofs.lemmas.Grind.{flat_map-append}
use Rattle.nm_script.specs.declared.script.Line.{Line}
use Rattle.nm_trace.specs.References.{reference_text}
use Rattle.nm_trace.specs.Traces.{references_by, references_from}

references_from-take : (k : ℕ) (ps : List (List Line)) (i j : ℕ) (d : List Line) → i < length ps → j ≡ k + i
    → references_from k (take (suc i) ps) ≡ references_from k (take i ps) ++ flat_map (references_by j) (get_or ps i d)
references_from-take k [] i j d h e = absurd (omega (arith, h))
references_from-take k (p ∷ ps) zero j d h e =
    let same : j ≡ k = omega arith in rw same (append-nil (flat_map (references_by k) p))
references_from-take k (p ∷ ps) (suc i) j d h e =
    ap (λ t. flat_map (references_by k) p ++ t) (references_from-take (k + 1) ps i j d (omega (arith, h)) (omega arith))
    ∙ sym (append_assoc (flat_map (references_by k) p) (references_from (k + 1) (take i ps)) (flat_map (references_by j) (get_or ps i d)))

-- the programs lie in memory as values whose items are the lines
pub programs-more : {V : Type 0} (items : V → List Line) (before text after : List ℕ) (ps : List V) (i : ℕ) (d : V) → i < length ps
    → text ≡ before ++ flat_map reference_text (references_from 0 (map items (take i ps)))
    → after ≡ text ++ flat_map reference_text (flat_map (references_by i) (items (get_or ps i d)))
    → after ≡ before ++ flat_map reference_text (references_from 0 (map items (take (i + 1) ps)))
programs-more items before text after ps i d h e f =
    let rows = map items ps in
    let next : i + 1 ≡ suc i = omega arith in
    let short : i < length rows = rw (length-map ps items) h in
    let row : get_or rows i (items d) ≡ items (get_or ps i d) = get_or-map items ps i d (items d) h in
    let a = references_from 0 (map items (take i ps)) in
    let b = flat_map (references_by i) (items (get_or ps i d)) in
    let whole : references_from 0 (map items (take (i + 1) ps)) ≡ a ++ b =
    ap (references_from 0) (sym (take-map items (i + 1) ps)) ∙ ap (λ n. references_from 0 (take n rows)) next
    ∙ references_from-take 0 rows i i (items d) short (omega arith)
    ∙ ap (λ t. references_from 0 t ++ flat_map (references_by i) (get_or rows i (items d))) (take-map items i ps)
    ∙ ap (λ r. a ++ flat_map (references_by i) r) row in
    f ∙ ap (λ t. t ++ flat_map reference_text b) e ∙ append_assoc before (flat_map reference_text a) (flat_map reference_text b)
    ∙ ap (λ t. before ++ t) (sym (flat_map-append reference_text a b)) ∙ ap (λ t. before ++ flat_map reference_text t) (sym whole)

-- what holds of each value of a list that was mapped
pub All-unmapped : {X Y : Type 0} (P : X → Type 0) (f : Y → X) (ys : List Y) → All P (map f ys) → All (λ y. P (f y)) ys
All-unmapped P f ys h = λ k d less. subst P (get_or-map f ys k d (f d) less) (h k (f d) (rw (length-map ys f) less))

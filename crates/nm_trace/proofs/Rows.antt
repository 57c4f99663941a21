-- The records of a text are no more than its bytes.
use Rattle.std.proofs.Common.{◌≡◌, ◌+◌, ◌≤◌, ◌==◌, ◌||◌, ℕ, Bool, true, false, cond, List, [], ◌∷◌, ◌++◌, length, Option, Some, None, refl, ap, subst, arith}
use Rattle.std.proofs.lemmas.Option.{same_Some}
use Rattle.csv.specs.Machine.{Read, next_record, step, is_end, ends_at_end, fields_after, field_after}
use Rattle.csv.specs.Reading.{Reached, default_config, strip_bom, is_bom}
use Rattle.csv.specs.declared.parser.Action.{Action}
use Rattle.csv.specs.declared.parser.State.{State}
use Rattle.csv.specs.declared.parser.State.TheVariants as st
use Rattle.csv.specs.declared.parser.Action.TheVariants as act

-- a step that ends a record leads to where a text may end
abbrev EndsWell : State × Action → Type 0
EndsWell p = is_end p.1 ≡ true → ends_at_end p.0 ≡ false

either : (b : Bool) (p q : State × Action) → EndsWell p → EndsWell q → EndsWell (cond b p q)
either true p q h g = h
either false p q h g = g

after-end : (b : Bool) → EndsWell (cond b st.AfterCr st.StartRecord, act.EndRecord)
after-end true = λ e. refl
after-end false = λ e. refl

in-field : (c : ℕ) → EndsWell (cond (c == 44) (st.StartField, act.EndField) (cond ((c == 13) || (c == 10)) (cond (c == 13) st.AfterCr st.StartRecord, act.EndRecord) (st.InField, act.Copy)))
in-field c = either (c == 44) (st.StartField, act.EndField) _ (λ e. cc e) (either ((c == 13) || (c == 10)) (cond (c == 13) st.AfterCr st.StartRecord, act.EndRecord) (st.InField, act.Copy) (after-end (c == 13)) (λ e. cc e))

start-field : (c : ℕ) → EndsWell (step default_config st.StartField c)
start-field c = either (c == 34) (st.InQuoted, act.Skip) _ (λ e. cc e) (in-field c)

start-record : (c : ℕ) → EndsWell (step default_config st.StartRecord c)
start-record c = either ((c == 13) || (c == 10)) (st.StartRecord, act.Skip) _ (λ e. refl) (start-field c)

step-ends : (s : State) (c : ℕ) → EndsWell (step default_config s c)
step-ends st.StartRecord c = start-record c
step-ends st.StartField c = start-field c
step-ends st.InField c = in-field c
step-ends st.InQuoted c = either (c == 34) (st.AfterQuote, act.Skip) (st.InQuoted, act.Copy) (λ e. cc e) (λ e. cc e)
step-ends st.InEscape c = λ e. cc e
step-ends st.AfterQuote c = either (c == 34) (st.InQuoted, act.Copy) _ (λ e. cc e) (in-field c)
step-ends st.InComment c = either (c == 10) (st.StartRecord, act.Skip) (st.InComment, act.Skip) (λ e. refl) (λ e. cc e)
step-ends st.AfterCr c = either (c == 10) (st.StartRecord, act.Skip) _ (λ e. refl) (start-record c)

-- a record that ends here, or later
read-case : (b : Bool) (here r : Read) (more : Option Read) (P : Read → Type 0) → cond b (Some here) more ≡ Some r → (b ≡ true → P here) → (more ≡ Some r → P r) → P r
read-case true here r more P e f g = subst P (same_Some _ _ e) (f refl)
read-case false here r more P e f g = g e

-- after a record a text may end
pub between : (s : State) (f : List (List ℕ)) (p xs : List ℕ) (r : Read) → next_record default_config s f p xs ≡ Some r → ends_at_end r.1 ≡ false
unfolding next_record
between s f p [] r e = read-case (ends_at_end s) (f ++ (p ∷ []), st.StartRecord, []) r None (λ q. ends_at_end q.1 ≡ false) e (λ _. refl) (λ n. cc n)
between s f p (c ∷ xs) r e =
    let go = step default_config s c in
    read-case (is_end go.1) (fields_after go.1 f p, go.0, xs) r _ (λ q. ends_at_end q.1 ≡ false) e (step-ends s c)
    (between go.0 (fields_after go.1 f p) (field_after go.1 c p) xs r)

-- what is left is no longer
shorter : (s : State) (f : List (List ℕ)) (p xs : List ℕ) (r : Read) → next_record default_config s f p xs ≡ Some r → length r.2 ≤ length xs
unfolding next_record
shorter s f p [] r e = read-case (ends_at_end s) (f ++ (p ∷ []), st.StartRecord, []) r None (λ q. length q.2 ≤ 0) e (λ _. omega arith) (λ n. cc n)
shorter s f p (c ∷ xs) r e =
    let go = step default_config s c in
    read-case (is_end go.1) (fields_after go.1 f p, go.0, xs) r _ (λ q. length q.2 ≤ length (c ∷ xs)) e (λ _. omega arith)
    (λ n. omega (arith, shorter go.0 (fields_after go.1 f p) (field_after go.1 c p) xs r n))

none-from : (b : Bool) (here r : Read) → b ≡ false → cond b (Some here) None ≡ Some r → ⊥
none-from true here r f e = cc f
none-from false here r f e = cc e

-- and is shorter where the text may have ended
pub strictly-shorter : (s : State) (f : List (List ℕ)) (p xs : List ℕ) (r : Read) → ends_at_end s ≡ false → next_record default_config s f p xs ≡ Some r → length r.2 + 1 ≤ length xs
unfolding next_record
strictly-shorter s f p [] r b e = absurd (none-from (ends_at_end s) (f ++ (p ∷ []), st.StartRecord, []) r b e)
strictly-shorter s f p (c ∷ xs) r b e =
    let go = step default_config s c in
    read-case (is_end go.1) (fields_after go.1 f p, go.0, xs) r _ (λ q. length q.2 + 1 ≤ length (c ∷ xs)) e (λ _. omega arith)
    (λ n. omega (arith, shorter go.0 (fields_after go.1 f p) (field_after go.1 c p) xs r n))

pub rows-few : (s t : State) (xs ys : List ℕ) (rows : List (List (List ℕ))) → ends_at_end s ≡ false → Reached default_config s xs rows t ys → length rows + length ys ≤ length xs
unfolding Reached
rows-few s t xs ys [] b h = omega (arith, ap length h.1)
rows-few s t xs ys (row ∷ rows) b (p, e, is, h) =
    omega (arith, strictly-shorter s [] [] xs p b e, rows-few p.1 t p.2 ys rows (between s [] [] xs p e) h)

mark-short : (b : Bool) (xs ys : List ℕ) → length xs ≤ length ys → length (cond b xs ys) ≤ length ys
mark-short true xs ys h = h
mark-short false xs ys h = omega arith

pub strip-shorter : (bytes : List ℕ) → length (strip_bom bytes) ≤ length bytes
unfolding strip_bom
strip-shorter [] = omega arith
strip-shorter (a ∷ []) = omega arith
strip-shorter (a ∷ b ∷ []) = omega arith
strip-shorter (a ∷ b ∷ c ∷ rest) = mark-short (is_bom a b c) rest (a ∷ b ∷ c ∷ rest) (omega arith)

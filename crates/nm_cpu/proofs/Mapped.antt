-- The accesses of a program's lines may be made.
use Rattle.std.proofs.Common.{◌≡◌, ℕ, zero, suc, true, false, ◌<◌, ◌≤◌, List, [], ◌∷◌, ◌++◌, length, get_or, option_map, IsSome, IsSomeAnd, Option, Some, None, refl, sym, ap, subst, arith}
use Rattle.std.specs.List.{AllByRecursion}
use Rattle.nm_base.specs.declared.geometry.VPage.{VPage}
use Rattle.nm_base.specs.Geometry.{Geometry, IsGeometry, vpage_at, backing_page}
use Rattle.nm_base.proofs.Pages.{backing_page-lt}
use Rattle.nm_access.specs.declared.made.Touch.{Touch}
use Rattle.nm_access.specs.Accessing.{IsTouchWord, IsAccessMade}
use Rattle.nm_script.specs.declared.script.Line.{Line}
use Rattle.nm_script.specs.declared.script.Line.TheVariants.{Load, Store, Add, Await}
use Rattle.nm_cpu.specs.Programs.{IsLineOf, backing_or_zero, access_to, line_access}

no-true : false ≡ true → ⊥
no-true e = cc

inside : (vs : List (Option VPage)) (v : ℕ) → IsSome (get_or vs v None) → v < length vs
inside [] v some = absurd (no-true some)
inside (x ∷ vs) zero some = omega arith
inside (x ∷ vs) (suc v) some = omega (arith, inside vs v some)

mapped : (g : Geometry) (v : ℕ) → IsSome (vpage_at g v) → backing_page g v ≡ Some (backing_or_zero (backing_page g v))
mapped g v some = by-page (vpage_at g v) some
  where
    by-page : (found : Option VPage) → IsSome found → option_map (λ p. p.page) found ≡ Some (backing_or_zero (option_map (λ p. p.page) found))
    by-page None some = absurd (no-true some)
    by-page (Some p) some = refl

some-and : (found : Option VPage) (P : VPage → Type 0) → IsSomeAnd found P → IsSome found
some-and None P h = elim h [ ]
some-and (Some p) P h = refl

access-made : (g : Geometry) (v w : ℕ) (touch : Touch) → IsGeometry g → IsSome (vpage_at g v) → w < g.words → IsTouchWord touch → IsAccessMade g (access_to g v w touch)
access-made g v w touch geometry some word value = record {
  geometry = geometry;
  vpage = inside g.vpages v some;
  mapped = mapped g v some;
  page = backing_page-lt g v (backing_or_zero (backing_page g v)) (mapped g v some);
  index = word;
  value = value;
}

pub line-made : (g : Geometry) (line : Line) → IsGeometry g → IsLineOf g line → IsTouchWord (line_access g line).touch → IsAccessMade g (line_access g line)
line-made g (Load v w) geometry h value = access-made g v w _ geometry h.0 h.1 value
line-made g (Store v w x) geometry h value = access-made g v w _ geometry (some-and (vpage_at g v) _ h.0) h.1 value
line-made g (Add v w x) geometry h value = access-made g v w _ geometry (some-and (vpage_at g v) _ h.0) h.1 value
line-made g (Await v w x max) geometry h value = access-made g v w _ geometry h.0 h.1 value

-- A line of the program.

pub one-line : (P : Line → Type 0) (done lines : List Line) (line : Line) → AllByRecursion P (done ++ line ∷ lines) → P line
one-line P [] lines line all = all.0
one-line P (l ∷ done) lines line all = one-line P done lines line all.1

-- the line at the number of those that were made is the first of those that come
pub record IsFirstLine (line : Line) (lines : List Line) : Type 0 where
  pub rest : List Line
  pub is : lines ≡ line ∷ rest

pub first-line : (done lines : List Line) (line d : Line) → length done < length (done ++ lines) → get_or (done ++ lines) (length done) d ≡ line → IsFirstLine line lines
first-line [] [] line d some is = absurd (omega (arith, some))
first-line [] (l ∷ lines) line d some is = record { rest = lines; is = ap (λ (x : Line). x ∷ lines) is }
first-line (l ∷ done) lines line d some is = first-line done lines line d (omega (arith, some)) is

pub line-at : (program done lines : List Line) (line d : Line) (n : ℕ) → program ≡ done ++ lines → length done ≡ n → n < length program → get_or program n d ≡ line → IsFirstLine line lines
line-at program done lines line d n is same some at =
    let N : ℕ → Type 0 = λ n. n < length (done ++ lines) → get_or (done ++ lines) n d ≡ line → IsFirstLine line lines in
    let P : List Line → Type 0 = λ l. n < length l → get_or l n d ≡ line → IsFirstLine line lines in
    (subst P (sym is) (subst N same (first-line done lines line d))) some at

-- no line comes where all were made
pub none-left : (program done lines : List Line) (n : ℕ) → program ≡ done ++ lines → length done ≡ n → length program ≤ n → lines ≡ []
none-left program done lines n is same all = none done lines (subst (λ (l : List Line). length l ≤ length done) is (subst (λ k. length program ≤ k) (sym same) all))
  where
    none : (done lines : List Line) → length (done ++ lines) ≤ length done → lines ≡ []
    none [] [] h = refl
    none [] (l ∷ lines) h = absurd (omega (arith, h))
    none (l ∷ done) lines h = none done lines (omega (arith, h))

-- A generated script is one that a text can say.
use Rattle.std.proofs.Common.{◌≡◌, ℕ, zero, suc, ◌+◌, ◌/◌, ◌%◌, ◌^◌, ◌<◌, ◌≤◌, ◌==◌, Bool, true, false, List, [], ◌∷◌, map, filter, cond, Option, None, IsSome, IsSomeAnd, IsTrue, nat_lt, refl, sym, subst, inl, arith, lit≤}
use Rattle.std.specs.List.{AllByRecursion, range_with_len}
use Rattle.std.proofs.lemmas.List.FromFn.{get_or-map-range_with_len}
use Rattle.std.proofs.lemmas.List.Elements.{All-from_recursion}
use Rattle.nm_base.specs.declared.geometry.VPage.{VPage}
use Rattle.nm_base.specs.declared.geometry.Field.{Field}
use Rattle.nm_base.specs.declared.geometry.Field.TheVariants.{Words, Tiers, Cpus, VPages}
use Rattle.nm_base.specs.Geometry.{IsGeometry, HasRanges, IsFirstOutside, IsCrowded, IsWritable, AreTiers, AreVPages, vpage_at}
use Rattle.nm_script.specs.declared.script.Line.TheVariants.{Load, Store}
use Rattle.nm_script.specs.Script.{IsScript, IsAccess}
use Rattle.nm_gen.specs.Generated.{generated, geometry, one_to_one, line_at, page_drawn, word_drawn, generated_program, drawn}

tiers_fit : AreTiers (64 ∷ 256 ∷ [])
tiers_fit = (lit≤ tt, lit≤ tt, All-from_recursion (λ n. (1 ≤ n) × (n ≤ 4095)) (64 ∷ 256 ∷ []) ((lit≤ tt, lit≤ tt), ((lit≤ tt, lit≤ tt), tt)), lit≤ tt)

pages_fit : AreVPages geometry.vpages
pages_fit = (lit≤ tt, lit≤ tt, lit≤ tt)

ranges : HasRanges geometry
ranges = ((9, lit≤ tt, refl), tiers_fit, (lit≤ tt, lit≤ tt), pages_fit)

-- a machine can have the geometry
pub IsGeometry-geometry : IsGeometry geometry
IsGeometry-geometry = record { ranges = ranges; room = lit≤ tt }

-- so it is not refused
pub not_outside : (f : Field) → IsFirstOutside geometry f → ⊥
not_outside Words h = h ranges.0
not_outside Tiers h = h.1 ranges.1
not_outside Cpus h = h.2 ranges.2
not_outside VPages h = h.3 ranges.3

pub not_crowded : (n : ℕ) → IsCrowded geometry n → ⊥
not_crowded n h = omega (arith, h.few, h.count, IsGeometry-geometry.room)

either_lt : (b : Bool) (x y n : ℕ) → x < n → y < n → cond b x y < n
either_lt true x y n h k = h
either_lt false x y n h k = k

page_lt : (r : ℕ) → page_drawn r < 240
page_lt r = either_lt (nat_lt (r / 4 % 5) 4) (r / 32 % 80) (80 + r / 32 % 160) 240 (omega arith) (omega arith)

vpage_is : (v : ℕ) → v < 240 → vpage_at geometry v ≡ one_to_one v
vpage_is v h = get_or-map-range_with_len one_to_one 0 240 v v None h (omega arith)

mapped : (v : ℕ) → v < 240 → IsSome (vpage_at geometry v)
mapped v h = subst (λ (o : Option VPage). IsSome o) (sym (vpage_is v h)) refl

writable : (v : ℕ) → v < 240 → IsWritable geometry v
writable v h = subst (λ (o : Option VPage). IsSomeAnd o (λ p. IsTrue p.writable)) (sym (vpage_is v h)) refl

line_of : (b : Bool) (v w x : ℕ) → v < 240 → w < 512 → x < 2 ^ 64 → IsAccess geometry (cond b (Store v w x) (Load v w))
line_of true v w x h k l = (writable v h, k, l)
line_of false v w x h k l = (mapped v h, k)

line_access : (n size i : ℕ) → size ≤ 100000 → i < size → IsAccess geometry (line_at n i)
line_access n size i few h =
    let r : ℕ = drawn n (i + 1) / 2 ^ 33 in
    line_of (r % 4 == 0) (page_drawn r) (word_drawn r) (i + 1) (page_lt r) (omega arith) (omega arith)

range_below : (a n m : ℕ) → a + n ≤ m → AllByRecursion (λ k. k < m) (range_with_len a n)
range_below a zero m h = tt
range_below a (suc n) m h = (omega arith, range_below (a + 1) n m (omega arith))

kept : (b : Bool) (k : ℕ) (ks : List ℕ) (m : ℕ) → k < m → AllByRecursion (λ j. j < m) ks → AllByRecursion (λ j. j < m) (cond b (k ∷ ks) ks)
kept true k ks m h all = (h, all)
kept false k ks m h all = all

filter_all : (q : ℕ → Bool) (m : ℕ) (ks : List ℕ) → AllByRecursion (λ k. k < m) ks → AllByRecursion (λ k. k < m) (filter q ks)
filter_all q m [] h = tt
filter_all q m (k ∷ ks) h = kept (q k) k (filter q ks) m h.0 (filter_all q m ks h.1)

lines_all : (n size : ℕ) (ks : List ℕ) → size ≤ 100000 → AllByRecursion (λ k. k < size) ks → AllByRecursion (IsAccess geometry) (map (line_at n) ks)
lines_all n size [] few h = tt
lines_all n size (k ∷ ks) few h = (line_access n size k few h.0, lines_all n size ks few h.1)

program_all : (n size p : ℕ) → size ≤ 100000 → AllByRecursion (IsAccess geometry) (generated_program n size p)
program_all n size p few =
    lines_all n size (filter (λ i. i % 4 == p) (range_with_len 0 size)) few (filter_all (λ i. i % 4 == p) size (range_with_len 0 size) (range_below 0 size size (omega arith)))

-- the script of a number of 64 bits
pub IsScript-generated : (n size : ℕ) → n < 2 ^ 64 → size ≤ 100000 → IsScript (generated n size)
IsScript-generated n size wide few = record {
  version = inl (refl, refl, refl, refl);
  geometry = IsGeometry-geometry;
  trimmed = refl;
  schedule = (wide, lit≤ tt);
  programs = refl;
  lines = (program_all n size 0 few, (program_all n size 1 few, (program_all n size 2 few, (program_all n size 3 few, tt))));
}

-- The script of references is one that a text can say.
use Rattle.std.proofs.Common.{◌≡◌, ◌≢◌, ℕ, zero, suc, ◌+◌, ◌^◌, ◌<◌, ◌≤◌, ◌==◌, Bool, true, false, List, [], ◌∷◌, length, map, filter, get_or, cond, nat_eq, Option, Some, None, IsSome, IsSomeAnd, IsTrue, IfSome, refl, sym, ap, subst, ◌∙◌, inl, inr, arith, lit≤}
use Rattle.std.specs.List.{AllByRecursion, range_with_len, list_any}
use Rattle.std.proofs.lemmas.Bool.{cases_Bool}
use Rattle.std.proofs.lemmas.List.FromFn.{get_or-map-range_with_len, length-map-range_with_len}
use Rattle.nm_base.specs.declared.geometry.VPage.{VPage}
use Rattle.nm_base.specs.Geometry.{Geometry}
use Rattle.nm_tiers.specs.declared.nodes.Node.{Node}
use Rattle.nm_script.specs.declared.limits.TheConstants.{MOST_TURNS}
use Rattle.nm_script.specs.declared.script.Line.{Line}
use Rattle.nm_script.specs.declared.schedule.Schedule.TheVariants.{Serial}
use Rattle.nm_script.specs.Plain.{Script}
use Rattle.nm_script.specs.Script.{IsScript, IsAccess, IsTrimmed}
use Rattle.nm_trace.specs.declared.reference.Reference.{Reference}
use Rattle.nm_trace.specs.References.{IsReference}
use Rattle.nm_trace.specs.Imports.{referenced_page, referenced_word, pages_seen, cpus_seen, page_number, access_with, line_for, program_for, programs_for, own_page, script_for}
use Rattle.nm_trace.specs.Drafts.{IsPageSeen}
use Rattle.nm_trace.proofs.Geometries.{AreSizes, geometry_for, geometry-is}

-- by its fields
pub script-is : (fast slow : ℕ) (refs : List Reference) (g : Geometry) (programs : List (List Line)) (nodes : List Node) (cpus pages : ℕ) → g ≡ geometry_for fast slow cpus pages → cpus ≡ cpus_seen refs
    → pages ≡ length (pages_seen refs) → programs ≡ programs_for (pages_seen refs) refs (cpus_seen refs) → nodes ≡ []
    → ◌≡◌ {A = Script} (record { version = 1; geometry = g; programs = programs; schedule = Serial MOST_TURNS; nodes = nodes; retry = None }) (script_for fast slow refs)
script-is fast slow refs g programs nodes cpus pages a b c d e =
    let whole : g ≡ geometry_for fast slow (cpus_seen refs) (length (pages_seen refs)) = a ∙ ap (λ n. geometry_for fast slow n pages) b ∙ ap (λ n. geometry_for fast slow (cpus_seen refs) n) c in
    rw (whole, d, e) refl

pub some-cpus : (refs : List Reference) → refs ≢ [] → 1 ≤ cpus_seen refs
some-cpus [] some = absurd (some refl)
some-cpus (r ∷ refs) some = omega arith

some-seen : (ks : List ℕ) (k : ℕ) → list_any (nat_eq k) ks ≡ true → 1 ≤ length ks
some-seen [] k h = cc h
some-seen (x ∷ ks) k h = omega arith

pub some-pages : (refs : List Reference) → refs ≢ [] → AllByRecursion (IsPageSeen (pages_seen refs)) refs → 1 ≤ length (pages_seen refs)
some-pages [] some h = absurd (some refl)
some-pages (r ∷ refs) some h = some-seen (pages_seen (r ∷ refs)) (referenced_page r) h.0

-- the number of a page that was seen is one of those of the pages
place-lt : (ks : List ℕ) (k : ℕ) → list_any (nat_eq k) ks ≡ true → page_number ks k < length ks
place-lt [] k h = cc h
place-lt (x ∷ ks) k h = elim (cases_Bool (nat_eq k x)) [
  | inl e ↦ let first : page_number (x ∷ ks) k ≡ 0 = rw e refl in omega (arith, first)
  | inr e ↦
      let rest : page_number (x ∷ ks) k ≡ 1 + page_number ks k = rw e refl in
      omega (arith, rest, place-lt ks k (rw e at h))
]

trimmed : (a n : ℕ) → IsTrimmed (map own_page (range_with_len a n))
trimmed a zero = tt
trimmed a (suc zero) = refl
trimmed a (suc (suc n)) = trimmed (a + 1) (suc n)

-- the geometry for the references
abbrev geometry_of : ℕ → ℕ → List Reference → Geometry
geometry_of fast slow refs = geometry_for fast slow (cpus_seen refs) (length (pages_seen refs))

module _ (fast slow : ℕ) (refs : List Reference) where
  own-is : (v : ℕ) → v < length (pages_seen refs) → ◌≡◌ {A = Option VPage} (own_page v) (get_or (map own_page (range_with_len 0 (length (pages_seen refs)))) v None)
  own-is v h = sym (get_or-map-range_with_len own_page 0 (length (pages_seen refs)) v v None h (omega arith))

  access : (v w : ℕ) (x : Option ℕ) → v < length (pages_seen refs) → w < 512 → IfSome x (λ n. n < 2 ^ 64) → IsAccess (geometry_of fast slow refs) (access_with v w x)
  access v w None h k l = (subst (λ (o : Option VPage). IsSome o) (own-is v h) refl, k)
  access v w (Some x) h k l = (subst (λ (o : Option VPage). IsSomeAnd o (λ p. IsTrue p.writable)) (own-is v h) refl, k, l)

  lines-kept : (b : Bool) (r : Reference) (rs : List Reference) → IsAccess (geometry_of fast slow refs) (line_for (pages_seen refs) r) → AllByRecursion (IsAccess (geometry_of fast slow refs)) (map (line_for (pages_seen refs)) rs)
      → AllByRecursion (IsAccess (geometry_of fast slow refs)) (map (line_for (pages_seen refs)) (cond b (r ∷ rs) rs))
  lines-kept true r rs h all = (h, all)
  lines-kept false r rs h all = all

  program-fits : (p : ℕ) (rs : List Reference) → AllByRecursion IsReference rs → AllByRecursion (IsPageSeen (pages_seen refs)) rs → AllByRecursion (IsAccess (geometry_of fast slow refs)) (program_for (pages_seen refs) rs p)
  program-fits p [] each seen = tt
  program-fits p (r ∷ rs) each seen =
      lines-kept (r.cpu == p) r (filter (λ q. q.cpu == p) rs) (access (page_number (pages_seen refs) (referenced_page r)) (referenced_word r) r.value (place-lt (pages_seen refs) (referenced_page r) seen.0) (omega arith) each.0.value) (program-fits p rs each.1 seen.1)

  programs-fit : (a n : ℕ) → AllByRecursion IsReference refs → AllByRecursion (IsPageSeen (pages_seen refs)) refs → AllByRecursion (λ program. AllByRecursion (IsAccess (geometry_of fast slow refs)) program) (map (program_for (pages_seen refs) refs) (range_with_len a n))
  programs-fit a zero each seen = tt
  programs-fit a (suc n) each seen = (program-fits a refs each seen, programs-fit (a + 1) n each seen)

  pub IsScript-script_for : AreSizes fast slow (cpus_seen refs) (length (pages_seen refs)) → AllByRecursion IsReference refs → AllByRecursion (IsPageSeen (pages_seen refs)) refs → IsScript (script_for fast slow refs)
  IsScript-script_for sizes each seen = record {
    version = inl (refl, refl, refl, refl);
    geometry = geometry-is fast slow (cpus_seen refs) (length (pages_seen refs)) sizes;
    trimmed = trimmed 0 (length (pages_seen refs));
    schedule = lit≤ tt;
    programs = length-map-range_with_len (program_for (pages_seen refs) refs) 0 (cpus_seen refs);
    lines = programs-fit 0 (cpus_seen refs) each seen;
  }

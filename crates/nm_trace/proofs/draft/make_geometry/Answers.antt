-- The geometry is not refused.
use Rattle.std.proofs.Common.{◌≡◌, [], ◌∷◌, map, Err, ap, subst, rules}
use Rattle.std.specs.List.{range_with_len}
use Rattle.nm_base.specs.Geometry.{IsFirstOutside, IsCrowded, made}
use Rattle.nm_trace.specs.Imports.{own_page}
use Rattle.nm_trace.proofs.Geometries.{AreSizes, not-outside, not-crowded}
use Rattle.nm_trace.proofs.draft.make_geometry.Goals as goal

pub unreachable-requires : goal.unreachable-requires
unreachable-requires c =
    let a = c.args in let r = c.requires in
    let sizes : AreSizes a.fast a.slow a.cpus a.pages = record { some_fast = r.fast; some_slow = r.slow; sum = r.sum; some_cpus = r.cpus; some_pages = r.pages; room = r.room } in
    let items : c.deref.result.now ≡ map own_page (range_with_len 0 a.pages) = search rules in
    let h = (c.in-Err-OutOfRange.ensures.outside c.in-Err-OutOfRange.field-0-0).0 (ap (λ e. Err e) c.in-Err-OutOfRange.field-0-is) in
    not-outside a.fast a.slow a.cpus a.pages sizes c.in-Err-OutOfRange.field-0-0 (subst (λ vs. IsFirstOutside (made 512 (a.fast ∷ a.slow ∷ []) a.cpus vs) c.in-Err-OutOfRange.field-0-0) items h)

pub unreachable-requires-in-Err-TooManyPages : goal.unreachable-requires-in-Err-TooManyPages
unreachable-requires-in-Err-TooManyPages c =
    let a = c.args in let r = c.requires in
    let sizes : AreSizes a.fast a.slow a.cpus a.pages = record { some_fast = r.fast; some_slow = r.slow; sum = r.sum; some_cpus = r.cpus; some_pages = r.pages; room = r.room } in
    let items : c.deref.result.now ≡ map own_page (range_with_len 0 a.pages) = search rules in
    let h = (c.in-Err-TooManyPages.ensures.crowded c.in-Err-TooManyPages.field-0-0).0 (ap (λ e. Err e) c.in-Err-TooManyPages.field-0-is) in
    not-crowded a.fast a.slow a.cpus a.pages sizes c.in-Err-TooManyPages.field-0-0 (subst (λ vs. IsCrowded (made 512 (a.fast ∷ a.slow ∷ []) a.cpus vs) c.in-Err-TooManyPages.field-0-0) items h)

-- Worked values: two backing pages of four words, of which virtual pages 0 and 1 are the first, and 2 is the second.
use Rattle.std.proofs.Common.{ℕ, true, [], ◌∷◌, Option, Some, refl}
use Rattle.nm_base.specs.Geometry.{Geometry, made}
use Rattle.nm_base.specs.declared.geometry.VPage.{VPage}
use Rattle.nm_flat.specs.declared.access.Access.{Access}
use Rattle.nm_flat.specs.declared.access.AccessKind.{AccessKind}
use Rattle.nm_flat.specs.declared.access.AccessKind.TheVariants.{Load, Store, Add}
use Rattle.nm_flat.specs.Memory.{IsLegal}

abbrev on : ℕ → Option VPage
on b = Some (record { page = b; writable = true })

abbrev two_pages : Geometry
two_pages = made 4 (8 ∷ 8 ∷ []) 2 (on 0 ∷ on 0 ∷ on 1 ∷ [])

abbrev at : ℕ → ℕ → AccessKind → Access
at v i kind = record { cpu = 0; vpage = v; word = i; kind = kind }

stored_is_loaded : IsLegal two_pages (at 0 0 (Store 5) ∷ at 0 0 (Load 5) ∷ [])
stored_is_loaded = (tt, (refl, tt))

alias_is_loaded : IsLegal two_pages (at 0 3 (Store 7) ∷ at 1 3 (Load 7) ∷ at 2 3 (Load 0) ∷ [])
alias_is_loaded = (tt, (refl, (refl, tt)))

-- 5 + 18446744073709551615 is 4 modulo 2^64
adds_wrap : IsLegal two_pages (at 2 1 (Add 0 5) ∷ at 2 1 (Add 5 18446744073709551615) ∷ at 2 1 (Load 4) ∷ [])
adds_wrap = (refl, (refl, (refl, tt)))

nothing_was_stored : ¬ IsLegal two_pages (at 0 0 (Load 1) ∷ [])
nothing_was_stored legal = cc (legal.0)

-- The table words that an operation took out of the table.
use Rattle.std.specs.Prelude.{All}
use Rattle.nm_base.specs.Geometry.{Geometry}
use Rattle.nm_base.specs.TableWord.{IsTableInRange}
use Rattle.nm_view.specs.Views.{Op}

-- each taken word of an operation is a table word in range
abbrev pub AreTakenInRange : Geometry → Op → Type 0
AreTakenInRange g o = All (λ p. IsTableInRange g p.1) o.taken

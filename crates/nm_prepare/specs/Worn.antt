-- An actor that has drawn almost all numbers that it may draw begins no more work.
use Rattle.std.specs.Prelude.{ℕ, ◌-◌, ◌^◌, ◌||◌, nat_le, Bool}
use Rattle.nm_action.specs.declared.spent.Spent.{Spent}

-- the bumps, and the raises, at which work ends before it begins: two bumps, and a raise of each virtual page, fit below
-- what an actor may make
abbrev pub worn_bumps : ℕ
worn_bumps = 2 ^ 56 - 1

abbrev pub worn_raises : ℕ
worn_raises = 2 ^ 59 - 8192

-- so much is drawn that no work begins
abbrev pub is_worn : Spent → Bool
is_worn spent = nat_le worn_bumps spent.bumps || nat_le worn_raises spent.raises

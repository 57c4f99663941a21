-- A number is `0`, or a digit from 1 to 9 with digits after it, and is below 2 ^ 64.
use Rattle.std.specs.Prelude.{◌≡◌, ℕ, ◌<◌, ◌^◌, ◌&&◌, nat_lt, if◌then◌else◌, List, Option, Some, None}
use Rattle.std.specs.Fmt.{decimal}
use Rattle.std.specs.Str.{bytes_eq}
use Rattle.std.specs.Str.Parse.{digits_value}

-- the field is the one spelling of the number n
abbrev pub IsNumber : List ℕ → ℕ → Type 0
IsNumber field n = (n < 2 ^ 64) × (field ≡ decimal n)

-- the number that a field spells: the value of its digits, where that is below 2 ^ 64 and writing it gives the field
unfoldable pub number_of : List ℕ → Option ℕ
number_of field =
    let n = digits_value 10 field in
    if nat_lt n (2 ^ 64) && bytes_eq (decimal n) field then Some n else None

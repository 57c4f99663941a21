-- The text of a summary: how many accesses were made, and the lines of the report after the processors' but for the pages'.
use Rattle.std.specs.Prelude.{◌≡◌, ℕ, ◌+◌, ◌%◌, ◌^◌, Bool, true, false, List, ◌∷◌, ◌++◌, length, sum_by, count_by, codes}
use Rattle.std.specs.List.{AllByRecursion}
use Rattle.std.specs.Fmt.{decimal}
use Rattle.nm_script.specs.declared.script.Line.{Line}
use Rattle.nm_script.specs.declared.script.Line.TheVariants.{Load, Store, Add, Await}
use Rattle.nm_script.specs.Items.{line}
use Rattle.nm_report.specs.declared.line_result.LineResult.{LineResult}
use Rattle.nm_report.specs.declared.line_result.LineResult.TheVariants.{Loaded, Stored, Added, Met, Missed}
use Rattle.nm_report.specs.Plain.{Report}
use Rattle.nm_report.specs.Texts.{tiers_text, counts_text}

abbrev pub is_load : LineResult → Bool
is_load (Loaded x) = true
is_load Stored = false
is_load (Added y) = false
is_load (Met n) = false
is_load (Missed n) = false

-- stores and adds
abbrev pub is_store : LineResult → Bool
is_store (Loaded x) = false
is_store Stored = true
is_store (Added y) = true
is_store (Met n) = false
is_store (Missed n) = false

-- what a load gave; the old value of an add is not counted
abbrev pub loaded_value : LineResult → ℕ
loaded_value (Loaded x) = x
loaded_value Stored = 0
loaded_value (Added y) = 0
loaded_value (Met n) = 0
loaded_value (Missed n) = 0

-- the accesses of all processors where no line is an await: each result is one
abbrev pub access_count : List (List LineResult) → ℕ
access_count results = sum_by (λ list. length list) results

abbrev pub load_count : List (List LineResult) → ℕ
load_count results = sum_by (λ list. count_by is_load list) results

abbrev pub store_count : List (List LineResult) → ℕ
store_count results = sum_by (λ list. count_by is_store list) results

abbrev pub loaded_sum : List (List LineResult) → ℕ
loaded_sum results = sum_by (λ list. sum_by loaded_value list) results

-- the accesses are the loads and the stores
abbrev pub AddsUp : List (List LineResult) → Type 0
AddsUp results = access_count results ≡ load_count results + store_count results

-- accesses A loads L stores S sum X, the sum modulo 2^64
abbrev pub accesses_text : List (List LineResult) → List ℕ
accesses_text results =
    line (codes "accesses " ++ decimal (access_count results) ++ codes " loads " ++ decimal (load_count results) ++ codes " stores " ++ decimal (store_count results) ++ codes " sum " ++ decimal (loaded_sum results % 2 ^ 64))

-- the text of the summary of drill N SIZE
abbrev pub summary_text : ℕ → ℕ → Report → List ℕ
summary_text number size r =
    line (codes "drill " ++ decimal number ++ 32 ∷ decimal size) ++ accesses_text r.results ++ tiers_text r.script.geometry r.end.roles ++ counts_text r

abbrev pub IsNoAwait : Line → Type 0
IsNoAwait (Load v w) = Unit {0}
IsNoAwait (Store v w x) = Unit {0}
IsNoAwait (Add v w x) = Unit {0}
IsNoAwait (Await v w x max) = ⊥

-- no line of any program is an await
abbrev pub HasNoAwait : List (List Line) → Type 0
HasNoAwait programs = AllByRecursion (λ program. AllByRecursion IsNoAwait program) programs

-- The rows of a lab, and its text.
use Rattle.std.specs.Prelude.{◌≡◌, ℕ, ◌<◌, ◌≤◌, Bool, true, false, List, ◌++◌, length, flat_map, slice_index_or, codes, Option, Some, None}
use Rattle.std.specs.Fmt.{decimal}
use Rattle.nm_script.specs.Items.{line}
use Rattle.nm_lab.specs.declared.rows.LabRow.{LabRow}

abbrev pub retry_text : Option ℕ → List ℕ
retry_text None = codes "never"
retry_text (Some r) = decimal r

abbrev pub settled_text : Bool → List ℕ
settled_text true = line (codes " settled yes")
settled_text false = line (codes " settled no")

-- the line of a row
abbrev pub row_text : LabRow → List ℕ
row_text r =
    codes "retry " ++ retry_text r.retry ++ codes " slow " ++ decimal r.slow ++ codes " committed " ++ decimal r.committed ++ codes " moved " ++ decimal r.moved ++ codes " aborted " ++ decimal r.aborted ++ settled_text r.settled

abbrev pub no_row : LabRow
no_row = record { retry = None; slow = 0; committed = 0; moved = 0; aborted = 0; settled = false }

abbrev pub row_at : List LabRow → ℕ → LabRow
row_at rows i = slice_index_or rows i no_row

-- row i is the first with the fewest slow accesses
pub record IsBest (rows : List LabRow) (i : ℕ) : Type 0 where
  pub there : i < length rows
  pub least : (k : ℕ) → k < length rows → (row_at rows i).slow ≤ (row_at rows k).slow
  pub first : (k : ℕ) → k < i → (row_at rows i).slow < (row_at rows k).slow

-- the text of a lab whose best row is row i
abbrev pub lab_text : List LabRow → ℕ → List ℕ
lab_text rows i = line (codes "lab " ++ decimal (length rows)) ++ flat_map row_text rows ++ line (codes "best " ++ retry_text (row_at rows i).retry)

-- the text of a lab: it names the first row with the fewest slow accesses
pub record IsLabText (rows : List LabRow) (text : List ℕ) : Type 0 where
  pub place : ℕ
  pub best : IsBest rows place
  pub is : text ≡ lab_text rows place

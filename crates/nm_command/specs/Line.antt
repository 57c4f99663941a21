-- The words as a command line: a command with its fields.
use Rattle.std.specs.Prelude.{◌≡◌, ◌≤◌, ◌==◌, ◌||◌, Bool, true, false, List, [], ◌∷◌, Option, Some, None, length, codes}
use Rattle.std.specs.List.{AllByRecursion}
use Rattle.std.specs.Str.{bytes_eq}
use Rattle.clap.specs.Walk.{texts}
use Rattle.clap.specs.Words.{App, Row, Text, all_of, app_of, fault_of, first_of, new_app, new_rule, Rule, subcommand_of, subcommand_rows_of, with_rule, with_subcommand}
use Rattle.clap.specs.Simple.{new_shape}
use Rattle.clap.specs.declared.builder.command.Command.{Command}
use Rattle.clap.specs.declared.builder.command.Command.TheViews.{out-Command}
use Rattle.clap.specs.declared.parser.matches.ArgMatches.{ArgMatches}
use Rattle.nm_command.specs.declared.line.Fields.{Fields}
use Rattle.nm_command.specs.declared.line.Fields.TheVariants.{Sim, Gen, Drill, Import, Run, Journal, Check, Lab}

-- a word that is an option, or help
abbrev pub is_refused : Text → Bool
is_refused [] = false
is_refused (x ∷ xs) = x == 45 || bytes_eq (x ∷ xs) (codes "help")

-- no word is an option, or help
abbrev pub AreFields : List Text → Type 0
AreFields words = AllByRecursion (λ w. is_refused w ≡ false) words

-- a command's name and its fields, as words
abbrev pub words_in : Fields → List Text
words_in Sim = codes "sim" ∷ []
words_in (Gen number size) = codes "gen" ∷ number.now ∷ size.now ∷ []
words_in (Drill number size) = codes "drill" ∷ number.now ∷ size.now ∷ []
words_in (Import fast slow) = codes "import" ∷ fast.now ∷ slow.now ∷ []
words_in Run = codes "run" ∷ []
words_in Journal = codes "journal" ∷ []
words_in Check = codes "check" ∷ []
words_in (Lab retries) = codes "lab" ∷ texts retries.now

-- a lab has one to eight words behind its name
abbrev pub HasFew : Fields → Type 0
HasFew (Lab retries) = (1 ≤ length retries.now) × (length retries.now ≤ 8)
HasFew _ = Unit {0}

-- the words are these fields behind the name of their command
abbrev pub AreWordsOf : List Text → Fields → Type 0
AreWordsOf words fields = (words ≡ words_in fields) × HasFew fields

-- ---- the command line, as clap's clauses see it

abbrev pub required_rule : Text → Rule
required_rule id = record (new_rule id) { required = true }

-- a field that takes one to eight words
abbrev pub several_rule : Text → Rule
several_rule id = record (required_rule id) { range = Some (record { start_inclusive = 1; end_inclusive = 8 }) }

abbrev pub sim : App
sim = new_app (codes "sim")

abbrev pub generate : App
generate = with_rule (with_rule (new_app (codes "gen")) (required_rule (codes "N"))) (required_rule (codes "SIZE"))

abbrev pub drill : App
drill = with_rule (with_rule (new_app (codes "drill")) (required_rule (codes "N"))) (required_rule (codes "SIZE"))

abbrev pub importing : App
importing = with_rule (with_rule (new_app (codes "import")) (required_rule (codes "F"))) (required_rule (codes "S"))

abbrev pub running : App
running = new_app (codes "run")

abbrev pub journal : App
journal = new_app (codes "journal")

abbrev pub checking : App
checking = new_app (codes "check")

abbrev pub lab : App
lab = with_rule (new_app (codes "lab")) (several_rule (codes "WORD"))

abbrev pub bare : App
bare = record {
  top = record (new_shape (codes "nomad")) { no_binary_name = true; disable_help_flag = true; disable_help_subcommand = true };
  subs = [];
}

-- the commands of scripts and traces
abbrev pub script_line : App
script_line = with_subcommand (with_subcommand (with_subcommand (with_subcommand bare sim.top) generate.top) drill.top) importing.top

abbrev pub nomad : App
nomad = with_subcommand (with_subcommand (with_subcommand (with_subcommand script_line running.top) journal.top) checking.top) lab.top

-- the command is this one, with no argument that a subcommand of it has too
abbrev pub IsCommandOf : App → Command → Type 0
IsCommandOf app c = (app_of c ≡ app) × ((out-Command c).has_globals ≡ false)

-- the command with this name and two fields
abbrev pub IsTwoFieldCommand : Text → Text → Text → Command → Type 0
IsTwoFieldCommand name first second c = IsCommandOf (with_rule (with_rule (new_app name) (required_rule first)) (required_rule second)) c

-- ---- what clap reads of the words

-- clap takes the words, none of which is an option or help, and reads this subcommand and its rows of them
pub record IsRead (words : List Text) (met : Option (Text × List Row)) : Type 0 where
  pub some : words ≡ [] → ⊥
  pub fields : AreFields words
  pub accepted : fault_of nomad words ≡ []
  pub entered : met ≡ subcommand_of nomad words

-- what was read of the words; none where there are none, one is an option or help, or clap refuses them
abbrev pub Reads : List Text → Option ArgMatches → Type 0
Reads words (Some m) = IsRead words (subcommand_rows_of m)
Reads words None = AreFields words → fault_of nomad words ≡ [] → words ≡ []

-- the rows have these values for two fields
abbrev pub HasValues : Text → Text → List Row → Text → Text → Type 0
HasValues first second rows a b = (first_of first rows ≡ Some a) × (first_of second rows ≡ Some b)

-- the rows have no values for two fields
abbrev pub LacksValues : Text → Text → List Row → Type 0
LacksValues first second rows = (a b : Text) → HasValues first second rows a b → ⊥

-- the name of a subcommand and its rows say these fields
abbrev pub SaysFields : Option (Text × List Row) → Option Fields → Type 0
SaysFields entered (Some Sim) = (rows : List Row) × (entered ≡ Some (codes "sim", rows))
SaysFields entered (Some (Gen number size)) = (rows : List Row) × (entered ≡ Some (codes "gen", rows)) × HasValues (codes "N") (codes "SIZE") rows number.now size.now
SaysFields entered (Some (Drill number size)) = (rows : List Row) × (entered ≡ Some (codes "drill", rows)) × HasValues (codes "N") (codes "SIZE") rows number.now size.now
SaysFields entered (Some (Import fast slow)) = (rows : List Row) × (entered ≡ Some (codes "import", rows)) × HasValues (codes "F") (codes "S") rows fast.now slow.now
SaysFields entered (Some Run) = (rows : List Row) × (entered ≡ Some (codes "run", rows))
SaysFields entered (Some Journal) = (rows : List Row) × (entered ≡ Some (codes "journal", rows))
SaysFields entered (Some Check) = (rows : List Row) × (entered ≡ Some (codes "check", rows))
SaysFields entered (Some (Lab retries)) = (rows : List Row) × (entered ≡ Some (codes "lab", rows)) × (all_of (codes "WORD") rows ≡ Some (texts retries.now))
SaysFields entered None = (rows : List Row)
    → (entered ≡ Some (codes "sim", rows) → ⊥)
    × (entered ≡ Some (codes "gen", rows) → LacksValues (codes "N") (codes "SIZE") rows)
    × (entered ≡ Some (codes "drill", rows) → LacksValues (codes "N") (codes "SIZE") rows)
    × (entered ≡ Some (codes "import", rows) → LacksValues (codes "F") (codes "S") rows)
    × (entered ≡ Some (codes "run", rows) → ⊥)
    × (entered ≡ Some (codes "journal", rows) → ⊥)
    × (entered ≡ Some (codes "check", rows) → ⊥)
    × (entered ≡ Some (codes "lab", rows) → all_of (codes "WORD") rows ≡ None)

-- What clap makes of a word that is no option, at a level of the command line.
use Rattle.std.proofs.Common.{◌≡◌, ◌≢◌, inl, inr, ℕ, ◌==◌, ◌||◌, Bool, true, false, List, [], ◌∷◌, ◌++◌, Some, None, is_some, slice_index_or, fold, codes, refl, sym, ap, ap₂, ◌∙◌, append_assoc}
use Rattle.std.specs.Str.{bytes_eq}
use Rattle.std.proofs.lemmas.Bool.Decides.{eqb_tells}
use Rattle.std.proofs.lemmas.List.{append-nil}
use Rattle.clap.specs.Lexer.{long_of, short_of}
use Rattle.clap.specs.Walk.{Held, Names, Rule, Text, Walk, idle, value, walk, walk_from, walked, subcommand_met, nothing_held, arg_by_index, to_positional, finished, settled}
use Rattle.clap.specs.Simple.{App, Shape, built, entered, names_of}
use Rattle.clap.specs.Faults.{fault_of, level_fault, entered_fault, walk_fault, turn_fault, step_fault, settle_fault, defaults_fault, check_fault}
use Rattle.clap.specs.Kinds.{Kinds, or_else}
use Rattle.nm_command.specs.Line.{is_refused, nomad}

pub not_eq : (x y : ℕ) → x ≢ y → (x == y) ≡ false
not_eq x y n = elim (eqb_tells x y) [ inl h ↦ absurd (n h.1) | inr h ↦ h.0 ]

-- a word that is no option
pub record IsField (w : Text) : Type 0 where
  pub long : long_of w ≡ None
  pub short : short_of w ≡ None
  pub dashes : bytes_eq w (45 ∷ 45 ∷ []) ≡ false

or_left : (a b : Bool) → (a || b) ≡ false → a ≡ false
or_left false b h = refl
or_left true b h = h

pub is_field : (w : Text) → is_refused w ≡ false → IsField w
is_field [] h = record { long = refl; short = refl; dashes = refl }
is_field (x ∷ xs) h =
    let e = or_left (x == 45) (bytes_eq (x ∷ xs) (codes "help")) h in
    record { long = rw e refl; short = rw e refl; dashes = rw e refl }

-- between two words of a level that has met no subcommand
abbrev pub between : Held → ℕ → Walk
between h position = record { held = h; waiting = idle; position = position; is_trailing = false; stopped = None }

-- a word that is no subcommand is a value
pub value_fault : (s : Shape) (names : Names) (h : Held) (position : ℕ) (w : Text) → IsField w → subcommand_met names idle w ≡ None → turn_fault s names (between h position) w ≡ step_fault s position h value
value_fault s names h position w f none = rw (none, f.dashes, f.long, f.short) refl

pub value_walked : (c : List Rule) (names : Names) (h : Held) (position : ℕ) (w : Text) → IsField w → subcommand_met names idle w ≡ None → walked c names (between h position) w ≡ to_positional c (arg_by_index c position) w (between h position) h
unfolding walked
value_walked c names h position w f none = rw (none, f.dashes, f.long, f.short) refl

pub walk_fault-cons : (s : Shape) (names : Names) (w : Walk) (word : Text) (rest : List Text) → walk_fault s names w (word ∷ rest) ≡ or_else (turn_fault s names w word) (walk_fault s names (walked s.rules names w word) rest)
unfolding walk_fault
walk_fault-cons s names w word rest = refl

-- one field more of a subcommand
pub field_fault : (s : Shape) (h : Held) (position : ℕ) (w : Text) (rest : List Text) → IsField w → walk_fault s [] (between h position) (w ∷ rest) ≡ or_else (step_fault s position h value) (walk_fault s [] (to_positional s.rules (arg_by_index s.rules position) w (between h position) h) rest)
field_fault s h position w rest f =
    walk_fault-cons s [] (between h position) w rest ∙ ap₂ or_else (value_fault s [] h position w f refl) (ap (λ v. walk_fault s [] v rest) (value_walked s.rules [] h position w f refl))

-- the words after a subcommand are its own
pub stopped_walk : (c : List Rule) (names : Names) (w : Walk) (name : Text) (before words : List Text) → fold (walked c names) (record w { stopped = Some (name, before) }) words ≡ record w { stopped = Some (name, before ++ words) }
unfolding walked
stopped_walk c names w name before [] = ap (λ t. record w { stopped = Some (name, t) }) (sym (append-nil before))
stopped_walk c names w name before (x ∷ xs) = stopped_walk c names w name (before ++ x ∷ []) xs ∙ ap (λ t. record w { stopped = Some (name, t) }) (append_assoc before (x ∷ []) xs)

-- the kinds are some
abbrev pub HasFault : Kinds → Type 0
HasFault kinds = kinds ≡ [] → ⊥

pub some_first : (a b : Kinds) → HasFault a → HasFault (or_else a b)
some_first [] b h e = h refl
some_first (k ∷ ks) b h e = h e

-- ---- a level of the parse, by what its words failed by and where they led

abbrev pub level : Shape → Bool → Kinds → Kinds → Held → Kinds
level s has below words end =
    or_else words (or_else below (or_else (settle_fault s.rules s.args_override_self end) (or_else (defaults_fault (settled s.rules end).rows s.rules) (check_fault s (finished s.rules end) has))))

-- the command line and its subcommands, built
abbrev pub line : App
line = built nomad

abbrev pub sub_at : ℕ → Shape
sub_at i = slice_index_or line.subs i line.top

abbrev pub names : Names
names = names_of line

pub fault_as : (words : List Text) (kinds : Kinds) (w : Walk) → walk_fault line.top names (walk_from nothing_held) words ≡ kinds → walk line.top.rules names nothing_held words ≡ w → fault_of nomad words ≡ level line.top (is_some (entered line w.stopped)) (entered_fault line w.stopped) kinds w.held
fault_as words kinds w e f = ap₂ (λ (k : Kinds) (v : Walk). level line.top (is_some (entered line v.stopped)) (entered_fault line v.stopped) k v.held) e f

pub leaf_as : (s : Shape) (words : List Text) (kinds : Kinds) (w : Walk) → walk_fault s [] (walk_from nothing_held) words ≡ kinds → walk s.rules [] nothing_held words ≡ w → level_fault s [] nothing_held words false [] ≡ level s false [] kinds w.held
leaf_as s words kinds w e f = ap₂ (λ (k : Kinds) (v : Walk). level s false [] k v.held) e f

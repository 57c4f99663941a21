-- What the command line makes of its first word, and each subcommand of the words behind it.
use Rattle.std.proofs.Common.{◌≡◌, ℕ, false, List, [], ◌∷◌, ◌++◌, Some, None, fold, codes, refl, sym, ap, subst, ◌∙◌, append_assoc, length, ◌<◌, ◌≤◌, arith}
use Rattle.std.specs.Prelude.{find}
use Rattle.std.specs.Str.{bytes_eq}
use Rattle.std.proofs.lemmas.Bool.{le-ltb, lt-ltb}
use Rattle.std.proofs.lemmas.List.{append-nil}
use Rattle.clap.specs.Walk.{Held, Rule, Text, Walk, answers_to, idle, positional, value, walk, walk_from, walked, subcommand_met, nothing_held, arg_by_index, to_positional, rows_after, finished}
use Rattle.clap.specs.Simple.{Shape, entered, label_of, subcommand_of}
use Rattle.clap.specs.Faults.{fault_of, level_fault, walk_fault, turn_fault, step_fault, stray_fault}
use Rattle.clap.specs.Kinds.{Kinds, range_kinds, values_kinds, or_else}
use Rattle.clap.specs.Words.{all_of}
use Rattle.clap.specs.declared.builder.value_parser.ValueParser.TheVariants as parsers
use Rattle.clap.proofs.FaultLemmas.{stopped_fault}
use Rattle.clap.proofs.OnLiterals.{clap_on_literals}
use Rattle.nm_command.specs.Line.{AreFields, HasValues, nomad}
use Rattle.nm_command.proofs.Levels.{HasFault, IsField, between, fault_as, field_fault, is_field, leaf_as, line, names, not_eq, some_first, stopped_walk, sub_at, value_fault, value_walked, walk_fault-cons}

-- ---- the first word

abbrev stopped : Text → List Text → Walk
stopped name words = record (walk_from nothing_held) { stopped = Some (name, words) }

-- the word is the name of this subcommand
pub record IsSub (w : Text) (s : Shape) : Type 0 where
  met : subcommand_met names idle w ≡ Some w
  found : find (λ t. answers_to w (label_of t)) line.subs ≡ Some s
  named : s.name ≡ w
  other : bytes_eq w (codes "help") ≡ false

first_met : (w : Text) (s : Shape) → IsSub w s → walked line.top.rules names (walk_from nothing_held) w ≡ stopped w []
unfolding walked
first_met w s h = rw h.met refl

sub_walk : (w : Text) (s : Shape) (rest : List Text) → IsSub w s → walk line.top.rules names nothing_held (w ∷ rest) ≡ stopped w rest
sub_walk w s rest h = ap (λ v. fold (walked line.top.rules names) v rest) (first_met w s h) ∙ stopped_walk line.top.rules names (walk_from nothing_held) w [] rest

first_turn : (w : Text) (s : Shape) → IsSub w s → turn_fault line.top names (walk_from nothing_held) w ≡ []
first_turn w s h = rw (h.met, h.other) refl

sub_met : (w : Text) (s : Shape) (rest : List Text) → IsSub w s → walk_fault line.top names (walk_from nothing_held) (w ∷ rest) ≡ []
sub_met w s rest h =
    walk_fault-cons line.top names (walk_from nothing_held) w rest ∙ ap (λ k. or_else k (walk_fault line.top names (walked line.top.rules names (walk_from nothing_held) w) rest)) (first_turn w s h) ∙ ap (λ v. walk_fault line.top names v rest) (first_met w s h) ∙ stopped_fault line.top names (walk_from nothing_held) (w, []) rest

-- the words fail where those behind the subcommand do
pub sub_fault : (w : Text) (s : Shape) (rest : List Text) → IsSub w s → fault_of nomad (w ∷ rest) ≡ or_else (level_fault s [] nothing_held rest false []) []
unfolding clap_on_literals
sub_fault w s rest h = fault_as (w ∷ rest) [] (stopped w rest) (sub_met w s rest h) (sub_walk w s rest h) ∙ rw h.found refl

pub sub_entered : (w : Text) (s : Shape) (rest : List Text) → IsSub w s → subcommand_of nomad (w ∷ rest) ≡ Some (w, rows_after s.rules [] rest)
sub_entered w s rest h = ap (λ (v : Walk). entered line v.stopped) (sub_walk w s rest h) ∙ rw (h.found, h.named) refl

-- a word that is none of them is refused
pub none_met : (w : Text) → bytes_eq (codes "sim") w ≡ false → bytes_eq (codes "gen") w ≡ false → bytes_eq (codes "drill") w ≡ false → bytes_eq (codes "import") w ≡ false
    → bytes_eq (codes "run") w ≡ false → bytes_eq (codes "journal") w ≡ false → bytes_eq (codes "check") w ≡ false → bytes_eq (codes "lab") w ≡ false → subcommand_met names idle w ≡ None
none_met w e f g h i j k l = rw (e, f, g, h, i, j, k, l) refl

pub stray_first : (w : Text) (rest : List Text) → IsField w → subcommand_met names idle w ≡ None → HasFault (fault_of nomad (w ∷ rest))
stray_first w rest f none =
    let turn : turn_fault line.top names (between nothing_held 1) w ≡ stray_fault line.top = value_fault line.top names nothing_held 1 w f none in
    let here : HasFault (turn_fault line.top names (between nothing_held 1) w) = subst HasFault (sym turn) (λ e. cc e) in
    let there : HasFault (walk_fault line.top names (walk_from nothing_held) (w ∷ rest)) = subst HasFault (sym (walk_fault-cons line.top names (walk_from nothing_held) w rest)) (some_first _ _ here) in
    some_first _ _ there

-- ---- a subcommand without fields

abbrev pub single_shape : Text → Shape
single_shape name = record (sub_at 0) { name = name }

pub single_sim : IsSub (codes "sim") (single_shape (codes "sim"))
single_sim = record { met = refl; found = refl; named = refl; other = refl }

pub single_run : IsSub (codes "run") (single_shape (codes "run"))
single_run = record { met = refl; found = refl; named = refl; other = refl }

pub single_journal : IsSub (codes "journal") (single_shape (codes "journal"))
single_journal = record { met = refl; found = refl; named = refl; other = refl }

pub single_check : IsSub (codes "check") (single_shape (codes "check"))
single_check = record { met = refl; found = refl; named = refl; other = refl }

pub no_fields : (name : Text) → level_fault (single_shape name) [] nothing_held [] false [] ≡ []
unfolding clap_on_literals
no_fields name = refl

pub single_more : (name w : Text) (rest : List Text) → IsField w → HasFault (level_fault (single_shape name) [] nothing_held (w ∷ rest) false [])
single_more name w rest f =
    let s = single_shape name in
    let after = to_positional s.rules (arg_by_index s.rules 1) w (between nothing_held 1) nothing_held in
    let here : HasFault (walk_fault s [] (walk_from nothing_held) (w ∷ rest)) = subst HasFault (sym (field_fault s nothing_held 1 w rest f)) (some_first (step_fault s 1 nothing_held value) (walk_fault s [] after rest) (λ e. cc e)) in
    some_first _ _ here

-- ---- a subcommand with two fields

pub data Pair : Type 0 where
  OfNumbers : Pair
  OfSizes : Pair

abbrev pub first_id : Pair → Text
first_id OfNumbers = codes "N"
first_id OfSizes = codes "F"

abbrev pub second_id : Pair → Text
second_id OfNumbers = codes "SIZE"
second_id OfSizes = codes "S"

abbrev pub pair_shape : Pair → Text → Shape
pair_shape OfNumbers name = record (sub_at 1) { name = name }
pair_shape OfSizes name = record (sub_at 3) { name = name }

abbrev pub rules_of : Pair → List Rule
rules_of OfNumbers = (sub_at 1).rules
rules_of OfSizes = (sub_at 3).rules

pub pair_gen : IsSub (codes "gen") (pair_shape OfNumbers (codes "gen"))
pair_gen = record { met = refl; found = refl; named = refl; other = refl }

pub pair_drill : IsSub (codes "drill") (pair_shape OfNumbers (codes "drill"))
pair_drill = record { met = refl; found = refl; named = refl; other = refl }

pub pair_import : IsSub (codes "import") (pair_shape OfSizes (codes "import"))
pair_import = record { met = refl; found = refl; named = refl; other = refl }

-- what is held after one field, and after two
abbrev held_one : Pair → Text → Held
held_one p a = (to_positional (rules_of p) (arg_by_index (rules_of p) 1) a (between nothing_held 1) nothing_held).held

abbrev held_two : Pair → Text → Text → Held
held_two p a b = (to_positional (rules_of p) (arg_by_index (rules_of p) 2) b (between (held_one p a) 2) (held_one p a)).held

one_walk : (p : Pair) (a : Text) → IsField a → walk (rules_of p) [] nothing_held (a ∷ []) ≡ between (held_one p a) 2
one_walk OfNumbers a f = value_walked (rules_of OfNumbers) [] nothing_held 1 a f refl
one_walk OfSizes a f = value_walked (rules_of OfSizes) [] nothing_held 1 a f refl

two_walk : (p : Pair) (a b : Text) → IsField a → IsField b → walk (rules_of p) [] nothing_held (a ∷ b ∷ []) ≡ between (held_two p a b) 3
two_walk OfNumbers a b f g = ap (λ v. walked (rules_of OfNumbers) [] v b) (one_walk OfNumbers a f) ∙ value_walked (rules_of OfNumbers) [] (held_one OfNumbers a) 2 b g refl
two_walk OfSizes a b f g = ap (λ v. walked (rules_of OfSizes) [] v b) (one_walk OfSizes a f) ∙ value_walked (rules_of OfSizes) [] (held_one OfSizes a) 2 b g refl

one_met : (p : Pair) (name a : Text) (rest : List Text) → IsField a → walk_fault (pair_shape p name) [] (walk_from nothing_held) (a ∷ rest) ≡ walk_fault (pair_shape p name) [] (between (held_one p a) 2) rest
one_met OfNumbers name a rest f = field_fault (pair_shape OfNumbers name) nothing_held 1 a rest f
one_met OfSizes name a rest f = field_fault (pair_shape OfSizes name) nothing_held 1 a rest f

two_met : (p : Pair) (name a b : Text) (rest : List Text) → IsField a → IsField b → walk_fault (pair_shape p name) [] (walk_from nothing_held) (a ∷ b ∷ rest) ≡ walk_fault (pair_shape p name) [] (between (held_two p a b) 3) rest
unfolding clap_on_literals
two_met OfNumbers name a b rest f g = one_met OfNumbers name a (b ∷ rest) f ∙ field_fault (pair_shape OfNumbers name) (held_one OfNumbers a) 2 b rest g
two_met OfSizes name a b rest f g = one_met OfSizes name a (b ∷ rest) f ∙ field_fault (pair_shape OfSizes name) (held_one OfSizes a) 2 b rest g

pub no_field : (p : Pair) (name : Text) → HasFault (level_fault (pair_shape p name) [] nothing_held [] false [])
unfolding clap_on_literals
no_field OfNumbers name e = cc e
no_field OfSizes name e = cc e

pub one_field : (p : Pair) (name a : Text) → IsField a → HasFault (level_fault (pair_shape p name) [] nothing_held (a ∷ []) false [])
unfolding clap_on_literals
one_field OfNumbers name a f = subst HasFault (sym (leaf_as (pair_shape OfNumbers name) (a ∷ []) [] (between (held_one OfNumbers a) 2) (one_met OfNumbers name a [] f) (one_walk OfNumbers a f))) (λ e. cc e)
one_field OfSizes name a f = subst HasFault (sym (leaf_as (pair_shape OfSizes name) (a ∷ []) [] (between (held_one OfSizes a) 2) (one_met OfSizes name a [] f) (one_walk OfSizes a f))) (λ e. cc e)

pub two_fields : (p : Pair) (name a b : Text) → IsField a → IsField b → level_fault (pair_shape p name) [] nothing_held (a ∷ b ∷ []) false [] ≡ []
unfolding clap_on_literals
two_fields OfNumbers name a b f g = leaf_as (pair_shape OfNumbers name) (a ∷ b ∷ []) [] (between (held_two OfNumbers a b) 3) (two_met OfNumbers name a b [] f g) (two_walk OfNumbers a b f g)
two_fields OfSizes name a b f g = leaf_as (pair_shape OfSizes name) (a ∷ b ∷ []) [] (between (held_two OfSizes a b) 3) (two_met OfSizes name a b [] f g) (two_walk OfSizes a b f g)

pair_stray : (p : Pair) (name : Text) (h : Held) → HasFault (step_fault (pair_shape p name) 3 h value)
pair_stray OfNumbers name h e = cc e
pair_stray OfSizes name h e = cc e

pub more_fields : (p : Pair) (name a b c : Text) (rest : List Text) → IsField a → IsField b → IsField c → HasFault (level_fault (pair_shape p name) [] nothing_held (a ∷ b ∷ c ∷ rest) false [])
more_fields p name a b c rest f g h =
    let held = held_two p a b in
    let s = pair_shape p name in
    let after = to_positional s.rules (arg_by_index s.rules 3) c (between held 3) held in
    let here : HasFault (walk_fault s [] (walk_from nothing_held) (a ∷ b ∷ c ∷ rest)) = subst HasFault (sym (two_met p name a b (c ∷ rest) f g ∙ field_fault s held 3 c rest h)) (some_first (step_fault s 3 held value) (walk_fault s [] after rest) (pair_stray p name held)) in
    some_first _ _ here

two_values : (p : Pair) (a b : Text) → HasValues (first_id p) (second_id p) (finished (rules_of p) (held_two p a b)) a b
unfolding clap_on_literals
two_values OfNumbers a b = (refl, refl)
two_values OfSizes a b = (refl, refl)

pub pair_rows : (p : Pair) (a b : Text) → IsField a → IsField b → HasValues (first_id p) (second_id p) (rows_after (rules_of p) [] (a ∷ b ∷ [])) a b
pair_rows p a b f g = subst (λ (w : Walk). HasValues (first_id p) (second_id p) (finished (rules_of p) w.held) a b) (sym (two_walk p a b f g)) (two_values p a b)

-- ---- the subcommand with one to eight words

abbrev pub lab_shape : Shape
lab_shape = sub_at 7

pub is_lab : IsSub (codes "lab") lab_shape
is_lab = record { met = refl; found = refl; named = refl; other = refl }

-- between two words, of which these were before
abbrev filling : List Text → Walk
filling ws = record { held = record { rows = []; pending = Some (codes "WORD", ws); skip = 0 }; waiting = positional; position = 1; is_trailing = false; stopped = None }

first_word : (w : Text) → IsField w → walked lab_shape.rules [] (walk_from nothing_held) w ≡ filling (w ∷ [])
first_word w f = value_walked lab_shape.rules [] nothing_held 1 w f refl

next_word : (ws : List Text) (w : Text) → IsField w → walked lab_shape.rules [] (filling ws) w ≡ filling (ws ++ w ∷ [])
unfolding walked
next_word ws w f = rw (f.dashes, f.long, f.short) refl

words_walk : (ws more : List Text) → AreFields more → fold (walked lab_shape.rules []) (filling ws) more ≡ filling (ws ++ more)
words_walk ws [] h = ap filling (sym (append-nil ws))
words_walk ws (w ∷ more) h =
    ap (λ v. fold (walked lab_shape.rules []) v more) (next_word ws w (is_field w h.0)) ∙ words_walk (ws ++ w ∷ []) more h.1 ∙ ap filling (append_assoc ws (w ∷ []) more)

several_walk : (w : Text) (more : List Text) → AreFields (w ∷ more) → walk lab_shape.rules [] nothing_held (w ∷ more) ≡ filling (w ∷ more)
several_walk w more h = ap (λ v. fold (walked lab_shape.rules []) v more) (first_word w (is_field w h.0)) ∙ words_walk (w ∷ []) more h.1

next_fault : (ws : List Text) (w : Text) → IsField w → turn_fault lab_shape [] (filling ws) w ≡ []
next_fault ws w f = rw (f.dashes, f.long, f.short) refl

words_met : (ws more : List Text) → AreFields more → walk_fault lab_shape [] (filling ws) more ≡ []
unfolding walk_fault
words_met ws [] h = refl
words_met ws (w ∷ more) h =
    ap (λ k. or_else k (walk_fault lab_shape [] (walked lab_shape.rules [] (filling ws) w) more)) (next_fault ws w (is_field w h.0)) ∙ ap (λ v. walk_fault lab_shape [] v more) (next_word ws w (is_field w h.0)) ∙ words_met (ws ++ w ∷ []) more h.1

several_met : (w : Text) (more : List Text) → AreFields (w ∷ more) → walk_fault lab_shape [] (walk_from nothing_held) (w ∷ more) ≡ []
several_met w more h =
    field_fault lab_shape nothing_held 1 w more (is_field w h.0) ∙ words_met (w ∷ []) more h.1

values_pass : (values : List Text) → values_kinds false parsers.String values ≡ []
values_pass [] = refl
values_pass (v ∷ vs) = values_pass vs

few_kinds : (n : ℕ) → 1 ≤ n → n ≤ 8 → range_kinds 1 8 n ≡ []
few_kinds n low high = rw (not_eq n 0 (λ e. absurd (omega (arith, e, low))), le-ltb n 1 low, le-ltb 8 n high) refl

many_kinds : (n : ℕ) → 8 < n → HasFault (range_kinds 1 8 n)
many_kinds n high e = let bad = rw (not_eq n 0 (λ z. absurd (omega (arith, z, high))), le-ltb n 1 (omega (arith, high)), lt-ltb 8 n high) at e in cc bad

or_else_assoc : (a b c : Kinds) → or_else (or_else a b) c ≡ or_else a (or_else b c)
or_else_assoc [] b c = refl
or_else_assoc (k ∷ ks) b c = refl

-- what the words of a lab fail by
several_level : (w : Text) (more : List Text) → AreFields (w ∷ more) → level_fault lab_shape [] nothing_held (w ∷ more) false [] ≡ or_else (range_kinds 1 8 (length (w ∷ more))) (or_else (values_kinds false parsers.String (w ∷ more)) [])
unfolding clap_on_literals
several_level w more h = leaf_as lab_shape (w ∷ more) [] (filling (w ∷ more)) (several_met w more h) (several_walk w more h) ∙ or_else_assoc (range_kinds 1 8 (length (w ∷ more))) (values_kinds false parsers.String (w ∷ more)) []

pub no_word : HasFault (level_fault lab_shape [] nothing_held [] false [])
unfolding clap_on_literals
no_word e = cc e

pub few_words : (w : Text) (more : List Text) → AreFields (w ∷ more) → length (w ∷ more) ≤ 8 → level_fault lab_shape [] nothing_held (w ∷ more) false [] ≡ []
few_words w more h few =
    let range = few_kinds (length (w ∷ more)) (omega arith) few in
    several_level w more h ∙ rw (range, values_pass (w ∷ more)) refl

pub many_words : (w : Text) (more : List Text) → AreFields (w ∷ more) → 8 < length (w ∷ more) → HasFault (level_fault lab_shape [] nothing_held (w ∷ more) false [])
many_words w more h many = subst HasFault (sym (several_level w more h)) (some_first _ _ (many_kinds (length (w ∷ more)) many))

word_values : (w : Text) (more : List Text) → all_of (codes "WORD") (finished lab_shape.rules (filling (w ∷ more)).held) ≡ Some (w ∷ more)
unfolding clap_on_literals
word_values w more = refl

pub lab_rows : (w : Text) (more : List Text) → AreFields (w ∷ more) → all_of (codes "WORD") (rows_after lab_shape.rules [] (w ∷ more)) ≡ Some (w ∷ more)
lab_rows w more h = ap (λ (v : Walk). all_of (codes "WORD") (finished lab_shape.rules v.held)) (several_walk w more h) ∙ word_values w more

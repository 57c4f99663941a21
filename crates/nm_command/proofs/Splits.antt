-- The words that clap takes are a command with its fields, and those of a command with its fields are taken.
use Rattle.std.proofs.Common.{◌≡◌, ◌≤◌, ◌==◌, ◌⊎◌, if◌then◌else◌, ℕ, Bool, true, false, List, [], ◌∷◌, Option, Some, None, map, codes, refl, sym, ap, subst, ◌∙◌, inl, inr, length, arith}
use Rattle.std.specs.Prelude.{All, String, string_bytes, option_map}
use Rattle.std.specs.Borrow.{Bor}
use Rattle.std.specs.List.{AllByRecursion}
use Rattle.std.specs.Str.{bytes_eq}
use Rattle.std.specs.declared.alloc.Global.{Global}
use Rattle.std.proofs.lemmas.List.Elements.{All-from_recursion, recursion_from_All}
use Rattle.std.proofs.lemmas.Bool.{cases_lt}
use Rattle.std.proofs.lemmas.List.{length-map}
use Rattle.std.proofs.lemmas.Option.{none-some}
use Rattle.std.proofs.lemmas.Slice.Eq.{bytes_eq-Decides}
use Rattle.clap.specs.Walk.{Row, Text, nothing_held, rows_after, texts}
use Rattle.clap.specs.Simple.{Shape, app_of, app_of_fields, new_app, on_top}
use Rattle.clap.specs.Matches.{first_value, found_of}
use Rattle.clap.specs.Faults.{fault_of, is_simple_and_free, level_fault}
use Rattle.clap.specs.Kinds.{IsAmong, Kinds, or_else}
use Rattle.clap.specs.Words.{all_of, first_of, is_simple, raw_values, matched_of, rows_of}
use Rattle.clap.specs.declared.builder.command.Command.{Command}
use Rattle.clap.specs.declared.builder.command.Command.TheViews.{out-Command}
use Rattle.clap.specs.declared.error.kind.ErrorKind.{ErrorKind}
use Rattle.clap.specs.declared.error.kind.ErrorKind.TheVariants.{OutOfMemory}
use Rattle.clap.specs.declared.parser.matches.ArgMatches.{ArgMatches}
use Rattle.clap.proofs.OnLiterals.{clap_on_literals}
use Rattle.clap.proofs.WalkLemmas.{first_value-rows, raw_values-rows}
use Rattle.nm_command.specs.declared.line.Fields.{Fields}
use Rattle.nm_command.specs.declared.line.Fields.TheVariants.{Sim, Gen, Drill, Import, Run, Journal, Check, Lab}
use Rattle.nm_command.specs.Line.{AreFields, AreWordsOf, HasFew, HasValues, IsRead, SaysFields, bare, is_refused, nomad, words_in}
use Rattle.nm_command.proofs.Levels.{is_field}
use Rattle.nm_command.proofs.Walks.{IsSub, OfNumbers, OfSizes, Pair, few_words, first_id, is_lab, lab_rows, lab_shape, many_words, more_fields, no_field, no_fields, no_word, none_met, one_field, pair_drill, pair_gen, pair_import, pair_rows, pair_shape, rules_of, second_id, single_check, single_journal, single_more, single_run, single_shape, single_sim, stray_first, sub_entered, sub_fault, two_fields}

pub is_simple_line : is_simple nomad ≡ true
unfolding clap_on_literals
is_simple_line = refl

pub is_free_line : is_simple_and_free nomad ≡ true
unfolding clap_on_literals
is_free_line = refl

-- ---- the words that were taken, by what was read of them

abbrev letter : Text → ℕ
letter [] = 0
letter (x ∷ xs) = x

abbrev head_of : List Text → Text
head_of [] = []
head_of (x ∷ xs) = x

abbrev rest_of : List Text → List Text
rest_of [] = []
rest_of (x ∷ xs) = xs

abbrev text_in : Option Text → Text
text_in None = []
text_in (Some x) = x

abbrev texts_in : Option (List Text) → List Text
texts_in None = []
texts_in (Some xs) = xs

abbrev two : Text → Text → List Row → List Text
two first second rows = text_in (first_of first rows) ∷ text_in (first_of second rows) ∷ []

-- the fields that the rows say, behind a name with this letter
abbrev fields_by : ℕ → List Row → List Text
fields_by c rows =
    if c == 103 then two (codes "N") (codes "SIZE") rows
    else if c == 100 then two (codes "N") (codes "SIZE") rows
    else if c == 105 then two (codes "F") (codes "S") rows
    else if c == 108 then texts_in (all_of (codes "WORD") rows)
    else []

abbrev told_by : Option (Text × List Row) → List Text
told_by None = []
told_by (Some p) = p.0 ∷ fields_by (letter p.0) p.1

-- what was read says the words
record IsTold (words : List Text) (met : Option (Text × List Row)) : Type 0 where
  told : told_by met ≡ words
  few : (letter (head_of words) == 108) ≡ true → (1 ≤ length (rest_of words)) × (length (rest_of words) ≤ 8)
  some : SaysFields met None → ⊥

no_true : false ≡ true → ⊥
no_true e = cc e

inside : (a : Kinds) → or_else a [] ≡ [] → a ≡ []
inside [] e = refl
inside (k ∷ ks) e = e

below : (w : Text) (s : Shape) (rest : List Text) → IsSub w s → fault_of nomad (w ∷ rest) ≡ [] → level_fault s [] nothing_held rest false [] ≡ []
below w s rest h e = inside _ (sym (sub_fault w s rest h) ∙ e)

-- ---- a command without fields

single_rest : (name : Text) (rest : List Text) → AreFields rest → level_fault (single_shape name) [] nothing_held rest false [] ≡ [] → rest ≡ []
single_rest name [] f e = refl
single_rest name (w ∷ rest) f e = absurd (single_more name w rest (is_field w f.0) e)

single_told : (name : Text) (rest : List Text) (met : Option (Text × List Row)) → IsSub name (single_shape name) → IsRead (name ∷ rest) met → (rest ≡ []) × (met ≡ Some (name, rows_after (single_shape name).rules [] rest))
single_told name rest met h r = (
  single_rest name rest r.fields.1 (below name (single_shape name) rest h r.accepted),
  r.entered ∙ sub_entered name (single_shape name) rest h,
)

named_sim : (rest : List Text) (met : Option (Text × List Row)) → IsRead (codes "sim" ∷ rest) met → IsTold (codes "sim" ∷ rest) met
named_sim rest met r =
    let e = single_told (codes "sim") rest met single_sim r in
    record { told = ap told_by e.1 ∙ ap (λ t. codes "sim" ∷ t) (sym e.0); few = λ same. absurd (no_true same); some = λ t. (t _).0 e.1 }

named_run : (rest : List Text) (met : Option (Text × List Row)) → IsRead (codes "run" ∷ rest) met → IsTold (codes "run" ∷ rest) met
named_run rest met r =
    let e = single_told (codes "run") rest met single_run r in
    record { told = ap told_by e.1 ∙ ap (λ t. codes "run" ∷ t) (sym e.0); few = λ same. absurd (no_true same); some = λ t. (t _).4 e.1 }

named_journal : (rest : List Text) (met : Option (Text × List Row)) → IsRead (codes "journal" ∷ rest) met → IsTold (codes "journal" ∷ rest) met
named_journal rest met r =
    let e = single_told (codes "journal") rest met single_journal r in
    record { told = ap told_by e.1 ∙ ap (λ t. codes "journal" ∷ t) (sym e.0); few = λ same. absurd (no_true same); some = λ t. (t _).5 e.1 }

named_check : (rest : List Text) (met : Option (Text × List Row)) → IsRead (codes "check" ∷ rest) met → IsTold (codes "check" ∷ rest) met
named_check rest met r =
    let e = single_told (codes "check") rest met single_check r in
    record { told = ap told_by e.1 ∙ ap (λ t. codes "check" ∷ t) (sym e.0); few = λ same. absurd (no_true same); some = λ t. (t _).6 e.1 }

-- ---- a command with two fields

record IsTwo (p : Pair) (rest : List Text) : Type 0 where
  first : Text
  second : Text
  are : rest ≡ first ∷ second ∷ []
  values : HasValues (first_id p) (second_id p) (rows_after (rules_of p) [] rest) first second

pair_rest : (p : Pair) (name : Text) (rest : List Text) → AreFields rest → level_fault (pair_shape p name) [] nothing_held rest false [] ≡ [] → IsTwo p rest
pair_rest p name [] f e = absurd (no_field p name e)
pair_rest p name (a ∷ []) f e = absurd (one_field p name a (is_field a f.0) e)
pair_rest p name (a ∷ b ∷ []) f e = record { first = a; second = b; are = refl; values = pair_rows p a b (is_field a f.0) (is_field b f.1.0) }
pair_rest p name (a ∷ b ∷ c ∷ rest) f e = absurd (more_fields p name a b c rest (is_field a f.0) (is_field b f.1.0) (is_field c f.1.1.0) e)

two_told : (first second : Text) (rows : List Row) (a b : Text) → HasValues first second rows a b → two first second rows ≡ a ∷ b ∷ []
two_told first second rows a b h = rw (h.0, h.1) refl

named_gen : (rest : List Text) (met : Option (Text × List Row)) → IsRead (codes "gen" ∷ rest) met → IsTold (codes "gen" ∷ rest) met
named_gen rest met r =
    let e = pair_rest OfNumbers (codes "gen") rest r.fields.1 (below (codes "gen") (pair_shape OfNumbers (codes "gen")) rest pair_gen r.accepted) in
    let entered : met ≡ Some (codes "gen", rows_after (rules_of OfNumbers) [] rest) = r.entered ∙ sub_entered (codes "gen") (pair_shape OfNumbers (codes "gen")) rest pair_gen in
    record {
      told = ap told_by entered ∙ ap (λ t. codes "gen" ∷ t) (two_told (codes "N") (codes "SIZE") (rows_after (rules_of OfNumbers) [] rest) e.first e.second e.values ∙ sym e.are);
      few = λ same. absurd (no_true same);
      some = λ t. (t _).1 entered e.first e.second e.values;
    }

named_drill : (rest : List Text) (met : Option (Text × List Row)) → IsRead (codes "drill" ∷ rest) met → IsTold (codes "drill" ∷ rest) met
named_drill rest met r =
    let e = pair_rest OfNumbers (codes "drill") rest r.fields.1 (below (codes "drill") (pair_shape OfNumbers (codes "drill")) rest pair_drill r.accepted) in
    let entered : met ≡ Some (codes "drill", rows_after (rules_of OfNumbers) [] rest) = r.entered ∙ sub_entered (codes "drill") (pair_shape OfNumbers (codes "drill")) rest pair_drill in
    record {
      told = ap told_by entered ∙ ap (λ t. codes "drill" ∷ t) (two_told (codes "N") (codes "SIZE") (rows_after (rules_of OfNumbers) [] rest) e.first e.second e.values ∙ sym e.are);
      few = λ same. absurd (no_true same);
      some = λ t. (t _).2 entered e.first e.second e.values;
    }

named_import : (rest : List Text) (met : Option (Text × List Row)) → IsRead (codes "import" ∷ rest) met → IsTold (codes "import" ∷ rest) met
named_import rest met r =
    let e = pair_rest OfSizes (codes "import") rest r.fields.1 (below (codes "import") (pair_shape OfSizes (codes "import")) rest pair_import r.accepted) in
    let entered : met ≡ Some (codes "import", rows_after (rules_of OfSizes) [] rest) = r.entered ∙ sub_entered (codes "import") (pair_shape OfSizes (codes "import")) rest pair_import in
    record {
      told = ap told_by entered ∙ ap (λ t. codes "import" ∷ t) (two_told (codes "F") (codes "S") (rows_after (rules_of OfSizes) [] rest) e.first e.second e.values ∙ sym e.are);
      few = λ same. absurd (no_true same);
      some = λ t. (t _).3 entered e.first e.second e.values;
    }

-- ---- the command with one to eight words

record IsSeveral (rest : List Text) : Type 0 where
  least : 1 ≤ length rest
  most : length rest ≤ 8
  values : all_of (codes "WORD") (rows_after lab_shape.rules [] rest) ≡ Some rest

lab_rest : (rest : List Text) → AreFields rest → level_fault lab_shape [] nothing_held rest false [] ≡ [] → IsSeveral rest
lab_rest [] f e = absurd (no_word e)
lab_rest (w ∷ more) f e = record {
  least = omega arith;
  most = elim (cases_lt 8 (length (w ∷ more))) [ inl many ↦ absurd (many_words w more f many e) | inr few ↦ few ];
  values = lab_rows w more f;
}

named_lab : (rest : List Text) (met : Option (Text × List Row)) → IsRead (codes "lab" ∷ rest) met → IsTold (codes "lab" ∷ rest) met
named_lab rest met r =
    let e = lab_rest rest r.fields.1 (below (codes "lab") lab_shape rest is_lab r.accepted) in
    let entered : met ≡ Some (codes "lab", rows_after lab_shape.rules [] rest) = r.entered ∙ sub_entered (codes "lab") lab_shape rest is_lab in
    record {
      told = ap told_by entered ∙ ap (λ o. codes "lab" ∷ texts_in o) e.values;
      few = λ same. (e.least, e.most);
      some = λ t. absurd (none-some _ (sym ((t _).7 entered) ∙ e.values));
    }

-- ---- by the first word

named : (name w : Text) (rest : List Text) (met : Option (Text × List Row)) → bytes_eq name w ≡ true → (IsRead (name ∷ rest) met → IsTold (name ∷ rest) met) → IsRead (w ∷ rest) met → IsTold (w ∷ rest) met
named name w rest met same h r =
    let is : name ≡ w = (bytes_eq-Decides name w).0 same in
    subst (λ (v : Text). IsRead (v ∷ rest) met → IsTold (v ∷ rest) met) is h r

by_word : (w : Text) (rest : List Text) (met : Option (Text × List Row)) (s g d i r j c l : Bool)
    → bytes_eq (codes "sim") w ≡ s → bytes_eq (codes "gen") w ≡ g → bytes_eq (codes "drill") w ≡ d → bytes_eq (codes "import") w ≡ i
    → bytes_eq (codes "run") w ≡ r → bytes_eq (codes "journal") w ≡ j → bytes_eq (codes "check") w ≡ c → bytes_eq (codes "lab") w ≡ l
    → IsRead (w ∷ rest) met → IsTold (w ∷ rest) met
by_word w rest met true g d i r j c l e1 e2 e3 e4 e5 e6 e7 e8 h = named (codes "sim") w rest met e1 (named_sim rest met) h
by_word w rest met false true d i r j c l e1 e2 e3 e4 e5 e6 e7 e8 h = named (codes "gen") w rest met e2 (named_gen rest met) h
by_word w rest met false false true i r j c l e1 e2 e3 e4 e5 e6 e7 e8 h = named (codes "drill") w rest met e3 (named_drill rest met) h
by_word w rest met false false false true r j c l e1 e2 e3 e4 e5 e6 e7 e8 h = named (codes "import") w rest met e4 (named_import rest met) h
by_word w rest met false false false false true j c l e1 e2 e3 e4 e5 e6 e7 e8 h = named (codes "run") w rest met e5 (named_run rest met) h
by_word w rest met false false false false false true c l e1 e2 e3 e4 e5 e6 e7 e8 h = named (codes "journal") w rest met e6 (named_journal rest met) h
by_word w rest met false false false false false false true l e1 e2 e3 e4 e5 e6 e7 e8 h = named (codes "check") w rest met e7 (named_check rest met) h
by_word w rest met false false false false false false false true e1 e2 e3 e4 e5 e6 e7 e8 h = named (codes "lab") w rest met e8 (named_lab rest met) h
by_word w rest met false false false false false false false false e1 e2 e3 e4 e5 e6 e7 e8 h =
    absurd (stray_first w rest (is_field w h.fields.0) (none_met w e1 e2 e3 e4 e5 e6 e7 e8) h.accepted)

told : (words : List Text) (met : Option (Text × List Row)) → IsRead words met → IsTold words met
told [] met h = absurd (h.some refl)
told (w ∷ rest) met h = by_word w rest met _ _ _ _ _ _ _ _ refl refl refl refl refl refl refl refl h

-- ---- the fields that were read

told_fields : (met : Option (Text × List Row)) (f : Fields) → SaysFields met (Some f) → told_by met ≡ words_in f
told_fields met Sim t = ap told_by t.1
told_fields met (Gen n z) t = ap told_by t.1 ∙ ap (λ x. codes "gen" ∷ x) (two_told (codes "N") (codes "SIZE") t.0 n.now z.now t.2)
told_fields met (Drill n z) t = ap told_by t.1 ∙ ap (λ x. codes "drill" ∷ x) (two_told (codes "N") (codes "SIZE") t.0 n.now z.now t.2)
told_fields met (Import n z) t = ap told_by t.1 ∙ ap (λ x. codes "import" ∷ x) (two_told (codes "F") (codes "S") t.0 n.now z.now t.2)
told_fields met Run t = ap told_by t.1
told_fields met Journal t = ap told_by t.1
told_fields met Check t = ap told_by t.1
told_fields met (Lab rs) t = ap told_by t.1 ∙ ap (λ o. codes "lab" ∷ texts_in o) t.2

has_few : (words : List Text) (f : Fields) → words ≡ words_in f → ((letter (head_of words) == 108) ≡ true → (1 ≤ length (rest_of words)) × (length (rest_of words) ≤ 8)) → HasFew f
has_few words Sim e h = tt
has_few words (Gen n z) e h = tt
has_few words (Drill n z) e h = tt
has_few words (Import n z) e h = tt
has_few words Run e h = tt
has_few words Journal e h = tt
has_few words Check e h = tt
has_few words (Lab rs) e h =
    let size : length (rest_of words) ≡ length rs.now = ap (λ t. length (rest_of t)) e ∙ length-map rs.now (λ (s : Bor Text). s.now) in
    let few = h (ap (λ t. letter (head_of t) == 108) e) in
    (omega (arith, few.0, size), omega (arith, few.1, size))

pub fields_read : (words : List Text) (met : Option (Text × List Row)) (r : Option Fields) (f : Fields) → r ≡ Some f → SaysFields met r → IsRead words met → AreWordsOf words f
fields_read words met r f is t h =
    let was = told words met h in
    let are : words ≡ words_in f = sym was.told ∙ told_fields met f (subst (SaysFields met) is t) in
    (are, has_few words f are was.few)

pub some_fields : (words : List Text) (met : Option (Text × List Row)) (r : Option Fields) → r ≡ None → SaysFields met r → IsRead words met → ⊥
some_fields words met r is t h = (told words met h).some (subst (SaysFields met) is t)

-- ---- words of a command with its fields are taken

pub taken_single : (name : Text) → IsSub name (single_shape name) → fault_of nomad (name ∷ []) ≡ []
taken_single name h = sub_fault name (single_shape name) [] h ∙ ap (λ k. or_else k []) (no_fields name)

pub taken_pair : (p : Pair) (name a b : Text) → IsSub name (pair_shape p name) → AreFields (a ∷ b ∷ []) → fault_of nomad (name ∷ a ∷ b ∷ []) ≡ []
taken_pair p name a b h f =
    sub_fault name (pair_shape p name) (a ∷ b ∷ []) h ∙ ap (λ k. or_else k []) (two_fields p name a b (is_field a f.0) (is_field b f.1.0))

pub taken_lab : (words : List Text) → AreFields words → 1 ≤ length words → length words ≤ 8 → fault_of nomad (codes "lab" ∷ words) ≡ []
taken_lab [] f least most = absurd (omega (arith, least))
taken_lab (w ∷ more) f least most = sub_fault (codes "lab") lab_shape (w ∷ more) is_lab ∙ ap (λ k. or_else k []) (few_words w more f most)

-- ---- for the calls of clap

-- the settings of the command line
pub bare_line : (a b c d : Command) → app_of a ≡ new_app (codes "nomad") → out-Command b ≡ record (out-Command a) { no_binary_name = true } → out-Command c ≡ record (out-Command b) { disable_help_flag = true } → out-Command d ≡ record (out-Command c) { disable_help_subcommand = true } → app_of d ≡ bare
bare_line a b c d e f g h =
    let second : app_of b ≡ on_top (λ s. record s { no_binary_name = true }) (app_of a) = ap app_of_fields f in
    let third : app_of c ≡ on_top (λ s. record s { disable_help_flag = true }) (app_of b) = ap app_of_fields g in
    let fourth : app_of d ≡ on_top (λ s. record s { disable_help_subcommand = true }) (app_of c) = ap app_of_fields h in
    fourth ∙ ap (on_top (λ s. record s { disable_help_subcommand = true })) (third ∙ ap (on_top (λ s. record s { disable_help_flag = true })) (second ∙ ap (on_top (λ s. record s { no_binary_name = true })) e))

-- the fields of words that are no options, as they stand and as texts
pub fields_texts : (ws : List (String Global)) → All (λ w. is_refused (string_bytes w) ≡ false) ws → AreFields (map string_bytes ws)
fields_texts ws h = go ws (recursion_from_All _ ws h)
  where
    go : (xs : List (String Global)) → AllByRecursion (λ w. is_refused (string_bytes w) ≡ false) xs → AreFields (map string_bytes xs)
    go [] k = tt
    go (x ∷ xs) k = (k.0, go xs k.1)

pub texts_fields : (ws : List (String Global)) → AreFields (map string_bytes ws) → All (λ w. is_refused (string_bytes w) ≡ false) ws
texts_fields ws h = All-from_recursion _ ws (go ws h)
  where
    go : (xs : List (String Global)) → AreFields (map string_bytes xs) → AllByRecursion (λ w. is_refused (string_bytes w) ≡ false) xs
    go [] k = tt
    go (x ∷ xs) k = (k.0, go xs k.1)

-- an error has a kind
pub no_kind : {kinds : Kinds} (k : ErrorKind) → (k ≡ OutOfMemory → ⊥) → (k ≡ OutOfMemory) ⊎ IsAmong k kinds → kinds ≡ [] → ⊥
no_kind k not (inl h) e = not h
no_kind k not (inr h) e = subst (IsAmong k) e h

-- the words are some, or none
pub words_some : (ws : List (String Global)) → (length ws ≡ 0 → ⊥) → map string_bytes ws ≡ [] → ⊥
words_some [] h e = h refl
words_some (w ∷ ws) h e = absurd (cc e)

pub words_none : (ws : List (String Global)) → length ws ≡ 0 → map string_bytes ws ≡ []
words_none [] e = refl
words_none (w ∷ ws) e = absurd (omega (arith, e))

-- what is read of the matches of a subcommand
pub none_read : (m : ArgMatches) (id : Text) (o : Option (Bor Text)) → option_map (λ s. s.now) o ≡ first_value (found_of m) id → o ≡ None → (a : Text) → first_of id (rows_of (found_of m)) ≡ Some a → ⊥
none_read m id o e none a h =
    let bad : None ≡ Some a = ap (option_map (λ s. s.now)) (sym none) ∙ e ∙ first_value-rows (found_of m) id ∙ h in absurd (none-some _ bad)

pub some_read : (m : ArgMatches) (id : Text) (o : Option (Bor Text)) (s : Bor Text) → option_map (λ s. s.now) o ≡ first_value (found_of m) id → o ≡ Some s → first_of id (rows_of (found_of m)) ≡ Some s.now
some_read m id o s e some = sym (ap (option_map (λ s. s.now)) (sym some) ∙ e ∙ first_value-rows (found_of m) id)

pub several_read : (m : ArgMatches) (id : Text) (o : Option (Bor (List (Bor Text)))) → option_map (λ s. map (λ v. v.now) s.now) o ≡ option_map raw_values (matched_of (found_of m) id) → option_map (λ s. texts s.now) o ≡ all_of id (rows_of (found_of m))
several_read m id o e = e ∙ raw_values-rows (found_of m) id

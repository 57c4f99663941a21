-- The words are those of the command with its fields that was read.
use Rattle.std.proofs.Common.{◌≡◌, Option, Some, ap, subst, sym, ◌∙◌}
use Rattle.std.proofs.lemmas.Result.{IfOk-weaker}
use Rattle.nm_command.specs.declared.form.Form.TheVariants as forms
use Rattle.nm_command.specs.declared.line.Fields.{Fields}
use Rattle.nm_command.specs.declared.line.Fields.TheVariants as fields
use Rattle.nm_command.specs.Words.{IsAnswer}
use Rattle.nm_command.proofs.Forms.{only_form, read_answer}
use Rattle.nm_command.proofs.Splits.{fields_read, some_fields}
use Rattle.nm_command.proofs.form.form_in.Goals as goal

some_is : (r : Option Fields) (f g : Fields) → r ≡ Some f → f ≡ g → r ≡ Some g
some_is r f g e h = e ∙ ap (λ (x : Fields). Some x) h

pub returns-in-None : goal.returns-in-None
returns-in-None c = λ words read. absurd (some_fields words _ c.fields_in.result c.in-None.is c.fields_in.ensures read)

pub returns-in-Some-Sim : goal.returns-in-Some-Sim
returns-in-Some-Sim c =
    read_answer _ c.fields_in.result fields.Sim _ (some_is _ _ _ c.in-Some-Sim.is c.in-Some-Sim.field-0-is) c.fields_in.ensures (only_form forms.Sim tt)

pub returns-in-Some-Run : goal.returns-in-Some-Run
returns-in-Some-Run c =
    read_answer _ c.fields_in.result fields.Run _ (some_is _ _ _ c.in-Some-Run.is c.in-Some-Run.field-0-is) c.fields_in.ensures (only_form forms.Run tt)

pub returns-in-Some-Journal : goal.returns-in-Some-Journal
returns-in-Some-Journal c =
    read_answer _ c.fields_in.result fields.Journal _ (some_is _ _ _ c.in-Some-Journal.is c.in-Some-Journal.field-0-is) c.fields_in.ensures (only_form forms.Journal tt)

pub returns-in-Some-Check : goal.returns-in-Some-Check
returns-in-Some-Check c =
    read_answer _ c.fields_in.result fields.Check _ (some_is _ _ _ c.in-Some-Check.is c.in-Some-Check.field-0-is) c.fields_in.ensures (only_form forms.Check tt)

pub returns-in-Some-Gen : goal.returns-in-Some-Gen
returns-in-Some-Gen c =
    read_answer _ c.fields_in.result (fields.Gen c.in-Some-Gen.number c.in-Some-Gen.size) c.gen_form.result (some_is _ _ _ c.in-Some-Gen.is c.in-Some-Gen.field-0-is) c.fields_in.ensures c.gen_form.ensures

pub returns-in-Some-Drill : goal.returns-in-Some-Drill
returns-in-Some-Drill c =
    read_answer _ c.fields_in.result (fields.Drill c.in-Some-Drill.number c.in-Some-Drill.size) c.drill_form.result (some_is _ _ _ c.in-Some-Drill.is c.in-Some-Drill.field-0-is) c.fields_in.ensures c.drill_form.ensures

pub returns-in-Some-Import : goal.returns-in-Some-Import
returns-in-Some-Import c =
    read_answer _ c.fields_in.result (fields.Import c.in-Some-Import.fast c.in-Some-Import.slow) c.import_form.result (some_is _ _ _ c.in-Some-Import.is c.in-Some-Import.field-0-is) c.fields_in.ensures c.import_form.ensures

pub returns-in-Some-Lab : goal.returns-in-Some-Lab
returns-in-Some-Lab c =
    IfOk-weaker c.lab_form.result _ _ (λ o h words read.
    let are = fields_read words _ c.fields_in.result (fields.Lab c.in-Some-Lab.retries) (some_is _ _ _ c.in-Some-Lab.is c.in-Some-Lab.field-0-is) c.fields_in.ensures read in
    subst (IsAnswer o) (sym are.0) (h are.1.0 are.1.1)) c.lab_form.ensures

-- The form that a value of the program stands for.
use Rattle.page_command.specs.declared.form.Form as program
use Rattle.page_command.specs.declared.form.Form.TheVariants as variants
use Rattle.page_command.specs.Run.{Form, shown, labelled, beside, dated, none}

abbrev pub asked : program.Form → Form
asked (variants.Shown word rules demand proof) = shown word rules.now demand.now proof.now
asked (variants.Labelled word rules demand proof labels) =
    labelled word rules.now demand.now proof.now labels.now
asked (variants.Beside rules demand proof labels old) =
    beside rules.now demand.now proof.now labels.now old.now
asked (variants.Dated day rules demand proof labels) = dated day rules.now demand.now proof.now labels.now
asked variants.None = none

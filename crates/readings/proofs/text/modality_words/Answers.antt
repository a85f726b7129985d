use Rattle.std.proofs.Common.{arith}
use Rattle.std.proofs.lemmas.Bool.Decides.{nat_tests}
use Rattle.kinds.specs.declared.kind.Kind.TheVariants.{Says, Controls, Ratified, Permitted}
use Rattle.readings.proofs.text.modality_words.Goals as goal

pub returns-in_default : goal.returns-in_default
returns-in_default c =
    let none = c.in_default.ensures in
    grind (arith, nat_tests, none Says, none Controls, none Ratified, none Permitted)

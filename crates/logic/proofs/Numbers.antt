-- Modalities and their numbers name each other. Assumes nothing.
use Rattle.std.proofs.Common.{arith}
use Rattle.std.proofs.lemmas.Bool.Decides.{nat_tests}
use Rattle.logic.specs.Truth.{NumbersName}

-- by the four modalities
pub numbers_name : NumbersName
numbers_name = record { named = λ k. grind arith; only = λ n k e. grind (arith, nat_tests) }

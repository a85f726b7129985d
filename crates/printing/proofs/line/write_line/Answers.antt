use Rattle.printing.proofs.Reading.{decimals_are_right}
use Rattle.printing.proofs.line.write_line.Goals as goal

pub returns-then-is_none-clause-numbers : goal.returns-then-is_none-clause-numbers
returns-then-is_none-clause-numbers c = decimals_are_right

pub returns-clause-numbers : goal.returns-clause-numbers
returns-clause-numbers c = decimals_are_right

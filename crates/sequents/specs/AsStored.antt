-- What it means that facts are as they are stored, and none of them is blank. Assumes nothing.
use Rattle.std.specs.Prelude.{Bool, false, ◌&&◌, List, ◌==◌}
use Rattle.std.specs.List.{list_all}
use Rattle.logic.specs.declared.fact.Fact.{Fact}
use Rattle.logic.specs.declared.fact.FactSort.{FactSort}
use Rattle.logic.specs.declared.fact.FactSort.TheVariants.{Blank, Left, Right, Order, Arrow}

-- a fact of this sort says something, and the numbers that it does not use are 0
abbrev pub stored_as : FactSort → Fact → Bool
stored_as Blank f = false
stored_as Left f = f.principal.0 == 0 && f.y.0 == 0
stored_as Right f = f.principal.0 == 0 && f.y.0 == 0
stored_as Order f = f.principal.0 == 0 && f.formula.0 == 0
stored_as (Arrow k) f = f.formula.0 == 0

-- every fact is as it is stored, and so none is blank
abbrev pub all_stored : List Fact → Bool
all_stored fs = list_all (λ f. stored_as f.sort f) fs

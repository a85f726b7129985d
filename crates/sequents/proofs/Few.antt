-- How many facts a list may have. Assumes nothing.
use Rattle.std.proofs.Common.{◌≡◌, ◌≤◌, List, map, length, ap, arith}
use lib.ListN.{length-map}
use Rattle.std.proofs.lemmas.List.{length-take}
use Rattle.lists.specs.Listed.{listed}
use Rattle.logic.specs.declared.fact.Fact.{Fact}
use Rattle.logic.specs.Stored.{stored}
use Rattle.sequents.specs.declared.list.FactList.{FactList}
use Rattle.sequents.specs.Sequents.{facts_of}
use Rattle.sequents.proofs.Views.{views_length}

-- there are at most 16
pub facts_few : (l : FactList) → length (facts_of l) ≤ 16
facts_few l = omega (arith, views_length (listed l.facts) l.proper, length-take l.facts.len l.facts.places, l.facts.room)

-- so as many are handed out at most
pub handed_few : (l : FactList) (fs : List Fact) → fs ≡ map stored (facts_of l) → length fs ≤ 16
handed_few l fs e = omega (arith, ap length e, length-map (facts_of l) stored, facts_few l)

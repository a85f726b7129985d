use Rattle.std.proofs.Common.{rules, not, is_some, sym, refl, ◌∙◌, arith}
use Rattle.std.proofs.lemmas.Iterator.{YieldsList-from_range, YieldsList-from_map}
use Rattle.std.proofs.lemmas.Iterator.Adapters.{option_map_id}
use Rattle.std.proofs.lemmas.Iterator.Consumers.{YieldsList-at}
use Rattle.std.proofs.lemmas.Iterator.Search.{find_from_yields_List}
use borrow.Author.Tests.{tests}
use Rattle.rows.specs.PlacesOf.{place_at}
use Rattle.sketches.specs.Readings.{label}
use Rattle.sketches.proofs.Placings.{searched}
use Rattle.sketches.proofs.read.first_unplaced.Goals as goal

pub returns : goal.returns
returns c =
    let place = place_at c.args.places.now in
    sym (option_map_id c.find.result)
    ∙ find_from_yields_List (λ x. not (is_some (place x))) _ _ _ c.find.ensures.ran
    (YieldsList-from_map _ label (YieldsList-at c.map.ensures.source (YieldsList-from_range 0 c.args.labels.0 c.args.labels.0 refl (omega arith))) c.map.ensures.closure (λ x r q k. search rules))
    (λ x b q k. search (rules, tests))
    ∙ searched place c.args.labels.0

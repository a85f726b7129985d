use Rattle.std.proofs.Common.{ℕ, ◌<◌, Bool, rules, arith}
use Rattle.logic.specs.declared.terms.Modality.TheVariants.{Says}
use Rattle.logic.specs.Models.{every}
use Rattle.logic.proofs.Bools.{T_every}
use Rattle.rows.specs.RowsOf.{frame_of}
use Rattle.packs.proofs.Meanings.{by_test}
use Rattle.stranger.proofs.believed.says_what_is.Goals as goal

pub returns-else-who-principals : goal.returns-else-who-principals
returns-else-who-principals c =
    let below : c.args.who.0 < c.args.principals = omega arith in
    let n : ℕ = (frame_of c.args.rows.now).worlds in
    let here : ℕ → Bool = λ x. (frame_of c.args.rows.now).arrow Says c.args.who.0 x x in
    by_test _ (every n here) (search rules) (λ t _. (T_every n here).0 t, λ f. (T_every n here).1 (f below))

use Rattle.std.proofs.Common.{rules, Bool, T, sym, refl, subst}
use Rattle.std.proofs.lemmas.Bool.Decides.{Decides-like}
use Rattle.rows.specs.RowsOf.{frame_of}
use Rattle.rows.proofs.Ranges.{decides_from_all}
use Rattle.judging.specs.Tests.{PrincipalKeeps}
use Rattle.judging.proofs.Everys.{tells_at, decides_of, regular_of, principals_of}
use Rattle.judging.proofs.rules.keeps_rules.Goals as goal

pub returns-then-order : goal.returns-then-order
returns-then-order c =
    let F = frame_of c.args.rows.now in
    let P = c.args.principals in
    let order = c.is_order-order.ensures.0 (subst (λ (b : Bool). T b) (sym c.if-order.true) tt) in
    tells_at c.all.result c.all.result refl
    (Decides-like c.all.result (regular_of F P c.args.rows.now.inhabited order) (principals_of F P)
    (decides_from_all P (PrincipalKeeps F) refl _ _ _ c.all.ensures.ran (λ x b q k. search (rules, decides_of))))

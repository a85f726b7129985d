use Rattle.std.proofs.Common.{◌≡◌, ℕ, Bool, ◌&&◌, sym, ◌∙◌, subst, arith}
use Rattle.logic.specs.Models.{any}
use Rattle.logic.specs.declared.terms.Modality.TheVariants.{Controls}
use Rattle.rows.specs.Masks.{bit, Mask}
use Rattle.rows.specs.RowsOf.{frame_of}
use Rattle.packs.proofs.Worlds.{mask_empty, mask_if, mask_unless, mask_next, mask_parts}
use Rattle.packs.proofs.del_c.handed_from.Goals.{then-has, else-has}
use Rattle.packs.proofs.del_c.handed_from.Goals as goal

pub loop-z-init : goal.loop-z-init
loop-z-init c = mask_empty _

pub loop-z-preserved : goal.loop-z-preserved
loop-z-preserved c =
    let ends : ℕ → ℕ → Bool = λ z y. (frame_of c.args.rows.now).arrow Controls c.args.b.0 z y in
    let before : ℕ → Bool = λ y. any c.loop-z.z (λ z. bit c.ends-says.result.0 z && ends z y) in
    mask_next (frame_of c.args.rows.now).worlds _ c.loop-z.z (λ z y. bit c.ends-says.result.0 z && ends z y)
    elim c.if-has.branch [
      | then-has w ↦ mask_if _ _ _ _ (ends c.loop-z.z) before w.handed-is (sym c.has.ensures ∙ w.if-has.true) (w.either-handed.ensures _ _ _ w.ends.ensures c.loop-z.invariant)
      | else-has w ↦ mask_unless _ _ _ _ (ends c.loop-z.z) before w.handed-is (sym c.has.ensures ∙ w.if-has.false) c.loop-z.invariant
    ]

pub returns : goal.returns
returns c =
    let e : c.loop-z.z ≡ (frame_of c.args.rows.now).worlds = omega arith in
    let part : ℕ → ℕ → Bool = λ z y. (frame_of c.args.rows.now).arrow Controls c.args.b.0 z y in
    mask_parts _ _ c.ends-says.result.0 _ part c.ends-says.ensures
    (subst (λ (t : ℕ). Mask (frame_of c.args.rows.now).worlds c.loop-z.handed.0 (λ y. any t (λ z. bit c.ends-says.result.0 z && part z y))) e c.loop-z.invariant)

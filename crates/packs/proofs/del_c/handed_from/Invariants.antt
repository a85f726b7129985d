use Rattle.std.proofs.Common.{◌&&◌}
use Rattle.logic.specs.Models.{any}
use Rattle.logic.specs.declared.terms.Modality.TheVariants.{Controls}
use Rattle.rows.specs.Masks.{bit, Mask}
use Rattle.rows.specs.RowsOf.{frame_of}
use Rattle.packs.proofs.del_c.handed_from.Given as goal

abbrev pub invariant-loop-z : goal.invariant-loop-z
invariant-loop-z l =
    Mask (frame_of l.rows).worlds l.handed.0 (λ y. any l.z (λ z. bit l.says.0 z && (frame_of l.rows).arrow Controls l.b.0 z y))

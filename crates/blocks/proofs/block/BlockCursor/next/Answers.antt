use Rattle.std.proofs.Common.{sym, refl, ap, ◌∙◌, subst}
use Rattle.std.proofs.lemmas.Bool.{cond-true}
use Rattle.records.specs.Chains.{record_of, Taken}
use Rattle.blocks.specs.Blocks.{sized_block}
use Rattle.blocks.proofs.block.BlockCursor.next.Goals as goal

pub returns : goal.returns
returns c = (
  record_of c.in_ok-raw.raw,
  subst (Taken c.args.self.now.rest.now) c.in_ok-raw.ensures.ok_part c.split_record.ensures.front,
  ap (λ k. sized_block k c.in_ok-raw.raw.body.now) c.in-Ok.ensures ∙ cond-true _ _ _ (sym c.if-not-takes.ensures),
  refl,
)

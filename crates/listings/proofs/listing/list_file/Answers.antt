use Rattle.std.proofs.Common.{length, ap, arith}
use Rattle.listings.proofs.Walk.{ends_within, few_records, sofar_more, listed}
use Rattle.listings.proofs.listing.list_file.Goals as goal

pub end-taken-requires : goal.end-taken-requires
end-taken-requires c = omega (arith, ends_within _ c.loop-raw.invariant c.loop-raw-test.true c.of-row.ensures)

pub add-requires : goal.add-requires
add-requires c = few_records c.loop-raw.invariant c.loop-raw-test.true

pub loop-raw-preserved : goal.loop-raw-preserved
loop-raw-preserved c =
    sofar_more _ c.loop-raw.invariant c.loop-raw-test.true c.of-row.ensures c.records.ensures c.counted_as.ensures c.add.ensures c.end-taken.ensures c.in_ok-push.ensures.items

pub returns : goal.returns
returns c = listed c.loop-raw.invariant (omega arith) (omega arith) (ap length c.bytes.ensures.value) c.in_ok-chain.ensures.ending_is

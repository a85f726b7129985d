-- What a walk over all the records of a file answers. Assumes nothing.
use Rattle.std.specs.Prelude.{◌≡◌, ℕ, List, map, length, vec_items}
use Rattle.chains.specs.declared.chain.Chain.{Chain}
use Rattle.records.specs.Chains.{record_of, chain, ending, OneChain}

-- the records of the file's chain, and how it ends; and the bytes are that chain and no other
pub record Walked (bs : List ℕ) (c : Chain) : Type 0 where
  pub records : map record_of (vec_items c.records) ≡ (chain bs).records
  pub ending_is : c.ending ≡ ending (length (chain bs).records) (chain bs).rest
  pub law : OneChain bs

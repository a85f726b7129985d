-- The listing of a file. Assumes nothing.
use Rattle.std.specs.Prelude.{◌≡◌, ℕ, ◌+◌, ◌<◌, ◌≤◌, List, map, length, Ok, Err, Result, vec_items}
use Rattle.records.specs.declared.refusal.Refusal.{Refusal}
use Rattle.records.specs.declared.refusal.Refusal.TheVariants.{FileTooLong}
use Rattle.records.specs.Chains.{chain, ending}
use Rattle.kinds.specs.declared.kind.Sort.{Sort}
use Rattle.listings.specs.declared.row.Row.{Row}
use Rattle.listings.specs.declared.listing.Listing.{Listing}
use Rattle.readings.specs.Readings.{counted_as}
use Rattle.listings.specs.Rows.{Rows}
use Rattle.listings.specs.Tallies.{counts_of, counted, nothing}

-- what each row is counted as
abbrev pub sorts : List Row → List Sort
sorts rows = map (λ row. counted_as row.reading) rows

-- a row for each record of the file's chain, each counted once, and how the chain ends
pub record Listed (bs : List ℕ) (l : Listing) : Type 0 where
  pub rows_are : Rows (chain bs).records 0 0 (vec_items l.rows)
  pub tally_is : counts_of l.tally ≡ counted nothing (sorts (vec_items l.rows))
  pub records_are : l.tally.records ≡ length (chain bs).records
  pub bytes_are : l.bytes ≡ length bs
  pub taken_are : l.taken + length (chain bs).rest ≡ length bs
  pub ending_is : l.ending ≡ ending (length (chain bs).records) (chain bs).rest

-- some bytes: listed as a file up to 32,768, refused as too long beyond
abbrev pub ListedBytes : List ℕ → Result Listing Refusal → Type 0
ListedBytes bs (Ok l) = (length bs ≤ 32768) × Listed bs l
ListedBytes bs (Err e) = (32768 < length bs) × (e ≡ FileTooLong)

-- The blocks of the program's input. Assumes nothing.
use Rattle.std.specs.Prelude.{◌≡◌, ℕ, Bool, true, cond, List, [], length, Some, None, Ok, Err, Option, Result, ◌==◌, ◌≢◌, nat_le}
use Rattle.records.specs.Chains.{Record, whole, front}
use Rattle.blocks.specs.declared.block.BlockKind.{BlockKind}
use Rattle.blocks.specs.declared.block.BlockKind.TheVariants.{Open, Enter, Prove, Refute}
use Rattle.blocks.specs.declared.block.Block.{Block}
use Rattle.blocks.specs.declared.block.NoBlock.{NoBlock}
use Rattle.blocks.specs.declared.block.UnknownBlock.{UnknownBlock}

-- the number of each kind of block
abbrev pub block_number : BlockKind → ℕ
block_number Open = 0
block_number Enter = 1
block_number Prove = 2
block_number Refute = 3

-- the kind of block that a number stands for
abbrev pub block_kind : ℕ → Option BlockKind
block_kind n =
    cond (n == 0) (Some Open) (cond (n == 1) (Some Enter) (cond (n == 2) (Some Prove) (cond (n == 3) (Some Refute) None)))

-- the answer to a number that may stand for a kind of block: that kind, or none has the number
abbrev pub AsksFor : ℕ → Result BlockKind UnknownBlock → Type 0
AsksFor n (Ok k) = block_kind n ≡ Some k
AsksFor n (Err e) = (block_kind n ≡ None) × (e.0 ≡ n)

-- the sizes that a block's body can have: a number of principals is two bytes, a sequent's number the first two
abbrev pub fits_block : BlockKind → ℕ → Bool
fits_block Open n = n == 2
fits_block Enter n = true
fits_block Prove n = nat_le 2 n
fits_block Refute n = nat_le 2 n

-- a framed block is none where its kind is unknown or its body too short or too long
abbrev pub sized_block : Option BlockKind → List ℕ → Option BlockKind
sized_block None body = None
sized_block (Some k) body = cond (fits_block k (length body)) (Some k) None

-- the kind of a framed block
abbrev pub typed_block : Record → Option BlockKind
typed_block r = sized_block (block_kind r.kind) r.body

-- what is next in the input bs, and what of it is left then
abbrev pub NextBlock : List ℕ → Result (Option Block) NoBlock → List ℕ → Type 0
NextBlock bs (Ok None) rest = (bs ≡ []) × (rest ≡ bs)
NextBlock bs (Err e) rest = (bs ≢ []) × ((r : Record) (after : List ℕ) → front bs ≡ whole r after → typed_block r ≡ None) × (rest ≡ bs)
NextBlock bs (Ok (Some b)) rest =
    (r : Record) × (front bs ≡ whole r rest) × (typed_block r ≡ Some b.kind) × (r.body ≡ b.body.now)

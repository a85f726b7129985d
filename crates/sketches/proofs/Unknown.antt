-- A record whose number no kind has gives nothing. Assumes nothing.
use Rattle.std.proofs.Common.{◌≡◌, ◌≢◌, ℕ, false, eqb, List, Err, sym, ◌∙◌}
use Rattle.std.proofs.lemmas.Bool.{cond-false, ne_eqb}
use Rattle.records.specs.declared.numbers.RecordNumber.{RecordNumber}
use Rattle.records.specs.declared.refusal.Refusal.TheVariants.{Kind}
use Rattle.kinds.specs.declared.kind.Kind.{Kind as ByNumber}
use Rattle.kinds.specs.declared.kind.Kind.TheVariants.{Worlds, WorldsAbove, ArrowEnds, AtomRow, Place}
use Rattle.kinds.specs.Kinds.{number_of}
use Rattle.sketches.specs.Entries.{entry_of, count_of}

module _ (n : ℕ) (body : List ℕ) (at : RecordNumber) (unknown : (k : ByNumber) → number_of k ≢ n) where
  -- the number is not that of a kind
  not_of : (k : ByNumber) → eqb n (number_of k) ≡ false
  not_of k = ne_eqb n (number_of k) (λ e. unknown k (sym e))

  -- no entry
  pub no_entry : entry_of n body at ≡ Err (Kind at)
  no_entry =
      cond-false (eqb n 21) _ _ (not_of WorldsAbove)
      ∙ cond-false (eqb n 22) _ _ (not_of ArrowEnds)
      ∙ cond-false (eqb n 23) _ _ (not_of AtomRow)
      ∙ cond-false (eqb n 24) _ _ (not_of Place)

  -- no world count
  pub no_count : count_of n body at ≡ Err (Kind at)
  no_count = cond-false (eqb n 20) _ _ (not_of Worlds)

-- What the answer to a model file says of a sequent. Assumes nothing.
use Rattle.std.specs.Prelude.{◌≡◌, ℕ, ◌↔◌, List, Ok, Err}
use Rattle.records.specs.declared.refusal.Refusal.{Refusal}
use Rattle.records.specs.Readers.{read_bytes}
use Rattle.logic.specs.Facts.{Sequent, Standing, FailsUnder, Fails}
use Rattle.logic.specs.Models.{Model}
use Rattle.piles.specs.Packs.{Condition, Admits}
use Rattle.sketches.specs.Described.{described, described_standing}
use Rattle.sketches.specs.Readings.{Kept, nothing, model_reader}
use Rattle.sketches.specs.Laws.{IsModelFile, ModelLaw}
use Rattle.models.specs.Judgements.{Answer, Refuses}

-- the model that a file describes, and where it places the labels
abbrev pub model_in : Kept → Model
model_in k = described k.worlds k.entries

abbrev pub standing_in : Kept → Standing
standing_in k = described_standing k.entries

module _ (conditions : List Condition) (P : ℕ) (s : Sequent) (bytes : List ℕ) where
  -- the file describes a model that the pile admits and in which the sequent fails where the file places its labels
  pub record Refutes : Type 0 where
    pub kept : Kept
    pub described_so : IsModelFile P s.labels bytes kept
    pub admitted : Admits conditions P (model_in kept)
    pub fails : FailsUnder (model_in kept) s (standing_in kept)

  -- why a file is refused: for a record or its end, or, where it describes a model, for that
  pub data RefusesFile : Refusal → Type 0 where
    unread : {e : Refusal} → read_bytes (model_reader P s.labels) 0 nothing bytes ≡ Err e → RefusesFile e
    judged : {e : Refusal} (k : Kept) → IsModelFile P s.labels bytes k → Refuses conditions P s (model_in k) (standing_in k) e → RefusesFile e

  -- the answer r to a model file for the sequent s
  pub record Examined (r : Answer) : Type 0 where
    -- taken exactly where the file describes such a model
    pub taken : (r ≡ Ok tt) ↔ Refutes
    -- refused exactly with the first cause
    pub refused : (e : Refusal) → (r ≡ Err e) ↔ RefusesFile e
    -- by which the records are read: which bytes describe a model, and which record is refused
    pub law : ModelLaw P s.labels bytes
    -- what is taken fails in a finite model that the pile admits
    pub refuted : r ≡ Ok tt → (m : Model) × Admits conditions P m × Fails m s

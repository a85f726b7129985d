-- What reading a model file answers, on every list of bytes. Assumes nothing.
use Rattle.std.specs.Prelude.{◌≡◌, ℕ, ◌<◌, List, Some, Ok, Err, Result}
use Rattle.records.specs.declared.numbers.Label.{Label}
use Rattle.records.specs.declared.numbers.World.{World}
use Rattle.records.specs.declared.refusal.Refusal.{Refusal}
use Rattle.records.specs.Readers.{read_bytes}
use Rattle.logic.specs.Facts.{Placed}
use Rattle.rows.specs.PlacesOf.{place_at, standing_of}
use Rattle.rows.specs.RowsOf.{frame_of, model_of}
use Rattle.sketches.specs.declared.entry.Entry.{Entry}
use Rattle.sketches.specs.declared.read.GivenModel.{GivenModel}
use Rattle.sketches.specs.declared.sketch.Sketch.{Sketch}
use Rattle.sketches.specs.Described.{place_in, described, described_standing}
use Rattle.sketches.specs.Readings.{nothing, begun, Kept, finished, model_reader}
use Rattle.sketches.specs.Sketches.{Shows}
use Rattle.sketches.specs.Laws.{ModelLaw}

-- label x stands at world w of a model
pub record StandsAt (g : GivenModel) (x : Label) : Type 0 where
  pub world : World
  pub placed : place_at g.places x ≡ Some world
  pub in_worlds : world.0 < (frame_of g.rows).worlds

-- a model is the one that the world count and the entries of the answer describe, and every label below n stands at one of its worlds
pub record IsGiven (P n : ℕ) (answer : Result Kept Refusal) (g : GivenModel) : Type 0 where
  pub kept : Kept
  pub answer_is : answer ≡ Ok kept
  pub model : model_of g.rows ≡ described kept.worlds kept.entries
  pub places : (x : Label) → place_at g.places x ≡ place_in kept.entries x
  pub standing : standing_of g.places ≡ described_standing kept.entries
  pub stands : (x : Label) → x.0 < n → StandsAt g x
  pub placed : Placed (frame_of g.rows) n (standing_of g.places)
  pub principals : g.principals ≡ P

-- every label stands at a world of a model: one that is not placed at world 0
abbrev pub Inside : GivenModel → Type 0
Inside g = (x : Label) → (standing_of g.places x).0 < (frame_of g.rows).worlds

-- the answer is this one
abbrev pub Answers : ℕ → ℕ → Result Kept Refusal → Result GivenModel Refusal → Type 0
Answers P n answer (Ok g) = IsGiven P n answer g
Answers P n answer (Err e) = answer ≡ Err e

-- the answer where the file ends, whatever entries the sketch shows there
abbrev pub Finished : ℕ → ℕ → Sketch → Result GivenModel Refusal → Type 0
Finished P n s r = (W i : ℕ) (es : List Entry) → Shows W es s → Answers P n (finished n i (begun W es)) r

-- an answer is the one from record i on, where the rest of the file follows on the entries that a sketch shows
pub record ReadTo (P n : ℕ) (answer : Result Kept Refusal) (i : ℕ) (rest : List ℕ) (s : Sketch) : Type 0 where
  pub worlds : ℕ
  pub entries : List Entry
  pub answer_is : answer ≡ read_bytes (model_reader P n) i (begun worlds entries) rest
  pub shows : Shows worlds entries s

-- the first record begins a sketch, or is refused for the answer's reason
abbrev pub Started : ℕ → ℕ → Result Kept Refusal → ℕ → List ℕ → Result Sketch Refusal → Type 0
Started P n answer i rest (Ok s) = ReadTo P n answer i rest s
Started P n answer i rest (Err e) = answer ≡ Err e

-- the answer that the bytes determine, and the law that they are read by
pub record ModelRead (P n : ℕ) (bs : List ℕ) (r : Result GivenModel Refusal) : Type 0 where
  pub answer : Answers P n (read_bytes (model_reader P n) 0 nothing bs) r
  pub law : ModelLaw P n bs

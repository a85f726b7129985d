-- One record more of a model file, and its end. Assumes nothing.
use Rattle.std.proofs.Common.{◌≡◌, ℕ, List, [], Some, None, Ok, Err, Result, sym, ap, ◌∙◌, subst}
use Rattle.records.specs.declared.refusal.Refusal.{Refusal}
use Rattle.records.specs.Chains.{Next, record_of}
use Rattle.records.specs.declared.record.Numbered.{Numbered}
use Rattle.records.specs.Readers.{read_bytes}
use Rattle.records.proofs.Readers.{read_more, read_bad, read_end, read_broken}
use Rattle.sketches.specs.declared.read.GivenModel.{GivenModel}
use Rattle.sketches.specs.declared.sketch.Sketch.{Sketch}
use Rattle.sketches.specs.Entries.{onward, worlds_at}
use Rattle.sketches.specs.Readings.{Stage, nothing, begun, Kept, numbered, model_reader}
use Rattle.sketches.specs.Sketches.{Begins, Takes}
use Rattle.sketches.specs.Answers.{Answers, Finished, ReadTo, Started, ModelRead}
use Rattle.sketches.proofs.Laws.{model_law}

-- the count of a record, by its number
count_at : {i : ℕ} (q : Numbered) → q.at.0 ≡ i → worlds_at q.raw.kind q.raw.body.now q.at ≡ worlds_at q.raw.kind q.raw.body.now (numbered i)
count_at q e = ap (λ m. worlds_at q.raw.kind q.raw.body.now (numbered m)) e

module _ (P n i : ℕ) (bs : List ℕ) where
  -- the first record
  pub started : (j : ℕ) (rest : List ℕ) (q : Numbered) (r : Result Sketch Refusal) → Next bs i (Ok (Some q)) rest j → Begins (worlds_at q.raw.kind q.raw.body.now q.at) r
      → Started P n (read_bytes (model_reader P n) i nothing bs) j rest r
  started j rest q (Ok s) h b = record {
    worlds = s.rows.worlds;
    entries = [];
    answer_is =
        read_more (model_reader P n) i nothing (begun s.rows.worlds []) bs (record_of q.raw) rest h.0 (ap (λ x. onward x λ W. Ok (begun W.0 [])) (sym (count_at q h.1) ∙ b.0))
        ∙ ap (λ m. read_bytes (model_reader P n) m (begun s.rows.worlds []) rest) (sym h.2);
    shows = b.1;
  }
  started j rest q (Err x) h b =
      read_bad (model_reader P n) i nothing bs (record_of q.raw) rest x h.0 (ap (λ y. onward {Y = Stage} y λ W. Ok (begun W.0 [])) (sym (count_at q h.1) ∙ b))

  module _ (answer : Result Kept Refusal) (s : Sketch) (to : ReadTo P n answer i bs s) where
    -- a record that is refused
    pub step_bad : (j : ℕ) (q : Numbered) (rest : List ℕ) (x : Refusal) (t : Sketch) → Next bs i (Ok (Some q)) rest j → Takes P n q.at.0 (record_of q.raw) s (Err x) t
        → answer ≡ Err x
    step_bad j q rest x t next h =
        let bad = subst (λ m. Takes P n m (record_of q.raw) s (Err x) t) next.1 h in
        to.answer_is ∙ read_bad (model_reader P n) i (begun to.worlds to.entries) bs (record_of q.raw) rest x next.0 (bad to.worlds to.entries to.shows)

    -- a record that is taken
    pub step_on : (j : ℕ) (q : Numbered) (rest : List ℕ) (t : Sketch) → Next bs i (Ok (Some q)) rest j → Takes P n q.at.0 (record_of q.raw) s (Ok tt) t
        → ReadTo P n answer j rest t
    step_on j q rest t next h =
        let good = subst (λ m. Takes P n m (record_of q.raw) s (Ok tt) t) next.1 h in
        let g = good to.worlds to.entries to.shows in
        record {
          worlds = to.worlds;
          entries = g.entries;
          answer_is =
              to.answer_is
              ∙ read_more (model_reader P n) i (begun to.worlds to.entries) (begun to.worlds g.entries) bs (record_of q.raw) rest next.0 g.answer_is
              ∙ ap (λ m. read_bytes (model_reader P n) m (begun to.worlds g.entries) rest) (sym next.2);
          shows = g.shows;
        }

    -- the end of the file
    pub step_end : (j : ℕ) (rest : List ℕ) (r : Result GivenModel Refusal) → Next bs i (Ok None) rest j → Finished P n s r → Answers P n answer r
    step_end j rest r next h =
        subst (λ x. Answers P n x r) (sym (to.answer_is ∙ read_end (model_reader P n) i (begun to.worlds to.entries) bs next.0)) (h to.worlds i to.entries to.shows)

    -- a broken frame
    pub step_broken : (j : ℕ) (rest : List ℕ) (x : Refusal) → Next bs i (Err x) rest j → answer ≡ Err x
    step_broken j rest x next = to.answer_is ∙ read_broken (model_reader P n) i (begun to.worlds to.entries) bs next.0 next.1 ∙ ap Err (sym next.2)

-- an answer, with the law that the bytes are read by
pub model_read : (P n : ℕ) (bs : List ℕ) (r : Result GivenModel Refusal) → Answers P n (read_bytes (model_reader P n) 0 nothing bs) r → ModelRead P n bs r
model_read P n bs r a = record { answer = a; law = model_law P n bs }

-- the same for a refusal
pub refused : (P n : ℕ) (bs : List ℕ) (r : Result GivenModel Refusal) (x : Refusal) → r ≡ Err x → read_bytes (model_reader P n) 0 nothing bs ≡ Err x → ModelRead P n bs r
refused P n bs r x is e = subst (ModelRead P n bs) (sym is) (model_read P n bs (Err x) e)

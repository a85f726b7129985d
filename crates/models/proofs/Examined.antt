-- The answer to a model file, from how it is read and how its model is judged. Assumes nothing.
use Rattle.std.proofs.Common.{◌≡◌, ℕ, List, Ok, Err, Result, ap, ◌∙◌, subst, arith}
use Rattle.records.specs.declared.refusal.Refusal.{Refusal}
use Rattle.records.specs.Readers.{read_bytes}
use Rattle.logic.specs.Facts.{Sequent, Standing, FailsUnder}
use Rattle.logic.specs.Models.{Model}
use Rattle.piles.specs.Packs.{Condition, Admits}
use Rattle.rows.specs.PlacesOf.{standing_of}
use Rattle.rows.specs.RowsOf.{model_of}
use Rattle.sketches.specs.declared.read.GivenModel.{GivenModel}
use Rattle.sketches.specs.Readings.{Kept, nothing, model_reader}
use Rattle.sketches.specs.Laws.{IsModelFile, ModelLaw}
use Rattle.sketches.specs.Answers.{Inside, IsGiven}
use Rattle.models.specs.Judgements.{Answer, Refuses, Judgement}
use Rattle.models.specs.Examined.{model_in, standing_in, RefusesFile, Examined, unread, judged}

module _ (cs : List Condition) (P : ℕ) (s : Sequent) (bytes : List ℕ) (law : ModelLaw P s.labels bytes) where
  -- how the bytes are read
  abbrev read : Result Kept Refusal
  read = read_bytes (model_reader P s.labels) 0 nothing bytes

  -- a file that is refused as it is read describes no model
  none_described : (e : Refusal) → read ≡ Err e → (k : Kept) → IsModelFile P s.labels bytes k → ⊥
  none_described e h k f = let g : read ≡ Ok k = (law.taken k).1 f in let z : ◌≡◌ {A = ℕ} 0 1 = cc in omega arith

  -- a file describes one model
  one_described : (k l : Kept) → read ≡ Ok k → IsModelFile P s.labels bytes l → l ≡ k
  one_described k l h f = let g : read ≡ Ok l = (law.taken l).1 f in cc

  pub examined_unread : (e : Refusal) → read ≡ Err e → Examined cs P s bytes (Err e)
  examined_unread e h = record {
    taken = (λ q. let z : ◌≡◌ {A = ℕ} 0 1 = cc in absurd (omega arith), λ t. absurd (none_described e h t.kept t.described_so));
    refused = λ d. (λ q. let k : e ≡ d = cc in unread (h ∙ ap Err k), λ c. same d c);
    law = law;
    refuted = λ q. let z : ◌≡◌ {A = ℕ} 0 1 = cc in absurd (omega arith);
  }
    where
      same : (d : Refusal) → RefusesFile cs P s bytes d → ◌≡◌ {A = Answer} (Err e) (Err d)
      same d (unread g) = let k : e ≡ d = cc in ap Err k
      same d (judged k f c) = absurd (none_described e h k f)

  -- what is judged of the model that the file describes is the answer to the file
  examined_kept : (k : Kept) → read ≡ Ok k → (r : Answer) → Judgement cs P s (model_in k) (standing_in k) r → Examined cs P s bytes r
  examined_kept k h r j = record {
    taken = (
      λ q. let a = j.taken.0 q in record { kept = k; described_so = file; admitted = a.0; fails = a.1 },
      λ t. let e : t.kept ≡ k = one_described k t.kept h t.described_so in
          j.taken.1 (subst (λ (l : Kept). Admits cs P (model_in l)) e t.admitted, subst (λ (l : Kept). FailsUnder (model_in l) s (standing_in l)) e t.fails),
    );
    refused = λ d. (λ q. judged k file ((j.refused d).0 q), λ c. back d c);
    law = law;
    refuted = λ q. let a = j.taken.0 q in (model_in k, a.0, (standing_in k, a.1));
  }
    where
      file : IsModelFile P s.labels bytes k
      file = (law.taken k).0 h

      back : (d : Refusal) → RefusesFile cs P s bytes d → r ≡ Err d
      back d (unread g) = let z : ◌≡◌ {A = ℕ} 0 1 = cc in absurd (omega arith)
      back d (judged l f c) = (j.refused d).1 (subst (λ (x : Kept). Refuses cs P s (model_in x) (standing_in x) d) (one_described k l h f) c)

  pub examined_given : (g : GivenModel) → IsGiven P s.labels read g → Inside g → (r : Answer)
      → (Inside g → Judgement cs g.principals s (model_of g.rows) (standing_of g.places) r) → Examined cs P s bytes r
  examined_given g is inside r j =
      examined_kept is.kept is.answer_is r
      (subst (λ (σ : Standing). Judgement cs P s (model_in is.kept) σ r) is.standing
      (subst (λ (m : Model). Judgement cs P s m (standing_of g.places) r) is.model
      (subst (λ (n : ℕ). Judgement cs n s (model_of g.rows) (standing_of g.places) r) is.principals (j inside))))

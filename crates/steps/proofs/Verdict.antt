-- What the answer to a derivation says, by the laws of the pile. Assumes nothing.
use Rattle.std.proofs.Common.{◌≡◌, ℕ, true, List, map, Option, ◌∙◌}
use Rattle.records.specs.declared.numbers.FormulaNumber.{FormulaNumber}
use Rattle.records.specs.Chains.{chain}
use Rattle.logic.specs.declared.terms.FactView.{FactView}
use Rattle.logic.specs.declared.terms.Node.{Node}
use Rattle.logic.specs.Formulas.{all_fall}
use Rattle.logic.specs.Stored.{stored}
use Rattle.piles.specs.declared.terms.Layout.{Layout}
use Rattle.piles.specs.Packs.{Condition, Readings, Laws}
use Rattle.steps.specs.Branches.{Answer, branch, examined}
use Rattle.steps.specs.Memory.{stored_setting}
use Rattle.steps.specs.Verdicts.{tree_setting, sequent_of, root, Verdict}
use Rattle.steps.proofs.Consistency.{never_closed}
use Rattle.steps.proofs.Listings.{exactly}
use Rattle.steps.proofs.Natural.{over_trees}
use Rattle.steps.proofs.Soundness.{sound}

pub verdict : {K : Type 0} (conditions : K → List Condition) (layouts : K → ℕ → Option Layout) (readings : K → Readings) → Laws conditions layouts readings
    → (k : K) (P : ℕ) (ns : List (Node FormulaNumber)) → all_fall 0 ns ≡ true → (fs : List (FactView FormulaNumber)) (n : ℕ) (bytes : List ℕ) (trail waiting : ℕ) (r : Answer)
    → r ≡ examined (stored_setting ns (layouts k) (readings k) P trail waiting) (branch (map stored fs) n) bytes
    → Verdict (conditions k) (tree_setting (layouts k) (readings k) P trail waiting) (sequent_of ns fs n) bytes r
verdict conditions layouts readings laws k P ns falling fs n bytes trail waiting r e =
    let S = tree_setting (layouts k) (readings k) P trail waiting in
    let s = sequent_of ns fs n in
    let is : r ≡ examined S (root s) bytes = e ∙ over_trees ns falling (layouts k) (readings k) P trail waiting fs n bytes in
    let exact = exactly S (root s) bytes r is in
    record {
      answer = is;
      exact = exact;
      sound = λ ok proper. sound conditions layouts readings laws k P trail waiting s 0 (chain bytes).records (exact.taken.0 ok).closed proper;
      consistent = λ ok weak. never_closed (layouts k) (readings k) P trail waiting (exact.taken.0 ok).closed weak;
    }

-- The walk does not depend on what formulas are given by, and how facts lie in places. Assumes nothing.
use Rattle.std.proofs.Common.{◌≡◌, ℕ, zero, suc, ◌+◌, Bool, true, false, cond, ◌&&◌, ltb, leb, List, [], ◌∷◌, ◌++◌, map, length, Some, None, Ok, Err, Option, Result, sym, refl, ap, ◌∙◌, ap₂}
use mathlib.Core.List.{map-append}
use lib.ListN.{length-map}
use Rattle.std.specs.List.{slice_get}
use Rattle.records.specs.declared.numbers.FormulaNumber.{FormulaNumber}
use Rattle.records.specs.declared.numbers.RecordNumber.{RecordNumber}
use Rattle.records.specs.declared.refusal.Refusal.{Refusal}
use Rattle.records.specs.declared.refusal.Refusal.TheVariants.{NoRoom}
use Rattle.records.specs.Chains.{Record, chain}
use Rattle.records.specs.Readers.{read_on, followed, at_end}
use Rattle.logic.specs.declared.terms.FactView.{FactView}
use Rattle.logic.specs.declared.terms.FactView.TheVariants.{Left, Right, Linked}
use Rattle.logic.specs.declared.terms.Node.{Node}
use Rattle.logic.specs.declared.terms.Node.TheVariants.{Atom, Falsity, And, Or, Implies, Modal}
use Rattle.logic.specs.Formulas.{node_map, tree, all_fall}
use Rattle.logic.specs.Facts.{fact_map, facts_map}
use Rattle.logic.specs.Stored.{stored, view_of}
use Rattle.logic.proofs.Facts.{facts_stored}
use Rattle.logic.proofs.Trees.{tree_views}
use Rattle.piles.specs.declared.terms.Layout.{Layout}
use Rattle.piles.specs.Packs.{Readings}
use Rattle.rules.specs.declared.outcome.Few.{Few}
use Rattle.rules.specs.declared.outcome.Few.TheVariants.{One, Two, Three}
use Rattle.rules.specs.declared.outcome.Growth.{Growth}
use Rattle.rules.specs.declared.outcome.Outcome.{Outcome}
use Rattle.rules.specs.declared.outcome.Outcome.TheVariants.{Closes, Goes, Forks}
use Rattle.rules.specs.declared.step.Step.{Step}
use Rattle.rules.specs.Applying.{applied}
use Rattle.rules.specs.Decoding.{onward, step_of}
use Rattle.rules.specs.Outcomes.{listed}
use Rattle.rules.specs.Scenes.{look, told, node_of}
use Rattle.steps.specs.Branches.{Branch, Setting, Answer, branch, number, labels_after, label_fits, grown, has_room, moved, scene, stepped, advanced, reader, examined}
use Rattle.steps.specs.Memory.{stored_setting}
use Rattle.steps.specs.Verdicts.{tree_setting, sequent_of, root}
use Rattle.steps.proofs.Rewording.{opt_map, few_map, growth_map, out_map, applied_nat}

module _ {X F Y G : Type 0} (S : Setting X F) (u : X → Y) (t : F → G) (says : Y → Option (FactView G)) (lays : FactView G → Y) (sight : G → Node G)
    (says_nat : (x : X) → says (u x) ≡ opt_map (fact_map t) (S.says x)) (lays_nat : (v : FactView F) → lays (fact_map t v) ≡ u (S.lays v))
    (sees : (f : F) → sight (t f) ≡ node_map t (S.view f)) where
  -- the same setting over other places and formulas
  abbrev pub image : Setting Y G
  image = record { says = says; lays = lays; view = sight; layouts = S.layouts; readings = S.readings; principals = S.principals; room = S.room }

  abbrev pub branch_map : Branch X → Branch Y
  branch_map b = branch (map u b.facts) b.labels

  look_nat : (xs : List X) (i : ℕ) → told says (slice_get (map u xs) i) ≡ opt_map (fact_map t) (told S.says (slice_get xs i))
  look_nat [] i = refl
  look_nat (x ∷ xs) zero = says_nat x
  look_nat (x ∷ xs) (suc i) = look_nat xs i

  laid_nat : (fs : Few F) → map lays (listed (few_map t fs)) ≡ map u (map S.lays (listed fs))
  laid_nat (One a) = ap (λ x. x ∷ []) (lays_nat a)
  laid_nat (Two a b) = ap₂ (λ x y. x ∷ y ∷ []) (lays_nat a) (lays_nat b)
  laid_nat (Three a b c) = ap₂ (λ x xs. x ∷ xs) (lays_nat a) (ap₂ (λ x y. x ∷ y ∷ []) (lays_nat b) (lays_nat c))

  length_few : (fs : Few F) → length (listed (few_map t fs)) ≡ length (listed fs)
  length_few (One a) = refl
  length_few (Two a b) = refl
  length_few (Three a b c) = refl

  grown_nat : (b : Branch X) (p : Growth F) → grown lays S.room (branch_map b) (growth_map t p) ≡ branch_map (grown S.lays S.room b p)
  grown_nat b p = ap (λ xs. branch xs (labels_after b.labels p.opens)) (ap (λ ys. map u b.facts ++ ys) (laid_nat p.facts) ∙ sym (map-append u b.facts (map S.lays (listed p.facts))))

  fits_nat : (b : Branch X) (p : Growth F) → has_room lays S.room (branch_map b) (growth_map t p) ≡ has_room S.lays S.room b p
  fits_nat b p = ap₂ (λ i j. leb (i + j) S.room.trail && label_fits b.labels p.opens) (length-map b.facts u) (length_few p.facts)

  abbrev result_map : Result (List (Branch X)) Refusal → Result (List (Branch Y)) Refusal
  result_map (Ok bs) = Ok (map branch_map bs)
  result_map (Err e) = Err e

  cond_nat : (at : RecordNumber) (v w : Bool) → v ≡ w → (x : Result (List (Branch Y)) Refusal) (y : Result (List (Branch X)) Refusal) → x ≡ result_map y → cond v x (Err (NoRoom at)) ≡ result_map (cond w y (Err (NoRoom at)))
  cond_nat at v true e x y h = ap (λ b. cond b x (Err (NoRoom at))) e ∙ h
  cond_nat at v false e x y h = ap (λ b. cond b x (Err (NoRoom at))) e

  moved_nat : (at : RecordNumber) (o : Option (Outcome F)) (b : Branch X) (bs : List (Branch X)) → moved lays S.room at (opt_map (out_map t) o) (branch_map b) (map branch_map bs) ≡ result_map (moved S.lays S.room at o b bs)
  moved_nat at None b bs = refl
  moved_nat at (Some Closes) b bs = refl
  moved_nat at (Some (Goes p)) b bs = cond_nat at _ _ (fits_nat b p) _ (Ok (grown S.lays S.room b p ∷ bs)) (ap (λ c. Ok (c ∷ map branch_map bs)) (grown_nat b p))
  moved_nat at (Some (Forks p q)) b bs =
      cond_nat at _ _
      (ap₂ (λ v w. v && w) (fits_nat b p) (ap₂ (λ v w. v && w) (fits_nat b q) (ap (λ i. ltb i S.room.waiting) (length-map bs branch_map))))
      _ (Ok (grown S.lays S.room b p ∷ grown S.lays S.room b q ∷ bs))
      (ap₂ (λ c d. Ok (c ∷ d ∷ map branch_map bs)) (grown_nat b p) (grown_nat b q))

  onward_nat : (d : Result Step Refusal) (k : Step → Result (List (Branch X)) Refusal) (j : Step → Result (List (Branch Y)) Refusal) → ((s : Step) → j s ≡ result_map (k s)) → onward d j ≡ result_map (onward d k)
  onward_nat (Err e) k j h = refl
  onward_nat (Ok s) k j h = h s

  stepped_nat : (at : RecordNumber) (r : Record) (b : Branch X) (bs : List (Branch X)) → stepped image at r (branch_map b) (map branch_map bs) ≡ result_map (stepped S at r b bs)
  stepped_nat at r b bs =
      onward_nat (step_of S.layouts S.principals b.labels r at) _ _
      (λ s. ap (λ o. moved lays S.room at o (branch_map b) (map branch_map bs)) (applied_nat t (scene S b) (look says (map u b.facts)) (λ i. look_nat b.facts i.0) sight sees s) ∙ moved_nat at (applied (scene S b) s) b bs)

  advanced_nat : (i : ℕ) (r : Record) (bs : List (Branch X)) → advanced image i r (map branch_map bs) ≡ result_map (advanced S i r bs)
  advanced_nat i r [] = refl
  advanced_nat i r (b ∷ bs) = stepped_nat (number i) r b bs

  end_nat : (i : ℕ) (bs : List (Branch X)) (rest : List ℕ) → at_end (reader image) i (map branch_map bs) rest ≡ at_end (reader S) i bs rest
  end_nat i [] [] = refl
  end_nat i [] (x ∷ xs) = refl
  end_nat i (b ∷ bs) [] = refl
  end_nat i (b ∷ bs) (x ∷ xs) = refl

  followed_nat : (m : Result (List (Branch X)) Refusal) (j : List (Branch Y) → Answer) (k : List (Branch X) → Answer) → ((bs : List (Branch X)) → j (map branch_map bs) ≡ k bs) → followed (reader image) (result_map m) j ≡ followed (reader S) m k
  followed_nat (Ok bs) j k h = h bs
  followed_nat (Err e) j k h = refl

  read_nat : (i : ℕ) (rs : List Record) (rest : List ℕ) (bs : List (Branch X)) → read_on (reader image) i (map branch_map bs) rs rest ≡ read_on (reader S) i bs rs rest
  read_nat i [] rest bs = end_nat i bs rest
  read_nat i (r ∷ rs) rest bs =
      ap (λ o. followed (reader image) o (λ cs. read_on (reader image) (i + 1) cs rs rest)) (advanced_nat i r bs)
      ∙ followed_nat (advanced S i r bs) (λ cs. read_on (reader image) (i + 1) cs rs rest) (λ cs. read_on (reader S) (i + 1) cs rs rest) (λ cs. read_nat (i + 1) rs rest cs)

  pub examined_nat : (b : Branch X) (bytes : List ℕ) → examined image (branch_map b) bytes ≡ examined S b bytes
  examined_nat b bytes =
      ap₂ (λ n a. cond (leb n S.room.trail) a (Err (NoRoom (number 0)))) (length-map b.facts u) (read_nat 0 (chain bytes).records (chain bytes).rest (b ∷ []))

fact_map_id : {F : Type 0} (v : FactView F) → fact_map (λ f. f) v ≡ v
fact_map_id (Left x f) = refl
fact_map_id (Right x f) = refl
fact_map_id (Linked l) = refl

node_map_id : {F : Type 0} (n : Node F) → node_map (λ f. f) n ≡ n
node_map_id (Atom a) = refl
node_map_id Falsity = refl
node_map_id (And f g) = refl
node_map_id (Or f g) = refl
node_map_id (Implies f g) = refl
node_map_id (Modal k A f) = refl

facts_map_is : {F G : Type 0} (t : F → G) (xs : List (FactView F)) → facts_map t xs ≡ map (fact_map t) xs
facts_map_is t [] = refl
facts_map_is t (x ∷ xs) = ap (λ ys. fact_map t x ∷ ys) (facts_map_is t xs)

-- stored facts that stand for a sequent give the answer that its trees give
module _ (ns : List (Node FormulaNumber)) (falling : all_fall 0 ns ≡ true) (layouts : ℕ → Option Layout) (readings : Readings) (P m n : ℕ) where
  abbrev numbers : Setting (FactView FormulaNumber) FormulaNumber
  numbers = record { says = Some; lays = λ v. v; view = node_of ns; layouts = layouts; readings = readings; principals = P; room = record { trail = m; waiting = n } }

  pub over_trees : (fs : List (FactView FormulaNumber)) (labels : ℕ) (bytes : List ℕ) →
      examined (stored_setting ns layouts readings P m n) (branch (map stored fs) labels) bytes ≡ examined (tree_setting layouts readings P m n) (root (sequent_of ns fs labels)) bytes
  over_trees fs labels bytes =
      examined_nat numbers stored (λ f. f) view_of stored (node_of ns) (λ v. facts_stored.told v ∙ ap Some (sym (fact_map_id v))) (λ v. ap stored (fact_map_id v)) (λ f. sym (node_map_id (node_of ns f))) (branch fs labels) bytes
      ∙ sym (examined_nat numbers (fact_map (tree ns)) (tree ns) Some (λ v. v) _ (λ v. refl) (λ v. refl) (tree_views ns falling) (branch fs labels) bytes)
      ∙ ap (λ xs. examined (tree_setting layouts readings P m n) (branch xs labels) bytes) (sym (facts_map_is (tree ns) fs))

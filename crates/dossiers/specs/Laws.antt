-- When a dossier is taken, in terms of its records. Assumes nothing.
use Rattle.std.specs.Prelude.{◌≡◌, ℕ, ◌<◌, true, ◌↔◌, List, [], ◌∷◌, ◌++◌, length, Ok}
use Rattle.records.specs.declared.numbers.FormulaNumber.{FormulaNumber}
use Rattle.records.specs.Chains.{Record, chain}
use Rattle.records.specs.Readers.{read_bytes, ReadsBy}
use Rattle.kinds.specs.Contents.{atom_of, parts_of, modal_of, label_count_of, labelled_of, ordered_of, arrowed_of}
use Rattle.logic.specs.declared.terms.Modality.{Modality}
use Rattle.logic.specs.declared.terms.Node.{Node}
use Rattle.logic.specs.declared.terms.Node.TheVariants.{Atom, Falsity, And, Or, Implies, Modal}
use Rattle.logic.specs.declared.terms.Link.TheVariants.{Order, Arrow}
use Rattle.logic.specs.declared.terms.FactView.{FactView}
use Rattle.logic.specs.declared.terms.FactView.TheVariants.{Left, Right, Linked}
use Rattle.logic.specs.Modalities.{modality_number}
use Rattle.dossiers.specs.Entries.{fits_formula, fits_fact, count_fits}
use Rattle.dossiers.specs.Dossiers.{formulas, Kept, dossier_reader}

-- a record of this kind and body
abbrev pub rec : ℕ → List ℕ → Record
rec kind body = record { kind = kind; body = body }

-- the record of a formula
pub data FormulaRecord : Record → Node FormulaNumber → Type 0 where
  atom : (b : List ℕ) → length b ≡ 2 → FormulaRecord (rec 1 b) (Atom (atom_of b))
  falsity : (b : List ℕ) → length b ≡ 0 → FormulaRecord (rec 2 b) Falsity
  and : (b : List ℕ) → length b ≡ 4 → FormulaRecord (rec 3 b) (And (parts_of b).left (parts_of b).right)
  or : (b : List ℕ) → length b ≡ 4 → FormulaRecord (rec 4 b) (Or (parts_of b).left (parts_of b).right)
  implies : (b : List ℕ) → length b ≡ 4 → FormulaRecord (rec 5 b) (Implies (parts_of b).left (parts_of b).right)
  modal : (k : Modality) (b : List ℕ) → length b ≡ 4 → FormulaRecord (rec (modality_number k) b) (Modal k (modal_of b).principal (modal_of b).formula)

-- the record of a fact
pub data FactRecord : Record → FactView FormulaNumber → Type 0 where
  left : (b : List ℕ) → length b ≡ 4 → FactRecord (rec 11 b) (Left (labelled_of b).label (labelled_of b).formula)
  right : (b : List ℕ) → length b ≡ 4 → FactRecord (rec 12 b) (Right (labelled_of b).label (labelled_of b).formula)
  order : (b : List ℕ) → length b ≡ 4 → FactRecord (rec 13 b) (Linked (Order (ordered_of b).lower (ordered_of b).upper))
  arrow : (k : Modality) (b : List ℕ) → length b ≡ 8 → (arrowed_of b).modality.0 ≡ modality_number k
      → FactRecord (rec 14 b) (Linked (Arrow k (arrowed_of b).principal (arrowed_of b).from (arrowed_of b).to))

-- records of formulas, each in range behind those before it and within 256, take a table of nodes to another
pub data Formulas (P : ℕ) : List (Node FormulaNumber) → List Record → List (Node FormulaNumber) → Type 0 where
  none : {ns : List (Node FormulaNumber)} → Formulas P ns [] ns
  more : {ns ms : List (Node FormulaNumber)} {r : Record} {rs : List Record} (n : Node FormulaNumber) → FormulaRecord r n
      → fits_formula P (length ns) n ≡ true → length ns < 256 → Formulas P (ns ++ (n ∷ [])) rs ms → Formulas P ns (r ∷ rs) ms

-- records of facts, each in range and within 16, take a list of facts to another
pub data Facts (P n len : ℕ) : List (FactView FormulaNumber) → List Record → List (FactView FormulaNumber) → Type 0 where
  none : {fs : List (FactView FormulaNumber)} → Facts P n len fs [] fs
  more : {fs gs : List (FactView FormulaNumber)} {r : Record} {rs : List Record} (f : FactView FormulaNumber) → FactRecord r f
      → fits_fact P n len f ≡ true → length fs < 16 → Facts P n len (fs ++ (f ∷ [])) rs gs → Facts P n len fs (r ∷ rs) gs

-- the bytes are the records of some formulas, one label count from 1 to 8 and 0 to 16 facts, each in range and within its room, and nothing else
pub record IsDossier (P : ℕ) (ns : List (Node FormulaNumber)) (bs : List ℕ) (k : Kept) : Type 0 where
  pub first : List Record
  pub body : List ℕ
  pub last : List Record
  pub parts : (chain bs).records ≡ first ++ (rec 10 body ∷ last)
  pub whole : (chain bs).rest ≡ []
  pub entered : Formulas P ns first k.nodes
  pub count_size : length body ≡ 2
  pub count_is : k.labels ≡ label_count_of body
  pub count_fits_it : count_fits k.labels.0 ≡ true
  pub stated : Facts P k.labels.0 (length k.nodes) [] last k.facts

-- a dossier is taken exactly when its bytes are such, and then that is what is kept;
-- it is refused at record i exactly when the records before i are good and record i is refused, or, where all are good, at its end
pub record DossierLaw (P : ℕ) (ns : List (Node FormulaNumber)) (bs : List ℕ) : Type 0 where
  pub taken : (k : Kept) → (read_bytes (dossier_reader P) 0 (formulas ns) bs ≡ Ok k) ↔ IsDossier P ns bs k
  pub reads_by : ReadsBy (dossier_reader P) (formulas ns) bs

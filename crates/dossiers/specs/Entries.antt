-- What each record of a dossier enters, and when its numbers are in range. Assumes nothing.
use Rattle.std.specs.Prelude.{ℕ, Bool, true, cond, ◌&&◌, List, Some, None, Ok, Err, Option, Result, ◌==◌, nat_le, nat_lt}
use Rattle.records.specs.declared.numbers.FormulaNumber.{FormulaNumber}
use Rattle.records.specs.declared.numbers.RecordNumber.{RecordNumber}
use Rattle.records.specs.declared.refusal.Refusal.{Refusal}
use Rattle.records.specs.declared.refusal.Refusal.TheVariants.{Kind, OutOfRange}
use Rattle.records.specs.Kinds.{decoded}
use Rattle.kinds.specs.declared.facts.Arrowed.{Arrowed}
use Rattle.kinds.specs.Contents.{atom_of, nothing_of, parts_of, modal_of, labelled_of, ordered_of, arrowed_of}
use Rattle.logic.specs.declared.terms.Modality.{Modality}
use Rattle.logic.specs.declared.terms.Modality.TheVariants.{Says, Controls, Ratified, Permitted}
use Rattle.logic.specs.declared.terms.Node.{Node}
use Rattle.logic.specs.declared.terms.Node.TheVariants.{Atom, Falsity, And, Or, Implies, Modal as ModalNode}
use Rattle.logic.specs.declared.terms.Link.TheVariants.{Order, Arrow}
use Rattle.logic.specs.declared.terms.FactView.{FactView}
use Rattle.logic.specs.declared.terms.FactView.TheVariants.{Left, Right, Linked}
use Rattle.logic.specs.Modalities.{numbered_modality}

-- what was read, made into something else; a refusal stays
abbrev pub onward : {X Y : Type 0} → Result X Refusal → (X → Result Y Refusal) → Result Y Refusal
onward (Ok x) f = f x
onward (Err e) f = Err e

-- the formula that a record of kind 1 to 9 enters; any other kind is not in its place
abbrev pub formula_of : ℕ → List ℕ → RecordNumber → Result (Node FormulaNumber) Refusal
formula_of kind body at =
    cond (kind == 1) (onward (decoded 2 atom_of body at) λ a. Ok (Atom a))
    (cond (kind == 2) (onward (decoded 0 nothing_of body at) λ _. Ok Falsity)
    (cond (kind == 3) (onward (decoded 4 parts_of body at) λ p. Ok (And p.left p.right))
    (cond (kind == 4) (onward (decoded 4 parts_of body at) λ p. Ok (Or p.left p.right))
    (cond (kind == 5) (onward (decoded 4 parts_of body at) λ p. Ok (Implies p.left p.right))
    (cond (kind == 6) (onward (decoded 4 modal_of body at) λ m. Ok (ModalNode Says m.principal m.formula))
    (cond (kind == 7) (onward (decoded 4 modal_of body at) λ m. Ok (ModalNode Controls m.principal m.formula))
    (cond (kind == 8) (onward (decoded 4 modal_of body at) λ m. Ok (ModalNode Ratified m.principal m.formula))
    (cond (kind == 9) (onward (decoded 4 modal_of body at) λ m. Ok (ModalNode Permitted m.principal m.formula))
    (Err (Kind at))))))))))

-- a formula's numbers are in range: its atom below 64, its parts below the table's length, its principal below P
abbrev pub fits_formula : ℕ → ℕ → Node FormulaNumber → Bool
fits_formula P len (Atom a) = nat_lt a.0 64
fits_formula P len Falsity = true
fits_formula P len (And f g) = nat_lt f.0 len && nat_lt g.0 len
fits_formula P len (Or f g) = nat_lt f.0 len && nat_lt g.0 len
fits_formula P len (Implies f g) = nat_lt f.0 len && nat_lt g.0 len
fits_formula P len (ModalNode k A f) = nat_lt A.0 P && nat_lt f.0 len

-- an arrow whose modality's number names none is out of range
abbrev pub arrow_named : Option Modality → Arrowed → RecordNumber → Result (FactView FormulaNumber) Refusal
arrow_named None a at = Err (OutOfRange at)
arrow_named (Some k) a at = Ok (Linked (Arrow k a.principal a.from a.to))

-- the fact that a record of kind 11 to 14 enters; any other kind is not in its place
abbrev pub fact_of : ℕ → List ℕ → RecordNumber → Result (FactView FormulaNumber) Refusal
fact_of kind body at =
    cond (kind == 11) (onward (decoded 4 labelled_of body at) λ l. Ok (Left l.label l.formula))
    (cond (kind == 12) (onward (decoded 4 labelled_of body at) λ l. Ok (Right l.label l.formula))
    (cond (kind == 13) (onward (decoded 4 ordered_of body at) λ o. Ok (Linked (Order o.lower o.upper)))
    (cond (kind == 14) (onward (decoded 8 arrowed_of body at) λ a. arrow_named (numbered_modality a.modality.0) a at)
    (Err (Kind at)))))

-- a fact's numbers are in range: its labels below n, its formula below the table's length, its principal below P
abbrev pub fits_fact : ℕ → ℕ → ℕ → FactView FormulaNumber → Bool
fits_fact P n len (Left x f) = nat_lt x.0 n && nat_lt f.0 len
fits_fact P n len (Right x f) = nat_lt x.0 n && nat_lt f.0 len
fits_fact P n len (Linked (Order x y)) = nat_lt x.0 n && nat_lt y.0 n
fits_fact P n len (Linked (Arrow k A x y)) = nat_lt A.0 P && (nat_lt x.0 n && nat_lt y.0 n)

-- a sequent has 1 to 8 labels
abbrev pub count_fits : ℕ → Bool
count_fits n = nat_le 1 n && nat_le n 8

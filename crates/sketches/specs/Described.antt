-- The model that a list of entries describes: a row or a place that is not given is empty. Assumes nothing.
use Rattle.std.specs.Prelude.{ℕ, Bool, cond, ◌&&◌, List, [], ◌∷◌, is_some, Some, None, Option, ◌==◌}
use Rattle.std.specs.Option.{unwrap_or, option_or}
use Rattle.records.specs.declared.numbers.Label.{Label}
use Rattle.records.specs.declared.numbers.World.{World}
use Rattle.logic.specs.declared.terms.Modality.{Modality}
use Rattle.logic.specs.Facts.{Standing}
use Rattle.logic.specs.Modalities.{modality_number}
use Rattle.logic.specs.Models.{Model}
use Rattle.rows.specs.declared.masks.WorldSet.{WorldSet}
use Rattle.rows.specs.Masks.{bit, no_set}
use Rattle.sketches.specs.declared.entry.Entry.{Entry}
use Rattle.sketches.specs.declared.entry.Entry.TheVariants.{Above, Ends, Atom, Place}

-- the worlds above x, if an entry gives them
abbrev pub gives_above : ℕ → Entry → Option WorldSet
gives_above x (Above y m) = cond (x == y.0) (Some m) None
gives_above x (Ends l B y m) = None
gives_above x (Atom b m) = None
gives_above x (Place y w) = None

-- the ends of the arrows of k and A from x, if an entry gives them
abbrev pub gives_ends : Modality → ℕ → ℕ → Entry → Option WorldSet
gives_ends k A x (Above y m) = None
gives_ends k A x (Ends l B y m) = cond (modality_number k == modality_number l && (A == B.0 && x == y.0)) (Some m) None
gives_ends k A x (Atom b m) = None
gives_ends k A x (Place y w) = None

-- the worlds where atom a holds, if an entry gives them
abbrev pub gives_atom : ℕ → Entry → Option WorldSet
gives_atom a (Above y m) = None
gives_atom a (Ends l B y m) = None
gives_atom a (Atom b m) = cond (a == b.0) (Some m) None
gives_atom a (Place y w) = None

-- the world where label x stands, if an entry gives it
abbrev pub gives_place : ℕ → Entry → Option World
gives_place x (Above y m) = None
gives_place x (Ends l B y m) = None
gives_place x (Atom b m) = None
gives_place x (Place y w) = cond (x == y.0) (Some w) None

-- what the first entry that gives something gives
abbrev pub given : {X : Type 0} → (Entry → Option X) → List Entry → Option X
given gives [] = None
given gives (e ∷ es) = option_or (gives e) (given gives es)

-- two entries give the same row or the same label's place
abbrev pub same_row : Entry → Entry → Bool
same_row (Above x m) e = is_some (gives_above x.0 e)
same_row (Ends k A x m) e = is_some (gives_ends k A.0 x.0 e)
same_row (Atom a m) e = is_some (gives_atom a.0 e)
same_row (Place x w) e = is_some (gives_place x.0 e)

-- some entry of a list gives the same row or place
abbrev pub given_before : List Entry → Entry → Bool
given_before es (Above x m) = is_some (given (gives_above x.0) es)
given_before es (Ends k A x m) = is_some (given (gives_ends k A.0 x.0) es)
given_before es (Atom a m) = is_some (given (gives_atom a.0) es)
given_before es (Place x w) = is_some (given (gives_place x.0) es)

-- the mask of the worlds above x
abbrev pub above_in : List Entry → ℕ → ℕ
above_in es x = (unwrap_or (given (gives_above x) es) no_set).0

-- the mask of the ends of the arrows of k and A from x
abbrev pub ends_in : List Entry → Modality → ℕ → ℕ → ℕ
ends_in es k A x = (unwrap_or (given (gives_ends k A x) es) no_set).0

-- the mask of the worlds where atom a holds
abbrev pub atom_in : List Entry → ℕ → ℕ
atom_in es a = (unwrap_or (given (gives_atom a) es) no_set).0

-- the world where label x stands, if it is placed
abbrev pub place_in : List Entry → Label → Option World
place_in es x = given (gives_place x.0) es

-- the model of W worlds that entries describe
abbrev pub described : ℕ → List Entry → Model
described W es = record {
  frame = record { worlds = W; above = λ x y. bit (above_in es x) y; arrow = λ k A x y. bit (ends_in es k A x) y };
  row = λ a y. bit (atom_in es a) y;
}

-- the standing of all labels: one that is not placed stands at world 0
abbrev pub described_standing : List Entry → Standing
described_standing es x = unwrap_or (place_in es x) (record { 0 = 0 })

-- The nodes of a formula table, and what its calls answer. Assumes nothing.
use Rattle.std.specs.Prelude.{◌≡◌, ◌<◌, cond, List, [], ◌∷◌, ◌++◌, length, Some, None, Ok, Err, Option, Result, nat_lt, slice_index_or}
use Rattle.lists.specs.Listed.{listed}
use Rattle.records.specs.declared.numbers.FormulaNumber.{FormulaNumber}
use Rattle.logic.specs.declared.terms.Node.{Node}
use Rattle.logic.specs.declared.terms.Node.TheVariants.{Falsity}
use Rattle.logic.specs.declared.table.PushError.{PushError}
use Rattle.logic.specs.declared.table.PushError.TheVariants.{Part, Full}
use Rattle.logic.specs.declared.table.FormulaTable.{FormulaTable}
use Rattle.logic.specs.Formulas.{tree, falls}

-- the nodes of a table, by number
abbrev pub nodes_of : FormulaTable → List (Node FormulaNumber)
nodes_of t = listed t.list

-- the node of a number, if there is one
abbrev pub node_at : List (Node FormulaNumber) → FormulaNumber → Option (Node FormulaNumber)
node_at ns i = cond (nat_lt i.0 (length ns)) (Some (slice_index_or ns i.0 Falsity)) None

-- the answer to one node more: the next number, if every part has a number already and there are fewer than 256 nodes
abbrev pub push_answer : List (Node FormulaNumber) → Node FormulaNumber → Result FormulaNumber PushError
push_answer ns n = cond (falls (length ns) n) (cond (nat_lt (length ns) 256) (Ok (record { 0 = length ns })) (Err Full)) (Err Part)

-- the nodes after that answer: the node stands last, or nothing has changed
abbrev pub pushed : List (Node FormulaNumber) → Node FormulaNumber → Result FormulaNumber PushError → List (Node FormulaNumber)
pushed ns n (Ok i) = ns ++ (n ∷ [])
pushed ns n (Err e) = ns

-- the numbers that were there stand for the same formulas as before
abbrev pub TreesKept : List (Node FormulaNumber) → List (Node FormulaNumber) → Type 0
TreesKept before after = (i : FormulaNumber) → i.0 < length before → tree after i ≡ tree before i

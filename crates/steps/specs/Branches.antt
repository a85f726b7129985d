-- The open branches of a derivation, the current one first, and what one record does to them. Assumes nothing.
use Rattle.std.specs.Prelude.{ℕ, ◌+◌, Bool, true, cond, ◌&&◌, List, [], ◌∷◌, ◌++◌, map, length, Some, None, Ok, Err, Option, Result, nat_le, nat_lt}
use Rattle.records.specs.declared.numbers.RecordNumber.{RecordNumber}
use Rattle.records.specs.declared.refusal.Refusal.{Refusal}
use Rattle.records.specs.declared.refusal.Refusal.TheVariants.{Frame, NotAsNeeded, NoRoom, AfterClosed, EndsEarly}
use Rattle.records.specs.Chains.{Record}
use Rattle.records.specs.Readers.{Reader, read_bytes}
use Rattle.logic.specs.declared.terms.FactView.{FactView}
use Rattle.logic.specs.declared.terms.Node.{Node}
use Rattle.piles.specs.declared.terms.Layout.{Layout}
use Rattle.piles.specs.Packs.{Readings}
use Rattle.rules.specs.declared.outcome.Growth.{Growth}
use Rattle.rules.specs.declared.outcome.Outcome.{Outcome}
use Rattle.rules.specs.declared.outcome.Outcome.TheVariants.{Closes, Goes, Forks}
use Rattle.rules.specs.Applying.{applied}
use Rattle.rules.specs.Decoding.{onward, step_of}
use Rattle.rules.specs.Outcomes.{listed}
use Rattle.rules.specs.Scenes.{Scene, look}

-- a branch: its facts by position, and how many labels it has
pub record Branch (X : Type 0) : Type 0 where
  pub facts : List X
  pub labels : ℕ

-- how many facts, and how many waiting branches, there is room for
pub record Room : Type 0 where
  pub trail : ℕ
  pub waiting : ℕ

-- what a derivation is read by: what a place says, how a fact is laid in one, what is seen of a formula, the pile's bodies and readings,
-- the number of principals, and the room. X is what a place holds, F what a formula is given by
pub record Setting (X F : Type 0) : Type 0 where
  pub says : X → Option (FactView F)
  pub lays : FactView F → X
  pub view : F → Node F
  pub layouts : ℕ → Option Layout
  pub readings : Readings
  pub principals : ℕ
  pub room : Room

abbrev pub Answer : Type 0
Answer = Result (Unit {0}) Refusal

-- a record by its number
abbrev pub number : ℕ → RecordNumber
number i = record { 0 = i }

-- the label count after a premise
abbrev pub labels_after : ℕ → Bool → ℕ
labels_after n opens = cond opens (n + 1) n

-- a label that is opened is one of 32
abbrev pub label_fits : ℕ → Bool → Bool
label_fits n opens = cond opens (nat_lt n 32) true

-- a premise fits a trail with so many facts, and its label, if it opens one, is one of 32
abbrev pub fits : {F : Type 0} → ℕ → ℕ → ℕ → Growth F → Bool
fits room used n p = nat_le (used + length (listed p.facts)) room && label_fits n p.opens

abbrev pub branch : {X : Type 0} → List X → ℕ → Branch X
branch facts n = record { facts = facts; labels = n }

module _ {X F : Type 0} (lays : FactView F → X) (room : Room) where
  -- the branch with a premise's facts behind its own
  abbrev pub grown : Branch X → Growth F → Branch X
  grown b p = branch (b.facts ++ map lays (listed p.facts)) (labels_after b.labels p.opens)

  -- a premise has room in a branch
  abbrev pub has_room : Branch X → Growth F → Bool
  has_room b p = fits room.trail (length b.facts) b.labels p

  -- what record `at` makes of the current branch b and the waiting ones, by what its step does
  abbrev pub moved : RecordNumber → Option (Outcome F) → Branch X → List (Branch X) → Result (List (Branch X)) Refusal
  moved at None b bs = Err (NotAsNeeded at)
  moved at (Some Closes) b bs = Ok bs
  moved at (Some (Goes p)) b bs = cond (has_room b p) (Ok (grown b p ∷ bs)) (Err (NoRoom at))
  moved at (Some (Forks p q)) b bs =
      cond (has_room b p && (has_room b q && nat_lt (length bs) room.waiting)) (Ok (grown b p ∷ grown b q ∷ bs)) (Err (NoRoom at))

module _ {X F : Type 0} (S : Setting X F) where
  -- what a step sees of a branch
  abbrev pub scene : Branch X → Scene F
  scene b = record { at = look S.says b.facts; view = S.view; labels = b.labels; readings = S.readings; principals = S.principals }

  -- what record `at` makes of the current branch b and the waiting ones: it is read as a step, then the step is applied
  abbrev pub stepped : RecordNumber → Record → Branch X → List (Branch X) → Result (List (Branch X)) Refusal
  stepped at r b bs =
      onward (step_of S.layouts S.principals b.labels r at) λ step. moved S.lays S.room at (applied (scene b) step) b bs

  -- what record i makes of the open branches
  abbrev pub advanced : ℕ → Record → List (Branch X) → Result (List (Branch X)) Refusal
  advanced i r [] = Err (AfterClosed (number i))
  advanced i r (b ∷ bs) = stepped (number i) r b bs

-- the file ends after i records
abbrev pub ended : {X : Type 0} → ℕ → List (Branch X) → Answer
ended i [] = Ok tt
ended i (b ∷ bs) = Err (EndsEarly (number i))

-- bytes follow i records, and begin no record
abbrev pub broken_off : {X : Type 0} → ℕ → List (Branch X) → Answer
broken_off i [] = Err (AfterClosed (number i))
broken_off i (b ∷ bs) = Err (Frame (number i))

-- how a derivation is read, record by record
abbrev pub reader : {X F : Type 0} → Setting X F → Reader (List (Branch X)) (Unit {0})
reader S = record { step = advanced S; end = ended; broken = broken_off }

-- the answer to a whole file: the facts of the branch must fit first
abbrev pub examined : {X F : Type 0} → Setting X F → Branch X → List ℕ → Answer
examined S b bytes = cond (nat_le (length b.facts) S.room.trail) (read_bytes (reader S) 0 (b ∷ []) bytes) (Err (NoRoom (number 0)))

-- The step that a record asks for. Assumes nothing.
use Rattle.std.specs.Prelude.{◌≡◌, ℕ, ◌+◌, Bool, cond, List, length, Some, None, Ok, Err, Option, Result, ◌==◌, nat_lt}
use Rattle.records.specs.Bytes.{word}
use Rattle.records.specs.Chains.{Record}
use Rattle.records.specs.Kinds.{decoded}
use Rattle.records.specs.declared.numbers.Label.{Label}
use Rattle.records.specs.declared.numbers.Principal.{Principal}
use Rattle.records.specs.declared.numbers.RecordNumber.{RecordNumber}
use Rattle.records.specs.declared.refusal.Refusal.{Refusal}
use Rattle.records.specs.declared.refusal.Refusal.TheVariants.{Frame, Kind, OutOfRange}
use Rattle.piles.specs.declared.terms.Arity.{Arity}
use Rattle.piles.specs.declared.terms.Arity.TheVariants.{Zero as NoPosition, One as OnePosition, Two as TwoPositions}
use Rattle.piles.specs.declared.terms.Layout.{Layout}
use Rattle.rules.specs.declared.step.Positions.{Positions}
use Rattle.rules.specs.declared.step.Positions.TheVariants.{Zero, One, Two}
use Rattle.rules.specs.declared.step.Step.{Step}
use Rattle.rules.specs.declared.step.Step.TheVariants.{AtomsClose, FalsityCloses, AndLeft, AndRight, OrLeft, OrRight, ImpliesLeft, ImpliesRight, ModalLeft, ModalRight, PermittedLeft, PermittedRight, Reflexive, Transitive, Monotone, OfPack}
use Rattle.rules.specs.Contents.{position_at, one_position, one_label, closing_at, left_order_at, left_arrow_at, right_arrow_at, two_orders_at, order_arrow_order_at}

-- what was read, made into something else; a refusal stays
abbrev pub onward : {X Y : Type 0} → Result X Refusal → (X → Result Y Refusal) → Result Y Refusal
onward (Ok x) f = f x
onward (Err e) f = Err e

-- the bytes of a number, if the body has it
abbrev pub width : Bool → ℕ
width b = cond b 2 0

-- the bytes of the positions
abbrev pub positions_width : Arity → ℕ
positions_width NoPosition = 0
positions_width OnePosition = 2
positions_width TwoPositions = 4

-- the positions, at the front of the body
abbrev pub positions_at : Arity → List ℕ → Positions
positions_at NoPosition bs = Zero
positions_at OnePosition bs = One (position_at bs 0)
positions_at TwoPositions bs = Two (position_at bs 0) (position_at bs 2)

-- a number that the body may have at byte i, below a limit
abbrev pub number_at : List ℕ → ℕ → Bool → ℕ → RecordNumber → Result (Option ℕ) Refusal
number_at bs i wanted limit at = cond wanted (cond (nat_lt (word bs i) limit) (Ok (Some (word bs i))) (Err (OutOfRange at))) (Ok None)

-- a number as a label, and as a principal
abbrev pub label_of : Option ℕ → Option Label
label_of None = None
label_of (Some x) = Some (record { 0 = x })

abbrev pub principal_of : Option ℕ → Option Principal
principal_of None = None
principal_of (Some a) = Some (record { 0 = a })

-- the bytes that a layout asks for
abbrev pub layout_size : Layout → ℕ
layout_size b = positions_width b.positions + width b.label + width b.principal

-- a pack's step: unknown where no body is told; then the body's size; then the label, below n, and the principal, below P
abbrev pub pack_step : ℕ → ℕ → ℕ → List ℕ → RecordNumber → Option Layout → Result Step Refusal
pack_step P n kind bs at None = Err (Kind at)
pack_step P n kind bs at (Some b) =
    cond (length bs == layout_size b)
    (onward (number_at bs (positions_width b.positions) b.label n at) λ label.
    onward (number_at bs (positions_width b.positions + width b.label) b.principal P at) λ principal.
    Ok (OfPack (record { kind = kind; positions = positions_at b.positions bs; label = label_of label; principal = principal_of principal })))
    (Err (Frame at))

-- the label of a step, below n
abbrev pub label_below : ℕ → RecordNumber → Label → Result Step Refusal
label_below n at x = cond (nat_lt x.0 n) (Ok (Reflexive x)) (Err (OutOfRange at))

-- the step of a record in a branch with n labels: its kind, then its size, then its range
abbrev pub step_of : (ℕ → Option Layout) → ℕ → ℕ → Record → RecordNumber → Result Step Refusal
step_of layouts P n r at =
    (cond (r.kind == 32) (onward (decoded 6 closing_at r.body at) λ c. Ok (AtomsClose c))
    (cond (r.kind == 33) (onward (decoded 2 one_position r.body at) λ c. Ok (FalsityCloses c))
    (cond (r.kind == 34) (onward (decoded 2 one_position r.body at) λ c. Ok (AndLeft c))
    (cond (r.kind == 35) (onward (decoded 2 one_position r.body at) λ c. Ok (AndRight c))
    (cond (r.kind == 36) (onward (decoded 2 one_position r.body at) λ c. Ok (OrLeft c))
    (cond (r.kind == 37) (onward (decoded 2 one_position r.body at) λ c. Ok (OrRight c))
    (cond (r.kind == 38) (onward (decoded 4 left_order_at r.body at) λ c. Ok (ImpliesLeft c))
    (cond (r.kind == 39) (onward (decoded 2 one_position r.body at) λ c. Ok (ImpliesRight c))
    (cond (r.kind == 40) (onward (decoded 4 left_arrow_at r.body at) λ c. Ok (ModalLeft c))
    (cond (r.kind == 41) (onward (decoded 2 one_position r.body at) λ c. Ok (ModalRight c))
    (cond (r.kind == 42) (onward (decoded 2 one_position r.body at) λ c. Ok (PermittedLeft c))
    (cond (r.kind == 43) (onward (decoded 4 right_arrow_at r.body at) λ c. Ok (PermittedRight c))
    (cond (r.kind == 44) (onward (decoded 2 one_label r.body at) λ x. label_below n at x)
    (cond (r.kind == 45) (onward (decoded 4 two_orders_at r.body at) λ c. Ok (Transitive c))
    (cond (r.kind == 46) (onward (decoded 6 order_arrow_order_at r.body at) λ c. Ok (Monotone c))
    (pack_step P n r.kind r.body at (layouts r.kind)))))))))))))))))

-- a record of this kind is read as `step` says, in a branch with n labels, from what a body of this size holds
abbrev pub IsRead : {X : Type 0} → ℕ → ℕ → (List ℕ → X) → (ℕ → RecordNumber → X → Result Step Refusal) → Type 0
IsRead number size content step =
    (layouts : ℕ → Option Layout) (P n : ℕ) (body : List ℕ) (at : RecordNumber)
    → step_of layouts P n (record { kind = number; body = body }) at ≡ onward (decoded size content body at) (step n at)

-- a record of this kind is read as a step of one kind, whatever the branch
abbrev pub IsStep : {X : Type 0} → ℕ → ℕ → (List ℕ → X) → (X → Step) → Type 0
IsStep number size content step = IsRead number size content (λ n at c. Ok (step c))

-- What a pop says of the whole list of items. Assumes nothing.
use Rattle.std.proofs.Common.{◌≡◌, ℕ, ◌+◌, ◌-◌, ◌<◌, List, [], ◌∷◌, ◌++◌, reverse, length, get_or, take, Some, None, sym, refl, ap, ◌∙◌, arith}
use Rattle.std.proofs.lemmas.Option.{slice_get-get_or}
use Rattle.std.proofs.lemmas.List.{take_more, take_all, reverse-append}
use Rattle.stack.specs.Stacks.{latest, before_latest}

-- where there is no latest item, there is none at all
pub popped_none : {X : Type 0} (xs : List X) → None ≡ latest xs → xs ≡ []
popped_none [] e = refl
popped_none {X} (y ∷ ys) e =
    let within : length (y ∷ ys) - 1 < length (y ∷ ys) = omega arith in
    let is = slice_get-get_or (y ∷ ys) (length (y ∷ ys) - 1) y within in
    let z : ◌≡◌ {A = ℕ} 0 1 = cc in
    absurd (omega arith)

-- the items are those before the latest, and then the latest
pub popped_some : {X : Type 0} (xs rest : List X) (x : X) → Some x ≡ latest xs → rest ≡ before_latest xs → xs ≡ rest ++ x ∷ []
popped_some [] rest x e is = let z : ◌≡◌ {A = ℕ} 0 1 = cc in absurd (omega arith)
popped_some (y ∷ ys) rest x e is =
    let n = length (y ∷ ys) - 1 in
    let within : n < length (y ∷ ys) = omega arith in
    let one : n + 1 ≡ length (y ∷ ys) = omega arith in
    let at = slice_get-get_or (y ∷ ys) n x within in
    let read : get_or (y ∷ ys) n x ≡ x = cc in
    sym (take_all (n + 1) (y ∷ ys) (omega arith)) ∙ take_more (y ∷ ys) n x within ∙ ap (λ z. take n (y ∷ ys) ++ (z ∷ [])) read ∙ ap (λ zs. zs ++ (x ∷ [])) (sym is)

-- the same with the latest first
pub popped_first : {X : Type 0} (xs rest : List X) (x : X) → Some x ≡ latest xs → rest ≡ before_latest xs → reverse xs ≡ x ∷ reverse rest
popped_first xs rest x e is = ap reverse (popped_some xs rest x e is) ∙ reverse-append rest (x ∷ [])

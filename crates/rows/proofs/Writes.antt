-- One set written among the arrows. Assumes nothing.
use Rattle.std.proofs.Common.{◌≡◌, ℕ, zero, suc, ◌<◌, List, length, get_or, set, sym, refl, ap, ◌∙◌, subst, ⊎_elim, arith}
use Rattle.std.proofs.lemmas.List.{get_or-set_same, get_or-set_other, set_past}
use Rattle.std.proofs.lemmas.Bool.{cases_eq, cases_lt}
use Rattle.logic.specs.declared.terms.Modality.{Modality}
use Rattle.logic.specs.declared.terms.Modality.TheVariants.{Says, Controls, Ratified, Permitted}
use Rattle.rows.specs.declared.masks.WorldSet.{WorldSet}
use Rattle.rows.specs.declared.rows.Arrows.{Arrows}
use Rattle.rows.specs.declared.rows.Row.{Row}
use Rattle.rows.specs.Masks.{no_set}
use Rattle.rows.specs.RowsOf.{no_row, no_arrows, ends_at, with_end, with_row_end, modality_place}

-- every modality has a place of its own
abbrev place_modality : ℕ → Modality
place_modality zero = Says
place_modality (suc zero) = Controls
place_modality (suc (suc zero)) = Ratified
place_modality (suc (suc (suc n))) = Permitted

place_back : (k : Modality) → place_modality (modality_place k) ≡ k
place_back Says = refl
place_back Controls = refl
place_back Ratified = refl
place_back Permitted = refl

pub same_modality : (l k : Modality) → modality_place l ≡ modality_place k → l ≡ k
same_modality l k e = sym (place_back l) ∙ ap place_modality e ∙ place_back k

pub place_small : (k : Modality) → modality_place k < 4
place_small Says = omega arith
place_small Controls = omega arith
place_small Ratified = omega arith
place_small Permitted = omega arith

-- where a row of another principal or another world is read
row_elsewhere : (rs : List Row) (A x : ℕ) (m : WorldSet) (B z : ℕ) → ((B ≡ A) × (z ≡ x) → ⊥)
    → get_or (get_or (with_row_end rs A x m) B no_row).ends z no_set ≡ get_or (get_or rs B no_row).ends z no_set
row_elsewhere rs A x m B z other =
    ⊎_elim (λ e. ⊎_elim (λ l. same e l) (λ l. ap (λ (s : List Row). get_or (get_or s B no_row).ends z no_set) (set_past rs A (record { ends = set (get_or rs A no_row).ends x m }) l)) (cases_lt A (length rs)))
    (λ n. ap (λ (r : Row). get_or r.ends z no_set) (get_or-set_other rs A B (record { ends = set (get_or rs A no_row).ends x m }) no_row n))
    (cases_eq B A)
  where
    same : B ≡ A → A < length rs → get_or (get_or (with_row_end rs A x m) B no_row).ends z no_set ≡ get_or (get_or rs B no_row).ends z no_set
    same e l =
        subst (λ (b : ℕ). get_or (get_or (with_row_end rs A x m) b no_row).ends z no_set ≡ get_or (get_or rs b no_row).ends z no_set) (sym e)
        (ap (λ (r : Row). get_or r.ends z no_set) (get_or-set_same rs A (record { ends = set (get_or rs A no_row).ends x m }) no_row l)
        ∙ get_or-set_other (get_or rs A no_row).ends x z m no_set (λ f. other (e, f)))

-- where arrows of another modality, another principal or another world are read
pub end_elsewhere : (rs : List Arrows) (k A x : ℕ) (m : WorldSet) (l B z : ℕ) → ((l ≡ k) × (B ≡ A) × (z ≡ x) → ⊥)
    → ends_at (with_end rs k A x m) l B z ≡ ends_at rs l B z
end_elsewhere rs k A x m l B z other =
    ⊎_elim (λ e. ⊎_elim (λ h. same e h) (λ h. ap (λ (s : List Arrows). ends_at s l B z) (set_past rs k (record { of = with_row_end (get_or rs k no_arrows).of A x m }) h)) (cases_lt k (length rs)))
    (λ n. ap (λ (v : Arrows). get_or (get_or v.of B no_row).ends z no_set) (get_or-set_other rs k l (record { of = with_row_end (get_or rs k no_arrows).of A x m }) no_arrows n))
    (cases_eq l k)
  where
    same : l ≡ k → k < length rs → ends_at (with_end rs k A x m) l B z ≡ ends_at rs l B z
    same e h =
        subst (λ (j : ℕ). ends_at (with_end rs k A x m) j B z ≡ ends_at rs j B z) (sym e)
        (ap (λ (v : Arrows). get_or (get_or v.of B no_row).ends z no_set) (get_or-set_same rs k (record { of = with_row_end (get_or rs k no_arrows).of A x m }) no_arrows h)
        ∙ row_elsewhere (get_or rs k no_arrows).of A x m B z (λ f. other (e, f.0, f.1)))

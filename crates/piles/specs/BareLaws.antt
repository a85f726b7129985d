-- The bare pack keeps the laws. Assumes nothing.
use Rattle.std.specs.Prelude.{◌≡◌, ℕ, [], Some, None, ◌≢◌, refl}
use Rattle.std.proofs.Common.{arith}
use Rattle.piles.specs.declared.terms.Layout.{Layout}
use Rattle.piles.specs.declared.terms.Reading.TheVariants.{Unknown}
use Rattle.piles.specs.Packs.{Laws}
use Rattle.piles.specs.declared.bare.Bare.{Bare}

-- a body is not none
nothing_told : (b : Layout) → None ≢ Some b
nothing_told b e = let z : ◌≡◌ {A = ℕ} 0 1 = cc in omega arith

pub bare_laws : Laws {K = Bare} (λ _. []) (λ _ _. None) (λ _ _ _ _ _. Unknown)
bare_laws = record {
  sound = λ k P n kind b o e asked F regular meets σ placed hold. tt;
  scope = λ k P n kind b o e asked. tt;
  one_world = λ k P some. tt;
  high = λ k kind low. refl;
  untold = λ k P n kind o e asked. refl;
  told = λ k P n kind b o e asked unknown. nothing_told b e;
  formulas = λ k P n kind b o e asked formula. absurd (nothing_told b e);
}

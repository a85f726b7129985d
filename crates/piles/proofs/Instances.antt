-- What is true of every way in which operands are taken apart. Assumes nothing.
use Rattle.std.proofs.Common.{◌≡◌, ℕ, ◌<◌, Bool, true, false, cond, T, eqb, Some, None, Option, sym, refl, ap, ◌∙◌, subst, ap₂, inl, inr, arith, eqb→eq}
use Rattle.std.proofs.lemmas.Bool.{eq-eqb, ne_eqb}
use Rattle.std.proofs.lemmas.Option.{same_Some}
use Rattle.records.specs.declared.numbers.Label.{Label}
use Rattle.records.specs.declared.numbers.World.{World}
use Rattle.records.specs.declared.numbers.Principal.{Principal}
use Rattle.logic.specs.declared.terms.Modality.{Modality}
use Rattle.logic.specs.declared.terms.Modality.TheVariants.{Says, Controls, Ratified, Permitted}
use Rattle.logic.specs.declared.terms.Link.TheVariants.{Order, Arrow}
use Rattle.logic.specs.declared.terms.FactView.{FactView}
use Rattle.logic.specs.declared.terms.FactView.TheVariants.{Left, Right, Linked}
use Rattle.logic.specs.Modalities.{modality_number, numbered_modality}
use Rattle.logic.specs.Models.{Frame}
use Rattle.logic.specs.Facts.{Standing, linked}
use Rattle.piles.specs.declared.terms.Named.{Named}
use Rattle.piles.specs.declared.terms.Named.TheVariants.{Nothing, Single, Pair}
use Rattle.piles.specs.declared.terms.Reading.{Reading}
use Rattle.piles.specs.declared.terms.Reading.TheVariants.{NoInstance}
use Rattle.piles.specs.Asked.{FactFits, NamedFit, LabelFits, PrincipalFits, is_formula}
use Rattle.piles.specs.Readings.{FactHolds, NamedHold, FactHas, NamedHas, extend}
use Rattle.piles.specs.Instances.{of_none, of_one, of_two, of_label, of_principal, of_arrow, of_same, same_modality, new_label}

-- something is true of each fact named
abbrev pub NamedAll : (FactView (Unit {0}) → Type 0) → Named → Type 0
NamedAll Q Nothing = Unit {0}
NamedAll Q (Single f) = Q f
NamedAll Q (Pair f g) = Q f × Q g

-- a fact in range that holds
abbrev pub Known : ℕ → ℕ → Frame → Standing → FactView (Unit {0}) → Type 0
Known P n F σ f = FactFits P n f × FactHolds F σ f

pub all_known : (P n : ℕ) (F : Frame) (σ : Standing) (m : Named) → NamedFit P n m → NamedHold F σ m → NamedAll (Known P n F σ) m
all_known P n F σ Nothing fit hold = tt
all_known P n F σ (Single f) fit hold = (fit, hold)
all_known P n F σ (Pair f g) fit hold = ((fit.0, hold.0), (fit.1, hold.1))

-- a fact in range whose labels may be used
abbrev pub Usables : ℕ → ℕ → (Label → Type 0) → FactView (Unit {0}) → Type 0
Usables P n S f = FactFits P n f × ((x : Label) → FactHas x f → S x)

pub all_usable : (P n : ℕ) (S : Label → Type 0) (m : Named) → NamedFit P n m → ((x : Label) → NamedHas x m → S x) → NamedAll (Usables P n S) m
all_usable P n S Nothing fit has = tt
all_usable P n S (Single f) fit has = (fit, has)
all_usable P n S (Pair f g) fit has = ((fit.0, λ x h. has x (inl h)), (fit.1, λ x h. has x (inr h)))

-- nothing is asked of a fact
abbrev pub Any : FactView (Unit {0}) → Type 0
Any f = Unit {0}

pub all_any : (m : Named) → NamedAll Any m
all_any Nothing = tt
all_any (Single f) = tt
all_any (Pair f g) = (tt, tt)

-- a modality is found again by its number
named : (k : Modality) → numbered_modality (modality_number k) ≡ Some k
named Says = refl
named Controls = refl
named Ratified = refl
named Permitted = refl

modality_same : (j k : Modality) → T (same_modality j k) → j ≡ k
modality_same j k t = same_Some j k (sym (named j) ∙ ap numbered_modality (eqb→eq (modality_number j) (modality_number k) t) ∙ named k)

label_same : (x y : Label) → x.0 ≡ y.0 → x ≡ y
label_same x y e = ap (λ (i : ℕ). new_label i) e

-- What is true where there is no instance, and of each instance, is true of the reading.
module _ (Good : Reading → Type 0) (ok : Good NoInstance) where
  pub of_none_good : (m : Named) (r : Reading) → Good r → Good (of_none m r)
  of_none_good Nothing r g = g
  of_none_good (Single f) r g = ok
  of_none_good (Pair f h) r g = ok

  pub of_label_good : (n : ℕ) (l : Option Label) → LabelFits n l → (k : Label → Reading) → ((x : Label) → l ≡ Some x → x.0 < n → Good (k x)) → Good (of_label l k)
  of_label_good n None fit k g = ok
  of_label_good n (Some x) fit k g = g x refl fit

  pub of_principal_good : (P : ℕ) (a : Option Principal) → PrincipalFits P a → (k : Principal → Reading) → ((A : Principal) → A.0 < P → Good (k A)) → Good (of_principal a k)
  of_principal_good P None fit k g = ok
  of_principal_good P (Some A) fit k g = g A fit

  pub of_same_good : (x y : Label) (r : Reading) → (x ≡ y → Good r) → Good (of_same x y r)
  of_same_good x y r g = go (eqb x.0 y.0) (λ t. label_same x y (eqb→eq x.0 y.0 t))
    where
      go : (b : Bool) → (T b → x ≡ y) → Good (cond b r NoInstance)
      go true e = g (e tt)
      go false e = ok

  module _ (Q : FactView (Unit {0}) → Type 0) where
    pub of_one_good : (m : Named) → NamedAll Q m → (k : FactView (Unit {0}) → Reading) → ((f : FactView (Unit {0})) → Q f → Good (k f)) → Good (of_one m k)
    of_one_good Nothing q k g = ok
    of_one_good (Single f) q k g = g f q
    of_one_good (Pair f h) q k g = ok

    pub of_two_good : (m : Named) → NamedAll Q m → (k : FactView (Unit {0}) → FactView (Unit {0}) → Reading) → ((f h : FactView (Unit {0})) → Q f → Q h → Good (k f h)) → Good (of_two m k)
    of_two_good Nothing q k g = ok
    of_two_good (Single f) q k g = ok
    of_two_good (Pair f h) q k g = g f h q.0 q.1

    pub of_arrow_good : (j : Modality) (f : FactView (Unit {0})) → Q f → (k : Principal → Label → Label → Reading) → ((A : Principal) (x y : Label) → Q (Linked (Arrow j A x y)) → Good (k A x y)) → Good (of_arrow j f k)
    of_arrow_good j (Left x f) q k g = ok
    of_arrow_good j (Right x f) q k g = ok
    of_arrow_good j (Linked (Order x y)) q k g = ok
    of_arrow_good j (Linked (Arrow i A x y)) q k g = go (same_modality j i) (modality_same j i)
      where
        go : (b : Bool) → (T b → j ≡ i) → Good (cond b (k A x y) NoInstance)
        go true e = g A x y (subst (λ (l : Modality). Q (Linked (Arrow l A x y))) (sym (e tt)) q)
        go false e = ok

-- a formula is no arrow
pub of_arrow_formula : (j : Modality) (f : FactView (Unit {0})) (k : Principal → Label → Label → Reading) → T (is_formula f) → of_arrow j f k ≡ NoInstance
of_arrow_formula j (Left x f) k t = refl
of_arrow_formula j (Right x f) k t = refl
of_arrow_formula j (Linked l) k t = absurd t

-- an arrow between labels below n, under the standing with the label n at a world
extend_old : (σ : Standing) (n : ℕ) (w : World) (x : Label) → x.0 < n → extend σ n w x ≡ σ x
extend_old σ n w x h = ap (λ (b : Bool). cond b w (σ x)) (ne_eqb x.0 n (λ e. omega arith))

extend_new : (σ : Standing) (n : ℕ) (w : World) → extend σ n w (new_label n) ≡ w
extend_new σ n w = ap (λ (b : Bool). cond b w (σ (new_label n))) (eq-eqb n n refl)

module _ (F : Frame) (σ : Standing) (n : ℕ) (w : World) (k : Modality) (A : Principal) where
  moved : (x y : Label) (u v : World) → extend σ n w x ≡ u → extend σ n w y ≡ v → T (F.arrow k A.0 u.0 v.0) → T (linked F (extend σ n w) (Arrow k A x y))
  moved x y u v e d t = subst (λ (b : Bool). T b) (sym (ap₂ (λ (a b : World). F.arrow k A.0 a.0 b.0) e d)) t

  pub arrow_old : (x y : Label) → x.0 < n → y.0 < n → T (F.arrow k A.0 (σ x).0 (σ y).0) → T (linked F (extend σ n w) (Arrow k A x y))
  arrow_old x y hx hy t = moved x y (σ x) (σ y) (extend_old σ n w x hx) (extend_old σ n w y hy) t

  -- .. from a label below n to n
  pub arrow_to_new : (x : Label) → x.0 < n → T (F.arrow k A.0 (σ x).0 w.0) → T (linked F (extend σ n w) (Arrow k A x (new_label n)))
  arrow_to_new x hx t = moved x (new_label n) (σ x) w (extend_old σ n w x hx) (extend_new σ n w) t

  -- .. from n to a label below n
  pub arrow_from_new : (y : Label) → y.0 < n → T (F.arrow k A.0 w.0 (σ y).0) → T (linked F (extend σ n w) (Arrow k A (new_label n) y))
  arrow_from_new y hy t = moved (new_label n) y w (σ y) (extend_new σ n w) (extend_old σ n w y hy) t

-- The conditions of the published pile, written out; frames that fail one of them; a model where says is not ratified. Assumes nothing.
use Rattle.std.specs.Prelude.{ℕ, ◌<◌, ◌≤◌, Bool, true, false, not, ◌||◌, T, ◌↔◌, List, [], ◌∷◌, ◌==◌, refl}
use Rattle.std.proofs.Common.{sym, subst, inl, inr, arith, eqb→eq}
use Rattle.std.proofs.Math.Logic.{⊎_map}
use Rattle.std.proofs.lemmas.Bool.{eq-eqb}
use Rattle.logic.specs.declared.terms.Modality.{Modality}
use Rattle.logic.specs.declared.terms.Modality.TheVariants.{Says, Controls, Ratified, Permitted}
use Rattle.logic.specs.Models.{Frame, Model, atom}
use Rattle.logic.specs.ModelRules.{Regular, Keeps}
use Rattle.piles.specs.Asked.{SomePrincipals}
use Rattle.piles.specs.Packs.{Condition, Meets, Admits}
use Rattle.packs.specs.ISsMeaning.{SaysSays}
use Rattle.packs.specs.C2pMeaning.{ControlsPermits}
use Rattle.packs.specs.DelCMeaning.{Delegates}
use Rattle.packs.specs.RsMeaning.{SaysRatified}
use Rattle.piles.proofs.Passing.{T_true}
use Rattle.axioms.specs.InWords.{InWords, Agree, Alone, SaysWithoutRatified, FourAxioms, AsPublished}
use Rattle.axioms.specs.Axioms.{i_ss_valid, c2p_valid, del_c_valid, rs_valid}

-- the conditions, from the top
abbrev pub four : List Condition
four = SaysSays ∷ ControlsPermits ∷ Delegates ∷ SaysRatified ∷ []

in_words : (P : ℕ) (F : Frame) → Meets four P F ↔ InWords P F
in_words P F = (
  λ c. record {
    says_through = λ A B hA hB x y z hx hy hz s t. c.0 A hA B hB x hx y hy s z hz t;
    shared_end = λ A hA x hx. c.1.0 A hA x hx;
    delegates = λ A B hA hB x y hx hy t. c.1.1.0 A hA B hB x hx y hy t;
    ratified = λ A hA x y hx hy t. c.1.1.1.0 A hA x hx y hy t;
  },
  λ w. (
    λ A hA B hB x hx y hy s z hz t. w.says_through A B hA hB x y z hx hy hz s t,
    (
      λ A hA x hx. w.shared_end A hA x hx,
      (λ A hA B hB x hx y hy t. w.delegates A B hA hB x y hx hy t, (λ A hA x hx y hy t. w.ratified A hA x y hx hy t, tt)),
    ),
  ),
)

admits : (P : ℕ) (m : Model) → Admits four P m ↔ (Keeps P m × InWords P m.frame)
admits P m = (
  λ a. (a.keeps, (in_words P m.frame).0 a.meets),
  λ b. record { keeps = b.0; meets = (in_words P m.frame).1 b.1 },
)

-- The conditions of one frame are those of a frame that agrees with it.
module _ (P : ℕ) (F G : Frame) (agree : Agree P F G) where
  inside : (x : ℕ) → x < G.worlds → x < F.worlds
  inside x h = omega (arith, agree.worlds)

  outside : (x : ℕ) → x < F.worlds → x < G.worlds
  outside x h = omega (arith, agree.worlds)

  to : (k : Modality) (A x y : ℕ) → A < P → x < G.worlds → y < G.worlds → T (F.arrow k A x y) → T (G.arrow k A x y)
  to k A x y hA hx hy t = subst (λ (b : Bool). T b) (agree.arrow k A x y hA (inside x hx) (inside y hy)) t

  from : (k : Modality) (A x y : ℕ) → A < P → x < G.worlds → y < G.worlds → T (G.arrow k A x y) → T (F.arrow k A x y)
  from k A x y hA hx hy t = subst (λ (b : Bool). T b) (sym (agree.arrow k A x y hA (inside x hx) (inside y hy))) t

  words_agree : InWords P F → InWords P G
  words_agree w = record {
    says_through = λ A B hA hB x y z hx hy hz s t.
        to Says A x z hA hx hz (w.says_through A B hA hB x y z (inside x hx) (inside y hy) (inside z hz) (from Says B x y hB hx hy s) (from Says A y z hA hy hz t));
    shared_end = λ A hA x hx.
        let e = w.shared_end A hA x (inside x hx) in
        (e.0, outside e.0 e.1, (to Controls A x e.0 hA hx (outside e.0 e.1) e.2.0, to Permitted A x e.0 hA hx (outside e.0 e.1) e.2.1));
    delegates = λ A B hA hB x y hx hy t.
        ⊎_map (to Controls A x y hA hx hy)
        (λ e. (e.0, outside e.0 e.1, (to Says A x e.0 hA hx (outside e.0 e.1) e.2.0, to Controls B e.0 y hB (outside e.0 e.1) hy e.2.1)))
        (w.delegates A B hA hB x y (inside x hx) (inside y hy) (from Controls B x y hB hx hy t));
    ratified = λ A hA x y hx hy t. to Ratified A x y hA hx hy (w.ratified A hA x y (inside x hx) (inside y hy) (from Says A x y hA hx hy t));
  }

agrees : (P : ℕ) (F G : Frame) → Agree P F G → Meets four P F → Meets four P G
agrees P F G agree c = (in_words P G).1 (words_agree P F G agree ((in_words P F).0 c))

-- A frame in which no world is above another keeps the rules, whatever its arrows.
abbrev pub apart : ℕ → (Modality → ℕ → ℕ → ℕ → Bool) → Frame
apart n arrow = record { worlds = n; above = λ x y. (x == y); arrow = arrow }

pub apart_regular : (n : ℕ) (arrow : Modality → ℕ → ℕ → ℕ → Bool) (P : ℕ) → 0 < n → Regular P (apart n arrow)
apart_regular n arrow P some = record {
  inhabited = some;
  reflexive = λ x hx. T_true (x == x) (eq-eqb x x refl);
  transitive = λ x hx y hy z hz s t. subst (λ (v : ℕ). T (x == v)) (eqb→eq y z t) s;
  monotone = λ k u A hA x hx y hy z hz w hw s t r.
      subst (λ (v : ℕ). T (arrow k A v w)) (sym (eqb→eq x y s)) (subst (λ (v : ℕ). T (arrow k A y v)) (eqb→eq z w r) t);
  monotone_permitted = λ A hA x hx y hy z hz w hw s t r.
      subst (λ (v : ℕ). T (arrow Permitted A w v)) (sym (eqb→eq x y s)) (subst (λ (v : ℕ). T (arrow Permitted A v y)) (eqb→eq z w r) t);
}

-- I-SS alone fails: two worlds, says arrows to the other world only, all other arrows
abbrev no_i_ss : Modality → ℕ → ℕ → ℕ → Bool
no_i_ss Says A x y = not (x == y)
no_i_ss Controls A x y = true
no_i_ss Ratified A x y = true
no_i_ss Permitted A x y = true

-- C2P alone fails: one world, no permitted arrow, all other arrows
abbrev no_c2p : Modality → ℕ → ℕ → ℕ → Bool
no_c2p Says A x y = true
no_c2p Controls A x y = true
no_c2p Ratified A x y = true
no_c2p Permitted A x y = false

-- del-C alone fails: two worlds, no says arrow, and only principal 0 controls up to world 1
abbrev no_del_c : Modality → ℕ → ℕ → ℕ → Bool
no_del_c Says A x y = false
no_del_c Controls A x y = A == 0 || y == 0
no_del_c Ratified A x y = true
no_del_c Permitted A x y = true

-- RS alone fails: one world, no ratified arrow, all other arrows
abbrev no_rs : Modality → ℕ → ℕ → ℕ → Bool
no_rs Says A x y = true
no_rs Controls A x y = true
no_rs Ratified A x y = false
no_rs Permitted A x y = true

i_ss_fails : (P : ℕ) → SomePrincipals P → SaysSays P (apart 2 no_i_ss) → ⊥
i_ss_fails P some c = c 0 some.0 0 some.0 0 (omega arith) 1 (omega arith) tt 0 (omega arith) tt

i_ss_alone : (P : ℕ) → SomePrincipals P → Alone four P 0
i_ss_alone P some = record {
  frame = apart 2 no_i_ss;
  regular = apart_regular 2 no_i_ss P (omega arith);
  fails = (
    i_ss_fails P some,
    (λ A hA x hx. (0, omega arith, (tt, tt)), (λ A hA B hB x hx y hy t. inl tt, (λ A hA x hx y hy t. tt, tt))),
  );
  place = (0, i_ss_fails P some, refl);
}

c2p_fails : (P : ℕ) → SomePrincipals P → ControlsPermits P (apart 1 no_c2p) → ⊥
c2p_fails P some c = (c 0 some.0 0 (omega arith)).2.1

c2p_alone : (P : ℕ) → SomePrincipals P → Alone four P 1
c2p_alone P some = record {
  frame = apart 1 no_c2p;
  regular = apart_regular 1 no_c2p P (omega arith);
  fails = (λ A hA B hB x hx y hy s z hz t. tt, (c2p_fails P some, (λ A hA B hB x hx y hy t. inl tt, (λ A hA x hx y hy t. tt, tt))));
  place = (1, (λ A hA B hB x hx y hy s z hz t. tt, c2p_fails P some), refl);
}

del_c_fails : (P : ℕ) → 2 ≤ P → Delegates P (apart 2 no_del_c) → ⊥
del_c_fails P two c = elim (c 1 (omega arith) 0 (omega arith) 0 (omega arith) 1 (omega arith) tt) [ inl t ↦ t | inr e ↦ e.2.0 ]

controlled : (A : ℕ) → T (A == 0 || true)
controlled A = go (A == 0)
  where
    go : (b : Bool) → T (b || true)
    go true = tt
    go false = tt

del_c_alone : (P : ℕ) → SomePrincipals P → 2 ≤ P → Alone four P 2
del_c_alone P some two = record {
  frame = apart 2 no_del_c;
  regular = apart_regular 2 no_del_c P (omega arith);
  fails = (λ A hA B hB x hx y hy s z hz t. t, (λ A hA x hx. (0, omega arith, (controlled A, tt)), (del_c_fails P two, (λ A hA x hx y hy t. tt, tt))));
  place = (2, (λ A hA B hB x hx y hy s z hz t. t, (λ A hA x hx. (0, omega arith, (controlled A, tt)), del_c_fails P two)), refl);
}

rs_fails : (P : ℕ) → SomePrincipals P → SaysRatified P (apart 1 no_rs) → ⊥
rs_fails P some c = c 0 some.0 0 (omega arith) 0 (omega arith) tt

rs_alone : (P : ℕ) → SomePrincipals P → Alone four P 3
rs_alone P some = record {
  frame = apart 1 no_rs;
  regular = apart_regular 1 no_rs P (omega arith);
  fails = (
    λ A hA B hB x hx y hy s z hz t. tt,
    (λ A hA x hx. (0, omega arith, (tt, tt)), (λ A hA B hB x hx y hy t. inl tt, (rs_fails P some, tt))),
  );
  place = (3, (λ A hA B hB x hx y hy s z hz t. tt, (λ A hA x hx. (0, omega arith, (tt, tt)), (λ A hA B hB x hx y hy t. inl tt, rs_fails P some))), refl);
}

axioms : (P : ℕ) (m : Model) → Admits four P m → FourAxioms P m
axioms P m a = record {
  i_ss = i_ss_valid P m a.keeps a.meets.0;
  c2p = c2p_valid P m a.keeps a.meets.1.0;
  del_c = del_c_valid P m a.keeps a.meets.1.1.0;
  rs = rs_valid P m a.keeps a.meets.1.1.1.0;
}

-- one world with every arrow but those of says, where no atom holds
abbrev pub silent : Modality → ℕ → ℕ → ℕ → Bool
silent Says A x y = false
silent Controls A x y = true
silent Ratified A x y = true
silent Permitted A x y = true

abbrev silent_model : Model
silent_model = record { frame = apart 1 silent; row = λ a x. false }

not_turned : (P A : ℕ) → SomePrincipals P → A < P → SaysWithoutRatified four P A
not_turned P A some hA = record {
  model = silent_model;
  admitted = record {
    keeps = record { regular = apart_regular 1 silent P (omega arith); rows_up = λ a x hx y hy s t. t };
    meets = (λ A hA B hB x hx y hy s z hz t. t, (λ A hA x hx. (0, omega arith, (tt, tt)), (λ A hA B hB x hx y hy t. inl tt, (λ A hA x hx y hy t. tt, tt))));
  };
  world = 0;
  inside = omega arith;
  formula = atom 0;
  says = tt;
  not_ratified = refl;
}

pub as_published : AsPublished four
as_published = record {
  admits = admits;
  local = agrees;
  i_ss_alone = i_ss_alone;
  c2p_alone = c2p_alone;
  del_c_alone = del_c_alone;
  rs_alone = rs_alone;
  axioms = axioms;
  not_turned = not_turned;
}

-- A dossier is taken exactly when its records are those of formulas, a label count and facts. Assumes nothing.
use Rattle.std.proofs.Common.{rules, ◌≡◌, ℕ, ◌+◌, ◌<◌, Bool, true, false, cond, eqb, ltb, ◌⊎◌, List, [], ◌∷◌, ◌++◌, length, Some, None, Ok, Err, Option, Result, sym, refl, ap, ◌∙◌, subst, inl, inr, ⊎_elim, arith}
use Rattle.std.proofs.lemmas.Grind.{common_steps}
use Rattle.std.proofs.lemmas.Bool.{eqb-true, ltb-true}
use Rattle.records.specs.declared.numbers.FormulaNumber.{FormulaNumber}
use Rattle.records.specs.declared.numbers.LabelCount.{LabelCount}
use Rattle.records.specs.declared.numbers.RecordNumber.{RecordNumber}
use Rattle.records.specs.declared.refusal.Refusal.{Refusal}
use Rattle.records.specs.declared.refusal.Refusal.TheVariants.{Kind, OutOfRange, Full}
use Rattle.records.specs.Chains.{Record, chain}
use Rattle.records.specs.Kinds.{decoded}
use Rattle.records.specs.Readers.{Reader, at_end, followed, read_on, read_bytes}
use Rattle.records.proofs.Readers.{reads_by}
use Rattle.kinds.specs.Contents.{atom_of, nothing_of, parts_of, modal_of, label_count_of, labelled_of, ordered_of, arrowed_of}
use Rattle.logic.specs.declared.terms.Modality.{Modality}
use Rattle.logic.specs.declared.terms.Modality.TheVariants.{Says, Controls, Ratified, Permitted}
use Rattle.logic.specs.declared.terms.Node.{Node}
use Rattle.logic.specs.declared.terms.Node.TheVariants.{Atom, Falsity, And, Or, Implies, Modal}
use Rattle.logic.specs.declared.terms.Link.TheVariants.{Order, Arrow}
use Rattle.logic.specs.declared.terms.FactView.{FactView}
use Rattle.logic.specs.declared.terms.FactView.TheVariants.{Left, Right, Linked}
use Rattle.logic.specs.Modalities.{modality_number, numbered_modality}
use Rattle.logic.proofs.Numbers.{numbers_name}
use Rattle.dossiers.specs.Entries.{onward, formula_of, fits_formula, arrow_named, fact_of, fits_fact, count_fits}
use Rattle.dossiers.specs.Dossiers.{Stage, formulas, sequent, Kept, numbered, with_formula, with_fact, labels_at, formulas_at, facts_at, entered, dossier_reader}
use Rattle.dossiers.specs.Laws.{rec, FormulaRecord, atom, falsity, and, or, implies, modal, FactRecord, left, right, order, arrow, Formulas, Facts, IsDossier, DossierLaw}

-- an answer is not a refusal
never : {X : Type 0} {A : Type 0} (e : Refusal) (x : X) → Err e ≡ Ok x → A
never e x is = absurd cc

-- a test that refuses was passed
passed : {X : Type 0} (b : Bool) (x : Result X Refusal) (e : Refusal) (y : X) → cond b x (Err e) ≡ Ok y → (b ≡ true) × (x ≡ Ok y)
passed b x e y is = grind arith

-- what went on came from something read
record Went {X Y : Type 0} (m : Result X Refusal) (f : X → Result Y Refusal) (y : Y) : Type 0 where
  value : X
  is : m ≡ Ok value
  after : f value ≡ Ok y

went : {X Y : Type 0} (m : Result X Refusal) (f : X → Result Y Refusal) (y : Y) → onward m f ≡ Ok y → Went m f y
went (Ok x) f y is = record { value = x; is = refl; after = is }
went (Err e) f y is = never e y is

-- a body that is read has the size of its kind
sized : {X Y : Type 0} (size : ℕ) (content : List ℕ → X) (b : List ℕ) (at : RecordNumber) (f : X → Result Y Refusal) (y : Y)
    → onward (decoded size content b at) f ≡ Ok y → (length b ≡ size) × (f (content b) ≡ Ok y)
sized size content b at f y is = grind arith

-- a body that has the size of its kind is read
reads : {X Y : Type 0} (size : ℕ) (content : List ℕ → X) (b : List ℕ) (at : RecordNumber) (f : X → Result Y Refusal)
    → length b ≡ size → onward (decoded size content b at) f ≡ f (content b)
reads size content b at f fits = grind arith

-- what a body of one kind is made into
made : {X Y : Type 0} (size : ℕ) (content : List ℕ → X) (b : List ℕ) (at : RecordNumber) (f : X → Y) (y : Y) (Q : Y → Type 0)
    → (length b ≡ size → Q (f (content b))) → onward (decoded size content b at) (λ x. Ok (f x)) ≡ Ok y → Q y
made size content b at f y Q holds is =
    let s = sized size content b at (λ x. Ok (f x)) y is in
    let same : f (content b) ≡ y = cc in
    subst Q same (holds s.0)

-- one kind tried: it is this one, or the rest tells
tried : {Y : Type 0} (kind j : ℕ) (x rest : Result Y Refusal) (y : Y) (Q : ℕ → Type 0) → (x ≡ Ok y → Q j) → (rest ≡ Ok y → Q kind) → cond (eqb kind j) x rest ≡ Ok y → Q kind
tried kind j x rest y Q this others = go (eqb kind j) refl
  where
    go : (b : Bool) → eqb kind j ≡ b → cond b x rest ≡ Ok y → Q kind
    go true t is = subst Q (sym (eqb-true kind j t)) (this is)
    go false t is = others is

-- The record of a formula.

formula_read : (kind : ℕ) (body : List ℕ) (at : RecordNumber) (n : Node FormulaNumber) → formula_of kind body at ≡ Ok n → FormulaRecord (rec kind body) n
formula_read kind body at n =
    tried kind 1 _ _ n Q (made 2 atom_of body at (λ a. Atom a) n (FormulaRecord (rec 1 body)) (atom body))
    (tried kind 2 _ _ n Q (made 0 nothing_of body at (λ _. Falsity) n (FormulaRecord (rec 2 body)) (falsity body))
    (tried kind 3 _ _ n Q (made 4 parts_of body at (λ p. And p.left p.right) n (FormulaRecord (rec 3 body)) (and body))
    (tried kind 4 _ _ n Q (made 4 parts_of body at (λ p. Or p.left p.right) n (FormulaRecord (rec 4 body)) (or body))
    (tried kind 5 _ _ n Q (made 4 parts_of body at (λ p. Implies p.left p.right) n (FormulaRecord (rec 5 body)) (implies body))
    (tried kind 6 _ _ n Q (under Says)
    (tried kind 7 _ _ n Q (under Controls)
    (tried kind 8 _ _ n Q (under Ratified)
    (tried kind 9 _ (Err (Kind at)) n Q (under Permitted) (never (Kind at) n)))))))))
  where
    Q : ℕ → Type 0
    Q k = FormulaRecord (rec k body) n

    under : (k : Modality) → onward (decoded 4 modal_of body at) (λ m. Ok (Modal k m.principal m.formula)) ≡ Ok n → Q (modality_number k)
    under k = made 4 modal_of body at (λ m. Modal k m.principal m.formula) n (FormulaRecord (rec (modality_number k) body)) (modal k body)

modal_taken : (k : Modality) (b : List ℕ) (at : RecordNumber) → length b ≡ 4 → formula_of (modality_number k) b at ≡ Ok (Modal k (modal_of b).principal (modal_of b).formula)
modal_taken k b at size = search rules

formula_taken : {r : Record} {n : Node FormulaNumber} (at : RecordNumber) → FormulaRecord r n → formula_of r.kind r.body at ≡ Ok n
formula_taken at (atom b size) = reads 2 atom_of b at _ size
formula_taken at (falsity b size) = reads 0 nothing_of b at _ size
formula_taken at (and b size) = reads 4 parts_of b at _ size
formula_taken at (or b size) = reads 4 parts_of b at _ size
formula_taken at (implies b size) = reads 4 parts_of b at _ size
formula_taken at (modal k b size) = modal_taken k b at size

-- The record of a fact.

arrow_made : (o : Option Modality) (b : List ℕ) (at : RecordNumber) (v : FactView FormulaNumber) → length b ≡ 8 → numbered_modality (arrowed_of b).modality.0 ≡ o
    → arrow_named o (arrowed_of b) at ≡ Ok v → FactRecord (rec 14 b) v
arrow_made None b at v size named is = never (OutOfRange at) v is
arrow_made (Some k) b at v size named is =
    let same : Linked (Arrow k (arrowed_of b).principal (arrowed_of b).from (arrowed_of b).to) ≡ v = cc in
    subst (FactRecord (rec 14 b)) same (arrow k b size (sym (numbers_name.only (arrowed_of b).modality.0 k named)))

fact_read : (kind : ℕ) (body : List ℕ) (at : RecordNumber) (v : FactView FormulaNumber) → fact_of kind body at ≡ Ok v → FactRecord (rec kind body) v
fact_read kind body at v =
    tried kind 11 _ _ v Q (made 4 labelled_of body at (λ l. Left l.label l.formula) v (FactRecord (rec 11 body)) (left body))
    (tried kind 12 _ _ v Q (made 4 labelled_of body at (λ l. Right l.label l.formula) v (FactRecord (rec 12 body)) (right body))
    (tried kind 13 _ _ v Q (made 4 ordered_of body at (λ o. Linked (Order o.lower o.upper)) v (FactRecord (rec 13 body)) (order body))
    (tried kind 14 _ (Err (Kind at)) v Q arrowed (never (Kind at) v))))
  where
    Q : ℕ → Type 0
    Q k = FactRecord (rec k body) v

    arrowed : onward (decoded 8 arrowed_of body at) (λ a. arrow_named (numbered_modality a.modality.0) a at) ≡ Ok v → FactRecord (rec 14 body) v
    arrowed is =
        let s = sized 8 arrowed_of body at (λ a. arrow_named (numbered_modality a.modality.0) a at) v is in
        arrow_made (numbered_modality (arrowed_of body).modality.0) body at v s.0 refl s.1

fact_taken : {r : Record} {v : FactView FormulaNumber} (at : RecordNumber) → FactRecord r v → fact_of r.kind r.body at ≡ Ok v
fact_taken at (left b size) = reads 4 labelled_of b at _ size
fact_taken at (right b size) = reads 4 labelled_of b at _ size
fact_taken at (order b size) = reads 4 ordered_of b at _ size
fact_taken at (arrow k b size named) =
    reads 8 arrowed_of b at _ size
    ∙ ap (λ o. arrow_named o (arrowed_of b) at) (ap numbered_modality named ∙ numbers_name.named k)

-- One record.

-- a record that enters a formula
record EntersFormula (P : ℕ) (ns : List (Node FormulaNumber)) (r : Record) (t : Stage) : Type 0 where
  node : Node FormulaNumber
  is : FormulaRecord r node
  fits : fits_formula P (length ns) node ≡ true
  room : length ns < 256
  then : formulas (ns ++ (node ∷ [])) ≡ t

-- a record that enters the label count
record EntersCount (ns : List (Node FormulaNumber)) (r : Record) (t : Stage) : Type 0 where
  kind_is : r.kind ≡ 10
  size : length r.body ≡ 2
  fits : count_fits (label_count_of r.body).0 ≡ true
  then : sequent ns (label_count_of r.body) [] ≡ t

-- a record that enters a fact
record EntersFact (P : ℕ) (ns : List (Node FormulaNumber)) (n : LabelCount) (fs : List (FactView FormulaNumber)) (r : Record) (t : Stage) : Type 0 where
  fact : FactView FormulaNumber
  is : FactRecord r fact
  fits : fits_fact P n.0 (length ns) fact ≡ true
  room : length fs < 16
  then : sequent ns n (fs ++ (fact ∷ [])) ≡ t

formula_entered : (P i : ℕ) (r : Record) (ns : List (Node FormulaNumber)) (t : Stage)
    → onward (formulas_at P r.kind r.body (numbered i) ns) (λ ms. Ok (formulas ms)) ≡ Ok t → EntersFormula P ns r t
formula_entered P i r ns t is =
    let all = went (formulas_at P r.kind r.body (numbered i) ns) (λ ms. Ok (formulas ms)) t is in
    let one = went (formula_of r.kind r.body (numbered i)) (λ n. with_formula P (numbered i) ns n) all.value all.is in
    let fits = passed (fits_formula P (length ns) one.value) _ (OutOfRange (numbered i)) all.value one.after in
    let room = passed (ltb (length ns) 256) (Ok (ns ++ (one.value ∷ []))) (Full (numbered i)) all.value fits.1 in
    record {
      node = one.value;
      is = formula_read r.kind r.body (numbered i) one.value one.is;
      fits = fits.0;
      room = ltb-true (length ns) 256 room.0;
      then = cc (room.1, all.after);
    }

count_entered : (i : ℕ) (r : Record) (ns : List (Node FormulaNumber)) (t : Stage)
    → r.kind ≡ 10 → onward (labels_at r.body (numbered i)) (λ n. Ok (sequent ns n [])) ≡ Ok t → EntersCount ns r t
count_entered i r ns t kind is =
    let all = went (labels_at r.body (numbered i)) (λ n. Ok (sequent ns n [])) t is in
    let body = sized 2 label_count_of r.body (numbered i) (λ n. cond (count_fits n.0) (Ok n) (Err (OutOfRange (numbered i)))) all.value all.is in
    let fits = passed (count_fits (label_count_of r.body).0) (Ok (label_count_of r.body)) (OutOfRange (numbered i)) all.value body.1 in
    record {
      kind_is = kind;
      size = body.0;
      fits = fits.0;
      then = cc (fits.1, all.after);
    }

fact_entered : (P i : ℕ) (r : Record) (ns : List (Node FormulaNumber)) (n : LabelCount) (fs : List (FactView FormulaNumber)) (t : Stage)
    → entered P i r (sequent ns n fs) ≡ Ok t → EntersFact P ns n fs r t
fact_entered P i r ns n fs t is =
    let all = went (facts_at P n.0 (length ns) r.kind r.body (numbered i) fs) (λ gs. Ok (sequent ns n gs)) t is in
    let one = went (fact_of r.kind r.body (numbered i)) (λ v. with_fact P n.0 (length ns) (numbered i) fs v) all.value all.is in
    let fits = passed (fits_fact P n.0 (length ns) one.value) _ (OutOfRange (numbered i)) all.value one.after in
    let room = passed (ltb (length fs) 16) (Ok (fs ++ (one.value ∷ []))) (Full (numbered i)) all.value fits.1 in
    record {
      fact = one.value;
      is = fact_read r.kind r.body (numbered i) one.value one.is;
      fits = fits.0;
      room = ltb-true (length fs) 16 room.0;
      then = cc (room.1, all.after);
    }

-- a record before the label count: a formula, or the label count
first_entered : (P i : ℕ) (r : Record) (ns : List (Node FormulaNumber)) (t : Stage) → entered P i r (formulas ns) ≡ Ok t → EntersCount ns r t ⊎ EntersFormula P ns r t
first_entered P i r ns t = go (eqb r.kind 10) refl
  where
    go : (b : Bool) → eqb r.kind 10 ≡ b
        → cond b (onward (labels_at r.body (numbered i)) λ n. Ok (sequent ns n [])) (onward (formulas_at P r.kind r.body (numbered i) ns) λ ms. Ok (formulas ms)) ≡ Ok t
        → EntersCount ns r t ⊎ EntersFormula P ns r t
    go true ten is = inl (count_entered i r ns t (eqb-true r.kind 10 ten) is)
    go false ten is = inr (formula_entered P i r ns t is)

-- the record of a formula is not that of the label count
not_ten : {r : Record} {n : Node FormulaNumber} → FormulaRecord r n → eqb r.kind 10 ≡ false
not_ten is = search rules

-- the other way: such a record is taken
formula_enters : (P i : ℕ) (r : Record) (ns : List (Node FormulaNumber)) (n : Node FormulaNumber)
    → FormulaRecord r n → fits_formula P (length ns) n ≡ true → length ns < 256 → entered P i r (formulas ns) ≡ Ok (formulas (ns ++ (n ∷ [])))
formula_enters P i r ns n is fits room =
    let other = not_ten is in
    let taken = formula_taken (numbered i) is in
    grind (arith, common_steps)

count_enters : (P i : ℕ) (body : List ℕ) (ns : List (Node FormulaNumber)) → length body ≡ 2 → count_fits (label_count_of body).0 ≡ true
    → entered P i (rec 10 body) (formulas ns) ≡ Ok (sequent ns (label_count_of body) [])
count_enters P i body ns size fits = grind (arith, common_steps)

fact_enters : (P i : ℕ) (r : Record) (ns : List (Node FormulaNumber)) (n : LabelCount) (fs : List (FactView FormulaNumber)) (v : FactView FormulaNumber)
    → FactRecord r v → fits_fact P n.0 (length ns) v ≡ true → length fs < 16 → entered P i r (sequent ns n fs) ≡ Ok (sequent ns n (fs ++ (v ∷ [])))
fact_enters P i r ns n fs v is fits room =
    let taken = fact_taken (numbered i) is in
    grind (arith, common_steps)

-- All records.

-- a good record, and what was read on from it
record Followed {S A : Type 0} (m : Result S Refusal) (next : S → Result A Refusal) (a : A) : Type 0 where
  stage : S
  is : m ≡ Ok stage
  after : next stage ≡ Ok a

follows : {S A : Type 0} (R : Reader S A) (m : Result S Refusal) (next : S → Result A Refusal) (a : A) → followed R m next ≡ Ok a → Followed m next a
follows R (Ok s) next a is = record { stage = s; is = refl; after = is }
follows R (Err e) next a is = never e a is

-- the records behind the label count, to the end of the file
record Stated (P : ℕ) (ns : List (Node FormulaNumber)) (n : LabelCount) (fs : List (FactView FormulaNumber)) (rs : List Record) (rest : List ℕ) (k : Kept) : Type 0 where
  whole : rest ≡ []
  nodes_are : ns ≡ k.nodes
  labels_are : n ≡ k.labels
  stated : Facts P n.0 (length ns) fs rs k.facts

-- the records of a dossier, behind those of a table
record Dossier (P : ℕ) (ns : List (Node FormulaNumber)) (rs : List Record) (rest : List ℕ) (k : Kept) : Type 0 where
  first : List Record
  body : List ℕ
  last : List Record
  parts : rs ≡ first ++ (rec 10 body ∷ last)
  formulas_are : Formulas P ns first k.nodes
  size : length body ≡ 2
  fits : count_fits (label_count_of body).0 ≡ true
  behind : Stated P k.nodes (label_count_of body) [] last rest k

module _ (P : ℕ) where
  end_stated : (i : ℕ) (ns : List (Node FormulaNumber)) (n : LabelCount) (fs : List (FactView FormulaNumber)) (rest : List ℕ) (k : Kept)
      → at_end (dossier_reader P) i (sequent ns n fs) rest ≡ Ok k → Stated P ns n fs [] rest k
  end_stated i ns n fs [] k is =
      let same : record { nodes = ns; labels = n; facts = fs } ≡ k = cc in
      record { whole = refl; nodes_are = ap (λ q. q.nodes) same; labels_are = ap (λ q. q.labels) same; stated = subst (Facts P n.0 (length ns) fs []) (ap (λ q. q.facts) same) Facts.none }
  end_stated i ns n fs (b ∷ bs) k is = never _ k is

  facts_read : (i : ℕ) (ns : List (Node FormulaNumber)) (n : LabelCount) (fs : List (FactView FormulaNumber)) (rs : List Record) (rest : List ℕ) (k : Kept)
      → read_on (dossier_reader P) i (sequent ns n fs) rs rest ≡ Ok k → Stated P ns n fs rs rest k
  facts_read i ns n fs [] rest k is = end_stated i ns n fs rest k is
  facts_read i ns n fs (r ∷ rs) rest k is =
      let f = follows (dossier_reader P) (entered P i r (sequent ns n fs)) (λ t. read_on (dossier_reader P) (i + 1) t rs rest) k is in
      let e = fact_entered P i r ns n fs f.stage f.is in
      let h = facts_read (i + 1) ns n (fs ++ (e.fact ∷ [])) rs rest k (ap (λ t. read_on (dossier_reader P) (i + 1) t rs rest) e.then ∙ f.after) in
      record { whole = h.whole; nodes_are = h.nodes_are; labels_are = h.labels_are; stated = Facts.more e.fact e.is e.fits e.room h.stated }

  none_read : (i : ℕ) (ns : List (Node FormulaNumber)) (rest : List ℕ) (k : Kept) → at_end (dossier_reader P) i (formulas ns) rest ≡ Ok k → Dossier P ns [] rest k
  none_read i ns [] k is = never _ k is
  none_read i ns (b ∷ bs) k is = never _ k is

  count_read : (i : ℕ) (ns : List (Node FormulaNumber)) (r : Record) (rs : List Record) (rest : List ℕ) (k : Kept) (t : Stage)
      → EntersCount ns r t → read_on (dossier_reader P) (i + 1) t rs rest ≡ Ok k → Dossier P ns (r ∷ rs) rest k
  count_read i ns r rs rest k t e is =
      let h = facts_read (i + 1) ns (label_count_of r.body) [] rs rest k (ap (λ t. read_on (dossier_reader P) (i + 1) t rs rest) e.then ∙ is) in
      record {
        first = [];
        body = r.body;
        last = rs;
        parts = ap (λ q. rec q r.body ∷ rs) e.kind_is;
        formulas_are = subst (Formulas P ns []) h.nodes_are Formulas.none;
        size = e.size;
        fits = e.fits;
        behind = subst (λ ms. Stated P ms (label_count_of r.body) [] rs rest k) h.nodes_are h;
      }

  formulas_read : (i : ℕ) (ns : List (Node FormulaNumber)) (rs : List Record) (rest : List ℕ) (k : Kept)
      → read_on (dossier_reader P) i (formulas ns) rs rest ≡ Ok k → Dossier P ns rs rest k
  formulas_read i ns [] rest k is = none_read i ns rest k is
  formulas_read i ns (r ∷ rs) rest k is =
      let f = follows (dossier_reader P) (entered P i r (formulas ns)) (λ t. read_on (dossier_reader P) (i + 1) t rs rest) k is in
      ⊎_elim (λ e. count_read i ns r rs rest k f.stage e f.after)
      (λ e. more_read ns r rs rest k f.stage e
      (formulas_read (i + 1) (ns ++ (e.node ∷ [])) rs rest k (ap (λ t. read_on (dossier_reader P) (i + 1) t rs rest) e.then ∙ f.after)))
      (first_entered P i r ns f.stage f.is)
    where
      more_read : (ns : List (Node FormulaNumber)) (r : Record) (rs : List Record) (rest : List ℕ) (k : Kept) (t : Stage)
          → (e : EntersFormula P ns r t) → Dossier P (ns ++ (e.node ∷ [])) rs rest k → Dossier P ns (r ∷ rs) rest k
      more_read ns r rs rest k t e h = record {
        first = r ∷ h.first;
        body = h.body;
        last = h.last;
        parts = ap (λ l. r ∷ l) h.parts;
        formulas_are = Formulas.more e.node e.is e.fits e.room h.formulas_are;
        size = h.size;
        fits = h.fits;
        behind = h.behind;
      }

  -- the other way: facts are taken to the end
  facts_taken : (ns : List (Node FormulaNumber)) (n : LabelCount) (i : ℕ) {fs gs : List (FactView FormulaNumber)} {rs : List Record}
      → Facts P n.0 (length ns) fs rs gs → read_on (dossier_reader P) i (sequent ns n fs) rs [] ≡ Ok (record { nodes = ns; labels = n; facts = gs })
  facts_taken ns n i Facts.none = refl
  facts_taken ns n i (Facts.more {fs = fs} {r = r} {rs = rs} v is fits room h) =
      ap (λ x. followed (dossier_reader P) x (λ t. read_on (dossier_reader P) (i + 1) t rs [])) (fact_enters P i r ns n fs v is fits room)
      ∙ facts_taken ns n (i + 1) h

  -- formulas are taken, and what follows is read on
  formulas_taken : (i : ℕ) {ns ms : List (Node FormulaNumber)} {rs : List Record} (more : List Record) (rest : List ℕ) (k : Kept)
      → Formulas P ns rs ms → ((j : ℕ) → read_on (dossier_reader P) j (formulas ms) more rest ≡ Ok k) → read_on (dossier_reader P) i (formulas ns) (rs ++ more) rest ≡ Ok k
  formulas_taken i more rest k Formulas.none on = on i
  formulas_taken i more rest k (Formulas.more {ns = ns} {r = r} {rs = rs} n is fits room h) on =
      ap (λ x. followed (dossier_reader P) x (λ t. read_on (dossier_reader P) (i + 1) t (rs ++ more) rest)) (formula_enters P i r ns n is fits room)
      ∙ formulas_taken (i + 1) more rest k h on

  count_taken : (j : ℕ) (ns : List (Node FormulaNumber)) (body : List ℕ) (n : LabelCount) (last : List Record) (fs : List (FactView FormulaNumber)) → length body ≡ 2 → n ≡ label_count_of body → count_fits n.0 ≡ true
      → Facts P n.0 (length ns) [] last fs → read_on (dossier_reader P) j (formulas ns) (rec 10 body ∷ last) [] ≡ Ok (record { nodes = ns; labels = n; facts = fs })
  count_taken j ns body n last fs size is fits h =
      ap (λ x. followed (dossier_reader P) x (λ t. read_on (dossier_reader P) (j + 1) t last [])) (count_enters P j body ns size (subst (λ m. count_fits m.0 ≡ true) is fits))
      ∙ ap (λ m. read_on (dossier_reader P) (j + 1) (sequent ns m []) last []) (sym is)
      ∙ facts_taken ns n (j + 1) h

  is_dossier : (ns : List (Node FormulaNumber)) (bs : List ℕ) (k : Kept) → read_bytes (dossier_reader P) 0 (formulas ns) bs ≡ Ok k → IsDossier P ns bs k
  is_dossier ns bs k is =
      let d = formulas_read 0 ns (chain bs).records (chain bs).rest k is in
      let labels = d.behind.labels_are in
      record {
        first = d.first;
        body = d.body;
        last = d.last;
        parts = d.parts;
        whole = d.behind.whole;
        entered = d.formulas_are;
        count_size = d.size;
        count_is = sym labels;
        count_fits_it = subst (λ m. count_fits m.0 ≡ true) labels d.fits;
        stated = subst (λ m. Facts P m.0 (length k.nodes) [] d.last k.facts) labels d.behind.stated;
      }

  dossier_taken : (ns : List (Node FormulaNumber)) (bs : List ℕ) (k : Kept) → IsDossier P ns bs k → read_bytes (dossier_reader P) 0 (formulas ns) bs ≡ Ok k
  dossier_taken ns bs k d =
      (λ j. read_on (dossier_reader P) 0 (formulas ns) (d.parts j) (d.whole j))
      ∙ formulas_taken 0 (rec 10 d.body ∷ d.last) [] k d.entered
      (λ j. count_taken j k.nodes d.body k.labels d.last k.facts d.count_size d.count_is d.count_fits_it d.stated)

-- every dossier is read by the law
pub dossier_law : (P : ℕ) (ns : List (Node FormulaNumber)) (bs : List ℕ) → DossierLaw P ns bs
dossier_law P ns bs = record {
  taken = λ k. (is_dossier P ns bs k, dossier_taken P ns bs k);
  reads_by = reads_by (dossier_reader P) (formulas ns) bs;
}

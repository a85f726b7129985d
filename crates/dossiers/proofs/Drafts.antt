-- What one record does to a draft. Assumes nothing.
use Rattle.std.proofs.Common.{◌≡◌, ℕ, false, eqb, List, length, Some, None, Ok, Err, Option, Result, ap}
use Rattle.std.proofs.lemmas.Bool.{cond-false}
use Rattle.records.specs.declared.numbers.FormulaNumber.{FormulaNumber}
use Rattle.records.specs.declared.refusal.Refusal.{Refusal}
use Rattle.records.specs.Chains.{Record}
use Rattle.logic.specs.declared.terms.Node.{Node}
use Rattle.sequents.specs.declared.sequent.Sequent.{Sequent}
use Rattle.sequents.specs.Sequents.{facts_of}
use Rattle.dossiers.specs.Entries.{onward}
use Rattle.dossiers.specs.Dossiers.{Stage, formulas, sequent, numbered, formulas_at, facts_at, entered}
use Rattle.dossiers.specs.Drafts.{staged, Takes}

-- what is taken, made into a stage
onward_takes : {X : Type 0} (answer : Result X Refusal) (f : X → Stage) (r : Result (Unit {0}) Refusal) (after : X) → Takes answer r after → Takes (onward answer λ x. Ok (f x)) r (f after)
onward_takes answer f (Ok done) after h = ap (λ y. onward y λ x. Ok (f x)) h
onward_takes answer f (Err e) after h = ap (λ y. onward y λ x. Ok (f x)) h

-- a fact, once the labels are known
pub fact_taken : (P i : ℕ) (q : Record) (o : Option Sequent) (s t : Sequent) (ns : List (Node FormulaNumber)) (len : ℕ) (r : Result (Unit {0}) Refusal)
    → o ≡ Some s → len ≡ length ns → t.labels ≡ s.labels → Takes (facts_at P s.labels.0 len q.kind q.body (numbered i) (facts_of s.facts)) r (facts_of t.facts)
    → Takes (entered P i q (staged ns o)) r (staged ns (Some t))
fact_taken P i q o s t ns len r is long same h =
    let made = onward_takes (facts_at P s.labels.0 (length ns) q.kind q.body (numbered i) (facts_of s.facts)) (sequent ns s.labels) r (facts_of t.facts) in
    rw (is, same) (made (rw (← long) h))

-- a formula, before the label count
pub formula_taken : (P i : ℕ) (q : Record) (o : Option Sequent) (ns ms : List (Node FormulaNumber)) (r : Result (Unit {0}) Refusal)
    → o ≡ None → eqb q.kind 10 ≡ false → Takes (formulas_at P q.kind q.body (numbered i) ns) r ms → Takes (entered P i q (staged ns o)) r (staged ms o)
formula_taken P i q o ns ms r is other h =
    let made = onward_takes (formulas_at P q.kind q.body (numbered i) ns) formulas r ms h in
    rw (is, cond-false (eqb q.kind 10) _ _ other) made

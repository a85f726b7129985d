use Rattle.std.proofs.Common.{◌≡◌, ℕ, ◌+◌, sym, ◌∙◌, subst, arith}
use Rattle.rows.specs.declared.masks.WorldSet.{WorldSet}
use Rattle.rows.specs.Masks.{Mask}
use Rattle.rows.proofs.Bits.{none_yet, more_or, more_false}
use Rattle.rows.proofs.rows.Rows.worlds_where.Goals as goal
use Rattle.rows.proofs.rows.Rows.worlds_where.Goals.{then-test, else-test}

pub loop-x-init : goal.loop-x-init
loop-x-init g c p calls = none_yet p

pub loop-x-preserved : goal.loop-x-preserved
loop-x-preserved g c p calls =
    let x = c.loop-x.x in
    let known = c.loop-x.invariant p calls in
    let b : c.test.result ≡ p x = calls (record { 0 = x }) c.test.result c.loop-x-test.true c.test.ensures in
    elim c.if-test.branch [
      | then-test w ↦
          subst (λ (s : WorldSet). Mask (x + 1) s.0 p) (sym w.found-is)
          (subst (λ (m : ℕ). Mask (x + 1) m p) (sym w.bitor-found.ensures) (more_or x c.loop-x.found.0 p (omega arith) known (sym b ∙ w.if-test.true)))
      | else-test w ↦ subst (λ (s : WorldSet). Mask (x + 1) s.0 p) (sym w.found-is) (more_false x c.loop-x.found.0 p known (sym b ∙ w.if-test.false))
    ]

pub returns : goal.returns
returns g c p calls = let e : c.loop-x.x ≡ c.args.self.now.worlds = omega arith in subst (λ (n : ℕ). Mask n c.loop-x.found.0 p) e (c.loop-x.invariant p calls)

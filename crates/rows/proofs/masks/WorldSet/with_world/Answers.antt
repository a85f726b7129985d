use Rattle.std.proofs.Common.{◌≡◌, ℕ, ◌<◌, Bool, ◌&&◌, ◌||◌, eqb, ltb, ap, ◌∙◌, arith}
use lib.Bits.{bit_or}
use Rattle.std.proofs.lemmas.Bool.Decides.{nat_tests}
use Rattle.std.proofs.lemmas.Nat.{one_shl}
use Rattle.rows.specs.Masks.{bit}
use Rattle.rows.proofs.Bits.{bit_more}
use Rattle.rows.proofs.masks.WorldSet.with_world.Goals as goal

below : (w x : ℕ) → x < 32 → eqb w x ≡ (eqb w x && ltb w 32)
below w x h = grind (arith, nat_tests)

pub returns-then-world-lt-MAX_WORLDS : goal.returns-then-world-lt-MAX_WORLDS
returns-then-world-lt-MAX_WORLDS c w =
    let m = c.args.self.0 in
    let x = c.args.world.0 in
    let l = c.if-world-lt-MAX_WORLDS.true in
    ap (λ (k : ℕ). bit k w) (c.bitor.ensures ∙ ap (bit_or m) (one_shl x 32 l)) ∙ bit_more m x w ∙ ap (λ (b : Bool). bit m w || b) (below w x l)

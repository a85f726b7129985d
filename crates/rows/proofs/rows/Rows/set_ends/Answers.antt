use Rattle.std.proofs.Common.{◌≡◌, ℕ, ◌<◌, List, length, get_or, set, refl, ap, ◌∙◌, subst, arith}
use Rattle.std.proofs.lemmas.List.{get_or-set_same}
use Rattle.rows.specs.declared.masks.WorldSet.{WorldSet}
use Rattle.rows.specs.declared.rows.Arrows.{Arrows}
use Rattle.rows.specs.declared.rows.Row.{Row}
use Rattle.rows.specs.Masks.{bit, no_set}
use Rattle.rows.specs.RowsOf.{no_arrows, no_row, modality_place, ends_at, with_end}
use Rattle.rows.proofs.Writes.{same_modality, place_small, end_elsewhere}
use Rattle.rows.proofs.rows.Rows.set_ends.Goals as goal

pub returns : goal.returns
returns c =
    let k = c.args.modality in
    let A = c.args.principal.0 in
    let x = c.args.world.0 in
    let m = c.args.worlds in
    let n = c.place_of.result in
    let old = c.args.self.now.arrows in
    let rows = c.put_end.new.rows in
    let new = set old n (record { of = rows }) in
    let p = c.place_of.ensures in
    let list : new ≡ with_end old (modality_place k) A x m =
    ap (λ (rs : List Row). set old n (record { of = rs })) c.put_end.ensures.list ∙ ap (λ (j : ℕ). with_end old j A x m) p in record {
      arrows = list;
      worlds = refl;
      above = refl;
      atoms = refl;
      here = λ h l y.
          let few : modality_place k < 4 = place_small k in
          let inside : A < length (get_or old n no_arrows).of = omega arith in
          ap (λ (s : WorldSet). bit s.0 y)
          (subst (λ (j : ℕ). ends_at new j A x ≡ m) p
          (ap (λ (v : Arrows). get_or (get_or v.of A no_row).ends x no_set) (get_or-set_same old n (record { of = rows }) no_arrows (omega arith))
          ∙ c.put_end.ensures.here inside l));
      elsewhere = λ l B z other y.
          ap (λ (s : WorldSet). bit s.0 y)
          (ap (λ (v : List Arrows). ends_at v (modality_place l) B z) list
          ∙ end_elsewhere old (modality_place k) A x m (modality_place l) B z (λ f. other (same_modality l k f.0, f.1, f.2)));
    }

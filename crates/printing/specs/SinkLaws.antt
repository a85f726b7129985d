-- The laws of what takes the bytes of a line. Assumes nothing.
use Rattle.std.proofs.Common.{◌≡◌, ℕ, ◌+◌, ◌-◌, ◌<◌, ◌≤◌, List, ◌++◌, length, take, drop, Some, None, Option, sym, refl, ap, ◌∙◌, ⊎_elim, append_assoc, add_assoc, arith, length-append, length-drop}
use Rattle.std.proofs.lemmas.List.{drop-drop, take_at, drop_at, length-take-le}
use Rattle.std.proofs.lemmas.Bool.{cond-false, cond-true, le-leb, lt-leb, cases_lt}
use Rattle.printing.specs.Lines.{written}
use Rattle.printing.specs.Sinks.{room_after, AnyBytes, LeavesRoom, Fits, Writes}
use Rattle.printing.specs.declared.sink.Room.{Room}
use Rattle.printing.specs.declared.sink.Place.{Place}

-- one write after another is one write
pub written_twice : (buf : List ℕ) (at : ℕ) (xs ys : List ℕ) → at ≤ length buf → written (written buf at xs) (at + length xs) ys ≡ written buf at (xs ++ ys)
written_twice buf at xs ys inside =
    let front : length (take at buf ++ xs) ≡ at + length xs = omega (arith, length-append (take at buf) xs, length-take-le at buf inside) in
    let whole : written buf at xs ≡ (take at buf ++ xs) ++ drop (at + length xs) buf = sym (append_assoc (take at buf) xs (drop (at + length xs) buf)) in
    let kept : take (at + length xs) (written buf at xs) ≡ take at buf ++ xs = ap (take (at + length xs)) whole ∙ take_at (take at buf ++ xs) (drop (at + length xs) buf) (at + length xs) front in
    let after : drop (at + length xs) (written buf at xs) ≡ drop (at + length xs) buf = ap (drop (at + length xs)) whole ∙ drop_at (take at buf ++ xs) (drop (at + length xs) buf) (at + length xs) front in
    let far : drop (at + length xs + length ys) (written buf at xs) ≡ drop (at + length (xs ++ ys)) buf =
    sym (drop-drop (length ys) (at + length xs) (written buf at xs))
    ∙ ap (drop (length ys)) after
    ∙ drop-drop (length ys) (at + length xs) buf
    ∙ ap (λ m. drop m buf) (add_assoc at (length xs) (length ys) ∙ ap (λ m. at + m) (sym (length-append xs ys))) in
    (λ i. kept i ++ (ys ++ far i))
    ∙ append_assoc (take at buf) xs (ys ++ drop (at + length (xs ++ ys)) buf)
    ∙ ap (λ l. take at buf ++ l) (sym (append_assoc xs ys (drop (at + length (xs ++ ys)) buf)))

-- a write that fits leaves the buffer as long as it was
pub length_written : (buf : List ℕ) (at : ℕ) (xs : List ℕ) → at + length xs ≤ length buf → length (written buf at xs) ≡ length buf
length_written buf at xs fits = simp length-append (omega (arith, length-take-le at buf (omega arith), length-drop (at + length xs) buf))

-- so many bytes and then so many more leave as much room as both at once
room_twice : (m : Option ℕ) (a b : ℕ) → room_after (room_after m a) b ≡ room_after m (a + b)
room_twice None a b = refl
room_twice (Some m) a b =
    ⊎_elim
    (λ (over : m < a). ap (λ k. room_after k b) (cond-false _ _ _ (lt-leb a m over)) ∙ sym (cond-false _ _ _ (lt-leb (a + b) m (omega arith))))
    (λ (one : a ≤ m).
    ap (λ k. room_after k b) (cond-true _ _ _ (le-leb a m one)) ∙
    ⊎_elim
    (λ (over : m - a < b). cond-false _ _ _ (lt-leb b (m - a) over) ∙ sym (cond-false _ _ _ (lt-leb (a + b) m (omega arith))))
    (λ (two : b ≤ m - a). cond-true _ _ _ (le-leb b (m - a) two) ∙ ap Some (omega arith) ∙ sym (cond-true _ _ _ (le-leb (a + b) m (omega arith))))
    (cases_lt (m - a) b))
    (cases_lt m a)

-- one text after the other leaves as much room as both at once
pub leaves_twice : (a b c : Room) (xs ys : List ℕ) → AnyBytes a (xs ++ ys) → LeavesRoom a xs b → LeavesRoom b ys c → LeavesRoom a (xs ++ ys) c
leaves_twice a b c xs ys any one two = two ∙ ap (λ m. room_after m (length ys)) one ∙ room_twice a.left (length xs) (length ys) ∙ ap (room_after a.left) (sym (length-append xs ys))

-- the first text fits where both do
pub fits_first : (a : Place) (xs ys : List ℕ) → Fits a (xs ++ ys) → Fits a xs
fits_first a xs ys fits = omega (arith, length-append xs ys)

-- and the second fits behind it
pub fits_rest : (a b : Place) (xs ys : List ℕ) → Fits a (xs ++ ys) → Writes a xs b → Fits b ys
fits_rest a b xs ys fits one = omega (arith, length-append xs ys, one.0, ap length one.1, length_written a.buf.now a.at xs (fits_first a xs ys fits))

-- one text written behind the other is both written at once
pub writes_twice : (a b c : Place) (xs ys : List ℕ) → Fits a (xs ++ ys) → Writes a xs b → Writes b ys c → Writes a (xs ++ ys) c
writes_twice a b c xs ys fits one two = (
  omega (arith, length-append xs ys, one.0, two.0),
  two.1 ∙ (λ i. written (one.1 i) (one.0 i) ys) ∙ written_twice a.buf.now a.at xs ys (omega arith),
  two.2 ∙ one.2,
)

-- The names of the modalities. Assumes nothing.
use Rattle.std.specs.Prelude.{ℕ, cond, List, codes, ◌==◌}

-- the name of a modality: its number is that of the kind of its formulas
abbrev pub words_of_modality : ℕ → List ℕ
words_of_modality n =
    cond (n == 6) (codes "says")
    (cond (n == 7) (codes "controls")
    (cond (n == 8) (codes "ratified")
    (cond (n == 9) (codes "permitted") (codes "unknown"))))

-- Lists of places that all hold one blank value. Assumes nothing.
use Rattle.std.specs.Prelude.{◌≡◌, List, length, replicate}

-- every place holds `blank`
abbrev pub Blanked : {X : Type 0} → X → List X → Type 0
Blanked blank places = places ≡ replicate (length places) blank

-- as many places are left as were brought, and every one holds `blank`
abbrev pub Cleared : {X : Type 0} → X → List X → List X → Type 0
Cleared blank brought left = left ≡ replicate (length brought) blank

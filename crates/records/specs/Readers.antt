-- A file read record by record: each record takes what was read so far on, or is refused. Assumes nothing.
use Rattle.std.specs.Prelude.{◌≡◌, ℕ, ◌+◌, ◌⊎◌, List, [], ◌∷◌, ◌++◌, length, Ok, Err, Result}
use Rattle.records.specs.Chains.{Record, chain}
use Rattle.records.specs.declared.refusal.Refusal.{Refusal}

-- how a sort of file is read: what record i does to what was read so far, and the answer where the file ends after i records, or is broken there
pub record Reader (S A : Type 0) : Type 0 where
  pub step : ℕ → Record → S → Result S Refusal
  pub end : ℕ → S → Result A Refusal
  pub broken : ℕ → S → Result A Refusal

module _ {S A : Type 0} (R : Reader S A) where
  -- the answer where no record is left
  abbrev pub at_end : ℕ → S → List ℕ → Result A Refusal
  at_end i s [] = R.end i s
  at_end i s (b ∷ bs) = R.broken i s

  -- on with what a record gave, unless it was refused
  abbrev pub followed : Result S Refusal → (S → Result A Refusal) → Result A Refusal
  followed (Ok s) next = next s
  followed (Err e) next = Err e

  -- the answer from record i on
  abbrev pub read_on : ℕ → S → List Record → List ℕ → Result A Refusal
  read_on i s [] rest = at_end i s rest
  read_on i s (r ∷ rs) rest = followed (R.step i r s) (λ t. read_on (i + 1) t rs rest)

  -- the answer from record i on, of bytes
  abbrev pub read_bytes : ℕ → S → List ℕ → Result A Refusal
  read_bytes i s bs = read_on i s (chain bs).records (chain bs).rest

  -- The same, told as a law.

  -- records that are all good, from record i on, take s to t
  pub data Reaches : ℕ → S → List Record → S → Type 0 where
    here : {i : ℕ} {s : S} → Reaches i s [] s
    on : {i : ℕ} {s t u : S} {r : Record} {rs : List Record} → R.step i r s ≡ Ok t → Reaches (i + 1) t rs u → Reaches i s (r ∷ rs) u

  -- the file is read to its end, all records are good, and this is the answer there
  pub record ReadToEnd (s : S) (bs : List ℕ) (answer : Result A Refusal) : Type 0 where
    pub last : S
    pub reached : Reaches 0 s (chain bs).records last
    pub answer_is : at_end (length (chain bs).records) last (chain bs).rest ≡ answer

  -- the records before one are good, and that one is refused
  pub record RefusedAt (s : S) (bs : List ℕ) (e : Refusal) : Type 0 where
    pub before : List Record
    pub after : List Record
    pub bad : Record
    pub last : S
    pub parts : (chain bs).records ≡ before ++ (bad ∷ after)
    pub reached : Reaches 0 s before last
    pub refusal : R.step (length before) bad last ≡ Err e

  -- the answer is the one at the file's end if all records are good, and the refusal of the first bad record if not; exactly one of the two
  pub record ReadsBy (s : S) (bs : List ℕ) : Type 0 where
    pub taken : (a : A) → read_bytes 0 s bs ≡ Ok a → ReadToEnd s bs (Ok a)
    pub taken_only : (a : A) → ReadToEnd s bs (Ok a) → read_bytes 0 s bs ≡ Ok a
    pub refused : (e : Refusal) → read_bytes 0 s bs ≡ Err e → RefusedAt s bs e ⊎ ReadToEnd s bs (Err e)
    pub refused_only : (e : Refusal) → RefusedAt s bs e ⊎ ReadToEnd s bs (Err e) → read_bytes 0 s bs ≡ Err e

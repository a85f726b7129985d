-- A list of bytes as a chain of records. Assumes nothing.
use Rattle.std.specs.Prelude.{◌≡◌, ℕ, zero, suc, ◌+◌, ◌-◌, ◌*◌, ◌<◌, ◌≤◌, cond, ◌⊎◌, List, [], ◌∷◌, ◌++◌, length, take, drop, Some, None, Ok, Err, Option, Result, ◌≢◌, nat_lt}
use Rattle.std.specs.Borrow.{Bor}
use Rattle.records.specs.Bytes.{word}
use Rattle.records.specs.declared.record.RawRecord.{RawRecord}
use Rattle.records.specs.declared.record.Numbered.{Numbered}
use Rattle.records.specs.declared.refusal.Refusal.{Refusal}
use Rattle.records.specs.declared.refusal.Refusal.TheVariants.{Frame}

-- a record: its kind, and its body
pub record Record : Type 0 where
  pub kind : ℕ
  pub body : List ℕ

-- what stands at the front of some bytes: no whole record, or one and the bytes after it
pub data Front : Type 0 where
  cut : Front
  whole : Record → List ℕ → Front

-- the record at the front; its length counts kind and body
abbrev pub front : List ℕ → Front
front bs =
    cond (nat_lt (length bs) 2) cut
    (cond (nat_lt (word bs 0) 2) cut
    (cond (nat_lt (length bs) (2 + word bs 0)) cut
    (whole (record { kind = word bs 2; body = take (word bs 0 - 2) (drop 4 bs) }) (drop (2 + word bs 0) bs))))

-- the records of a file up to the first that is broken, and the bytes that are left there
pub record Chain : Type 0 where
  pub records : List Record
  pub rest : List ℕ

-- a record in front of a chain
abbrev pub put : Record → Chain → Chain
put r c = record { records = r ∷ c.records; rest = c.rest }

-- no more records
abbrev pub stopped : List ℕ → Chain
stopped rest = record { records = []; rest = rest }

-- the chain of at most n records
abbrev pub chain_by : ℕ → List ℕ → Chain
chain_by zero bs = stopped bs
chain_by (suc n) bs = elim (front bs) [ cut ↦ stopped bs | whole r rest ↦ put r (chain_by n rest) ]

-- the chain of a file: no file has more records than bytes
abbrev pub chain : List ℕ → Chain
chain bs = chain_by (length bs) bs

-- The law of a chain, in terms of the bytes alone.

-- the bytes are the records, joined: of each its length, its kind and its body
pub data Joined : List Record → List ℕ → Type 0 where
  none : Joined [] []
  more : {rs : List Record} {bs : List ℕ} (a b c d : ℕ) (body : List ℕ) → a + b * 256 ≡ 2 + length body → Joined rs bs
      → Joined (record { kind = c + d * 256; body = body } ∷ rs) (a ∷ b ∷ c ∷ d ∷ (body ++ bs))

-- bytes are left, and they begin no record: the length is cut off, under 2 or past the end
pub record Broken (bs : List ℕ) : Type 0 where
  pub some : 0 < length bs
  pub cause : (length bs < 2) ⊎ ((word bs 0 < 2) ⊎ (length bs < 2 + word bs 0))

-- the bytes are some records, joined, and a rest that begins no record: it is empty or broken
pub record IsChain (bs : List ℕ) (rs : List Record) (rest : List ℕ) : Type 0 where
  pub front_part : List ℕ
  pub joined : Joined rs front_part
  pub parts : bs ≡ front_part ++ rest
  pub end : (rest ≡ []) ⊎ Broken rest

-- every list of bytes is a chain in exactly one way
pub record OneChain (bs : List ℕ) : Type 0 where
  pub is : IsChain bs (chain bs).records (chain bs).rest
  pub only : (rs : List Record) (rest : List ℕ) → IsChain bs rs rest → (rs ≡ (chain bs).records) × (rest ≡ (chain bs).rest)

-- What code answers of it.

-- a record as code holds it
abbrev pub record_of : RawRecord → Record
record_of r = record { kind = r.kind; body = r.body.now }

-- the refusal of a broken frame at record n
abbrev pub broken_at : ℕ → Refusal
broken_at n = Frame (record { 0 = n })

-- how a file ends after n records: whole, or broken there
abbrev pub ending : ℕ → List ℕ → Option Refusal
ending n [] = None
ending n (b ∷ bs) = Some (broken_at n)

-- what a function that takes a record off the front of bs answers
abbrev pub Taken : List ℕ → Option (RawRecord × Bor (List ℕ)) → Type 0
Taken bs None = front bs ≡ cut
Taken bs (Some p) = front bs ≡ whole (record_of p.0) p.1.now

-- a record has at least four bytes
abbrev pub Shorter : List ℕ → Option (RawRecord × Bor (List ℕ)) → Type 0
Shorter bs None = Unit {0}
Shorter bs (Some p) = length p.1.now + 4 ≤ length bs

-- what a cursor that stands before the bytes bs, with n records read, answers, and where it stands then
abbrev pub Next : List ℕ → ℕ → Result (Option Numbered) Refusal → List ℕ → ℕ → Type 0
Next bs n (Ok None) rest m = (bs ≡ []) × (rest ≡ bs) × (m ≡ n)
Next bs n (Ok (Some r)) rest m = (front bs ≡ whole (record_of r.raw) rest) × (r.at.0 ≡ n) × (m ≡ n + 1)
Next bs n (Err e) rest m = (bs ≢ []) × (front bs ≡ cut) × (e ≡ broken_at n) × (rest ≡ bs) × (m ≡ n)

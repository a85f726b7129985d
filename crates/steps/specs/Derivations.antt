-- Derivations in the words of the rules: closed trees and their listings, what records reach, and which record is refused. Assumes nothing.
use Rattle.std.specs.Prelude.{◌≡◌, ℕ, suc, ◌+◌, ◌<◌, ◌≤◌, T, ◌↔◌, List, [], ◌∷◌, ◌++◌, length, Ok, Err, ◌≢◌}
use Rattle.records.specs.declared.numbers.RecordNumber.{RecordNumber}
use Rattle.records.specs.declared.refusal.Refusal.{Refusal}
use Rattle.records.specs.declared.refusal.Refusal.TheVariants.{Frame, NotAsNeeded, NoRoom, AfterClosed, EndsEarly}
use Rattle.records.specs.Chains.{Record, chain}
use Rattle.rules.specs.declared.outcome.Growth.{Growth}
use Rattle.rules.specs.declared.outcome.Outcome.{Outcome}
use Rattle.rules.specs.declared.outcome.Outcome.TheVariants.{Closes, Goes, Forks}
use Rattle.rules.specs.declared.step.Step.{Step}
use Rattle.rules.specs.Decoding.{step_of}
use Rattle.rules.specs.Outcomes.{listed}
use Rattle.rules.specs.Rules.{Rule}
use Rattle.steps.specs.Branches.{Branch, Setting, Answer, number, grown, scene}

module _ {X F : Type 0} (S : Setting X F) where
  -- whatever its number, the record asks for this step in branch b
  abbrev pub Asks : Branch X → Record → Step → Type 0
  Asks b r step = (at : RecordNumber) → step_of S.layouts S.principals b.labels r at ≡ Ok step

  -- a premise fits the trail, and opens a label only where there are fewer than 32
  pub record Fits (b : Branch X) (p : Growth F) : Type 0 where
    pub trail : length b.facts + length (listed p.facts) ≤ S.room.trail
    pub label : T p.opens → b.labels < 32

  -- the branch with what a premise adds
  abbrev pub with_premise : Branch X → Growth F → Branch X
  with_premise b p = grown S.lays S.room b p

  -- the derivation of branch b, while w branches wait, is closed, and lists as these records: a step, then its first premise's, then its second's
  pub data Closed : ℕ → Branch X → List Record → Type 0 where
    leaf : {w : ℕ} {b : Branch X} {step : Step} (r : Record)
        → Asks b r step → Rule (scene S b) step Closes
        → Closed w b (r ∷ [])
    grow : {w : ℕ} {b : Branch X} {step : Step} {rs : List Record} (r : Record) (p : Growth F)
        → Asks b r step → Rule (scene S b) step (Goes p) → Fits b p
        → Closed w (with_premise b p) rs
        → Closed w b (r ∷ rs)
    fork : {w : ℕ} {b : Branch X} {step : Step} {rs ss : List Record} (r : Record) (p q : Growth F)
        → Asks b r step → Rule (scene S b) step (Forks p q) → Fits b p → Fits b q → w < S.room.waiting
        → Closed (suc w) (with_premise b p) rs → Closed w (with_premise b q) ss
        → Closed w b (r ∷ (rs ++ ss))

  -- there is room for what a step does to branch b, with bs waiting
  abbrev pub RoomFor : Branch X → List (Branch X) → Outcome F → Type 0
  RoomFor b bs Closes = Unit {0}
  RoomFor b bs (Goes p) = Fits b p
  RoomFor b bs (Forks p q) = Fits b p × Fits b q × (length bs < S.room.waiting)

  -- the branches that are open then
  abbrev pub open_then : Branch X → List (Branch X) → Outcome F → List (Branch X)
  open_then b bs Closes = bs
  open_then b bs (Goes p) = with_premise b p ∷ bs
  open_then b bs (Forks p q) = with_premise b p ∷ with_premise b q ∷ bs

  -- a record takes the open branches on
  pub data Does (r : Record) : List (Branch X) → List (Branch X) → Type 0 where
    does : {b : Branch X} {bs : List (Branch X)} {step : Step} {o : Outcome F}
        → Asks b r step → Rule (scene S b) step o → RoomFor b bs o
        → Does r (b ∷ bs) (open_then b bs o)

  -- record `at` is refused, and this is its first cause
  pub data Refuses (at : RecordNumber) (r : Record) : List (Branch X) → Refusal → Type 0 where
    none_open : Refuses at r [] (AfterClosed at)
    no_step : {b : Branch X} {bs : List (Branch X)} {e : Refusal}
        → step_of S.layouts S.principals b.labels r at ≡ Err e
        → Refuses at r (b ∷ bs) e
    not_as_needed : {b : Branch X} {bs : List (Branch X)} {step : Step}
        → Asks b r step → ((o : Outcome F) → Rule (scene S b) step o → ⊥)
        → Refuses at r (b ∷ bs) (NotAsNeeded at)
    no_room : {b : Branch X} {bs : List (Branch X)} {step : Step} {o : Outcome F}
        → Asks b r step → Rule (scene S b) step o → (RoomFor b bs o → ⊥)
        → Refuses at r (b ∷ bs) (NoRoom at)

  -- records, one after the other, take these open branches to those
  pub data Reached : List (Branch X) → List Record → List (Branch X) → Type 0 where
    here : {bs : List (Branch X)} → Reached bs [] bs
    on : {bs cs ds : List (Branch X)} {r : Record} {rs : List Record}
        → Does r bs cs → Reached cs rs ds
        → Reached bs (r ∷ rs) ds

  -- the file's records list a closed derivation of b
  pub record Lists (b : Branch X) (bytes : List ℕ) : Type 0 where
    pub starts : length b.facts ≤ S.room.trail
    pub whole : (chain bytes).rest ≡ []
    pub closed : Closed 0 b (chain bytes).records

  -- why a file is refused: too many facts at the start; a bad record; or its end
  pub data Refused (b : Branch X) (bytes : List ℕ) : Refusal → Type 0 where
    too_many_facts : S.room.trail < length b.facts → Refused b bytes (NoRoom (number 0))
    bad_record : {e : Refusal} (before after : List Record) (r : Record) (bs : List (Branch X))
        → length b.facts ≤ S.room.trail
        → (chain bytes).records ≡ before ++ (r ∷ after)
        → Reached (b ∷ []) before bs → Refuses (number (length before)) r bs e
        → Refused b bytes e
    ends_early : (c : Branch X) (bs : List (Branch X))
        → length b.facts ≤ S.room.trail
        → (chain bytes).rest ≡ [] → Reached (b ∷ []) (chain bytes).records (c ∷ bs)
        → Refused b bytes (EndsEarly (number (length (chain bytes).records)))
    broken_frame : (c : Branch X) (bs : List (Branch X))
        → length b.facts ≤ S.room.trail
        → ((chain bytes).rest ≢ []) → Reached (b ∷ []) (chain bytes).records (c ∷ bs)
        → Refused b bytes (Frame (number (length (chain bytes).records)))
    after_closed : length b.facts ≤ S.room.trail
        → ((chain bytes).rest ≢ []) → Reached (b ∷ []) (chain bytes).records []
        → Refused b bytes (AfterClosed (number (length (chain bytes).records)))

-- the answer is taken exactly where the records list a closed derivation, and each refusal comes exactly where its cause is the first
pub record Exactly {X F : Type 0} (S : Setting X F) (b : Branch X) (bytes : List ℕ) (r : Answer) : Type 0 where
  pub taken : (r ≡ Ok tt) ↔ Lists S b bytes
  pub refused : (e : Refusal) → (r ≡ Err e) ↔ Refused S b bytes e

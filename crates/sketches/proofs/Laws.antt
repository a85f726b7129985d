-- A model file is taken exactly when its records are as they should be. Assumes nothing.
use Rattle.std.proofs.Common.{◌≡◌, ℕ, ◌+◌, true, false, cond, ◌||◌, List, [], ◌∷◌, ◌++◌, length, is_some, Some, None, Ok, Err, Option, sym, refl, ap, ◌∙◌, subst}
use Rattle.std.proofs.lemmas.Bool.{cond-true, cond-false, or_parts, or_from}
use Rattle.std.specs.Option.{option_or}
use Rattle.std.specs.List.{AllByRecursion}
use Rattle.records.specs.declared.numbers.Label.{Label}
use Rattle.records.specs.declared.refusal.Refusal.TheVariants.{OutOfRange, GivenTwice, EndsEarly, LabelUnplaced}
use Rattle.records.specs.Chains.{Record, chain, broken_at}
use Rattle.records.specs.Readers.{at_end, read_bytes, Reaches, here, on}
use Rattle.records.proofs.Readers.{reads_by}
use Rattle.kinds.specs.Contents.{world_count_of}
use Rattle.sketches.specs.declared.entry.Entry.{Entry}
use Rattle.sketches.specs.declared.entry.Entry.TheVariants.{Above, Ends, Atom, Place}
use Rattle.sketches.specs.Entries.{onward, entry_of, fits_entry, worlds_fit, worlds_at}
use Rattle.sketches.specs.Described.{gives_above, gives_ends, gives_atom, gives_place, given, given_before, place_in}
use Rattle.sketches.specs.Readings.{Stage, nothing, begun, Kept, numbered, with_entry, entries_at, entered, unplaced, placed, model_reader}
use Rattle.sketches.specs.Laws.{rec, EntryRecord, Apart, Entries, none, more, IsModelFile, ModelLaw}
use Rattle.sketches.proofs.Entered.{ok_same, err_ok, onward_ok, cond_fits, cond_not, entry_record, record_entry, count_record, record_count}
use Rattle.sketches.proofs.Placings.{all_placed, none_unplaced}

some_or : {X : Type 0} (o p : Option X) → is_some (option_or o p) ≡ (is_some o || is_some p)
some_or None p = refl
some_or (Some x) p = refl

-- a list gives something exactly when one of its entries does
none_gives : {X : Type 0} (gives : Entry → Option X) (es : List Entry) → is_some (given gives es) ≡ false → AllByRecursion (λ d. is_some (gives d) ≡ false) es
none_gives gives [] h = tt
none_gives gives (d ∷ es) h =
    let both = or_parts (is_some (gives d)) (is_some (given gives es)) (sym (some_or (gives d) (given gives es)) ∙ h) in
    (both.0, none_gives gives es both.1)

gives_none : {X : Type 0} (gives : Entry → Option X) (es : List Entry) → AllByRecursion (λ d. is_some (gives d) ≡ false) es → is_some (given gives es) ≡ false
gives_none gives [] h = refl
gives_none gives (d ∷ es) h = some_or (gives d) (given gives es) ∙ or_from (is_some (gives d)) (is_some (given gives es)) h.0 (gives_none gives es h.1)

apart : (es : List Entry) (e : Entry) → given_before es e ≡ false → Apart e es
apart es (Above x m) h = none_gives (gives_above x.0) es h
apart es (Ends k A x m) h = none_gives (gives_ends k A.0 x.0) es h
apart es (Atom a m) h = none_gives (gives_atom a.0) es h
apart es (Place x w) h = none_gives (gives_place x.0) es h

not_before : (es : List Entry) (e : Entry) → Apart e es → given_before es e ≡ false
not_before es (Above x m) h = gives_none (gives_above x.0) es h
not_before es (Ends k A x m) h = gives_none (gives_ends k A.0 x.0) es h
not_before es (Atom a m) h = gives_none (gives_atom a.0) es h
not_before es (Place x w) h = gives_none (gives_place x.0) es h

-- a file that is taken at its end
placed_ok : (W : ℕ) (es : List Entry) (o : Option Label) (k : Kept) → placed W es o ≡ Ok k → (o ≡ None) × (record { worlds = W; entries = es } ≡ k)
placed_ok W es None k h = (refl, ok_same (record { worlds = W; entries = es }) k h)
placed_ok W es (Some x) k h = err_ok (LabelUnplaced x) k h

module _ (P n : ℕ) where
  -- what a record that is taken after the first is
  record Stepped (q : Record) (W : ℕ) (es : List Entry) (t : Stage) : Type 0 where
    entry : Entry
    is : EntryRecord q entry
    fits : fits_entry W P n entry ≡ true
    new : Apart entry es
    then : t ≡ begun W (es ++ (entry ∷ []))

  stepped : (i : ℕ) (q : Record) (W : ℕ) (es : List Entry) (t : Stage) → entered P n i q (begun W es) ≡ Ok t → Stepped q W es t
  stepped i q W es t h =
      let some = onward_ok (entries_at W P n q.kind q.body (numbered i) es) (λ fs. Ok (begun W fs)) t h in
      let one = onward_ok (entry_of q.kind q.body (numbered i)) (λ e. with_entry W P n (numbered i) es e) some.0 some.1 in
      let e = one.0 in
      let range = cond_fits (fits_entry W P n e) (cond (given_before es e) (Err (GivenTwice (numbered i))) (Ok (es ++ (e ∷ [])))) (OutOfRange (numbered i)) some.0 one.2 in
      let first = cond_not (given_before es e) (Ok (es ++ (e ∷ []))) (GivenTwice (numbered i)) some.0 range.1 in
      record {
        entry = e;
        is = entry_record q.kind q.body (numbered i) e one.1;
        fits = range.0;
        new = apart es e first.0;
        then = sym (ok_same (begun W some.0) t some.2) ∙ ap (begun W) (sym (ok_same (es ++ (e ∷ [])) some.0 first.1));
      }

  step_is : (i : ℕ) (q : Record) (W : ℕ) (es : List Entry) (e : Entry) → EntryRecord q e → fits_entry W P n e ≡ true → Apart e es → entered P n i q (begun W es) ≡ Ok (begun W (es ++ (e ∷ [])))
  step_is i q W es e is fits new =
      ap (λ x. onward (onward x λ d. with_entry W P n (numbered i) es d) λ fs. Ok (begun W fs)) (record_entry q (numbered i) e is)
      ∙ ap (λ x. onward x λ fs. Ok (begun W fs))
      (cond-true (fits_entry W P n e) _ _ fits ∙ cond-false (given_before es e) (Err (GivenTwice (numbered i))) (Ok (es ++ (e ∷ []))) (not_before es e new))

  -- the records after the first
  record Listed (W : ℕ) (es : List Entry) (rs : List Record) (t : Stage) : Type 0 where
    entries : List Entry
    last_is : t ≡ begun W entries
    listing : Entries W P n es rs entries

  listed : {i : ℕ} {s t : Stage} {rs : List Record} (W : ℕ) (es : List Entry) → s ≡ begun W es → Reaches (model_reader P n) i s rs t → Listed W es rs t
  listed W es is here = record { entries = es; last_is = is; listing = none }
  listed {i} W es is (on {t = t} {r = r} good h) =
      let step = stepped i r W es t (subst (λ s. entered P n i r s ≡ Ok t) is good) in
      let rest = listed W (es ++ (step.entry ∷ [])) step.then h in
      record { entries = rest.entries; last_is = rest.last_is; listing = more step.entry step.is step.fits step.new rest.listing }

  reaches : (W : ℕ) {es fs : List Entry} {rs : List Record} (i : ℕ) → Entries W P n es rs fs → Reaches (model_reader P n) i (begun W es) rs (begun W fs)
  reaches W i none = here
  reaches W {es} i (more {r = r} e is fits new h) = on (step_is i r W es e is fits new) (reaches W (i + 1) h)

  -- the end
  end_ok : (m W : ℕ) (es : List Entry) (rest : List ℕ) (k : Kept) → at_end (model_reader P n) m (begun W es) rest ≡ Ok k
      → (rest ≡ []) × (unplaced n (place_in es) ≡ None) × (record { worlds = W; entries = es } ≡ k)
  end_ok m W es [] k h = let both = placed_ok W es (unplaced n (place_in es)) k h in (refl, both.0, both.1)
  end_ok m W es (b ∷ bs) k h = err_ok (broken_at m) k h

  no_end : (m : ℕ) (rest : List ℕ) (k : Kept) → at_end (model_reader P n) m nothing rest ≡ Ok k → ⊥
  no_end m [] k h = err_ok (EndsEarly (numbered m)) k h
  no_end m (b ∷ bs) k h = err_ok (broken_at m) k h

  -- the whole file, by its records and what is left behind them
  record Whole (rs : List Record) (rest : List ℕ) (k : Kept) : Type 0 where
    first : List ℕ
    last : List Record
    parts : rs ≡ rec 20 first ∷ last
    whole : rest ≡ []
    count_size : length first ≡ 2
    count_is : k.worlds ≡ (world_count_of first).0
    count_fits : worlds_fit k.worlds ≡ true
    listing : Entries k.worlds P n [] last k.entries
    placing : unplaced n (place_in k.entries) ≡ None

  whole_of : {s t : Stage} {rs : List Record} (m : ℕ) (rest : List ℕ) (k : Kept) → s ≡ nothing → Reaches (model_reader P n) 0 s rs t → at_end (model_reader P n) m t rest ≡ Ok k → Whole rs rest k
  whole_of m rest k is here end = absurd (no_end m rest k (subst (λ s. at_end (model_reader P n) m s rest ≡ Ok k) is end))
  whole_of m rest k is (on {t = t} {r = r} {rs = rs} good h) end =
      let some = onward_ok (worlds_at r.kind r.body (numbered 0)) (λ W. Ok (begun W.0 [])) t (subst (λ s. entered P n 0 r s ≡ Ok t) is good) in
      let W = some.0.0 in
      let count = count_record r.kind r.body (numbered 0) some.0 some.1 in
      let list = listed W [] (sym (ok_same (begun W []) t some.2)) h in
      let done = end_ok m W list.entries rest k (subst (λ s. at_end (model_reader P n) m s rest ≡ Ok k) list.last_is end) in
      subst (Whole (r ∷ rs) rest) done.2
      (record {
        first = r.body;
        last = rs;
        parts = ap (λ kind. rec kind r.body ∷ rs) count.0;
        whole = done.0;
        count_size = count.1;
        count_is = ap (λ V. V.0) count.2;
        count_fits = count.3;
        listing = list.listing;
        placing = done.1;
      })

  to_file : (bs : List ℕ) (k : Kept) → read_bytes (model_reader P n) 0 nothing bs ≡ Ok k → IsModelFile P n bs k
  to_file bs k h =
      let end = (reads_by (model_reader P n) nothing bs).taken k h in
      let w = whole_of (length (chain bs).records) (chain bs).rest k refl end.reached end.answer_is in
      record {
        first = w.first;
        last = w.last;
        parts = w.parts;
        whole = w.whole;
        count_size = w.count_size;
        count_is = w.count_is;
        count_fits = w.count_fits;
        listed = w.listing;
        placed = λ x low. all_placed (place_in k.entries) n x.0 low w.placing;
      }

  from_file : (bs : List ℕ) (k : Kept) → IsModelFile P n bs k → read_bytes (model_reader P n) 0 nothing bs ≡ Ok k
  from_file bs k f =
      let count : worlds_at 20 f.first (numbered 0) ≡ Ok (world_count_of f.first) = record_count f.first (numbered 0) f.count_size (subst (λ W. worlds_fit W ≡ true) f.count_is f.count_fits) in
      let begin : entered P n 0 (rec 20 f.first) nothing ≡ Ok (begun k.worlds []) = ap (λ x. onward x λ W. Ok (begun W.0 [])) count ∙ ap (λ W. Ok (begun W [])) (sym f.count_is) in
      (reads_by (model_reader P n) nothing bs).taken_only k (record {
        last = begun k.worlds k.entries;
        reached = subst (λ rs. Reaches (model_reader P n) 0 nothing rs (begun k.worlds k.entries)) (sym f.parts) (on begin (reaches k.worlds (0 + 1) f.listed));
        answer_is =
            ap (at_end (model_reader P n) (length (chain bs).records) (begun k.worlds k.entries)) f.whole
            ∙ ap (placed k.worlds k.entries) (none_unplaced (place_in k.entries) n f.placed);
      })

  -- the law of a model file
  pub model_law : (bs : List ℕ) → ModelLaw P n bs
  model_law bs = record { taken = λ k. (to_file bs k, from_file bs k); reads_by = reads_by (model_reader P n) nothing bs }

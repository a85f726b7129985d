-- The rows of the first records of a file. Assumes nothing.
use Rattle.std.proofs.Common.{◌≡◌, ℕ, ◌+◌, ◌*◌, ◌<◌, ◌≤◌, List, [], ◌∷◌, ◌++◌, map, length, get_or, take, vec_items, sym, refl, ap, ◌∙◌, subst, arith, length-append}
use Rattle.std.proofs.lemmas.List.{map_push, length-map, length-take-le, get_or-map, take_more, take_all}
use Rattle.std.proofs.lemmas.List.Sums.{fold_push, sum_by-cons, sum_by_more, sum_by_more_le}
use Rattle.kinds.specs.declared.kind.Sort.{Sort}
use Rattle.kinds.specs.declared.kind.Sort.TheVariants as sort
use Rattle.records.specs.declared.record.RawRecord.{RawRecord}
use Rattle.records.specs.Chains.{Record, record_of, Joined, none, more, chain, ending, OneChain}
use Rattle.listings.specs.declared.listing.Listing.{Listing}
use Rattle.listings.specs.declared.row.Row.{Row}
use Rattle.listings.specs.declared.tally.Tally.{Tally}
use Rattle.readings.specs.Readings.{counted_as}
use Rattle.listings.specs.Rows.{IsRow, Rows, span, spans}
use Rattle.listings.specs.Tallies.{Counts, counts_of, counted, nothing, one_more, total}
use Rattle.listings.specs.Listings.{sorts, Listed}

-- joined records take as many bytes as there are
joined_spans : {rs : List Record} {bs : List ℕ} → Joined rs bs → length bs ≡ spans rs
joined_spans none = refl
joined_spans (more {rs = rs} {bs = bs} a b c d body long j) =
    omega (arith, joined_spans j, length-append body bs, sum_by-cons span (record { kind = c + d * 256; body = body }) rs)

-- the records of a file and what is left after them are the file
chain_spans : (bs : List ℕ) → OneChain bs → spans (chain bs).records + length (chain bs).rest ≡ length bs
chain_spans bs law =
    omega (arith, joined_spans law.is.joined, ap length law.is.parts, length-append law.is.front_part (chain bs).rest)

-- a record takes at least four bytes
spans_few : (rs : List Record) → 4 * length rs ≤ spans rs
spans_few [] = omega arith
spans_few (r ∷ rs) = omega (arith, spans_few rs, sum_by-cons span r rs)

-- the number and the place of a row, said otherwise
moved : (r : Record) {n m o p : ℕ} (row : Row) → n ≡ m → o ≡ p → IsRow r n o row → IsRow r m p row
moved r row e f h = record { record_is = h.record_is; number_is = h.number_is ∙ e; offset_is = h.offset_is ∙ f; reads = h.reads }

-- one row more
rows_push : (rs : List Record) (n o : ℕ) (rows : List Row) (r : Record) (row : Row) → Rows rs n o rows → IsRow r (n + length rs) (o + spans rs) row → Rows (rs ++ r ∷ []) n o (rows ++ row ∷ [])
rows_push [] n o [] r row h at = (moved r row (omega arith) (omega arith) at, tt)
rows_push [] n o (x ∷ xs) r row h at = absurd h
rows_push (s ∷ rs) n o [] r row h at = absurd h
rows_push (s ∷ rs) n o (x ∷ xs) r row h at =
    (h.0, rows_push rs (n + 1) (o + span s) xs r row h.1 (moved r row (omega arith) (omega (arith, sum_by-cons span s rs)) at))

-- one record more in all
total_more : (s : Sort) (c : Counts) → total (one_more s c) ≡ total c + 1
total_more sort.Formula c = omega arith
total_more sort.Fact c = omega arith
total_more sort.Row c = omega arith
total_more sort.Unknown c = omega arith
total_more sort.WrongSize c = omega arith

-- of a file whose records are fs: the rows, the tally and the bytes of the first i
pub record Sofar (bs : List ℕ) (fs : List RawRecord) (i : ℕ) (rows : List Row) (t : Tally) (taken : ℕ) : Type 0 where
  pub short : length bs ≤ 32768
  pub law : OneChain bs
  pub are : map record_of fs ≡ (chain bs).records
  pub rows_are : Rows (take i (chain bs).records) 0 0 rows
  pub tally_is : counts_of t ≡ counted nothing (sorts rows)
  pub records_are : t.records ≡ i
  pub taken_is : taken ≡ spans (take i (chain bs).records)

-- how many records there are
many : {bs : List ℕ} {fs : List RawRecord} {i taken : ℕ} {rows : List Row} {t : Tally} → Sofar bs fs i rows t taken → length (chain bs).records ≡ length fs
many {fs = fs} so = sym (ap length so.are) ∙ length-map fs record_of

-- the next of them
next_is : {bs : List ℕ} {fs : List RawRecord} {i taken : ℕ} {rows : List Row} {t : Tally} (d : RawRecord) → Sofar bs fs i rows t taken → i < length fs → get_or (chain bs).records i (record_of d) ≡ record_of (get_or fs i d)
next_is {fs = fs} {i = i} d so h = ap (λ rs. get_or rs i (record_of d)) (sym so.are) ∙ get_or-map record_of fs i d (record_of d) h

-- the next of them ends within the file
pub ends_within : {bs : List ℕ} {fs : List RawRecord} {i n taken : ℕ} {rows : List Row} {t : Tally} {row : Row} (d : RawRecord) → Sofar bs fs i rows t taken → i < length fs → IsRow (record_of (get_or fs i d)) n taken row → row.offset + span (record_of row.«record».raw) ≤ 32768
ends_within {bs = bs} {i = i} d so h at =
    omega (arith, sum_by_more_le span (chain bs).records i (record_of d) (omega (arith, many so)), ap span (next_is d so h), ap span at.record_is, chain_spans bs so.law)

-- a file has few records
pub few_records : {bs : List ℕ} {fs : List RawRecord} {i taken : ℕ} {rows : List Row} {t : Tally} → Sofar bs fs i rows t taken → i < length fs → t.records < 8192
few_records {bs = bs} so h = omega (arith, spans_few (chain bs).records, chain_spans bs so.law, many so)

-- one record more
pub sofar_more : {bs : List ℕ} {fs : List RawRecord} {i n taken end : ℕ} {rows all : List Row} {t u : Tally} {row : Row} {s : Sort} (d : RawRecord) → Sofar bs fs i rows t taken → i < length fs → IsRow (record_of (get_or fs i d)) n taken row → n ≡ t.records → s ≡ counted_as row.reading → counts_of u ≡ one_more s (counts_of t) → end ≡ row.offset + span (record_of row.«record».raw) → all ≡ rows ++ row ∷ [] → Sofar bs fs (i + 1) all u end
sofar_more {bs = bs} {fs = fs} {i = i} {rows = rows} {t = t} {u = u} {row = row} {s = s} d so h at numbered sorted added ends pushed =
    let r = record_of (get_or fs i d) in
    let rs = (chain bs).records in
    let here : i < length rs = omega (arith, many so) in
    let firsts : take (i + 1) rs ≡ take i rs ++ r ∷ [] = take_more rs i (record_of d) here ∙ ap (λ x. take i rs ++ x ∷ []) (next_is d so h) in
    let at_end : IsRow r (0 + length (take i rs)) (0 + spans (take i rs)) row = moved r row (omega (arith, length-take-le i rs (omega arith))) (omega arith) at in
    record {
      short = so.short;
      law = so.law;
      are = so.are;
      rows_are = rw (firsts, pushed) (rows_push (take i rs) 0 0 rows r row so.rows_are at_end);
      tally_is =
          added
          ∙ ap (one_more s) so.tally_is
          ∙ ap (λ x. one_more x (counted nothing (sorts rows))) sorted
          ∙ sym (ap (counted nothing) (ap sorts pushed ∙ map_push (λ x. counted_as x.reading) rows row) ∙ fold_push (λ c x. one_more x c) nothing (sorts rows) (counted_as row.reading));
      records_are = omega (arith, ap total added, total_more s (counts_of t), u.whole, t.whole);
      taken_is = omega (arith, ap span at.record_is, ap span (next_is d so h), sum_by_more span rs i (record_of d) here);
    }

-- all of them: the listing of the file
pub listed : {bs : List ℕ} {fs : List RawRecord} {i : ℕ} {l : Listing} → Sofar bs fs i (vec_items l.rows) l.tally l.taken → length fs ≤ i → i ≤ length fs → l.bytes ≡ length bs → l.ending ≡ ending (length (chain bs).records) (chain bs).rest → Listed bs l
listed {bs = bs} {i = i} {l = l} so few most long ends =
    let all : take i (chain bs).records ≡ (chain bs).records = take_all i (chain bs).records (omega (arith, many so)) in
    record {
      rows_are = subst (λ rs. Rows rs 0 0 (vec_items l.rows)) all so.rows_are;
      tally_is = so.tally_is;
      records_are = omega (arith, many so);
      bytes_are = long;
      taken_are = omega (arith, ap spans all, chain_spans bs so.law);
      ending_is = ends;
    }

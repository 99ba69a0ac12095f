-- What the generator's numbers, records and datagrams come to.
use Rattle.std.proofs.Common.{◌≡◌, ◌≢◌, ◌∙◌, ℕ, ◌+◌, ◌*◌, ◌/◌, ◌%◌, ◌≤◌, zero, suc, List, [], ◌∷◌, ◌++◌, length, map, refl, sym, ap, subst, arith, ⊎_elim}
use Rattle.std.specs.List.{AllByRecursion, flat_map}
use Rattle.std.proofs.Math.Nat.{mul-suc, suc-mul}
use Rattle.std.proofs.lemmas.Bool.{cases_eq}
use Rattle.std.proofs.lemmas.List.{flat_map_more, length-append, map-append}
use Rattle.netflow_five.specs.Datagram.{IsDatagram}
use Rattle.netflow_five.specs.Encoding.{header_bytes, record_bytes}
use Rattle.netflow_five.specs.File.{IsWellFormed, joined}
use Rattle.netflow_five.specs.Generating.{count_at, datagram_at, flow_at, generated, header_at, number_after, numbers_from, records_before}
use Rattle.netflow_five.specs.declared.record.FlowRecord.{FlowRecord}
use Rattle.netflow_five.proofs.Encoded.{written_is_datagram}

-- a list of numbers with one more
numbers_more : (m n : ℕ) → numbers_from m (suc n) ≡ numbers_from m n ++ (m + n) ∷ []
numbers_more m zero = ap (λ (i : ℕ). i ∷ []) (omega arith)
numbers_more m (suc n) = ap (λ (l : List ℕ). m ∷ l) (numbers_more (suc m) n ∙ ap (λ (i : ℕ). numbers_from (suc m) n ++ i ∷ []) (omega arith))

length-numbers : (m n : ℕ) → length (numbers_from m n) ≡ n
length-numbers m zero = refl
length-numbers m (suc n) = ap suc (length-numbers (suc m) n)

length-mapped : {A : Type 0} (f : ℕ → A) (l : List ℕ) → length (map f l) ≡ length l
length-mapped f [] = refl
length-mapped f (x ∷ l) = ap suc (length-mapped f l)

-- one record more
pub flows_more : (bytes : List ℕ) (start j k : ℕ)
    → (bytes ++ flat_map record_bytes (map (flow_at start) (numbers_from j k))) ++ record_bytes (flow_at start (j + k))
    ≡ bytes ++ flat_map record_bytes (map (flow_at start) (numbers_from j (k + 1)))
flows_more bytes start j k =
    let next : suc k ≡ k + 1 = omega arith in
    flat_map_more record_bytes bytes (map (flow_at start) (numbers_from j k)) (flow_at start (j + k))
    ∙ (ap (λ (l : List FlowRecord). bytes ++ flat_map record_bytes l) (sym (ap (map (flow_at start)) (numbers_more j k) ∙ map-append (flow_at start) (numbers_from j k) ((j + k) ∷ [])))
    ∙ ap (λ (n : ℕ). bytes ++ flat_map record_bytes (map (flow_at start) (numbers_from j n))) next)

-- one number more
pub number_more : (start j k : ℕ) → number_after start (suc (j + k)) ≡ number_after start (j + (k + 1))
number_more start j k = ap (number_after start) (let next : suc (j + k) ≡ j + (k + 1) = omega arith in next)

-- one datagram more
pub datagrams_more : (start i : ℕ) → generated start i ++ datagram_at start i ≡ generated start (i + 1)
datagrams_more start i =
    let next : suc i ≡ i + 1 = omega arith in
    let last : i ≡ 0 + i = omega arith in
    flat_map_more (datagram_at start) [] (numbers_from 0 i) i
    ∙ (ap (λ (n : ℕ). flat_map (datagram_at start) (numbers_from 0 i ++ n ∷ [])) last
    ∙ (ap (flat_map (datagram_at start)) (sym (numbers_more 0 i)) ∙ ap (λ (n : ℕ). generated start n) next))

-- and its records
pub records_more : (i : ℕ) → records_before i + count_at i ≡ records_before (i + 1)
records_more i = ap records_before (let next : suc i ≡ i + 1 = omega arith in next)

-- the sum of the first numbers is half a product
triangle : (r : ℕ) → (r + 1) * (r + 1 + 1) / 2 ≡ r * (r + 1) / 2 + (r + 1)
triangle r = omega (arith, mul-suc (r + 1) (r + 1), suc-mul r (r + 1))

pub records_closed : (i : ℕ) → 465 * (i / 30) + i % 30 * (i % 30 + 1) / 2 ≡ records_before i
records_closed zero = refl
records_closed (suc i) =
    let before = records_closed i in ⊎_elim
    (λ (last : i % 30 ≡ 29). omega (arith, before, ap (λ (r : ℕ). r * (r + 1) / 2) last, ap (λ (r : ℕ). r * (r + 1) / 2) (let e : suc i % 30 ≡ 0 = omega arith in e)))
    (λ (more : i % 30 ≢ 29). omega (arith, before, triangle (i % 30), ap (λ (r : ℕ). r * (r + 1) / 2) (let e : suc i % 30 ≡ i % 30 + 1 = omega arith in e)))
    (cases_eq (i % 30) 29)

-- there are fewer than 2,000,000 of them
pub records_few : (i : ℕ) → records_before i ≤ 30 * i
records_few zero = omega arith
records_few (suc i) = let few = records_few i in omega arith

joined_map : (f : ℕ → List ℕ) (l : List ℕ) → flat_map f l ≡ joined (map f l)
joined_map f [] = refl
joined_map f (x ∷ l) = ap (λ (b : List ℕ). f x ++ b) (joined_map f l)

datagram_there : (start i : ℕ) → IsDatagram (datagram_at start i)
datagram_there start i =
    let flows : List FlowRecord = map (flow_at start) (numbers_from (records_before i) (count_at i)) in
    let long : length flows ≡ count_at i = length-mapped (flow_at start) (numbers_from (records_before i) (count_at i)) ∙ length-numbers (records_before i) (count_at i) in
    subst (λ (n : ℕ). IsDatagram (header_bytes (header_at i) n ++ flat_map record_bytes flows)) long
    (written_is_datagram (header_at i) flows (omega arith) (omega arith))

sizes_there : (start m n : ℕ) → length (flat_map (datagram_at start) (numbers_from m n)) ≤ 1464 * n
sizes_there start m zero = omega arith
sizes_there start m (suc n) =
    let there = datagram_there start m in
    omega (arith, length-append (datagram_at start m) (flat_map (datagram_at start) (numbers_from (suc m) n)), there.size, there.few_records, sizes_there start (suc m) n)

-- datagrams have at most 30 records each
pub length-generated : (start datagrams : ℕ) → length (generated start datagrams) ≤ 1464 * datagrams
length-generated start datagrams = sizes_there start 0 datagrams

each_there : (start m n : ℕ) → AllByRecursion IsDatagram (map (datagram_at start) (numbers_from m n))
each_there start m zero = tt
each_there start m (suc n) = (datagram_there start m, each_there start (suc m) n)

pub generated_file : (start datagrams : ℕ) → IsWellFormed (generated start datagrams)
generated_file start datagrams = (
  map (datagram_at start) (numbers_from 0 datagrams),
  record { each = each_there start 0 datagrams; whole = joined_map (datagram_at start) (numbers_from 0 datagrams) },
)

-- the header counts the records of the datagrams before its own
pub counts_before : (i : ℕ) → (header_at i).flow_sequence ≡ records_before i
unfolding header_at
counts_before i = refl

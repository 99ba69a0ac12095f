-- Pairs added up by workers on one shared object.
use Rattle.std.specs.Prelude.{◌≡◌, ⊤, ℕ, ◌+◌, ◌*◌, ◌^◌, ◌<◌, ◌≤◌, zero, suc, All, Bool, true, false, List, [], ◌∷◌, ◌++◌, count_by, length, filter, map, take}
use Rattle.std.specs.List.Sorted.{IsPermutation}
use Rattle.std.specs.List.{AllByRecursion, AllZip, range_with_len}
use Rattle.call_script.specs.Run.{items_at}
use Rattle.flow_fold.specs.Flows.{Flows, HasRisingKeys, value_in}
use Rattle.flow_fold.specs.Fold.{IsFold}
use Rattle.flow_fold.specs.Merge.{merge_of}
use Rattle.flow_fold.specs.Words.{value_of_words, words_of}
use Rattle.flow_fold.specs.declared.key.Key.{Key}
use Rattle.flow_fold.specs.declared.value.Value.{Value}
use Rattle.seat_history.specs.declared.call.Call.{Call}
use Rattle.seat_history.specs.declared.call.Call.TheVariants.{Find, Insert, Replace}
use Rattle.seat_history.specs.declared.key.KeyWords.{KeyWords}
use Rattle.seat_history.specs.declared.reply.Reply.{Reply}
use Rattle.seat_history.specs.declared.reply.Reply.TheVariants.{Done, Yes}
use Rattle.seat_history.specs.History.{state_at}
use Rattle.seat_history.specs.Pairs.{ArePairsOf, IsPairInRange, Pairs}
use Rattle.step_rules.specs.Closing.{ClosedData, IsClosed}
use Rattle.step_rules.specs.History.{IsKey}
use Rattle.step_rules.specs.Lawful.{is_full}
use Rattle.step_rules.specs.Line.{stands_by}
use Rattle.step_rules.specs.SeatData.{IsSeat, SeatData}
use Rattle.step_rules.specs.Stock.{AreOfOne}
use Rattle.step_rules.specs.Views.{count_up}
use Rattle.step_rules.specs.declared.plan.Plan.{Plan}
use Rattle.step_rules.specs.declared.view.Stand.{Stand}
use Rattle.tally_core.specs.Draws.{AreDraws, batches_in, batches_of, draws_by, drawn_pairs, drawn_places}
use Rattle.tally_core.specs.declared.draws.Draw.{Draw}

-- a key as the table has it
abbrev pub key_words : Key → KeyWords
key_words key = record { k0 = key.k0; k1 = key.k1 }

-- the parts of a value have their widths
pub record IsValueInRange (value : Value) : Type 0 where
  pub packets : value.packets < 2 ^ 64
  pub octets : value.octets < 2 ^ 64
  pub first : value.first < 2 ^ 64
  pub last : value.last < 2 ^ 64
  pub flags : value.flags < 2 ^ 64

-- the words of a key and the parts of its value have their widths
abbrev pub IsInRange : Key × Value → Type 0
IsInRange pair = IsKey (key_words pair.0) × IsValueInRange pair.1

-- those of all pairs have
abbrev pub AreInRange : Flows → Type 0
AreInRange pairs = AllByRecursion IsInRange pairs

-- a pair of the table as a key with its value
abbrev pub flow_of : KeyWords × List ℕ → Key × Value
flow_of pair = (record { k0 = pair.0.k0; k1 = pair.0.k1 }, value_of_words pair.1)

-- these words are a value's
abbrev pub AreOfValue : List ℕ → Type 0
AreOfValue words = (value : Value) × IsValueInRange value × (words ≡ words_of value)

-- the old words are some value's, and the new ones are that value's with this one merged into it
abbrev pub Merges : Value → List ℕ → List ℕ → Type 0
Merges value old new = (known : Value) × IsValueInRange known × (old ≡ words_of known) × (new ≡ words_of (merge_of known value))

-- the call with this reply adds the pair: it inserts it, or replaces some value of its key by that value with the pair's merged into it
abbrev pub AddsBy : Key × Value → Call → Reply → Type 0
AddsBy pair (Insert key val) Done = (key ≡ key_words pair.0) × (val ≡ words_of pair.1)
AddsBy pair (Replace key old new) Yes = (key ≡ key_words pair.0) × Merges pair.1 old new
AddsBy pair _ _ = ⊥

-- the stand adds the pair
abbrev pub Adds : Key × Value → Stand → Type 0
Adds pair s = AddsBy pair s.call s.reply

-- the reply says that something was added
abbrev pub is_adding_reply : Reply → Bool
is_adding_reply Done = true
is_adding_reply Yes = true
is_adding_reply _ = false

-- the stand adds something
abbrev pub is_adding : Stand → Bool
is_adding s = is_adding_reply s.reply

-- the stands that add something
abbrev pub adding_in : List Stand → List Stand
adding_in stands = filter is_adding stands

-- the stands that add something of the first n callers, by rising number
abbrev pub adding_by : ℕ → List Stand → List Stand
adding_by zero stands = []
adding_by (suc n) stands = adding_by n stands ++ adding_in (stands_by n stands)

-- the call looks for a key, or has the words of values
abbrev pub HasValues : Call → Type 0
HasValues (Find key) = ⊤
HasValues (Insert key val) = AreOfValue val
HasValues (Replace key old new) = AreOfValue old × AreOfValue new
HasValues _ = ⊥

-- the stand is of a call that a tally makes, and where it adds something it adds a pair
pub record IsTallyCall (s : Stand) : Type 0 where
  pub values : HasValues s.call
  pub adds : is_adding s ≡ true → (pair : Key × Value) × Adds pair s

-- the plan of an object for pairs: a seat a worker, each with nodes for so many flows, which may change the object for each pair
abbrev pub plan_of_tally : Flows → ℕ → ℕ → ℕ → Plan
plan_of_tally pairs workers flows buckets = record {
  seats = workers;
  share = 2 * flows + 4 * workers + 1;
  registers = 0;
  buckets = buckets;
  changes = length pairs;
  removes = 0;
}

-- the stand isn't Full
abbrev pub IsAnswered : Stand → Type 0
IsAnswered s = is_full s.reply ≡ false

-- none of the stands is Full, or the last one alone is
abbrev pub EndsFull : Bool → List Stand → Type 0
EndsFull false stands = AllByRecursion IsAnswered stands
EndsFull true stands = (s : Stand) × (before : List Stand) × (stands ≡ before ++ s ∷ []) × (is_full s.reply ≡ true) × AllByRecursion IsAnswered before

-- the stands add the first of these pairs, in order: all of them, or fewer where the last stand is Full
pub record HasAdded (pairs : Flows) (full : Bool) (stands : List Stand) : Type 0 where
  pub count : ℕ
  pub within : count ≤ length pairs
  pub added : AllZip Adds (take count pairs) (adding_in stands)
  pub in_range : AreInRange (take count pairs)
  pub calls : AllByRecursion IsTallyCall stands
  pub all : full ≡ false → count ≡ length pairs
  pub ends : EndsFull full stands

-- the object was closed with a seat that holds just the numbers of its plan
abbrev pub IsClosedWhole : ClosedData → Type 0
IsClosedWhole closed = (seat : SeatData) × IsClosed seat closed × (seat.view.numbers ≡ count_up 0 closed.plan.seats)

-- on the closed object each worker added first pairs of the batches that it drew, in order, all of them unless it was answered Full, by the
-- stands of its number, which are of a seat of no other
pub record HasTallied (workers : ℕ) (pairs : Flows) (drawn : ℕ → List ℕ) (full : ℕ → Bool) (closed : ClosedData) : Type 0 where
  pub closed_is : IsClosedWhole closed
  pub law : IsSeat closed_is.0
  pub workers_are : closed.plan.seats ≡ workers
  pub added : (w : ℕ) → w < workers → HasAdded (drawn_pairs pairs (drawn w)) (full w) (stands_by w closed.stands)
  pub alone : (w : ℕ) → w < workers → AreOfOne w (stands_by w closed.stands)

-- the flows are the closed object's pairs
pub record HasFlows (closed : ClosedData) (flows : Flows) : Type 0 where
  pub pairs : Pairs
  pub are : ArePairsOf (state_at closed.history (length closed.history)).values pairs
  pub in_range : All IsPairInRange pairs
  pub flows_are : flows ≡ map flow_of pairs

-- the pairs were added up to these flows, by rising key, on the closed object of this plan, by workers that drew these batches
pub record IsTallied (p : Plan) (pairs flows : Flows) (closed : ClosedData) (draws : List Draw) : Type 0 where
  pub plan_is : closed.plan ≡ p
  pub closed_is : IsClosedWhole closed
  -- each stand is of a caller of the plan, and none is Full
  pub callers : All (λ (s : Stand). s.by < p.seats) closed.stands
  pub none_full : All IsAnswered closed.stands
  -- the flows are the closed object's pairs by key, and the fold of all pairs
  pub closed_pairs : HasFlows closed flows
  pub rising : HasRisingKeys flows
  pub fold : IsFold pairs (value_in flows)
  pub draws_are : AreDraws p.seats (batches_of (length pairs)) draws
  -- a worker's stands add the pairs of the batches that it drew, in order
  pub stands : (w : ℕ) → w < p.seats → AllZip Adds (drawn_pairs pairs (batches_in (draws_by w draws))) (adding_in (stands_by w closed.stands))
  -- and so the stands that add something, by rising number, add the pairs at the places of all batches drawn; these are each place once, and no
  -- other stand adds something
  pub in_order : AllZip Adds (items_at pairs (drawn_places (length pairs) (batches_in draws))) (adding_by p.seats closed.stands)
  pub each_place : IsPermutation (range_with_len 0 (length pairs)) (drawn_places (length pairs) (batches_in draws))
  pub counted : count_by is_adding closed.stands ≡ length pairs

-- the pairs have more keys than so many
abbrev pub HasMoreKeys : ℕ → Flows → Type 0
HasMoreKeys most pairs = (flows : Flows) × HasRisingKeys flows × IsFold pairs (value_in flows) × (most < length flows)

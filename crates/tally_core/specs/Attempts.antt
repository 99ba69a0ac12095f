-- A worker of a tally, from its first pair to its last.
use Rattle.std.specs.Prelude.{◌≡◌, ℕ, ◌+◌, ◌-◌, ◌<◌, ◌≤◌, Bool, true, false, not, List, [], ◌∷◌, ◌++◌, None, Option, Some, length, take}
use Rattle.std.specs.List.{AllByRecursion, AllZip}
use Rattle.big_atomic.specs.Ready.{IsReady}
use Rattle.cache_hash.specs.Calls.{IsUpdated}
use Rattle.cache_hash.specs.declared.answers.Update.{Update as UpdateAnswer}
use Rattle.flow_fold.specs.Flows.{Flows}
use Rattle.flow_fold.specs.Words.{words_of}
use Rattle.flow_fold.specs.declared.key.Key.{Key}
use Rattle.flow_fold.specs.declared.value.Value.{Value}
use Rattle.step_rules.specs.History.{GoesOn}
use Rattle.step_rules.specs.Lawful.{is_full}
use Rattle.step_rules.specs.SeatData.{ObjectData, SeatData, holds_record}
use Rattle.step_rules.specs.declared.view.Stand.{Stand}
use Rattle.step_rules.specs.declared.view.View.{View}
use Rattle.tally_core.specs.Adding.{Adds, AreInRange, AreOfValue, EndsFull, IsTallyCall, Merges, adding_in, key_words}
use Rattle.worker_gate.specs.Rule.{one_if}

-- what an update for a pair puts: the pair's value where none is there, and else the one there with the pair's merged into it
abbrev pub PutsMerged : Value → Option (List ℕ) → List ℕ → Type 0
PutsMerged value None new = new ≡ words_of value
PutsMerged value (Some old) new = Merges value old new × AreOfValue new

-- the same seat's view at the same object, with stands and history that go on
pub record IsLater (v w : View) : Type 0 where
  pub plan : w.plan ≡ v.plan
  pub numbers : w.numbers ≡ v.numbers
  pub stands : (later : List Stand) × (w.stands ≡ v.stands ++ later)
  pub seen : GoesOn v.seen w.seen

-- the stand is of one update for the pair, which the seat of this view made: so each further turn of it is paid for by another caller's change of the
-- pair's bucket, behind the look before it (`Answered.paid`). Where it isn't Full, it adds the pair
pub record IsUpdateFor (v : View) (pair : Key × Value) (s : Stand) : Type 0 where
  pub answer : UpdateAnswer
  pub before : SeatData
  pub after : SeatData
  pub updated : IsUpdated (key_words pair.0) (PutsMerged pair.1) answer before after
  pub stand_is : updated.change.answered.stand ≡ s
  pub later : IsLater after.view v
  pub adds : is_full s.reply ≡ false → Adds pair s

-- the stands are of one update for each of these pairs, in order
abbrev pub AreUpdates : Flows → View → Type 0
AreUpdates tried v = AllZip (IsUpdateFor v) tried v.stands

-- of the pairs tried all were added, or all but the last one where that was answered Full
abbrev pub added_of : Flows → Bool → Flows
added_of tried false = tried
added_of tried true = take (length tried - 1) tried

-- a seat that tried just these pairs, in order, by one update each, and has a change for each pair that it didn't add; full where its last stand
-- is Full
pub record IsAdding (shared : ObjectData) (tried : Flows) (full : Bool) (seat : SeatData) : Type 0 where
  pub ready : IsReady shared seat
  pub some : 0 < shared.plan.buckets
  pub one : length seat.view.numbers ≡ 1
  pub none_held : holds_record seat.view ≡ false
  pub adds : AllZip Adds (added_of tried full) (adding_in seat.view.stands)
  pub in_range : AreInRange (added_of tried full)
  pub calls : AllByRecursion IsTallyCall seat.view.stands
  pub left : shared.plan.changes ≤ seat.view.changes + length (added_of tried full)
  pub ends : EndsFull full seat.view.stands
  pub updates : AreUpdates tried seat.view

-- the pair was tried besides: it was added, or the call for it was answered Full
abbrev pub HasAddedOne : ObjectData → Flows → Key × Value → Bool → SeatData → Type 0
HasAddedOne shared added pair on after = IsAdding shared (added ++ pair ∷ []) (not on) after

-- the first of these pairs were added besides: all of them, or fewer where the call for the next one was answered Full
pub record HasAddedFirst (shared : ObjectData) (added pairs : Flows) (full : Bool) (after : SeatData) : Type 0 where
  pub count : ℕ
  pub within : count + one_if full ≤ length pairs
  pub adding : IsAdding shared (added ++ take (count + one_if full) pairs) full after
  pub all : full ≡ false → count ≡ length pairs

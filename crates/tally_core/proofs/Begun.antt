-- Callers before their first line.
use Rattle.std.specs.List.{AllByRecursion}
use Rattle.std.proofs.Common.{get_or, ◌≡◌, ◌∙◌, ℕ, ◌+◌, ◌*◌, ◌<◌, ◌≤◌, Bool, true, false, cond, eqb, List, [], ◌∷◌, ◌++◌, All, length, sym, ap, subst, arith}
use Rattle.std.proofs.lemmas.List.{get_or-map, length-map}
use Rattle.std.proofs.lemmas.List.Sums.{sum_by-cons}
use Rattle.big_atomic.proofs.SeatNumbers.{alone, built_numbers, single, split_led}
use Rattle.big_atomic.specs.Seats.{AreLed, AreSplit, IsUnused, all_numbers}
use Rattle.call_script.proofs.Turns.{may_turn}
use Rattle.call_script.specs.Holding.{MayTurn, calls_by, holds_from}
use Rattle.call_script.specs.Script.{MayRun}
use Rattle.seat_history.specs.Object.{NamesBelow, Object, blank_object, object_after}
use Rattle.seat_history.specs.declared.call.Call.{Call}
use Rattle.seat_history.specs.declared.call.Call.TheVariants.{Load, Store, Swap, Hold, Look, Release, Find, Insert, Replace, Remove}
use Rattle.seat_history.specs.declared.entry.Entry.{Entry}
use Rattle.step_rules.specs.History.{IsThere}
use Rattle.step_rules.specs.Records.{removes_of}
use Rattle.step_rules.specs.SeatData.{ObjectData, SeatData}
use Rattle.step_rules.specs.Starts.{IsBuilt}
use Rattle.step_rules.specs.Stock.{removals}
use Rattle.step_rules.specs.Views.{number}
use Rattle.step_rules.specs.declared.plan.Plan.{Plan}
use Rattle.step_rules.specs.declared.view.Stand.{Stand}
use Rattle.tally_core.proofs.Coming.{few_by}
use Rattle.tally_core.specs.Workers.{Caller, HasCome, HasOpened, HasRoom, HasSeats, HaveCome, IsFor, entries_of, lines_by, removes_in, replies_of, seats_of}

is_there : (p : Plan) (call : Call) → p.registers ≡ 16 → 0 < p.buckets → NamesBelow 16 call → IsThere p call
is_there p (Load reg) registers buckets below = omega (arith, registers, below)
is_there p (Store reg new) registers buckets below = omega (arith, registers, below)
is_there p (Swap reg old new) registers buckets below = omega (arith, registers, below)
is_there p (Hold reg) registers buckets below = omega (arith, registers, below)
is_there p Look registers buckets below = tt
is_there p Release registers buckets below = tt
is_there p (Find key) registers buckets below = buckets
is_there p (Insert key val) registers buckets below = buckets
is_there p (Replace key old new) registers buckets below = buckets
is_there p (Remove key) registers buckets below = buckets

all_there : (p : Plan) (callers : ℕ) (object : Object) (lines : List Entry) → p.registers ≡ 16 → 0 < p.buckets → MayRun callers object lines
    → AllByRecursion (λ (line : Entry). IsThere p line.call) lines
all_there p callers object [] registers buckets may = tt
all_there p callers object (line ∷ lines) registers buckets may =
    (is_there p line.call registers buckets may.0.1, all_there p callers (object_after object line) lines registers buckets may.2)

-- a caller's lines have no more removes than all
fewer_removes : (x : ℕ) (lines : List Entry) → removes_in (lines_by x lines) ≤ removes_in lines
fewer_removes x [] = omega arith
fewer_removes x (line ∷ lines) =
    let spent : Entry → ℕ = λ (z : Entry). removes_of z.call in
    omega (arith, one_less (eqb line.caller x), fewer_removes x lines, sum_by-cons spent line lines)
  where
    one_less : (b : Bool) → removes_in (cond b (line ∷ lines_by x lines) (lines_by x lines)) ≤ removes_of line.call + removes_in (lines_by x lines)
    one_less true = omega (arith, sum_by-cons (λ (z : Entry). removes_of z.call) line (lines_by x lines))
    one_less false = omega arith

-- a line removes once at most
pub few_removes : (lines : List Entry) → removes_in lines ≤ length lines
few_removes [] = omega arith
few_removes (line ∷ lines) = omega (arith, at_most_one line.call, few_removes lines, sum_by-cons (λ (z : Entry). removes_of z.call) line lines)
  where
    at_most_one : (call : Call) → removes_of call ≤ 1
    at_most_one (Remove key) = omega arith
    at_most_one _ = omega arith

-- a caller whose seat was in no call yet
pub begun : {lines : List Entry} {shared : ObjectData} {one : Caller} → IsFor lines shared.plan → IsUnused shared one.seat → HasRoom lines one
    → HasCome shared lines (number one.seat.view) lines one
begun {lines} {shared} {one} for u room =
    let v = one.seat.view in
    let x = number v in
    let removed = u.ready.law.sound.stock.removed in
    let none : removals v.stands ≡ 0 = ap removals u.stands in
    let share : v.plan.removes * length v.numbers ≡ shared.plan.removes * 1 = λ i. (u.ready.ours.plan i).removes * u.one i in
    record {
      ready = u.ready;
      numbers = single v.numbers u.one;
      entries = ap (λ (l : List Stand). entries_of l ++ lines_by x lines) u.stands;
      replies_are = ap replies_of u.stands ∙ sym room.none;
      room = room.room;
      changes = omega (arith, few_by x lines, for.changes, u.changes);
      removes = omega (arith, fewer_removes x lines, for.removes, removed, none, share);
      may = subst (λ b. MayTurn b (calls_by x lines)) (sym u.none_held) (may_turn shared.plan.seats blank_object lines for.may x);
      left = ap (λ b. holds_from b (calls_by x lines)) u.none_held;
      there = all_there shared.plan shared.plan.seats blank_object lines for.registers for.buckets for.may;
    }

all_begun : {lines : List Entry} {shared : ObjectData} (callers : List Caller) → IsFor lines shared.plan → All (IsUnused shared) (seats_of callers) → All (HasRoom lines) callers
    → HaveCome shared lines callers
all_begun {shared = shared} callers for unused rooms i d l =
    let own : IsUnused shared (get_or callers i d).seat = subst (IsUnused shared) (get_or-map (λ (one : Caller). one.seat) callers i d d.seat l)
    (unused i d.seat (omega (arith, l, length-map callers (λ (one : Caller). one.seat)))) in
    begun for own (rooms i d l)

-- the seats of a new object
pub seated : {p : Plan} {shared : ObjectData} {seat : SeatData} {seats : List SeatData} → IsBuilt p shared seat → 0 < length seat.view.numbers → AreSplit shared seat seats
    → HasSeats p shared seats
seated {shared = shared} {seats = seats} built more split = record {
  plan_is = built.plan;
  unused = split.unused;
  numbers = alone shared seats split.unused ∙ (split.numbers ∙ built_numbers built);
  led = split_led seats split more (ap (λ (s : SeatData). s.first) built.seat);
}

-- and their callers
pub opened : {lines : List Entry} {p : Plan} {shared : ObjectData} {seats : List SeatData} {callers : List Caller} → IsFor lines p → HasSeats p shared seats
    → seats_of callers ≡ seats → All (HasRoom lines) callers → HasOpened p lines shared callers
opened {lines} {shared = shared} {callers = callers} for has are rooms = record {
  plan_is = has.plan_is;
  come = all_begun callers (subst (IsFor lines) (sym has.plan_is) for) (subst (All (IsUnused shared)) (sym are) has.unused) rooms;
  numbers = ap all_numbers are ∙ has.numbers;
  led = subst AreLed (sym are) has.led;
}

-- What the seats of whole runs leave, joined and closed.
use Rattle.std.proofs.Common.{◌≡◌, ℕ, ◌+◌, ◌-◌, ◌*◌, ◌%◌, ◌^◌, ◌≤◌, Bool, List, [], ◌∷◌, ◌++◌, count_by, length, refl, sym, ap, subst, ◌∙◌, arith, length-append}
use Rattle.std.proofs.Math.Nat.{add-mul, mul-add}
use Rattle.std.proofs.lemmas.List.{append-nil, append_assoc}
use Rattle.std.proofs.lemmas.List.Sums.{count_by-le-length}
use Rattle.std.proofs.lemmas.Nat.{mul-le}
use Rattle.big_atomic.proofs.Adding.{counts_both}
use Rattle.big_atomic.proofs.Counting.{count_append}
use Rattle.big_atomic.proofs.SeatNumbers.{single}
use Rattle.big_atomic.proofs.Sharing.{ready_quiet}
use Rattle.speed_runs.specs.Runs.{AreRuns, HasCome, HasRun, IsEnding, is_changing}
use Rattle.step_rules.proofs.Numbers.Sets.{length-count_up}
use Rattle.step_rules.specs.Closing.{ClosedData, IsClosed}
use Rattle.step_rules.specs.Layout.{IsPlan}
use Rattle.step_rules.specs.SeatData.{ObjectData, SeatData}
use Rattle.step_rules.specs.Steps.{IsJoined}
use Rattle.step_rules.specs.Views.{count_up, number}
use Rattle.step_rules.specs.declared.plan.Plan.{Plan}
use Rattle.step_rules.specs.declared.view.Stand.{Stand}

-- a thread's seat after all its calls
pub ran : {T : ℕ → List Stand → Stand → Type 0} {is_made : Stand → Bool} {shared : ObjectData} {n : ℕ} {seat : SeatData} {done : ℕ} → HasCome T is_made shared n seat done
    → HasRun T is_made n shared seat done
ran {T} {is_made} {shared} {n} {seat} {done} c =
    let who = single seat.view.numbers c.alone in
    let one : AreRuns T n (number seat.view ∷ []) seat.view.stands = (seat.view.stands, [], sym (append-nil seat.view.stands), record { all = c.count; turns = c.turns }, refl) in
    record {
      ours = c.ready.ours;
      quiet = ready_quiet shared seat c.ready c.none_held;
      runs = subst (λ (l : List ℕ). AreRuns T n l seat.view.stands) (sym who) one;
      done_is = c.done_is;
      changes = let e : shared.plan.changes * length seat.view.numbers ≡ shared.plan.changes * 1 = ap (λ k. shared.plan.changes * k) c.alone in omega (arith, e, c.changes);
    }

runs_append : (T : ℕ → List Stand → Stand → Type 0) (n : ℕ) (xs ys : List ℕ) (a b : List Stand) → AreRuns T n xs a → AreRuns T n ys b → AreRuns T n (xs ++ ys) (a ++ b)
runs_append T n [] ys a b none r = subst (λ (l : List Stand). AreRuns T n ys (l ++ b)) (sym none) r
runs_append T n (x ∷ later) ys a b (own, rest, parts, run, runs) r = (
  own,
  rest ++ b,
  ap (λ l. l ++ b) parts ∙ append_assoc own rest b,
  run,
  runs_append T n later ys rest b runs r,
)

runs_long : (T : ℕ → List Stand → Stand → Type 0) (n : ℕ) (xs : List ℕ) (stands : List Stand) → AreRuns T n xs stands → length stands ≡ n * length xs
runs_long T n [] stands none = ap length none ∙ omega arith
runs_long T n (x ∷ later) stands (own, rest, parts, run, runs) =
    let e : length stands ≡ length own + length rest = ap length parts ∙ length-append own rest in
    omega (arith, e, run.all, runs_long T n later rest runs, mul-add n 1 (length later))

-- the runs of two seats, in one
pub ran_both : {T : ℕ → List Stand → Stand → Type 0} {is_made : Stand → Bool} {n : ℕ} {shared : ObjectData} {v w new : SeatData} {done other_done : ℕ}
    → HasRun T is_made n shared v done → HasRun T is_made n shared w other_done → IsJoined v w new → HasRun T is_made n shared new ((done + other_done) % 2 ^ 64)
ran_both {T} {is_made} {n} {shared} {v} {w} {new} {done} {other_done} a b joined =
    let numbers : new.view.numbers ≡ v.view.numbers ++ w.view.numbers = ap (λ (s : SeatData). s.view.numbers) joined.seat in
    let stands : new.view.stands ≡ v.view.stands ++ w.view.stands = ap (λ (s : SeatData). s.view.stands) joined.seat in
    let changes : new.view.changes ≡ v.view.changes + w.view.changes = ap (λ (s : SeatData). s.view.changes) joined.seat in
    record {
      ours = record { object = ap (λ (s : SeatData). s.object) joined.seat ∙ a.ours.object; plan = ap (λ (s : SeatData). s.view.plan) joined.seat ∙ a.ours.plan };
      quiet = joined.quiet;
      runs = subst (λ (z : List ℕ × List Stand). AreRuns T n z.0 z.1) (λ j. (sym numbers j, sym stands j))
          (runs_append T n v.view.numbers w.view.numbers v.view.stands w.view.stands a.runs b.runs);
      done_is = counts_both is_made v.view.stands w.view.stands new.view.stands a.done_is b.done_is stands;
      changes = omega (
        arith,
        changes,
        a.changes,
        b.changes,
        ap (count_by is_changing) stands,
        count_append is_changing v.view.stands w.view.stands,
        ap (λ (l : List ℕ). shared.plan.changes * length l) numbers,
        ap (λ k. shared.plan.changes * k) (length-append v.view.numbers w.view.numbers),
        mul-add shared.plan.changes (length v.view.numbers) (length w.view.numbers),
      );
    }

-- a count kept modulo 2^64, of no more than so many calls, is the count
whole_count : (done count long calls seats : ℕ) → done ≡ count % 2 ^ 64 → count ≤ long → long ≡ calls * seats → calls ≤ 2 ^ 33 → seats ≤ 64 → done ≡ count
whole_count done count long calls seats is within all few less = let e : calls * seats ≤ 2 ^ 33 * 64 = mul-le calls seats (2 ^ 33) 64 few less in omega arith

-- a seat with all numbers was closed
pub ended : {T : ℕ → List Stand → Stand → Type 0} {is_made : Stand → Bool} {shared : ObjectData} {seat : SeatData} {closed : ClosedData} {plan : Plan} {filling timed filled calls done changes : ℕ}
    → IsClosed seat closed → shared.plan ≡ plan → IsPlan plan → seat.view.numbers ≡ count_up 0 plan.seats → HasRun T is_made (filling + timed) shared seat done
    → filling + timed ≤ 2 ^ 33 → filled ≡ filling * plan.seats → calls ≡ timed * plan.seats → changes ≡ plan.changes * plan.seats - seat.view.changes
    → IsEnding T is_made plan filling timed closed filled calls done changes
ended {T} {is_made} {shared} {seat} {closed} {plan} {filling} {timed} {filled} {calls} {done} {changes} is plan_is fits whole run few filled_is calls_is changes_is =
    let n = filling + timed in
    let seats : length seat.view.numbers ≡ plan.seats = ap length whole ∙ length-count_up 0 plan.seats in
    let all_seat : length seat.view.stands ≡ n * plan.seats = runs_long T n seat.view.numbers seat.view.stands run.runs ∙ ap (λ k. n * k) seats in
    let all : length closed.stands ≡ n * plan.seats = ap length is.stands ∙ all_seat in
    let done_seat : done ≡ count_by is_made seat.view.stands = whole_count done (count_by is_made seat.view.stands) (length seat.view.stands) n plan.seats
    run.done_is (count_by-le-length is_made seat.view.stands) all_seat few fits.seats.1 in
    let spends : seat.view.changes + count_by is_changing seat.view.stands ≡ plan.changes * plan.seats = run.changes ∙ (λ j. (plan_is j).changes * seats j) in
    let changes_seat : changes ≡ count_by is_changing seat.view.stands = omega (arith, changes_is, spends) in
    record {
      plan_is = is.plan ∙ (run.ours.plan ∙ plan_is);
      closed_is = (seat, is);
      runs = subst (λ (z : List ℕ × List Stand). AreRuns T n z.0 z.1) (λ j. (whole j, sym is.stands j)) run.runs;
      all = all;
      filled_is = filled_is;
      calls_is = omega (arith, filled_is, calls_is, all, add-mul filling timed plan.seats);
      done_is = done_seat ∙ ap (count_by is_made) (sym is.stands);
      changes_is = changes_seat ∙ ap (count_by is_changing) (sym is.stands);
    }

-- What the closed object has of each of its workers.
use Rattle.std.proofs.Common.{◌≡◌, ◌∙◌, ℕ, ◌<◌, All, List, [], ◌∷◌, get_or, length, sym, ap, subst, arith}
use Rattle.big_atomic.proofs.SeatNumbers.{single}
use Rattle.big_atomic.specs.Seats.{all_numbers}
use Rattle.step_rules.proofs.Line.Kept.{seat_of_one}
use Rattle.step_rules.specs.Closing.{ClosedData}
use Rattle.step_rules.specs.Line.{stands_by}
use Rattle.step_rules.specs.SeatData.{ObjectData}
use Rattle.step_rules.specs.Stock.{AreOfOne}
use Rattle.step_rules.specs.Views.{count_up, number}
use Rattle.tally_core.proofs.SeatStands.{IsOne, items_numbered, items_stands}
use Rattle.tally_core.specs.Workers.{HasClosed, seats_of}
use Rattle.tally_core.specs.declared.worker.Worker.{Worker}

pub some_of : {X : Type 0} (xs : List X) → 0 < length xs → X
some_of [] long = absurd (omega (arith, long))
some_of (x ∷ later) long = x

-- workers with one number each, which are those below k in order; P holds of each number and its worker
pub record AreInRow {T : Type 0} (P : ℕ → Worker T → Type 0) (workers : List (Worker T)) (k : ℕ) : Type 0 where
  pub each : All (λ (one : Worker T). P (number one.seat.view) one) workers
  pub ones : (i : ℕ) (d : Worker T) → i < length workers → IsOne (get_or workers i d).seat
  pub whole : all_numbers (seats_of workers) ≡ count_up 0 k

module _ {T : Type 0} {P : ℕ → Worker T → Type 0} {workers : List (Worker T)} {k : ℕ} (are : AreInRow P workers k) where
  row : (length workers ≡ k) × ((i : ℕ) (d : Worker T) → i < length workers → number (get_or workers i d).seat.view ≡ i)
  row = items_numbered (λ (one : Worker T). one.seat) workers k are.whole (λ i d l. (are.ones i d l).one)

  -- there is a worker for each number
  pub workers_long : length workers ≡ k
  workers_long = row.0

  -- at its place
  pub worker_at : (x : ℕ) (d : Worker T) → x < length workers → P x (get_or workers x d)
  worker_at x d l = subst (λ n. P n (get_or workers x d)) (row.1 x d l) (are.each x d l)

  module _ {shared : ObjectData} {closed : ClosedData} (closes : HasClosed shared (seats_of workers) closed) (x : ℕ) (d : Worker T) (l : x < length workers) where
    -- the stands of that number are its seat's
    pub worker_stands : stands_by x closed.stands ≡ (get_or workers x d).seat.view.stands
    worker_stands = ap (stands_by x) closes.stands ∙ items_stands (λ (one : Worker T). one.seat) workers k are.whole are.ones x d l

    -- and of no other
    pub worker_alone : AreOfOne x (stands_by x closed.stands)
    worker_alone =
        let one = are.ones x d l in
        let v = (get_or workers x d).seat.view in
        subst (AreOfOne x) (sym worker_stands) (seat_of_one x one.law.sound.lawful (single v.numbers one.one ∙ ap (λ n. n ∷ []) (row.1 x d l)))

-- What threads give back of the seats that they were given.
use Rattle.std.proofs.Common.{◌≡◌, ℕ, ◌<◌, List, IfOk, Result, Ok, Err, length, map, slice_index_or, subst}
use Rattle.big_atomic.proofs.SeatNumbers.{same_led, same_numbers, themselves}
use Rattle.big_atomic.specs.Seats.{AreBack, Stays}
use Rattle.step_rules.specs.SeatData.{SeatData}

-- what holds of a result, by two facts on it
pub if_ok : {X E : Type 0} {P Q R : X → Type 0} (r : Result X E) → ((x : X) → P x → Q x → R x) → IfOk r P → IfOk r Q → IfOk r R
if_ok (Ok x) f p q = f x p q
if_ok (Err e) f p q = tt

-- jobs with seats, each of which stays in its job's result
pub jobs_back : {A B : Type 0} (f : A → SeatData) (g : B → SeatData) (xs : List A) (ys : List B) → length ys ≡ length xs
    → ((i : ℕ) (d : B) (e : A) → i < length xs → Stays (f (slice_index_or xs i e)) (g (slice_index_or ys i d))) → AreBack (map f xs) (map g ys)
jobs_back f g xs ys long each = record {
  numbers = same_numbers f g xs ys long (λ i d e l. (each i d e l).numbers);
  led = same_led f g xs ys long (λ i d e l. (each i d e l).first);
}

-- the jobs were the seats themselves
pub seats_back : {B : Type 0} (g : B → SeatData) (seats : List SeatData) (ys : List B) → length ys ≡ length seats
    → ((i : ℕ) (d : B) (e : SeatData) → i < length seats → Stays (slice_index_or seats i e) (g (slice_index_or ys i d))) → AreBack seats (map g ys)
seats_back g seats ys long each = subst (λ l. AreBack l (map g ys)) (themselves seats) (jobs_back (λ (s : SeatData). s) g seats ys long each)

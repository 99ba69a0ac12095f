-- The line of a closed object: what holds of all stands holds of all of it, it counts as they do, and what each stand keeps it keeps.
use Rattle.std.proofs.Common.{◌≡◌, ℕ, ◌<◌, suc, zero, not, ◌&&◌, ◌==◌, Bool, List, [], ◌∷◌, ◌++◌, All, count_by, length, refl, sym, ap, subst, arith, append_assoc}
use Rattle.std.proofs.lemmas.List.{append-nil}
use Rattle.std.proofs.lemmas.List.Elements.{All-append, All-filter, All-head, All-nil, All-tail}
use mathlib.Core.Option.{some}
use lib.ListN.{get_elem?, get_or}
use Rattle.big_atomic.proofs.Counting.{same_count}
use Rattle.big_atomic.specs.Lines.{EachKeeps}
use Rattle.seat_history.specs.Object.{Object, blank_object}
use Rattle.seat_history.specs.declared.entry.Entry.{Entry}
use Rattle.step_rules.specs.Closing.{ClosedData, IsClosed}
use Rattle.step_rules.specs.Line.{Replays, after_stand, after_stands, entry_at, line_before, line_of, log_after, readings, readings_below}
use Rattle.step_rules.specs.SeatData.{IsSeat, SeatData}
use Rattle.step_rules.specs.declared.plan.Plan.{Plan}
use Rattle.step_rules.specs.declared.view.Stand.{Stand}

all_readings_below : (P : Stand → Type 0) (q n : ℕ) (stands : List Stand) → All P stands → All P (readings_below q n stands)
all_readings_below P q zero stands all = All-nil P
all_readings_below P q (suc n) stands all = All-append P (readings_below q n stands) (readings q n stands) (all_readings_below P q n stands all)
    (All-filter (λ (s : Stand). not s.changes && ((s.by == n) && (s.place == q))) P stands all)

all_line_before : (P : Stand → Type 0) (seats q : ℕ) (stands : List Stand) → All P stands → All P (line_before seats q stands)
all_line_before P seats zero stands all = All-nil P
all_line_before P seats (suc q) stands all = All-append P (line_before seats q stands) (readings_below q seats stands ++ entry_at q stands) (all_line_before P seats q stands all)
    (All-append P (readings_below q seats stands) (entry_at q stands) (all_readings_below P q seats stands all)
    (All-filter (λ (s : Stand). s.changes && (s.place == q)) P stands all))

pub all_line : (P : Stand → Type 0) (seats : ℕ) (history : List Entry) (stands : List Stand) → All P stands → All P (line_of seats history stands)
all_line P seats history stands all = All-append P (line_before seats (length history) stands) (readings_below (length history) seats stands)
    (all_line_before P seats (length history) stands all) (all_readings_below P (length history) seats stands all)

at_elem : (xs : List Stand) (k : ℕ) (d : Stand) → k < length xs → get_elem? xs k ≡ some (get_or xs k d)
at_elem [] k d l = absurd (omega arith)
at_elem (x ∷ xs) zero d l = refl
at_elem (x ∷ xs) (suc k) d l = at_elem xs k d (omega arith)

-- every stand is of a caller of the plan
pub callers_below : (seat : SeatData) (closed : ClosedData) → IsSeat seat → IsClosed seat closed → All (λ (s : Stand). s.by < closed.plan.seats) closed.stands
callers_below seat closed law is k d l = subst (λ n. (get_or closed.stands k d).by < n) (sym (ap (λ p. p.seats) is.plan))
    (law.sound.below (get_or closed.stands k d).by (is.lawful.by k (get_or closed.stands k d) (at_elem closed.stands k d l)))

pub line_counts : (test : Stand → Bool) (seat : SeatData) (closed : ClosedData) → IsSeat seat → IsClosed seat closed
    → count_by test (line_of closed.plan.seats closed.history closed.stands) ≡ count_by test closed.stands
line_counts test seat closed law is =
    let seats : ℕ = closed.plan.seats in
    let below = callers_below seat closed law is in
    same_count test seats (line_of seats closed.history closed.stands) closed.stands (all_line (λ (s : Stand). s.by < seats) seats closed.history closed.stands below) below is.line.order

kept_along : (P : Stand → Type 0) (Keeps : List Stand → Object → Type 0) (p : Plan) (done : List Stand) (o : Object) (log : List Entry) (line : List Stand) → EachKeeps p P Keeps
    → All P line → Replays p o log line → Keeps done o → Keeps (done ++ line) (after_stands o line)
kept_along P Keeps p done o log [] each all replays kept = subst (λ (l : List Stand). Keeps l o) (sym (append-nil done)) kept
kept_along P Keeps p done o log (s ∷ r) each all replays kept =
    subst (λ (l : List Stand). Keeps l (after_stands (after_stand o s) r)) (append_assoc done (s ∷ []) r)
    (kept_along P Keeps p (done ++ s ∷ []) (after_stand o s) (log_after log o s) r each (All-tail P s r all) replays.1 (each done o log s (All-head P s r all) replays.0 kept))

pub line_keeps : (P : Stand → Type 0) (Keeps : List Stand → Object → Type 0) (seat : SeatData) (closed : ClosedData) → IsClosed seat closed → All P closed.stands → Keeps [] blank_object
    → EachKeeps closed.plan P Keeps
    → Keeps (line_of closed.plan.seats closed.history closed.stands) (after_stands blank_object (line_of closed.plan.seats closed.history closed.stands))
line_keeps P Keeps seat closed is all blank each =
    let line : List Stand = line_of closed.plan.seats closed.history closed.stands in
    kept_along P Keeps closed.plan [] blank_object [] line each (all_line P closed.plan.seats closed.history closed.stands all) is.line.replays blank

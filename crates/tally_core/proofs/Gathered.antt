-- All seats in one, and the object closed with it.
use Rattle.std.proofs.Common.{◌≡◌, ◌∙◌, true, false, not, ◌&&◌, List, [], ◌∷◌, ◌++◌, All, append-nil, append_assoc, get_or, length, sym, ap, subst, arith}
use Rattle.std.proofs.lemmas.Bool.{and_parts, both_ways, not-true}
use Rattle.std.proofs.lemmas.List.Elements.{All-head, All-push, All-tail}
use Rattle.big_atomic.proofs.Lines.{callers_below}
use Rattle.big_atomic.proofs.Sharing.{quiet_ready, ready_quiet}
use Rattle.big_atomic.specs.Seats.{AreLed, all_numbers, all_stands}
use Rattle.hazard_claims.specs.Scanning.{IsScan}
use Rattle.seat_history.specs.declared.entry.Entry.{Entry}
use Rattle.step_rules.proofs.Rely.Advance.{goes_further}
use Rattle.step_rules.specs.Claims.{BACK, HOLD, OWN}
use Rattle.step_rules.specs.Closing.{ClosedData, IsClosed}
use Rattle.step_rules.specs.History.{GoesOn}
use Rattle.step_rules.specs.SeatData.{IsOf, IsSeat, ObjectData, SeatData, all_zero, claim_words, holds_record, is_empty, is_quiet}
use Rattle.step_rules.specs.Steps.{IsJoined}
use Rattle.step_rules.specs.declared.view.Claim.{Claim}
use Rattle.tally_core.specs.Workers.{AreDone, HasClosed, HasGathered, IsDone, seats_of}
use Rattle.tally_core.specs.declared.worker.Worker.{Worker}

-- the first seat alone
pub gathered_one : {shared : ObjectData} {seat : SeatData} → IsDone shared seat → seat.first ≡ true → HasGathered shared (seat ∷ []) seat
gathered_one {seat = seat} done first = record {
  done = done;
  first = first;
  numbers = sym (append-nil seat.view.numbers);
  stands = sym (append-nil seat.view.stands);
  seen = All-push (λ (one : SeatData). GoesOn one.view.seen seat.view.seen) [] seat (λ i d l. absurd (omega (arith, l))) ([], sym (append-nil seat.view.seen));
}

numbers_push : (seats : List SeatData) (one : SeatData) → all_numbers (seats ++ one ∷ []) ≡ all_numbers seats ++ one.view.numbers
numbers_push [] one = append-nil one.view.numbers
numbers_push (s ∷ later) one = ap (λ l. s.view.numbers ++ l) (numbers_push later one) ∙ sym (append_assoc s.view.numbers (all_numbers later) one.view.numbers)

stands_push : (seats : List SeatData) (one : SeatData) → all_stands (seats ++ one ∷ []) ≡ all_stands seats ++ one.view.stands
stands_push [] one = append-nil one.view.stands
stands_push (s ∷ later) one = ap (λ l. s.view.stands ++ l) (stands_push later one) ∙ sym (append_assoc s.view.stands (all_stands later) one.view.stands)

-- and with one more
pub gathered_more : {shared : ObjectData} {seats : List SeatData} {old one new : SeatData} → HasGathered shared seats old → IsDone shared one → IsJoined old one new → IsSeat new
    → HasGathered shared (seats ++ one ∷ []) new
gathered_more {shared} {seats} {old} {one} {new} g done joined law = record {
  done = record {
    ours = record {
      object = ap (λ (s : SeatData). s.object) joined.seat ∙ g.done.ours.object;
      plan = ap (λ (s : SeatData). s.view.plan) joined.seat ∙ g.done.ours.plan;
    };
    law = law;
    quiet = joined.quiet;
  };
  first = ap (λ (s : SeatData). s.first) joined.seat ∙ g.first;
  numbers = ap (λ (s : SeatData). s.view.numbers) joined.seat ∙ (ap (λ l. l ++ one.view.numbers) g.numbers ∙ sym (numbers_push seats one));
  stands = ap (λ (s : SeatData). s.view.stands) joined.seat ∙ (ap (λ l. l ++ one.view.stands) g.stands ∙ sym (stands_push seats one));
  seen = All-push (λ (s : SeatData). GoesOn s.view.seen new.view.seen) seats one
      (λ i d l. goes_further (get_or seats i d).view.seen old.view.seen new.view.seen joined.seen.0 (g.seen i d l) joined.seen.1) joined.seen_from;
}

-- the first worker's seat took in those of all workers but the ones that are left, each of which is quiet
pub record HasTakenIn {T : Type 0} (shared : ObjectData) (seat : SeatData) (left all : List (Worker T)) : Type 0 where
  pub taken : List SeatData
  pub whole : taken ++ seats_of left ≡ seats_of all
  pub gathered : HasGathered shared taken seat
  pub left_done : AreDone shared left

pub first_taken_in : {T : Type 0} {shared : ObjectData} (first : Worker T) (left all : List (Worker T)) → all ≡ first ∷ left → AreDone shared all → AreLed (seats_of all)
    → HasTakenIn shared first.seat left all
first_taken_in {T} {shared} first left all are done led =
    let each : AreDone shared (first ∷ left) = subst (AreDone shared) are done in record {
      taken = first.seat ∷ [];
      whole = ap seats_of (sym are);
      gathered = gathered_one (All-head (λ (one : Worker T). IsDone shared one.seat) first left each) (subst (λ (l : List (Worker T)). AreLed (seats_of l)) are led);
      left_done = All-tail (λ (one : Worker T). IsDone shared one.seat) first left each;
    }

module _ {T : Type 0} {shared : ObjectData} {seat : SeatData} {left all : List (Worker T)} (so_far : HasTakenIn shared seat left all)
    (next : Worker T) (rest : List (Worker T)) (is : left ≡ next ∷ rest) where
  each : AreDone shared (next ∷ rest)
  each = subst (AreDone shared) is so_far.left_done

  pub next_done : IsDone shared next.seat
  next_done = All-head (λ (one : Worker T). IsDone shared one.seat) next rest each

  pub next_taken_in : {new : SeatData} → IsJoined seat next.seat new → IsSeat new → HasTakenIn shared new rest all
  next_taken_in joined law = record {
    taken = so_far.taken ++ next.seat ∷ [];
    whole = append_assoc so_far.taken (next.seat ∷ []) (seats_of rest) ∙ (ap (λ (l : List (Worker T)). so_far.taken ++ seats_of l) (sym is) ∙ so_far.whole);
    gathered = gathered_more so_far.gathered next_done joined law;
    left_done = All-tail (λ (one : Worker T). IsDone shared one.seat) next rest each;
  }

-- at the end it has taken in all
pub all_taken_in : {T : Type 0} {shared : ObjectData} {seat : SeatData} {left all : List (Worker T)} → HasTakenIn shared seat left all → left ≡ [] → HasGathered shared (seats_of all) seat
all_taken_in {T} {shared} {seat} so_far none =
    subst (λ (l : List SeatData). HasGathered shared l seat) (sym (append-nil so_far.taken) ∙ (ap (λ (l : List (Worker T)). so_far.taken ++ seats_of l) (sym none) ∙ so_far.whole)) so_far.gathered

-- a quiet seat holds no record
none_held : (seat : SeatData) → is_quiet seat ≡ true → holds_record seat.view ≡ false
none_held seat quiet = not-true (holds_record seat.view) (and_parts (not (holds_record seat.view)) (is_empty seat.holding && all_zero (claim_words seat.view)) quiet).0

-- a scan leaves a quiet seat quiet
scanned : {shared : ObjectData} {old new : SeatData} → IsDone shared old → IsScan old new → IsSeat new → IsDone shared new
scanned {shared} {old} {new} done scan law =
    let ready = quiet_ready shared old done.ours done.law done.quiet in
    let none : holds_record new.view ≡ false = ap (λ (s : SeatData). holds_record s.view) scan.same ∙ none_held old done.quiet in
    let ours : IsOf shared new = record {
      object = ap (λ (s : SeatData). s.object) scan.same ∙ done.ours.object;
      plan = ap (λ (s : SeatData). s.view.plan) scan.same ∙ done.ours.plan;
    } in
    record {
      ours = ours;
      law = law;
      quiet = ready_quiet shared new (record {
        ours = ours;
        law = law;
        idle = ap (λ (s : SeatData). s.holding) scan.same ∙ ready.idle;
        back = ap (λ (claim : Claim). claim.word) (scan.claims BACK (λ e. absurd (omega (arith, e)))) ∙ ready.back;
        walk = scan.walk_none;
        own = ap (λ (claim : Claim). claim.word) (scan.claims OWN (λ e. absurd (omega (arith, e)))) ∙ ready.own;
        hold = λ _. ap (λ (claim : Claim). claim.word) (scan.claims HOLD (λ e. absurd (omega (arith, e)))) ∙ ready.hold (none_held old done.quiet);
        held = λ e. absurd (both_ways (holds_record new.view) none e);
      }) none;
    }

-- the seat of all numbers after its last scan
pub record HasScanned (shared : ObjectData) (seats : List SeatData) (seat : SeatData) : Type 0 where
  pub done : IsDone shared seat
  pub numbers : seat.view.numbers ≡ all_numbers seats
  pub stands : seat.view.stands ≡ all_stands seats
  pub seen : All (λ (one : SeatData). GoesOn one.view.seen seat.view.seen) seats
  pub none_retired : seat.view.retired ≡ []

pub has_scanned : {shared : ObjectData} {seats : List SeatData} {old new : SeatData} → HasGathered shared seats old → length (all_numbers seats) ≡ shared.plan.seats → IsScan old new
    → IsSeat new → HasScanned shared seats new
has_scanned {shared} {seats} {old} {new} g whole scan law = record {
  done = scanned g.done scan law;
  numbers = ap (λ (s : SeatData). s.view.numbers) scan.same ∙ g.numbers;
  stands = ap (λ (s : SeatData). s.view.stands) scan.same ∙ g.stands;
  seen = λ i d l. subst (λ (z : List Entry). GoesOn (get_or seats i d).view.seen z) (ap (λ (s : SeatData). s.view.seen) (sym scan.same)) (g.seen i d l);
  none_retired = scan.none (ap length g.numbers ∙ (whole ∙ ap (λ p. p.seats) (sym g.done.ours.plan))) g.done.quiet;
}

pub has_closed : {shared : ObjectData} {seats : List SeatData} {seat : SeatData} {closed : ClosedData} → HasScanned shared seats seat → IsClosed seat closed → HasClosed shared seats closed
has_closed {seats = seats} {seat = seat} {closed = closed} scan is = record {
  plan_is = is.plan ∙ scan.done.ours.plan;
  closed_is = (seat, is, scan.numbers);
  law = scan.done.law;
  callers = callers_below seat closed scan.done.law is;
  stands = is.stands ∙ scan.stands;
  seen = λ i d l. subst (λ (z : List Entry). GoesOn (get_or seats i d).view.seen z) (sym is.history) (scan.seen i d l);
  none_retired = is.retired ∙ scan.none_retired;
}

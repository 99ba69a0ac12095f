-- The closed object has just the callers' lines.
use Rattle.std.proofs.Common.{◌≡◌, ◌∙◌, ℕ, ◌<◌, ◌≤◌, ⊎_elim, [], ◌∷◌, ◌++◌}
use Rattle.std.proofs.Common.{All, Bool, true, false, cond, List, append-nil, get_or, length, map, take, refl, sym, ap, subst, arith}
use Rattle.std.proofs.Math.Seq.{take-append_seam}
use Rattle.std.proofs.Math.ListN.{get_or-eq_default}
use Rattle.std.proofs.lemmas.Bool.{cases_lt}
use Rattle.std.proofs.lemmas.List.{get_or-map, length-map}
use mathlib.Core.List.{map-append}
use Rattle.big_atomic.specs.Seats.{all_numbers}
use Rattle.call_script.proofs.ClosedRun.{closed_run}
use Rattle.call_script.specs.Row.{AreOwn, EndsAs, HasCalled, made_of}
use Rattle.call_script.specs.Run.{Made, RunsIn, made_lines, own_lines}
use Rattle.call_script.specs.Script.{MayRun}
use Rattle.call_script.specs.declared.driven.Driven.{Driven}
use Rattle.seat_history.specs.Object.{Object, blank_object, object_after}
use Rattle.seat_history.specs.declared.call.Call.TheVariants.{Release}
use Rattle.seat_history.specs.declared.entry.Entry.{Entry}
use Rattle.seat_history.specs.declared.reply.Reply.{Reply}
use Rattle.seat_history.specs.declared.reply.Reply.TheVariants.{Done}
use Rattle.step_rules.specs.Closing.{ClosedData}
use Rattle.step_rules.specs.Lawful.{entry_of}
use Rattle.step_rules.specs.Line.{stands_by}
use Rattle.step_rules.specs.SeatData.{ObjectData}
use Rattle.step_rules.specs.Stock.{AreOfOne}
use Rattle.step_rules.specs.Views.{count_up}
use Rattle.step_rules.specs.declared.plan.Plan.{Plan}
use Rattle.step_rules.specs.declared.view.Stand.{Stand}
use Rattle.tally_core.proofs.ClosedWorkers.{AreInRow, some_of, worker_at, worker_alone, worker_stands, workers_long}
use Rattle.tally_core.proofs.Coming.{lines_past}
use Rattle.tally_core.specs.Driving.{HasDriven, last_release, leaves}
use Rattle.tally_core.specs.Workers.{Caller, HasClosed, HasMerged, HasRun, HaveRun, entries_of, lines_by, replies_at, replies_of, seats_of}

-- the callers stand by rising number
callers_in_row : {shared : ObjectData} {lines : List Entry} (callers : List Caller) → HaveRun shared lines callers → all_numbers (seats_of callers) ≡ count_up 0 shared.plan.seats
    → AreInRow (HasRun shared lines) callers shared.plan.seats
callers_in_row callers run whole = record { each = run; ones = λ i d l. record { law = (run i d l).done.law; one = ap length (run i d l).numbers }; whole = whole }

made_both : (stands : List Stand) → map made_of stands ≡ made_lines (entries_of stands) (replies_of stands)
made_both [] = refl
made_both (s ∷ later) = ap (λ l. made_of s ∷ l) (made_both later)

own_and_last : (b : Bool) (r : Made) (own last stands : List Stand) → r.line.call ≡ Release → stands ≡ own ++ last → map made_of last ≡ cond b (r ∷ []) [] → AreOwn b own stands
own_and_last true r own [] stands call parts ending = absurd cc
own_and_last true r own (s ∷ []) stands call parts ending = let first : made_of s ≡ r = cc ending in (s, ap (λ (m : Made). m.line.call) first ∙ call, parts)
own_and_last true r own (s ∷ t ∷ later) stands call parts ending = absurd cc
own_and_last false r own [] stands call parts ending = parts ∙ append-nil own
own_and_last false r own (s ∷ later) stands call parts ending = absurd cc

-- a caller's stands in the closed object
record IsCaller (lines : List Entry) (replies : List Reply) (closed : ClosedData) (x : ℕ) : Type 0 where
  own : List Stand
  last : List Stand
  parts : stands_by x closed.stands ≡ own ++ last
  made : map made_of own ≡ own_lines x (made_lines lines replies)
  ending : map made_of last ≡ last_release lines x
  long : length own ≡ length (lines_by x lines)
  alone : AreOfOne x (stands_by x closed.stands)

lines_beyond : (callers : ℕ) (object : Object) (lines : List Entry) (x : ℕ) → MayRun callers object lines → (x < callers → ⊥) → lines_by x lines ≡ []
lines_beyond callers object [] x may beyond = refl
lines_beyond callers object (line ∷ lines) x may beyond =
    lines_past x line lines (λ e. beyond (subst (λ n. n < callers) e may.0.0)) ∙ lines_beyond callers (object_after object line) lines x may.2 beyond

-- each caller has as many replies as lines
pub all_told : {shared : ObjectData} {lines : List Entry} (callers : List Caller) → HaveRun shared lines callers → all_numbers (seats_of callers) ≡ count_up 0 shared.plan.seats
    → MayRun shared.plan.seats blank_object lines → (x : ℕ) → length (lines_by x lines) ≡ length (replies_at callers x)
all_told {shared} {lines} callers run whole may x = ⊎_elim there beyond (cases_lt x (length callers))
  where
    in_row : AreInRow (HasRun shared lines) callers shared.plan.seats
    in_row = callers_in_row callers run whole

    there : x < length callers → length (lines_by x lines) ≡ length (replies_at callers x)
    there l =
        let d = some_of callers (omega (arith, l)) in
        let one = get_or callers x d in
        let ran = worker_at in_row x d l in
        let told : replies_at callers x ≡ one.told.items = get_or-map (λ (c : Caller). c.told.items) callers x d [] l in
        sym (ap length ran.called.entries) ∙ (length-map ran.called.own entry_of
        ∙ (sym (length-map ran.called.own (λ (s : Stand). s.reply)) ∙ (ap length ran.called.replies_are ∙ sym (ap length told))))

    beyond : length callers ≤ x → length (lines_by x lines) ≡ length (replies_at callers x)
    beyond l =
        ap length (lines_beyond shared.plan.seats blank_object lines x may (λ k. absurd (omega (arith, k, l, workers_long in_row))))
        ∙ sym (ap length (get_or-eq_default (map (λ (c : Caller). c.told.items) callers) [] (omega (arith, l, length-map callers (λ (c : Caller). c.told.items)))))

module _ {shared : ObjectData} {lines : List Entry} (callers : List Caller) {replies : List Reply} {closed : ClosedData} (run : HaveRun shared lines callers)
    (merged : HasMerged lines (replies_at callers) replies) (closes : HasClosed shared (seats_of callers) closed)
    (whole : all_numbers (seats_of callers) ≡ count_up 0 shared.plan.seats) where
  in_row : AreInRow (HasRun shared lines) callers shared.plan.seats
  in_row = callers_in_row callers run whole

  caller_at : (x : ℕ) (d : Caller) → x < length callers → IsCaller lines replies closed x
  caller_at x d l =
      let one = get_or callers x d in
      let ran = worker_at in_row x d l in
      let called = ran.called in
      let stands = worker_stands in_row closes x d l in
      let told : replies_at callers x ≡ one.told.items = get_or-map (λ (c : Caller). c.told.items) callers x d [] l in
      record {
        own = called.own;
        last = called.last;
        parts = stands ∙ called.parts;
        made = made_both called.own ∙ ((λ i. made_lines (called.entries i) ((called.replies_are ∙ sym told) i)) ∙ sym (merged.each x));
        ending = called.ending;
        long = sym (length-map called.own entry_of) ∙ ap length called.entries;
        alone = worker_alone in_row closes x d l;
      }

  abbrev own_stands : ℕ → List Stand
  own_stands x = take (length (lines_by x lines)) (stands_by x closed.stands)

  owned : {x : ℕ} (c : IsCaller lines replies closed x) → own_stands x ≡ c.own
  owned {x} c = (λ i. take (sym c.long i) (c.parts i)) ∙ take-append_seam c.own c.last

  caller_of : (x : ℕ) → x < closed.plan.seats → IsCaller lines replies closed x
  caller_of x l =
      let within : x < length callers = omega (arith, l, workers_long in_row, ap (λ (p : Plan). p.seats) closes.plan_is) in
      caller_at x (some_of callers (omega (arith, within))) within

  has_called : HasCalled closed (leaves lines) own_stands lines replies
  has_called = record {
    each_replied = merged.count;
    stands = λ x l. let c = caller_of x l in
        subst (λ (own : List Stand). AreOwn (leaves lines x) own (stands_by x closed.stands)) (sym (owned c))
        (own_and_last (leaves lines x) (record { line = record { caller = x; call = Release }; reply = Done }) c.own c.last (stands_by x closed.stands) refl c.parts c.ending);
    made = λ x l. let c = caller_of x l in ap (map made_of) (owned c) ∙ c.made;
    alone = λ x l. (caller_of x l).alone;
  }

  -- what was called, merged and closed is what comes of the script
  pub has_driven : (driven : Driven) → MayRun shared.plan.seats blank_object lines → EndsAs closed driven → driven.replies ≡ replies → HasDriven shared.plan lines driven closed
  has_driven driven may ends told =
      let plan = closes.plan_is in
      let seat = closes.closed_is.0 in
      let here : MayRun closed.plan.seats blank_object lines = subst (λ (p : Plan). MayRun p.seats blank_object lines) (sym plan) may in
      let called : HasCalled closed (leaves lines) own_stands lines driven.replies = subst (HasCalled closed (leaves lines) own_stands lines) (sym told) has_called in
      let found = closed_run seat closed (leaves lines) own_stands lines driven closes.closed_is.1 called here ends closes.none_retired in
      record {
        plan_is = plan;
        closed_is = (seat, closes.closed_is.1, closes.closed_is.2 ∙ (whole ∙ ap (λ (p : Plan). count_up 0 p.seats) (sym plan)));
        callers = subst (λ (p : Plan). All (λ (s : Stand). s.by < p.seats) closed.stands) plan closes.callers;
        called = λ x l. let c = caller_of x (omega (arith, l, ap (λ (p : Plan). p.seats) plan)) in
            ap (map made_of) c.parts ∙ (map-append made_of c.own c.last
            ∙ (λ i. (c.made ∙ ap (λ rs. own_lines x (made_lines lines rs)) (sym told)) i ++ c.ending i));
        order = found.0;
        is_order = found.1;
        in_line = found.2;
        runs = subst (λ (p : Plan). RunsIn p found.0 lines driven) plan found.3;
        none_retired = closes.none_retired;
        contents = ends;
      }

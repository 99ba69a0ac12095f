-- Lines that callers made on a closed object are a run in the order of its line.
use Rattle.std.specs.List.{range_with_len}
use Rattle.std.proofs.Common.{◌≡◌, ◌∙◌, ℕ, ◌<◌, Bool, true, false, cond, List, [], ◌∷◌, ◌++◌, length, map, refl, sym, ap, subst, arith, ne_eqb, ⊎_elim}
use Rattle.std.proofs.Common.{length-append}
use Rattle.std.proofs.lemmas.Bool.{cases_lt, false≢true}
use Rattle.seat_history.specs.Contents.{Contents}
use Rattle.seat_history.specs.History.{state_at}
use Rattle.seat_history.specs.Object.{Object, blank_object, object_after}
use Rattle.seat_history.specs.Pairs.{ArePairsOf}
use Rattle.seat_history.specs.declared.call.Call.TheVariants.{Release}
use Rattle.seat_history.specs.declared.entry.Entry.{Entry}
use Rattle.seat_history.specs.declared.reply.Reply.{Reply}
use Rattle.step_rules.proofs.Line.Lines.{Tells, line_tells}
use Rattle.step_rules.specs.Closing.{ClosedData, IsClosed, live_nodes}
use Rattle.step_rules.specs.Line.{after_stand, line_of, log_after, stands_by}
use Rattle.step_rules.specs.SeatData.{SeatData}
use Rattle.step_rules.specs.Stock.{AreOfOne}
use Rattle.step_rules.specs.declared.counts.Counts.{Counts}
use Rattle.step_rules.specs.declared.plan.Plan.{Plan}
use Rattle.step_rules.specs.declared.view.Stand.{Stand}
use Rattle.call_script.specs.Row.{AreOwn, EndsAs, HasCalled, made_of, row_of, without_last}
use Rattle.call_script.specs.Run.{Course, Follows, IsOrderOf, Made, RunsIn, begun, course_from, made_in, made_lines, own_lines}
use Rattle.call_script.specs.Script.{MayRun}
use Rattle.call_script.specs.declared.driven.Driven.{Driven}
use Rattle.call_script.proofs.FromLine.{Beside, Goes, StocksFrom, goes, stocks_from}
use Rattle.call_script.proofs.Lasts.{none_left, own_left, own_made}
use Rattle.call_script.proofs.LineOrders.{line_order}

-- two lists with the same end
same_last : (a b : List Stand) (s t : Stand) → a ++ s ∷ [] ≡ b ++ t ∷ [] → s ≡ t
same_last [] [] s t e = cc e
same_last [] (y ∷ b) s t e = absurd (omega (arith, ap length e, length-append b (t ∷ [])))
same_last (x ∷ a) [] s t e = absurd (omega (arith, ap length e, length-append a (s ∷ [])))
same_last (x ∷ a) (y ∷ b) s t e = let rest : a ++ s ∷ [] ≡ b ++ t ∷ [] = cc e in same_last a b s t rest

-- no stand is of a caller beyond the plan
none_beyond : (p : Plan) (history : List Entry) (object : Object) (log : List Entry) (line : List Stand) (x : ℕ) → Tells p history object log line → (x < p.seats → ⊥) → stands_by x line ≡ []
none_beyond p history object log [] x tells beyond = refl
none_beyond p history object log (s ∷ line) x tells beyond =
    ap (λ b. cond b (s ∷ stands_by x line) (stands_by x line)) (ne_eqb s.by x (λ e. beyond (subst (λ n. n < p.seats) e tells.0)))
    ∙ none_beyond p history (after_stand object s) (log_after log object s) line x tells.3 beyond

-- and no line
no_line : (callers : ℕ) (object : Object) (lines : List Entry) (replies : List Reply) (x : ℕ) → MayRun callers object lines → (x < callers → ⊥) → own_lines x (made_lines lines replies) ≡ []
no_line callers object [] replies x may beyond = refl
no_line callers object (line ∷ lines) [] x may beyond = refl
no_line callers object (line ∷ lines) (reply ∷ replies) x may beyond =
    let made : Made = record { line = line; reply = reply } in
    let rest = own_lines x (made_lines lines replies) in
    ap (λ b. cond b (made ∷ rest) rest) (ne_eqb line.caller x (λ e. beyond (subst (λ n. n < callers) e may.0.0)))
    ∙ no_line callers (object_after object line) lines replies x may.2 beyond

-- the closed object's line
abbrev line_in : ClosedData → List Stand
line_in closed = line_of closed.plan.seats closed.history closed.stands

module _ (seat : SeatData) (closed : ClosedData) (leaves : ℕ → Bool) (own : ℕ → List Stand) (lines : List Entry) (driven : Driven) (is : IsClosed seat closed)
    (called : HasCalled closed leaves own lines driven.replies) where
  tells : Tells closed.plan closed.history blank_object [] (line_in closed)
  tells = line_tells closed.plan seat.view.numbers closed.history closed.stands is.whole is.lawful is.callers

  -- the last of a caller that leaves a record held is a release
  released : (b : Bool) (mine stands : List Stand) → AreOwn b mine stands → b ≡ true → (front : List Stand) (last : Stand) → stands ≡ front ++ last ∷ [] → last.call ≡ Release
  released true mine stands are leave front last e = ap (λ (s : Stand). s.call) (same_last front mine last are.0 (sym e ∙ are.2)) ∙ are.1
  released false mine stands are leave front last e = absurd (false≢true leave)

  beside : Beside closed.plan closed.history leaves blank_object [] begun (line_in closed)
  beside = record {
    contents = refl;
    logged = refl;
    held = λ x there. refl;
    stocks = λ x lt.
        let stocks = is.line.stocks x lt (subst (AreOfOne x) (sym (is.line.order x lt)) (called.alone x lt)) in
        stocks_from closed.plan closed.history 0 0 (stands_by x (line_in closed)) (λ i s at. omega (arith, stocks i s at));
    releases = λ x lt leave front last e. released (leaves x) (own x) (stands_by x closed.stands) (called.stands x lt) leave front last (sym (is.line.order x lt) ∙ e);
  }

  goes_on : Goes closed.plan closed.history leaves begun (without_last leaves (line_in closed)) (state_at closed.history (length closed.history))
  goes_on = subst (Goes closed.plan closed.history leaves begun (without_last leaves (line_in closed))) is.line.contents
      (goes closed.plan closed.history leaves (line_in closed) blank_object [] begun is.line.replays tells beside)

  own_row : (x : ℕ) → x < closed.plan.seats → own_lines x (row_of leaves closed) ≡ map made_of (own x)
  own_row x lt = own_made x (without_last leaves (line_in closed))
      ∙ ap (map made_of) (own_left leaves x (own x) (line_in closed) (subst (AreOwn (leaves x) (own x)) (sym (is.line.order x lt)) (called.stands x lt)))

  no_row : (x : ℕ) → (x < closed.plan.seats → ⊥) → own_lines x (row_of leaves closed) ≡ []
  no_row x beyond = own_made x (without_last leaves (line_in closed))
      ∙ ap (map made_of) (none_left leaves x (line_in closed) (none_beyond closed.plan closed.history blank_object [] (line_in closed) x tells beyond))

  same_rows : MayRun closed.plan.seats blank_object lines → (x : ℕ) → own_lines x (row_of leaves closed) ≡ own_lines x (made_lines lines driven.replies)
  same_rows may x = ⊎_elim
      (λ lt. own_row x lt ∙ called.made x lt)
      (λ le. let beyond : x < closed.plan.seats → ⊥ = λ lt. absurd (omega arith) in no_row x beyond ∙ sym (no_line closed.plan.seats blank_object lines driven.replies x may beyond))
      (cases_lt x closed.plan.seats)

  -- the row is a run that ends as the closed object does
  runs : (order : List ℕ) → made_in lines driven.replies order ≡ row_of leaves closed → EndsAs closed driven → closed.retired ≡ [] → RunsIn closed.plan order lines driven
  runs order row ends none =
      let course : course_from closed.plan begun (made_in lines driven.replies order) ≡ course_from closed.plan begun (row_of leaves closed) = ap (course_from closed.plan begun) row in
      let contents : (course_from closed.plan begun (made_in lines driven.replies order)).object.contents ≡ state_at closed.history (length closed.history)
      = ap (λ (c : Course). c.object.contents) course ∙ goes_on.contents_are in
      let log : (course_from closed.plan begun (made_in lines driven.replies order)).log ≡ closed.history = ap (λ (c : Course). c.log) course ∙ goes_on.log_is in
      let free : driven.counts.free ≡ length closed.free = ap (λ (c : Counts). c.free) ends.counts in
      let live : driven.counts.live ≡ live_nodes closed.plan closed.history = ap (λ (c : Counts). c.live) ends.counts in
      let retired : driven.counts.retired ≡ length closed.retired = ap (λ (c : Counts). c.retired) ends.counts in
      record {
        each_replied = called.each_replied;
        follows = subst (Follows closed.plan begun) (sym row) goes_on.follows;
        registers = ends.registers ∙ ap (λ (c : Contents). map c.registers (range_with_len 0 16)) (sym contents);
        pairs = subst (λ (c : Contents). ArePairsOf c.values driven.pairs) (sym contents) ends.pairs;
        in_range = ends.in_range;
        retired = retired ∙ ap (length {A = ℕ}) none;
        live = live ∙ ap (live_nodes closed.plan) (sym log);
        whole = omega (arith, is.counted, free, live, ap (length {A = ℕ}) none);
      }

  pub closed_run : MayRun closed.plan.seats blank_object lines → EndsAs closed driven → closed.retired ≡ []
      → (order : List ℕ) × IsOrderOf lines order × (made_in lines driven.replies order ≡ row_of leaves closed) × RunsIn closed.plan order lines driven
  closed_run may ends none =
      let found = line_order lines driven.replies (row_of leaves closed) called.each_replied (same_rows may) in
      (found.0, found.1, found.2, runs found.0 found.2 ends none)

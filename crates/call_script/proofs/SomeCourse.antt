-- Lines can be answered one after the other: with Full where their caller's nodes don't do.
use Rattle.std.specs.List.{AllByRecursion}
use Rattle.std.proofs.Common.{◌≡◌, ◌≢◌, ◌∙◌, ℕ, ◌+◌, ◌*◌, ◌-◌, ◌<◌, ◌≤◌, suc, zero, Bool, true, false, not, ◌&&◌, cond, eq-eqb, ne_eqb, List, [], ◌∷◌, ◌++◌, length}
use Rattle.std.proofs.Common.{mul-add, refl, sym, ap, subst, arith, ⊎_elim, take_all}
use Rattle.std.proofs.lemmas.Bool.{cases_Bool, cases_eq, cases_lt, eqb-true}
use mathlib.Core.Option.{some, some-injective, some-ne-none}
use lib.ListN.{get_elem?}
use Rattle.seat_history.proofs.Changed.{idle}
use Rattle.seat_history.proofs.Histories.{contents_from-append}
use Rattle.seat_history.proofs.Replies.{reply_not_full}
use Rattle.seat_history.proofs.SetPairs.{AddsInRange}
use Rattle.seat_history.specs.Change.{is_change}
use Rattle.seat_history.specs.Contents.{Contents, blank}
use Rattle.seat_history.specs.History.{contents_from, state_at}
use Rattle.seat_history.specs.Object.{object_after, reply_in}
use Rattle.seat_history.specs.Step.{contents_after}
use Rattle.seat_history.specs.declared.entry.Entry.{Entry}
use Rattle.seat_history.specs.declared.reply.Reply.{Reply}
use Rattle.seat_history.specs.declared.reply.Reply.TheVariants.{Full}
use Rattle.step_rules.proofs.Line.Counting.{live_first, live_next}
use Rattle.step_rules.proofs.Line.Lawfuls.{not_full}
use Rattle.step_rules.proofs.Numbers.Places.{at_append}
use Rattle.step_rules.proofs.Order.RecordsTell.{EachThere}
use Rattle.step_rules.specs.Closing.{live_nodes}
use Rattle.step_rules.specs.History.{IsThere, cell_of}
use Rattle.step_rules.specs.Lawful.{is_full}
use Rattle.step_rules.specs.Layout.{cells}
use Rattle.step_rules.specs.Records.{Edit, cost_at, cost_of, edit_of, gain_at, need, need_in, out, put, records_at}
use Rattle.step_rules.specs.Records as r
use Rattle.step_rules.specs.declared.plan.Plan.{Plan}
use Rattle.call_script.specs.Run.{Course, Follows, IsAnswer, begun, course_after, course_from, made_lines, more_for}

-- the numbers of the first n callers, added up
pub total : (ℕ → ℕ) → ℕ → ℕ
total f zero = 0
total f (suc n) = total f n + f n

total_else : (f : ℕ → ℕ) (caller count n : ℕ) → n ≤ caller → total (more_for f caller count) n ≡ total f n
unfolding total
total_else f caller count zero le = refl
total_else f caller count (suc n) le = omega (arith, total_else f caller count n (omega arith), ap (λ b. cond b (f caller + count) (f n)) (ne_eqb caller n (λ e. absurd (omega arith))))

total_more : (f : ℕ → ℕ) (caller count n : ℕ) → caller < n → total (more_for f caller count) n ≡ total f n + count
unfolding total
total_more f caller count zero lt = absurd (omega arith)
total_more f caller count (suc n) lt = ⊎_elim
    (λ e. omega (arith, total_else f caller count n (omega arith), ap (λ b. cond b (f caller + count) (f n)) (eq-eqb caller n e), ap f e))
    (λ ne. omega (arith, total_more f caller count n (omega arith), ap (λ b. cond b (f caller + count) (f n)) (ne_eqb caller n ne)))
    (cases_eq caller n)

total_within : (share : ℕ) (f g : ℕ → ℕ) (n : ℕ) → ((x : ℕ) → f x ≤ share + g x) → total f n ≤ share * n + total g n
unfolding total
total_within share f g zero each = omega arith
total_within share f g (suc n) each =
    let e : suc n ≡ n + 1 = omega arith in
    omega (arith, total_within share f g n each, each n, mul-add share n 1, ap (λ k. share * k) e)

-- a change costs no more than it needs
cost_within : (n : ℕ) (e : Edit) → cost_of n e ≤ need n e
cost_within n (put new) = grind (arith, eqb-true n 0)
cost_within n (r.set i new) = omega arith
cost_within n (out i) = omega arith

-- a script that has come so far with no caller's nodes overdrawn, and none lost
pub record IsBalanced (p : Plan) (course : Course) : Type 0 where
  pub contents : course.object.contents ≡ state_at course.log (length course.log)
  pub there : EachThere p course.log
  pub within : (x : ℕ) → course.cost x ≤ p.share + course.gain x
  pub even : live_nodes p course.log + total course.gain p.seats ≡ cells p + total course.cost p.seats
  pub small : AllByRecursion (λ (e : Entry). AddsInRange e.call) course.log

pub balanced_first : (p : Plan) → IsBalanced p begun
balanced_first p = record {
  contents = refl;
  there = λ i e at. absurd cc;
  within = λ x. omega arith;
  even = omega (arith, live_first p);
  small = tt;
}

-- the nodes in cells are no more than there are
pub live_within : (p : Plan) (course : Course) → IsBalanced p course → live_nodes p course.log ≤ p.share * p.seats + cells p
live_within p course balanced = omega (arith, balanced.even, total_within p.share course.cost course.gain p.seats balanced.within)

is_answer : (p : Plan) (course : Course) (line : Entry) (reply : Reply) → reply_in course.object line ≡ reply → ((need free : ℕ) → reply ≢ Full need free) → IsAnswer p course line reply
is_answer p course line (Full need free) e other = absurd (other need free refl)
is_answer p course line _ e other = e

all_push : {X : Type 0} (P : X → Type 0) (xs : List X) (x : X) → AllByRecursion P xs → P x → AllByRecursion P (xs ++ x ∷ [])
all_push P [] x all one = (one, tt)
all_push P (y ∷ xs) x all one = (all.0, all_push P xs x all.1 one)

there_push : (p : Plan) (log : List Entry) (line : Entry) → EachThere p log → IsThere p line.call → EachThere p (log ++ line ∷ [])
there_push p log line each there i e at = ⊎_elim
    (λ q. each i e q)
    (λ q. subst (λ (z : Entry). IsThere p z.call) (one q.0 q.2) there)
    (at_append log (line ∷ []) i e at)
  where
    one : (n : ℕ) → get_elem? (line ∷ []) n ≡ some e → line ≡ e
    one zero at = some-injective line e at
    one (suc n) at = absurd (some-ne-none e (sym at))

-- the contents after one more entry
state_next : (log : List Entry) (line : Entry) → contents_after (state_at log (length log)) line.call ≡ state_at (log ++ line ∷ []) (length (log ++ line ∷ []))
state_next log line =
    ap (λ (es : List Entry). contents_after (contents_from blank es) line.call) (take_all (length log) log (omega arith))
    ∙ (sym (contents_from-append blank log (line ∷ [])) ∙ ap (contents_from blank) (sym (take_all (length (log ++ line ∷ [])) (log ++ line ∷ []) (omega arith))))

module _ (p : Plan) (course : Course) (line : Entry) (caller : line.caller < p.seats) (there : IsThere p line.call) (small : AddsInRange line.call) (balanced : IsBalanced p course) where
  -- a right reply to the line
  record Answered : Type 0 where
    reply : Reply
    answer : IsAnswer p course line reply
    after : IsBalanced p (course_after p course (record { line = line; reply = reply }))

  -- the nodes that its caller has
  stock : ℕ
  stock = p.share + course.gain line.caller - course.cost line.caller

  plain_full : is_full (reply_in course.object line) ≡ false
  plain_full = not_full (reply_in course.object line) (reply_not_full course.object.contents (course.object.held line.caller) line.call)

  plain_answer : IsAnswer p course line (reply_in course.object line)
  plain_answer = is_answer p course line (reply_in course.object line) refl (reply_not_full course.object.contents (course.object.held line.caller) line.call)

  -- the course after the line, by whether it is Full and whether it is a change
  next : (reply : Reply) (f m : Bool) → is_full reply ≡ f → (is_change course.object.contents line.call && not (is_full reply)) ≡ m
      → record {
        object = cond f course.object (object_after course.object line);
        log = cond m (course.log ++ line ∷ []) course.log;
        cost = cond m (more_for course.cost line.caller (cost_at p course.log (length course.log) line.call)) course.cost;
        gain = cond m (more_for course.gain line.caller (gain_at p course.log (length course.log) line.call)) course.gain;
      } ≡ course_after p course (record { line = line; reply = reply })
  next reply f m full change = λ i. record {
    object = cond (sym full i) course.object (object_after course.object line);
    log = cond (sym change i) (course.log ++ line ∷ []) course.log;
    cost = cond (sym change i) (more_for course.cost line.caller (cost_at p course.log (length course.log) line.call)) course.cost;
    gain = cond (sym change i) (more_for course.gain line.caller (gain_at p course.log (length course.log) line.call)) course.gain;
  }

  still : is_change course.object.contents line.call ≡ false → Answered
  still h = record {
    reply = reply_in course.object line;
    answer = plain_answer;
    after = subst (IsBalanced p) (next (reply_in course.object line) false false plain_full (ap (λ b. b && not (is_full (reply_in course.object line))) h)) (record {
      contents = idle course.object.contents line.call h ∙ balanced.contents;
      there = balanced.there;
      within = balanced.within;
      even = balanced.even;
      small = balanced.small;
    });
  }

  refused : is_change course.object.contents line.call ≡ true → stock < need_in p course.log line.call → Answered
  unfolding stock
  refused h few = let reply : Reply = Full (need_in p course.log line.call) stock in record {
    reply = reply;
    answer = record {
      stock = stock;
      left = omega (arith, balanced.within line.caller);
      full = record { changes = h; need_is = refl; few = few; most = omega arith; least = omega arith };
    };
    after = subst (IsBalanced p) (next reply true false refl (ap (λ b. b && false) h)) (record {
      contents = balanced.contents;
      there = balanced.there;
      within = balanced.within;
      even = balanced.even;
      small = balanced.small;
    });
  }

  made : is_change course.object.contents line.call ≡ true → need_in p course.log line.call ≤ stock → Answered
  unfolding stock
  made h enough =
      let q = length course.log in
      let cost = cost_at p course.log q line.call in
      let gain = gain_at p course.log q line.call in
      let rs = records_at p course.log (cell_of p line.call) in
      let cost_is : cost ≡ cost_of (length rs) (edit_of rs line.call)
      = ap (λ (es : List Entry). cost_of (length (records_at p es (cell_of p line.call))) (edit_of (records_at p es (cell_of p line.call)) line.call)) (take_all q course.log (omega arith)) in
      let changes : is_change (state_at course.log q) line.call ≡ true = ap (λ (c : Contents). is_change c line.call) (sym balanced.contents) ∙ h in
      record {
        reply = reply_in course.object line;
        answer = plain_answer;
        after = subst (IsBalanced p) (next (reply_in course.object line) false true plain_full
            (ap (λ b. b && not (is_full (reply_in course.object line))) h ∙ ap not plain_full)) (record {
              contents = ap (λ (c : Contents). contents_after c line.call) balanced.contents ∙ state_next course.log line;
              there = there_push p course.log line balanced.there there;
              within = λ x. ⊎_elim
                  (λ e. omega (
                    arith,
                    ap (λ b. cond b (course.cost line.caller + cost) (course.cost x)) (eq-eqb line.caller x e),
                    ap (λ b. cond b (course.gain line.caller + gain) (course.gain x)) (eq-eqb line.caller x e),
                    balanced.within line.caller,
                    cost_is,
                    cost_within (length rs) (edit_of rs line.call),
                  ))
                  (λ ne. omega (
                    arith,
                    ap (λ b. cond b (course.cost line.caller + cost) (course.cost x)) (ne_eqb line.caller x ne),
                    ap (λ b. cond b (course.gain line.caller + gain) (course.gain x)) (ne_eqb line.caller x ne),
                    balanced.within x,
                  ))
                  (cases_eq line.caller x);
              even = omega (
                arith,
                balanced.even,
                live_next p course.log line there balanced.there changes,
                total_more course.gain line.caller gain p.seats caller,
                total_more course.cost line.caller cost p.seats caller,
              );
              small = all_push (λ (e : Entry). AddsInRange e.call) course.log line balanced.small small;
            });
      }

  answered : Answered
  answered = ⊎_elim (λ h. ⊎_elim (refused h) (made h) (cases_lt stock (need_in p course.log line.call))) still (cases_Bool (is_change course.object.contents line.call))

-- the line can be made
pub record Fits (p : Plan) (line : Entry) : Type 0 where
  pub caller : line.caller < p.seats
  pub there : IsThere p line.call
  pub small : AddsInRange line.call

pub some_course : (p : Plan) (lines : List Entry) (course : Course) → IsBalanced p course → AllByRecursion (Fits p) lines
    → (replies : List Reply) × (length replies ≡ length lines) × Follows p course (made_lines lines replies) × IsBalanced p (course_from p course (made_lines lines replies))
some_course p [] course balanced fits = ([], refl, tt, balanced)
some_course p (line ∷ lines) course balanced fits =
    let a = answered p course line fits.0.caller fits.0.there fits.0.small balanced in
    let rest = some_course p lines (course_after p course (record { line = line; reply = a.reply })) a.after fits.1 in
    (a.reply ∷ rest.0, ap suc rest.1, (a.answer, rest.2), rest.3)

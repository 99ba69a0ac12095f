-- The line of a closed object, without the last releases, is a script's run.
use Rattle.std.proofs.Common.{◌≡◌, ◌≢◌, ◌∙◌, ℕ, ◌+◌, ◌<◌, suc, Bool, true, false, not, ◌&&◌, cond, eqb, eq-eqb, ne_eqb, List, [], ◌∷◌, ◌++◌, length, take, take_all, map}
use Rattle.std.proofs.Common.{refl, sym, ap, subst, arith, ⊎_elim}
use Rattle.std.proofs.lemmas.Bool.{and_parts, cases_Bool, cases_eq, false≢true}
use Rattle.std.proofs.lemmas.List.Sums.{sum_by-cons}
use mathlib.Core.Option.{some}
use lib.ListN.{get_elem?}
use Rattle.seat_history.specs.Change.{is_change}
use Rattle.seat_history.specs.Contents.{Contents}
use Rattle.seat_history.specs.Object.{Object, object_after}
use Rattle.seat_history.specs.Step.{contents_after, held_after, reply_to}
use Rattle.seat_history.specs.declared.call.Call.TheVariants.{Release}
use Rattle.seat_history.specs.declared.entry.Entry.{Entry}
use Rattle.seat_history.specs.declared.reply.Reply.{Reply}
use Rattle.seat_history.specs.declared.reply.Reply.TheVariants.{Full}
use Rattle.step_rules.proofs.Line.Lines.{Tells}
use Rattle.step_rules.specs.History.{cell_of}
use Rattle.step_rules.specs.Lawful.{IsFull, IsReply, entry_of, is_full}
use Rattle.step_rules.specs.Line.{Replays, after_stand, after_stands, log_after, stands_by}
use Rattle.step_rules.specs.Records.{cost_at, cost_of, edit_of, gain_at, gain_of, records_at}
use Rattle.step_rules.specs.Stock.{costs, gains, stand_cost, stand_gain}
use Rattle.step_rules.specs.declared.plan.Plan.{Plan}
use Rattle.step_rules.specs.declared.view.Stand.{Stand}
use Rattle.call_script.specs.Row.{is_none_of, made_of, without_last}
use Rattle.call_script.specs.Run.{Course, Follows, IsAnswer, course_after, course_from, makes_change, more_for}

-- each stand keeps its caller's nodes, where those before it cost and gave so many
abbrev pub StocksFrom : Plan → List Entry → ℕ → ℕ → List Stand → Type 0
StocksFrom p history cost gain [] = Unit {0}
StocksFrom p history cost gain (s ∷ r) = (s.stock + cost ≡ p.share + gain) × StocksFrom p history (cost + stand_cost p history s) (gain + stand_gain p history s) r

pub stocks_from : (p : Plan) (history : List Entry) (cost gain : ℕ) (stands : List Stand)
    → ((i : ℕ) (s : Stand) → get_elem? stands i ≡ some s → s.stock + (cost + costs p history (take i stands)) ≡ p.share + (gain + gains p history (take i stands)))
    → StocksFrom p history cost gain stands
stocks_from p history cost gain [] are = tt
stocks_from p history cost gain (s ∷ r) are = (
  omega (arith, are 0 s refl),
  stocks_from p history (cost + stand_cost p history s) (gain + stand_gain p history s) r (λ i t at. omega (
    arith,
    are (suc i) t at,
    sum_by-cons (stand_cost p history) s (take i r),
    sum_by-cons (stand_gain p history) s (take i r),
  )),
)

-- what a number is after more of it is added under one caller's
spent : (m : Bool) (f : ℕ → ℕ) (caller x count : ℕ) → caller ≡ x → (cond m (more_for f caller count) f) x ≡ f x + cond m count 0
spent true f caller x count e = ap (λ b. cond b (f caller + count) (f x)) (eq-eqb caller x e) ∙ ap (λ n. f n + count) e
spent false f caller x count e = omega arith

unspent : (m : Bool) (f : ℕ → ℕ) (caller x count : ℕ) → caller ≢ x → (cond m (more_for f caller count) f) x ≡ f x
unspent true f caller x count ne = ap (λ b. cond b (f caller + count) (f x)) (ne_eqb caller x ne)
unspent false f caller x count ne = refl

-- two objects with the same contents
contents_same : (f : Bool) (a b : Object) (e : Entry) → a.contents ≡ b.contents → (cond f a (object_after a e)).contents ≡ (cond f b (object_after b e)).contents
contents_same true a b e same = same
contents_same false a b e same = ap (λ (c : Contents). contents_after c e.call) same

held_same : (f : Bool) (a b : Object) (e : Entry) (x : ℕ) → a.contents ≡ b.contents → a.held e.caller ≡ b.held e.caller → a.held x ≡ b.held x
    → (cond f a (object_after a e)).held x ≡ (cond f b (object_after b e)).held x
held_same true a b e x same own other = other
held_same false a b e x same own other = λ i. cond (eqb e.caller x) (held_after (same i) (own i) e.call) (other i)

-- a release changes nothing but what its caller holds
release_still : (f : Bool) (a : Object) (e : Entry) → e.call ≡ Release → (cond f a (object_after a e)).contents ≡ a.contents
release_still true a e is = refl
release_still false a e is = ap (λ c. contents_after a.contents c) is

held_kept : (f : Bool) (a : Object) (e : Entry) (x : ℕ) → e.caller ≢ x → (cond f a (object_after a e)).held x ≡ a.held x
held_kept true a e x ne = refl
held_kept false a e x ne = ap (λ b. cond b (held_after a.contents (a.held e.caller) e.call) (a.held x)) (ne_eqb e.caller x ne)

release_unlogged : (a : Object) (log : List Entry) (s : Stand) → s.call ≡ Release → log_after log a s ≡ log
release_unlogged a log s is = ap (λ c. cond (is_change a.contents c && not (is_full s.reply)) (log ++ entry_of s ∷ []) log) is

-- the reply is right of the other object too
answers : (p : Plan) (course : Course) (object : Object) (log : List Entry) (s : Stand) (reply : Reply) → IsReply p s.stock object.contents log (object.held s.by) s.call reply
    → s.stock + course.cost s.by ≡ p.share + course.gain s.by → course.object.contents ≡ object.contents → course.log ≡ log → course.object.held s.by ≡ object.held s.by
    → IsAnswer p course (entry_of s) reply
answers p course object log s (Full need free) right left contents logged held = record {
  stock = s.stock;
  left = left;
  full = subst (λ (z : Contents × List Entry). IsFull p s.stock z.0 z.1 s.call need free) (λ i. (sym contents i, sym logged i)) right;
}
answers p course object log s _ right left contents logged held = (λ i. reply_to (contents i) (held i) s.call) ∙ right

none_of : (l : List Stand) → is_none_of l ≡ true → l ≡ []
none_of [] e = refl
none_of (s ∷ l) e = absurd (false≢true e)

-- those of a caller's later stands
later_some : (b : Bool) (s : Stand) (l : List Stand) → (l ≡ [] → ⊥) → cond b (s ∷ l) l ≡ [] → ⊥
later_some true s l there e = cc e
later_some false s l there e = there e

module _ (p : Plan) (history : List Entry) (leaves : ℕ → Bool) where
  -- the last stand of a caller that leaves a record held is a release
  abbrev Releases : List Stand → ℕ → Type 0
  Releases line x = leaves x ≡ true → (own : List Stand) (last : Stand) → stands_by x line ≡ own ++ last ∷ [] → last.call ≡ Release

  -- the object of the whole line and the course of the stands kept so far
  pub record Beside (object : Object) (log : List Entry) (course : Course) (line : List Stand) : Type 0 where
    pub contents : course.object.contents ≡ object.contents
    pub logged : course.log ≡ log
    pub held : (x : ℕ) → (stands_by x line ≡ [] → ⊥) → course.object.held x ≡ object.held x
    pub stocks : (x : ℕ) → x < p.seats → StocksFrom p history (course.cost x) (course.gain x) (stands_by x line)
    pub releases : (x : ℕ) → x < p.seats → Releases line x

  -- what comes of the stands that are kept
  pub record Goes (course : Course) (kept : List Stand) (contents : Contents) : Type 0 where
    pub follows : Follows p course (map made_of kept)
    pub contents_are : (course_from p course (map made_of kept)).object.contents ≡ contents
    pub log_is : (course_from p course (map made_of kept)).log ≡ history

  releases_later : (s : Stand) (line : List Stand) (x : ℕ) → Releases (s ∷ line) x → Releases line x
  releases_later s line x are leave own last is = ⊎_elim
      (λ t. are leave (s ∷ own) last (ap (λ b. cond b (s ∷ stands_by x line) (stands_by x line)) t ∙ ap (λ z. s ∷ z) is))
      (λ t. are leave own last (ap (λ b. cond b (s ∷ stands_by x line) (stands_by x line)) t ∙ is))
      (cases_Bool (eqb s.by x))

  module _ (object : Object) (log : List Entry) (course : Course) (s : Stand) (line : List Stand) (beside : Beside object log course (s ∷ line)) (there : s.by < p.seats) where
    whole : stands_by s.by (s ∷ line) ≡ s ∷ stands_by s.by line
    whole = ap (λ b. cond b (s ∷ stands_by s.by line) (stands_by s.by line)) (eq-eqb s.by s.by refl)

    others : (x : ℕ) → s.by ≢ x → stands_by x (s ∷ line) ≡ stands_by x line
    others x ne = ap (λ b. cond b (s ∷ stands_by x line) (stands_by x line)) (ne_eqb s.by x ne)

    -- the last one of a caller that leaves a record held is left out
    beside_out : leaves s.by ≡ true → stands_by s.by line ≡ [] → Beside (after_stand object s) (log_after log object s) course line
    beside_out leave none =
        let release : s.call ≡ Release = beside.releases s.by there leave [] s (whole ∙ ap (λ z. s ∷ z) none) in
        let ne : (x : ℕ) → (stands_by x line ≡ [] → ⊥) → s.by ≢ x = λ x there e. there (ap (λ n. stands_by n line) (sym e) ∙ none) in
        record {
          contents = beside.contents ∙ sym (release_still (is_full s.reply) object (entry_of s) release);
          logged = beside.logged ∙ sym (release_unlogged object log s release);
          held = λ x there. beside.held x (λ e. there (sym (others x (ne x there)) ∙ e)) ∙ sym (held_kept (is_full s.reply) object (entry_of s) x (ne x there));
          stocks = λ x lt. ⊎_elim
              (λ e. subst (λ n. StocksFrom p history (course.cost n) (course.gain n) (stands_by n line)) e (subst (StocksFrom p history (course.cost s.by) (course.gain s.by)) (sym none) tt))
              (λ other. subst (StocksFrom p history (course.cost x) (course.gain x)) (others x other) (beside.stocks x lt))
              (cases_eq s.by x);
          releases = λ x lt. releases_later s line x (beside.releases x lt);
        }

    module _ (logged : log ≡ take s.place history) (changes : s.changes ≡ (is_change object.contents s.call && not (is_full s.reply))) where
      flag : makes_change course (made_of s) ≡ s.changes
      flag = ap (λ (c : Contents). is_change c s.call && not (is_full s.reply)) beside.contents ∙ sym changes

      seen : take (length course.log) course.log ≡ take s.place history
      seen = take_all (length course.log) course.log (omega arith) ∙ (beside.logged ∙ logged)

      cost_is : cost_at p course.log (length course.log) s.call ≡ cost_at p history s.place s.call
      cost_is = ap (λ (es : List Entry). cost_of (length (records_at p es (cell_of p s.call))) (edit_of (records_at p es (cell_of p s.call)) s.call)) seen

      gain_is : gain_at p course.log (length course.log) s.call ≡ gain_at p history s.place s.call
      gain_is = ap (λ (es : List Entry). gain_of (length (records_at p es (cell_of p s.call))) (edit_of (records_at p es (cell_of p s.call)) s.call)) seen

      stock_here : (s.stock + course.cost s.by ≡ p.share + course.gain s.by)
          × StocksFrom p history (course.cost s.by + stand_cost p history s) (course.gain s.by + stand_gain p history s) (stands_by s.by line)
      stock_here = subst (StocksFrom p history (course.cost s.by) (course.gain s.by)) whole (beside.stocks s.by there)

      own_cost : (course_after p course (made_of s)).cost s.by ≡ course.cost s.by + stand_cost p history s
      own_cost = spent (makes_change course (made_of s)) course.cost s.by s.by (cost_at p course.log (length course.log) s.call) refl
          ∙ (λ i. course.cost s.by + cond (flag i) (cost_is i) 0)

      own_gain : (course_after p course (made_of s)).gain s.by ≡ course.gain s.by + stand_gain p history s
      own_gain = spent (makes_change course (made_of s)) course.gain s.by s.by (gain_at p course.log (length course.log) s.call) refl
          ∙ (λ i. course.gain s.by + cond (flag i) (gain_is i) 0)

      stocks_later : (x : ℕ) → x < p.seats
          → StocksFrom p history ((course_after p course (made_of s)).cost x) ((course_after p course (made_of s)).gain x) (stands_by x line)
      stocks_later x lt = let m = makes_change course (made_of s) in ⊎_elim
          (λ e. subst (λ n. StocksFrom p history ((course_after p course (made_of s)).cost n) ((course_after p course (made_of s)).gain n) (stands_by n line)) e
          (subst (λ (z : ℕ × ℕ). StocksFrom p history z.0 z.1 (stands_by s.by line)) (λ i. (sym own_cost i, sym own_gain i)) stock_here.1))
          (λ ne. subst (λ (z : ℕ × ℕ). StocksFrom p history z.0 z.1 (stands_by x line))
          (λ i. (
            sym (unspent m course.cost s.by x (cost_at p course.log (length course.log) s.call) ne) i,
            sym (unspent m course.gain s.by x (gain_at p course.log (length course.log) s.call) ne) i,
          ))
          (subst (StocksFrom p history (course.cost x) (course.gain x)) (others x ne) (beside.stocks x lt)))
          (cases_eq s.by x)

      own_held : course.object.held s.by ≡ object.held s.by
      own_held = beside.held s.by (λ e. let bad : s ∷ stands_by s.by line ≡ [] = sym whole ∙ e in cc bad)

      -- any other stand is made on both
      beside_kept : Beside (after_stand object s) (log_after log object s) (course_after p course (made_of s)) line
      beside_kept = record {
        contents = contents_same (is_full s.reply) course.object object (entry_of s) beside.contents;
        logged = λ i. cond (is_change (beside.contents i) s.call && not (is_full s.reply)) (beside.logged i ++ entry_of s ∷ []) (beside.logged i);
        held = λ x there. held_same (is_full s.reply) course.object object (entry_of s) x beside.contents own_held (beside.held x (later_some (eqb s.by x) s (stands_by x line) there));
        stocks = stocks_later;
        releases = λ x lt. releases_later s line x (beside.releases x lt);
      }

      answered : IsReply p s.stock object.contents log (object.held s.by) s.call s.reply → IsAnswer p course (entry_of s) s.reply
      answered right = answers p course object log s s.reply right stock_here.0 beside.contents beside.logged own_held

  pub goes : (line : List Stand) (object : Object) (log : List Entry) (course : Course) → Replays p object log line → Tells p history object log line → Beside object log course line
      → Goes course (without_last leaves line) (after_stands object line).contents
  goes [] object log course replays tells beside = record { follows = tt; contents_are = beside.contents; log_is = beside.logged ∙ tells }
  goes (s ∷ line) object log course replays tells beside =
      let c = leaves s.by && is_none_of (stands_by s.by line) in
      let kept = without_last leaves line in
      ⊎_elim
      (λ e. let parts = and_parts (leaves s.by) (is_none_of (stands_by s.by line)) e in
      subst (λ b. Goes course (cond b kept (s ∷ kept)) (after_stands object (s ∷ line)).contents) (sym e)
      (goes line (after_stand object s) (log_after log object s) course replays.1 tells.3
      (beside_out object log course s line beside tells.0 parts.0 (none_of (stands_by s.by line) parts.1))))
      (λ e. let rest = goes line (after_stand object s) (log_after log object s) (course_after p course (made_of s)) replays.1 tells.3
      (beside_kept object log course s line beside tells.0 tells.1 tells.2) in
      subst (λ b. Goes course (cond b kept (s ∷ kept)) (after_stands object (s ∷ line)).contents) (sym e) (record {
        follows = (answered object log course s line beside tells.0 tells.1 tells.2 replays.0.reply, rest.follows);
        contents_are = rest.contents_are;
        log_is = rest.log_is;
      }))
      (cases_Bool c)

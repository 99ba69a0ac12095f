-- A caller's lines, one after the other.
use Rattle.std.proofs.Common.{◌≡◌, ◌∙◌, ℕ, ◌+◌, ◌<◌, ◌≤◌, [], ◌∷◌, ◌++◌}
use Rattle.std.proofs.Common.{suc, Bool, true, false, cond, eqb, eq-eqb, ne_eqb, List, append-nil, append_assoc}
use Rattle.std.proofs.Common.{drop, get_or, length, length-append, map, sym, ap, subst, arith, slice_index, vec_capacity}
use Rattle.std.proofs.Math.Seq.{drop-cons}
use Rattle.std.proofs.lemmas.List.{length-map}
use Rattle.std.proofs.lemmas.List.Sums.{count_by-le-length, length-filter, sum_by-cons}
use mathlib.Core.List.{map-append}
use Rattle.big_atomic.proofs.Sharing.{ready_quiet}
use Rattle.big_atomic.specs.Calls.{IsReleased}
use Rattle.big_atomic.specs.Ready.{IsReady}
use Rattle.call_script.specs.Holding.{MayTurn, holds_from}
use Rattle.seat_history.specs.declared.call.Call.TheVariants.{Release}
use Rattle.seat_history.specs.declared.entry.Entry.{Entry}
use Rattle.seat_history.specs.declared.reply.Reply.{Reply}
use Rattle.seat_history.specs.declared.reply.Reply.TheVariants.{Done}
use Rattle.step_rules.specs.Lawful.{entry_of}
use Rattle.step_rules.specs.Records.{removes_of}
use Rattle.step_rules.specs.SeatData.{ObjectData, SeatData, holds_record}
use Rattle.step_rules.specs.Views.{number}
use Rattle.step_rules.specs.declared.view.Stand.{Stand}
use Rattle.tally_core.specs.Calls.{CanMake, HasMade}
use Rattle.tally_core.specs.Driving.{leaves}
use Rattle.tally_core.specs.Workers.{Caller, HasCome, HasRun, entries_of, lines_by, removes_in, replies_of}

pub lines_own : (x : ℕ) (line : Entry) (rest : List Entry) → line.caller ≡ x → lines_by x (line ∷ rest) ≡ line ∷ lines_by x rest
lines_own x line rest e = ap (λ b. cond b (line ∷ lines_by x rest) (lines_by x rest)) (eq-eqb line.caller x e)

pub lines_past : (x : ℕ) (line : Entry) (rest : List Entry) → (line.caller ≡ x → ⊥) → lines_by x (line ∷ rest) ≡ lines_by x rest
lines_past x line rest other = ap (λ b. cond b (line ∷ lines_by x rest) (lines_by x rest)) (ne_eqb line.caller x other)

-- the next line and those behind it
pub drop_one : (lines : List Entry) (i : ℕ) (d : Entry) → i < length lines → drop i lines ≡ get_or lines i d ∷ drop (i + 1) lines
drop_one lines i d l = let next : suc i ≡ i + 1 = omega arith in drop-cons lines i d l ∙ ap (λ n. get_or lines i d ∷ drop n lines) next

-- a caller that came to a line has that line before it
pub come_to : {shared : ObjectData} {lines : List Entry} {x : ℕ} {caller : Caller} (i : ℕ) (d : Entry) → i < length lines → HasCome shared lines x (drop i lines) caller
    → HasCome shared lines x (get_or lines i d ∷ drop (i + 1) lines) caller
come_to {shared} {lines} {x} {caller} i d l come = subst (λ (rest : List Entry). HasCome shared lines x rest caller) (drop_one lines i d l) come

-- a caller has no more lines than there are
pub few_by : (x : ℕ) (lines : List Entry) → length (lines_by x lines) ≤ length lines
few_by x lines =
    let own : Entry → Bool = λ line. eqb line.caller x in
    omega (arith, length-filter own lines, count_by-le-length own lines)

-- there are no more replies than lines
pub few_told : {shared : ObjectData} {lines rest : List Entry} {x : ℕ} {caller : Caller} → HasCome shared lines x rest caller → length caller.told.items ≤ length lines
few_told {lines = lines} {rest = rest} {x = x} {caller = caller} c =
    let stands = caller.seat.view.stands in
    let all : length (entries_of stands) + length (lines_by x rest) ≡ length (lines_by x lines) = sym (length-append (entries_of stands) (lines_by x rest)) ∙ ap length c.entries in
    let told : length stands ≡ length caller.told.items = sym (length-map stands (λ (s : Stand). s.reply)) ∙ ap length c.replies_are in
    omega (arith, all, told, length-map stands entry_of, few_by x lines)

-- a line of another caller
pub come_past : {shared : ObjectData} {lines rest : List Entry} {x : ℕ} {line : Entry} {caller : Caller} → HasCome shared lines x (line ∷ rest) caller → (line.caller ≡ x → ⊥)
    → HasCome shared lines x rest caller
come_past {shared} {lines} {rest} {x} {line} {caller} c other =
    let e = lines_past x line rest other in
    let v = caller.seat.view in record {
      ready = c.ready;
      numbers = c.numbers;
      entries = ap (λ l. entries_of v.stands ++ l) (sym e) ∙ c.entries;
      replies_are = c.replies_are;
      room = c.room;
      changes = subst (λ (l : List Entry). length l ≤ v.changes) e c.changes;
      removes = subst (λ (l : List Entry). removes_in l ≤ v.removes) e c.removes;
      may = subst (λ (l : List Entry). MayTurn (holds_record v) (map (λ (z : Entry). z.call) l)) e c.may;
      left = subst (λ (l : List Entry). holds_from (holds_record v) (map (λ (z : Entry). z.call) l) ≡ leaves lines x) e c.left;
      there = c.there.1;
    }

module _ {shared : ObjectData} {lines rest : List Entry} {x : ℕ} {line : Entry} {old : Caller} (c : HasCome shared lines x (line ∷ rest) old) (own : line.caller ≡ x) where
  e : lines_by x (line ∷ rest) ≡ line ∷ lines_by x rest
  e = lines_own x line rest own

  many : length (lines_by x rest) + 1 ≤ old.seat.view.changes
  many = let all : length (line ∷ lines_by x rest) ≤ old.seat.view.changes = subst (λ (l : List Entry). length l ≤ old.seat.view.changes) e c.changes in omega (arith, all)

  enough : removes_of line.call + removes_in (lines_by x rest) ≤ old.seat.view.removes
  enough = subst (λ n. n ≤ old.seat.view.removes) (ap removes_in e ∙ sum_by-cons (λ (z : Entry). removes_of z.call) line (lines_by x rest)) c.removes

  turn : MayTurn (holds_record old.seat.view) (line.call ∷ map (λ (z : Entry). z.call) (lines_by x rest))
  turn = subst (λ (l : List Entry). MayTurn (holds_record old.seat.view) (map (λ (z : Entry). z.call) l)) e c.may

  -- the call of the caller's next line may be made
  pub can_call : CanMake shared line.call old.seat
  can_call = record { ready = c.ready; there = c.there.0; may = turn.0; changes = omega (arith, many); removes = omega (arith, enough) }

  -- and its replies have room
  pub has_room : length old.told.items < vec_capacity old.told
  has_room =
      let all : length (entries_of old.seat.view.stands) + length (line ∷ lines_by x rest) ≡ length (lines_by x lines) =
      sym (length-append (entries_of old.seat.view.stands) (line ∷ lines_by x rest)) ∙ ap length (ap (λ l. entries_of old.seat.view.stands ++ l) (sym e) ∙ c.entries) in
      let told : length old.seat.view.stands ≡ length old.told.items = sym (length-map old.seat.view.stands (λ (s : Stand). s.reply)) ∙ ap length c.replies_are in
      omega (arith, c.room, all, told, length-map old.seat.view.stands entry_of)

  module _ {reply : Reply} (new : Caller) (made : HasMade shared line.call reply old.seat new.seat) (told : new.told.items ≡ old.told.items ++ reply ∷ [])
      (room : vec_capacity new.told ≡ vec_capacity old.told) where
    is_line : entry_of made.stand ≡ line
    is_line = made.entry ∙ (λ i. record { caller = (ap (λ l. slice_index l 0) c.numbers ∙ sym own) i; call = line.call })

    entries_on : entries_of new.seat.view.stands ++ lines_by x rest ≡ lines_by x lines
    entries_on = ap (λ l. entries_of l ++ lines_by x rest) made.more
        ∙ (ap (λ l. l ++ lines_by x rest) (map-append entry_of old.seat.view.stands (made.stand ∷ []))
        ∙ (append_assoc (entries_of old.seat.view.stands) (entry_of made.stand ∷ []) (lines_by x rest)
        ∙ (ap (λ (z : Entry). entries_of old.seat.view.stands ++ z ∷ lines_by x rest) is_line
        ∙ (ap (λ l. entries_of old.seat.view.stands ++ l) (sym e) ∙ c.entries))))

    told_on : replies_of new.seat.view.stands ≡ new.told.items
    told_on = ap replies_of made.more
        ∙ (map-append (λ (s : Stand). s.reply) old.seat.view.stands (made.stand ∷ []) ∙ ((λ i. c.replies_are i ++ made.reply_is i ∷ []) ∙ sym told))

    -- after it
    pub come_on : HasCome shared lines x rest new
    come_on = record {
      ready = made.ready;
      numbers = made.numbers ∙ c.numbers;
      entries = entries_on;
      replies_are = told_on;
      room = subst (λ n. length (lines_by x lines) ≤ n) (sym room) c.room;
      changes = omega (arith, many, made.changes);
      removes = omega (arith, enough, made.removes);
      may = subst (λ b. MayTurn b (map (λ (z : Entry). z.call) (lines_by x rest))) (sym made.holds) turn.1;
      left = ap (λ b. holds_from b (map (λ (z : Entry). z.call) (lines_by x rest))) made.holds
          ∙ subst (λ (l : List Entry). holds_from (holds_record old.seat.view) (map (λ (z : Entry). z.call) l) ≡ leaves lines x) e c.left;
      there = c.there.1;
    }

-- a release
pub released : {shared : ObjectData} (before after : SeatData) → IsReleased before after → IsReady shared after → HasMade shared Release Done before after
released before after is ready = let stood = is.stood in record {
  ready = ready;
  stand = is.stand;
  more = stood.stands;
  entry = λ i. record { caller = stood.by i; call = stood.call i };
  reply_is = stood.reply;
  stock_is = stood.stock;
  seen = stood.seen;
  numbers = stood.numbers;
  first = is.nodes.first;
  changes = let e = stood.changes in omega arith;
  removes = let e = stood.removes in omega arith;
  holds = is.none_held;
}

-- after the last line, where no record is held
pub ended : {shared : ObjectData} {lines : List Entry} {x : ℕ} {caller : Caller} → HasCome shared lines x [] caller → holds_record caller.seat.view ≡ false → HasRun shared lines x caller
ended {shared} {lines} {x} {caller} c none = record {
  done = record { ours = c.ready.ours; law = c.ready.law; quiet = ready_quiet shared caller.seat c.ready none };
  numbers = c.numbers;
  called = record {
    own = caller.seat.view.stands;
    last = [];
    parts = sym (append-nil caller.seat.view.stands);
    entries = sym (append-nil (entries_of caller.seat.view.stands)) ∙ c.entries;
    replies_are = c.replies_are;
    ending = ap (λ b. cond b (record { line = record { caller = x; call = Release }; reply = Done } ∷ []) []) (sym none ∙ c.left);
  };
}

-- and where one is: it is released
pub ended_held : {shared : ObjectData} {lines : List Entry} {x : ℕ} {old new : Caller} → HasCome shared lines x [] old → holds_record old.seat.view ≡ true
    → HasMade shared Release Done old.seat new.seat → new.told.items ≡ old.told.items → HasRun shared lines x new
ended_held {shared} {lines} {x} {old} {new} c held made told =
    let who : number old.seat.view ≡ x = ap (λ l. slice_index l 0) c.numbers in record {
      done = record { ours = made.ready.ours; law = made.ready.law; quiet = ready_quiet shared new.seat made.ready made.holds };
      numbers = made.numbers ∙ c.numbers;
      called = record {
        own = old.seat.view.stands;
        last = made.stand ∷ [];
        parts = made.more;
        entries = sym (append-nil (entries_of old.seat.view.stands)) ∙ c.entries;
        replies_are = c.replies_are ∙ sym told;
        ending = (λ i. record { line = (made.entry ∙ (λ j. record { caller = who j; call = Release })) i; reply = made.reply_is i } ∷ [])
            ∙ ap (λ b. cond b (record { line = record { caller = x; call = Release }; reply = Done } ∷ []) []) (sym held ∙ c.left);
      };
    }

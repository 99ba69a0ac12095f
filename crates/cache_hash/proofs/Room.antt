-- A seat with room is never short of nodes.
use Rattle.std.proofs.Common.{◌≡◌, ◌∙◌, Option, ℕ, ◌+◌, ◌*◌, ◌<◌, ◌≤◌, ◌==◌, suc, Bool, true, false, List, [], ◌∷◌, cond, length, nat_lt, refl, ap, subst, arith, take, drop}
use Rattle.std.proofs.lemmas.List.{length-append, length-drop, length-take}
use Rattle.big_atomic.proofs.Adding.{answered_more, none_after}
use Rattle.big_atomic.specs.Calls.{Answered}
use Rattle.big_atomic.specs.Ready.{IsReady}
use Rattle.big_atomic.specs.Seats.{IsUnused}
use Rattle.cache_hash.specs.Calls.{IsChangeAmong, IsKeyChange, IsUpdated, is_updated, update_call, update_reply}
use Rattle.cache_hash.specs.Room.{CallFits, Fits, HasNodesLeft, HasRoom, IsNeverShort, IsNotFull}
use Rattle.cache_hash.specs.declared.answers.Update.{Update as UpdateAnswer}
use Rattle.seat_history.specs.Contents.{zeros}
use Rattle.seat_history.specs.declared.call.Call.{Call}
use Rattle.seat_history.specs.declared.call.Call.TheVariants.{Insert, Replace, Remove}
use Rattle.seat_history.specs.declared.entry.Entry.{Entry}
use Rattle.seat_history.specs.declared.key.KeyWords.{KeyWords}
use Rattle.seat_history.specs.declared.reply.Reply.{Reply}
use Rattle.step_rules.proofs.Line.Stocks.{stock_unused}
use Rattle.step_rules.proofs.Numbers.Places.{at_below}
use Rattle.step_rules.specs.History.{cell_of}
use Rattle.step_rules.specs.Order.{Needs}
use Rattle.step_rules.specs.Records.{Edit, put, set, out, cost_at, cost_of, edit_at, edited, edit_of, first_records, found_at, is_change_in, records_after, records_from}
use Rattle.step_rules.specs.SeatData.{ObjectData, SeatData}
use Rattle.step_rules.specs.Stock.{stand_cost}
use Rattle.step_rules.specs.Stood.{spent}
use Rattle.step_rules.specs.Views.{stock}
use Rattle.step_rules.specs.declared.plan.Plan.{Plan}
use Rattle.step_rules.specs.declared.view.Stand.{Stand}

either_short : (b : Bool) (xs ys : List (List ℕ)) (n : ℕ) → length xs ≤ n → length ys ≤ n → length (cond b xs ys) ≤ n
either_short true xs ys n l m = l
either_short false xs ys n l m = m

edited_short : (rs : List (List ℕ)) (e : Edit) → length (edited rs e) ≤ length rs + 1
edited_short rs (put new) = omega arith
edited_short rs (set i new) = omega (arith, length-append (take i rs) (new ∷ drop (suc i) rs), length-take i rs, length-drop (suc i) rs)
edited_short rs (out i) = omega (arith, length-append (take i rs) (drop (suc i) rs), length-take i rs, length-drop (suc i) rs)

after_short : (rs : List (List ℕ)) (call : Call) → length (records_after rs call) ≤ length rs + 1
after_short rs call = either_short (is_change_in rs call) (edited rs (edit_of rs call)) rs (length rs + 1) (edited_short rs (edit_of rs call)) (omega arith)

-- a cell has one record more than there are entries at most
records_short : (p : Plan) (k : ℕ) (rs : List (List ℕ)) (es : List Entry) → length (records_from p k rs es) ≤ length rs + length es
records_short p k rs [] = omega arith
records_short p k rs (e ∷ es) =
    let new : List (List ℕ) = cond (cell_of p e.call == k) (records_after rs e.call) rs in
    let short : length new ≤ length rs + 1 = either_short (cell_of p e.call == k) (records_after rs e.call) rs (length rs + 1) (after_short rs e.call) (omega arith) in
    let rest : length (records_from p k new es) ≤ length new + length es = records_short p k new es in
    omega (arith, short, rest)

first_short : (p : Plan) (k : ℕ) → length (first_records p k) ≤ 1
first_short p k = either_short (nat_lt k p.registers) (zeros ∷ []) [] 1 (omega arith) (omega arith)

found_short : (p : Plan) (seen : List Entry) (q : ℕ) (call : Call) → length (found_at p seen q call) ≤ length seen + 1
found_short p seen q call =
    let first = first_short p (cell_of p call) in
    let all : length (found_at p seen q call) ≤ length (first_records p (cell_of p call)) + length (take q seen) = records_short p (cell_of p call) (first_records p (cell_of p call)) (take q seen) in
    omega (arith, first, all, length-take q seen)

insert_need : (rs : List (List ℕ)) (key : KeyWords) (val : List ℕ) (need n : ℕ) → Needs rs (Insert key val) need → need ≤ n + 2
insert_need [] key val need n needs = omega (arith, needs.0 refl)
insert_need (r ∷ rs) key val need n needs = omega (arith, needs.1 (λ e. cc))

out_need : (i need : ℕ) → need ≡ cond (i == 0) 1 i → need ≤ i + 1
out_need i need e = by_test (i == 0) e
  where
    by_test : (b : Bool) → need ≡ cond b 1 i → need ≤ i + 1
    by_test true q = omega (arith, q)
    by_test false q = omega (arith, q)

-- a change of so many records needs no more than two beside them
most_needed : (rs : List (List ℕ)) (call : Call) (need n : ℕ) → length rs ≤ n + 1 → Needs rs call need → need ≤ n + 2
most_needed rs (Insert key val) need n short needs = insert_need rs key val need n needs
most_needed rs (Replace key old new) need n short needs = let below = at_below rs needs.0 needs.1.rec needs.1.at in omega (arith, needs.2, below, short)
most_needed rs (Remove key) need n short needs = let below = at_below rs needs.0 needs.1.rec needs.1.at in omega (arith, out_need needs.0 need needs.2, below, short)
most_needed rs _ need n short needs = omega (arith, needs)

-- whatever the call may have been to make
pub no_change_is_full : {due : Call → Type 0} (shared : ObjectData) (call : Call) (reply : Reply) (changed : Bool) (before after : SeatData) → HasRoom shared.plan → IsReady shared before
    → HasNodesLeft shared before → IsChangeAmong due call reply changed before after → IsNotFull reply
no_change_is_full shared call reply changed before after room ready nodes e need free is =
    let short : stock before.view < 4 * shared.plan.seats + need = subst (λ (p : Plan). stock before.view < 4 * p.seats + need) ready.ours.plan (e.short need free is) in
    let few : need ≤ length after.view.seen + 2 = most_needed (found_at after.view.plan after.view.seen e.answered.stand.place call) call need (length after.view.seen)
    (found_short after.view.plan after.view.seen e.answered.stand.place call) (e.full need free is).1.needs in
    let most : length after.view.seen ≤ shared.plan.seats * shared.plan.changes =
    subst (λ (p : Plan). length after.view.seen ≤ p.seats * p.changes) (e.answered.stood.plan ∙ ready.ours.plan) e.answered.stood.within in
    omega (arith, short, few, most, nodes, room)

pub no_call_is_full : (shared : ObjectData) (call : Call) (reply : Reply) (changed : Bool) (before after : SeatData) → HasRoom shared.plan → IsReady shared before → HasNodesLeft shared before
    → IsKeyChange call reply changed before after → IsNotFull reply
no_call_is_full shared call = no_change_is_full {due = λ other. other ≡ call} shared call

cost_one : (n : ℕ) (e : Edit) → cost_of n e ≤ 1
cost_one n (put new) = by_test (n == 0) where
  by_test : (b : Bool) → cond b 0 1 ≤ 1
  by_test true = omega arith
  by_test false = omega arith
cost_one n (set i new) = omega arith
cost_one n (out i) = omega arith

cost_spent : (b : Bool) (x : ℕ) → x ≤ 1 → cond b x 0 ≤ cond b 1 0
cost_spent true x l = l
cost_spent false x l = omega arith

-- a stand costs a node at most, and that only where it spends a change
costs_least : (p : Plan) (seen : List Entry) (s : Stand) → stand_cost p seen s ≤ spent s
costs_least p seen s = cost_spent s.changes (cost_at p seen s.place s.call) (cost_one (length (found_at p seen s.place s.call)) (edit_at p seen s.place s.call))

pub nodes_stay_left : (shared : ObjectData) (cell : ℕ) (asked : Call) (told : Reply) (before after : SeatData) → IsReady shared before → IsReady shared after → HasNodesLeft shared before
    → Answered cell asked told before after → HasNodesLeft shared after
nodes_stay_left shared cell asked told before after was_ready ready was a =
    let cost = costs_least after.view.plan after.view.seen a.stand in
    let long = was_ready.law.long in
    let long_after = ready.law.long in
    let idle : length before.holding ≡ 0 = ap (length {A = ℕ}) was_ready.idle in
    let idle_after : length after.holding ≡ 0 = ap (length {A = ℕ}) ready.idle in
    let even = a.nodes.even in
    let spends = a.stood.changes in
    omega (arith, was, cost, long, long_after, idle, idle_after, even, spends)

pub unused_has_nodes : (shared : ObjectData) (seat : SeatData) → IsUnused shared seat → HasNodesLeft shared seat
unused_has_nodes shared seat u =
    let all : stock seat.view ≡ seat.view.plan.share * length seat.view.numbers =
    stock_unused seat.view.plan (length seat.view.numbers) seat.view.seen seat.view.stands (stock seat.view) seat.view.removes u.stands u.ready.law.sound.stock in
    let one : seat.view.plan.share * length seat.view.numbers ≡ shared.plan.share * 1 = λ i. (u.ready.ours.plan i).share * u.one i in
    let changes = u.changes in
    omega (arith, all, one, changes)

pub unused_is_never_short : (shared : ObjectData) (seat : SeatData) → HasRoom shared.plan → IsUnused shared seat → IsNeverShort shared seat
unused_is_never_short shared seat room u = record { ready = u.ready; none_held = u.none_held; room = room; nodes = unused_has_nodes shared seat u }

spent_one : (s : Stand) → spent s ≤ 1
spent_one s = by_test s.changes
  where
    by_test : (b : Bool) → cond b 1 0 ≤ 1
    by_test true = omega arith
    by_test false = omega arith

-- whatever the call may have been to make
fits_among : {due : Call → Type 0} (shared : ObjectData) (call : Call) (reply : Reply) (changed : Bool) (before after : SeatData) → IsNeverShort shared before
    → IsReady shared after → IsChangeAmong due call reply changed before after → CallFits shared reply before after
fits_among shared call reply changed before after fits ready e =
    let a = e.answered in
    let spends = a.stood.changes in
    let most = spent_one a.stand in record {
      not_full = no_change_is_full shared call reply changed before after fits.room fits.ready fits.nodes e;
      never_short = record {
        ready = ready;
        none_held = none_after e.hold fits.none_held;
        room = fits.room;
        nodes = nodes_stay_left shared _ call reply before after fits.ready ready fits.nodes a;
      };
      spends = omega (arith, spends, most);
      stays = (answered_more a).stays;
    }

pub change_fits : (shared : ObjectData) (call : Call) (reply : Reply) (changed : Bool) (before after : SeatData) → IsNeverShort shared before → IsReady shared after
    → IsKeyChange call reply changed before after → CallFits shared reply before after
change_fits shared call = fits_among {due = λ other. other ≡ call} shared call

pub update_fits : {gives : Option (List ℕ) → List ℕ → Type 0} (shared : ObjectData) (key : KeyWords) (answer : UpdateAnswer) (before after : SeatData) → IsNeverShort shared before
    → IsReady shared after → IsUpdated key gives answer before after → Fits shared answer before after
update_fits shared key answer before after fits ready e =
    let f = fits_among shared (update_call key e.found e.val) (update_reply answer) (is_updated e.val answer) before after fits ready e.change in record {
      not_full = λ need free is. f.not_full need free (ap update_reply is);
      never_short = f.never_short;
      spends = f.spends;
      stays = f.stays;
    }

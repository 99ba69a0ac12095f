-- What each call puts in, and what the closed table has of all.
use Rattle.std.proofs.Common.{◌≡◌, ◌∙◌, ℕ, ◌+◌, ◌^◌, ◌<◌, true, false, List, [], ◌∷◌, ◌++◌, All, Option, Some, None, cond, refl, sym, ap, subst, arith, length, slice_index_or}
use Rattle.std.specs.List.{remove}
use Rattle.std.proofs.lemmas.Bool.Decides.{nat_tests}
use Rattle.std.proofs.lemmas.List.Elements.{All-head, All-tail}
use Rattle.std.proofs.lemmas.List.Sums.{sum_by_push}
use Rattle.big_atomic.proofs.Adding.{answered_more, none_after}
use Rattle.big_atomic.proofs.Counting.{count_push}
use Rattle.big_atomic.proofs.SeatNumbers.{built_numbers, split_numbers}
use Rattle.big_atomic.proofs.Sharing.{ready_quiet}
use Rattle.big_atomic.proofs.Sums.{add_up_append, add_up_push}
use Rattle.big_atomic.specs.Ready.{IsReady}
use Rattle.big_atomic.specs.Registers.{end_of}
use Rattle.big_atomic.specs.Seats.{AreSplit, IsQuietOf, IsUnused, all_numbers, all_stands}
use Rattle.cache_hash.proofs.KeySums.{key_sums}
use Rattle.cache_hash.proofs.Room.{nodes_stay_left, unused_is_never_short, update_fits}
use Rattle.cache_hash.proofs.UpdateSums.{update_adds}
use Rattle.cache_hash.specs.Calls.{IsInserted, IsUpdated}
use Rattle.cache_hash.specs.Room.{HasRoom, IsNeverShort}
use Rattle.cache_hash.specs.Sums.{AddToKey, AddsToKey, IsSum, PutsMore, amount_added}
use Rattle.cache_hash.specs.declared.answers.Insert.TheVariants.{Done as Inserted}
use Rattle.cache_hash.specs.declared.answers.Update.TheVariants.{Done as Updated}
use Rattle.seat_history.specs.Pairs.{ArePairsOf, Pairs}
use Rattle.seat_history.specs.declared.call.Call.TheVariants.{Insert}
use Rattle.seat_history.specs.declared.reply.Reply.TheVariants.{Done}
use Rattle.step_rules.proofs.Numbers.Sets.{length-count_up}
use Rattle.step_rules.specs.Closing.{ClosedData, IsClosed}
use Rattle.step_rules.specs.SeatData.{IsSeat, ObjectData, SeatData}
use Rattle.step_rules.specs.Starts.{IsBuilt}
use Rattle.step_rules.specs.Views.{count_up}
use Rattle.step_rules.specs.declared.plan.Plan.{Plan}
use Rattle.step_rules.specs.declared.view.Stand.{Stand}
use Rattle.stock_room.specs.Shelf.{shelf}
use Rattle.stock_room.specs.Stock.{AreKept, HasStocked, IsKept, Reserves, Tells, amount_of, in_stock, is_item, reserved, stock_listed, times_listed}
use Rattle.stock_room.specs.declared.orders.Lot.{Lot}

-- the first of the seats of a new object, and the rest
pub first_taken : {shared : ObjectData} {seat : SeatData} {p : Plan} (seats rest : List SeatData) (first : SeatData)
    → IsBuilt p shared seat → AreSplit shared seat seats → 0 < p.seats → first ≡ slice_index_or seats 0 first → rest ≡ remove seats 0
    → (first.first ≡ true) × (first.view.numbers ++ all_numbers rest ≡ count_up 0 p.seats)
first_taken [] rest first built split some is left =
    let none = split.count ∙ (ap length (built_numbers built) ∙ length-count_up 0 _) in absurd (omega (arith, none, some))
first_taken (s ∷ later) rest first built split some is left = (
  ap (λ (x : SeatData). x.first) is ∙ (split.first s later refl ∙ ap (λ (x : SeatData). x.first) built.seat),
  (λ i. (is i).view.numbers ++ all_numbers (left i)) ∙ split_numbers built split,
)

quiet_of : (shared : ObjectData) (seat : SeatData) → IsNeverShort shared seat → IsQuietOf shared seat
quiet_of shared seat is = record { ours = is.ready.ours; quiet = ready_quiet shared seat is.ready is.none_held }

-- a seat before its first call
pub none_put : (shared : ObjectData) (seat : SeatData) → HasRoom shared.plan → IsUnused shared seat → HasStocked shared [] seat
none_put shared seat room u = let is = unused_is_never_short shared seat room u in record {
  never_short = is;
  quiet = quiet_of shared seat is;
  put = λ k. subst (λ stands. AddToKey shelf Tells k stands (0, 0)) (sym u.stands) refl;
}

-- what a stand puts in at a number, and what an insert of a lot does
abbrev Puts : ℕ → ℕ × ℕ → Stand → Type 0
Puts k put s = AddsToKey shelf Tells k put s.call s.reply

abbrev one : ℕ → Lot → ℕ × ℕ
one k lot = (amount_of k lot, cond {A = ℕ} (is_item k lot) 1 0)

puts_one : (k : ℕ) (lot : Lot) (val : List ℕ) → in_stock val ≡ lot.amount → reserved val ≡ 0 → lot.amount < 2 ^ 64
    → AddsToKey shelf Tells k (one k lot) (Insert lot.item val) Done
puts_one k lot val stock none small = grind (arith, nat_tests)

-- a lot was put in
pub put_more : {shared : ObjectData} {before after : SeatData} {val : List ℕ} (lots : List Lot) (lot : Lot) → IsReady shared after
    → IsInserted lot.item val Inserted before after → in_stock val ≡ lot.amount → reserved val ≡ 0 → lot.amount < 2 ^ 64
    → HasStocked shared lots before → HasStocked shared (lots ++ lot ∷ []) after
put_more {shared} {before} {after} {val} lots lot ready is stock none small was =
    let answered = is.change.answered in
    let more = answered_more answered in
    let short : IsNeverShort shared after = record {
      ready = ready;
      none_held = none_after is.change.hold was.never_short.none_held;
      room = was.never_short.room;
      nodes = nodes_stay_left shared _ (Insert lot.item val) Done before after was.never_short.ready ready was.never_short.nodes answered;
    } in record {
      never_short = short;
      quiet = quiet_of shared after short;
      put = λ k. rw (more.more, sum_by_push (amount_of k) lots lot, count_push (is_item k) lots lot)
          (add_up_push shelf (Puts k) before.view.stands more.stand (stock_listed k lots, times_listed k lots) (one k lot) (was.put k)
          (rw (more.call, more.reply) (puts_one k lot val stock none small)));
    }

puts_none : (amount : ℕ) (there : Option (List ℕ)) (val : List ℕ) → Reserves amount there val → PutsMore shelf Tells (λ _. (0, 0)) there val
puts_none amount None val r = omega (arith, r.0, r.1)
puts_none amount (Some old) val r = λ put tells. grind arith

none_added : (k : ℕ) (order : Lot) (there : Option (List ℕ)) → amount_added shelf (λ _. (0, 0)) order.item (Updated there) k ≡ (0, 0)
none_added k order there = elim (is_item k order) as (λ b. ◌≡◌ {A = ℕ × ℕ} (cond b (0, 0) (0, 0)) (0, 0)) [ true ↦ refl | false ↦ refl ]

-- an order was worked through
pub put_none : {shared : ObjectData} {before after : SeatData} {gives : Option (List ℕ) → List ℕ → Type 0} (order : Lot) (there : Option (List ℕ))
    → IsReady shared after → IsUpdated order.item gives (Updated there) before after
    → ((there : Option (List ℕ)) (val : List ℕ) → gives there val → Reserves order.amount there val) → HasStocked shared [] before → HasStocked shared [] after
put_none {shared} {before} {after} order there ready is by was =
    let answer = Updated there in
    let short = (update_fits shared order.item answer before after was.never_short ready is).never_short in record {
      never_short = short;
      quiet = quiet_of shared after short;
      put = λ k. subst (λ n. AddToKey shelf Tells k after.view.stands (shelf.add (0, 0) n)) (none_added k order there) (update_adds shelf Tells
          (λ _. (0, 0)) k order.item answer before after (0, 0) (λ old val gives. puts_none order.amount old val (by old val gives)) is (was.put k));
    }

none_by_all : (shared : ObjectData) (k : ℕ) (seats : List SeatData) → All (HasStocked shared []) seats → AddToKey shelf Tells k (all_stands seats) (0, 0)
none_by_all shared k [] all = refl
none_by_all shared k (s ∷ r) all = add_up_append shelf (Puts k) s.view.stands (all_stands r) (0, 0) (0, 0)
    ((All-head (HasStocked shared []) s r all).put k) (none_by_all shared k r (All-tail (HasStocked shared []) s r all))

kept_there : (there : Option (List ℕ)) (stock times : ℕ) → IsSum shelf Tells there (stock + 0, times + 0) → IsKept there stock times
kept_there None stock times is = let none = ap (λ (p : ℕ × ℕ). p.1) is in omega (arith, none)
kept_there (Some val) stock times is = let tells = is.0 in omega (arith, tells)

pub kept : (shared : ObjectData) (items : List Lot) (keeper : SeatData) (workers : List SeatData) (seat : SeatData) (closed : ClosedData) (pairs : Pairs)
    → HasStocked shared items keeper → All (HasStocked shared []) workers → seat.view.stands ≡ keeper.view.stands ++ all_stands workers
    → IsSeat seat → IsClosed seat closed → ArePairsOf (end_of closed).values pairs → AreKept items pairs
kept shared items keeper workers seat closed pairs stocked all stands law is are k =
    let put = add_up_append shelf (Puts k) keeper.view.stands (all_stands workers) _ (0, 0) (stocked.put k) (none_by_all shared k workers all) in
    let sum = key_sums shelf Tells k seat closed _ law is (rw (is.stands, stands) put) in
    rw (are.whole k) (kept_there ((end_of closed).values k) (stock_listed k items) (times_listed k items) sum)

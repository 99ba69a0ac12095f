-- What each call adds to its seat, and to what its user counts.
use Rattle.std.proofs.Common.{◌≡◌, ℕ, ◌+◌, ◌%◌, ◌^◌, Bool, false, List, [], ◌∷◌, ◌++◌, All, cond, count_by, is_some, refl, eq-eqb, sym, ap, subst, ◌∙◌, arith}
use Rattle.std.proofs.lemmas.List.Elements.{All-push}
use Rattle.big_atomic.proofs.Counting.{count_append, count_push}
use Rattle.big_atomic.specs.Calls.{Answered, HoldStays, IsLooked, IsReleased, says_yes, swap_reply}
use Rattle.big_atomic.specs.Registers.{tells_counted}
use Rattle.big_atomic.specs.declared.answers.Swap.{Swap as Answer}
use Rattle.big_atomic.specs.declared.answers.Swap.TheVariants.{Yes as SwapYes, No as SwapNo, Full as SwapFull}
use Rattle.big_atomic.specs.Stands.{Counts, StandsMore, by_call}
use Rattle.seat_history.specs.declared.call.Call.{Call}
use Rattle.seat_history.specs.declared.call.Call.TheVariants.{Look, Release, Swap}
use Rattle.seat_history.specs.declared.reply.Reply.{Reply}
use Rattle.seat_history.specs.declared.reply.Reply.TheVariants.{Words, Done}
use Rattle.step_rules.specs.SeatData.{SeatData, holds_record}
use Rattle.step_rules.specs.declared.view.Stand.{Stand}

pub answered_more : {k : ℕ} {asked : Call} {told : Reply} {before after : SeatData} → Answered k asked told before after → StandsMore asked told before after
answered_more a = record {
  stand = a.stand;
  more = a.stood.stands;
  call = a.stood.call;
  reply = a.stood.reply;
  stays = record { numbers = a.stood.numbers; first = a.nodes.first };
}

pub looked_more : {words : List ℕ} {before after : SeatData} → IsLooked words before after → StandsMore Look (Words words) before after
looked_more a = record {
  stand = a.stand;
  more = a.stood.1.stands;
  call = a.stood.1.call;
  reply = a.stood.1.reply;
  stays = record { numbers = a.stood.1.numbers; first = a.nodes.first };
}

pub released_more : {before after : SeatData} → IsReleased before after → StandsMore Release Done before after
released_more a = record {
  stand = a.stand;
  more = a.stood.stands;
  call = a.stood.call;
  reply = a.stood.reply;
  stays = record { numbers = a.stood.numbers; first = a.nodes.first };
}

-- a swap counts its register where its answer is Yes
pub yes_counts : (reg : ℕ) (old new : List ℕ) (answer : Answer) → tells_counted reg (Swap reg old new) (swap_reply answer) ≡ says_yes answer
yes_counts reg old new SwapYes = eq-eqb reg reg refl
yes_counts reg old new SwapNo = refl
yes_counts reg old new (SwapFull need free) = refl

-- a seat that holds nothing holds nothing after a call that leaves its hold
pub none_after : {u v : SeatData} → HoldStays u v → holds_record u.view ≡ false → holds_record v.view ≡ false
none_after stays none = ap (λ o. is_some o) stays.held ∙ none

mod_sum : (a b c y : ℕ) → y ≡ (a % 2 ^ 64 + b) % 2 ^ 64 → c ≡ a + b → y ≡ c % 2 ^ 64
mod_sum a b c y e s = omega arith

mod_both : (a b c y : ℕ) → y ≡ (a % 2 ^ 64 + b % 2 ^ 64) % 2 ^ 64 → c ≡ a + b → y ≡ c % 2 ^ 64
mod_both a b c y e s = omega arith

mod_same : (n a : ℕ) → n ≡ a % 2 ^ 64 → (n + 0) % 2 ^ 64 ≡ n
mod_same n a e = omega arith

-- a count goes on by the test of the stand
pub counts_push : (test : Stand → Bool) (stands : List Stand) {n : ℕ} (news : List Stand) (s : Stand) (b : Bool) → Counts test stands n → news ≡ stands ++ s ∷ [] → test s ≡ b
    → Counts test news ((n + cond b 1 0) % 2 ^ 64)
counts_push test stands {n} news s b count more is = mod_sum (count_by test stands) (cond b 1 0) (count_by test news) ((n + cond b 1 0) % 2 ^ 64)
    (ap (λ m. (m + cond b 1 0) % 2 ^ 64) count) (ap (count_by test) more ∙ (count_push test stands s ∙ ap (λ t. count_by test stands + cond t 1 0) is))

-- where the stand isn't counted, the number stays
pub counts_stay : (test : Stand → Bool) (stands : List Stand) {n : ℕ} (news : List Stand) (s : Stand) → Counts test stands n → news ≡ stands ++ s ∷ [] → test s ≡ false → Counts test news n
counts_stay test stands {n} news s count more is = subst (Counts test news) (mod_same n (count_by test stands) count) (counts_push test stands news s false count more is)

-- two counts make one
pub counts_both : (test : Stand → Bool) (stands others : List Stand) {n m : ℕ} (news : List Stand) → Counts test stands n → Counts test others m → news ≡ stands ++ others
    → Counts test news ((n + m) % 2 ^ 64)
counts_both test stands others {n} {m} news a b is = mod_both (count_by test stands) (count_by test others) (count_by test news) ((n + m) % 2 ^ 64)
    (λ j. (a j + b j) % 2 ^ 64) (ap (count_by test) is ∙ count_append test stands others)

module _ {asked : Call} {told : Reply} {before after : SeatData} (m : StandsMore asked told before after) where
  test_is : (test : Call → Reply → Bool) (b : Bool) → test asked told ≡ b → by_call test m.stand ≡ b
  test_is test b e = (λ j. test (m.call j) (m.reply j)) ∙ e

  -- a count by calls and replies goes on with the call
  pub counts_more : (test : Call → Reply → Bool) (b : Bool) {n : ℕ} → Counts (by_call test) before.view.stands n → test asked told ≡ b
      → Counts (by_call test) after.view.stands ((n + cond b 1 0) % 2 ^ 64)
  counts_more test b count e = counts_push (by_call test) before.view.stands after.view.stands m.stand b count m.more (test_is test b e)

  -- a call that isn't counted leaves it
  pub counts_same : (test : Call → Reply → Bool) {n : ℕ} → Counts (by_call test) before.view.stands n → test asked told ≡ false → Counts (by_call test) after.view.stands n
  counts_same test count e = counts_stay (by_call test) before.view.stands after.view.stands m.stand count m.more (test_is test false e)

  -- what holds of all calls so far, and of this one
  pub all_more : (P : Call → Type 0) → All (λ (s : Stand). P s.call) before.view.stands → P asked → All (λ (s : Stand). P s.call) after.view.stands
  all_more P all one = subst (All (λ (s : Stand). P s.call)) (sym m.more) (All-push (λ (s : Stand). P s.call) before.view.stands m.stand all (subst P (sym m.call) one))

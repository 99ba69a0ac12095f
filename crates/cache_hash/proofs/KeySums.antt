-- A key that is added to by inserts and replaces has the sum of what they added; counting is adding ones.
use Rattle.std.proofs.Common.{◌≡◌, ◌≢◌, ◌∙◌, ℕ, ◌+◌, ◌*◌, ◌%◌, ◌^◌, ◌<◌, Bool, true, false, List, [], ◌∷◌, All, Option, Some, None}
use Rattle.std.proofs.Common.{cond, length, refl, sym, ap, subst, arith, ⊎_elim, eqb, eq-eqb, ne_eqb}
use Rattle.std.proofs.lemmas.Bool.{cases_eq, eqb-true}
use Rattle.std.proofs.lemmas.List.Elements.{All-append, All-head, All-nil, All-tail}
use Rattle.std.specs.Cmp.Lexicographic.{same_text}
use Rattle.std.specs.Option.{option_map_or}
use Rattle.big_atomic.proofs.Counting.{count_append, count_cons}
use Rattle.big_atomic.proofs.Sums.{EachAdds, line_adds}
use Rattle.big_atomic.specs.Registers.{end_of}
use Rattle.big_atomic.specs.Seats.{all_stands}
use Rattle.big_atomic.specs.Stands.{by_call}
use Rattle.big_atomic.specs.Sums.{AddUpTo, Adding}
use Rattle.cache_hash.specs.Sums.{AddsToKey, CountsKeys, IsCount, IsSum, OnlyCount, tells_key, times_counted}
use Rattle.seat_history.specs.Contents.{Contents, set_at}
use Rattle.seat_history.specs.Key.{key_number}
use Rattle.seat_history.specs.Object.{Object, object_after}
use Rattle.seat_history.specs.Step.{is_same, replace_reply, reply_to}
use Rattle.seat_history.specs.declared.call.Call.{Call}
use Rattle.seat_history.specs.declared.call.Call.TheVariants.{Insert, Replace, Remove}
use Rattle.seat_history.specs.declared.entry.Entry.{Entry}
use Rattle.seat_history.specs.declared.key.KeyWords.{KeyWords}
use Rattle.seat_history.specs.declared.reply.Reply.{Reply}
use Rattle.seat_history.specs.declared.reply.Reply.TheVariants.{Absent, Done, Found, Full, Gone, Present, Yes}
use Rattle.step_rules.specs.Closing.{ClosedData, IsClosed}
use Rattle.step_rules.specs.Lawful.{IsReply, is_full}
use Rattle.step_rules.specs.SeatData.{IsSeat, SeatData}
use Rattle.step_rules.specs.declared.plan.Plan.{Plan}
use Rattle.step_rules.specs.declared.view.Stand.{Stand}

module _ {V : Type 0} (A : Adding V) (says : List ℕ → V → Type 0) (k : ℕ) where
  full_adds : (x : V) (call : Call) (need free : ℕ) → AddsToKey A says k x call (Full need free) → x ≡ A.none
  full_adds x (Insert key val) need free adds = adds
  full_adds x (Replace key old new) need free adds = adds
  full_adds x (Remove key) need free adds = adds
  full_adds x _ need free adds = adds

  same : (there : Option (List ℕ)) (sum x : V) → x ≡ A.none → IsSum A says there sum → IsSum A says there (A.add sum x)
  same there sum x none is = subst (IsSum A says there) (sym (ap (A.add sum) none ∙ (A.swapped sum A.none ∙ A.none_left sum))) is

  -- a value is put at a key
  put : (values : ℕ → Option (List ℕ)) (at : ℕ) (new : Option (List ℕ)) (sum x : V) → (at ≡ k → IsSum A says new (A.add sum x)) → (at ≢ k → x ≡ A.none) → IsSum A says (values k) sum
      → IsSum A says (set_at values at new k) (A.add sum x)
  put values at new sum x here there is = ⊎_elim
      (λ e. subst (λ (o : Option (List ℕ)). IsSum A says o (A.add sum x)) (sym (ap (λ b. cond b new (values k)) (eq-eqb at k e))) (here e))
      (λ ne. subst (λ (o : Option (List ℕ)). IsSum A says o (A.add sum x)) (sym (ap (λ b. cond b new (values k)) (ne_eqb at k ne))) (same (values k) sum x (there ne) is))
      (cases_eq at k)

  inserted : (values : ℕ → Option (List ℕ)) (key : KeyWords) (val : List ℕ) (sum x : V) (there : Option (List ℕ)) → values (key_number key) ≡ there
      → AddsToKey A says k x (Insert key val) (option_map_or Present there Done) → IsSum A says (values k) sum
      → IsSum A says (option_map_or (λ _. values) there (set_at values (key_number key) (Some val)) k) (A.add sum x)
  inserted values key val sum x None e adds is = put values (key_number key) (Some val) sum x
      (λ at. let nothing : sum ≡ A.none = subst (λ (o : Option (List ℕ)). IsSum A says o sum) (ap values (sym at) ∙ e) is in
      subst (says val) (sym (ap (λ a. A.add a x) nothing ∙ A.none_left x)) (adds.0 at)) adds.1 is
  inserted values key val sum x (Some v) e adds is = same (values k) sum x adds is

  replaced_there : (values : ℕ → Option (List ℕ)) (key : KeyWords) (old new v : List ℕ) (sum x : V) → values (key_number key) ≡ Some v → (b : Bool) → is_same v old ≡ b
      → AddsToKey A says k x (Replace key old new) (cond b Yes (Found v)) → IsSum A says (values k) sum
      → IsSum A says (cond b (set_at values (key_number key) (Some new)) values k) (A.add sum x)
  replaced_there values key old new v sum x e true same_words adds is = put values (key_number key) (Some new) sum x
      (λ at. adds.0 at sum (subst (λ (l : List ℕ). says l sum) (same_text v old (sym same_words)) (subst (λ (o : Option (List ℕ)). IsSum A says o sum) (ap values (sym at) ∙ e) is))) adds.1 is
  replaced_there values key old new v sum x e false same_words adds is = same (values k) sum x adds is

  replaced : (values : ℕ → Option (List ℕ)) (key : KeyWords) (old new : List ℕ) (sum x : V) (there : Option (List ℕ)) → values (key_number key) ≡ there
      → AddsToKey A says k x (Replace key old new) (replace_reply there old) → IsSum A says (values k) sum
      → IsSum A says (cond (option_map_or (λ found. is_same found old) there false) (set_at values (key_number key) (Some new)) values k) (A.add sum x)
  replaced values key old new sum x None e adds is = same (values k) sum x adds is
  replaced values key old new sum x (Some v) e adds is = replaced_there values key old new v sum x e (is_same v old) refl adds is

  removed : (values : ℕ → Option (List ℕ)) (key : KeyWords) (sum x : V) (there : Option (List ℕ)) → values (key_number key) ≡ there
      → AddsToKey A says k x (Remove key) (option_map_or Gone there Absent) → IsSum A says (values k) sum → IsSum A says (set_at values (key_number key) None k) (A.add sum x)
  removed values key sum x None e adds is = put values (key_number key) None sum x
      (λ at. let nothing : sum ≡ A.none = subst (λ (o : Option (List ℕ)). IsSum A says o sum) (ap values (sym at) ∙ e) is in
      ap (A.add sum) adds ∙ (A.swapped sum A.none ∙ (A.none_left sum ∙ nothing))) (λ ne. adds) is
  removed values key sum x (Some v) e adds is = put values (key_number key) None sum x (λ at. absurd (adds.0 at)) (λ ne. adds.1) is

  made : (by : ℕ) (o : Object) (call : Call) (sum x : V) → AddsToKey A says k x call (reply_to o.contents (o.held by) call) → IsSum A says (o.contents.values k) sum
      → IsSum A says ((object_after o (record { caller = by; call = call })).contents.values k) (A.add sum x)
  made by o (Insert key val) sum x adds is = inserted o.contents.values key val sum x (o.contents.values (key_number key)) refl adds is
  made by o (Replace key old new) sum x adds is = replaced o.contents.values key old new sum x (o.contents.values (key_number key)) refl adds is
  made by o (Remove key) sum x adds is = removed o.contents.values key sum x (o.contents.values (key_number key)) refl adds is
  made by o _ sum x adds is = same (o.contents.values k) sum x adds is

  answered : (p : Plan) (stock by : ℕ) (o : Object) (log : List Entry) (call : Call) (reply : Reply) (sum x : V) → AddsToKey A says k x call reply
      → IsReply p stock o.contents log (o.held by) call reply → IsSum A says (o.contents.values k) sum
      → IsSum A says ((cond (is_full reply) o (object_after o (record { caller = by; call = call }))).contents.values k) (A.add sum x)
  answered p stock by o log call (Full need free) sum x adds right is = same (o.contents.values k) sum x (full_adds x call need free adds) is
  answered p stock by o log call reply sum x adds right is = made by o call sum x (subst (AddsToKey A says k x call) (sym right) adds) is

  abbrev Adds : V → Stand → Type 0
  Adds x s = AddsToKey A says k x s.call s.reply

  abbrev Says : V → Object → Type 0
  Says sum o = IsSum A says (o.contents.values k) sum

  each : (p : Plan) → EachAdds A Adds p Says
  each p sum x o log s adds is_answered is = answered p s.stock s.by o log s.call s.reply sum x adds is_answered.reply is

  pub key_sums : (seat : SeatData) (closed : ClosedData) (sum : V) → IsSeat seat → IsClosed seat closed
      → AddUpTo A (λ x s. AddsToKey A says k x s.call s.reply) closed.stands sum → IsSum A says ((end_of closed).values k) sum
  key_sums seat closed sum law is up =
      let all = line_adds A Adds seat closed Says A.none sum law is (each closed.plan) up refl in
      subst (λ (z : Contents × V). IsSum A says (z.0.values k) z.1) (λ i. (is.line.contents i, A.none_left sum i)) all

-- counts are added up
abbrev pub counts : Adding ℕ
counts = record { none = 0; add = λ a b. a + b; none_left = λ a. omega arith; swapped = λ a b. omega arith; grouped = λ a b c. omega arith }

abbrev one_if : Bool → ℕ
one_if b = cond b 1 0

-- the value says that something was counted, and how much
abbrev says_count : (List ℕ → ℕ) → List ℕ → ℕ → Type 0
says_count number val n = (0 < n) × (number val ≡ n % 2 ^ 64)

module _ (number : List ℕ → ℕ) (k : ℕ) where
  by_key : (at : ℕ) (b : Bool) → eqb at k ≡ b → at ≢ k → one_if b ≡ 0
  by_key at true e ne = absurd (ne (eqb-true at k e))
  by_key at false e ne = refl

  by_same : (at : ℕ) → at ≡ k → one_if (eqb at k) ≡ 1
  by_same at e = ap one_if (eq-eqb at k e)

  one_counts : (call : Call) (reply : Reply) → CountsKeys number call → AddsToKey counts (says_count number) k (cond (tells_key k call reply) 1 0) call reply
  one_counts (Insert key val) Done one = (
    λ at. subst (says_count number val) (sym (by_same (key_number key) at)) (omega arith, omega (arith, one)),
    by_key (key_number key) (eqb (key_number key) k) refl,
  )
  one_counts (Insert key val) _ one = refl
  one_counts (Replace key old new) Yes next = (
    λ at a is. subst (λ n. says_count number new (a + n)) (sym (by_same (key_number key) at)) (omega arith, omega (arith, next, is.1)),
    by_key (key_number key) (eqb (key_number key) k) refl,
  )
  one_counts (Replace key old new) _ next = refl
  one_counts (Remove key) reply none = absurd none
  one_counts _ reply none = refl

  counted : (stands : List Stand) → All (λ (s : Stand). CountsKeys number s.call) stands
      → AddUpTo counts (λ x s. AddsToKey counts (says_count number) k x s.call s.reply) stands (times_counted k stands)
  counted [] all = refl
  counted (s ∷ r) all = (
    cond (tells_key k s.call s.reply) 1 0,
    times_counted k r,
    one_counts s.call s.reply (All-head (λ (t : Stand). CountsKeys number t.call) s r all),
    counted r (All-tail (λ (t : Stand). CountsKeys number t.call) s r all),
    count_cons (by_call (tells_key k)) s r,
  )

  is_count : (there : Option (List ℕ)) (n : ℕ) → IsSum counts (says_count number) there n → IsCount number there n
  is_count None n is = is
  is_count (Some val) n is = is

  pub key_counts : (seat : SeatData) (closed : ClosedData) → IsSeat seat → IsClosed seat closed → All (λ (s : Stand). CountsKeys number s.call) closed.stands
      → IsCount number ((end_of closed).values k) (times_counted k closed.stands)
  key_counts seat closed law is all = is_count ((end_of closed).values k) (times_counted k closed.stands)
      (key_sums counts (says_count number) k seat closed (times_counted k closed.stands) law is (counted closed.stands all))

-- the stands of seats each of which has only counted
pub seats_only : (number : List ℕ → ℕ) (seats : List SeatData) → All (λ (s : SeatData). OnlyCount number s.view.stands) seats → OnlyCount number (all_stands seats)
seats_only number [] all = All-nil (λ (s : Stand). CountsKeys number s.call)
seats_only number (one ∷ later) all = All-append (λ (s : Stand). CountsKeys number s.call) one.view.stands (all_stands later)
    (All-head (λ (s : SeatData). OnlyCount number s.view.stands) one later all) (seats_only number later (All-tail (λ (s : SeatData). OnlyCount number s.view.stands) one later all))

-- and of seats each of which has counted the key n times
pub seats_counted : (k n : ℕ) (seats : List SeatData) → All (λ (s : SeatData). times_counted k s.view.stands ≡ n) seats → times_counted k (all_stands seats) ≡ length seats * n
seats_counted k n [] all = omega arith
seats_counted k n (one ∷ later) all =
    let here : times_counted k one.view.stands ≡ n = All-head (λ (s : SeatData). times_counted k s.view.stands ≡ n) one later all in
    let rest : times_counted k (all_stands later) ≡ length later * n = seats_counted k n later (All-tail (λ (s : SeatData). times_counted k s.view.stands ≡ n) one later all) in
    count_append (by_call (tells_key k)) one.view.stands (all_stands later) ∙ omega (arith, here, rest)

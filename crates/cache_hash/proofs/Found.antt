-- How a find is answered.
use Rattle.std.proofs.Common.{◌++◌, ◌<◌, ◌∙◌, ◌≡◌, ◌≢◌, List, None, Option, Some, ap, arith, length, refl, subst, sym, take, ℕ}
use Rattle.std.specs.Option.{option_map_or}
use Rattle.big_atomic.proofs.Answered.{HasEnded, MayEnd, answered_now, goes_of, hold_stays, may_answer, right_at}
use Rattle.big_atomic.proofs.Balance.{nodes_stay}
use Rattle.big_atomic.proofs.Paid.{exchanges-append, scan_loads-append, still_exchanges}
use Rattle.big_atomic.specs.Calling.{AreLooks}
use Rattle.big_atomic.specs.Calls.{HoldStays, IsQuiet}
use Rattle.big_atomic.specs.Reads.{ClaimsAreCaused, IsInlineRead}
use Rattle.big_atomic.specs.Turns.{claim_stores}
use Rattle.cache_hash.specs.Calls.{IsFound, find_reply, value_at as value_here}
use Rattle.cache_hash.specs.Firsts.{MissesFirst}
use Rattle.seat_history.specs.Contents.{Contents}
use Rattle.seat_history.specs.History.{state_at}
use Rattle.seat_history.specs.Key.{key_number}
use Rattle.seat_history.specs.declared.call.Call.TheVariants.{Find}
use Rattle.seat_history.specs.declared.entry.Entry.{Entry}
use Rattle.seat_history.specs.declared.key.KeyWords.{KeyWords}
use Rattle.seat_history.specs.declared.reply.Reply.TheVariants.{Absent, Full, Val}
use Rattle.step_rules.specs.Claims.{HOLD, OWN, WALK}
use Rattle.step_rules.specs.History.{key_cell}
use Rattle.step_rules.specs.Lawful.{IsReply, IsRight, held_by}
use Rattle.step_rules.specs.Records.{records_at, value_in}
use Rattle.step_rules.proofs.Order.RecordsTell.{value_at}
use Rattle.step_rules.specs.SeatData.{IsOf, IsSeat, ObjectData, SeatData}
use Rattle.step_rules.specs.Sound.{Sound}
use Rattle.step_rules.specs.Steps.{MayAnswer, OnlyStepped, stepped}
use Rattle.step_rules.specs.Views.{claim_of, number, reading, stock, stood_view}
use Rattle.step_rules.specs.declared.plan.Plan.{Plan}
use Rattle.step_rules.specs.declared.view.Counted.{Counted}
use Rattle.step_rules.specs.declared.view.Stand.{Stand}
use Rattle.step_rules.specs.declared.view.View.{View}

-- what the cell's records have for the key is the key's value at the end of what is seen
pub value_of_cell : (cell : ℕ) (key : KeyWords) (v : View) (found : Option (List ℕ)) → Sound v → cell ≡ key_cell v.plan (key_number key)
    → value_in (records_at v.plan v.seen cell) (key_number key) ≡ found → value_here v (length v.seen) key ≡ found
value_of_cell cell key v found sound cell_is value =
    let n : ℕ = key_number key in
    sym (value_at v.plan v.seen n (λ i e at. (sound.history.each i e at).there)) ∙ (ap (λ k. value_in (records_at v.plan v.seen k) n) (sym cell_is) ∙ value)

reply_is : (p : Plan) (stock : ℕ) (contents : Contents) (log : List Entry) (held : Option (List ℕ)) (key : KeyWords) (found : Option (List ℕ)) → contents.values (key_number key) ≡ found
    → IsReply p stock contents log held (Find key) (find_reply found)
reply_is p stock contents log held key None e = ap (λ (o : Option (List ℕ)). option_map_or Val o Absent) e
reply_is p stock contents log held key (Some val) e = ap (λ (o : Option (List ℕ)). option_map_or Val o Absent) e

pub never_full : (found : Option (List ℕ)) (need free : ℕ) → find_reply found ≢ Full need free
never_full None need free e = absurd cc
never_full (Some val) need free e = absurd cc

-- a find may be answered, after these steps
pub record MayFind (key : KeyWords) (found : Option (List ℕ)) (steps : List Counted) (before now : SeatData) : Type 0 where
  pub look : ℕ
  pub ends : MayEnd (key_cell before.view.plan (key_number key)) look (length now.view.seen) (Find key) (find_reply found) steps before now
  pub looks : AreLooks steps
  pub same : OnlyStepped before now
  pub retired : now.view.retired ≡ before.view.retired
  pub hold : claim_of HOLD now.view ≡ claim_of HOLD before.view
  pub walk : (claim_of WALK now.view).word ≡ 0
  pub own : (claim_of OWN now.view).word ≡ 0
  pub value : value_here now.view (length now.view.seen) key ≡ found

-- what it is answered with is right
pub find_right : {shared : ObjectData} {key : KeyWords} {found : Option (List ℕ)} (now : SeatData) → IsOf shared now → 0 < shared.plan.buckets
    → value_here now.view (length now.view.seen) key ≡ found
    → IsRight now.view.plan now.view.seen now.view.stands (reading (length now.view.seen) (Find key) (find_reply found) now.view)
find_right {key = key} {found = found} now ours some value = right_at now.view (length now.view.seen) (Find key) (find_reply found) (omega arith)
    (record { there = subst (λ (p : Plan). 0 < p.buckets) (sym ours.plan) some; may = tt })
    (reply_is now.view.plan (stock now.view) (state_at now.view.seen (length now.view.seen)) (take (length now.view.seen) now.view.seen)
    (held_by now.view.seen (number now.view) now.view.stands) key found value)
    refl

module _ {key : KeyWords} {found : Option (List ℕ)} {steps : List Counted} {before now : SeatData} (m : MayFind key found steps before now) where
  abbrev k : ℕ
  k = key_cell before.view.plan (key_number key)

  abbrev end : ℕ
  end = length now.view.seen

  pub may_find : MayAnswer end (Find key) (find_reply found) now
  may_find = may_answer m.ends

  pub of_may : {shared : ObjectData} → IsOf shared before → IsOf shared now
  of_may ours = goes_of m.ends.goes ours

  module _ {mid : View} {clear : List Counted} {links : List ℕ} (after : SeatData) (e : HasEnded now mid clear)
      (is : after ≡ record (stepped (stood_view end (Find key) (find_reply found) mid) now) { noted = links }) (last : IsSeat after) where
    pub find_hold : HoldStays before after
    find_hold = hold_stays after m.ends e is m.hold (λ contents held. refl)

    -- however its claim was ended
    pub found_now : ClaimsAreCaused (MissesFirst k key) (steps ++ clear) → (claim_stores (steps ++ clear) ≡ 0 → (words : List ℕ) × IsInlineRead k words end (steps ++ clear))
        → IsFound key found before after
    found_now caused inline =
        let a = answered_now after m.ends e is last in record {
          answered = a.answered;
          nodes = nodes_stay (λ rs. (refl, refl)) a.answered;
          there = ap (λ (s : Stand). value_here after.view s.place key) a.stand_is ∙ (ap (λ (z : SeatData). value_here z.view end key) is
              ∙ (ap (λ (z : View). value_here z end key) e.view ∙ m.value));
          quiet = subst (λ (l : List Counted). IsQuiet l before after) (sym a.steps_are) (record {
            free = ap (λ (z : SeatData). z.free) is ∙ ap (λ (z : SeatData). z.free) m.same;
            retired = ap (λ (z : SeatData). z.view.retired) is ∙ (ap (λ (z : View). z.retired) e.view ∙ m.retired);
            none_exchanged = omega (arith, exchanges-append steps clear, m.looks.none_exchanged, still_exchanges clear e.still);
            none_scanned = omega (arith, scan_loads-append steps clear, m.looks.none_scanned, e.none_scanned);
          });
          hold = find_hold;
          caused = subst (λ (l : List Counted). ClaimsAreCaused (MissesFirst k key) l) (sym a.steps_are) caused;
          inline = subst (λ (z : List Counted × ℕ). claim_stores z.0 ≡ 0 → (words : List ℕ) × IsInlineRead k words z.1 z.0)
              (λ i. (sym a.steps_are i, ap (λ (s : Stand). s.place) (sym a.stand_is) i)) inline;
        }

-- How a change is made: the front is copied and installed.
use Rattle.std.proofs.Common.{◌≡◌, ◌≢◌, ◌∙◌, ℕ, ◌+◌, ◌*◌, ◌/◌, ◌<◌, ◌≤◌, suc, Bool, true, false, ne_eqb, List, [], ◌∷◌, ◌++◌, Option, None, length, take, drop, refl, sym, ap, subst, arith}
use Rattle.std.proofs.Common.{◌⊎◌, inl, inr}
use Rattle.std.proofs.lemmas.Bool.{cond-false, eqb-true, false≢true}
use Rattle.std.proofs.lemmas.List.{take-append-drop, take_all}
use Rattle.big_atomic.proofs.Answered.{HasAnswered, goes_of}
use Rattle.big_atomic.proofs.Goings.{goes_then, looked_then}
use Rattle.big_atomic.proofs.Installed.{EndsChange, LostInstall, change_ready, change_records, change_scanned, change_tried, lost_install, no_lock, won_change}
use Rattle.big_atomic.proofs.Marking.{turn_begun, turn_more}
use Rattle.big_atomic.proofs.Pacing.{paces_then}
use Rattle.big_atomic.proofs.Paid.{exchanges-append, lost-append, scan_loads-append}
use Rattle.big_atomic.proofs.Winning.{all_steps, has_won, stand, won_on, won_plan, won_stays, won_told}
use Rattle.big_atomic.specs.Calling.{Goes}
use Rattle.big_atomic.specs.Installing.{HasInstalled, HasMoved}
use Rattle.big_atomic.specs.Marks.{HasBegun, HasTurn}
use Rattle.big_atomic.specs.Ready.{IsReady}
use Rattle.big_atomic.specs.Turns.{exchanges, lost_steps, scan_loads}
use Rattle.cache_hash.proofs.Fronted.{GaveUp, HasPrepared, MayPrepare, gave_up, insert_prepared, remove_prepared, replace_prepared}
use Rattle.cache_hash.proofs.Keyed.{changes_in, exchange_tries, holds_by, never_full, on_key, replies_by, there_for}
use Rattle.cache_hash.proofs.Progress.{Onward, going_of, going_on, wants_more}
use Rattle.cache_hash.specs.Asking.{AreInserts, AsksFor, HasEnded, IsEditOf, IsInsert, NoneChanges, call_for, plain_reply, would_change}
use Rattle.cache_hash.specs.Calls.{WantsNodes, value_at}
use Rattle.cache_hash.specs.Changing.{Begun, Changing, HasCome, HasLostTurn, MayMake, Scans}
use Rattle.big_atomic.specs.declared.starting.Start.{Start}
use Rattle.cache_hash.specs.declared.asked.Change.{Change}
use Rattle.cache_hash.specs.declared.asked.Due.{Due}
use Rattle.cache_hash.specs.declared.asked.Told.TheVariants.{Plain}
use Rattle.chain_links.specs.Copying.{HasFree, IsCopied, IsPlace}
use Rattle.chain_links.specs.Following.{HasGivenUp}
use Rattle.chain_links.specs.Walking.{HasBack}
use Rattle.chain_links.specs.declared.answers.Edit.{Edit}
use Rattle.chain_links.specs.declared.answers.Edit.TheVariants.{Insert as InsertEdit, Replace as ReplaceEdit, Remove as RemoveEdit}
use Rattle.chain_links.specs.declared.answers.Front.TheVariants.{Ready, Moved}
use Rattle.hazard_claims.specs.Claiming.{IsReleased}
use Rattle.hazard_claims.specs.Scanning.{ClearsWalk}
use Rattle.hazard_claims.specs.declared.claims.Claim.TheVariants.{Back}
use Rattle.seat_history.specs.Contents.{blank}
use Rattle.seat_history.specs.History.{contents_from, state_at}
use Rattle.seat_history.specs.Key.{key_number}
use Rattle.seat_history.specs.Step.{is_same}
use Rattle.seat_history.specs.declared.call.Call.{Call}
use Rattle.seat_history.specs.declared.entry.Entry.{Entry}
use Rattle.seat_history.specs.declared.key.KeyWords.{KeyWords}
use Rattle.step_rules.proofs.Line.Trails.{longer_seen}
use Rattle.step_rules.proofs.Order.Fronts.{need_some}
use Rattle.step_rules.proofs.Order.RecordsTell.{is_there_value, place_within, value_at as value_in_records}
use Rattle.step_rules.proofs.Rely.Advance.{goes_further}
use Rattle.step_rules.proofs.World.Contents.{history_before}
use Rattle.step_rules.specs.Claims.{BACK, HOLD, On, OWN}
use Rattle.step_rules.specs.History.{GoesOn, IsHistory, cell_of, key_cell}
use Rattle.step_rules.specs.Lawful.{is_full}
use Rattle.step_rules.specs.Records.{edit_of, is_change_in, need as need_of, out, pair, put, records_at, records_of, value_in}
use Rattle.step_rules.specs.SeatData.{IsOf, IsSeat, ObjectData, SeatData}
use Rattle.step_rules.specs.Views.{claim_of, claimed_records}
use Rattle.step_rules.specs.declared.plan.Plan.{Plan}
use Rattle.step_rules.specs.declared.view.Claim.{Claim}
use Rattle.step_rules.specs.declared.view.Counted.{Counted}
use Rattle.step_rules.specs.declared.view.Stage.TheVariants.{Locked}
use Rattle.step_rules.specs.declared.view.Stand.{Stand}
use Rattle.step_rules.specs.declared.view.View.{View}

-- WHAT THE COPY ASKS
insert_two : (rs : List (List ℕ)) (new : List ℕ) → rs ≢ [] → need_of (length rs) (put new) ≡ 2
insert_two [] new some = absurd (some refl)
insert_two (r ∷ rs) new some = cond-false _ 1 2 (ne_eqb (suc (length rs)) 0 (λ e. absurd (omega arith)))

remove_all : (n i : ℕ) → i ≤ need_of n (out i)
remove_all n i = grind (arith, eqb-true i 0)

-- as many nodes are free as the edit needs
pub has_free : (key : KeyWords) (change : Change) (edit : Edit) (seat : SeatData) (needed : ℕ) → IsEditOf key change (claimed_records seat.view) edit
    → needed ≡ need_of (length (claimed_records seat.view)) (edit_of (claimed_records seat.view) (call_for key change)) → needed ≤ length seat.free → HasFree edit seat
has_free key change (InsertEdit other val) seat needed is e enough =
    let rs : List (List ℕ) = claimed_records seat.view in
    let told : needed ≡ need_of (length rs) (put (pair other val)) = e ∙ ap (λ (c : Call). need_of (length rs) (edit_of rs c)) is in (
      λ none. omega (arith, told, need_some (length rs) (put (pair other val))),
      λ some. omega (arith, told, insert_two rs (pair other val) some),
    )
has_free key change (ReplaceEdit at val) seat needed is e enough =
    let rs : List (List ℕ) = claimed_records seat.view in omega (arith, is.0, e, ap (λ (c : Call). need_of (length rs) (edit_of rs c)) is.1.1)
has_free key change (RemoveEdit at) seat needed is e enough =
    let rs : List (List ℕ) = claimed_records seat.view in
    let told : needed ≡ need_of (length rs) (out at) =
    e ∙ (ap (λ (c : Call). need_of (length rs) (edit_of rs c)) is.1 ∙ ap (λ i. need_of (length rs) (out i)) is.0) in
    (omega (arith, told, need_some (length rs) (out at)), omega (arith, told, remove_all (length rs) at))

-- the place that it names is there
pub has_place : (key : KeyWords) (change : Change) (edit : Edit) (v : View) → IsEditOf key change (claimed_records v) edit → is_change_in (claimed_records v) (call_for key change) ≡ true
    → IsPlace edit v
has_place key change (InsertEdit other val) v is changes = tt
has_place key change (ReplaceEdit at val) v is changes =
    let rs : List (List ℕ) = claimed_records v in
    let there = is_there_value (value_in rs (key_number key)) is.1.0 (is_same is.1.0 val) (ap (is_change_in rs) (sym is.1.1) ∙ changes) in
    omega (arith, is.0, place_within rs (key_number key) there)
has_place key change (RemoveEdit at) v is changes =
    let rs : List (List ℕ) = claimed_records v in omega (arith, is.0, place_within rs (key_number key) (ap (is_change_in rs) (sym is.1) ∙ changes))

-- WHAT COMES OF THE COPY
abbrev IsPrepared : ℕ → ℕ → ℕ → Call → SeatData → SeatData → Type 0
IsPrepared cell word node call mid copied = (steps : List Counted) × HasPrepared cell word node call steps mid copied

copied_front : {cell word node : ℕ} {mid copied : SeatData} (key : KeyWords) (change : Change) (edit : Edit) → IsEditOf key change (claimed_records mid.view) edit
    → MayPrepare cell word (call_for key change) mid → mid.noted ≡ [] → IsCopied cell edit (Ready node) mid copied → IsSeat copied → IsPrepared cell word node (call_for key change) mid copied
copied_front {cell} {word} {node} {mid} {copied} key change (InsertEdit other val) is may none copies law =
    subst (λ (c : Call). MayPrepare cell word c mid → IsPrepared cell word node c mid copied) (sym is) (λ may_now. insert_prepared may_now none copies law) may
copied_front {cell} {word} {node} {mid} {copied} key change (ReplaceEdit at val) is may none copies law =
    subst (λ (c : Call). MayPrepare cell word c mid → IsPrepared cell word node c mid copied) (sym is.1.1) (λ may_now. replace_prepared may_now is.0 copies law) may
copied_front {cell} {word} {node} {mid} {copied} key change (RemoveEdit at) is may none copies law =
    subst (λ (c : Call). MayPrepare cell word c mid → IsPrepared cell word node c mid copied) (sym is.1) (λ may_now. remove_prepared may_now is.0 copies law) may

-- a copy is given up by a replace or a remove alone
given_up : {cell : ℕ} {mid now : SeatData} (key : KeyWords) (change : Change) (edit : Edit) → IsEditOf key change (claimed_records mid.view) edit → IsCopied cell edit Moved mid now
    → HasGivenUp cell mid now × (IsInsert (call_for key change) → ⊥)
given_up key change (InsertEdit other val) is copies = absurd copies
given_up key change (ReplaceEdit at val) is copies = (copies, λ insert. subst IsInsert is.1.1 insert)
given_up key change (RemoveEdit at) is copies = (copies, λ insert. subst IsInsert is.1 insert)

module _ {shared : ObjectData} {key : KeyWords} {b : Begun shared key} {cell : ℕ} {start : Start} {change : Change} {due : Due} {scanned : Bool} {mid : SeatData}
    (m : MayMake b cell start change due scanned mid) where
  abbrev word : ℕ
  word = start.word

  abbrev i : Changing b cell scanned mid
  i = m.going

  abbrev call : Call
  call = call_for key change

  plan : mid.view.plan ≡ b.before.view.plan
  plan = ap (λ (z : View). z.plan) i.goes.only

  changes_here : is_change_in (claimed_records mid.view) call ≡ true
  changes_here = changes_in key change (claimed_records mid.view) ∙ (ap (would_change change) m.chain.value ∙ m.decides.1)

  may_prepare : MayPrepare cell word call mid
  may_prepare = record {
    law = m.chain.law;
    near = m.chain.near;
    may = record {
      stands = m.chain.stands;
      cell = m.chain.cell_is;
      on = on_key key change mid.view.plan ∙ (ap (λ (p : Plan). key_cell p (key_number key)) plan ∙ i.cell_is);
      there = there_for key change mid.view.plan (subst (λ (p : Plan). 0 < p.buckets) (sym plan) b.some);
      changes = changes_here;
      wide = m.may.wide;
      left = let left = b.left in omega (arith, ap (λ (z : View). z.changes) i.goes.only);
      removes = let removes = m.may.removes in omega (arith, ap (λ (z : View). z.removes) i.goes.only);
    };
  }

  pub make_back : HasBack cell mid.view
  make_back = record { node = word / 2; stands = m.chain.stands; cell_is = m.chain.cell_is }

  pub make_free : HasFree due.edit mid
  make_free = has_free key change due.edit mid due.need m.decides.3 m.decides.2 m.free

  pub make_place : IsPlace due.edit mid.view
  make_place = has_place key change due.edit mid.view m.decides.3 changes_here

  -- it may change the object
  ever : NoneChanges (HasCome b.came) → ⊥
  ever never = false≢true (sym (never due.there change m.asked due.there) ∙ m.decides.1)

  pub gave_up_turn : {now : SeatData} → IsCopied cell due.edit Moved mid now → HasLostTurn b cell scanned mid now
  gave_up_turn {now} copies =
      let up = given_up key change due.edit m.decides.3 copies in
      let g = gave_up m.chain.near m.chain.stands m.chain.cell_is m.chain.law up.0 in
      let steps : List Counted = g.0 in
      let u : GaveUp cell steps mid now = g.1 in
      let onward : Onward 1 0 key (HasCome b.came) cell steps mid now = record {
        goes = u.goes;
        paced = u.paced;
        idle = λ idle. u.holding;
        used = u.used;
        hold = u.claims HOLD (λ e. absurd (omega arith));
        own = λ none. ap (λ (x : Claim). x.word) (u.claims OWN (λ e. absurd (omega arith))) ∙ none;
        retired = u.retired;
        none_scanned = u.looks.none_scanned;
        free = λ _. record { nodes = u.free; order = λ all. absurd (up.1 (all due.there change m.asked)) };
        never = λ _. u.looks.none_exchanged;
      } in
      let lost = u.paced.rounds in record {
        so_far = record {
          going = going_on i i.paced onward (omega arith);
          tried = λ yes. record { tried = omega (arith, lost-append i.steps steps); exchanged = λ all. absurd (up.1 (all due.there change m.asked)) };
        };
        paced = paces_then i.paced u.paced;
        longer = u.longer;
      }

-- THE FRONT WAS COPIED
pub record HasFront {shared : ObjectData} {key : KeyWords} (b : Begun shared key) (cell : ℕ) (start : Start) (change : Change) (due : Due) (scanned : Bool) (node : ℕ)
    (mid copied : SeatData) : Type 0 where
  pub may : MayMake b cell start change due scanned mid
  pub steps : List Counted
  pub prepared : HasPrepared cell start.word node (call_for key change) steps mid copied

pub has_front : {shared : ObjectData} {key : KeyWords} {b : Begun shared key} {cell : ℕ} {start : Start} {change : Change} {due : Due} {scanned : Bool} {node : ℕ} {mid copied : SeatData}
    → MayMake b cell start change due scanned mid → IsCopied cell due.edit (Ready node) mid copied → IsSeat copied → HasFront b cell start change due scanned node mid copied
has_front {key = key} {change = change} {due = due} m copies law =
    let p = copied_front key change due.edit m.decides.3 (may_prepare m) m.chain.none copies law in record { may = m; steps = p.0; prepared = p.1 }

module _ {shared : ObjectData} {key : KeyWords} {b : Begun shared key} {cell : ℕ} {start : Start} {change : Change} {due : Due} {scanned : Bool} {node : ℕ} {mid copied : SeatData}
    (h : HasFront b cell start change due scanned node mid copied) where
  abbrev j : Changing b cell scanned mid
  j = h.may.going

  pub copied_ours : IsOf shared copied
  copied_ours = goes_of h.prepared.goes (going_of j)

  -- the version was found in this turn
  pub front_turn : HasTurn cell start.version start.word (j.steps ++ h.steps)
  front_turn = turn_more j.steps h.steps h.prepared.kept h.may.turn

  pub copied_begun : HasBegun cell start.version start.word copied.view
  copied_begun =
      let goes : Goes cell None (j.steps ++ h.steps) b.before copied = goes_then j.goes h.prepared.goes in
      turn_begun b.before.view copied.view b.ready.law.sound.trail.within (ap (λ (z : View). z.since) goes.only) goes.trail front_turn

  -- no change of the seat has a lock
  pub copied_unlocked : copied.view.writer.stage ≢ Locked
  copied_unlocked = no_lock copied.view h.prepared.law.sound (ap (λ (x : Claim). x.word) (h.prepared.claims OWN (λ e. absurd (omega arith))) ∙ j.own)

  -- IT WAS LOST
  module _ {other : ℕ} {now : SeatData} (moved : HasMoved cell start.word node other copied now) (last : IsSeat now) where
    lost : LostInstall cell copied now
    lost = lost_install moved last

    onward : Onward 1 0 key (HasCome b.came) cell (h.steps ++ lost.steps) mid now
    onward =
        let none = lost.none_scanned in
        let none_before = h.prepared.looks.none_scanned in
        let tried = lost.some_tried in record {
          goes = goes_then h.prepared.goes lost.goes;
          paced = paces_then h.prepared.paced lost.paced;
          idle = λ idle. moved.holding;
          used = ap (λ (z : SeatData). z.fresh) moved.ends;
          hold = lost.others HOLD (λ e. absurd (omega arith)) ∙ h.prepared.claims HOLD (λ e. absurd (omega arith));
          own = λ none. lost.own_none;
          retired = lost.retired ∙ h.prepared.retired;
          none_scanned = omega (arith, scan_loads-append h.steps lost.steps);
          free = λ none_tried. absurd (omega (arith, exchanges-append h.steps lost.steps));
          never = λ never. absurd (ever h.may never);
        }

    pub lost_turn : HasLostTurn b cell scanned mid now
    lost_turn =
        let tried = lost.some_tried in
        let longer = lost.longer in
        let before_that = longer_seen mid.view.seen copied.view.seen h.prepared.goes.seen in record {
          so_far = record {
            going = going_on j j.paced onward (omega arith);
            tried = λ yes. exchange_tries (AreInserts key (HasCome b.came)) (j.steps ++ (h.steps ++ lost.steps))
                (omega (arith, exchanges-append j.steps (h.steps ++ lost.steps), exchanges-append h.steps lost.steps));
          };
          paced = paces_then j.paced onward.paced;
          longer = omega arith;
        }

-- IT WON
-- the key's value at a place, as its bucket's records tell
value_of_place : (key : KeyWords) (v : View) (q : ℕ) → IsHistory v.plan v.seen
    → value_in (records_at v.plan (take q v.seen) (key_cell v.plan (key_number key))) (key_number key) ≡ value_at v q key
value_of_place key v q history =
    let log : List Entry = take q v.seen in
    let first : IsHistory v.plan log = history_before v.plan log (drop q v.seen) (subst (IsHistory v.plan) (sym (take-append-drop q v.seen)) history) in
    value_in_records v.plan log (key_number key) (λ n e at. (first.each n e at).there)
    ∙ ap (λ (l : List Entry). (contents_from blank l).values (key_number key)) (take_all (length log) log (omega arith))

-- the call's own cell
pub own_front : {shared : ObjectData} {key : KeyWords} {b : Begun shared key} {cell : ℕ} {start : Start} {change : Change} {due : Due} {scanned : Bool} {node : ℕ} {mid copied : SeatData}
    → HasFront b cell start change due scanned node mid copied → HasFront b (cell_of b.before.view.plan (call_for key change)) start change due scanned node mid copied
own_front {key = key} {b = b} {start = start} {change = change} {due = due} {scanned = scanned} {node = node} {mid = mid} {copied = copied} h =
    subst (λ k. HasFront b k start change due scanned node mid copied) (sym (on_key key change b.before.view.plan ∙ h.may.going.cell_is)) h

pub own_installed : {shared : ObjectData} {key : KeyWords} {b : Begun shared key} {cell : ℕ} {start : Start} {change : Change} {due : Due} {scanned : Bool} {node : ℕ}
    {call : Call} {mid copied after : SeatData}
    → HasFront b cell start change due scanned node mid copied → call ≡ call_for key change → HasInstalled cell start.version start.word node call copied after
    → HasInstalled (cell_of b.before.view.plan (call_for key change)) start.version start.word node (call_for key change) copied after
own_installed {key = key} {b = b} {start = start} {change = change} {node = node} {copied = copied} {after = after} f is h =
    subst (λ (z : ℕ × Call). HasInstalled z.0 start.version start.word node z.1 copied after) (λ k. (sym (on_key key change b.before.view.plan ∙ f.may.going.cell_is) k, is k)) h

module _ {shared : ObjectData} {key : KeyWords} {b : Begun shared key} {start : Start} {change : Change} {due : Due} {scanned : Bool} {node : ℕ} {mid copied after walked final : SeatData}
    (h : HasFront b (cell_of b.before.view.plan (call_for key change)) start change due scanned node mid copied)
    (installed : HasInstalled (cell_of b.before.view.plan (call_for key change)) start.version start.word node (call_for key change) copied after)
    (walk : ClearsWalk after walked) (back : IsReleased Back walked final) (last : IsSeat final) where
  abbrev asked : Call
  asked = call_for key change

  abbrev own_cell : ℕ
  own_cell = cell_of b.before.view.plan asked

  abbrev going : Changing b own_cell scanned mid
  going = h.may.going

  abbrev so_far : List Counted
  so_far = going.steps ++ h.steps

  abbrev won : EndsChange shared own_cell start.version start.word node asked so_far going.look b.before copied after walked final
  won = record {
    ready = b.ready;
    first = b.ready.law;
    left = b.left;
    on = refl;
    keeps = λ c held. holds_by key change c held;
    calling = record {
      goes = goes_then going.goes h.prepared.goes;
      looked = looked_then going.goes going.looked h.prepared.goes;
      hold = h.prepared.claims HOLD (λ e. absurd (omega arith)) ∙ going.hold;
    };
    paced = paces_then going.paced h.prepared.paced;
    installed = installed;
    loaded = (front_turn h).loaded;
    walk = walk;
    back = back;
    last = last;
  }

  abbrev place : ℕ
  place = (stand (won_change won)).place

  back_same : claim_of BACK copied.view ≡ claim_of BACK mid.view
  back_same = h.prepared.claims BACK (λ e. absurd (omega arith))

  final_plan : final.view.plan ≡ b.before.view.plan
  final_plan = won_plan (won_change won)

  -- the key's value there is the one that the turn found
  value_won : value_at final.view place key ≡ due.there
  value_won =
      let stands : On (claim_of BACK copied.view) (start.word / 2) = subst (λ (x : Claim). On x (start.word / 2)) (sym back_same) h.may.chain.stands in
      let records : records_at final.view.plan (take place final.view.seen) own_cell ≡ claimed_records copied.view =
      change_records won stands (ap (λ (x : Claim). x.cell) back_same ∙ h.may.chain.cell_is) in
      let cell_is : key_cell final.view.plan (key_number key) ≡ own_cell = ap (λ (p : Plan). key_cell p (key_number key)) final_plan ∙ sym (on_key key change b.before.view.plan) in
      sym (value_of_place key final.view place last.sound.history)
      ∙ (ap (λ k. value_in (records_at final.view.plan (take place final.view.seen) k) (key_number key)) cell_is
      ∙ (ap (λ (rs : List (List ℕ)). value_in rs (key_number key)) (records ∙ ap (λ (x : Claim). records_of x.pages) back_same) ∙ h.may.chain.value))

  reply_won : (stand (won_change won)).reply ≡ plain_reply change due.there
  reply_won = won_told (won_change won) (λ held. replies_by key change (state_at final.view.seen place) held ∙ ap (plain_reply change) value_won)

  answer : HasAnswered own_cell going.look asked (plain_reply change due.there) (all_steps (won_change won)) (stand (won_change won)) b.before final
  answer = has_won (won_change won) reply_won

  on : GoesOn mid.view.seen final.view.seen
  on =
      let later : GoesOn copied.view.seen final.view.seen =
      subst (λ (l : List Entry). GoesOn l final.view.seen) (ap (λ (z : SeatData). z.view.seen) installed.announces) (won_on (won_change won)) in
      goes_further mid.view.seen copied.view.seen final.view.seen later.0 h.prepared.goes.seen later.1

  -- what was seen b.before the front was copied is no more than what the exchange found
  late : length mid.view.seen ≤ place
  late =
      let w = won_change won in
      let a = longer_seen mid.view.seen copied.view.seen h.prepared.goes.seen in
      let b = ap (λ (z : SeatData). length z.view.seen) installed.announces in
      let c = longer_seen installed.announced.view.seen w.won.mid.view.seen w.won.retried.goes.seen in
      let d = longer_seen w.won.mid.view.seen w.won.won.wins.log (w.won.won.wins.rest, w.won.won.wins.seen) in omega arith

  plan_since : final.view.plan ≡ mid.view.plan
  plan_since = final_plan ∙ sym (ap (λ (z : View). z.plan) going.goes.only)

  scanned_by : scan_loads (all_steps (won_change won)) ≡ scan_loads going.steps
  scanned_by = let none = h.prepared.looks.none_scanned in change_scanned won ∙ omega (arith, scan_loads-append going.steps h.steps)

  tried_by : 0 < exchanges (all_steps (won_change won))
  tried_by = change_tried won

  abbrev Scanned : ℕ → ℕ → List Counted → Type 0
  Scanned look until steps = (scan_loads steps ≡ 0) ⊎ (WantsNodes (AsksFor key (HasCome b.came)) look until b.before final.view × (scan_loads steps ≡ 4 * b.before.view.plan.seats)
      × ((is_full (plain_reply change due.there) ≡ true) ⊎ (0 < exchanges steps + lost_steps steps)))

  scans_for : (made : Bool) → Scans made (AsksFor key (HasCome b.came)) going.steps going.look b.before mid → Scanned going.look place (all_steps (won_change won))
  scans_for false s = inl (scanned_by ∙ s.none)
  scans_for true s = inr (wants_more final.view late on plan_since s.want, scanned_by ∙ s.all, inr (omega (arith, tried_by)))

  pub made : IsReady shared final × HasEnded key (HasCome b.came) change (Plain due.there) b.before final
  made = (
    change_ready won,
    record {
      asked = subst (λ (found : Option (List ℕ)). HasCome b.came found change) (sym (ap (λ (s : Stand). value_at final.view s.place key) answer.stand_is ∙ value_won)) h.may.asked;
      ends = record {
        answered = answer.answered;
        changes = ap (λ (s : Stand). s.changes) answer.stand_is ∙ sym h.may.decides.1;
        hold = won_stays (won_change won);
        scans = subst (λ (z : ℕ × ℕ × List Counted). Scanned z.0 z.1 z.2) (λ k. (sym answer.look_is k, (sym answer.stand_is k).place, sym answer.steps_are k))
            (scans_for scanned going.scans);
        kept = λ none. absurd (omega (arith, tried_by, ap exchanges answer.steps_are));
        full = λ count free e. absurd (never_full change due.there count free e);
        short = λ count free e. absurd (never_full change due.there count free e);
      };
      value = ap (λ (s : Stand). value_at final.view s.place key) answer.stand_is ∙ value_won;
      never = λ never. absurd (ever h.may never);
      quiet = λ insert not_full none. absurd (omega (arith, tried_by, ap exchanges answer.steps_are));
    },
  )

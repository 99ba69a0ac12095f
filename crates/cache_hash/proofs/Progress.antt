-- Further steps of a change.
use Rattle.std.proofs.Common.{◌≡◌, ◌∙◌, ℕ, ◌*◌, ◌<◌, ◌≤◌, Bool, true, false, List, [], ◌++◌, Option, Some, length, take, filter, append_assoc, sym, ap, subst, arith}
use Rattle.std.proofs.lemmas.Bool.{false≢true}
use Rattle.std.proofs.lemmas.List.{take-append-le}
use Rattle.big_atomic.proofs.Answered.{goes_of}
use Rattle.big_atomic.proofs.Goings.{goes_then, held_stays, looked_then}
use Rattle.big_atomic.proofs.Pacing.{paces_then, paces_within}
use Rattle.big_atomic.proofs.Paid.{exchanges-append, scan_loads-append}
use Rattle.big_atomic.proofs.Scanning.{own_words, own_words_later, scan_all, scan_goes, scan_paced, scan_tried, scan_view, scanned_now}
use Rattle.big_atomic.proofs.Shortage.{hold_word}
use Rattle.big_atomic.specs.Calling.{Goes, Paces}
use Rattle.big_atomic.specs.Turns.{exchanges, scan_loads}
use Rattle.cache_hash.proofs.Keyed.{keeps_same, keeps_then}
use Rattle.cache_hash.proofs.Walking.{OnlyLooks}
use Rattle.cache_hash.specs.Asking.{AreInserts, AsksFor, NoneChanges}
use Rattle.cache_hash.specs.Calls.{NeedsNodes, WantsNodes}
use Rattle.cache_hash.specs.Changing.{Begun, Changing, HasCome, KeepsFree, Scans}
use Rattle.cache_hash.specs.declared.asked.Change.{Change}
use Rattle.hazard_claims.specs.Scanning.{IsScan, names}
use Rattle.seat_history.proofs.Histories.{state_at-append}
use Rattle.seat_history.specs.Contents.{Contents}
use Rattle.seat_history.specs.History.{state_at}
use Rattle.seat_history.specs.Change.{is_change}
use Rattle.seat_history.specs.declared.call.Call.{Call}
use Rattle.seat_history.specs.declared.entry.Entry.{Entry}
use Rattle.seat_history.specs.declared.key.KeyWords.{KeyWords}
use Rattle.step_rules.proofs.Line.Trails.{longer_seen}
use Rattle.step_rules.specs.Claims.{BACK, HOLD, OWN}
use Rattle.step_rules.specs.History.{GoesOn, cell_of}
use Rattle.step_rules.specs.Lawful.{held_by}
use Rattle.step_rules.specs.Order.{Needs}
use Rattle.step_rules.specs.Records.{records_at}
use Rattle.step_rules.specs.SeatData.{IsOf, IsSeat, ObjectData, SeatData}
use Rattle.step_rules.specs.Sound.{Sound}
use Rattle.step_rules.specs.Steps.{HasScanned, scan_kinds}
use Rattle.step_rules.specs.Views.{claim_of, number}
use Rattle.step_rules.specs.declared.layout.TheConstants.{CLAIMS}
use Rattle.step_rules.specs.declared.plan.Plan.{Plan}
use Rattle.step_rules.specs.declared.view.Claim.{Claim}
use Rattle.step_rules.specs.declared.view.Counted.{Counted}
use Rattle.step_rules.specs.declared.view.View.{View}

-- WHAT WAS NEEDED stays so as more is seen
pub needs_more : {call : Call} {place need : ℕ} {v : View} (w : View) → place ≤ length v.seen → GoesOn v.seen w.seen → w.plan ≡ v.plan → NeedsNodes call place need v → NeedsNodes call place need w
needs_more {call} {place} {need} {v} w within on plan n =
    let front : take place w.seen ≡ take place v.seen = ap (take place) on.1 ∙ take-append-le place v.seen on.0 within in
    let contents = ap (λ (l : List Entry). state_at l place) on.1 ∙ state_at-append v.seen on.0 place within in record {
      changes = ap (λ (c : Contents). is_change c call) contents ∙ n.changes;
      needs = subst (λ (rs : List (List ℕ)). Needs rs call need) (λ i. records_at (sym plan i) (sym front i) (cell_of (sym plan i) call)) n.needs;
    }

pub wants_more : {due : Call → Type 0} {look last : ℕ} {before : SeatData} {v : View} (w : View) → length v.seen ≤ last → GoesOn v.seen w.seen → w.plan ≡ v.plan
    → WantsNodes due look (length v.seen) before v → WantsNodes due look last before w
wants_more {v = v} w until on plan n =
    let within = n.within in
    record { call = n.call; is_due = n.is_due; place = n.place; late = n.late; within = omega arith; need = n.need; needs = needs_more w n.within on plan n.needs; few = n.few }

pub wants_as : {due later : Call → Type 0} {look last : ℕ} {before : SeatData} {v : View} → ((call : Call) → due call → later call) → WantsNodes due look last before v
    → WantsNodes later look last before v
wants_as into n = record { call = n.call; is_due = into n.call n.is_due; place = n.place; late = n.late; within = n.within; need = n.need; needs = n.needs; few = n.few }

-- a scan stays among the steps
abbrev pub scanned_more : {a : List Counted} {v : View} (w : View) (b : List Counted) → number w ≡ number v → held_by w.seen (number w) w.stands ≡ held_by v.seen (number v) v.stands
    → claim_of HOLD w ≡ claim_of HOLD v → w.plan ≡ v.plan → HasScanned v a → HasScanned w (a ++ b)
scanned_more w b least held hold plan s = record {
  front = s.front;
  loads = s.loads;
  back = s.back ++ b;
  whole = ap (λ (l : List Counted). l ++ b) s.whole ∙ (append_assoc s.front (s.loads ++ s.back) b ∙ ap (λ (l : List Counted). s.front ++ l) (append_assoc s.loads s.back b));
  kinds = s.kinds ∙ ap (λ (p : Plan). scan_kinds 0 (CLAIMS * p.seats)) (sym plan);
  own_words = own_words_later least held hold s.own_words;
}

-- MORE STEPS of the call, none of a scan, after which the seat holds no node. So many claims serve before them, and so many after them
pub record Onward (from to : ℕ) (key : KeyWords) (among : Option (List ℕ) → Change → Type 0) (cell : ℕ) (steps : List Counted) (mid now : SeatData) : Type 0 where
  pub goes : Goes cell (Some (length mid.view.seen)) steps mid now
  pub paced : Paces from to steps
  pub idle : mid.holding ≡ [] → now.holding ≡ []
  pub used : now.fresh ≡ false
  pub hold : claim_of HOLD now.view ≡ claim_of HOLD mid.view
  pub own : (claim_of OWN mid.view).word ≡ 0 → (claim_of OWN now.view).word ≡ 0
  pub retired : now.view.retired ≡ mid.view.retired
  pub none_scanned : scan_loads steps ≡ 0
  pub free : exchanges steps ≡ 0 → KeepsFree (AreInserts key among) mid.free now.free
  pub never : NoneChanges among → exchanges steps ≡ 0

pub scans_on : {from to : ℕ} {key : KeyWords} {among : Option (List ℕ) → Change → Type 0} {cell : ℕ} {b : List Counted} {mid now : SeatData} (scanned : Bool)
    (due : Call → Type 0) (steps : List Counted) (look : ℕ) (before : SeatData) → Sound mid.view → Onward from to key among cell b mid now
    → Scans scanned due steps look before mid → Scans scanned due (steps ++ b) look before now
scans_on {b = b} false due steps look before sound o s =
    let none = o.none_scanned in
    let none_before = s.none in record { none = omega (arith, scan_loads-append steps b); retired = o.retired ∙ s.retired }
scans_on {b = b} {mid = mid} {now = now} true due steps look before sound o s =
    let none = o.none_scanned in
    let all = s.all in
    let few = s.few in record {
      scan = scanned_more now.view b (ap (λ (z : View). number z) o.goes.only) (held_stays sound o.goes) o.hold (ap (λ (z : View). z.plan) o.goes.only) s.scan;
      all = omega (arith, scan_loads-append steps b);
      retired = o.retired ∙ s.retired;
      few = omega (arith, ap (length {A = ℕ}) o.retired);
      want = wants_more now.view (longer_seen mid.view.seen now.view.seen o.goes.seen) o.goes.seen (ap (λ (z : View). z.plan) o.goes.only) s.want;
    }

module _ {shared : ObjectData} {key : KeyWords} {begun : Begun shared key} {cell : ℕ} {scanned : Bool} {mid : SeatData} (i : Changing begun cell scanned mid) where
  abbrev pub going_on : {from to : ℕ} {b : List Counted} {now : SeatData} → Paces 0 from i.steps → Onward from to key (HasCome begun.came) cell b mid now → to ≤ 1
      → Changing begun cell scanned now
  going_on {b = b} {now = now} paced o serve = record {
    cell_is = i.cell_is;
    steps = i.steps ++ b;
    look = i.look;
    goes = goes_then i.goes o.goes;
    looked = looked_then i.goes i.looked o.goes;
    paced = paces_within (paces_then paced o.paced) serve;
    idle = o.idle i.idle;
    used = o.used;
    hold = o.hold ∙ i.hold;
    own = o.own i.own;
    scans = scans_on scanned (AsksFor key (HasCome begun.came)) i.steps i.look begun.before i.goes.sound o i.scans;
    untouched = λ none none_tried.
        let both = exchanges-append i.steps b in keeps_then (i.untouched none (omega arith)) (o.free (omega arith));
    never = λ never. let none_before = i.never never in let none_after = o.never never in omega (arith, exchanges-append i.steps b);
  }

  pub going_of : IsOf shared mid
  going_of = goes_of i.goes begun.ready.ours

-- looks and loads
pub looks_onward : {from to cell : ℕ} {b : List Counted} {mid now : SeatData} (key : KeyWords) (among : Option (List ℕ) → Change → Type 0) → OnlyLooks from to cell b mid now
    → Onward from to key among cell b mid now
looks_onward key among p = record {
  goes = p.goes;
  paced = p.paced;
  idle = λ idle. ap (λ (z : SeatData). z.holding) p.same ∙ idle;
  used = ap (λ (z : SeatData). z.fresh) p.same;
  hold = p.hold;
  own = λ none. ap (λ (x : Claim). x.word) p.own ∙ none;
  retired = p.retired;
  none_scanned = p.looks.none_scanned;
  free = λ _. keeps_same (AreInserts key among) (ap (λ (z : SeatData). z.free) p.same);
  never = λ _. p.looks.none_exchanged;
}

-- A SCAN, for want of nodes
module _ {shared : ObjectData} {key : KeyWords} {begun : Begun shared key} {cell : ℕ} {mid now : SeatData} (i : Changing begun cell false mid) (s : IsScan mid now)
    (law : IsSeat mid) (last : IsSeat now) where
  -- no node was retired so far, so as many are free as at first
  pub free_still : length mid.free ≡ length begun.before.free
  free_still =
      let stock = i.goes.stock in
      let long = law.long in
      let first = begun.ready.law.long in
      omega (arith, ap (length {A = ℕ}) i.idle, ap (length {A = ℕ}) begun.ready.idle, ap (length {A = ℕ}) i.scans.retired)

  abbrev pub after_scan : {call : Call} {need : ℕ} → AsksFor key (HasCome begun.came) call → (claim_of BACK mid.view).stands ≡ true → NeedsNodes call (length mid.view.seen) need mid.view
      → length mid.free < need
      → Changing begun cell true now
  after_scan {call} {need} due back needs few =
      let view = scan_view s law last in
      let g : Goes cell (Some (length mid.view.seen)) (s.clear ++ s.loads) mid now = scan_goes s law last cell in
      let seats : mid.view.plan.seats ≡ begun.before.view.plan.seats = ap (λ (z : View). z.plan.seats) i.goes.only in
      let none = i.scans.none in
      let few_retired = s.few in record {
        cell_is = i.cell_is;
        steps = i.steps ++ (s.clear ++ s.loads);
        look = i.look;
        goes = goes_then i.goes g;
        looked = looked_then i.goes i.looked g;
        paced = paces_then i.paced (scan_paced s law last 1);
        idle = ap (λ (z : SeatData). z.holding) s.same ∙ i.idle;
        used = ap (λ (z : SeatData). z.fresh) s.same;
        hold = s.claims HOLD (λ e. absurd (omega arith)) ∙ i.hold;
        own = ap (λ (x : Claim). x.word) (s.claims OWN (λ e. absurd (omega arith))) ∙ i.own;
        scans = record {
          scan = scanned_now s law last i.steps (own_words s law last back i.own (hold_word begun.ready begun.ready.law.sound i.goes i.hold));
          all = omega (arith, scan_loads-append i.steps (s.clear ++ s.loads), scan_all s law last);
          retired = s.retired ∙ ap (filter (λ n. names n s.loads)) i.scans.retired;
          few = omega arith;
          want = wants_more now.view (longer_seen mid.view.seen now.view.seen g.seen) g.seen (ap (λ (z : View). z.plan) g.only) (record {
            call = call;
            is_due = due;
            place = length mid.view.seen;
            late = i.looked.upto;
            within = omega arith;
            need = need;
            needs = needs;
            few = omega (arith, free_still);
          });
        };
        untouched = λ e. absurd (false≢true (sym e));
        never = λ never. let none_before = i.never never in omega (arith, exchanges-append i.steps (s.clear ++ s.loads), scan_tried s law last);
      }

-- What an install leaves, and how its call is answered.
use Rattle.std.proofs.Common.{◌≡◌, ◌≢◌, ◌∙◌, ℕ, ◌+◌, ◌<◌, ◌≤◌, true, List, [], ◌∷◌, ◌++◌, Option, Some, length, take, drop, length-append, append_assoc, refl, sym, ap, subst, arith}
use Rattle.std.proofs.lemmas.List.{get_or-set_other}
use Rattle.big_atomic.proofs.Answered.{goes_of}
use Rattle.big_atomic.proofs.Claimed.{lost_longer}
use Rattle.big_atomic.proofs.Ending.{EndsBy, EndsWalk, clearing, cleared_word, ends_one, ends_then, ends_walk, released_else, released_ours, released_word}
use Rattle.big_atomic.proofs.Goings.{calling_then, goes_still, goes_then}
use Rattle.big_atomic.proofs.Marking.{Marks, begun_found, ends_refresh, marks_of, tries_more, version_more}
use Rattle.big_atomic.proofs.Pacing.{paces_still, paces_then}
use Rattle.big_atomic.proofs.Paid.{costs_then, costs_within, exchanges-append, lost-append, node_stores-append, scan_loads-append}
use Rattle.big_atomic.proofs.Winning.{WonCall, all_steps, exchanges_most, stand, won_costs, won_filled, won_ready, won_records, won_scanned, won_tried}
use Rattle.big_atomic.specs.Calling.{Calling, Costs, Goes, HasLost, HasWon, OnlySteps, Paces}
use Rattle.big_atomic.specs.Installing.{Exchanged, HasInstalled, HasMissed, HasMoved, HasNear, MayInstall, TriesMark}
use Rattle.big_atomic.specs.Marks.{HasBegun, HasVersion}
use Rattle.big_atomic.specs.Ready.{IsReady}
use Rattle.big_atomic.specs.Turns.{exchanges, lost_steps, node_stores, scan_loads}
use Rattle.big_atomic.specs.declared.answers.Install.{Install as Answer}
use Rattle.big_atomic.specs.declared.answers.Install.TheVariants.{Installed, Moved}
use Rattle.cache_copy.specs.Refreshing.{IsInFlight, OnlyRefreshed, Refreshes}
use Rattle.cache_copy.specs.declared.answers.Refresh.{Refresh}
use Rattle.hazard_claims.specs.Claiming.{IsAnnounced, IsReleased}
use Rattle.hazard_claims.specs.Scanning.{ClearsWalk}
use Rattle.hazard_claims.specs.declared.claims.Claim.TheVariants.{Back, Own}
use Rattle.node_pool.specs.Pool.{IsAllPutBack}
use Rattle.seat_history.specs.Contents.{Contents}
use Rattle.seat_history.specs.Step.{held_after}
use Rattle.seat_history.specs.declared.call.Call.{Call}
use Rattle.seat_history.specs.declared.entry.Entry.{Entry}
use Rattle.step_rules.proofs.World.Chains.{head_has}
use Rattle.step_rules.proofs.Order.Fronts.{followed_link, length-followed, need_some}
use Rattle.step_rules.proofs.Rely.Writers.{locked_flies}
use Rattle.step_rules.specs.Bags.{times}
use Rattle.step_rules.specs.Claims.{BACK, HOLD, OWN, On, WALK}
use Rattle.step_rules.specs.History.{NoneOn, cell_of}
use Rattle.step_rules.specs.Kinds.Backup.{MayExchange}
use Rattle.step_rules.specs.Records.{dropped_count, edit_of, need, records_at, records_of}
use Rattle.step_rules.specs.SeatData.{IsOf, IsSeat, ObjectData, SeatData}
use Rattle.step_rules.specs.Sound.{Sound}
use Rattle.step_rules.specs.Steps.{DropsNoted, HoldsFront, MayClaim}
use Rattle.step_rules.specs.Versions.{FoundVersion}
use Rattle.step_rules.specs.Views.{announced, announced_view, claim_of, claimed_edit, claimed_pages, claimed_records, cleared_view, counted, followed, fresh_of, silent, stock}
use Rattle.step_rules.specs.World.{has, nodes_of}
use Rattle.step_rules.specs.declared.layout.TheConstants.{NODE_WIDTH}
use Rattle.step_rules.specs.declared.plan.Plan.{Plan}
use Rattle.step_rules.specs.declared.view.Claim.{Claim}
use Rattle.step_rules.specs.declared.view.Counted.{Counted}
use Rattle.step_rules.specs.declared.view.Held.{Held}
use Rattle.step_rules.specs.declared.view.Kind.TheVariants.{ClaimStore}
use Rattle.step_rules.specs.declared.view.Stage.TheVariants.{Grounded, Locked, Waiting}
use Rattle.step_rules.specs.declared.view.View.{View}

-- an own front begins with its node
front_has : (n : ℕ) (call : Call) (v : View) → has (nodes_of (fresh_of n call v)) n ≡ true
front_has n call v =
    let count : ℕ = need (length (claimed_records v)) (claimed_edit call v) in
    let some_there : 0 < count = need_some (length (claimed_records v)) (claimed_edit call v) in
    head_has (fresh_of n call v) n (subst (λ i. 0 < i) (sym (length-followed v.own n count)) some_there) (followed_link v.own n count some_there)

-- so it may be announced
pub may_announce_front : (node : ℕ) (call : Call) (seat : SeatData) → HoldsFront node call seat → seat.view.writer.stage ≢ Locked → MayClaim OWN node seat
may_announce_front node call seat front unlocked = record {
  claim = omega arith;
  own = λ _. front node ∙ front_has node call seat.view;
  hold = λ (e : OWN ≡ HOLD). absurd (omega arith);
  unlocked = λ _. unlocked;
}

-- a seat whose Own claim word is 0 has no change in flight, and so no lock
pub no_lock : (v : View) → Sound v → (claim_of OWN v).word ≡ 0 → v.writer.stage ≢ Locked
no_lock v sound none locked = let on = sound.writer.own (locked_flies v.writer locked) in let at = on.at in absurd (omega arith)

-- after the exchange, won or lost, the seat has no lock
pub exchange_unlocked : (cell seen node : ℕ) (call : Call) (answer : Answer) (before announced exchanged : SeatData) → IsAnnounced Own node before announced
    → Exchanged cell seen node call answer announced exchanged → exchanged.view.writer.stage ≢ Locked
exchange_unlocked cell seen node call Installed before announced exchanged is won =
    let stage : exchanged.view.writer.stage ≡ Waiting = ap (λ (z : View). z.writer.stage) won.won.wins.after in λ locked. let q : Waiting ≡ Locked = sym stage ∙ locked in cc
exchange_unlocked cell seen node call (Moved word) before announced exchanged is lost =
    let stage : exchanged.view.writer.stage ≡ Grounded = ap (λ (z : View). z.writer.stage) lost.view ∙ ap (λ (z : SeatData). z.view.writer.stage) is in
    λ locked. let q : Grounded ≡ Locked = sym stage ∙ locked in cc

-- THE NODE IS ANNOUNCED
module _ (node : ℕ) (u w : SeatData) (is : IsAnnounced Own node u w) where
  abbrev pub announce_step : List Counted
  announce_step = counted (ClaimStore OWN node) (node + 1) (length u.view.seen) ∷ []

  announce_view : w.view ≡ announced_view OWN node u.view
  announce_view = ap (λ (z : SeatData). z.view) is

  pub announce_else : (c : ℕ) → c ≢ OWN → claim_of c w.view ≡ claim_of c u.view
  announce_else c other = ap (λ (z : View). claim_of c z) announce_view ∙ get_or-set_other u.view.claims OWN c (announced OWN node u.view) (silent 0) other

  pub announce_goes : Sound w.view → (k : ℕ) → Goes k (Some (length u.view.seen)) announce_step u w
  announce_goes sound k = goes_still k announce_step u w (subst (λ (z : View). OnlySteps u.view z) (sym announce_view) refl)
      (ap (λ (z : View). z.trail) announce_view) (ap (λ (z : View). z.seen) announce_view) refl
      (ap (λ (z : SeatData). z.object) is) (ap (λ (z : SeatData). z.first) is) (ap stock announce_view) sound

  pub announced_ours : {shared : ObjectData} → IsOf shared u → IsOf shared w
  announced_ours of = record { object = ap (λ (z : SeatData). z.object) is ∙ of.object; plan = ap (λ (z : View). z.plan) announce_view ∙ of.plan }

  -- what the exchange asks for stays
  pages_same : claimed_pages w.view ≡ claimed_pages u.view
  pages_same = ap (λ (y : Claim). y.pages) (announce_else BACK (λ e. absurd (omega arith)))

  own_same : w.view.own ≡ u.view.own
  own_same = ap (λ (z : View). z.own) announce_view

  fresh_same : (call : Call) → fresh_of node call w.view ≡ fresh_of node call u.view
  fresh_same call i = followed (own_same i) node (need (length (records_of (pages_same i))) (edit_of (records_of (pages_same i)) call))

  pub front_announced : (call : Call) → HoldsFront node call u → HoldsFront node call w
  front_announced call front m = ap (λ (z : SeatData). has z.holding m) is ∙ (front m ∙ sym (ap (λ (l : List Held). has (nodes_of l) m) (fresh_same call)))

  pub noted_announced : (call : Call) → DropsNoted call u → DropsNoted call w
  noted_announced call noted =
      ap (λ (l : List Held). nodes_of (drop 1 (take (dropped_count (length (records_of l)) (edit_of (records_of l) call)) l))) pages_same ∙ (noted ∙ sym (ap (λ (z : SeatData). z.noted) is))

  pub near_announced : {cell seen : ℕ} → HasNear cell seen u.view → HasNear cell seen w.view
  near_announced {cell} {seen} h = subst (λ (z : View). HasNear cell seen z) (sym announce_view) (record { word = h.word; found = h.found; near = h.near; fell = h.fell })

  pub may_announced : {cell seen : ℕ} {call : Call} → MayInstall cell seen node call u.view → MayExchange cell seen node call w.view
  may_announced {cell} {seen} {call} may = subst (λ (z : View). MayExchange cell seen node call z) (sym announce_view) may

-- THE EXCHANGE ANSWERED
pub exchanged_ours : {shared : ObjectData} (cell seen node : ℕ) (call : Call) (u w : SeatData) (answer : Answer) → Exchanged cell seen node call answer u w → IsOf shared u → IsOf shared w
exchanged_ours cell seen node call u w Installed e of = record {
  object = ap (λ (z : SeatData). z.object) e.won.same ∙ (e.retried.goes.object ∙ of.object);
  plan = ap (λ (z : View). z.plan) e.won.wins.after ∙ (ap (λ (z : View). z.plan) e.retried.view ∙ of.plan);
}
exchanged_ours cell seen node call u w (Moved word) e of = goes_of e.goes of

-- the seat stays of its object through a refresh
pub refreshed_ours : {shared : ObjectData} (u w : SeatData) → OnlyRefreshed u w → IsOf shared u → IsOf shared w
refreshed_ours u w only of = record {
  object = ap (λ (z : SeatData). z.object) only.same ∙ of.object;
  plan = ap (λ (z : SeatData). z.view.plan) only.same
      ∙ of.plan;
}

-- the change that won is in flight, and its version is one that the seat found before
module _ {cell seen node : ℕ} {call : Call} (before announced exchanged : SeatData) (is : IsAnnounced Own node before announced)
    (won : HasWon cell seen node call announced exchanged) where
  pub won_flight : IsInFlight cell node exchanged.view
  won_flight = subst (λ (z : View). IsInFlight cell node z) (sym won.won.wins.after)
      (record { flies = λ e. let q : Waiting ≡ Grounded = e in cc; cell = refl; node = refl })

  pub won_version : {version : ℕ} → HasBegun cell version seen before.view → FoundVersion cell version exchanged.view.writer.before
  won_version {version} begun =
      let more : List Counted = announce_step node before announced is ++ won.tries in
      let none = won.retried.none_lost in
      let trail : before.view.trail ++ more ≡ exchanged.view.writer.before =
      sym (append_assoc before.view.trail (announce_step node before announced is) won.tries)
      ∙ (ap (λ (t : List Counted). t ++ won.tries) (sym (ap (λ (z : SeatData). z.view.trail) is))
      ∙ (sym won.retried.goes.trail ∙ ap (λ (z : View). z.writer.before) (sym won.won.wins.after))) in
      subst (λ (l : List Counted). FoundVersion cell version l) trail (begun_found before.view more none begun)

-- its refresh tried to clear the mark
pub tries_mark : {cell node version : ℕ} {u w : SeatData} (answer : Refresh) → Refreshes cell node version answer u w → OnlyRefreshed u w
    → TriesMark cell node version u w
tries_mark answer refreshes only =
    let m = marks_of answer refreshes in record { answer = answer; refreshes = refreshes; only = only; steps = m.steps; trail = m.trail; tries = m.tries }

-- the seat stays of its object through an install
pub installed_ours : {shared : ObjectData} {cell version seen node : ℕ} {call : Call} {before after : SeatData}
    → HasInstalled cell version seen node call before after → IsOf shared before
    → IsOf shared after
installed_ours {cell = cell} {seen = seen} {node = node} {call = call} {before = before} {after = after} h of =
    released_ours Own h.refreshed after h.ends (refreshed_ours h.exchanged h.refreshed h.marked.only
    (exchanged_ours cell seen node call h.announced h.exchanged Installed h.won (announced_ours node before h.announced h.announces of)))

-- and through one that kept the held nodes
pub missed_ours : {shared : ObjectData} {cell seen node word : ℕ} {before after : SeatData} (call : Call) → HasMissed cell seen node word before after → IsOf shared before → IsOf shared after
missed_ours {cell = cell} {seen = seen} {node = node} {word = word} {before = before} {after = after} call m of =
    released_ours Own m.exchanged after m.ends
    (exchanged_ours cell seen node call m.announced m.exchanged (Moved word) m.lost (announced_ours node before m.announced m.announces of))

pub missed_holding : {cell seen node word : ℕ} {before after : SeatData} → HasMissed cell seen node word before after → after.holding ≡ before.holding
missed_holding m = ap (λ (z : SeatData). z.holding) m.ends ∙ (ap (λ (z : SeatData). z.holding) m.lost.same ∙ ap (λ (z : SeatData). z.holding) m.announces)

-- which are put back then
pub has_moved : {cell seen node word : ℕ} {before missed after : SeatData} → HasMissed cell seen node word before missed → IsAllPutBack missed after → HasMoved cell seen node word before after
has_moved {after = after} m back =
    let free = ap (λ (z : SeatData). z.free) m.ends ∙ (ap (λ (z : SeatData). z.free) m.lost.same ∙ ap (λ (z : SeatData). z.free) m.announces) in
    record {
      announced = m.announced;
      exchanged = m.exchanged;
      announces = m.announces;
      sound = m.sound;
      lost = m.lost;
      holding = back.holding;
      free = λ n. back.free n ∙ (λ i. times n (free i) + times n (missed_holding m i));
      ends = back.same ∙ ap (λ (z : SeatData). record z { free = after.free; holding = after.holding }) m.ends;
    }

-- WHAT A LOST INSTALL LEAVES
-- between the claim of Own and its end the exchange found another node
pub record LostInstall (cell : ℕ) (before after : SeatData) : Type 0 where
  pub steps : List Counted
  pub goes : Goes cell (Some (length before.view.seen)) steps before after
  pub one_lost : lost_steps steps ≤ 1
  pub paced : Paces 1 0 steps
  pub some_tried : 0 < exchanges steps
  pub none_scanned : scan_loads steps ≡ 0
  pub none_filled : node_stores steps ≡ 0
  pub twice : exchanges steps ≤ 2
  pub few : length steps ≤ 4
  pub changed : ¬ NoneOn after.view.plan cell (drop (length before.view.seen) after.view.seen)
  pub longer : length before.view.seen < length after.view.seen
  pub retired : after.view.retired ≡ before.view.retired
  pub own : after.view.own ≡ before.view.own
  pub own_none : (claim_of OWN after.view).word ≡ 0
  pub others : (c : ℕ) → c ≢ OWN → claim_of c after.view ≡ claim_of c before.view

-- the node was announced, the exchange lost, and the claim ended, whatever became of the held nodes
record Loses (cell seen node word : ℕ) (before u w after : SeatData) : Type 0 where
  pub announces : IsAnnounced Own node before u
  pub known : Sound u.view
  pub lost : HasLost cell seen word u w
  pub view : after.view ≡ cleared_view OWN w.view
  pub object : after.object ≡ w.object
  pub first : after.first ≡ w.first
  pub sound : Sound after.view

module _ {cell seen node word : ℕ} {before u w after : SeatData} (m : Loses cell seen node word before u w after) where
  abbrev cleared : List Counted
  cleared = clearing OWN w

  clear_goes : Goes cell (Some (length w.view.seen)) cleared w after
  clear_goes = goes_still cell cleared w after (subst (λ (z : View). OnlySteps w.view z) (sym m.view) refl)
      (ap (λ (z : View). z.trail) m.view) (ap (λ (z : View). z.seen) m.view) refl
      m.object m.first (ap stock m.view) m.sound

  abbrev lost_all : List Counted
  lost_all = announce_step node before u m.announces ++ (m.lost.tries ++ cleared)

  lost_between : LostInstall cell before after
  lost_between =
      let one = m.lost.one_lost in
      let tried = m.lost.some_tried in
      let none = m.lost.none_scanned in
      let unfilled = m.lost.none_filled in
      let begin : List Counted = announce_step node before u m.announces in
      let view = announce_view node before u m.announces in
      let longer = lost_longer cell (length u.view.seen) w.view.plan w.view.seen m.lost.changed in
      record {
        steps = lost_all;
        goes = goes_then (announce_goes node before u m.announces m.known cell) (goes_then m.lost.goes clear_goes);
        paced = paces_then (paces_still 1 begin refl) (paces_then m.lost.paced (paces_still 0 cleared refl));
        one_lost = omega (arith, lost-append begin (m.lost.tries ++ cleared), lost-append m.lost.tries cleared);
        some_tried = omega (arith, exchanges-append begin (m.lost.tries ++ cleared), exchanges-append m.lost.tries cleared);
        none_scanned = omega (arith, scan_loads-append begin (m.lost.tries ++ cleared), scan_loads-append m.lost.tries cleared);
        none_filled = omega (arith, node_stores-append begin (m.lost.tries ++ cleared), node_stores-append m.lost.tries cleared);
        twice = let few = m.lost.few in omega (arith, exchanges_most m.lost.tries, exchanges-append begin (m.lost.tries ++ cleared), exchanges-append m.lost.tries cleared);
        few = let few = m.lost.few in omega (arith, length-append begin (m.lost.tries ++ cleared), length-append m.lost.tries cleared);
        changed = subst (λ (z : Plan × ℕ × List Entry). ¬ NoneOn z.0 cell (drop z.1 z.2))
            (λ i. (ap (λ (z : View). z.plan) (sym m.view) i, ap (λ (z : View). length z.seen) view i, ap (λ (z : View). z.seen) (sym m.view) i)) m.lost.changed;
        longer = omega (arith, ap (λ (z : View). length z.seen) view, ap (λ (z : View). length z.seen) m.view);
        retired = ap (λ (z : View). z.retired) m.view ∙ (ap (λ (z : View). z.retired) m.lost.view ∙ ap (λ (z : View). z.retired) view);
        own = ap (λ (z : View). z.own) m.view ∙ (ap (λ (z : View). z.own) m.lost.view ∙ ap (λ (z : View). z.own) view);
        own_none = ap (λ (z : View). (claim_of OWN z).word) m.view ∙ cleared_word w.view.claims OWN;
        others = λ c other. ap (λ (z : View). claim_of c z) m.view
            ∙ (get_or-set_other w.view.claims OWN c (silent 0) (silent 0) other
            ∙ (ap (λ (z : View). claim_of c z) m.lost.view ∙ announce_else node before u m.announces c other));
      }

pub missed_install : {cell seen node word : ℕ} {before after : SeatData} → HasMissed cell seen node word before after → IsSeat after → LostInstall cell before after
missed_install m law = lost_between (record {
  announces = m.announces;
  known = m.sound;
  lost = m.lost;
  view = ap (λ (z : SeatData). z.view) m.ends;
  object = ap (λ (z : SeatData). z.object) m.ends;
  first = ap (λ (z : SeatData). z.first) m.ends;
  sound = law.sound;
})

pub lost_install : {cell seen node word : ℕ} {before after : SeatData} → HasMoved cell seen node word before after → IsSeat after → LostInstall cell before after
lost_install m law = lost_between (record {
  announces = m.announces;
  known = m.sound;
  lost = m.lost;
  view = ap (λ (z : SeatData). z.view) m.ends;
  object = ap (λ (z : SeatData). z.object) m.ends;
  first = ap (λ (z : SeatData). z.first) m.ends;
  sound = law.sound;
})

-- HOW A CALL THAT INSTALLED IS ANSWERED
-- it came to `now` by these steps, installed its chain, and then cleared Walk and Back
pub record EndsChange (shared : ObjectData) (cell version seen node : ℕ) (call : Call) (steps : List Counted) (look : ℕ)
    (before now after walked final : SeatData) : Type 0 where
  pub ready : IsReady shared before
  pub first : IsSeat before
  pub left : 0 < before.view.changes
  pub on : cell_of before.view.plan call ≡ cell
  pub keeps : (c : Contents) (held : Option (List ℕ)) → held_after c held call ≡ held
  pub calling : Calling cell steps look before now
  pub paced : Paces 0 1 steps
  pub installed : HasInstalled cell version seen node call now after
  pub loaded : HasVersion cell version steps
  pub walk : ClearsWalk after walked
  pub back : IsReleased Back walked final
  pub last : IsSeat final

module _ {shared : ObjectData} {cell version seen node : ℕ} {call : Call} {steps : List Counted} {look : ℕ} {before now after walked final : SeatData}
    (e : EndsChange shared cell version seen node call steps look before now after walked final) where
  abbrev h : HasInstalled cell version seen node call now after
  h = e.installed

  abbrev walk_ends : EndsWalk after walked
  walk_ends = ends_walk after walked e.walk

  abbrev marks : Marks cell node version h.exchanged h.refreshed
  marks = marks_of h.marked.answer h.marked.refreshes

  abbrev own_clear : List Counted
  own_clear = clearing OWN h.refreshed

  abbrev clears : List Counted
  clears = marks.steps ++ (own_clear ++ (walk_ends.clears ++ clearing BACK walked))

  abbrev before_exchange : List Counted
  before_exchange = steps ++ announce_step node now h.announced h.announces

  ends : EndsBy clears h.exchanged final
  ends = ends_then (ends_refresh marks h.marked.only) (ends_then (ends_one Own h.refreshed after (λ q. absurd (omega arith)) h.ends)
      (ends_then walk_ends.ends (ends_one Back walked final (λ q. absurd (omega arith)) e.back)))

  pub won_change : WonCall cell version seen node call before_exchange clears look before h.announced h.exchanged final
  won_change = record {
    calling = calling_then e.calling (announce_goes node now h.announced h.announces h.sound cell) (announce_else node now h.announced h.announces HOLD (λ q. absurd (omega arith)));
    paced = paces_then e.paced (paces_still 1 (announce_step node now h.announced h.announces) refl);
    won = h.won;
    ended = ends;
    loaded = version_more steps (announce_step node now h.announced h.announces) refl e.loaded;
    tries = tries_more marks.steps (own_clear ++ (walk_ends.clears ++ clearing BACK walked)) marks.tries;
    first = e.first;
    last = e.last;
    idle = e.ready.idle;
    left = e.left;
    on = e.on;
    keeps = e.keeps;
  }

  -- the claim words but Hold's are 0
  pub change_ready : IsReady shared final
  change_ready = won_ready won_change shared e.ready
      (released_word Back walked final e.back)
      (ap (λ (y : Claim). y.word) (released_else Back walked final WALK e.back (λ q. absurd (omega arith))) ∙ walk_ends.none)
      (ap (λ (y : Claim). y.word) (released_else Back walked final OWN e.back (λ q. absurd (omega arith)) ∙ walk_ends.others OWN (λ q. absurd (omega arith)))
      ∙ released_word Own h.refreshed after h.ends)

  -- what it spent
  pub change_scanned : scan_loads (all_steps won_change) ≡ scan_loads steps
  change_scanned = won_scanned won_change ∙ omega (arith, scan_loads-append steps (announce_step node now h.announced h.announces))

  pub change_filled : node_stores (all_steps won_change) ≡ node_stores steps
  change_filled = won_filled won_change ∙ omega (arith, node_stores-append steps (announce_step node now h.announced h.announces))

  pub change_tried : 0 < exchanges (all_steps won_change)
  change_tried = won_tried won_change

  pub change_costs : {most : ℕ} → Costs 0 0 most steps → Costs 0 2 (most + 9 + NODE_WIDTH) (all_steps won_change)
  change_costs {most} costs =
      let first : List Counted = announce_step node now h.announced h.announces in
      let walk = walk_ends.few in
      let marked = marks.few in
      costs_within (won_costs won_change (costs_then {most = most + 1} first costs refl refl (omega arith))) (omega arith) (omega arith)
      (omega (
        arith,
        length-append marks.steps (own_clear ++ (walk_ends.clears ++ clearing BACK walked)),
        length-append own_clear (walk_ends.clears ++ clearing BACK walked),
        length-append walk_ends.clears (clearing BACK walked),
      ))

  -- the cell had the claimed records at its place
  pub change_records : {n : ℕ} → On (claim_of BACK now.view) n → (claim_of BACK now.view).cell ≡ cell
      → records_at final.view.plan (take (stand won_change).place final.view.seen) cell ≡ claimed_records now.view
  change_records {n} stands cell_is =
      let same = announce_else node now h.announced h.announces BACK (λ q. absurd (omega arith)) in
      won_records won_change (subst (λ (y : Claim). On y n) (sym same) stands) (ap (λ (y : Claim). y.cell) same ∙ cell_is) ∙ ap (λ (y : Claim). records_of y.pages) same

-- NODE LOAD, STAND, and a load that changes nothing, keep the rule.
use Rattle.std.proofs.Common.{le_refl, ◌≡◌, ◌≢◌, ℕ, ◌+◌, ◌<◌, List, ◌++◌, ◌∷◌, [], length, get_or, refl, sym, ap, ◌∙◌, subst, arith}
use mathlib.Core.Option.{none}
use Rattle.atomic_table.specs.Table.{step, Allows}
use Rattle.seat_history.specs.declared.call.Call.{Call}
use Rattle.seat_history.specs.declared.reply.Reply.{Reply}
use Rattle.step_rules.proofs.World.Frames.{node_is, one_place}
use Rattle.step_rules.proofs.Line.Kept.{kept_now}
use Rattle.step_rules.proofs.Line.Lawfuls.{lawful_stand}
use Rattle.step_rules.proofs.Rely.Moments.{Moment, load_owed, moment, own_step, seat, world}
use Rattle.step_rules.proofs.Numbers.Sets.{has_first}
use Rattle.step_rules.proofs.Rely.Writers.{versions_step}
use Rattle.step_rules.proofs.Line.Stocks.{stock_push}
use Rattle.step_rules.proofs.Line.Trails.{goes_on_same, trail_stand, trail_step}
use Rattle.step_rules.specs.Kinds.Node.{Reads}
use Rattle.step_rules.specs.Kinds.Standing.{MayStand}
use Rattle.step_rules.specs.Layout.{node_at}
use Rattle.step_rules.specs.Plays.{Mine, glanced, loaded, settled, stood}
use Rattle.step_rules.specs.Rule.{Holds, node_words}
use Rattle.step_rules.specs.Scans.{SeatScan}
use Rattle.step_rules.specs.Seats.{SeatOk}
use Rattle.step_rules.specs.Views.{counted, loaded_view, reading, stood_view}
use Rattle.step_rules.specs.World.{World}
use Rattle.step_rules.specs.declared.layout.TheConstants.{NODE_WIDTH}
use Rattle.step_rules.specs.declared.plan.Plan.{Plan}
use Rattle.step_rules.specs.declared.view.Counted.{Counted}
use Rattle.step_rules.specs.declared.view.Kind.TheVariants.{NodeLoad, VersionLoad}
use Rattle.step_rules.specs.declared.view.Scan.{Scan}
use Rattle.step_rules.specs.declared.view.View.{View}

-- a step that is counted, and moves at most the scan
pub counted_ok : (p : Plan) (W : World) (id : ℕ) (v : View) (made : Counted) (scan : Scan) → SeatOk p W id v → made.seen ≡ length v.seen
    → ((k : ℕ) → made.kind ≢ VersionLoad k) → SeatScan p W.guard scan v.retired
    → SeatOk p W id (record v { trail = v.trail ++ made ∷ []; scan = scan })
counted_ok p W id v made scan ok seen other scan_ok = record {
  plan = ok.plan;
  numbers = ok.numbers;
  nodes = ok.nodes;
  stock = ok.stock;
  seen = ok.seen;
  earlier = ok.earlier;
  lawful = ok.lawful;
  trail = trail_step v.seen made ok.trail (goes_on_same v.seen) (omega arith);
  look = ok.look;
  claims = ok.claims;
  scan = scan_ok;
  versions = versions_step made other ok.versions;
  writer = ok.writer;
  reader = ok.reader;
}

stood_ok : (W : World) (id q : ℕ) (call : Call) (reply : Reply) (v : View) → 0 < length v.numbers → MayStand q call reply v → SeatOk v.plan W id v
    → SeatOk v.plan W id (stood_view q call reply v)
stood_ok W id q call reply v numbered may ok = record {
  plan = ok.plan;
  numbers = ok.numbers;
  nodes = ok.nodes;
  stock = stock_push (reading q call reply v) (length v.own + length v.retired) v.removes ok.stock refl
      (omega arith);
  seen = ok.seen;
  earlier = ok.earlier;
  lawful = lawful_stand (reading q call reply v) ok.lawful (has_first v.numbers numbered) refl may.right may.above
      (kept_now v.numbers (reading q call reply v) refl refl (has_first v.numbers numbered) ok.numbers.once ok.lawful.by ok.stock) (λ x h. h);
  trail = trail_stand ok.trail;
  look = ok.look;
  claims = ok.claims;
  scan = ok.scan;
  versions = ok.versions;
  writer = ok.writer;
  reader = ok.reader;
}

-- the node's words, as the seat knows them
reads : (m : Moment) (n j : ℕ) → j < NODE_WIDTH → Reads n j (get_or m.ws (node_at m.view.plan n j) 0) m.view
reads m n j inside = let ok = seat m in record {
  own = λ i h at same. found h.node h.words same (ok.nodes.words i h at);
  claim = λ c y at on. found n y.image refl (ok.claims.image c n y at on);
}
  where
    found : (k : ℕ) (known : List ℕ) → k ≡ n → node_words m.view.plan m.ws k ≡ known → get_or m.ws (node_at m.view.plan n j) 0 ≡ get_or known j 0
    found k known same is = node_is m.view.plan m.ws n j inside ∙ ap (λ (z : List ℕ). get_or z j 0) (ap (node_words m.view.plan m.ws) (sym same) ∙ is)

pub loads : (slots id : ℕ) (me : Mine) (n j : ℕ) → 0 < length me.0.numbers → j < NODE_WIDTH
    → Allows (Holds me.0.plan) slots id me (node_at me.0.plan n j) (λ x. x) (loaded (step slots (node_at me.0.plan n j) 0 0 none) me)
loads slots id me n j numbered inside s r _ at _ =
    let p = me.0.plan in
    let m = moment id me numbered s r at in
    let x = get_or s.words (node_at p n j) 0 in
    let w = loaded_view n j x me.0 in
    let made = own_step m w (counted_ok p (world m) id me.0 (counted (NodeLoad n j) x (length me.0.seen)) me.0.scan (seat m) refl (λ k e. cc) (seat m).scan) (le_refl me.0.changes) in
    load_owed id me numbered s r at _ (node_at p n j) w made refl numbered (λ a b e below. let q = one_place p n j a b e inside below in
    subst (λ (z : ℕ × ℕ). (w ≡ loaded_view z.0 z.1 x me.0) × Reads z.0 z.1 x me.0) (λ c. (q.0 c, q.1 c)) (refl, reads m n j inside))

-- a load that isn't counted
pub glances : (slots id : ℕ) (me : Mine) (n j : ℕ) → 0 < length me.0.numbers → j < NODE_WIDTH
    → Allows (Holds me.0.plan) slots id me (node_at me.0.plan n j) (λ x. x) (glanced (step slots (node_at me.0.plan n j) 0 0 none) me)
glances slots id me n j numbered inside s r _ at _ =
    let p = me.0.plan in
    let m = moment id me numbered s r at in
    let x = get_or s.words (node_at p n j) 0 in
    load_owed id me numbered s r at _ (node_at p n j) me.0 (own_step m me.0 (seat m) (le_refl me.0.changes)) refl numbered (λ a b e below. let q = one_place p n j a b e inside below in
    subst (λ (z : ℕ × ℕ). (me.0 ≡ me.0) × Reads z.0 z.1 x me.0) (λ c. (q.0 c, q.1 c)) (refl, reads m n j inside))

pub stands : (slots id : ℕ) (me : Mine) (i q : ℕ) (call : Call) (reply : Reply) → 0 < length me.0.numbers → MayStand q call reply me.0
    → Allows (Holds me.0.plan) slots id me i (λ x. x) (stood q call reply (step slots i 0 0 none) me)
stands slots id me i q call reply numbered may s r _ at _ =
    let m = moment id me numbered s r at in
    let made = own_step m (stood_view q call reply me.0) (stood_ok (world m) id q call reply me.0 numbered may (seat m)) (le_refl me.0.changes) in
    load_owed id me numbered s r at _ i (stood_view q call reply me.0) made refl numbered (λ zero. refl)

pub settles : (slots id : ℕ) (me : Mine) (i : ℕ) → 0 < length me.0.numbers → Allows (Holds me.0.plan) slots id me i (λ x. x) (settled (step slots i 0 0 none) me)
settles slots id me i numbered s r _ at _ = let m = moment id me numbered s r at in
    load_owed id me numbered s r at _ i me.0 (own_step m me.0 (seat m) (le_refl me.0.changes)) refl numbered refl

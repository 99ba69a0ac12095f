-- A seat's nodes and removes before and after one more stand.
use Rattle.std.proofs.Common.{◌≡◌, ◌∙◌, ℕ, ◌+◌, Bool, true, false, cond, List, [], ◌∷◌, ◌++◌, length, refl, sym, ap, subst, arith}
use Rattle.std.proofs.lemmas.List.Sums.{sum_by_push}
use Rattle.big_atomic.specs.Calls.{Answered, NodesStay}
use Rattle.seat_history.specs.declared.call.Call.{Call}
use Rattle.seat_history.specs.declared.entry.Entry.{Entry}
use Rattle.seat_history.specs.declared.reply.Reply.{Reply}
use Rattle.step_rules.proofs.Line.Stocks.{stock_more}
use Rattle.step_rules.specs.History.{GoesOn}
use Rattle.step_rules.specs.Records.{cost_at, cost_of, edit_of, found_at, gain_at, gain_of}
use Rattle.step_rules.specs.SeatData.{IsSeat, SeatData}
use Rattle.step_rules.specs.Stock.{IsStock, stand_cost, stand_gain, stand_removes}
use Rattle.step_rules.specs.declared.plan.Plan.{Plan}
use Rattle.step_rules.specs.declared.view.Stand.{Stand}
use Rattle.step_rules.specs.declared.view.View.{View}

-- what its nodes and removes came from holds at both, so the stand alone tells them apart
module _ (stand : Stand) {before after : SeatData} (first : IsSeat before) (last : IsSeat after) (stands : after.view.stands ≡ before.view.stands ++ stand ∷ [])
    (seen : GoesOn before.view.seen after.view.seen) (plan : after.view.plan ≡ before.view.plan) (numbers : after.view.numbers ≡ before.view.numbers) where
  abbrev v : View
  v = before.view

  abbrev w : View
  w = after.view

  was : IsStock w.plan (length w.numbers) w.seen v.stands (length v.own + length v.retired) v.removes
  was = subst (λ (z : Plan × List ℕ × List Entry). IsStock z.0 (length z.1) z.2 v.stands (length v.own + length v.retired) v.removes)
      (λ i. (sym plan i, sym numbers i, sym seen.1 i))
      (stock_more seen.0 (λ i s at. (first.sound.lawful.right i s at).place) first.sound.stock)

  is_now : IsStock w.plan (length w.numbers) w.seen (v.stands ++ stand ∷ []) (length w.own + length w.retired) w.removes
  is_now = subst (λ (ss : List Stand). IsStock w.plan (length w.numbers) w.seen ss (length w.own + length w.retired) w.removes) stands last.sound.stock

  pub balance : before.holding ≡ [] → after.holding ≡ []
      → length after.free + length w.retired + stand_cost w.plan w.seen stand ≡ length before.free + length v.retired + stand_gain w.plan w.seen stand
  balance idle idle_now =
      let was_even = was.even in
      let is_even = is_now.even in
      let a = first.long in
      let b = last.long in
      omega (
        arith,
        sum_by_push (stand_cost w.plan w.seen) v.stands stand,
        sum_by_push (stand_gain w.plan w.seen) v.stands stand,
        ap (length {A = ℕ}) idle,
        ap (length {A = ℕ}) idle_now,
      )

  pub removes_spent : w.removes + stand_removes stand ≡ v.removes
  removes_spent =
      let before_it = was.removed in
      let with_it = is_now.removed in omega (arith, sum_by_push stand_removes v.stands stand)

-- the call costs its seat no node and gives it none, whatever its cell has
abbrev pub CostsNone : Call → Type 0
CostsNone call = (rs : List (List ℕ)) → (cost_of (length rs) (edit_of rs call) ≡ 0) × (gain_of (length rs) (edit_of rs call) ≡ 0)

cond_none : (b : Bool) (x : ℕ) → x ≡ 0 → cond b x 0 ≡ 0
cond_none true x e = e
cond_none false x e = refl

-- such a call leaves as many nodes as there were
pub nodes_stay : {k : ℕ} {call : Call} {told : Reply} {before after : SeatData} → CostsNone call → Answered k call told before after → NodesStay before after
nodes_stay {call = call} {after = after} none a =
    let p : Plan = after.view.plan in
    let seen : List Entry = after.view.seen in
    let s : Stand = a.stand in
    let both = none (found_at p seen s.place call) in
    let cost : stand_cost p seen s ≡ 0 = cond_none s.changes (cost_at p seen s.place s.call) (ap (λ (c : Call). cost_at p seen s.place c) a.stood.call ∙ both.0) in
    let gain : stand_gain p seen s ≡ 0 = cond_none s.changes (gain_at p seen s.place s.call) (ap (λ (c : Call). gain_at p seen s.place c) a.stood.call ∙ both.1) in
    let even = a.nodes.even in
    record { object = a.nodes.object; first = a.nodes.first; nodes = omega arith }

-- The stock of a seat.
use Rattle.std.proofs.Common.{◌≡◌, ◌∙◌, ℕ, ◌+◌, ◌*◌, ◌≤◌, suc, Bool, true, false, cond, List, [], ◌∷◌, ◌++◌, length, mul-add, take, refl, sym, ap, arith}
use Rattle.std.proofs.lemmas.Bool.{eqb-true}
use Rattle.std.proofs.lemmas.List.{take-append-le}
use Rattle.std.proofs.lemmas.List.Sums.{sum_by-cons, sum_by-append, sum_by_push}
use mathlib.Core.Option.{some}
use lib.ListN.{get_elem?}
use Rattle.seat_history.specs.Key.{key_number}
use Rattle.seat_history.specs.declared.call.Call.{Call}
use Rattle.seat_history.specs.declared.call.Call.TheVariants.{Look, Release, Remove}
use Rattle.seat_history.specs.declared.entry.Entry.{Entry}
use Rattle.step_rules.specs.History.{cell_of}
use Rattle.step_rules.specs.Records.{cost_of, edit_of, gain_at, gain_of, out, place_in, records_at, removes_of}
use Rattle.step_rules.specs.Stock.{IsStock, costs, gains, removals, stand_cost, stand_gain, stand_removes}
use Rattle.step_rules.specs.declared.plan.Plan.{Plan}
use Rattle.step_rules.specs.declared.view.Stand.{Stand}

-- what a call costs and gives at the end of the history
abbrev cost_in : Plan → List Entry → Call → ℕ
cost_in p log call = cost_of (length (records_at p log (cell_of p call))) (edit_of (records_at p log (cell_of p call)) call)

abbrev gain_in : Plan → List Entry → Call → ℕ
gain_in p log call = gain_of (length (records_at p log (cell_of p call))) (edit_of (records_at p log (cell_of p call)) call)

-- as more is seen
pub costs_more : (p : Plan) (a r : List Entry) (ss : List Stand) → ((i : ℕ) (s : Stand) → get_elem? ss i ≡ some s → s.place ≤ length a) → costs p (a ++ r) ss ≡ costs p a ss
costs_more p a r [] placed = refl
costs_more p a r (s ∷ ss) placed = sum_by-cons (stand_cost p (a ++ r)) s ss
    ∙ ((λ i. cond s.changes (cost_in p (take-append-le s.place a r (placed 0 s refl) i) s.call) 0 + costs_more p a r ss (λ j t at. placed (suc j) t at) i)
    ∙ sym (sum_by-cons (stand_cost p a) s ss))

pub gains_more : (p : Plan) (a r : List Entry) (ss : List Stand) → ((i : ℕ) (s : Stand) → get_elem? ss i ≡ some s → s.place ≤ length a) → gains p (a ++ r) ss ≡ gains p a ss
gains_more p a r [] placed = refl
gains_more p a r (s ∷ ss) placed = sum_by-cons (stand_gain p (a ++ r)) s ss
    ∙ ((λ i. cond s.changes (gain_in p (take-append-le s.place a r (placed 0 s refl) i) s.call) 0 + gains_more p a r ss (λ j t at. placed (suc j) t at) i)
    ∙ sym (sum_by-cons (stand_gain p a) s ss))

-- only a remove gives a node, and but one
out_gain : (n i : ℕ) → gain_of n (out i) ≤ 1
out_gain n i = grind (arith, eqb-true n 1)

gain_few : (rs : List (List ℕ)) (call : Call) → gain_of (length rs) (edit_of rs call) ≤ removes_of call
gain_few rs Look = omega arith
gain_few rs Release = omega arith
gain_few rs (Remove key) = out_gain (length rs) (place_in rs (key_number key))
gain_few rs _ = omega arith

cond_few : (b : Bool) (x y : ℕ) → x ≤ y → cond b x 0 ≤ cond b y 0
cond_few true x y h = h
cond_few false x y h = omega arith

pub gains_few : (p : Plan) (seen : List Entry) (ss : List Stand) → gains p seen ss ≤ removals ss
gains_few p seen [] = omega arith
gains_few p seen (s ∷ ss) = omega (
  arith,
  sum_by-cons (stand_gain p seen) s ss,
  sum_by-cons stand_removes s ss,
  gains_few p seen ss,
  cond_few s.changes (gain_at p seen s.place s.call) (removes_of s.call)
      (gain_few (records_at p (take s.place seen) (cell_of p s.call)) s.call),
)

pub stock_more : {p : Plan} {count : ℕ} {a : List Entry} {ss : List Stand} {n m : ℕ} (r : List Entry) → ((i : ℕ) (s : Stand) → get_elem? ss i ≡ some s → s.place ≤ length a)
    → IsStock p count a ss n m
    → IsStock p count (a ++ r) ss n m
stock_more {p = p} {count = count} {a = a} {ss = ss} {n = n} r placed k = record {
  even = ap (λ c. n + c) (costs_more p a r ss placed) ∙ (k.even ∙ ap (λ g. p.share * count + g) (sym (gains_more p a r ss placed)));
  removed = k.removed;
}

-- one more stand
pub stock_push : {p : Plan} {count : ℕ} {seen : List Entry} {ss : List Stand} {n m : ℕ} (s : Stand) (n' m' : ℕ) → IsStock p count seen ss n m
    → n' + stand_cost p seen s ≡ n + stand_gain p seen s → m' + stand_removes s ≡ m → IsStock p count seen (ss ++ s ∷ []) n' m'
stock_push {p = p} {seen = seen} {ss = ss} s n' m' k even removed = record {
  even = omega (arith, k.even, even, sum_by_push (stand_cost p seen) ss s, sum_by_push (stand_gain p seen) ss s);
  removed = omega (arith, k.removed, removed, sum_by_push stand_removes ss s);
}

-- no more than the shares and the removes allow
pub stock_within : {p : Plan} {count : ℕ} {seen : List Entry} {ss : List Stand} {n m : ℕ} → IsStock p count seen ss n m → n ≤ p.share * count + p.removes * count
stock_within {p = p} {seen = seen} {ss = ss} k = omega (arith, k.even, k.removed, gains_few p seen ss)

-- two seats' together
pub stock_join : {p : Plan} {a b : ℕ} {seen : List Entry} {ss tt : List Stand} {n n' m m' : ℕ} → IsStock p a seen ss n m → IsStock p b seen tt n' m'
    → IsStock p (a + b) seen (ss ++ tt) (n + n') (m + m')
stock_join {p = p} {a = a} {b = b} {seen = seen} {ss = ss} {tt = tt} k l = record {
  even = omega (arith, k.even, l.even, sum_by-append (stand_cost p seen) ss tt, sum_by-append (stand_gain p seen) ss tt, mul-add p.share a b);
  removed = omega (arith, k.removed, l.removed, sum_by-append stand_removes ss tt, mul-add p.removes a b);
}

-- without stands
pub stock_fresh : (p : Plan) (count : ℕ) (seen : List Entry) (ss : List Stand) (n m : ℕ) → ss ≡ [] → n ≡ p.share * count → m ≡ p.removes * count → IsStock p count seen ss n m
stock_fresh p count seen [] n m none a b = record { even = omega arith; removed = omega arith }
stock_fresh p count seen (s ∷ ss) n m none a b = absurd cc

pub stock_unused : (p : Plan) (count : ℕ) (seen : List Entry) (ss : List Stand) (n m : ℕ) → ss ≡ [] → IsStock p count seen ss n m → n ≡ p.share * count
stock_unused p count seen [] n m none k = omega (arith, k.even)
stock_unused p count seen (s ∷ ss) n m none k = absurd cc

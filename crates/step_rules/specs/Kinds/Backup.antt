-- Looks at a cell's backup, and exchanges of it.
use Rattle.std.specs.Prelude.{◌≡◌, ◌≢◌, ℕ, ◌/◌, ◌<◌, ◌≤◌, true, List, ◌++◌, Some, drop}
use mathlib.Core.Option.{some}
use lib.ListN.{get_elem?}
use Rattle.seat_history.specs.declared.call.Call.{Call}
use Rattle.seat_history.specs.declared.entry.Entry.{Entry}
use Rattle.step_rules.specs.Claims.{BACK, OWN, On, Tells}
use Rattle.step_rules.specs.History.{IsThere, IsWide, NoneBy, NoneOn, cell_of}
use Rattle.step_rules.specs.Recent.{IsRecent}
use Rattle.step_rules.specs.Records.{fresh_records, is_change_in, records_of, removes_of}
use Rattle.step_rules.specs.Views.{claimed_edit, claimed_records, fresh_of, kept_of, looked_view, won_view}
use Rattle.step_rules.specs.World.{Linked, Once, has, link, nodes_of}
use Rattle.step_rules.specs.declared.view.Claim.{Claim}
use Rattle.step_rules.specs.declared.view.Kind.{Kind}
use Rattle.step_rules.specs.declared.view.Look.{Look}
use Rattle.step_rules.specs.declared.view.View.{View}

-- the word x was found in the cell k, the whole history being log. Where the last look at this cell found another word, there is an entry on the
-- cell since; where a claim on Back or Hold of this cell stands, there is one exactly where the node found is another
pub record Looks (kind : Kind) (k x : ℕ) (v w : View) : Type 0 where
  pub log : List Entry
  pub after : w ≡ looked_view kind k x log v
  pub rest : List Entry
  pub seen : log ≡ v.seen ++ rest
  -- what is new is of other callers
  pub others : (y : ℕ) → has v.numbers y ≡ true → NoneBy y rest
  pub recent : IsRecent v.plan k x log
  pub moved : (l : Look) → v.look ≡ Some l → l.cell ≡ k → x / 2 ≢ l.word / 2 → ¬ NoneOn v.plan k (drop l.at log)
  pub falls : (l : Look) → v.look ≡ Some l → l.cell ≡ k → NoneOn v.plan k (drop l.at log) → x ≤ l.word
  pub calm : (c n : ℕ) (y : Claim) → get_elem? v.claims c ≡ some y → Tells c → On y n → y.cell ≡ k → x / 2 ≡ n → NoneOn v.plan k (drop y.at log)
  pub gone : (c n : ℕ) (y : Claim) → get_elem? v.claims c ≡ some y → Tells c → On y n → y.cell ≡ k → x / 2 ≢ n → ¬ NoneOn v.plan k (drop y.at log)

-- what an exchange of the cell k from the word x to the own node n asks of its seat, for a call: its Back claim stands on the node of x, and
-- its Own claim on n; own nodes from n on are the front that the call makes, linked to what it keeps of the claimed chain
pub record MayExchange (k x n : ℕ) (call : Call) (v : View) : Type 0 where
  pub back : Claim
  pub claimed : get_elem? v.claims BACK ≡ some back
  pub stands : On back (x / 2)
  pub cell : back.cell ≡ k
  pub mine : Claim
  pub announced : get_elem? v.claims OWN ≡ some mine
  pub guarded : On mine n
  pub on : cell_of v.plan call ≡ k
  pub there : IsThere v.plan call
  pub changes : is_change_in (claimed_records v) call ≡ true
  pub wide : IsWide call
  pub own : (m : ℕ) → has (nodes_of (fresh_of n call v)) m ≡ true → has (nodes_of v.own) m ≡ true
  pub once : Once (nodes_of (fresh_of n call v))
  pub linked : Linked (fresh_of n call v) (link (kept_of call v) 0)
  pub records : records_of (fresh_of n call v) ≡ fresh_records (claimed_records v) (claimed_edit call v)
  pub left : 0 < v.changes
  pub removes : removes_of call ≤ v.removes

-- the exchange won: the cell was what it was where the Back claim began to stand
pub record Wins (k x n : ℕ) (call : Call) (v w : View) : Type 0 where
  pub log : List Entry
  pub after : w ≡ won_view k x n call log v
  pub rest : List Entry
  pub seen : log ≡ v.seen ++ rest
  pub recent : IsRecent v.plan k x log
  pub calm : (y : Claim) → get_elem? v.claims BACK ≡ some y → NoneOn v.plan k (drop y.at log)

-- A look is recent: what it sees of the history is the whole of it at that moment.
use Rattle.std.specs.Prelude.{◌≡◌, ℕ, ◌*◌, ◌/◌, ◌<◌, List}
use mathlib.Core.Option.{some}
use lib.ListN.{get_elem?}
use Rattle.seat_history.specs.declared.entry.Entry.{Entry}
use Rattle.step_rules.specs.History.{GoesOn, NoneOn}
use Rattle.step_rules.specs.Layout.{cells}
use Rattle.step_rules.specs.Readers.{IsFirst}
use Rattle.step_rules.specs.Records.{records_at}
use Rattle.step_rules.specs.Rule.{HoldsAt, backup_word, node_words}
use Rattle.step_rules.specs.World.{Unwritten}
use Rattle.step_rules.specs.declared.plan.Plan.{Plan}
use Rattle.step_rules.specs.declared.view.View.{View}

-- at a moment at which the rule held, the backup word of the cell k was x, and the whole history was log: so log has the change that put x there
pub record IsRecent (p : Plan) (k x : ℕ) (log : List Entry) : Type 0 where
  pub words : List ℕ
  pub views : List View
  pub unwritten : Unwritten
  pub rule : HoldsAt p words views unwritten
  pub whole : unwritten.log ≡ log
  pub found : backup_word p words k ≡ x

-- at that moment no seat had seen more, the node of x had the words of the cell's first record after log, and x was the cell's first word
-- where log has no entry on the cell
pub record RecentTells {p : Plan} {k x : ℕ} {log : List Entry} (look : IsRecent p k x log) : Type 0 where
  pub seen : (s : ℕ) (v : View) → get_elem? look.views s ≡ some v → GoesOn v.seen log
  pub node : IsFirst (records_at p log k) (node_words p look.words (x / 2))
  pub untouched : NoneOn p k log → x ≡ 2 * k

abbrev pub LooksAreRecent : Type 0
LooksAreRecent = (p : Plan) (k x : ℕ) (log : List Entry) (look : IsRecent p k x log) → k < cells p → RecentTells look

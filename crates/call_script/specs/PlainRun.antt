-- What comes of a script's lines, called on the object of one thread.
use Rattle.std.specs.Prelude.{◌≡◌, ℕ, All, List, length}
use Rattle.seat_history.specs.History.{object_from, replies_from}
use Rattle.seat_history.specs.Object.{blank_object}
use Rattle.seat_history.specs.Pairs.{ArePairsOf, IsPairInRange}
use Rattle.seat_history.specs.declared.entry.Entry.{Entry}
use Rattle.call_script.specs.Run.{IsOrderOf, items_at, registers_in}
use Rattle.call_script.specs.declared.driven.PlainRun.{PlainRun}

-- called in this order, the object of one thread gives each line its reply, and these are its registers and pairs in the end; no word of a
-- pair is beyond 64 bits
pub record RunsPlainIn (order : List ℕ) (lines : List Entry) (run : PlainRun) : Type 0 where
  pub each_replied : length run.replies ≡ length lines
  pub replies : items_at run.replies order ≡ replies_from blank_object (items_at lines order)
  pub registers : run.registers ≡ registers_in (object_from blank_object (items_at lines order)) 16
  pub pairs : ArePairsOf (object_from blank_object (items_at lines order)).contents.values run.pairs
  pub in_range : All IsPairInRange run.pairs

-- what comes of the lines in some order of them
abbrev pub IsPlainRun : List Entry → PlainRun → Type 0
IsPlainRun lines run = (order : List ℕ) × IsOrderOf lines order × RunsPlainIn order lines run

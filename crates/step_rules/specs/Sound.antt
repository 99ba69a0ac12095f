-- What a seat knows of its own view, with no regard to the words.
use Rattle.std.specs.Prelude.{◌≡◌, ℕ, ◌+◌, ◌*◌, ◌<◌, ◌≤◌, true, Some, length}
use mathlib.Core.Option.{some}
use lib.ListN.{get_elem?}
use Rattle.step_rules.specs.Claims.{ClaimsSound, OWN}
use Rattle.step_rules.specs.History.{GoesOn, IsHistory}
use Rattle.step_rules.specs.Lawful.{Lawful}
use Rattle.step_rules.specs.Layout.{IsPlan, nodes}
use Rattle.step_rules.specs.Looks.{IsLook}
use Rattle.step_rules.specs.Nodes.{IsNode}
use Rattle.step_rules.specs.Readers.{ReaderSound}
use Rattle.step_rules.specs.Scans.{ScanSound}
use Rattle.step_rules.specs.Stock.{IsStock}
use Rattle.step_rules.specs.Trail.{IsTrail}
use Rattle.step_rules.specs.Views.{claim_of}
use Rattle.step_rules.specs.World.{Once, has, nodes_of}
use Rattle.step_rules.specs.Writers.{WriterSound}
use Rattle.step_rules.specs.declared.view.Held.{Held}
use Rattle.step_rules.specs.declared.view.Look.{Look}
use Rattle.step_rules.specs.declared.view.View.{View}

pub record Sound (v : View) : Type 0 where
  pub plan : IsPlan v.plan
  -- numbers: some, each once, below the count of seats
  pub some_number : 0 < length v.numbers
  pub below : (x : ℕ) → has v.numbers x ≡ true → x < v.plan.seats
  pub once : Once v.numbers
  -- nodes: each once; own and retired ones are as many as the shares
  pub node : (i : ℕ) (h : Held) → get_elem? v.own i ≡ some h → IsNode v.plan h
  pub own_once : Once (nodes_of v.own)
  pub retired_once : Once v.retired
  pub retired : (n : ℕ) → has v.retired n ≡ true → n < nodes v.plan
  pub stock : IsStock v.plan (length v.numbers) v.seen v.stands (length v.own + length v.retired) v.removes
  -- history and stands
  pub history : IsHistory v.plan v.seen
  pub earlier : GoesOn v.earlier v.seen
  pub lawful : Lawful v.plan v.numbers v.seen v.stands
  pub trail : IsTrail v.since v.trail v.seen
  pub look : (l : Look) → v.look ≡ Some l → IsLook v.plan v.seen l
  pub claims : ClaimsSound v.plan v.seen v.claims
  pub scan : ScanSound v.plan v.scan v.retired
  pub writer : WriterSound v.plan v.seen (claim_of OWN v) v.writer
  pub reader : ReaderSound v.plan v.seen v.reader
  -- the removes left are no more than the plan allows to the numbers; what was seen and the changes left, no more than all that it allows
  pub within : length v.seen + v.changes ≤ v.plan.seats * v.plan.changes

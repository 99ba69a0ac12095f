-- What the output sink showed in a run.
use Rattle.std.specs.Prelude.{◌≡◌, ℕ, ◌<◌, List, length, take, Option, Result, Ok, Err}
use Rattle.wire_ports.specs.Bytes.{Appends}
use Rattle.wire_ports.specs.Ports.{HasRisen}
use Rattle.wire_ports.specs.Putting.{Writes, HasPut}
use Rattle.wire_ports.specs.declared.sink.PutFailed.{PutFailed}
use Rattle.flow_tally.specs.declared.status.Status.{Status}
use Rattle.flow_tally.specs.declared.status.Status.TheVariants.{Done, WriteFault}

-- its faults and what it took, from before to after; that it is as it was; and that this text was put into it
-- by writes that each were offered all that was left of it, which ended so
pub record OutShown : Type 1 where
  pub before : ℕ
  pub after : ℕ
  pub taken_before : Option (List ℕ)
  pub taken_after : Option (List ℕ)
  pub same : Type 0
  pub puts : List ℕ → Result (Unit {0}) PutFailed → Type 0

-- that, by what the sink tells of its old and new state
abbrev pub out_shown : {Sink : Type 0} → (Sink → ℕ) → (Sink → Option (List ℕ)) → Writes Sink → Sink → Sink → OutShown
out_shown faults taken writes old new = record {
  before = faults old;
  after = faults new;
  taken_before = taken old;
  taken_after = taken new;
  same = new ≡ old;
  puts = λ text ended. HasPut writes text old ended new;
}

-- the sink is as it was: it took nothing, and no write failed
pub record IsUntouched (out : OutShown) : Type 0 where
  pub same : out.same
  pub nothing : out.taken_after ≡ out.taken_before
  pub no_fault : out.after ≡ out.before

-- the sink took the whole text, which was handed over at once, and no write failed
pub record TookAll (text : List ℕ) (out : OutShown) : Type 0 where
  pub at_once : out.puts text (Ok tt)
  pub all : Appends out.taken_before text out.taken_after
  pub no_fault : out.after ≡ out.before

-- the sink took so many first bytes of the text, which was handed over at once, and its count rose
pub record TookFront (text : List ℕ) (written : ℕ) (out : OutShown) : Type 0 where
  pub at_once : out.puts text (Err (record { written = written }))
  pub risen : HasRisen out.before out.after
  pub within : written < length text
  pub front : Appends out.taken_before (take written text) out.taken_after

-- the sink took the text, or so many first bytes of it
abbrev pub Took : List ℕ → OutShown → Status → Type 0
Took text out Done = TookAll text out
Took text out (WriteFault written) = TookFront text written out
Took text out _ = ⊥

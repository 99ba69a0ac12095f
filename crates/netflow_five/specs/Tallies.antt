-- What is kept of an engine's datagrams while they are counted.
use Rattle.std.specs.Prelude.{◌≡◌, ℕ, ◌*◌, ◌^◌, ◌≤◌, List, [], ◌∷◌, ◌++◌, length, Option, MatchOption}
use Rattle.std.specs.List.{sum_by}
use Rattle.netflow_five.specs.Engines.{Engine, sent_by}
use Rattle.netflow_five.specs.Gaps.{gaps, lost_among, next_sequence, resets_among}
use Rattle.netflow_five.specs.declared.engine_line.EngineLine.{EngineLine}
use Rattle.netflow_five.specs.declared.seq_mark.SeqMark.{SeqMark}
use Rattle.netflow_five.specs.declared.tally.Tally.{Tally}

-- the next sequence number is that after the last datagram
abbrev pub Expects : List SeqMark → ℕ → Type 0
Expects sent next = (before : List SeqMark) × (last : SeqMark) × (sent ≡ before ++ last ∷ []) × (next ≡ next_sequence last)

-- the tally of some datagrams of one engine, and how large it may have grown with them
pub record IsTally (sent : List SeqMark) (tally : Tally) : Type 0 where
  pub next : Expects sent tally.next
  pub flows : tally.flows ≡ sum_by (λ mark. mark.count) sent
  pub lost : tally.lost ≡ lost_among (gaps sent)
  pub resets : tally.resets ≡ resets_among (gaps sent)
  pub few_flows : tally.flows ≤ 2 ^ 32 * length sent
  pub few_lost : tally.lost ≤ 2 ^ 31 * length sent
  pub few_resets : tally.resets ≤ length sent

-- each engine has the tally of its datagrams; one that sent none has none
abbrev pub HasTallied : List SeqMark → (Engine → Option Tally) → Type 0
HasTallied marks at = (engine : Engine) → MatchOption (at engine) (sent_by engine marks ≡ []) (IsTally (sent_by engine marks))

-- what is told of an engine with this tally
abbrev pub line_with : Engine → Tally → EngineLine
line_with engine tally = record { engine_type = engine.0; engine_id = engine.1; flows = tally.flows; lost = tally.lost; resets = tally.resets }

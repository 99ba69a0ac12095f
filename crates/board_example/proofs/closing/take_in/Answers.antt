use Rattle.std.proofs.Common.{◌∙◌, ap}
use Rattle.board_example.proofs.Making.{kept_both}
use Rattle.step_rules.specs.SeatData.{SeatData}
use Rattle.board_example.proofs.closing.take_in.Goals as goal

pub returns-clause-done : goal.returns-clause-done
returns-clause-done c =
    let joined = c.join.ensures.joined in record {
      ours = record { object = ap (λ (s : SeatData). s.object) joined.seat ∙ c.requires.done.ours.object; plan = ap (λ (s : SeatData). s.view.plan) joined.seat ∙ c.requires.done.ours.plan };
      quiet = joined.quiet;
      kept = kept_both c.join.new.into.view.stands c.requires.done.kept c.requires.theirs.kept (ap (λ (s : SeatData). s.view.stands) joined.seat);
    }

use Rattle.std.proofs.Common.{ℕ, ap, subst, sym}
use Rattle.atomic_table.specs.Table.{Me}
use Rattle.worker_gate.specs.Seats.{IsLawful}
use Rattle.worker_gate.specs.declared.view.BatchPlan.{BatchPlan}
use Rattle.worker_gate.specs.declared.view.BatchView.{BatchView}
use Rattle.worker_gate.proofs.Shares.{opens, starts_lawful}
use Rattle.worker_gate.proofs.batches.Batches.new.Goals as goal

abbrev plan : goal.In_ok-table → BatchPlan
plan c = record { count = c.args.count; seats = c.args.seats }

lawful : (c : goal.In_ok-table) → IsLawful c.in_ok-table.inner.me.0
lawful c = subst IsLawful (sym (ap (λ (m : Me ℕ BatchView). m.0) c.in_ok-table.ensures.4)) (starts_lawful (plan c) record { count = c.requires.count; seats = c.requires.seats })

pub of_words-requires : goal.of_words-requires
of_words-requires c = opens record { count = c.args.count; seats = c.args.seats } record { count = c.requires.count; seats = c.requires.seats }

pub invariant_of-result-2 : goal.invariant_of-result-2
invariant_of-result-2 c = let me = c.in_ok-table.ensures.4 in (ap (λ (m : Me ℕ BatchView). m.1) me, ap (λ (m : Me ℕ BatchView). m.0.pending) me, lawful c)

pub returns-clause-law : goal.returns-clause-law
returns-clause-law c = record { lawful = lawful c; quiet = ap (λ (m : Me ℕ BatchView). m.0.pending) c.in_ok-table.ensures.4 }

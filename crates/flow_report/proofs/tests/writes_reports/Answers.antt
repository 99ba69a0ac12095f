use Rattle.std.specs.List.Sorted.{IsStrictlySortedBy}
use Rattle.std.proofs.Common.{refl}
use Rattle.flow_report.proofs.tests.writes_reports.Goals as goal

pub report-requires : goal.report-requires
unfolding IsStrictlySortedBy
report-requires g c = record { rising = tt; engines = tt }

pub report-requires-2 : goal.report-requires-2
unfolding IsStrictlySortedBy
report-requires-2 g c = record { rising = (tt, tt); engines = (tt, tt) }

pub report-requires-3 : goal.report-requires-3
unfolding IsStrictlySortedBy
report-requires-3 g c = record { rising = ((refl, tt), (tt, tt)); engines = (tt, tt) }

pub report-requires-4 : goal.report-requires-4
unfolding IsStrictlySortedBy
report-requires-4 g c = record { rising = ((refl, tt), (tt, tt)); engines = ((refl, (refl, tt)), ((refl, tt), (tt, tt))) }

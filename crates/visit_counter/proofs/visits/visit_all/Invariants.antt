use Rattle.std.proofs.Common.{take}
use Rattle.cache_hash.specs.Prelude.{Stays}
use Rattle.visit_counter.specs.Visits.{HasVisited}
use Rattle.visit_counter.proofs.visits.visit_all.Given as goal

abbrev pub invariant-loop-page : goal.invariant-loop-page
invariant-loop-page l = HasVisited l.shared (take l.page-index l.pages) l.visitor × Stays l.fn.seat l.visitor

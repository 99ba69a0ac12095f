use Rattle.std.proofs.Common.{◌≡◌, [], ◌∷◌, ◌++◌, sym, subst, arith, rules}
use Rattle.std.specs.BTreeMap.{BTreeMap, get}
use Rattle.netflow_five.specs.Engines.{Engine, engine_cmp, engine_of, sent_by}
use Rattle.netflow_five.specs.Tallies.{HasTallied, IsTally}
use Rattle.netflow_five.specs.declared.tally.Tally.{Tally}
use Rattle.netflow_five.proofs.Senders.{sent_by-le-length}
use Rattle.netflow_five.proofs.Tallying.{none_there, tallied_more, tally_there}
use Rattle.netflow_five.proofs.lost_flows.add.Goals as goal

pub add_mark-requires : goal.add_mark-requires
add_mark-requires c =
    let marks = c.requires.few.0 in
    let engine : Engine = engine_of c.args.mark in
    let few = sent_by-le-length engine marks in
    let tally = tally_there (sent_by engine marks) _ c.in-Some.tally.now (c.requires.few.1 engine) c.in-Some.ensures.value in
    record { few = (sent_by engine marks, tally, omega (arith, c.requires.few.2)) }

pub returns-in-Some : goal.returns-in-Some
returns-in-Some c = λ marks h.
    let engine : Engine = engine_of c.args.mark in
    tallied_more marks c.args.tallies.now (c.get_mut.follows.lender c.add_mark.result) c.args.mark c.add_mark.result
    (c.add_mark.ensures (sent_by engine marks) (tally_there (sent_by engine marks) _ c.in-Some.tally.now (h engine) c.in-Some.ensures.value))
    ((c.get_mut.follows.holds c.add_mark.result).3 (search rules)) h

pub returns-in_ok-insert : goal.returns-in_ok-insert
returns-in_ok-insert c = λ marks h.
    let engine : Engine = engine_of c.args.mark in
    let kept : c.get_mut.follows.lender-at-none ≡ c.args.tallies.now = c.get_mut.follows.holds-at-none in
    let none : sent_by engine marks ≡ [] = none_there (sent_by engine marks) _ (h engine) (sym c.in_default.ensures.value) in
    tallied_more marks c.get_mut.follows.lender-at-none c.insert.new.self c.args.mark c.first_tally.result
    (subst (λ ms. IsTally (ms ++ c.args.mark ∷ []) c.first_tally.result) (sym none) c.first_tally.ensures)
    c.in_ok-insert.ensures.updates
    (subst (λ (m : BTreeMap Engine Tally). HasTallied marks (get engine_cmp m)) (sym kept) h)

use Rattle.std.proofs.Common.{◌≡◌, true, All, Some, rules, subst, sym}
use Rattle.std.proofs.lemmas.List.Elements.{All-pop, All-push}
use Rattle.big_atomic.specs.Seats.{IsQuietOf}
use Rattle.cache_hash.specs.declared.tests.threads.Worked.{Worked}
use Rattle.step_rules.specs.SeatData.{IsOf, is_quiet}
use Rattle.cache_hash.proofs.tests.threads.joined.Goals as goal

pub loop-worked-preserved : goal.loop-worked-preserved
loop-worked-preserved g c =
    let both = All-pop (λ (worked : Worked). IsOf c.args.shared.now worked.seat) c.loop-worked.all.items c.pop.new.self.items
    (Some c.in-Some.worked) c.in-Some.ensures.items c.loop-worked.invariant.0 in
    let quiet : is_quiet c.in-Some.worked.seat ≡ true = search rules in (
      both.0,
      subst (All (IsQuietOf c.args.shared.now)) (sym c.in_ok-push.ensures.items)
          (All-push (IsQuietOf c.args.shared.now) c.loop-worked.seats.items c.in-Some.worked.seat c.loop-worked.invariant.1 (record { ours = both.1; quiet = quiet })),
    )

pub join_all-requires-clause-ours : goal.join_all-requires-clause-ours
join_all-requires-clause-ours g c = (All-pop (IsQuietOf c.args.shared.now) c.loop-worked.seats.items c.pop-2.new.self.items
    (Some c.in-Some-pop.seat) c.in-Some-pop.ensures.items c.loop-worked.invariant.1).1

pub join_all-requires-clause-theirs : goal.join_all-requires-clause-theirs
join_all-requires-clause-theirs g c = (All-pop (IsQuietOf c.args.shared.now) c.loop-worked.seats.items c.pop-2.new.self.items
    (Some c.in-Some-pop.seat) c.in-Some-pop.ensures.items c.loop-worked.invariant.1).0

use Rattle.std.proofs.Common.{◌≡◌, true, All, Some, rules, subst, sym}
use Rattle.std.proofs.lemmas.List.Elements.{All-pop, All-push}
use Rattle.big_atomic.specs.Seats.{IsQuietOf}
use Rattle.big_atomic.specs.declared.tests.threads.Counting.{Counting}
use Rattle.step_rules.specs.SeatData.{IsOf, is_quiet}
use Rattle.big_atomic.proofs.tests.threads.joined.Goals as goal

pub loop-counting-preserved : goal.loop-counting-preserved
loop-counting-preserved g c =
    let both = All-pop (λ (counting : Counting). IsOf c.args.shared.now counting.seat) c.loop-counting.all.items c.pop.new.self.items
    (Some c.in-Some.counting) c.in-Some.ensures.items c.loop-counting.invariant.0 in
    let quiet : is_quiet c.in-Some.counting.seat ≡ true = search rules in (
      both.0,
      subst (All (IsQuietOf c.args.shared.now)) (sym c.in_ok-push.ensures.items)
          (All-push (IsQuietOf c.args.shared.now) c.loop-counting.seats.items c.in-Some.counting.seat c.loop-counting.invariant.1 (record { ours = both.1; quiet = quiet })),
    )

pub join_all-requires-clause-ours : goal.join_all-requires-clause-ours
join_all-requires-clause-ours g c = (All-pop (IsQuietOf c.args.shared.now) c.loop-counting.seats.items c.pop-2.new.self.items
    (Some c.in-Some-pop.seat) c.in-Some-pop.ensures.items c.loop-counting.invariant.1).1

pub join_all-requires-clause-theirs : goal.join_all-requires-clause-theirs
join_all-requires-clause-theirs g c = (All-pop (IsQuietOf c.args.shared.now) c.loop-counting.seats.items c.pop-2.new.self.items
    (Some c.in-Some-pop.seat) c.in-Some-pop.ensures.items c.loop-counting.invariant.1).0

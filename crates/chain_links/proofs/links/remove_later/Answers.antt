use Rattle.std.proofs.Common.{◌≡◌, ◌-◌, ℕ, List, suc, arith, subst}
use Rattle.chain_links.proofs.Doing.{only_of}
use Rattle.chain_links.proofs.Finishing.{removes_later}
use Rattle.chain_links.proofs.Following.{follows, gives_up, has_next, has_room, none_announced, noted_held, noted_only, passed_on, unannounced_last}
use Rattle.chain_links.specs.Following.{HasFront}
use Rattle.node_pool.specs.Pool.{IsFilled}
use Rattle.step_rules.specs.Records.{out}
use Rattle.chain_links.proofs.links.remove_later.Goals as goal

pub follow-requires-clause-next : goal.follow-requires-clause-next
follow-requires-clause-next c = has_next c.in-Some.ensures.copied (follows c.in-Some.ensures.copied (omega (arith, c.requires.within, c.requires.later)))

pub follow-requires-clause-room : goal.follow-requires-clause-room
follow-requires-clause-room c = has_room c.in-Some.ensures.copied

pub follow-requires-clause-unannounced : goal.follow-requires-clause-unannounced
follow-requires-clause-unannounced c = none_announced c.in-Some.ensures.copied

pub fill-requires-clause-ours : goal.fill-requires-clause-ours
fill-requires-clause-ours c =
    let p = passed_on c.in-Some.ensures.copied (omega (arith, c.requires.within, c.requires.later)) c.in-Some-follow.ensures.followed c.in-Some-follow.ensures.law in
    only_of (noted_only c.in-Some.ensures.copied p) c.requires.ours

pub fill-requires-clause-held : goal.fill-requires-clause-held
fill-requires-clause-held c =
    let p = passed_on c.in-Some.ensures.copied (omega (arith, c.requires.within, c.requires.later)) c.in-Some-follow.ensures.followed c.in-Some-follow.ensures.law in
    noted_held c.in-Some.ensures.copied p

pub fill-requires-clause-unannounced : goal.fill-requires-clause-unannounced
fill-requires-clause-unannounced c =
    let p = passed_on c.in-Some.ensures.copied (omega (arith, c.requires.within, c.requires.later)) c.in-Some-follow.ensures.followed c.in-Some-follow.ensures.law in
    unannounced_last c.in-Some.ensures.copied c.follow.new.seat (noted_only c.in-Some.ensures.copied p)

pub returns-in-None-follow-clause-removed : goal.returns-in-None-follow-clause-removed
returns-in-None-follow-clause-removed c = gives_up c.in-Some.ensures.copied (omega (arith, c.requires.within, c.requires.later)) c.in-None-follow.ensures.followed

pub returns-in-Some-follow-clause-removed : goal.returns-in-Some-follow-clause-removed
returns-in-Some-follow-clause-removed c =
    let p = passed_on c.in-Some.ensures.copied (omega (arith, c.requires.within, c.requires.later)) c.in-Some-follow.ensures.followed c.in-Some-follow.ensures.law in
    let place : suc (c.args.at - 1) ≡ c.args.at = omega (arith, c.requires.later) in
    let filled = subst (λ (ws : List ℕ). IsFilled c.in-Some.copied.last ws c.follow.new.seat c.fill.new.seat) c.with_next.ensures c.fill.ensures.filled in
    subst (λ (i : ℕ). HasFront c.args.cell c.in-Some.copied.head (out i) c.args.seat.now c.fill.new.seat) place
    (removes_later c.in-Some.ensures.copied p c.fill.ensures.law filled (omega (arith, c.requires.within)) (omega (arith, c.requires.within, c.requires.later)))

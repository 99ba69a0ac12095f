use Rattle.std.proofs.Common.{List, ℕ, subst}
use Rattle.chain_links.proofs.Doing.{only_of}
use Rattle.chain_links.proofs.Finishing.{more_there, removes_first, removes_only}
use Rattle.chain_links.proofs.Following.{follows, gives_up, has_next, none_announced, noted_held, noted_only, passed_on, unannounced_last}
use Rattle.node_pool.specs.Pool.{IsFilled}
use Rattle.chain_links.proofs.links.remove_first.Goals as goal

pub fill-requires-clause-unannounced : goal.fill-requires-clause-unannounced
fill-requires-clause-unannounced c = unannounced_last c.in-Some.ensures.copied c.copy_to.new.seat c.in-Some.ensures.copied.only

pub returns-then-copied-eq0-clause-removed : goal.returns-then-copied-eq0-clause-removed
returns-then-copied-eq0-clause-removed c =
    let filled = subst (λ (ws : List ℕ). IsFilled c.in-Some.copied.last ws c.copy_to.new.seat c.fill.new.seat) c.no_record.ensures c.fill.ensures.filled in
    removes_only c.in-Some.ensures.copied c.requires.within filled c.fill.ensures.law c.if-copied-eq0.true

pub follow-requires-clause-next : goal.follow-requires-clause-next
follow-requires-clause-next c = has_next c.in-Some.ensures.copied (follows c.in-Some.ensures.copied (more_there c.in-Some.ensures.copied c.requires.within c.if-copied-eq0.false))

pub follow-requires-clause-unannounced : goal.follow-requires-clause-unannounced
follow-requires-clause-unannounced c = none_announced c.in-Some.ensures.copied

pub fill-requires-in-Some-follow-clause-ours : goal.fill-requires-in-Some-follow-clause-ours
fill-requires-in-Some-follow-clause-ours c =
    let more = more_there c.in-Some.ensures.copied c.requires.within c.if-copied-eq0.false in
    only_of (noted_only c.in-Some.ensures.copied (passed_on c.in-Some.ensures.copied more c.in-Some-follow.ensures.followed c.in-Some-follow.ensures.law)) c.requires.ours

pub fill-requires-in-Some-follow-clause-held : goal.fill-requires-in-Some-follow-clause-held
fill-requires-in-Some-follow-clause-held c =
    let more = more_there c.in-Some.ensures.copied c.requires.within c.if-copied-eq0.false in
    noted_held c.in-Some.ensures.copied (passed_on c.in-Some.ensures.copied more c.in-Some-follow.ensures.followed c.in-Some-follow.ensures.law)

pub fill-requires-in-Some-follow-clause-unannounced : goal.fill-requires-in-Some-follow-clause-unannounced
fill-requires-in-Some-follow-clause-unannounced c =
    let more = more_there c.in-Some.ensures.copied c.requires.within c.if-copied-eq0.false in
    unannounced_last c.in-Some.ensures.copied c.follow.new.seat
    (noted_only c.in-Some.ensures.copied (passed_on c.in-Some.ensures.copied more c.in-Some-follow.ensures.followed c.in-Some-follow.ensures.law))

pub returns-in-None-follow-clause-removed : goal.returns-in-None-follow-clause-removed
returns-in-None-follow-clause-removed c =
    gives_up c.in-Some.ensures.copied (more_there c.in-Some.ensures.copied c.requires.within c.if-copied-eq0.false) c.in-None-follow.ensures.followed

pub returns-in-Some-follow-clause-removed : goal.returns-in-Some-follow-clause-removed
returns-in-Some-follow-clause-removed c =
    let more = more_there c.in-Some.ensures.copied c.requires.within c.if-copied-eq0.false in
    removes_first c.in-Some.ensures.copied c.requires.within (passed_on c.in-Some.ensures.copied more c.in-Some-follow.ensures.followed c.in-Some-follow.ensures.law)
    c.fill-in-Some-follow.ensures.law c.fill-in-Some-follow.ensures.filled more

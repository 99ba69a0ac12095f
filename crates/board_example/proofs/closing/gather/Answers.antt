use Rattle.std.proofs.Common.{◌∙◌, subst, sym}
use Rattle.std.specs.Vec.Iter.{into_iter_items}
use Rattle.big_atomic.proofs.Gathering.{GatheredSoFar, gather_begins, gather_more, next_holds}
use Rattle.board_example.specs.Rules.{HasDone}
use Rattle.board_example.specs.declared.member.Member.{Member}
use Rattle.board_example.proofs.closing.gather.Goals as goal

pub loop-other-init : goal.loop-other-init
loop-other-init c =
    let P : Member → Type 0 = HasDone c.args.shared.now in
    subst (λ it. GatheredSoFar (λ (one : Member). one.seat) P c.in-Some.first (into_iter_items it) c.args.members.items) (sym c.into_iter-other-iterator.ensures.into_iter_gives)
    (gather_begins (λ (one : Member). one.seat) P c.in-Some.first (into_iter_items c.next.new.self) c.args.members.items (sym c.into_iter-members.ensures.rest ∙ c.in-Some.ensures.items)
    c.requires.done c.requires.led)

pub take_in-requires-clause-theirs : goal.take_in-requires-clause-theirs
take_in-requires-clause-theirs c = next_holds c.loop-other.invariant c.in-Some-other.other (into_iter_items c.next-in-loop-other.new.self) c.in-Some-other.ensures.steps.0

pub loop-other-preserved : goal.loop-other-preserved
loop-other-preserved c =
    gather_more c.loop-other.invariant c.in-Some-other.other (into_iter_items c.next-in-loop-other.new.self) c.in-Some-other.ensures.steps.0 c.take_in.new.first
    c.take_in.ensures.done c.take_in.ensures.first c.take_in.ensures.numbers

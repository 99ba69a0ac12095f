use Rattle.std.proofs.Common.{ap, arith, List, ℕ, slice_index}
use Rattle.tally_core.proofs.Coming.{can_call, come_on, few_told}
use Rattle.tally_core.proofs.calling.call_line.Goals as goal

pub overflow_cast-turn : goal.overflow_cast-turn
overflow_cast-turn g c = let few = few_told c.requires.come.3 in omega (arith, few, c.requires.come.4, c.len-turn.ensures)

pub make_call-reply-requires : goal.make_call-reply-requires
make_call-reply-requires g c =
    let come = c.requires.come.3 in
    let who = ap (λ (l : List ℕ). slice_index l 0) come.numbers in
    record { can = can_call come (omega (arith, c.if-line-number.false, c.number-number.ensures, who)) }

pub returns-clause-come : goal.returns-clause-come
returns-clause-come g c lines x rest come =
    let who = ap (λ (l : List ℕ). slice_index l 0) come.numbers in
    come_on come (omega (arith, c.if-line-number.false, c.number-number.ensures, who)) _ c.make_call-reply.ensures.made c.push_reserved.ensures.items c.push_reserved.ensures.capacity
